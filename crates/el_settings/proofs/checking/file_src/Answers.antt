use Rattle.std.proofs.Common.{refl, codes, lit<, lit≤}
use Rattle.el_settings.specs.declared.kind.Kind.TheVariants.{FileSrc}
use Rattle.el_settings.proofs.Given.{number_is, number_within}
use Rattle.el_settings.proofs.checking.file_src.Goals as goal

pub returns : goal.returns
returns c = (
  c.in_ok-location.ensures.given,
  number_is FileSrc (codes "blocksize") 1 1048576 4294967296 4096 c.args.props.now _ refl (lit< tt) c.requires c.short_number_or.ensures,
)

pub invariant_of-result : goal.invariant_of-result
invariant_of-result c =
    let given = number_is FileSrc (codes "blocksize") 1 1048576 4294967296 4096 c.args.props.now c.short_number_or.result refl (lit< tt) c.requires c.short_number_or.ensures in
    let within = number_within FileSrc (codes "blocksize") 1 1048576 4096 c.args.props.now c.short_number_or.result refl (lit≤ tt) (lit≤ tt) c.requires given in
    record { some = within.0; small = within.1 }
