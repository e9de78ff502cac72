use Rattle.std.proofs.Common.{refl, codes, lit<}
use Rattle.el_settings.specs.declared.kind.Kind.TheVariants.{Queue}
use Rattle.el_settings.proofs.Given.{number_is}
use Rattle.el_settings.proofs.checking.queue.Goals as goal

pub returns : goal.returns
returns c =
    let props = c.args.props.now in (
      number_is Queue (codes "max-size-buffers") 0 4294967295 4294967296 200 props _ refl (lit< tt) c.requires c.short_number_or.ensures,
      number_is Queue (codes "max-size-bytes") 0 4294967295 4294967296 10485760 props _ refl (lit< tt) c.requires c.short_number_or-2.ensures,
      number_is Queue (codes "max-size-time") 0 9223372036854775807 18446744073709551616 1000000000 props _ refl (lit< tt) c.requires c.number_or.ensures,
    )
