use Rattle.std.proofs.Common.{refl, codes}
use Rattle.el_settings.specs.declared.kind.Kind.TheVariants.{CapsFilter}
use Rattle.el_settings.proofs.Given.{caps_taken}
use Rattle.el_settings.proofs.checking.caps_filter.Goals as goal

pub caps_or_any-requires : goal.caps_or_any-requires
caps_or_any-requires c = caps_taken (λ text. text.now) CapsFilter (codes "caps") c.args.props.now refl c.requires c.last_value.result c.last_value.ensures
