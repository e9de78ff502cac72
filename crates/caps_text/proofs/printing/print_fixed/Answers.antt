-- One field more.
use Rattle.std.specs.String.{string_bytes}
use Rattle.caps_text.specs.Printed.{typed_text}
use Rattle.caps_text.proofs.Fields.{texts_step}
use Rattle.caps_text.proofs.printing.print_fixed.Goals as goal

pub loop-place-preserved : goal.loop-place-preserved
loop-place-preserved c = texts_step typed_text c.args.caps.now.fields c.loop-place.place (string_bytes c.loop-place.into) _ _ c.loop-place.invariant c.in_ok-put_fixed_field.ensures
