use Rattle.el_settings.proofs.Faults.{no_bad_caps, not_too_many}
use Rattle.el_settings.proofs.values.caps_or_any.Goals as goal

pub unreachable-requires : goal.unreachable-requires
unreachable-requires c =
    let d = rw c.in-Some.is at c.requires in
    no_bad_caps c.parse.result _ _ c.in-Err-BadCaps.is c.in-Err-BadCaps.field-0-is d.0 (c.parse.ensures.only d.0 d.1)

pub unreachable-requires-in-Err-TooMany : goal.unreachable-requires-in-Err-TooMany
unreachable-requires-in-Err-TooMany c =
    let d = rw c.in-Some.is at c.requires in
    not_too_many c.parse.result _ _ c.in-Err-TooMany.is c.in-Err-TooMany.field-0-is d.0 (c.parse.ensures.only d.0 d.1)
