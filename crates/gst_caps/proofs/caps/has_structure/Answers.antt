use Rattle.std.proofs.Common.{refl}
use Rattle.gst_caps.proofs.Meeting.{first_taken}
use Rattle.gst_caps.proofs.caps.has_structure.Goals as goal

pub returns-in-Some : goal.returns-in-Some
returns-in-Some c =
    (λ _. first_taken c.args.structures.now c.in-Some.structure.now c.in-Some.ensures.value c.fields.ensures.well_formed, λ _. refl)
