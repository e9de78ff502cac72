use Rattle.el_settings.proofs.Faults.{no_bad_caps, not_too_many}
use Rattle.el_settings.proofs.domain.is_caps.Goals as goal
use Rattle.el_settings.proofs.domain.is_caps.Goals.{in-Ok, in-Err-BadCaps, in-Err-TooMany, in-Err-OutOfMemory}

pub returns : goal.returns
returns c =
    elim c.match-parse.branch [
      | in-Ok w ↦ rw w.result-is (_, rw w.in-Ok.is at c.parse.ensures.found)
      | in-Err-BadCaps w ↦
          rw w.result-is
          (λ d. no_bad_caps c.parse.result _ _ w.in-Err-BadCaps.is w.in-Err-BadCaps.field-0-is d.0 (c.parse.ensures.only d.0 d.1))
      | in-Err-TooMany w ↦
          rw w.result-is
          (λ d. not_too_many c.parse.result _ _ w.in-Err-TooMany.is w.in-Err-TooMany.field-0-is d.0 (c.parse.ensures.only d.0 d.1))
      | in-Err-OutOfMemory w ↦ rw w.result-is tt
    ]
