use Rattle.std.proofs.Common.{◌≡◌, ◌/◌, arith, ap, ◌∙◌}
use Rattle.audio_info.proofs.Lines.{least_line, mulaw_lower, mulaw_upper}
use Rattle.audio_info.proofs.g711.mulaw_interval.Goals as goal
use Rattle.audio_info.proofs.g711.mulaw_interval.Goals.{then-magnitude-lt-MULAW_UPPER, else-magnitude-lt-MULAW_UPPER}

pub returns : goal.returns
returns c = elim c.if-magnitude-lt-MULAW_UPPER.branch [
  | then-magnitude-lt-MULAW_UPPER w ↦ (let least : c.least_line.result ≡ least_line (c.args.magnitude / 8) = c.least_line.ensures ∙ ap (λ s. least_line s.0) w.steps-is in
      let first : c.if-magnitude-lt-MULAW_UPPER.steps.1 ≡ 0 = ap (λ s. s.1) w.steps-is in
      let is = mulaw_lower c.args.magnitude c.requires.low (omega arith) in
      omega (arith, least, first, is))
  | else-magnitude-lt-MULAW_UPPER w ↦ (let least : c.least_line.result ≡ least_line (c.args.magnitude / 128) = c.least_line.ensures ∙ ap (λ s. least_line s.0) w.steps-is in
      let first : c.if-magnitude-lt-MULAW_UPPER.steps.1 ≡ 64 = ap (λ s. s.1) w.steps-is in
      let is = mulaw_upper c.args.magnitude (omega arith) (omega arith) in
      omega (arith, least, first, is))
]
