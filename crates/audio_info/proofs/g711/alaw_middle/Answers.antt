use Rattle.std.proofs.Common.{◌≡◌, ◌+◌, ◌-◌, ◌*◌, ◌%◌, ◌^◌, arith, ap, ◌∙◌}
use Rattle.std.proofs.lemmas.Nat.{shl_whole}
use Rattle.audio_info.proofs.Intervals.{alaw_middle_first, alaw_middle_is}
use Rattle.audio_info.proofs.g711.alaw_middle.Goals as goal

pub returns-then-segment-eq0-clause-middle : goal.returns-then-segment-eq0-clause-middle
returns-then-segment-eq0-clause-middle c =
    let narrow : c.args.place * 16 % 65536 + 8 ≡ c.args.place * 16 + 8 = omega arith in
    rw c.if-segment-eq0.true (narrow ∙ alaw_middle_first c.args.place c.requires.place)

pub returns-else-segment-eq0 : goal.returns-else-segment-eq0
returns-else-segment-eq0 c =
    let is = alaw_middle_is c.args.segment c.args.place c.requires.segment c.requires.place (omega arith) in
    let narrow : c.args.place * 16 % 65536 + 264 ≡ c.args.place * 16 + 264 = omega arith in
    let whole : (c.args.place * 16 % 65536 + 264) * 2 ^ (c.args.segment - 1) % 65536 ≡ (c.args.place * 16 + 264) * 2 ^ (c.args.segment - 1) =
    ap (λ k. k * 2 ^ (c.args.segment - 1) % 65536) narrow ∙ shl_whole (c.args.place * 16 + 264) 9 (c.args.segment - 1) 16 (omega arith) (omega arith) in
    record { middle = whole ∙ is.0; fits = rw whole (omega arith) }
