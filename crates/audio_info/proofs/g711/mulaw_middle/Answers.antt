use Rattle.std.proofs.Common.{◌≡◌, ◌+◌, ◌*◌, ◌%◌, ◌^◌, arith, ap, ◌∙◌}
use Rattle.std.proofs.lemmas.Nat.{shl_whole}
use Rattle.audio_info.proofs.Intervals.{mulaw_middle_is}
use Rattle.audio_info.proofs.g711.mulaw_middle.Goals as goal

pub returns : goal.returns
returns c =
    let is = mulaw_middle_is c.args.segment c.args.place c.requires.segment c.requires.place in
    let narrow : c.args.place * 8 % 65536 + 132 ≡ c.args.place * 8 + 132 = omega arith in
    let whole : (c.args.place * 8 % 65536 + 132) * 2 ^ c.args.segment % 65536 ≡ (c.args.place * 8 + 132) * 2 ^ c.args.segment =
    ap (λ k. k * 2 ^ c.args.segment % 65536) narrow ∙ shl_whole (c.args.place * 8 + 132) 8 c.args.segment 16 (omega arith) (omega arith) in
    record { middle = whole ∙ is.0; biased = rw whole (omega arith); fits = rw whole (omega arith) }
