use Rattle.std.proofs.Common.{arith}
use Rattle.wav_format.proofs.Words.{fronts_from, same_take}
use Rattle.wav_format.proofs.reading.first_difference.Goals as goal

pub returns-then-bytes-i : goal.returns-then-bytes-i
returns-then-bytes-i c = record {
  within_word = omega arith;
  within = c.if-i-bytes.true;
  before = same_take c.args.bytes.now c.args.word.now c.loop-i.i (omega arith) (omega arith) (λ k lt. c.loop-i.invariant k lt (omega arith));
  here = c.if-bytes-i.true;
}

pub returns : goal.returns
returns c = fronts_from c.args.word.now c.args.bytes.now (λ k in_word in_bytes. c.loop-i.invariant k (omega arith) in_bytes)
