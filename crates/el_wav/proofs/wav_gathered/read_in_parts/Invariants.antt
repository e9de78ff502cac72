use Rattle.std.proofs.Common.{◌≡◌, ◌≤◌, ◌++◌, ℕ, List, length, take, ◌-◌}
use Rattle.wav_format.specs.Answers.{AnswerIn}
use Rattle.wav_format.specs.Cuts.{CutIn}
use Rattle.wav_format.specs.Format.{AreBytes}
use Rattle.wav_format.specs.Gathered.{WasGiven}
use Rattle.wav_format.specs.declared.head.HeadAnswer.TheVariants.{Whole}
use Rattle.wav_format.specs.declared.head.Head.{Head}
use Rattle.el_wav.proofs.wav_gathered.read_in_parts.Given as goal

abbrev pub invariant-parts : goal.invariant-parts
invariant-parts l = record {
  within : l.at ≤ length l.more;
  given : (given : List ℕ) → WasGiven l.fn.reader given → WasGiven l.reader (given ++ take l.at l.more);
  answer : (given : List ℕ) → WasGiven l.fn.reader given → AnswerIn (given ++ take l.at l.more) l.answer;
  head : (head : Head) → l.answer ≡ Whole head → (given : List ℕ) → WasGiven l.fn.reader given → AreBytes given → CutIn given → length (given ++ take l.at l.more) ≤ head.start;
}

abbrev pub decreases-parts : goal.decreases-parts
decreases-parts l = length l.more - l.at
