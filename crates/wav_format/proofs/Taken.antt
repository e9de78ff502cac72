-- What a reader was given, with more bytes.
use Rattle.std.proofs.Common.{◌≡◌, ℕ, ◌+◌, ◌-◌, Result, Ok, Err, IfOk, OnOk, List, ◌++◌, length, drop, arith}
use Rattle.std.proofs.lemmas.List.{length-append}
use Rattle.wav_format.specs.declared.head.HeadAnswer.{HeadAnswer}
use Rattle.wav_format.specs.declared.reader.HeadReader.{HeadReader}
use Rattle.wav_format.specs.Answers.{AnswerIn}
use Rattle.wav_format.specs.Format.{AreBytes}
use Rattle.wav_format.specs.Gathered.{WasGiven}
use Rattle.wav_format.specs.Reader.{StandsIn}
use Rattle.wav_format.proofs.Bodies.{bytes-append}
use Rattle.wav_format.proofs.Readers.{left_given, stands_on}

module _ (old : HeadReader) (more left : List ℕ) (fresh : AreBytes more) (all : left ≡ old.bytes.items ++ drop (old.standing.place - old.count) more) where
  fine_on : (given : List ℕ) → WasGiven old given → AreBytes (given ++ more)
  fine_on given was = bytes-append given more was.fine fresh

  stood_on : (given : List ℕ) → WasGiven old given → StandsIn old.standing (given ++ more)
  stood_on given was = stands_on old.standing given more (fine_on given was) was.stands

  left_on : (given : List ℕ) → WasGiven old given → left ≡ drop old.standing.place (given ++ more)
  left_on given was = left_given old.standing.place old.count old.bytes.items given more left was.total was.left all

  pub answer_on : {E : Type 0} (result : Result HeadAnswer E) → IfOk result (λ answer. (given : List ℕ) → StandsIn old.standing given → left ≡ drop old.standing.place given → AnswerIn given answer)
      → IfOk result (λ answer. (given : List ℕ) → WasGiven old given → AnswerIn (given ++ more) answer)
  answer_on (Ok answer) says = λ given was. says (given ++ more) (stood_on given was) (left_on given was)
  answer_on (Err fault) says = tt

  pub given_on : {E : Type 0} (result : Result HeadAnswer E) (new : HeadReader) (count : ℕ) → count ≡ old.count + length more
      → OnOk result ((given : List ℕ) → AreBytes given → count ≡ length given → StandsIn old.standing given → left ≡ drop old.standing.place given → WasGiven new given)
      → OnOk result ((given : List ℕ) → WasGiven old given → WasGiven new (given ++ more))
  given_on (Ok answer) new count sum says = λ given was.
      let total = was.total in
      says (given ++ more) (fine_on given was) (omega (arith, sum, total, length-append given more)) (stood_on given was) (left_on given was)
  given_on (Err fault) new count sum says = tt
