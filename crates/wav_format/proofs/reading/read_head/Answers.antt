use Rattle.std.proofs.Common.{refl, inl, subst, arith}
use Rattle.wav_format.specs.declared.head.HeadAnswer.TheVariants.{Whole, NeedMore, Bad}
use Rattle.wav_format.specs.Answers.{AnswerIn}
use Rattle.wav_format.specs.Format.{AreBytes}
use Rattle.wav_format.specs.Told.{answer_told}
use Rattle.wav_format.proofs.Decides.{cut_least}
use Rattle.wav_format.proofs.Fronts.{cut_fronts}
use Rattle.wav_format.proofs.Openings.{one_answer}
use Rattle.wav_format.proofs.Stays.{fault_stays, front_goes}
use Rattle.wav_format.proofs.Tells.{told_says}
use Rattle.wav_format.proofs.reading.read_head.Goals as goal

pub returns : goal.returns
returns c =
    let bytes = c.args.bytes.now in
    let fine : AreBytes bytes = λ i. let f = c.type_inv.bytes i in omega arith in
    let answered : AnswerIn bytes c.read_on.result.0 = c.read_on.ensures.answer bytes (inl refl) refl in
    let one = one_answer bytes fine c.read_on.result.0 in
    record {
      whole = λ h. (λ e. subst (AnswerIn bytes) e answered, λ begins. one (Whole h) answered begins);
      bad = λ place kind. (λ e. subst (AnswerIn bytes) e answered, λ fault. one (Bad place kind) answered fault);
      need_more = λ n. (λ e. subst (AnswerIn bytes) e answered, λ cut. one (NeedMore n) answered cut);
      answer_told = one (answer_told bytes) answered (told_says bytes fine);
      least = λ n e. cut_least bytes n fine (subst (AnswerIn bytes) e answered);
      goes_on = λ n e. cut_fronts bytes n fine (subst (AnswerIn bytes) e answered);
      front = λ more head some all. front_goes bytes more c.read_on.result.0 head fine answered some all;
      never = λ place kind e more head rest fresh. fault_stays bytes more head rest place kind fine fresh (subst (AnswerIn bytes) e answered);
    }
