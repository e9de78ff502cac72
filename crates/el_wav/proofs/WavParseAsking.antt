-- Giving a reader of a head the bytes that it asks for.
use Rattle.std.proofs.Common.{◌≡◌, ◌≤◌, ◌+◌, ◌-◌, ℕ, inl, inr, List, [], ◌++◌, length, take, drop, sym, ap, subst, ◌∙◌, arith, append_assoc}
use Rattle.std.proofs.lemmas.List.{append-nil, drop-take, length-append, length-drop, length-take-le, take_all, take-append-drop, take-take}
use Rattle.wav_format.specs.declared.head.Head.{Head}
use Rattle.wav_format.specs.declared.head.HeadAnswer.{HeadAnswer}
use Rattle.wav_format.specs.declared.head.HeadAnswer.TheVariants.{Whole, NeedMore, Bad}
use Rattle.wav_format.specs.Answers.{AnswerIn}
use Rattle.wav_format.specs.Chunks.{BeginsWithHead}
use Rattle.wav_format.specs.Cuts.{CutIn}
use Rattle.wav_format.specs.Format.{AreBytes}
use Rattle.el_wav.specs.WavParseGiven.{IsDone, MayFollow}
use Rattle.el_wav.proofs.WavParseAhead.{head_ahead}
use Rattle.el_wav.proofs.WavParseDeciding.{decides_in_head_of}
use Rattle.el_wav.proofs.WavParseFaulty.{fault_begins_none}
use Rattle.el_wav.proofs.WavParseGathering.{bytes_taken}
use Rattle.el_wav.proofs.WavParseReading.{cut_in}
use Rattle.wav_format.proofs.Bodies.{bytes-append as bytes_joined}

-- a part that was asked for lies within the head
pub part_in_head : (bytes part : List ℕ) (answer : HeadAnswer) (h : Head) → AreBytes (bytes ++ part) → AnswerIn bytes answer → MayFollow answer (length bytes) (length part) → BeginsWithHead (bytes ++ part) h → length (bytes ++ part) ≤ h.start
part_in_head bytes part (Whole head) h fine said follows begins = absurd follows
part_in_head bytes part (NeedMore n) h fine said follows begins =
    let ahead = head_ahead bytes part h (cut_in bytes n said) begins in
    let near = decides_in_head_of bytes part n h said begins in
    let all = length-append bytes part in
    elim follows [ inl one ↦ omega (arith, ahead, one, all) | inr some ↦ omega (arith, ahead, near, some, all) ]
part_in_head bytes part (Bad place kind) h fine said follows begins = absurd (fault_begins_none bytes part place kind h fine said begins)

-- bytes that were cut, where none follow
pub none_in_head : (bytes : List ℕ) (answer : HeadAnswer) (h : Head) → CutIn bytes → AnswerIn (bytes ++ []) answer → answer ≡ Whole h → length (bytes ++ []) ≤ h.start
none_in_head bytes answer h cut said whole =
    let ahead = head_ahead bytes [] h cut (subst (AnswerIn (bytes ++ [])) whole said) in
    omega (arith, ahead, ap length (append-nil bytes))

-- ---- one part behind the other

pub parts_joined : (at part : ℕ) (before more given : List ℕ) → at + part ≤ length more → given ≡ take part (drop at more) → (before ++ take at more) ++ given ≡ before ++ take (at + part) more
parts_joined at part before more given within f =
    let front : take at (take (at + part) more) ≡ take at more = take-take at (at + part) more (omega arith) in
    let back : drop at (take (at + part) more) ≡ take part (drop at more) = drop-take at part more in
    let joined : take at more ++ take part (drop at more) ≡ take (at + part) more = sym (ap (λ xs. xs ++ take part (drop at more)) front) ∙ sym (ap (λ xs. take at (take (at + part) more) ++ xs) back) ∙ take-append-drop at (take (at + part) more) in
    ap (λ xs. (before ++ take at more) ++ xs) f ∙ append_assoc before (take at more) (take part (drop at more)) ∙ ap (λ xs. before ++ xs) joined

pub part_kept : (before more given : List ℕ) (count at part : ℕ) (answer answer' : HeadAnswer) (h : Head) → AreBytes before → AreBytes more → at + part ≤ length more → given ≡ take part (drop at more)
    → count ≡ length (before ++ take at more) → MayFollow answer count part → AnswerIn (before ++ take at more) answer → AnswerIn ((before ++ take at more) ++ given) answer' → answer' ≡ Whole h → length (before ++ take (at + part) more) ≤ h.start
part_kept before more given count at part answer answer' h fine fine' within f c follows said said' whole =
    let now = before ++ take at more in
    let joined : now ++ given ≡ before ++ take (at + part) more = parts_joined at part before more given within f in
    let all : AreBytes (now ++ given) = subst AreBytes (sym joined) (bytes_joined before (take (at + part) more) fine (bytes_taken (at + part) more fine')) in
    let long : length given ≡ part = ap length f ∙ length-take-le part (drop at more) (omega (arith, within, length-drop at more)) in
    let follows' = subst (λ n. MayFollow answer (length now) n) (sym long) (subst (λ n. MayFollow answer n part) c follows) in
    let in_head = part_in_head now given answer h all said follows' (subst (AnswerIn (now ++ given)) whole said') in
    omega (arith, in_head, ap length joined)

-- ---- where no more are given

pub all_answered : (before more : List ℕ) (at : ℕ) (answer : HeadAnswer) → ((bytes more : List ℕ) (head : Head) → BeginsWithHead bytes head → BeginsWithHead (bytes ++ more) head)
    → at ≤ length more → IsDone answer (length more - at) → AnswerIn (before ++ take at more) answer → AnswerIn (before ++ more) answer
all_answered before more at answer stays within (inl none) said = subst (λ (xs : List ℕ). AnswerIn (before ++ xs) answer) (take_all at more (omega (arith, none))) said
all_answered before more at answer stays within (inr (head, is)) said =
    let all = append_assoc before (take at more) (drop at more) ∙ ap (λ xs. before ++ xs) (take-append-drop at more) in
    let begins = stays (before ++ take at more) (drop at more) head (subst (AnswerIn (before ++ take at more)) is said) in
    subst (AnswerIn (before ++ more)) (sym is) (subst (λ (xs : List ℕ). BeginsWithHead xs head) all begins)

pub all_given : (before more : List ℕ) (at n : ℕ) (answer : HeadAnswer) → at ≤ length more → IsDone answer (length more - at) → answer ≡ NeedMore n → before ++ take at more ≡ before ++ more
all_given before more at n answer within (inl none) e = ap (λ xs. before ++ xs) (take_all at more (omega (arith, none)))
all_given before more at n answer within (inr (head, whole)) e = let clash = sym e ∙ whole in absurd cc
