-- The bytes give one answer alone.
use Rattle.std.proofs.Common.{◌≡◌, ℕ, zero, suc, ◌≤◌, inl, inr, true, Option, Some, List, length, take, drop, get_or, codes, refl, sym, ap, subst, ◌∙◌, arith}
use Rattle.std.proofs.lemmas.List.{take_all}
use Rattle.std.proofs.lemmas.Slice.Eq.{bytes_eq-Decides}
use Rattle.wav_format.specs.declared.format.SampleFormat.{SampleFormat}
use Rattle.wav_format.specs.declared.head.Head.{Head}
use Rattle.wav_format.specs.declared.head.HeadAnswer.{HeadAnswer}
use Rattle.wav_format.specs.declared.head.HeadAnswer.TheVariants.{Whole, NeedMore, Bad}
use Rattle.wav_format.specs.declared.head.WavKind.{WavKind}
use Rattle.wav_format.specs.declared.head.WavKind.TheVariants.{NotRiff, NotWave, NoFmt, BadFmt, TagUnknown, HeadTooLong}
use Rattle.wav_format.specs.Answers.{AnswerAt}
use Rattle.wav_format.specs.Chunks.{EndsHead, IsPassed, Leads, Reaches, Spot, begins, spot_behind, body_at, body_size, chunk_length, first_chunk, longest_head}
use Rattle.wav_format.specs.Cuts.{ChunkCut}
use Rattle.wav_format.specs.Faults.{ChunkFault, MayBeFormat, MayFit}
use Rattle.wav_format.specs.Format.{AreBytes, Completes}
use Rattle.wav_format.proofs.Bodies.{bytes-drop, bytes-take}
use Rattle.wav_format.proofs.Whole.{body_whole}

pub may_fit : (given : List ℕ) (size : ℕ) → MayBeFormat given size → MayFit given size
may_fit given size (body, all, f) = (body, all, f.numbers)

-- a body that is there whole completes itself
pub itself : (left : List ℕ) → AreBytes left → chunk_length left ≤ length left → Completes (body_at left) (body_size left) (body_at left)
itself left bytes whole = record {
  long = body_whole left whole;
  front = take_all (length (body_at left)) (body_at left) (omega arith);
  bytes = bytes-take (body_size left) (drop 8 left) (bytes-drop 8 left bytes);
}

pub not_both : (bytes : List ℕ) → begins (codes "data") bytes ≡ true → begins (codes "fmt ") bytes ≡ true → ⊥
not_both bytes p q =
    let d = (bytes_eq-Decides (take 4 bytes) (codes "data")).0 p in
    let f = (bytes_eq-Decides (take 4 bytes) (codes "fmt ")).0 q in
    let e : get_or (codes "data") 0 0 ≡ get_or (codes "fmt ") 0 0 = ap (λ xs. get_or xs 0 0) (sym d ∙ f) in
    omega (arith, e)

-- ---- a spot that is answered is not passed

pub stops : (s : Spot) (a : HeadAnswer) → AreBytes s.left → AnswerAt s a → IsPassed longest_head s → ⊥
stops s (Whole h) bytes answer p = let n = answer.named in let o = p.other in cc
stops s (NeedMore n) bytes answer p =
    elim answer.0 [
      | inl cut ↦ let short = cut.short in let headed = p.headed in omega arith
      | inr cut ↦ let short = cut.short in let whole = p.whole in omega arith
    ]
stops s (Bad place NotRiff) bytes answer p = answer
stops s (Bad place NotWave) bytes answer p = answer
stops s (Bad place NoFmt) bytes answer p = let n = answer.0 in let o = p.other in cc
stops s (Bad place BadFmt) bytes answer p = answer.1 (body_at s.left, itself s.left bytes p.whole, (p.format answer.0.named).numbers)
stops s (Bad place TagUnknown) bytes answer p = answer.2 (body_at s.left, itself s.left bytes p.whole, p.format answer.0.named)
stops s (Bad place HeadTooLong) bytes answer p =
    let room = p.room in
    elim answer.1 [ inl far ↦ let f = far.0 in omega (arith, f, room) | inr far ↦ let f = far.1 in omega (arith, f, room) ]

-- ---- one answer at a spot

same_head : (tag tag' channels channels' rate rate' bits bits' start start' : ℕ) (size size' : Option ℕ) → tag ≡ tag' → channels ≡ channels' → rate ≡ rate' → bits ≡ bits' → start ≡ start' → size ≡ size'
    → ◌≡◌ {A = Head} (record { tag = tag; channels = channels; rate = rate; bits = bits; start = start; size = size }) (record { tag = tag'; channels = channels'; rate = rate'; bits = bits'; start = start'; size = size' })
same_head tag tag' channels channels' rate rate' bits bits' start start' size size' a b c d e f = cc

same_some : (f g : SampleFormat) → ◌≡◌ {A = Option SampleFormat} (Some f) (Some g) → f ≡ g
same_some f g e = cc

one_head : (s : Spot) (h g : Head) (rest rest' : List ℕ) → EndsHead h rest s → EndsHead g rest' s → h ≡ g
one_head s h g rest rest' p q =
    let f = same_some _ _ (sym p.format ∙ q.format) in
    same_head h.tag g.tag h.channels g.channels h.rate g.rate h.bits g.bits h.start g.start h.size g.size
    (ap (λ (x : SampleFormat). x.tag) f) (ap (λ (x : SampleFormat). x.channels) f) (ap (λ (x : SampleFormat). x.rate) f) (ap (λ (x : SampleFormat). x.bits) f)
    (p.start ∙ sym q.start) (p.size ∙ sym q.size)

whole_not_cut : (s : Spot) (h : Head) (rest : List ℕ) → EndsHead h rest s → ChunkCut s → ⊥
whole_not_cut s h rest p (inl cut) = let short = cut.short in let headed = p.headed in omega arith
whole_not_cut s h rest p (inr cut) = let named = p.named in let other = cut.headed.other in cc

whole_not_fault : (s : Spot) (h : Head) (rest : List ℕ) (place : ℕ) (kind : WavKind) → EndsHead h rest s → ChunkFault s place kind → ⊥
whole_not_fault s h rest place NotRiff p fault = fault
whole_not_fault s h rest place NotWave p fault = fault
whole_not_fault s h rest place NoFmt p fault = let none = fault.1 in let some = p.format in cc
whole_not_fault s h rest place BadFmt p fault = not_both s.left p.named fault.0.named
whole_not_fault s h rest place TagUnknown p fault = not_both s.left p.named fault.0.named
whole_not_fault s h rest place HeadTooLong p fault = let named = p.named in let other = fault.0.other in cc

cut_not_fault : (s : Spot) (place : ℕ) (kind : WavKind) → ChunkCut s → ChunkFault s place kind → ⊥
cut_not_fault s place NotRiff cut fault = fault
cut_not_fault s place NotWave cut fault = fault
cut_not_fault s place NoFmt (inl cut) fault = cut.format fault.0 fault.1
cut_not_fault s place NoFmt (inr cut) fault = let named = fault.0 in let other = cut.headed.other in cc
cut_not_fault s place BadFmt (inl cut) fault = let short = cut.short in let headed = fault.0.headed in omega arith
cut_not_fault s place BadFmt (inr cut) fault = fault.1 (may_fit (body_at s.left) (body_size s.left) (cut.room.format fault.0.named))
cut_not_fault s place TagUnknown (inl cut) fault = let short = cut.short in let headed = fault.0.headed in omega arith
cut_not_fault s place TagUnknown (inr cut) fault = fault.2 (cut.room.format fault.0.named)
cut_not_fault s place HeadTooLong (inl cut) fault = let short = cut.short in let headed = fault.0.headed in omega arith
cut_not_fault s place HeadTooLong (inr cut) fault =
    let room = cut.room.room in
    elim fault.1 [ inl far ↦ let f = far.0 in omega (arith, f, room) | inr far ↦ let f = far.1 in omega (arith, f, room) ]

same_bad : (place place' : ℕ) (kind kind' : WavKind) → place ≡ place' → kind ≡ kind' → ◌≡◌ {A = HeadAnswer} (Bad place kind) (Bad place' kind')
same_bad place place' kind kind' p k = cc

one_far : (s : Spot) (place place' : ℕ) → ChunkFault s place HeadTooLong → ChunkFault s place' HeadTooLong → place ≡ place'
one_far s place place' (headed, inl far) (headed', inl far') = far.1 ∙ sym far'.1
one_far s place place' (headed, inl far) (headed', inr near) = let f = far.0 in let n = near.0 in absurd (omega (arith, f, n))
one_far s place place' (headed, inr near) (headed', inl far) = let f = far.0 in let n = near.0 in absurd (omega (arith, f, n))
one_far s place place' (headed, inr near) (headed', inr near') = near.3 ∙ sym near'.3

bad_not_far : (s : Spot) (place place' : ℕ) → ChunkFault s place BadFmt → ChunkFault s place' HeadTooLong → ⊥
bad_not_far s place place' bad (headed, inl far) = let f = far.0 in let ends = bad.0.ends in omega (arith, f, ends)
bad_not_far s place place' bad (headed, inr near) = bad.1 (may_fit (body_at s.left) (body_size s.left) (near.2 bad.0.named))

unknown_not_far : (s : Spot) (place place' : ℕ) → ChunkFault s place TagUnknown → ChunkFault s place' HeadTooLong → ⊥
unknown_not_far s place place' bad (headed, inl far) = let f = far.0 in let ends = bad.0.ends in omega (arith, f, ends)
unknown_not_far s place place' bad (headed, inr near) = bad.2 (near.2 bad.0.named)

none_not_far : (s : Spot) (place place' : ℕ) → ChunkFault s place NoFmt → ChunkFault s place' HeadTooLong → ⊥
none_not_far s place place' none far = let named = none.0 in let other = far.0.other in cc

one_fault : (s : Spot) (place place' : ℕ) (kind kind' : WavKind) → ChunkFault s place kind → ChunkFault s place' kind' → ◌≡◌ {A = HeadAnswer} (Bad place kind) (Bad place' kind')
one_fault s place place' NotRiff kind' p q = absurd p
one_fault s place place' NotWave kind' p q = absurd p
one_fault s place place' kind NotRiff p q = absurd q
one_fault s place place' kind NotWave p q = absurd q
one_fault s place place' NoFmt NoFmt p q = same_bad place place' NoFmt NoFmt (p.2 ∙ sym q.2) refl
one_fault s place place' NoFmt BadFmt p q = absurd (not_both s.left p.0 q.0.named)
one_fault s place place' NoFmt TagUnknown p q = absurd (not_both s.left p.0 q.0.named)
one_fault s place place' NoFmt HeadTooLong p q = absurd (none_not_far s place place' p q)
one_fault s place place' BadFmt NoFmt p q = absurd (not_both s.left q.0 p.0.named)
one_fault s place place' BadFmt BadFmt p q = same_bad place place' BadFmt BadFmt (p.2 ∙ sym q.2) refl
one_fault s place place' BadFmt TagUnknown p q = absurd (p.1 q.1)
one_fault s place place' BadFmt HeadTooLong p q = absurd (bad_not_far s place place' p q)
one_fault s place place' TagUnknown NoFmt p q = absurd (not_both s.left q.0 p.0.named)
one_fault s place place' TagUnknown BadFmt p q = absurd (q.1 p.1)
one_fault s place place' TagUnknown TagUnknown p q = same_bad place place' TagUnknown TagUnknown (p.3 ∙ sym q.3) refl
one_fault s place place' TagUnknown HeadTooLong p q = absurd (unknown_not_far s place place' p q)
one_fault s place place' HeadTooLong NoFmt p q = absurd (none_not_far s place' place q p)
one_fault s place place' HeadTooLong BadFmt p q = absurd (bad_not_far s place' place q p)
one_fault s place place' HeadTooLong TagUnknown p q = absurd (unknown_not_far s place' place q p)
one_fault s place place' HeadTooLong HeadTooLong p q = same_bad place place' HeadTooLong HeadTooLong (one_far s place place' p q) refl

-- a head that stands there is whole in whatever rest
answer_at : (s : Spot) (a b : HeadAnswer) → AnswerAt s a → AnswerAt s b → a ≡ b
answer_at s (Whole h) (Whole g) p q = ap Whole (one_head s h g (drop 8 s.left) (drop 8 s.left) p q)
answer_at s (Whole h) (NeedMore n) p q = absurd (whole_not_cut s h (drop 8 s.left) p q.0)
answer_at s (Whole h) (Bad place kind) p q = absurd (whole_not_fault s h (drop 8 s.left) place kind p q)
answer_at s (NeedMore n) (Whole h) p q = absurd (whole_not_cut s h (drop 8 s.left) q p.0)
answer_at s (NeedMore n) (NeedMore m) p q = ap NeedMore (p.1 ∙ sym q.1)
answer_at s (NeedMore n) (Bad place kind) p q = absurd (cut_not_fault s place kind p.0 q)
answer_at s (Bad place kind) (Whole h) p q = absurd (whole_not_fault s h (drop 8 s.left) place kind q p)
answer_at s (Bad place kind) (NeedMore n) p q = absurd (cut_not_fault s place kind q.0 p)
answer_at s (Bad place kind) (Bad place' kind') p q = one_fault s place place' kind kind' p q

-- ---- one spot that is answered

abbrev Stops : Spot → Type 0
Stops s = IsPassed longest_head s → ⊥

pub one_spot : (n m : ℕ) (s t u : Spot) → Leads longest_head n s t → Leads longest_head m s u → Stops t → Stops u → t ≡ u
one_spot zero zero s t u p q stop stop' = sym p ∙ q
one_spot zero (suc m) s t u p (passed, q) stop stop' = absurd (stop (subst (IsPassed longest_head) p passed))
one_spot (suc n) zero s t u (passed, p) q stop stop' = absurd (stop' (subst (IsPassed longest_head) q passed))
one_spot (suc n) (suc m) s t u (passed, p) (passed', q) stop stop' = one_spot n m (spot_behind s) t u p q stop stop'

pub bytes_led : (limit n : ℕ) (s t : Spot) → AreBytes s.left → Leads limit n s t → AreBytes t.left
bytes_led limit zero s t bytes e = subst (λ (x : Spot). AreBytes x.left) e bytes
bytes_led limit (suc n) s t bytes (passed, rest) = bytes_led limit n (spot_behind s) t (bytes-drop (chunk_length s.left) s.left bytes) rest

pub bytes_reached : (limit : ℕ) (bytes : List ℕ) (s : Spot) → AreBytes bytes → Reaches limit bytes s → AreBytes s.left
bytes_reached limit bytes s fine (opened, (n, leads)) = bytes_led limit n (first_chunk bytes) s (bytes-drop 12 bytes fine) leads

-- what is answered of bytes whose opening is whole
abbrev pub Later : List ℕ → HeadAnswer → Type 0
Later bytes a = (s : Spot) × Reaches longest_head bytes s × AnswerAt s a

pub one_later : (bytes : List ℕ) → AreBytes bytes → (a b : HeadAnswer) → Later bytes a → Later bytes b → a ≡ b
one_later bytes fine a b (s, (opened, (n, leads)), p) (t, (opened', (m, leads')), q) =
    let bs = bytes_led longest_head n (first_chunk bytes) s (bytes-drop 12 bytes fine) leads in
    let bt = bytes_led longest_head m (first_chunk bytes) t (bytes-drop 12 bytes fine) leads' in
    let same : s ≡ t = one_spot n m (first_chunk bytes) s t leads leads' (stops s a bs p) (stops t b bt q) in
    answer_at t a b (subst (λ (x : Spot). AnswerAt x a) same p) q
