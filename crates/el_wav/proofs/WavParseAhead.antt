-- A head that bytes go on to ends behind them, where they end before they say all of one.
use Rattle.std.proofs.Common.{◌≡◌, ◌≤◌, ◌<◌, ◌+◌, ◌-◌, ℕ, zero, suc, inl, inr, false, Bool, Option, Some, List, ◌++◌, length, drop, codes, cond, refl, sym, ap, subst, ◌∙◌, arith}
use Rattle.std.proofs.lemmas.List.{drop-append-le, drop-drop, drop_at, length-drop}
use Rattle.wav_format.specs.declared.format.SampleFormat.{SampleFormat}
use Rattle.wav_format.specs.declared.head.Head.{Head}
use Rattle.wav_format.specs.Chunks.{BeginsWithHead, EndsHead, IsPassed, Leads, Spot, begins, spot_behind, body_at, chunk_length, first_chunk, longest_head}
use Rattle.wav_format.specs.Cuts.{ChunkCut, CutIn}
use Rattle.wav_format.specs.Format.{format_of}
use Rattle.wav_format.proofs.Longer.{begins_more, body_same as body_more, length_more}

-- ---- a chunk with more bytes behind it

-- ---- a spot with more bytes

-- t is where s is, with more bytes
pub record GoesOn (s t : Spot) (more : List ℕ) : Type 0 where
  pub at : t.at ≡ s.at
  pub known : t.known ≡ s.known
  pub left : t.left ≡ s.left ++ more

-- a chunk whose head is there has the same length with more bytes, and is not `data` where it was not
pub length_goes_on : (s t : Spot) (more : List ℕ) → GoesOn s t more → 8 ≤ length s.left → chunk_length t.left ≡ chunk_length s.left
length_goes_on s t more g headed = ap chunk_length g.left ∙ length_more s.left more headed

pub other_goes_on : (s t : Spot) (more : List ℕ) (h : Head) (rest : List ℕ) → GoesOn s t more → 8 ≤ length s.left → begins (codes "data") s.left ≡ false → EndsHead h rest t → ⊥
other_goes_on s t more h rest g headed other ends =
    let now : begins (codes "data") t.left ≡ false = ap (begins (codes "data")) g.left ∙ begins_more (codes "data") s.left more (omega arith) ∙ other in
    let named = ends.named in
    cc

same_format : (b b' : Bool) (body body' : List ℕ) (known known' : Option SampleFormat) → b ≡ b' → body ≡ body' → known ≡ known' → cond b (Some (format_of body)) known ≡ cond b' (Some (format_of body')) known'
same_format b b' body body' known known' e f g = cc

pub behind_goes_on : (limit : ℕ) (s t : Spot) (more : List ℕ) → IsPassed limit s → GoesOn s t more → GoesOn (spot_behind s) (spot_behind t) more
behind_goes_on limit s t more p g =
    let same = length_goes_on s t more g p.headed in
    record {
      at = ap (λ n. n + chunk_length t.left) g.at ∙ ap (λ n. s.at + n) same;
      known = same_format (begins (codes "fmt ") t.left) (begins (codes "fmt ") s.left) (body_at t.left) (body_at s.left) t.known s.known
          (ap (begins (codes "fmt ")) g.left ∙ begins_more (codes "fmt ") s.left more (omega (arith, p.headed))) (ap body_at g.left ∙ body_more s.left more p.headed p.whole) g.known;
      left = ap (λ n. drop n t.left) same ∙ ap (drop (chunk_length s.left)) g.left ∙ drop-append-le (chunk_length s.left) s.left more p.whole;
    }

-- ---- where the head ends

pub no_earlier : (limit n : ℕ) (s t : Spot) → Leads limit n s t → s.at ≤ t.at
no_earlier limit zero s t e = let same = ap (λ (x : Spot). x.at) e in omega (arith, same)
no_earlier limit (suc n) s t (p, leads) = let on = no_earlier limit n (spot_behind s) t leads in omega (arith, on)

-- from a chunk in which the bytes end
ends_behind_cut : (n : ℕ) (s t u : Spot) (more : List ℕ) (h : Head) (rest : List ℕ) → ChunkCut s → GoesOn s t more → Leads longest_head n t u → EndsHead h rest u → s.at + length s.left < h.start
ends_behind_cut zero s t u more h rest (inl cut) g e ends =
    let start = (subst (EndsHead h rest) (sym e) ends).start in
    let at = g.at in
    let short = cut.short in
    omega (arith, start, at, short)
ends_behind_cut zero s t u more h rest (inr cut) g e ends = absurd (other_goes_on s t more h rest g cut.headed.headed cut.headed.other (subst (EndsHead h rest) (sym e) ends))
ends_behind_cut (suc n) s t u more h rest (inl cut) g (p, leads) ends =
    let on = no_earlier longest_head n (spot_behind t) u leads in
    let start = ends.start in
    let at = g.at in
    let short = cut.short in
    omega (arith, on, start, at, short)
ends_behind_cut (suc n) s t u more h rest (inr cut) g (p, leads) ends =
    let on = no_earlier longest_head n (spot_behind t) u leads in
    let same = length_goes_on s t more g cut.headed.headed in
    let start = ends.start in
    let at = g.at in
    let short = cut.short in
    omega (arith, on, same, start, at, short)

-- from a chunk that leads there
ends_behind : (n m : ℕ) (s v t u : Spot) (more : List ℕ) (h : Head) (rest : List ℕ) → Leads longest_head n s v → ChunkCut v → GoesOn s t more → Leads longest_head m t u → EndsHead h rest u → s.at + length s.left < h.start
ends_behind zero m s v t u more h rest e cut g leads ends = ends_behind_cut m s t u more h rest (subst ChunkCut (sym e) cut) g leads ends
ends_behind (suc n) zero s v t u more h rest (p, _) cut g e ends = absurd (other_goes_on s t more h rest g p.headed p.other (subst (EndsHead h rest) (sym e) ends))
ends_behind (suc n) (suc m) s v t u more h rest (p, to_cut) cut g (_, leads) ends =
    let on = ends_behind n m (spot_behind s) v (spot_behind t) u more h rest to_cut cut (behind_goes_on longest_head s t more p g) leads ends in
    let whole = p.whole in
    omega (arith, on, whole, length-drop (chunk_length s.left) s.left)

pub head_ahead : (bytes more : List ℕ) (h : Head) → CutIn bytes → BeginsWithHead (bytes ++ more) h → length bytes < h.start
head_ahead bytes more h (inl cut) (rest, (u, (opened, (m, leads)), ends)) =
    let on = no_earlier longest_head m (first_chunk (bytes ++ more)) u leads in
    let start = ends.start in
    let short = cut.short in
    omega (arith, on, start, short)
head_ahead bytes more h (inr (v, (opened, (n, to_cut)), cut)) (rest, (u, (opened', (m, leads)), ends)) =
    let long = opened.long in
    let on = ends_behind n m (first_chunk bytes) v (first_chunk (bytes ++ more)) u more h rest to_cut cut (record { at = refl; known = refl; left = drop-append-le 12 bytes more long }) leads ends in
    omega (arith, on, long, length-drop 12 bytes)

-- ---- the bytes behind it

pub drop_behind : (xs ys : List ℕ) (n : ℕ) → length xs ≤ n → drop n (xs ++ ys) ≡ drop (n - length xs) ys
drop_behind xs ys n le =
    let e : length xs + (n - length xs) ≡ n = omega (arith, le) in
    sym (ap (drop (n - length xs)) (sym (drop_at xs ys (length xs) refl)) ∙ drop-drop (n - length xs) (length xs) (xs ++ ys) ∙ ap (λ k. drop k (xs ++ ys)) e)
