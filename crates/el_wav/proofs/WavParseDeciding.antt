-- The length that decides more lies within the head.
use Rattle.std.proofs.Common.{◌≡◌, ◌≤◌, ◌<◌, ◌+◌, ℕ, zero, suc, inl, inr, Bool, true, false, Some, None, is_none, List, ◌++◌, length, get_or, codes, cond, ltb, leb, ◌==◌, ◌&&◌, refl, sym, ap, subst, ◌∙◌, arith}
use Rattle.std.specs.Prelude.{unwrap_or}
use Rattle.std.proofs.lemmas.Bool.{cases_lt, eqb-true, lt-ltb, le-ltb}
use Rattle.std.proofs.lemmas.List.{get_or-take, drop-append-le}
use Rattle.byteorder.specs.Endian.{little_from}
use Rattle.wav_format.specs.declared.head.Head.{Head}
use Rattle.wav_format.specs.Answers.{CutsAt}
use Rattle.wav_format.specs.Chunks.{BeginsWithHead, EndsHead, Leads, Spot, begins, spot_behind, body_at, body_size, chunk_length, first_chunk, longest_head}
use Rattle.wav_format.specs.Cuts.{BodyCut, ChunkCut, body_length, deciding}
use Rattle.wav_format.specs.Faults.{MayBeFormat}
use Rattle.wav_format.specs.Format.{extensible}
use Rattle.el_wav.proofs.WavParseAhead.{GoesOn, behind_goes_on, length_goes_on, no_earlier, other_goes_on}

-- ---- in a `fmt ` body

-- the extensible form is known to be long
wide : (given : List ℕ) (size : ℕ) → MayBeFormat given size → 16 ≤ length given → (little_from 0 2 given == extensible) ≡ true → 40 ≤ size
wide given size (body, all, is) long e =
    let tag = eqb-true (little_from 0 2 given) extensible e in
    let a : get_or given 0 0 ≡ get_or body 0 0 = ap (λ xs. get_or xs 0 0) (sym all.front) ∙ get_or-take (length given) body 0 0 (omega (arith, long)) in
    let b : get_or given 1 0 ≡ get_or body 1 0 = ap (λ xs. get_or xs 1 0) (sym all.front) ∙ get_or-take (length given) body 1 0 (omega (arith, long)) in
    let same : little_from 0 2 body ≡ extensible = omega (arith, tag, a, b) in
    let far = is.numbers.extended same in
    let size_is = all.long in
    omega (arith, far, size_is)

late : (size most k : ℕ) → 16 ≤ size → size ≤ most → 16 ≤ k → (x : Bool) → (x ≡ true → 40 ≤ size) → unwrap_or (cond (x && ltb k 24) (Some 25) (cond (x && ltb k 26) (Some (k + 1)) None)) most ≤ most
late size most k long fits ge false far = omega arith
late size most k long fits ge true far =
    let large = far refl in
    elim (cases_lt k 24) [
      | inl lt ↦ rw (lt-ltb k 24 lt) (omega (arith, large, fits))
      | inr ge24 ↦ rw (le-ltb k 24 ge24) (elim (cases_lt k 26) [
        | inl lt ↦ rw (lt-ltb k 26 lt) (omega (arith, large, fits, lt))
        | inr ge26 ↦ rw (le-ltb k 26 ge26) (omega arith)
      ])
    ]

asked : (size most k : ℕ) → 16 ≤ size → size ≤ most → (x : Bool) → (16 ≤ k → x ≡ true → 40 ≤ size) → unwrap_or (body_length x k) most ≤ most
asked size most k long fits x far =
    elim (cases_lt k 4) [
      | inl lt ↦ rw (lt-ltb k 4 lt) (omega (arith, lt, long, fits))
      | inr ge4 ↦ rw (le-ltb k 4 ge4) (elim (cases_lt k 7) [
        | inl lt ↦ rw (lt-ltb k 7 lt) (omega (arith, long, fits))
        | inr ge7 ↦ rw (le-ltb k 7 ge7) (elim (cases_lt k 8) [
          | inl lt ↦ rw (lt-ltb k 8 lt) (omega (arith, long, fits))
          | inr ge8 ↦ rw (le-ltb k 8 ge8) (elim (cases_lt k 12) [
            | inl lt ↦ rw (lt-ltb k 12 lt) (omega (arith, long, fits))
            | inr ge12 ↦ rw (le-ltb k 12 ge12) (elim (cases_lt k 16) [
              | inl lt ↦ rw (lt-ltb k 16 lt) (omega (arith, lt, long, fits))
              | inr ge16 ↦ rw (le-ltb k 16 ge16) (late size most k long fits ge16 x (far ge16))
            ])
          ])
        ])
      ])
    ]

asked_in_body : (given : List ℕ) (size most : ℕ) → MayBeFormat given size → size ≤ most → unwrap_or (body_length (little_from 0 2 given == extensible) (length given)) most ≤ most
asked_in_body given size most may fits =
    let size_is = may.1.long in
    let long = may.2.numbers.long in
    asked size most (length given) (omega (arith, long, size_is)) fits (little_from 0 2 given == extensible) (wide given size may)

-- ---- in a chunk

nearer : (b : Bool) (at : ℕ) → cond b (at + 4) (at + 8) ≤ at + 8
nearer true at = omega arith
nearer false at = omega arith

decides_in_head : (s : Spot) → length s.left < 8 → deciding s ≤ s.at + 8
decides_in_head s short = rw (lt-ltb (length s.left) 8 short) (nearer _ s.at)

next_head : (known : Bool) (at : ℕ) → at + cond known 4 8 ≤ at + 8
next_head true at = omega arith
next_head false at = omega arith

decides_in_body : (s : Spot) → BodyCut s → (named : Bool) → begins (codes "fmt ") s.left ≡ named → deciding s ≤ s.at + 8 + chunk_length s.left
decides_in_body s cut true e =
    let given = body_at s.left in
    let within = asked_in_body given (body_size s.left) (chunk_length s.left) (cut.room.format e) (omega arith) in
    rw (le-ltb (length s.left) 8 cut.headed.headed, e) (omega (arith, within))
decides_in_body s cut false e =
    let within = next_head (is_none s.known) (s.at + chunk_length s.left) in
    rw (le-ltb (length s.left) 8 cut.headed.headed, e) (omega (arith, within))

-- ---- up to the end of the head

decides_before_cut : (n : ℕ) (s t u : Spot) (more : List ℕ) (h : Head) (rest : List ℕ) → ChunkCut s → GoesOn s t more → Leads longest_head n t u → EndsHead h rest u → deciding s ≤ h.start
decides_before_cut n s t u more h rest (inl cut) g leads ends =
    let on = no_earlier longest_head n t u leads in
    let start = ends.start in
    let at = g.at in
    let near = decides_in_head s cut.short in
    omega (arith, on, start, at, near)
decides_before_cut zero s t u more h rest (inr cut) g e ends = absurd (other_goes_on s t more h rest g cut.headed.headed cut.headed.other (subst (EndsHead h rest) (sym e) ends))
decides_before_cut (suc n) s t u more h rest (inr cut) g (p, leads) ends =
    let on = no_earlier longest_head n (spot_behind t) u leads in
    let same = length_goes_on s t more g cut.headed.headed in
    let start = ends.start in
    let at = g.at in
    let near = decides_in_body s cut (begins (codes "fmt ") s.left) refl in
    omega (arith, on, same, start, at, near)

decides_before : (n m : ℕ) (s v t u : Spot) (more : List ℕ) (h : Head) (rest : List ℕ) → Leads longest_head n s v → ChunkCut v → GoesOn s t more → Leads longest_head m t u → EndsHead h rest u → deciding v ≤ h.start
decides_before zero m s v t u more h rest e cut g leads ends = subst (λ (x : Spot). deciding x ≤ h.start) e (decides_before_cut m s t u more h rest (subst ChunkCut (sym e) cut) g leads ends)
decides_before (suc n) zero s v t u more h rest (p, _) cut g e ends = absurd (other_goes_on s t more h rest g p.headed p.other (subst (EndsHead h rest) (sym e) ends))
decides_before (suc n) (suc m) s v t u more h rest (p, to_cut) cut g (_, leads) ends = decides_before n m (spot_behind s) v (spot_behind t) u more h rest to_cut cut (behind_goes_on longest_head s t more p g) leads ends

before_chunks : (b : Bool) (len : ℕ) → len < 12 → cond b 9 (len + 1) ≤ 12
before_chunks true len short = omega arith
before_chunks false len short = omega (arith, short)

pub decides_in_head_of : (bytes more : List ℕ) (n : ℕ) (h : Head) → CutsAt bytes n → BeginsWithHead (bytes ++ more) h → n ≤ h.start
decides_in_head_of bytes more n h (inl (cut, e)) (rest, (u, (opened, (m, leads)), ends)) =
    let on = no_earlier longest_head m (first_chunk (bytes ++ more)) u leads in
    let start = ends.start in
    let near = before_chunks (leb 4 (length bytes) && ltb (length bytes) 8) (length bytes) cut.short in
    omega (arith, on, start, near, e)
decides_in_head_of bytes more n h (inr (v, (opened, (k, to_cut)), cut, e)) (rest, (u, (opened', (m, leads)), ends)) =
    let on = decides_before k m (first_chunk bytes) v (first_chunk (bytes ++ more)) u more h rest to_cut cut (record { at = refl; known = refl; left = drop-append-le 12 bytes more opened.long }) leads ends in
    omega (arith, on, e)
