-- Where the bodies that are ahead end, and how they go on.
use Rattle.std.proofs.Common.{◌≡◌, ◌⊎◌, ◌<◌, ◌≤◌, ℕ, ◌+◌, ◌-◌, ◌*◌, ◌/◌, ◌%◌, Bool, true, false, if◌then◌else◌, eqb, leb, ltb, List, [], ◌∷◌, ◌++◌, length, drop, refl, sym, ap, ◌∙◌, inl, inr, length-drop, arith}
use Rattle.std.proofs.lemmas.Bool.{eq-eqb, ne_eqb, cases_eq, lt-ltb, ltb-true}
use Rattle.std.proofs.lemmas.Bool.Decides.{leb_tells}
use Rattle.std.proofs.lemmas.List.{drop-append-le, drop_all, drop_at, drop-drop}
use Rattle.std.proofs.Math.Nat.{add-mul, mul-lt-mul_of_pos_right, add-mul-mod_self_right}
use Rattle.std.proofs.lemmas.Nat.{div-add-mod'}
use Rattle.flow_model.specs.Item.{Item}
use Rattle.flow_model.specs.Looking.{bytes_of}
use Rattle.el_mix.specs.Mono.{Mono, width}
use Rattle.el_mix.specs.Mixed.{ends_at}
use Rattle.el_mix.specs.Line.{past, all_some}
use Rattle.el_mix.specs.Turns.{HasAhead}
use Rattle.el_mix.specs.Lined.{joined, ends_in, AllWhole, Lined}
use Rattle.el_mix.proofs.Mixing.{width_some}

-- whole frames
pub whole_is : (w n : ℕ) → n % w ≡ 0 → n / w * w ≡ n
whole_is w n e = let h = div-add-mod' n w in omega (arith, e, h)

pub over_some : (w k : ℕ) → 0 < w → 0 < k → 0 < k * w
over_some w k some pos = let h : 0 * w < k * w = mul-lt-mul_of_pos_right pos some in omega (arith, h)

whole_less : (w f a : ℕ) → a % w ≡ 0 → f * w ≤ a → (a - f * w) % w ≡ 0
whole_less w f a e le =
    let all : a - f * w + f * w ≡ a = omega (arith, le) in
    sym (add-mul-mod_self_right (a - f * w) f w) ∙ ap (λ n. n % w) all ∙ e

-- no body ends before what was got
pub ends_later : (w got : ℕ) (bs : List (List ℕ)) (k : ℕ) → k * w < got → ends_in w got bs k ≡ false
ends_later w got [] k h = refl
ends_later w got (b ∷ bs) k h =
    let no : eqb (got + length b) (k * w) ≡ false = ne_eqb (got + length b) (k * w) (λ e. absurd (omega (arith, e, h))) in
    rw no (ends_later w (got + length b) bs k (omega (arith, h)))

-- counted from a later frame on
shift_eqb : (a b c d n : ℕ) → c ≡ a + n → d ≡ b + n → eqb c d ≡ eqb a b
shift_eqb a b c d n p q = go (cases_eq a b)
  where
    go : ((a ≡ b) ⊎ (a ≡ b → ⊥)) → eqb c d ≡ eqb a b
    go (inl e) = eq-eqb c d (omega (arith, p, q, e)) ∙ sym (eq-eqb a b e)
    go (inr e) = ne_eqb c d (λ h. e (omega (arith, p, q, h))) ∙ sym (ne_eqb a b e)

ends_shift : (w f got : ℕ) (bs : List (List ℕ)) (k : ℕ) → ends_in w (got + f * w) bs (f + k) ≡ ends_in w got bs k
ends_shift w f got [] k = refl
ends_shift w f got (b ∷ bs) k =
    let order : got + f * w + length b ≡ got + length b + f * w = omega arith in
    let product = add-mul f k w in
    let same : eqb (got + f * w + length b) ((f + k) * w) ≡ eqb (got + length b) (k * w) =
    shift_eqb (got + length b) (k * w) (got + f * w + length b) ((f + k) * w) (f * w) order (omega (arith, product)) in
    ap (λ c. if c then true else ends_in w (got + f * w + length b) bs (f + k)) same
    ∙ ap (λ n. if eqb (got + length b) (k * w) then true else ends_in w n bs (f + k)) order
    ∙ ap (λ c. if eqb (got + length b) (k * w) then true else c) (ends_shift w f (got + length b) bs k)

ends_past : (w f : ℕ) (bs : List (List ℕ)) (k : ℕ) → 0 < w → 0 < k → HasAhead (f * w) bs → ends_in w 0 bs (f + k) ≡ ends_in w 0 (past (f * w) bs) k
ends_past w f [] k some pos h = refl
ends_past w f (b ∷ bs) k some pos h = go (leb_tells (length b) (f * w))
  where
    go : ((leb (length b) (f * w) ≡ true) × (length b ≤ f * w)) ⊎ ((leb (length b) (f * w) ≡ false) × (f * w < length b))
        → ends_in w 0 (b ∷ bs) (f + k) ≡ ends_in w 0 (if leb (length b) (f * w) then bs else drop (f * w) b ∷ bs) k
    go (inl t) =
        let more = over_some w k some pos in
        let product = add-mul f k w in
        let no : eqb (0 + length b) ((f + k) * w) ≡ false = ne_eqb (0 + length b) ((f + k) * w) (λ e. absurd (omega (arith, e, t.1, more, product))) in
        let all : 0 + length b ≡ 0 + f * w = omega (arith, t.1, h) in
        rw (t.0, no) (ap (λ n. ends_in w n bs (f + k)) all ∙ ends_shift w f 0 bs k)
    go (inr t) =
        let rest = length-drop (f * w) b in
        let all : 0 + length b ≡ 0 + f * w + length (drop (f * w) b) = omega (arith, rest, t.1) in
        rw t.0 (ap (λ n. if eqb n ((f + k) * w) then true else ends_in w n bs (f + k)) all ∙ ends_shift w f 0 (drop (f * w) b ∷ bs) k)

joined_past : (n : ℕ) (bs : List (List ℕ)) → HasAhead n bs → drop n (joined bs) ≡ joined (past n bs)
joined_past n [] h = drop_all n [] (omega arith)
joined_past n (b ∷ bs) h = go (leb_tells (length b) n)
  where
    go : ((leb (length b) n ≡ true) × (length b ≤ n)) ⊎ ((leb (length b) n ≡ false) × (n < length b))
        → drop n (b ++ joined bs) ≡ joined (if leb (length b) n then bs else drop n b ∷ bs)
    go (inl t) = rw t.0 (drop_at b (joined bs) n (omega (arith, t.1, h)))
    go (inr t) = rw t.0 (drop-append-le n b (joined bs) (omega (arith, t.1)))

whole_past : (w f : ℕ) (bs : List (List ℕ)) → HasAhead (f * w) bs → AllWhole w bs → AllWhole w (past (f * w) bs)
whole_past w f [] h a = tt
whole_past w f (b ∷ bs) h a = go (leb_tells (length b) (f * w))
  where
    go : ((leb (length b) (f * w) ≡ true) × (length b ≤ f * w)) ⊎ ((leb (length b) (f * w) ≡ false) × (f * w < length b))
        → AllWhole w (if leb (length b) (f * w) then bs else drop (f * w) b ∷ bs)
    go (inl t) = rw t.0 a.1
    go (inr t) = rw t.0 (ap (λ n. n % w) (length-drop (f * w) b) ∙ whole_less w f (length b) a.0 h, a.1)

-- the bodies behind the first are not empty, nor is the first
pub some_rest : (b : List ℕ) (bs : List (List ℕ)) → all_some (b ∷ bs) ≡ true → (0 < length b) × (all_some bs ≡ true)
some_rest b bs e = go (ltb 0 (length b)) refl e
  where
    go : (c : Bool) → ltb 0 (length b) ≡ c → (if c then all_some bs else false) ≡ true → (0 < length b) × (all_some bs ≡ true)
    go true is e = (ltb-true 0 (length b) is, e)
    go false is e = absurd (cc)

pub some_more : (b : List ℕ) (bs : List (List ℕ)) → 0 < length b → all_some bs ≡ true → all_some (b ∷ bs) ≡ true
some_more b bs h e = let some : ltb 0 (length b) ≡ true = lt-ltb 0 (length b) h in rw some e

pub some_past : (n : ℕ) (bs : List (List ℕ)) → all_some bs ≡ true → all_some (past n bs) ≡ true
some_past n [] a = refl
some_past n (b ∷ bs) a = go (leb_tells (length b) n)
  where
    go : ((leb (length b) n ≡ true) × (length b ≤ n)) ⊎ ((leb (length b) n ≡ false) × (n < length b))
        → all_some (if leb (length b) n then bs else drop n b ∷ bs) ≡ true
    go (inl t) = rw t.0 (some_rest b bs a).1
    go (inr t) =
        let rest = length-drop n b in
        rw t.0 (some_more (drop n b) bs (omega (arith, rest, t.1)) (some_rest b bs a).1)

-- past some frames
pub lined_past : (mono : Mono) (next f : ℕ) (bs : List (List ℕ)) (xs : List Item) → HasAhead (f * width mono) bs → Lined mono next bs xs
    → Lined mono (next + f) (past (f * width mono) bs) xs
lined_past mono next f bs xs has l = record {
  bytes = ap (λ n. drop n (bytes_of xs)) (add-mul next f (width mono)) ∙ sym (drop-drop (f * width mono) (next * width mono) (bytes_of xs))
      ∙ ap (drop (f * width mono)) l.bytes ∙ joined_past (f * width mono) bs has;
  ends = λ k pos. ap (λ n. ends_at mono 0 xs n) (order k) ∙ l.ends (f + k) (omega (arith, pos)) ∙ ends_past (width mono) f bs k (width_some mono) pos has;
  whole = whole_past (width mono) f bs has l.whole;
  some = some_past (f * width mono) bs l.some;
}
  where
    order : (k : ℕ) → next + f + k ≡ next + (f + k)
    order k = omega arith
