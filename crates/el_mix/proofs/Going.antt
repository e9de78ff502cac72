-- The output buffers of longer lists.
use Rattle.std.proofs.Common.{◌≡◌, ◌⊎◌, ◌<◌, ◌≤◌, ℕ, zero, suc, ◌+◌, ◌-◌, ◌/◌, Bool, true, false, if◌then◌else◌, eqb, List, [], ◌∷◌, ◌++◌, length, Option, Some, None, refl, sym, ap, ◌∙◌, subst, inl, inr, length-append, arith}
use Rattle.std.specs.Prelude.{max, min}
use Rattle.std.proofs.lemmas.Bool.Decides.{eqb_tells}
use Rattle.std.proofs.lemmas.Bool.{cases_lt}
use Rattle.std.proofs.Math.Nat.{zero-div}
use Rattle.flow_model.specs.Item.{Item, is_eos, body_of}
use Rattle.flow_model.specs.Looking.{bytes_of}
use Rattle.el_mix.specs.Mono.{Mono, width}
use Rattle.el_mix.specs.Mixed.{has, frames, ends_at, is_cut, piece, mixed, lesser, open_limit, longest, limit_by, limit}
use Rattle.el_mix.specs.Pieces.{BuffersGoOn, NextBuffer}
use Rattle.el_mix.proofs.Mixing.{is_cut_settled, mixed_settled, limit_have, limit_grows}

-- up to a cut point, and from there on
split_at : (mono : Mono) (xss : List (List Item)) (last f a b : ℕ) → (a ≡ 0 → last ≡ f) → (0 < a → is_cut mono xss (f + a) ≡ true)
    → mixed mono xss last f (a + b) ≡ mixed mono xss last f a ++ mixed mono xss (f + a) (f + a) b
split_at mono xss last f zero b here cut =
    let same : f + 0 ≡ f = omega arith in
    let none : 0 + b ≡ b = omega arith in
    ap (λ n. mixed mono xss last f n) none ∙ ap (λ l. mixed mono xss l f b) (here refl) ∙ ap (λ k. mixed mono xss k k b) (sym same)
split_at mono xss last f (suc zero) b here cut =
    let more : suc zero + b ≡ suc b = omega arith in
    let place : f + suc zero ≡ suc f = omega arith in
    let is : is_cut mono xss (suc f) ≡ true = subst (λ k. is_cut mono xss k ≡ true) place (cut (omega arith)) in
    ap (λ n. mixed mono xss last f n) more ∙ rw is (ap (λ k. piece mono xss last (suc f) ∷ mixed mono xss k k b) (sym place))
split_at mono xss last f (suc (suc a)) b here cut =
    let more : suc (suc a) + b ≡ suc (suc a + b) = omega arith in
    let place : f + suc (suc a) ≡ suc f + suc a = omega arith in
    let later : 0 < suc a → is_cut mono xss (suc f + suc a) ≡ true = λ p. subst (λ k. is_cut mono xss k ≡ true) place (cut (omega arith)) in
    ap (λ n. mixed mono xss last f n) more
    ∙ go (is_cut mono xss (suc f)) (split_at mono xss (suc f) (suc f) (suc a) b (λ e. refl) later)
    (split_at mono xss last (suc f) (suc a) b (λ e. absurd (omega (arith, e))) later)
    ∙ ap (λ k. mixed mono xss last f (suc (suc a)) ++ mixed mono xss k k b) (sym place)
  where
    go : (c : Bool)
        → mixed mono xss (suc f) (suc f) (suc a + b) ≡ mixed mono xss (suc f) (suc f) (suc a) ++ mixed mono xss (suc f + suc a) (suc f + suc a) b
        → mixed mono xss last (suc f) (suc a + b) ≡ mixed mono xss last (suc f) (suc a) ++ mixed mono xss (suc f + suc a) (suc f + suc a) b
        → (if c then piece mono xss last (suc f) ∷ mixed mono xss (suc f) (suc f) (suc a + b) else mixed mono xss last (suc f) (suc a + b))
        ≡ (if c then piece mono xss last (suc f) ∷ mixed mono xss (suc f) (suc f) (suc a) else mixed mono xss last (suc f) (suc a))
        ++ mixed mono xss (suc f + suc a) (suc f + suc a) b
    go true r q = ap (λ zs. piece mono xss last (suc f) ∷ zs) r
    go false r q = q

-- the place up to which frames are owed is a cut point, or 0
same_tells : (a b : ℕ) → a ≡ b → eqb a b ≡ true
same_tells a b e = go (eqb_tells a b)
  where
    go : ((eqb a b ≡ true) × (a ≡ b)) ⊎ ((eqb a b ≡ false) × (a ≡ b → ⊥)) → eqb a b ≡ true
    go (inl t) = t.0
    go (inr t) = absurd (t.1 e)

either : (b c : Bool) → c ≡ true → (if b then true else c) ≡ true
either true c e = refl
either false c e = e

add_length : (got : ℕ) (xs ys : List ℕ) → got + length xs + length ys ≡ got + length (xs ++ ys)
add_length got xs ys = rw length-append (omega arith)

ends_last : (mono : Mono) (got : ℕ) (x : Item) (xs : List Item) → ends_at mono got (x ∷ xs) ((got + length (bytes_of (x ∷ xs))) / width mono) ≡ true
ends_last mono got x [] =
    let all : got + length (body_of x) ≡ got + length (body_of x ++ []) = rw length-append (omega arith) in
    let told : eqb ((got + length (body_of x)) / width mono) ((got + length (body_of x ++ [])) / width mono) ≡ true =
    same_tells ((got + length (body_of x)) / width mono) ((got + length (body_of x ++ [])) / width mono) (ap (λ n. n / width mono) all) in
    rw told refl
ends_last mono got x (y ∷ ys) =
    let all : got + length (body_of x) + length (bytes_of (y ∷ ys)) ≡ got + length (body_of x ++ bytes_of (y ∷ ys)) = add_length got (body_of x) (bytes_of (y ∷ ys)) in
    either (eqb ((got + length (body_of x)) / width mono) ((got + length (bytes_of (x ∷ y ∷ ys))) / width mono))
    (ends_at mono (got + length (body_of x)) (y ∷ ys) ((got + length (bytes_of (x ∷ y ∷ ys))) / width mono))
    (subst (λ n. ends_at mono (got + length (body_of x)) (y ∷ ys) (n / width mono) ≡ true) all (ends_last mono (got + length (body_of x)) y ys))

pad_cut : (mono : Mono) (xs : List Item) → (frames mono xs ≡ 0) ⊎ (ends_at mono 0 xs (frames mono xs) ≡ true)
pad_cut mono [] = inl (zero-div (width mono))
pad_cut mono (x ∷ xs) =
    let none : 0 + length (bytes_of (x ∷ xs)) ≡ length (bytes_of (x ∷ xs)) = omega arith in
    inr (subst (λ n. ends_at mono 0 (x ∷ xs) (n / width mono) ≡ true) none (ends_last mono 0 x xs))

abbrev IsCutPoint : Mono → List (List Item) → ℕ → Type 0
IsCutPoint mono xss f = (f ≡ 0) ⊎ (is_cut mono xss f ≡ true)

cut_here : (mono : Mono) (xs : List Item) (xss : List (List Item)) (f : ℕ) → (f ≡ 0) ⊎ (ends_at mono 0 xs f ≡ true) → IsCutPoint mono (xs ∷ xss) f
cut_here mono xs xss f (inl z) = inl z
cut_here mono xs xss f (inr e) = inr (rw e refl)

cut_there : (mono : Mono) (xs : List Item) (xss : List (List Item)) (f : ℕ) → IsCutPoint mono xss f → IsCutPoint mono (xs ∷ xss) f
cut_there mono xs xss f (inl z) = inl z
cut_there mono xs xss f (inr e) = inr (either (ends_at mono 0 xs f) (is_cut mono xss f) e)

longest_cut : (mono : Mono) (xss : List (List Item)) → IsCutPoint mono xss (longest mono xss)
longest_cut mono [] = inl refl
longest_cut mono (xs ∷ xss) = go (frames mono xs) (longest mono xss) (cut_here mono xs xss (frames mono xs) (pad_cut mono xs)) (cut_there mono xs xss (longest mono xss) (longest_cut mono xss)) (cases_lt (frames mono xs) (longest mono xss))
  where
    go : (a b : ℕ) → IsCutPoint mono (xs ∷ xss) a → IsCutPoint mono (xs ∷ xss) b → ((a < b) ⊎ (b ≤ a)) → IsCutPoint mono (xs ∷ xss) (max a b)
    go a b p q (inl l) = let e : b ≡ max a b = omega arith in subst (IsCutPoint mono (xs ∷ xss)) e q
    go a b p q (inr l) = let e : a ≡ max a b = omega arith in subst (IsCutPoint mono (xs ∷ xss)) e p

abbrev IsCutIf : Mono → List (List Item) → Option ℕ → Type 0
IsCutIf mono xss None = Unit {0}
IsCutIf mono xss (Some f) = IsCutPoint mono xss f

open_cut : (mono : Mono) (xss : List (List Item)) → IsCutIf mono xss (open_limit mono xss)
open_cut mono [] = tt
open_cut mono (xs ∷ xss) = go (has is_eos xs) (open_limit mono xss) (open_cut mono xss)
  where
    least : (a b : ℕ) → IsCutPoint mono (xs ∷ xss) a → IsCutPoint mono (xs ∷ xss) b → ((a < b) ⊎ (b ≤ a)) → IsCutPoint mono (xs ∷ xss) (min a b)
    least a b p q (inl l) = let e : a ≡ min a b = omega arith in subst (IsCutPoint mono (xs ∷ xss)) e p
    least a b p q (inr l) = let e : b ≡ min a b = omega arith in subst (IsCutPoint mono (xs ∷ xss)) e q

    here : IsCutPoint mono (xs ∷ xss) (frames mono xs)
    here = cut_here mono xs xss (frames mono xs) (pad_cut mono xs)

    go : (b : Bool) (o : Option ℕ) → IsCutIf mono xss o → IsCutIf mono (xs ∷ xss) (if b then o else Some (lesser (frames mono xs) o))
    go true None c = tt
    go true (Some m) c = cut_there mono xs xss m c
    go false None c = here
    go false (Some m) c = least (frames mono xs) m here (cut_there mono xs xss m c) (cases_lt (frames mono xs) m)

limit_cut : (mono : Mono) (xss : List (List Item)) → IsCutPoint mono xss (limit mono xss)
limit_cut mono xss = go (open_limit mono xss) (open_cut mono xss)
  where
    go : (o : Option ℕ) → IsCutIf mono xss o → IsCutPoint mono xss (limit_by (longest mono xss) o)
    go None c = longest_cut mono xss
    go (Some m) c = c

pub buffers_go_on : BuffersGoOn
buffers_go_on mono xss yss g =
    let grows = limit_grows mono g in
    let whole : limit mono yss ≡ limit mono xss + (limit mono yss - limit mono xss) = omega (arith, grows) in
    let none : 0 + limit mono xss ≡ limit mono xss = omega arith in
    ap (λ n. mixed mono yss 0 0 n) whole
    ∙ split_at mono yss 0 0 (limit mono xss) (limit mono yss - limit mono xss) (λ e. refl) (cut (limit_cut mono xss))
    ∙ ap (λ zs. zs ++ mixed mono yss (0 + limit mono xss) (0 + limit mono xss) (limit mono yss - limit mono xss))
    (sym (mixed_settled mono 0 0 (limit mono xss) (limit mono xss) g (limit_have mono xss) (omega arith) (omega arith)))
    ∙ ap (λ k. mixed mono xss 0 0 (limit mono xss) ++ mixed mono yss k k (limit mono yss - limit mono xss)) none
  where
    cut : IsCutPoint mono xss (limit mono xss) → 0 < limit mono xss → is_cut mono yss (0 + limit mono xss) ≡ true
    cut (inl z) some = absurd (omega (arith, z, some))
    cut (inr c) some =
        let none : limit mono xss ≡ 0 + limit mono xss = omega arith in
        subst (λ k. is_cut mono yss k ≡ true) none (sym (is_cut_settled mono (limit mono xss) g some (limit_have mono xss)) ∙ c)

-- one buffer
one_buffer : (mono : Mono) (xss : List (List Item)) (last f a : ℕ) → is_cut mono xss (f + suc a) ≡ true → ((k : ℕ) → 0 < k → k < suc a → is_cut mono xss (f + k) ≡ false)
    → mixed mono xss last f (suc a) ≡ piece mono xss last (f + suc a) ∷ []
one_buffer mono xss last f zero cut none =
    let place : f + suc zero ≡ suc f = omega arith in
    let is : is_cut mono xss (suc f) ≡ true = subst (λ k. is_cut mono xss k ≡ true) place cut in
    rw is (ap (λ k. piece mono xss last k ∷ []) (sym place))
one_buffer mono xss last f (suc a) cut none =
    let place : f + suc (suc a) ≡ suc f + suc a = omega arith in
    let first : f + 1 ≡ suc f = omega arith in
    let isnt : is_cut mono xss (suc f) ≡ false = subst (λ k. is_cut mono xss k ≡ false) first (none 1 (omega arith) (omega arith)) in
    let later : is_cut mono xss (suc f + suc a) ≡ true = subst (λ k. is_cut mono xss k ≡ true) place cut in
    rw isnt (one_buffer mono xss last (suc f) a later (λ k p q. subst (λ z. is_cut mono xss z ≡ false) (shift k) (none (suc k) (omega arith) (omega (arith, q)))))
    ∙ ap (λ k. piece mono xss last k ∷ []) (sym place)
  where
    shift : (k : ℕ) → f + suc k ≡ suc f + k
    shift k = omega arith

pub next_buffer : NextBuffer
next_buffer mono xss at n m some cut none =
    split_at mono xss at at n m (λ e. refl) (λ p. cut) ∙ ap (λ zs. zs ++ mixed mono xss (at + n) (at + n) m) (go n some cut none)
  where
    go : (n : ℕ) → 0 < n → is_cut mono xss (at + n) ≡ true → ((k : ℕ) → 0 < k → k < n → is_cut mono xss (at + k) ≡ false)
        → mixed mono xss at at n ≡ piece mono xss at (at + n) ∷ []
    go zero some cut none = absurd (omega arith)
    go (suc a) some cut none = one_buffer mono xss at at a cut none
