-- What holds of each member of a list.
use Rattle.std.proofs.Common.{◌≡◌, ℕ, ◌+◌, ◌<◌, Bool, true, false, cond, refl, List, [], ◌∷◌, ◌++◌, length, get_or, take, subst, sym}
use Rattle.std.proofs.lemmas.List.{take_more}
use Rattle.std.specs.List.{filter}
use Rattle.gst_value.specs.Names.{Each}

pub Each-append : {X : Type 0} (P : X → Type 0) (xs ys : List X) → Each P xs → Each P ys → Each P (xs ++ ys)
Each-append P [] ys p q = q
Each-append P (x ∷ xs) ys p q = (p.0, Each-append P xs ys p.1 q)

pub Each-take_more : {X : Type 0} (P : X → Type 0) (xs : List X) (i : ℕ) (d : X) → i < length xs → Each P (take i xs) → P (get_or xs i d) → Each P (take (i + 1) xs)
Each-take_more P xs i d h p q = subst (Each P) (sym (take_more xs i d h)) (Each-append P (take i xs) (get_or xs i d ∷ []) p (q, tt))

Each-kept : {X : Type 0} (P : X → Type 0) (x : X) (xs : List X) (b : Bool) → P x → Each P xs → Each P (cond b (x ∷ xs) xs)
Each-kept P x xs true p q = (p, q)
Each-kept P x xs false p q = q

pub Each-filter : {X : Type 0} (P : X → Type 0) (t : X → Bool) (xs : List X) → Each P xs → Each P (filter t xs)
Each-filter P t [] p = tt
Each-filter P t (x ∷ xs) p = Each-kept P x (filter t xs) (t x) p.0 (Each-filter P t xs p.1)

kept_by : {X : Type 0} (t : X → Bool) (x : X) (xs : List X) (b : Bool) → t x ≡ b → Each (λ y. t y ≡ true) xs → Each (λ y. t y ≡ true) (cond b (x ∷ xs) xs)
kept_by t x xs true e p = (e, p)
kept_by t x xs false e p = p

-- a filter's test passes what it keeps
pub Each-filtered : {X : Type 0} (t : X → Bool) (xs : List X) → Each (λ x. t x ≡ true) (filter t xs)
Each-filtered t [] = tt
Each-filtered t (x ∷ xs) = kept_by t x (filter t xs) (t x) refl (Each-filtered t xs)

pub Each-map : {X : Type 0} (P Q : X → Type 0) → ((x : X) → P x → Q x) → (xs : List X) → Each P xs → Each Q xs
Each-map P Q f [] p = tt
Each-map P Q f (x ∷ xs) p = (f x p.0, Each-map P Q f xs p.1)
