-- Names in the order of their bytes, and fields in the order of their names. A field is a name and a value.
use Rattle.std.specs.Prelude.{◌≡◌, Bool, ℕ, List, [], ◌∷◌, ◌++◌, ⊤}
use Rattle.std.specs.Cmp.Lexicographic.{slice_cmp}
use Rattle.std.specs.List.{filter}
use Rattle.std.specs.Ordering.{is_lt, nat_cmp}
use Rattle.std.specs.declared.cmp.Ordering.TheVariants.{Less}

-- a name stands before another where its bytes do
abbrev pub is_before : List ℕ → List ℕ → Bool
is_before a b = is_lt (slice_cmp nat_cmp a b)

-- P holds of each member
abbrev pub Each : {X : Type 0} → (X → Type 0) → List X → Type 0
Each P [] = ⊤
Each P (x ∷ xs) = P x × Each P xs

-- each name stands before all later ones
abbrev pub Rises : {V : Type 0} → List (List ℕ × V) → Type 0
Rises [] = ⊤
Rises (f ∷ fs) = Each (λ g. slice_cmp nat_cmp f.0 g.0 ≡ Less) fs × Rises fs

-- the fields once this one is set: those with names before it, it, and those with names behind it
abbrev pub fields_with : {V : Type 0} → List ℕ → V → List (List ℕ × V) → List (List ℕ × V)
fields_with name value fields = filter (λ f. is_before f.0 name) fields ++ (name, value) ∷ filter (λ f. is_before name f.0) fields
