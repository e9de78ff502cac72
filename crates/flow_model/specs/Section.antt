-- Sections: what a list holds between two flushes. Section 0 stands before the first FLUSH_STOP, section j
-- behind the j-th.
use Rattle.std.specs.Prelude.{◌≡◌, ℕ, zero, suc, Bool, true, false, List, [], ◌∷◌, if◌then◌else◌}
use Rattle.flow_model.specs.Item.{Item, is_flush_stop, is_eos}

-- the items of section j, without the FLUSH_STOP that ends it
abbrev pub section : ℕ → List Item → List Item
section j [] = []
section zero (x ∷ xs) = if is_flush_stop x then [] else x ∷ section zero xs
section (suc j) (x ∷ xs) = if is_flush_stop x then section j xs else section (suc j) xs

-- what stands before section j, with the FLUSH_STOP that opens it
abbrev pub before_section : ℕ → List Item → List Item
before_section zero xs = []
before_section (suc j) [] = []
before_section (suc j) (x ∷ xs) = x ∷ (if is_flush_stop x then before_section j xs else before_section (suc j) xs)

-- how many FLUSH_STOPs a list has
abbrev pub flush_stops : List Item → ℕ
flush_stops [] = 0
flush_stops (x ∷ xs) = if is_flush_stop x then suc (flush_stops xs) else flush_stops xs

-- the items up to the first EOS, with it
abbrev pub to_eos : List Item → List Item
to_eos [] = []
to_eos (x ∷ xs) = x ∷ (if is_eos x then [] else to_eos xs)

-- what counts of a list: in each section what stands behind its first EOS is passed over
abbrev pub counted_after : Bool → List Item → List Item
counted_after ended [] = []
counted_after false (x ∷ xs) = x ∷ counted_after (is_eos x) xs
counted_after true (x ∷ xs) = if is_flush_stop x then x ∷ counted_after false xs else counted_after true xs

abbrev pub counted : List Item → List Item
counted xs = counted_after false xs

-- no FLUSH_STOP, and nothing behind an EOS
abbrev pub IsPlain : List Item → Type 0
IsPlain [] = Unit {0}
IsPlain (x ∷ xs) = (is_flush_stop x ≡ false) × (is_eos x ≡ true → xs ≡ []) × IsPlain xs

-- what a source owes before any seek
abbrev pub first_section : List Item → ℕ → List Item
first_section list zero = list
first_section list (suc j) = []
