-- The first that two lists of values have in common.
use Rattle.std.proofs.Common.{◌≡◌, ℕ, ◌+◌, ◌<◌, true, false, List, [], ◌∷◌, ◌++◌, Option, Some, None, is_some, length, get_or, take, drop, refl, sym, ap, ◌∙◌}
use Rattle.std.specs.List.{filter_map, cons_option}
use Rattle.std.specs.Option.{option_to_list}
use Rattle.std.proofs.lemmas.List.{take-append-drop, drop_more}
use Rattle.std.proofs.lemmas.List.Concat.{flat_map-append}
use Rattle.gst_value.proofs.Kept.{filter_map_more, filter_map_split}
use Rattle.gst_value.specs.Common.{common_one, commons, distinct, first_least, first_of, least_of}
use Rattle.gst_value.specs.declared.one.One.{One}

pub first_distinct : (xs : List One) → first_least (distinct xs) ≡ first_least xs
first_distinct [] = refl
first_distinct (x ∷ xs) = refl

-- ---- the first that is given

first_at : {X : Type 0} (f : X → Option One) (xs : List X) (i : ℕ) (d : X) → i < length xs → filter_map f (take i xs) ≡ [] → filter_map f xs ≡ cons_option (f (get_or xs i d)) (filter_map f (drop (i + 1) xs))
first_at f xs i d h e =
    filter_map_split f xs i ∙ ap (λ ys. ys ++ filter_map f (drop i xs)) e ∙ ap (filter_map f) (drop_more xs i d h)

cons_first : (o : Option One) (xs : List One) → is_some o ≡ true → first_of (cons_option o xs) ≡ o
cons_first None xs h = absurd (cc)
cons_first (Some x) xs h = refl

-- the one that was found is the first
pub found_first : {X : Type 0} (f : X → Option One) (xs : List X) (i : ℕ) (x : X) (o : Option One) → i < length xs → filter_map f (take i xs) ≡ [] → x ≡ get_or xs i x → is_some (f x) ≡ true → o ≡ f x → o ≡ first_of (filter_map f xs)
found_first f xs i x o h e q s k =
    k ∙ sym (cons_first (f x) (filter_map f (drop (i + 1) xs)) s) ∙ ap first_of (ap (λ y. cons_option (f y) (filter_map f (drop (i + 1) xs))) q ∙ sym (first_at f xs i x h e))

-- one more that gives nothing
pub none_given : {X Y : Type 0} (f : X → Option Y) (xs : List X) (i : ℕ) (x : X) → i < length xs → filter_map f (take i xs) ≡ [] → x ≡ get_or xs i x → is_some (f x) ≡ false → filter_map f (take (i + 1) xs) ≡ []
none_given f xs i x h e q s =
    filter_map_more f xs i x h ∙ (λ j. e j ++ option_to_list (f (sym q j))) ∙ nothing (f x) s
  where
    nothing : {Y : Type 0} (o : Option Y) → is_some o ≡ false → [] ++ option_to_list o ≡ []
    nothing None h = refl
    nothing (Some y) h = absurd (cc)

-- ---- rows

row_first : (xs ys : List One) (x : One) → Some x ≡ first_of xs → first_least (xs ++ ys) ≡ least_of x
row_first [] ys x e = absurd (cc)
row_first (z ∷ xs) ys x e = let q : x ≡ z = cc in ap least_of (sym q)

pub commons_found : (ms ns : List One) (i : ℕ) (m x : One) (made : One) → i < length ms → commons (take i ms) ns ≡ [] → m ≡ get_or ms i m → Some x ≡ first_of (filter_map (common_one m) ns) → made ≡ least_of x → made ≡ first_least (commons ms ns)
commons_found ms ns i m x made h e q k l =
    let rest = commons (drop (i + 1) ms) ns in
    let split : commons ms ns ≡ commons (take i ms) ns ++ commons (drop i ms) ns = ap (λ xs. commons xs ns) (sym (take-append-drop i ms)) ∙ flat_map-append (λ m. filter_map (common_one m) ns) (take i ms) (drop i ms) in
    let whole : commons ms ns ≡ filter_map (common_one m) ns ++ commons (drop (i + 1) ms) ns = split ∙ ap (λ xs. xs ++ commons (drop i ms) ns) e ∙ ap (λ xs. commons xs ns) (drop_more ms i m h ∙ ap (λ y. y ∷ drop (i + 1) ms) (sym q)) in
    l ∙ sym (ap first_least whole ∙ row_first (filter_map (common_one m) ns) (commons (drop (i + 1) ms) ns) x k)
