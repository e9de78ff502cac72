-- Two caps meet where some fixed caps are in both.
use Rattle.std.proofs.Common.{◌≡◌, ℕ, zero, suc, ◌+◌, ◌<◌, ◌≤◌, ◌^◌, ℤ, Bool, true, false, cond, ◌&&◌, ◌||◌, List, [], ◌∷◌, ◌++◌, Some, None, length, map, get_or, take, refl, sym, ap, ◌∙◌, arith, length-append}
use Rattle.std.specs.List.{filter, list_any}
use Rattle.std.specs.Option.{option_map_or}
use Rattle.std.specs.Str.{bytes_eq}
use Rattle.std.specs.declared.cmp.Ordering.TheVariants.{Less}
use Rattle.std.proofs.lemmas.Cmp.{nat_list_cmp_total, tied_itself}
use Rattle.std.proofs.lemmas.Int.{ints}
use Rattle.std.proofs.lemmas.List.{length-map, take_more}
use Rattle.std.proofs.lemmas.Slice.Eq.{bytes_eq-Decides}
use mathlib.Core.Bool.{true≢false}
use Rattle.gst_value.proofs.NamesInOrder.{cmp, less_from_is_lt, not_before}
use Rattle.gst_caps.proofs.Steps.{each_at_both}
use Rattle.gst_value.proofs.Laws.{same_itself}
use Rattle.gst_caps.proofs.Sound.{IsRight, each_right, merged_right, Rises-merged}
use Rattle.gst_value.proofs.Sound.{AreRight}
use Rattle.gst_caps.proofs.FieldLaws.{pair_law}
use Rattle.gst_caps.specs.Accepts.{value_at, each_at, contains_given, takes, structures_meet, narrowed, merged, met, fixed}
use Rattle.gst_caps.specs.Common.{members, contains, least}
use Rattle.gst_value.specs.Common.{holds, least_of, first_least}
use Rattle.gst_value.specs.Description.{Description, IsFixed}
use Rattle.gst_caps.specs.Description.{IsStructure}
use Rattle.gst_value.specs.Names.{Each, Rises, is_before}
use Rattle.gst_value.specs.Values.{IsOne, IsSingle}
use Rattle.gst_value.specs.declared.one.One.{One}
use Rattle.gst_value.specs.declared.one.One.TheVariants.{Int, Bool as Truth, Text as Words, Fraction, IntRange}
use Rattle.gst_caps.specs.declared.value.Value.{Value}
use Rattle.gst_value.proofs.Basics.{and_right, and_both as and_true}
use Rattle.gst_value.proofs.Places.{any_append as any-append}

-- ---- what is fixed

itself_le : (a b : ℤ) → IsOne (IntRange a b) → holds (IntRange a b) (Int a) ≡ true
itself_le a b h = grind (arith, ints)

holds_least : (m : One) → IsOne m → holds m (least_of m) ≡ true
holds_least (Int a) h = same_itself (Int a)
holds_least (Truth a) h = same_itself (Truth a)
holds_least (Words a) h = same_itself (Words a)
holds_least (Fraction a b) h = same_itself (Fraction a b)
holds_least (IntRange a b) h = itself_le a b h

contains_first : (ms : List One) → AreRight ms → list_any (λ m. holds m (first_least ms)) ms ≡ true
contains_first [] p = absurd p
contains_first (m ∷ ms) p = ap (λ b. b || list_any (λ k. holds k (least_of m)) ms) (holds_least m p.0.0)

contains_least : (v : Value) → IsRight v → contains v (least v) ≡ true
contains_least v p = contains_first (members v) p

single_least : (m : One) → IsOne m → IsSingle (least_of m)
single_least (Int a) h = tt
single_least (Truth a) h = tt
single_least (Words a) h = tt
single_least (Fraction a b) h = h
single_least (IntRange a b) h = tt

single_first : (ms : List One) → AreRight ms → IsSingle (first_least ms)
single_first [] p = absurd p
single_first (m ∷ ms) p = single_least m p.0.0

abbrev fix : List ℕ × Value → List ℕ × One
fix f = (f.0, least f.1)

each_behind : (n : List ℕ) (fs : List (List ℕ × Value)) → Each (λ f. cmp n f.0 ≡ Less) fs → Each (λ f. cmp n f.0 ≡ Less) (map fix fs)
each_behind n [] p = tt
each_behind n (f ∷ fs) p = (p.0, each_behind n fs p.1)

Rises-fixed : (fs : List (List ℕ × Value)) → Rises fs → Rises (map fix fs)
Rises-fixed [] r = tt
Rises-fixed (f ∷ fs) r = (each_behind f.0 fs r.0, Rises-fixed fs r.1)

each_single : (fs : List (List ℕ × Value)) → Each (λ f. IsRight f.1) fs → Each (λ f. IsSingle f.1) (map fix fs)
each_single [] p = tt
each_single (f ∷ fs) p = (single_first (members f.1) p.0, each_single fs p.1)

fields_themselves : (fs : List (List ℕ × Value)) → Rises fs → Each (λ f. IsRight f.1) fs → each_at contains_given fs (map fix fs) ≡ true
fields_themselves [] r p = refl
fields_themselves (f ∷ fs) r p =
    each_at_both contains_given (fix f) (map fix fs) f fs r (tied_itself nat_list_cmp_total f.0)
    ∙ and_true _ _ (contains_least f.1 p.0) (fields_themselves fs r.1 p.1)

-- a structure takes what it is fixed to
pub takes_fixed : (u : Description Value) → Rises u.fields → Each (λ f. IsRight f.1) u.fields → takes u (fixed u) ≡ true
takes_fixed u r p = and_true _ _ ((bytes_eq-Decides u.media u.media).1 refl) (fields_themselves u.fields r p)

-- fixed fields are right
pub fixed_right : (u : Description Value) → Rises u.fields → Each (λ f. IsRight f.1) u.fields → length u.fields < 2 ^ 32 → IsFixed (fixed u)
fixed_right u r p h = record { ordered = Rises-fixed u.fields r; values = each_single u.fields p; few = rw (length-map u.fields fix) h }

-- ---- how many fields a meet has

apart : (n : List ℕ) (g : List ℕ × Value) (a b : Bool) (p q : ℕ) (gs : List (List ℕ × Value)) → is_before g.0 n ≡ a → is_before n g.0 ≡ b → length (filter (λ g. is_before g.0 n) gs) + length (filter (λ g. is_before n g.0) gs) ≤ length gs
    → length (cond a (g ∷ filter (λ g. is_before g.0 n) gs) (filter (λ g. is_before g.0 n) gs)) + length (cond b (g ∷ filter (λ g. is_before n g.0) gs) (filter (λ g. is_before n g.0) gs)) ≤ suc (length gs)
apart n g true true p q gs e f h = absurd (true≢false (sym f ∙ not_before g.0 n (less_from_is_lt _ e)))
apart n g true false p q gs e f h = omega (arith, h)
apart n g false true p q gs e f h = omega (arith, h)
apart n g false false p q gs e f h = omega (arith, h)

parts_few : (n : List ℕ) (gs : List (List ℕ × Value)) → length (filter (λ g. is_before g.0 n) gs) + length (filter (λ g. is_before n g.0) gs) ≤ length gs
parts_few n [] = omega arith
parts_few n (g ∷ gs) = apart n g (is_before g.0 n) (is_before n g.0) 0 0 gs refl refl (parts_few n gs)

pub length-merged : (fs gs : List (List ℕ × Value)) → length (merged fs gs) ≤ length fs + length gs
length-merged [] gs = omega arith
length-merged (f ∷ fs) gs =
    let rest = length-merged fs (filter (λ g. is_before f.0 g.0) gs) in
    let parts = parts_few f.0 gs in
    omega (arith, rest, parts, length-append (filter (λ g. is_before g.0 f.0) gs) ((f.0, narrowed f.1 (value_at f.0 gs)) ∷ merged fs (filter (λ g. is_before f.0 g.0) gs)))

-- ---- a meet is not empty

met_right : (s t : Description Value) → IsStructure s → IsStructure t → structures_meet s t ≡ true → Each (λ f. IsRight f.1) (merged s.fields t.fields)
met_right s t p q h = merged_right s.fields t.fields p.ordered (each_right s.fields p.values) (each_right t.fields q.values) (and_right (bytes_eq s.media t.media) _ h)

-- the fixation of a meet is fixed caps
pub met_fixed : (s t : Description Value) → IsStructure s → IsStructure t → structures_meet s t ≡ true → IsFixed (fixed (met s t))
met_fixed s t p q h =
    fixed_right (met s t) (Rises-merged s.fields t.fields p.ordered q.ordered) (met_right s t p q h) (let few = length-merged s.fields t.fields in let one = p.few in let two = q.few in omega (arith, few, one, two))

-- both structures take it
pub met_taken : (s t : Description Value) → IsStructure s → IsStructure t → structures_meet s t ≡ true → (takes s (fixed (met s t)) && takes t (fixed (met s t))) ≡ true
met_taken s t p q h =
    let x : Description One = fixed (met s t) in
    let own : takes (met s t) x ≡ true = takes_fixed (met s t) (Rises-merged s.fields t.fields p.ordered q.ordered) (met_right s t p q h) in
    sym (pair_law x s t p q) ∙ ap (λ b. option_map_or (λ u. takes u x) (cond b (Some (met s t)) None) false) h ∙ own

-- where they do not meet, no fixed caps are in both
pub apart_taken : (s t : Description Value) → IsStructure s → IsStructure t → structures_meet s t ≡ false → (x : Description One) → (takes s x && takes t x) ≡ false
apart_taken s t p q h x = sym (pair_law x s t p q) ∙ ap (λ b. option_map_or (λ u. takes u x) (cond b (Some (met s t)) None) false) h

-- one more structure that does not meet
pub none_more : (s : Description Value) (ts : List (Description Value)) (i : ℕ) (t : Description Value) (x : Description One) → i < length ts → t ≡ get_or ts i t → (takes s x && list_any (λ u. takes u x) (take i ts)) ≡ false → (takes s x && takes t x) ≡ false → (takes s x && list_any (λ u. takes u x) (take (i + 1) ts)) ≡ false
none_more s ts i t x h e p q =
    ap (λ us. takes s x && list_any (λ u. takes u x) us) (take_more ts i t h ∙ ap (λ u. take i ts ++ u ∷ []) (sym e))
    ∙ ap (λ b. takes s x && b) (any-append (λ u. takes u x) (take i ts) (t ∷ []))
    ∙ both (takes s x) (list_any (λ u. takes u x) (take i ts)) (takes t x) p q
  where
    both : (a b c : Bool) → (a && b) ≡ false → (a && c) ≡ false → (a && (b || (c || false))) ≡ false
    both true b c p q = (λ i. p i || (q i || false))
    both false b c p q = refl

-- one of the structures takes it
pub any_at : (ts : List (Description Value)) (i : ℕ) (t : Description Value) (x : Description One) → i < length ts → t ≡ get_or ts i t → takes t x ≡ true → list_any (λ u. takes u x) ts ≡ true
any_at [] i t x h e p = absurd (omega arith)
any_at (u ∷ us) zero t x h e p = ap (λ b. b || list_any (λ u. takes u x) us) (ap (λ u. takes u x) (sym e) ∙ p)
any_at (u ∷ us) (suc i) t x h e p = ap (λ b. takes u x || b) (any_at us i t x (omega arith) e p) ∙ or_true (takes u x)
  where
    or_true : (a : Bool) → (a || true) ≡ true
    or_true true = refl
    or_true false = refl
