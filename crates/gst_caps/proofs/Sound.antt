-- The meet of two structures is a structure.
use Rattle.std.proofs.Common.{◌≡◌, ℕ, ◌≤◌, Bool, true, false, cond, ◌&&◌, List, [], ◌∷◌, Option, Some, None, length, refl, sym, ap, ◌∙◌, subst, arith, ltb}
use Rattle.std.specs.List.{filter, list_any}
use Rattle.std.specs.Ordering.{is_lt}
use Rattle.std.specs.Str.{bytes_eq}
use Rattle.std.specs.declared.cmp.Ordering.TheVariants.{Less}
use Rattle.std.proofs.lemmas.Slice.Eq.{bytes_eq-Decides}
use borrow.Author.Tests.{ltb-false}
use mathlib.Core.Bool.{true≢false}
use Rattle.gst_value.proofs.Lists.{Each-append, Each-filter, Each-filtered, Each-map}
use Rattle.gst_value.proofs.NamesInOrder.{cmp, less_from_is_lt, Rises-join, Rises-filter}
use Rattle.gst_caps.proofs.Merging.{members-as_value}
use Rattle.gst_caps.specs.Accepts.{value_at, each_at, agrees, narrowed, merged, structures_meet}
use Rattle.gst_caps.specs.Passes.{fields_pass}
use Rattle.gst_caps.specs.Common.{members, common, as_value, have_common}
use Rattle.gst_value.specs.Description.{Description}
use Rattle.gst_caps.specs.Description.{IsStructure}
use Rattle.gst_caps.specs.Merge.{IsShort}
use Rattle.gst_value.specs.Names.{Each, Rises, is_before}
use Rattle.gst_value.specs.Values.{kind_of, IsOne}
use Rattle.gst_caps.specs.Values.{IsValue}
use Rattle.gst_caps.specs.declared.value.Value.{Value}
use Rattle.gst_caps.specs.declared.value.Value.TheVariants.{One as Single, Many}
use Rattle.gst_value.proofs.Sound.{IsOf, AreRight, common_members_right, from_each}
use Rattle.gst_value.proofs.Basics.{and_left, and_right, neither as or_false}

-- a value with right members
abbrev pub IsRight : Value → Type 0
IsRight v = AreRight (members v)

pub common_right : (v w : Value) → IsRight v → IsRight w → have_common v w ≡ true → IsRight (as_value (common v w))
common_right v w p q h = subst AreRight (sym (members-as_value (common v w))) (common_members_right (members v) (members w) p h)

pub right_from_value : (v : Value) → IsValue v → IsRight v
right_from_value (Single x) p = ((p, refl), tt)
right_from_value (Many []) p = absurd p.one_kind
right_from_value (Many (x ∷ xs)) p = ((p.each.0, refl), from_each x xs p.each.1 p.one_kind)

pub short_from_value : (v : Value) → IsValue v → IsShort v
short_from_value (Single x) p = omega arith
short_from_value (Many xs) p = p.few

pub value_from_right : (v : Value) → IsRight v → IsShort v → IsValue v
value_from_right (Single x) p s = p.0.0
value_from_right (Many []) p s = absurd p
value_from_right (Many (x ∷ xs)) p s = record {
  each = (p.0.0, Each-map (IsOf (kind_of x)) IsOne (λ y q. q.0) xs p.1);
  one_kind = Each-map (IsOf (kind_of x)) (λ y. kind_of y ≡ kind_of x) (λ y q. q.1) xs p.1;
  few = s;
}

-- ---- merged fields

Each-merged_names : (N : List ℕ → Type 0) (fs gs : List (List ℕ × Value)) → Each (λ f. N f.0) fs → Each (λ g. N g.0) gs → Each (λ f. N f.0) (merged fs gs)
Each-merged_names N [] gs p q = q
Each-merged_names N (f ∷ fs) gs p q =
    Each-append (λ x. N x.0) (filter (λ g. is_before g.0 f.0) gs) _ (Each-filter (λ x. N x.0) (λ g. is_before g.0 f.0) gs q)
    (p.0, Each-merged_names N fs (filter (λ g. is_before f.0 g.0) gs) p.1 (Each-filter (λ x. N x.0) (λ g. is_before f.0 g.0) gs q))

pub Rises-merged : (fs gs : List (List ℕ × Value)) → Rises fs → Rises gs → Rises (merged fs gs)
Rises-merged [] gs r s = s
Rises-merged (f ∷ fs) gs r s =
    let later : List (List ℕ × Value) = filter (λ g. is_before f.0 g.0) gs in
    let behind : Each (λ g. cmp f.0 g.0 ≡ Less) later = Each-map (λ g. is_before f.0 g.0 ≡ true) (λ g. cmp f.0 g.0 ≡ Less) (λ g h. less_from_is_lt _ h) _ (Each-filtered (λ g. is_before f.0 g.0) gs) in
    Rises-join f.0 (narrowed f.1 (value_at f.0 gs)) (filter (λ g. is_before g.0 f.0) gs) (merged fs later) (Rises-filter (λ g. is_before g.0 f.0) gs s)
    (Each-map (λ g. is_before g.0 f.0 ≡ true) (λ g. cmp g.0 f.0 ≡ Less) (λ g h. less_from_is_lt _ h) _ (Each-filtered (λ g. is_before g.0 f.0) gs))
    (Each-merged_names (λ n. cmp f.0 n ≡ Less) fs later r.0 behind)
    (Rises-merged fs later r.1 (Rises-filter (λ g. is_before f.0 g.0) gs s))

-- fields that are not behind a name are not looked at by names behind it
value_at-filter : (n m : List ℕ) (gs : List (List ℕ × Value)) → cmp n m ≡ Less → value_at m (filter (λ g. is_before n g.0) gs) ≡ value_at m gs
value_at-filter n m [] h = refl
value_at-filter n m (g ∷ gs) h = by (is_before n g.0) refl (bytes_eq g.0 m) refl (value_at-filter n m gs h)
  where
    by : (b : Bool) → is_before n g.0 ≡ b → (e : Bool) → bytes_eq g.0 m ≡ e → value_at m (filter (λ g. is_before n g.0) gs) ≡ value_at m gs → value_at m (cond b (g ∷ filter (λ g. is_before n g.0) gs) (filter (λ g. is_before n g.0) gs)) ≡ cond e (Some g.1) (value_at m gs)
    by true p e q r = λ i. cond (q i) (Some g.1) (r i)
    by false p true q r = absurd (true≢false (sym (ap is_lt h) ∙ ap (is_before n) (sym ((bytes_eq-Decides g.0 m).0 q)) ∙ p))
    by false p false q r = r

pub each_at-filter : {V : Type 0} (t : V → Option Value → Bool) (n : List ℕ) (fs : List (List ℕ × V)) (gs : List (List ℕ × Value)) → Each (λ f. cmp n f.0 ≡ Less) fs → each_at t fs (filter (λ g. is_before n g.0) gs) ≡ each_at t fs gs
each_at-filter t n [] gs p = refl
each_at-filter t n (f ∷ fs) gs p = λ i. t f.1 (value_at-filter n f.0 gs p.0 i) && each_at-filter t n fs gs p.1 i

pub value_at_each : (R : Value → Type 0) (n : List ℕ) (gs : List (List ℕ × Value)) (w : Value) → Each (λ g. R g.1) gs → value_at n gs ≡ Some w → R w
value_at_each R n [] w p e = absurd (cc)
value_at_each R n (g ∷ gs) w p e = by (bytes_eq g.0 n) (value_at_each R n gs w p.1) e
  where
    by : (b : Bool) → (value_at n gs ≡ Some w → R w) → cond b (Some g.1) (value_at n gs) ≡ Some w → R w
    by true r e = let q : g.1 ≡ w = cc in subst R q p.0
    by false r e = r e

narrowed_right : (v : Value) (o : Option Value) → IsRight v → ((w : Value) → o ≡ Some w → IsRight w) → agrees v o ≡ true → IsRight (narrowed v o)
narrowed_right v None p q h = p
narrowed_right v (Some w) p q h = common_right v w p (q w refl) h

pub merged_right : (fs gs : List (List ℕ × Value)) → Rises fs → Each (λ f. IsRight f.1) fs → Each (λ g. IsRight g.1) gs → each_at agrees fs gs ≡ true → Each (λ f. IsRight f.1) (merged fs gs)
merged_right [] gs r p q h = q
merged_right (f ∷ fs) gs r p q h =
    let later : List (List ℕ × Value) = filter (λ g. is_before f.0 g.0) gs in
    Each-append (λ x. IsRight x.1) (filter (λ g. is_before g.0 f.0) gs) _ (Each-filter (λ x. IsRight x.1) (λ g. is_before g.0 f.0) gs q)
    (narrowed_right f.1 (value_at f.0 gs) p.0 (λ w. value_at_each IsRight f.0 gs w q) (and_left _ _ h), merged_right fs later r.1 p.1 (Each-filter (λ x. IsRight x.1) (λ g. is_before f.0 g.0) gs q) (each_at-filter agrees f.0 fs gs r.0 ∙ and_right (agrees f.1 (value_at f.0 gs)) _ h))

each_short : (fs : List (List ℕ × Value)) → list_any (λ f. ltb 64 (length (members f.1))) fs ≡ false → Each (λ f. IsShort f.1) fs
each_short [] h = tt
each_short (f ∷ fs) h =
    let q = or_false (ltb 64 (length (members f.1))) _ h in
    let few : length (members f.1) ≤ 64 = omega (arith, ltb-false 64 (length (members f.1)) q.0) in
    (few, each_short fs q.1)

pub within_limit : (fs : List (List ℕ × Value)) → fields_pass fs ≡ false → (length fs ≤ 64) × Each (λ f. IsShort f.1) fs
within_limit fs h =
    let q = or_false (ltb 64 (length fs)) _ h in
    let few : length fs ≤ 64 = omega (arith, ltb-false 64 (length fs) q.0) in
    (few, each_short fs q.1)

each_value : (fs : List (List ℕ × Value)) → Each (λ f. IsRight f.1) fs → Each (λ f. IsShort f.1) fs → Each (λ f. IsValue f.1) fs
each_value [] p q = tt
each_value (f ∷ fs) p q = (value_from_right f.1 p.0 q.0, each_value fs p.1 q.1)

pub each_right : (fs : List (List ℕ × Value)) → Each (λ f. IsValue f.1) fs → Each (λ f. IsRight f.1) fs
each_right fs p = Each-map (λ f. IsValue f.1) (λ f. IsRight f.1) (λ f q. right_from_value f.1 q) fs p

pub each_short_value : (fs : List (List ℕ × Value)) → Each (λ f. IsValue f.1) fs → Each (λ f. IsShort f.1) fs
each_short_value fs p = Each-map (λ f. IsValue f.1) (λ f. IsShort f.1) (λ f q. short_from_value f.1 q) fs p

pub merged_structure : (s t : Description Value) → IsStructure s → IsStructure t → each_at agrees s.fields t.fields ≡ true → fields_pass (merged s.fields t.fields) ≡ false → IsStructure (record { media = s.media; fields = merged s.fields t.fields })
merged_structure s t p q h k =
    let limit = within_limit (merged s.fields t.fields) k in
    record {
      ordered = Rises-merged s.fields t.fields p.ordered q.ordered;
      values = each_value _ (merged_right s.fields t.fields p.ordered (each_right s.fields p.values) (each_right t.fields q.values) h) limit.1;
      few = limit.0;
    }

-- the same for fields that were merged
pub merged_whole : (media : List ℕ) (new fs gs : List (List ℕ × Value)) (s t : Description Value) → IsStructure s → IsStructure t → fs ≡ s.fields → gs ≡ t.fields → structures_meet s t ≡ true → new ≡ merged fs gs → (fields_pass (merged fs gs) ≡ true → ⊥) → IsStructure (record { media = media; fields = new })
merged_whole media new fs gs s t p q e f h n k =
    let fields : new ≡ merged s.fields t.fields = n ∙ (λ i. merged (e i) (f i)) in
    let within : fields_pass (merged s.fields t.fields) ≡ false = ap fields_pass (λ i. merged (sym e i) (sym f i)) ∙ not_true _ k in
    let whole = merged_structure s t p q (and_right (bytes_eq s.media t.media) _ h) within in
    let Q : List (List ℕ × Value) → Type 0 = λ xs. IsStructure (record { media = media; fields = xs }) in
    subst Q (sym fields) (record { ordered = whole.ordered; values = whole.values; few = whole.few })
  where
    not_true : (b : Bool) → (b ≡ true → ⊥) → b ≡ false
    not_true true k = absurd (k refl)
    not_true false k = refl
