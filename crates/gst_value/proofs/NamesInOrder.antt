-- What setting a field does to a list of fields in order.
use Rattle.std.proofs.Common.{◌≡◌, ◌≢◌, ℕ, zero, suc, ◌+◌, ◌<◌, ◌≤◌, Bool, true, false, cond, eqb, Result, Ok, Err, OnOk, OnErr, List, [], ◌∷◌, ◌++◌, length, get_or, set, take, subst, sym, ap, ◌∙◌, refl, arith}
use Rattle.std.specs.Cmp.Lexicographic.{slice_cmp}
use Rattle.std.specs.List.{filter, insert}
use Rattle.std.specs.Ordering.{is_lt, nat_cmp, ordering_reverse}
use Rattle.std.specs.declared.cmp.Ordering.{Ordering}
use Rattle.std.specs.declared.cmp.Ordering.TheVariants.{Less, Equal, Greater}
use Rattle.std.proofs.lemmas.Cmp.{nat_list_cmp_total}
use Rattle.std.proofs.lemmas.List.{get_or_default, length-set, places}
use Rattle.std.proofs.lemmas.Map.Lookups.{exact_bytes}
use Rattle.std.proofs.lemmas.Slice.Eq.{bytes_eq-Decides}
use lib.Pointwise.{pointwise}
use mathlib.Core.Bool.{true≢false}
use Rattle.gst_value.proofs.Lists.{Each-append, Each-filter, Each-filtered, Each-map}
use Rattle.gst_value.specs.Limit.{TooManyWhere}
use Rattle.gst_value.specs.declared.fault.CapsFault.{CapsFault}
use Rattle.gst_value.specs.Names.{Each, Rises, is_before, fields_with}

abbrev pub cmp : List ℕ → List ℕ → Ordering
cmp = slice_cmp nat_cmp

pub less_from_is_lt : (o : Ordering) → is_lt o ≡ true → o ≡ Less
less_from_is_lt Less h = refl
less_from_is_lt Equal h = absurd (cc)
less_from_is_lt Greater h = absurd (cc)

-- a name behind another is not before it
pub not_before : (a b : List ℕ) → cmp a b ≡ Less → is_before b a ≡ false
not_before a b h = ap is_lt (nat_list_cmp_total.antisymm b a ∙ ap ordering_reverse h)

pub less_trans_each : {X : Type 0} (a b : List ℕ) (fs : List (List ℕ × X)) → cmp a b ≡ Less → Each (λ f. cmp b f.0 ≡ Less) fs → Each (λ f. cmp a f.0 ≡ Less) fs
less_trans_each a b [] h p = tt
less_trans_each a b (f ∷ fs) h p = (nat_list_cmp_total.trans a b f.0 h p.0, less_trans_each a b fs h p.1)

pub filter-all_behind : {X : Type 0} (n : List ℕ) (fs : List (List ℕ × X)) → Each (λ f. cmp n f.0 ≡ Less) fs → filter (λ f. is_before n f.0) fs ≡ fs
filter-all_behind n [] p = refl
filter-all_behind n (f ∷ fs) p = rw (ap is_lt p.0) (ap (λ gs. f ∷ gs) (filter-all_behind n fs p.1))

pub filter-none_before : {X : Type 0} (n : List ℕ) (fs : List (List ℕ × X)) → Each (λ f. cmp n f.0 ≡ Less) fs → filter (λ f. is_before f.0 n) fs ≡ []
filter-none_before n [] p = refl
filter-none_before n (f ∷ fs) p = rw (not_before n f.0 p.0) (filter-none_before n fs p.1)

-- a field before the name stays in front
pub fields_with_step : {X : Type 0} (n : List ℕ) (v : X) (f : List ℕ × X) (fs : List (List ℕ × X)) → is_before f.0 n ≡ true → fields_with n v (f ∷ fs) ≡ f ∷ fields_with n v fs
fields_with_step n v f fs h =
    let later : is_before n f.0 ≡ false = not_before f.0 n (less_from_is_lt _ h) in
    rw (h, later) refl

-- all fields are behind the name
pub fields_with_front : {X : Type 0} (n : List ℕ) (v : X) (fs : List (List ℕ × X)) → Each (λ f. cmp n f.0 ≡ Less) fs → fields_with n v fs ≡ (n, v) ∷ fs
fields_with_front n v fs p = rw (filter-none_before n fs p, filter-all_behind n fs p) refl

pub same_not_before : (a : List ℕ) → is_before a a ≡ false
same_not_before a = by (cmp a a) (nat_list_cmp_total.antisymm a a)
  where
    by : (o : Ordering) → o ≡ ordering_reverse o → is_lt o ≡ false
    by Less h = absurd (cc)
    by Equal h = refl
    by Greater h = refl

-- the first field has the name
pub fields_with_same : {X : Type 0} (n : List ℕ) (v w : X) (fs : List (List ℕ × X)) → Each (λ f. cmp n f.0 ≡ Less) fs → fields_with n v ((n, w) ∷ fs) ≡ (n, v) ∷ fs
fields_with_same n v w fs p = rw (same_not_before n, filter-none_before n fs p, filter-all_behind n fs p) refl

fields_with_first : {X : Type 0} (n : List ℕ) (v : X) (f : List ℕ × X) (fs : List (List ℕ × X)) → Each (λ g. cmp f.0 g.0 ≡ Less) fs → f.0 ≡ n → fields_with n v (f ∷ fs) ≡ (n, v) ∷ fs
fields_with_first n v f fs q e =
    let P : List ℕ → Type 0 = λ m. fields_with n v ((m, f.1) ∷ fs) ≡ (n, v) ∷ fs in
    let Q : List ℕ → Type 0 = λ m. Each (λ g. cmp m g.0 ≡ Less) fs in
    subst P (sym e) (fields_with_same n v f.1 fs (subst Q e q))

set-fields_with_at : {X : Type 0} (n : List ℕ) (v : X) (fs : List (List ℕ × X)) (k : ℕ) (d : List ℕ × X) → Rises fs → Each (λ f. is_before f.0 n ≡ true) (take k fs) → k < length fs → (get_or fs k d).0 ≡ n → set fs k (n, v) ≡ fields_with n v fs
set-fields_with_at n v [] k d r p h e = absurd (omega arith)
set-fields_with_at n v (f ∷ fs) zero d r p h e = sym (fields_with_first n v f fs r.0 e)
set-fields_with_at n v (f ∷ fs) (suc k) d r p h e = ap (λ gs. f ∷ gs) (set-fields_with_at n v fs k d r.1 p.1 (omega arith) e) ∙ sym (fields_with_step n v f fs p.0)

-- a name that is neither before another nor equal to it is behind it
behind : (a b : List ℕ) → is_before a b ≡ false → a ≢ b → cmp b a ≡ Less
behind a b h ne = by a b ne (cmp a b) refl h
  where
    by : (a b : List ℕ) → a ≢ b → (o : Ordering) → o ≡ cmp a b → is_lt o ≡ false → cmp b a ≡ Less
    by a b ne Less e h = absurd (cc)
    by a b ne Equal e h = absurd (ne (exact_bytes a b (sym e)))
    by a b ne Greater e h = nat_list_cmp_total.antisymm b a ∙ ap ordering_reverse (sym e)

pub insert-fields_with : {X : Type 0} (n : List ℕ) (v : X) (fs : List (List ℕ × X)) (k : ℕ) → Rises fs → Each (λ f. is_before f.0 n ≡ true) (take k fs) → k ≤ length fs → ((d : List ℕ × X) → k < length fs → (is_before (get_or fs k d).0 n ≡ false) × ((get_or fs k d).0 ≢ n)) → insert fs k (n, v) ≡ fields_with n v fs
insert-fields_with n v [] zero r p h e = refl
insert-fields_with n v [] (suc k) r p h e = absurd (omega arith)
insert-fields_with n v (f ∷ fs) zero r p h e =
    let now = e f (omega arith) in
    let less : cmp n f.0 ≡ Less = behind f.0 n now.0 now.1 in
    sym (fields_with_front n v (f ∷ fs) (less, less_trans_each n f.0 fs less r.0))
insert-fields_with n v (f ∷ fs) (suc k) r p h e = ap (λ gs. f ∷ gs) (insert-fields_with n v fs k r.1 p.1 (omega arith) (λ d l. e d (omega arith))) ∙ sym (fields_with_step n v f fs p.0)

-- the field at k has the name, and its value is written
pub set-fields_with : {X : Type 0} (n : List ℕ) (v : X) (fs : List (List ℕ × X)) (k : ℕ) (d e : List ℕ × X) → Rises fs → Each (λ f. is_before f.0 n ≡ true) (take k fs) → k < length fs → pointwise eqb (get_or fs k e).0 n ≡ true → set fs k ((get_or fs k d).0, v) ≡ fields_with n v fs
set-fields_with n v fs k d e r p h t =
    let same : (get_or fs k d).0 ≡ n = ap (λ f. f.0) (get_or_default fs k d e h) ∙ (bytes_eq-Decides _ _).0 t in
    rw same (set-fields_with_at n v fs k d r p h same)

-- the field at k, if there is one, has another name
pub insert-fields_with_other : {X : Type 0} (n : List ℕ) (v : X) (fs : List (List ℕ × X)) (k : ℕ) (e : List ℕ × X) → Rises fs → Each (λ f. is_before f.0 n ≡ true) (take k fs) → k < length fs → is_before (get_or fs k e).0 n ≡ false → pointwise eqb (get_or fs k e).0 n ≡ false → insert fs k (n, v) ≡ fields_with n v fs
insert-fields_with_other n v fs k e r p h b t =
    insert-fields_with n v fs k r p (omega arith) (λ d l. let same = get_or_default fs k d e h in rw same (b, λ q. absurd (true≢false (sym ((bytes_eq-Decides _ _).1 q) ∙ t))))

pub insert-fields_with_end : {X : Type 0} (n : List ℕ) (v : X) (fs : List (List ℕ × X)) (k : ℕ) → Rises fs → Each (λ f. is_before f.0 n ≡ true) (take k fs) → k ≡ length fs → insert fs k (n, v) ≡ fields_with n v fs
insert-fields_with_end n v fs k r p h = insert-fields_with n v fs k r p (omega arith) (λ d l. absurd (omega arith))

pub length-fields_with_set : {X : Type 0} (n : List ℕ) (v : X) (fs : List (List ℕ × X)) (k : ℕ) (d : List ℕ × X) → set fs k ((get_or fs k d).0, v) ≡ fields_with n v fs → length (fields_with n v fs) ≡ length fs
length-fields_with_set n v fs k d e = ap length (sym e) ∙ length-set fs k _

pub length-fields_with_insert : {X : Type 0} (n : List ℕ) (v : X) (fs : List (List ℕ × X)) (k : ℕ) → k ≤ length fs → insert fs k (n, v) ≡ fields_with n v fs → length (fields_with n v fs) ≡ length fs + 1
length-fields_with_insert n v fs k h e = ap length (sym e) ∙ grind (arith, places)

-- a field between fields before it and fields behind it
pub Rises-join : {X : Type 0} (n : List ℕ) (v : X) (xs ys : List (List ℕ × X)) → Rises xs → Each (λ f. cmp f.0 n ≡ Less) xs → Each (λ f. cmp n f.0 ≡ Less) ys → Rises ys → Rises (xs ++ (n, v) ∷ ys)
Rises-join n v [] ys r p q s = (q, s)
Rises-join n v (x ∷ xs) ys r p q s =
    (Each-append (λ g. cmp x.0 g.0 ≡ Less) xs ((n, v) ∷ ys) r.0 (p.0, less_trans_each x.0 n ys p.0 q), Rises-join n v xs ys r.1 p.1 q s)

Rises-kept : {X : Type 0} (f : List ℕ × X) (fs : List (List ℕ × X)) (b : Bool) → Each (λ g. cmp f.0 g.0 ≡ Less) fs → Rises fs → Rises (cond b (f ∷ fs) fs)
Rises-kept f fs true p r = (p, r)
Rises-kept f fs false p r = r

pub Rises-filter : {X : Type 0} (t : List ℕ × X → Bool) (fs : List (List ℕ × X)) → Rises fs → Rises (filter t fs)
Rises-filter t [] r = tt
Rises-filter t (f ∷ fs) r = Rises-kept f (filter t fs) (t f) (Each-filter (λ g. cmp f.0 g.0 ≡ Less) t fs r.0) (Rises-filter t fs r.1)

pub Rises-fields_with : {X : Type 0} (n : List ℕ) (v : X) (fs : List (List ℕ × X)) → Rises fs → Rises (fields_with n v fs)
Rises-fields_with n v fs r =
    Rises-join n v (filter (λ f. is_before f.0 n) fs) (filter (λ f. is_before n f.0) fs) (Rises-filter (λ f. is_before f.0 n) fs r)
    (Each-map (λ f. is_before f.0 n ≡ true) (λ f. cmp f.0 n ≡ Less) (λ f h. less_from_is_lt _ h) _ (Each-filtered (λ f. is_before f.0 n) fs))
    (Each-map (λ f. is_before n f.0 ≡ true) (λ f. cmp n f.0 ≡ Less) (λ f h. less_from_is_lt _ h) _ (Each-filtered (λ f. is_before n f.0) fs))
    (Rises-filter (λ f. is_before n f.0) fs r)

pub Each-fields_with : {X : Type 0} (P : X → Type 0) (n : List ℕ) (v : X) (fs : List (List ℕ × X)) → P v → Each (λ f. P f.1) fs → Each (λ f. P f.1) (fields_with n v fs)
Each-fields_with P n v fs h p =
    Each-append (λ f. P f.1) (filter (λ f. is_before f.0 n) fs) _ (Each-filter (λ f. P f.1) (λ f. is_before f.0 n) fs p) (h, Each-filter (λ f. P f.1) (λ f. is_before n f.0) fs p)

-- what holds of the old fields and of the new ones holds after the setting, whatever it answered
pub after_set : {T X : Type 0} (r : Result T CapsFault) (old new after : List (List ℕ × X)) (Q : List (List ℕ × X) → Type 0) → OnOk r (new ≡ after) → OnErr r (new ≡ old) → TooManyWhere r (64 < length after) → Q old → (length after ≤ 64 → Q after) → Q new
after_set (Ok u) old new after Q ok err many q p = subst Q (sym ok) (p (let few : (64 < length after) → ⊥ = many in omega arith))
after_set (Err e) old new after Q ok err many q p = subst Q (sym err) q
