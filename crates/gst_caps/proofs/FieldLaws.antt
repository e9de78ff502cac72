-- A meet of two structures takes what both take.
use Rattle.std.proofs.Common.{◌≡◌, ℕ, Bool, true, false, cond, ◌&&◌, List, [], ◌∷◌, ◌++◌, Option, Some, None, refl, sym, ap, ◌∙◌, subst}
use Rattle.std.specs.List.{filter, list_any, list_all}
use Rattle.std.specs.Option.{option_map_or}
use Rattle.std.specs.Str.{bytes_eq}
use Rattle.std.specs.Ordering.{is_lt}
use Rattle.std.specs.declared.cmp.Ordering.{Ordering}
use Rattle.std.specs.declared.cmp.Ordering.TheVariants.{Less, Equal, Greater}
use Rattle.std.proofs.lemmas.Map.Lookups.{exact_bytes}
use Rattle.std.proofs.lemmas.Slice.Eq.{bytes_eq-Decides}
use mathlib.Core.Bool.{true≢false}
use Rattle.gst_value.proofs.NamesInOrder.{cmp, less_trans_each, not_before, same_not_before, filter-all_behind, filter-none_before, Rises-filter}
use Rattle.gst_caps.proofs.Steps.{greater_less, value_at_behind, value_at_same, value_at_skip}
use Rattle.gst_value.proofs.Laws.{and_false, any_pairs}
use Rattle.gst_caps.proofs.Laws.{value_law, meet_at}
use Rattle.gst_caps.specs.Accepts.{value_at, each_at, contains_given, takes, agrees, structures_meet, narrowed, merged, meet, all_meets}
use Rattle.gst_caps.specs.Common.{common, as_value}
use Rattle.gst_value.specs.Description.{Description}
use Rattle.gst_caps.specs.Description.{IsStructure}
use Rattle.gst_value.specs.Names.{Each, Rises, is_before}
use Rattle.gst_value.specs.declared.one.One.{One}
use Rattle.gst_caps.specs.declared.value.Value.{Value}
use Rattle.gst_value.proofs.Basics.{and_left, and_right, and_both as and_true}

all-append : (t : List ℕ × Value → Bool) (xs ys : List (List ℕ × Value)) → list_all t (xs ++ ys) ≡ (list_all t xs && list_all t ys)
all-append t [] ys = refl
all-append t (x ∷ xs) ys = ap (λ b. t x && b) (all-append t xs ys) ∙ join (t x) (list_all t xs) (list_all t ys)
  where
    join : (a b c : Bool) → (a && (b && c)) ≡ ((a && b) && c)
    join true b c = refl
    join false b c = refl

and_assoc : (a b c : Bool) → (a && (b && c)) ≡ ((a && b) && c)
and_assoc true b c = refl
and_assoc false b c = refl

-- the test of the field of this name, where there is one
abbrev at_name : (List ℕ × Value → Bool) → List ℕ → List (List ℕ × Value) → Bool
at_name t n gs = option_map_or (λ w. t (n, w)) (value_at n gs) true

-- fields before a name, at it and behind it are all fields
module _ (t : List ℕ × Value → Bool) (n : List ℕ) where
  split_by : (g : List ℕ × Value) (gs : List (List ℕ × Value)) (o : Ordering) → cmp g.0 n ≡ o → Each (λ x. cmp g.0 x.0 ≡ Less) gs
      → list_all t gs ≡ (list_all t (filter (λ x. is_before x.0 n) gs) && (at_name t n gs && list_all t (filter (λ x. is_before n x.0) gs)))
      → list_all t (g ∷ gs) ≡ (list_all t (filter (λ x. is_before x.0 n) (g ∷ gs)) && (at_name t n (g ∷ gs) && list_all t (filter (λ x. is_before n x.0) (g ∷ gs))))
  split_by g gs Less e p ih =
      rw (ap is_lt e, not_before g.0 n e, value_at_skip n g gs e) (ap (λ b. t g && b) ih ∙ and_assoc (t g) _ _)
  split_by g gs Equal e p ih =
      let same : g.0 ≡ n = exact_bytes g.0 n e in
      let P : List ℕ → Type 0 = λ m. Each (λ x. cmp m x.0 ≡ Less) gs in
      let later : Each (λ x. cmp n x.0 ≡ Less) gs = subst P same p in
      let back : is_before n g.0 ≡ false = ap (is_before n) same ∙ same_not_before n in
      rw (ap is_lt e, back, value_at_same n g gs e, filter-none_before n gs later, filter-all_behind n gs later) (ap (λ m. t (m, g.1) && list_all t gs) same)
  split_by g gs Greater e p ih =
      let less : cmp n g.0 ≡ Less = greater_less g.0 n e in
      let later : Each (λ x. cmp n x.0 ≡ Less) gs = less_trans_each n g.0 gs less p in
      let none = value_at_behind n (g ∷ gs) (less, later) in
      rw (none, ap is_lt e, ap is_lt less, filter-none_before n gs later, filter-all_behind n gs later) refl

  split_all : (gs : List (List ℕ × Value)) → Rises gs → list_all t gs ≡ (list_all t (filter (λ x. is_before x.0 n) gs) && (at_name t n gs && list_all t (filter (λ x. is_before n x.0) gs)))
  split_all [] r = refl
  split_all (g ∷ gs) r = split_by g gs (cmp g.0 n) refl r.0 (split_all gs r.1)

-- a field of the merged list passes where those of both pass
module _ (x : Description One) where
  abbrev given : List ℕ × Value → Bool
  given f = contains_given f.1 (value_at f.0 x.fields)

  both_given : (v w : Value) (o : Option One) → contains_given (as_value (common v w)) o ≡ (contains_given v o && contains_given w o)
  both_given v w None = refl
  both_given v w (Some one) = value_law v w one

  and_always : (a : Bool) → a ≡ (a && true)
  and_always true = refl
  and_always false = refl

  narrowed_given : (n : List ℕ) (v : Value) (o : Option Value) → given (n, narrowed v o) ≡ (given (n, v) && option_map_or (λ w. given (n, w)) o true)
  narrowed_given n v None = and_always (given (n, v))
  narrowed_given n v (Some w) = both_given v w (value_at n x.fields)

  regroup : (a b c d e : Bool) → (a && ((b && c) && (d && e))) ≡ ((b && d) && (a && (c && e)))
  regroup true true true d e = refl
  regroup true true false d e = sym (and_false d)
  regroup true false c d e = refl
  regroup false b c d e = sym (and_false (b && d))

  -- the merged fields take what the fields of both take
  merged_law : (fs gs : List (List ℕ × Value)) → Rises fs → Rises gs → list_all given (merged fs gs) ≡ (list_all given fs && list_all given gs)
  merged_law [] gs r s = refl
  merged_law (f ∷ fs) gs r s =
      let later : List (List ℕ × Value) = filter (λ g. is_before f.0 g.0) gs in
      let rest : list_all given (merged fs later) ≡ (list_all given fs && list_all given later) = merged_law fs later r.1 (Rises-filter (λ g. is_before f.0 g.0) gs s) in
      all-append given (filter (λ g. is_before g.0 f.0) gs) _
      ∙ (λ i. list_all given (filter (λ g. is_before g.0 f.0) gs) && (narrowed_given f.0 f.1 (value_at f.0 gs) i && rest i))
      ∙ regroup (list_all given (filter (λ g. is_before g.0 f.0) gs)) (given f) (at_name given f.0 gs) (list_all given fs) (list_all given later)
      ∙ ap (λ b. (given f && list_all given fs) && b) (sym (split_all given f.0 gs s))

  given_either : (n : List ℕ) (g : List ℕ × Value) (gs : List (List ℕ × Value)) (w : Value) (b : Bool) → bytes_eq g.0 n ≡ b → given g ≡ true → (value_at n gs ≡ Some w → given (n, w) ≡ true) → cond b (Some g.1) (value_at n gs) ≡ Some w → given (n, w) ≡ true
  given_either n g gs w true e h r k =
      let value : g.1 ≡ w = cc in
      let name : g.0 ≡ n = (bytes_eq-Decides g.0 n).0 e in
      (λ i. given (sym name i, sym value i)) ∙ h
  given_either n g gs w false e h r k = r k

  given_at : (n : List ℕ) (gs : List (List ℕ × Value)) (w : Value) → list_all given gs ≡ true → value_at n gs ≡ Some w → given (n, w) ≡ true
  given_at n [] w h e = absurd (cc)
  given_at n (g ∷ gs) w h e = given_either n g gs w (bytes_eq g.0 n) refl (and_left (given g) _ h) (given_at n gs w (and_right (given g) _ h)) e

  agree_one : (v : Value) (o : Option Value) (one : Option One) → contains_given v one ≡ true → ((w : Value) → o ≡ Some w → contains_given w one ≡ true) → agrees v o ≡ true
  agree_one v None one h k = refl
  agree_one v (Some w) None h k = absurd (true≢false (sym h))
  agree_one v (Some w) (Some one) h k = meet_at v w one h (k w refl)

  agree_from : (fs gs : List (List ℕ × Value)) → list_all given fs ≡ true → list_all given gs ≡ true → each_at agrees fs gs ≡ true
  agree_from [] gs h k = refl
  agree_from (f ∷ fs) gs h k =
      and_true _ _ (agree_one f.1 (value_at f.0 gs) (value_at f.0 x.fields) (and_left (given f) _ h) (λ w. given_at f.0 gs w k)) (agree_from fs gs (and_right (given f) _ h) k)

  share : (m a b : Bool) → (m && (a && b)) ≡ ((m && a) && (m && b))
  share true a b = refl
  share false a b = refl

  neither : (a b : Bool) → (a ≡ true → b ≡ true → ⊥) → false ≡ (a && b)
  neither true true f = absurd (f refl refl)
  neither true false f = refl
  neither false b f = refl

  pair_at : (s t : Description Value) (b : Bool) → IsStructure s → IsStructure t → structures_meet s t ≡ b → option_map_or (λ u. takes u x) (cond b (Some (record { media = s.media; fields = merged s.fields t.fields })) None) false ≡ (takes s x && takes t x)
  pair_at s t true p q e =
      let media : s.media ≡ t.media = (bytes_eq-Decides s.media t.media).0 (and_left (bytes_eq s.media t.media) _ e) in
      ap (λ c. bytes_eq s.media x.media && c) (merged_law s.fields t.fields p.ordered q.ordered)
      ∙ share (bytes_eq s.media x.media) (list_all given s.fields) (list_all given t.fields)
      ∙ ap (λ m. (bytes_eq s.media x.media && list_all given s.fields) && (bytes_eq m x.media && list_all given t.fields)) media
  pair_at s t false p q e =
      neither (takes s x) (takes t x) (λ h k.
      let one : s.media ≡ x.media = (bytes_eq-Decides s.media x.media).0 (and_left (bytes_eq s.media x.media) _ h) in
      let two : t.media ≡ x.media = (bytes_eq-Decides t.media x.media).0 (and_left (bytes_eq t.media x.media) _ k) in
      let media : bytes_eq s.media t.media ≡ true = (bytes_eq-Decides s.media t.media).1 (one ∙ sym two) in
      let agree : each_at agrees s.fields t.fields ≡ true = agree_from s.fields t.fields (and_right (bytes_eq s.media x.media) _ h) (and_right (bytes_eq t.media x.media) _ k) in
      true≢false (sym (and_true _ _ media agree) ∙ e))

  -- the meet of two structures takes what both take
  pub pair_law : (s t : Description Value) → IsStructure s → IsStructure t → option_map_or (λ u. takes u x) (meet s t) false ≡ (takes s x && takes t x)
  pair_law s t p q = pair_at s t (structures_meet s t) p q refl

  pub meets_law : (ss ts : List (Description Value)) → Each IsStructure ss → Each IsStructure ts → list_any (λ u. takes u x) (all_meets ss ts) ≡ (list_any (λ u. takes u x) ss && list_any (λ u. takes u x) ts)
  meets_law ss ts p q = any_pairs (λ u. takes u x) meet IsStructure (λ s t. pair_law s t) ss ts p q
