-- Lists of what stands under numbers, and what is left of them where some was taken.
use Rattle.std.proofs.Common.{◌≡◌, ◌⊎◌, ◌==◌, ◌||◌, ℕ, zero, suc, Bool, true, false, eqb, List, [], ◌∷◌, ◌++◌, Option, None, Some, get_or, if◌then◌else◌, length, map, set, refl, sym, ap, ◌∙◌, subst, inl, inr, length-set}
use Rattle.std.specs.List.{list_any, range_with_len}
use Rattle.std.proofs.lemmas.Bool.Decides.{eqb_tells}
use Rattle.std.proofs.lemmas.List.FromFn.{fill_by_all}
use Rattle.flow_model.specs.Account.{IsMember}
use Rattle.graph_tasks.specs.Plan.{without}
use Rattle.graph_tasks.specs.Tasks.{IsOf}

map_same : {X Y : Type 0} (f g : X → Y) (xs : List X) → ((x : X) → f x ≡ g x) → map f xs ≡ map g xs
map_same f g [] same = refl
map_same {Y = Y} f g (x ∷ xs) same = ap (λ (y : Y). y ∷ map f xs) (same x) ∙ ap (λ (ys : List Y). g x ∷ ys) (map_same f g xs same)

module _ {A : Type 0} where
  set_here : (xs : List (Option A)) (n : ℕ) → get_or (set xs n None) n None ≡ None
  set_here [] n = refl
  set_here (x ∷ xs) zero = refl
  set_here (x ∷ xs) (suc n) = set_here xs n

  set_there : (xs : List (Option A)) (n k : ℕ) → (n ≡ k → ⊥) → get_or (set xs n None) k None ≡ get_or xs k None
  set_there [] n k other = refl
  set_there (x ∷ xs) zero zero other = absurd (other refl)
  set_there (x ∷ xs) zero (suc k) other = refl
  set_there (x ∷ xs) (suc n) zero other = refl
  set_there (x ∷ xs) (suc n) (suc k) other = set_there xs n k (λ same. other (ap suc same))

  -- where nothing was taken all is there
  pub without_none : (xs : List (Option A)) → without [] xs ≡ xs
  without_none xs = sym (fill_by_all (λ k. get_or xs k None) xs (length xs) None refl (λ k w. refl))

  -- what stands under a number behind that
  left_at : List ℕ → List (Option A) → ℕ → Option A
  left_at ns xs k = if list_any (λ n. n == k) ns then None else get_or xs k None

  none_left : (b : Bool) → ◌≡◌ {A = Option A} (if b then None else None) None
  none_left true = refl
  none_left false = refl

  one_left : (n : ℕ) (ns : List ℕ) (xs : List (Option A)) (k : ℕ) → left_at (n ∷ ns) xs k ≡ left_at ns (set xs n None) k
  unfolding left_at
  one_left n ns xs k = by (eqb_tells n k)
    where
      by : ((eqb n k ≡ true) × (n ≡ k)) ⊎ ((eqb n k ≡ false) × (n ≡ k → ⊥)) → (if (n == k) || list_any (λ m. m == k) ns then None else get_or xs k None) ≡ (if list_any (λ m. m == k) ns then None else get_or (set xs n None) k None)
      by (inl t) =
          ap (λ (b : Bool). if b || list_any (λ m. m == k) ns then None else get_or xs k None) t.0
          ∙ sym (ap (λ (x : Option A). if list_any (λ m. m == k) ns then None else x) (subst (λ (m : ℕ). get_or (set xs n None) m None ≡ None) t.1 (set_here xs n)) ∙ none_left (list_any (λ m. m == k) ns))
      by (inr f) =
          ap (λ (b : Bool). if b || list_any (λ m. m == k) ns then None else get_or xs k None) f.0
          ∙ sym (ap (λ (x : Option A). if list_any (λ m. m == k) ns then None else x) (set_there xs n k f.1))

  -- the first is taken, and then the others
  pub without_first : (n : ℕ) (ns : List ℕ) (xs : List (Option A)) → without (n ∷ ns) xs ≡ without ns (set xs n None)
  unfolding left_at
  without_first n ns xs =
      map_same (left_at (n ∷ ns) xs) (left_at ns (set xs n None)) (range_with_len 0 (length xs)) (one_left n ns xs)
      ∙ ap (λ (size : ℕ). map (left_at ns (set xs n None)) (range_with_len 0 size)) (sym (length-set xs n None))

  pub without_one : (n : ℕ) (xs : List (Option A)) → without (n ∷ []) xs ≡ set xs n None
  without_one n xs = without_first n [] xs ∙ without_none (set xs n None)

  pub without_more : (ns ms : List ℕ) (xs : List (Option A)) → without (ns ++ ms) xs ≡ without ms (without ns xs)
  without_more [] ms xs = ap (without ms) (sym (without_none xs))
  without_more (n ∷ ns) ms xs = without_first n (ns ++ ms) xs ∙ without_more ns ms (set xs n None) ∙ ap (without ms) (sym (without_first n ns xs))

  -- what stands there behind that stood there before
  set_stood : (xs : List (Option A)) (n k : ℕ) (x : A) → IsOf (set xs n None) k x → IsOf xs k x
  set_stood [] n k x at = at
  set_stood (y ∷ ys) zero zero x at = absurd (cc)
  set_stood (y ∷ ys) zero (suc k) x at = at
  set_stood (y ∷ ys) (suc n) zero x at = at
  set_stood (y ∷ ys) (suc n) (suc k) x at = set_stood ys n k x at

  pub without_stood : (ns : List ℕ) (xs : List (Option A)) (k : ℕ) (x : A) → IsOf (without ns xs) k x → IsOf xs k x
  without_stood [] xs k x at = subst (λ (ys : List (Option A)). IsOf ys k x) (without_none xs) at
  without_stood (n ∷ ns) xs k x at = set_stood xs n k x (without_stood ns (set xs n None) k x (subst (λ (ys : List (Option A)). IsOf ys k x) (without_first n ns xs) at))

  -- and what was not taken stands there still
  set_stays : (xs : List (Option A)) (n k : ℕ) (x : A) → (k ≡ n → ⊥) → IsOf xs k x → IsOf (set xs n None) k x
  set_stays [] n k x other at = at
  set_stays (y ∷ ys) zero zero x other at = absurd (other refl)
  set_stays (y ∷ ys) zero (suc k) x other at = at
  set_stays (y ∷ ys) (suc n) zero x other at = at
  set_stays (y ∷ ys) (suc n) (suc k) x other at = set_stays ys n k x (λ same. other (ap suc same)) at

  pub without_stays : (ns : List ℕ) (xs : List (Option A)) (k : ℕ) (x : A) → (IsMember k ns → ⊥) → IsOf xs k x → IsOf (without ns xs) k x
  without_stays [] xs k x other at = subst (λ (ys : List (Option A)). IsOf ys k x) (sym (without_none xs)) at
  without_stays (n ∷ ns) xs k x other at =
      subst (λ (ys : List (Option A)). IsOf ys k x) (sym (without_first n ns xs))
      (without_stays ns (set xs n None) k x (λ m. other (inr m)) (set_stays xs n k x (λ same. other (inl same)) at))

  -- one stands under a number
  pub one_of : (xs : List (Option A)) (n : ℕ) (x y : A) → IsOf xs n x → IsOf xs n y → x ≡ y
  one_of xs n x y at to = same (sym at ∙ to)
    where
      same : Some (Some x) ≡ Some (Some y) → x ≡ y
      same e = cc

  pub some_there : (xs : List (Option A)) (n : ℕ) (x : A) → IsOf xs n x → get_or xs n None ≡ Some x
  some_there [] n x at = absurd (cc)
  some_there (y ∷ ys) zero x at = cc
  some_there (y ∷ ys) (suc n) x at = some_there ys n x at

  pub there_some : (xs : List (Option A)) (n : ℕ) (x : A) → get_or xs n None ≡ Some x → IsOf xs n x
  there_some [] n x at = absurd (cc)
  there_some (y ∷ ys) zero x at = ap Some at
  there_some (y ∷ ys) (suc n) x at = there_some ys n x at
