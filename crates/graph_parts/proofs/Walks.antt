-- A walk over the numbers of a tree: those that were found, the latest first, and those that are next.
use Rattle.std.proofs.Common.{◌≡◌, ◌≤◌, ◌⊎◌, ℕ, List, [], ◌∷◌, ◌++◌, length, length-append, refl, sym, subst, inl, inr, arith}
use Rattle.flow_model.specs.Account.{IsMember}
use Rattle.graph_parts.specs.Bags.{Once}
use Rattle.graph_parts.proofs.Onces.{in_front, in_back, in_either, once_front, once_back, once_apart, once_append, fits}

-- What each number leads to, none leads to twice, and nothing leads to the head.
pub record IsTree (leads : ℕ → List ℕ) (head : ℕ) : Type 0 where
  pub each : (a : ℕ) → Once (leads a)
  pub one : (a b d : ℕ) → IsMember d (leads a) → IsMember d (leads b) → a ≡ b
  pub no_head : (a : ℕ) → IsMember head (leads a) → ⊥

-- the number was led to by one that was found, or is the head
abbrev pub ComesFrom : (ℕ → List ℕ) → ℕ → List ℕ → ℕ → Type 0
ComesFrom leads head found d = (d ≡ head) ⊎ ((a : ℕ) × IsMember a found × IsMember d (leads a))

-- What was found and what is next is reached, each once; and all that was led to is among them.
pub record Walked (Reached : ℕ → Type 0) (leads : ℕ → List ℕ) (head : ℕ) (next found : List ℕ) : Type 0 where
  pub first : IsMember head (found ++ next)
  pub from : (d : ℕ) → IsMember d (found ++ next) → ComesFrom leads head found d
  pub reached : (d : ℕ) → IsMember d (found ++ next) → Reached d
  pub closed : (a d : ℕ) → IsMember a found → IsMember d (leads a) → IsMember d (found ++ next)
  pub once : Once (found ++ next)

pub walk_begins : (Reached : ℕ → Type 0) (leads : ℕ → List ℕ) (head : ℕ) → Reached head → Walked Reached leads head (head ∷ []) []
walk_begins Reached leads head r = record {
  first = inl refl;
  from = λ d m. by d m;
  reached = λ d m. is d m;
  closed = λ a d m n. absurd m;
  once = (λ m. m, tt);
}
  where
    by : (d : ℕ) → IsMember d (head ∷ []) → ComesFrom leads head [] d
    by d (inl same) = inl same
    by d (inr m) = absurd m

    is : (d : ℕ) → IsMember d (head ∷ []) → Reached d
    is d (inl same) = subst Reached (sym same) r
    is d (inr m) = absurd m

module _ (Reached : ℕ → Type 0) (leads : ℕ → List ℕ) (head : ℕ) (rest : List ℕ) (e : ℕ) (found : List ℕ) (tree : IsTree leads head)
    (further : (a d : ℕ) → Reached a → IsMember d (leads a) → Reached d) (w : Walked Reached leads head (rest ++ e ∷ []) found) where
  Old : ℕ → Type 0
  Old d = IsMember d (found ++ (rest ++ e ∷ []))

  New : ℕ → Type 0
  New d = IsMember d (e ∷ (found ++ (rest ++ leads e)))

  own : Old e
  unfolding Old
  own = in_back e found (rest ++ e ∷ []) (in_back e rest (e ∷ []) (inl refl))

  more : (d : ℕ) → Old d → New d
  unfolding Old New
  more d m = go (in_either d found (rest ++ e ∷ []) m)
    where
      last : IsMember d rest ⊎ IsMember d (e ∷ []) → IsMember d (e ∷ (found ++ (rest ++ leads e)))
      last (inl m) = inr (in_back d found (rest ++ leads e) (in_front d rest (leads e) m))
      last (inr (inl same)) = inl same
      last (inr (inr m)) = absurd m

      go : IsMember d found ⊎ IsMember d (rest ++ e ∷ []) → IsMember d (e ∷ (found ++ (rest ++ leads e)))
      go (inl m) = inr (in_front d found (rest ++ leads e) m)
      go (inr m) = last (in_either d rest (e ∷ []) m)

  led : (d : ℕ) → IsMember d (leads e) → New d
  unfolding New
  led d m = inr (in_back d found (rest ++ leads e) (in_back d rest (leads e) m))

  split : (d : ℕ) → New d → Old d ⊎ IsMember d (leads e)
  unfolding Old New
  split d (inl same) = inl (subst (λ (k : ℕ). IsMember k (found ++ (rest ++ e ∷ []))) (sym same) (in_back e found (rest ++ e ∷ []) (in_back e rest (e ∷ []) (inl refl))))
  split d (inr m) = go (in_either d found (rest ++ leads e) m)
    where
      last : IsMember d rest ⊎ IsMember d (leads e) → IsMember d (found ++ (rest ++ e ∷ [])) ⊎ IsMember d (leads e)
      last (inl m) = inl (in_back d found (rest ++ e ∷ []) (in_front d rest (e ∷ []) m))
      last (inr m) = inr m

      go : IsMember d found ⊎ IsMember d (rest ++ leads e) → IsMember d (found ++ (rest ++ e ∷ [])) ⊎ IsMember d (leads e)
      go (inl m) = inl (in_front d found (rest ++ e ∷ []) m)
      go (inr m) = last (in_either d rest (leads e) m)

  -- what it leads to is new
  fresh : (d : ℕ) → IsMember d (leads e) → Old d → ⊥
  unfolding Old
  fresh d m old = go (w.from d old)
    where
      go : ComesFrom leads head found d → ⊥
      go (inl same) = tree.no_head e (subst (λ (k : ℕ). IsMember k (leads e)) same m)
      go (inr (a, was, by)) =
          once_apart found (rest ++ e ∷ []) w.once e (subst (λ (k : ℕ). IsMember k found) (tree.one a e d by m) was) (in_back e rest (e ∷ []) (inl refl))

  from_new : (d : ℕ) → New d → ComesFrom leads head (e ∷ found) d
  unfolding Old
  from_new d m = go (split d m)
    where
      longer : ComesFrom leads head found d → ComesFrom leads head (e ∷ found) d
      longer (inl same) = inl same
      longer (inr (a, was, by)) = inr (a, inr was, by)

      go : Old d ⊎ IsMember d (leads e) → ComesFrom leads head (e ∷ found) d
      go (inl m) = longer (w.from d m)
      go (inr m) = inr (e, inl refl, m)

  reached_new : (d : ℕ) → New d → Reached d
  unfolding Old
  reached_new d m = go (split d m)
    where
      go : Old d ⊎ IsMember d (leads e) → Reached d
      go (inl m) = w.reached d m
      go (inr m) = further e d (w.reached e own) m

  closed_new : (a d : ℕ) → IsMember a (e ∷ found) → IsMember d (leads a) → New d
  unfolding Old
  closed_new a d (inl same) m = led d (subst (λ (k : ℕ). IsMember d (leads k)) same m)
  closed_new a d (inr was) m = more d (w.closed a d was m)

  once_new : Once (e ∷ (found ++ (rest ++ leads e)))
  unfolding Old
  once_new =
      let last = once_back found (rest ++ e ∷ []) w.once in (
        λ m. again (in_either e found (rest ++ leads e) m),
        once_append found (rest ++ leads e) (once_front found (rest ++ e ∷ []) w.once)
            (once_append rest (leads e) (once_front rest (e ∷ []) last) (tree.each e) (λ d m n. fresh d n (in_back d found (rest ++ e ∷ []) (in_front d rest (e ∷ []) m))))
            (λ d m n. apart d m (in_either d rest (leads e) n)),
      )
    where
      apart : (d : ℕ) → IsMember d found → IsMember d rest ⊎ IsMember d (leads e) → ⊥
      apart d m (inl n) = once_apart found (rest ++ e ∷ []) w.once d m (in_front d rest (e ∷ []) n)
      apart d m (inr n) = fresh d n (in_front d found (rest ++ e ∷ []) m)

      later : IsMember e rest ⊎ IsMember e (leads e) → ⊥
      later (inl m) = once_apart rest (e ∷ []) (once_back found (rest ++ e ∷ []) w.once) e m (inl refl)
      later (inr m) = fresh e m own

      again : IsMember e found ⊎ IsMember e (rest ++ leads e) → ⊥
      again (inl m) = once_apart found (rest ++ e ∷ []) w.once e m (in_back e rest (e ∷ []) (inl refl))
      again (inr m) = later (in_either e rest (leads e) m)

  -- one step of the walk
  pub walk_goes : Walked Reached leads head (rest ++ leads e) (e ∷ found)
  unfolding Old New
  walk_goes = record { first = more head w.first; from = from_new; reached = reached_new; closed = closed_new; once = once_new }

empty_by : (xs : List ℕ) → length xs ≤ 0 → xs ≡ []
empty_by [] w = refl
empty_by (x ∷ xs) w = absurd (omega (arith, w))

-- where as many were found as there are, none is next
pub walk_ends : (Reached : ℕ → Type 0) (leads : ℕ → List ℕ) (head : ℕ) (next found order : List ℕ) → Walked Reached leads head next found → ((d : ℕ) → Reached d → IsMember d order)
    → length found ≡ length order → next ≡ []
walk_ends Reached leads head next found order w all same =
    let few = fits (found ++ next) order w.once (λ d m. all d (w.reached d m)) in
    let size = length-append found next in
    empty_by next (omega (arith, few, size, same))
