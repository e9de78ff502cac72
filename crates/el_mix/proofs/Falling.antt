-- With each buffer fewer bytes are ahead.
use Rattle.std.proofs.Common.{◌≡◌, ◌⊎◌, ◌<◌, ◌≤◌, ℕ, ◌+◌, true, false, if◌then◌else◌, leb, List, [], ◌∷◌, ◌++◌, Some, None, length, drop, sym, subst, inl, inr, length-append, length-drop, arith}
use Rattle.std.proofs.lemmas.Bool.Decides.{leb_tells}
use Rattle.el_mix.specs.Line.{past}
use Rattle.el_mix.specs.Lined.{joined}
use Rattle.el_mix.specs.Turns.{Ahead, next_cut}
use Rattle.el_mix.proofs.Cutting.{IsFirst, Attains, next_least}
use Rattle.el_mix.proofs.Stepping.{all_past}

abbrev pub total : List Ahead → ℕ
total [] = 0
total (l ∷ ls) = length (joined l.1) + total ls

past_fewer : (n : ℕ) (bs : List (List ℕ)) → length (joined (past n bs)) ≤ length (joined bs)
past_fewer n [] = omega arith
past_fewer n (b ∷ bs) = go (leb_tells (length b) n)
  where
    go : ((leb (length b) n ≡ true) × (length b ≤ n)) ⊎ ((leb (length b) n ≡ false) × (n < length b))
        → length (joined (if leb (length b) n then bs else drop n b ∷ bs)) ≤ length (b ++ joined bs)
    go (inl t) = rw t.0 (let all = length-append b (joined bs) in omega (arith, all))
    go (inr t) =
        let all = length-append b (joined bs) in
        let rest = length-append (drop n b) (joined bs) in
        let fewer = length-drop n b in
        rw t.0 (omega (arith, all, rest, fewer))

past_first : (n : ℕ) (bs : List (List ℕ)) → 0 < n → IsFirst n bs → length (joined (past n bs)) < length (joined bs)
past_first n [] some f = absurd f
past_first n (b ∷ bs) some f = go (leb_tells (length b) n)
  where
    go : ((leb (length b) n ≡ true) × (length b ≤ n)) ⊎ ((leb (length b) n ≡ false) × (n < length b))
        → length (joined (if leb (length b) n then bs else drop n b ∷ bs)) < length (b ++ joined bs)
    go (inl t) = rw t.0 (let all = length-append b (joined bs) in omega (arith, all, f, some))
    go (inr t) = absurd (omega (arith, t.1, f))

total_fewer : (n : ℕ) (ls : List Ahead) → total (all_past n ls) ≤ total ls
total_fewer n [] = omega arith
total_fewer n (l ∷ ls) = let here = past_fewer n l.1 in let rest = total_fewer n ls in omega (arith, here, rest)

attained_fewer : (n : ℕ) (ls : List Ahead) → 0 < n → Attains n ls → total (all_past n ls) < total ls
attained_fewer n [] some a = absurd a
attained_fewer n (l ∷ ls) some (inl f) = let here = past_first n l.1 some f in let rest = total_fewer n ls in omega (arith, here, rest)
attained_fewer n (l ∷ ls) some (inr a) = let here = past_fewer n l.1 in let rest = attained_fewer n ls some a in omega (arith, here, rest)

pub falls : (n : ℕ) (ls ms : List Ahead) → next_cut None ls ≡ Some n → 0 < n → ms ≡ all_past n ls → total ms < total ls
falls n ls ms e some is = subst (λ ks. total ks < total ls) (sym is) (go (next_least n None ls e).attained)
  where
    go : (None ≡ Some n) ⊎ Attains n ls → total (all_past n ls) < total ls
    go (inl s) = absurd (cc)
    go (inr a) = attained_fewer n ls some a
