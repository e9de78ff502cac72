-- The next cut point, by the bodies that are ahead.
use Rattle.std.proofs.Common.{◌≡◌, ◌⊎◌, ◌<◌, ◌≤◌, ℕ, ◌+◌, ◌*◌, Bool, true, false, if◌then◌else◌, eqb, ltb, List, [], ◌∷◌, Option, Some, None, length, drop, refl, ap, ◌∙◌, subst, inl, inr, length-append, length-drop, arith}
use Rattle.std.proofs.lemmas.Bool.{eq-eqb, ne_eqb, cases_lt, lt-ltb, le-ltb}
use Rattle.std.proofs.Math.Nat.{add-mul, le-div_iff_mul-le, div-le_of_le-mul, mul_comm}
use Rattle.std.proofs.lemmas.Option.{same_Some as some_is}
use Rattle.flow_model.specs.Item.{Item, is_eos}
use Rattle.flow_model.specs.Looking.{bytes_of}
use Rattle.el_mix.specs.Mono.{Mono, width}
use Rattle.el_mix.specs.Mixed.{has, frames, ends_at, is_cut, lesser, open_limit, longest, limit_by, limit}
use Rattle.el_mix.specs.Turns.{Ahead, least_of, next_cut, HasAhead, IsAhead}
use Rattle.el_mix.specs.Lined.{joined, ends_in, Lined, AllLined}
use Rattle.el_mix.proofs.Mixing.{width_some, HasFrames, AllHave}
use Rattle.el_mix.proofs.Ends.{ends_later, some_rest}

-- the first body is there, and has so many bytes
abbrev HasFirst : List (List ℕ) → Type 0
HasFirst [] = ⊥
HasFirst (b ∷ bs) = Unit {0}

abbrev pub IsFirst : ℕ → List (List ℕ) → Type 0
IsFirst n [] = ⊥
IsFirst n (b ∷ bs) = length b ≡ n

-- at some pad; at each one that did not end; at a pad that did not end none is there; and all pads ended and have none
abbrev pub Attains : ℕ → List Ahead → Type 0
Attains n [] = ⊥
Attains n (l ∷ ls) = IsFirst n l.1 ⊎ Attains n ls

abbrev AllServed : List Ahead → Type 0
AllServed [] = Unit {0}
AllServed (l ∷ ls) = ((l.0 ≡ true) ⊎ HasFirst l.1) × AllServed ls

abbrev Starved : List Ahead → Type 0
Starved [] = ⊥
Starved (l ∷ ls) = ((l.0 ≡ false) × (l.1 ≡ [])) ⊎ Starved ls

abbrev AllDone : List Ahead → Type 0
AllDone [] = Unit {0}
AllDone (l ∷ ls) = ((l.0 ≡ true) × (l.1 ≡ [])) × AllDone ls

-- the least so far
abbrev NotBelow : Option ℕ → ℕ → Type 0
NotBelow None n = Unit {0}
NotBelow (Some m) n = n ≤ m

least_before : (o : Option ℕ) (m n : ℕ) → NotBelow (least_of o m) n → NotBelow o n × (n ≤ m)
least_before None m n h = (tt, h)
least_before (Some k) m n h = go (cases_lt k m) h
  where
    go : ((k < m) ⊎ (m ≤ k)) → NotBelow (if ltb k m then Some k else Some m) n → (n ≤ k) × (n ≤ m)
    go (inl l) h = let h' : n ≤ k = rw (lt-ltb k m l) at h in (h', omega (arith, h', l))
    go (inr l) h = let h' : n ≤ m = rw (le-ltb k m l) at h in (omega (arith, h', l), h')

least_from : (o : Option ℕ) (m n : ℕ) → least_of o m ≡ Some n → (o ≡ Some n) ⊎ (m ≡ n)
least_from None m n e = inr (some_is m n e)
least_from (Some k) m n e = go (cases_lt k m) e
  where
    go : ((k < m) ⊎ (m ≤ k)) → (if ltb k m then Some k else Some m) ≡ Some n → (Some k ≡ Some n) ⊎ (m ≡ n)
    go (inl l) e = let e' : Some k ≡ Some n = rw (lt-ltb k m l) at e in inl e'
    go (inr l) e = let e' : Some m ≡ Some n = rw (le-ltb k m l) at e in inr (some_is m n e')

least_there : (o : Option ℕ) (m : ℕ) → least_of o m ≡ None → ⊥
least_there None m e = absurd (cc)
least_there (Some k) m e = go (cases_lt k m) e
  where
    go : ((k < m) ⊎ (m ≤ k)) → (if ltb k m then Some k else Some m) ≡ None → ⊥
    go (inl l) e = let e' : Some k ≡ None = rw (lt-ltb k m l) at e in absurd (cc)
    go (inr l) e = let e' : Some m ≡ None = rw (le-ltb k m l) at e in absurd (cc)

pub record Least (n : ℕ) (o : Option ℕ) (ls : List Ahead) : Type 0 where
  pub before : NotBelow o n
  pub ahead : IsAhead n ls
  pub served : AllServed ls
  pub attained : (o ≡ Some n) ⊎ Attains n ls

pub next_least : (n : ℕ) (o : Option ℕ) (ls : List Ahead) → next_cut o ls ≡ Some n → Least n o ls
next_least n None [] e = absurd (cc)
next_least n (Some m) [] e = let is = some_is m n e in record { before = omega (arith, is); ahead = tt; served = tt; attained = inl e }
next_least n o ((ended, b ∷ bs) ∷ ls) e = go (next_least n (least_of o (length b)) ls e)
  where
    found : (least_of o (length b) ≡ Some n) ⊎ Attains n ls → (o ≡ Some n) ⊎ ((length b ≡ n) ⊎ Attains n ls)
    found (inr a) = inr (inr a)
    found (inl s) = which (least_from o (length b) n s)
      where
        which : (o ≡ Some n) ⊎ (length b ≡ n) → (o ≡ Some n) ⊎ ((length b ≡ n) ⊎ Attains n ls)
        which (inl s) = inl s
        which (inr s) = inr (inl s)

    go : Least n (least_of o (length b)) ls → Least n o ((ended, b ∷ bs) ∷ ls)
    go r =
        let both = least_before o (length b) n r.before in
        record { before = both.0; ahead = (both.1, r.ahead); served = (inr tt, r.served); attained = found r.attained }
next_least n o ((true, []) ∷ ls) e = go (next_least n o ls e)
  where
    found : (o ≡ Some n) ⊎ Attains n ls → (o ≡ Some n) ⊎ (⊥ ⊎ Attains n ls)
    found (inl s) = inl s
    found (inr a) = inr (inr a)

    go : Least n o ls → Least n o ((true, []) ∷ ls)
    go r = record { before = r.before; ahead = (tt, r.ahead); served = (inl refl, r.served); attained = found r.attained }
next_least n o ((false, []) ∷ ls) e = absurd (cc)

pub next_none : (o : Option ℕ) (ls : List Ahead) → next_cut o ls ≡ None → Starved ls ⊎ ((o ≡ None) × AllDone ls)
next_none o [] e = inr (e, tt)
next_none o ((ended, b ∷ bs) ∷ ls) e = go (next_none (least_of o (length b)) ls e)
  where
    go : Starved ls ⊎ ((least_of o (length b) ≡ None) × AllDone ls) → Starved ((ended, b ∷ bs) ∷ ls) ⊎ ((o ≡ None) × AllDone ((ended, b ∷ bs) ∷ ls))
    go (inl s) = inl (inr s)
    go (inr d) = absurd (least_there o (length b) d.0)
next_none o ((true, []) ∷ ls) e = go (next_none o ls e)
  where
    go : Starved ls ⊎ ((o ≡ None) × AllDone ls) → Starved ((true, []) ∷ ls) ⊎ ((o ≡ None) × AllDone ((true, []) ∷ ls))
    go (inl s) = inl (inr s)
    go (inr d) = inr (d.0, ((refl, refl), d.1))
next_none o ((false, []) ∷ ls) e = inl (inl (refl, refl))

-- how many frames a pad has, by what is ahead
pub frames_ahead : (mono : Mono) (next n : ℕ) (b : List ℕ) (bs : List (List ℕ)) (xs : List Item) → Lined mono next (b ∷ bs) xs → n * width mono ≤ length b → next + n ≤ frames mono xs
frames_ahead mono next n b bs xs l h =
    let all = ap length l.bytes in
    let left = length-drop (next * width mono) (bytes_of xs) in
    let both = length-append b (joined bs) in
    let product = add-mul next n (width mono) in
    let some = (some_rest b bs l.some).0 in
    let low : (next + n) * width mono ≤ length (bytes_of xs) = omega (arith, all, left, both, product, some, h) in
    (le-div_iff_mul-le {k = width mono} {x = next + n} {y = length (bytes_of xs)} (width_some mono)).1 low

pub frames_none : (mono : Mono) (next : ℕ) (xs : List Item) → Lined mono next [] xs → frames mono xs ≤ next
frames_none mono next xs l =
    let all : length (drop (next * width mono) (bytes_of xs)) ≡ 0 = ap length l.bytes in
    let left = length-drop (next * width mono) (bytes_of xs) in
    let turned = mul_comm next (width mono) in
    div-le_of_le-mul (width mono) (omega (arith, all, left, turned))

-- no cut before the least first body ends, and one where it does
pub no_cut : (mono : Mono) (next n k : ℕ) (ls : List Ahead) (xss : List (List Item)) → AllLined mono next ls xss → IsAhead n ls → 0 < k → k * width mono < n
    → is_cut mono xss (next + k) ≡ false
no_cut mono next n k [] [] l a pos h = refl
no_cut mono next n k [] (xs ∷ xss) l a pos h = absurd l
no_cut mono next n k (l ∷ ls) [] r a pos h = absurd r
no_cut mono next n k ((ended, bs) ∷ ls) (xs ∷ xss) r a pos h =
    rw (r.0.1.ends k pos ∙ here bs a.0, no_cut mono next n k ls xss r.1 a.1 pos h) refl
  where
    here : (bs : List (List ℕ)) → HasAhead n bs → ends_in (width mono) 0 bs k ≡ false
    here [] a = refl
    here (b ∷ bs) a =
        let no : eqb (0 + length b) (k * width mono) ≡ false = ne_eqb (0 + length b) (k * width mono) (λ e. absurd (omega (arith, e, a, h))) in
        rw no (ends_later (width mono) (0 + length b) bs k (omega (arith, a, h)))

pub cut_at : (mono : Mono) (next f : ℕ) (ls : List Ahead) (xss : List (List Item)) → AllLined mono next ls xss → Attains (f * width mono) ls → 0 < f
    → is_cut mono xss (next + f) ≡ true
cut_at mono next f [] xss l a pos = absurd a
cut_at mono next f (l ∷ ls) [] r a pos = absurd r
cut_at mono next f ((ended, []) ∷ ls) (xs ∷ xss) r (inl a) pos = absurd a
cut_at mono next f ((ended, b ∷ bs) ∷ ls) (xs ∷ xss) r (inl a) pos =
    let is : eqb (0 + length b) (f * width mono) ≡ true = eq-eqb (0 + length b) (f * width mono) (omega (arith, a)) in
    let there : ends_at mono 0 xs (next + f) ≡ true = r.0.1.ends f pos ∙ rw is refl in
    rw there refl
cut_at mono next f (l ∷ ls) (xs ∷ xss) r (inr a) pos = either (ends_at mono 0 xs (next + f)) (cut_at mono next f ls xss r.1 a pos)
  where
    either : (b : Bool) → is_cut mono xss (next + f) ≡ true → (if b then true else is_cut mono xss (next + f)) ≡ true
    either true e = refl
    either false e = e

-- up to where frames are owed
abbrev IsAtMost : Option ℕ → ℕ → Type 0
IsAtMost None n = ⊥
IsAtMost (Some m) n = m ≤ n

starved_limit : (mono : Mono) (next : ℕ) (ls : List Ahead) (xss : List (List Item)) → AllLined mono next ls xss → Starved ls → IsAtMost (open_limit mono xss) next
starved_limit mono next [] xss r s = absurd s
starved_limit mono next (l ∷ ls) [] r s = absurd r
starved_limit mono next (l ∷ ls) (xs ∷ xss) r (inl s) =
    let open_is : has is_eos xs ≡ false = r.0.0 ∙ s.0 in
    let low = frames_none mono next xs (subst (λ bs. Lined mono next bs xs) s.1 r.0.1) in
    rw open_is (below (frames mono xs) (open_limit mono xss) low)
  where
    below : (n : ℕ) (o : Option ℕ) → n ≤ next → lesser n o ≤ next
    below n None h = h
    below n (Some m) h = omega (arith, h)
starved_limit mono next (l ∷ ls) (xs ∷ xss) r (inr s) = go (has is_eos xs) (open_limit mono xss) (starved_limit mono next ls xss r.1 s)
  where
    go : (b : Bool) (o : Option ℕ) → IsAtMost o next → IsAtMost (if b then o else Some (lesser (frames mono xs) o)) next
    go true o h = h
    go false None h = absurd h
    go false (Some m) h = omega (arith, h)

done_limit : (mono : Mono) (next : ℕ) (ls : List Ahead) (xss : List (List Item)) → AllLined mono next ls xss → AllDone ls → (open_limit mono xss ≡ None) × (longest mono xss ≤ next)
done_limit mono next [] [] r d = (refl, omega arith)
done_limit mono next [] (xs ∷ xss) r d = absurd r
done_limit mono next (l ∷ ls) [] r d = absurd r
done_limit mono next (l ∷ ls) (xs ∷ xss) r d =
    let ended : has is_eos xs ≡ true = r.0.0 ∙ d.0.0 in
    let low = frames_none mono next xs (subst (λ bs. Lined mono next bs xs) d.0.1 r.0.1) in
    let rest = done_limit mono next ls xss r.1 d.1 in
    (rw ended rest.0, omega (arith, low, rest.1))

abbrev no_number : Option ℕ
no_number = None

pub none_left : (mono : Mono) (next : ℕ) (ls : List Ahead) (xss : List (List Item)) → AllLined mono next ls xss → next_cut None ls ≡ None → limit mono xss ≤ next
none_left mono next ls xss r e = go (next_none None ls e)
  where
    by : (n : ℕ) (o : Option ℕ) → IsAtMost o next → limit_by n o ≤ next
    by n None h = absurd h
    by n (Some m) h = h

    go : Starved ls ⊎ ((no_number ≡ None) × AllDone ls) → limit mono xss ≤ next
    go (inl s) = by (longest mono xss) (open_limit mono xss) (starved_limit mono next ls xss r s)
    go (inr d) = let both = done_limit mono next ls xss r d.1 in rw both.0 both.1

pub have_ahead : (mono : Mono) (next f : ℕ) (ls : List Ahead) (xss : List (List Item)) → AllLined mono next ls xss → IsAhead (f * width mono) ls → AllServed ls
    → AllHave mono (next + f) xss
have_ahead mono next f [] [] r a s = tt
have_ahead mono next f [] (xs ∷ xss) r a s = absurd r
have_ahead mono next f (l ∷ ls) [] r a s = absurd r
have_ahead mono next f ((ended, bs) ∷ ls) (xs ∷ xss) r a s = (here bs r.0.1 a.0 s.0, have_ahead mono next f ls xss r.1 a.1 s.1)
  where
    here : (bs : List (List ℕ)) → Lined mono next bs xs → HasAhead (f * width mono) bs → (ended ≡ true) ⊎ HasFirst bs → HasFrames mono (next + f) xs
    here bs l a (inl e) = inl (r.0.0 ∙ e)
    here [] l a (inr e) = absurd e
    here (b ∷ bs) l a (inr e) = inr (frames_ahead mono next f b bs xs l a)
