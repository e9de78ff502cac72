-- Flags by place, and what they tell.
use Rattle.std.proofs.Common.{◌≡◌, ◌⊎◌, ◌<◌, ◌+◌, ◌++◌, ℕ, zero, suc, Bool, true, false, List, [], ◌∷◌, length, get_or, drop, if◌then◌else◌, append_assoc, Some, refl, sym, ap, ◌∙◌, subst, inl, inr, arith}
use Rattle.std.specs.Prelude.{slice_get, slice_set}
use Rattle.std.proofs.lemmas.Bool.{cases_eq}
use Rattle.std.proofs.lemmas.List.{drop_more}
use Rattle.flow_model.specs.declared.element.TaskElement as elements
use Rattle.task_parts.specs.declared.part.Part.{Part}
use Rattle.task_pads.proofs.Lists.{set_there}
use Rattle.gst_value.proofs.Basics.{some_same}
use Rattle.net_groups.proofs.Lists.{append_back}
use Rattle.net_groups.specs.Behind.{AreParted, none, stays, goes, FlaggedAt, IsBehind, itself, further, IsLed, first, led, IsNext, LeadTo, NoneIsNext, NoneSet, TellBehind, flagged, unflagged, unmarked}

-- the flag of a place
pub flag_at : (flags : List Bool) (k : ℕ) (b : Bool) → k < length flags → get_or flags k false ≡ b → slice_get flags k ≡ Some b
flag_at [] k b within is = absurd (omega (arith, within))
flag_at (f ∷ fs) zero b within is = ap (λ (x : Bool). Some x) is
flag_at (f ∷ fs) (suc k) b within is = flag_at fs k b (omega (arith, within)) is

-- no flag is set where there is none, nor where one more comes that is not
pub none_set : (flags : List Bool) → flags ≡ [] → NoneSet flags
none_set flags is k at = let same = sym (ap (λ (fs : List Bool). slice_get fs k) is) ∙ at in cc

pub none_set_next : (flags flags' : List Bool) → flags' ≡ flags ++ false ∷ [] → NoneSet flags → NoneSet flags'
none_set_next flags flags' is unset k at = go (append_back flags (false ∷ []) k true (ap (λ (fs : List Bool). slice_get fs k) (sym is) ∙ at))
  where
    last : (j : ℕ) → slice_get (false ∷ []) j ≡ Some true → ⊥
    last zero got = let same : false ≡ true = some_same got in cc
    last (suc j) got = cc

    go : ((k < length flags) × (slice_get flags k ≡ Some true)) ⊎ ((j : ℕ) × (k ≡ length flags + j) × (slice_get (false ∷ []) j ≡ Some true)) → ⊥
    go (inl z) = unset k z.1
    go (inr z) = last z.0 z.2

-- one place more has a flag
pub marked_fewer : (flags : List Bool) (k : ℕ) → slice_get flags k ≡ Some false → unmarked (slice_set flags k true) < unmarked flags
marked_fewer [] k at = absurd cc
marked_fewer (f ∷ fs) zero at = let is : f ≡ false = some_same at in rw is (omega arith)
marked_fewer (true ∷ fs) (suc k) at = marked_fewer fs k at
marked_fewer (false ∷ fs) (suc k) at = let z = marked_fewer fs k at in omega (arith, z)

module _ {E O : Type 0} {e : elements.Ghosts E} (parts : List (Part E O e)) (n : ℕ) where
  -- what has a flag is behind the element
  pub next_behind : (flags : List Bool) (place : ℕ) → ((k : ℕ) (part : Part E O e) → slice_get parts k ≡ Some part → slice_get flags k ≡ Some true → IsBehind parts n part.number) → (next : IsNext parts flags n place) → IsBehind parts n next.part.number
  next_behind flags place sound next = go next.leads
    where
      go : IsLed parts flags n next.part.number → IsBehind parts n next.part.number
      go (first same) = subst (λ (m : ℕ). IsBehind parts n m) (sym same) itself
      go (led l) = further l.1.part.number next.part.number (sound l.0 l.1.part l.1.at l.1.flag) (record { place = l.0; part = l.1.part; at = l.1.at; number = refl; port = l.1.port; lead = l.1.lead })

  pub flag_of : (flags : List Bool) (k : ℕ) (part : Part E O e) → length flags ≡ length parts → slice_get parts k ≡ Some part → (slice_get flags k ≡ Some true) ⊎ (slice_get flags k ≡ Some false)
  flag_of flags k part size at = go flags parts k size at
    where
      go : (flags : List Bool) (parts : List (Part E O e)) (k : ℕ) → length flags ≡ length parts → slice_get parts k ≡ Some part → (slice_get flags k ≡ Some true) ⊎ (slice_get flags k ≡ Some false)
      go [] [] k size at = absurd cc
      go [] (p ∷ ps) k size at = absurd (omega (arith, size))
      go (f ∷ fs) [] k size at = absurd (omega (arith, size))
      go (true ∷ fs) (p ∷ ps) zero size at = inl refl
      go (false ∷ fs) (p ∷ ps) zero size at = inr refl
      go (f ∷ fs) (p ∷ ps) (suc k) size at = go fs ps k (omega (arith, size)) at

  -- where none is next, what is behind the element has a flag
  no_other : (flags : List Bool) → length flags ≡ length parts → NoneIsNext parts flags n → (m : ℕ) → IsBehind parts n m → (k : ℕ) (part : Part E O e) → slice_get parts k ≡ Some part → part.number ≡ m → slice_get flags k ≡ Some false → ⊥
  no_other flags size never m itself k part at number flag = never k (record { part = part; at = at; flag = flag; leads = first number })
  no_other flags size never m (further a next b step) k part at number flag =
      go (flag_of flags step.place step.part size step.at) (λ other. no_other flags size never a b step.place step.part step.at step.number other)
    where
      go : (slice_get flags step.place ≡ Some true) ⊎ (slice_get flags step.place ≡ Some false) → (slice_get flags step.place ≡ Some false → ⊥) → ⊥
      go (inl yes_flag) other = never k (record { part = part; at = at; flag = flag; leads = led (step.place, record { part = step.part; at = step.at; flag = yes_flag; port = step.port; lead = subst (λ (x : ℕ). LeadTo step.part.pads.items x step.port) (sym number) step.lead }) })
      go (inr no_flag) other = other no_flag

  pub all_told : (flags : List Bool) → length flags ≡ length parts → NoneIsNext parts flags n → ((k : ℕ) (part : Part E O e) → slice_get parts k ≡ Some part → slice_get flags k ≡ Some true → IsBehind parts n part.number) → TellBehind parts n flags
  all_told flags size never sound = record { behind = sound; others = λ k part at flag behind. no_other flags size never part.number behind k part at refl flag }

-- what flags tell parts a list
pub dealt : {A : Type 0} (P : A → Type 0) (flags : List Bool) (xs : List A) → length flags ≡ length xs → ((k : ℕ) (x : A) → slice_get xs k ≡ Some x → slice_get flags k ≡ Some true → P x) → ((k : ℕ) (x : A) → slice_get xs k ≡ Some x → slice_get flags k ≡ Some false → P x → ⊥)
    → AreParted P xs (unflagged flags xs) (flagged flags xs)
dealt P [] [] size yes_all no_all = none
dealt P [] (x ∷ xs) size yes_all no_all = absurd (omega (arith, size))
dealt P (f ∷ fs) [] size yes_all no_all = absurd (omega (arith, size))
dealt P (true ∷ fs) (x ∷ xs) size yes_all no_all = goes (yes_all 0 x refl refl) (dealt P fs xs (omega (arith, size)) (λ k y. yes_all (suc k) y) (λ k y. no_all (suc k) y))
dealt P (false ∷ fs) (x ∷ xs) size yes_all no_all = stays (no_all 0 x refl refl) (dealt P fs xs (omega (arith, size)) (λ k y. yes_all (suc k) y) (λ k y. no_all (suc k) y))

pub not_led : {E O : Type 0} {e : elements.Ghosts E} (parts : List (Part E O e)) (flags : List Bool) (n m : ℕ) → (m ≡ n → ⊥) → ((place : ℕ) → FlaggedAt parts flags m place → ⊥) → IsLed parts flags n m → ⊥
not_led parts flags n m other never (first same) = other same
not_led parts flags n m other never (led l) = never l.0 l.1

-- flags before and behind one that is set
pub set_sound : {A : Type 0} (P : A → Type 0) (xs : List A) (flags : List Bool) (k : ℕ) (x : A) → slice_get xs k ≡ Some x → P x → ((j : ℕ) (y : A) → slice_get xs j ≡ Some y → slice_get flags j ≡ Some true → P y)
    → (j : ℕ) (y : A) → slice_get xs j ≡ Some y → slice_get (slice_set flags k true) j ≡ Some true → P y
set_sound P xs flags k x at p sound j y got flag = go (cases_eq j k)
  where
    go : ((j ≡ k) ⊎ (j ≡ k → ⊥)) → P y
    go (inl same) = subst P (some_same (sym at ∙ ap (λ (n : ℕ). slice_get xs n) (sym same) ∙ got)) p
    go (inr other) = sound j y got (sym (set_there flags k j true other) ∙ flag)

-- one item more is dealt
pub kept_next : {A : Type 0} (flags : List Bool) (k : ℕ) (item : A) (rest rest' kept kept' all : List A) → k < length flags → rest ≡ item ∷ rest' → kept' ≡ (if get_or flags k false then kept else kept ++ item ∷ []) → kept ++ unflagged (drop k flags) rest ≡ all
    → kept' ++ unflagged (drop (k + 1) flags) rest' ≡ all
kept_next {A = A} flags k item rest rest' kept kept' all within is put so_far =
    ap (λ (ks : List A). ks ++ unflagged (drop (k + 1) flags) rest') put ∙ go (get_or flags k false) (drop (k + 1) flags)
    (ap (λ (fs : List Bool). kept ++ unflagged fs (item ∷ rest')) (sym (drop_more flags k false within)) ∙ ap (λ (xs : List A). kept ++ unflagged (drop k flags) xs) (sym is) ∙ so_far)
  where
    go : (f : Bool) (fs : List Bool) → kept ++ unflagged (f ∷ fs) (item ∷ rest') ≡ all → (if f then kept else kept ++ item ∷ []) ++ unflagged fs rest' ≡ all
    go true fs h = h
    go false fs h = append_assoc kept (item ∷ []) (unflagged fs rest') ∙ h

pub gone_next : {A : Type 0} (flags : List Bool) (k : ℕ) (item : A) (rest rest' gone gone' all : List A) → k < length flags → rest ≡ item ∷ rest' → gone' ≡ (if get_or flags k false then gone ++ item ∷ [] else gone) → gone ++ flagged (drop k flags) rest ≡ all
    → gone' ++ flagged (drop (k + 1) flags) rest' ≡ all
gone_next {A = A} flags k item rest rest' gone gone' all within is put so_far =
    ap (λ (ks : List A). ks ++ flagged (drop (k + 1) flags) rest') put ∙ go (get_or flags k false) (drop (k + 1) flags)
    (ap (λ (fs : List Bool). gone ++ flagged fs (item ∷ rest')) (sym (drop_more flags k false within)) ∙ ap (λ (xs : List A). gone ++ flagged (drop k flags) xs) (sym is) ∙ so_far)
  where
    go : (f : Bool) (fs : List Bool) → gone ++ flagged (f ∷ fs) (item ∷ rest') ≡ all → (if f then gone ++ item ∷ [] else gone) ++ flagged fs rest' ≡ all
    go true fs h = append_assoc gone (item ∷ []) (flagged fs rest') ∙ h
    go false fs h = h
