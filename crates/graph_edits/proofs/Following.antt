-- Entries are put behind others.
use Rattle.std.proofs.Common.{◌≡◌, ◌⊎◌, ℕ, zero, suc, ◌≤◌, ◌<◌, List, [], ◌∷◌, ◌++◌, Some, drop, length, refl, sym, ap, subst, inl, inr, arith, slice_get}
use Rattle.flow_model.specs.Item.{Item}
use Rattle.gst_value.proofs.Basics.{some_same}
use Rattle.script_text.specs.declared.answer.Entry.{Entry}
use Rattle.script_text.specs.declared.command.Command.{Command}
use Rattle.graph_edits.specs.Edited.{Edited}
use Rattle.graph_edits.specs.Growing.{FallsNowhere, OneMoreEntry}
use Rattle.graph_edits.specs.Lawful.{AreAnswered, IsAnswered, NeverFall, places_of}

follows : (h owed : ℕ → List Item) (g mid last : Edited) (script more : List Command) (c : Command) (entries : List Entry) (entry : Entry)
    → AreAnswered h owed g script entries mid → drop (length entries) script ≡ c ∷ more → IsAnswered mid h owed c entry.answer last
    → AreAnswered h owed g script (entries ++ entry ∷ []) last
follows h owed g mid last script more c entries entry (AreAnswered.none same commands) e answered =
    subst (λ (s : List Command). AreAnswered h owed same s (entry ∷ []) last) (sym e) (AreAnswered.more same last last c more entry [] answered (AreAnswered.none last more))
follows h owed g mid last script more c entries entry (AreAnswered.more from next end first commands done others before rest) e answered =
    AreAnswered.more from next last first commands done (others ++ entry ∷ []) before (follows h owed next end last commands more c others entry rest e answered)

pub get_front : {A : Type 0} (xs : List A) (y : A) (k : ℕ) → k < length xs → slice_get (xs ++ y ∷ []) k ≡ slice_get xs k
get_front [] y k within = absurd (omega arith)
get_front (x ∷ xs) y zero within = refl
get_front (x ∷ xs) y (suc k) within = get_front xs y k (omega arith)

pub get_last : {A : Type 0} (xs : List A) (y : A) (k : ℕ) → k ≡ length xs → slice_get (xs ++ y ∷ []) k ≡ Some y
get_last [] y zero e = refl
get_last [] y (suc k) e = absurd (omega (arith, e))
get_last (x ∷ xs) y zero e = absurd (omega (arith, e))
get_last (x ∷ xs) y (suc k) e = get_last xs y k (omega (arith, e))

-- one of the earlier ones, or the last
where_at : {A : Type 0} (xs : List A) (y : A) (k : ℕ) (z : A) → slice_get (xs ++ y ∷ []) k ≡ Some z → ((k < length xs) × (slice_get xs k ≡ Some z)) ⊎ ((k ≡ length xs) × (z ≡ y))
where_at [] y zero z e = inr (refl, sym (some_same e))
where_at [] y (suc k) z e = absurd (cc)
where_at (x ∷ xs) y zero z e = inl (omega arith, e)
where_at (x ∷ xs) y (suc k) z e = go (where_at xs y k z e)
  where
    go : ((k < length xs) × (slice_get xs k ≡ Some z)) ⊎ ((k ≡ length xs) × (z ≡ y)) → ((suc k < suc (length xs)) × (slice_get xs k ≡ Some z)) ⊎ ((suc k ≡ suc (length xs)) × (z ≡ y))
    go (inl t) = inl (let low = t.0 in omega arith, t.1)
    go (inr t) = inr (ap suc t.0, t.1)

never_fall : (entries : List Entry) (entry : Entry) → NeverFall entries → FallsNowhere entries entry → NeverFall (entries ++ entry ∷ [])
never_fall entries entry never nowhere j k a b one other before behind order is_one is_other is_before is_behind same =
    go (where_at entries entry j one is_one) (where_at entries entry k other is_other)
  where
    go : ((j < length entries) × (slice_get entries j ≡ Some one)) ⊎ ((j ≡ length entries) × (one ≡ entry))
        → ((k < length entries) × (slice_get entries k ≡ Some other)) ⊎ ((k ≡ length entries) × (other ≡ entry)) → before.items ≤ behind.items
    go (inl first) (inl second) = never j k a b one other before behind order first.1 second.1 is_before is_behind same
    go (inl first) (inr second) = nowhere j a b one before behind first.1 is_before (subst (λ (e : Entry). slice_get (places_of e.answer) b ≡ Some behind) second.1 is_behind) same
    go (inr first) (inl second) = absurd (let at = first.0 in let low = second.0 in omega arith)
    go (inr first) (inr second) = absurd (let at = first.0 in let last = second.0 in omega arith)

pub one_more_entry : OneMoreEntry
one_more_entry = record { answered = follows; falls_nowhere = never_fall }
