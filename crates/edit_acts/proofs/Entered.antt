-- A run stays one of a script when the next command is answered.
use Rattle.std.proofs.Common.{◌≡◌, ◌⊎◌, ◌≤◌, ◌++◌, ℕ, zero, suc, true, false, All, List, [], ◌∷◌, Option, None, Some, drop, length, refl, sym, ap, ◌∙◌, subst, inl, inr, arith}
use Rattle.std.specs.Prelude.{slice_get}
use Rattle.std.proofs.lemmas.List.{length_push}
use Rattle.flow_model.specs.Item.{Item}
use Rattle.flow_model.specs.Prefix.{IsPrefix}
use Rattle.flow_model.proofs.Prefixes.{prefix_refl}
use Rattle.gst_item.specs.Sticky.{has_flush_stop}
use Rattle.gst_value.specs.declared.name.PadName.{PadName}
use Rattle.gst_value.proofs.Basics.{some_same}
use Rattle.graph_core.specs.GraphPlan.{pad_id}
use Rattle.graph_parts.proofs.LaneSlots.{no_slots}
use Rattle.graph_core.specs.declared.fault.BuildFault.{BuildFault}
use Rattle.graph_core.specs.declared.fault.BuildFault.TheVariants.{NoSuch as Missing, BadValue as WrongValue, NameTaken as SameName, LocationTaken as SameLocation, TooMany as Limit, LinkRefused as NoLink, OutOfMemory}
use Rattle.graph_pads.specs.declared.pad.Direction.TheVariants.{Source}
use Rattle.graph_pads.specs.declared.pad.PadPlace.{PadPlace}
use Rattle.lane_core.specs.declared.ends.Inlet as inlets
use Rattle.lane_core.specs.declared.ends.Outlet as outlets
use Rattle.flow_model.specs.Moment.{Moment}
use Rattle.flow_model.specs.declared.element.TaskElement as elements
use Rattle.flow_model.specs.declared.source.TaskSource as sources
use Rattle.script_text.specs.declared.answer.Answer.{Answer}
use Rattle.script_text.specs.declared.answer.Answer.TheVariants.{Done, Refused, Unreached}
use Rattle.script_text.specs.declared.answer.Entry.{Entry}
use Rattle.script_text.specs.declared.answer.Place.{Place}
use Rattle.script_text.specs.declared.answer.Reason.{Reason}
use Rattle.script_text.specs.declared.answer.Reason.TheVariants.{NoSuch}
use Rattle.script_text.specs.declared.command.Act.{Act}
use Rattle.script_text.specs.declared.command.Command.{Command}
use Rattle.script_text.specs.declared.command.When.{When}
use Rattle.script_text.specs.declared.command.When.TheVariants.{At, NowPad, Now}
use Rattle.graph_edits.specs.Edited.{Edited, is_there}
use Rattle.graph_edits.specs.Growing.{FallsNowhere, GrowsTo, IsKept}
use Rattle.graph_edits.specs.Lawful.{AreAnswered, IsAnswered, IsRefusedFor, IsUnlinkable, Makes, NeverFall, place_at, places_at, places_of, reason_of}
use Rattle.graph_edits.specs.Names.{pad_named, source_when}
use Rattle.graph_edits.proofs.Following.{one_more_entry}
use Rattle.graph_edits.proofs.Staying.{stays_lawful}
use Rattle.edit_core.specs.Deciding.{IsReached, names_its_pad}
use Rattle.edit_core.specs.Judging.{IsLast, owed_then}
use Rattle.edit_acts.specs.Scripted.{ActsKeepScripts, ArePassed, IsActed, IsAnsweredBy, IsExact, IsPassed, IsScripted, ScriptRun, pad_once_named}
use Rattle.edit_core.proofs.Finding.{named_there}
use Rattle.edit_acts.proofs.Due.{answered_so, due_more, due_now, still_due}
use Rattle.edit_acts.proofs.Passed.{name_is, once_named, passed_made, passed_more}

-- ---- the places of an answer

-- a place is that of the source pad that a command names, which so many items have crossed
record IsOwn (g : Edited) (h : ℕ → List Item) (place : Place) : Type 0 where
  name : PadName
  source : PadPlace
  named : pad_named Source g name ≡ Some source
  items : ℕ
  is : place ≡ place_at g source items
  last : items ≡ length (h (pad_id source))

only : {A : Type 0} (x y : A) (a : ℕ) → slice_get (x ∷ []) a ≡ Some y → x ≡ y
only x y zero e = some_same e
only x y (suc a) e = absurd (no_slots (λ k z. ⊥) [] refl a y e)

own_place : (g : Edited) (h : ℕ → List Item) (when : When) (items : ℕ) (places : List Place) (a : ℕ) (place : Place) → places ≡ places_at g (source_when g when) items → IsLast h (source_when g when) items
    → slice_get places a ≡ Some place → IsOwn g h place
own_place g h when items places a place are last at = by when are last (subst (λ (ps : List Place). slice_get ps a ≡ Some place) are at)
  where
    by_source : (name : PadName) (o : Option PadPlace) → pad_named Source g name ≡ o → IsLast h o items → slice_get (places_at g o items) a ≡ Some place → IsOwn g h place
    by_source name None named last at = absurd (no_slots (λ k z. ⊥) [] refl a place at)
    by_source name (Some source) named last at = record { name = name; source = source; named = named; items = items; is = sym (only (place_at g source items) place a at); last = last }

    by : (w : When) → places ≡ places_at g (source_when g w) items → IsLast h (source_when g w) items → slice_get (places_at g (source_when g w) items) a ≡ Some place → IsOwn g h place
    by (At pad n) are last at = by_source pad (pad_named Source g pad) refl last at
    by (NowPad pad) are last at = by_source pad (pad_named Source g pad) refl last at
    by Now are last at = absurd (no_slots (λ k z. ⊥) [] refl a place at)

-- ---- nothing is refused as missing but what is not there

unlinkable_there : (g : Edited) (h : ℕ → List Item) (source to : PadPlace) (reason : Reason) → IsUnlinkable g h source to reason → reason ≡ NoSuch → ⊥
unlinkable_there g h source to _ (IsUnlinkable.ended is) e = cc
unlinkable_there g h source to _ (IsUnlinkable.taken is) e = cc
unlinkable_there g h source to _ (IsUnlinkable.loops free is) e = cc
unlinkable_there g h source to _ (IsUnlinkable.fed free forward is) e = cc
unlinkable_there g h source to _ (IsUnlinkable.formless free forward is) e = cc

unmade_there : (fault : BuildFault) → reason_of fault ≡ Some NoSuch → ⊥
unmade_there (Missing name what) e = cc
unmade_there (WrongValue name property) e = cc
unmade_there (SameName name) e = cc
unmade_there (SameLocation location) e = cc
unmade_there (Limit count) e = cc
unmade_there (NoLink a b ret) e = cc
unmade_there OutOfMemory e = cc

refused_there : (g : Edited) (h : ℕ → List Item) (p : Option PadPlace) (act : Act) (reason : Reason) → IsRefusedFor g h p act reason → reason ≡ NoSuch → ⊥
refused_there g h _ _ _ (IsRefusedFor.unlinkable sink source to reason named not) e = unlinkable_there g h source to reason not e
refused_there g h p _ _ (IsRefusedFor.unmade same kind props fault reason unmade is) e = unmade_there fault (is ∙ ap (λ (r : Reason). Some r) e)
refused_there g h p _ _ (IsRefusedFor.gathering same kind props m made makes) e = cc
refused_there g h p _ _ (IsRefusedFor.linked same name n named has) e = cc

abbrev reason_in : Reason → Answer → Reason
reason_in other (Refused reason places) = reason
reason_in other (Done places) = other
reason_in other Unreached = other

nameless_empty : (g : Edited) (h owed : ℕ → List Item) (c : Command) (answer : Answer) (next : Edited) (reason : Reason) (places : List Place) → IsAnswered g h owed c answer next
    → answer ≡ Refused reason places → reason ≡ NoSuch → places ≡ []
nameless_empty g h owed c _ next reason places (IsAnswered.done when act p place after reaches makes) e missing = absurd cc
nameless_empty g h owed c _ _ reason places (IsAnswered.unreached same all over) e missing = absurd cc
nameless_empty g h owed c _ _ reason places (IsAnswered.nameless same not) e missing = sym (ap places_of e)
nameless_empty g h owed c _ _ reason places (IsAnswered.refused when act p place own all reaches refused) e missing =
    absurd (refused_there g h p act own refused (ap (reason_in own) e ∙ missing))

-- ---- the places of an answer are passed

module _ (g : Edited) (m : Moment) (c : Command) where
  own_of : (answer : Answer) (next : Edited) → IsAnswered g m.history (owed_then m) c answer next → IsExact g m c answer → (a : ℕ) (place : Place) → slice_get (places_of answer) a ≡ Some place
      → IsOwn g m.history place
  own_of (Done places) next lawful exact a place at = own_place g m.history c.when exact.0 places a place exact.1.places_are exact.1.last at
  own_of Unreached next lawful exact a place at = absurd (no_slots (λ k z. ⊥) [] refl a place at)
  own_of (Refused reason places) next lawful exact a place at = by exact.0
    where
      by : (reason ≡ NoSuch) ⊎ ((items : ℕ) × IsReached g m c items places) → IsOwn g m.history place
      by (inl missing) =
          absurd (no_slots (λ k z. ⊥) places (nameless_empty g m.history (owed_then m) c (Refused reason places) next reason places lawful refl missing) a place at)
      by (inr t) = own_place g m.history c.when t.0 places a place t.1.places_are t.1.last at

  own_passed : (place : Place) → IsOwn g m.history place → IsPassed g.made m.history place
  own_passed place own =
      let items : place.items ≡ own.items = ap (λ (p : Place). p.items) own.is in
      let last = own.last in
      record {
        source = own.source;
        named = ap (pad_once_named g.made) (ap (λ (p : Place). p.pad) own.is ∙ name_is g own.name own.source own.items own.named) ∙ once_named g own.name own.source own.named;
        crossed = omega (arith, items, last);
      }

  falls : (entries : List Entry) (answer : Answer) (next : Edited) → IsAnswered g m.history (owed_then m) c answer next → IsExact g m c answer → ArePassed g.made m.history entries
      → FallsNowhere entries (record { answer = answer })
  falls entries answer next lawful exact passed j a b one before behind at at_before at_behind same =
      let own = own_of answer next lawful exact b behind at_behind in
      let was = passed j a one before at at_before in
      let name : before.pad ≡ own.name = same ∙ ap (λ (p : Place). p.pad) own.is ∙ name_is g own.name own.source own.items own.named in
      let source : was.source ≡ own.source = some_same (sym was.named ∙ ap (pad_once_named g.made) name ∙ once_named g own.name own.source own.named) in
      let low = subst (λ (p : PadPlace). before.items ≤ length (m.history (pad_id p))) source was.crossed in
      let items : behind.items ≡ own.items = ap (λ (p : Place). p.items) own.is in
      let last = own.last in
      omega (arith, low, items, last)

-- an answer takes no element away and adds one at the most
passed_answered : (g : Edited) (h owed : ℕ → List Item) (c : Command) (answer : Answer) (next : Edited) (entries : List Entry) → IsAnswered g h owed c answer next → ArePassed g.made h entries
    → ArePassed next.made h entries
passed_answered g h owed _ _ _ entries (IsAnswered.done when act p place after reaches makes) passed = by p place act after makes
  where
    by : (p : Option PadPlace) (place : ℕ) (act : Act) (after : Edited) → Makes g h p place act after → ArePassed after.made h entries
    by _ _ _ _ (Makes.relinks sink source to at named linkable) = passed
    by _ _ _ _ (Makes.unlinks eos source to at behind) = passed
    by _ _ _ _ (Makes.adds source at kind props m made plain) = passed_made g.made m h entries passed
    by _ _ _ _ (Makes.removes source at name e named free) = passed
passed_answered g h owed _ _ _ entries (IsAnswered.unreached c all over) passed = passed
passed_answered g h owed _ _ _ entries (IsAnswered.nameless c not) passed = passed
passed_answered g h owed _ _ _ entries (IsAnswered.refused when act p place reason all reaches refused) passed = passed

-- ---- what is left of a script

abbrev tail_of : {A : Type 0} → List A → List A
tail_of [] = []
tail_of (x ∷ xs) = xs

abbrev first_in : {A : Type 0} → List A → Option A
first_in [] = None
first_in (x ∷ xs) = Some x

drop_one_more : {A : Type 0} (xs : List A) (n : ℕ) (x : A) (rest : List A) → drop n xs ≡ x ∷ rest → drop (suc n) xs ≡ rest
drop_one_more [] zero x rest e = absurd cc
drop_one_more [] (suc n) x rest e = absurd cc
drop_one_more (y ∷ xs) zero x rest e = ap tail_of e
drop_one_more (y ∷ xs) (suc n) x rest e = drop_one_more xs n x rest e

next_of : {A : Type 0} (P : A → Type 0) (xs : List A) (n : ℕ) (x : A) (rest : List A) → All P xs → drop n xs ≡ x ∷ rest → P x
next_of P [] zero x rest all e = absurd cc
next_of P [] (suc n) x rest all e = absurd cc
next_of P (y ∷ xs) zero x rest all e = subst P (some_same (ap first_in e)) (all 0 y (omega arith))
next_of P (y ∷ xs) (suc n) x rest all e = next_of P xs n x rest (λ k d low. all (suc k) d (omega (arith, low))) e

-- ---- the law

module _ {S E I O L : Type 0} {s : sources.Ghosts S} {e : elements.Ghosts E} {i : inlets.Ghosts I L O} {o : outlets.Ghosts O L} where
  -- what is due to a pad that is named is owed by the moment
  due_owed : (script : List Command) (first : Edited) (was : ScriptRun s e i o) (scripted : IsScripted script first was) (pad : PadName) (source : PadPlace) → pad_named Source scripted.g pad ≡ Some source
      → scripted.due (pad_id source) ≡ owed_then scripted.m (pad_id source)
  due_owed script first was scripted pad source named =
      scripted.owes (pad_id source) (ap (is_there scripted.g) (scripted.has.pads.owned pad source named) ∙ named_there Source scripted.g pad source named)

  -- the next command names its pad, where each does
  pub named_next : (script : List Command) (first : Edited) (was : ScriptRun s e i o) (command : Command) (rest : List Command) → All (λ c. names_its_pad c ≡ true) script
      → IsScripted script first was → was.commands ≡ command ∷ rest → names_its_pad command ≡ true
  named_next script first was command rest named scripted next =
      next_of (λ c. names_its_pad c ≡ true) script (length was.entries) command rest named (sym scripted.left ∙ next)

  -- Where the next command is answered so, the entries with that one answer the first commands.
  pub entered_more : (script : List Command) (first : Edited) (was : ScriptRun s e i o) (scripted : IsScripted script first was) (command : Command) (rest : List Command) (entry : Entry) (next : Edited)
      → was.commands ≡ command ∷ rest → IsAnswered scripted.g scripted.m.history (owed_then scripted.m) command entry.answer next → IsExact scripted.g scripted.m command entry.answer
      → AreAnswered scripted.m.history scripted.due first script (was.entries ++ entry ∷ []) next × NeverFall (was.entries ++ entry ∷ [])
  entered_more script first was scripted command rest entry next left lawful exact = (
    one_more_entry.answered scripted.m.history scripted.due first scripted.g next script rest command was.entries entry scripted.answered (sym scripted.left ∙ left)
        (answered_so scripted.g scripted.m.history (owed_then scripted.m) scripted.due (due_owed script first was scripted) command entry.answer next lawful),
    one_more_entry.falls_nowhere was.entries entry scripted.falls (falls scripted.g scripted.m command was.entries entry.answer next lawful exact scripted.passed),
  )

  -- The next command was answered so, by the graph and at the moment at which the run was.
  module _ (script : List Command) (first : Edited) (was is : ScriptRun s e i o) (scripted : IsScripted script first was) (acted : IsActed was is)
      (by : IsAnsweredBy is scripted.g scripted.m acted.command acted.entry.answer) where
    here : drop (length was.entries) script ≡ acted.command ∷ is.commands
    here = sym scripted.left ∙ acted.next

    -- what is due to each pad behind it
    abbrev pub due_then : ℕ → List Item
    due_then = still_due by.next by.now.plan.owner scripted.due (owed_then by.now)

    more : (p : ℕ) → is_there by.next (by.now.plan.owner p) ≡ true → IsPrefix (scripted.due p) (owed_then by.now p)
    more p there =
        let own = by.owed p (ap (λ (owner : ℕ → ℕ). is_there by.next (owner p)) (sym by.owner) ∙ there) in
        subst (λ (l : List Item). IsPrefix l (owed_then by.now p)) (sym (scripted.owes p own.0)) own.1

    pub grows_then : GrowsTo scripted.m.history scripted.due by.now.history due_then
    grows_then = record {
      crossed = λ p. subst (λ (h : ℕ → List Item). IsPrefix (scripted.m.history p) (h p)) (sym by.crossed) (prefix_refl (scripted.m.history p));
      due = due_more by.next by.now.plan.owner scripted.due (owed_then by.now) more;
      over = λ p ended. ap (λ (h : ℕ → List Item). h p) by.crossed;
      unflushed = λ p. subst (λ (h : ℕ → List Item). has_flush_stop (h p) ≡ false) (sym by.crossed) (scripted.calm p);
    }

    pub kept_then : IsKept by.now.history first
    kept_then = subst (λ (h : ℕ → List Item). IsKept h first) (sym by.crossed) scripted.kept

    pub answered_then : AreAnswered by.now.history due_then first script is.entries by.next
    answered_then =
        subst (λ (es : List Entry). AreAnswered by.now.history due_then first script es by.next) (sym acted.entered)
        (one_more_entry.answered by.now.history due_then first scripted.g by.next script is.commands acted.command was.entries acted.entry
        (stays_lawful.entries scripted.m.history scripted.due by.now.history due_then first scripted.g script was.entries scripted.kept grows_then scripted.answered) here
        (stays_lawful.answer scripted.m.history scripted.due by.now.history due_then scripted.g by.next acted.command acted.entry.answer scripted.has.current.kept grows_then
        (answered_so scripted.g scripted.m.history (owed_then scripted.m) scripted.due (due_owed script first was scripted) acted.command acted.entry.answer by.next by.lawful)))

    pub left_then : is.commands ≡ drop (length is.entries) script
    left_then =
        let one_more : length (was.entries ++ acted.entry ∷ []) ≡ suc (length was.entries) = let long = length_push was.entries acted.entry in omega (arith, long) in
        sym (ap (λ (es : List Entry). drop (length es) script) acted.entered ∙ ap (λ (n : ℕ). drop n script) one_more ∙ drop_one_more script (length was.entries) acted.command is.commands here)

    pub falls_then : NeverFall is.entries
    falls_then =
        subst NeverFall (sym acted.entered)
        (one_more_entry.falls_nowhere was.entries acted.entry scripted.falls (falls scripted.g scripted.m acted.command was.entries acted.entry.answer by.next by.lawful by.exact scripted.passed))

    pub passed_then : ArePassed by.next.made by.now.history is.entries
    passed_then =
        subst (λ (h : ℕ → List Item). ArePassed by.next.made h is.entries) (sym by.crossed)
        (subst (λ (es : List Entry). ArePassed by.next.made scripted.m.history es) (sym acted.entered)
        (passed_answered scripted.g scripted.m.history (owed_then scripted.m) acted.command acted.entry.answer by.next (was.entries ++ acted.entry ∷ []) by.lawful
        (passed_more scripted.g.made scripted.m.history was.entries acted.entry scripted.passed
        (λ a place at. own_passed scripted.g scripted.m acted.command place (own_of scripted.g scripted.m acted.command acted.entry.answer by.next by.lawful by.exact a place at)))))

    abbrev pub scripted_then : IsScripted script first is
    scripted_then = record {
      g = by.next;
      m = by.now;
      has = by.has;
      calm = grows_then.unflushed;
      kept = kept_then;
      due = due_then;
      owes = λ p there. due_now by.next by.now.plan.owner scripted.due (owed_then by.now) p there;
      answered = answered_then;
      left = left_then;
      falls = falls_then;
      passed = passed_then;
    }

pub acts_keep_scripts : {S E I O L : Type 0} (s : sources.Ghosts S) (e : elements.Ghosts E) (i : inlets.Ghosts I L O) (o : outlets.Ghosts O L) → ActsKeepScripts s e i o
acts_keep_scripts s e i o = λ script first was is named scripted acted.
    scripted_then script first was is scripted acted
    (acted.answered scripted.g scripted.m (named_next script first was acted.command is.commands named scripted acted.next) scripted.has)
