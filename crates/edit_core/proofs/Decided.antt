-- What becomes of a command that can be answered.
use Rattle.std.proofs.Common.{◌≡◌, ◌≢◌, ◌&&◌, ℕ, Bool, true, false, List, [], Option, None, Some, refl, sym, ap, ◌∙◌, subst, inl, inr}
use Rattle.std.specs.Prelude.{Result, Ok, Err, IfOk, is_some}
use Rattle.flow_model.specs.Item.{Item}
use Rattle.lane_core.specs.declared.ends.Inlet as inlets
use Rattle.lane_core.specs.declared.ends.Outlet as outlets
use Rattle.flow_model.specs.Moment.{Moment}
use Rattle.flow_model.specs.declared.element.TaskElement as elements
use Rattle.flow_model.specs.declared.source.TaskSource as sources
use Rattle.net_task.specs.declared.task.Task.{Task}
use Rattle.gst_value.specs.declared.name.PadName.{PadName}
use Rattle.graph_pads.specs.declared.pad.Direction.TheVariants.{Sink, Source}
use Rattle.graph_pads.specs.declared.pad.PadPlace.{PadPlace}
use Rattle.gst_value.proofs.Basics.{and_left, some_same}
use Rattle.script_text.specs.declared.answer.Answer.TheVariants.{Done, Refused, Unreached}
use Rattle.script_text.specs.declared.answer.Place.{Place}
use Rattle.script_text.specs.declared.answer.Reason.{Reason}
use Rattle.script_text.specs.declared.answer.Reason.TheVariants.{NoSuch}
use Rattle.script_text.specs.declared.command.Act.{Act}
use Rattle.script_text.specs.declared.command.Act.TheVariants as Acts
use Rattle.script_text.specs.declared.command.Command.{Command}
use Rattle.script_text.specs.declared.command.When.{When}
use Rattle.script_text.specs.declared.command.When.TheVariants.{At, NowPad, Now}
use Rattle.graph_edits.specs.Edited.{Edited, relinked_at, unlinked_at, without_element}
use Rattle.graph_edits.specs.Lawful.{IsAnswered, IsLinkable, IsRefusedFor, IsUnlinkable, Makes, Reaches, command, is_all_there, places_at}
use Rattle.graph_edits.specs.Names.{is_act_there, is_when_there, pad_named, source_when}
use Rattle.graph_edits.specs.Refused.{IsFedElsewhere}
use Rattle.edit_core.specs.Deciding.{DeedsAreAnswers, IsAnsweredNow, IsDeed, IsReached, IsRuled, IsRuledAnyhow, is_of_pad, made_by, names_its_pad, reason_of, TellsFirst}
use Rattle.edit_core.specs.Judging.{IsLast, IsVerdict, owed_then}
use Rattle.edit_core.specs.Refusing.{IsRefusedSo}
use Rattle.edit_core.specs.declared.deciding.Deed.{Deed}
use Rattle.edit_core.specs.declared.deciding.Deed.TheVariants as Deeds
use Rattle.edit_core.specs.declared.deciding.Ruling.{Ruling}
use Rattle.edit_core.specs.declared.deciding.Ruling.TheVariants.{Waits, Answered, ToDo}
use Rattle.edit_core.specs.declared.judging.Verdict.TheVariants.{Missing, Unreached as PassedBy, Reached}
use Rattle.edit_core.specs.declared.refusing.LinkReason.{LinkReason}
use Rattle.edit_core.specs.declared.refusing.LinkReason.TheVariants.{AfterEos, WasLinked, WouldLoop, FedElsewhere, NoFormat}

-- ---- links

pub unlinkable : (g : Edited) (h : ℕ → List Item) (source to : PadPlace) (reason : LinkReason) → IsRefusedSo g h source to (Some reason) → IsUnlinkable g h source to (reason_of reason)
unlinkable g h source to AfterEos r = IsUnlinkable.ended r
unlinkable g h source to WasLinked r = IsUnlinkable.taken r.1
unlinkable g h source to WouldLoop r = IsUnlinkable.loops r.1 r.2
unlinkable g h source to FedElsewhere r = IsUnlinkable.fed r.1 r.2 r.3
unlinkable g h source to NoFormat r = IsUnlinkable.formless r.1 r.2 r.4

pub linkable : (g : Edited) (h : ℕ → List Item) (source to : PadPlace) → IsRefusedSo g h source to None → IsLinkable g h source to
linkable g h source to r = record { unended = r.0; free = r.1; forward = r.2; common = r.4 }

pub own_fed : (g : Edited) (h : ℕ → List Item) (source to : PadPlace) → IsRefusedSo g h source to None → ¬ IsFedElsewhere g h source to
own_fed g h source to r = r.3

-- ---- commands that can be answered

-- the source pad at which a command can be answered is the one that it names
when_is : (g : Edited) (h owed : ℕ → List Item) (when : When) (p : Option PadPlace) (items : ℕ) → Reaches g h owed when p items → p ≡ source_when g when
when_is g h owed when p items (Reaches.at pad n place source named at) = sym named
when_is g h owed when p items (Reaches.now_pad pad place source named at) = sym named
when_is g h owed when p items Reaches.now = refl

pub reached : {S E I O L : Type 0} {s : sources.Ghosts S} {e : elements.Ghosts E} {i : inlets.Ghosts I L O} {o : outlets.Ghosts O L} (g : Edited) (m : Moment) (tasks : List (Task S E I O L s e i o)) (c : Command) (items : ℕ)
    (places : List Place) → IsVerdict g m tasks c (Reached items) → places ≡ places_at g (source_when g c.when) items → IsReached g m c items places
reached g m tasks c items places (IsVerdict.reached _ p _ all reaches last) are =
    let same = when_is g m.history (owed_then m) c.when p items reaches in
    record {
      all = all;
      reaches = subst (λ (q : Option PadPlace). Reaches g m.history (owed_then m) c.when q items) same reaches;
      last = subst (λ (q : Option PadPlace). IsLast m.history q items) same last;
      places_are = are;
    }

-- it is refused, and if for a link then for the first reason
pub refuse : (g : Edited) (m : Moment) (when : When) (act : Act) (items : ℕ) (places : List Place) (reason : Reason) → IsReached g m (command when act) items places
    → IsRefusedFor g m.history (source_when g when) act reason → TellsFirst g m (command when act) (Refused reason places) → IsAnsweredNow g m (command when act) (Refused reason places)
refuse g m when act items places reason at for first = record {
  lawful = subst (λ (ps : List Place). IsAnswered g m.history (owed_then m) (command when act) (Refused reason ps) g) (sym at.places_are)
      (IsAnswered.refused when act (source_when g when) items reason at.all at.reaches for);
  place = inr (items, at);
  first = first;
}

-- the first reason against a link is told
pub first_told : (g : Edited) (m : Moment) (when : When) (sink : PadName) (source to : PadPlace) (places : List Place) (why : LinkReason) → source_when g when ≡ Some source → pad_named Sink g sink ≡ Some to
    → IsRefusedSo g m.history source to (Some why) → TellsFirst g m (command when (Acts.Relink sink)) (Refused (reason_of why) places)
first_told g m when sink source to places why named there so other from at act by found =
    let sink_is : sink ≡ other = ap sink_of act in
    let from_is : source ≡ from = some_same (sym named ∙ by) in
    let at_is : to ≡ at = some_same (sym there ∙ ap (pad_named Sink g) sink_is ∙ found) in
    (why, refl, subst (λ (p : PadPlace). IsRefusedSo g m.history p at (Some why)) from_is (subst (λ (p : PadPlace). IsRefusedSo g m.history source p (Some why)) at_is so))
  where
    sink_of : Act → PadName
    sink_of (Acts.Relink name) = name
    sink_of (Acts.Unlink eos) = sink
    sink_of (Acts.Add kind props) = sink
    sink_of (Acts.Remove element) = sink

none_some : (found : Option PadPlace) → found ≡ None → is_some found ≡ true → ⊥
none_some None is there = cc
none_some (Some source) is there = cc

-- an act on the link of a pad is done at a pad that is there
pub no_pad : (g : Edited) (when : When) (act : Act) → is_of_pad act ≡ true → names_its_pad (command when act) ≡ true → is_all_there g (command when act) ≡ true → source_when g when ≡ None → ⊥
no_pad g (At pad n) act of names all none = none_some (pad_named Source g pad) none (and_left (is_when_there g (At pad n)) (is_act_there g (At pad n) act) all)
no_pad g (NowPad pad) act of names all none = none_some (pad_named Source g pad) none (and_left (is_when_there g (NowPad pad)) (is_act_there g (NowPad pad) act) all)
no_pad g Now act of names all none = let same = rw of at names in cc

-- all that a relink names is there, where both its pads are found
all_named : (g : Edited) (c : Command) (sink : PadName) (from to : PadPlace) → c.act ≡ Acts.Relink sink → source_when g c.when ≡ Some from → pad_named Sink g sink ≡ Some to → is_all_there g c ≡ false → ⊥
all_named g c sink from to act named there none =
    let acts : is_act_there g c.when c.act ≡ true = ap (is_act_there g c.when) act ∙ ap is_some there in
    let clash : true ≡ false = sym (both_true (is_when_there g c.when) (is_act_there g c.when c.act) (when_there g c.when from named) acts) ∙ none in
    cc
  where
    both_true : (a b : Bool) → a ≡ true → b ≡ true → a && b ≡ true
    both_true true true one other = refl
    both_true true false one other = other
    both_true false b one other = one

    when_there : (g : Edited) (when : When) (from : PadPlace) → source_when g when ≡ Some from → is_when_there g when ≡ true
    when_there g (At pad n) from named = ap is_some named
    when_there g (NowPad pad) from named = ap is_some named
    when_there g Now from named = refl

-- ---- rulings

pub carry : {A E : Type 0} (r : Result A E) (P Q : A → Type 0) → ((a : A) → P a → Q a) → IfOk r P → IfOk r Q
carry (Ok a) P Q more is = more a is
carry (Err why) P Q more is = tt

module _ {S E I O L : Type 0} {s : sources.Ghosts S} {e : elements.Ghosts E} {i : inlets.Ghosts I L O} {o : outlets.Ghosts O L} (g : Edited) (m : Moment) (tasks : List (Task S E I O L s e i o)) (c : Command) where
  pub anyhow : (r : Ruling) → IsRuledAnyhow g m c r → IsRuled g m tasks c r
  anyhow Waits is = absurd is
  anyhow (Answered answer) is = is
  anyhow (ToDo deed items places) is = is

module _ {S E I O L : Type 0} {s : sources.Ghosts S} {e : elements.Ghosts E} {i : inlets.Ghosts I L O} {o : outlets.Ghosts O L} where
  pub nameless : (g : Edited) (m : Moment) (tasks : List (Task S E I O L s e i o)) (c : Command) → IsVerdict g m tasks c Missing → IsAnsweredNow g m c (Refused NoSuch [])
  nameless g m tasks c (IsVerdict.missing _ none) = record {
    lawful = IsAnswered.nameless c none;
    place = inl refl;
    first = λ sink from to act named there. absurd (all_named g c sink from to act named there none);
  }

  pub passed_by : (g : Edited) (m : Moment) (tasks : List (Task S E I O L s e i o)) (c : Command) → IsVerdict g m tasks c PassedBy → IsAnsweredNow g m c Unreached
  passed_by g m tasks c (IsVerdict.unreached _ all over) = record { lawful = IsAnswered.unreached c all over; place = tt; first = tt }

-- ---- deeds

module _ (g : Edited) (m : Moment) (when : When) (items : ℕ) (places : List Place) where
  -- an act that makes this of the graph is answered by its places
  done : (act : Act) (after : Edited) → IsReached g m (command when act) items places → Makes g m.history (source_when g when) items act after
      → IsAnswered g m.history (owed_then m) (command when act) (Done places) after
  done act after at makes =
      subst (λ (ps : List Place). IsAnswered g m.history (owed_then m) (command when act) (Done ps) after) (sym at.places_are)
      (IsAnswered.done when act (source_when g when) items after at.reaches makes)

  deed_answers : (act : Act) (deed : Deed) → deed ≢ Deeds.Add → IsReached g m (command when act) items places → IsDeed g m.history (source_when g when) act deed
      → IsAnswered g m.history (owed_then m) (command when act) (Done places) (made_by deed items g)
  deed_answers _ _ other at (IsDeed.relinks sink from to same named free fed) =
      done (Acts.Relink sink) (relinked_at from items to g) at
      (subst (λ (p : Option PadPlace). Makes g m.history p items (Acts.Relink sink) (relinked_at from items to g)) (sym same) (Makes.relinks sink from to items named free))
  deed_answers _ _ other at (IsDeed.unlinks eos from to same linked) =
      done (Acts.Unlink eos) (unlinked_at from items eos g) at
      (subst (λ (p : Option PadPlace). Makes g m.history p items (Acts.Unlink eos) (unlinked_at from items eos g)) (sym same) (Makes.unlinks eos from to items linked))
  deed_answers _ _ other at (IsDeed.adds kind props) = absurd (other refl)
  deed_answers _ _ other at (IsDeed.removes name e named free) = done (Acts.Remove name) (without_element e g) at (Makes.removes (source_when g when) items name e named free)

pub deeds_are_answers : DeedsAreAnswers
deeds_are_answers g m when act deed items places other to_do = deed_answers g m when items places act deed other to_do.reached to_do.deed_is
