-- A run of a script fits the evaluation of its graph to its end, with the tasks that it sets aside.
use Rattle.std.proofs.Common.{◌≡◌, ◌⊎◌, ◌<◌, ℕ, Bool, true, false, if◌then◌else◌, List, All, Option, None, Some, length, refl, sym, ap, ◌∙◌, subst, inl, inr, arith}
use Rattle.std.specs.Prelude.{◌==◌, nat_lt}
use Rattle.std.specs.List.{list_any}
use Rattle.std.proofs.lemmas.Bool.{ltb-true}
use Rattle.std.proofs.lemmas.List.{length_push}
use Rattle.flow_model.specs.Item.{Item}
use Rattle.flow_model.specs.Moment.{Moment}
use Rattle.flow_model.specs.declared.element.TaskElement as elements
use Rattle.flow_model.specs.declared.source.TaskSource as sources
use Rattle.gst_value.proofs.Basics.{none_some, some_same}
use Rattle.lane_core.specs.declared.ends.Inlet as inlets
use Rattle.lane_core.specs.declared.ends.Outlet as outlets
use Rattle.net_edits.specs.Adding.{NoneOwns}
use Rattle.net_task.specs.Ties.{Stands, nothing_lost}
use Rattle.net_turns.specs.Turns.{HasMet, HasMetTrying}
use Rattle.net_turns.specs.declared.net.Stopped.{Stopped}
use Rattle.graph_edits.specs.Edited.{Edited, is_there, without_element}
use Rattle.graph_edits.specs.Lawful.{IsAnswered, Makes, has_link}
use Rattle.graph_edits.specs.Names.{element_named, source_when}
use Rattle.script_text.specs.declared.answer.Answer.{Answer}
use Rattle.script_text.specs.declared.answer.Answer.TheVariants.{Done}
use Rattle.script_text.specs.declared.answer.Place.{Place}
use Rattle.script_text.specs.declared.command.Act.{Act}
use Rattle.script_text.specs.declared.command.Act.TheVariants as acts
use Rattle.script_text.specs.declared.command.Command.{Command}
use Rattle.task_parts.specs.declared.fault.TaskFault.{TaskFault}
use Rattle.turn_loop.specs.declared.taking.TakesTurns.{Ghosts}
use Rattle.edit_core.specs.Deciding.{IsDeed, names_its_pad}
use Rattle.edit_core.specs.Judging.{owed_then}
use Rattle.edit_core.specs.declared.deciding.Deed.{Deed}
use Rattle.edit_core.specs.declared.deciding.Deed.TheVariants.{Add, Relink, Remove, Unlink}
use Rattle.edit_acts.specs.Evaluated.{ActsKeepEvaluated, GoesOnAnswered, IsEvaluated, OweInOrder, TurnsKeepEvaluated}
use Rattle.edit_acts.specs.Removed.{UnlinkedIsAlone}
use Rattle.edit_acts.specs.Scripted.{IsAnsweredBy, KeepsControl, ScriptRun}
use Rattle.edit_acts.proofs.Entered.{named_next}
use Rattle.edit_acts.proofs.Gone.{element_there}
use Rattle.graph_pads.specs.declared.pad.PadPlace.{PadPlace}
use Rattle.world_core.specs.Answering.{ActsOn, AsksFor, HasSetAside, IsActedShort, SetsAside, SetsAsideFor, TellsNothingDone}
use Rattle.world_core.specs.Evaluated.{AreSetAside, EndsWithDone, IsAtRest, IsRunAt, IsRunOf}
use Rattle.world_core.specs.Probing.{HasActed, HasProbed}
use Rattle.world_core.specs.Running.{HasMetAsTried, HasMetAt, IsStepped, IsTried, KeepsTurns, tells_of, view_of}
use Rattle.world_core.specs.Watching.{HasLookedUp}
use Rattle.world_core.specs.declared.running.RunFault.{RunFault}
use Rattle.world_core.specs.declared.running.RunFault.TheVariants.{Stopped as AtFault}
use Rattle.world_core.specs.declared.running.Running.{Running}
use Rattle.world_core.proofs.AsideRuns.{aside_more, aside_moves, tied_crossed}
use Rattle.world_core.proofs.BehindFault.{counted_behind, each_behind, frames_behind, parts_behind}
use Rattle.world_core.proofs.ProbeActs.{by_probe}
use Rattle.world_core.proofs.Turns.{Meets}

-- ---- what an answer makes of the graph

module _ (g : Edited) (h owed : ℕ → List Item) where
  -- where nothing is told as done the graph stays
  none_made : (c : Command) (answer : Answer) (next : Edited) → IsAnswered g h owed c answer next → TellsNothingDone answer → next ≡ g
  none_made _ _ _ (IsAnswered.done when act p place after reaches makes) none = absurd none
  none_made _ _ _ (IsAnswered.unreached c all over) none = refl
  none_made _ _ _ (IsAnswered.nameless c missing) none = refl
  none_made _ _ _ (IsAnswered.refused when act p place reason all reaches refused) none = refl

  -- what is done is made of it
  record Made (act : Act) (next : Edited) : Type 0 where
    source : Option PadPlace
    place : ℕ
    makes : Makes g h source place act next

  made_so : (c : Command) (answer : Answer) (next : Edited) (places : List Place) → IsAnswered g h owed c answer next → answer ≡ Done places → Made c.act next
  made_so _ _ _ places (IsAnswered.done when act p place after reaches makes) is = record { source = p; place = place; makes = makes }
  made_so _ _ _ places (IsAnswered.unreached c all over) is = absurd cc
  made_so _ _ _ places (IsAnswered.nameless c missing) is = absurd cc
  made_so _ _ _ places (IsAnswered.refused when act p place reason all reaches refused) is = absurd cc

  -- no element is added, and one is taken away by the act for that alone
  there_so : (p : Option PadPlace) (place : ℕ) (act : Act) (next : Edited) → Makes g h p place act next → next.made ≡ g.made → ((name : List ℕ) → act ≡ acts.Remove name → ⊥) → (a : ℕ) → is_there next a ≡ is_there g a
  there_so _ _ _ _ (Makes.relinks sink source to place named linkable) made other a = refl
  there_so _ _ _ _ (Makes.unlinks eos source to place linked) made other a = refl
  there_so _ _ _ _ (Makes.adds p place kind props m is plain) made other a = absurd (let more = length_push g.made m in let same = ap length made in omega (arith, more, same))
  there_so _ _ _ _ (Makes.removes p place name n named free) made other a = absurd (other name refl)

  taken_so : (p : Option PadPlace) (place : ℕ) (act : Act) (next : Edited) (name : List ℕ) (n : ℕ) → Makes g h p place act next → act ≡ acts.Remove name → element_named g name ≡ Some n → next ≡ without_element n g
  taken_so _ _ _ _ name n (Makes.relinks sink source to place named linkable) is at = absurd cc
  taken_so _ _ _ _ name n (Makes.unlinks eos source to place linked) is at = absurd cc
  taken_so _ _ _ _ name n (Makes.adds p place kind props m made plain) is at = absurd cc
  taken_so _ _ _ _ name n (Makes.removes p place other k named free) is at =
      let same : other ≡ name = cc in
      ap (λ (x : ℕ). without_element x g) (some_same (sym named ∙ ap (element_named g) same ∙ at))

-- the act of a deed
record TakesAway (g : Edited) (act : Act) (n : ℕ) : Type 0 where
  name : List ℕ
  is : act ≡ acts.Remove name
  named : element_named g name ≡ Some n
  free : has_link g n ≡ false

takes_away : (g : Edited) (h : ℕ → List Item) (p : Option PadPlace) (act : Act) (n : ℕ) → IsDeed g h p act (Remove n) → TakesAway g act n
takes_away g h p _ _ (IsDeed.removes name n named free) = record { name = name; is = refl; named = named; free = free }

no_other : (g : Edited) (h : ℕ → List Item) (p : Option PadPlace) (act : Act) (d : Deed) → IsDeed g h p act d → ((n : ℕ) → d ≡ Remove n → ⊥) → (name : List ℕ) → act ≡ acts.Remove name → ⊥
no_other g h p _ _ (IsDeed.relinks sink from to told named linkable unfed) other name is = cc
no_other g h p _ _ (IsDeed.unlinks eos from to told linked) other name is = cc
no_other g h p _ _ (IsDeed.adds kind props) other name is = cc
no_other g h p _ _ (IsDeed.removes own n named free) other name is = other n refl

there_within : (g : Edited) (n : ℕ) → is_there g n ≡ true → n < length g.made
there_within g n there = by (list_any (λ gone. gone == n) g.removed) there
  where
    by : (b : Bool) → (if b then false else nat_lt n (length g.made)) ≡ true → n < length g.made
    by true is = absurd cc
    by false is = ltb-true n (length g.made) is

module _ {S E I O L : Type 0} {s : sources.Ghosts S} {e : elements.Ghosts E} {i : inlets.Ghosts I L O} {o : outlets.Ghosts O L} (contents : ℕ → List ℕ) (script : List Command) (first : Edited) where
  -- a run is one of the script where these stand at its graph and its moment
  placed : (run : Running S E I O L s e i o) (w : IsEvaluated contents script first (view_of run)) (g : Edited) (m : Moment) → w.scripted.g ≡ g → w.scripted.m ≡ m → AreSetAside g m run.removed.items
      → IsRunOf contents script first run
  placed run w g m graph moment aside =
      record { evaluated = w; aside = subst (λ (h : Edited). AreSetAside h w.scripted.m run.removed.items) (sym graph) (subst (λ (n : Moment). AreSetAside g n run.removed.items) (sym moment) aside) }

  -- ---- probes, and what is looked up

  by_probed : (was is : Running S E I O L s e i o) (place : ℕ) → IsRunOf contents script first was → HasProbed was is place → IsRunOf contents script first is
  by_probed was is place w probed = record {
    evaluated = record { scripted = by_probe script first was is place w.evaluated.scripted probed; fits = w.evaluated.fits; few = w.evaluated.few };
    aside = subst (AreSetAside w.evaluated.scripted.g w.evaluated.scripted.m) (sym probed.keeps.turns.removed) w.aside;
  }

  -- the same run is at the same graph and moment
  record Same (v v' : ScriptRun s e i o) (w : IsEvaluated contents script first v) : Type 0 where
    is : IsEvaluated contents script first v'
    graph : is.scripted.g ≡ w.scripted.g
    moment : is.scripted.m ≡ w.scripted.m

  same_view : (v v' : ScriptRun s e i o) → v ≡ v' → (w : IsEvaluated contents script first v) → Same v v' w
  same_view v v' same w = subst (λ (x : ScriptRun s e i o). Same v x w) same (record { is = w; graph = refl; moment = refl })

  by_looked : (was is : Running S E I O L s e i o) → IsRunOf contents script first was → HasLookedUp was is → IsRunOf contents script first is
  by_looked was is w looked =
      let z = same_view (view_of was) (view_of is) (sym looked.view) w.evaluated in
      placed is z.is w.evaluated.scripted.g w.evaluated.scripted.m z.graph z.moment (subst (AreSetAside w.evaluated.scripted.g w.evaluated.scripted.m) (sym looked.keeps.turns.removed) w.aside)

  -- ---- answers

  module _ (alone : UnlinkedIsAlone s e i o) (law : ActsKeepEvaluated s e i o) (ordered : OweInOrder e) (was is : Running S E I O L s e i o) (w : IsRunOf contents script first was) (on : ActsOn was is)
      (names : names_its_pad on.acted.command ≡ true) where
    abbrev g : Edited
    g = w.evaluated.scripted.g

    abbrev m : Moment
    m = w.evaluated.scripted.m

    abbrev then : IsAnsweredBy (view_of is) g m on.acted.command on.acted.entry.answer
    then = on.acted.answered g m names w.evaluated.scripted.has

    goes : GoesOnAnswered contents script first (view_of was) (view_of is) w.evaluated on.acted names
    goes = law ordered contents script first (view_of was) (view_of is) w.evaluated on.acted names

    took_on : (a : ℕ) → a < length g.made → is_there then.next a ≡ false → then.now.took a ≡ m.took a
    took_on a low gone =
        ap (λ (n : Moment). n.took a) (sym goes.moment)
        ∙ goes.took a (subst (λ (h : Edited). a < length h.made) (sym goes.graph) (subst (λ ms. a < length ms) (sym then.plan.made) low)) (ap (λ (h : Edited). is_there h a) goes.graph ∙ gone)

    -- no element is taken away, and the tasks that were set aside stay
    none_taken : ((a : ℕ) → is_there then.next a ≡ is_there g a) → is.removed.items ≡ was.removed.items → AreSetAside then.next then.now is.removed.items
    none_taken there same =
        subst (AreSetAside then.next then.now) (sym same)
        (aside_moves g then.next m then.now then.plan.made then.owner there (λ p gone. ap (λ h. h p) then.crossed) (λ a low gone. took_on a low (there a ∙ gone)) was.removed.items w.aside)

    -- one is, with its task
    module _ (n : ℕ) (there : is_there g n ≡ true) (free : has_link g n ≡ false) (next : then.next ≡ without_element n g) where
      with_task : HasSetAside was is n → AreSetAside (without_element n g) then.now is.removed.items
      with_task aside =
          let only = (alone g m was.tasks.items (tells_of was) aside.taken.place n aside.taken.task w.evaluated.scripted.has.run free aside.out.at aside.out.has).0.only in
          let ties = w.evaluated.scripted.has.run.net.tied aside.taken.place aside.taken.task aside.out.at in
          subst (AreSetAside (without_element n g) then.now) (sym aside.removed)
          (aside_more g m then.now n there (there_within g n there) w.evaluated.few w.evaluated.fits.owner then.owner then.crossed
          (λ a low gone. took_on a low (ap (λ (h : Edited). is_there h a) next ∙ gone)) aside.taken.task ties aside.out.has only
          (λ file wire is. w.evaluated.scripted.has.run.are.sources aside.taken.place aside.taken.task n file wire aside.out.at is) was.removed.items w.aside)

      one_taken : HasSetAside was is n ⊎ (NoneOwns was.tasks.items n × KeepsTurns was is) → AreSetAside then.next then.now is.removed.items
      one_taken (inl aside) = subst (λ (h : Edited). AreSetAside h then.now is.removed.items) (sym next) (with_task aside)
      one_taken (inr none) = let own = w.evaluated.scripted.has.run.are.owned n there (w.evaluated.fits.awake n) in absurd (none.0 own.0 own.1)

    module _ (d : Deed) (asks : AsksFor g m on.acted.command on.acted.entry.answer (Some d)) where
      made : Made g m.history (owed_then m) on.acted.command.act then.next
      made = made_so g m.history (owed_then m) on.acted.command on.acted.entry.answer then.next asks.1 then.lawful asks.3

      deed_is : IsDeed g m.history (source_when g on.acted.command.when) on.acted.command.act d
      deed_is = asks.2.deed_is

      other_deed : ((n : ℕ) → d ≡ Remove n → ⊥) → KeepsTurns was is → AreSetAside then.next then.now is.removed.items
      other_deed other keeps =
          none_taken
          (there_so g m.history (owed_then m) made.source made.place on.acted.command.act then.next made.makes then.plan.made
          (no_other g m.history (source_when g on.acted.command.when) on.acted.command.act d deed_is other))
          keeps.removed

    removed_deed : (n : ℕ) → AsksFor g m on.acted.command on.acted.entry.answer (Some (Remove n)) → SetsAside was is (Remove n) → AreSetAside then.next then.now is.removed.items
    removed_deed n asks aside =
        let own = takes_away g m.history (source_when g on.acted.command.when) on.acted.command.act n (deed_is (Remove n) asks) in
        let one = made (Remove n) asks in
        one_taken n (element_there g own.name n own.named) own.free
        (taken_so g m.history (owed_then m) one.source one.place on.acted.command.act then.next own.name n one.makes own.is own.named) aside

    by_deed : (deed : Option Deed) → AsksFor g m on.acted.command on.acted.entry.answer deed → SetsAsideFor was is deed → AreSetAside then.next then.now is.removed.items
    by_deed None none keeps = none_taken (λ a. ap (λ (h : Edited). is_there h a) (none_made g m.history (owed_then m) on.acted.command on.acted.entry.answer then.next then.lawful none)) keeps.removed
    by_deed (Some (Relink source sink)) asks keeps = other_deed (Relink source sink) asks (λ n is. cc) keeps
    by_deed (Some (Unlink source sink eos)) asks keeps = other_deed (Unlink source sink eos) asks (λ n is. cc) keeps
    by_deed (Some Add) asks keeps = other_deed Add asks (λ n is. cc) keeps
    by_deed (Some (Remove n)) asks aside = removed_deed n asks aside

    by_answer : IsRunOf contents script first is
    by_answer = placed is goes.run then.next then.now goes.graph goes.moment (by_deed on.deed (on.asks g m names w.evaluated.scripted.has) on.aside)

  names_next : (was is : Running S E I O L s e i o) → All (λ c. names_its_pad c ≡ true) script → IsRunOf contents script first was → (on : ActsOn was is) → names_its_pad on.acted.command ≡ true
  names_next was is names w on = named_next script first (view_of was) on.acted.command (view_of is).commands names w.evaluated.scripted on.acted.next

  -- control does what is next
  pub by_act : UnlinkedIsAlone s e i o → ActsKeepEvaluated s e i o → OweInOrder e → All (λ c. names_its_pad c ≡ true) script → (was is : Running S E I O L s e i o) → IsRunOf contents script first was → HasActed was is
      → IsRunOf contents script first is
  by_act alone law ordered names was is w (inl probed) = by_probed was is probed.0 w probed.1
  by_act alone law ordered names was is w (inr (none, inl looked)) = by_looked was is w looked
  by_act alone law ordered names was is w (inr (none, inr on)) = by_answer alone law ordered was is w on (names_next was is names w on)

  -- ---- turns

  pub by_step : TurnsKeepEvaluated s e i o → (was is : Running S E I O L s e i o) (place : ℕ) (moved : Bool) → IsRunOf contents script first was → IsStepped place moved was is → IsRunOf contents script first is
  by_step law was is place moved w stepped =
      let z = law.step contents script first (view_of was) (view_of is) place stepped.step w.evaluated stepped.stepped stepped.control in
      placed is z.run w.evaluated.scripted.g z.run.scripted.m z.graph refl
      (subst (AreSetAside w.evaluated.scripted.g z.run.scripted.m) (sym stepped.keeps.turns.removed)
      (aside_moves w.evaluated.scripted.g w.evaluated.scripted.g w.evaluated.scripted.m z.run.scripted.m refl z.owner (λ a. refl) (λ p gone. z.crossed p gone.0 gone.1) z.took was.removed.items w.aside))

  pub by_try : TurnsKeepEvaluated s e i o → (was is : Running S E I O L s e i o) (moved : Bool) → IsRunOf contents script first was → IsTried moved was is → IsRunOf contents script first is
  by_try law was is moved w tried =
      let z = law.trial contents script first (view_of was) (view_of is) (length was.tasks.items) moved w.evaluated tried.tried tried.control in
      placed is z.run w.evaluated.scripted.g z.run.scripted.m z.graph refl
      (subst (AreSetAside w.evaluated.scripted.g z.run.scripted.m) (sym tried.keeps.turns.removed)
      (aside_moves w.evaluated.scripted.g w.evaluated.scripted.g w.evaluated.scripted.m z.run.scripted.m refl z.owner (λ a. refl) (λ p gone. z.crossed p gone.0 gone.1) z.took was.removed.items w.aside))

  -- ---- where it has stopped

  -- none of its tasks could move as each was tried
  pub at_end : TurnsKeepEvaluated s e i o → (was is : Running S E I O L s e i o) → IsRunOf contents script first was → IsTried false was is → IsRunAt contents script first None is
  at_end law was is w tried =
      let m = w.evaluated.scripted.m in
      let z =
      law.rest contents script first (view_of was) (view_of is) (length was.tasks.items) false is.steps.items w.evaluated tried.tried (tried.advanced m w.evaluated.scripted.has.run.net) tried.control in
      let run = z.goes.run in
      record {
        was = view_of is;
        of = run;
        aside =
            subst (λ (h : Edited). AreSetAside h run.scripted.m is.removed.items) (sym z.goes.graph)
            (subst (AreSetAside w.evaluated.scripted.g run.scripted.m) (sym tried.keeps.turns.removed)
            (aside_moves w.evaluated.scripted.g w.evaluated.scripted.g m run.scripted.m refl z.goes.owner (λ a. refl) (λ p gone. z.goes.crossed p gone.0 gone.1) z.goes.took was.removed.items w.aside));
        graph = refl;
        entries = refl;
        counted = λ place task at. tied_crossed (λ part. Stands run.scripted.m part) nothing_lost run.scripted.m run.scripted.m refl task (run.scripted.has.run.net.tied place task at);
        each = λ p pad. pad;
        frames = λ place. refl;
        parts = λ part is. inl ((run.scripted.has.run.net.tied is.place is.task is.at).parts_tied.each is.within part is.is).stood;
        rests = λ none. record { tasks = refl; tells = refl; rests = z.rests };
      }

  -- no fault was met, as is not so here
  none_met : (was : ScriptRun s e i o) (m : Moment) (is : Running S E I O L s e i o) (fault : TaskFault) → Some fault ≡ None → IsAtRest was m is
  none_met was m is fault none = absurd (none_some (sym none))

  -- a fault at a step
  at_step : (was is : Running S E I O L s e i o) (place : ℕ) (fault : TaskFault) → IsRunOf contents script first was → HasMet place fault was.tasks.items is.tasks.items (tells_of was) → KeepsControl (view_of was) (view_of is)
      → is.removed.items ≡ was.removed.items → IsRunAt contents script first (Some fault) is
  at_step was is place fault w met control removed = record {
    was = view_of was;
    of = w.evaluated;
    aside = subst (AreSetAside w.evaluated.scripted.g w.evaluated.scripted.m) (sym removed) w.aside;
    graph = control.graph;
    entries = control.entries;
    counted = counted_behind (view_of was) w.evaluated is.tasks.items place fault met;
    each = each_behind (view_of was) w.evaluated is.tasks.items place fault met;
    frames = frames_behind (view_of was) w.evaluated is.tasks.items place fault met;
    parts = parts_behind (view_of was) w.evaluated is.tasks.items place fault met;
    rests = none_met (view_of was) w.evaluated.scripted.m is fault;
  }

  -- or as each was tried
  at_try : TurnsKeepEvaluated s e i o → (was is : Running S E I O L s e i o) (fault : TaskFault) → IsRunOf contents script first was → (met : HasMetTrying fault was.tasks.items is.tasks.items (tells_of was)) → KeepsControl (view_of was) (view_of is)
      → is.removed.items ≡ was.removed.items → IsRunAt contents script first (Some fault) is
  at_try law was is fault w met control removed =
      let mid : ScriptRun s e i o = record (view_of was) { tasks = met.was; tells = met.tells } in
      let z = law.trial contents script first (view_of was) mid met.place met.moved w.evaluated met.tried (record { graph = refl; feeds = refl; commands = refl; entries = refl }) in
      record {
        was = mid;
        of = z.run;
        aside = subst (λ (h : Edited). AreSetAside h z.run.scripted.m is.removed.items) (sym z.graph)
            (subst (AreSetAside w.evaluated.scripted.g z.run.scripted.m) (sym removed)
            (aside_moves w.evaluated.scripted.g w.evaluated.scripted.g w.evaluated.scripted.m z.run.scripted.m refl z.owner (λ a. refl) (λ p gone. z.crossed p gone.0 gone.1) z.took was.removed.items w.aside));
        graph = control.graph;
        entries = control.entries;
        counted = counted_behind mid z.run is.tasks.items met.place fault met.met;
        each = each_behind mid z.run is.tasks.items met.place fault met.met;
        frames = frames_behind mid z.run is.tasks.items met.place fault met.met;
        parts = parts_behind mid z.run is.tasks.items met.place fault met.met;
        rests = none_met mid z.run.scripted.m is fault;
      }

  pub at_stop : TurnsKeepEvaluated s e i o → {t : Ghosts (Running S E I O L s e i o) RunFault} → (last : Running S E I O L s e i o) (stop : Stopped)
      → ((was is : Running S E I O L s e i o) → t.act_failed was is (AtFault stop) → IsActedShort was is)
      → ((place : ℕ) (was is : Running S E I O L s e i o) → t.step_failed place was is (AtFault stop) → HasMetAt place was is (AtFault stop))
      → ((was is : Running S E I O L s e i o) → t.try_failed was is (AtFault stop) → HasMetAsTried was is (AtFault stop))
      → Meets t (IsRunOf contents script first) last (AtFault stop) → IsRunAt contents script first (Some stop.fault) last ⊎ EndsWithDone last.entries.items
  at_stop law last stop acting stepping trying (Meets.at_act was w why) = let short = acting was last why in inr (record { before = was.entries.items; places = short.places; are = short.entered })
  at_stop law last stop acting stepping trying (Meets.at_step place was w why) = let met = stepping place was last why in inl (at_step was last place stop.fault w met.0 met.2 met.3.turns.removed)
  at_stop law last stop acting stepping trying (Meets.at_trial was w why) = let met = trying was last why in inl (at_try law was last stop.fault w met.0 met.2 met.3.turns.removed)
