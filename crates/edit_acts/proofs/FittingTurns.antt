-- A run of a script fits the evaluation of its graph behind each turn of a task.
use Rattle.std.proofs.Common.{◌≡◌, ◌<◌, ℕ, false, List, length, map, refl, sym, ap, ◌∙◌, subst}
use Rattle.flow_model.specs.Call.{Call}
use Rattle.flow_model.specs.Eval.{Plan}
use Rattle.flow_model.specs.Item.{Item}
use Rattle.flow_model.specs.Link.{input_of}
use Rattle.flow_model.specs.Moment.{Moment}
use Rattle.flow_model.specs.declared.element.TaskElement as elements
use Rattle.flow_model.specs.declared.source.TaskSource as sources
use Rattle.lane_core.specs.declared.ends.Inlet as inlets
use Rattle.lane_core.specs.declared.ends.Outlet as outlets
use Rattle.net_turns.specs.Rests.{NetRests}
use Rattle.script_text.specs.declared.command.Command.{Command}
use Rattle.graph_core.specs.GraphPlan.{sink_at}
use Rattle.graph_edits.specs.Edited.{Edited, is_there}
use Rattle.edit_core.specs.Feeds.{FeedsStay}
use Rattle.edit_core.specs.Judging.{owed_then}
use Rattle.edit_core.specs.Whole.{owner_in}
use Rattle.edit_acts.specs.Evaluated.{FitsPlan, GoesOnTurned, IsEvaluated, IsGone, TurnsKeepEvaluated}
use Rattle.edit_acts.specs.Scripted.{Has, KeepsControl, ScriptRun}
use Rattle.edit_acts.specs.Stepping.{GoesOnControlled, StepsKeepControl, TrialsKeepControl}
use Rattle.edit_acts.proofs.FittingActs.{due_stays, no_pad_gone}
use Rattle.edit_acts.proofs.FittingEval.{owner_is, owner_within}
use Rattle.edit_acts.proofs.FittingGone.{all_crossed, all_taken, gone_took}
use Rattle.edit_acts.proofs.FittingSpans.{gone_free, inputs_stay}
use Rattle.edit_acts.proofs.FittingStays.{gone_stays}
use Rattle.edit_acts.proofs.Stepped.{rest_controlled}
use Rattle.edit_acts.proofs.Turning.{due_on, has_on, scripted_on}

module _ {S E I O L : Type 0} {s : sources.Ghosts S} {e : elements.Ghosts E} {i : inlets.Ghosts I L O} {o : outlets.Ghosts O L} (contents : ℕ → List ℕ) (script : List Command) (first : Edited)
    (was is : ScriptRun s e i o) (w : IsEvaluated contents script first was) (keeps : KeepsControl was is)
    (goes : GoesOnControlled was.graph was.feeds is.tasks w.scripted.g w.scripted.m is.tells) where
  abbrev g : Edited
  g = w.scripted.g

  abbrev m : Moment
  m = w.scripted.m

  abbrev now : Moment
  now = goes.now

  abbrev due : ℕ → List Item
  due = due_on script first was is keeps w.scripted goes

  fits : FitsPlan contents g m w.scripted.due
  fits = w.fits

  same_plan : now.plan ≡ m.plan
  same_plan = goes.goes_on.plan

  has_then : Has is g now
  has_then = has_on script first was is keeps w.scripted goes

  owner_then : (p : ℕ) → now.plan.owner p ≡ owner_in g.made p
  owner_then p = ap (λ (plan : Plan). plan.owner p) same_plan ∙ fits.owner p

  module _ (a : ℕ) (within : a < length g.made) (gone : is_there g a ≡ false) where
    old : IsGone contents g m w.scripted.due a
    old = fits.gone a within gone

    given_then : map (input_of now.history) (g.spans a) ≡ map (input_of m.history) (g.spans a)
    given_then =
        inputs_stay m.history now.history goes.goes_on.crossed (g.spans a) (λ k. w.scripted.has.current.kept.within (sink_at a k)) (gone_free g m was w.scripted.has a gone)

    gone_then : IsGone contents g now due a
    gone_then =
        gone_stays contents g g refl a m now w.scripted.due due old (ap (λ (plan : Plan). plan.rule a) same_plan) (ap (λ (plan : Plan). plan.sinks a) same_plan ∙ old.sinks) refl
        (λ p own. due_stays g now.plan.owner w.scripted.due (owed_then now) p (ap (is_there g) (owner_then p ∙ own) ∙ gone)) given_then

    took_then : now.took a ≡ m.took a
    took_then =
        all_taken g now is has_then a gone old.took (ap (λ (plan : Plan). plan.sinks a) same_plan ∙ old.sinks)
        ∙ sym (gone_took g m was w.scripted.has a gone contents w.scripted.due old)

    crossed_then : (p : ℕ) → m.plan.owner p ≡ a → now.history p ≡ m.history p
    crossed_then p own =
        all_crossed g now is has_then a gone p (ap (λ (plan : Plan). plan.owner p) same_plan ∙ own)
        ∙ ap (λ (plan : Plan). plan.rule a (now.took a) (plan.port p) 0) same_plan
        ∙ ap (λ (css : List (List Call)). m.plan.rule a css (m.plan.port p) 0) took_then
        ∙ sym (all_crossed g m was w.scripted.has a gone p own)

  fits_then : FitsPlan contents g now due
  fits_then = record {
    owner = owner_then;
    port = λ p. ap (λ (plan : Plan). plan.port p) same_plan ∙ fits.port p;
    rules = λ a there. ap (λ (plan : Plan). plan.rule a) same_plan ∙ fits.rules a there;
    awake = fits.awake;
    gone = gone_then;
    bare = λ p not. due_stays g now.plan.owner w.scripted.due (owed_then now) p (ap (is_there g) (owner_then p) ∙ no_pad_gone g p w.few not) ∙ fits.bare p not;
  }

  abbrev evaluated_on : IsEvaluated contents script first is
  evaluated_on = record { scripted = scripted_on script first was is keeps w.scripted goes; fits = fits_then; few = w.few }

  goes_evaluated : GoesOnTurned contents script first was is w
  goes_evaluated = record {
    run = evaluated_on;
    graph = refl;
    owner = ap (λ (plan : Plan). plan.owner) same_plan;
    crossed = λ p pad gone.
        let own = fits.owner p ∙ owner_is g p pad in
        let within = owner_within g p pad in
        crossed_then (m.plan.owner p) (subst (λ (n : ℕ). n < length g.made) (sym own) within) gone p refl;
    took = took_then;
  }

pub turns_keep_evaluated : {S E I O L : Type 0} (s : sources.Ghosts S) (e : elements.Ghosts E) (i : inlets.Ghosts I L O) (o : outlets.Ghosts O L)
    → FeedsStay → StepsKeepControl s e i o → TrialsKeepControl s e i o → TurnsKeepEvaluated s e i o
unfolding goes_evaluated
turns_keep_evaluated s e i o feeds_stay steps trials = record {
  step = λ contents script first was is place step w stepped keeps.
      goes_evaluated contents script first was is w keeps
      (steps was.graph was.feeds was.tasks is.tasks w.scripted.g w.scripted.m was.tells is.tells place step w.scripted.has stepped);
  trial = λ contents script first was is place moved w tried keeps.
      goes_evaluated contents script first was is w keeps
      (trials was.graph was.feeds was.tasks is.tasks w.scripted.g w.scripted.m was.tells is.tells place moved w.scripted.has tried);
  rest = λ contents script first was is place moved answered w tried ended keeps.
      let rest =
      rest_controlled feeds_stay trials was.graph was.feeds was.tasks is.tasks w.scripted.g w.scripted.m was.tells is.tells place moved answered w.scripted.has tried ended in
      record {
        goes = goes_evaluated contents script first was is w keeps rest.0;
        rests = subst (λ (m : Moment). NetRests (λ k. Unit {0}) m is.tasks answered is.tells) (sym rest.1) ended.rests;
      };
}
