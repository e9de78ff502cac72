-- A run stays one of a script where its tasks are stepped.
use Rattle.std.proofs.Common.{◌≡◌, ℕ, true, List, drop, length, sym, ap, ◌∙◌, subst}
use Rattle.flow_model.specs.Eval.{Plan}
use Rattle.flow_model.specs.Item.{Item}
use Rattle.flow_model.specs.Prefix.{IsPrefix}
use Rattle.lane_core.specs.declared.ends.Inlet as inlets
use Rattle.lane_core.specs.declared.ends.Outlet as outlets
use Rattle.flow_model.specs.declared.element.TaskElement as elements
use Rattle.flow_model.specs.declared.source.TaskSource as sources
use Rattle.graph_edits.specs.declared.graph.EditedGraph.{EditedGraph}
use Rattle.script_text.specs.declared.answer.Entry.{Entry}
use Rattle.script_text.specs.declared.command.Command.{Command}
use Rattle.graph_edits.specs.Edited.{Edited, is_there}
use Rattle.graph_edits.specs.Growing.{GrowsTo}
use Rattle.graph_edits.specs.Lawful.{AreAnswered, NeverFall}
use Rattle.graph_edits.proofs.Keeping.{stays_kept}
use Rattle.graph_edits.proofs.Staying.{stays_lawful}
use Rattle.edit_core.specs.Judging.{owed_then}
use Rattle.edit_core.specs.declared.feeds.Feeds.{Feeds}
use Rattle.edit_acts.specs.Controlled.{IsControlled}
use Rattle.edit_acts.specs.Stepping.{GoesOnControlled, StepsKeepControl, TrialsKeepControl}
use Rattle.edit_acts.specs.Scripted.{ArePassed, Has, IsScripted, KeepsControl, ScriptRun, TurnsKeepScripts}
use Rattle.edit_acts.proofs.Due.{due_more, due_now, still_due}
use Rattle.edit_acts.proofs.Passed.{passed_on}

module _ {S E I O L : Type 0} {s : sources.Ghosts S} {e : elements.Ghosts E} {i : inlets.Ghosts I L O} {o : outlets.Ghosts O L} (script : List Command) (first : Edited) (was is : ScriptRun s e i o)
    (keeps : KeepsControl was is) (w : IsScripted script first was) (goes : GoesOnControlled was.graph was.feeds is.tasks w.g w.m is.tells) where
  -- control has the run as it goes on, since what it has besides stays
  pub has_on : Has is w.g goes.now
  has_on =
      subst (λ (f : Feeds). IsControlled is.graph f is.tasks w.g goes.now is.tells) (sym keeps.feeds)
      (subst (λ (graph : EditedGraph). IsControlled graph was.feeds is.tasks w.g goes.now is.tells) (sym keeps.graph) goes.controlled)

  abbrev pub due_on : ℕ → List Item
  due_on = still_due w.g goes.now.plan.owner w.due (owed_then goes.now)

  more : (p : ℕ) → is_there w.g (goes.now.plan.owner p) ≡ true → IsPrefix (w.due p) (owed_then goes.now p)
  more p there =
      let was_there = ap (λ (plan : Plan). is_there w.g (plan.owner p)) (sym goes.goes_on.plan) ∙ there in
      subst (λ (l : List Item). IsPrefix l (owed_then goes.now p)) (sym (w.owes p was_there)) (goes.grows.due p)

  grows : GrowsTo w.m.history w.due goes.now.history due_on
  grows = record { crossed = goes.grows.crossed; due = due_more w.g goes.now.plan.owner w.due (owed_then goes.now) more; over = goes.grows.over; unflushed = goes.grows.unflushed }

  pub answered_on : AreAnswered goes.now.history due_on first script is.entries w.g
  answered_on =
      subst (λ (es : List Entry). AreAnswered goes.now.history due_on first script es w.g) (sym keeps.entries)
      (stays_lawful.entries w.m.history w.due goes.now.history due_on first w.g script was.entries w.kept grows w.answered)

  pub passed_all : ArePassed w.g.made goes.now.history is.entries
  passed_all = subst (λ (es : List Entry). ArePassed w.g.made goes.now.history es) (sym keeps.entries) (passed_on w.g.made w.m.history goes.now.history was.entries goes.grows.crossed w.passed)

  abbrev pub scripted_on : IsScripted script first is
  scripted_on = record {
    g = w.g;
    m = goes.now;
    has = has_on;
    calm = goes.grows.unflushed;
    kept = stays_kept.grows w.m.history (owed_then w.m) goes.now.history (owed_then goes.now) first goes.grows w.kept;
    due = due_on;
    owes = λ p there. due_now w.g goes.now.plan.owner w.due (owed_then goes.now) p there;
    answered = answered_on;
    left = keeps.commands ∙ w.left ∙ ap (λ (es : List Entry). drop (length es) script) (sym keeps.entries);
    falls = subst NeverFall (sym keeps.entries) w.falls;
    passed = passed_all;
  }

pub turns_keep_scripts : {S E I O L : Type 0} (s : sources.Ghosts S) (e : elements.Ghosts E) (i : inlets.Ghosts I L O) (o : outlets.Ghosts O L)
    → StepsKeepControl s e i o → TrialsKeepControl s e i o → TurnsKeepScripts s e i o
turns_keep_scripts s e i o steps trials = record {
  step = λ script first was is place step w stepped keeps.
      scripted_on script first was is keeps w (steps was.graph was.feeds was.tasks is.tasks w.g w.m was.tells is.tells place step w.has stepped);
  trial = λ script first was is place moved w tried keeps.
      scripted_on script first was is keeps w (trials was.graph was.feeds was.tasks is.tasks w.g w.m was.tells is.tells place moved w.has tried);
}
