-- The report of a run of a script tells the evaluation of the graph as its commands left it.
use Rattle.std.proofs.Common.{◌≡◌, ◌⊎◌, ◌++◌, ◌*◌, ℕ, List, Option, Some, length, arith, refl, rules, sym, ◌∙◌, subst, vec_len, inl, inr}
use Rattle.std.specs.Prelude.{slice_get}
use Rattle.flow_model.specs.Item.{Item}
use Rattle.flow_model.specs.Moment.{Moment}
use Rattle.flow_model.specs.Prefix.{IsPrefix}
use Rattle.flow_model.specs.declared.element.TaskElement as elements
use Rattle.flow_model.specs.declared.source.TaskSource as sources
use Rattle.flow_model.proofs.Prefixes.{prefix_refl, prefix_trans}
use Rattle.graph_core.specs.Elements.{Made}
use Rattle.graph_core.specs.GraphPlan.{pad_id}
use Rattle.graph_core.specs.Links.{ways}
use Rattle.graph_core.specs.declared.graph.Graph.{Graph}
use Rattle.graph_edits.specs.Edited.{Edited}
use Rattle.graph_edits.specs.Graph.{IsEdited}
use Rattle.graph_edits.specs.Growing.{GrowsTo}
use Rattle.graph_edits.specs.Lawful.{AreAnswered, NeverFall, owed_by}
use Rattle.graph_edits.specs.Plans.{IsOrder}
use Rattle.graph_edits.specs.declared.graph.EditedGraph.{EditedGraph}
use Rattle.graph_edits.proofs.Staying.{stays_lawful}
use Rattle.graph_order.specs.Forward.{forward_of, links_of}
use Rattle.graph_order.proofs.Same.{same_forward}
use Rattle.graph_parts.specs.Counts.{TasksCounted}
use Rattle.graph_parts.specs.Files.{opening_of}
use Rattle.graph_parts.specs.Put.{PutBack}
use Rattle.graph_parts.specs.declared.counts.Count.{Count}
use Rattle.lane_core.specs.declared.ends.Inlet as inlets
use Rattle.lane_core.specs.declared.ends.Outlet as outlets
use Rattle.run_files.specs.declared.end.Opening.TheVariants.{Write}
use Rattle.run_report.specs.declared.report.Fault.TheVariants as faults
use Rattle.script_text.specs.declared.answer.Entry.{Entry}
use Rattle.script_text.specs.declared.command.Command.{Command}
use Rattle.task_parts.specs.declared.fault.TaskFault.{TaskFault}
use Rattle.task_parts.specs.declared.fault.TaskFault.TheVariants.{WriteFault}
use Rattle.edit_acts.specs.Evaluated.{OweInOrder, RunsAreEvaluated}
use Rattle.world_core.specs.Begins.{line_graph}
use Rattle.world_core.specs.Evaluated.{AreWhole, HasFailedToWrite, IsEditedReport, IsRunAt, IsWrittenBy, plan_at}
use Rattle.world_core.specs.Told.{pads_told, sink_entries, sinks_told}
use Rattle.world_core.specs.declared.ended.WorldEnd.{WorldEnd}
use Rattle.world_core.specs.declared.running.Running.{Running}
use Rattle.world_core.proofs.Counted.{pads_are_told}
use Rattle.world_core.proofs.ScriptCounts.{script_counted}
use Rattle.world_core.proofs.ShortFiles.{HoldsShort}

-- the graph of a run has its elements in an order in which each link goes forward
is_order : (graph : EditedGraph) (g : Edited) → IsEdited graph g → IsOrder g (forward_of graph.order)
is_order graph g is = record {
  whole = λ e within. is.forward.whole e (let count = is.count in omega (arith, count, within));
  size =
      let long : vec_len graph.order.forward ≡ length graph.order.forward.items = search rules in
      sym long ∙ is.count;
  goes = same_forward (links_of graph.order) (ways g.ever) (forward_of graph.order) is.ever is.forward.goes;
}

module _ {S E I O L : Type 0} {s : sources.Ghosts S} {e : elements.Ghosts E} {i : inlets.Ghosts I L O} {o : outlets.Ghosts O L} (law : RunsAreEvaluated s e i o) (owes : OweInOrder e)
    (contents : ℕ → List ℕ) (script : List Command) (graph : Graph) (met : Option TaskFault) (run : Running S E I O L s e i o) (w : IsRunAt contents script (line_graph graph) met run) where
  abbrev last : Edited
  last = w.of.scripted.g

  abbrev now : Moment
  now = w.of.scripted.m

  abbrev forward : List ℕ
  forward = forward_of w.was.graph.order

  abbrev owed : ℕ → List Item
  owed = owed_by (plan_at contents last forward now.history) now.history

  order : IsOrder last forward
  order = is_order w.was.graph last w.of.scripted.has.current.edited

  -- what was due to a pad is owed to it by the histories
  grows : GrowsTo now.history w.of.scripted.due now.history owed
  grows = record {
    crossed = λ p. prefix_refl (now.history p);
    due = law.due owes contents forward last now w.of.scripted.due w.was w.of.scripted.has w.of.fits
        (λ p there. subst (λ (due : List Item). IsPrefix due (now.history p ++ now.waits p)) (sym (w.of.scripted.owes p there)) (prefix_refl (now.history p ++ now.waits p)));
    over = λ p ended. refl;
    unflushed = w.of.scripted.calm;
  }

  answered : AreAnswered now.history owed (line_graph graph) script run.entries.items last
  answered =
      subst (λ (entries : List Entry). AreAnswered now.history owed (line_graph graph) script entries last) (sym w.entries)
      (stays_lawful.entries now.history w.of.scripted.due now.history owed (line_graph graph) last script w.was.entries w.of.scripted.kept grows w.of.scripted.answered)

  -- What is told of the files of filesinks, by the lengths that tasks gave back: each holds all that its links gave it, but where a task met the fault that a write of it failed.
  pub record FilesTold (lengths : List ℕ) (Holds : (ℕ → List ℕ) → Type 0) : Type 0 where
    pub bytes : ℕ → List ℕ
    pub sinks : sinks_told last.made lengths ≡ sink_entries last.made bytes
    pub files : Holds bytes
    pub written : (d : ℕ) → IsWrittenBy last now.history bytes d ⊎ HoldsShort last now.history w.of.scripted.due met d (bytes d)

  -- Its counts are those of what crossed the pads, and its files those.
  pub edited_report : (none mid counts : List Count) → length none ≡ length last.made * 64 → PutBack (TasksCounted run.tasks.items) none mid → PutBack (TasksCounted run.removed.items) mid counts
      → (lengths : List ℕ) (Holds : (ℕ → List ℕ) → Type 0) → FilesTold lengths Holds → (end : WorldEnd) → end.report.entries ≡ run.entries.items → end.report.pads ≡ pads_told last.made counts
      → end.report.sinks ≡ sinks_told last.made lengths
      → ((d : ℕ) (m : Made) (location : List ℕ) (a b : ℕ) → slice_get last.made d ≡ Some m → opening_of m.settings ≡ Some (Write location) → met ≡ Some (WriteFault d a b) → end.report.fault ≡ faults.WriteFault location a b)
      → (end.status ≡ 0 → end.report.fault ≡ faults.Nothing) → (end.status ≡ 0 → AreWhole contents last forward now.history)
      → IsEditedReport contents graph script Holds end
  edited_report none mid counts size one other lengths Holds told end entries pads sinks failed faultless whole = record {
    last = last;
    forward = forward;
    order = order;
    h = now.history;
    evaluated = λ p pad. law.histories owes contents forward last now w.of.scripted.due w.was w.of.scripted.has w.of.fits w.of.few order p pad;
    answered = subst (λ (es : List Entry). AreAnswered now.history owed (line_graph graph) script es last) (sym entries) answered;
    falls = subst (λ (es : List Entry). NeverFall es) (sym (entries ∙ w.entries)) w.of.scripted.falls;
    pads = pads ∙ pads_are_told last.made counts now.history (script_counted contents script (line_graph graph) met run w none mid counts size one other);
    bytes = told.bytes;
    sinks = sinks ∙ told.sinks;
    files = told.files;
    written = λ d. by d (told.written d);
    faultless = faultless;
    whole = whole;
  }
    where
      by : (d : ℕ) → IsWrittenBy last now.history told.bytes d ⊎ HoldsShort last now.history w.of.scripted.due met d (told.bytes d)
          → IsWrittenBy last now.history told.bytes d ⊎ HasFailedToWrite contents last forward now.history told.bytes end.report d
      by d (inl is) = inl is
      by d (inr short) = inr (record {
        element = short.element;
        at = short.at;
        location = short.location;
        opens = short.opens;
        first = short.first;
        second = short.second;
        fault = failed d short.element short.location short.first short.second short.at short.opens short.is;
        part = record {
          source = short.next.source;
          linked = short.next.linked;
          item = short.item;
          next = prefix_trans short.next.next (grows.due (pad_id short.next.source));
          part = short.part;
          bytes_are = short.bytes_are;
        };
      })
