use Rattle.std.proofs.Common.{◌≡◌, ◌*◌, ◌∙◌, List, ap, length, refl, sym}
use Rattle.graph_core.specs.Elements.{Made}
use Rattle.graph_core.specs.Graph.{made as made_in}
use Rattle.graph_edits.specs.Graph.{made as made_of}
use Rattle.graph_edits.specs.declared.graph.EditedGraph.{EditedGraph}
use Rattle.task_elements.proofs.RuleLaws.{owes_in_order}
use Rattle.run_files.specs.Ends.{known_ends}
use Rattle.world_core.specs.Begins.{line_graph}
use Rattle.world_core.specs.Ran.{KnownHold}
use Rattle.world_core.specs.Scripts.{ScriptStops}
use Rattle.world_core.proofs.ScriptBegun.{script_ready}
use Rattle.world_core.proofs.ScriptBytes.{files_so}
use Rattle.world_core.proofs.ScriptEnds.{run_kept, run_tried, script_ended, told_so}
use Rattle.world_core.proofs.ScriptFiles.{located_so}
use Rattle.world_core.proofs.ScriptReports.{script_reported}
use Rattle.world_core.proofs.ScriptWhole.{ended_whole}
use Rattle.world_core.proofs.scripted.run_to_end.Goals as goal

pub run-ran-requires : goal.run-ran-requires
run-ran-requires g c = record {
  ready = script_ready g.S.Source g.K.Sink c.requires.begun.0 c.requires.begun.1 c.args.run c.args.rest.items c.args.left.items c.requires.begun.2 c.requires.begun.3;
}

pub stop_of_script-stop-requires : goal.stop_of_script-stop-requires
stop_of_script-stop-requires g c = record {
  answered = λ is.
      ap (λ steps. length steps.items) c.end-ended.ensures.tasks.1
      ∙ run_tried _ c.args.turns c.new-turns.result c.run-ran.new.turns (λ low. c.new-turns.ensures.at) c.args.run c.run-ran.new.all c.runs_answer.ensures c.run-ran.result c.run-ran.ensures.ended is
      ∙ sym (ap (λ tasks. length tasks.items) c.end-ended.ensures.tasks.0);
}

pub returns-in-Ok-clause-ended : goal.returns-in-Ok-clause-ended
returns-in-Ok-clause-ended g c = λ graph script before begins some.
    let first_graph = c.requires.begun.0 in
    let first_begins = c.requires.begun.3 in
    let line : ◌≡◌ {A = List Made} (made_in first_graph) (made_in graph) = sym first_begins.edited.elements ∙ begins.edited.elements in
    let stops = told_so c.stop_of_script-stop.result c.in-Ok.ensures.0 c.in-Ok.ensures.1 (ScriptStops c.end-ended.result c.run-ran.result) c.stop_of_script-stop.ensures in
    script_ended _ c.args.turns c.new-turns.result c.run-ran.new.turns (λ low. c.new-turns.ensures.at) c.args.run c.run-ran.new.all c.runs_answer.ensures graph script begins.script_is c.end-ended.result
    c.end-ended.ensures.control.1 c.end-ended.ensures.all before (KnownHold graph (known_ends g.S.Source g.K.Sink c.take_back-2.new.ends.items)) begins.evaluated c.run-ran.result c.in-Ok.ensures.0 stops c.run-ran.ensures.ended c.run-ran.ensures.failed
    c.in-Ok.end c.in-Ok.ensures.2.status c.in-Ok.ensures.2.entries_are
    (λ contents run names.
    script_reported _ c.args.turns c.new-turns.result c.run-ran.new.turns (λ low. c.new-turns.ensures.at) c.args.run c.run-ran.new.all c.runs_are_evaluated.ensures
    (λ element behavior took stands. owes_in_order g.K.Sink.bytes element behavior took stands) contents script graph names run c.end-ended.result c.runs_are_evaluated-2.ensures
    (run_kept _ c.args.turns c.new-turns.result c.run-ran.new.turns (λ low. c.new-turns.ensures.at) c.args.run c.run-ran.new.all c.runs_keep.ensures c.run-ran.result c.run-ran.ensures.ended c.run-ran.ensures.failed)
    begins.edited.elements c.end-ended.ensures.tasks.0 c.end-ended.ensures.tasks.2 c.end-ended.ensures.control.0 c.end-ended.ensures.control.1
    c.args.counts.pads.items c.count_pads.new.counts.items c.count_pads-2.new.counts.items (c.requires.begun.4.size ∙ ap (λ (made : List Made). length made * 64) line)
    (rw (← c.as_slice.ensures.value) c.count_pads.ensures) (rw (← c.as_slice-2.ensures.value) c.count_pads-2.ensures)
    c.take_back-2.new.lengths.items (KnownHold graph (known_ends g.S.Source g.K.Sink c.take_back-2.new.ends.items))
    (files_so g.S.Source g.K.Sink (λ x. refl) (λ x. refl) graph script c.args.run c.args.rest.items c.args.left.items before begins c.run-ran.new.all
    (run_kept _ c.args.turns c.new-turns.result c.run-ran.new.turns (λ low. c.new-turns.ensures.at) c.args.run c.run-ran.new.all c.runs_keep.ensures c.run-ran.result c.run-ran.ensures.ended c.run-ran.ensures.failed)
    (record { stands = λ x behavior took is. is; fell = λ x behavior took pad y is. is; failures = λ x. refl; ports = λ x. refl; wanted = λ x. refl }) c.runs_are_evaluated-2.ensures contents (λ element behavior took stands. owes_in_order g.K.Sink.bytes element behavior took stands)
    c.end-ended.result.tasks.items c.end-ended.result.removed.items (ap (λ tasks. tasks.items) c.end-ended.ensures.tasks.0) (ap (λ tasks. tasks.items) c.end-ended.ensures.tasks.2) _ _
    (c.elements.ensures ∙ ap (λ (edited : EditedGraph). made_of edited) c.end-ended.ensures.control.0) (c.elements-2.ensures ∙ ap (λ (edited : EditedGraph). made_of edited) c.end-ended.ensures.control.0)
    c.new-nothing.result.items c.new-nothing.ensures.items c.take_back.new.ends.items c.take_back-2.new.ends.items c.take_back.ensures.ends c.take_back-2.ensures.ends
    c.args.counts.lengths.items c.take_back.new.lengths.items c.take_back-2.new.lengths.items (c.requires.begun.4.lengths_size ∙ ap (λ (made : List Made). length made) line) c.take_back.ensures.lengths c.take_back-2.ensures.lengths)
    (λ at live live_is over forward.
    ended_whole g.K.Sink (record { stands = λ x behavior took is. is; fell = λ x behavior took pad y is. is; failures = λ x. refl; ports = λ x. refl; wanted = λ x. refl }) c.runs_are_evaluated-2.ensures
    (λ element behavior took stands. owes_in_order g.K.Sink.bytes element behavior took stands) contents script (line_graph graph) c.run-ran.new.all c.end-ended.result c.end-ended.ensures.tasks.0 c.end-ended.ensures.tasks.1
    c.end-ended.ensures.control.0 c.end-ended.ensures.taking.1 at live live_is over forward)
    c.run-ran.result c.in-Ok.ensures.0 stops c.run-ran.ensures.ended c.run-ran.ensures.failed c.end-ended.result.entries.items c.in-Ok.end refl (rw (← c.as_slice-3.ensures.value, ← c.as_slice-4.ensures.value) c.in-Ok.ensures.2) some)

pub returns-in-Ok-clause-located : goal.returns-in-Ok-clause-located
returns-in-Ok-clause-located g c = λ graph script before begins.
    located_so g.S.Source g.K.Sink (λ x. refl) (λ x. refl) graph script c.args.run c.args.rest.items c.args.left.items before begins c.run-ran.new.all
    (run_kept _ c.args.turns c.new-turns.result c.run-ran.new.turns (λ low. c.new-turns.ensures.at) c.args.run c.run-ran.new.all c.runs_keep.ensures c.run-ran.result c.run-ran.ensures.ended c.run-ran.ensures.failed)
    c.end-ended.result.tasks.items c.end-ended.result.removed.items (ap (λ tasks. tasks.items) c.end-ended.ensures.tasks.0) (ap (λ tasks. tasks.items) c.end-ended.ensures.tasks.2) _ _
    (c.elements.ensures ∙ ap (λ (edited : EditedGraph). made_of edited) c.end-ended.ensures.control.0) (c.elements-2.ensures ∙ ap (λ (edited : EditedGraph). made_of edited) c.end-ended.ensures.control.0)
    c.new-nothing.result.items c.new-nothing.ensures.items c.take_back.new.ends.items c.take_back-2.new.ends.items c.take_back.ensures.ends c.take_back-2.ensures.ends

pub returns-clause-located : goal.returns-clause-located
returns-clause-located g c = λ graph script before begins.
    located_so g.S.Source g.K.Sink (λ x. refl) (λ x. refl) graph script c.args.run c.args.rest.items c.args.left.items before begins c.run-ran.new.all
    (run_kept _ c.args.turns c.new-turns.result c.run-ran.new.turns (λ low. c.new-turns.ensures.at) c.args.run c.run-ran.new.all c.runs_keep.ensures c.run-ran.result c.run-ran.ensures.ended c.run-ran.ensures.failed)
    c.end-ended.result.tasks.items c.end-ended.result.removed.items (ap (λ tasks. tasks.items) c.end-ended.ensures.tasks.0) (ap (λ tasks. tasks.items) c.end-ended.ensures.tasks.2) _ _
    (c.elements.ensures ∙ ap (λ (edited : EditedGraph). made_of edited) c.end-ended.ensures.control.0) (c.elements-2.ensures ∙ ap (λ (edited : EditedGraph). made_of edited) c.end-ended.ensures.control.0)
    c.new-nothing.result.items c.new-nothing.ensures.items c.take_back.new.ends.items c.take_back-2.new.ends.items c.take_back.ensures.ends c.take_back-2.ensures.ends
