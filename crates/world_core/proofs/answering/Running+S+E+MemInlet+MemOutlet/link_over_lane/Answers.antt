use Rattle.std.proofs.Common.{Option, None, Some, List, ap, refl, subst, sym, ◌∙◌}
use Rattle.lane_core.specs.Lane.{Lane}
use Rattle.edit_acts.specs.Controlled.{IsControlled}
use Rattle.world_core.specs.Answering.{HasLanes}
use Rattle.graph_edits.specs.Graph.{made}
use Rattle.graph_edits.specs.declared.graph.EditedGraph.{EditedGraph}
use Rattle.net_task.specs.declared.task.Task.{Task}
use Rattle.edit_acts.specs.Files.{KeepFiles}
use Rattle.world_core.proofs.Elements.{kept_elements, same_elements}
use Rattle.world_core.proofs.MoreLanes.{controls_more, over_done, over_ready, over_undone}
use Rattle.world_core.proofs.answering.Running+S+E+MemInlet+MemOutlet.link_over_lane.Goals as goal

pub returns-in-Ok-true-clause-ready : goal.returns-in-Ok-true-clause-ready
returns-in-Ok-true-clause-ready g c =
    over_ready c.args.self.now c.args.self.now.lanes refl c.args.asked.room (Some c.new_link.new.lanes) (ap (λ (t : List Lane). Some t) c.in-Ok.ensures.table) c.in-Ok.to
    (record { outlet = c.in-Ok.ensures.outlet.0; inlet = c.in-Ok.ensures.inlet.0; limits = c.in-Ok.ensures.outlet.1; unsent = c.in-Ok.ensures.outlet.2; unreceived = c.in-Ok.ensures.inlet.1 })
    c.lane_more_stands.ensures c.lane_more_ready.ensures c.lane_is_new.ensures c.requires.ready c.args.asked.source c.args.asked.sink c.requires.can c.requires.fed c.args.items c.args.places c.enter.new.self
    c.relink_over.new.graph c.relink_over.new.feeds c.relink_over.new.tasks.items c.relink_over.ensures.ready (ap (λ ts. ts.items) c.enter.ensures.tasks) (ap (λ (t : List Lane). Some t) c.enter.ensures.lanes)

pub returns-in-Ok-true-clause-done : goal.returns-in-Ok-true-clause-done
returns-in-Ok-true-clause-done g c = (
  refl,
  record {
    entered = c.enter.ensures.entered;
    script = c.enter.ensures.keeps.script;
    lanes = λ edited is.
        subst (λ (room : Option _). HasLanes room c.args.self.now c.enter.new.self) (sym (c.requires.fed edited is)) (ap (λ (t : List Lane). Some t) (c.enter.ensures.lanes ∙ c.in-Ok.ensures.table));
    done =
        over_done c.args.self.now c.args.self.now.lanes refl c.args.asked.room (Some c.new_link.new.lanes) (ap (λ (t : List Lane). Some t) c.in-Ok.ensures.table) c.in-Ok.to
        (record { outlet = c.in-Ok.ensures.outlet.0; inlet = c.in-Ok.ensures.inlet.0; limits = c.in-Ok.ensures.outlet.1; unsent = c.in-Ok.ensures.outlet.2; unreceived = c.in-Ok.ensures.inlet.1 })
        c.lane_more_stands.ensures c.lane_more_ready.ensures c.lane_is_new.ensures c.requires.ready c.args.asked.source c.args.asked.sink c.requires.can c.requires.fed c.args.items c.args.places c.enter.new.self
        c.relink_over.new.graph c.relink_over.new.feeds c.relink_over.new.tasks.items c.in-Ok-true.ensures.done c.enter.ensures.graph c.enter.ensures.feeds (ap (λ ts. ts.items) c.enter.ensures.tasks)
        (ap (λ (t : List Lane). Some t) c.enter.ensures.lanes);
  },
)

pub returns-in-Ok-false-clause-failed : goal.returns-in-Ok-false-clause-failed
returns-in-Ok-false-clause-failed g c = λ edited m command has to_do can.
    over_undone c.args.self.now c.args.self.now.lanes refl c.args.asked.room (Some c.new_link.new.lanes) (ap (λ (t : List Lane). Some t) c.in-Ok.ensures.table) c.in-Ok.to
    (record { outlet = c.in-Ok.ensures.outlet.0; inlet = c.in-Ok.ensures.inlet.0; limits = c.in-Ok.ensures.outlet.1; unsent = c.in-Ok.ensures.outlet.2; unreceived = c.in-Ok.ensures.inlet.1 })
    c.lane_more_stands.ensures c.lane_more_ready.ensures c.lane_is_new.ensures c.requires.ready c.args.asked.source c.args.asked.sink c.requires.can c.requires.fed c.args.items c.args.places c.args.self.now
    c.relink_over.new.graph c.relink_over.new.feeds c.relink_over.new.tasks.items c.in-Ok-false.field-0 c.in-Ok-false.field-0-test c.in-Ok-false.ensures.run edited m command has to_do

pub returns-in-Err-relink_over-clause-failed : goal.returns-in-Err-relink_over-clause-failed
returns-in-Err-relink_over-clause-failed g c = record {
  entries = refl;
  keeps = record { script = refl; turns = record { taking = refl; removed = refl } };
  room = Some c.args.asked.room;
  lanes = ap (λ (t : List Lane). Some t) c.in-Ok.ensures.table;
  control = λ edited m has.
      c.in-Err-relink_over.ensures.stays edited m (Some c.new_link.new.lanes)
      (controls_more c.args.self.now c.args.self.now.lanes refl c.args.asked.room (Some c.new_link.new.lanes) (ap (λ (t : List Lane). Some t) c.in-Ok.ensures.table) c.lane_more_stands.ensures edited m has);
}

pub returns-in-Err-clause-failed : goal.returns-in-Err-clause-failed
returns-in-Err-clause-failed g c = record {
  entries = refl;
  keeps = record { script = refl; turns = record { taking = refl; removed = refl } };
  room = None;
  lanes = c.in-Err.ensures.err;
  control = λ edited m has.
      subst (λ (t : List Lane). IsControlled c.args.self.now.graph c.args.self.now.feeds c.args.self.now.tasks.items edited m (Some t)) (sym c.in-Err.ensures.err) has;
}

pub returns-in-Ok-true-clause-elements : goal.returns-in-Ok-true-clause-elements
returns-in-Ok-true-clause-elements g c =
    kept_elements c.args.self.now c.enter.new.self
    (subst (λ (ts : List (Task _ _ _ _ _ _ _ _ _)). KeepFiles c.args.self.now.tasks.items ts) (sym (ap (λ ts. ts.items) c.enter.ensures.tasks)) c.relink_over.ensures.files) c.enter.ensures.keeps.turns.removed
    (ap (λ (graph : EditedGraph). made graph) c.enter.ensures.graph ∙ c.relink_over.ensures.made)

pub returns-in-Ok-false-clause-elements : goal.returns-in-Ok-false-clause-elements
returns-in-Ok-false-clause-elements g c = kept_elements c.args.self.now _ c.relink_over.ensures.files refl c.relink_over.ensures.made

pub returns-in-Err-relink_over-clause-elements : goal.returns-in-Err-relink_over-clause-elements
returns-in-Err-relink_over-clause-elements g c = kept_elements c.args.self.now _ c.relink_over.ensures.files refl c.relink_over.ensures.made

pub returns-in-Err-clause-elements : goal.returns-in-Err-clause-elements
returns-in-Err-clause-elements g c = same_elements c.args.self.now _ refl refl refl
