use Rattle.std.proofs.Common.{◌++◌, ◌∙◌, ◌∷◌, List, [], None, ap, append-nil, refl, subst, sym}
use Rattle.script_text.specs.declared.answer.Answer.TheVariants.{Done}
use Rattle.script_text.specs.declared.answer.Entry.{Entry}
use Rattle.graph_edits.specs.Graph.{made}
use Rattle.graph_edits.specs.declared.graph.EditedGraph.{EditedGraph}
use Rattle.net_task.specs.declared.task.Task.{Task}
use Rattle.edit_acts.specs.Files.{KeepFiles, taken_by}
use Rattle.edit_acts.specs.declared.doing.Outcome.{Outcome}
use Rattle.world_core.proofs.Acting.{done_here, due, lanes_here, out_of_memory, ready_behind, short}
use Rattle.world_core.proofs.Aside.{none_aside, not_done, one_aside}
use Rattle.world_core.proofs.Elements.{aside_elements, kept_elements, same_elements}
use Rattle.world_core.proofs.MoreLanes.{can_be_done}
use Rattle.world_core.proofs.running.Running.do_without_lane.Goals as goal

pub returns-in-Ok-Done-clause-ready : goal.returns-in-Ok-Done-clause-ready
returns-in-Ok-Done-clause-ready g c = ready_behind c.args.self.now c.enter.new.self c.do_deed.new.tasks.items c.do_deed.ensures.ready (ap (λ ts. ts.items) c.enter.ensures.tasks) c.enter.ensures.lanes

pub returns-in-Ok-Done-clause-done : goal.returns-in-Ok-Done-clause-done
returns-in-Ok-Done-clause-done g c = (
  refl,
  record {
    entered = c.enter.ensures.entered;
    script = c.enter.ensures.keeps.script;
    lanes = lanes_here c.args.self.now c.enter.new.self c.args.deed c.requires.unfed c.enter.ensures.lanes;
    done =
        done_here c.args.self.now c.enter.new.self c.do_deed.new.graph c.do_deed.new.feeds c.do_deed.new.tasks.items c.args.deed c.args.items c.args.places c.in-Ok-Done.field-0 c.requires.can c.requires.unfed
        c.in-Ok-Done.ensures.done c.enter.ensures.graph c.enter.ensures.feeds (ap (λ ts. ts.items) c.enter.ensures.tasks) c.enter.ensures.lanes;
  },
)

pub returns-in-Ok-Done-clause-aside : goal.returns-in-Ok-Done-clause-aside
returns-in-Ok-Done-clause-aside g c =
    none_aside c.args.self.now c.enter.new.self c.do_deed.new.tasks.items c.args.deed c.in-Ok-Done.field-0 c.in-Ok-Done.field-0-is c.in-Ok-Done.ensures.taken
    (record { taking = c.enter.ensures.keeps.turns.taking; removed = c.enter.ensures.keeps.turns.removed ∙ c.reserve.ensures.items })

pub returns-in-Ok-TakenOut-clause-ready : goal.returns-in-Ok-TakenOut-clause-ready
returns-in-Ok-TakenOut-clause-ready g c =
    ready_behind c.args.self.now c.enter-in-Ok-TakenOut.new.self c.do_deed.new.tasks.items c.do_deed.ensures.ready
    (ap (λ ts. ts.items) c.enter-in-Ok-TakenOut.ensures.tasks ∙ ap (λ ts. ts.items) c.set_aside.ensures.tasks) (c.enter-in-Ok-TakenOut.ensures.lanes ∙ c.set_aside.ensures.lanes)

pub returns-in-Ok-TakenOut-clause-done : goal.returns-in-Ok-TakenOut-clause-done
returns-in-Ok-TakenOut-clause-done g c =
    let lanes = c.enter-in-Ok-TakenOut.ensures.lanes ∙ c.set_aside.ensures.lanes in (
      refl,
      record {
        entered =
            c.enter-in-Ok-TakenOut.ensures.entered ∙ ap (λ (entries : List Entry). entries ++ record { answer = Done c.args.places } ∷ []) (ap (λ entries. entries.items) c.set_aside.ensures.entries);
        script = c.enter-in-Ok-TakenOut.ensures.keeps.script ∙ ap (λ script. script.items) c.set_aside.ensures.script;
        lanes = lanes_here c.args.self.now c.enter-in-Ok-TakenOut.new.self c.args.deed c.requires.unfed lanes;
        done =
            done_here c.args.self.now c.enter-in-Ok-TakenOut.new.self c.do_deed.new.graph c.do_deed.new.feeds c.do_deed.new.tasks.items c.args.deed c.args.items c.args.places c.in-Ok-TakenOut.field-0
            c.requires.can c.requires.unfed c.in-Ok-TakenOut.ensures.done (c.enter-in-Ok-TakenOut.ensures.graph ∙ c.set_aside.ensures.graph)
            (c.enter-in-Ok-TakenOut.ensures.feeds ∙ c.set_aside.ensures.feeds) (ap (λ ts. ts.items) c.enter-in-Ok-TakenOut.ensures.tasks ∙ ap (λ ts. ts.items) c.set_aside.ensures.tasks) lanes;
      },
    )

pub returns-in-Ok-TakenOut-clause-aside : goal.returns-in-Ok-TakenOut-clause-aside
returns-in-Ok-TakenOut-clause-aside g c =
    one_aside c.args.self.now c.enter-in-Ok-TakenOut.new.self c.do_deed.new.tasks.items c.args.deed c.in-Ok-TakenOut.field-0 c.in-Ok-TakenOut.taken c.in-Ok-TakenOut.field-0-is c.in-Ok-TakenOut.ensures.taken
    (ap (λ ts. ts.items) c.enter-in-Ok-TakenOut.ensures.tasks ∙ ap (λ ts. ts.items) c.set_aside.ensures.tasks)
    (c.enter-in-Ok-TakenOut.ensures.keeps.turns.removed ∙ c.set_aside.ensures.removed
    ∙ ap (λ (ts : List (Task _ _ _ _ _ _ _ _ _)). ts ++ c.in-Ok-TakenOut.taken.task ∷ []) c.reserve.ensures.items)
    (c.enter-in-Ok-TakenOut.ensures.keeps.turns.taking ∙ c.set_aside.ensures.taking)

pub returns-then-is_err-clause-failed : goal.returns-then-is_err-clause-failed
returns-then-is_err-clause-failed g c = record {
  entries = refl;
  keeps = record { script = refl; turns = record { taking = refl; removed = c.reserve.ensures.items } };
  room = None;
  lanes = refl;
  control = λ edited m has. has;
}

pub returns-in-Ok-Undone-clause-ready : goal.returns-in-Ok-Undone-clause-ready
returns-in-Ok-Undone-clause-ready g c = c.do_deed.ensures.ready _

pub returns-in-Ok-Undone-clause-failed : goal.returns-in-Ok-Undone-clause-failed
returns-in-Ok-Undone-clause-failed g c = λ edited m command has to_do can.
    let able = can_be_done edited c.args.deed can (c.requires.unfed edited has.current.edited) in
    not_done c.in-Ok-Undone.field-0 c.in-Ok-Undone.field-0-is
    (c.in-Ok-Undone.ensures.done edited m _ (due c.args.self.now edited m command c.args.deed c.args.items c.args.places has to_do able)).0

pub returns-in-Err-OutOfMemory-clause-ready : goal.returns-in-Err-OutOfMemory-clause-ready
returns-in-Err-OutOfMemory-clause-ready g c = c.do_deed.ensures.ready _

pub returns-in-Err-OutOfMemory-clause-failed : goal.returns-in-Err-OutOfMemory-clause-failed
returns-in-Err-OutOfMemory-clause-failed g c = record {
  entries = refl;
  keeps = record { script = refl; turns = record { taking = refl; removed = c.reserve.ensures.items } };
  room = None;
  lanes = refl;
  control = out_of_memory c.args.self.now c.do_deed.new.graph c.do_deed.new.feeds c.do_deed.new.tasks.items c.args.deed c.args.items c.in-Err-OutOfMemory.field-0 c.in-Err-OutOfMemory.field-0-is
      c.in-Err-OutOfMemory.ensures.failed;
}

pub returns-in-Err-Failed-clause-ready : goal.returns-in-Err-Failed-clause-ready
returns-in-Err-Failed-clause-ready g c =
    ready_behind c.args.self.now c.enter-in-Err-Failed.new.self c.do_deed.new.tasks.items c.do_deed.ensures.ready (ap (λ ts. ts.items) c.enter-in-Err-Failed.ensures.tasks) c.enter-in-Err-Failed.ensures.lanes

pub returns-in-Err-Failed-clause-failed : goal.returns-in-Err-Failed-clause-failed
returns-in-Err-Failed-clause-failed g c = record {
  entered = c.enter-in-Err-Failed.ensures.entered;
  lanes = c.enter-in-Err-Failed.ensures.lanes;
  edited = short c.args.self.now c.do_deed.new.graph c.do_deed.new.feeds c.do_deed.new.tasks.items c.args.deed c.args.items c.args.places c.in-Err-Failed.field-0 c.in-Err-Failed.stopped c.in-Err-Failed.field-0-is
      c.in-Err-Failed.ensures.failed c.requires.can c.requires.unfed c.enter-in-Err-Failed.new.self.graph c.enter-in-Err-Failed.ensures.graph;
}

pub returns-then-is_err-clause-elements : goal.returns-then-is_err-clause-elements
returns-then-is_err-clause-elements g c = same_elements c.args.self.now _ refl c.reserve.ensures.items refl

pub returns-in-Ok-Done-clause-elements : goal.returns-in-Ok-Done-clause-elements
returns-in-Ok-Done-clause-elements g c =
    aside_elements c.args.self.now c.enter.new.self c.do_deed.new.tasks.items []
    (subst (λ (outcome : Outcome _ _ _ _ _ _ _ _ _). KeepFiles c.args.self.now.tasks.items (c.do_deed.new.tasks.items ++ taken_by outcome)) c.in-Ok-Done.field-0-is c.in-Ok-Done.ensures.files)
    (ap (λ ts. ts.items) c.enter.ensures.tasks) (c.enter.ensures.keeps.turns.removed ∙ c.reserve.ensures.items ∙ sym (append-nil c.args.self.now.removed.items))
    (ap (λ (graph : EditedGraph). made graph) c.enter.ensures.graph ∙ c.do_deed.ensures.made)

pub returns-in-Ok-TakenOut-clause-elements : goal.returns-in-Ok-TakenOut-clause-elements
returns-in-Ok-TakenOut-clause-elements g c =
    aside_elements c.args.self.now c.enter-in-Ok-TakenOut.new.self c.do_deed.new.tasks.items (c.in-Ok-TakenOut.taken.task ∷ [])
    (subst (λ (outcome : Outcome _ _ _ _ _ _ _ _ _). KeepFiles c.args.self.now.tasks.items (c.do_deed.new.tasks.items ++ taken_by outcome)) c.in-Ok-TakenOut.field-0-is c.in-Ok-TakenOut.ensures.files)
    (ap (λ ts. ts.items) c.enter-in-Ok-TakenOut.ensures.tasks ∙ ap (λ ts. ts.items) c.set_aside.ensures.tasks)
    (c.enter-in-Ok-TakenOut.ensures.keeps.turns.removed ∙ c.set_aside.ensures.removed
    ∙ ap (λ (ts : List (Task _ _ _ _ _ _ _ _ _)). ts ++ c.in-Ok-TakenOut.taken.task ∷ []) c.reserve.ensures.items)
    (ap (λ (graph : EditedGraph). made graph) (c.enter-in-Ok-TakenOut.ensures.graph ∙ c.set_aside.ensures.graph) ∙ c.do_deed.ensures.made)

pub returns-in-Ok-Undone-clause-elements : goal.returns-in-Ok-Undone-clause-elements
returns-in-Ok-Undone-clause-elements g c =
    aside_elements c.args.self.now _ c.do_deed.new.tasks.items []
    (subst (λ (outcome : Outcome _ _ _ _ _ _ _ _ _). KeepFiles c.args.self.now.tasks.items (c.do_deed.new.tasks.items ++ taken_by outcome)) c.in-Ok-Undone.field-0-is c.in-Ok-Undone.ensures.files) refl
    (c.reserve.ensures.items ∙ sym (append-nil c.args.self.now.removed.items)) c.do_deed.ensures.made

pub returns-in-Err-OutOfMemory-clause-elements : goal.returns-in-Err-OutOfMemory-clause-elements
returns-in-Err-OutOfMemory-clause-elements g c = kept_elements c.args.self.now _ c.in-Err-OutOfMemory.ensures.files_failed c.reserve.ensures.items c.do_deed.ensures.made

pub returns-in-Err-Failed-clause-elements : goal.returns-in-Err-Failed-clause-elements
returns-in-Err-Failed-clause-elements g c =
    kept_elements c.args.self.now c.enter-in-Err-Failed.new.self
    (subst (λ (ts : List (Task _ _ _ _ _ _ _ _ _)). KeepFiles c.args.self.now.tasks.items ts) (sym (ap (λ ts. ts.items) c.enter-in-Err-Failed.ensures.tasks)) c.in-Err-Failed.ensures.files_failed)
    (c.enter-in-Err-Failed.ensures.keeps.turns.removed ∙ c.reserve.ensures.items) (ap (λ (graph : EditedGraph). made graph) c.enter-in-Err-Failed.ensures.graph ∙ c.do_deed.ensures.made)
