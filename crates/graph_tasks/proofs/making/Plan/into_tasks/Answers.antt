use Rattle.std.proofs.Common.{◌∙◌, ap, map, sym, arith}
use Rattle.graph_tasks.specs.Planned.{planned}
use Rattle.graph_tasks.proofs.Begun.{tasks_are}
use Rattle.graph_tasks.proofs.Plans.{elements_end, first_once, first_there, sources_end, tasks_begin, tasks_end, tasks_step}
use Rattle.graph_tasks.proofs.making.Plan.into_tasks.Goals as goal
use Rattle.gst_value.proofs.Places.{none_left as is_empty}

pub loop-slot-init : goal.loop-slot-init
loop-slot-init g c = record {
  room = omega (arith, c.args.self.room, c.args.self.empty);
  so = tasks_begin g.S.TaskSource g.E.TaskElement g.I.Inlet g.O.Outlet (planned c.args.self) c.args.elements.now.items c.args.sources.now.items c.args.self.tasks.items (is_empty c.args.self.tasks.items (sym c.args.self.tasks.ok.0 ∙ c.args.self.empty)) c.requires.there;
}

pub task_from-requires-clause-there : goal.task_from-requires-clause-there
task_from-requires-clause-there g c κs within =
    first_there g.S.TaskSource g.E.TaskElement g.I.Inlet g.O.Outlet (planned c.args.self) c.args.elements.now.items c.args.sources.now.items c.in-Some.slot.wired (map (λ slot. slot.wired) c.loop-slot.slots.items)
    (map (λ slot. slot.wired) c.pop_front.new.self.items) c.loop-slot.elements.items c.loop-slot.sources.items c.loop-slot.tasks.items (ap (map (λ slot. slot.wired)) c.in-Some.ensures.items) c.loop-slot.invariant.so

pub task_from-requires-clause-once : goal.task_from-requires-clause-once
task_from-requires-clause-once g c κs within =
    first_once g.S.TaskSource g.E.TaskElement g.I.Inlet g.O.Outlet (planned c.args.self) c.args.elements.now.items c.args.sources.now.items c.in-Some.slot.wired (map (λ slot. slot.wired) c.loop-slot.slots.items)
    (map (λ slot. slot.wired) c.pop_front.new.self.items) c.loop-slot.elements.items c.loop-slot.sources.items c.loop-slot.tasks.items (ap (map (λ slot. slot.wired)) c.in-Some.ensures.items) c.loop-slot.invariant.so

pub loop-slot-preserved : goal.loop-slot-preserved
loop-slot-preserved g c = record {
  room = omega (arith, c.loop-slot.invariant.room, c.in-Some.ensures.cases, c.push_reserved.ensures.len, c.push_reserved.ensures.capacity);
  so = tasks_step g.S.TaskSource g.E.TaskElement g.I.Inlet g.O.Outlet (planned c.args.self) c.args.elements.now.items c.args.sources.now.items c.in-Some.slot.wired (map (λ slot. slot.wired) c.loop-slot.slots.items)
      (map (λ slot. slot.wired) c.pop_front.new.self.items) c.loop-slot.elements.items c.loop-slot.sources.items c.loop-slot.tasks.items (ap (map (λ slot. slot.wired)) c.in-Some.ensures.items) c.loop-slot.invariant.so
      c.task_from.new.elements.items c.task_from.new.sources.items c.push_reserved.new.self.items c.task_from.result c.task_from.ensures.elements_left c.task_from.ensures.sources_left c.task_from.ensures.task c.push_reserved.ensures.items;
}

pub returns-clause-tasks : goal.returns-clause-tasks
returns-clause-tasks g c = λ made links bags table.
    tasks_are g.I.Inlet g.O.Outlet made links c.args.elements.now.items c.args.sources.now.items bags (planned c.args.self) c.loop-slot.tasks.items table
    (tasks_end g.S.TaskSource g.E.TaskElement g.I.Inlet g.O.Outlet (planned c.args.self) c.args.elements.now.items c.args.sources.now.items (map (λ slot. slot.wired) c.loop-slot.slots.items) c.loop-slot.elements.items
    c.loop-slot.sources.items c.loop-slot.tasks.items (ap (map (λ slot. slot.wired)) (is_empty c.loop-slot.slots.items (sym c.loop-slot.slots.ok.0 ∙ c.in_default.ensures.cases.0))) c.loop-slot.invariant.so)

pub returns-clause-elements_left : goal.returns-clause-elements_left
returns-clause-elements_left g c =
    elements_end g.S.TaskSource g.E.TaskElement g.I.Inlet g.O.Outlet (planned c.args.self) c.args.elements.now.items c.args.sources.now.items (map (λ slot. slot.wired) c.loop-slot.slots.items) c.loop-slot.elements.items
    c.loop-slot.sources.items c.loop-slot.tasks.items (ap (map (λ slot. slot.wired)) (is_empty c.loop-slot.slots.items (sym c.loop-slot.slots.ok.0 ∙ c.in_default.ensures.cases.0))) c.loop-slot.invariant.so

pub returns-clause-sources_left : goal.returns-clause-sources_left
returns-clause-sources_left g c =
    sources_end g.S.TaskSource g.E.TaskElement g.I.Inlet g.O.Outlet (planned c.args.self) c.args.elements.now.items c.args.sources.now.items (map (λ slot. slot.wired) c.loop-slot.slots.items) c.loop-slot.elements.items
    c.loop-slot.sources.items c.loop-slot.tasks.items (ap (map (λ slot. slot.wired)) (is_empty c.loop-slot.slots.items (sym c.loop-slot.slots.ok.0 ∙ c.in_default.ensures.cases.0))) c.loop-slot.invariant.so
