use Rattle.std.proofs.Common.{◌∙◌, ap, refl}
use Rattle.graph_core.specs.Graph.{made}
use Rattle.net_turns.specs.Turns.{stop_of}
use Rattle.world_core.specs.Told.{pads_told, sinks_told}
use Rattle.world_core.proofs.RunMade.{made_ended, made_located, source_fails, told_by}
use Rattle.world_core.proofs.Started.{started_ready}
use Rattle.world_core.proofs.Stops.{answered_so, stopped_so}
use Rattle.world_core.proofs.run.run_made.Goals as goal

pub run_all-ran-requires-clause-ready : goal.run_all-ran-requires-clause-ready
run_all-ran-requires-clause-ready g c κs within =
    started_ready g.S.Source g.K.Sink c.args.graph.now c.args.begun.tasks.items c.args.begun.rest.items c.args.begun.left.items (g.O.Outlet.tells c.args.lanes.now)
    c.requires.started.0 c.requires.started.1

pub returns-in-Ok-clause-ended : goal.returns-in-Ok-clause-ended
returns-in-Ok-clause-ended g c = λ before started some.
    made_ended g.S.Source g.K.Sink (record { ports = λ x. refl; stands = λ x behavior took stands. stands; count = λ x. refl; gave = λ x owed given owes. owes })
    (λ x. refl) (λ x. refl) c.args.graph.now c.args.begun.tasks.items c.run_all-ran.new.tasks.items c.args.begun.rest.items c.args.begun.left.items
    (g.O.Outlet.tells c.args.lanes.now) before started c.run_all-ran.ensures.frames c.run_all-ran.ensures.count c.runs_are_known.ensures (λ x. source_fails g.S.Source.faults x.source)
    c.take_back.new.ends.items c.in-Ok.end c.args.turns c.run_all-ran.ensures.turned.0 c.run_all-ran.new.steps.items (g.O.Outlet.tells c.run_all-ran.new.lanes)
    c.run_all-ran.result c.in-Ok.ensures.0 c.run_all-ran.ensures.ended c.run_all-ran.ensures.faulted c.run_all-ran.ensures.turned.1
    (stopped_so c.args.graph.now c.stop_in-stop.result c.in-Ok.ensures.0 c.in-Ok.ensures.1 c.as_slice-2.ensures.value c.as_slice-3.ensures.value c.stop_in-stop.ensures)
    (record {
      none = c.args.counts.pads.items;
      counts = c.count_pads.new.counts.items;
      zeros = c.args.counts.lengths.items;
      lengths = c.take_back.new.lengths.items;
      room = c.requires.room;
      counted = rw (← c.as_slice.ensures.value) c.count_pads.ensures;
      wrote = c.take_back.ensures.lengths;
      back = rw (← c.elements.ensures) c.take_back.ensures.ends;
      tells = told_by (made c.args.graph.now) c.in-Ok.end refl c.as_slice-4.ensures.value c.as_slice-5.ensures.value c.in-Ok.ensures.2;
    }) some

pub returns-in-Ok-clause-located : goal.returns-in-Ok-clause-located
returns-in-Ok-clause-located g c = λ before started.
    made_located g.S.Source g.K.Sink (record { ports = λ x. refl; stands = λ x behavior took stands. stands; count = λ x. refl; gave = λ x owed given owes. owes })
    (λ x. refl) (λ x. refl) c.args.graph.now c.args.begun.tasks.items c.run_all-ran.new.tasks.items c.args.begun.rest.items c.args.begun.left.items
    (g.O.Outlet.tells c.args.lanes.now) before started c.run_all-ran.ensures.frames c.run_all-ran.ensures.count c.take_back.new.ends.items (rw (← c.elements.ensures) c.take_back.ensures.ends)

pub returns-clause-located : goal.returns-clause-located
returns-clause-located g c = λ before started.
    made_located g.S.Source g.K.Sink (record { ports = λ x. refl; stands = λ x behavior took stands. stands; count = λ x. refl; gave = λ x owed given owes. owes })
    (λ x. refl) (λ x. refl) c.args.graph.now c.args.begun.tasks.items c.run_all-ran.new.tasks.items c.args.begun.rest.items c.args.begun.left.items
    (g.O.Outlet.tells c.args.lanes.now) before started c.run_all-ran.ensures.frames c.run_all-ran.ensures.count c.take_back.new.ends.items (rw (← c.elements.ensures) c.take_back.ensures.ends)

pub returns-in-Ok-clause-turned : goal.returns-in-Ok-clause-turned
returns-in-Ok-clause-turned g c = λ before started some. record {
  first = c.args.begun.tasks.items;
  rest = c.args.begun.rest.items;
  left = c.args.begun.left.items;
  tells = g.O.Outlet.tells c.args.lanes.now;
  started = started;
  last = c.run_all-ran.new.tasks.items;
  met = stop_of c.run_all-ran.result;
  turns = c.run_all-ran.ensures.turned.0;
  turned = c.run_all-ran.ensures.turned.1;
  steps = c.run_all-ran.new.steps.items;
  over = g.O.Outlet.tells c.run_all-ran.new.lanes;
  answered = answered_so c.run_all-ran.result c.run_all-ran.ensures.ended;
  stop = c.in-Ok.ensures.0;
  stops = stopped_so c.args.graph.now c.stop_in-stop.result c.in-Ok.ensures.0 c.in-Ok.ensures.1 c.as_slice-2.ensures.value c.as_slice-3.ensures.value c.stop_in-stop.ensures;
  status = c.in-Ok.ensures.2.status;
  fault = c.in-Ok.ensures.2.fault;
  none = c.args.counts.pads.items;
  zeros = c.args.counts.lengths.items;
  room = c.requires.room;
  counts = c.count_pads.new.counts.items;
  counted = rw (← c.as_slice.ensures.value) c.count_pads.ensures;
  pads = c.in-Ok.ensures.2.pads_are ∙ ap (pads_told (made c.args.graph.now)) c.as_slice-4.ensures.value;
  lengths = c.take_back.new.lengths.items;
  wrote = c.take_back.ensures.lengths;
  sinks = c.in-Ok.ensures.2.sinks_are ∙ ap (sinks_told (made c.args.graph.now)) c.as_slice-5.ensures.value;
}
