use Rattle.std.proofs.Common.{ap, refl, subst, sym, ◌∙◌}
use Rattle.std.specs.Prelude.{IfOk}
use Rattle.task_parts.specs.declared.head.Head.{Head}
use Rattle.task_parts.specs.declared.head.Head.TheVariants.{Source, Inlets}
use Rattle.net_task.specs.Failed.{Causes, FailsAs, LanesLeft, at_head}
use Rattle.net_task.specs.Frame.{frame_in}
use Rattle.net_task.specs.Ready.{AreReady}
use Rattle.net_task.specs.Reasons.{HeadIdle}
use Rattle.net_task.specs.Ties.{AreTied, Stands, nothing_lost}
use Rattle.net_task.specs.Tries.{Asks}
use Rattle.net_task.proofs.Asking.{gave_failed, given_frame, head_faults, source_asks, source_cause}
use Rattle.net_task.proofs.Inlets.{inlet_asks, inlet_caused, inlet_failed, inlet_framed, inlet_left}
use Rattle.net_task.proofs.SoFar.{front_idle}
use Rattle.net_task.proofs.task.Task.ask_head.Goals as goal

pub returns-in-Source-clause-asks : goal.returns-in-Source-clause-asks
returns-in-Source-clause-asks g c =
    subst (λ (h : Head g.row.S.Denot g.row.I.Denot g.row.O.Denot g.S.TaskSource). IfOk c.step_of.result (Asks g.I.Inlet g.O.Outlet (g.O.Outlet.tells c.args.lanes.now) (g.O.Outlet.tells c.args.lanes.now) h (Source c.give.new.head) c.args.self.now.parts.items c.args.self.now.parts.items)) (sym c.in-Source.is)
    (source_asks g.I.Inlet g.O.Outlet (λ source owed given gave. (g.met.S.TaskSource).begins source owed given gave) c.in-Source.head c.give.new.head c.args.self.now.parts.items (g.O.Outlet.tells c.args.lanes.now) c.give.ensures.number c.give.ensures.rest c.give.ensures.file
    (subst (λ (h : Head g.row.S.Denot g.row.I.Denot g.row.O.Denot g.S.TaskSource). HeadIdle h) c.in-Source.is c.requires.idle) (subst (λ (h : Head g.row.S.Denot g.row.I.Denot g.row.O.Denot g.S.TaskSource). AreReady g.I.Inlet g.O.Outlet (g.O.Outlet.tells c.args.lanes.now) h c.args.self.now.parts.items) c.in-Source.is c.requires.ready) c.give.result c.give.ensures.gives c.step_of.result c.step_of.ensures)

pub returns-in-Source-clause-faults : goal.returns-in-Source-clause-faults
returns-in-Source-clause-faults g c =
    head_faults c.give.result c.step_of.result _ c.step_of.ensures
    (λ fault q. record {
      cause = subst (λ (h : Head g.row.S.Denot g.row.I.Denot g.row.O.Denot g.S.TaskSource). Causes g.O.Outlet (frame_in g.O.Outlet h c.args.self.now.parts.items) h (Source c.give.new.head) c.args.self.now.parts.items c.args.self.now.parts.items fault) (sym c.in-Source.is) (source_cause g.row.I.Denot g.O.Outlet c.in-Source.head c.give.new.head c.args.self.now.parts.items c.give.result c.give.ensures.gives fault q);
      lanes = LanesLeft.kept fault refl;
      fails = λ m a. subst (λ (h : Head g.row.S.Denot g.row.I.Denot g.row.O.Denot g.S.TaskSource). FailsAs g.I.Inlet g.O.Outlet (g.O.Outlet.tells c.args.lanes.now) (g.O.Outlet.tells c.args.lanes.now) m h (Source c.give.new.head) c.args.self.now.parts.items c.args.self.now.parts.items at_head fault) (sym c.in-Source.is)
          (gave_failed g.I.Inlet g.O.Outlet (λ source owed given gave. (g.met.S.TaskSource).begins source owed given gave) c.in-Source.head c.give.new.head c.args.self.now.parts.items c.give.ensures.number c.give.ensures.rest m
          (subst (λ (h : Head g.row.S.Denot g.row.I.Denot g.row.O.Denot g.S.TaskSource). AreTied g.I.Inlet g.O.Outlet (Stands m) nothing_lost m h c.args.self.now.parts.items) c.in-Source.is a) (g.O.Outlet.tells c.args.lanes.now) (subst (λ (h : Head g.row.S.Denot g.row.I.Denot g.row.O.Denot g.S.TaskSource). HeadIdle h) c.in-Source.is c.requires.idle) c.give.result c.give.ensures.gives fault q);
    })

pub returns-in-Source-clause-frame : goal.returns-in-Source-clause-frame
returns-in-Source-clause-frame g c =
    given_frame g.I.Inlet g.O.Outlet c.in-Source.head c.give.new.head c.args.self.now.parts.items c.give.ensures.number c.give.ensures.rest c.give.ensures.file
    ∙ ap (λ (h : Head g.row.S.Denot g.row.I.Denot g.row.O.Denot g.S.TaskSource). frame_in g.O.Outlet h c.args.self.now.parts.items) (sym c.in-Source.is)

pub returns-in-Inlets-clause-asks : goal.returns-in-Inlets-clause-asks
returns-in-Inlets-clause-asks g c =
    subst (λ (h : Head g.row.S.Denot g.row.I.Denot g.row.O.Denot g.S.TaskSource). IfOk c.step_of-in-Inlets.result (Asks g.I.Inlet g.O.Outlet (g.O.Outlet.tells c.args.lanes.now) (g.O.Outlet.tells c.take.new.lanes) h (Inlets c.take.new.head) c.args.self.now.parts.items c.take.new.parts.items)) (sym c.in-Inlets.is)
    (inlet_asks g.S.TaskSource g.I.Inlet g.O.Outlet c.in-Inlets.head c.take.new.head c.args.self.now.parts.items c.take.new.parts.items _ _ c.take.result c.take.ensures.takes c.take.ensures.shape (λ inlet. (g.met.I.Inlet g.world.𝓛 g.world.𝓜 g.world.𝓡 ((λ s x. x), (λ x. x), (λ x. x), λ x. x)).bounded inlet) (subst (λ (h : Head g.row.S.Denot g.row.I.Denot g.row.O.Denot g.S.TaskSource). AreReady g.I.Inlet g.O.Outlet (g.O.Outlet.tells c.args.lanes.now) h c.args.self.now.parts.items) c.in-Inlets.is c.requires.ready) c.step_of-in-Inlets.result c.step_of-in-Inlets.ensures)

pub returns-in-Inlets-clause-faults : goal.returns-in-Inlets-clause-faults
returns-in-Inlets-clause-faults g c =
    head_faults c.take.result c.step_of-in-Inlets.result _ c.step_of-in-Inlets.ensures
    (λ fault q. record {
      cause = subst (λ (h : Head g.row.S.Denot g.row.I.Denot g.row.O.Denot g.S.TaskSource). Causes g.O.Outlet (frame_in g.O.Outlet h c.args.self.now.parts.items) h (Inlets c.take.new.head) c.args.self.now.parts.items c.take.new.parts.items fault) (sym c.in-Inlets.is) (inlet_caused g.S.TaskSource g.I.Inlet g.O.Outlet c.in-Inlets.head c.take.new.head c.args.self.now.parts.items c.take.new.parts.items _ _ c.take.result c.take.ensures.takes c.take.ensures.shape fault q);
      lanes = subst (λ (h : Head g.row.S.Denot g.row.I.Denot g.row.O.Denot g.S.TaskSource). LanesLeft g.I.Inlet (g.O.Outlet.tells c.args.lanes.now) (g.O.Outlet.tells c.take.new.lanes) h (Inlets c.take.new.head) fault) (sym c.in-Inlets.is) (inlet_left g.S.TaskSource g.I.Inlet g.O.Outlet c.in-Inlets.head c.take.new.head c.args.self.now.parts.items c.take.new.parts.items _ _ c.take.result c.take.ensures.takes c.take.ensures.shape fault q);
      fails = λ m a. subst (λ (h : Head g.row.S.Denot g.row.I.Denot g.row.O.Denot g.S.TaskSource). FailsAs g.I.Inlet g.O.Outlet (g.O.Outlet.tells c.args.lanes.now) (g.O.Outlet.tells c.take.new.lanes) m h (Inlets c.take.new.head) c.args.self.now.parts.items c.take.new.parts.items at_head fault) (sym c.in-Inlets.is)
          (inlet_failed g.S.TaskSource g.I.Inlet g.O.Outlet c.in-Inlets.head c.take.new.head c.args.self.now.parts.items c.take.new.parts.items _ _ c.take.result c.take.ensures.takes c.take.ensures.shape m
          (subst (λ (h : Head g.row.S.Denot g.row.I.Denot g.row.O.Denot g.S.TaskSource). AreTied g.I.Inlet g.O.Outlet (Stands m) nothing_lost m h c.args.self.now.parts.items) c.in-Inlets.is a) fault q);
    })

pub returns-in-Inlets-clause-frame : goal.returns-in-Inlets-clause-frame
returns-in-Inlets-clause-frame g c = inlet_framed g.S.TaskSource g.I.Inlet g.O.Outlet c.in-Inlets.head c.take.new.head c.args.self.now.parts.items c.take.new.parts.items _ _ c.take.result c.take.ensures.takes c.take.ensures.shape ∙ ap (λ (h : Head g.row.S.Denot g.row.I.Denot g.row.O.Denot g.S.TaskSource). frame_in g.O.Outlet h c.args.self.now.parts.items) (sym c.in-Inlets.is)

pub invariant_of-self-in-Inlets-clause-idle : goal.invariant_of-self-in-Inlets-clause-idle
invariant_of-self-in-Inlets-clause-idle g c = front_idle c.args.self.now.from c.take.new.from c.args.self.now.parts.items c.take.new.parts.items c.take.ensures.front c.args.self.now.idle
