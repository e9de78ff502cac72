use Rattle.std.proofs.Common.{ap, subst, sym, ◌∙◌}
use Rattle.task_parts.specs.declared.head.Head.{Head}
use Rattle.task_parts.specs.declared.head.Head.TheVariants.{Source}
use Rattle.net_task.specs.Failed.{Causes}
use Rattle.net_task.specs.Frame.{frame_in}
use Rattle.net_task.specs.Ready.{AreReady}
use Rattle.net_task.specs.Ties.{AreTied, Stands, nothing_lost}
use Rattle.net_task.specs.Tries.{HeadTries, IsHeadPad, PadFails}
use Rattle.net_task.proofs.Closed.{if_ok, if_err}
use Rattle.net_task.proofs.SourceTrying.{inlets_tried, source_caused, source_failed, source_framed, source_kept, source_lanes, source_lanes_same, source_ready, source_spends, source_stayed, source_tabled, source_tried}
use Rattle.net_task.proofs.SoFar.{front_idle}
use Rattle.net_task.proofs.task.Task.try_head.Goals as goal

pub returns-in-Source-clause-tries : goal.returns-in-Source-clause-tries
returns-in-Source-clause-tries g c =
    if_ok c.cross_source.result _ (λ answer q. subst (λ (h : Head g.row.S.Denot g.row.I.Denot g.row.O.Denot g.S.TaskSource). HeadTries g.I.Inlet g.O.Outlet (g.O.Outlet.tells c.args.lanes.now) (g.O.Outlet.tells c.cross_source.new.lanes) h (Source c.cross_source.new.head) c.args.self.now.parts.items c.cross_source.new.parts.items answer) (sym c.in-Source.is)
    (record {
      ready = source_ready g.I.Inlet g.O.Outlet c.in-Source.head c.cross_source.new.head c.args.self.now.parts.items c.cross_source.new.parts.items _ _ c.cross_source.result c.cross_source.ensures.crosses c.cross_source.ensures.shape (subst (λ (h : Head g.row.S.Denot g.row.I.Denot g.row.O.Denot g.S.TaskSource). AreReady g.I.Inlet g.O.Outlet (g.O.Outlet.tells c.args.lanes.now) h c.args.self.now.parts.items) c.in-Source.is c.requires.ready) answer q;
      spends = source_spends g.I.Inlet g.O.Outlet c.in-Source.head c.cross_source.new.head c.args.self.now.parts.items c.cross_source.new.parts.items _ _ c.cross_source.result c.cross_source.ensures.crosses c.cross_source.ensures.shape answer q;
      table = source_tabled g.I.Inlet g.O.Outlet c.in-Source.head c.cross_source.new.head c.args.self.now.parts.items c.cross_source.new.parts.items _ _ c.cross_source.result c.cross_source.ensures.crosses c.cross_source.ensures.shape answer q;
      kept = source_kept g.I.Inlet g.O.Outlet c.in-Source.head c.cross_source.new.head c.args.self.now.parts.items c.cross_source.new.parts.items _ _ c.cross_source.result c.cross_source.ensures.crosses c.cross_source.ensures.shape answer q;
      lanes = source_lanes g.I.Inlet g.O.Outlet c.in-Source.head c.cross_source.new.head c.args.self.now.parts.items c.cross_source.new.parts.items _ _ c.cross_source.result c.cross_source.ensures.crosses c.cross_source.ensures.shape;
      stays = source_stayed g.I.Inlet g.O.Outlet c.in-Source.head c.cross_source.new.head c.args.self.now.parts.items c.cross_source.new.parts.items _ _ c.cross_source.result c.cross_source.ensures.crosses c.cross_source.ensures.shape answer q;
      tries = λ m a. source_tried g.I.Inlet g.O.Outlet c.in-Source.head c.cross_source.new.head c.args.self.now.parts.items c.cross_source.new.parts.items _ _ c.cross_source.result c.cross_source.ensures.crosses c.cross_source.ensures.shape (λ source owed given gave. (g.met.S.TaskSource).begins source owed given gave) (λ outlet was sent. (g.met.O.Outlet g.world.𝓛 g.world.𝓜 g.world.𝓡 ((λ s x. x), (λ x. x), (λ x. x), λ x. x)).counts outlet was sent) m a answer q;
    }))

pub returns-in-Source-clause-faults : goal.returns-in-Source-clause-faults
returns-in-Source-clause-faults g c =
    if_err c.cross_source.result _ (λ fault q. record {
      cause = subst (λ (h : Head g.row.S.Denot g.row.I.Denot g.row.O.Denot g.S.TaskSource). Causes g.O.Outlet (frame_in g.O.Outlet h c.args.self.now.parts.items) h (Source c.cross_source.new.head) c.args.self.now.parts.items c.cross_source.new.parts.items fault) (sym c.in-Source.is) (source_caused g.I.Inlet g.O.Outlet c.in-Source.head c.cross_source.new.head c.args.self.now.parts.items c.cross_source.new.parts.items _ _ c.cross_source.result c.cross_source.ensures.crosses c.cross_source.ensures.shape fault q);
      table = source_lanes_same g.I.Inlet g.O.Outlet c.in-Source.head c.cross_source.new.head c.args.self.now.parts.items c.cross_source.new.parts.items _ _ c.cross_source.result c.cross_source.ensures.crosses c.cross_source.ensures.shape fault q;
      fails = λ m a. subst (λ (h : Head g.row.S.Denot g.row.I.Denot g.row.O.Denot g.S.TaskSource). PadFails g.I.Inlet g.O.Outlet m h (Source c.cross_source.new.head) c.args.self.now.parts.items c.cross_source.new.parts.items (IsHeadPad (frame_in g.O.Outlet h c.args.self.now.parts.items)) fault) (sym c.in-Source.is)
          (source_failed g.I.Inlet g.O.Outlet c.in-Source.head c.cross_source.new.head c.args.self.now.parts.items c.cross_source.new.parts.items _ _ c.cross_source.result c.cross_source.ensures.crosses c.cross_source.ensures.shape (λ source owed given gave. (g.met.S.TaskSource).begins source owed given gave) (λ outlet was sent. (g.met.O.Outlet g.world.𝓛 g.world.𝓜 g.world.𝓡 ((λ s x. x), (λ x. x), (λ x. x), λ x. x)).counts outlet was sent) m (subst (λ (h : Head g.row.S.Denot g.row.I.Denot g.row.O.Denot g.S.TaskSource). AreTied g.I.Inlet g.O.Outlet (Stands m) nothing_lost m h c.args.self.now.parts.items) c.in-Source.is a) fault q);
    })

pub returns-in-Source-clause-frame : goal.returns-in-Source-clause-frame
returns-in-Source-clause-frame g c = source_framed g.I.Inlet g.O.Outlet c.in-Source.head c.cross_source.new.head c.args.self.now.parts.items c.cross_source.new.parts.items _ _ c.cross_source.result c.cross_source.ensures.crosses c.cross_source.ensures.shape ∙ ap (λ (h : Head g.row.S.Denot g.row.I.Denot g.row.O.Denot g.S.TaskSource). frame_in g.O.Outlet h c.args.self.now.parts.items) (sym c.in-Source.is)

pub returns-in-Inlets-clause-tries : goal.returns-in-Inlets-clause-tries
returns-in-Inlets-clause-tries g c = inlets_tried g.I.Inlet g.O.Outlet (g.O.Outlet.tells c.args.lanes.now) c.args.self.now.head c.args.self.now.parts.items c.in-Inlets.field-0 c.in-Inlets.is c.requires.ready

pub invariant_of-self-clause-idle : goal.invariant_of-self-clause-idle
invariant_of-self-clause-idle g c = front_idle c.args.self.now.from c.cross_source.new.from c.args.self.now.parts.items c.cross_source.new.parts.items c.cross_source.ensures.front c.args.self.now.idle
