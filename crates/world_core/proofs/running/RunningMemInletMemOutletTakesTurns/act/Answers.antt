use Rattle.std.proofs.Common.{◌∙◌, inl, inr, refl, sym}
use Rattle.world_core.specs.Answering.{ActFails}
use Rattle.world_core.specs.Running.{KeepsElements}
use Rattle.world_core.proofs.Acting.{done_of}
use Rattle.world_core.proofs.Elements.{err_both}
use Rattle.world_core.proofs.ProbeActs.{as_it_was, less_answered, less_looked_up, less_probed, not_done, on_ok_all, ready_answered, ready_looked_up}
use Rattle.world_core.proofs.running.RunningMemInletMemOutletTakesTurns.act.Goals as goal

pub returns-in-Some-clause-acted : goal.returns-in-Some-clause-acted
returns-in-Some-clause-acted g c = λ is. (inl (c.in-Some.place, done_of c.probe_at.result is c.probe_at.ensures.probed), c.probe_at.ensures.elements)

pub returns-in-Some-clause-less : goal.returns-in-Some-clause-less
returns-in-Some-clause-less g c = λ is.
    less_probed c.args.self.now c.probe_at.new.self c.in-Some.place (done_of c.probe_at.result is c.probe_at.ensures.probed) (c.probe_at.ensures.less is)

pub returns-in-Some-clause-waits : goal.returns-in-Some-clause-waits
returns-in-Some-clause-waits g c = λ is. absurd (not_done _ c.probe_at.result c.probe_at.ensures.probed is)

pub returns-in-Some-clause-failed : goal.returns-in-Some-clause-failed
returns-in-Some-clause-failed g c =
    err_both c.probe_at.result (ActFails c.args.self.now c.probe_at.new.self) (KeepsElements c.args.self.now c.probe_at.new.self)
    (as_it_was c.probe_at.result c.args.self.now c.probe_at.new.self c.probe_at.ensures.failed) c.probe_at.ensures.elements

pub returns-in-Some-clause-ready : goal.returns-in-Some-clause-ready
returns-in-Some-clause-ready g c = on_ok_all _ _ _ c.probe_at.result c.probe_at.ensures.ready c.probe_at.ensures.probes (c.probe_at.ensures.watched c.requires.ready.2)

pub returns-else-is_waiting-clause-ready : goal.returns-else-is_waiting-clause-ready
returns-else-is_waiting-clause-ready g c =
    ready_answered _ _ c.answer_next.result c.args.self.now c.answer_next.new.self c.answer_next.ensures.ready c.answer_next.ensures.acted c.answer_next.ensures.unasked c.answer_next.ensures.waits
    c.answer_next.ensures.probing c.requires.ready.1 c.requires.ready.2

pub returns-else-is_waiting-clause-acted : goal.returns-else-is_waiting-clause-acted
returns-else-is_waiting-clause-acted g c = λ is. (inr (sym c.unprobed.ensures.place ∙ c.in-None.is, inr (c.answer_next.ensures.acted is)), c.answer_next.ensures.elements)

pub returns-else-is_waiting-clause-waits : goal.returns-else-is_waiting-clause-waits
returns-else-is_waiting-clause-waits g c = λ is. ((sym c.unprobed.ensures.place ∙ c.in-None.is, (c.answer_next.ensures.waits is).0), (c.answer_next.ensures.waits is).1)

pub returns-else-is_waiting-clause-less : goal.returns-else-is_waiting-clause-less
returns-else-is_waiting-clause-less g c = λ is.
    less_answered c.args.self.now c.answer_next.new.self (c.answer_next.ensures.acted is).script c.answer_next.ensures.probing (c.answer_next.ensures.unasked is) (c.answer_next.ensures.less is)

pub returns-else-is_waiting-clause-failed : goal.returns-else-is_waiting-clause-failed
returns-else-is_waiting-clause-failed g c =
    err_both c.answer_next.result (ActFails c.args.self.now c.answer_next.new.self) (KeepsElements c.args.self.now c.answer_next.new.self) c.answer_next.ensures.failed c.answer_next.ensures.elements

pub look_up-requires-clause-some : goal.look_up-requires-clause-some
look_up-requires-clause-some g c κs within = (c.is_unasked.ensures c.if-is_unasked.true).0

pub look_up-requires-clause-unasked : goal.look_up-requires-clause-unasked
look_up-requires-clause-unasked g c κs within = (c.is_unasked.ensures c.if-is_unasked.true).1

pub returns-then-is_unasked-clause-ready : goal.returns-then-is_unasked-clause-ready
returns-then-is_unasked-clause-ready g c =
    ready_looked_up c.look_up.result c.args.self.now c.look_up.new.self c.look_up.ensures.looked c.look_up.ensures.watched c.requires.ready.0 c.requires.ready.1

pub returns-then-is_unasked-clause-acted : goal.returns-then-is_unasked-clause-acted
returns-then-is_unasked-clause-acted g c = λ is. (inr (sym c.unprobed.ensures.place ∙ c.in-None.is, inl (done_of c.look_up.result is c.look_up.ensures.looked)), c.look_up.ensures.elements)

pub returns-then-is_unasked-clause-less : goal.returns-then-is_unasked-clause-less
returns-then-is_unasked-clause-less g c = λ is. less_looked_up c.args.self.now c.look_up.new.self (done_of c.look_up.result is c.look_up.ensures.looked)

pub returns-then-is_unasked-clause-waits : goal.returns-then-is_unasked-clause-waits
returns-then-is_unasked-clause-waits g c = λ is. absurd (not_done _ c.look_up.result c.look_up.ensures.looked is)

pub returns-then-is_unasked-clause-failed : goal.returns-then-is_unasked-clause-failed
returns-then-is_unasked-clause-failed g c =
    err_both c.look_up.result (ActFails c.args.self.now c.look_up.new.self) (KeepsElements c.args.self.now c.look_up.new.self)
    (as_it_was c.look_up.result c.args.self.now c.look_up.new.self c.look_up.ensures.failed) c.look_up.ensures.elements

pub returns-then-is_waiting-clause-waits : goal.returns-then-is_waiting-clause-waits
returns-then-is_waiting-clause-waits g c = λ is. ((sym c.unprobed.ensures.place ∙ c.in-None.is, c.is_waiting.ensures c.if-is_waiting.true), refl)
