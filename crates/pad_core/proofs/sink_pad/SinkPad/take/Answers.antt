use Rattle.std.proofs.Common.{refl, sym, ◌∙◌}
use Rattle.pad_core.proofs.Accepted.{accepted}
use Rattle.pad_core.proofs.sink_pad.SinkPad.take.Goals as goal

pub returns-then-is_flush_stop-clause-history : goal.returns-then-is_flush_stop-clause-history
returns-then-is_flush_stop-clause-history c =
    accepted c.args.self.now _ c.args.item.now c.saturating_add-self.ensures (rw (sym c.is_flush_stop.ensures ∙ c.if-is_flush_stop.true) refl)

pub returns-then-is_eos-clause-history : goal.returns-then-is_eos-clause-history
returns-then-is_eos-clause-history c =
    accepted c.args.self.now _ c.args.item.now c.saturating_add-self.ensures
    (rw (sym c.is_flush_stop.ensures ∙ c.if-is_flush_stop.false, sym c.is_eos.ensures ∙ c.if-is_eos.true) refl)

pub returns-else-is_eos-clause-history : goal.returns-else-is_eos-clause-history
returns-else-is_eos-clause-history c =
    accepted c.args.self.now _ c.args.item.now c.saturating_add-self.ensures
    (rw (sym c.is_flush_stop.ensures ∙ c.if-is_flush_stop.false, sym c.is_eos.ensures ∙ c.if-is_eos.false) refl)
