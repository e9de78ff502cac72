use Rattle.std.proofs.Common.{◌∙◌, sym, refl}
use Rattle.el_denote.proofs.Going.{runs_known, runs_closed}
use Rattle.el_denote.proofs.Ordering.{stays_fed, closed_ordered}
use Rattle.el_denote.proofs.joined.close.Goals as goal
use Rattle.gst_value.proofs.Results.{on_ok as when_ok}

pub returns-then-is_in_order-clause-closed : goal.returns-then-is_in_order-clause-closed
returns-then-is_in_order-clause-closed c = λ settings j marks turns is r.
    runs_known settings j c.args.gaps c.args.join.now c.args.pad marks c.args.begun turns c.args.put.now is c.requires.pad r

pub returns-clause-fed : goal.returns-clause-fed
returns-clause-fed c =
    stays_fed c.args.join.now c.feed.new.join c.args.pad _ _ c.args.put.now c.feed.new.put refl (when_ok c.feed.result _ (sym c.is_err.ensures.value ∙ c.if-is_err.false) c.feed.ensures.puts) c.requires.fed

pub returns-clause-order : goal.returns-clause-order
returns-clause-order c =
    closed_ordered c.args.join.now c.feed.new.join c.args.pad c.args.put.now c.feed.new.put
    (when_ok c.feed.result _ (sym c.is_err.ensures.value ∙ c.if-is_err.false) c.feed.ensures.puts) c.requires.fed c.requires.order

pub returns-clause-closed : goal.returns-clause-closed
returns-clause-closed c = λ settings j marks turns is r.
    runs_closed settings j c.args.gaps c.args.join.now c.feed.new.join c.args.pad marks c.args.begun turns c.args.put.now c.feed.new.put c.with_gap.result is c.requires.pad
    c.requires.order (rw c.if-is_in_order.false at c.is_in_order.ensures) c.with_gap.ensures
    (when_ok c.feed.result _ (sym c.is_err.ensures.value ∙ c.if-is_err.false) c.feed.ensures.puts) r
