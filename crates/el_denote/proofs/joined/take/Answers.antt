use Rattle.std.proofs.Common.{◌++◌, ◌∷◌, [], sym, subst}
use Rattle.flow_model.specs.Feeding.{IsFaultOf}
use Rattle.el_denote.specs.Denoted.{answered}
use Rattle.el_denote.specs.Joined.{first_fault_in}
use Rattle.el_denote.specs.Turns.{Give}
use Rattle.el_denote.proofs.Going.{runs_fed, runs_refused}
use Rattle.el_denote.proofs.Ordering.{stays_fed, stays_ordered}
use Rattle.el_denote.proofs.joined.take.Goals as goal

pub returns-in-Ok-clause-fed : goal.returns-in-Ok-clause-fed
returns-in-Ok-clause-fed c =
    stays_fed c.args.join.now c.feed.new.join c.args.pad c.args.item.now _ c.args.put.now c.feed.new.put c.in_ok-copy.ensures c.in-Ok.ensures.puts c.requires.fed

pub returns-in-Ok-clause-order : goal.returns-in-Ok-clause-order
returns-in-Ok-clause-order c =
    stays_ordered c.args.join.now c.feed.new.join c.args.pad _ c.args.put.now c.feed.new.put c.in-Ok.ensures.puts c.requires.fed c.requires.order

pub returns-in-Ok-clause-taken : goal.returns-in-Ok-clause-taken
returns-in-Ok-clause-taken c = λ settings j marks begun turns is r.
    runs_fed settings j c.args.gaps c.args.join.now c.feed.new.join c.args.pad marks begun turns c.args.item.now _ c.args.put.now c.feed.new.put c.in_ok-copy.ensures is
    c.requires.pad c.requires.plain c.in-Ok.ensures.puts r

pub returns-in-Err-clause-fault : goal.returns-in-Err-clause-fault
returns-in-Err-clause-fault c = λ settings j marks begun turns is r.
    subst (λ f. IsFaultOf (answered (first_fault_in settings (turns ++ Give c.args.pad c.args.item.now ∷ []))) f) (sym c.restored.ensures)
    (runs_refused settings j c.args.gaps c.args.join.now c.args.pad marks begun turns c.args.item.now _ c.args.put.now c.in-Err.fault c.in_ok-copy.ensures is
    c.requires.pad c.requires.plain c.in-Err.ensures.fault r)
