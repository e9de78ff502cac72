use Rattle.el_mix.proofs.Choosing.{wants_short, wants_unstarted}
use Rattle.el_mix.proofs.Lacking.{short_wanted, unstarted_wanted}
use Rattle.el_mix.proofs.mix.Mix.wants.Goals as goal

pub returns-in-Some-clause-order : goal.returns-in-Some-clause-order
returns-in-Some-clause-order c = wants_short c.args.self.now c.deref.result.now c.in-Some.pad c.deref.ensures.value c.in-Some.ensures

pub returns-in-None-clause-order : goal.returns-in-None-clause-order
returns-in-None-clause-order c =
    wants_unstarted c.args.self.now c.deref.result.now c.deref-in-None.result.now c.lowest_unstarted.result c.deref.ensures.value c.deref-in-None.ensures.value c.in-None.ensures
    c.lowest_unstarted.ensures

pub returns-in-Some-clause-lists : goal.returns-in-Some-clause-lists
returns-in-Some-clause-lists c = short_wanted c.args.self.now c.deref.result.now c.in-Some.pad c.deref.ensures.value c.in-Some.ensures

pub returns-in-None-clause-lists : goal.returns-in-None-clause-lists
returns-in-None-clause-lists c =
    unstarted_wanted c.args.self.now c.deref.result.now c.deref-in-None.result.now c.lowest_unstarted.result c.deref.ensures.value c.deref-in-None.ensures.value c.in-None.ensures
    c.lowest_unstarted.ensures
