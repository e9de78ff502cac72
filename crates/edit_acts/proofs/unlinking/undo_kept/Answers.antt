use Rattle.edit_acts.proofs.unlinking.undo_kept.Goals as goal

pub returns-clause-graph : goal.returns-clause-graph
returns-clause-graph c = λ graph edited. c.unlink.ensures.edited graph c.args.items edited

pub returns-clause-feeds : goal.returns-clause-feeds
returns-clause-feeds c = λ graph h kept stands number crossed link. c.undone.ensures graph h c.args.source kept stands number crossed link
