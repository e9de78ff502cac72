use Rattle.el_set.proofs.JoinRules.{joins_want_within}
use Rattle.task_elements.proofs.Joins.{join_takes, joined_still, may_take_wanted, wanted_is}
use Rattle.task_elements.proofs.join.StreamJoin.feed.Goals as goal

pub feed-requires-clause-pad : goal.feed-requires-clause-pad
feed-requires-clause-pad c =
    let join = c.args.self.now.join in
    joins_want_within join c.args.pad (wanted_is join c.in-Some.wanted c.args.pad c.in-Some.ensures c.if-wanted-pad.false)

pub feed-requires-clause-order : goal.feed-requires-clause-order
feed-requires-clause-order c =
    let join = c.args.self.now.join in
    may_take_wanted join c.args.pad c.args.self.now.joined (wanted_is join c.in-Some.wanted c.args.pad c.in-Some.ensures c.if-wanted-pad.false)

pub invariant_of-self : goal.invariant_of-self
invariant_of-self c = record {
  joined = joined_still c.args.self.now.join c.feed.new.self c.args.pad c.args.item c.args.out.now c.feed.new.out c.feed.result c.args.self.now.joined c.feed.ensures.puts c.feed.ensures.stays;
}

pub returns-in-Ok-clause-took : goal.returns-in-Ok-clause-took
returns-in-Ok-clause-took c =
    let join = c.args.self.now.join in
    join_takes join c.feed.new.self c.args.pad c.args.item c.args.out.now c.feed.new.out c.requires.no_flush
    (joins_want_within join c.args.pad (wanted_is join c.in-Some.wanted c.args.pad c.in-Some.ensures c.if-wanted-pad.false)) c.in-Ok.ensures.puts
