use Rattle.std.proofs.Common.{subst, sym}
use Rattle.net_edits.specs.Over.{CannotJoin, TaskFeeds}
use Rattle.net_edits.proofs.over.find_ends.Goals as goal

pub returns-in_default-clause-none : goal.returns-in_default-clause-none
returns-in_default-clause-none g c = λ none. CannotJoin.no_pad (c.find_task.ensures.none c.in_default.is)

pub returns-in_default-find_row-clause-none : goal.returns-in_default-find_row-clause-none
returns-in_default-find_row-clause-none g c = λ none. CannotJoin.no_row (c.find_row.ensures.none c.in_default-find_row.is)

pub returns-then-sender-receiver-clause-none : goal.returns-then-sender-receiver-clause-none
returns-then-sender-receiver-clause-none g c = λ none.
    CannotJoin.one_task c.in-Some.sender c.in-Some.ensures.there (subst (TaskFeeds c.args.tasks.now c.args.element c.args.port) (sym c.if-sender-receiver.true) c.in-Some-find_row.ensures.there)
