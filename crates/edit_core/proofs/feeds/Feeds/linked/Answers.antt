use Rattle.std.proofs.Common.{sym, ◌∙◌}
use Rattle.edit_core.proofs.Changes.{linked_elsewhere, linked_here}
use Rattle.edit_core.proofs.feeds.Feeds.linked.Goals as goal

pub returns-in-Some : goal.returns-in-Some
returns-in-Some c = λ g h source are free is_opened.
    linked_here c.args.self.now.feeds.items g h are source c.args.sink c.args.items c.args.opened free is_opened c.in-Some.feed (sym c.first_of.ensures ∙ c.in-Some.is)

pub returns-in_default : goal.returns-in_default
returns-in_default c = λ g h source are free is_opened.
    linked_elsewhere c.args.self.now.feeds.items g h are source c.args.sink c.args.items c.args.opened free is_opened (sym c.first_of.ensures ∙ c.in_default.is)
