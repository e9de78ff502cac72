use Rattle.std.proofs.Common.{List, sym, ap, ◌∙◌, subst, ◌++◌, ◌∷◌, []}
use Rattle.graph_edits.specs.Edited.{added}
use Rattle.edit_core.specs.Feeds.{AreKept}
use Rattle.edit_core.specs.declared.feeds.Feed.{Feed}
use Rattle.edit_core.proofs.Changes.{added_behind}
use Rattle.edit_core.proofs.feeds.Feeds.added.Goals as goal

pub returns-clause-more : goal.returns-clause-more
returns-clause-more c = λ g h m are.
    subst (λ (feeds : List Feed). AreKept feeds (added m g) h)
    (ap (λ (last : Feed). c.args.self.now.feeds.items ++ last ∷ []) (sym c.none.ensures) ∙ sym c.in_ok-push.ensures.items)
    (added_behind c.args.self.now.feeds.items g h are m)
