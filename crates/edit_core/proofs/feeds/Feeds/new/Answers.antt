use Rattle.std.proofs.Common.{ap, ◌∙◌, replicate}
use Rattle.edit_core.specs.declared.feeds.Feed.{Feed}
use Rattle.edit_core.proofs.Changes.{begins}
use Rattle.edit_core.proofs.feeds.Feeds.new.Goals as goal

pub returns : goal.returns
returns c = λ made links h long.
    begins made links h c.args.elements c.in_ok-feeds.feeds.items long
    (c.in_ok-feeds.ensures.items_if_clones_equal (λ y e. e) ∙ ap (λ (feed : Feed). replicate c.args.elements feed) c.none.ensures)
