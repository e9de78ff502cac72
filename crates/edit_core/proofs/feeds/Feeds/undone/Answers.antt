use Rattle.std.proofs.Common.{◌≡◌, ◌||◌, ℕ, Bool, length, sym, ap, ◌∙◌}
use Rattle.graph_core.specs.GraphPlan.{pad_id}
use Rattle.edit_core.specs.Feeds.{given_by, has_given}
use Rattle.edit_core.proofs.Changes.{undone_elsewhere, undone_here}
use Rattle.edit_core.proofs.feeds.Feeds.undone.Goals as goal

pub returns-in-Some : goal.returns-in-Some
returns-in-Some c = λ g h source are kept pad all the.
    let gave : (c.has_given.result || c.args.eos) ≡ (has_given c.in-Some.feed c.args.items || c.args.eos) = ap (λ (b : Bool). b || c.args.eos) c.has_given.ensures in
    let first : c.given_by-first.result ≡ given_by c.in-Some.feed.first (pad_id source) (has_given c.in-Some.feed c.args.items || c.args.eos) =
    c.given_by-first.ensures ∙ ap (given_by c.in-Some.feed.first c.args.pad) gave ∙ ap (λ (p : ℕ). given_by c.in-Some.feed.first p (has_given c.in-Some.feed c.args.items || c.args.eos)) pad in
    rw first
    (undone_here c.args.self.now.feeds.items g h are kept source c.args.sink c.args.items c.args.eos (all ∙ ap (λ (p : ℕ). length (h p)) pad) the c.in-Some.feed
    (sym c.first_of.ensures ∙ c.in-Some.is))

pub returns-in_default : goal.returns-in_default
returns-in_default c = λ g h source are kept pad all the.
    undone_elsewhere c.args.self.now.feeds.items g h are kept source c.args.sink c.args.items c.args.eos (all ∙ ap (λ (p : ℕ). length (h p)) pad) the (sym c.first_of.ensures ∙ c.in_default.is)
