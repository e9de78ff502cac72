use Rattle.std.proofs.Common.{false, subst, sym}
use Rattle.graph_edits.specs.Edited.{unlinked_at}
use Rattle.edit_core.specs.Feeds.{AreFeeds}
use Rattle.edit_core.specs.declared.feeds.Feeds.{Feeds}
use Rattle.edit_acts.proofs.Keeps.{nowhere_kept, opens_then, undone_link}
use Rattle.edit_acts.proofs.relinking.keep.Goals as goal
use Rattle.edit_acts.proofs.relinking.keep.Goals.{in-Some, in_default}

pub returns : goal.returns
returns c = λ graph h source kept w.
    let undone : AreFeeds c.match-before.feeds (unlinked_at source c.args.items false graph) h = elim c.match-before.branch [
      | in-Some b ↦ subst (λ (f : Feeds). AreFeeds f (unlinked_at source c.args.items false graph) h) (sym b.feeds-is)
          (b.undone.ensures graph h source kept w.kept w.number w.all (undone_link graph h source c.args.sink c.args.before c.args.pad c.args.items c.args.opened w b.in-Some.before b.in-Some.is))
      | in_default b ↦ subst (λ (f : Feeds). AreFeeds f (unlinked_at source c.args.items false graph) h) (sym b.feeds-is)
          (nowhere_kept graph h source c.args.sink c.args.before c.args.pad c.args.items c.args.opened w c.args.feeds.now b.in_default.is kept)
    ] in
    c.linked.ensures (unlinked_at source c.args.items false graph) h source undone w.free (opens_then graph h source c.args.sink c.args.before c.args.pad c.args.items c.args.opened w)
