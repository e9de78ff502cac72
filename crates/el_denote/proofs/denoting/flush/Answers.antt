use Rattle.el_denote.proofs.WholeLists.{took_flush}
use Rattle.el_denote.proofs.denoting.flush.Goals as goal

pub returns : goal.returns
returns c =
    took_flush c.args.element.now c.flush.new.self c.args.item.now _ c.args.out.now c.push.new.self c.in_ok-item.ensures c.requires c.in_ok-push.ensures.ok
    c.flush.ensures
