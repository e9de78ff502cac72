use Rattle.el_join.proofs.Raising.{bytes_moved}
use Rattle.el_join.proofs.sums.move_bytes.Goals as goal

pub returns-clause-ok : goal.returns-clause-ok
returns-clause-ok c =
    bytes_moved c.args.segment.now c.args.by c.in_ok-start.start c.in_ok-position.position c.in_ok-stop.stop _
    c.in_ok-start.ensures.ok c.in_ok-position.ensures.ok c.in_ok-stop.ensures.ok
