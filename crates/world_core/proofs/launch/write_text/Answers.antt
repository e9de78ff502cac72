use Rattle.std.proofs.Common.{arith}
use Rattle.world_core.proofs.Writes.{write_more}
use Rattle.world_core.proofs.launch.write_text.Goals as goal

pub loop-done-preserved : goal.loop-done-preserved
loop-done-preserved g c =
    record {
      within = omega (arith, c.in_ok-done.ensures.part);
      wrote = write_more _ _ _ c.args.text.now c.loop-done.done _ c.loop-done.invariant.within c.loop-done.invariant.wrote c.in_ok-done.ensures.wrote;
      faults = omega arith;
    }
