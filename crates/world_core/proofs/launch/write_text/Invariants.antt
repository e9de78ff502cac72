use Rattle.std.proofs.Common.{length, take, ◌-◌, ◌≤◌}
use Rattle.world_core.specs.Headline.{Wrote}
use Rattle.world_core.proofs.launch.write_text.Given as goal

abbrev pub invariant-loop-done : goal.invariant-loop-done
invariant-loop-done g l =
    record {
      within : l.done ≤ length l.text;
      wrote : Wrote (take l.done l.text) (g.O.Sink.bytes l.initial.out) (g.O.Sink.bytes l.out);
      faults : g.O.Sink.faults l.initial.out ≤ g.O.Sink.faults l.out;
    }

abbrev pub decreases-loop-done : goal.decreases-loop-done
decreases-loop-done g l = length l.text - l.done
