use Rattle.std.proofs.Common.{◌≤◌, ◌+◌, length, vec_len}
use Rattle.std.specs.Prelude.{vec_capacity}
use Rattle.run_files.specs.Ends.{AllOpened, known_ends}
use Rattle.part_tests.proofs.run_files_tests.work.Given as goal

abbrev pub invariant-loop-end : goal.invariant-loop-end
invariant-loop-end g l =
    record {
      left : AllOpened (g.F.Files.opened l.files) (known_ends g.F.Src.Source g.F.Snk.Sink l.ends.items);
      done : AllOpened (g.F.Files.opened l.files) (known_ends g.F.Src.Source g.F.Snk.Sink l.back.items);
      room : length l.ends.items + length l.back.items ≤ vec_capacity l.back;
    }

abbrev pub decreases-loop-end : goal.decreases-loop-end
decreases-loop-end g l = vec_len l.ends
