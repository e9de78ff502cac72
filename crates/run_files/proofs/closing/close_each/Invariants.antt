use Rattle.std.proofs.Common.{ℕ, List, vec_len}
use Rattle.run_files.specs.Ends.{AllOpened, known_end, known_ends}
use Rattle.run_files.proofs.GivenBack.{Closing}
use Rattle.run_files.proofs.closing.close_each.Given as goal

abbrev pub invariant-loop-end : goal.invariant-loop-end
invariant-loop-end g l =
    record {
      closing : Closing (known_end g.F.Src.Source g.F.Snk.Sink) l.fn.ends.items l.ends.items
          (g.F.Files.seen l.fn.files)
          (g.F.Files.seen l.files);
      here : AllOpened (g.F.Files.opened l.files) (known_ends g.F.Src.Source g.F.Snk.Sink l.ends.items);
      opened_stays : (k : List ℕ) → g.F.Files.opened l.fn.files k → g.F.Files.opened l.files k;
    }

abbrev pub decreases-loop-end : goal.decreases-loop-end
decreases-loop-end g l = vec_len l.ends
