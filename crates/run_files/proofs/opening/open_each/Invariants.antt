use Rattle.std.proofs.Common.{◌≡◌, ◌≤◌, ℕ, List, length, take}
use Rattle.std.specs.Prelude.{vec_capacity}
use Rattle.run_files.specs.Ends.{AllOpened, known_ends}
use Rattle.run_files.specs.Opening.{Opens}
use Rattle.run_files.proofs.opening.open_each.Given as goal

abbrev pub invariant-loop-place : goal.invariant-loop-place
invariant-loop-place g l =
    record {
      opened : Opens (take l.place l.openings) (known_ends g.F.Src.Source g.F.Snk.Sink l.ends.items)
          (g.F.Files.seen l.fn.files)
          (g.F.Files.seen l.files);
      here : AllOpened (g.F.Files.opened l.files) (known_ends g.F.Src.Source g.F.Snk.Sink l.ends.items);
      opened_stays : (k : List ℕ) → g.F.Files.opened l.fn.files k → g.F.Files.opened l.files k;
      filled : length l.ends.items ≡ l.place;
      room : length l.openings ≤ vec_capacity l.ends;
    }
