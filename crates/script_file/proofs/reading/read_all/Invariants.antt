use Rattle.std.proofs.Common.{◌≡◌, ◌<◌, ◌-◌, length}
use Rattle.script_file.proofs.Beginnings.{Begins}
use Rattle.script_file.proofs.reading.read_all.Given as goal

abbrev pub invariant-loop-source : goal.invariant-loop-source
invariant-loop-source g l =
    record {
      content_stays : g.S.Source.content l.source ≡ g.S.Source.content l.fn.source;
      location_stays : g.S.Source.location l.source ≡ g.S.Source.location l.fn.source;
      faults_stay : g.S.Source.faults l.source ≡ g.S.Source.faults l.fn.source;
      front : Begins (g.S.Source.content l.fn.source) l.bytes.items;
      block : 0 < length l.block.items;
    }

abbrev pub decreases-loop-source : goal.decreases-loop-source
decreases-loop-source g l = 1048577 - length l.bytes.items
