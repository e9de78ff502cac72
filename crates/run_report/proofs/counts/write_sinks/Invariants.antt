-- The lines of the members so far stand behind the text.
use Rattle.std.proofs.Common.{◌≡◌, ◌++◌, flat_map, take}
use Rattle.std.specs.String.{string_bytes}
use Rattle.run_report.specs.CountLines.{sink_line}
use Rattle.run_report.proofs.counts.write_sinks.Given as goal

abbrev pub invariant-loop-count : goal.invariant-loop-count
invariant-loop-count l = string_bytes l.text ≡ string_bytes l.initial.text ++ flat_map sink_line (take l.count-index l.count-items)
