-- The lines of the commands so far stand behind the text.
use Rattle.std.proofs.Common.{◌≡◌, ◌++◌, take}
use Rattle.std.specs.String.{string_bytes}
use Rattle.run_report.specs.CountLines.{entry_lines}
use Rattle.run_report.proofs.counts.write_entries.Given as goal

abbrev pub invariant-loop-index : goal.invariant-loop-index
invariant-loop-index l = string_bytes l.text ≡ string_bytes l.initial.text ++ entry_lines 1 (take l.index l.entry-items)
