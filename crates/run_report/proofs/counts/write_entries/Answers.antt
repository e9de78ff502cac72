-- The line of one more command stands behind the lines so far.
use Rattle.std.proofs.Common.{arith}
use Rattle.std.specs.String.{string_bytes}
use Rattle.run_report.proofs.EntryLines.{text_with_more}
use Rattle.run_report.proofs.counts.write_entries.Goals as goal

pub loop-index-preserved : goal.loop-index-preserved
loop-index-preserved c = text_with_more (string_bytes c.args.text.now) (string_bytes c.loop-index.text) _ _ c.loop-index.index c.entry-item.result (omega arith) c.loop-index.invariant (rw (← c.entry-item.is) c.in_ok-write_entry.ensures)
