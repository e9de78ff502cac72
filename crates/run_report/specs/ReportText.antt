-- The text of a report: one line after another, each with a newline at its end.
use Rattle.std.specs.Prelude.{ℕ, ◌==◌, Bool, List, [], ◌++◌, if◌then◌else◌, codes}
use Rattle.std.specs.Fmt.{decimal}
use Rattle.run_report.specs.CountLines.{count_lines}
use Rattle.run_report.specs.FaultLines.{cause_lines}
use Rattle.run_report.specs.Names.{status_name}
use Rattle.run_report.specs.Pads.{newline}
use Rattle.run_report.specs.declared.report.Fault.{Fault}
use Rattle.run_report.specs.declared.report.Report.{Report}

abbrev pub status_line : ℕ → Fault → List ℕ
status_line status fault = codes "status " ++ decimal status ++ codes " " ++ status_name status fault ++ newline

-- The text for a status. Want of memory stands alone, and quiet leaves out what the run did.
abbrev pub report_lines : ℕ → Bool → Report → List ℕ
report_lines status quiet report =
    if status == 13 then status_line 13 report.fault else status_line status report.fault ++ cause_lines status report.fault ++ (if quiet then [] else count_lines report)
