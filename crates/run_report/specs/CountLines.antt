-- The lines that tell what a run did.
use Rattle.std.specs.Prelude.{ℕ, ◌+◌, List, [], ◌∷◌, ◌++◌, codes, flat_map}
use Rattle.std.specs.Fmt.{decimal}
use Rattle.run_report.specs.Names.{reason_name}
use Rattle.run_report.specs.Pads.{newline, pad_text, place_text}
use Rattle.script_text.specs.declared.answer.Answer.{Answer}
use Rattle.script_text.specs.declared.answer.Answer.TheVariants.{Done, Unreached, Refused}
use Rattle.script_text.specs.declared.answer.Entry.{Entry}
use Rattle.run_report.specs.declared.report.PadCount.{PadCount}
use Rattle.script_text.specs.declared.answer.Reason.{Reason}
use Rattle.script_text.specs.declared.answer.Reason.TheVariants.{TooMany}
use Rattle.run_report.specs.declared.report.Report.{Report}
use Rattle.run_report.specs.declared.report.SinkCount.{SinkCount}

-- the number behind a reason that has one
abbrev pub limit_text : Reason → List ℕ
limit_text (TooMany count) = codes " " ++ decimal count
limit_text _ = []

-- the places of a refused command are not told
abbrev pub answer_text : Answer → List ℕ
answer_text (Done places) = codes " done" ++ flat_map place_text places
answer_text Unreached = codes " unreached"
answer_text (Refused reason places) = codes " refused " ++ reason_name reason ++ limit_text reason

abbrev pub entry_line : ℕ → Entry → List ℕ
entry_line k entry = codes "command " ++ decimal k ++ answer_text entry.answer ++ newline

-- the lines of the commands from number k on
abbrev pub entry_lines : ℕ → List Entry → List ℕ
entry_lines k [] = []
entry_lines k (entry ∷ entries) = entry_line k entry ++ entry_lines (k + 1) entries

abbrev pub pad_line : PadCount → List ℕ
pad_line count = codes "pad " ++ pad_text count.pad ++ codes " items " ++ decimal count.items ++ codes " buffers " ++ decimal count.buffers ++ newline

abbrev pub sink_line : SinkCount → List ℕ
sink_line count = codes "sink " ++ count.name ++ codes " bytes " ++ decimal count.bytes ++ newline

-- commands are counted from 1
abbrev pub count_lines : Report → List ℕ
count_lines report = entry_lines 1 report.entries ++ flat_map pad_line report.pads ++ flat_map sink_line report.sinks
