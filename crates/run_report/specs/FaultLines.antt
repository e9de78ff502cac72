-- The lines that tell which fault ended a run.
use Rattle.std.specs.Prelude.{ℕ, ◌==◌, List, [], ◌++◌, Option, None, Some, codes, flat_map, if◌then◌else◌}
use Rattle.std.specs.Fmt.{decimal, signed_decimal}
use Rattle.gst_value.specs.Description.{Description}
use Rattle.gst_caps.specs.declared.caps.Caps.{Caps}
use Rattle.gst_value.specs.declared.name.PadName.{PadName}
use Rattle.gst_value.specs.declared.one.One.{One}
use Rattle.flow_model.specs.declared.fault.StreamKind.{StreamKind}
use Rattle.caps_text.specs.Printed.{caps_text, structure_text, typed_text}
use Rattle.launch_text.specs.declared.fault.LineKind.{LineKind}
use Rattle.pad_core.specs.Linking.{code_of}
use Rattle.pad_core.specs.declared.linking.LinkReturn.{LinkReturn}
use Rattle.script_text.specs.declared.fault.ScriptKind.{ScriptKind}
use Rattle.run_report.specs.Names.{line_kind_name, script_kind_name, stream_kind_name, what_name}
use Rattle.run_report.specs.Pads.{newline, pad_text}
use Rattle.run_report.specs.declared.report.Fault.{Fault}
use Rattle.run_report.specs.declared.report.Fault.TheVariants.{Nothing, Words, NoLine, BothLines, BadLine, NoSuch, BadValue, NameTaken, LocationTaken, TooMany, LinkRefused, BadScript, OpenFault, ReadFault, WriteFault, BadStream, NotNegotiated, NotLinked, Stalled, TooLong}
use Rattle.run_report.specs.declared.report.StallReason.{StallReason}
use Rattle.run_report.specs.declared.report.StallReason.TheVariants.{NeedsItem, NeedsRoom, AtProbe, Held, Ended}
use Rattle.run_report.specs.declared.report.StalledTask.{StalledTask}
use Rattle.graph_core.specs.declared.fault.What.{What}

-- a line of one word
abbrev pub word_line : List ℕ → List ℕ
word_line word = codes "fault " ++ word ++ newline

-- a line of a word and what it is about
abbrev pub about_line : List ℕ → List ℕ → List ℕ
about_line word name = codes "fault " ++ word ++ codes " " ++ name ++ newline

abbrev pub place_line : ℕ → LineKind → List ℕ
place_line place kind = codes "fault place " ++ decimal place ++ codes " " ++ line_kind_name kind ++ newline

-- of a script's text
abbrev pub script_line : ℕ → ScriptKind → List ℕ
script_line line kind = codes "fault line " ++ decimal line ++ codes " " ++ script_kind_name kind ++ newline

abbrev pub missing_line : List ℕ → What → List ℕ
missing_line name what = codes "fault NoSuch " ++ name ++ codes " " ++ what_name what ++ newline

abbrev pub value_line : List ℕ → List ℕ → List ℕ
value_line name property = codes "fault BadValue " ++ name ++ codes " " ++ property ++ newline

abbrev pub count_line : ℕ → List ℕ
count_line count = codes "fault TooMany " ++ decimal count ++ newline

-- the answer by its number
abbrev pub link_line : PadName → PadName → LinkReturn → List ℕ
link_line a b answer = codes "fault link " ++ pad_text a ++ codes " " ++ pad_text b ++ codes " " ++ signed_decimal (code_of answer) ++ newline

-- `work` is `read` or `write`
abbrev pub failure_line : List ℕ → List ℕ → ℕ → ℕ → List ℕ
failure_line work location before after = codes "fault " ++ work ++ codes " " ++ location ++ codes " faults " ++ decimal before ++ codes " " ++ decimal after ++ newline

abbrev pub stream_line : List ℕ → ℕ → StreamKind → List ℕ
stream_line element place kind = codes "fault stream " ++ element ++ codes " place " ++ decimal place ++ codes " " ++ stream_kind_name kind ++ newline

abbrev pub offered_text : Option (Description One) → List ℕ
offered_text None = codes "none"
offered_text (Some caps) = structure_text typed_text caps

abbrev pub caps_line : List ℕ → Option (Description One) → Caps → List ℕ
caps_line element offered wanted = codes "fault caps " ++ element ++ codes " offered " ++ offered_text offered ++ codes " wanted " ++ caps_text wanted ++ newline

abbrev pub unlinked_line : PadName → ℕ → List ℕ
unlinked_line pad place = codes "fault unlinked " ++ pad_text pad ++ codes " place " ++ decimal place ++ newline

abbrev pub time_line : List ℕ → ℕ → ℕ → List ℕ
time_line element a b = codes "fault time " ++ element ++ codes " " ++ decimal a ++ codes " " ++ decimal b ++ newline

abbrev pub command_text : Option ℕ → List ℕ
command_text None = codes "none"
command_text (Some number) = decimal number

-- `need` is `item` or `room`
abbrev pub need_text : List ℕ → PadName → List ℕ
need_text need pad = codes "needs-" ++ need ++ codes " " ++ pad_text pad

abbrev pub probe_text : ℕ → List ℕ
probe_text command = codes "at-probe " ++ decimal command

abbrev pub held_text : List ℕ → List ℕ
held_text sink = codes "held " ++ sink

abbrev pub stall_text : StallReason → List ℕ
stall_text (NeedsItem pad) = need_text (codes "item") pad
stall_text (NeedsRoom pad) = need_text (codes "room") pad
stall_text (AtProbe command) = probe_text command
stall_text (Held sink) = held_text sink
stall_text Ended = codes "ended"

abbrev pub task_line : StalledTask → List ℕ
task_line task = codes "task " ++ task.head ++ codes " " ++ stall_text task.reason ++ newline

-- the command that is still to come, and a line for each task
abbrev pub stalled_lines : Option ℕ → List StalledTask → List ℕ
stalled_lines command tasks = codes "fault command " ++ command_text command ++ newline ++ flat_map task_line tasks

abbrev pub fault_lines : Fault → List ℕ
fault_lines Nothing = []
fault_lines Words = word_line (codes "Words")
fault_lines NoLine = word_line (codes "NoLine")
fault_lines BothLines = word_line (codes "BothLines")
fault_lines (BadLine place kind) = place_line place kind
fault_lines (NoSuch name what) = missing_line name what
fault_lines (BadValue name property) = value_line name property
fault_lines (NameTaken name) = about_line (codes "NameTaken") name
fault_lines (LocationTaken location) = about_line (codes "LocationTaken") location
fault_lines (TooMany count) = count_line count
fault_lines (LinkRefused a b answer) = link_line a b answer
fault_lines (BadScript line kind) = script_line line kind
fault_lines (OpenFault location) = about_line (codes "open") location
fault_lines (ReadFault location before after) = failure_line (codes "read") location before after
fault_lines (WriteFault location before after) = failure_line (codes "write") location before after
fault_lines (BadStream element place kind) = stream_line element place kind
fault_lines (NotNegotiated element offered wanted) = caps_line element offered wanted
fault_lines (NotLinked pad place) = unlinked_line pad place
fault_lines (Stalled command tasks) = stalled_lines command tasks
fault_lines (TooLong element a b) = time_line element a b

-- status 0 has no fault
abbrev pub cause_lines : ℕ → Fault → List ℕ
cause_lines status fault = if status == 0 then [] else fault_lines fault
