-- Worked rows of the text of a report, each a case and its lines.
use Rattle.std.specs.Prelude.{◌≡◌, ℕ, pos, true, false, List, [], ◌∷◌, ◌++◌, None, Some, codes, flat_map}
use Rattle.gst_value.specs.Description.{Description}
use Rattle.gst_caps.specs.declared.caps.Caps.{Caps}
use Rattle.gst_caps.specs.declared.caps.Caps.TheVariants.{Of}
use Rattle.gst_value.specs.declared.name.PadName.{PadName}
use Rattle.gst_value.specs.declared.one.One.{One}
use Rattle.gst_value.specs.declared.one.One.TheVariants.{Int, Text as Word}
use Rattle.gst_caps.specs.declared.value.Value.TheVariants.{One as Single}
use Rattle.flow_model.specs.declared.fault.StreamKind.TheVariants.{Short}
use Rattle.launch_text.specs.declared.fault.LineKind.TheVariants.{TrailingLink}
use Rattle.pad_core.specs.declared.linking.LinkReturn.TheVariants.{WasLinked}
use Rattle.script_text.specs.declared.fault.ScriptKind.TheVariants.{BadNumber}
use Rattle.run_report.specs.Pads.{newline}
use Rattle.run_report.specs.ReportText.{report_lines}
use Rattle.script_text.specs.declared.answer.Answer.TheVariants.{Done, Unreached, Refused}
use Rattle.script_text.specs.declared.answer.Answer.{Answer}
use Rattle.script_text.specs.declared.answer.Entry.{Entry}
use Rattle.run_report.specs.declared.report.Fault.TheVariants.{Nothing, Words, NoLine, BothLines, BadLine, NoSuch, BadValue, NameTaken, LocationTaken, TooMany, LinkRefused, BadScript, OpenFault, ReadFault, WriteFault, BadStream, NotNegotiated, NotLinked, Stalled, TooLong}
use Rattle.run_report.specs.declared.report.Fault.{Fault}
use Rattle.run_report.specs.declared.report.PadCount.{PadCount}
use Rattle.script_text.specs.declared.answer.Place.{Place}
use Rattle.script_text.specs.declared.answer.Reason.TheVariants.{TooMany as Limit, AfterEos, NotReady}
use Rattle.run_report.specs.declared.report.Report.{Report}
use Rattle.run_report.specs.declared.report.StallReason.TheVariants.{NeedsItem, NeedsRoom, AtProbe, Held, Ended}
use Rattle.run_report.specs.declared.report.StallReason.{StallReason}
use Rattle.run_report.specs.declared.report.StalledTask.{StalledTask}
use Rattle.graph_core.specs.declared.fault.What.TheVariants.{Kind, Property}

-- lines of a text, each with a newline at its end
abbrev pub lines : List (List ℕ) → List ℕ
lines texts = flat_map (λ text. text ++ newline) texts

abbrev pub pad : List ℕ → List ℕ → PadName
pad element name = record { element = element; pad = name }

abbrev pub place : List ℕ → List ℕ → ℕ → Place
place element name items = record { pad = pad element name; items = items }

abbrev pub pad_count : List ℕ → ℕ → ℕ → PadCount
pad_count element items buffers = record { pad = pad element (codes "src"); items = items; buffers = buffers }

abbrev pub entry : Answer → Entry
entry answer = record { answer = answer }

abbrev pub task : List ℕ → StallReason → StalledTask
task head reason = record { head = head; reason = reason; taken = [] }

-- the report of a run that did not begin
abbrev pub report_without : Fault → Report
report_without fault = record { entries = []; pads = []; sinks = []; fault = fault }

-- the report of a run with these commands, in which a source's buffers went to a sink
abbrev pub report_of : List Entry → Fault → Report
report_of entries fault = record {
  entries = entries;
  pads = pad_count (codes "filesrc0") 9 6 ∷ pad_count (codes "i") 8 5 ∷ [];
  sinks = record { name = codes "o"; bytes = 3 } ∷ record { name = codes "b"; bytes = 0 } ∷ [];
  fault = fault;
}

-- the lines of the pads and the sinks of such a run
abbrev pub crossed : List (List ℕ)
crossed = codes "pad filesrc0.src items 9 buffers 6" ∷ codes "pad i.src items 8 buffers 5" ∷ codes "sink o bytes 3" ∷ codes "sink b bytes 0" ∷ []

-- commands with each kind of answer
abbrev pub commands : List Entry
commands =
    entry (Done []) ∷ entry (Done (place (codes "i") (codes "src") 5 ∷ place (codes "t") (codes "src_1") 0 ∷ []))
    ∷ entry Unreached ∷ entry (Refused (Limit 65) (place (codes "i") (codes "src") 5 ∷ []))
    ∷ entry (Refused AfterEos []) ∷ entry (Refused (NotReady (place (codes "f") (codes "src") 1) (place (codes "w") (codes "src") 0)) []) ∷ []

abbrev pub raw_audio : Description One
raw_audio = record {
  media = codes "audio/x-raw";
  fields = (codes "channels", Int (pos 1)) ∷ (codes "format", Word (codes "S16LE")) ∷ (codes "layout", Word (codes "interleaved")) ∷ (codes "rate", Int (pos 44100)) ∷ [];
}

abbrev pub slow_audio : Caps
slow_audio = Of (record { media = codes "audio/x-raw"; fields = (codes "rate", Single (Int (pos 8000))) ∷ [] } ∷ [])

pub record RunRows : Type 0 where
  pub ended : report_lines 0 false (report_of [] Nothing) ≡ lines (codes "status 0 Eos" ∷ crossed)
  pub quiet : report_lines 0 true (report_of commands Nothing) ≡ lines (codes "status 0 Eos" ∷ [])
  pub answered : report_lines 0 false (report_of commands Nothing)
      ≡ lines (codes "status 0 Eos" ∷ codes "command 1 done" ∷ codes "command 2 done i.src=5 t.src_1=0" ∷ codes "command 3 unreached"
      ∷ codes "command 4 refused TooMany 65" ∷ codes "command 5 refused AfterEos" ∷ codes "command 6 refused NotReady" ∷ crossed)
  pub no_memory : report_lines 13 false (report_of commands NoLine) ≡ lines (codes "status 13 OutOfMemory" ∷ [])

pub record LineRows : Type 0 where
  pub words : report_lines 1 false (report_without Words) ≡ lines (codes "status 1 BadWords" ∷ codes "fault Words" ∷ [])
  pub no_line : report_lines 1 false (report_without NoLine) ≡ lines (codes "status 1 BadWords" ∷ codes "fault NoLine" ∷ [])
  pub both_lines : report_lines 1 false (report_without BothLines) ≡ lines (codes "status 1 BadWords" ∷ codes "fault BothLines" ∷ [])
  pub place : report_lines 2 false (report_without (BadLine 20 TrailingLink)) ≡ lines (codes "status 2 BadLine" ∷ codes "fault place 20 TrailingLink" ∷ [])
  pub kind : report_lines 3 false (report_without (NoSuch (codes "nosuch") Kind)) ≡ lines (codes "status 3 NoSuch" ∷ codes "fault NoSuch nosuch Kind" ∷ [])
  pub property : report_lines 3 false (report_without (NoSuch (codes "identity0") (Property (codes "foo"))))
      ≡ lines (codes "status 3 NoSuch" ∷ codes "fault NoSuch identity0 foo" ∷ [])
  pub value : report_lines 3 false (report_without (BadValue (codes "filesrc0") (codes "blocksize"))) ≡ lines (codes "status 3 BadValue" ∷ codes "fault BadValue filesrc0 blocksize" ∷ [])
  pub name : report_lines 3 false (report_without (NameTaken (codes "i"))) ≡ lines (codes "status 3 NameTaken" ∷ codes "fault NameTaken i" ∷ [])
  pub location : report_lines 3 false (report_without (LocationTaken (codes "a"))) ≡ lines (codes "status 3 LocationTaken" ∷ codes "fault LocationTaken a" ∷ [])
  pub count : report_lines 3 false (report_without (TooMany 65)) ≡ lines (codes "status 3 TooMany" ∷ codes "fault TooMany 65" ∷ [])
  pub link : report_lines 4 false (report_without (LinkRefused (pad (codes "f") (codes "src")) (pad (codes "fakesink1") (codes "sink")) WasLinked))
      ≡ lines (codes "status 4 LinkRefused" ∷ codes "fault link f.src fakesink1.sink -2" ∷ [])
  pub script : report_lines 5 false (report_without (BadScript 1 BadNumber)) ≡ lines (codes "status 5 BadScript" ∷ codes "fault line 1 BadNumber" ∷ [])

pub record FlowRows : Type 0 where
  pub unopened : report_lines 6 false (report_without (OpenFault (codes "b"))) ≡ lines (codes "status 6 OpenFault" ∷ codes "fault open b" ∷ [])
  pub unread : report_lines 7 false (report_of [] (ReadFault (codes "a") 0 1)) ≡ lines (codes "status 7 ReadFault" ∷ codes "fault read a faults 0 1" ∷ crossed)
  pub unwritten : report_lines 8 false (report_of [] (WriteFault (codes "q") 0 1)) ≡ lines (codes "status 8 WriteFault" ∷ codes "fault write q faults 0 1" ∷ crossed)
  pub short : report_lines 9 true (report_of [] (BadStream (codes "w") 43 Short)) ≡ lines (codes "status 9 BadStream" ∷ codes "fault stream w place 43 Short" ∷ [])
  pub unfit : report_lines 10 true (report_of [] (NotNegotiated (codes "capsfilter0") (Some raw_audio) slow_audio))
      ≡ lines (codes "status 10 NotNegotiated" ∷ codes "fault caps capsfilter0 offered audio/x-raw, channels=(int)1, format=(string)S16LE, layout=(string)interleaved, rate=(int)44100 wanted audio/x-raw, rate=(int)8000" ∷ [])
  pub no_caps : report_lines 10 true (report_of [] (NotNegotiated (codes "capsfilter0") None slow_audio))
      ≡ lines (codes "status 10 NotNegotiated" ∷ codes "fault caps capsfilter0 offered none wanted audio/x-raw, rate=(int)8000" ∷ [])
  pub unlinked : report_lines 11 true (report_of [] (NotLinked (pad (codes "filesrc0") (codes "src")) 2)) ≡ lines (codes "status 11 NotLinked" ∷ codes "fault unlinked filesrc0.src place 2" ∷ [])
  pub past : report_lines 15 true (report_of [] (TooLong (codes "identity0") 1099511627776 1)) ≡ lines (codes "status 15 TooLong" ∷ codes "fault time identity0 1099511627776 1" ∷ [])

pub record StallRows : Type 0 where
  pub no_command : report_lines 12 true (report_of [] (Stalled None
      (task (codes "ramptestsrc0") (NeedsRoom (pad (codes "queue0") (codes "sink"))) ∷ task (codes "queue0") (NeedsRoom (pad (codes "v") (codes "sink_0")))
      ∷ task (codes "v") (NeedsItem (pad (codes "v") (codes "sink_1"))) ∷ [])))
      ≡ lines (codes "status 12 Stalled" ∷ codes "fault command none" ∷ codes "task ramptestsrc0 needs-room queue0.sink" ∷ codes "task queue0 needs-room v.sink_0" ∷ codes "task v needs-item v.sink_1" ∷ [])
  pub at_a_command : report_lines 12 true (report_of [] (Stalled (Some 3)
      (task (codes "f") (AtProbe 3) ∷ task (codes "g") (Held (codes "o")) ∷ task (codes "h") Ended ∷ [])))
      ≡ lines (codes "status 12 Stalled" ∷ codes "fault command 3" ∷ codes "task f at-probe 3" ∷ codes "task g held o" ∷ codes "task h ended" ∷ [])
