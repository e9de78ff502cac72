-- The words that stand for statuses, kinds of faults and reasons in a text.
use Rattle.std.specs.Prelude.{ℕ, ◌==◌, List, if◌then◌else◌, codes}
use Rattle.flow_model.specs.declared.fault.StreamKind.{StreamKind}
use Rattle.flow_model.specs.declared.fault.StreamKind.TheVariants.{NotRiff, NotWave, NoFmt, BadFmt, TagUnknown, HeadTooLong, Short, SplitFrame, TooLarge}
use Rattle.launch_text.specs.declared.fault.LineKind.{LineKind}
use Rattle.launch_text.specs.declared.fault.LineKind.TheVariants.{EmptyLink, TrailingLink, Unclosed, BadRef, CapsEnd, Deep, Empty, BadName, TooLong}
use Rattle.script_text.specs.declared.fault.ScriptKind.{ScriptKind}
use Rattle.script_text.specs.declared.fault.ScriptKind.TheVariants.{NotText, TooLong as LongScript, BadWhen, BadNumber, BadAct, NeedsPad, StrayPad, Backwards, AtInPause, EndsPaused}
use Rattle.run_report.specs.declared.report.Fault.{Fault}
use Rattle.run_report.specs.declared.report.Fault.TheVariants.{NoSuch, BadValue, NameTaken, LocationTaken, TooMany}
use Rattle.script_text.specs.declared.answer.Reason.{Reason}
use Rattle.script_text.specs.declared.answer.Reason.TheVariants.{NoSuch as Missing, BadValue as WrongValue, NameTaken as SameName, LocationTaken as SameLocation, TooMany as Limit, NotPeer, NotPlain, AfterEos, WasLinked, WouldLoop, FedElsewhere, NoFormat, NotReady, NotSeekable, BeyondEnd}
use Rattle.graph_core.specs.declared.fault.What.{What}
use Rattle.graph_core.specs.declared.fault.What.TheVariants.{Kind, Property, Element, Pad, SrcPad, SinkPad, Order}

-- status 3 has the name of what is wrong in the line
abbrev pub refused_name : Fault → List ℕ
refused_name (NoSuch name what) = codes "NoSuch"
refused_name (BadValue name property) = codes "BadValue"
refused_name (NameTaken name) = codes "NameTaken"
refused_name (LocationTaken location) = codes "LocationTaken"
refused_name (TooMany count) = codes "TooMany"
refused_name _ = codes "Unknown"

abbrev pub status_name : ℕ → Fault → List ℕ
status_name n fault =
    if n == 0 then codes "Eos" else (if n == 1 then codes "BadWords" else (if n == 2 then codes "BadLine" else (if n == 3 then refused_name fault
    else (if n == 4 then codes "LinkRefused" else (if n == 5 then codes "BadScript" else (if n == 6 then codes "OpenFault" else (if n == 7 then codes "ReadFault"
    else (if n == 8 then codes "WriteFault" else (if n == 9 then codes "BadStream" else (if n == 10 then codes "NotNegotiated" else (if n == 11 then codes "NotLinked"
    else (if n == 12 then codes "Stalled" else (if n == 13 then codes "OutOfMemory" else (if n == 14 then codes "ReportFault" else (if n == 15 then codes "TooLong"
    else codes "Unknown")))))))))))))))

-- what does not exist; a property is called by its name
abbrev pub what_name : What → List ℕ
what_name Kind = codes "Kind"
what_name (Property property) = property
what_name Element = codes "Element"
what_name Pad = codes "Pad"
what_name SrcPad = codes "SrcPad"
what_name SinkPad = codes "SinkPad"
what_name Order = codes "Order"

abbrev pub line_kind_name : LineKind → List ℕ
line_kind_name EmptyLink = codes "EmptyLink"
line_kind_name TrailingLink = codes "TrailingLink"
line_kind_name Unclosed = codes "Unclosed"
line_kind_name BadRef = codes "BadRef"
line_kind_name CapsEnd = codes "CapsEnd"
line_kind_name Deep = codes "Deep"
line_kind_name Empty = codes "Empty"
line_kind_name BadName = codes "BadName"
line_kind_name TooLong = codes "TooLong"

abbrev pub script_kind_name : ScriptKind → List ℕ
script_kind_name NotText = codes "NotText"
script_kind_name LongScript = codes "TooLong"
script_kind_name BadWhen = codes "BadWhen"
script_kind_name BadNumber = codes "BadNumber"
script_kind_name BadAct = codes "BadAct"
script_kind_name NeedsPad = codes "NeedsPad"
script_kind_name StrayPad = codes "StrayPad"
script_kind_name Backwards = codes "Backwards"
script_kind_name AtInPause = codes "AtInPause"
script_kind_name EndsPaused = codes "EndsPaused"

abbrev pub stream_kind_name : StreamKind → List ℕ
stream_kind_name NotRiff = codes "NotRiff"
stream_kind_name NotWave = codes "NotWave"
stream_kind_name NoFmt = codes "NoFmt"
stream_kind_name BadFmt = codes "BadFmt"
stream_kind_name TagUnknown = codes "TagUnknown"
stream_kind_name HeadTooLong = codes "HeadTooLong"
stream_kind_name Short = codes "Short"
stream_kind_name SplitFrame = codes "SplitFrame"
stream_kind_name TooLarge = codes "TooLarge"

abbrev pub reason_name : Reason → List ℕ
reason_name Missing = codes "NoSuch"
reason_name WrongValue = codes "BadValue"
reason_name SameName = codes "NameTaken"
reason_name SameLocation = codes "LocationTaken"
reason_name (Limit count) = codes "TooMany"
reason_name NotPeer = codes "NotPeer"
reason_name NotPlain = codes "NotPlain"
reason_name AfterEos = codes "AfterEos"
reason_name WasLinked = codes "WasLinked"
reason_name WouldLoop = codes "WouldLoop"
reason_name FedElsewhere = codes "FedElsewhere"
reason_name NoFormat = codes "NoFormat"
reason_name (NotReady fed out) = codes "NotReady"
reason_name NotSeekable = codes "NotSeekable"
reason_name BeyondEnd = codes "BeyondEnd"
