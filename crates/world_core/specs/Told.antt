-- What a report says of a launch line: the counts of its pads and of the files of its sinks, and its faults by name.
use Rattle.std.specs.Prelude.{ℕ, ◌*◌, List, [], Option, None, Some, if◌then◌else◌, filter_map, length, option_map, slice_get, unwrap_or}
use Rattle.std.specs.List.{range_with_len}
use Rattle.std.specs.Option.{option_map_or}
use Rattle.flow_model.specs.declared.fault.ElementFault.{ElementFault}
use Rattle.flow_model.specs.declared.fault.ElementFault.TheVariants.{NotNegotiated, BadStream, TooLong, OutOfMemory}
use Rattle.flow_model.specs.Item.{Item, buffers}
use Rattle.el_settings.specs.Asked.{location_of}
use Rattle.graph_core.specs.Elements.{Made, has}
use Rattle.graph_core.specs.Ends.{name_at}
use Rattle.el_settings.specs.Asked.{writes}
use Rattle.graph_core.specs.GraphPlan.{most_pads}
use Rattle.graph_parts.specs.declared.counts.Count.{Count}
use Rattle.graph_parts.specs.MomentLaws.{place_of}
use Rattle.graph_parts.specs.Pads.{is_pad}
use Rattle.run_report.specs.declared.report.Fault.{Fault}
use Rattle.run_report.specs.declared.report.Fault.TheVariants as faults
use Rattle.run_report.specs.declared.report.PadCount.{PadCount}
use Rattle.run_report.specs.declared.report.SinkCount.{SinkCount}
use Rattle.task_parts.specs.declared.fault.TaskFault.{TaskFault}
use Rattle.task_parts.specs.declared.fault.TaskFault.TheVariants as tasks
use Rattle.world_core.specs.Pads.{source_name, source_pad}

-- the count of the source pad of a number, where it is there, by what crossed the pads
abbrev pub pad_entry : List Made → (ℕ → List Item) → ℕ → Option PadCount
pad_entry made h p = if is_pad made p then Some (record { pad = source_name made (place_of p); items = length (h p); buffers = buffers (h p) }) else None

-- the counts of all source pads, in the order of their elements, those of one by number
abbrev pub pad_entries : List Made → (ℕ → List Item) → List PadCount
pad_entries made h = filter_map (pad_entry made h) (range_with_len 0 (length made * most_pads))

-- the length of the file of a filesink
abbrev pub sink_entry : List Made → (ℕ → List ℕ) → ℕ → Option SinkCount
sink_entry made bytes e = if has writes made e then Some (record { name = name_at made e; bytes = length (bytes e) }) else None

-- the lengths of the files of all filesinks, in the order of the line
abbrev pub sink_entries : List Made → (ℕ → List ℕ) → List SinkCount
sink_entries made bytes = filter_map (sink_entry made bytes) (range_with_len 0 (length made))

-- what is told of the fault of an element's rule, and its status
abbrev pub element_fault : List ℕ → ElementFault → Fault
element_fault name (NotNegotiated offered wanted) = faults.NotNegotiated name offered wanted
element_fault name (BadStream place kind) = faults.BadStream name place kind
element_fault name (TooLong a b) = faults.TooLong name a b
element_fault name OutOfMemory = faults.Nothing

abbrev pub element_status : ElementFault → ℕ
element_status (NotNegotiated offered wanted) = 10
element_status (BadStream place kind) = 9
element_status (TooLong a b) = 15
element_status OutOfMemory = 13

-- the count of the source pad of a number, by those of all numbers
abbrev pub pad_told : List Made → List Count → ℕ → Option PadCount
pad_told made counts p =
    if is_pad made p
    then option_map (λ (count : Count). record { pad = source_name made (place_of p); items = count.items; buffers = count.buffers }) (slice_get counts p)
    else None

abbrev pub pads_told : List Made → List Count → List PadCount
pads_told made counts = filter_map (pad_told made counts) (range_with_len 0 (length made * most_pads))

-- the length of the file of a filesink, by lengths in the order of the elements
abbrev pub sink_told : List Made → List ℕ → ℕ → Option SinkCount
sink_told made lengths e = if has writes made e then option_map (λ n. record { name = name_at made e; bytes = n }) (slice_get lengths e) else None

abbrev pub sinks_told : List Made → List ℕ → List SinkCount
sinks_told made lengths = filter_map (sink_told made lengths) (range_with_len 0 (length made))

-- the location of the file of an element
abbrev pub location_named : List Made → ℕ → List ℕ
location_named made e = option_map_or (λ (m : Made). unwrap_or (location_of m.settings) []) (slice_get made e) []

-- what is told of the fault of a task, and its status
abbrev pub task_fault : List Made → TaskFault → Fault
task_fault made (tasks.ReadFault e before after) = faults.ReadFault (location_named made e) before after
task_fault made (tasks.WriteFault e before after) = faults.WriteFault (location_named made e) before after
task_fault made (tasks.Stream e place kind) = faults.BadStream (name_at made e) place kind
task_fault made (tasks.Caps e offered wanted) = faults.NotNegotiated (name_at made e) offered wanted
task_fault made (tasks.TooLong e a b) = faults.TooLong (name_at made e) a b
task_fault made (tasks.NotLinked p place) = faults.NotLinked (source_pad made p) place
task_fault made tasks.OutOfMemory = faults.Nothing

abbrev pub task_status : TaskFault → ℕ
task_status (tasks.ReadFault e before after) = 7
task_status (tasks.WriteFault e before after) = 8
task_status (tasks.Stream e place kind) = 9
task_status (tasks.Caps e offered wanted) = 10
task_status (tasks.TooLong e a b) = 15
task_status (tasks.NotLinked p place) = 11
task_status tasks.OutOfMemory = 13
