-- Faults of elements and of sources as faults of a task.
use Rattle.std.specs.Prelude.{ℕ}
use Rattle.flow_model.specs.declared.fault.ElementFault.TheVariants as elements
use Rattle.flow_model.specs.declared.refusal.Refusal.{Refusal}
use Rattle.flow_model.specs.declared.refusal.Refusal.TheVariants.{Fault, Unwritten}
use Rattle.flow_model.specs.declared.refusal.Unread.{Unread}
use Rattle.flow_model.specs.declared.refusal.Unread.TheVariants.{Failed, OutOfMemory as NoMemory}
use Rattle.task_parts.specs.declared.fault.TaskFault.{TaskFault}
use Rattle.task_parts.specs.declared.fault.TaskFault.TheVariants.{ReadFault, WriteFault, Stream, Caps, TooLong, OutOfMemory}

-- the fault of the element of a number
abbrev pub refusal_fault : ℕ → Refusal → TaskFault
refusal_fault element (Unwritten before after) = WriteFault element before after
refusal_fault element (Fault (elements.NotNegotiated offered wanted)) = Caps element offered wanted
refusal_fault element (Fault (elements.BadStream place kind)) = Stream element place kind
refusal_fault element (Fault (elements.TooLong a b)) = TooLong element a b
refusal_fault element (Fault elements.OutOfMemory) = OutOfMemory

-- the fault of the source of a number
abbrev pub unread_fault : ℕ → Unread → TaskFault
unread_fault element (Failed before after) = ReadFault element before after
unread_fault element NoMemory = OutOfMemory
