-- What a failure in three words stands for.
use Rattle.task_parts.specs.declared.fault.Cause.{Cause}
use Rattle.task_parts.specs.declared.fault.Cause.TheVariants as causes
use Rattle.task_parts.specs.declared.fault.TaskFault.{TaskFault}
use Rattle.task_parts.specs.declared.fault.TaskFault.TheVariants.{ReadFault, WriteFault, Stream, Caps, TooLong, NotLinked, OutOfMemory}

abbrev pub fault_of : Cause → TaskFault
fault_of (causes.Read element before after) = ReadFault element before after
fault_of (causes.Write element before after) = WriteFault element before after
fault_of (causes.Stream element place kind) = Stream element place kind
fault_of (causes.Caps element mismatch) = Caps element mismatch.value.offered mismatch.value.wanted
fault_of (causes.TooLong element a b) = TooLong element a b
fault_of (causes.NotLinked pad place) = NotLinked pad place
fault_of causes.OutOfMemory = OutOfMemory
