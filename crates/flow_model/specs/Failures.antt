-- The count of failed calls of what an element reads or writes, where there is such a thing.
use Rattle.std.specs.Prelude.{◌≡◌, ℕ, Option}
use Rattle.gst_outside.specs.Causes.{NamesRise}
use Rattle.flow_model.specs.declared.refusal.Refusal.{Refusal}
use Rattle.flow_model.specs.declared.refusal.Refusal.TheVariants.{Fault, Unwritten}
use Rattle.flow_model.specs.declared.refusal.Unread.{Unread}
use Rattle.flow_model.specs.declared.refusal.Unread.TheVariants.{Failed, OutOfMemory}

-- a write failed only where the count rose; a fault of the rule, or want of memory, counts as none
abbrev pub IsWriteCause : Option ℕ → Option ℕ → Refusal → Type 0
IsWriteCause was is (Unwritten before after) = NamesRise was is before after
IsWriteCause was is (Fault fault) = is ≡ was

-- a read failed only where the count rose; where memory was wanting none failed
abbrev pub IsReadCause : Option ℕ → Option ℕ → Unread → Type 0
IsReadCause was is (Failed before after) = NamesRise was is before after
IsReadCause was is OutOfMemory = is ≡ was
