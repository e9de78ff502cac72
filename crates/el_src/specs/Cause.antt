-- What a fault of a source says of the count of failures of what it reads, before the call and behind it.
use Rattle.std.specs.Prelude.{◌≡◌, ℕ}
use Rattle.gst_outside.specs.Causes.{Rose}
use Rattle.el_src.specs.declared.fault.SrcFault.{SrcFault}
use Rattle.el_src.specs.declared.fault.SrcFault.TheVariants.{ReadFault, OutOfMemory}
use Rattle.el_src.specs.declared.fault.SizeFault.{SizeFault}

-- a read failed only where the count rose, and both counts are named; where memory was wanting none failed
abbrev pub IsSrcCause : SrcFault → ℕ → ℕ → Type 0
IsSrcCause (ReadFault before after) was is = (before ≡ was) × (after ≡ is) × Rose was is
IsSrcCause OutOfMemory was is = is ≡ was

-- the same where the size was asked
abbrev pub IsSizeCause : SizeFault → ℕ → ℕ → Type 0
IsSizeCause fault was is = (fault.before ≡ was) × (fault.after ≡ is) × Rose was is
