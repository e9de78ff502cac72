-- What a fault of a sink says of the count of failures of what it writes to, before the call and behind it: the
-- count rose, and both counts are named.
use Rattle.std.specs.Prelude.{◌≡◌, ℕ}
use Rattle.gst_outside.specs.Causes.{Rose}
use Rattle.el_sink.specs.declared.fault.WriteFault.{WriteFault}

abbrev pub IsWriteCause : WriteFault → ℕ → ℕ → Type 0
IsWriteCause fault was is = (fault.before ≡ was) × (fault.after ≡ is) × Rose was is
