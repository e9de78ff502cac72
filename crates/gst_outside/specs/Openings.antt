-- Openings of files in memory.
use Rattle.std.specs.Prelude.{◌≡◌, Bool, true, false, Result, Ok, Err}
use Rattle.gst_outside.specs.Calls.{counted}
use Rattle.gst_outside.specs.declared.calls.Calls.{Calls}
use Rattle.gst_outside.specs.declared.opening.OpenEnd.{OpenEnd}
use Rattle.gst_outside.specs.declared.opening.OpenEnd.TheVariants.{Failed, OutOfMemory}

-- an opening fails exactly where its number is listed, but for want of memory
abbrev pub FailsWhere : {T : Type 0} → Result T OpenEnd → Bool → Type 0
FailsWhere (Ok _) listed = listed ≡ false
FailsWhere (Err Failed) listed = listed ≡ true
FailsWhere (Err OutOfMemory) listed = Unit {0}

-- the openings that were made: one for which memory was wanting does not count
abbrev pub calls_after : {T : Type 0} → Result T OpenEnd → Calls → Calls
calls_after (Ok _) calls = counted calls
calls_after (Err Failed) calls = counted calls
calls_after (Err OutOfMemory) calls = calls
