-- Faults that are due.
use Rattle.std.specs.Prelude.{◌≡◌, ℕ, ◌+◌, ◌-◌, ◌/◌, ◌%◌, ◌==◌, Option, Some, None, if◌then◌else◌, nat_lt}
use Rattle.gst_time.specs.declared.time.TheConstants.{LIMIT}
use Rattle.flow_model.specs.declared.fault.ElementFault.{ElementFault}
use Rattle.flow_model.specs.declared.fault.ElementFault.TheVariants.{NotNegotiated as Refused, BadStream as Broken, TooLong as Passing, OutOfMemory as Wanting}
use Rattle.flow_model.specs.declared.fault.StreamKind.TheVariants.{SplitFrame}
use Rattle.flow_model.specs.Rule.{Fault, NotNegotiated, BadStream, TooLong}
use Rattle.el_mix.specs.Mono.{Mono, width, time_of}

-- a fault is the one that is due, or want of memory
abbrev pub IsDue : Option Fault → ElementFault → Type 0
IsDue found (Refused offered wanted) = found ≡ Some (NotNegotiated offered wanted)
IsDue found (Broken place kind) = found ≡ Some (BadStream place kind)
IsDue found (Passing a b) = found ≡ Some (TooLong a b)
IsDue found Wanting = Unit {0}

-- why n bytes are refused behind others
abbrev pub bytes_refusal : ℕ → Mono → ℕ → ℕ → Option Fault
bytes_refusal reached mono got n =
    if n % width mono == 0
    then (if nat_lt (time_of mono ((got + n) / width mono)) LIMIT then None else Some (TooLong reached (LIMIT - reached)))
    else Some (BadStream (got + n) SplitFrame)
