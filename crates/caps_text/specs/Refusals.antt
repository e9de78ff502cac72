-- What a fault of caps means for a text.
use Rattle.gst_value.specs.declared.fault.CapsFault.{CapsFault}
use Rattle.gst_value.specs.declared.fault.CapsFault.TheVariants.{TooMany as TooManyCaps, OutOfMemory as NoMemory}
use Rattle.caps_text.specs.declared.fault.Refusal.{Refusal}
use Rattle.caps_text.specs.declared.fault.Refusal.TheVariants.{TooMany, OutOfMemory}

abbrev pub refusal_of : CapsFault → Refusal
refusal_of (TooManyCaps count) = TooMany
refusal_of NoMemory = OutOfMemory
