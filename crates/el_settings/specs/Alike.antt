-- Two answers for the properties of an element.
use Rattle.std.specs.Prelude.{◌≡◌, ◌⊎◌, Result, Ok, Err}
use Rattle.el_settings.specs.declared.fault.PropFault.{PropFault}
use Rattle.el_settings.specs.declared.fault.PropFault.TheVariants.{OutOfMemory}
use Rattle.el_settings.specs.declared.settings.Settings.{Settings}

-- the properties were not judged, for want of memory
abbrev pub IsUnjudged : PropFault → Type 0
IsUnjudged fault = fault ≡ OutOfMemory

-- two faults are one, or one of them is want of memory
abbrev pub AreLike : PropFault → PropFault → Type 0
AreLike f g = (f ≡ g) ⊎ (IsUnjudged f ⊎ IsUnjudged g)

-- two answers are one, or one of them is want of memory
abbrev pub AreAlike : Result Settings PropFault → Result Settings PropFault → Type 0
AreAlike (Ok s) (Ok t) = s ≡ t
AreAlike (Ok s) (Err g) = IsUnjudged g
AreAlike (Err f) (Ok t) = IsUnjudged f
AreAlike (Err f) (Err g) = AreLike f g
