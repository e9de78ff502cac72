-- What is refused: other caps than those of the lowest pad that has some, and buffers that are no frames of these.
use Rattle.std.specs.Prelude.{ℕ, ◌+◌, ◌-◌, ◌/◌, ◌%◌, ◌==◌, Bool, true, false, List, [], ◌∷◌, ◌++◌, Option, Some, None, if◌then◌else◌, nat_lt, length, map}
use Rattle.gst_time.specs.declared.time.TheConstants.{LIMIT}
use Rattle.gst_caps.specs.Accepts.{accepts}
use Rattle.gst_value.specs.Description.{Description}
use Rattle.gst_value.specs.declared.one.One.{One}
use Rattle.flow_model.specs.declared.fault.StreamKind.TheVariants.{SplitFrame}
use Rattle.flow_model.specs.Item.{Item, Buf, Ev, NewCaps}
use Rattle.flow_model.specs.Looking.{bytes_of}
use Rattle.flow_model.specs.Rule.{Fault, NotNegotiated, BadStream, TooLong}
use Rattle.gst_caps.specs.Same.{same_caps}
use Rattle.audio_info.specs.Alone.{exactly}
use Rattle.el_mix.specs.Mono.{mono_template, mono_of, width, time_of}

-- the first that is there
abbrev pub or_else : {A : Type 0} → Option A → Option A → Option A
or_else None o = o
or_else (Some x) o = Some x

-- the CAPS of an item, the first ones of a pad, and those of the lowest pad that has some
abbrev pub caps_in : Item → Option (Description One)
caps_in (Ev (NewCaps caps)) = Some caps
caps_in _ = None

abbrev pub pad_caps : List Item → Option (Description One)
pad_caps [] = None
pad_caps (x ∷ xs) = or_else (caps_in x) (pad_caps xs)

abbrev pub lowest_caps : List (List Item) → Option (Description One)
lowest_caps [] = None
lowest_caps (xs ∷ xss) = or_else (pad_caps xs) (lowest_caps xss)

-- why CAPS are refused, by those of the lowest pad
abbrev pub caps_refusal : Option (Description One) → Description One → Option Fault
caps_refusal None caps = if accepts mono_template caps then None else Some (NotNegotiated (Some caps) mono_template)
caps_refusal (Some lowest) caps =
    if same_caps lowest caps then (if accepts mono_template caps then None else Some (NotNegotiated (Some caps) mono_template))
    else Some (NotNegotiated (Some caps) (exactly lowest))

-- Why a buffer of n bytes is refused, by the CAPS of its pad and the bytes that the pad had before, where buffers up to a time were put
-- out: before any CAPS; where it is no whole number of frames; where the time of its end does not fit.
abbrev pub buffer_refusal : ℕ → Option (Description One) → ℕ → ℕ → Option Fault
buffer_refusal reached None got n = Some (NotNegotiated None mono_template)
buffer_refusal reached (Some caps) got n =
    if n % width (mono_of caps) == 0
    then (if nat_lt (time_of (mono_of caps) ((got + n) / width (mono_of caps))) LIMIT then None else Some (TooLong reached (LIMIT - reached)))
    else Some (BadStream (got + n) SplitFrame)

-- why a pad refuses an item behind others
abbrev pub refusal : ℕ → Option (Description One) → List Item → Item → Option Fault
refusal reached lowest h (Buf b) = buffer_refusal reached (pad_caps h) (length (bytes_of h)) (length b.body)
refusal reached lowest h (Ev (NewCaps caps)) = caps_refusal lowest caps
refusal reached lowest h x = None

abbrev pub is_there : {A : Type 0} → Option A → Bool
is_there None = false
is_there (Some x) = true

-- a pad's items before the first that it refuses, behind others
abbrev pub agreed : Option (Description One) → List Item → List Item → List Item
agreed lowest h [] = []
agreed lowest h (x ∷ xs) = if is_there (refusal 0 lowest h x) then [] else x ∷ agreed lowest (h ++ x ∷ []) xs

-- the same of all pads
abbrev pub all_agreed : Option (Description One) → List (List Item) → List (List Item)
all_agreed lowest xss = map (agreed lowest []) xss

-- why a pad refuses the first item that it refuses, behind others
abbrev pub first_refusal : ℕ → Option (Description One) → List Item → List Item → Option Fault
first_refusal reached lowest h [] = None
first_refusal reached lowest h (x ∷ xs) = or_else (refusal reached lowest h x) (first_refusal reached lowest (h ++ x ∷ []) xs)
