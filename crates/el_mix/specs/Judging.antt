-- Why an item is refused, by what the channels know.
use Rattle.std.specs.Prelude.{◌≡◌, ◌<◌, ◌^◌, true, ℕ, zero, suc, List, [], ◌∷◌, Option, Some, None, if◌then◌else◌, length}
use Rattle.gst_value.specs.Description.{Description}
use Rattle.gst_value.specs.declared.one.One.{One}
use Rattle.flow_model.specs.Item.{Item, Buf, Ev, NewCaps}
use Rattle.flow_model.specs.Rule.{Fault}
use Rattle.el_mix.specs.declared.channel.Channel.{Channel}
use Rattle.el_mix.specs.Agreed.{or_else, buffer_refusal, caps_refusal}
use Rattle.el_mix.specs.Taking.{hears, IsHeard}

-- the first caps of the pads up to one
abbrev pub lowest_to : ℕ → List (Option (Description One)) → Option (Description One)
lowest_to k [] = None
lowest_to zero (o ∷ os) = o
lowest_to (suc k) (o ∷ os) = or_else o (lowest_to k os)

-- inherited CAPS are judged with the first item
abbrev pub inherited_refusal : Option (Description One) → Option (Description One) → Option Fault
inherited_refusal lowest None = None
inherited_refusal lowest (Some caps) = caps_refusal lowest caps

abbrev pub own_refusal : ℕ → Option (Description One) → Option (Description One) → ℕ → Item → Option Fault
own_refusal reached lowest had got (Buf b) = buffer_refusal reached had got (length b.body)
own_refusal reached lowest had got (Ev (NewCaps caps)) = caps_refusal lowest caps
own_refusal reached lowest had got x = None

abbrev pub verdict : ℕ → Option (Description One) → Channel → Item → Option Fault
verdict reached lowest c x =
    or_else (if c.progress.begun then None else inherited_refusal lowest (hears c)) (own_refusal reached lowest (hears c) c.progress.got x)

-- The CAPS of a channel that has begun were judged, and its bytes are few enough.
pub record IsFine (c : Channel) : Type 0 where
  pub heard : c.progress.begun ≡ true → IsHeard (hears c)
  pub small : c.progress.got < 2 ^ 62
