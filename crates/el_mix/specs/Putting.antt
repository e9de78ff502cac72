-- What goes out more.
use Rattle.std.specs.Prelude.{◌≡◌, ◌<◌, ◌^◌, ℕ, ◌+◌, ◌-◌, ◌/◌, Bool, true, false, List, [], ◌∷◌, ◌++◌, Option, None, Some, if◌then◌else◌, length}
use Rattle.gst_time.specs.declared.time.TheConstants.{LIMIT}
use Rattle.gst_value.specs.Description.{Description}
use Rattle.gst_value.specs.declared.one.One.{One}
use Rattle.gst_item.specs.declared.out.Out.{Out}
use Rattle.audio_info.specs.declared.info.Info.{Info}
use Rattle.audio_info.specs.Media.{caps_of}
use Rattle.flow_model.specs.Item.{Item, Buf, Ev, StreamStart, NewCaps, NewSegment}
use Rattle.flow_model.specs.Sticky.{has_flush_stop}
use Rattle.flow_model.specs.Feeding.{on_pad}
use Rattle.el_mix.specs.declared.channel.Channel.{Channel}
use Rattle.el_mix.specs.declared.position.Position.{Position}
use Rattle.el_mix.specs.Mono.{Mono, width, time_of}
use Rattle.el_mix.specs.Mixed.{limit_by, mixed, limit}
use Rattle.el_mix.specs.Mixes.{least, from_zero}
use Rattle.el_mix.specs.Heard.{mono_by, heard}
use Rattle.el_mix.specs.Taking.{hears}
use Rattle.el_mix.specs.Agreed.{or_else}
use Rattle.el_mix.specs.Turns.{Ahead, turns}
use Rattle.el_mix.specs.Lined.{Ready}
use Rattle.flow_model.specs.Looking.{end_of}

-- whether all channels have started, and ended
abbrev pub all_started : List Channel → Bool
all_started [] = true
all_started (c ∷ cs) = if c.progress.started then all_started cs else false

abbrev pub all_ended : List Channel → Bool
all_ended [] = true
all_ended (c ∷ cs) = if c.progress.ended then all_ended cs else false

-- what the first CAPS of the channels say
abbrev pub heard_first : Option (Description One) → Option Mono → Option Mono
heard_first None o = o
heard_first (Some caps) o = heard caps

abbrev pub lowest_heard : List Channel → Option Mono
lowest_heard [] = None
lowest_heard (c ∷ cs) = heard_first (hears c) (lowest_heard cs)

-- what stands before the buffers
abbrev pub least_first : List Channel → Option ℕ
least_first [] = None
least_first (c ∷ cs) = least c.progress.first_id (least_first cs)

abbrev pub start_item : List Channel → Item
start_item cs = Ev (StreamStart (limit_by 0 (least_first cs)))

abbrev pub opening_items : Mono → List Channel → List Item
opening_items mono cs = start_item cs ∷ Ev (NewCaps (caps_of mono.format mono.rate (length cs))) ∷ Ev (NewSegment from_zero) ∷ []

abbrev pub opening_if : Option Info → Mono → List Channel → List Item
opening_if None mono cs = opening_items mono cs
opening_if (Some info) mono cs = []

pub record Opens (old new : Position) (info : Info) (cs : List Channel) (outs outs' : List Out) : Type 0 where
  pub outs_are : outs' ≡ outs ++ on_pad 0 (opening_if old.open (mono_by info) cs)
  pub open_is : new.open ≡ or_else old.open (Some info)
  pub next_is : new.next ≡ old.next
  pub reached_is : new.reached ≡ old.reached

-- a buffer from there up to a time, and that of the next n bytes of each channel
abbrev pub buffer_item : List ℕ → Position → ℕ → Item
buffer_item body at end =
    Buf (record { body = body; pts = Some at.reached; duration = Some (end - at.reached); offset = Some at.next; discont = false })

abbrev pub piece_item : Mono → ℕ → Position → Position → List Ahead → Item
piece_item mono n old new ls = buffer_item (turns mono.format ls (n / width mono)) old new.reached

pub record GoesOn (mono : Mono) (frames : ℕ) (old new : Position) : Type 0 where
  pub open_is : new.open ≡ old.open
  pub next_is : old.next + frames < 2 ^ 62 → new.next ≡ old.next + frames
  pub reached_is : time_of mono new.next < LIMIT → new.reached ≡ time_of mono new.next

-- the time of the end of the last buffer, where one stood before
abbrev pub ended_by : ℕ → List Item → ℕ
ended_by t [] = t
ended_by t (Buf b ∷ xs) = ended_by (end_of (Buf b ∷ [])) xs
ended_by t (Ev e ∷ xs) = ended_by t xs

-- Buffers went out, whatever lists the bodies that were ahead stood for: those that are owed up to the frame that was reached.
pub record Pieced (mono : Mono) (old new : Position) (ls ls' : List Ahead) (outs outs' : List Out) : Type 0 where
  pub more : List Item
  pub outs_are : outs' ≡ outs ++ on_pad 0 more
  pub free : has_flush_stop more ≡ false
  pub open_is : new.open ≡ old.open
  pub owed : (xss : List (List Item)) → Ready mono old.next old.reached ls xss
      → mixed mono xss old.next old.next (limit mono xss - old.next) ≡ more ++ mixed mono xss new.next new.next (limit mono xss - new.next)
  pub ready : (xss : List (List Item)) → Ready mono old.next old.reached ls xss → Ready mono new.next new.reached ls' xss
  pub ends : (xss : List (List Item)) → Ready mono old.next old.reached ls xss → ended_by old.reached more ≡ new.reached
