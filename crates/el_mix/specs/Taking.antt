-- How a channel takes an item, and gives it back.
use Rattle.std.specs.Prelude.{◌≡◌, ◌<◌, ◌^◌, ℕ, ◌+◌, Bool, true, false, List, [], ◌∷◌, Option, Some, None, if◌then◌else◌, length, map}
use Rattle.std.specs.Option.{option_map}
use Rattle.gst_caps.specs.Accepts.{accepts}
use Rattle.gst_value.specs.Description.{Description}
use Rattle.gst_value.specs.declared.one.One.{One}
use Rattle.flow_model.specs.Item.{Item, Event, Ev, is_eos, body_of}
use Rattle.el_mix.specs.declared.stream.Stream.{Stream}
use Rattle.el_mix.specs.declared.channel.Progress.{Progress}
use Rattle.el_mix.specs.declared.channel.Channel.{Channel}
use Rattle.el_mix.specs.declared.channel.Undo.{Undo}
use Rattle.el_mix.specs.declared.channel.Kept.{Kept}
use Rattle.el_mix.specs.declared.channel.Kept.TheVariants.{Nothing, Caps, Body}
use Rattle.el_mix.specs.Mono.{mono_template}
use Rattle.el_mix.specs.Agreed.{or_else, caps_in}
use Rattle.el_mix.specs.Mixes.{is_start, id_in}
use Rattle.el_mix.specs.Line.{Line, line_of, nothing, pushed, passed}
use Rattle.el_mix.specs.Turns.{Ahead}

-- the CAPS that a channel has
abbrev pub hears : Channel → Option (Description One)
hears c = option_map (λ (s : Stream). s.caps) c.stream

-- how far a pad has come behind a flush, or at first; a channel there
abbrev pub inherited : Option ℕ → Progress
inherited last = record { begun = false; started = false; ended = false; first_id = last; last_id = last; got = 0 }

abbrev pub new_channel : Channel
new_channel = record { stream = None; progress = inherited None; waiting = nothing }

abbrev pub flushed : Channel → Channel
flushed c = record { stream = c.stream; progress = inherited c.progress.last_id; waiting = nothing }

-- the first id, of those before the start
abbrev pub next_id : Bool → Option ℕ → Option ℕ → Option ℕ
next_id started first id = if started then first else or_else first id

-- they are within the template
abbrev pub IsHeard : Option (Description One) → Type 0
IsHeard None = Unit {0}
IsHeard (Some caps) = accepts mono_template caps ≡ true

-- a body that is not empty waits
abbrev pub kept_line : Line → List ℕ → Line
kept_line l [] = l
kept_line l (b ∷ bs) = pushed l (b ∷ bs)

-- It took an item.
pub record Took (c : Channel) (x : Item) (c' : Channel) : Type 0 where
  pub caps : hears c' ≡ or_else (hears c) (caps_in x)
  pub begun : c'.progress.begun ≡ true
  pub started : c'.progress.started ≡ (if is_start x then true else c.progress.started)
  pub ended : c'.progress.ended ≡ is_eos x
  pub first : c'.progress.first_id ≡ next_id c.progress.started c.progress.first_id (id_in x)
  pub last : c'.progress.last_id ≡ or_else (id_in x) c.progress.last_id
  pub got : c.progress.got + length (body_of x) < 2 ^ 62 → c'.progress.got ≡ c.progress.got + length (body_of x)
  pub waiting : c'.waiting ≡ kept_line c.waiting (body_of x)

-- of a buffer its body alone counts
pub record TookBody (c : Channel) (body : List ℕ) (c' : Channel) : Type 0 where
  pub stream : c'.stream ≡ c.stream
  pub begun : c'.progress.begun ≡ true
  pub started : c'.progress.started ≡ c.progress.started
  pub ended : c'.progress.ended ≡ c.progress.ended
  pub first : c'.progress.first_id ≡ c.progress.first_id
  pub last : c'.progress.last_id ≡ c.progress.last_id
  pub got : c.progress.got + length body < 2 ^ 62 → c'.progress.got ≡ c.progress.got + length body
  pub waiting : c'.waiting ≡ kept_line c.waiting body

-- what it added beside its progress
abbrev pub Adds : Kept → Channel → Channel → Type 0
Adds Nothing c c' = (c'.stream ≡ c.stream) × (c'.waiting ≡ c.waiting)
Adds Caps c c' = (c.stream ≡ None) × (c'.waiting ≡ c.waiting)
Adds Body c c' = (c'.stream ≡ c.stream) × ((b : List ℕ) × (c'.waiting ≡ pushed c.waiting b))

pub record Undoes (c c' : Channel) (undo : Undo) : Type 0 where
  pub progress : undo.progress ≡ c.progress
  pub kept : Adds undo.kept c c'

-- An event is laid there. Behind EOS it does not count.
pub record Lays (c : Channel) (event : Event) (c' : Channel) : Type 0 where
  pub caps : hears c' ≡ (if c.progress.ended then hears c else or_else (caps_in (Ev event)) (hears c))
  pub last : c'.progress.last_id ≡ (if c.progress.ended then c.progress.last_id else or_else (id_in (Ev event)) c.progress.last_id)
  pub ended : c'.progress.ended ≡ c.progress.ended
  pub waiting : c'.waiting ≡ c.waiting

-- the look ahead begins anew, goes on by so many bytes, or is caught up with
abbrev pub settled : Channel → Channel
settled c = record c { waiting = line_of c.waiting.rest }

abbrev pub passes : ℕ → Channel → Channel
passes n c = record c { waiting = passed n c.waiting }

abbrev pub left : Channel → Channel
left c = record c { waiting = line_of c.waiting.ahead }

-- all but what waits
abbrev pub bare : Channel → Channel
bare c = record c { waiting = nothing }

-- whether each channel ended, and the bodies that are ahead there
abbrev pub lines : List Channel → List Ahead
lines cs = map (λ (c : Channel). (c.progress.ended, c.waiting.ahead)) cs
