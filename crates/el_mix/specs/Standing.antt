-- For which lists of the open section the channels stand.
use Rattle.std.specs.Prelude.{◌≡◌, ◌<◌, ◌≤◌, ◌^◌, ◌⊎◌, ℕ, zero, suc, ◌-◌, Bool, true, false, List, [], ◌∷◌, ◌++◌, Option, None, Some, if◌then◌else◌, length, map}
use Rattle.std.specs.Option.{option_map}
use Rattle.gst_time.specs.declared.time.TheConstants.{LIMIT}
use Rattle.gst_value.specs.Description.{Description}
use Rattle.gst_value.specs.declared.one.One.{One}
use Rattle.gst_item.specs.declared.out.Out.{Out}
use Rattle.flow_model.specs.Item.{Item, Ev, NewSegment, Eos, is_eos}
use Rattle.flow_model.specs.Sticky.{has_flush_stop}
use Rattle.flow_model.specs.Looking.{bytes_of}
use Rattle.flow_model.specs.Feeding.{on_pad}
use Rattle.el_mix.specs.declared.channel.Channel.{Channel}
use Rattle.el_mix.specs.declared.position.Position.{Position}
use Rattle.el_mix.specs.Mono.{Mono, mono_of, time_of}
use Rattle.el_mix.specs.Mixed.{has, frames, mixed, limit}
use Rattle.el_mix.specs.Agreed.{or_else, is_there, pad_caps, lowest_caps, first_refusal}
use Rattle.el_mix.specs.Mixes.{is_start, all_have, pad_id, stream_start, joined_caps, from_zero, eos_if}
use Rattle.el_mix.specs.Heard.{mono_by}
use Rattle.el_mix.specs.Judging.{inherited_refusal}
use Rattle.el_mix.specs.Taking.{hears, settled, bare}
use Rattle.el_mix.specs.Lined.{Lined}
use Rattle.el_mix.specs.Putting.{ended_by}

-- a list of what is inherited alone
pub record IsFresh (xs : List Item) : Type 0 where
  pub unstarted : has is_start xs ≡ false
  pub empty : bytes_of xs ≡ []
  pub judged : (reached : ℕ) (lowest : Option (Description One)) → first_refusal reached lowest [] xs ≡ inherited_refusal lowest (pad_caps xs)

-- what a channel knows of its list
pub record Counts (c : Channel) (xs : List Item) : Type 0 where
  pub caps : hears c ≡ pad_caps xs
  pub started : c.progress.started ≡ has is_start xs
  pub ended : c.progress.ended ≡ has is_eos xs
  pub first : c.progress.first_id ≡ pad_id xs
  pub got : c.progress.got ≡ length (bytes_of xs)
  pub fresh : c.progress.begun ≡ false → IsFresh xs

abbrev pub CountEach : List Channel → List (List Item) → Type 0
CountEach [] [] = Unit {0}
CountEach [] (xs ∷ xss) = ⊥
CountEach (c ∷ cs) [] = ⊥
CountEach (c ∷ cs) (xs ∷ xss) = Counts c xs × CountEach cs xss

-- nothing of a list that has begun is refused by the lowest CAPS up to there
abbrev pub AgreeEach : Option (Description One) → List Channel → List (List Item) → Type 0
AgreeEach lowest [] [] = Unit {0}
AgreeEach lowest [] (xs ∷ xss) = ⊥
AgreeEach lowest (c ∷ cs) [] = ⊥
AgreeEach lowest (c ∷ cs) (xs ∷ xss) =
    (c.progress.begun ≡ true → first_refusal 0 (or_else lowest (pad_caps xs)) [] xs ≡ None) × AgreeEach (or_else lowest (pad_caps xs)) cs xss

-- a pad has CAPS or had EOS; each pad below this one; and each below one that has begun
abbrev pub known : Channel → Bool
known c = if c.progress.ended then true else is_there (hears c)

abbrev pub lower_known : ℕ → List Channel → Bool
lower_known pad [] = true
lower_known zero (c ∷ cs) = true
lower_known (suc pad) (c ∷ cs) = if known c then lower_known pad cs else false

abbrev pub AnyBegun : List Channel → Type 0
AnyBegun [] = ⊥
AnyBegun (c ∷ cs) = (c.progress.begun ≡ true) ⊎ AnyBegun cs

abbrev pub BegunInOrder : List Channel → Type 0
BegunInOrder [] = Unit {0}
BegunInOrder (c ∷ cs) = (AnyBegun cs → known c ≡ true) × BegunInOrder cs

-- the bodies that are ahead are those behind a frame
pub record Waits (next : ℕ) (c : Channel) (xs : List Item) : Type 0 where
  pub none : hears c ≡ None → (bytes_of xs ≡ []) × (c.waiting.ahead ≡ [])
  pub some : (caps : Description One) → hears c ≡ Some caps → Lined (mono_of caps) next c.waiting.ahead xs
  pub fits : (caps : Description One) → hears c ≡ Some caps → time_of (mono_of caps) (frames (mono_of caps) xs) < LIMIT
  pub small : length (bytes_of xs) < 2 ^ 62

abbrev pub WaitEach : ℕ → List Channel → List (List Item) → Type 0
WaitEach next [] [] = Unit {0}
WaitEach next [] (xs ∷ xss) = ⊥
WaitEach next (c ∷ cs) [] = ⊥
WaitEach next (c ∷ cs) (xs ∷ xss) = Waits next c xs × WaitEach next cs xss

-- what the frames are once all pads have started and one has CAPS, and up to where they went out
abbrev pub opened : List (List Item) → Option Mono
opened xss = if all_have is_start xss then option_map mono_of (lowest_caps xss) else None

abbrev pub limit_in : Option Mono → List (List Item) → ℕ
limit_in None xss = 0
limit_in (Some mono) xss = limit mono xss

abbrev pub time_in : Option Mono → ℕ → ℕ
time_in None frame = 0
time_in (Some mono) frame = time_of mono frame

pub record Placed (at : Position) (xss : List (List Item)) : Type 0 where
  pub open_is : option_map mono_by at.open ≡ opened xss
  pub next_is : at.next ≡ limit_in (opened xss) xss
  pub reached_is : at.reached ≡ time_in (opened xss) at.next

-- the channels by themselves, whose look ahead begins anew
pub record Each (cs : List Channel) (xss : List (List Item)) : Type 0 where
  pub counts : CountEach cs xss
  pub agrees : AgreeEach None cs xss
  pub order : BegunInOrder cs
  pub settled_is : map settled cs ≡ cs

-- All that is owed for the lists went out.
pub record Holds (at : Position) (cs : List Channel) (xss : List (List Item)) : Type 0 where
  pub each : Each cs xss
  pub waits : WaitEach at.next cs xss
  pub placed : Placed at xss

-- Of the lists an item came behind what went out, on a pad that had not ended.
abbrev pub IsOpenAt : Option Mono → Position → List (List Item) → Type 0
IsOpenAt None at xss = (at.next ≡ 0) × (at.reached ≡ 0)
IsOpenAt (Some mono) at xss = (opened xss ≡ Some mono) × (at.next ≤ limit mono xss) × (at.reached ≡ time_of mono at.next)

pub record Behind (at : Position) (cs : List Channel) (xss : List (List Item)) : Type 0 where
  pub each : Each cs xss
  pub waits : WaitEach at.next cs xss
  pub open_at : IsOpenAt (option_map mono_by at.open) at xss

-- what is owed then
abbrev pub opening_in : Option Mono → Description One → List (List Item) → List Item
opening_in None caps xss = stream_start xss ∷ joined_caps caps (length xss) ∷ Ev (NewSegment from_zero) ∷ []
opening_in (Some mono) caps xss = []

abbrev pub rest_started : Option Mono → ℕ → Option (Description One) → List (List Item) → List Item
rest_started stream next None xss = if all_have is_eos xss then stream_start xss ∷ Ev Eos ∷ [] else []
rest_started stream next (Some caps) xss =
    opening_in stream caps xss ++ (mixed (mono_of caps) xss next next (limit (mono_of caps) xss - next) ++ eos_if (all_have is_eos xss))

abbrev pub rest_owed : Position → List (List Item) → List Item
rest_owed at xss = if all_have is_start xss then rest_started (option_map mono_by at.open) at.next (lowest_caps xss) xss else []

-- It put out what is owed then.
pub record Moves (old : Position) (cs : List Channel) (new : Position) (cs' : List Channel) (out out' : List Out) : Type 0 where
  pub more : List Item
  pub outs : out' ≡ out ++ on_pad 0 more
  pub free : has_flush_stop more ≡ false
  pub owed : (xss : List (List Item)) → Behind old cs xss → more ≡ rest_owed old xss
  pub holds : (xss : List (List Item)) → Behind old cs xss → Holds new cs' xss
  pub ends : (xss : List (List Item)) → Behind old cs xss → ended_by old.reached more ≡ new.reached
  pub same : map bare cs' ≡ map bare cs
