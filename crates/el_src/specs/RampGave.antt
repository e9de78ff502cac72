-- For which lists a ramp source stands: what is owed, and what was given of it since the start or the last seek.
use Rattle.std.specs.Prelude.{◌≡◌, ℕ, Bool, true, false, if◌then◌else◌, List, [], ◌∷◌, ◌++◌, length, take}
use Rattle.audio_info.specs.Media.{caps_of}
use Rattle.audio_info.specs.declared.sample.Sample.TheVariants.{S16LE}
use Rattle.flow_model.specs.Item.{Item, Ev, StreamStart, NewCaps, NewSegment, Eos, eos_among}
use Rattle.el_src.specs.declared.answer.Next.{Next}
use Rattle.el_src.specs.declared.answer.Next.TheVariants.{Item as Given, Ended}
use Rattle.el_src.specs.declared.ramp_src.Ramp.{Ramp}
use Rattle.el_src.specs.declared.ramp_src.RampSrc.{RampSrc}
use Rattle.el_src.specs.declared.ramp_src.Phase.{Phase}
use Rattle.el_src.specs.declared.ramp_src.Phase.TheVariants.{Start as AtStart, Caps as AtCaps, Segment as AtSegment, Tag as AtTag, Pieces as InPieces, Eos as AtEos, Ended as Over}
use Rattle.el_src.specs.Ramp.{frame_time, pieces_from}
use Rattle.flow_model.specs.Inherited.{tag_event as title_tag}
use Rattle.flow_model.specs.Source.{time_segment}

-- how many items were given since the start or the last seek
abbrev pub ramp_items : RampSrc → ℕ
ramp_items ramp = ramp.items

-- what is still to come, by what comes next, for the pieces from a frame on of which so many were given
abbrev pub ramp_to_come : Phase → Ramp → ℕ → ℕ → ℕ → List Item
ramp_to_come AtStart s id start given =
    Ev (StreamStart id) ∷ Ev (NewCaps (caps_of S16LE s.rate s.channels)) ∷ Ev (NewSegment (time_segment (frame_time s.rate start)))
    ∷ (title_tag s.title ++ (pieces_from s start given ++ Ev Eos ∷ []))
ramp_to_come AtCaps s id start given =
    Ev (NewCaps (caps_of S16LE s.rate s.channels)) ∷ Ev (NewSegment (time_segment (frame_time s.rate start)))
    ∷ (title_tag s.title ++ (pieces_from s start given ++ Ev Eos ∷ []))
ramp_to_come AtSegment s id start given =
    Ev (NewSegment (time_segment (frame_time s.rate start))) ∷ (title_tag s.title ++ (pieces_from s start given ++ Ev Eos ∷ []))
ramp_to_come AtTag s id start given = title_tag s.title ++ (pieces_from s start given ++ Ev Eos ∷ [])
ramp_to_come InPieces s id start given = pieces_from s start given ++ Ev Eos ∷ []
ramp_to_come AtEos s id start given = Ev Eos ∷ []
ramp_to_come Over s id start given = []

abbrev pub ramp_is_over : Phase → Bool
ramp_is_over Over = true
ramp_is_over _ = false

-- what was given and what is still to come are what is owed
pub record RampGave (ramp : RampSrc) (owed given : List Item) : Type 0 where
  pub count : ramp.items ≡ length given
  pub eos : ramp_is_over ramp.phase ≡ eos_among given
  pub whole : given ++ ramp_to_come ramp.phase ramp.settings ramp.id ramp.start ramp.given ≡ owed

-- all that is owed was given, EOS last
pub record RampGaveAll (ramp : RampSrc) (owed given : List Item) : Type 0 where
  pub gave : RampGave ramp owed given
  pub all : given ≡ owed

-- the lists behind a next item
abbrev pub AfterRampNext : RampSrc → List Item → List Item → Next → Type 0
AfterRampNext ramp owed given (Given x) = RampGave ramp owed (given ++ x ∷ [])
AfterRampNext ramp owed given Ended = RampGaveAll ramp owed given

-- what is owed where the source is asked to end: the items that were given, and EOS; nothing changes behind EOS
abbrev pub ramp_ended_at : List Item → List Item → List Item
ramp_ended_at given owed = if eos_among given then owed else (take (length given) owed ++ Ev Eos ∷ [])
