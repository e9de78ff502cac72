-- Worked rows of the rule.
use Rattle.std.specs.Prelude.{◌≡◌, ℕ, false, List, [], ◌∷◌, ◌++◌, None, Some, map, Result, Ok, Err}
use Rattle.audio_info.specs.declared.sample.Sample.{Sample}
use Rattle.audio_info.specs.declared.sample.Sample.TheVariants.{U8, S16LE}
use Rattle.audio_info.specs.Media.{caps_of}
use Rattle.flow_model.specs.Item.{Item, Buf, Ev, StreamStart, NewCaps, NewSegment, Gap, FlushStop, Eos}
use Rattle.flow_model.specs.Call.{feeds}
use Rattle.flow_model.specs.declared.fault.StreamKind.TheVariants.{SplitFrame}
use Rattle.flow_model.specs.Rule.{Fault, NotNegotiated, BadStream, TooLong}
use Rattle.audio_info.specs.Alone.{exactly}
use Rattle.el_mix.specs.Mono.{mono_template}
use Rattle.el_mix.specs.Agreed.{buffer_refusal}
use Rattle.el_mix.specs.Answer.{mix_answer}
use Rattle.el_mix.specs.Mixes.{from_zero, mixes}

-- a buffer, and one as it is put out, from a frame on, with its times
abbrev pub buffer : List ℕ → Item
buffer bytes = Buf (record { body = bytes; pts = None; duration = None; offset = None; discont = false })

abbrev pub made : ℕ → ℕ → ℕ → List ℕ → Item
made frame pts duration bytes = Buf (record { body = bytes; pts = Some pts; duration = Some duration; offset = Some frame; discont = false })

abbrev pub caps : Sample → ℕ → Item
caps format channels = Ev (NewCaps (caps_of format 1000 channels))

-- what stands before the buffers of a stream of 1000 frames a second
abbrev pub opening : ℕ → Sample → ℕ → List Item
opening id format channels = Ev (StreamStart id) ∷ caps format channels ∷ Ev (NewSegment from_zero) ∷ []

-- a pad's list in one section: what stands before the buffers, and these
abbrev pub fed : ℕ → Sample → List Item → List Item
fed id format xs = opening id format 1 ++ xs

-- in S16LE, two bytes a sample, and with EOS behind
abbrev pub samples : List (List ℕ) → List Item
samples bodies = map buffer bodies ++ Ev Eos ∷ []

-- what is owed in section 0 and in section 1 for two pads
abbrev pub owed : List Item → List Item → List Item
owed xs ys = mixes (feeds xs ∷ feeds ys ∷ []) 0 0

abbrev pub owed_next : List Item → List Item → List Item
owed_next xs ys = mixes (feeds xs ∷ feeds ys ∷ []) 0 1

-- [1 2 3][4 5] and [10 20][30 40 50]
abbrev pub five : List Item
five = fed 3 S16LE (samples ((1 ∷ 0 ∷ 2 ∷ 0 ∷ 3 ∷ 0 ∷ []) ∷ (4 ∷ 0 ∷ 5 ∷ 0 ∷ []) ∷ []))

abbrev pub tens : List Item
tens = fed 2 S16LE (samples ((10 ∷ 0 ∷ 20 ∷ 0 ∷ []) ∷ (30 ∷ 0 ∷ 40 ∷ 0 ∷ 50 ∷ 0 ∷ []) ∷ []))

-- a channel of U8 of these buffers, without EOS and with it
abbrev pub bytes : List (List ℕ) → List Item
bytes bodies = fed 0 U8 (map buffer bodies)

abbrev pub ended : List (List ℕ) → List Item
ended bodies = fed 0 U8 (map buffer bodies ++ Ev Eos ∷ [])

abbrev pub flush : Item
flush = Ev (FlushStop 1)

-- What is put out, where the buffers are cut, what stands for silence, and how far it goes.
pub record MixRows : Type 0 where
  -- each input's cuts are cuts of the output
  pub cuts : owed five tens ≡ opening 2 S16LE 2
      ++ made 0 0 2000000 (1 ∷ 0 ∷ 10 ∷ 0 ∷ 2 ∷ 0 ∷ 20 ∷ 0 ∷ []) ∷ made 2 2000000 1000000 (3 ∷ 0 ∷ 30 ∷ 0 ∷ [])
      ∷ made 3 3000000 2000000 (4 ∷ 0 ∷ 40 ∷ 0 ∷ 5 ∷ 0 ∷ 50 ∷ 0 ∷ []) ∷ Ev Eos ∷ []
  -- a pad that ended is silent
  pub silent : owed (fed 0 S16LE (samples ((1 ∷ 0 ∷ 2 ∷ 0 ∷ 3 ∷ 0 ∷ []) ∷ []))) (fed 0 S16LE (samples ((10 ∷ 0 ∷ []) ∷ [])))
      ≡ opening 0 S16LE 2
      ++ made 0 0 1000000 (1 ∷ 0 ∷ 10 ∷ 0 ∷ []) ∷ made 1 1000000 2000000 (2 ∷ 0 ∷ 0 ∷ 0 ∷ 3 ∷ 0 ∷ 0 ∷ 0 ∷ []) ∷ Ev Eos ∷ []
  pub silent_in_bytes : owed (ended ((1 ∷ 2 ∷ []) ∷ [])) (ended ((7 ∷ []) ∷ [])) ≡ opening 0 U8 2
      ++ made 0 0 1000000 (1 ∷ 7 ∷ []) ∷ made 1 1000000 1000000 (2 ∷ 128 ∷ []) ∷ Ev Eos ∷ []
  -- as long as a pad has no frame more and has not ended, no frame more is owed
  pub waits : owed (bytes ((1 ∷ 2 ∷ []) ∷ (3 ∷ []) ∷ [])) (bytes ((7 ∷ 8 ∷ []) ∷ []))
      ≡ opening 0 U8 2 ++ made 0 0 2000000 (1 ∷ 7 ∷ 2 ∷ 8 ∷ []) ∷ []
  pub nothing_more : owed (bytes ((1 ∷ 2 ∷ []) ∷ [])) (bytes ((7 ∷ []) ∷ [])) ≡ opening 0 U8 2 ++ made 0 0 1000000 (1 ∷ 7 ∷ []) ∷ []
  -- before each pad had SEGMENT or EOS nothing is owed
  pub begins : owed (ended ((1 ∷ []) ∷ [])) (Ev (StreamStart 4) ∷ caps U8 1 ∷ []) ≡ []
  -- without CAPS a STREAM_START and EOS alone
  pub empty : owed (Ev Eos ∷ []) (Ev (StreamStart 4) ∷ Ev Eos ∷ []) ≡ Ev (StreamStart 4) ∷ Ev Eos ∷ []
  -- an empty buffer, GAP, and a further STREAM_START and SEGMENT owe nothing
  pub dropped : owed (bytes ([] ∷ (1 ∷ []) ∷ []) ++ Ev (Gap 0 5) ∷ Ev (StreamStart 1) ∷ Ev (NewSegment from_zero) ∷ []) (ended [])
      ≡ opening 0 U8 2 ++ made 0 0 1000000 (1 ∷ 128 ∷ []) ∷ []

-- What is refused owes nothing, nor does what comes behind it on the same pad.
pub record RefusedRows : Type 0 where
  pub other_caps : owed (bytes ((1 ∷ []) ∷ [])) (Ev (StreamStart 0) ∷ caps S16LE 1 ∷ Ev (NewSegment from_zero) ∷ Ev Eos ∷ []) ≡ []
  pub two_channels : owed (Ev (StreamStart 0) ∷ caps U8 2 ∷ Ev (NewSegment from_zero) ∷ Ev Eos ∷ []) (ended []) ≡ []
  pub refused_opens_nothing : owed (Ev Eos ∷ []) (Ev (NewSegment from_zero) ∷ caps U8 2 ∷ Ev Eos ∷ []) ≡ []
  pub no_caps : owed (ended ((1 ∷ []) ∷ [])) (Ev (NewSegment from_zero) ∷ buffer (7 ∷ []) ∷ Ev Eos ∷ []) ≡ opening 0 U8 2
  pub split_frame : owed (fed 0 S16LE (samples ((1 ∷ 0 ∷ []) ∷ []))) (fed 0 S16LE (samples ((7 ∷ 0 ∷ []) ∷ (8 ∷ []) ∷ [])))
      ≡ opening 0 S16LE 2 ++ made 0 0 1000000 (1 ∷ 0 ∷ 7 ∷ 0 ∷ []) ∷ []

-- A section behind a FLUSH_STOP counts from 0, and begins with the STREAM_START and the CAPS in force.
pub record SectionRows : Type 0 where
  pub before : owed (bytes ((1 ∷ []) ∷ []) ++ flush ∷ []) (bytes ((7 ∷ []) ∷ []) ++ flush ∷ [])
      ≡ opening 0 U8 2 ++ made 0 0 1000000 (1 ∷ 7 ∷ []) ∷ []
  pub behind : owed_next (bytes ((1 ∷ []) ∷ []) ++ flush ∷ Ev (NewSegment from_zero) ∷ buffer (2 ∷ []) ∷ [])
      (ended ((7 ∷ []) ∷ []) ++ flush ∷ Ev Eos ∷ [])
      ≡ opening 0 U8 2 ++ made 0 0 1000000 (2 ∷ 128 ∷ []) ∷ []
  pub nothing_new : owed_next (bytes ((1 ∷ []) ∷ []) ++ flush ∷ []) (ended ((7 ∷ []) ∷ []) ++ flush ∷ []) ≡ []

-- two pads that were given these lists, and the item that is fed
abbrev pub answer : List Item → List Item → ℕ → Item → Result (List Item) Fault
answer xs ys pad x = mix_answer (feeds xs ∷ feeds ys ∷ []) pad x

-- What is answered to an item: what is owed more, nothing behind EOS, and why it is refused.
pub record AnswerRows : Type 0 where
  pub more : answer (bytes ((1 ∷ 2 ∷ []) ∷ [])) (bytes []) 1 (buffer (7 ∷ 8 ∷ [])) ≡ Ok (made 0 0 2000000 (1 ∷ 7 ∷ 2 ∷ 8 ∷ []) ∷ [])
  pub ends : answer (ended ((1 ∷ []) ∷ [])) (bytes ((7 ∷ []) ∷ [])) 1 (Ev Eos) ≡ Ok (Ev Eos ∷ [])
  pub past_eos : answer (ended []) (bytes []) 0 (buffer (7 ∷ [])) ≡ Ok []
  pub no_caps : answer [] [] 0 (buffer (7 ∷ [])) ≡ Err (NotNegotiated None mono_template)
  pub other_caps : answer (bytes []) [] 1 (caps S16LE 1) ≡ Err (NotNegotiated (Some (caps_of S16LE 1000 1)) (exactly (caps_of U8 1000 1)))
  pub own_caps : answer (bytes []) [] 0 (caps S16LE 1) ≡ Err (NotNegotiated (Some (caps_of S16LE 1000 1)) (exactly (caps_of U8 1000 1)))
  pub two_channels : answer [] [] 0 (caps U8 2) ≡ Err (NotNegotiated (Some (caps_of U8 1000 2)) mono_template)
  -- the bytes of the buffer count
  pub split_frame : answer (fed 0 S16LE (buffer (1 ∷ 0 ∷ []) ∷ [])) [] 0 (buffer (2 ∷ 0 ∷ 3 ∷ [])) ≡ Err (BadStream 5 SplitFrame)
  -- inherited CAPS are judged with the first item of the section
  pub inherited : answer (fed 0 U8 (flush ∷ [])) (Ev (StreamStart 0) ∷ caps S16LE 1 ∷ flush ∷ []) 1 (Ev Eos)
      ≡ Err (NotNegotiated (Some (caps_of S16LE 1000 1)) (exactly (caps_of U8 1000 1)))
  -- one frame a second: the time of frame 9223372036 fits, and that of the next does not
  pub fits : buffer_refusal 5 (Some (caps_of U8 1 1)) 9223372035 1 ≡ None
  pub too_long : buffer_refusal 5 (Some (caps_of U8 1 1)) 9223372036 1 ≡ Some (TooLong 5 9223372036854775803)
