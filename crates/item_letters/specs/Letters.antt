-- The letters of items and answers, and the bytes of hexadecimal digits.
use Rattle.std.specs.Prelude.{ℕ, List, [], ◌∷◌, ◌+◌, ◌*◌, ◌-◌, ◌&&◌, Option, Some, None, Result, Ok, Err, nat_le, eqb, if◌then◌else◌, codes, length}
use Rattle.std.specs.Str.{bytes_eq}
use Rattle.gst_item.specs.declared.item.Item.{Item}
use Rattle.gst_item.specs.declared.item.Item.TheVariants.{Buffer as Buf, Event as Ev}
use Rattle.gst_item.specs.declared.item.Event.{Event}
use Rattle.gst_item.specs.declared.item.Event.TheVariants.{StreamStart, Caps as NewCaps, Segment as NewSegment, Tag, Gap, FlushStop, Eos}
use Rattle.gst_time.specs.declared.segment.Format.{Format}
use Rattle.gst_item.specs.declared.out.Out.{Out}
use Rattle.flow_model.specs.declared.fault.ElementFault.{ElementFault}
use Rattle.flow_model.specs.declared.fault.ElementFault.TheVariants.{NotNegotiated as Refused, BadStream as Broken}
use Rattle.flow_model.specs.declared.fault.StreamKind.TheVariants.{SplitFrame}
use Rattle.gst_item.specs.declared.flow.Flow.{Flow}
use Rattle.gst_item.specs.declared.flow.Flow.TheVariants.{Ok as Taken, Eos as Ended}

-- `N` for no bytes, `A` to `H` for one to eight, and `Z` for more
abbrev pub letter_of_length : ℕ → ℕ
letter_of_length bytes = if eqb bytes 0 then 78 else (if nat_le bytes 8 then 64 + bytes else 90)

-- `r` for raw audio, `m` for mu-law, `a` for A-law, and `?` for others
abbrev pub letter_of_media : List ℕ → ℕ
letter_of_media media =
    if bytes_eq media (codes "audio/x-raw") then 114
    else (if bytes_eq media (codes "audio/x-mulaw") then 109
    else (if bytes_eq media (codes "audio/x-alaw") then 97 else 63))

-- `s`, `g`, `t`, `p`, `f` and `e`, and for CAPS the letter of their media type
abbrev pub letter_of_event : Event → ℕ
letter_of_event (StreamStart id) = 115
letter_of_event (NewCaps caps) = letter_of_media caps.media
letter_of_event (NewSegment segment) = 103
letter_of_event (Tag title) = 116
letter_of_event (Gap pts duration) = 112
letter_of_event (FlushStop number) = 102
letter_of_event Eos = 101

abbrev pub letter_of_item : Item → ℕ
letter_of_item (Buf b) = letter_of_length (length b.body)
letter_of_item (Ev e) = letter_of_event e

-- the letter of what was put out
abbrev pub letter_of_out : Out → ℕ
letter_of_out one = letter_of_item one.item

-- the letters that stand for an event: another one stands for EOS
abbrev pub event_letter : ℕ → ℕ
event_letter letter =
    if eqb letter 115 then 115 else (if eqb letter 114 then 114 else (if eqb letter 109 then 109
    else (if eqb letter 97 then 97 else (if eqb letter 103 then 103 else (if eqb letter 116 then 116
    else (if eqb letter 112 then 112 else (if eqb letter 102 then 102 else 101)))))))

-- the letters that stand for an item: `N` and `A` to `H` are buffers
abbrev pub item_letter : ℕ → ℕ
item_letter letter =
    if eqb letter 78 then 78 else (if nat_le 65 letter && nat_le letter 72 then letter else event_letter letter)

-- the place of a split frame, up to 9
abbrev pub letter_of_place : ℕ → ℕ
letter_of_place place = if nat_le 1 place && nat_le place 9 then 48 + place else 90

-- `+` for Ok, `.` for Eos and `?` for another answer
abbrev pub letter_of_flow : Flow → ℕ
letter_of_flow Taken = 43
letter_of_flow Ended = 46
letter_of_flow _ = 63

-- and for caps that are not wanted the letter of those that were offered, or `0` for none; a split frame is its place, and `!`
-- another fault
abbrev pub letter_of_fault : ElementFault → ℕ
letter_of_fault (Refused None wanted) = 48
letter_of_fault (Refused (Some offered) wanted) = letter_of_media offered.media
letter_of_fault (Broken place SplitFrame) = letter_of_place place
letter_of_fault _ = 33

abbrev pub letter_of_answer : Result Flow ElementFault → ℕ
letter_of_answer (Ok flow) = letter_of_flow flow
letter_of_answer (Err fault) = letter_of_fault fault

-- the number that an item stands for
abbrev pub number_of_item : Item → ℕ
number_of_item (Ev (Gap pts duration)) = pts
number_of_item _ = 0

-- what a hexadecimal digit says, and 0 for another byte
abbrev pub digit_of : ℕ → ℕ
digit_of byte =
    if nat_le 48 byte && nat_le byte 57 then byte - 48
    else (if nat_le 65 byte && nat_le byte 70 then byte - 55
    else (if nat_le 97 byte && nat_le byte 102 then byte - 87 else 0))

-- the bytes of pairs of digits
abbrev pub bytes_of_digits : List ℕ → List ℕ
bytes_of_digits [] = []
bytes_of_digits (high ∷ []) = []
bytes_of_digits (high ∷ low ∷ rest) = (digit_of high * 16 + digit_of low) ∷ bytes_of_digits rest

-- the letter of the event that a word stands for
abbrev pub letter_of_word : List ℕ → ℕ
letter_of_word word =
    if bytes_eq word (codes "start") then 115 else (if bytes_eq word (codes "tag") then 116
    else (if bytes_eq word (codes "gap") then 112 else 101))

-- what a segment counts
abbrev pub format_of_event : Event → Option Format
format_of_event (NewSegment segment) = Some segment.format
format_of_event _ = None

-- the word of an event
abbrev pub word_of_event : Event → List ℕ
word_of_event (StreamStart id) = codes "start"
word_of_event (NewCaps caps) = codes "caps"
word_of_event (NewSegment segment) = codes "segment"
word_of_event (Tag title) = codes "tag"
word_of_event (Gap pts duration) = codes "gap"
word_of_event (FlushStop number) = codes "flush"
word_of_event Eos = codes "eos"
