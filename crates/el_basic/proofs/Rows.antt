-- Worked rows of the rule of a valve, computed. It is given the file `abcd` in blocks of a byte: a STREAM_START, a SEGMENT, four
-- buffers and EOS.
use Rattle.std.proofs.Common.{◌≡◌, ℕ, Bool, true, false, List, [], ◌∷◌, codes, map, refl}
use Rattle.flow_model.specs.Item.{Item, Ev, StreamStart, NewSegment, FlushStop, Eos}
use Rattle.flow_model.specs.Call.{Call, Mark, Feed, Act, Drain, Set, Drops, with_marks}
use Rattle.flow_model.specs.Sticky.{stickies}
use Rattle.flow_model.specs.Looking.{bytes_of}
use Rattle.flow_model.specs.Rule.{owed_for}
use Rattle.flow_model.specs.Source.{block_at, bytes_segment, file_list}
use Rattle.el_basic.specs.Valves.{valves}

-- settings by their places in what it is given
abbrev settings : List (ℕ × Bool) → List (ℕ × Mark)
settings ss = map (λ s. (s.0, Set (Drops s.1))) ss

abbrev goes_out : Bool → List (ℕ × Bool) → List Item
goes_out first ss = owed_for (valves first) (with_marks (settings ss) 0 (file_list 0 1 (codes "abcd")))

-- open from the start on, and closed from the start on
open_all : goes_out false [] ≡ file_list 0 1 (codes "abcd")
unfolding stickies
open_all = refl

closed_all : goes_out true [] ≡ Ev Eos ∷ []
unfolding stickies
closed_all = refl

-- closed at the second buffer, and open again at the last
between : goes_out false ((3, true) ∷ (5, false) ∷ [])
    ≡ Ev (StreamStart 0) ∷ Ev (NewSegment (bytes_segment 0)) ∷ block_at 1 0 (codes "abcd") 0
    ∷ Ev (StreamStart 0) ∷ Ev (NewSegment (bytes_segment 0)) ∷ block_at 1 0 (codes "abcd") 3 ∷ Ev Eos ∷ []
unfolding stickies
between = refl

-- closed and opened at one place
at_once : bytes_of (goes_out false ((3, true) ∷ (3, false) ∷ [])) ≡ codes "abcd"
unfolding stickies
at_once = refl

at_once_again : goes_out false ((6, true) ∷ (6, false) ∷ [])
    ≡ Ev (StreamStart 0) ∷ Ev (NewSegment (bytes_segment 0)) ∷ block_at 1 0 (codes "abcd") 0 ∷ block_at 1 0 (codes "abcd") 1
    ∷ block_at 1 0 (codes "abcd") 2 ∷ block_at 1 0 (codes "abcd") 3 ∷ Ev (StreamStart 0) ∷ Ev (NewSegment (bytes_segment 0)) ∷ Ev Eos ∷ []
unfolding stickies
at_once_again = refl

-- opened where it is open
twice : goes_out false ((3, false) ∷ (5, false) ∷ []) ≡ file_list 0 1 (codes "abcd")
unfolding stickies
twice = refl

-- Opened, and flushed before the next item: the STREAM_START comes again in the new section, and the old SEGMENT does not.
abbrev sought : List Call
sought = Feed (Ev (StreamStart 0)) ∷ Feed (Ev (NewSegment (bytes_segment 0))) ∷ Act (Set (Drops false)) ∷ Feed (Ev (FlushStop 1)) ∷ Feed (Ev (NewSegment (bytes_segment 7))) ∷ []

over_a_flush : owed_for (valves true) sought ≡ Ev (FlushStop 1) ∷ Ev (StreamStart 0) ∷ Ev (NewSegment (bytes_segment 7)) ∷ []
unfolding stickies
over_a_flush = refl

-- a drain puts them out, and they do not come once more
abbrev drained : List Call
drained = Feed (Ev (StreamStart 0)) ∷ Act (Set (Drops false)) ∷ Act Drain ∷ Feed (Ev (NewSegment (bytes_segment 0))) ∷ []

by_a_drain : owed_for (valves true) drained ≡ Ev (StreamStart 0) ∷ Ev (NewSegment (bytes_segment 0)) ∷ []
unfolding stickies
by_a_drain = refl
