-- Worked rows of edits: a relink at a place, there and back, a loop over links that were undone, and an element that another task
-- has fed.
use Rattle.std.specs.Prelude.{◌≡◌, ◌==◌, ◌++◌, ℕ, true, false, List, [], ◌∷◌, None, Some, if◌then◌else◌, codes, length}
use Rattle.std.proofs.Common.{lit≤}
use Rattle.flow_model.specs.Item.{Item, Buf, Ev, StreamStart, NewSegment, Eos, buffers}
use Rattle.flow_model.specs.Eval.{eval}
use Rattle.flow_model.specs.Link.{WasLinked}
use Rattle.flow_model.specs.SinkBytes.{sink_bytes}
use Rattle.flow_model.specs.Source.{bytes_segment}
use Rattle.el_settings.specs.declared.settings.Settings.{Settings}
use Rattle.el_settings.specs.declared.settings.Settings.TheVariants.{FileSrc, Identity, FileSink}
use Rattle.graph_core.specs.Elements.{Made}
use Rattle.flow_model.specs.Standing.{Standing}
use Rattle.graph_pads.specs.declared.pad.PadLink.{PadLink}
use Rattle.graph_pads.specs.declared.pad.PadPlace.{PadPlace}
use Rattle.graph_edits.specs.Edited.{Edited, added, link_between, relinked_at, spans_at, unedited, unlinked_at}
use Rattle.graph_edits.specs.Growing.{AreWithin}
use Rattle.graph_edits.specs.Plans.{edited_plan, items_at}
use Rattle.graph_edits.specs.Lawful.{IsAnswered, IsAtBuffer, owed_by}
use Rattle.graph_edits.specs.Refused.{IsAfterEos, IsFedElsewhere, Loops}
use Rattle.script_text.specs.declared.answer.Answer.{Answer}
use Rattle.script_text.specs.declared.answer.Answer.TheVariants.{Done}
use Rattle.script_text.specs.declared.command.Act.TheVariants.{Relink}
use Rattle.script_text.specs.declared.command.Command.{Command}
use Rattle.script_text.specs.declared.command.When.TheVariants.{At, NowPad}

-- an element of a name, where the name says nothing
abbrev pub made_as : List ℕ → Settings → Made
made_as name settings = record { name = name; kind = name; is_numbered = false; settings = settings }

-- a source that gives a byte a buffer
abbrev pub source : List ℕ → Made
source name = made_as name (FileSrc (record { location = name; blocksize = 1; some = lit≤ tt; small = lit≤ tt }))

abbrev pub passing : List ℕ → Made
passing name = made_as name Identity

abbrev pub sink : List ℕ → Made
sink name = made_as name (FileSink (record { location = name; keep_flushed = false }))

-- the first pad of an element
abbrev pub pad : ℕ → PadPlace
pad e = record { element = e; pad = 0 }

abbrev pub link : ℕ → ℕ → PadLink
link from to = link_between (pad from) (pad to)

-- ---- a source, an element that passes all, and a sink; then a second sink

abbrev pub relay : Edited
relay = added (sink (codes "b")) (unedited (source (codes "in") ∷ passing (codes "i") ∷ sink (codes "o") ∷ []) (link 0 1 ∷ link 1 2 ∷ []))

-- the histories of an edited graph whose sources give so much, where so many items crossed each pad
abbrev pub histories : List ℕ → Edited → List ℕ → (ℕ → ℕ) → ℕ → List Item
histories content g forward count = eval (edited_plan (λ e. content) g forward count)

-- what the file of a sink holds then
abbrev pub file_of : List ℕ → Edited → List ℕ → (ℕ → ℕ) → ℕ → List ℕ
file_of content g forward count e = sink_bytes false (items_at g (histories content g forward count) (pad e))

abbrev pub all_nine : ℕ → ℕ
all_nine p = 9

-- the relay with its second pad relinked at a place to the second sink
abbrev pub turned : ℕ → Edited
turned place = relinked_at (pad 1) place (pad 3) relay

-- and back at another place
abbrev pub returned : Edited
returned = relinked_at (pad 1) 6 (pad 2) (turned 4)

abbrev pub four : List ℕ
four = 0 ∷ 1 ∷ 2 ∷ 3 ∷ []

-- a block of one byte at a place
abbrev pub block : ℕ → List ℕ → Item
block place bytes = Buf (record { body = bytes; pts = None; duration = None; offset = Some place; discont = false })

abbrev pub opening : List Item
opening = Ev (StreamStart 0) ∷ Ev (NewSegment (bytes_segment 0)) ∷ []

pub record RelinkRows : Type 0 where
  -- before the fourth buffer
  pub first : file_of (codes "abcdef") (turned 5) four all_nine 2 ≡ codes "abc"
  pub second : file_of (codes "abcdef") (turned 5) four all_nine 3 ≡ codes "def"
  pub passed : length (histories (codes "abcdef") (turned 5) four all_nine 64) ≡ 9
  pub buffers : buffers (histories (codes "abcdef") (turned 5) four all_nine 64) ≡ 6
  -- before the first buffer: the second sink is given STREAM_START and SEGMENT first
  pub none : file_of (codes "abcdef") (turned 2) four all_nine 2 ≡ []
  pub all : file_of (codes "abcdef") (turned 2) four all_nine 3 ≡ codes "abcdef"
  pub begins : items_at (turned 4) (histories (codes "ab") (turned 4) four (λ p. 5)) (pad 3) ≡ opening ++ Ev Eos ∷ []
  -- not at all
  pub unreached : file_of (codes "abcdef") relay four all_nine 2 ≡ codes "abcdef"
  pub empty : file_of (codes "abcdef") relay four all_nine 3 ≡ []
  -- there and back: the SEGMENT from 0 comes again, so the last two bytes stand where the first two stood
  pub there : file_of (codes "abcdef") returned four all_nine 3 ≡ codes "cd"
  pub back : file_of (codes "abcdef") returned four all_nine 2 ≡ codes "ef"
  -- the link is undone with EOS, before the third buffer
  pub ended : items_at (unlinked_at (pad 1) 4 true relay) (histories (codes "abcdef") (unlinked_at (pad 1) 4 true relay) four all_nine) (pad 2)
      ≡ opening ++ block 0 (codes "a") ∷ block 1 (codes "b") ∷ Ev Eos ∷ []
  -- so its sink is linked no more
  pub over : IsAfterEos (unlinked_at (pad 1) 4 true relay) (histories (codes "abcdef") (unlinked_at (pad 1) 4 true relay) four all_nine) (pad 2)

-- ---- what a report may say of it

-- what crossed the pads, and what is owed to them
abbrev pub crossed : ℕ → List Item
crossed = histories (codes "abcdef") (turned 5) four all_nine

abbrev pub due : ℕ → List Item
due = owed_by (edited_plan (λ e. codes "abcdef") (turned 5) four all_nine) crossed

-- `at i.src 3 relink b.sink`
abbrev pub relinking : Command
relinking = record { when = At (record { element = codes "i"; pad = codes "src" }) 3; act = Relink (record { element = codes "b"; pad = codes "sink" }) }

-- `done i.src=5`
abbrev pub done_at : ℕ → Answer
done_at place = Done (record { pad = record { element = codes "i"; pad = codes "src" }; items = place } ∷ [])

pub record LawfulRows : Type 0 where
  pub lawful : IsAnswered relay crossed due relinking (done_at 5) (turned 5)
  -- a buffer late, and one early
  pub late : ¬ IsAtBuffer crossed due 64 3 6
  pub early : ¬ IsAtBuffer crossed due 64 3 4

-- ---- a place before that of the command before it, which a whole report forbids: what was answered no longer stands in order

-- `i.src relink o.sink`
abbrev pub turning_back : Command
turning_back = record { when = NowPad (record { element = codes "i"; pad = codes "src" }); act = Relink (record { element = codes "o"; pad = codes "sink" }) }

abbrev pub turned_back : Edited
turned_back = relinked_at (pad 1) 2 (pad 2) (turned 5)

pub record FallingRows : Type 0 where
  pub answered : IsAnswered (turned 5) crossed due turning_back (done_at 2) turned_back
  pub falls : spans_at turned_back (pad 3) ≡ WasLinked 64 5 2 false [] ∷ []
  pub out_of_order : ¬ Standing crossed (spans_at turned_back (pad 3))
  pub within : AreWithin crossed (spans_at turned_back (pad 3))

-- ---- links that were undone count in a loop

abbrev pub chain : Edited
chain = added (sink (codes "p"))
    (unedited (source (codes "f") ∷ passing (codes "a") ∷ passing (codes "b") ∷ sink (codes "o") ∷ []) (link 0 1 ∷ link 1 2 ∷ link 2 3 ∷ []))

abbrev pub cut_off : Edited
cut_off = relinked_at (pad 0) 4 (pad 4) chain

abbrev pub five : List ℕ
five = 0 ∷ 1 ∷ 2 ∷ 3 ∷ 4 ∷ []

-- the source's pad crossed all, the others what came before
abbrev pub cut_counts : ℕ → ℕ
cut_counts p = if p == 0 then 7 else 4

pub record LoopRows : Type 0 where
  pub before : file_of (codes "abcd") cut_off five cut_counts 3 ≡ codes "ab"
  pub behind : file_of (codes "abcd") cut_off five cut_counts 4 ≡ codes "cd"
  pub loops : Loops cut_off (pad 2) (pad 1)

-- ---- an element that another task has fed

abbrev pub two_chains : Edited
two_chains = added (sink (codes "p"))
    (unedited (source (codes "f") ∷ sink (codes "o") ∷ source (codes "g") ∷ sink (codes "q") ∷ []) (link 0 1 ∷ link 2 3 ∷ []))

abbrev pub moved : Edited
moved = relinked_at (pad 0) 3 (pad 4) two_chains

-- each source crossed STREAM_START, SEGMENT and one buffer
abbrev pub by_then : ℕ → List Item
by_then = histories (codes "ab") moved (0 ∷ 2 ∷ 1 ∷ 3 ∷ 4 ∷ []) (λ p. 3)

pub record FeederRows : Type 0 where
  pub elsewhere : IsFedElsewhere moved by_then (pad 2) (pad 1)
