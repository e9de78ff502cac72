-- For which lists an element that puts streams one behind the other stands.
use Rattle.std.specs.Prelude.{◌≡◌, ℕ, zero, suc, true, false, List, [], ◌∷◌, ◌++◌, map, length, if◌then◌else◌, Option, None, Some, Ok, nat_lt, slice_get}
use Rattle.gst_item.specs.declared.out.Out.{Out}
use Rattle.flow_model.specs.Item.{Item, is_stream_start, is_caps, is_tag}
use Rattle.flow_model.specs.Sticky.{latest, has_flush_stop}
use Rattle.flow_model.specs.Section.{counted}
use Rattle.flow_model.specs.Call.{Call, Feed, items}
use Rattle.flow_model.specs.Feeding.{has_eos, on_pad}
use Rattle.flow_model.specs.SinkPads.{InSection, push_calls}
use Rattle.el_join.specs.declared.sums.Sums.{Sums}
use Rattle.el_join.specs.declared.pad.Facts.{Facts}
use Rattle.el_join.specs.declared.pad.Pad.{Pad}
use Rattle.el_join.specs.declared.concat.Concat.{Concat}
use Rattle.el_join.specs.Totals.{no_sums, tally_of}
use Rattle.el_join.specs.Sections.{all_reopened, open_section}
use Rattle.el_join.specs.Concats.{before_eos, has_end, behind, joined_now, all_or_fault, concat_answers}
use Rattle.flow_model.specs.Inherited.{start_event, caps_event, tag_event}
use Rattle.gst_item.specs.Item.{has_item}

-- how many sink pads there are, and the one in turn
abbrev pub sink_pads : Concat → ℕ
sink_pads element = length element.pads.items

abbrev pub wanted : Concat → Option ℕ
wanted element = if nat_lt element.turn (sink_pads element) then Some element.turn else None

-- what each sink pad knows, and what waits there
abbrev pub facts_of : List Pad → List Facts
facts_of pads = map (λ (p : Pad). p.facts) pads

abbrev pub waiting_of : List Pad → List (List Out)
waiting_of pads = map (λ (p : Pad). p.waiting) pads

-- A pad knows the STREAM_START, CAPS and TAG that the next section inherits, and whether EOS was fed since the last
-- FLUSH_STOP.
pub record Knows (f : Facts) (calls : List Call) : Type 0 where
  pub stream_start : start_event f.inherited.stream_start ≡ latest is_stream_start (counted (items calls))
  pub caps : caps_event f.inherited.caps ≡ latest is_caps (counted (items calls))
  pub tag : tag_event f.inherited.tag ≡ latest is_tag (counted (items calls))
  pub eos : has_eos calls ≡ f.ended

abbrev pub KnowEach : List Facts → List (List Call) → Type 0
KnowEach [] [] = Unit {0}
KnowEach [] (cs ∷ css) = ⊥
KnowEach (f ∷ fs) [] = ⊥
KnowEach (f ∷ fs) (cs ∷ css) = Knows f cs × KnowEach fs css

-- Of the section that is open it knows whether it has an item and an EOS, and what its items come to.
pub record Counts (f : Facts) (xs : List Item) : Type 0 where
  pub begun : f.begun ≡ has_item xs
  pub ended : f.ended ≡ has_end xs
  pub tally : f.tally ≡ tally_of (before_eos xs)

abbrev pub CountEach : List Facts → List (List Item) → Type 0
CountEach [] [] = Unit {0}
CountEach [] (xs ∷ xss) = ⊥
CountEach (f ∷ fs) [] = ⊥
CountEach (f ∷ fs) (xs ∷ xss) = Counts f xs × CountEach fs xss

-- at each of these pads all that came waits
abbrev pub Wait : List (List Out) → List (List Item) → Type 0
Wait [] [] = Unit {0}
Wait [] (xs ∷ xss) = ⊥
Wait (w ∷ ws) [] = ⊥
Wait (w ∷ ws) (xs ∷ xss) = (w ≡ on_pad 0 (before_eos xs)) × Wait ws xss

-- The pad in turn: the pads before it had EOS, and what they come to is known; at the pads up to it nothing waits, and
-- behind it all.
abbrev pub InTurn : ℕ → Sums → Sums → List (List Out) → List (List Item) → Type 0
InTurn zero sums now [] [] = sums ≡ now
InTurn zero sums now [] (xs ∷ xss) = ⊥
InTurn zero sums now (w ∷ ws) [] = ⊥
InTurn zero sums now (w ∷ ws) (xs ∷ xss) = (sums ≡ now) × (has_end xs ≡ false) × (w ≡ []) × Wait ws xss
InTurn (suc turn) sums now [] xss = ⊥
InTurn (suc turn) sums now (w ∷ ws) [] = ⊥
InTurn (suc turn) sums now (w ∷ ws) (xs ∷ xss) = (has_end xs ≡ true) × (w ≡ []) × InTurn turn (behind sums xs) now ws xss

-- It knows what the next section inherits of what its sink pads were given.
pub record Remembers (element : Concat) (took : List (List Call)) : Type 0 where
  pub each : KnowEach (facts_of element.pads.items) took
  pub level : InSection (open_section took) took

-- Its sink pads were given these calls, and in the section that is open it put out these items: all that is owed there,
-- none of which is a fault.
pub record Joins (element : Concat) (took : List (List Call)) (put : List Item) : Type 0 where
  pub remembers : Remembers element took
  pub counts : CountEach (facts_of element.pads.items) (all_reopened (open_section took) took)
  pub turn : InTurn element.turn no_sums element.sums (waiting_of element.pads.items) (all_reopened (open_section took) took)
  pub owed : all_or_fault (joined_now (open_section took) took) ≡ Ok put

-- the lowest sink pad without EOS, counted from a number on
abbrev pub first_open : ℕ → List (List Call) → Option ℕ
first_open pad [] = None
first_open pad (cs ∷ css) = if has_eos cs then first_open (suc pad) css else Some pad

-- It put out these items for an item on a sink pad. They are what the rule owes more.
pub record JoinPuts (old new : Concat) (pad : ℕ) (item : Item) (out out' : List Out) : Type 0 where
  pub more : List Item
  pub outs : out' ≡ out ++ on_pad 0 more
  pub free : has_flush_stop more ≡ false
  pub owed : (took : List (List Call)) (put : List Item) → Joins old took put → concat_answers took pad item ≡ Ok more
  pub stands : (took : List (List Call)) (put : List Item) → Joins old took put → Joins new (push_calls pad (Feed item ∷ []) took) (put ++ more)

-- a sink pad had no EOS in this section
abbrev pub HasNoEos : Concat → ℕ → Type 0
HasNoEos element pad = (p : Pad) → slice_get element.pads.items pad ≡ Some p → p.facts.ended ≡ false
