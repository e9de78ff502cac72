-- For which fed and put-out lists a tee stands.
use Rattle.std.specs.Prelude.{◌≡◌, ◌≤◌, Bool, true, false, ℕ, zero, suc, List, [], ◌∷◌, ◌++◌, length, take, drop, map}
use Rattle.gst_item.specs.declared.out.Out.{Out}
use Rattle.flow_model.specs.Item.{Event, Gap, Item}
use Rattle.flow_model.specs.Sticky.{stickies, in_force}
use Rattle.flow_model.specs.Section.{counted}
use Rattle.flow_model.specs.Call.{Call, items}
use Rattle.flow_model.specs.Feeding.{has_eos, on_pad}
use Rattle.el_basic.specs.declared.tee.Tee.{Tee}

abbrev pub is_gap : Event → Bool
is_gap (Gap pts duration) = true
is_gap _ = false

-- how many source pads it has
abbrev pub pad_count : Tee → ℕ
pad_count tee = tee.pads

-- whether EOS was fed since the last FLUSH_STOP
abbrev pub has_ended : Tee → Bool
has_ended tee = tee.ended

-- items that are to cross each of the first source pads, by number
abbrev pub on_pads : ℕ → List Item → List Out
on_pads zero xs = []
on_pads (suc pad) xs = on_pads pad xs ++ on_pad pad xs

-- the sticky events in force behind a beginning of a list, and then what stands behind that beginning
abbrev pub joined_behind : List Item → List Item → List Item
joined_behind before whole = stickies before ++ drop (length before) whole

-- What is owed to a source pad that was made at a place of what was fed: the sticky events in force behind what
-- counts up to there, and then what counts from there on. A pad of the start was made at place 0.
abbrev pub pad_list : ℕ → List Item → List Item
pad_list place fed = joined_behind (counted (take place fed)) (counted fed)

-- no place is past the length of a list
abbrev pub AreUpTo : ℕ → List ℕ → Type 0
AreUpTo end [] = Unit {0}
AreUpTo end (place ∷ places) = (place ≤ end) × AreUpTo end places

-- Its source pads were made at these places of what was fed, by number; it was given the calls, and has put out on
-- each source pad what is owed to it. It knows how many source pads it has, what is in force behind all that counts,
-- and whether EOS was fed since the last FLUSH_STOP.
pub record Spread (tee : Tee) (places : List ℕ) (calls : List Call) (puts : List (List Item)) : Type 0 where
  pub owed : puts ≡ map (λ place. pad_list place (items calls)) places
  pub pads : length places ≡ tee.pads
  pub within : AreUpTo (length (items calls)) places
  pub eos : has_eos calls ≡ tee.ended
  pub in_force_then : tee.sticky ≡ in_force (counted (items calls))
