-- How the turn goes from one sink pad to the next.
use Rattle.std.specs.Prelude.{◌≡◌, ℕ, zero, suc, ◌+◌, true, false, List, [], ◌∷◌, ◌++◌, drop, None, Result}
use Rattle.gst_item.specs.declared.out.Out.{Out}
use Rattle.flow_model.specs.Item.{Item}
use Rattle.flow_model.specs.Sticky.{has_flush_stop}
use Rattle.flow_model.specs.Feeding.{on_pad}
use Rattle.flow_model.specs.Rule.{Fault}
use Rattle.el_join.specs.declared.sums.Sums.{Sums}
use Rattle.el_join.specs.declared.pad.Pad.{Pad}
use Rattle.el_join.specs.Totals.{with_tally}
use Rattle.el_join.specs.Pads.{opening_of, ended}
use Rattle.el_join.specs.Outs.{fault_in}
use Rattle.el_join.specs.Concats.{has_end, behind}
use Rattle.el_join.specs.Going.{later, going}
use Rattle.el_join.specs.Joins.{facts_of, waiting_of, CountEach, Wait, InTurn}

-- one list is the other with one member exchanged
pub data Swaps {A : Type 0} : ℕ → A → A → List A → List A → Type 0 where
  here : {a b : A} {xs : List A} → Swaps zero a b (a ∷ xs) (b ∷ xs)
  there : {k : ℕ} {a b x : A} {xs ys : List A} → Swaps k a b xs ys → Swaps (suc k) a b (x ∷ xs) (x ∷ ys)

-- all pads up to one had EOS and have nothing waiting, and behind them all waits
abbrev pub Coming : ℕ → Sums → Sums → List (List Out) → List (List Item) → Type 0
Coming zero sums now ws xss = (sums ≡ now) × Wait ws xss
Coming (suc k) sums now [] xss = ⊥
Coming (suc k) sums now (w ∷ ws) [] = ⊥
Coming (suc k) sums now (w ∷ ws) (xs ∷ xss) = (has_end xs ≡ true) × (w ≡ []) × Coming k (behind sums xs) now ws xss

-- From there the turn comes to the first pad without EOS.
abbrev pub ComesOn : ℕ → Sums → List (List Out) → ℕ → Sums → List Pad → Type 0
ComesOn from behind ws turn sums pads =
    (first : Sums) (xss : List (List Item)) → CountEach (facts_of pads) xss → Coming from first behind ws xss → InTurn turn first sums (waiting_of pads) xss

-- what waits behind a pad of a number, and what goes out of it
abbrev pub later_from : ℕ → Sums → List Pad → List (Result Item Fault)
later_from k sums pads = later sums (drop k (facts_of pads)) (drop k (waiting_of pads))

abbrev pub going_from : ℕ → Sums → List Pad → List Item
going_from k sums pads = going sums (drop k (facts_of pads)) (drop k (waiting_of pads))

-- The turn goes on behind the EOS of the pads before a pad: what waits goes out.
pub record GoesOn (old new : List Pad) (turn turn' : ℕ) (sums sums' : Sums) (out out' : List Out) : Type 0 where
  pub outs : out' ≡ out ++ on_pad 0 (going_from turn sums old)
  pub free : has_flush_stop (going_from turn sums old) ≡ false
  pub facts : facts_of new ≡ facts_of old
  pub comes : ComesOn turn sums (waiting_of old) turn' sums' new

-- The pad in turn had EOS, and what goes out for it: first what it brings, and then what waits at the next pads. The sums are
-- those up to the pad.
pub record PassesOn (old new : List Pad) (turn turn' : ℕ) (sums sums' : Sums) (p : Pad) (front out out' : List Out) : Type 0 where
  pub outs : out' ≡ out ++ (front ++ on_pad 0 (going_from (turn + 1) sums old))
  pub free : has_flush_stop (going_from (turn + 1) sums old) ≡ false
  pub facts : Swaps turn p.facts (ended p.facts) (facts_of old) (facts_of new)
  pub comes : ComesOn (turn + 1) sums (waiting_of old) turn' sums' new

-- The same from the sums before the pad. All of it fits.
pub record TurnEnds (old new : List Pad) (turn turn' : ℕ) (sums sums' : Sums) (p : Pad) (out out' : List Out) : Type 0 where
  pub passes : PassesOn old new turn turn' (with_tally sums p.facts.tally) sums' p (on_pad 0 (opening_of p.facts.begun p.facts.inherited)) out out'
  pub fits : fault_in (later_from (turn + 1) (with_tally sums p.facts.tally) old) ≡ None
