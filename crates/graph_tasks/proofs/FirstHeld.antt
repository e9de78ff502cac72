-- An item that the head of a graph's task takes stands first in an inlet of the element that it feeds.
use Rattle.std.proofs.Common.{◌≡◌, ◌<◌, ◌++◌, ℕ, zero, suc, true, List, [], ◌∷◌, Option, Some, length, refl, sym, ap, ◌∙◌, subst, inl, inr, append_assoc, arith}
use Rattle.std.specs.Prelude.{slice_get}
use Rattle.flow_model.specs.Call.{Call, Feed, feeds}
use Rattle.flow_model.specs.Item.{Item}
use Rattle.flow_model.specs.Prefix.{ArePrefixes}
use Rattle.flow_model.specs.Prefix as prefixes
use Rattle.flow_model.specs.SinkPads.{push_calls}
use Rattle.flow_model.proofs.Prefixes.{prefix_by}
use Rattle.lane_core.specs.Lane.{Lane}
use Rattle.lane_core.specs.declared.ends.Inlet as inlets
use Rattle.lane_core.specs.declared.ends.Outlet as outlets
use Rattle.flow_model.specs.Moment.{Moment}
use Rattle.flow_model.specs.Split.{AreSplit}
use Rattle.flow_model.specs.Split as splits
use Rattle.flow_model.proofs.Splits.{split_begins}
use Rattle.flow_model.specs.declared.element.TaskElement as elements
use Rattle.flow_model.specs.declared.source.TaskSource as sources
use Rattle.inlet_row.specs.Row.{AreApart, row_holds}
use Rattle.inlet_row.specs.Take.{HoldsAfter}
use Rattle.inlet_row.specs.Taken as takes
use Rattle.graph_core.specs.Graph.{made as made_in}
use Rattle.graph_core.specs.declared.graph.Graph.{Graph}
use Rattle.graph_parts.specs.Links.{has_inlets}
use Rattle.graph_parts.specs.declared.bag.Bag.{Bag}
use Rattle.task_parts.specs.Passing.{AsksRow, RowAsked}
use Rattle.task_parts.specs.declared.head.Head.{Head}
use Rattle.task_parts.specs.declared.head.Head.TheVariants.{Inlets, Source}
use Rattle.task_parts.specs.declared.head.InletHead.{InletHead}
use Rattle.net_task.specs.Frame.{frame_of}
use Rattle.net_task.specs.Moves.{TookFrom}
use Rattle.net_task.specs.Ready.{HeadApart}
use Rattle.net_task.specs.declared.task.Task.{Task}
use Rattle.net_turns.specs.Net.{HasRow, IsFed, ListAt, RowStands}
use Rattle.graph_tasks.specs.Runs.{RunsAt}
use Rattle.graph_tasks.proofs.FedHeads.{head_fed}
use Rattle.graph_core.specs.Elements.{has}

-- what was taken at a sink pad, and then the first that stands in its inlet, begins what was given there
pub split_first : (i : ℕ) (c : Call) (rest : List Call) {ts hs ws : List (List Call)} → AreSplit ts hs ws → ListAt i hs (c ∷ rest)
    → ArePrefixes (push_calls i (c ∷ []) ts) ws
split_first i c rest splits.none at = absurd at
split_first zero c rest (splits.pad {t = t} e s) at =
    prefixes.pad (prefix_by (t ++ c ∷ []) rest (append_assoc t (c ∷ []) rest ∙ ap (λ z. t ++ z) (sym at) ∙ sym e)) (split_begins s)
split_first (suc i) c rest (splits.pad {t = t} {h = h} e s) at = prefixes.pad (prefix_by t h (sym e)) (split_first i c rest s at)

-- it is a sink pad that is there
pub first_within : (i : ℕ) (calls : List Call) {ts hs ws : List (List Call)} → AreSplit ts hs ws → ListAt i hs calls → i < length ws
first_within i calls splits.none at = absurd at
first_within zero calls (splits.pad e s) at = omega arith
first_within (suc i) calls (splits.pad e s) at = let later = first_within i calls s at in omega (arith, later)

module _ {S E I O L : Type 0} {s : sources.Ghosts S} {e : elements.Ghosts E} {i : inlets.Ghosts I L O} {o : outlets.Ghosts O L}
    (contents : ℕ → List ℕ) (graph : Graph) (bags : List Bag) (m : Moment) (tasks : List (Task S E I O L s e i o)) (tells : Option (List Lane))
    (runs : RunsAt contents graph bags m tasks tells) where
  -- the element of a number is fed from inlets, and the item stands first at that sink pad
  pub record IsFirstHeld (n pad : ℕ) (x : Item) : Type 0 where
    pub fed : has has_inlets (made_in graph) n ≡ true
    pub rest : List Call
    pub first : ListAt pad (m.held n) (Feed x ∷ rest)

  module _ (place : ℕ) (before : Task S E I O L s e i o) (at : slice_get tasks place ≡ Some before) (pad : ℕ) (x : Item) (tells' : Option (List Lane)) where
    row_first : (head head' : InletHead I) → before.head ≡ Inlets head → AsksRow i head head' pad tells tells' (takes.Item x) → IsFirstHeld head.number pad x
    row_first head head' is asks =
        record {
          fed = head_fed contents graph bags m tasks tells runs place head fed_is;
          rest = feeds (row_holds i held.0 asks.is);
          first = subst (λ (l : List Item). ListAt pad (m.held head.number) (feeds l)) held.2 stood.holds;
        }
      where
        fed_is : IsFed tasks place head
        fed_is = record { task = before; at = at; head_is = is }

        row : HasRow tasks place head.number pad asks.was
        row = record { head = head; fed = fed_is; number = refl; at = asks.set.at }

        stood : RowStands i runs.net.table runs.net.sents m head.number pad asks.was
        stood = runs.net.rows place head.number pad asks.was row

        apart : AreApart i asks.was
        apart =
            (subst (λ (h : Head S I O s). HeadApart i (frame_of before) h) is (runs.net.ready place before at).head_apart).each pad asks.was asks.set.at

        held : HoldsAfter i runs.net.table tells' asks.was asks.is (takes.Item x)
        held = asks.holds runs.net.table runs.net.sents stood.got runs.net.told apart stood.between

    pub next_held : (old new : Head S I O s) (n : ℕ) → before.head ≡ old → TookFrom i old new n pad x tells tells' → IsFirstHeld n pad x
    next_held (Source old) new n is took = absurd took
    next_held (Inlets old) (Source new) n is took = absurd took
    next_held (Inlets old) (Inlets new) n is took = subst (λ (d : ℕ). IsFirstHeld d pad x) took.0 (by took.1)
      where
        by : RowAsked i old new pad tells tells' (takes.Item x) → IsFirstHeld old.number pad x
        by (inl asks) = row_first old new is asks
        by (inr none) = absurd (let empty = none.empty in cc)
