-- The elements of a bag: each once, and only the head is a source.
use Rattle.std.proofs.Common.{◌≡◌, ◌⊎◌, ◌++◌, ℕ, false, is_some, List, [], ◌∷◌, All, Some, length, map, refl, sym, ap, ◌∙◌, subst, inl, inr, arith}
use Rattle.std.specs.Prelude.{slice_get}
use Rattle.std.proofs.lemmas.Option.{slice_get_within}
use Rattle.flow_model.specs.Account.{IsMember}
use Rattle.graph_core.specs.Elements.{Made, has}
use Rattle.graph_core.specs.GraphPlan.{sink_at}
use Rattle.graph_core.specs.Links.{HasPads}
use Rattle.graph_pads.specs.declared.pad.PadLink.{PadLink}
use Rattle.graph_pads.specs.Links.{source_before}
use Rattle.graph_parts.specs.Links.{Reaches}
use Rattle.el_settings.specs.Asked.{is_source}
use Rattle.graph_parts.specs.Bags.{number_of, head_cells, cells, numbers, head_number, head_of, IsHead, IsBag}
use Rattle.graph_parts.specs.declared.bag.Bag.{Bag}
use Rattle.graph_parts.specs.declared.bag.BagElement.{BagElement}
use Rattle.graph_parts.specs.declared.bag.BagHead.{BagHead}
use Rattle.graph_parts.specs.declared.bag.BagHead.TheVariants.{Source, Inlets}
use Rattle.graph_tasks.proofs.Graphs.{inlets_no_source, reached_by}
use Rattle.flow_model.proofs.Items.{get_member}
use Rattle.graph_parts.proofs.Apart.{place_once}
use Rattle.graph_parts.proofs.BagHeads.{not_source}
use Rattle.graph_tasks.proofs.Flats.{at_front as get_front}
use Rattle.gst_value.proofs.Places.{get_last, map_get as get_map}

-- what a head feeds is no source
pub fed_no_source : (made : List Made) (links : List PadLink) (n : ℕ) → IsHead made links (Inlets n) → has is_source made n ≡ false
fed_no_source made links n (inl fed) = inlets_no_source made n fed
fed_no_source made links n (inr loose) = not_source (slice_get made n) (is_some (source_before links (sink_at n 0))) loose.loose

module _ (made : List Made) (links : List PadLink) (bag : Bag) (is : IsBag made links bag) where
  -- an element has its place among the numbers
  numbered : (j : ℕ) (cell : BagElement) → slice_get bag.elements.items j ≡ Some cell → slice_get (numbers bag) j ≡ Some cell.element
  numbered j cell at = get_map number_of (cells bag) j cell (get_front bag.elements.items (head_cells bag.head) j cell at)

  pub among : (j : ℕ) (cell : BagElement) → slice_get bag.elements.items j ≡ Some cell → IsMember cell.element (numbers bag)
  among j cell at = get_member (numbers bag) j cell.element (numbered j cell at)

  -- and no other has it
  pub elements_once : (j k : ℕ) (one other : BagElement) → slice_get bag.elements.items j ≡ Some one → slice_get bag.elements.items k ≡ Some other → one.element ≡ other.element → j ≡ k
  elements_once j k one other at to same = place_once (numbers bag) j k one.element is.once (numbered j one at) (numbered k other to ∙ ap Some (sym same))

  -- so it is with the source at the head, behind all others
  source_numbered : (own : BagElement) → bag.head ≡ Source own → slice_get (numbers bag) (length bag.elements.items) ≡ Some own.element
  source_numbered own head =
      ap (λ (h : BagHead). slice_get (map number_of (bag.elements.items ++ head_cells h)) (length bag.elements.items)) head
      ∙ get_map number_of (bag.elements.items ++ own ∷ []) (length bag.elements.items) own (get_last bag.elements.items own)

  pub source_among : (own : BagElement) → bag.head ≡ Source own → IsMember own.element (numbers bag)
  source_among own head = get_member (numbers bag) (length bag.elements.items) own.element (source_numbered own head)

  pub source_apart : (own : BagElement) → bag.head ≡ Source own → (j : ℕ) (cell : BagElement) → slice_get bag.elements.items j ≡ Some cell → cell.element ≡ own.element → ⊥
  source_apart own head j cell at same =
      let place : j ≡ length bag.elements.items = place_once (numbers bag) j (length bag.elements.items) own.element is.once (numbered j cell at ∙ ap Some same) (source_numbered own head) in
      let w = slice_get_within bag.elements.items j cell at in
      omega (arith, place, w)

  pub head_among : IsMember (head_of bag) (numbers bag)
  head_among = is.whole (head_of bag) Reaches.itself

  -- the others are no sources
  pub no_source : All (HasPads made) links → (j : ℕ) (cell : BagElement) → slice_get bag.elements.items j ≡ Some cell → has is_source made cell.element ≡ false
  no_source all j cell at = go bag.head refl is.head (reached_by made links all (head_of bag) cell.element (is.only cell.element (among j cell at)))
    where
      go : (head : BagHead) → bag.head ≡ head → IsHead made links head → (head_number head ≡ cell.element) ⊎ (has is_source made cell.element ≡ false) → has is_source made cell.element ≡ false
      go head of own (inr none) = none
      go (Source source) of own (inl same) = absurd (source_apart source of j cell at (sym same))
      go (Inlets n) of own (inl same) = subst (λ (k : ℕ). has is_source made k ≡ false) same (fed_no_source made links n own)
