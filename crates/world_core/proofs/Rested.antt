-- The elements that are of no task: where one writes a file that is empty, nothing came to it, and it is of no bag.
use Rattle.std.proofs.Common.{◌≡◌, ◌⊎◌, ◌++◌, ℕ, true, false, List, [], ◌∷◌, Option, Some, map, replicate, sym, ap, ◌∙◌, subst, inl, inr, arith}
use Rattle.std.specs.Prelude.{slice_get}
use Rattle.std.specs.Option.{option_map_or}
use Rattle.std.proofs.lemmas.Option.{slice_get_within}
use Rattle.flow_model.specs.declared.element.TaskElement as elements
use Rattle.flow_model.specs.declared.source.TaskSource as givers
use Rattle.flow_model.specs.Account.{IsMember}
use Rattle.flow_model.specs.Item.{Item}
use Rattle.graph_parts.specs.Bags.{IsBag, IsHead, head_cells, number_of}
use Rattle.graph_parts.specs.BagLaws.{StandsIn}
use Rattle.el_settings.proofs.Roles.{end_sinks}
use Rattle.el_settings.specs.Asked.{is_source}
use Rattle.graph_parts.specs.declared.bag.Bag.{Bag}
use Rattle.graph_parts.specs.declared.bag.BagElement.{BagElement}
use Rattle.graph_parts.specs.declared.bag.BagHead.{BagHead}
use Rattle.graph_parts.specs.declared.bag.BagHead.TheVariants as bags_of
use Rattle.graph_core.specs.Elements.{Made, has}
use Rattle.graph_core.specs.Graph.{made as made_in, links as links_in}
use Rattle.graph_pads.specs.declared.pad.PadLink.{PadLink}
use Rattle.graph_core.specs.declared.graph.Graph.{Graph}
use Rattle.graph_tasks.specs.Written.{HasAll}
use Rattle.graph_parts.specs.Files.{OpensAt}
use Rattle.graph_tasks.specs.Tasks.{IsOf}
use Rattle.graph_tasks.specs.Wired.{number_in, part_numbers}
use Rattle.graph_tasks.specs.declared.wired_task.WiredTask.{WiredTask}
use Rattle.graph_tasks.proofs.Takes.{without_stood}
use Rattle.gst_outside.specs.Seen.{Seen}
use Rattle.gst_outside.specs.declared.sink.Sink as sinks
use Rattle.gst_outside.specs.declared.source.Source as sources
use Rattle.lane_core.specs.Lane.{Lane}
use Rattle.lane_core.specs.declared.ends.Inlet as inlets
use Rattle.lane_core.specs.declared.ends.Outlet as outlets
use Rattle.flow_model.specs.Moment.{Moment}
use Rattle.net_task.specs.declared.task.Task.{Task}
use Rattle.run_files.specs.declared.end.End.{End}
use Rattle.run_files.specs.declared.end.Opening.TheVariants.{Write}
use Rattle.task_elements.specs.Made.{behavior_of}
use Rattle.task_elements.specs.Stands.{StreamStands}
use Rattle.task_elements.specs.declared.element.StreamElement.{StreamElement}
use Rattle.task_elements.specs.declared.source.StreamSource.{StreamSource}
use Rattle.world_core.specs.Start.{IsStarted}
use Rattle.world_core.proofs.AtHand.{made_at}
use Rattle.graph_parts.proofs.OwnFiles.{writer}
use Rattle.world_core.proofs.Held.{RestHasCame, fresh_all}
use Rattle.world_core.proofs.Members.{flat_member, without_gone}
use Rattle.world_core.proofs.Settled.{IsSettled}
use Rattle.flow_model.proofs.Items.{get_member, member_got}
use Rattle.graph_tasks.proofs.BlamedFrames.{all_at}
use Rattle.gst_value.proofs.Places.{found_at as got_within, map_get as get_map, map_got}

-- a number of elements in two lists is of the first, or of the second
of_either : (xs ys : List BagElement) (d : ℕ) → IsMember d (map number_of (xs ++ ys)) → IsMember d (map number_of xs) ⊎ IsMember d (map number_of ys)
of_either [] ys d m = inr m
of_either (x ∷ xs) ys d (inl same) = inl (inl same)
of_either (x ∷ xs) ys d (inr m) = by (of_either xs ys d m)
  where
    by : IsMember d (map number_of xs) ⊎ IsMember d (map number_of ys) → IsMember d (map number_of (x ∷ xs)) ⊎ IsMember d (map number_of ys)
    by (inl m) = inl (inr m)
    by (inr m) = inr m

-- one that is no source is not at the head of its bag's own cells
no_head : (made : List Made) (links : List PadLink) (head : BagHead) (d : ℕ) → has is_source made d ≡ false → IsHead made links head → IsMember d (map number_of (head_cells head)) → ⊥
no_head made links (bags_of.Source own) d none is (inl same) =
    let so = ap (λ (n : ℕ). has is_source made n) same ∙ is in absurd (no none so)
  where
    no : has is_source made d ≡ false → has is_source made d ≡ true → ⊥
    no none so = absurd (cc)
no_head made links (bags_of.Source own) d none is (inr m) = m
no_head made links (bags_of.Inlets n) d none is m = m

module _ {S K I O L : Type 0} {giver : givers.Ghosts (StreamSource S)} {taker : elements.Ghosts (StreamElement K)}
    {i : inlets.Ghosts I L O} {o : outlets.Ghosts O L}
    (s : sources.Ghosts S) (k : sinks.Ghosts K) (graph : Graph) (first : List (Task (StreamSource S) (StreamElement K) I O L giver taker i o))
    (rest : List (Option (StreamElement K))) (left : List (Option (End S K))) (tells : Option (List Lane)) (before : Seen)
    (started : IsStarted s k graph first rest left tells before) where
  -- it stood under its number, and was not taken from there
  rest_at : (d : ℕ) (x : StreamElement K) → slice_get rest d ≡ Some (Some x) → IsOf started.elements_in d x
  rest_at d x is =
      without_stood (part_numbers started.wired) started.elements_in d x (subst (λ (xs : List (Option (StreamElement K))). IsOf xs d x) started.rest_is is)

  rest_untaken : (d : ℕ) (x : StreamElement K) → slice_get rest d ≡ Some (Some x) → IsMember d (part_numbers started.wired) → ⊥
  rest_untaken d x is m =
      without_gone (part_numbers started.wired) started.elements_in d x m (subst (λ (xs : List (Option (StreamElement K))). IsOf xs d x) started.rest_is is)

  -- its file is empty
  pub rest_fresh : (d : ℕ) (location : List ℕ) (x : StreamElement K) → OpensAt (made_in graph) d (Write location) → slice_get rest d ≡ Some (Some x)
      → HasAll k x []
  rest_fresh d location x opens is =
      let one = end_sinks opens.element.settings (writer opens.element.settings location opens.opens).sink in
      fresh_all s k (behavior_of opens.element.settings) x
      (subst (λ (n : ℕ). StreamStands k.bytes x (behavior_of opens.element.settings) (replicate n [])) one
      (made_at s k (made_in graph) started.ends before started.opened started.opens started.elements_in started.sources_in left started.filled d opens.element x
      opens.at (rest_at d x is)).0)

  -- an element of a bag, with its place there, is of its task
  bag_taken : (j d : ℕ) (bag : Bag) → slice_get started.bags j ≡ Some bag → IsMember d (map number_of bag.elements.items)
      → IsMember d (part_numbers started.wired)
  bag_taken j d bag at m =
      let place = member_got (map number_of bag.elements.items) d m in
      let cell = map_got number_of bag.elements.items place.0 d place.1 in
      let w = slice_get_within started.bags j bag at in
      let plan = got_within started.wired j (omega (arith, w, started.wired_are.count)) in
      let made_so = started.wired_are.each j bag plan.0 at plan.1 in
      let inner = slice_get_within bag.elements.items place.0 cell.0 cell.1 in
      let own = got_within plan.0.parts.items place.0 (omega (arith, inner, made_so.count)) in
      let number = (made_so.parts place.0 cell.0 own.0 cell.1 own.1).number ∙ sym cell.2 in
      flat_member (λ (task : WiredTask I O). map number_in task.parts.items) started.wired j plan.0 d plan.1
      (get_member (map number_in plan.0.parts.items) place.0 d (get_map number_in plan.0.parts.items place.0 own.0 own.1 ∙ ap (λ (n : ℕ). Some n) number))

  -- and it is of no bag
  pub rest_loose : (d : ℕ) (location : List ℕ) (x : StreamElement K) → OpensAt (made_in graph) d (Write location) → slice_get rest d ≡ Some (Some x)
      → (j : ℕ) → StandsIn started.bags j d → ⊥
  rest_loose d location x opens is j in_bag = by (of_either in_bag.bag.elements.items (head_cells in_bag.bag.head) d in_bag.among)
    where
      none : has is_source (made_in graph) d ≡ false
      none =
          ap (λ (found : Option Made). option_map_or (λ (m : Made). is_source m.settings) found false) opens.at
          ∙ (writer opens.element.settings location opens.opens).no_source

      by : IsMember d (map number_of in_bag.bag.elements.items) ⊎ IsMember d (map number_of (head_cells in_bag.bag.head)) → ⊥
      by (inl m) = rest_untaken d x is (bag_taken j d in_bag.bag in_bag.is m)
      by (inr m) =
          let is_bag = all_at (IsBag (made_in graph) (links_in graph)) started.bags started.bags_are.are.are j in_bag.bag in_bag.is in
          no_head (made_in graph) (links_in graph) in_bag.bag.head d none is_bag.head m

  -- So all that came to it is in its file.
  pub rested : (last : List (Task (StreamSource S) (StreamElement K) I O L giver taker i o)) (contents : ℕ → List ℕ) (m : Moment)
      → IsSettled contents graph started.bags m last → RestHasCame k graph last rest m
  rested last contents m settled d location x opens is =
      let w = slice_get_within (made_in graph) d opens.element opens.at in
      subst (λ (list : List Item). HasAll k x list) (sym ((settled.quiet d w (rest_loose d location x opens is)).came 0)) (rest_fresh d location x opens is)
