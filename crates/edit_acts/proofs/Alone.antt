-- An element that no link touches is alone in its task, and can be taken out of the moment with it.
use Rattle.std.proofs.Common.{◌≡◌, ◌⊎◌, ℕ, zero, suc, true, false, List, [], ◌∷◌, Option, None, Some, get_or, refl, sym, ap, ◌∙◌, subst, inl, inr}
use Rattle.std.specs.Prelude.{slice_get}
use Rattle.std.specs.Option.{option_map_or}
use Rattle.flow_model.specs.Item.{Item}
use Rattle.flow_model.specs.Link.{Span}
use Rattle.lane_core.specs.Lane.{Lane}
use Rattle.lane_core.specs.declared.ends.Inlet as inlets
use Rattle.lane_core.specs.declared.ends.Outlet as outlets
use Rattle.flow_model.specs.Moment.{Moment}
use Rattle.flow_model.specs.Standing.{is_linked}
use Rattle.flow_model.specs.Step.{Leads}
use Rattle.flow_model.specs.declared.element.TaskElement as elements
use Rattle.flow_model.specs.declared.source.TaskSource as sources
use Rattle.task_pads.specs.Behind.{inside, over}
use Rattle.task_pads.specs.declared.pad.Pad.{Pad}
use Rattle.task_pads.specs.Pads.{number_of}
use Rattle.task_parts.specs.declared.head.Head.{Head}
use Rattle.task_parts.specs.declared.head.Head.TheVariants.{Source, Inlets}
use Rattle.task_parts.specs.declared.part.Part.{Part}
use Rattle.gst_value.proofs.Places.{map_got}
use Rattle.net_task.specs.declared.task.Task.{Task}
use Rattle.net_task.specs.Frame.{HeadFrame, IsWire, PartFrame, Wire, WireAt, by_source, frame_of, head_frame, head_wire, of_head, of_part, part_frame}
use Rattle.net_task.specs.Ties.{HeadTied, Ties, nothing_lost}
use Rattle.net_turns.specs.Net.{HasElement}
use Rattle.net_groups.specs.Lanes.{SendsAt}
use Rattle.net_edits.specs.Adding.{IsCut, IsOnly, NoneStand}
use Rattle.graph_core.specs.GraphPlan.{IsIn, owner_of}
use Rattle.graph_core.proofs.NumberedPads.{found_in, same_element}
use Rattle.graph_pads.specs.Links.{source_before}
use Rattle.graph_pads.specs.declared.pad.PadLink.{PadLink}
use Rattle.graph_pads.specs.declared.pad.PadPlace.{PadPlace}
use Rattle.graph_edits.specs.Edited.{Edited, is_there, spans_at}
use Rattle.graph_edits.specs.Lawful.{has_link}
use Rattle.graph_edits.proofs.Keeping.{free_at}
use Rattle.edit_core.specs.Tasks.{IsReachedIn, LeadsOn, number_of_head}
use Rattle.edit_core.specs.Ways.{IsRun}
use Rattle.edit_core.proofs.Trees.{source_owner, wire_leads, wire_leads_over, wire_owner}
use Rattle.edit_core.proofs.Ways.{number_whole}
use Rattle.edit_acts.specs.Removed.{IsFree, UnlinkedIsAlone}
use Rattle.edit_acts.proofs.Gone.{not_sink, not_source}
use Rattle.edit_acts.proofs.Loose.{graph_link, place_of_number, port_low}

-- no link of sink pads stands where none does at each of them
none_stand : (sinks : List (List Span)) → ((j : ℕ) → is_linked (get_or sinks j []) ≡ false) → NoneStand sinks
none_stand [] none = tt
none_stand (spans ∷ sinks) none = (none zero, none_stand sinks (λ j. none (suc j)))

module _ {S E I O L : Type 0} {s : sources.Ghosts S} {e : elements.Ghosts E} {i : inlets.Ghosts I L O} {o : outlets.Ghosts O L} (g : Edited) (m : Moment) (tasks : List (Task S E I O L s e i o)) (tells : Option (List Lane))
    (run : IsRun g m tasks tells) where
  module _ (k : ℕ) (task : Task S E I O L s e i o) (at : slice_get tasks k ≡ Some task) where
    ties : Ties task m
    ties = run.net.tied k task at

    is_made : (a : ℕ) → HasElement (frame_of task) a → is_there g a ≡ true
    is_made a has = run.are.there k a (record { task = task; at = at; has = has })

    -- a link of the graph stands where a pad leads inside, and so it does where one leads over a lane
    module _ (wire : Wire) (is : IsWire (frame_of task) wire) (b port : ℕ) where
      abbrev pub WireLink : Type 0
      WireLink = (link : PadLink) × IsIn link g.links × (link.source.element ≡ owner_of wire.number) × (link.sink.element ≡ b)

      led_link : Leads m.plan wire.number b port → is_there g b ≡ true → WireLink
      led_link leads here =
          let found = graph_link g m tasks tells run (place_of_number wire.number) b port (port_low wire.number) (subst (λ (p : ℕ). Leads m.plan p b port) (sym (number_whole wire.number)) leads) here in
          (found.0, found.1, ap (λ (p : PadPlace). p.element) found.2, found.3)

      pub inside_link : wire.leads ≡ inside b port → WireLink
      inside_link leads = led_link (wire_leads i o m task.head task.parts.items ties wire is b port leads) (run.are.inner k task wire b port at is leads).0

      pub over_link : (lane from : ℕ) → wire.leads ≡ over lane b port from → WireLink
      over_link lane from leads = led_link (wire_leads_over i o m task.head task.parts.items ties wire is lane b port from leads) (run.are.lanes k task wire lane b port from at is leads).0

    -- the link over which one element of a task leads on to another
    on_link : (a b : ℕ) → LeadsOn (frame_of task) a b → (link : PadLink) × IsIn link g.links × (link.source.element ≡ a) × (link.sink.element ≡ b)
    on_link a b (LeadsOn.of_source port file wire head leads) =
        let found = inside_link wire (of_head (ap (λ (h : HeadFrame). head_wire h) head)) b port leads in
        let owner = run.owners wire.number a (source_owner i o m task.head task.parts.items ties task.head ties.head_tied a file wire head) (is_made a (HasElement.source file wire head)) in
        (found.0, found.1, found.2 ∙ owner, found.3)
    on_link a b (LeadsOn.of_part j l port one wire one_at wire_at number leads) =
        let w : WireAt (frame_of task) j l wire = record { part = one; at = one_at; pad_at = wire_at } in
        let found = inside_link wire (of_part j l w) b port leads in
        let owner = run.owners wire.number a (wire_owner i o m task.head task.parts.items ties j l wire w ∙ number) (is_made a (HasElement.part j one one_at number)) in
        (found.0, found.1, found.2 ∙ owner, found.3)

  module _ (n : ℕ) (none : has_link g n ≡ false) where
    -- none of its sink pads has a link
    unlinked_sink : (sink : PadPlace) → sink.element ≡ n → is_linked (spans_at g sink) ≡ false
    unlinked_sink sink own = free_at m.history g sink run.kept (by (source_before g.links sink) refl)
      where
        by : (found : Option PadPlace) → source_before g.links sink ≡ found → source_before g.links sink ≡ None
        by None is = is
        by (Some source) is = let link = found_in g.links sink source is in absurd (not_sink g n link.0 none link.1 (same_element link.0.sink sink link.3 ∙ own))

    free : is_there g n ≡ true → NoneStand (m.plan.sinks n)
    free there = subst (λ (sinks : List (List Span)). NoneStand sinks) (sym (run.sinks n there)) (none_stand (g.spans n) (λ j. unlinked_sink (record { element = n; pad = j }) refl))

    unsent : (k : ℕ) → SendsAt tasks k n → ⊥
    unsent k z =
        let link = over_link k z.task z.at z.sends.wire z.sends.is n z.sends.port z.sends.lane z.sends.from z.sends.leads in not_sink g n link.0 none link.1 link.3

    module _ (k : ℕ) (task : Task S E I O L s e i o) (at : slice_get tasks k ≡ Some task) (has : HasElement (frame_of task) n) where
      not_from : (b : ℕ) → LeadsOn (frame_of task) n b → ⊥
      not_from b on = let link = on_link k task at n b on in not_source g n link.0 none link.1 link.2

      not_to : (a : ℕ) → LeadsOn (frame_of task) a n → ⊥
      not_to a on = let link = on_link k task at a n on in not_sink g n link.0 none link.1 link.3

      named_by_head : (x : ℕ) → IsReachedIn (frame_of task) x → x ≡ n → number_of_head (frame_of task).head ≡ n
      named_by_head x IsReachedIn.head same = same
      named_by_head x (IsReachedIn.next a b reached leads) same = absurd (not_to a (subst (λ (y : ℕ). LeadsOn (frame_of task) a y) same leads))

      only_reached : (x : ℕ) → IsReachedIn (frame_of task) x → x ≡ n
      only_reached x IsReachedIn.head = named_by_head n (run.are.reached k task n at has) refl
      only_reached x (IsReachedIn.next a b reached leads) = absurd (not_from b (subst (λ (y : ℕ). LeadsOn (frame_of task) y b) (only_reached a reached) leads))

      pub only : IsOnly (frame_of task) n
      only x own = only_reached x (run.are.reached k task x at own)

      -- ---- what crossed its pads, by port

      cut_of_part : (j : ℕ) (part : Part E O e) → slice_get task.parts.items j ≡ Some part → part.number ≡ n → (cut : ℕ → List Item) × IsCut m n cut
      cut_of_part j part part_at number = (
        λ port. option_map_or (λ (pad : Pad O). m.history (number_of pad)) (slice_get part.pads.items port) [],
        record {
          own = λ p owner.
              let mine = ((ties k task at).parts_tied.each j part part_at).mine p (owner ∙ sym number) in
              ap (λ (found : Option (Pad O)). option_map_or (λ (pad : Pad O). m.history (number_of pad)) found []) mine.at ∙ ap m.history mine.number;
          each = λ port. each (slice_get part.pads.items port);
        },
      )
        where
          each : (found : Option (Pad O)) → (option_map_or (λ (pad : Pad O). m.history (number_of pad)) found [] ≡ []) ⊎ ((p : ℕ) × (option_map_or (λ (pad : Pad O). m.history (number_of pad)) found [] ≡ m.history p))
          each None = inl refl
          each (Some pad) = inr (number_of pad, refl)

      cut_of_head : (head : Head S I O s) → HeadTied i o nothing_lost m head task.parts.items → (file : Option (Option (List ℕ))) (wire : Wire) → head_frame o head ≡ by_source n file wire → (cut : ℕ → List Item) × IsCut m n cut
      cut_of_head (Source head) tied file wire is = (
        λ port. m.history (number_of head.pad),
        record {
          own = λ p owner. ap m.history (sym (tied.mine p (owner ∙ sym (ap (λ (h : HeadFrame). number_of_head h) is))));
          each = λ port. inr (number_of head.pad, refl);
        },
      )
      cut_of_head (Inlets head) tied file wire is = absurd cc

      cut_of : HasElement (frame_of task) n → (cut : ℕ → List Item) × IsCut m n cut
      cut_of (HasElement.part j one is number) =
          let found = map_got (part_frame o) task.parts.items j one is in
          cut_of_part j found.0 found.1 (ap (λ (f : PartFrame). f.number) (sym found.2) ∙ number)
      cut_of (HasElement.source file wire is) = cut_of_head task.head (ties k task at).head_tied file wire is

      pub its_cut : (cut : ℕ → List Item) × IsCut m n cut
      its_cut = cut_of has

-- It can be taken out of the tasks.
pub unlinked_is_free : {S E I O L : Type 0} {s : sources.Ghosts S} {e : elements.Ghosts E} {i : inlets.Ghosts I L O} {o : outlets.Ghosts O L} (g : Edited) (m : Moment) (tasks : List (Task S E I O L s e i o)) (tells : Option (List Lane))
    → IsRun g m tasks tells → (n : ℕ) → has_link g n ≡ false → IsFree tasks n
unlinked_is_free g m tasks tells run n none = record { alone = λ k task at has. only g m tasks tells run n none k task at has; unsent = unsent g m tasks tells run n none }

pub unlinked_is_alone : {S E I O L : Type 0} (s : sources.Ghosts S) (e : elements.Ghosts E) (i : inlets.Ghosts I L O) (o : outlets.Ghosts O L) → UnlinkedIsAlone s e i o
unlinked_is_alone s e i o g m tasks tells k n task run none at has =
    (record { only = only g m tasks tells run n none k task at has; free = free g m tasks tells run n none (is_made g m tasks tells run k task at n has) }, its_cut g m tasks tells run n none k task at has)
