-- A task stays tied where a moment goes on at elements that are not its own.
use Rattle.std.proofs.Common.{◌≡◌, ◌+◌, ℕ, true, List, [], ◌++◌, Some, length, refl, sym, ap, ◌∙◌, subst}
use Rattle.std.specs.Prelude.{slice_get}
use Rattle.flow_model.specs.Item.{Item}
use Rattle.flow_model.specs.Call.{Call}
use Rattle.lane_core.specs.declared.ends.Inlet as inlets
use Rattle.lane_core.specs.declared.ends.Outlet as outlets
use Rattle.flow_model.specs.Moment.{Moment, behavior_at}
use Rattle.flow_model.specs.Split.{NoneAt}
use Rattle.flow_model.specs.declared.element.TaskElement as elements
use Rattle.flow_model.specs.declared.source.TaskSource as sources
use Rattle.inlet_row.specs.declared.row.InletRow.{InletRow}
use Rattle.task_pads.specs.declared.pad.Pad.{Pad}
use Rattle.task_pads.specs.Behind.{Goes, nowhere, inside, over}
use Rattle.task_pads.specs.Pads.{HasCrossed, SentOver, goes_of, number_of, waiting_of}
use Rattle.task_parts.specs.declared.part.Part.{Part}
use Rattle.task_parts.specs.declared.head.SourceHead.{SourceHead}
use Rattle.task_parts.specs.declared.head.Head.{Head}
use Rattle.task_parts.specs.declared.head.Head.TheVariants.{Source, Inlets}
use Rattle.task_parts.specs.Part.{waits_at}
use Rattle.task_parts.specs.Shape.{is_closed, shape_of}
use Rattle.net_task.specs.Frame.{by_source, frame_in, wire_of}
use Rattle.net_task.specs.Ties.{AreTied, HeadTied, LeadsAs, PadLinked, PartTied, PortTied, RowTied, SourceTied, Stands, TookAt, nothing_lost}
use Rattle.net_turns.specs.Net.{HasElement, source as has_source}
use Rattle.net_turns.proofs.Owners.{IsPadOf, closed_head, number_has, of_part, of_source, part_has, source_pad}
use Rattle.gst_value.proofs.Basics.{some_same}

-- a moment that is another at its elements and pads, but not in its graph
abbrev pub moved_to : Moment → (ℕ → List Item) → (ℕ → List (List Call)) → (ℕ → List (List Call)) → (ℕ → List Item) → Moment
moved_to m history took held waits = record m { history = history; took = took; held = held; waits = waits }

module _ {S E I O L : Type 0} {s : sources.Ghosts S} {e : elements.Ghosts E} (i : inlets.Ghosts I L O) (o : outlets.Ghosts O L) where
  -- the owner of a pad of a task is an element of it
  source_owned : (lost : ℕ → List Item) (m : Moment) (head : Head S I O s) (parts : List (Part E O e)) → HeadTied i o lost m head parts → (pad : Pad O) → source_pad head ≡ Some pad
      → PadLinked o m pad × HasElement (frame_in o head parts) (m.plan.owner (number_of pad))
  source_owned lost m (Source head) parts h pad is =
      subst
      (λ (one : Pad O). PadLinked o m one × HasElement (frame_in {I = I} o (Source head) parts) (m.plan.owner (number_of one)))
      (some_same is)
      (h.linked, has_source (s.file head.source) (wire_of o head.pad) (ap (λ (n : ℕ). by_source n (s.file head.source) (wire_of o head.pad)) (sym h.owner)))
  source_owned lost m (Inlets head) parts h pad is = absurd cc

  pub pad_tied : (Stood : Part E O e → Type 0) (lost : ℕ → List Item) (m : Moment) (head : Head S I O s) (parts : List (Part E O e))
      → AreTied i o Stood lost m head parts → (pad : Pad O) → IsPadOf head parts pad
      → PadLinked o m pad × HasElement (frame_in o head parts) (m.plan.owner (number_of pad))
  pad_tied Stood lost m head parts h pad (of_part j k part at pad_at) =
      let tied = (h.parts_tied.each j part at).pads k pad pad_at in
      (tied.linked, subst (λ (n : ℕ). HasElement (frame_in o head parts) n) (sym tied.owner) (part_has o head parts j part at))
  pad_tied Stood lost m head parts h pad (of_source is) = source_owned lost m head parts h.head_tied pad is

  -- It is another at pads and elements that are not of the task, and where a pad of the task leads inside nothing came to stand
  -- in the inlet.
  module _ (m : Moment) (history : ℕ → List Item) (took held : ℕ → List (List Call)) (waits : ℕ → List Item) (head : Head S I O s) (parts : List (Part E O e))
      (history_same : (p : ℕ) → HasElement (frame_in o head parts) (m.plan.owner p) → history p ≡ m.history p)
      (waits_same : (p : ℕ) → HasElement (frame_in o head parts) (m.plan.owner p) → waits p ≡ m.waits p)
      (took_same : (n : ℕ) → HasElement (frame_in o head parts) n → took n ≡ m.took n)
      (inner : (pad : Pad O) (n k : ℕ) → IsPadOf head parts pad → goes_of pad ≡ inside n k → NoneAt k (m.held n) → NoneAt k (held n)) where
    leads_still : (p : ℕ) (g : Goes) → ((n k : ℕ) → g ≡ inside n k → NoneAt k (m.held n) → NoneAt k (held n)) → LeadsAs m p g → LeadsAs (moved_to m history took held waits) p g
    leads_still p nowhere f h = h
    leads_still p (inside n k) f h = (h.0, f n k refl h.1)
    leads_still p (over lane n k from) f h = h

    linked_still : (pad : Pad O) → IsPadOf head parts pad → HasElement (frame_in o head parts) (m.plan.owner (number_of pad)) → PadLinked o m pad
        → PadLinked o (moved_to m history took held waits) pad
    linked_still pad is has h = record {
      crossed = subst (HasCrossed pad) (sym (history_same (number_of pad) has)) h.crossed;
      leads = leads_still (number_of pad) (goes_of pad) (λ n k leads. inner pad n k is leads) h.leads;
      sent = subst (SentOver o pad) (sym (history_same (number_of pad) has)) h.sent;
    }

    part_still : (j : ℕ) (part : Part E O e) → slice_get parts j ≡ Some part → PartTied o (Stands m part) m part
        → PartTied o (Stands (moved_to m history took held waits) part) (moved_to m history took held waits) part
    part_still j part at h = record {
      stood = subst (e.stands part.element (behavior_at m part.number)) (sym (took_same part.number (part_has o head parts j part at))) h.stood;
      pads = λ k pad pad_at. port_still k pad pad_at (h.pads k pad pad_at);
      mine = λ p owner. let one = h.mine p owner in record { pad = one.pad; at = one.at; number = one.number; uncut = one.uncut };
    }
      where
        port_still : (k : ℕ) (pad : Pad O) → slice_get part.pads.items k ≡ Some pad → PortTied o m part.number k pad (waits_at part k pad)
            → PortTied o (moved_to m history took held waits) part.number k pad (waits_at part k pad)
        port_still k pad pad_at t =
            let has = subst (λ (n : ℕ). HasElement (frame_in o head parts) n) (sym t.owner) (part_has o head parts j part at) in
            record { owner = t.owner; port_is = t.port_is; linked = linked_still pad (of_part j k part at pad_at) has t.linked; waits = waits_same (number_of pad) has ∙ t.waits }

    source_still : (one : SourceHead S O s) → source_pad head ≡ Some one.pad → HasElement (frame_in o head parts) (m.plan.owner (number_of one.pad)) → SourceTied o [] m one parts
        → SourceTied o [] (moved_to m history took held waits) one parts
    source_still one is has h = record {
      owner = h.owner;
      mine = h.mine;
      linked = linked_still one.pad (of_source is) has h.linked;
      gave = subst (λ (w : List Item). s.gave one.source (history (number_of one.pad) ++ ([] ++ w)) (history (number_of one.pad) ++ ([] ++ waiting_of one.pad))) (sym (waits_same (number_of one.pad) has))
          (subst (λ (h : List Item). s.gave one.source (h ++ ([] ++ m.waits (number_of one.pad))) (h ++ ([] ++ waiting_of one.pad))) (sym (history_same (number_of one.pad) has)) h.gave);
      given = h.given ∙ ap (λ (h : List Item). length h + (0 + length (waiting_of one.pad))) (sym (history_same (number_of one.pad) has));
      apart = h.apart;
    }

    row_still : (n k : ℕ) (row : InletRow I) → HasElement (frame_in o head parts) n → RowTied i [] m n k row parts → RowTied i [] (moved_to m history took held waits) n k row parts
    row_still n k row has h = record { all = h.all; gave = h.gave; got = h.got; whole = h.whole; took = subst (λ (css : List (List Call)). TookAt k css h.got) (sym (took_same n has)) h.took; apart = h.apart }

    head_still : is_closed (shape_of head parts) ≡ true → (one : Head S I O s) → head ≡ one → HeadTied i o nothing_lost m head parts → HeadTied i o nothing_lost m one parts
        → HeadTied i o nothing_lost (moved_to m history took held waits) one parts
    head_still c (Source one) is was h = let at = ap source_pad is in source_still one at (source_owned nothing_lost m head parts was one.pad at).1 h
    head_still c (Inlets fed) is was h = λ k row at. row_still fed.number k row (number_has o head parts fed.number (closed_head head parts c fed is)) (h k row at)

    pub tied_still : is_closed (shape_of head parts) ≡ true → AreTied i o (Stands m) nothing_lost m head parts
        → AreTied i o (Stands (moved_to m history took held waits)) nothing_lost (moved_to m history took held waits) head parts
    tied_still c h = record {
      parts_tied = record { each = λ j part at. part_still j part at (h.parts_tied.each j part at); once = h.parts_tied.once };
      head_tied = head_still c head refl h.head_tied h.head_tied;
    }
