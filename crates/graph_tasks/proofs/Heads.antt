-- The heads of a graph's tasks: the rows of an element that is fed from inlets, or a source.
use Rattle.std.proofs.Common.{◌≡◌, ℕ, true, List, Option, Some, length, refl, sym, ap, ◌∙◌, subst, arith}
use Rattle.std.specs.Prelude.{slice_get}
use Rattle.flow_model.specs.Account.{IsMember}
use Rattle.lane_core.specs.Lane.{Lane}
use Rattle.lane_core.specs.declared.ends.Inlet as inlets
use Rattle.lane_core.specs.declared.ends.Outlet as outlets
use Rattle.flow_model.specs.declared.element.TaskElement as elements
use Rattle.flow_model.specs.declared.source.TaskSource as sources
use Rattle.graph_core.specs.Graph.{made as made_in, links as links_in}
use Rattle.graph_core.specs.declared.graph.Graph.{Graph}
use Rattle.graph_parts.specs.Links.{has_inlets, is_head}
use Rattle.el_settings.specs.Asked.{is_source}
use Rattle.graph_parts.specs.Bags.{IsHead, head_number, head_of, numbers}
use Rattle.graph_parts.specs.declared.bag.Bag.{Bag}
use Rattle.graph_parts.specs.declared.bag.BagElement.{BagElement}
use Rattle.graph_parts.specs.declared.bag.BagHead.{BagHead}
use Rattle.graph_parts.specs.declared.bag.BagHead.TheVariants as bags_heads
use Rattle.graph_parts.proofs.Apart.{heads_have_bags}
use Rattle.inlet_row.specs.declared.row.InletRow.{InletRow}
use Rattle.task_parts.specs.declared.head.Head.{Head}
use Rattle.task_parts.specs.declared.head.Head.TheVariants.{Inlets}
use Rattle.task_parts.specs.declared.head.InletHead.{InletHead}
use Rattle.net_task.specs.declared.task.Task.{Task}
use Rattle.net_task.specs.Frame.{PartFrame, Wire, by_source, frame_of, head_frame, part_frame, wire_of}
use Rattle.net_turns.specs.Net.{HasElement, IsFed, Owns}
use Rattle.graph_tasks.specs.Tasks.{IsHeadOf, IsRowOf, sink_count}
use Rattle.std.proofs.lemmas.Option.{slice_get_within}
use Rattle.graph_tasks.proofs.Graphs.{inlets_no_source}
use Rattle.graph_tasks.proofs.Bags.{among, fed_no_source, head_among, source_among}
use Rattle.graph_tasks.proofs.Given.{IsKnown, IsPlaced, cell_of, one_task, placed}
use Rattle.gst_value.proofs.Basics.{some_same, from_false as not_true}
use Rattle.gst_value.proofs.Places.{found_at as got_within, map_got}
use Rattle.graph_core.specs.Elements.{has}

module _ {S E I O L : Type 0} {s : sources.Ghosts S} {e : elements.Ghosts E} {i : inlets.Ghosts I L O} {o : outlets.Ghosts O L}
    {graph : Graph} {bags : List Bag} {ends : List (Option E)} {files : List (Option S)} {tasks : List (Task S E I O L s e i o)} {table : List Lane}
    (g : IsKnown i o graph bags ends files tasks table) where
  -- the rows of a task are those of the element at the head of its bag
  pub record HasRows (bag : BagHead) (own : InletHead I) : Type 0 where
    pub is : bag ≡ bags_heads.Inlets own.number
    pub count : length own.rows.items ≡ sink_count (made_in graph) own.number
    pub rows : (port : ℕ) (row : InletRow I) → slice_get own.rows.items port ≡ Some row → IsRowOf i (made_in graph) (links_in graph) own.number port row

  head_rows : (bag : BagHead) (head : Head S I O s) (own : InletHead I) → IsHeadOf i o (made_in graph) (links_in graph) files bag head → head ≡ Inlets own → HasRows bag own
  head_rows bag head own (IsHeadOf.from_source cell source number file given one pad) is = absurd (cc)
  head_rows bag head own (IsHeadOf.from_inlets n its number count rows) is =
      subst (λ (h : InletHead I). HasRows (bags_heads.Inlets n) h) (same is)
      (record {
        is = ap bags_heads.Inlets (sym number);
        count = count ∙ ap (sink_count (made_in graph)) (sym number);
        rows = λ port row at. subst (λ (k : ℕ). IsRowOf i (made_in graph) (links_in graph) k port row) (sym number) (rows port row at);
      })
    where
      same : {a b : InletHead I} → ◌≡◌ {A = Head S I O s} (Inlets a) (Inlets b) → a ≡ b
      same is = cc

  pub fed_rows : (k : ℕ) (own : InletHead I) (fed : IsFed tasks k own) → HasRows (placed g k fed.task fed.at).bag.head own
  fed_rows k own fed = let p = placed g k fed.task fed.at in head_rows p.bag.head fed.task.head own p.of.head fed.head_is

  -- that element is of this task
  pub fed_among : (k : ℕ) (own : InletHead I) (fed : IsFed tasks k own) → IsMember own.number (numbers (placed g k fed.task fed.at).bag)
  fed_among k own fed =
      let p = placed g k fed.task fed.at in
      subst (λ (n : ℕ). IsMember n (numbers p.bag)) (ap head_number (fed_rows k own fed).is) (head_among (made_in graph) (links_in graph) p.bag p.is)

  -- The task whose head is this element.
  pub record HasTask (n : ℕ) : Type 0 where
    pub k : ℕ
    pub task : Task S E I O L s e i o
    pub at : slice_get tasks k ≡ Some task
    pub place : IsPlaced i o graph bags ends files k task
    pub head : head_of place.bag ≡ n

  has_task : (n : ℕ) → has is_head (made_in graph) n ≡ true → HasTask n
  has_task n is =
      let b = heads_have_bags (made_in graph) (links_in graph) bags g.are n is in
      let w = slice_get_within bags b.number b.bag b.is in
      let count = g.made_of.count in
      let t = got_within tasks b.number (omega (arith, w, count)) in
      let p = placed g b.number t.0 t.1 in
      record {
        k = b.number;
        task = t.0;
        at = t.1;
        place = p;
        head = ap head_of (some_same (sym p.at ∙ b.is)) ∙ b.head;
      }

  -- of an element that is fed from inlets
  pub record HasInlets (n : ℕ) : Type 0 where
    pub k : ℕ
    pub own : InletHead I
    pub fed : IsFed tasks k own
    pub number : own.number ≡ n

  inlets_head_of : (bag : BagHead) (head : Head S I O s) (n : ℕ) → IsHeadOf i o (made_in graph) (links_in graph) files bag head → IsHead (made_in graph) (links_in graph) bag → head_number bag ≡ n
      → has has_inlets (made_in graph) n ≡ true → (own : InletHead I) × (head ≡ Inlets own) × (own.number ≡ n)
  inlets_head_of bag head n (IsHeadOf.from_source cell source number file given one pad) is same fed =
      not_true (sym (inlets_no_source (made_in graph) n fed) ∙ subst (λ (k : ℕ). has is_source (made_in graph) k ≡ true) same is)
  inlets_head_of bag head n (IsHeadOf.from_inlets m its number count rows) is same fed = (its, refl, number ∙ same)

  pub inlets_of : (n : ℕ) → has is_head (made_in graph) n ≡ true → has has_inlets (made_in graph) n ≡ true → HasInlets n
  inlets_of n is fed =
      let t = has_task n is in
      let h = inlets_head_of t.place.bag.head t.task.head n t.place.of.head t.place.is.head t.head fed in
      record { k = t.k; own = h.0; fed = record { task = t.task; at = t.at; head_is = h.1 }; number = h.2 }

  -- of a source
  source_frame : (bag : BagHead) (head : Head S I O s) (n : ℕ) → IsHeadOf i o (made_in graph) (links_in graph) files bag head → IsHead (made_in graph) (links_in graph) bag → head_number bag ≡ n
      → has is_source (made_in graph) n ≡ true → (file : Option (Option (List ℕ))) × (wire : Wire) × (head_frame o head ≡ by_source n file wire)
  source_frame bag head n (IsHeadOf.from_source cell source number file given one pad) is same own =
      (s.file source.source, wire_of o source.pad, ap (λ (k : ℕ). by_source k (s.file source.source) (wire_of o source.pad)) (number ∙ same))
  source_frame bag head n (IsHeadOf.from_inlets m its number count rows) is same own =
      not_true (sym (fed_no_source (made_in graph) (links_in graph) m is) ∙ subst (λ (k : ℕ). has is_source (made_in graph) k ≡ true) (sym same) own)

  pub source_owned : (n : ℕ) → has is_head (made_in graph) n ≡ true → has is_source (made_in graph) n ≡ true → (k : ℕ) × Owns tasks k n
  source_owned n is own =
      let t = has_task n is in
      let h = source_frame t.place.bag.head t.task.head n t.place.of.head t.place.is.head t.head own in
      (t.k, record { task = t.task; at = t.at; has = HasElement.source h.0 h.1 h.2 })

  -- what a task has is of its bag
  source_number : (bag : BagHead) (head : Head S I O s) (n : ℕ) (file : Option (Option (List ℕ))) (wire : Wire) → IsHeadOf i o (made_in graph) (links_in graph) files bag head
      → head_frame o head ≡ by_source n file wire → (own : BagElement) × (bag ≡ bags_heads.Source own) × (own.element ≡ n)
  source_number bag head n file wire (IsHeadOf.from_source cell source number content given one pad) is = (cell, refl, sym number ∙ same is)
    where
      same : {a b : ℕ} {f f' : Option (Option (List ℕ))} {w w' : Wire} → by_source a f w ≡ by_source b f' w' → a ≡ b
      same is = cc
  source_number bag head n file wire (IsHeadOf.from_inlets m its number count rows) is = absurd (cc)

  element_among : (k n : ℕ) (task : Task S E I O L s e i o) (p : IsPlaced i o graph bags ends files k task) → HasElement (frame_of task) n → IsMember n (numbers p.bag)
  element_among k n task p (HasElement.part place one at same) =
      let f = map_got (part_frame o) task.parts.items place one at in
      let c = cell_of g k place task p f.0 f.1 in
      subst (λ (m : ℕ). IsMember m (numbers p.bag)) (sym c.of.number ∙ sym (ap (λ (frame : PartFrame). frame.number) f.2) ∙ same)
      (among (made_in graph) (links_in graph) p.bag p.is place c.cell c.at)
  element_among k n task p (HasElement.source file wire head) =
      let h = source_number p.bag.head task.head n file wire p.of.head head in
      subst (λ (m : ℕ). IsMember m (numbers p.bag)) h.2 (source_among (made_in graph) (links_in graph) p.bag p.is h.0 h.1)

  pub one_owner : (k j n : ℕ) → Owns tasks k n → Owns tasks j n → k ≡ j
  one_owner k j n a b =
      let p = placed g k a.task a.at in
      let q = placed g j b.task b.at in
      one_task g k j n a.task b.task p q (element_among k n a.task p a.has) (element_among j n b.task q b.has)
