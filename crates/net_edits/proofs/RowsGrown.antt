-- Rows behind which more stands: items, and lanes that no task uses.
use Rattle.std.proofs.Common.{◌≡◌, ◌≢◌, ◌⊎◌, ◌++◌, ℕ, List, [], ◌∷◌, drop, length, map, Option, Some, refl, sym, ap, ◌∙◌, subst, append_assoc, append-nil, inl, inr}
use Rattle.std.specs.Prelude.{slice_get}
use Rattle.flow_model.specs.Item.{Item}
use Rattle.gst_value.proofs.Places.{set_at}
use Rattle.lane_core.specs.Lane.{IsIn, Lane}
use Rattle.lane_core.specs.declared.ends.Inlet as inlets
use Rattle.lane_core.specs.declared.ends.Outlet as outlets
use Rattle.inlet_row.specs.declared.feeding.Feeding.{Feeding}
use Rattle.inlet_row.specs.declared.feeding.Feeding.TheVariants.{Given, Lane as OfLane}
use Rattle.inlet_row.specs.declared.row.InletRow.{InletRow}
use Rattle.inlet_row.specs.Row.{Apart, AreApart, ForLanes, GaveFirst, GaveInAll, RowIn, feeds_of, held, items_of}
use Rattle.inlet_row.proofs.Losing.{for_both, for_map}
use Rattle.flow_model.specs.declared.element.TaskElement as elements
use Rattle.flow_model.specs.declared.source.TaskSource as sources
use Rattle.task_pads.proofs.Lists.{set_length, set_there}
use Rattle.task_parts.proofs.Lists.{each_set}
use Rattle.task_parts.specs.declared.head.Head.{Head}
use Rattle.task_parts.specs.declared.head.Head.TheVariants.{Inlets}
use Rattle.task_parts.specs.declared.head.InletHead.{InletHead}
use Rattle.task_parts.specs.declared.part.Part.{Part}
use Rattle.net_task.specs.declared.task.Task.{Task}
use Rattle.net_task.specs.Frame.{HeadFrame, IsWire, PartFrame, TaskFrame, Wire, WireAt, by_inlets, frame_in, frame_of, head_frame, head_wire, part_frame}
use Rattle.net_task.specs.Ready.{AreReady, IsReady, LeadsInto, NoneFrom}
use Rattle.net_edits.specs.Over.{InletsGrew, TaskGrew}

module _ {I : Type 0} where
  pub for_join : (P : I → Type 0) (xs ys : List (Feeding I)) → ForLanes P xs → ForLanes P ys → ForLanes P (xs ++ ys)
  for_join P [] ys h k = k
  for_join P (Given x ∷ xs) ys h k = for_join P xs ys h k
  for_join P (OfLane n inlet ∷ xs) ys h k = (h.0, for_join P xs ys h.1 k)

  pub for_all : (P : I → Type 0) (xs : List (Feeding I)) → ((inlet : I) → P inlet) → ForLanes P xs
  for_all P [] f = tt
  for_all P (Given x ∷ xs) f = for_all P xs f
  for_all P (OfLane n inlet ∷ xs) f = (f inlet, for_all P xs f)

  -- what is so of each two lanes of two rows
  pub for_swap : (R : I → I → Type 0) (xs ys : List (Feeding I)) → ForLanes (λ a. ForLanes (λ b. R a b) ys) xs → ForLanes (λ b. ForLanes (λ a. R a b) xs) ys
  for_swap R [] ys h = for_all (λ b. ForLanes (λ a. R a b) []) ys (λ b. tt)
  for_swap R (Given x ∷ xs) ys h = for_swap R xs ys h
  for_swap R (OfLane n inlet ∷ xs) ys h = for_both (λ b. R inlet b) (λ b. ForLanes (λ a. R a b) xs) (λ b. ForLanes (λ a. R a b) (OfLane n inlet ∷ xs)) ys (λ b one rest. (one, rest)) h.0 (for_swap R xs ys h.1)

  -- what stands behind gave nothing
  pub gave_more : (Gave : I → List Item → Type 0) (feeds more : List (Feeding I)) (got : List Item) → GaveInAll Gave feeds got → ForLanes (λ inlet. Gave inlet []) more → GaveInAll Gave (feeds ++ more) got
  gave_more Gave [] [] got h k = h
  gave_more Gave [] (Given x ∷ more) got h k = record { past = got; lane = []; whole = sym (append-nil got); front = refl; behind = k }
  gave_more Gave [] (OfLane n inlet ∷ more) got h k = record { past = got; lane = []; whole = sym (append-nil got); front = k.0; behind = k.1 }
  gave_more Gave (Given x ∷ feeds) more got h k = record { past = h.past; lane = h.lane; whole = h.whole; front = h.front; behind = for_join (λ inlet. Gave inlet []) feeds more h.behind k }
  gave_more Gave (OfLane n inlet ∷ feeds) more got h k = record { past = h.past; lane = h.lane; whole = h.whole; front = h.front; behind = for_join (λ inlet. Gave inlet []) feeds more h.behind k }

  for_behind : (P : I → Type 0) (feeds : List (Feeding I)) → ForLanes P feeds → ForLanes P (drop 1 feeds)
  for_behind P [] h = tt
  for_behind P (Given x ∷ feeds) h = h
  for_behind P (OfLane n inlet ∷ feeds) h = h.1

  -- a lane that gave a list gave it in another way too
  pub gave_map : (Gave Gave' : I → List Item → Type 0) (feeds : List (Feeding I)) (got : List Item) → ForLanes (λ inlet. (list : List Item) → Gave inlet list → Gave' inlet list) feeds → GaveInAll Gave feeds got → GaveInAll Gave' feeds got
  gave_map Gave Gave' feeds got f h = record {
    past = h.past;
    lane = h.lane;
    whole = h.whole;
    front = first feeds f h.front;
    behind = for_both (λ inlet. (list : List Item) → Gave inlet list → Gave' inlet list) (λ inlet. Gave inlet []) (λ inlet. Gave' inlet []) (drop 1 feeds) (λ inlet g was. g [] was)
        (for_behind (λ inlet. (list : List Item) → Gave inlet list → Gave' inlet list) feeds f) h.behind;
  }
    where
      first : (feeds : List (Feeding I)) → ForLanes (λ inlet. (list : List Item) → Gave inlet list → Gave' inlet list) feeds → GaveFirst Gave feeds h.lane → GaveFirst Gave' feeds h.lane
      first [] f e = e
      first (Given x ∷ feeds) f e = e
      first (OfLane n inlet ∷ feeds) f e = f.0 h.lane e

module _ {I L O : Type 0} (i : inlets.Ghosts I L O) where
  pub held_more : (t : List Lane) (xs ys : List (Feeding I)) → held i t (xs ++ ys) ≡ held i t xs ++ held i t ys
  held_more t [] ys = refl
  held_more t (Given x ∷ xs) ys = ap (λ l. x ∷ l) (held_more t xs ys)
  held_more t (OfLane n inlet ∷ xs) ys =
      ap (λ l. items_of (slice_get t (i.place inlet)) ++ l) (held_more t xs ys) ∙ sym (append_assoc (items_of (slice_get t (i.place inlet))) (held i t xs) (held i t ys))

  -- two lanes have different places
  abbrev pub Differ : I → I → Type 0
  Differ one other = i.place other ≢ i.place one

  pub apart_more : (xs ys : List (Feeding I)) → Apart i xs → Apart i ys → ForLanes (λ inlet. ForLanes (Differ inlet) ys) xs → Apart i (xs ++ ys)
  apart_more [] ys h k c = k
  apart_more (Given x ∷ xs) ys h k c = apart_more xs ys h k c
  apart_more (OfLane n inlet ∷ xs) ys h k c = (for_join (Differ inlet) xs ys h.0 c.0, apart_more xs ys h.1 k c.1)

  -- lanes that no row of these inlets has
  abbrev pub Unused : InletHead I → List (Feeding I) → Type 0
  Unused head more = ForLanes (λ inlet. NoneFrom i head (i.place inlet)) more

  -- A row of a head that is there, beside one behind which more stands.
  module _ (old new : InletHead I) (port : ℕ) (more : List (Feeding I)) (g : InletsGrew old new port more) where
    pub row_was : (k : ℕ) (row : InletRow I) → slice_get new.rows.items k ≡ Some row → ((k ≡ port) × (row ≡ g.grown)) ⊎ ((k ≡ port → ⊥) × (slice_get old.rows.items k ≡ Some row))
    row_was = each_set old.rows.items new.rows.items port g.grown (λ k row. slice_get old.rows.items k ≡ Some row) (λ k row. ((k ≡ port) × (row ≡ g.grown)) ⊎ ((k ≡ port → ⊥) × (slice_get old.rows.items k ≡ Some row))) g.set
        (λ k row at. at) (λ k row ne at was. inr (ne, at)) (inl (refl, refl))

    pub row_here : slice_get new.rows.items port ≡ Some g.grown
    row_here = ap (λ (rows : List (InletRow I)). slice_get rows port) g.set ∙ set_at old.rows.items port g.row g.grown g.at

    pub row_there : (k : ℕ) → (k ≡ port → ⊥) → slice_get new.rows.items k ≡ slice_get old.rows.items k
    row_there k ne = ap (λ (rows : List (InletRow I)). slice_get rows k) g.set ∙ set_there old.rows.items port k g.grown ne

    pub rows_many : length new.rows.items ≡ length old.rows.items
    rows_many = ap (λ (rows : List (InletRow I)). length rows) g.set ∙ set_length old.rows.items port g.grown

    -- what is so of each lane of the row, and of those behind it
    pub for_grown : (P : I → Type 0) → ForLanes P (feeds_of g.row) → ForLanes P more → ForLanes P (feeds_of g.grown)
    for_grown P h k = subst (λ (feeds : List (Feeding I)). ForLanes P feeds) (sym g.feeds) (for_join P (feeds_of g.row) more h k)

    -- the lanes behind are apart from those of a row that has none of them
    pub new_apart : (row : InletRow I) → ForLanes (λ inlet. ForLanes (λ other. i.place inlet ≢ i.place other) (feeds_of row)) more → ForLanes (λ inlet. ForLanes (Differ inlet) (feeds_of row)) more
    new_apart row h = for_map (λ inlet. ForLanes (λ other. i.place inlet ≢ i.place other) (feeds_of row)) (λ inlet. ForLanes (Differ inlet) (feeds_of row)) more
        (λ inlet far. for_map (λ other. i.place inlet ≢ i.place other) (Differ inlet) (feeds_of row) (λ other ne same. ne (sym same)) far) h

    pub grown_apart : (row : InletRow I) → ForLanes (λ inlet. ForLanes (Differ inlet) (feeds_of row)) (feeds_of g.row) → ForLanes (λ inlet. ForLanes (λ other. i.place inlet ≢ i.place other) (feeds_of row)) more
        → ForLanes (λ inlet. ForLanes (Differ inlet) (feeds_of row)) (feeds_of g.grown)
    grown_apart row old_apart far = for_grown (λ inlet. ForLanes (Differ inlet) (feeds_of row)) old_apart (new_apart row far)

    pub apart_grown : (row : InletRow I) → ForLanes (λ inlet. ForLanes (Differ inlet) (feeds_of g.row)) (feeds_of row) → ForLanes (λ inlet. ForLanes (λ other. i.place inlet ≢ i.place other) (feeds_of row)) more
        → ForLanes (λ inlet. ForLanes (Differ inlet) (feeds_of g.grown)) (feeds_of row)
    apart_grown row old_apart far =
        for_both (λ inlet. ForLanes (Differ inlet) (feeds_of g.row)) (λ inlet. ForLanes (Differ inlet) more) (λ inlet. ForLanes (Differ inlet) (feeds_of g.grown)) (feeds_of row)
        (λ inlet was fresh. for_grown (Differ inlet) was fresh) old_apart
        (for_swap (λ inlet other. i.place inlet ≢ i.place other) more (feeds_of row) far)

abbrev pub fed_head : (S : Type 0) {I O : Type 0} (s : sources.Ghosts S) → InletHead I → Head S I O s
fed_head S s head = Inlets head

module _ {E I L O : Type 0} {e : elements.Ghosts E} (S : Type 0) (s : sources.Ghosts S) (i : inlets.Ghosts I L O) (o : outlets.Ghosts O L) where
  module _ (old new : InletHead I) (port : ℕ) (more : List (Feeding I)) (g : InletsGrew old new port more) (parts : List (Part E O e)) where
    abbrev before : TaskFrame
    before = frame_in o (fed_head S s old) parts

    abbrev now : TaskFrame
    now = frame_in o (fed_head S s new) parts

    wire_before : (j k : ℕ) (wire : Wire) → WireAt now j k wire → WireAt before j k wire
    wire_before j k wire w = record { part = w.part; at = w.at; pad_at = w.pad_at }

    -- Such a task is ready.
    ready_grown : (tells : Option (List Lane)) → Unused i old more → ForLanes (λ inlet. (wire : Wire) → IsWire before wire → LeadsInto wire (i.place inlet) → ⊥) more
        → ForLanes (λ inlet. IsIn tells (i.place inlet)) more → Apart i more
        → AreReady i o tells (fed_head S s old) parts → AreReady i o tells (fed_head S s new) parts
    ready_grown tells unused no_pad within apart r = record {
      parts_ready = r.parts_ready;
      head_ready = λ k row at. into k row (row_was i old new port more g k row at);
      wires_apart = record {
        parts = λ j k j' k' n one other w w' l l'. r.wires_apart.parts j k j' k' n one other (wire_before j k one w) (wire_before j' k' other w') l l';
        source = λ j k n one other w is_head l l'. absurd (let none : head_wire (by_inlets new.number (length new.rows.items)) ≡ Some other = is_head in cc);
      };
      head_apart = record {
        each = λ k row at. own k row (row_was i old new port more g k row at);
        rows = λ j k one other a b ne. two j k one other (row_was i old new port more g j one a) (row_was i old new port more g k other b) ne;
        pads = λ j k n wire w l p row at. none j k n wire (wire_before j k wire w) l p row (row_was i old new port more g p row at);
      };
    }
      where
        -- no lane behind the row is one of another row
        far : (k : ℕ) (row : InletRow I) → slice_get old.rows.items k ≡ Some row → ForLanes (λ inlet. ForLanes (λ other. i.place inlet ≢ i.place other) (feeds_of row)) more
        far k row at = for_map (λ inlet. NoneFrom i old (i.place inlet)) (λ inlet. ForLanes (λ other. i.place inlet ≢ i.place other) (feeds_of row)) more (λ inlet free. free k row at) unused

        into : (k : ℕ) (row : InletRow I) → ((k ≡ port) × (row ≡ g.grown)) ⊎ ((k ≡ port → ⊥) × (slice_get old.rows.items k ≡ Some row)) → RowIn i tells row
        into k row (inl t) = subst (λ (x : InletRow I). RowIn i tells x) (sym t.1) (for_grown i old new port more g (λ inlet. IsIn tells (i.place inlet)) (r.head_ready port g.row g.at) within)
        into k row (inr t) = r.head_ready k row t.1

        own : (k : ℕ) (row : InletRow I) → ((k ≡ port) × (row ≡ g.grown)) ⊎ ((k ≡ port → ⊥) × (slice_get old.rows.items k ≡ Some row)) → AreApart i row
        own k row (inl t) = subst (λ (x : InletRow I). AreApart i x) (sym t.1) (subst (λ (feeds : List (Feeding I)). Apart i feeds) (sym g.feeds)
            (apart_more i (feeds_of g.row) more (r.head_apart.each port g.row g.at) apart (for_swap (λ inlet other. i.place inlet ≢ i.place other) more (feeds_of g.row) (far port g.row g.at))))
        own k row (inr t) = r.head_apart.each k row t.1

        two : (j k : ℕ) (one other : InletRow I) → ((j ≡ port) × (one ≡ g.grown)) ⊎ ((j ≡ port → ⊥) × (slice_get old.rows.items j ≡ Some one)) → ((k ≡ port) × (other ≡ g.grown)) ⊎ ((k ≡ port → ⊥) × (slice_get old.rows.items k ≡ Some other)) → j ≢ k
            → ForLanes (λ inlet. ForLanes (Differ i inlet) (feeds_of other)) (feeds_of one)
        two j k one other (inl a) (inl b) ne = absurd (ne (a.0 ∙ sym b.0))
        two j k one other (inl a) (inr b) ne = subst (λ (x : InletRow I). ForLanes (λ inlet. ForLanes (Differ i inlet) (feeds_of other)) (feeds_of x)) (sym a.1)
            (grown_apart i old new port more g other (r.head_apart.rows port k g.row other g.at b.1 (λ same. b.0 (sym same))) (far k other b.1))
        two j k one other (inr a) (inl b) ne = subst (λ (x : InletRow I). ForLanes (λ inlet. ForLanes (Differ i inlet) (feeds_of x)) (feeds_of one)) (sym b.1)
            (apart_grown i old new port more g one (r.head_apart.rows j port one g.row a.1 g.at a.0) (far j one a.1))
        two j k one other (inr a) (inr b) ne = r.head_apart.rows j k one other a.1 b.1 ne

        none : (j k n : ℕ) (wire : Wire) → WireAt before j k wire → LeadsInto wire n → (p : ℕ) (row : InletRow I) → ((p ≡ port) × (row ≡ g.grown)) ⊎ ((p ≡ port → ⊥) × (slice_get old.rows.items p ≡ Some row)) → ForLanes (λ inlet. n ≢ i.place inlet) (feeds_of row)
        none j k n wire w l p row (inl t) = subst (λ (x : InletRow I). ForLanes (λ inlet. n ≢ i.place inlet) (feeds_of x)) (sym t.1)
            (for_grown i old new port more g (λ inlet. n ≢ i.place inlet) (r.head_apart.pads j k n wire w l port g.row g.at)
            (for_map (λ inlet. (wire : Wire) → IsWire before wire → LeadsInto wire (i.place inlet) → ⊥) (λ inlet. n ≢ i.place inlet) more (λ inlet free same. free wire (IsWire.of_part j k w) (subst (LeadsInto wire) same l)) no_pad))
        none j k n wire w l p row (inr t) = r.head_apart.pads j k n wire w l p row t.1

module _ {S E I O L : Type 0} {s : sources.Ghosts S} {e : elements.Ghosts E} {i : inlets.Ghosts I L O} {o : outlets.Ghosts O L} (was is : Task S E I O L s e i o) (port : ℕ) (more : List (Feeding I)) (g : TaskGrew was is port more) where
  -- it has the same elements and pads
  pub frame_grown : frame_of is ≡ frame_of was
  frame_grown =
      let heads : head_frame o is.head ≡ head_frame o was.head =
      ap (λ (h : Head S I O s). head_frame o h) g.fed ∙ ap (λ (n : ℕ). by_inlets n (length g.new.rows.items)) g.grew.number ∙ ap (λ (n : ℕ). by_inlets g.old.number n) (rows_many i g.old g.new port more g.grew) ∙ sym (ap (λ (h : Head S I O s). head_frame o h) g.was_fed) in
      ap (λ (h : HeadFrame). with_parts h (map (part_frame o) is.parts.items)) heads ∙ ap (λ (ps : List (Part E O e)). with_parts (head_frame o was.head) (map (part_frame o) ps)) g.parts
    where
      with_parts : HeadFrame → List PartFrame → TaskFrame
      with_parts head parts = record { head = head; parts = parts }

  pub task_ready : (tells : Option (List Lane)) → Unused i g.old more → ForLanes (λ inlet. (wire : Wire) → IsWire (frame_of was) wire → LeadsInto wire (i.place inlet) → ⊥) more
      → ForLanes (λ inlet. IsIn tells (i.place inlet)) more → Apart i more → IsReady tells was → IsReady tells is
  task_ready tells unused no_pad within apart r =
      subst (λ (h : Head S I O s). AreReady i o tells h is.parts.items) (sym g.fed) (subst (λ (ps : List (Part E O e)). AreReady i o tells (fed_head S s g.new) ps) (sym g.parts)
      (ready_grown S s i o g.old g.new port more g.grew was.parts.items tells unused
      (subst (λ (h : Head S I O s). ForLanes (λ inlet. (wire : Wire) → IsWire (frame_in o h was.parts.items) wire → LeadsInto wire (i.place inlet) → ⊥) more) g.was_fed no_pad) within apart
      (subst (λ (h : Head S I O s). AreReady i o tells h was.parts.items) g.was_fed r)))
