-- The link of a pad of one of the tasks was undone: each of them may have a pad that leads nowhere now.
use Rattle.std.proofs.Common.{◌≡◌, ◌⊎◌, ℕ, List, Option, None, Some, length, refl, sym, ap, ◌∙◌, subst, inl, inr}
use Rattle.std.specs.Prelude.{IfSome, slice_get, slice_set}
use Rattle.std.specs.Global.{Vec}
use Rattle.std.proofs.lemmas.Bool.{cases_eq}
use Rattle.std.proofs.lemmas.List.{length-map}
use Rattle.lane_core.specs.declared.ends.Inlet as inlets
use Rattle.lane_core.specs.declared.ends.Outlet as outlets
use Rattle.flow_model.specs.declared.element.TaskElement as elements
use Rattle.flow_model.specs.declared.source.TaskSource as sources
use Rattle.inlet_row.specs.declared.row.InletRow.{InletRow}
use Rattle.task_pads.specs.Behind.{nowhere}
use Rattle.task_pads.specs.declared.pad.Behind.{Behind}
use Rattle.task_pads.specs.declared.pad.Behind.TheVariants.{Nothing}
use Rattle.task_pads.proofs.Lists.{set_there}
use Rattle.task_parts.specs.declared.head.Head.TheVariants.{Inlets}
use Rattle.task_parts.specs.declared.head.InletHead.{InletHead}
use Rattle.task_parts.proofs.Lists.{each_set}
use Rattle.gst_value.proofs.Basics.{some_same}
use Rattle.gst_value.proofs.Places.{map_get, map_got, set_at}
use Rattle.net_task.specs.declared.task.Task.{Task}
use Rattle.net_task.specs.Frame.{IsWire, PartFrame, Wire, frame_of, part_frame}
use Rattle.net_turns.specs.Net.{HasRow, Owns}
use Rattle.task_edits.specs.Changes.{LedBy}
use Rattle.net_edits.specs.Inside.{IsTurned}
use Rattle.net_edits.specs.Nets.{IsUnlinked, IsUnlinkedAt, NoneHas}
use Rattle.net_groups.specs.Places.{HasWire, IsPartOf}
use Rattle.edit_acts.proofs.Cut.{IsCut, changed_cut, fed_back, same_cut}
use Rattle.edit_acts.proofs.Made.{AreMadeOf, IsRowOf}

module _ {S E I O L : Type 0} {s : sources.Ghosts S} {e : elements.Ghosts E} {i : inlets.Ghosts I L O} {o : outlets.Ghosts O L} where
  -- a task with a pad that may lead nowhere now, fed as before
  pub record IsCutTask (pad : ℕ) (was is : Task S E I O L s e i o) : Type 0 where
    pub frame : IsCut pad (frame_of was) (frame_of is)
    pub fed : (head : InletHead I) → is.head ≡ Inlets head → was.head ≡ Inlets head
    pub was_fed : (head : InletHead I) → was.head ≡ Inlets head → is.head ≡ Inlets head

  -- the task of a place is such a one of another list
  pub record CutAt (pad : ℕ) (tasks : List (Task S E I O L s e i o)) (k : ℕ) (is : Task S E I O L s e i o) : Type 0 where
    pub was : Task S E I O L s e i o
    pub at : slice_get tasks k ≡ Some was
    pub cut : IsCutTask pad was is

  pub record CutOn (pad : ℕ) (tasks : List (Task S E I O L s e i o)) (k : ℕ) (was : Task S E I O L s e i o) : Type 0 where
    pub is : Task S E I O L s e i o
    pub at : slice_get tasks k ≡ Some is
    pub cut : IsCutTask pad was is

  pub record AreCut (pad : ℕ) (tasks tasks' : List (Task S E I O L s e i o)) : Type 0 where
    pub back : (k : ℕ) (is : Task S E I O L s e i o) → slice_get tasks' k ≡ Some is → CutAt pad tasks k is
    pub on : (k : ℕ) (was : Task S E I O L s e i o) → slice_get tasks k ≡ Some was → CutOn pad tasks' k was

  -- it has as many elements
  pub cut_size : (pad : ℕ) (was is : Task S E I O L s e i o) → IsCutTask pad was is → length was.parts.items ≡ length is.parts.items
  cut_size pad was is cut = sym (length-map was.parts.items (part_frame o)) ∙ sym cut.frame.size ∙ length-map is.parts.items (part_frame o)

  same_task : (pad : ℕ) (task : Task S E I O L s e i o) → IsCutTask pad task task
  same_task pad task = record { frame = same_cut pad (frame_of task); fed = λ head x. x; was_fed = λ head x. x }

  pub none_cut : (pad : ℕ) (tasks tasks' : List (Task S E I O L s e i o)) → tasks' ≡ tasks → AreCut pad tasks tasks'
  none_cut pad tasks tasks' same = subst (AreCut pad tasks) (sym same) (record {
    back = λ k is at. record { was = is; at = at; cut = same_task pad is };
    on = λ k was at. record { is = was; at = at; cut = same_task pad was };
  })

  one_cut : (pad k : ℕ) (was is : Task S E I O L s e i o) (tasks : List (Task S E I O L s e i o)) → slice_get tasks k ≡ Some was → IsCutTask pad was is → AreCut pad tasks (slice_set tasks k is)
  one_cut pad k was is tasks at cut = record {
    back = each_set tasks (slice_set tasks k is) k is (λ x t. CutAt pad tasks x t) (λ x t. CutAt pad tasks x t) refl (λ x t got. record { was = t; at = got; cut = same_task pad t }) (λ x t other got y. y)
        (record { was = was; at = at; cut = cut });
    on = λ x t got. go x t got (cases_eq x k);
  }
    where
      go : (x : ℕ) (t : Task S E I O L s e i o) → slice_get tasks x ≡ Some t → (x ≡ k) ⊎ (x ≡ k → ⊥) → CutOn pad (slice_set tasks k is) x t
      go x t got (inl same) =
          let it : was ≡ t = some_same (sym at ∙ ap (λ (n : ℕ). slice_get tasks n) (sym same) ∙ got) in
          record { is = is; at = ap (λ (n : ℕ). slice_get (slice_set tasks k is) n) same ∙ set_at tasks k was is at; cut = subst (λ (z : Task S E I O L s e i o). IsCutTask pad z is) it cut }
      go x t got (inr other) = record { is = t; at = set_there tasks k x is other ∙ got; cut = same_task pad t }

  pub unlinked_cut : (pad place : ℕ) (tasks tasks' : List (Task S E I O L s e i o)) (back : Behind O) → IsUnlinkedAt tasks tasks' place pad back → AreCut pad tasks tasks'
  unlinked_cut pad place tasks tasks' back u = subst (AreCut pad tasks) (sym u.set) (one_cut pad place u.was u.is tasks u.at (record {
    frame = changed_cut o pad u.was.head u.is.head u.was.parts.items u.is.parts.items back (back ≡ Nothing) u.changed;
    fed = λ head. (fed_back pad u.was.head u.is.head u.was.parts.items u.is.parts.items (LedBy Nothing back) (back ≡ Nothing) u.changed head).0;
    was_fed = λ head. (fed_back pad u.was.head u.is.head u.was.parts.items u.is.parts.items (LedBy Nothing back) (back ≡ Nothing) u.changed head).1;
  }))

  -- what a call told that undid it
  pub told_cut : (pad : ℕ) (tasks mid : Vec (Task S E I O L s e i o)) (back : Option (Behind O)) → IfSome back (IsUnlinked tasks.items mid.items pad) → (back ≡ None → NoneHas tasks.items pad × (mid ≡ tasks)) → AreCut pad tasks.items mid.items
  told_cut pad tasks mid (Some back) there none = unlinked_cut pad there.0 tasks.items mid.items back there.2
  told_cut pad tasks mid None there none = none_cut pad tasks.items mid.items (ap (λ (v : Vec (Task S E I O L s e i o)). v.items) (none refl).1)

  -- the same where an element took items then
  pub turned_cut : (pad place : ℕ) (tasks tasks' : List (Task S E I O L s e i o)) (Tied Fed : Task S E I O L s e i o → Task S E I O L s e i o → Type 0) → IsTurned tasks tasks' place pad Nothing Tied Fed → AreCut pad tasks tasks'
  turned_cut pad place tasks tasks' Tied Fed t = subst (AreCut pad tasks) (sym t.set) (one_cut pad place t.was t.is tasks t.at (record {
    frame = subst (IsCut pad (frame_of t.was)) (sym t.frame) (changed_cut o pad t.was.head t.turned.head t.was.parts.items t.turned.parts.items t.back (t.back ≡ Nothing) t.changed);
    fed = λ head x. (fed_back pad t.was.head t.turned.head t.was.parts.items t.turned.parts.items (LedBy Nothing t.back) (t.back ≡ Nothing) t.changed head).0 (sym t.head ∙ x);
    was_fed = λ head x. t.head ∙ (fed_back pad t.was.head t.turned.head t.was.parts.items t.turned.parts.items (LedBy Nothing t.back) (t.back ≡ Nothing) t.changed head).1 x;
  }))

  module _ (pad : ℕ) (tasks tasks' : List (Task S E I O L s e i o)) (cut : AreCut pad tasks tasks') where
    pub owns_back : (k n : ℕ) → Owns tasks' k n → Owns tasks k n
    owns_back k n own = let y = cut.back k own.task own.at in record { task = y.was; at = y.at; has = y.cut.frame.has n own.has }

    pub owns_on : (k n : ℕ) → Owns tasks k n → Owns tasks' k n
    owns_on k n own = let y = cut.on k own.task own.at in record { task = y.is; at = y.at; has = y.cut.frame.had n own.has }

    pub wire_back : (k : ℕ) (wire : Wire) → HasWire tasks' k wire → HasWire tasks k wire ⊎ (wire.leads ≡ nowhere)
    wire_back k wire has = let y = cut.back k has.task has.at in go y (y.cut.frame.wires wire has.is)
      where
        go : (y : CutAt pad tasks k has.task) → IsWire (frame_of y.was) wire ⊎ (wire.leads ≡ nowhere) → HasWire tasks k wire ⊎ (wire.leads ≡ nowhere)
        go y (inl is) = inl (record { task = y.was; at = y.at; is = is })
        go y (inr none) = inr none

    row_back : (k n port : ℕ) (row : InletRow I) → HasRow tasks' k n port row → HasRow tasks k n port row
    row_back k n port row has =
        let y = cut.back k has.fed.task has.fed.at in
        record { head = has.head; fed = record { task = y.was; at = y.at; head_is = y.cut.fed has.head has.fed.head_is }; number = has.number; at = has.at }

    pub cut_made : AreMadeOf tasks tasks'
    cut_made = record {
      owns = λ k n own. (k, owns_back k n own);
      kept = λ k n own. (k, owns_on k n own);
      fed = λ k n fed. let y = cut.on k fed.fed.task fed.fed.at in (k, record { head = fed.head; fed = record { task = y.is; at = y.at; head_is = y.cut.was_fed fed.head fed.fed.head_is }; number = fed.number });
      wires = λ k wire has. wires k wire (wire_back k wire has);
      sources = λ k n has. let y = cut.back k has.task has.at in (k, record { task = y.was; at = y.at; is = y.cut.frame.sources n has.is });
      rows = λ k n port row has. IsRowOf.of_old k (row_back k n port row has);
    }
      where
        wires : (k : ℕ) (wire : Wire) → HasWire tasks k wire ⊎ (wire.leads ≡ nowhere) → ((j : ℕ) × HasWire tasks j wire) ⊎ (wire.leads ≡ nowhere)
        wires k wire (inl has) = inl (k, has)
        wires k wire (inr none) = inr none

    -- an element stands at the place at which it stood, and there are as many
    pub part_back : (k n : ℕ) (p : IsPartOf tasks' k n) → (q : IsPartOf tasks k n) × (length q.task.parts.items ≡ length p.task.parts.items)
    part_back k n p =
        let y = cut.back k p.task p.at in
        let z = y.cut.frame.places p.place (part_frame o p.is.part) (map_get (part_frame o) p.task.parts.items p.place p.is.part p.is.at) in
        let x = map_got (part_frame o) y.was.parts.items p.place z.one z.at in (
          record { task = y.was; at = y.at; place = p.place; is = record { part = x.0; at = x.1; number_is = ap (λ (f : PartFrame). f.number) (sym x.2) ∙ z.same ∙ p.is.number_is } },
          cut_size pad y.was p.task y.cut,
        )
