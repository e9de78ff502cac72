-- What was found, and what was not.
use Rattle.std.proofs.Common.{◌≡◌, ◌⊎◌, ◌<◌, ◌+◌, ◌++◌, ◌∷◌, [], length, zero, suc, inl, inr, ℕ, List, Some, refl, sym, ap, ◌∙◌, subst}
use Rattle.std.specs.Prelude.{slice_get, Result, Ok, Err, OnOk}
use Rattle.lane_core.specs.declared.ends.Inlet as inlets
use Rattle.lane_core.specs.declared.ends.Outlet as outlets
use Rattle.flow_model.specs.declared.element.TaskElement as elements
use Rattle.flow_model.specs.declared.source.TaskSource as sources
use Rattle.task_parts.specs.declared.head.Head.{Head}
use Rattle.task_parts.specs.declared.head.Head.TheVariants.{Source, Inlets}
use Rattle.task_parts.specs.declared.part.Part.{Part}
use Rattle.net_task.specs.declared.task.Task.{Task}
use Rattle.net_task.specs.Frame.{PartFrame, Wire, of_part, of_head, frame_in, head_frame, head_wire, part_frame, wire_of}
use Rattle.gst_value.proofs.Basics.{none_some, some_same}
use Rattle.gst_value.proofs.Places.{map_get, map_got}
use Rattle.inlet_row.specs.declared.row.InletRow.{InletRow}
use Rattle.inlet_row.specs.Row.{feeds_of}
use Rattle.net_groups.proofs.Lists.{append_back}
use Rattle.net_groups.specs.Places.{AreBare, FedAt, FeedsIt, HasNoPad, HasPad, IsOfHead, PartHas}

module _ {S E I O L : Type 0} {s : sources.Ghosts S} {e : elements.Ghosts E} {i : inlets.Ghosts I L O} {o : outlets.Ghosts O L} (tasks : List (Task S E I O L s e i o)) (k n : ℕ) (task : Task S E I O L s e i o) (at : slice_get tasks k ≡ Some task) where
  pub fed_here : FeedsIt task.head n → FedAt tasks k n
  fed_here feeds = go task.head refl feeds
    where
      go : (head : Head S I O s) → task.head ≡ head → FeedsIt head n → FedAt tasks k n
      go (Source head) is feeds = absurd feeds
      go (Inlets head) is feeds = record { head = head; fed = record { task = task; at = at; head_is = is }; number = feeds }

  pub fed_not : FedAt tasks k n → FeedsIt task.head n
  fed_not f = subst (λ (h : Head S I O s). FeedsIt h n) (sym (ap (λ (t : Task S E I O L s e i o). t.head) (some_same (sym at ∙ f.fed.at)) ∙ f.fed.head_is)) f.number

module _ {S E I O L : Type 0} {s : sources.Ghosts S} {e : elements.Ghosts E} (o : outlets.Ghosts O L) (head : Head S I O s) (parts : List (Part E O e)) (number : ℕ) where
  pub pad_of_head : IsOfHead head number → HasPad (frame_in o head parts) number
  pad_of_head is = go head is
    where
      go : (head : Head S I O s) → IsOfHead head number → HasPad (frame_in o head parts) number
      go (Source one) is = record { wire = wire_of o one.pad; is = of_head refl; number_is = is }
      go (Inlets one) is = absurd is

  pub pad_of_part : (place : ℕ) → PartHas parts number place → HasPad (frame_in o head parts) number
  pad_of_part place p = record {
    wire = wire_of o p.port_is.pad;
    is = of_part place p.port (record { part = part_frame o p.part; at = map_get (part_frame o) parts place p.part p.at; pad_at = map_get (wire_of o) p.part.pads.items p.port p.port_is.pad p.port_is.at });
    number_is = p.port_is.number_is;
  }

  pub no_pad : (IsOfHead head number → ⊥) → ((place : ℕ) → PartHas parts number place → ⊥) → HasNoPad (frame_in o head parts) number
  no_pad none others wire (of_part j k w) same =
      let a = map_got (part_frame o) parts j w.part w.at in
      let b = map_got (wire_of o) a.0.pads.items k wire (ap (λ (one : PartFrame). slice_get one.wires k) (sym a.2) ∙ w.pad_at) in
      others j (record { part = a.0; at = a.1; port = k; port_is = record { pad = b.0; at = b.1; number_is = ap (λ (x : Wire). x.number) (sym b.2) ∙ same } })
  no_pad none others wire (of_head at) same = go head none at
    where
      go : (head : Head S I O s) → (IsOfHead head number → ⊥) → head_wire (head_frame o head) ≡ Some wire → ⊥
      go (Source one) none at = none (ap (λ (x : Wire). x.number) (some_same at) ∙ same)
      go (Inlets one) none at = none_some at

-- rows of nothing
pub none_bare : {I : Type 0} (rows : List (InletRow I)) → rows ≡ [] → AreBare rows
none_bare {I = I} rows is port row at = absurd (none_some (ap (λ (rs : List (InletRow I)). slice_get rs port) (sym is) ∙ at))

pub bare_next : {I : Type 0} (rows rows' : List (InletRow I)) (more : InletRow I) → rows' ≡ rows ++ more ∷ [] → feeds_of more ≡ [] → AreBare rows → AreBare rows'
bare_next {I = I} rows rows' more is bare all port row at = go (append_back rows (more ∷ []) port row (ap (λ (rs : List (InletRow I)). slice_get rs port) (sym is) ∙ at))
  where
    last : (j : ℕ) → slice_get (more ∷ []) j ≡ Some row → feeds_of row ≡ []
    last zero at = subst (λ (r : InletRow I). feeds_of r ≡ []) (some_same at) bare
    last (suc j) at = absurd cc

    go : ((port < length rows) × (slice_get rows port ≡ Some row)) ⊎ ((j : ℕ) × (port ≡ length rows + j) × (slice_get (more ∷ []) j ≡ Some row)) → feeds_of row ≡ []
    go (inl z) = all port row z.1
    go (inr z) = last z.0 z.2

pub on_ok_at : {T X : Type 0} (r : Result T X) (P : Type 0) (t : T) → r ≡ Ok t → OnOk r P → P
on_ok_at (Ok u) P t is p = p
on_ok_at (Err x) P t is p = absurd cc
