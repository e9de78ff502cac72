-- An item that crossed a pad of an element goes to an element of the task.
use Rattle.std.proofs.Common.{◌≡◌, ◌++◌, ℕ, List, [], ◌∷◌, map, Some, sym, ap, ◌∙◌, subst}
use Rattle.std.specs.Prelude.{slice_get, slice_set}
use Rattle.flow_model.specs.Item.{Item}
use Rattle.lane_core.specs.declared.ends.Inlet as inlets
use Rattle.lane_core.specs.declared.ends.Outlet as outlets
use Rattle.flow_model.specs.Moment.{Moment}
use Rattle.flow_model.specs.Split.{NoneAt}
use Rattle.flow_model.specs.Step.{Leads, crossed}
use Rattle.flow_model.specs.declared.element.TaskElement as elements
use Rattle.flow_model.specs.declared.source.TaskSource as sources
use Rattle.task_pads.specs.declared.pad.Pad.{Pad}
use Rattle.task_pads.specs.Behind.{inside}
use Rattle.task_pads.specs.Pads.{HasCrossed, seen, number_of, goes_of, rest_of, waiting_of}
use Rattle.task_pads.specs.Crossing.{Crosses}
use Rattle.task_parts.specs.declared.part.Part.{Part}
use Rattle.task_parts.specs.declared.head.Head.{Head}
use Rattle.task_parts.specs.declared.head.Head.TheVariants.{Source, Inlets}
use Rattle.task_parts.specs.Shape.{part_shape}
use Rattle.task_parts.specs.Found.{IsAt}
use Rattle.task_parts.specs.Part.{PadSet, PartGave, waits_at}
use Rattle.task_parts.specs.Moved.{PartSet, HandedOn}
use Rattle.net_task.specs.Ties.{LeadsAs, HeadTied, AreTied, Stands, nothing_lost}
use Rattle.net_task.specs.Moves.{passes, passing}
use Rattle.task_parts.proofs.Lists.{map_back}
use Rattle.net_task.proofs.Linked.{same_goes, crossed_rest}
use Rattle.net_task.proofs.Tied.{IsNotFed, part_number, set_part_shape, parts_set_shape}
use Rattle.net_task.proofs.Fed.{now, fed_tied, fed_answers, out_now}
use Rattle.net_task.proofs.Passing.{MovesOn, sent_inside, pad_twice, part_twice, is_set, is_pad_set, port_here, try_crosses, waited_at}
use Rattle.gst_value.proofs.Basics.{some_same}
use Rattle.gst_value.proofs.Places.{first_same, set_at}

-- values at the same place of lists of the same values
pub shape_at : {A B : Type 0} (f : A → B) (xs ys : List A) → map f ys ≡ map f xs → (k : ℕ) (x y : A) → slice_get xs k ≡ Some x → slice_get ys k ≡ Some y → f y ≡ f x
shape_at f xs ys s k x y at at' = let z = map_back f xs ys s k y at' in z.2 ∙ ap f (some_same (sym z.1 ∙ at))

-- the item that was taken from a pad to which it crossed
pub record TakenFrom {E O : Type 0} {e : elements.Ghosts E} (new gave : Part E O e) (port : ℕ) (is : Pad O) (item : Item) : Type 0 where
  pub behind : Pad O
  pub pad : PadSet new gave port is behind
  pub rest : rest_of behind ≡ rest_of is
  pub waiting : waiting_of is ≡ item ∷ waiting_of behind

module _ {E O : Type 0} {e : elements.Ghosts E} where
  pub taken_from : (old new gave : Part E O e) (port : ℕ) (was is : Pad O) (item : Item) → PadSet old new port was is → PartGave new gave port (Some item) → TakenFrom new gave port is item
  taken_from old new gave port was is item pad g =
      let same : g.was ≡ is = is_pad_set old new port was is g.was pad g.pad.at in
      record {
        behind = g.is;
        pad = subst (λ (w : Pad O). PadSet new gave port w g.is) same g.pad;
        rest = subst (λ (w : Pad O). rest_of g.is ≡ rest_of w) same g.rest;
        waiting = subst (λ (w : Pad O). waiting_of w ≡ item ∷ waiting_of g.is) same g.taken.0;
      }

  -- the number of the element that was found
  pub found_number : (parts behind : List (Part E O e)) (number to : ℕ) (part : Part E O e) → IsAt parts number to → map part_shape behind ≡ map part_shape parts → slice_get behind to ≡ Some part → part.number ≡ number
  found_number parts behind number to part at s get = part_number part at.part (shape_at part_shape parts behind s to at.part part at.at get) ∙ at.number_is

-- the head does not feed a sink pad to which a pad of an element leads
pub not_fed : {S E I O L : Type 0} {s : sources.Ghosts S} {e : elements.Ghosts E} (i : inlets.Ghosts I L O) (o : outlets.Ghosts O L) (lost : ℕ → List Item) (m : Moment) (head : Head S I O s) (parts : List (Part E O e)) (t k n sink : ℕ) (part : Part E O e) (pad : Pad O)
    → slice_get parts t ≡ Some part → slice_get part.pads.items k ≡ Some pad → goes_of pad ≡ inside n sink → HeadTied i o lost m head parts → IsNotFed n sink head
not_fed i o lost m (Source head) parts t k n sink part pad at pad_at g h = tt
not_fed i o lost m (Inlets head) parts t k n sink part pad at pad_at g h = λ same port row row_at is. (h port row row_at).apart t k part pad at pad_at (g ∙ ap (λ z. inside z sink) (sym same) ∙ ap (inside head.number) (sym is))

module _ {S E I O L : Type 0} {s : sources.Ghosts S} {e : elements.Ghosts E} (i : inlets.Ghosts I L O) (o : outlets.Ghosts O L)
    (head : Head S I O s) (parts between : List (Part E O e)) (place port : ℕ) (old new : Part E O e) (was is : Pad O)
    (set : PartSet parts between place old new) (pad : PadSet old new port was is) (m : Moment) (a : AreTied i o (Stands m) nothing_lost m head parts)
    (number hint sink : ℕ) (c : Crosses o (seen was) (seen is) number hint sink) where
  -- where the pad leads
  pub leads_here : Leads m.plan (number_of was) number sink × NoneAt sink (m.held number)
  leads_here = subst (LeadsAs m (number_of was)) c.to (port_here i o head parts between place port old new was is set pad m a).linked.leads

  pub handed_on : (parts' : List (Part E O e)) (to : ℕ) → IsAt between number to → HandedOn between parts' place port to sink → map part_shape parts' ≡ map part_shape parts → MovesOn i o m (passing (number_of was)) head parts'
  handed_on parts' to at h shapes =
      let giver : h.giver ≡ new = is_set parts between place old new h.giver set h.given.at in
      let t = taken_from old new h.gave port was is h.item pad (subst (λ (g : Part E O e). PartGave g h.gave port (Some h.item)) giver h.taken) in
      let item : c.item ≡ h.item = first_same c.item h.item c.rest (waiting_of t.behind) (sym c.waits ∙ t.waiting) in
      let pads = pad_twice old new h.gave port was is t.behind pad t.pad in
      let sets = part_twice parts between h.between place old new h.gave set (subst (λ (g : Part E O e). PartSet between h.between place g h.gave) giver h.given) in
      let leads : goes_of t.behind ≡ inside number sink = same_goes t.behind was pads.shape ∙ c.to in
      let a1 = try_crosses i o head parts h.between place port old h.gave was t.behind sets pads m a h.item
      (λ l k. crossed_rest is t.behind t.rest (l ++ h.item ∷ []) (subst (λ z. HasCrossed is (l ++ z ∷ [])) item (c.history l k)))
      (λ l k q. sent_inside o t.behind.behind number sink (l ++ h.item ∷ []) leads) in
      let m1 : Moment = crossed (number_of was) h.item (waits_at h.gave port t.behind) m in
      let mid : map part_shape h.between ≡ map part_shape parts = parts_set_shape parts h.between place old h.gave sets (set_part_shape old h.gave port was t.behind pads) in
      let first : map part_shape between ≡ map part_shape parts = parts_set_shape parts between place old new set (set_part_shape old new port was is pad) in
      let n : h.eater.number ≡ number = found_number between h.between number to h.eater at (mid ∙ sym first) h.fed.at in
      let ate : part_shape h.ate ≡ part_shape h.eater = shape_at part_shape h.between parts' (shapes ∙ sym mid) to h.eater h.ate h.fed.at (ap (λ (ps : List (Part E O e)). slice_get ps to) h.fed.set ∙ set_at_eater h) in
      record {
        next = now o h.between parts' to sink h.item h.eater h.ate h.fed ate h.took m1;
        move = passes (number_of was) h.item (waits_at h.gave port t.behind) h.eater.number sink (out_now o h.between parts' to sink h.item h.eater h.ate h.fed ate h.took m1)
            (record {
              waited = waited_at i o head parts h.between place port old h.gave was t.behind sets pads m a h.item (c.waited ∙ sym c.waits ∙ t.waiting);
              leads = subst (λ k. Leads m.plan (number_of was) k sink) (sym n) leads_here.0;
              inner = subst (λ k. NoneAt sink (m.held k)) (sym n) leads_here.1;
            })
            (fed_answers o h.between parts' to sink h.item h.eater h.ate h.fed ate h.took m1 a1.parts_tied);
        tied = fed_tied i o head h.between parts' to sink h.item h.eater h.ate h.fed ate h.took m1 nothing_lost
            (subst (λ k. IsNotFed k sink head) (sym n) (not_fed i o nothing_lost m head parts place port number sink old was set.at pad.at c.to a.head_tied)) a1;
      }
    where
      set_at_eater : (h : HandedOn between parts' place port to sink) → slice_get (slice_set h.between to h.ate) to ≡ Some h.ate
      set_at_eater h = set_at h.between to h.eater h.ate h.fed.at
