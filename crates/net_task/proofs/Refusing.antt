-- An item that crossed a pad of an element goes to an element of the task, which refuses it.
use Rattle.std.proofs.Common.{◌≡◌, ◌≢◌, ◌⊎◌, ◌++◌, ℕ, List, [], ◌∷◌, map, Some, refl, sym, ap, ◌∙◌, subst, inl, inr}
use Rattle.std.specs.Prelude.{slice_get}
use Rattle.std.proofs.lemmas.Bool.{cases_eq}
use Rattle.flow_model.specs.Item.{Item}
use Rattle.lane_core.specs.declared.ends.Inlet as inlets
use Rattle.lane_core.specs.declared.ends.Outlet as outlets
use Rattle.flow_model.specs.Moment.{Moment, behavior_at}
use Rattle.flow_model.specs.Step.{crossed}
use Rattle.flow_model.proofs.Inputs.{at_here, at_other}
use Rattle.flow_model.specs.declared.element.TaskElement as elements
use Rattle.flow_model.specs.declared.source.TaskSource as sources
use Rattle.flow_model.specs.declared.refusal.Refusal.{Refusal}
use Rattle.flow_model.specs.Takes.{on_port}
use Rattle.flow_model.specs.Failures.{IsWriteCause}
use Rattle.flow_model.specs.Refuses.{RefusesBy}
use Rattle.gst_item.specs.declared.out.Out.{Out}
use Rattle.task_pads.specs.declared.pad.Pad.{Pad}
use Rattle.task_pads.specs.Behind.{inside}
use Rattle.task_pads.specs.Pads.{HasCrossed, seen, number_of, goes_of, waiting_of}
use Rattle.task_pads.specs.Crossing.{Crosses}
use Rattle.task_parts.specs.declared.part.Part.{Part}
use Rattle.task_parts.specs.declared.head.Head.{Head}
use Rattle.task_parts.specs.Shape.{part_shape}
use Rattle.task_parts.specs.Found.{IsAt}
use Rattle.task_parts.specs.Part.{PadSet, PartGave, PartFell, waits_at}
use Rattle.task_parts.specs.Moved.{PartSet, HandedBack}
use Rattle.net_task.specs.Ties.{LeadsAs, PadLinked, PortTied, PartsTied, AreTied, Stands, nothing_lost}
use Rattle.net_task.specs.Failed.{HasRefused, StandsOrFell, Left, Refuses, at_pad, by_pad, without_first}
use Rattle.net_task.specs.Tries.{elements_of}
use Rattle.task_pads.proofs.Lists.{set_there}
use Rattle.task_parts.proofs.Lists.{map_back}
use Rattle.net_task.proofs.Linked.{same_number, same_goes, crossed_rest}
use Rattle.net_task.proofs.Tied.{set_part_shape, parts_set_shape, parts_set, part_known, part_pad, part_fell, part_at, head_at}
use Rattle.net_task.proofs.Passing.{sent_inside, pad_twice, part_twice, is_set, stands_set, try_crosses, waited_at}
use Rattle.net_task.proofs.Handing.{TakenFrom, taken_from, found_number, leads_here}
use Rattle.net_task.proofs.Bare.{bare, bare_pad, bare_set, bare_shapes}
use Rattle.net_task.proofs.Kept.{kept_set, refused_since}
use Rattle.gst_value.proofs.Basics.{some_same}
use Rattle.gst_value.proofs.Places.{first_same, set_at}

-- An element as it is behind a refusal by one of its task: it is as it was, or it is the one that refused, with the same pads.
pub record SamePads {E O : Type 0} {e : elements.Ghosts E} (part again : Part E O e) : Type 0 where
  pub number : again.number ≡ part.number
  pub pads : again.pads ≡ part.pads
  pub out : again.out ≡ part.out

module _ {E O : Type 0} {e : elements.Ghosts E} where
  pub same_pads : (between behind : List (Part E O e)) (place to sink : ℕ) (x : Item) (refusal : Refusal) (gave eater ate again : Part E O e) → PartSet between behind to eater ate → PartFell eater ate sink x refusal
      → slice_get between place ≡ Some gave → slice_get behind place ≡ Some again → SamePads gave again
  same_pads between behind place to sink x refusal gave eater ate again s f at at' = go (cases_eq place to)
    where
      go : ((place ≡ to) ⊎ (place ≡ to → ⊥)) → SamePads gave again
      go (inl same) =
          let one : again ≡ ate = is_set between behind to eater ate again s (ap (slice_get behind) (sym same) ∙ at') in
          let two : eater ≡ gave = some_same (sym s.at ∙ ap (slice_get between) (sym same) ∙ at) in
          record {
            number = ap (λ (z : Part E O e). z.number) one ∙ f.number ∙ ap (λ (z : Part E O e). z.number) two;
            pads = ap (λ (z : Part E O e). z.pads) one ∙ f.pads ∙ ap (λ (z : Part E O e). z.pads) two;
            out = ap (λ (z : Part E O e). z.out) one ∙ f.out ∙ ap (λ (z : Part E O e). z.out) two;
          }
      go (inr other) =
          let same : again ≡ gave = some_same (sym at' ∙ ap (λ (ps : List (Part E O e)). slice_get ps place) s.set ∙ set_there between to place ate other ∙ at) in
          record { number = ap (λ (z : Part E O e). z.number) same; pads = ap (λ (z : Part E O e). z.pads) same; out = ap (λ (z : Part E O e). z.out) same }

  -- what stands or fell is so of any element of the same number that is the same
  fell_set : (n sink : ℕ) (x : Item) (m : Moment) (old new : Part E O e) → new.number ≡ old.number → new.element ≡ old.element → StandsOrFell n sink x m old → StandsOrFell n sink x m new
  fell_set n sink x m old new number element (inl st) = inl (stands_set m old new number element st)
  fell_set n sink x m old new number element (inr f) =
      inr (number ∙ f.0, subst (λ k. e.fell new.element (behavior_at m k) (m.took k) sink x) (sym number) (subst (λ z. e.fell z (behavior_at m old.number) (m.took old.number) sink x) (sym element) f.1))

  -- the element that refused an item is at the place at which it was
  pub back_refused : (parts between parts' : List (Part E O e)) (place port to number sink : ℕ) (refusal : Refusal) → elements_of between ≡ elements_of parts → IsAt between number to → (h : HandedBack between parts' place port to sink refusal)
      → (r : HasRefused parts parts' number refusal) × (h.eater.element ≡ r.was.element)
  back_refused parts between parts' place port to number sink refusal before at h = go (cases_eq to place)
    where
      gave : map bare h.between ≡ map bare between
      gave = bare_set between h.between place h.giver h.gave h.given (bare_pad h.giver h.gave port h.taken.was h.taken.is h.taken.pad h.taken.rest)

      named : h.ate.number ≡ number
      named = h.fell.number ∙ found_number between h.between number to h.eater at (bare_shapes between h.between gave) h.fed.at

      there : slice_get h.behind to ≡ Some h.ate
      there = ap (λ (ps : List (Part E O e)). slice_get ps to) h.fed.set ∙ set_at h.between to h.eater h.ate h.fed.at

      kept : elements_of h.between ≡ elements_of parts
      kept = kept_set between h.between place h.giver h.gave h.given h.taken.pad.element ∙ before

      made : (part : Part E O e) → slice_get parts' to ≡ Some part → part.number ≡ number → part.element ≡ h.ate.element → (r : HasRefused parts parts' number refusal) × (h.eater.element ≡ r.was.element)
      made part get same element = (
        refused_since parts h.between parts' kept number refusal
            (record { place = to; was = h.eater; is = part; was_at = h.fed.at; is_at = get; number = same; cause = subst (λ (z : E). IsWriteCause (e.failures h.eater.element) (e.failures z) refusal) (sym element) h.fell.cause }),
        (map_back (λ (p : Part E O e). p.element) parts h.between kept to h.eater h.fed.at).2,
      )

      go : ((to ≡ place) ⊎ (to ≡ place → ⊥)) → (r : HasRefused parts parts' number refusal) × (h.eater.element ≡ r.was.element)
      go (inl same) =
          let one : h.again ≡ h.ate = some_same (sym h.back.at ∙ ap (slice_get h.behind) (sym same) ∙ there) in
          made h.is (ap (slice_get parts') same ∙ ap (λ (ps : List (Part E O e)). slice_get ps place) h.back.set ∙ set_at h.behind place h.again h.is h.back.at)
          (h.took_back.pad.number ∙ ap (λ (z : Part E O e). z.number) one ∙ named) (h.took_back.pad.element ∙ ap (λ (z : Part E O e). z.element) one)
      go (inr n) = made h.ate (ap (λ (ps : List (Part E O e)). slice_get ps to) h.back.set ∙ set_there h.behind place to h.is n ∙ there) named refl

module _ {S E I O L : Type 0} {s : sources.Ghosts S} {e : elements.Ghosts E} (i : inlets.Ghosts I L O) (o : outlets.Ghosts O L)
    (head : Head S I O s) (parts between : List (Part E O e)) (place port : ℕ) (old new : Part E O e) (was is : Pad O)
    (set : PartSet parts between place old new) (pad : PadSet old new port was is) (m : Moment) (a : AreTied i o (Stands m) nothing_lost m head parts)
    (number hint sink : ℕ) (c : Crosses o (seen was) (seen is) number hint sink) (parts' : List (Part E O e)) (to : ℕ) (at : IsAt between number to) (refusal : Refusal)
    (h : HandedBack between parts' place port to sink refusal) (shapes : map part_shape parts' ≡ map part_shape parts) where
  giver : h.giver ≡ new
  giver = is_set parts between place old new h.giver set h.given.at

  abbrev gone : TakenFrom new h.gave port is h.item
  gone = taken_from old new h.gave port was is h.item pad (subst (λ (g : Part E O e). PartGave g h.gave port (Some h.item)) giver h.taken)

  item_is : c.item ≡ h.item
  item_is = first_same c.item h.item c.rest (waiting_of gone.behind) (sym c.waits ∙ gone.waiting)

  pads : PadSet old h.gave port was gone.behind
  pads = pad_twice old new h.gave port was is gone.behind pad gone.pad

  sets : PartSet parts h.between place old h.gave
  sets = part_twice parts between h.between place old new h.gave set (subst (λ (g : Part E O e). PartSet between h.between place g h.gave) giver h.given)

  leads : goes_of gone.behind ≡ inside number sink
  leads = same_goes gone.behind was pads.shape ∙ c.to

  abbrev p : ℕ
  p = number_of was

  abbrev rest : List Item
  rest = waits_at h.gave port gone.behind

  abbrev m1 : Moment
  m1 = crossed p h.item rest m

  abbrev mb : Moment
  mb = without_first p rest m

  a1 : AreTied i o (Stands m1) nothing_lost m1 head h.between
  a1 = try_crosses i o head parts h.between place port old h.gave was gone.behind sets pads m a h.item
      (λ l k. crossed_rest is gone.behind gone.rest (l ++ h.item ∷ []) (subst (λ z. HasCrossed is (l ++ z ∷ [])) item_is (c.history l k)))
      (λ l k q. sent_inside o gone.behind.behind number sink (l ++ h.item ∷ []) leads)

  mid : map part_shape h.between ≡ map part_shape parts
  mid = parts_set_shape parts h.between place old h.gave sets (set_part_shape old h.gave port was gone.behind pads)

  first : map part_shape between ≡ map part_shape parts
  first = parts_set_shape parts between place old new set (set_part_shape old new port was is pad)

  eater_number : h.eater.number ≡ number
  eater_number = found_number between h.between number to h.eater at (mid ∙ sym first) h.fed.at

  alike : SamePads h.gave h.again
  alike = same_pads h.between h.behind place to sink h.item refusal h.gave h.eater h.ate h.again h.fed h.fell
      (ap (λ (ps : List (Part E O e)). slice_get ps place) sets.set ∙ set_at parts place old h.gave sets.at) h.back.at

  -- the pad whose crossing was taken back
  back_was : h.took_back.was ≡ gone.behind
  back_was = some_same (sym h.took_back.pad.at ∙ ap (λ (v : _). slice_get v.items port) alike.pads
      ∙ ap (λ (ps : List (Pad O)). slice_get ps port) gone.pad.set ∙ set_at new.pads.items port is gone.behind gone.pad.at)

  back_pad : PadSet h.again h.is port gone.behind h.took_back.is
  back_pad = subst (λ (w : Pad O). PadSet h.again h.is port w h.took_back.is) back_was h.took_back.pad

  back_history : (l : List Item) (x : Item) → HasCrossed gone.behind (l ++ x ∷ []) → HasCrossed h.took_back.is l
  back_history = subst (λ (w : Pad O). (l : List Item) (x : Item) → HasCrossed w (l ++ x ∷ []) → HasCrossed h.took_back.is l) back_was h.took_back.history

  back_waiting : waiting_of h.took_back.is ≡ waiting_of gone.behind
  back_waiting = subst (λ (w : Pad O). waiting_of h.took_back.is ≡ waiting_of w) back_was h.took_back.waiting

  abbrev Stood : Moment → Part E O e → Type 0
  Stood k part = StandsOrFell number sink h.item k part

  -- the element that refused the item
  parts_fell : PartsTied o (Stood m1) m1 h.behind
  parts_fell =
      parts_set o (Stands m1) (Stood m1) m1 m1 h.between h.behind to h.eater h.ate h.fed h.fell.number (λ q n t. part_known o (Stands m1 q) (Stood m1 q) m1 q inl t)
      (part_fell o (Stands m1 h.eater) (Stood m1 h.ate) m1 h.eater h.ate h.fell.number h.fell.pads h.fell.out
      (inr (
        h.fell.number ∙ eater_number,
        subst (λ k. e.fell h.ate.element (behavior_at m k) (m.took k) sink h.item) (sym h.fell.number) (h.fell.fell (behavior_at m h.eater.number) (m.took h.eater.number) (a1.parts_tied.each to h.eater h.fed.at).stood),
      ))
      (a1.parts_tied.each to h.eater h.fed.at))
      a1.parts_tied

  again_port : PortTied o m1 h.again.number port gone.behind (waits_at h.again port gone.behind)
  again_port = (parts_fell.each place h.again h.back.at).pads port gone.behind back_pad.at

  owner_here : m.plan.owner p ≡ h.again.number
  owner_here = ap m.plan.owner (sym (same_number gone.behind was pads.shape)) ∙ again_port.owner

  back_linked : PadLinked o mb h.took_back.is
  back_linked =
      let n : number_of h.took_back.is ≡ p = same_number h.took_back.is gone.behind back_pad.shape ∙ same_number gone.behind was pads.shape in
      let g : goes_of h.took_back.is ≡ inside number sink = same_goes h.took_back.is gone.behind back_pad.shape ∙ leads in
      let once : HasCrossed gone.behind (m.history p ++ h.item ∷ []) =
      subst (HasCrossed gone.behind) (at_here p (m.history p ++ h.item ∷ []) m.history) (subst (λ k. HasCrossed gone.behind (m1.history k)) (same_number gone.behind was pads.shape) again_port.linked.crossed) in
      record {
        crossed = subst (λ k. HasCrossed h.took_back.is (m.history k)) (sym n) (back_history (m.history p) h.item once);
        leads = subst (λ k. LeadsAs mb k (goes_of h.took_back.is)) (sym n) (subst (LeadsAs mb p) (sym g) (leads_here i o head parts between place port old new was is set pad m a number hint sink c));
        sent = sent_inside o h.took_back.is.behind number sink (m.history (number_of h.took_back.is)) g;
      }

  other_history : (q : ℕ) → q ≢ p → mb.history q ≡ m1.history q
  other_history q n = sym (at_other p (m.history p ++ h.item ∷ []) m.history q n)

  parts_back : PartsTied o (Stood mb) mb parts'
  parts_back =
      parts_set o (Stood m1) (Stood mb) m1 mb h.behind parts' place h.again h.is h.back back_pad.number
      (λ q n t. part_at o (Stood m1 q) m1 mb q refl refl (λ k own. other_history k (λ w. n (sym own ∙ ap m.plan.owner w ∙ owner_here))) (λ k own. refl) t)
      (part_pad o (Stood mb h.is) m1 mb h.again h.is port gone.behind h.took_back.is back_pad refl refl
      (λ k n. other_history k (λ w. n (w ∙ sym (same_number gone.behind was pads.shape)))) (λ k n. refl) back_linked
      (ap m1.waits (same_number h.took_back.is gone.behind back_pad.shape) ∙ again_port.waits
      ∙ ap (λ ys. ys ++ on_port port h.again.out) (sym back_waiting) ∙ ap (λ (os : List Out). waiting_of h.took_back.is ++ on_port port os) (sym back_pad.out))
      (part_known o (Stood m1 h.again) (Stood mb h.is) m1 h.again (fell_set number sink h.item m h.again h.is back_pad.number back_pad.element) (parts_fell.each place h.again h.back.at)))
      parts_fell

  pub handed_back : Left i o m (at_pad p) head parts' number sink h.item × Refuses m parts parts' number sink h.item refusal
  handed_back =
      let lead = leads_here i o head parts between place port old new was is set pad m a number hint sink c in
      let by = back_refused parts between parts' place port to number sink refusal (kept_set parts between place old new set pad.element) at h in (
        record {
          behind = mb;
          lost = nothing_lost;
          gave_up = by_pad p rest (waited_at i o head parts h.between place port old h.gave was gone.behind sets pads m a h.item (c.waited ∙ sym c.waits ∙ gone.waiting)) lead.0;
          of_head = tt;
          wanted = tt;
          tied = record {
            parts_tied = parts_back;
            head_tied = head_at i o nothing_lost m1 mb head h.between parts' refl refl refl
                (λ q apart. other_history q (λ w. apart place h.gave (ap (λ (ps : List (Part E O e)). slice_get ps place) sets.set ∙ set_at parts place old h.gave sets.at)
                (sym owner_gave ∙ sym (ap m.plan.owner w))))
                (λ q apart. refl) (shapes ∙ sym mid) a1.head_tied;
          };
        },
        record {
          by = by.0;
          stood = subst (λ (z : E). e.stands z (behavior_at m number) (m.took number)) by.1 (subst (λ k. e.stands h.eater.element (behavior_at m k) (m.took k)) eater_number (a1.parts_tied.each to h.eater h.fed.at).stood);
          why = subst (λ k. RefusesBy (behavior_at m k) (m.took k) sink h.item refusal) eater_number (h.fell.refused (behavior_at m h.eater.number) (m.took h.eater.number) (a1.parts_tied.each to h.eater h.fed.at).stood);
        },
      )
    where
      owner_gave : m.plan.owner p ≡ h.gave.number
      owner_gave = owner_here ∙ alike.number
