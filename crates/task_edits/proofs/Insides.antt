-- A link inside of a task, at a moment.
use Rattle.std.proofs.Common.{◌≡◌, ℕ, true, None, Some, List, Option, map, get_or, refl, sym, ap, ◌∙◌, subst, arith, inl, inr}
use Rattle.std.specs.Prelude.{slice_get}
use Rattle.std.proofs.lemmas.Option.{slice_get_within}
use Rattle.flow_model.specs.Item.{Item}
use Rattle.gst_item.specs.Sticky.{stickies}
use Rattle.lane_core.specs.Lane.{Lane}
use Rattle.lane_core.specs.declared.ends.Inlet as inlets
use Rattle.lane_core.specs.declared.ends.Outlet as outlets
use Rattle.flow_model.specs.Edit.{linked}
use Rattle.flow_model.specs.Moment.{Moment}
use Rattle.flow_model.specs.Step.{planned}
use Rattle.flow_model.specs.declared.element.TaskElement as elements
use Rattle.flow_model.specs.declared.source.TaskSource as sources
use Rattle.net_task.specs.Frame.{room_in}
use Rattle.net_task.specs.Ready.{AreReady}
use Rattle.net_task.specs.Ties.{AreTied, HeadTied, LeadsAs, PadLinked, Stands, nothing_lost}
use Rattle.task_pads.specs.Behind.{EndReady, inside, SentIn, end_in, goes}
use Rattle.task_pads.specs.Pads.{HasCrossed, IsLed, number_of}
use Rattle.task_pads.specs.declared.pad.Behind.{Behind}
use Rattle.task_pads.specs.declared.pad.Pad.{Pad}
use Rattle.task_parts.specs.Shape.{goes_within, has_number, is_closed, part_shape, shape_of}
use Rattle.task_parts.specs.declared.head.Head.{Head}
use Rattle.task_parts.specs.declared.head.Head.TheVariants.{Source, Inlets}
use Rattle.task_parts.specs.declared.part.Part.{Part}
use Rattle.task_edits.specs.Changes.{Changed, LedBy, PadIs}
use Rattle.task_edits.specs.Inside.{CanLinkInside, HasNoRow, HeadLeadsTo, IsPadOf, LeadsElsewhere, LeadsInside, inside_behind}
use Rattle.task_edits.specs.Leads.{HeadLeadsOver, LeadsOver, LeadsOverNone}
use Rattle.task_edits.specs.Places.{FirstAt, HasPad, IsOfHead, PartHas}
use Rattle.task_edits.specs.declared.places.PadAt.TheVariants as ats
use Rattle.task_edits.specs.Stickies.{AreStickiesOf, HeadStickies}
use Rattle.task_parts.proofs.Lists.{at_get}
use Rattle.task_edits.specs.declared.inside.Inside.{Inside}
use Rattle.task_edits.specs.declared.leading.Beyond.{Beyond}
use Rattle.task_edits.proofs.LinksMade.{linked_leads}
use Rattle.task_edits.proofs.Padding.{LeavesRows, tied_beside, tied_without}
use Rattle.task_edits.proofs.Wiring.{closed_in, numbers_as, ready_with}
use Rattle.task_edits.proofs.Acts.{linked_others, stays_closed, stays_ready, stays_tied}

element_same : (a b c d : ℕ) → inside a b ≡ inside c d → a ≡ c
element_same a b c d same = cc

pad_same : (a b c d : ℕ) → inside a b ≡ inside c d → b ≡ d
pad_same a b c d same = cc

module _ {O L : Type 0} (o : outlets.Ghosts O L) where
  inside_linked : {S I : Type 0} {s : sources.Ghosts S} (m : Moment) (from : ℕ) (head : Head S I O s) (was is : Pad O) (to : Inside) → IsLed was is (inside_behind to) → CanLinkInside m head (number_of was) to → PadLinked o m was
      → PadLinked o (planned (linked (number_of was) from to.element to.pad m.plan) m) is
  inside_linked m from head was is to led can l =
      let m' : Moment = planned (linked (number_of was) from to.element to.pad m.plan) m in
      record {
        crossed = subst (λ (n : ℕ). HasCrossed is (m.history n)) (sym led.number) (led.history (m.history (number_of was)) l.crossed);
        leads = subst (λ (b : Behind O). LeadsAs m' (number_of is) (goes b)) (sym led.leads)
            (subst (λ (n : ℕ). LeadsAs m' n (inside to.element to.pad)) (sym led.number) (linked_leads m.plan (number_of was) from to.element to.pad can.free can.nowhere, can.inner));
        sent = subst (λ (b : Behind O). SentIn o b (m.history (number_of is))) (sym led.leads) tt;
      }

leaves : {S I O : Type 0} {s : sources.Ghosts S} (head : Head S I O s) (was is : Pad O) (to : Inside) → IsLed was is (inside_behind to) → HasNoRow head to.element to.pad → LeavesRows head was is
leaves (Source head) was is to led none = tt
leaves {O = O} (Inlets head) was is to led none = λ port row got leads.
    let same : inside to.element to.pad ≡ inside head.number port = sym (ap (λ (b : Behind O). goes b) led.leads) ∙ leads in
    let few = none (sym (element_same to.element to.pad head.number port same)) in
    let at = pad_same to.element to.pad head.number port same in
    let low = slice_get_within head.rows.items port row got in
    absurd (omega (arith, few, at, low))

module _ {S E I O L : Type 0} {s : sources.Ghosts S} {e : elements.Ghosts E} (i : inlets.Ghosts I L O) (o : outlets.Ghosts O L) (head head' : Head S I O s) (parts parts' : List (Part E O e)) (to : Inside) (back : Behind O) (pad : ℕ)
    (c : Changed (LedBy (inside_behind to) back) (back ≡ inside_behind to) pad head parts head' parts') where
  abbrev Then : Moment → ℕ → ℕ → Type 0
  Then m from p = AreTied i o (Stands (planned (linked p from to.element to.pad m.plan) m)) nothing_lost (planned (linked p from to.element to.pad m.plan) m) head' parts'

  -- a task whose pad was linked to one of its elements stands for the moment at which the graph has got that link
  pub inside_tied : (m : Moment) (from : ℕ) → AreTied i o (Stands m) nothing_lost m head parts → CanLinkInside m head pad to → Then m from pad
  inside_tied m from t can = go c
    where
      go : Changed (LedBy (inside_behind to) back) (back ≡ inside_behind to) pad head parts head' parts' → Then m from pad
      go (inl (was, is, number, by, changed)) =
          subst (Then m from) number
          (tied_beside i o (linked (number_of was) from to.element to.pad m.plan).sinks m head head' parts parts' was is changed by.0.number by.0.waiting (leaves head was is to by.0 can.no_row)
          (linked_others m (number_of was) from to.element to.pad) (inside_linked o m from head was is to by.0 (subst (λ (n : ℕ). CanLinkInside m head n to) (sym number) can)) t)
      go (inr (none, h, p, k)) =
          stays_tied i o head head' parts parts' (planned (linked pad from to.element to.pad m.plan) m) h p
          (tied_without i o (linked pad from to.element to.pad m.plan).sinks m pad head parts none (linked_others m pad from to.element to.pad) t)

  pub inside_ready : (tells : Option (List Lane)) → AreReady i o tells head parts → AreReady i o tells head' parts'
  inside_ready tells r = go c
    where
      go : Changed (LedBy (inside_behind to) back) (back ≡ inside_behind to) pad head parts head' parts' → AreReady i o tells head' parts'
      go (inl (was, is, number, by, changed)) =
          ready_with i o tells head head' parts parts' was is changed (λ ready. subst (λ (b : Behind O). EndReady tells (end_in o b)) (sym by.0.leads) tt)
          (λ n l. let none : None ≡ Some l.room = ap (λ (b : Behind O). room_in (end_in o b)) (sym by.0.leads) ∙ l.room_is in absurd cc) r
      go (inr (none, h, p, k)) = stays_ready i o tells head head' parts parts' h p r

  -- it names only its own elements
  pub inside_closed : has_number to.element (map part_shape parts) ≡ true → is_closed (shape_of head parts) ≡ true → is_closed (shape_of head' parts') ≡ true
  inside_closed there closed = go c
    where
      go : Changed (LedBy (inside_behind to) back) (back ≡ inside_behind to) pad head parts head' parts' → is_closed (shape_of head' parts') ≡ true
      go (inl (was, is, number, by, changed)) =
          closed_in head head' parts parts' was is changed (λ within. subst (λ (b : Behind O). goes_within (map part_shape parts) (goes b) ≡ true) (sym by.0.leads) there) closed
      go (inr (none, h, p, k)) = stays_closed head head' parts parts' h p closed

-- a source pad of a task stands somewhere in it
pub has_pad_of : {S E I O : Type 0} {s : sources.Ghosts S} {e : elements.Ghosts E} (head : Head S I O s) (parts : List (Part E O e)) (pad : Pad O) (number : ℕ) → IsPadOf head parts pad → number_of pad ≡ number → HasPad head parts number
has_pad_of {O = O} head parts pad number (IsPadOf.of_source source is same) is_number = (ats.Source, subst (λ (h : Head _ _ _ _). IsOfHead h number) (sym is) (ap (λ (q : Pad O). number_of q) same ∙ is_number))
has_pad_of head parts pad number (IsPadOf.of_part place port part at pad_at) is_number = (ats.Part place port, record { part = part; part_at = at; port_is = record { pad = pad; at = pad_at; number_is = is_number } })

-- what stands at a place is a pad of the task
pub head_leads : {S E I O : Type 0} {s : sources.Ghosts S} {e : elements.Ghosts E} (head : Head S I O s) (parts : List (Part E O e)) (number : ℕ) (to : Inside) → IsOfHead head number → HeadLeadsTo head to → LeadsInside head parts number to
head_leads (Source head) parts number to is leads = record { pad = head.pad; is = IsPadOf.of_source head refl refl; number_is = is; leads = leads }
head_leads (Inlets head) parts number to is leads = absurd is

pub head_elsewhere : {S E I O : Type 0} {s : sources.Ghosts S} {e : elements.Ghosts E} (head : Head S I O s) (parts : List (Part E O e)) (number : ℕ) → IsOfHead head number → ((to : Inside) → HeadLeadsTo head to → ⊥) → LeadsElsewhere head parts number
head_elsewhere (Source head) parts number is none = record { pad = head.pad; is = IsPadOf.of_source head refl refl; number_is = is; elsewhere = none }
head_elsewhere (Inlets head) parts number is none = absurd is

pub head_leads_over : {S E I O : Type 0} {s : sources.Ghosts S} {e : elements.Ghosts E} (head : Head S I O s) (parts : List (Part E O e)) (number : ℕ) (to : Beyond) → IsOfHead head number → FirstAt head parts number ats.Source → HeadLeadsOver head to → LeadsOver head parts number to
head_leads_over (Source head) parts number to is first leads = record { pad = head.pad; is = IsPadOf.of_source head refl refl; first = first; number_is = is; leads = leads }
head_leads_over (Inlets head) parts number to is first leads = absurd is

pub head_over_none : {S E I O : Type 0} {s : sources.Ghosts S} {e : elements.Ghosts E} (head : Head S I O s) (parts : List (Part E O e)) (number : ℕ) → IsOfHead head number → ((to : Beyond) → HeadLeadsOver head to → ⊥) → LeadsOverNone head parts number
head_over_none (Source head) parts number is none = record { pad = head.pad; is = IsPadOf.of_source head refl refl; number_is = is; none = none }
head_over_none (Inlets head) parts number is none = absurd is

-- a task of which a pad is another has the elements that it had
pub changed_has : {S E I O : Type 0} {s : sources.Ghosts S} {e : elements.Ghosts E} (By : Pad O → Pad O → Type 0) (Kept : Type 0) (number : ℕ) (head head' : Head S I O s) (parts parts' : List (Part E O e)) → Changed By Kept number head parts head' parts' → (n : ℕ)
    → has_number n (map part_shape parts) ≡ true → has_number n (map part_shape parts') ≡ true
changed_has By Kept number head head' parts parts' (inl (was, is, number_is, by, PadIs.of_source old new here here' pad pad' same stays)) n has = subst (λ (ps : List (Part _ _ _)). has_number n (map part_shape ps) ≡ true) (sym stays) has
changed_has By Kept number head head' parts parts' (inl (was, is, number_is, by, PadIs.of_part place port old new at set pad same)) n has =
    subst (λ (ps : List (Part _ _ _)). has_number n (map part_shape ps) ≡ true) (sym set) (numbers_as parts place old new at pad.number n ∙ has)
changed_has By Kept number head head' parts parts' (inr (none, h, p, k)) n has = subst (λ (ps : List (Part _ _ _)). has_number n (map part_shape ps) ≡ true) (sym p) has

-- what was looked up at the place and the port of a pad is that pad
pub found_pad : {S E I O : Type 0} {s : sources.Ghosts S} {e : elements.Ghosts E} (head : Head S I O s) (parts : List (Part E O e)) (number place port : ℕ) (part : Part E O e) (pads : List (Pad O)) (pad : Pad O) → (h : PartHas parts number place port) → part ≡ get_or parts place part
    → pads ≡ part.pads.items → pad ≡ get_or pads port pad → IsPadOf head parts pad × (number_of pad ≡ number) × (pad ≡ h.port_is.pad)
found_pad head parts number place port part pads pad h part_is pads_is pad_is =
    let one : part ≡ h.part = at_get parts place h.part part h.part_at part_is in
    let two : pad ≡ h.port_is.pad = at_get pads port h.port_is.pad pad (ap (λ (ps : List (Pad _)). slice_get ps port) (pads_is ∙ ap (λ (p : Part _ _ _). p.pads.items) one) ∙ h.port_is.at) pad_is in
    (IsPadOf.of_part place port h.part h.part_at (subst (λ (q : Pad _). slice_get h.part.pads.items port ≡ Some q) (sym two) h.port_is.at), ap (λ (q : Pad _). number_of q) two ∙ h.port_is.number_is, two)

-- a source pad of a task is linked as the graph tells
pub pad_tied : {S E I O L : Type 0} {s : sources.Ghosts S} {e : elements.Ghosts E} (i : inlets.Ghosts I L O) (o : outlets.Ghosts O L) (head : Head S I O s) (parts : List (Part E O e)) (m : Moment) (pad : Pad O) → AreTied i o (Stands m) nothing_lost m head parts → IsPadOf head parts pad
    → PadLinked o m pad
pad_tied i o head parts m pad t (IsPadOf.of_source source is same) = subst (PadLinked o m) same (subst (λ (h : Head _ _ _ _). HeadTied i o nothing_lost m h parts) is t.head_tied).linked
pad_tied i o head parts m pad t (IsPadOf.of_part place port part at pad_at) = ((t.parts_tied.each place part at).pads port pad pad_at).linked

-- its sticky events are those of what crossed it
pub stickies_are : {S E I O L : Type 0} {s : sources.Ghosts S} {e : elements.Ghosts E} (i : inlets.Ghosts I L O) (o : outlets.Ghosts O L) (head : Head S I O s) (parts : List (Part E O e)) (number : ℕ) (pad : Pad O) (items : List Item) → IsPadOf head parts pad → number_of pad ≡ number
    → AreStickiesOf pad items → (m : Moment) → AreTied i o (Stands m) nothing_lost m head parts → items ≡ stickies (m.history number)
stickies_are i o head parts number pad items is number_is are m t = subst (λ (n : ℕ). items ≡ stickies (m.history n)) number_is (are (m.history (number_of pad)) (pad_tied i o head parts m pad t is).crossed)

pub head_stickies_are : {S E I O L : Type 0} {s : sources.Ghosts S} {e : elements.Ghosts E} (i : inlets.Ghosts I L O) (o : outlets.Ghosts O L) (head : Head S I O s) (parts : List (Part E O e)) (number : ℕ) (items : List Item) → IsOfHead head number → HeadStickies head items
    → (m : Moment) → AreTied i o (Stands m) nothing_lost m head parts → items ≡ stickies (m.history number)
head_stickies_are i o (Source head) parts number items is are m t = stickies_are i o (Source head) parts number head.pad items (IsPadOf.of_source head refl refl) is are m t
head_stickies_are i o (Inlets head) parts number items is are m t = absurd is
