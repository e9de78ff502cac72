-- What a sink pad keeps in force of an item.
use Rattle.std.proofs.Common.{◌≡◌, Bool, true, false, List, [], ◌∷◌, ◌++◌, map, refl, sym, ap, ◌∙◌, subst, Result, Ok, Err, OnOk}
use Rattle.std.proofs.Math.Logic.{∥∥₁_elim, ∥∥₁_map}
use Rattle.std.proofs.Props.{props}
use Rattle.gst_item.specs.declared.out.Out.{Out}
use Rattle.gst_item.specs.Item.{is_sticky}
use Rattle.gst_item.proofs.Kept.{buffer_passes, gap_passes}
use Rattle.flow_model.specs.Item.{Item, Buffer, Buf, Event, Ev, StreamStart, NewCaps, NewSegment, Tag, Gap, FlushStop, Eos, is_flush_stop, is_eos}
use Rattle.flow_model.specs.Call.{Call, Feed, items}
use Rattle.flow_model.specs.Sticky.{has_flush_stop, InForce, in_force, stickies}
use Rattle.flow_model.specs.Section.{counted}
use Rattle.flow_model.specs.Feeding.{on_pad}
use Rattle.flow_model.specs.Inherited.{is_inherited}
use Rattle.el_select.specs.declared.pad.Pad.{Pad}
use Rattle.el_select.specs.Kept.{IsLeft}
use Rattle.el_select.specs.Selects.{Knows, PutsSticky}
use Rattle.el_select.proofs.Knowing.{knows_item}
use Rattle.el_select.proofs.Sticking.{stickies_free}

-- some list left them in force: that of before with the item
abbrev pub Passes : InForce → InForce → Item → Type 0
Passes s t x = (h : List Item) → s ≡ in_force h → t ≡ in_force (h ++ x ∷ [])

then_left : (s t : InForce) (x : Item) → Passes s t x → IsLeft s → IsLeft t
then_left s t x next left = record { list = left.list ++ x ∷ []; left = next left.list left.left }

pub left_next : (s t : InForce) (x : Item) → Passes s t x → ∥ IsLeft s ∥₁ → ∥ IsLeft t ∥₁
left_next s t x next left = ∥∥₁_map left (then_left s t x next)

-- an event that is not sticky leaves them as they are, and so does a buffer
pub not_sticky : (s : InForce) (event : Event) → is_sticky event ≡ false → is_flush_stop (Ev event) ≡ false → Passes s s (Ev event)
not_sticky s (Gap pts duration) loose plain h e = e ∙ sym (gap_passes h pts duration)
not_sticky s (FlushStop number) loose plain h e = absurd (cc)
not_sticky s (StreamStart id) loose plain h e = absurd (cc)
not_sticky s (NewCaps caps) loose plain h e = absurd (cc)
not_sticky s (NewSegment segment) loose plain h e = absurd (cc)
not_sticky s (Tag title) loose plain h e = absurd (cc)
not_sticky s Eos loose plain h e = absurd (cc)

pub takes_buffer : (p q : Pad) (x : Item) (b : Buffer) → is_flush_stop x ≡ false → p.ended ≡ false → x ≡ Buf b → q.sticky ≡ p.sticky → q.ended ≡ is_eos x
    → (calls : List Call) → Knows p calls → Knows q (calls ++ Feed x ∷ [])
takes_buffer p q x b plain begun is same ends =
    knows_item p q x plain begun ends (λ h e. same ∙ e ∙ sym (buffer_passes h b) ∙ ap (λ (y : Item). in_force (h ++ y ∷ [])) (sym is))

pub takes_event : (p q : Pad) (x : Item) (event : Event) → is_flush_stop x ≡ false → p.ended ≡ false → x ≡ Ev event → Passes p.sticky q.sticky (Ev event)
    → q.ended ≡ is_eos x
    → (calls : List Call) → Knows p calls → Knows q (calls ++ Feed x ∷ [])
takes_event p q x event plain begun is next ends = knows_item p q x plain begun ends (subst (λ (y : Item). Passes p.sticky q.sticky y) (sym is) next)

-- an event that is laid
pub laid_plain : (event : Event) → is_inherited event ≡ true → (is_flush_stop (Ev event) ≡ false) × (is_eos (Ev event) ≡ false)
laid_plain (StreamStart id) h = (refl, refl)
laid_plain (NewCaps caps) h = (refl, refl)
laid_plain (NewSegment s) h = (refl, refl)
laid_plain (Tag title) h = (refl, refl)
laid_plain (Gap pts duration) h = (refl, refl)
laid_plain (FlushStop number) h = absurd (cc)
laid_plain Eos h = absurd (cc)

pub takes_laid : (p q : Pad) (event : Event) → is_inherited event ≡ true → p.ended ≡ false → Passes p.sticky q.sticky (Ev event) → q.ended ≡ p.ended
    → (calls : List Call) → Knows p calls → Knows q (calls ++ Feed (Ev event) ∷ [])
takes_laid p q event h begun next same =
    let plain = laid_plain event h in
    knows_item p q (Ev event) plain.0 begun (same ∙ begun ∙ sym plain.1) next

-- all of them put out
is_false : (b : Bool) → IsProp (b ≡ false)
is_false b = hlevel props

abbrev pub Lists : InForce → List Event → Type 0
Lists s events = (h : List Item) → s ≡ in_force h → map Ev events ≡ stickies h

listed_free : (s : InForce) (events : List Event) → ∥ IsLeft s ∥₁ → Lists s events → has_flush_stop (map Ev events) ≡ false
listed_free s events left lists =
    ∥∥₁_elim left (is_false (has_flush_stop (map Ev events))) (λ i. ap has_flush_stop (lists i.list i.left) ∙ stickies_free i.list)

pub puts_sticky : {A E : Type 0} (r : Result A E) (p : Pad) (events : List Event) (out out' queue : List Out) → ∥ IsLeft p.sticky ∥₁ → Lists p.sticky events
    → queue ≡ on_pad 0 (map Ev events) → OnOk r (out' ≡ out ++ queue) → OnOk r (PutsSticky p out out')
puts_sticky (Ok a) p events out out' queue left lists is outs = record {
  more = map Ev events;
  outs = outs ∙ ap (λ (os : List Out). out ++ os) is;
  free = listed_free p.sticky events left lists;
  owed = λ calls k. lists (counted (items calls)) k.sticky;
}
puts_sticky (Err e) p events out out' queue left lists is outs = tt
