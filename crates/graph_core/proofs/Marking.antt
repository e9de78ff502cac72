-- Marks spread over links, and those of sources to the live elements.
use Rattle.std.proofs.Common.{◌≡◌, All, ◌⊎◌, ◌<◌, ◌||◌, ◌+◌, ℕ, zero, suc, Bool, true, false, List, [], ◌∷◌, ◌++◌, length, get_or, take, map, slice_get, slice_set, Option, None, Some, refl, sym, ap, ◌∙◌, subst, inl, inr, arith, option_map}
use Rattle.std.proofs.lemmas.List.{get_or-map, length-map, length-set, map-append, take_more}
use Rattle.std.proofs.lemmas.List.Elements.{All-head, All-tail, All-more}
use Rattle.std.proofs.lemmas.Option.{get_or_from_slice_get}
use Rattle.gst_value.proofs.Basics.{neither}
use Rattle.graph_order.specs.Links.{IsLink}
use Rattle.graph_order.specs.Marks.{is_marked}
use Rattle.graph_order.proofs.Reached.{set_only, link_at}
use Rattle.el_settings.specs.Asked.{is_source as gives_by_itself}
use Rattle.el_settings.specs.declared.settings.Settings.{Settings}
use Rattle.graph_core.specs.Elements.{Made}
use Rattle.graph_core.specs.Links.{way_of, ways}
use Rattle.graph_core.specs.Live.{Live, AllLive, AreLive, IsClosedWithin, IsMarkedOn, IsSpread, IsSpreading, Spreads, is_source}
use Rattle.graph_pads.specs.declared.pad.PadLink.{PadLink}

-- what is marked stays so behind one more mark
set_stays : (marks : List Bool) (k e : ℕ) → is_marked marks e ≡ true → is_marked (slice_set marks k true) e ≡ true
set_stays [] k e h = h
set_stays (m ∷ ms) zero zero h = refl
set_stays (m ∷ ms) zero (suc e) h = h
set_stays (m ∷ ms) (suc k) zero h = h
set_stays (m ∷ ms) (suc k) (suc e) h = set_stays ms k e h

pub mark_spreads : (links : List PadLink) (was marks : List Bool) (from to : ℕ) → to < length marks → IsLink from to (ways links) → is_marked marks from ≡ true → IsSpreading links was marks → IsSpreading links was (slice_set marks to true)
mark_spreads links was marks from to within link on so = record {
  size = length-set marks to true ∙ so.size;
  spreads = λ e m. go e (set_only marks to e m);
  stay = λ e m. set_stays marks to e (so.stay e m);
}
  where
    go : (e : ℕ) → (e ≡ to) ⊎ (is_marked marks e ≡ true) → Spreads links was e
    go e (inl same) = subst (λ (x : ℕ). Spreads links was x) (sym same) (Spreads.fed from to (so.spreads from on) link (omega (arith, within, so.size)))
    go e (inr m) = so.spreads e m

-- a source is marked at first
source_marked : (made : List Made) (e : ℕ) (m : Made) → slice_get made e ≡ Some m → gives_by_itself m.settings ≡ true → is_marked (map is_source made) e ≡ true
source_marked [] e m at gives = absurd (cc)
source_marked (n ∷ ns) zero m at gives = let same : n ≡ m = cc in ap is_source same ∙ gives
source_marked (n ∷ ns) (suc e) m at gives = source_marked ns e m at gives

source_at : (made : List Made) (e : ℕ) → is_marked (map is_source made) e ≡ true → (m : Made) × (slice_get made e ≡ Some m) × (gives_by_itself m.settings ≡ true)
source_at [] e h = absurd (cc)
source_at (m ∷ ms) zero h = (m, refl, h)
source_at (m ∷ ms) (suc e) h = source_at ms e h

pub sources_live : (made : List Made) (links : List PadLink) (marks : List Bool) → marks ≡ map is_source made → AllLive made links marks
sources_live made links marks same = λ e on. let at = source_at made e (ap (λ ms. is_marked ms e) (sym same) ∙ on) in Live.source e at.0 at.1 at.2

-- what holds of each link
at_way : (P : PadLink → Type 0) (links : List PadLink) (a b : ℕ) → All P links → IsLink a b (ways links) → (link : PadLink) × (link.source.element ≡ a) × (link.sink.element ≡ b) × P link
at_way P [] a b h at = absurd at
at_way P (l ∷ ls) a b h (inl same) = (l, same.0, same.1, All-head P l ls h)
at_way P (l ∷ ls) a b h (inr at) = at_way P ls a b (All-tail P l ls h) at

closed_at : (links : List PadLink) (marks : List Bool) (a b : ℕ) → IsClosedWithin links marks → IsLink a b (ways links) → is_marked marks a ≡ true → b < length marks → is_marked marks b ≡ true
closed_at links marks a b closed link on within =
    let at = at_way (λ l. IsMarkedOn l marks) links a b closed link in
    subst (λ (x : ℕ). is_marked marks x ≡ true) at.2 (at.3 (subst (λ (x : ℕ). is_marked marks x ≡ true) (sym at.1) on) (omega (arith, at.2, within)))

all_spread : (links : List PadLink) (was is : List Bool) → IsSpreading links was is → IsClosedWithin links is → (e : ℕ) → Spreads links was e → is_marked is e ≡ true
all_spread links was is so closed e (Spreads.marked x on) = so.stay e on
all_spread links was is so closed e (Spreads.fed a b from link within) = closed_at links is a e closed link (all_spread links was is so closed a from) (omega (arith, within, so.size))

-- where no link leads on, the marks have spread
pub have_spread : (links : List PadLink) (was is : List Bool) → IsSpreading links was is → IsClosedWithin links is → IsSpread links was is
have_spread links was is so closed = record { size = so.size; marked = λ e. (so.spreads e, all_spread links was is so closed e) }

-- the marks of sources spread to the live elements
pub are_live : (made : List Made) (links : List PadLink) (was is : List Bool) → was ≡ map is_source made → All (λ (link : PadLink). link.sink.element < length made) links → IsSpread links was is → AreLive made links is
are_live made links was is sources ends so = (λ e on. live e ((so.marked e).0 on), λ e is_live. (so.marked e).1 (spreads e is_live))
  where
    live : (e : ℕ) → Spreads links was e → Live made links e
    live e (Spreads.marked x on) = sources_live made links was sources e on
    live e (Spreads.fed a b from link within) = Live.fed a e (live a from) link

    spreads : (e : ℕ) → Live made links e → Spreads links was e
    spreads e (Live.source x m at gives) = Spreads.marked e (ap (λ ms. is_marked ms e) sources ∙ source_marked made e m at gives)
    spreads e (Live.fed a b from link) =
        let at = at_way (λ l. l.sink.element < length made) links a e ends link in
        Spreads.fed a e (spreads a from) link (omega (arith, at.2, at.3, ap length sources, length-map made is_source))

-- one more source
pub source_more : (made : List Made) (k : ℕ) (s : Settings) (b : Bool) (old new : List Bool) → k < length made → option_map (λ (m : Made). m.settings) (slice_get made k) ≡ Some s → b ≡ gives_by_itself s
    → old ≡ map is_source (take k made) → new ≡ old ++ b ∷ [] → new ≡ map is_source (take (k + 1) made)
source_more made k s b old new within at is so_far put = by (slice_get made k) refl at
  where
    by : (o : Option Made) → slice_get made k ≡ o → option_map (λ (m : Made). m.settings) o ≡ Some s → new ≡ map is_source (take (k + 1) made)
    by None e h = absurd (cc)
    by (Some m) e h =
        let set : m.settings ≡ s = cc in
        let more : take (k + 1) made ≡ take k made ++ m ∷ [] = take_more made k m within ∙ ap (λ x. take k made ++ x ∷ []) (get_or_from_slice_get made k m m e) in
        put ∙ ap (λ bs. bs ++ b ∷ []) so_far ∙ ap (λ x. map is_source (take k made) ++ x ∷ []) (is ∙ ap gives_by_itself (sym set)) ∙ sym (ap (map is_source) more ∙ map-append is_source (take k made) (m ∷ []))

-- a link of a list
pub is_way : (links : List PadLink) (k : ℕ) (link : PadLink) → k < length links → link ≡ get_or links k link → IsLink link.source.element link.sink.element (ways links)
is_way links k link within is = link_at (ways links) k (way_of link) (omega (arith, within, length-map links way_of)) (ap way_of is ∙ sym (get_or-map way_of links k link (way_of link) within))

pub closed_further : (was_new is_new : Bool) (links : List PadLink) (k : ℕ) (link : PadLink) (old new : List Bool) → k < length links → link ≡ get_or links k link → (was_new ≡ false → IsClosedWithin (take k links) old)
    → (is_new ≡ false → new ≡ old) → (is_new ≡ false → IsMarkedOn link old) → (was_new || is_new) ≡ false → IsClosedWithin (take (k + 1) links) new
closed_further was_new is_new links k link old new within is closed same one none =
    let n = neither was_new is_new none in
    subst (λ (ms : List Bool). IsClosedWithin (take (k + 1) links) ms) (sym (same n.1))
    (All-more (λ (l : PadLink). IsMarkedOn l old) links k link within (closed n.0) (subst (λ (l : PadLink). IsMarkedOn l old) is (one n.1)))
