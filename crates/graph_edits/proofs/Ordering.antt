-- Between which elements links ever were made, where a link more is.
use Rattle.std.proofs.Common.{◌≡◌, ◌++◌, ◌∷◌, [], ◌||◌, ◌↔◌, ℕ, Bool, true, false, Result, Ok, Err, IfOk, IsTrue, OnErr, refl, sym, ap, ◌∙◌, subst}
use Rattle.std.specs.List.{list_any}
use Rattle.std.proofs.lemmas.List.{map-append}
use Rattle.gst_value.proofs.Places.{any_append}
use Rattle.graph_core.specs.Links.{way_of, ways}
use Rattle.graph_edits.specs.Edited.{Edited, link_between, touches}
use Rattle.graph_edits.specs.Refused.{Loops}
use Rattle.graph_order.specs.Forward.{AfterOneLink, IsForward, link_of, links_of}
use Rattle.graph_order.specs.Links.{AreSameLinks, Way}
use Rattle.graph_order.specs.declared.order.Linking.{Linking}
use Rattle.graph_order.specs.declared.order.Linking.TheVariants.{Linked, Loops as WouldLoop}
use Rattle.graph_order.specs.declared.order.Order.{Order}
use Rattle.graph_order.proofs.Same.{same_back, same_both, same_links, same_more, same_way}
use Rattle.graph_pads.specs.declared.pad.PadPlace.{PadPlace}

module _ (old new : Order) (g : Edited) (source sink : PadPlace) (ever : AreSameLinks (links_of old) (ways g.ever)) where
  -- the links that ever were made are those of before and one more
  ever_more : AreSameLinks (links_of new) (links_of old ++ link_of source.element sink.element ∷ []) → AreSameLinks (links_of new) (ways (g.ever ++ link_between source sink ∷ []))
  ever_more more =
      same_both (links_of new) (links_of old ++ link_of source.element sink.element ∷ []) (ways (g.ever ++ link_between source sink ∷ [])) more
      (same_both (links_of old ++ link_of source.element sink.element ∷ []) (ways g.ever ++ link_of source.element sink.element ∷ []) (ways (g.ever ++ link_between source sink ∷ []))
      (same_more (links_of old) (ways g.ever) (link_of source.element sink.element ∷ []) ever)
      (same_links (ways g.ever ++ link_of source.element sink.element ∷ []) (ways (g.ever ++ link_between source sink ∷ [])) (sym (map-append way_of g.ever (link_between source sink ∷ [])))))

  no_loop : (Way (links_of old) sink.element source.element → ⊥) → Loops g source sink → ⊥
  no_loop none loops = none (same_way (ways g.ever) (links_of old) sink.element source.element (same_back (links_of old) (ways g.ever) ever) loops)

  module _ (linking : Linking) (after : IsForward old → AfterOneLink old source.element sink.element new linking) (forward : IsForward old) where
    pub linked_once : linking ≡ Linked → (Loops g source sink → ⊥) × AreSameLinks (links_of new) (ways (g.ever ++ link_between source sink ∷ []))
    linked_once is = let made = subst (λ (l : Linking). AfterOneLink old source.element sink.element new l) is (after forward) in (no_loop made.0, ever_more made.1)

    pub looped_once : linking ≡ WouldLoop → Loops g source sink × (new ≡ old)
    looped_once is = let made = subst (λ (l : Linking). AfterOneLink old source.element sink.element new l) is (after forward) in (same_way (links_of old) (ways g.ever) sink.element source.element ever made.0, made.1)

-- whether elements would feed themselves
pub loops_told : {W : Type 0} (order : Order) (g : Edited) (source sink : PadPlace) → AreSameLinks (links_of order) (ways g.ever)
    → (r : Result Bool W) → IfOk r (λ leads. IsTrue leads ↔ Way (links_of order) sink.element source.element) → IfOk r (λ loops. IsTrue loops ↔ Loops g source sink)
loops_told order g source sink ever (Ok leads) told = (
  λ so. same_way (links_of order) (ways g.ever) sink.element source.element ever (told.0 so),
  λ loops. told.1 (same_way (ways g.ever) (links_of order) sink.element source.element (same_back (links_of order) (ways g.ever) ever) loops),
)
loops_told order g source sink ever (Err none) told = tt

-- the elements of one more link were touched too
pub touched_more : (g : Edited) (source sink : PadPlace) (e : ℕ) → (list_any (touches e) g.ever || touches e (link_between source sink)) ≡ list_any (touches e) (g.ever ++ link_between source sink ∷ [])
touched_more g source sink e = sym (any_append (touches e) g.ever (link_between source sink ∷ []) ∙ ap (λ (b : Bool). list_any (touches e) g.ever || b) (or_none (touches e (link_between source sink))))
  where
    or_none : (b : Bool) → (b || false) ≡ b
    or_none true = refl
    or_none false = refl

-- what holds anyway holds where memory was wanting
pub where_refused : {A E : Type 0} {P : Type 0} (r : Result A E) → P → OnErr r P
where_refused (Ok a) holds = tt
where_refused (Err e) holds = holds
