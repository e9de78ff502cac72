-- What is known of an edited graph is known of it with a link more.
use Rattle.std.proofs.Common.{◌≡◌, ◌&&◌, ◌||◌, ℕ, Bool, true, false, eqb, if◌then◌else◌, not, List, [], ◌∷◌, ◌++◌, refl, ap, ◌∙◌, inl, inr}
use Rattle.std.specs.Prelude.{nat_lt}
use Rattle.std.specs.List.{list_any}
use Rattle.std.proofs.lemmas.Bool.{true≢false}
use Rattle.flow_model.specs.Link.{Linked}
use Rattle.el_settings.specs.Asked.{is_source}
use Rattle.gst_value.proofs.Places.{any_append}
use Rattle.graph_core.specs.Elements.{has}
use Rattle.graph_core.specs.GraphPlan.{IsIn, pad_id}
use Rattle.graph_pads.specs.declared.pad.PadLink.{PadLink}
use Rattle.graph_pads.specs.declared.pad.PadPlace.{PadPlace}
use Rattle.flow_model.specs.Edit.{push_span}
use Rattle.graph_edits.specs.Edited.{Edited, link_between, linked_at, touches}
use Rattle.graph_edits.specs.Plans.{is_asleep}
use Rattle.edit_core.specs.Marks.{AllUnmarked, IsUnmarked}
use Rattle.edit_core.proofs.Marks.{pushed}

pub linked_unmarked : (g : Edited) (source : PadPlace) (place : ℕ) (to : PadPlace) → IsUnmarked g → IsUnmarked (linked_at source place to g)
linked_unmarked g source place to none e = by (eqb e to.element)
  where
    by : (here : Bool) → AllUnmarked (if here then push_span to.pad (Linked (pad_id source) place []) (g.spans e) else g.spans e)
    by true = pushed (pad_id source) place to.pad (g.spans e) (none e)
    by false = none e

-- one link more that stands is one more that was made
more_made : (more link : PadLink) (links ever : List PadLink) → ((one : PadLink) → IsIn one links → IsIn one ever) → IsIn link (links ++ more ∷ []) → IsIn link (ever ++ more ∷ [])
more_made more link [] ever each (inl same) = last ever
  where
    last : (xs : List PadLink) → IsIn link (xs ++ more ∷ [])
    last [] = inl same
    last (x ∷ xs) = inr (last xs)
more_made more link [] ever each (inr none) = absurd none
more_made more link (one ∷ links) ever each (inl same) = front ever (each link (inl same))
  where
    front : (xs : List PadLink) → IsIn link xs → IsIn link (xs ++ more ∷ [])
    front [] is = absurd is
    front (x ∷ xs) (inl same) = inl same
    front (x ∷ xs) (inr is) = inr (front xs is)
more_made more link (one ∷ links) ever each (inr is) = more_made more link links ever (λ other is. each other (inr is)) is

pub linked_made : (g : Edited) (source : PadPlace) (place : ℕ) (to : PadPlace) → ((link : PadLink) → IsIn link g.links → IsIn link g.ever) → (link : PadLink) → IsIn link (linked_at source place to g).links → IsIn link (linked_at source place to g).ever
linked_made g source place to made link is = more_made (link_between source to) link g.links g.ever made is

-- a source that is awake stays so
wakes : (a b x y : Bool) → (a && not (b || x)) ≡ false → (a && not (b || (x || y))) ≡ false
wakes false b x y awake = refl
wakes true true x y awake = refl
wakes true false true y awake = refl
wakes true false false y awake = absurd (true≢false awake)

pub still_awake : (g : Edited) (source : PadPlace) (place : ℕ) (to : PadPlace) (n : ℕ) → is_asleep g n ≡ false → is_asleep (linked_at source place to g) n ≡ false
still_awake g source place to n awake =
    ap (λ (any : Bool). has is_source g.made n && not (nat_lt n g.lined || any)) (any_append (touches n) g.ever (link_between source to ∷ []))
    ∙ wakes (has is_source g.made n) (nat_lt n g.lined) (list_any (touches n) g.ever) (list_any (touches n) (link_between source to ∷ [])) awake
