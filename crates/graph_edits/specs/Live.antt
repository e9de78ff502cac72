-- Which elements of an edited graph are live.
use Rattle.std.specs.Prelude.{◌≡◌, ◌<◌, ◌&&◌, ℕ, Bool, true, Some, length, slice_get}
use Rattle.el_settings.specs.Asked.{is_source}
use Rattle.graph_core.specs.Elements.{Made, has}
use Rattle.graph_core.specs.Links.{ways}
use Rattle.graph_order.specs.Links.{IsLink}
use Rattle.graph_edits.specs.Edited.{Edited, is_active}

-- an active source is live, and so is an element of which a sink pad is linked to a live element now
pub data IsLive (g : Edited) : ℕ → Type 0 where
  source : (e : ℕ) (m : Made) → slice_get g.made e ≡ Some m → is_source m.settings ≡ true → is_active g e ≡ true → IsLive g e
  fed : (a b : ℕ) → IsLive g a → IsLink a b (ways g.links) → b < length g.made → IsLive g b

abbrev pub is_active_source : Edited → ℕ → Bool
is_active_source g e = is_active g e && has is_source g.made e
