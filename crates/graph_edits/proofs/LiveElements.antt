-- The marks of active sources spread to the live elements.
use Rattle.std.proofs.Common.{◌≡◌, ◌<◌, ◌+◌, ◌↔◌, ℕ, zero, suc, Bool, true, false, List, [], ◌∷◌, ◌++◌, Option, None, Some, length, slice_get, refl, sym, ap, ◌∙◌, arith}
use Rattle.std.specs.Option.{option_map, option_map_or}
use Rattle.el_settings.specs.Asked.{is_source}
use Rattle.el_settings.specs.declared.settings.Settings.{Settings}
use Rattle.graph_core.specs.Elements.{Made, has}
use Rattle.graph_core.specs.Live.{IsSpread, Spreads}
use Rattle.graph_order.specs.Marks.{is_marked}
use Rattle.gst_value.proofs.Basics.{and_both, and_left, and_right}
use Rattle.graph_edits.specs.Edited.{Edited, is_active}
use Rattle.graph_edits.specs.Live.{IsLive, is_active_source}

pub has_settings : (asked : Settings → Bool) (made : List Made) (e : ℕ) (s : Settings) → option_map (λ (m : Made). m.settings) (slice_get made e) ≡ Some s → has asked made e ≡ asked s
has_settings asked made e s at = by (slice_get made e) at
  where
    by : (o : Option Made) → option_map (λ (m : Made). m.settings) o ≡ Some s → option_map_or (λ (m : Made). asked m.settings) o false ≡ asked s
    by None is = absurd (cc)
    by (Some m) is = let same : m.settings ≡ s = cc in ap asked same

marked_within : (marks : List Bool) (e : ℕ) → is_marked marks e ≡ true → e < length marks
marked_within [] e h = absurd (cc)
marked_within (m ∷ marks) zero h = omega arith
marked_within (m ∷ marks) (suc e) h = let within = marked_within marks e h in omega (arith, within)

found_within : (made : List Made) (e : ℕ) (m : Made) → slice_get made e ≡ Some m → e < length made
found_within [] e m at = absurd (cc)
found_within (n ∷ made) zero m at = omega arith
found_within (n ∷ made) (suc e) m at = let within = found_within made e m at in omega (arith, within)

-- one more mark
pub mark_more : (wanted : ℕ → Bool) (marks : List Bool) (b : Bool) (e : ℕ) → ((k : ℕ) → k < length marks → is_marked marks k ≡ wanted k) → b ≡ wanted (length marks) → e < length marks + 1 → is_marked (marks ++ b ∷ []) e ≡ wanted e
mark_more wanted [] b zero so_far one within = one
mark_more wanted [] b (suc e) so_far one within = absurd (omega (arith, within))
mark_more wanted (m ∷ marks) b zero so_far one within = so_far 0 (omega arith)
mark_more wanted (m ∷ marks) b (suc e) so_far one within = mark_more (λ k. wanted (suc k)) marks b e (λ k inside. so_far (suc k) (omega (arith, inside))) one (omega (arith, within))

module _ (g : Edited) (was is : List Bool) (size : length was ≡ length g.made) (marked : (e : ℕ) → e < length g.made → is_marked was e ≡ is_active_source g e) (so : IsSpread g.links was is) where
  source_live : (e : ℕ) → is_active_source g e ≡ true → IsLive g e
  source_live e both = by (slice_get g.made e) refl (and_right (is_active g e) (has is_source g.made e) both)
    where
      by : (o : Option Made) → slice_get g.made e ≡ o → option_map_or (λ (m : Made). is_source m.settings) o false ≡ true → IsLive g e
      by None at h = absurd (cc)
      by (Some m) at h = IsLive.source e m at h (and_left (is_active g e) (has is_source g.made e) both)

  live : (e : ℕ) → Spreads g.links was e → IsLive g e
  live e (Spreads.marked x on) = source_live e (sym (marked e (omega (arith, size, marked_within was e on))) ∙ on)
  live e (Spreads.fed a b from link within) = IsLive.fed a e (live a from) link (omega (arith, size, within))

  spreads : (e : ℕ) → IsLive g e → Spreads g.links was e
  spreads e (IsLive.source x m at gives active) =
      let source = ap (λ (o : Option Made). option_map_or (λ (m : Made). is_source m.settings) o false) at ∙ gives in
      Spreads.marked e (marked e (found_within g.made e m at) ∙ and_both (is_active g e) (has is_source g.made e) active source)
  spreads e (IsLive.fed a b from link within) = Spreads.fed a e (spreads a from) link (omega (arith, size, within))

  pub live_marked : (e : ℕ) → (is_marked is e ≡ true) ↔ IsLive g e
  live_marked e = (λ on. live e ((so.marked e).0 on), λ is_live. (so.marked e).1 (spreads e is_live))
