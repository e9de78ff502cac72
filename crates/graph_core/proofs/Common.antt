-- What all pads of an element are allowed.
use Rattle.std.proofs.Common.{◌≡◌, ◌<◌, ◌≤◌, ◌+◌, ◌-◌, ℕ, zero, suc, Bool, true, false, List, Option, None, Some, Err, All, IfSome, slice_get, refl, sym, ap, ◌∙◌, subst, arith, if◌then◌else◌}
use Rattle.std.specs.Option.{option_map_or}
use Rattle.gst_value.specs.Limit.{IsFaultWhere}
use Rattle.gst_caps.specs.Accepts.{intersection, passes}
use Rattle.gst_caps.specs.declared.caps.Caps.{Caps}
use Rattle.gst_caps.specs.declared.caps.Caps.TheVariants.{Any}
use Rattle.gst_value.specs.declared.fault.CapsFault.{CapsFault}
use Rattle.gst_value.specs.declared.fault.CapsFault.TheVariants.{TooMany, OutOfMemory}
use Rattle.el_settings.specs.Asked.{hands_on, makes_sources, sink_pads, template_of}
use Rattle.graph_core.specs.Allowed.{Allows, Answers, Falls, all_common, allowed_before, both, filtered, first_pad}
use Rattle.graph_core.specs.Elements.{Made}
use Rattle.graph_core.specs.Ends.{pads_at}
use Rattle.graph_pads.specs.Pads.{links_at}
use Rattle.graph_core.specs.Links.{HasPads}
use Rattle.graph_pads.specs.Links.{sink_behind}
use Rattle.graph_pads.specs.declared.pad.Direction.TheVariants.{Sink, Source}
use Rattle.graph_pads.specs.declared.pad.PadLink.{PadLink}
use Rattle.graph_pads.specs.declared.pad.PadPlace.{PadPlace}
use Rattle.graph_core.proofs.Allowing.{one_allowed}
use Rattle.graph_core.proofs.Joining.{sink_found}
use Rattle.graph_core.proofs.LinkedOnce.{place_of}

-- some caps, or too many of them, that are allowed
abbrev pub AllowsSome : List Made → List PadLink → PadPlace → Type 0
AllowsSome made links source = (caps : Option Caps) × Allows made links source caps

module _ (made : List Made) (links : List PadLink) (pads : All (HasPads made) links) (rank : ℕ → ℕ) (falls : Falls links rank) where
  behind_element : (source sink : PadPlace) (m : Made) → sink_behind links source ≡ Some sink → slice_get made sink.element ≡ Some m → ((place : PadPlace) → place.element ≡ sink.element → AllowsSome made links place) → AllowsSome made links source
  behind_element source sink m linked there rest = by (hands_on m.settings) (makes_sources m.settings) refl refl
    where
      by : (hands splits : Bool) → hands_on m.settings ≡ hands → makes_sources m.settings ≡ splits → AllowsSome made links source
      by true splits e f = let behind = rest (first_pad sink.element) refl in (allowed_before m.settings behind.0, Allows.through source sink m behind.0 linked there e behind.1)
      by false true e f =
          let each : ℕ → Option Caps = λ k. (rest (place_of sink.element k) refl).0 in
          (all_common each (links_at links Source sink.element), Allows.split source sink m each linked there f (λ k w. (rest (place_of sink.element k) refl).1))
      by false false e f = (Some (template_of m.settings true), Allows.taken source sink m linked there e f)

  behind_sink : (source sink : PadPlace) → sink_behind links source ≡ Some sink → ((place : PadPlace) → place.element ≡ sink.element → AllowsSome made links place) → AllowsSome made links source
  behind_sink source sink linked rest = by (slice_get made sink.element) refl (subst (λ (o : Option PadPlace). IfSome o (λ (p : PadPlace). p.pad < pads_at made Sink p.element)) linked (sink_found made links source pads))
    where
      by : (o : Option Made) → slice_get made sink.element ≡ o → sink.pad < option_map_or (λ (m : Made). sink_pads m.settings) o 0 → AllowsSome made links source
      by None e w = absurd (omega (arith, w))
      by (Some m) e w = behind_element source sink m linked e rest

  -- each source pad is allowed something
  pub allows_some : (limit : ℕ) (source : PadPlace) → rank source.element < limit → AllowsSome made links source
  allows_some zero source less = absurd (omega (arith, less))
  allows_some (suc limit) source less = by (sink_behind links source) refl (λ place w. allows_some limit place w)
    where
      by : (o : Option PadPlace) → sink_behind links source ≡ o → ((place : PadPlace) → rank place.element < limit → AllowsSome made links place) → AllowsSome made links source
      by None e rest = (Some Any, Allows.unlinked source e)
      by (Some sink) e rest = behind_sink source sink e (λ place same. rest place (let fall = falls source sink e in subst (λ (n : ℕ). rank n < limit) (sym same) (omega (arith, fall, less))))

-- what is common to more pads
none_stays : (each : ℕ → Option Caps) (n m : ℕ) → all_common each n ≡ None → all_common each (n + m) ≡ None
none_stays each n zero none = let e : n + 0 ≡ n = omega arith in ap (all_common each) e ∙ none
none_stays each n (suc m) none = let e : n + suc m ≡ suc (n + m) = omega arith in ap (all_common each) e ∙ ap (λ (x : Option Caps). both x (each (n + m))) (none_stays each n m none)

pub none_of_all : (each : ℕ → Option Caps) (n pads : ℕ) → n ≤ pads → all_common each n ≡ None → all_common each pads ≡ None
none_of_all each n pads within none = let e : pads ≡ n + (pads - n) = omega (arith, within) in ap (all_common each) e ∙ none_stays each n (pads - n) none

module _ (made : List Made) (links : List PadLink) (element n : ℕ) (each : ℕ → Option Caps) (common : Caps) (here : all_common each n ≡ Some common) (allows : Allows made links (place_of element n) (each n)) where
  next_common : (behind : Option Caps) → Allows made links (place_of element n) behind → all_common each (suc n) ≡ filtered common behind
  next_common behind h = ap (λ (x : Option Caps). both x (each n)) here ∙ ap (filtered common) (one_allowed made links (place_of element n) (each n) behind allows h)

  pub more_common : (behind new : Caps) → Allows made links (place_of element n) (Some behind) → new ≡ intersection common behind → (passes (intersection common behind) ≡ true → ⊥) → all_common each (n + 1) ≡ Some new
  more_common behind new h is few = let e : n + 1 ≡ suc n = omega arith in ap (all_common each) e ∙ next_common (Some behind) h ∙ by (passes (intersection common behind)) refl
    where
      by : (b : Bool) → passes (intersection common behind) ≡ b → filtered common (Some behind) ≡ Some new
      by true p = absurd (few p)
      by false p = ap (λ (b : Bool). if b then None else Some (intersection common behind)) p ∙ ap Some (sym is)

  pub too_common : (behind : Caps) → Allows made links (place_of element n) (Some behind) → passes (intersection common behind) ≡ true → all_common each (n + 1) ≡ None
  too_common behind h many = let e : n + 1 ≡ suc n = omega arith in ap (all_common each) e ∙ next_common (Some behind) h ∙ ap (λ (b : Bool). if b then None else Some (intersection common behind)) many

  pub none_common : Allows made links (place_of element n) None → all_common each (n + 1) ≡ None
  none_common h = let e : n + 1 ≡ suc n = omega arith in ap (all_common each) e ∙ next_common None h

  -- the fault of one of the pads is that of all
  pub fault_behind : (pads : ℕ) → n < pads → (fault : CapsFault) → Answers (Allows made links (place_of element n)) (Err fault) → Answers (λ answer. answer ≡ all_common each pads) (Err fault)
  fault_behind pads within (TooMany count) h = (sym (none_of_all each (n + 1) pads (omega (arith, within)) (none_common h.0)), h.1)
  fault_behind pads within OutOfMemory h = tt

  pub fault_common : (pads : ℕ) → n < pads → (behind : Caps) → Allows made links (place_of element n) (Some behind) → (fault : CapsFault) → IsFaultWhere fault (passes (intersection common behind) ≡ true) → Answers (λ answer. answer ≡ all_common each pads) (Err fault)
  fault_common pads within behind h (TooMany count) told = (sym (none_of_all each (n + 1) pads (omega (arith, within)) (too_common behind h told.0)), told.1)
  fault_common pads within behind h OutOfMemory told = tt
