-- What source pads are allowed is one, and does not depend on what converters are set to.
use Rattle.std.proofs.Common.{◌≡◌, ◌⊎◌, ◌<◌, ℕ, zero, suc, Bool, true, false, List, Option, None, Some, slice_get, refl, sym, ap, ◌∙◌, subst, inl, inr, arith}
use Rattle.std.specs.Option.{option_map_or}
use Rattle.gst_caps.specs.declared.caps.Caps.{Caps}
use Rattle.gst_caps.specs.declared.caps.Caps.TheVariants.{Any}
use Rattle.el_settings.specs.Asked.{allowed_of, filter_caps, hands_on, is_converter, makes_sources, template_of, with_allowed, with_pads}
use Rattle.el_settings.specs.declared.pads.MadePads.{MadePads}
use Rattle.el_settings.specs.declared.settings.Settings.{Settings}
use Rattle.el_settings.proofs.Allowing.{converter_padded, converter_set, filter_padded, filter_set, hands_padded, hands_set, template_padded, template_set}
use Rattle.graph_core.specs.Allowed.{Allows, AreAllowed, IsTooWide, all_common, allowed_before, both, checked, filtered, first_pad}
use Rattle.graph_core.specs.Elements.{Made}
use Rattle.graph_pads.specs.Pads.{links_at}
use Rattle.graph_pads.specs.Links.{sink_behind}
use Rattle.graph_pads.specs.declared.pad.Direction.TheVariants.{Source}
use Rattle.graph_pads.specs.declared.pad.PadLink.{PadLink}
use Rattle.graph_pads.specs.declared.pad.PadPlace.{PadPlace}
use Rattle.graph_core.proofs.Bare.{alike_asked, alike_at, bare, makes_alike}
use Rattle.graph_core.proofs.LinkedOnce.{place_of}
use Rattle.el_settings.proofs.Padded.{split_alone}
use Rattle.gst_value.proofs.Basics.{one_some as some_same}

none_some : {A P : Type 0} (o : Option A) (a : A) → o ≡ None → o ≡ Some a → P
none_some o a e f = absurd (cc)

pub never_true : {P : Type 0} (b : Bool) → b ≡ true → b ≡ false → P
never_true b e f = absurd (cc)

-- what is common to as many caps that are the same is the same
pub common_same : (one other : ℕ → Option Caps) (n : ℕ) → ((k : ℕ) → k < n → one k ≡ other k) → all_common one n ≡ all_common other n
common_same one other zero same = refl
common_same one other (suc n) same =
    ap (λ (x : Option Caps). both x (one n)) (common_same one other n (λ k w. same k (omega (arith, w)))) ∙ ap (both (all_common other n)) (same n (omega arith))

-- what is allowed through an element that hands it on
record Through (made : List Made) (links : List PadLink) (source : PadPlace) (answer : Option Caps) : Type 0 where
  sink : PadPlace
  element : Made
  behind : Option Caps
  linked : sink_behind links source ≡ Some sink
  there : slice_get made sink.element ≡ Some element
  hands : hands_on element.settings ≡ true
  rest : Allows made links (first_pad sink.element) behind
  is : answer ≡ allowed_before element.settings behind

-- what is allowed behind each pad of an element that splits the stream
record Split (made : List Made) (links : List PadLink) (source : PadPlace) (answer : Option Caps) : Type 0 where
  sink : PadPlace
  element : Made
  each : ℕ → Option Caps
  linked : sink_behind links source ≡ Some sink
  there : slice_get made sink.element ≡ Some element
  makes : makes_sources element.settings ≡ true
  rest : (k : ℕ) → k < links_at links Source sink.element → Allows made links (place_of sink.element k) (each k)
  is : answer ≡ all_common each (links_at links Source sink.element)

-- what a sink pad takes
record Taken (made : List Made) (links : List PadLink) (source : PadPlace) (answer : Option Caps) : Type 0 where
  sink : PadPlace
  element : Made
  linked : sink_behind links source ≡ Some sink
  there : slice_get made sink.element ≡ Some element
  hands : hands_on element.settings ≡ false
  makes : makes_sources element.settings ≡ false
  is : answer ≡ Some (template_of element.settings true)

module _ (made : List Made) (links : List PadLink) where
  abbrev Told : PadPlace → Option Caps → Type 0
  Told source answer = ((sink_behind links source ≡ None) × (answer ≡ Some Any)) ⊎ (Through made links source answer ⊎ (Split made links source answer ⊎ Taken made links source answer))

  told : (source : PadPlace) (answer : Option Caps) → Allows made links source answer → Told source answer
  told source answer (Allows.unlinked s none) = inl (none, refl)
  told source answer (Allows.through s sink m behind linked there hands rest) = inr (inl (record { sink = sink; element = m; behind = behind; linked = linked; there = there; hands = hands; rest = rest; is = refl }))
  told source answer (Allows.split s sink m each linked there makes rest) = inr (inr (inl (record { sink = sink; element = m; each = each; linked = linked; there = there; makes = makes; rest = rest; is = refl })))
  told source answer (Allows.taken s sink m linked there hands makes) = inr (inr (inr (record { sink = sink; element = m; linked = linked; there = there; hands = hands; makes = makes; is = refl })))

  unlinked_one : (source : PadPlace) (b : Option Caps) → sink_behind links source ≡ None → Told source b → Some Any ≡ b
  unlinked_one source b none (inl t) = sym t.1
  unlinked_one source b none (inr (inl t)) = none_some (sink_behind links source) t.sink none t.linked
  unlinked_one source b none (inr (inr (inl t))) = none_some (sink_behind links source) t.sink none t.linked
  unlinked_one source b none (inr (inr (inr t))) = none_some (sink_behind links source) t.sink none t.linked

  module _ (source sink : PadPlace) (m : Made) (linked : sink_behind links source ≡ Some sink) (there : slice_get made sink.element ≡ Some m) where
    same_sink : (other : PadPlace) → sink_behind links source ≡ Some other → sink ≡ other
    same_sink other also = some_same (sink_behind links source) sink other linked also

    same_element : (other : PadPlace) (n : Made) → sink_behind links source ≡ Some other → slice_get made other.element ≡ Some n → m ≡ n
    same_element other n also at = some_same (slice_get made sink.element) m n there (ap (λ (p : PadPlace). slice_get made p.element) (same_sink other also) ∙ at)

    asked_one : {A : Type 0} (asked : Settings → A) (other : PadPlace) (n : Made) → sink_behind links source ≡ Some other → slice_get made other.element ≡ Some n → asked m.settings ≡ asked n.settings
    asked_one asked other n also at = ap (λ (x : Made). asked x.settings) (same_element other n also at)

    through_one : (behind b : Option Caps) → hands_on m.settings ≡ true → ((c : Option Caps) → Allows made links (first_pad sink.element) c → behind ≡ c) → Told source b → allowed_before m.settings behind ≡ b
    through_one behind b hands one (inl t) = none_some (sink_behind links source) sink t.0 linked
    through_one behind b hands one (inr (inl t)) =
        let rest = one t.behind (subst (λ (p : PadPlace). Allows made links (first_pad p.element) t.behind) (sym (same_sink t.sink t.linked)) t.rest) in
        ap (λ (x : Made). allowed_before x.settings behind) (same_element t.sink t.element t.linked t.there) ∙ ap (allowed_before t.element.settings) rest ∙ sym t.is
    through_one behind b hands one (inr (inr (inl t))) = never_true (hands_on m.settings) hands (split_alone m.settings (asked_one makes_sources t.sink t.element t.linked t.there ∙ t.makes))
    through_one behind b hands one (inr (inr (inr t))) = never_true (hands_on m.settings) hands (asked_one hands_on t.sink t.element t.linked t.there ∙ t.hands)

    split_one : (each : ℕ → Option Caps) (b : Option Caps) → makes_sources m.settings ≡ true → ((k : ℕ) → k < links_at links Source sink.element → (c : Option Caps) → Allows made links (place_of sink.element k) c → each k ≡ c)
        → Told source b → all_common each (links_at links Source sink.element) ≡ b
    split_one each b makes one (inl t) = none_some (sink_behind links source) sink t.0 linked
    split_one each b makes one (inr (inl t)) = never_true (hands_on m.settings) (asked_one hands_on t.sink t.element t.linked t.there ∙ t.hands) (split_alone m.settings makes)
    split_one each b makes one (inr (inr (inl t))) =
        let same : t.sink ≡ sink = sym (same_sink t.sink t.linked) in
        let rest : (k : ℕ) → k < links_at links Source sink.element → Allows made links (place_of sink.element k) (t.each k) =
        subst (λ (p : PadPlace). (k : ℕ) → k < links_at links Source p.element → Allows made links (place_of p.element k) (t.each k)) same t.rest
        in
        common_same each t.each (links_at links Source sink.element) (λ k w. one k w (t.each k) (rest k w)) ∙ ap (λ (p : PadPlace). all_common t.each (links_at links Source p.element)) (sym same) ∙ sym t.is
    split_one each b makes one (inr (inr (inr t))) = never_true (makes_sources m.settings) makes (asked_one makes_sources t.sink t.element t.linked t.there ∙ t.makes)

    taken_one : (b : Option Caps) → hands_on m.settings ≡ false → makes_sources m.settings ≡ false → Told source b → Some (template_of m.settings true) ≡ b
    taken_one b hands makes (inl t) = none_some (sink_behind links source) sink t.0 linked
    taken_one b hands makes (inr (inl t)) = never_true (hands_on m.settings) (asked_one hands_on t.sink t.element t.linked t.there ∙ t.hands) hands
    taken_one b hands makes (inr (inr (inl t))) = never_true (makes_sources m.settings) (asked_one makes_sources t.sink t.element t.linked t.there ∙ t.makes) makes
    taken_one b hands makes (inr (inr (inr t))) = ap (λ (x : Made). Some (template_of x.settings true)) (same_element t.sink t.element t.linked t.there) ∙ sym t.is

  -- a source pad is allowed one thing
  pub one_allowed : (source : PadPlace) (a b : Option Caps) → Allows made links source a → Allows made links source b → a ≡ b
  one_allowed source a b (Allows.unlinked s none) h = unlinked_one source b none (told source b h)
  one_allowed source a b (Allows.through s sink m behind linked there hands rest) h = through_one source sink m linked there behind b hands (λ c g. one_allowed (first_pad sink.element) behind c rest g) (told source b h)
  one_allowed source a b (Allows.split s sink m each linked there makes rest) h = split_one source sink m linked there each b makes (λ k w c g. one_allowed (place_of sink.element k) (each k) c (rest k w) g) (told source b h)
  one_allowed source a b (Allows.taken s sink m linked there hands makes) h = taken_one source sink m linked there b hands makes (told source b h)

template_kept : (pads : MadePads) (s : Settings) → template_of (with_pads pads s) true ≡ template_of s true
template_kept pads s = template_padded pads s true

template_given : (caps : Caps) (s : Settings) → template_of (with_allowed caps s) true ≡ template_of s true
template_given caps s = template_set caps true s

module _ (m n : Made) (like : bare m ≡ bare n) where
  pub converter_like : is_converter m.settings ≡ is_converter n.settings
  converter_like = alike_asked is_converter converter_padded converter_set m n like

  hands_like : hands_on n.settings ≡ hands_on m.settings
  hands_like = sym (alike_asked hands_on hands_padded hands_set m n like)

  makes_like : makes_sources n.settings ≡ makes_sources m.settings
  makes_like = sym (makes_alike Source m n like)

  template_like : template_of n.settings true ≡ template_of m.settings true
  template_like = sym (alike_asked (λ (s : Settings). template_of s true) template_kept template_given m n like)

  before_like : (behind : Option Caps) → allowed_before n.settings behind ≡ allowed_before m.settings behind
  before_like behind = ap (λ (o : Option Caps). option_map_or (λ own. filtered own behind) o behind) (sym (alike_asked filter_caps filter_padded filter_set m n like))

module _ (ms ns : List Made) (links : List PadLink) (same : checked ms ≡ checked ns) where
  -- the source pads of elements that are alike are allowed the same
  pub allows_alike : (source : PadPlace) (answer : Option Caps) → Allows ms links source answer → Allows ns links source answer
  allows_alike source answer (Allows.unlinked s none) = Allows.unlinked source none
  allows_alike source answer (Allows.through s sink m behind linked there hands rest) = through (allows_alike (first_pad sink.element) behind rest) (alike_at ms ns sink.element m same there)
    where
      through : Allows ns links (first_pad sink.element) behind → (n : Made) × (slice_get ns sink.element ≡ Some n) × (bare m ≡ bare n) → Allows ns links source (allowed_before m.settings behind)
      through rest (n, at, like) = subst (λ (x : Option Caps). Allows ns links source x) (before_like m n like behind) (Allows.through source sink n behind linked at (hands_like m n like ∙ hands) rest)
  allows_alike source answer (Allows.split s sink m each linked there makes rest) = split (λ k w. allows_alike (place_of sink.element k) (each k) (rest k w)) (alike_at ms ns sink.element m same there)
    where
      split : ((k : ℕ) → k < links_at links Source sink.element → Allows ns links (place_of sink.element k) (each k)) → (n : Made) × (slice_get ns sink.element ≡ Some n) × (bare m ≡ bare n)
          → Allows ns links source (all_common each (links_at links Source sink.element))
      split rest (n, at, like) = Allows.split source sink n each linked at (makes_like m n like ∙ makes) rest
  allows_alike source answer (Allows.taken s sink m linked there hands makes) = taken (alike_at ms ns sink.element m same there)
    where
      taken : (n : Made) × (slice_get ns sink.element ≡ Some n) × (bare m ≡ bare n) → Allows ns links source (Some (template_of m.settings true))
      taken (n, at, like) = subst (λ (x : Caps). Allows ns links source (Some x)) (template_like m n like) (Allows.taken source sink n linked at (hands_like m n like ∙ hands) (makes_like m n like ∙ makes))

  pub wide_alike : IsTooWide ms links → IsTooWide ns links
  wide_alike wide = go (alike_at ms ns wide.element wide.converter same wide.there)
    where
      go : (n : Made) × (slice_get ns wide.element ≡ Some n) × (bare wide.converter ≡ bare n) → IsTooWide ns links
      go (n, at, like) = record { element = wide.element; converter = n; there = at; converts = sym (converter_like wide.converter n like) ∙ wide.converts; wide = allows_alike (first_pad wide.element) None wide.wide }

-- converters are not allowed something and too much
pub never_too_wide : (made : List Made) (links : List PadLink) → AreAllowed made links → IsTooWide made links → ⊥
never_too_wide made links are wide =
    let e = one_allowed made links (first_pad wide.element) (Some (allowed_of wide.converter.settings)) None (are wide.element wide.converter wide.there wide.converts) wide.wide in
    cc
