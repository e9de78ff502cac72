-- Elements that are alike, and are set to what they are allowed and to the pads that links make, are the same.
use Rattle.std.proofs.Common.{◌≡◌, ℕ, suc, Bool, true, false, List, [], ◌∷◌, Some, slice_get, refl, sym, ap, ◌∙◌}
use Rattle.gst_caps.specs.declared.caps.Caps.{Caps}
use Rattle.gst_caps.specs.declared.caps.Caps.TheVariants.{Any}
use Rattle.el_settings.specs.Asked.{allowed_of, is_converter, makes_sinks, makes_sources, no_pads, with_allowed, with_pads}
use Rattle.el_settings.specs.declared.pads.MadePads.{MadePads}
use Rattle.el_settings.proofs.Allowing.{allowed_other, set_own, set_twice}
use Rattle.el_settings.proofs.Copied.{pads_same}
use Rattle.graph_core.specs.Allowed.{AreAllowed, AreCounted, checked, first_pad, with_caps, with_made_pads}
use Rattle.graph_core.specs.Elements.{Made}
use Rattle.graph_pads.specs.Pads.{makes, pad_count}
use Rattle.graph_pads.specs.declared.pad.Direction.{Direction}
use Rattle.graph_pads.specs.declared.pad.Direction.TheVariants.{Source, Sink}
use Rattle.graph_pads.specs.declared.pad.PadLink.{PadLink}
use Rattle.graph_core.proofs.Allowing.{allows_alike, converter_like, one_allowed}
use Rattle.graph_core.proofs.Bare.{alike_at, bare, heads_same, makes_alike, set_to, tails_same}
use Rattle.el_settings.proofs.Padded.{made_pads, none_made, padded_allowed, padded_own, padded_twice, sinks_made, sources_made}
use Rattle.gst_value.proofs.Basics.{one_some as some_same}

-- an element is what its properties set it to, with what it is allowed and its pads
made_again : (m : Made) → m ≡ with_made_pads (made_pads m.settings) (with_caps (allowed_of m.settings) (bare m))
made_again m =
    let own = with_allowed (allowed_of m.settings) m.settings in
    ap (set_to m)
    (sym
    (ap (with_pads (made_pads m.settings)) (padded_allowed no_pads (allowed_of m.settings) (with_allowed Any m.settings)) ∙ padded_twice (made_pads m.settings) no_pads (with_allowed (allowed_of m.settings) (with_allowed Any m.settings))
    ∙ ap (with_pads (made_pads m.settings)) (set_twice (allowed_of m.settings) Any m.settings ∙ set_own m.settings) ∙ padded_own m.settings))

module _ (m n : Made) (like : bare m ≡ bare n) (given : is_converter m.settings ≡ true → allowed_of m.settings ≡ allowed_of n.settings) (counted : (direction : Direction) → makes direction m.settings ≡ true → pad_count direction m.settings ≡ pad_count direction n.settings) where
  allowed_like : allowed_of m.settings ≡ allowed_of n.settings
  allowed_like = by (is_converter m.settings) refl
    where
      by : (b : Bool) → is_converter m.settings ≡ b → allowed_of m.settings ≡ allowed_of n.settings
      by true e = given e
      by false e = allowed_other m.settings e ∙ sym (allowed_other n.settings (sym (converter_like m n like) ∙ e))

  pads_like : made_pads m.settings ≡ made_pads n.settings
  pads_like = by (makes_sources m.settings) (makes_sinks m.settings) refl refl
    where
      by : (sources sinks : Bool) → makes_sources m.settings ≡ sources → makes_sinks m.settings ≡ sinks → made_pads m.settings ≡ made_pads n.settings
      by true sinks e f = pads_same (made_pads m.settings) (made_pads n.settings) (sym (sources_made m.settings e) ∙ counted Source e ∙ sources_made n.settings (sym (makes_alike Source m n like) ∙ e))
      by false true e f = pads_same (made_pads m.settings) (made_pads n.settings) (sym (sinks_made m.settings f) ∙ counted Sink f ∙ sinks_made n.settings (sym (makes_alike Sink m n like) ∙ f))
      by false false e f = none_made m.settings e f ∙ sym (none_made n.settings (sym (makes_alike Source m n like) ∙ e) (sym (makes_alike Sink m n like) ∙ f))

  one_same : m ≡ n
  one_same =
      made_again m ∙ ap (λ (x : Made). with_made_pads (made_pads m.settings) (with_caps (allowed_of m.settings) x)) like ∙ ap (λ (c : Caps). with_made_pads (made_pads m.settings) (with_caps c (bare n))) allowed_like
      ∙ ap (λ (p : MadePads). with_made_pads p (with_caps (allowed_of n.settings) (bare n))) pads_like ∙ sym (made_again n)

all_same : (ms ns : List Made) → checked ms ≡ checked ns
    → ((e : ℕ) (m n : Made) → slice_get ms e ≡ Some m → slice_get ns e ≡ Some n → is_converter m.settings ≡ true → allowed_of m.settings ≡ allowed_of n.settings)
    → ((e : ℕ) (m n : Made) → slice_get ms e ≡ Some m → slice_get ns e ≡ Some n → (direction : Direction) → makes direction m.settings ≡ true → pad_count direction m.settings ≡ pad_count direction n.settings) → ms ≡ ns
all_same [] [] same given counted = refl
all_same [] (y ∷ ys) same given counted = absurd (cc)
all_same (x ∷ xs) [] same given counted = absurd (cc)
all_same (x ∷ xs) (y ∷ ys) same given counted =
    let one = one_same x y (heads_same x y xs ys same) (given 0 x y refl refl) (counted 0 x y refl refl) in
    let rest = all_same xs ys (tails_same x y xs ys same) (λ e m n at also. given (suc e) m n at also) (λ e m n at also. counted (suc e) m n at also) in
    ap (λ (z : Made). z ∷ xs) one ∙ ap (λ (l : List Made). y ∷ l) rest

module _ (ms ns : List Made) (links : List PadLink) (same : checked ms ≡ checked ns) where
  found_like : (e : ℕ) (m n : Made) → slice_get ms e ≡ Some m → slice_get ns e ≡ Some n → bare m ≡ bare n
  found_like e m n at also = let found = alike_at ms ns e m same at in found.2 ∙ ap bare (some_same (slice_get ns e) found.0 n found.1 also)

  pub set_alike_same : AreAllowed ms links → AreAllowed ns links → AreCounted ms links → AreCounted ns links → ms ≡ ns
  set_alike_same one other count also_count = all_same ms ns same given counted
    where
      given : (e : ℕ) (m n : Made) → slice_get ms e ≡ Some m → slice_get ns e ≡ Some n → is_converter m.settings ≡ true → allowed_of m.settings ≡ allowed_of n.settings
      given e m n at also converts =
          let too = sym (converter_like m n (found_like e m n at also)) ∙ converts in
          let equal = one_allowed ns links (first_pad e) (Some (allowed_of m.settings)) (Some (allowed_of n.settings)) (allows_alike ms ns links same (first_pad e) (Some (allowed_of m.settings)) (one e m at converts)) (other e n also too) in
          cc

      counted : (e : ℕ) (m n : Made) → slice_get ms e ≡ Some m → slice_get ns e ≡ Some n → (direction : Direction) → makes direction m.settings ≡ true → pad_count direction m.settings ≡ pad_count direction n.settings
      counted e m n at also direction makes_one = count e m direction at makes_one ∙ sym (also_count e n direction also (sym (makes_alike direction m n (found_like e m n at also)) ∙ makes_one))
