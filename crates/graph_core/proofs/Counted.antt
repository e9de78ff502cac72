-- Elements get the pads of their links.
use Rattle.std.proofs.Common.{◌≡◌, ◌⊎◌, ◌<◌, ◌≤◌, ◌+◌, ℕ, zero, suc, true, false, List, [], ◌∷◌, Option, Some, length, slice_get, slice_set, refl, sym, ap, ◌∙◌, subst, inl, inr, arith}
use Rattle.std.proofs.lemmas.Option.{slice_get_within}
use Rattle.el_settings.specs.Asked.{with_pads}
use Rattle.el_settings.specs.declared.pads.MadePads.{MadePads}
use Rattle.el_settings.specs.declared.settings.Settings.{Settings}
use Rattle.graph_core.specs.Allowed.{AreCounted, AreCountedBelow, checked, with_made_pads}
use Rattle.graph_core.specs.Elements.{Made}
use Rattle.graph_pads.specs.Pads.{links_at, makes, pad_count}
use Rattle.graph_core.specs.Links.{AreFew}
use Rattle.graph_pads.specs.declared.pad.Direction.{Direction}
use Rattle.graph_pads.specs.declared.pad.Direction.TheVariants.{Source, Sink}
use Rattle.graph_pads.specs.declared.pad.PadLink.{PadLink}
use Rattle.graph_core.proofs.Answering.{set_at, set_elsewhere}
use Rattle.graph_core.proofs.Bare.{alike_at, bare, bare_counted, makes_alike, makes_counted}
use Rattle.el_settings.proofs.Padded.{one_direction, sinks_given, sources_given}
use Rattle.gst_value.proofs.Basics.{less_or_last}

-- an element has the pads that it is given
count_given : (direction : Direction) (pads : MadePads) (s : Settings) → makes direction s ≡ true → pad_count direction (with_pads pads s) ≡ pads.count
count_given Source pads s makes_one = sources_given pads s makes_one
count_given Sink pads s makes_one = sinks_given pads s makes_one

never_both : {P : Type 0} (s : Settings) → makes Source s ≡ true → makes Sink s ≡ true → P
never_both s one other = let none = sym other ∙ one_direction s one in absurd (cc)

one_way : (a b : Direction) (s : Settings) → makes a s ≡ true → makes b s ≡ true → a ≡ b
one_way Source Source s e f = refl
one_way Source Sink s e f = never_both s e f
one_way Sink Source s e f = never_both s f e
one_way Sink Sink s e f = refl

pub pads_alike : (made : List Made) (k : ℕ) (pads : MadePads) (m : Made) → slice_get made k ≡ Some m → checked (slice_set made k (with_made_pads pads m)) ≡ checked made
pads_alike [] k pads m at = absurd (cc)
pads_alike (x ∷ xs) zero pads m at = let is : x ≡ m = cc in ap (λ (z : Made). z ∷ checked xs) (bare_counted pads m ∙ ap bare (sym is))
pads_alike (x ∷ xs) (suc k) pads m at = ap (λ (l : List Made). bare x ∷ l) (pads_alike xs k pads m at)

-- few links stay few
pub few_alike : (ms ns : List Made) (links : List PadLink) → checked ms ≡ checked ns → AreFew ms links → AreFew ns links
few_alike ms ns links same few = λ e n direction at makes_one.
    let found = alike_at ns ms e n (sym same) at in
    few e found.0 direction found.1 (sym (makes_alike direction n found.0 found.2) ∙ makes_one)

module _ (made : List Made) (links : List PadLink) (k : ℕ) (m : Made) (at : slice_get made k ≡ Some m) where
  same_some : {A : Type 0} (o : Option A) (a b : A) → o ≡ Some a → o ≡ Some b → a ≡ b
  same_some o a b e f = cc

  -- one element more has its pads
  pub count_next : (direction : Direction) (pads : MadePads) (new : List Made) → new ≡ slice_set made k (with_made_pads pads m) → makes direction m.settings ≡ true → pads.count ≡ links_at links direction k
      → AreCountedBelow k made links → AreCountedBelow (k + 1) new links
  count_next direction pads new is makes_one count below = subst (λ (x : List Made). AreCountedBelow (k + 1) x links) (sym is) (λ e n way w there on. by e n way there on (less_or_last e k w))
    where
      last : (n : Made) (way : Direction) → slice_get (slice_set made k (with_made_pads pads m)) k ≡ Some n → makes way n.settings ≡ true → pad_count way n.settings ≡ links_at links way k
      last n way there on =
          let is = same_some (slice_get (slice_set made k (with_made_pads pads m)) k) (with_made_pads pads m) n (set_at made k (with_made_pads pads m) (slice_get_within made k m at)) there in
          let makes_too : makes way m.settings ≡ true = sym (makes_counted way pads m) ∙ ap (λ (x : Made). makes way x.settings) is ∙ on in
          ap (λ (x : Made). pad_count way x.settings) (sym is) ∙ count_given way pads m.settings makes_too ∙ count ∙ ap (λ (d : Direction). links_at links d k) (one_way direction way m.settings makes_one makes_too)

      by : (e : ℕ) (n : Made) (way : Direction) → slice_get (slice_set made k (with_made_pads pads m)) e ≡ Some n → makes way n.settings ≡ true → (e < k) ⊎ (e ≡ k) → pad_count way n.settings ≡ links_at links way e
      by e n way there on (inl less) = below e n way less (sym (set_elsewhere made k e (with_made_pads pads m) less) ∙ there) on
      by e n way there on (inr same) =
          subst (λ (d : ℕ). pad_count way n.settings ≡ links_at links way d) (sym same) (last n way (subst (λ (d : ℕ). slice_get (slice_set made k (with_made_pads pads m)) d ≡ Some n) same there) on)

  -- and so has one that links make none of
  pub count_none : ((direction : Direction) → makes direction m.settings ≡ false) → AreCountedBelow k made links → AreCountedBelow (k + 1) made links
  count_none none below = λ e n way w there on. by e n way there on (less_or_last e k w)
    where
      by : (e : ℕ) (n : Made) (way : Direction) → slice_get made e ≡ Some n → makes way n.settings ≡ true → (e < k) ⊎ (e ≡ k) → pad_count way n.settings ≡ links_at links way e
      by e n way there on (inl less) = below e n way less there on
      by e n way there on (inr same) =
          let is = same_some (slice_get made k) m n at (subst (λ (d : ℕ). slice_get made d ≡ Some n) same there) in
          let no_one = sym (none way) ∙ ap (λ (x : Made). makes way x.settings) is ∙ on in
          absurd (cc)

-- when all have theirs
pub all_counted : (made : List Made) (links : List PadLink) (n : ℕ) → length made ≤ n → AreCountedBelow n made links → AreCounted made links
all_counted made links n past below = λ e m direction there on. below e m direction (let within = slice_get_within made e m there in omega (arith, within, past)) there on
