-- Elements without what converters are allowed and which pads links make.
use Rattle.std.proofs.Common.{◌≡◌, ℕ, zero, suc, false, List, [], ◌∷◌, Some, length, map, slice_get, refl, sym, ap, ◌∙◌}
use Rattle.gst_caps.specs.declared.caps.Caps.{Caps}
use Rattle.gst_caps.specs.declared.caps.Caps.TheVariants.{Any}
use Rattle.el_settings.specs.Asked.{ends, gathers, is_sink, location_of, no_pads, splits, with_allowed, with_pads}
use Rattle.el_settings.specs.declared.pads.MadePads.{MadePads}
use Rattle.el_settings.specs.declared.settings.Settings.{Settings}
use Rattle.el_settings.proofs.Allowing.{location_padded, location_set, place_padded, place_set, set_twice, sinks_set, sources_set}
use Rattle.graph_core.specs.Allowed.{all_allowed, checked, with_caps, with_made_pads}
use Rattle.graph_core.specs.Elements.{Made, clash}
use Rattle.graph_pads.specs.Pads.{makes, pad_count}
use Rattle.graph_pads.specs.declared.pad.Direction.{Direction}
use Rattle.graph_pads.specs.declared.pad.Direction.TheVariants.{Source, Sink}
use Rattle.el_settings.proofs.Padded.{padded_allowed, padded_twice, sinks_kept, sources_kept}
use Rattle.gst_value.proofs.Places.{first_same}

-- an element as its properties set it
abbrev pub bare : Made → Made
bare m = with_made_pads no_pads (with_caps Any m)

-- an element that is set otherwise
abbrev pub set_to : Made → Settings → Made
set_to m settings = record { name = m.name; kind = m.kind; is_numbered = m.is_numbered; settings = settings }

pub bare_given : (caps : Caps) (m : Made) → bare (with_caps caps m) ≡ bare m
bare_given caps m = ap (λ (s : Settings). set_to m (with_pads no_pads s)) (set_twice Any caps m.settings)

pub bare_counted : (pads : MadePads) (m : Made) → bare (with_made_pads pads m) ≡ bare m
bare_counted pads m = ap (set_to m) (ap (with_pads no_pads) (padded_allowed pads Any m.settings) ∙ padded_twice no_pads pads (with_allowed Any m.settings))

-- what does not depend on either
module _ {A : Type 0} (asked : Settings → A) (padded : (pads : MadePads) (s : Settings) → asked (with_pads pads s) ≡ asked s) (set : (caps : Caps) (s : Settings) → asked (with_allowed caps s) ≡ asked s) where
  pub bare_asked : (m : Made) → asked (bare m).settings ≡ asked m.settings
  bare_asked m = padded no_pads (with_allowed Any m.settings) ∙ set Any m.settings

  pub alike_asked : (m n : Made) → bare m ≡ bare n → asked m.settings ≡ asked n.settings
  alike_asked m n same = sym (bare_asked m) ∙ ap (λ (x : Made). asked x.settings) same ∙ bare_asked n

makes_padded : (direction : Direction) (pads : MadePads) (s : Settings) → makes direction (with_pads pads s) ≡ makes direction s
makes_padded Source pads s = ap splits (place_padded pads s)
makes_padded Sink pads s = ap gathers (place_padded pads s)

pub makes_set : (direction : Direction) (caps : Caps) (s : Settings) → makes direction (with_allowed caps s) ≡ makes direction s
makes_set Source caps s = ap splits (place_set caps s)
makes_set Sink caps s = ap gathers (place_set caps s)

pub makes_counted : (direction : Direction) (pads : MadePads) (m : Made) → makes direction (with_made_pads pads m).settings ≡ makes direction m.settings
makes_counted direction pads m = makes_padded direction pads m.settings

pub makes_alike : (direction : Direction) (m n : Made) → bare m ≡ bare n → makes direction m.settings ≡ makes direction n.settings
makes_alike direction = alike_asked (makes direction) (makes_padded direction) (makes_set direction)

-- the pads of an element that are there from the start
pub count_set : (direction : Direction) (caps : Caps) (s : Settings) → pad_count direction (with_allowed caps s) ≡ pad_count direction s
count_set Source caps s = sources_set caps s
count_set Sink caps s = sinks_set caps s

count_kept : (direction : Direction) (pads : MadePads) (s : Settings) → makes direction s ≡ false → pad_count direction (with_pads pads s) ≡ pad_count direction s
count_kept Source pads s no_pad = sources_kept pads s no_pad
count_kept Sink pads s no_pad = sinks_kept pads s no_pad

count_bare : (direction : Direction) (m : Made) → makes direction m.settings ≡ false → pad_count direction (bare m).settings ≡ pad_count direction m.settings
count_bare direction m fixed = count_kept direction no_pads (with_allowed Any m.settings) (makes_set direction Any m.settings ∙ fixed) ∙ count_set direction Any m.settings

pub count_alike : (direction : Direction) (m n : Made) → bare m ≡ bare n → makes direction m.settings ≡ false → pad_count direction m.settings ≡ pad_count direction n.settings
count_alike direction m n same fixed =
    sym (count_bare direction m fixed) ∙ ap (λ (x : Made). pad_count direction x.settings) same ∙ count_bare direction n (sym (makes_alike direction m n same) ∙ fixed)

rest_same : {A : Type 0} (a b : A) (xs ys : List A) → a ∷ xs ≡ b ∷ ys → xs ≡ ys
rest_same a b xs ys e = cc

pub heads_same : (x y : Made) (xs ys : List Made) → checked (x ∷ xs) ≡ checked (y ∷ ys) → bare x ≡ bare y
heads_same x y xs ys same = first_same (bare x) (bare y) (checked xs) (checked ys) same

pub tails_same : (x y : Made) (xs ys : List Made) → checked (x ∷ xs) ≡ checked (y ∷ ys) → checked xs ≡ checked ys
tails_same x y xs ys same = rest_same (bare x) (bare y) (checked xs) (checked ys) same

-- the same element of elements that are alike
pub alike_at : (ms ns : List Made) (e : ℕ) (m : Made) → checked ms ≡ checked ns → slice_get ms e ≡ Some m → (n : Made) × (slice_get ns e ≡ Some n) × (bare m ≡ bare n)
alike_at [] ns e m same at = absurd (cc)
alike_at (x ∷ xs) [] e m same at = absurd (cc)
alike_at (x ∷ xs) (y ∷ ys) zero m same at = let is : x ≡ m = cc in (y, refl, ap bare (sym is) ∙ heads_same x y xs ys same)
alike_at (x ∷ xs) (y ∷ ys) (suc e) m same at = alike_at xs ys e m (tails_same x y xs ys same) at

pub checked_at : (made : List Made) (e : ℕ) (m : Made) → slice_get made e ≡ Some m → slice_get (checked made) e ≡ Some (bare m)
checked_at [] e m at = absurd (cc)
checked_at (x ∷ xs) zero m at = let is : x ≡ m = cc in ap (λ (y : Made). Some (bare y)) is
checked_at (x ∷ xs) (suc e) m at = checked_at xs e m at

-- elements that are alike but for what converters are allowed are alike
pub given_alike : (ms ns : List Made) → all_allowed ms ≡ all_allowed ns → checked ms ≡ checked ns
given_alike ms ns same = ap (map (with_made_pads no_pads)) same

pub checked_twice : (ms : List Made) → checked (checked ms) ≡ checked ms
checked_twice [] = refl
checked_twice (m ∷ ms) = ap (λ (x : Made). x ∷ checked (checked ms)) (bare_counted no_pads (with_caps Any m) ∙ bare_given Any m) ∙ ap (λ (l : List Made). bare m ∷ l) (checked_twice ms)

checked_length : (made : List Made) → length (checked made) ≡ length made
checked_length [] = refl
checked_length (m ∷ ms) = ap suc (checked_length ms)

pub same_length : (ms ns : List Made) → checked ms ≡ checked ns → length ms ≡ length ns
same_length ms ns same = sym (checked_length ms) ∙ ap length same ∙ checked_length ns

-- an element has the location that it has, and is a sink or none
sink_padded : (pads : MadePads) (s : Settings) → is_sink (with_pads pads s) ≡ is_sink s
sink_padded pads s = ap ends (place_padded pads s)

sink_set : (caps : Caps) (s : Settings) → is_sink (with_allowed caps s) ≡ is_sink s
sink_set caps s = ap ends (place_set caps s)

pub clash_checked : (m n : Made) → clash (bare m).settings (bare n).settings ≡ clash m.settings n.settings
clash_checked m n =
    rw (bare_asked location_of location_padded location_set m, bare_asked location_of location_padded location_set n, bare_asked is_sink sink_padded sink_set m, bare_asked is_sink sink_padded sink_set n) refl
