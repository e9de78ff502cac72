-- Answers for source pads, and elements whose converters are set to what they are allowed.
use Rattle.std.proofs.Common.{◌≡◌, ◌<◌, ◌≤◌, ◌+◌, ◌⊎◌, ℕ, zero, suc, true, false, List, [], ◌∷◌, ◌++◌, Option, None, Some, Result, Ok, Err, All, IfOk, IfSome, length, slice_get, slice_set, get_or, map, refl, sym, ap, ◌∙◌, subst, inl, inr, arith}
use Rattle.std.specs.Prelude.{IsErrAnd}
use Rattle.std.specs.Option.{option_map, option_map_or}
use Rattle.std.proofs.lemmas.List.{map-append}
use Rattle.std.proofs.lemmas.Option.{slice_get_within}
use Rattle.gst_value.specs.Limit.{TooManyWhere}
use Rattle.gst_caps.specs.declared.caps.Caps.{Caps}
use Rattle.gst_caps.specs.declared.caps.Caps.TheVariants.{Any}
use Rattle.gst_value.specs.declared.fault.CapsFault.{CapsFault}
use Rattle.gst_value.specs.declared.fault.CapsFault.TheVariants.{TooMany, OutOfMemory}
use Rattle.el_settings.specs.Asked.{allowed_of, filter_caps, hands_on, is_converter, makes_sources, no_pads, source_pads, template_of, with_pads}
use Rattle.el_settings.specs.declared.settings.Settings.{Settings}
use Rattle.graph_core.specs.Allowed.{Allows, Answers, AreAllowed, AreAllowedBelow, AreCounted, IsWideFault, all_allowed, all_common, allowed_before, checked, filtered, first_pad, with_caps, with_made_pads}
use Rattle.graph_core.specs.Asked.{Declared}
use Rattle.graph_core.specs.Comes.{Comes}
use Rattle.graph_core.specs.Elements.{Made, ElementsCome, IsMade}
use Rattle.graph_core.specs.Ends.{pads_at}
use Rattle.graph_pads.specs.Pads.{links_at, makes, pad_count}
use Rattle.graph_core.specs.Links.{AreOrdered, HasPads}
use Rattle.graph_pads.specs.Links.{sink_behind}
use Rattle.graph_core.specs.declared.fault.BuildFault.{BuildFault}
use Rattle.graph_core.specs.declared.links.Links.{Links}
use Rattle.graph_pads.specs.declared.pad.Direction.{Direction}
use Rattle.graph_pads.specs.declared.pad.Direction.TheVariants.{Source, Sink}
use Rattle.graph_pads.specs.declared.pad.PadLink.{PadLink}
use Rattle.graph_pads.specs.declared.pad.PadPlace.{PadPlace}
use Rattle.el_settings.proofs.Allowing.{allowed_set, set_any, set_none as no_pads_set, set_twice}
use Rattle.graph_core.proofs.Allowing.{allows_alike, one_allowed, wide_alike}
use Rattle.graph_core.proofs.Bare.{bare, count_set, given_alike, makes_set, set_to}
use Rattle.graph_core.proofs.Joining.{sink_found}
use Rattle.graph_core.proofs.LinkedOnce.{place_of}
use Rattle.gst_value.proofs.Basics.{less_or_last}

-- too many caps behind an element are too many before it
before_none : (s : Settings) → allowed_before s None ≡ None
before_none s = by (filter_caps s)
  where
    by : (o : Option Caps) → option_map_or (λ caps. filtered caps None) o None ≡ None
    by None = refl
    by (Some caps) = refl

-- the fault of a call that is handed on, and want of memory
pub answers_fault : (Is : Option Caps → Type 0) (r : Result Caps CapsFault) (fault : CapsFault) → IsErrAnd r (λ f. f ≡ fault) → Answers Is (Err fault) → Answers Is r
answers_fault Is (Ok caps) fault h answers = absurd h
answers_fault Is (Err other) fault h answers = subst (λ (f : CapsFault). Answers Is (Err f)) (sym h) answers

pub answers_memory : (Is : Option Caps → Type 0) (r : Result Caps CapsFault) → IsErrAnd r (λ f. f ≡ OutOfMemory) → Answers Is r
answers_memory Is r h = answers_fault Is r OutOfMemory h tt

-- what an element is set to, where it is there
pub made_at : (made : List Made) (e : ℕ) (s : Settings) → option_map (λ (m : Made). m.settings) (slice_get made e) ≡ Some s → (m : Made) × (slice_get made e ≡ Some m) × (m.settings ≡ s)
made_at made e s at = by (slice_get made e) refl at
  where
    by : (o : Option Made) → slice_get made e ≡ o → option_map (λ (m : Made). m.settings) o ≡ Some s → (m : Made) × (slice_get made e ≡ Some m) × (m.settings ≡ s)
    by None is h = absurd (cc)
    by (Some m) is h = (m, is, cc)

module _ (made : List Made) (links : List PadLink) (source sink : PadPlace) (s : Settings) (linked : sink_behind links source ≡ Some sink) (at : option_map (λ (m : Made). m.settings) (slice_get made sink.element) ≡ Some s) where
  pub takes : hands_on s ≡ false → makes_sources s ≡ false → Allows made links source (Some (template_of s true))
  takes hands makes_none =
      let found = made_at made sink.element s at in
      subst (λ (x : Settings). Allows made links source (Some (template_of x true))) found.2 (Allows.taken source sink found.0 linked found.1 (ap hands_on found.2 ∙ hands) (ap makes_sources found.2 ∙ makes_none))

  goes_through : (behind : Option Caps) → hands_on s ≡ true → Allows made links (first_pad sink.element) behind → Allows made links source (allowed_before s behind)
  goes_through behind hands rest =
      let found = made_at made sink.element s at in
      subst (λ (x : Settings). Allows made links source (allowed_before x behind)) found.2 (Allows.through source sink found.0 behind linked found.1 (ap hands_on found.2 ∙ hands) rest)

  pub answers_through : hands_on s ≡ true → (behind : Caps) → Allows made links (first_pad sink.element) (Some behind) → (r : Result Caps CapsFault) → Answers (λ answer. answer ≡ allowed_before s (Some behind)) r → Answers (Allows made links source) r
  answers_through hands behind rest (Ok caps) h = subst (λ (x : Option Caps). Allows made links source x) (sym h) (goes_through (Some behind) hands rest)
  answers_through hands behind rest (Err (TooMany count)) h = (subst (λ (x : Option Caps). Allows made links source x) (sym h.0) (goes_through (Some behind) hands rest), h.1)
  answers_through hands behind rest (Err OutOfMemory) h = tt

  pub fault_through : hands_on s ≡ true → (fault : CapsFault) → Answers (Allows made links (first_pad sink.element)) (Err fault) → Answers (Allows made links source) (Err fault)
  fault_through hands (TooMany count) h = (subst (λ (x : Option Caps). Allows made links source x) (before_none s) (goes_through None hands h.0), h.1)
  fault_through hands OutOfMemory h = tt

  -- through an element that splits the stream
  pub answers_split : makes_sources s ≡ true → AreCounted made links → (each : ℕ → Option Caps) → ((k : ℕ) → k < source_pads s → Allows made links (place_of sink.element k) (each k)) → (r : Result Caps CapsFault)
      → Answers (λ answer. answer ≡ all_common each (source_pads s)) r → Answers (Allows made links source) r
  answers_split makes_one counted each rest r answers = by r answers
    where
      pads_are : source_pads s ≡ links_at links Source sink.element
      pads_are =
          let found = made_at made sink.element s at in
          sym (ap source_pads found.2) ∙ counted sink.element found.0 Source found.1 (ap makes_sources found.2 ∙ makes_one)

      allows : Allows made links source (all_common each (source_pads s))
      allows =
          let found = made_at made sink.element s at in
          subst (λ (n : ℕ). Allows made links source (all_common each n)) (sym pads_are)
          (Allows.split source sink found.0 each linked found.1 (ap makes_sources found.2 ∙ makes_one) (λ k w. rest k (omega (arith, w, pads_are))))

      by : (r : Result Caps CapsFault) → Answers (λ answer. answer ≡ all_common each (source_pads s)) r → Answers (Allows made links source) r
      by (Ok caps) h = subst (λ (x : Option Caps). Allows made links source x) (sym h) allows
      by (Err (TooMany count)) h = (subst (λ (x : Option Caps). Allows made links source x) (sym h.0) allows, h.1)
      by (Err OutOfMemory) h = tt

-- a sink pad that is linked is there
pub sink_there : (made : List Made) (links : List PadLink) (source sink : PadPlace) → All (HasPads made) links → sink_behind links source ≡ Some sink → pads_at made Sink sink.element ≤ sink.pad → ⊥
sink_there made links source sink pads linked past =
    let within : sink.pad < pads_at made Sink sink.element = subst (λ (o : Option PadPlace). IfSome o (λ (p : PadPlace). p.pad < pads_at made Sink p.element)) linked (sink_found made links source pads) in
    omega (arith, within, past)

-- an answer says where there are too many
pub answers_where : (made : List Made) (links : List PadLink) (source : PadPlace) (r : Result Caps CapsFault) → Answers (Allows made links source) r → TooManyWhere r (Allows made links source None)
answers_where made links source (Ok caps) h = λ none. let e = one_allowed made links source (Some caps) None h none in cc
answers_where made links source (Err (TooMany count)) h = h
answers_where made links source (Err OutOfMemory) h = tt

made_bare : (before : List Made) (d : Declared) (m : Made) → IsMade before d m → bare m ≡ m
made_bare before d m is = ap (set_to m) (ap (with_pads no_pads) (set_any d.kind d.props m.settings is.set) ∙ no_pads_set d.kind d.props m.settings is.set)

checked_more : (ms : List Made) (y : Made) → checked (ms ++ y ∷ []) ≡ checked ms ++ bare y ∷ []
checked_more ms y = ap (map (with_made_pads no_pads)) (map-append (with_caps Any) ms (y ∷ [])) ∙ map-append (with_made_pads no_pads) (all_allowed ms) (with_caps Any y ∷ [])

all_bare : (made : List Made) (ds : List Declared) (answer : Result (List Made) BuildFault) → ElementsCome made ds answer → checked made ≡ made → IfOk answer (λ ms. checked ms ≡ ms)
all_bare made ds answer (Comes.all ms) same = same
all_bare made ds answer (Comes.more ms d y rest a makes_it comes) same =
    all_bare (ms ++ y ∷ []) rest a comes (checked_more ms y ∙ ap (λ (l : List Made). l ++ bare y ∷ []) same ∙ ap (λ (x : Made). ms ++ x ∷ []) (made_bare ms d y makes_it))
all_bare made ds answer (Comes.stop ms d rest fault why) same = tt

-- the elements of a line as they are made
pub made_checked : (ds : List Declared) (made : List Made) → ElementsCome [] ds (Ok made) → checked made ≡ made
made_checked ds made comes = all_bare [] ds (Ok made) comes refl

-- what holds of elements that are alike but for what converters are allowed
pub same_pads : (made : List Made) (direction : Direction) (e : ℕ) → pads_at (all_allowed made) direction e ≡ pads_at made direction e
same_pads [] direction e = refl
same_pads (m ∷ ms) direction zero = count_set direction Any m.settings
same_pads (m ∷ ms) direction (suc e) = same_pads ms direction e

given_length : (made : List Made) → length (all_allowed made) ≡ length made
given_length [] = refl
given_length (m ∷ ms) = ap suc (given_length ms)

given_at : (made : List Made) (e : ℕ) (m : Made) → slice_get made e ≡ Some m → slice_get (all_allowed made) e ≡ Some (with_caps Any m)
given_at [] e m at = absurd (cc)
given_at (x ∷ xs) zero m at = let is : x ≡ m = cc in ap (λ (y : Made). Some (with_caps Any y)) is
given_at (x ∷ xs) (suc e) m at = given_at xs e m at

from_given : (made : List Made) (e : ℕ) (m : Made) → slice_get (all_allowed made) e ≡ Some m → (n : Made) × (slice_get made e ≡ Some n) × (m ≡ with_caps Any n)
from_given [] e m at = absurd (cc)
from_given (x ∷ xs) zero m at = (x, refl, cc)
from_given (x ∷ xs) (suc e) m at = from_given xs e m at

module _ (ms ns : List Made) (same : all_allowed ms ≡ all_allowed ns) where
  pub same_length : length ms ≡ length ns
  same_length = sym (given_length ms) ∙ ap length same ∙ given_length ns

  pads_alike : (direction : Direction) (e : ℕ) → pads_at ms direction e ≡ pads_at ns direction e
  pads_alike direction e = sym (same_pads ms direction e) ∙ ap (λ (x : List Made). pads_at x direction e) same ∙ same_pads ns direction e

  pub has_pads : (links : List PadLink) → All (HasPads ms) links → All (HasPads ns) links
  has_pads links h = λ k d within.
      let pads = h k d within in
      (omega (arith, pads.0, pads_alike Source (get_or links k d).source.element), omega (arith, pads.1, pads_alike Sink (get_or links k d).sink.element))

  pub are_counted : (links : List PadLink) → AreCounted ms links → AreCounted ns links
  are_counted links counted = λ e n direction at makes_one. by e n direction makes_one (from_given ms e (with_caps Any n) (ap (λ (x : List Made). slice_get x e) same ∙ given_at ns e n at))
    where
      by : (e : ℕ) (n : Made) (direction : Direction) → makes direction n.settings ≡ true → (m : Made) × (slice_get ms e ≡ Some m) × (with_caps Any n ≡ with_caps Any m) → pad_count direction n.settings ≡ links_at links direction e
      by e n direction makes_one (m, at, like) =
          let makes_too = sym (makes_set direction Any m.settings) ∙ ap (λ (x : Made). makes direction x.settings) (sym like) ∙ makes_set direction Any n.settings ∙ makes_one in
          sym (count_set direction Any n.settings) ∙ ap (λ (x : Made). pad_count direction x.settings) like ∙ count_set direction Any m.settings ∙ counted e m direction at makes_too

  pub are_ordered : (links : Links) → AreOrdered ms links → AreOrdered ns links
  are_ordered links ordered = record { count = ordered.count ∙ same_length; ways = ordered.ways; forward = ordered.forward }

-- one converter more is set
pub set_at : (made : List Made) (k : ℕ) (y : Made) → k < length made → slice_get (slice_set made k y) k ≡ Some y
set_at [] k y within = absurd (omega (arith, within))
set_at (x ∷ xs) zero y within = refl
set_at (x ∷ xs) (suc k) y within = set_at xs k y (omega (arith, within))

pub set_elsewhere : (made : List Made) (k e : ℕ) (y : Made) → e < k → slice_get (slice_set made k y) e ≡ slice_get made e
set_elsewhere [] k e y less = refl
set_elsewhere (x ∷ xs) zero e y less = absurd (omega (arith, less))
set_elsewhere (x ∷ xs) (suc k) zero y less = refl
set_elsewhere (x ∷ xs) (suc k) (suc e) y less = set_elsewhere xs k e y (omega (arith, less))

like_given : (caps : Caps) (m : Made) → with_caps Any (with_caps caps m) ≡ with_caps Any m
like_given caps m = ap (set_to m) (set_twice Any caps m.settings)

pub set_alike : (made : List Made) (k : ℕ) (caps : Caps) (m : Made) → slice_get made k ≡ Some m → all_allowed (slice_set made k (with_caps caps m)) ≡ all_allowed made
set_alike [] k caps m at = absurd (cc)
set_alike (x ∷ xs) zero caps m at = let is : x ≡ m = cc in ap (λ (z : Made). z ∷ all_allowed xs) (like_given caps m ∙ ap (with_caps Any) (sym is))
set_alike (x ∷ xs) (suc k) caps m at = ap (λ (l : List Made). with_caps Any x ∷ l) (set_alike xs k caps m at)

module _ (made : List Made) (links : List PadLink) (k : ℕ) (m : Made) (at : slice_get made k ≡ Some m) where
  pub set_one : (caps : Caps) (new : List Made) → new ≡ slice_set made k (with_caps caps m) → is_converter m.settings ≡ true → Allows made links (first_pad k) (Some caps) → AreAllowedBelow k made links → AreAllowedBelow (k + 1) new links
  set_one caps new is converts allows below = subst (λ (x : List Made). AreAllowedBelow (k + 1) x links) (sym is) go
    where
      alike : checked made ≡ checked (slice_set made k (with_caps caps m))
      alike = sym (given_alike (slice_set made k (with_caps caps m)) made (set_alike made k caps m at))

      last : (n : Made) → slice_get (slice_set made k (with_caps caps m)) k ≡ Some n → Allows (slice_set made k (with_caps caps m)) links (first_pad k) (Some (allowed_of n.settings))
      last n there =
          let is : with_caps caps m ≡ n = same_some (sym (set_at made k (with_caps caps m) (slice_get_within made k m at)) ∙ there) in
          subst (λ (c : Caps). Allows (slice_set made k (with_caps caps m)) links (first_pad k) (Some c)) (sym (ap (λ (x : Made). allowed_of x.settings) (sym is) ∙ allowed_set caps m.settings converts)) (allows_alike made (slice_set made k (with_caps caps m)) links alike (first_pad k) (Some caps) allows)
        where
          same_some : Some (with_caps caps m) ≡ Some n → with_caps caps m ≡ n
          same_some e = cc

      go : AreAllowedBelow (k + 1) (slice_set made k (with_caps caps m)) links
      go = λ e n w there on. by e n there on (less_or_last e k w)
        where
          by : (e : ℕ) (n : Made) → slice_get (slice_set made k (with_caps caps m)) e ≡ Some n → is_converter n.settings ≡ true → (e < k) ⊎ (e ≡ k) → Allows (slice_set made k (with_caps caps m)) links (first_pad e) (Some (allowed_of n.settings))
          by e n there on (inl less) = allows_alike made (slice_set made k (with_caps caps m)) links alike (first_pad e) (Some (allowed_of n.settings)) (below e n less (sym (set_elsewhere made k e (with_caps caps m) less) ∙ there) on)
          by e n there on (inr same) = subst (λ (d : ℕ). Allows (slice_set made k (with_caps caps m)) links (first_pad d) (Some (allowed_of n.settings))) (sym same) (last n (subst (λ (d : ℕ). slice_get (slice_set made k (with_caps caps m)) d ≡ Some n) same there))

-- when all are set
pub all_set : (made : List Made) (links : List PadLink) (n : ℕ) → length made ≤ n → AreAllowedBelow n made links → AreAllowed made links
all_set made links n past below = λ e m there on. below e m (let within = slice_get_within made e m there in omega (arith, within, past)) there on

pub wide_before : (ms ns : List Made) (links : List PadLink) (fault : BuildFault) → checked ms ≡ checked ns → IsWideFault ms links fault → IsWideFault ns links fault
wide_before ms ns links fault same (inl free) = inl free
wide_before ms ns links fault same (inr (wide, is)) = inr (wide_alike ms ns links same wide, is)
