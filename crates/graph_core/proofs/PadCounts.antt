-- How many pads of its elements the links of a line make.
use Rattle.std.proofs.Common.{◌≡◌, ◌⊎◌, ◌<◌, ◌≤◌, ◌||◌, ◌==◌, ◌+◌, ℕ, zero, suc, Bool, true, false, cond, List, [], ◌∷◌, ◌++◌, Option, None, Some, Result, Ok, All, IfOk, length, slice_get, get_or, refl, sym, ap, ◌∙◌, subst, inl, inr, arith, eqb, if◌then◌else◌, not}
use Rattle.std.specs.Option.{option_map_or}
use Rattle.std.proofs.lemmas.Bool.Decides.{eqb_tells}
use Rattle.std.proofs.lemmas.List.Sums.{sum_by_push}
use Rattle.std.proofs.lemmas.Option.{slice_get-get_or}
use Rattle.el_settings.specs.declared.settings.Settings.{Settings}
use Rattle.graph_core.specs.Allowed.{AreCounted, checked}
use Rattle.graph_core.specs.Asked.{End}
use Rattle.graph_core.specs.Comes.{Comes}
use Rattle.graph_core.specs.Elements.{Made}
use Rattle.graph_core.specs.Ends.{pads_at}
use Rattle.graph_pads.specs.Pads.{end_element, links_at, makes, pad_count, pads_behind, takeable}
use Rattle.graph_core.specs.Links.{AreFew, HasPads, IsLinked, LinksCome}
use Rattle.graph_pads.specs.Links.{is_same, leaves, sink_behind, source_before}
use Rattle.graph_core.specs.declared.fault.BuildFault.{BuildFault}
use Rattle.graph_pads.specs.declared.pad.Direction.{Direction}
use Rattle.graph_pads.specs.declared.pad.Direction.TheVariants.{Source, Sink}
use Rattle.graph_pads.specs.declared.pad.Pad.{Pad}
use Rattle.graph_pads.specs.declared.pad.PadLink.{PadLink}
use Rattle.graph_pads.specs.declared.pad.PadPlace.{PadPlace}
use Rattle.graph_core.proofs.Bare.{alike_at, bare, count_alike, makes_alike}
use Rattle.graph_core.proofs.Joining.{CanTake, end_taken}
use Rattle.graph_core.proofs.LinkedOnce.{at_more, itself, neither, place_of}
use Rattle.graph_core.proofs.Allowing.{never_true}
use Rattle.gst_value.proofs.Basics.{number_itself, one_some as same_some}

-- the pad of a link at one end
abbrev pad_of : Direction → PadLink → PadPlace
pad_of Source link = link.source
pad_of Sink link = link.sink

abbrev one_if : Bool → ℕ
one_if b = cond b 1 0

-- whether one of the links has the pad at this end
abbrev has_link : Direction → List PadLink → PadPlace → Bool
has_link direction [] pad = false
has_link direction (link ∷ links) pad = is_same (pad_of direction link) pad || has_link direction links pad

source_linked : (links : List PadLink) (pad : PadPlace) → sink_behind links pad ≡ None → has_link Source links pad ≡ false
source_linked [] pad none = refl
source_linked (link ∷ links) pad none = by (is_same link.source pad) none (source_linked links pad)
  where
    by : (b : Bool) → (if b then Some link.sink else sink_behind links pad) ≡ None → (sink_behind links pad ≡ None → has_link Source links pad ≡ false) → (b || has_link Source links pad) ≡ false
    by true none rest = absurd (cc)
    by false none rest = rest none

sink_linked : (links : List PadLink) (pad : PadPlace) → source_before links pad ≡ None → has_link Sink links pad ≡ false
sink_linked [] pad none = refl
sink_linked (link ∷ links) pad none = by (is_same link.sink pad) none (sink_linked links pad)
  where
    by : (b : Bool) → (if b then Some link.source else source_before links pad) ≡ None → (source_before links pad ≡ None → has_link Sink links pad ≡ false) → (b || has_link Sink links pad) ≡ false
    by true none rest = absurd (cc)
    by false none rest = rest none

module _ (direction : Direction) where
  -- a link more
  linked_old : (links : List PadLink) (more : PadLink) (pad : PadPlace) → has_link direction links pad ≡ true → has_link direction (links ++ more ∷ []) pad ≡ true
  linked_old [] more pad h = absurd (cc)
  linked_old (link ∷ links) more pad h = by (is_same (pad_of direction link) pad) h (linked_old links more pad)
    where
      by : (b : Bool) → (b || has_link direction links pad) ≡ true → (has_link direction links pad ≡ true → has_link direction (links ++ more ∷ []) pad ≡ true) → (b || has_link direction (links ++ more ∷ []) pad) ≡ true
      by true h rest = refl
      by false h rest = rest h

  linked_new : (links : List PadLink) (more : PadLink) → has_link direction (links ++ more ∷ []) (pad_of direction more) ≡ true
  linked_new [] more = rw (itself (pad_of direction more)) refl
  linked_new (link ∷ links) more = by (is_same (pad_of direction link) (pad_of direction more)) (linked_new links more)
    where
      by : (b : Bool) → has_link direction (links ++ more ∷ []) (pad_of direction more) ≡ true → (b || has_link direction (links ++ more ∷ []) (pad_of direction more)) ≡ true
      by true rest = refl
      by false rest = rest

  end_at : (link : PadLink) → end_element direction link ≡ (pad_of direction link).element
  end_at link = by direction
    where
      by : (d : Direction) → end_element d link ≡ (pad_of d link).element
      by Source = refl
      by Sink = refl

  counted_more : (links : List PadLink) (more : PadLink) (e : ℕ) → links_at (links ++ more ∷ []) direction e ≡ links_at links direction e + one_if (end_element direction more == e)
  counted_more links more e = sum_by_push (λ (link : PadLink). one_if (end_element direction link == e)) links more

  -- it counts at its own element
  counted_own : (links : List PadLink) (more : PadLink) → links_at (links ++ more ∷ []) direction (pad_of direction more).element ≡ suc (links_at links direction (pad_of direction more).element)
  counted_own links more =
      let own : one_if (end_element direction more == (pad_of direction more).element) ≡ 1 =
      ap (λ (n : ℕ). one_if (n == (pad_of direction more).element)) (end_at more) ∙ ap one_if (number_itself (pad_of direction more).element)
      in
      let more_is = counted_more links more (pad_of direction more).element in
      omega (arith, own, more_is)

  -- and at no other
  own_or_other : (links : List PadLink) (more : PadLink) (e : ℕ) → ((pad_of direction more).element ≡ e) ⊎ (links_at (links ++ more ∷ []) direction e ≡ links_at links direction e)
  own_or_other links more e = by (eqb_tells (end_element direction more) e)
    where
      by : ((eqb (end_element direction more) e ≡ true) × (end_element direction more ≡ e)) ⊎ ((eqb (end_element direction more) e ≡ false) × (end_element direction more ≡ e → ⊥))
          → ((pad_of direction more).element ≡ e) ⊎ (links_at (links ++ more ∷ []) direction e ≡ links_at links direction e)
      by (inl t) = inl (sym (end_at more) ∙ t.1)
      by (inr f) =
          let none : one_if (end_element direction more == e) ≡ 0 = ap one_if f.0 in
          let more_is = counted_more links more e in
          inr (omega (arith, none, more_is))

  counted_least : (links : List PadLink) (more : PadLink) (e : ℕ) → links_at links direction e ≤ links_at (links ++ more ∷ []) direction e
  counted_least links more e = let more_is = counted_more links more e in omega (arith, more_is)

-- a link can take the pad here
record TakesPad (made : List Made) (links : List PadLink) (direction : Direction) (place : PadPlace) : Type 0 where
  element : Made
  there : slice_get made place.element ≡ Some element
  next : place.pad < takeable links direction place.element element.settings
  few : place.pad < 64

-- the link's pad is one of its element
abbrev HasOwnPad : List Made → List PadLink → Direction → PadLink → Type 0
HasOwnPad made links direction link =
    (m : Made) × (slice_get made (pad_of direction link).element ≡ Some m) × ((pad_of direction link).pad < pads_behind links direction (pad_of direction link).element m.settings)

-- Each link has a pad of its element, links have all those that they made, and these are few.
record Kept (made : List Made) (links : List PadLink) (direction : Direction) : Type 0 where
  within : (k : ℕ) (link : PadLink) → slice_get links k ≡ Some link → HasOwnPad made links direction link
  filled : (e k : ℕ) (m : Made) → slice_get made e ≡ Some m → makes direction m.settings ≡ true → k < links_at links direction e → has_link direction links (place_of e k) ≡ true
  few : (e : ℕ) (m : Made) → slice_get made e ≡ Some m → makes direction m.settings ≡ true → links_at links direction e ≤ 64

less_or_same : (k n : ℕ) → k < suc n → (k < n) ⊎ (k ≡ n)
less_or_same zero zero w = inr refl
less_or_same zero (suc n) w = inl (omega arith)
less_or_same (suc k) zero w = absurd (omega (arith, w))
less_or_same (suc k) (suc n) w = by (less_or_same k n (omega (arith, w)))
  where
    by : (k < n) ⊎ (k ≡ n) → (suc k < suc n) ⊎ (suc k ≡ suc n)
    by (inl less) = inl (omega (arith, less))
    by (inr same) = inr (ap suc same)

module _ (made : List Made) (links : List PadLink) (more : PadLink) (direction : Direction) (kept : Kept made links direction) where
  behind_least : (e : ℕ) (s : Settings) → pads_behind links direction e s ≤ pads_behind (links ++ more ∷ []) direction e s
  behind_least e s = by (makes direction s)
    where
      by : (b : Bool) → (if b then links_at links direction e else pad_count direction s) ≤ (if b then links_at (links ++ more ∷ []) direction e else pad_count direction s)
      by true = counted_least direction links more e
      by false = omega arith

  module _ (at : TakesPad made links direction (pad_of direction more)) (free : has_link direction links (pad_of direction more) ≡ false) where
    new_within : (pad_of direction more).pad < pads_behind (links ++ more ∷ []) direction (pad_of direction more).element at.element.settings
    new_within = by (makes direction at.element.settings) at.next
      where
        by : (b : Bool) → (pad_of direction more).pad < (if b then suc (links_at links direction (pad_of direction more).element) else pad_count direction at.element.settings)
            → (pad_of direction more).pad < (if b then links_at (links ++ more ∷ []) direction (pad_of direction more).element else pad_count direction at.element.settings)
        by true w = let own = counted_own direction links more in omega (arith, w, own)
        by false w = w

    -- a pad that a link makes is the next one
    is_next : makes direction at.element.settings ≡ true → (pad_of direction more).pad ≡ links_at links direction (pad_of direction more).element
    is_next makes_one = by (less_or_same (pad_of direction more).pad (links_at links direction (pad_of direction more).element) (subst (λ (b : Bool). (pad_of direction more).pad < (if b then suc (links_at links direction (pad_of direction more).element) else pad_count direction at.element.settings)) makes_one at.next))
      where
        by : ((pad_of direction more).pad < links_at links direction (pad_of direction more).element) ⊎ ((pad_of direction more).pad ≡ links_at links direction (pad_of direction more).element)
            → (pad_of direction more).pad ≡ links_at links direction (pad_of direction more).element
        by (inl less) = never_true (has_link direction links (pad_of direction more)) (kept.filled (pad_of direction more).element (pad_of direction more).pad at.element at.there makes_one less) free
        by (inr same) = same

    own_filled : (k : ℕ) → makes direction at.element.settings ≡ true → k < links_at (links ++ more ∷ []) direction (pad_of direction more).element → has_link direction (links ++ more ∷ []) (place_of (pad_of direction more).element k) ≡ true
    own_filled k makes_one w = by (less_or_same k (links_at links direction (pad_of direction more).element) (let own = counted_own direction links more in omega (arith, w, own)))
      where
        by : (k < links_at links direction (pad_of direction more).element) ⊎ (k ≡ links_at links direction (pad_of direction more).element) → has_link direction (links ++ more ∷ []) (place_of (pad_of direction more).element k) ≡ true
        by (inl less) = linked_old direction links more (place_of (pad_of direction more).element k) (kept.filled (pad_of direction more).element k at.element at.there makes_one less)
        by (inr same) = ap (λ (n : ℕ). has_link direction (links ++ more ∷ []) (place_of (pad_of direction more).element n)) (same ∙ sym (is_next makes_one)) ∙ linked_new direction links more

    kept_more : Kept made (links ++ more ∷ []) direction
    kept_more =
        record {
          within = λ k link here. one k link (at_more links more k link here);
          filled = λ e k x here makes_one w. each e k x here makes_one w (own_or_other direction links more e);
          few = λ e x here makes_one. most e x here makes_one (own_or_other direction links more e);
        }
      where
        one : (k : ℕ) (link : PadLink) → (slice_get links k ≡ Some link) ⊎ ((k ≡ length links) × (link ≡ more)) → HasOwnPad made (links ++ more ∷ []) direction link
        one k link (inl old) =
            let was = kept.within k link old in
            (was.0, was.1, let least = behind_least (pad_of direction link).element was.0.settings in omega (arith, was.2, least))
        one k link (inr (end, is)) = subst (HasOwnPad made (links ++ more ∷ []) direction) (sym is) (at.element, at.there, new_within)

        each : (e k : ℕ) (x : Made) → slice_get made e ≡ Some x → makes direction x.settings ≡ true → k < links_at (links ++ more ∷ []) direction e → ((pad_of direction more).element ≡ e) ⊎ (links_at (links ++ more ∷ []) direction e ≡ links_at links direction e)
            → has_link direction (links ++ more ∷ []) (place_of e k) ≡ true
        each e k x here makes_one w (inl same) =
            let is = same_some (slice_get made (pad_of direction more).element) x at.element (ap (slice_get made) same ∙ here) at.there in
            subst (λ (d : ℕ). has_link direction (links ++ more ∷ []) (place_of d k) ≡ true) same
            (own_filled k (ap (λ (y : Made). makes direction y.settings) (sym is) ∙ makes_one) (subst (λ (d : ℕ). k < links_at (links ++ more ∷ []) direction d) (sym same) w))
        each e k x here makes_one w (inr other) = linked_old direction links more (place_of e k) (kept.filled e k x here makes_one (omega (arith, w, other)))

        most : (e : ℕ) (x : Made) → slice_get made e ≡ Some x → makes direction x.settings ≡ true → ((pad_of direction more).element ≡ e) ⊎ (links_at (links ++ more ∷ []) direction e ≡ links_at links direction e) → links_at (links ++ more ∷ []) direction e ≤ 64
        most e x here makes_one (inl same) =
            let is = same_some (slice_get made (pad_of direction more).element) x at.element (ap (slice_get made) same ∙ here) at.there in
            let own = counted_own direction links more in
            let next_is = is_next (ap (λ (y : Made). makes direction y.settings) (sym is) ∙ makes_one) in
            subst (λ (d : ℕ). links_at (links ++ more ∷ []) direction d ≤ 64) same (omega (arith, own, next_is, at.few))
        most e x here makes_one (inr other) = let least = kept.few e x here makes_one in omega (arith, other, least)

none_kept : (made : List Made) (direction : Direction) → Kept made [] direction
none_kept made direction = record { within = λ k link at. absurd (cc); filled = λ e k m at makes_one w. absurd (omega (arith, w)); few = λ e m at makes_one. omega arith }

rightly : (a b : Direction) → (not (leaves a) || leaves b) ≡ false → (a ≡ Source) × (b ≡ Sink)
rightly Source Source h = absurd (cc)
rightly Source Sink h = (refl, refl)
rightly Sink b h = absurd (cc)

taken_at : (made : List Made) (links : List PadLink) (direction : Direction) (place : PadPlace) (pad : Pad) → pad.direction ≡ direction → place ≡ pad.place → CanTake made links pad → TakesPad made links direction place
taken_at made links direction place pad way is takes =
    subst (λ (p : PadPlace). TakesPad made links direction p) (sym is)
    (record { element = takes.element; there = takes.there; next = subst (λ (d : Direction). pad.place.pad < takeable links d pad.place.element takes.element.settings) way takes.next; few = takes.few })

-- at both ends
abbrev BothKept : List Made → List PadLink → Type 0
BothKept made links = Kept made links Source × Kept made links Sink

both_more : (made : List Made) (links : List PadLink) (ends : End × End) (link : PadLink) → IsLinked made links ends link → BothKept made links → BothKept made (links ++ link ∷ [])
both_more made links ends link h kept =
    let ways = rightly h.left.direction h.right.direction h.joined.judged.0 in
    let free = neither (sink_behind links h.left.place) (source_before links h.right.place) h.joined.judged.1 in
    let source = taken_at made links Source link.source h.left ways.0 h.joined.source (end_taken made links Source ends.0 h.left h.leaves) in
    let sink = taken_at made links Sink link.sink h.right ways.1 h.joined.sink (end_taken made links Sink ends.1 h.right h.enters) in (
      kept_more made links link Source kept.0 source (source_linked links link.source (ap (sink_behind links) h.joined.source ∙ free.0)),
      kept_more made links link Sink kept.1 sink (sink_linked links link.sink (ap (source_before links) h.joined.sink ∙ free.1)),
    )

both_come : (made : List Made) (links : List PadLink) (ends : List (End × End)) (answer : Result (List PadLink) BuildFault) → LinksCome made links ends answer → BothKept made links → IfOk answer (BothKept made)
both_come made links ends answer (Comes.all ls) h = h
both_come made links ends answer (Comes.more ls e l rest a makes comes) h = both_come made (ls ++ l ∷ []) rest a comes (both_more made ls e l makes h)
both_come made links ends answer (Comes.stop ls e rest fault why) h = tt

module _ (made : List Made) (ends : List (End × End)) (links : List PadLink) (comes : LinksCome made [] ends (Ok links)) where
  kept_at : (direction : Direction) → Kept made links direction
  kept_at Source = (both_come made [] ends (Ok links) comes (none_kept made Source, none_kept made Sink)).0
  kept_at Sink = (both_come made [] ends (Ok links) comes (none_kept made Source, none_kept made Sink)).1

  -- the links of a line make few pads
  pub links_few : AreFew made links
  links_few = λ e m direction at makes_one. (kept_at direction).few e m at makes_one

  module _ (now : List Made) (same : checked made ≡ checked now) (counted : AreCounted now links) where
    pads_now : (direction : Direction) (k : ℕ) (link : PadLink) → slice_get links k ≡ Some link → (pad_of direction link).pad < pads_at now direction (pad_of direction link).element
    pads_now direction k link at =
        let was = (kept_at direction).within k link at in
        let found = alike_at made now (pad_of direction link).element was.0 same was.1 in
        subst (λ (o : Option Made). (pad_of direction link).pad < option_map_or (λ (x : Made). pad_count direction x.settings) o 0) (sym found.1) (by was.0 found.0 found.1 found.2 (makes direction was.0.settings) refl was.2)
      where
        by : (m n : Made) → slice_get now (pad_of direction link).element ≡ Some n → bare m ≡ bare n → (b : Bool) → makes direction m.settings ≡ b
            → (pad_of direction link).pad < (if makes direction m.settings then links_at links direction (pad_of direction link).element else pad_count direction m.settings) → (pad_of direction link).pad < pad_count direction n.settings
        by m n here like true makes_one w =
            let is = counted (pad_of direction link).element n direction here (sym (makes_alike direction m n like) ∙ makes_one) in
            let less = subst (λ (b : Bool). (pad_of direction link).pad < (if b then links_at links direction (pad_of direction link).element else pad_count direction m.settings)) makes_one w in
            omega (arith, is, less)
        by m n here like false fixed w =
            let is = count_alike direction m n like fixed in
            let less = subst (λ (b : Bool). (pad_of direction link).pad < (if b then links_at links direction (pad_of direction link).element else pad_count direction m.settings)) fixed w in
            omega (arith, is, less)

    -- and each link has a pad of its elements, once these are counted
    pub linked_pads : All (HasPads now) links
    linked_pads = λ k d within. let at = slice_get-get_or links k d within in (pads_now Source k (get_or links k d) at, pads_now Sink k (get_or links k d) at)
