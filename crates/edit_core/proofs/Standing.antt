-- The links that stand, and from where they come.
use Rattle.std.proofs.Common.{◌≡◌, ◌⊎◌, ◌<◌, ◌≤◌, ◌||◌, ℕ, zero, suc, Bool, true, false, if◌then◌else◌, eqb, List, [], ◌∷◌, Option, None, Some, get_or, length, take, refl, sym, ap, ◌∙◌, subst, inl, inr, arith}
use Rattle.std.specs.Prelude.{slice_get}
use Rattle.std.specs.Option.{option_map, option_map_or}
use Rattle.std.proofs.lemmas.Bool.{false≢true, true≢false}
use Rattle.std.proofs.lemmas.Bool.Decides.{eqb_tells}
use Rattle.std.proofs.lemmas.List.{get_or_past}
use Rattle.std.proofs.lemmas.Option.{slice_get_within}
use Rattle.flow_model.specs.Item.{Item}
use Rattle.flow_model.specs.Account.{EachSource, EachSourceOf}
use Rattle.flow_model.specs.Call.{items}
use Rattle.flow_model.specs.Link.{Span, Linked, WasLinked, Flushed, Given, span_calls}
use Rattle.gst_item.specs.Item.{has_item}
use Rattle.el_settings.specs.Asked.{is_queue, is_source, makes_sinks, sink_pads}
use Rattle.el_settings.specs.declared.settings.Settings.{Settings}
use Rattle.el_settings.specs.declared.settings.Settings.TheVariants.{FileSrc, RampTestSrc}
use Rattle.el_settings.proofs.Padded.{one_sink}
use Rattle.graph_core.specs.Elements.{Made, has}
use Rattle.graph_core.specs.GraphPlan.{IsIn, most_pads, owner_of, pad_id, sink_at, sink_count}
use Rattle.graph_core.proofs.LinkedOnce.{itself, same_or_other}
use Rattle.graph_core.proofs.NumberedPads.{owner_at}
use Rattle.graph_core.proofs.Orders.{few_pads, pads_at_link}
use Rattle.graph_pads.specs.Links.{is_same, sink_behind, source_before}
use Rattle.graph_edits.proofs.Standing.{element_there}
use Rattle.graph_pads.specs.declared.pad.Direction.TheVariants.{Source}
use Rattle.graph_pads.specs.declared.pad.PadLink.{PadLink}
use Rattle.graph_pads.specs.declared.pad.PadPlace.{PadPlace}
use Rattle.gst_value.proofs.Basics.{some_same}
use Rattle.graph_core.specs.Links.{ways}
use Rattle.graph_order.specs.Forward.{GoForward, IsMember, StandsBefore}
use Rattle.graph_order.proofs.Once.{Once, behind_member}
use Rattle.flow_model.specs.Standing.{links_from}
use Rattle.graph_edits.specs.Edited.{Edited, spans_at}
use Rattle.graph_edits.specs.Growing.{AreSingle, LinksStand}
use Rattle.graph_edits.specs.Refused.{first_giver, has_lanes, is_head}
use Rattle.graph_edits.proofs.Keeping.{below_or_not}
use Rattle.graph_edits.proofs.LinksStanding.{links_stay_exact}
use Rattle.edit_core.specs.Whole.{AreMade, ComesFrom}
use Rattle.edit_core.specs.Feeds.{TheLinkStands}
use Rattle.edit_core.proofs.Lists.{no_some}

-- ---- lists of links

few_of : (links : List PadLink) (sink found : PadPlace) → AreSingle links → source_before links sink ≡ Some found → found.pad < most_pads
few_of [] sink found single e = absurd (no_some (sym e))
few_of (link ∷ links) sink found single e = go (is_same link.sink sink) e (few_of links sink found single.2)
  where
    go : (b : Bool) → (if b then Some link.source else source_before links sink) ≡ Some found → (source_before links sink ≡ Some found → found.pad < most_pads) → found.pad < most_pads
    go true e rest = subst (λ (place : PadPlace). place.pad < most_pads) (some_same e) single.0
    go false e rest = rest e

-- where sink pads have one link at the most, that of a source pad is found from its sink pad
back_from : (links : List PadLink) (source sink : PadPlace) → AreSingle links → sink_behind links source ≡ Some sink → source_before links sink ≡ Some source
back_from [] source sink single e = absurd (no_some (sym e))
back_from (link ∷ links) source sink single e = go (same_or_other link.source source) (same_or_other link.sink sink) e (back_from links source sink single.2)
  where
    go : ((is_same link.source source ≡ true) × (link.source ≡ source)) ⊎ (is_same link.source source ≡ false) → ((is_same link.sink sink ≡ true) × (link.sink ≡ sink)) ⊎ (is_same link.sink sink ≡ false)
        → (if is_same link.source source then Some link.sink else sink_behind links source) ≡ Some sink → (sink_behind links source ≡ Some sink → source_before links sink ≡ Some source)
        → (if is_same link.sink sink then Some link.source else source_before links sink) ≡ Some source
    go (inl t) (inl u) e rest = rw u.0 (ap Some t.1)
    go (inl t) (inr u) e rest =
        absurd (true≢false (sym (itself link.sink) ∙ ap (is_same link.sink) (some_same (rw t.0 at e)) ∙ u))
    go (inr t) (inl u) e rest = absurd (no_some (sym (rest (rw t at e)) ∙ ap (source_before links) (sym u.1) ∙ single.1))
    go (inr t) (inr u) e rest = rw u (rest (rw t at e))

-- ---- spans

source_at : (P : ℕ → Type 0) (sss : List (List Span)) (k : ℕ) → EachSourceOf P sss → EachSource P (get_or sss k [])
source_at P [] k each = tt
source_at P (ss ∷ sss) zero each = each.0
source_at P (ss ∷ sss) (suc k) each = source_at P sss k each.1

linked_source : (P : ℕ → Type 0) (p : ℕ) (ss : List Span) → EachSource P ss → links_from p ss ≡ true → P p
linked_source P p [] each e = absurd (false≢true e)
linked_source P p (Linked source from marks ∷ ss) each e = go (eqb_tells source p) e (linked_source P p ss each.1)
  where
    go : ((eqb source p ≡ true) × (source ≡ p)) ⊎ ((eqb source p ≡ false) × (source ≡ p → ⊥)) → (if eqb source p then true else links_from p ss) ≡ true → (links_from p ss ≡ true → P p) → P p
    go (inl t) e rest = subst P t.1 each.0
    go (inr t) e rest = rest (rw t.0 at e)
linked_source P p (WasLinked source from to eos marks ∷ ss) each e = linked_source P p ss each.1 e
linked_source P p (Flushed number ∷ ss) each e = linked_source P p ss each e
linked_source P p (Given calls ∷ ss) each e = linked_source P p ss each e

giver_source : (P : ℕ → Type 0) (h : ℕ → List Item) (p : ℕ) (ss : List Span) → EachSource P ss → first_giver h ss ≡ Some p → P p
giver_source P h p [] each e = absurd (no_some (sym e))
giver_source P h p (Linked source from marks ∷ ss) each e = go (has_item (items (span_calls h (Linked source from marks)))) e (giver_source P h p ss each.1)
  where
    go : (b : Bool) → (if b then Some source else first_giver h ss) ≡ Some p → (first_giver h ss ≡ Some p → P p) → P p
    go true e rest = subst P (some_same e) each.0
    go false e rest = rest e
giver_source P h p (WasLinked source from to eos marks ∷ ss) each e = go (has_item (items (span_calls h (WasLinked source from to eos marks)))) e (giver_source P h p ss each.1)
  where
    go : (b : Bool) → (if b then Some source else first_giver h ss) ≡ Some p → (first_giver h ss ≡ Some p → P p) → P p
    go true e rest = subst P (some_same e) each.0
    go false e rest = rest e
giver_source P h p (Flushed number ∷ ss) each e = giver_source P h p ss each e
giver_source P h p (Given calls ∷ ss) each e = go (has_item (items calls)) e (giver_source P h p ss each)
  where
    go : (b : Bool) → (if b then first_giver h ss else first_giver h ss) ≡ Some p → (first_giver h ss ≡ Some p → P p) → P p
    go true e rest = rest e
    go false e rest = rest e

-- ---- sink pads by settings

source_no_sink : (s : Settings) → is_source s ≡ true → sink_pads s ≡ 0
source_no_sink (FileSrc s) is = refl
source_no_sink (RampTestSrc s) is = refl
source_no_sink _ is = absurd cc

either_false : (a b : Bool) → (a || b) ≡ false → b ≡ false
either_false false b e = e
either_false true b e = absurd (true≢false e)

pub few_sinks : (o : Option Made) → (option_map_or (λ (m : Made). is_queue m.settings) o false || option_map_or (λ (m : Made). makes_sinks m.settings) o false) ≡ false → sink_count o ≤ 1
few_sinks None plain = omega arith
few_sinks (Some m) plain = one_sink m.settings (either_false (is_queue m.settings) (makes_sinks m.settings) plain)

no_sinks : (o : Option Made) → option_map_or (λ (m : Made). is_source m.settings) o false ≡ true → sink_count o ≡ 0
no_sinks None is = absurd (false≢true is)
no_sinks (Some m) is = source_no_sink m.settings is

-- what is asked of an element, by its settings
pub has_at : (asked : Settings → Bool) (made : List Made) (e : ℕ) (s : Settings) → option_map (λ (m : Made). m.settings) (slice_get made e) ≡ Some s → has asked made e ≡ asked s
has_at asked made e s at = go (slice_get made e) at
  where
    go : (o : Option Made) → option_map (λ (m : Made). m.settings) o ≡ Some s → option_map_or (λ (m : Made). asked m.settings) o false ≡ asked s
    go None at = absurd (no_some (sym at))
    go (Some m) at = ap asked (some_same at)

pub lanes_at : (g : Edited) (e : ℕ) (s : Settings) → option_map (λ (m : Made). m.settings) (slice_get g.made e) ≡ Some s → has_lanes g e ≡ (is_queue s || makes_sinks s)
lanes_at g e s at = ap (λ (b : Bool). b || has makes_sinks g.made e) (has_at is_queue g.made e s at) ∙ ap (λ (b : Bool). is_queue s || b) (has_at makes_sinks g.made e s at)

-- a head is there
pub head_there : (g : Edited) (e : ℕ) → is_head g e ≡ true → e < length g.made
head_there g e is = go (slice_get g.made e) refl is
  where
    go : (o : Option Made) → slice_get g.made e ≡ o
        → (option_map_or (λ (m : Made). is_source m.settings) o false || (option_map_or (λ (m : Made). is_queue m.settings) o false || option_map_or (λ (m : Made). makes_sinks m.settings) o false)) ≡ true
        → e < length g.made
    go None at is = absurd (false≢true is)
    go (Some m) at is = slice_get_within g.made e m at

-- ---- the links of an edited graph

module _ (g : Edited) (stand : LinksStand g) where
  -- a sink pad with spans is one of its element
  spans_there : (sink : PadPlace) (p : ℕ) → links_from p (spans_at g sink) ≡ true → sink.pad < length (g.spans sink.element)
  spans_there sink p e = go (below_or_not sink.pad (length (g.spans sink.element)))
    where
      go : (suc sink.pad ≤ length (g.spans sink.element)) ⊎ (length (g.spans sink.element) ≤ sink.pad) → sink.pad < length (g.spans sink.element)
      go (inl below) = below
      go (inr past) = absurd (false≢true (sym (ap (links_from p) (get_or_past (g.spans sink.element) sink.pad [] past)) ∙ e))

  pad_there : (source sink : PadPlace) → source_before g.links sink ≡ Some source → sink.pad < sink_count (slice_get g.made sink.element)
  pad_there source sink e = let low = spans_there sink (pad_id source) (stand.stands source sink e) in let count = stand.counted sink.element in omega (arith, low, count)

  -- one that is linked, of an element without lanes, is its first
  pub first_pad : (source sink : PadPlace) → has_lanes g sink.element ≡ false → source_before g.links sink ≡ Some source → sink.pad ≡ 0
  first_pad source sink plain e = let low = pad_there source sink e in let few = few_sinks (slice_get g.made sink.element) plain in omega (arith, low, few)

  -- and a source has none
  pub no_source_pad : (source sink : PadPlace) → has is_source g.made sink.element ≡ true → source_before g.links sink ≡ Some source → ⊥
  no_source_pad source sink is e = let low = pad_there source sink e in let none = no_sinks (slice_get g.made sink.element) is in omega (arith, low, none)

  pub found_back : (source sink : PadPlace) → sink_behind g.links source ≡ Some sink → source_before g.links sink ≡ Some source
  found_back source sink e = back_from g.links source sink stand.single e

  pub few_at : (source sink : PadPlace) → source_before g.links sink ≡ Some source → source.pad < most_pads
  few_at source sink e = few_of g.links sink source stand.single e

  -- an element that was given something is there
  pub given_there : (h : ℕ → List Item) (e p : ℕ) → first_giver h (spans_at g (sink_at e 0)) ≡ Some p → e < length g.made
  given_there h e p is = go (slice_get g.made e) refl
    where
      go : (o : Option Made) → slice_get g.made e ≡ o → e < length g.made
      go (Some m) at = slice_get_within g.made e m at
      go None at =
          let none : length (g.spans e) ≡ 0 = stand.counted e ∙ ap sink_count at in
          absurd (no_some (sym is ∙ ap (first_giver h) (get_or_past (g.spans e) 0 [] (omega (arith, none)))))

  -- ---- where they come from
  module _ (made : AreMade g) where
    owner_here : (e p : ℕ) (from : ComesFrom g e p) → owner_of p ≡ from.link.source.element
    owner_here e p from =
        let pads = pads_at_link g.made g.ever made.pads from.link from.is in
        ap owner_of (sym from.number) ∙ owner_at from.link.source (few_pads (slice_get g.made from.link.source.element) from.link.source.pad pads.0)

    -- a link that stands was made, and so was that of a giver
    pub came_linked : (source : PadPlace) (e k : ℕ) → source_before g.links (sink_at e k) ≡ Some source → (link : PadLink) × IsIn link g.ever × (link.sink.element ≡ e) × (link.source.element ≡ source.element)
    came_linked source e k is =
        let from = linked_source (ComesFrom g e) (pad_id source) (spans_at g (sink_at e k)) (source_at (ComesFrom g e) (g.spans e) k (made.spans e)) (stand.stands source (sink_at e k) is) in
        (from.link, from.is, from.sink, sym (owner_here e (pad_id source) from) ∙ owner_at source (few_at source (sink_at e k) is))

    pub came_given : (h : ℕ → List Item) (e p : ℕ) → first_giver h (spans_at g (sink_at e 0)) ≡ Some p → (link : PadLink) × IsIn link g.ever × (link.sink.element ≡ e) × (link.source.element ≡ owner_of p)
    came_given h e p is =
        let from = giver_source (ComesFrom g e) h p (spans_at g (sink_at e 0)) (source_at (ComesFrom g e) (g.spans e) 0 (made.spans e)) is in
        (from.link, from.is, from.sink, sym (owner_here e p from))

    -- the element of a source pad that is linked is there
    pub source_there : (source : PadPlace) (e k : ℕ) → source_before g.links (sink_at e k) ≡ Some source → source.element < length g.made
    source_there source e k is =
        let came = came_linked source e k is in
        let pads = pads_at_link g.made g.ever made.pads came.0 came.1 in
        subst (λ (d : ℕ). d < length g.made) came.3 (element_there g.made Source came.0.source.element came.0.source.pad pads.0)

-- ---- where the link of a source pad stands

pub the_link : TheLinkStands
the_link h g source sink kept stand ends e = record {
  there = stand.stands source sink e;
  only = λ other is.
      some_same
      (sym (ends.back source other ((links_stay_exact.exact h g kept stand other).back source (few_at g stand source sink e) is))
      ∙ ends.back source sink e);
}

-- ---- the order of the elements

-- a link that was made leads from an earlier element to a later one
pub made_before : (links : List PadLink) (order : List ℕ) → GoForward (ways links) order → (link : PadLink) → IsIn link links → StandsBefore link.source.element link.sink.element order
made_before [] order goes link is = absurd is
made_before (l ∷ ls) order goes link (inl same) = subst (λ (k : PadLink). StandsBefore k.source.element k.sink.element order) (sym same) goes.0
made_before (l ∷ ls) order goes link (inr is) = made_before ls order goes.1 link is

-- what stands before a member of an order stands among those up to its place
pub before_place : (a b : ℕ) (xs : List ℕ) (k : ℕ) → Once xs → StandsBefore a b xs → slice_get xs k ≡ Some b → IsMember a (take k xs)
before_place a b [] k once before at = absurd before
before_place a b (x ∷ xs) zero once (inl here) at = absurd (once.0 (subst (λ (y : ℕ). IsMember y xs) (sym (some_same at)) here.1))
before_place a b (x ∷ xs) zero once (inr later) at = absurd (once.0 (subst (λ (y : ℕ). IsMember y xs) (sym (some_same at)) (behind_member a b xs later)))
before_place a b (x ∷ xs) (suc k) once (inl here) at = inl here.0
before_place a b (x ∷ xs) (suc k) once (inr later) at = inr (before_place a b xs k once.1 later at)

pub member_at : (xs : List ℕ) (k e : ℕ) → slice_get xs k ≡ Some e → IsMember e xs
member_at [] k e at = absurd (no_some (sym at))
member_at (x ∷ xs) zero e at = inl (some_same at)
member_at (x ∷ xs) (suc k) e at = inr (member_at xs k e at)

-- one place further there is one member more
pub one_further : (xs : List ℕ) (k e d : ℕ) → slice_get xs k ≡ Some e → IsMember d (take (suc k) xs) → (d ≡ e) ⊎ IsMember d (take k xs)
one_further [] k e d at m = absurd (no_some (sym at))
one_further (x ∷ xs) zero e d at (inl same) = inl (sym same ∙ some_same at)
one_further (x ∷ xs) zero e d at (inr m) = absurd (none_first xs m)
  where
    none_first : (xs : List ℕ) → IsMember d (take 0 xs) → ⊥
    none_first [] m = m
    none_first (x ∷ xs) m = m
one_further (x ∷ xs) (suc k) e d at (inl same) = inr (inl same)
one_further (x ∷ xs) (suc k) e d at (inr m) = go (one_further xs k e d at m)
  where
    go : (d ≡ e) ⊎ IsMember d (take k xs) → (d ≡ e) ⊎ IsMember d (x ∷ take k xs)
    go (inl same) = inl same
    go (inr m) = inr (inr m)
