-- The pads of a graph are linked once.
use Rattle.std.proofs.Common.{◌≡◌, ◌⊎◌, ◌||◌, ℕ, zero, suc, Bool, true, false, List, [], ◌∷◌, ◌++◌, Option, None, Some, Result, Ok, IfOk, length, slice_get, refl, sym, ap, ◌∙◌, subst, inl, inr, eqb, if◌then◌else◌}
use Rattle.std.specs.Prelude.{is_some}
use Rattle.std.proofs.lemmas.Bool.Decides.{eqb_tells}
use Rattle.graph_core.specs.Allowed.{checked}
use Rattle.graph_core.specs.Asked.{End, asked}
use Rattle.graph_core.specs.Comes.{Comes}
use Rattle.graph_core.specs.Elements.{Made}
use Rattle.graph_core.specs.Graph.{IsGraph, made as made_in, links as links_in}
use Rattle.graph_core.specs.Links.{IsLinked, LinksCome}
use Rattle.graph_pads.specs.Links.{is_same, sink_behind, source_before}
use Rattle.graph_core.specs.declared.fault.BuildFault.{BuildFault}
use Rattle.graph_core.specs.declared.graph.Graph.{Graph}
use Rattle.graph_pads.specs.declared.pad.PadLink.{PadLink}
use Rattle.graph_pads.specs.declared.pad.PadPlace.{PadPlace}
use Rattle.launch_text.specs.declared.tree.Tree.{Tree}
use Rattle.graph_core.specs.LinkedOnce.{AreOnce}
use Rattle.gst_value.proofs.Basics.{number_itself}

abbrev pub place_of : ℕ → ℕ → PadPlace
place_of element pad = record { element = element; pad = pad }

-- the same pad, or another
pub same_or_other : (one other : PadPlace) → ((is_same one other ≡ true) × (one ≡ other)) ⊎ (is_same one other ≡ false)
same_or_other one other = go (eqb_tells one.element other.element) (eqb_tells one.pad other.pad)
  where
    go : ((eqb one.element other.element ≡ true) × (one.element ≡ other.element)) ⊎ ((eqb one.element other.element ≡ false) × (one.element ≡ other.element → ⊥))
        → ((eqb one.pad other.pad ≡ true) × (one.pad ≡ other.pad)) ⊎ ((eqb one.pad other.pad ≡ false) × (one.pad ≡ other.pad → ⊥)) → ((is_same one other ≡ true) × (one ≡ other)) ⊎ (is_same one other ≡ false)
    go (inl e) (inl p) = inl (rw (e.0, p.0) refl, ap (λ (n : ℕ). place_of n one.pad) e.1 ∙ ap (λ (n : ℕ). place_of other.element n) p.1)
    go (inl e) (inr p) = inr (rw (e.0, p.0) refl)
    go (inr e) p = inr (rw e.0 refl)

pub itself : (one : PadPlace) → is_same one one ≡ true
itself one = rw (number_itself one.element, number_itself one.pad) refl

-- the first link with a pad at one end tells the pad at the other
look : (PadLink → PadPlace) → (PadLink → PadPlace) → List PadLink → PadPlace → Option PadPlace
look key value [] pad = None
look key value (link ∷ links) pad = if is_same (key link) pad then Some (value link) else look key value links pad

source_of : PadLink → PadPlace
source_of link = link.source

sink_of : PadLink → PadPlace
sink_of link = link.sink

behind_looks : (links : List PadLink) (pad : PadPlace) → sink_behind links pad ≡ look source_of sink_of links pad
unfolding look source_of sink_of
behind_looks [] pad = refl
behind_looks (link ∷ links) pad = ap (λ (o : Option PadPlace). if is_same link.source pad then Some link.sink else o) (behind_looks links pad)

before_looks : (links : List PadLink) (pad : PadPlace) → source_before links pad ≡ look sink_of source_of links pad
unfolding look source_of sink_of
before_looks [] pad = refl
before_looks (link ∷ links) pad = ap (λ (o : Option PadPlace). if is_same link.sink pad then Some link.source else o) (before_looks links pad)

module _ (key value : PadLink → PadPlace) where
  -- what is found among some links is found among one more
  look_old : (links : List PadLink) (more : PadLink) (pad found : PadPlace) → look key value links pad ≡ Some found → look key value (links ++ more ∷ []) pad ≡ Some found
  unfolding look
  look_old [] more pad found h = absurd (cc)
  look_old (link ∷ links) more pad found h = by (is_same (key link) pad) h (λ t. look_old links more pad found t)
    where
      by : (b : Bool) → (if b then Some (value link) else look key value links pad) ≡ Some found → (look key value links pad ≡ Some found → look key value (links ++ more ∷ []) pad ≡ Some found) → (if b then Some (value link) else look key value (links ++ more ∷ []) pad) ≡ Some found
      by true t rest = t
      by false t rest = rest t

  -- the new link is found by its own end
  look_new : (links : List PadLink) (more : PadLink) → look key value links (key more) ≡ None → look key value (links ++ more ∷ []) (key more) ≡ Some (value more)
  unfolding look
  look_new [] more none = rw (itself (key more)) refl
  look_new (link ∷ links) more none = by (is_same (key link) (key more)) none (λ t. look_new links more t)
    where
      by : (b : Bool) → (if b then Some (value link) else look key value links (key more)) ≡ None → (look key value links (key more) ≡ None → look key value (links ++ more ∷ []) (key more) ≡ Some (value more)) → (if b then Some (value link) else look key value (links ++ more ∷ []) (key more)) ≡ Some (value more)
      by true t rest = absurd (cc)
      by false t rest = rest t

  -- what is found among one more is found among the others, or is the new one
  look_back : (links : List PadLink) (more : PadLink) (pad found : PadPlace) → look key value (links ++ more ∷ []) pad ≡ Some found
      → (look key value links pad ≡ Some found) ⊎ ((look key value links pad ≡ None) × (key more ≡ pad) × (value more ≡ found))
  unfolding look
  look_back [] more pad found h = by (same_or_other (key more) pad)
    where
      by : ((is_same (key more) pad ≡ true) × (key more ≡ pad)) ⊎ (is_same (key more) pad ≡ false) → (None ≡ Some found) ⊎ ((look key value [] pad ≡ None) × (key more ≡ pad) × (value more ≡ found))
      by (inl t) = inr (refl, t.1, some_same (subst (λ (b : Bool). (if b then Some (value more) else None) ≡ Some found) t.0 h))
        where
          some_same : Some (value more) ≡ Some found → value more ≡ found
          some_same e = cc
      by (inr f) = inl (subst (λ (b : Bool). (if b then Some (value more) else None) ≡ Some found) f h)
  look_back (link ∷ links) more pad found h = by (is_same (key link) pad) h (λ t. look_back links more pad found t)
    where
      by : (b : Bool) → (if b then Some (value link) else look key value (links ++ more ∷ []) pad) ≡ Some found
          → (look key value (links ++ more ∷ []) pad ≡ Some found → (look key value links pad ≡ Some found) ⊎ ((look key value links pad ≡ None) × (key more ≡ pad) × (value more ≡ found)))
          → ((if b then Some (value link) else look key value links pad) ≡ Some found) ⊎ (((if b then Some (value link) else look key value links pad) ≡ None) × (key more ≡ pad) × (value more ≡ found))
      by true t rest = inl t
      by false t rest = rest t

-- what is found at one end leads back
LeadBack : (PadLink → PadPlace) → (PadLink → PadPlace) → List PadLink → Type 0
LeadBack key value links = (one other : PadPlace) → look key value links one ≡ Some other → look value key links other ≡ Some one

back_more : (key value : PadLink → PadPlace) (links : List PadLink) (more : PadLink) → look value key links (value more) ≡ None → LeadBack key value links → LeadBack key value (links ++ more ∷ [])
unfolding LeadBack
back_more key value links more none back one other h = by (look_back key value links more one other h)
  where
    by : (look key value links one ≡ Some other) ⊎ ((look key value links one ≡ None) × (key more ≡ one) × (value more ≡ other)) → look value key (links ++ more ∷ []) other ≡ Some one
    by (inl old) = look_old value key links more other one (back one other old)
    by (inr new) = subst (λ (p : PadPlace). look value key (links ++ more ∷ []) p ≡ Some one) new.2 (look_new value key links more none ∙ ap Some new.1)

-- the link at a place of some links and one more is one of them, or is the new one at the end
pub at_more : (links : List PadLink) (more : PadLink) (j : ℕ) (link : PadLink) → slice_get (links ++ more ∷ []) j ≡ Some link → (slice_get links j ≡ Some link) ⊎ ((j ≡ length links) × (link ≡ more))
at_more [] more zero link at = inr (refl, cc)
at_more [] more (suc j) link at = absurd (cc)
at_more (l ∷ links) more zero link at = inl at
at_more (l ∷ links) more (suc j) link at = by (at_more links more j link at)
  where
    by : (slice_get links j ≡ Some link) ⊎ ((j ≡ length links) × (link ≡ more)) → (slice_get links j ≡ Some link) ⊎ ((suc j ≡ suc (length links)) × (link ≡ more))
    by (inl old) = inl old
    by (inr (e, is)) = inr (ap suc e, is)

module _ (key value : PadLink → PadPlace) where
  -- where nothing is found from a pad, no link has it
  none_at : (links : List PadLink) (pad : PadPlace) (j : ℕ) (link : PadLink) → look key value links pad ≡ None → slice_get links j ≡ Some link → key link ≡ pad → ⊥
  unfolding look
  none_at [] pad j link none at same = absurd (cc)
  none_at (l ∷ links) pad j link none at same = by (is_same (key l) pad) refl none j at (λ gone k there. none_at links pad k link gone there same)
    where
      by : (b : Bool) → is_same (key l) pad ≡ b → (if b then Some (value l) else look key value links pad) ≡ None → (j : ℕ) → slice_get (l ∷ links) j ≡ Some link
          → (look key value links pad ≡ None → (k : ℕ) → slice_get links k ≡ Some link → ⊥) → ⊥
      by true e none j at rest = absurd (cc)
      by false e none (suc j) at rest = rest none j at
      by false e none zero at rest =
          let is : l ≡ link = cc in
          let yes = ap (λ (p : PadPlace). is_same p pad) (ap key is ∙ same) ∙ itself pad in
          let both = sym e ∙ yes in absurd (cc)

  -- no two links have a pad in common at this end
  abbrev OneEach : List PadLink → Type 0
  OneEach links = (j k : ℕ) (link other : PadLink) → slice_get links j ≡ Some link → slice_get links k ≡ Some other → key link ≡ key other → j ≡ k

  one_more : (links : List PadLink) (more : PadLink) → look key value links (key more) ≡ None → OneEach links → OneEach (links ++ more ∷ [])
  one_more links more none one = λ j k link other at also same. by j k link other same (at_more links more j link at) (at_more links more k other also)
    where
      by : (j k : ℕ) (link other : PadLink) → key link ≡ key other → (slice_get links j ≡ Some link) ⊎ ((j ≡ length links) × (link ≡ more)) → (slice_get links k ≡ Some other) ⊎ ((k ≡ length links) × (other ≡ more)) → j ≡ k
      by j k link other same (inl at) (inl also) = one j k link other at also same
      by j k link other same (inl at) (inr (e, is)) = absurd (none_at links (key more) j link none at (same ∙ ap key is))
      by j k link other same (inr (e, is)) (inl also) = absurd (none_at links (key more) k other none also (sym same ∙ ap key is))
      by j k link other same (inr (e, is)) (inr (f, too)) = e ∙ sym f

-- what holds of both ends
Both : List PadLink → Type 0
Both links = (LeadBack source_of sink_of links × LeadBack sink_of source_of links) × (OneEach source_of sink_of links × OneEach sink_of source_of links)

pub neither : (one other : Option PadPlace) → (is_some one || is_some other) ≡ false → (one ≡ None) × (other ≡ None)
neither None None h = (refl, refl)
neither None (Some p) h = absurd (cc)
neither (Some p) other h = absurd (cc)

both_more : (made : List Made) (links : List PadLink) (ends : End × End) (link : PadLink) → IsLinked made links ends link → Both links → Both (links ++ link ∷ [])
unfolding Both source_of sink_of
both_more made links ends link linked both =
    let free = neither (sink_behind links linked.left.place) (source_before links linked.right.place) linked.joined.judged.1 in
    let source = sym (behind_looks links link.source) ∙ (subst (λ (p : PadPlace). sink_behind links p ≡ None) (sym linked.joined.source) free.0) in
    let sink = sym (before_looks links link.sink) ∙ (subst (λ (p : PadPlace). source_before links p ≡ None) (sym linked.joined.sink) free.1) in
    ((back_more source_of sink_of links link sink both.0.0, back_more sink_of source_of links link source both.0.1), (one_more source_of sink_of links link source both.1.0, one_more sink_of source_of links link sink both.1.1))

both_come : (made : List Made) (links : List PadLink) (ends : List (End × End)) (answer : Result (List PadLink) BuildFault) → LinksCome made links ends answer → Both links → IfOk answer Both
both_come made links ends answer (Comes.all ls) h = h
both_come made links ends answer (Comes.more ls e l rest a makes comes) h = both_come made (ls ++ l ∷ []) rest a comes (both_more made ls e l makes h)
both_come made links ends answer (Comes.stop ls e rest fault why) h = tt

none_lead : Both []
unfolding Both LeadBack look
none_lead = (((λ one other h. absurd (cc)), (λ one other h. absurd (cc))), ((λ j k link other at also same. absurd (cc)), (λ j k link other at also same. absurd (cc))))

-- each pad of a graph is linked once at the most
pub linked_once : (tree : Tree) (graph : Graph) → IsGraph tree graph → AreOnce (links_in graph)
unfolding Both LeadBack source_of sink_of
linked_once tree graph is =
    let both = both_come (checked (made_in graph)) [] (asked tree) (Ok (links_in graph)) is.links none_lead in
    record {
      one = λ j k link other at also same. by both.1 j k link other at also same;
      there = λ source sink h. before_looks (links_in graph) sink ∙ both.0.0 source sink (sym (behind_looks (links_in graph) source) ∙ h);
      back = λ source sink h. behind_looks (links_in graph) source ∙ both.0.1 sink source (sym (before_looks (links_in graph) sink) ∙ h);
    }
  where
    by : OneEach source_of sink_of (links_in graph) × OneEach sink_of source_of (links_in graph) → (j k : ℕ) (link other : PadLink) → slice_get (links_in graph) j ≡ Some link → slice_get (links_in graph) k ≡ Some other
        → (link.source ≡ other.source) ⊎ (link.sink ≡ other.sink) → j ≡ k
    by each j k link other at also (inl same) = each.0 j k link other at also same
    by each j k link other at also (inr same) = each.1 j k link other at also same
