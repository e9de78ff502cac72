-- The pads of a graph by number, and its links.
use Rattle.std.proofs.Common.{◌≡◌, ◌<◌, ◌⊎◌, ◌%◌, ℕ, Bool, true, false, eqb, ◌&&◌, if◌then◌else◌, List, [], ◌∷◌, Option, None, Some, map, length, refl, sym, ap, ◌∙◌, subst, inl, inr}
use Rattle.std.specs.Prelude.{slice_get}
use Rattle.std.specs.List.{range_with_len}
use Rattle.std.proofs.lemmas.Nat.{div-mul-add, mod-mul-add}
use Rattle.std.proofs.lemmas.Bool.Decides.{eqb_tells}
use Rattle.flow_model.specs.Item.{Item}
use Rattle.flow_model.specs.Call.{feeds}
use Rattle.flow_model.specs.Link.{input_of}
use Rattle.flow_model.specs.Eval.{Plan}
use Rattle.flow_model.specs.Account.{EachSource, EachSourceOf, GoesForward, IsMember}
use Rattle.flow_model.proofs.Links.{link_input}
use Rattle.graph_core.specs.Elements.{Made}
use Rattle.graph_pads.specs.Links.{source_before, is_same}
use Rattle.graph_pads.specs.declared.pad.PadLink.{PadLink}
use Rattle.graph_pads.specs.declared.pad.PadPlace.{PadPlace}
use Rattle.graph_core.specs.GraphPlan.{pad_id, owner_of, spans_from, sink_at, sink_count, line_plan, IsIn, GoesAlong, before_it}
use Rattle.graph_core.proofs.LinkedOnce.{place_of}
use Rattle.gst_value.proofs.Basics.{no_true, none_some, some_same}

-- the pad of a number belongs to its element
pub owner_at : (place : PadPlace) → place.pad < 64 → owner_of (pad_id place) ≡ place.element
owner_at place few = div-mul-add place.element 64 place.pad few

-- and has its place there
pub port_at : (place : PadPlace) → place.pad < 64 → pad_id place % 64 ≡ place.pad
port_at place few = mod-mul-add place.element 64 place.pad few

pub pad_at_number : (place : PadPlace) → place.pad < 64 → place_of (owner_of (pad_id place)) (pad_id place % 64) ≡ place
pad_at_number place few = ap (λ (n : ℕ). place_of n (pad_id place % 64)) (owner_at place few) ∙ ap (λ (n : ℕ). place_of place.element n) (port_at place few)

-- so no two pads have one number
pub same_pad : (one other : PadPlace) → one.pad < 64 → other.pad < 64 → pad_id one ≡ pad_id other → one ≡ other
same_pad one other few few' same = sym (pad_at_number one few) ∙ ap (λ (d : ℕ). place_of (owner_of d) (d % 64)) same ∙ pad_at_number other few'

-- what a linked sink pad is linked to is one of the links
pub found_in : (links : List PadLink) (sink source : PadPlace) → source_before links sink ≡ Some source → (link : PadLink) × IsIn link links × (link.source ≡ source) × (is_same link.sink sink ≡ true)
found_in [] sink source e = absurd (none_some e)
found_in (l ∷ links) sink source e = go (is_same l.sink sink) refl e (found_in links sink source)
  where
    go : (b : Bool) → is_same l.sink sink ≡ b → (if b then Some l.source else source_before links sink) ≡ Some source
        → (source_before links sink ≡ Some source → (link : PadLink) × IsIn link links × (link.source ≡ source) × (is_same link.sink sink ≡ true))
        → (link : PadLink) × IsIn link (l ∷ links) × (link.source ≡ source) × (is_same link.sink sink ≡ true)
    go true same e later = (l, inl refl, some_same e, same)
    go false same e later = let r = later e in (r.0, inr r.1, r.2, r.3)

pub same_element : (one other : PadPlace) → is_same one other ≡ true → one.element ≡ other.element
same_element one other e = go (eqb_tells one.element other.element) e
  where
    go : ((eqb one.element other.element ≡ true) × (one.element ≡ other.element)) ⊎ ((eqb one.element other.element ≡ false) × (one.element ≡ other.element → ⊥))
        → (eqb one.element other.element && eqb one.pad other.pad) ≡ true → one.element ≡ other.element
    go (inl t) e = t.1
    go (inr t) e = absurd (no_true (rw t.0 at e))

-- what an element's first sink pad is given
pub given_calls : (h : ℕ → List Item) (source : Option PadPlace) → input_of h (spans_from source) ≡ feeds (before_it h source)
given_calls h None = refl
given_calls h (Some source) = link_input h (pad_id source)

-- the sources of an element's sink pads stand earlier
sources_at : (links : List PadLink) (seen : List ℕ) (e k : ℕ) → ((link : PadLink) → IsIn link links → link.sink.element ≡ e → (link.source.pad < 64) × IsMember link.source.element seen)
    → EachSource (λ p. IsMember (owner_of p) seen) (spans_from (source_before links (sink_at e k)))
sources_at links seen e k before = go (source_before links (sink_at e k)) refl
  where
    go : (source : Option PadPlace) → source_before links (sink_at e k) ≡ source → EachSource (λ p. IsMember (owner_of p) seen) (spans_from source)
    go None at = tt
    go (Some source) at =
        let found = found_in links (sink_at e k) source at in
        let there = before found.0 found.1 (same_element found.0.sink (sink_at e k) found.3) in
        let few = subst (λ (place : PadPlace). place.pad < 64) found.2 there.0 in
        (subst (λ (n : ℕ). IsMember n seen) (sym (owner_at source few)) (subst (λ (place : PadPlace). IsMember place.element seen) found.2 there.1), tt)

all_sources : (links : List PadLink) (seen : List ℕ) (e : ℕ) → ((link : PadLink) → IsIn link links → link.sink.element ≡ e → (link.source.pad < 64) × IsMember link.source.element seen)
    → (ks : List ℕ) → EachSourceOf (λ p. IsMember (owner_of p) seen) (map (λ (k : ℕ). spans_from (source_before links (sink_at e k))) ks)
all_sources links seen e before [] = tt
all_sources links seen e before (k ∷ ks) = (sources_at links seen e k before, all_sources links seen e before ks)

module _ (contents : ℕ → List ℕ) (made : List Made) (links : List PadLink) (forward : List ℕ) (h : ℕ → List Item) where
  abbrev pub plan : Plan
  plan = line_plan contents made links forward (λ (q : ℕ). length (h q))

  pub goes_forward : (seen es : List ℕ) → GoesAlong links seen es → GoesForward plan seen es
  unfolding line_plan
  goes_forward seen [] g = tt
  goes_forward seen (e ∷ es) g = (all_sources links seen e g.0 (range_with_len 0 (sink_count (slice_get made e))), goes_forward (e ∷ seen) es g.1)
