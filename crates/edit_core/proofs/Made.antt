-- What sink pads are given comes from links that were made: from the start, and behind each answer.
use Rattle.std.proofs.Common.{◌≡◌, ◌⊎◌, ◌<◌, ◌++◌, ℕ, zero, suc, Bool, true, false, eqb, if◌then◌else◌, List, [], ◌∷◌, All, Option, None, Some, get_or, length, map, replicate, refl, sym, ap, ◌∙◌, subst, inl, inr, arith}
use Rattle.std.specs.Prelude.{slice_get}
use Rattle.std.specs.Option.{option_map_or}
use Rattle.std.specs.List.{range_with_len}
use Rattle.std.proofs.lemmas.Bool.Decides.{eqb_tells}
use Rattle.std.proofs.lemmas.List.Elements.{All-append}
use Rattle.std.proofs.lemmas.Option.{slice_get_within}
use Rattle.flow_model.specs.Item.{Item}
use Rattle.flow_model.specs.Link.{Span, Linked, WasLinked, Flushed, Given}
use Rattle.flow_model.specs.Account.{EachSource, EachSourceOf}
use Rattle.flow_model.proofs.Whole.{all_sources_weaker}
use Rattle.flow_model.specs.Edit.{push_span, undo}
use Rattle.graph_core.specs.Elements.{Made}
use Rattle.graph_core.specs.Ends.{pads_at}
use Rattle.graph_core.specs.GraphPlan.{IsIn, pad_id, sink_at, sink_count, spans_from}
use Rattle.graph_core.specs.Links.{HasPads}
use Rattle.graph_core.proofs.NumberedPads.{found_in, same_element}
use Rattle.graph_pads.specs.Links.{source_before}
use Rattle.graph_pads.specs.Pads.{pad_count}
use Rattle.graph_pads.specs.declared.pad.Direction.{Direction}
use Rattle.graph_pads.specs.declared.pad.Direction.TheVariants.{Source, Sink}
use Rattle.graph_pads.specs.declared.pad.PadLink.{PadLink}
use Rattle.graph_pads.specs.declared.pad.PadPlace.{PadPlace}
use Rattle.script_text.specs.declared.answer.Answer.{Answer}
use Rattle.script_text.specs.declared.command.Act.{Act}
use Rattle.script_text.specs.declared.command.Command.{Command}
use Rattle.script_text.specs.declared.command.When.{When}
use Rattle.graph_edits.specs.Edited.{Edited, added, link_between, linked_at, unedited, unlinked_at}
use Rattle.graph_edits.specs.Lawful.{IsAnswered, Makes, Reaches}
use Rattle.graph_edits.proofs.Following.{get_front}
use Rattle.graph_edits.proofs.LinksStanding.{Has, named_in}
use Rattle.edit_core.specs.Whole.{AreMade, ComesFrom, StaysMade}

-- ---- from the start

module _ (made : List Made) (links : List PadLink) (e : ℕ) where
  from_line : (k : ℕ) (o : Option PadPlace) → source_before links (sink_at e k) ≡ o → EachSource (ComesFrom (unedited made links) e) (spans_from o)
  from_line k None at = tt
  from_line k (Some source) at =
      let found = found_in links (sink_at e k) source at in
      (record { link = found.0; is = found.1; sink = same_element found.0.sink (sink_at e k) found.3; number = ap pad_id found.2 }, tt)

  all_from_line : (ks : List ℕ) → EachSourceOf (ComesFrom (unedited made links) e) (map (λ k. spans_from (source_before links (sink_at e k))) ks)
  all_from_line [] = tt
  all_from_line (k ∷ ks) = (from_line k (source_before links (sink_at e k)) refl, all_from_line ks)

begins : (made : List Made) (links : List PadLink) → All (HasPads made) links → AreMade (unedited made links)
begins made links pads = record { spans = λ e. all_from_line made links e (range_with_len 0 (sink_count (slice_get made e))); pads = pads }

-- ---- behind an act

module _ (P : ℕ → Type 0) where
  undone : (p place : ℕ) (eos : Bool) (spans : List Span) → EachSource P spans → EachSource P (map (undo p place eos) spans)
  undone p place eos [] each = tt
  undone p place eos (Linked source from marks ∷ spans) each = by (eqb source p) (undone p place eos spans each.1)
    where
      by : (b : Bool) → EachSource P (map (undo p place eos) spans) → EachSource P ((if b then WasLinked source from place eos marks else Linked source from marks) ∷ map (undo p place eos) spans)
      by true rest = (each.0, rest)
      by false rest = (each.0, rest)
  undone p place eos (WasLinked source from to ended marks ∷ spans) each = (each.0, undone p place eos spans each.1)
  undone p place eos (Flushed number ∷ spans) each = undone p place eos spans each
  undone p place eos (Given calls ∷ spans) each = undone p place eos spans each

  all_undone : (p place : ℕ) (eos : Bool) (sss : List (List Span)) → EachSourceOf P sss → EachSourceOf P (map (map (undo p place eos)) sss)
  all_undone p place eos [] each = tt
  all_undone p place eos (ss ∷ sss) each = (undone p place eos ss each.0, all_undone p place eos sss each.1)

  put_behind : (p place : ℕ) → P p → (spans : List Span) → EachSource P spans → EachSource P (spans ++ Linked p place [] ∷ [])
  put_behind p place is [] each = (is, tt)
  put_behind p place is (Linked source from marks ∷ spans) each = (each.0, put_behind p place is spans each.1)
  put_behind p place is (WasLinked source from to ended marks ∷ spans) each = (each.0, put_behind p place is spans each.1)
  put_behind p place is (Flushed number ∷ spans) each = put_behind p place is spans each
  put_behind p place is (Given calls ∷ spans) each = put_behind p place is spans each

  pushed : (p place : ℕ) → P p → (i : ℕ) (sss : List (List Span)) → EachSourceOf P sss → EachSourceOf P (push_span i (Linked p place []) sss)
  pushed p place is i [] each = tt
  pushed p place is zero (ss ∷ sss) each = (put_behind p place is ss each.0, each.1)
  pushed p place is (suc i) (ss ∷ sss) each = (each.0, pushed p place is i sss each.1)

  empty : (n : ℕ) → EachSourceOf P (replicate n [])
  empty zero = tt
  empty (suc n) = (tt, empty n)

is_front : (link last : PadLink) (links : List PadLink) → IsIn link links → IsIn link (links ++ last ∷ [])
is_front link last [] is = absurd is
is_front link last (l ∷ links) (inl same) = inl same
is_front link last (l ∷ links) (inr is) = inr (is_front link last links is)

is_last : (link : PadLink) (links : List PadLink) → IsIn link (links ++ link ∷ [])
is_last link [] = inl refl
is_last link (l ∷ links) = inr (is_last link links)

unlinked_made : (g : Edited) (source : PadPlace) (place : ℕ) (eos : Bool) → AreMade g → AreMade (unlinked_at source place eos g)
unlinked_made g source place eos made = record {
  spans = λ e. all_undone (ComesFrom (unlinked_at source place eos g) e) (pad_id source) place eos (g.spans e)
      (all_sources_weaker (ComesFrom g e) (ComesFrom (unlinked_at source place eos g) e) (λ p from. record { link = from.link; is = from.is; sink = from.sink; number = from.number }) (g.spans e) (made.spans e));
  pads = made.pads;
}

linked_made : (g : Edited) (source : PadPlace) (place : ℕ) (sink : PadPlace) → HasPads g.made (link_between source sink) → AreMade g → AreMade (linked_at source place sink g)
linked_made g source place sink pads made = record {
  spans = λ e. by e (eqb_tells e sink.element);
  pads = All-append (HasPads g.made) g.ever (link_between source sink ∷ []) made.pads (λ k link within. one k link within);
}
  where
    one : All (HasPads g.made) (link_between source sink ∷ [])
    one zero link within = pads
    one (suc k) link within = absurd (omega (arith, within))

    more : (e : ℕ) → EachSourceOf (ComesFrom (linked_at source place sink g) e) (g.spans e)
    more e = all_sources_weaker (ComesFrom g e) (ComesFrom (linked_at source place sink g) e)
        (λ p from. record { link = from.link; is = is_front from.link (link_between source sink) g.ever from.is; sink = from.sink; number = from.number }) (g.spans e) (made.spans e)

    by : (e : ℕ) → ((eqb e sink.element ≡ true) × (e ≡ sink.element)) ⊎ ((eqb e sink.element ≡ false) × (e ≡ sink.element → ⊥))
        → EachSourceOf (ComesFrom (linked_at source place sink g) e) (if eqb e sink.element then push_span sink.pad (Linked (pad_id source) place []) (g.spans e) else g.spans e)
    by e (inl t) = rw t.0 (pushed (ComesFrom (linked_at source place sink g) e) (pad_id source) place
        (record { link = link_between source sink; is = is_last (link_between source sink) g.ever; sink = sym t.1; number = refl }) sink.pad (g.spans e) (more e))
    by e (inr t) = rw t.0 (more e)

-- an element more leaves the pads of the others
module _ (made : List Made) (m : Made) where
  pads_more : (direction : Direction) (e n : ℕ) → n < pads_at made direction e → n < pads_at (made ++ m ∷ []) direction e
  pads_more direction e n low = by (slice_get made e) refl low
    where
      by : (o : Option Made) → slice_get made e ≡ o → n < option_map_or (λ (one : Made). pad_count direction one.settings) o 0 → n < pads_at (made ++ m ∷ []) direction e
      by None at low = absurd (omega (arith, low))
      by (Some one) at low = subst (λ o. n < option_map_or (λ (one : Made). pad_count direction one.settings) o 0) (sym (get_front made m e (slice_get_within made e one at) ∙ at)) low

  pub link_more : (link : PadLink) → HasPads made link → HasPads (made ++ m ∷ []) link
  link_more link has = (pads_more Source link.source.element link.source.pad has.0, pads_more Sink link.sink.element link.sink.pad has.1)

added_made : (g : Edited) (m : Made) → AreMade g → AreMade (added m g)
added_made g m made = record {
  spans = λ e. by e (eqb_tells e (length g.made));
  pads = λ k link within. link_more g.made m (get_or g.ever k link) (made.pads k link within);
}
  where
    by : (e : ℕ) → ((eqb e (length g.made) ≡ true) × (e ≡ length g.made)) ⊎ ((eqb e (length g.made) ≡ false) × (e ≡ length g.made → ⊥)) → EachSourceOf (ComesFrom (added m g) e) ((added m g).spans e)
    by e (inl t) = rw t.0 (empty (ComesFrom (added m g) e) _)
    by e (inr t) = rw t.0 (all_sources_weaker (ComesFrom g e) (ComesFrom (added m g) e) (λ p from. record { link = from.link; is = from.is; sink = from.sink; number = from.number }) (g.spans e) (made.spans e))

-- ---- behind an answer

has_pads : (g : Edited) (direction : Direction) (place : PadPlace) → Has direction g place → place.pad < pads_at g.made direction place.element
has_pads g direction place has = subst (λ o. place.pad < option_map_or (λ (one : Made). pad_count direction one.settings) o 0) (sym has.1) has.2

abbrev Sourced : Edited → Option PadPlace → Type 0
Sourced g None = Unit {0}
Sourced g (Some source) = Has Source g source

sourced : (g : Edited) (h owed : ℕ → List Item) (when : When) (p : Option PadPlace) (place : ℕ) → Reaches g h owed when p place → Sourced g p
sourced g h owed when p place (Reaches.at pad n at source named is) = named_in Source g pad source named
sourced g h owed when p place (Reaches.now_pad pad at source named is) = named_in Source g pad source named
sourced g h owed when p place Reaches.now = tt

acted : (h : ℕ → List Item) (g : Edited) (p : Option PadPlace) (place : ℕ) (act : Act) (after : Edited) → Makes g h p place act after → Sourced g p → AreMade g → AreMade after
acted h g p place act after (Makes.relinks sink source to at named linkable) of made =
    linked_made (unlinked_at source at false g) source at to (has_pads g Source source of, has_pads g Sink to (named_in Sink g sink to named)) (unlinked_made g source at false made)
acted h g p place act after (Makes.unlinks eos source to at behind) of made = unlinked_made g source at eos made
acted h g p place act after (Makes.adds q at kind props m is plain) of made = added_made g m made
acted h g p place act after (Makes.removes q at name e named loose) of made = record {
  spans = λ d. all_sources_weaker (ComesFrom g d) (ComesFrom after d) (λ k from. record { link = from.link; is = from.is; sink = from.sink; number = from.number }) (g.spans d) (made.spans d);
  pads = made.pads;
}

answered : (h owed : ℕ → List Item) (g after : Edited) (c : Command) (a : Answer) → IsAnswered g h owed c a after → AreMade g → AreMade after
answered h owed g after c a (IsAnswered.done when act p place next reaches makes) made = acted h g p place act next makes (sourced g h owed when p place reaches) made
answered h owed g after c a (IsAnswered.unreached one there is) made = made
answered h owed g after c a (IsAnswered.nameless one none) made = made
answered h owed g after c a (IsAnswered.refused when act p place reason there reaches is) made = made

pub stays_made : StaysMade
stays_made = record { begins = begins; answered = answered }
