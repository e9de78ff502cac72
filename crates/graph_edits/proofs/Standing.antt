-- Pads of the elements of a graph, and the ends of its links.
use Rattle.std.proofs.Common.{◌≡◌, ◌+◌, ◌<◌, ◌≤◌, ◌++◌, ◌∷◌, [], ℕ, zero, suc, Bool, true, false, not, if◌then◌else◌, List, Option, None, Some, All, length, slice_get, refl, sym, ap, ◌∙◌, subst, arith, position, bytes_eq}
use Rattle.std.specs.Option.{option_and_then, option_map, option_map_or}
use Rattle.std.specs.List.{range_with_len}
use Rattle.std.proofs.lemmas.List.{length-append}
use Rattle.std.proofs.lemmas.List.FromFn.{length-range_with_len}
use Rattle.std.proofs.lemmas.List.Quantifiers.{position-Some}
use Rattle.std.proofs.lemmas.Option.{slice_get_within}
use Rattle.gst_value.specs.declared.name.PadName.{PadName}
use Rattle.el_settings.specs.declared.settings.Settings.{Settings}
use Rattle.graph_edits.specs.Edited.{Edited, and_sink, without}
use Rattle.graph_edits.specs.Names.{element_named, pad_in, pad_named}
use Rattle.graph_core.specs.Elements.{Made}
use Rattle.graph_core.specs.Ends.{pads_at}
use Rattle.graph_core.specs.Links.{HasPads}
use Rattle.graph_edits.specs.Graph.{IsEdited, made}
use Rattle.graph_edits.specs.declared.graph.EditedGraph.{EditedGraph}
use Rattle.graph_order.specs.Marks.{is_marked}
use Rattle.graph_pads.specs.Links.{is_same, sink_behind}
use Rattle.graph_pads.specs.Pads.{pad_count, pad_text}
use Rattle.graph_pads.specs.declared.pad.Direction.{Direction}
use Rattle.graph_pads.specs.declared.pad.Direction.TheVariants.{Source, Sink}
use Rattle.graph_pads.specs.declared.pad.PadLink.{PadLink}
use Rattle.graph_pads.specs.declared.pad.PadPlace.{PadPlace}

-- an element is there that has a pad
pub element_there : (ms : List Made) (direction : Direction) (e n : ℕ) → n < pads_at ms direction e → e < length ms
element_there ms direction e n w = by (slice_get ms e) refl w
  where
    by : (o : Option Made) → slice_get ms e ≡ o → n < option_map_or (λ (m : Made). pad_count direction m.settings) o 0 → e < length ms
    by None at w = absurd (omega (arith, w))
    by (Some m) at w = slice_get_within ms e m at

-- ---- the elements of links

module _ (ms : List Made) (links ls : List PadLink) (count : ℕ) (pads : All (HasPads ms) links) (same : ls ≡ links) (counted : count ≡ length ms) where
  pub sources_there : All (λ (link : PadLink). link.source.element < count) ls
  sources_there = subst (λ (xs : List PadLink). All (λ (link : PadLink). link.source.element < count) xs) (sym same) (λ k d w. let p = pads k d w in omega (arith, counted, element_there ms Source _ _ p.0))

  pub sinks_there : All (λ (link : PadLink). link.sink.element < count) ls
  sinks_there = subst (λ (xs : List PadLink). All (λ (link : PadLink). link.sink.element < count) xs) (sym same) (λ k d w. let p = pads k d w in omega (arith, counted, element_there ms Sink _ _ p.1))

-- ---- names of pads

abbrev place_of : ℕ → ℕ → PadPlace
place_of e n = record { element = e; pad = n }

abbrev pub has_name : Direction → Settings → List ℕ → ℕ → Bool
has_name direction s name n = bytes_eq name (pad_text direction s n)

-- where the settings of an element are known
module _ (ms : List Made) (direction : Direction) (name : List ℕ) (e : ℕ) (s : Settings) (at : option_map (λ (m : Made). m.settings) (slice_get ms e) ≡ Some s) where
  pad_is : (found : Option ℕ) → found ≡ position (has_name direction s name) (range_with_len 0 (pad_count direction s)) → option_map (place_of e) found ≡ option_and_then (pad_in direction name e) (slice_get ms e)
  pad_is found is = by (slice_get ms e) at
    where
      by : (o : Option Made) → option_map (λ (m : Made). m.settings) o ≡ Some s → option_map (place_of e) found ≡ option_and_then (pad_in direction name e) o
      by None at = absurd (cc)
      by (Some m) at =
          let same : s ≡ m.settings = cc in
          ap (option_map (place_of e)) (is ∙ ap (λ (t : Settings). position (has_name direction t name) (range_with_len 0 (pad_count direction t))) same)

  -- a pad that is found is one that the element has
  pub found_there : (n : ℕ) → Some n ≡ position (has_name direction s name) (range_with_len 0 (pad_count direction s)) → n < pads_at ms direction e
  found_there n is = by (slice_get ms e) at
    where
      inside : n < pad_count direction s
      inside = let p = position-Some (has_name direction s name) (range_with_len 0 (pad_count direction s)) n 0 (sym is) in omega (arith, p.0, length-range_with_len 0 (pad_count direction s))

      by : (o : Option Made) → option_map (λ (m : Made). m.settings) o ≡ Some s → n < option_map_or (λ (m : Made). pad_count direction m.settings) o 0
      by None at = absurd (cc)
      by (Some m) at = let same : s ≡ m.settings = cc in subst (λ (t : Settings). n < pad_count direction t) same inside

-- the pad of a name, where its element is known
pub named_is : (graph : EditedGraph) (g : Edited) (direction : Direction) (name : PadName) (e : ℕ) (s : Settings) (found : Option ℕ) → IsEdited graph g → Some e ≡ element_named g name.element
    → option_map (λ (m : Made). m.settings) (slice_get (made graph) e) ≡ Some s → found ≡ position (has_name direction s name.pad) (range_with_len 0 (pad_count direction s))
    → option_map (place_of e) found ≡ pad_named direction g name
named_is graph g direction name e s found is there at found_is =
    pad_is (made graph) direction name.pad e s at found found_is ∙ ap (λ (ms : List Made). option_and_then (pad_in direction name.pad e) (slice_get ms e)) is.elements
    ∙ ap (option_and_then (λ x. option_and_then (pad_in direction name.pad x) (slice_get g.made x))) there

-- ---- marks

-- one mark more, of an element that is not marked
pub more_marks : (marks : List Bool) (e : ℕ) → is_marked (marks ++ false ∷ []) e ≡ is_marked marks e
more_marks [] zero = refl
more_marks [] (suc e) = refl
more_marks (m ∷ marks) zero = refl
more_marks (m ∷ marks) (suc e) = more_marks marks e

-- ---- sink pads that end

fewer : (source : PadPlace) (links : List PadLink) → length (without source links) ≤ length links
fewer source [] = omega arith
fewer source (link ∷ links) = go (is_same link.source source) (fewer source links)
  where
    go : (b : Bool) → length (without source links) ≤ length links → length (if not b then link ∷ without source links else without source links) ≤ length (link ∷ links)
    go true rest = omega (arith, rest)
    go false rest = omega (arith, rest)

fewer_one : (source sink : PadPlace) (links : List PadLink) → sink_behind links source ≡ Some sink → length (without source links) < length links
fewer_one source sink [] e = absurd (cc)
fewer_one source sink (link ∷ links) e = go (is_same link.source source) e (fewer source links) (fewer_one source sink links)
  where
    go : (b : Bool) → (if b then Some link.sink else sink_behind links source) ≡ Some sink → length (without source links) ≤ length links
        → (sink_behind links source ≡ Some sink → length (without source links) < length links) → length (if not b then link ∷ without source links else without source links) < length (link ∷ links)
    go true e few rest = omega (arith, few)
    go false e few rest = let less = rest e in omega (arith, less)

-- where a link is undone there is room for its sink pad
pub room_left : (source : PadPlace) (eos : Bool) (links : List PadLink) (ended : List PadPlace)
    → length (without source links) + length (and_sink (if eos then sink_behind links source else None) ended) ≤ length links + length ended
room_left source false links ended = let few = fewer source links in omega (arith, few)
room_left source true links ended = by (sink_behind links source) refl
  where
    by : (o : Option PadPlace) → sink_behind links source ≡ o → length (without source links) + length (and_sink o ended) ≤ length links + length ended
    by None e = let few = fewer source links in omega (arith, few)
    by (Some sink) e = let few = fewer_one source sink links e in omega (arith, few, length-append ended (sink ∷ []))
