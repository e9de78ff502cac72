-- What is found of an element, by what was found of those from which links ever led to it.
use Rattle.std.proofs.Common.{◌≡◌, ◌↔◌, ◌⊎◌, ◌||◌, ◌==◌, ℕ, Bool, true, false, eqb, List, Option, None, Some, refl, sym, ap, ◌∙◌, subst, inl, inr}
use Rattle.std.specs.Prelude.{option_and_then}
use Rattle.std.specs.Option.{option_map_or}
use Rattle.std.proofs.lemmas.Bool.{false≢true, true≢false}
use Rattle.std.proofs.lemmas.Bool.Decides.{eqb_tells}
use Rattle.flow_model.specs.Item.{Item}
use Rattle.el_settings.specs.Asked.{is_source}
use Rattle.graph_core.specs.Elements.{has}
use Rattle.graph_core.specs.GraphPlan.{owner_of, sink_at}
use Rattle.graph_pads.specs.Links.{sink_behind, source_before}
use Rattle.graph_pads.specs.declared.pad.PadPlace.{PadPlace}
use Rattle.gst_value.proofs.Basics.{number_itself, some_same}
use Rattle.graph_edits.specs.Edited.{Edited, spans_at}
use Rattle.graph_edits.specs.Growing.{LinksStand}
use Rattle.graph_edits.specs.Refused.{HasFeeder, HasHead, IsReached, first_giver, has_lanes, is_head}
use Rattle.edit_core.specs.Whole.{AreMade}
use Rattle.edit_core.specs.Notes.{AreNotedBefore, IsNoted, head_note, note_of, plain_note}
use Rattle.edit_core.specs.declared.notes.Note.{Note}
use Rattle.edit_core.proofs.Lists.{no_some}
use Rattle.edit_core.proofs.Standing.{came_given, came_linked, first_pad, found_back, no_source_pad}

-- ---- the ways to a head, to a feeder and to an element that is reached

pub record Behind (g : Edited) (e : ℕ) : Type 0 where
  pub source : PadPlace
  pub sink : PadPlace
  pub plain : has_lanes g sink.element ≡ false
  pub before : source_before g.links sink ≡ Some source
  pub element : sink.element ≡ e

head_by : (g : Edited) (e x : ℕ) → HasHead g e x → ((is_head g e ≡ true) × (e ≡ x)) ⊎ ((b : Behind g e) × HasHead g b.source.element x)
head_by g e x (HasHead.itself d is) = inl (is, refl)
head_by g e x (HasHead.behind source sink head plain before rest) = inr (record { source = source; sink = sink; plain = plain; before = before; element = refl }, rest)

pub feeder_by : (g : Edited) (h : ℕ → List Item) (e x : ℕ) → HasFeeder g h e x
    → ((is_head g e ≡ true) × (e ≡ x)) ⊎ ((is_head g e ≡ false) × (p : ℕ) × (first_giver h (spans_at g (sink_at e 0)) ≡ Some p) × HasFeeder g h (owner_of p) x)
feeder_by g h e x (HasFeeder.itself d is) = inl (is, refl)
feeder_by g h e x (HasFeeder.given d giver feeder plain given rest) = inr (plain, giver, given, rest)

reached_by : (g : Edited) (start e : ℕ) → IsReached g start e
    → ((start ≡ e) × (has_lanes g e ≡ false)) ⊎ ((source sink : PadPlace) × IsReached g start source.element × (sink_behind g.links source ≡ Some sink) × (has_lanes g sink.element ≡ false) × (sink.element ≡ e))
reached_by g start e (IsReached.first d plain) = inl (refl, plain)
reached_by g start e (IsReached.next d source sink rest behind plain) = inr (source, sink, rest, behind, plain, refl)

-- ---- tests

first_of_two : (a b : Bool) → a ≡ true → (a || b) ≡ true
first_of_two true b e = refl
first_of_two false b e = absurd (false≢true e)

second_of_two : (a b : Bool) → b ≡ true → (a || b) ≡ true
second_of_two true b e = refl
second_of_two false b e = e

one_of_two : (a b : Bool) → (a || b) ≡ true → (a ≡ true) ⊎ (b ≡ true)
one_of_two true b e = inl refl
one_of_two false b e = inr e

same_number : (a b : ℕ) → (a == b) ≡ true → a ≡ b
same_number a b e = go (eqb_tells a b)
  where
    go : ((eqb a b ≡ true) × (a ≡ b)) ⊎ ((eqb a b ≡ false) × (a ≡ b → ⊥)) → a ≡ b
    go (inl t) = t.1
    go (inr t) = absurd (false≢true (sym t.0 ∙ e))

module _ (g : Edited) (h : ℕ → List Item) (start : ℕ) (stand : LinksStand g) where
  -- ---- heads
  module _ (e : ℕ) (is : is_head g e ≡ true) where
    head_feeder : (x : ℕ) → HasFeeder g h e x ↔ (Some e ≡ Some x)
    head_feeder x = (to, λ same. subst (λ (y : ℕ). HasFeeder g h e y) (some_same same) (HasFeeder.itself e is))
      where
        to : HasFeeder g h e x → Some e ≡ Some x
        to f = go (feeder_by g h e x f)
          where
            go : ((is_head g e ≡ true) × (e ≡ x)) ⊎ ((is_head g e ≡ false) × (p : ℕ) × (first_giver h (spans_at g (sink_at e 0)) ≡ Some p) × HasFeeder g h (owner_of p) x) → Some e ≡ Some x
            go (inl own) = ap Some own.1
            go (inr other) = absurd (true≢false (sym is ∙ other.0))

    head_head : (Behind g e → ⊥) → (x : ℕ) → HasHead g e x ↔ (Some e ≡ Some x)
    head_head none x = (to, λ same. subst (λ (y : ℕ). HasHead g e y) (some_same same) (HasHead.itself e is))
      where
        to : HasHead g e x → Some e ≡ Some x
        to f = go (head_by g e x f)
          where
            go : ((is_head g e ≡ true) × (e ≡ x)) ⊎ ((b : Behind g e) × HasHead g b.source.element x) → Some e ≡ Some x
            go (inl own) = ap Some own.1
            go (inr other) = absurd (none other.0)

  pub lanes_noted : (e : ℕ) → has_lanes g e ≡ true → IsNoted g h start e (head_note e false)
  lanes_noted e lanes = record {
    head = head_head e is (λ b. true≢false (sym lanes ∙ sym (ap (has_lanes g) b.element) ∙ b.plain));
    feeder = head_feeder e is;
    reached = (to, λ no. absurd (false≢true no));
  }
    where
      is : is_head g e ≡ true
      is = second_of_two (has is_source g.made e) (has_lanes g e) lanes

      to : IsReached g start e → false ≡ true
      to r = go (reached_by g start e r)
        where
          go : ((start ≡ e) × (has_lanes g e ≡ false))
              ⊎ ((source sink : PadPlace) × IsReached g start source.element × (sink_behind g.links source ≡ Some sink) × (has_lanes g sink.element ≡ false) × (sink.element ≡ e)) → false ≡ true
          go (inl own) = absurd (true≢false (sym lanes ∙ own.1))
          go (inr next) = absurd (true≢false (sym lanes ∙ sym (ap (has_lanes g) next.5) ∙ next.4))

  pub source_noted : (e : ℕ) → has_lanes g e ≡ false → has is_source g.made e ≡ true → IsNoted g h start e (head_note e (e == start))
  source_noted e plain source_is = record {
    head = head_head e is (λ b. no_source_pad g stand b.source b.sink (subst (λ (d : ℕ). has is_source g.made d ≡ true) (sym b.element) source_is) b.before);
    feeder = head_feeder e is;
    reached = (to, λ same. subst (λ (d : ℕ). IsReached g d e) (same_number e start same) (IsReached.first e plain));
  }
    where
      is : is_head g e ≡ true
      is = first_of_two (has is_source g.made e) (has_lanes g e) source_is

      to : IsReached g start e → (e == start) ≡ true
      to r = go (reached_by g start e r)
        where
          go : ((start ≡ e) × (has_lanes g e ≡ false))
              ⊎ ((source sink : PadPlace) × IsReached g start source.element × (sink_behind g.links source ≡ Some sink) × (has_lanes g sink.element ≡ false) × (sink.element ≡ e)) → (e == start) ≡ true
          go (inl own) = rw own.0 (number_itself e)
          go (inr next) =
              absurd (no_source_pad g stand next.0 next.1 (subst (λ (d : ℕ). has is_source g.made d ≡ true) (sym next.5) source_is) (found_back g stand next.0 next.1 next.3))

  -- ---- other elements
  module _ (made : AreMade g) (behind : (source sink : PadPlace) → source_before g.links sink ≡ Some source → sink_behind g.links source ≡ Some sink) (notes : List Note) (e : ℕ) (plain : has_lanes g e ≡ false) (source_is : has is_source g.made e ≡ false) (before_it : AreNotedBefore g h start notes e) where
    no_head : is_head g e ≡ false
    no_head = rw source_is plain

    noted_source : (source : PadPlace) → source_before g.links (sink_at e 0) ≡ Some source → IsNoted g h start source.element (note_of notes source.element)
    noted_source source is =
        let came = came_linked g stand made source e 0 is in
        subst (λ (d : ℕ). IsNoted g h start d (note_of notes d)) came.3 (before_it came.0 came.1 came.2)

    noted_giver : (p : ℕ) → first_giver h (spans_at g (sink_at e 0)) ≡ Some p → IsNoted g h start (owner_of p) (note_of notes (owner_of p))
    noted_giver p is =
        let came = came_given g stand made h e p is in
        subst (λ (d : ℕ). IsNoted g h start d (note_of notes d)) came.3 (before_it came.0 came.1 came.2)

    -- a link to the element comes to its first sink pad
    first_here : (source sink : PadPlace) → sink.element ≡ e → source_before g.links sink ≡ Some source → source_before g.links (sink_at e 0) ≡ Some source
    first_here source sink element is =
        let pad : sink.pad ≡ 0 = first_pad g stand source sink (ap (has_lanes g) element ∙ plain) is in
        subst (λ (d : ℕ). source_before g.links (sink_at d 0) ≡ Some source) element
        (subst (λ (k : ℕ). source_before g.links (sink_at sink.element k) ≡ Some source) pad is)

    plain_feeder : (giver : Option ℕ) → giver ≡ first_giver h (spans_at g (sink_at e 0)) → (x : ℕ) → HasFeeder g h e x ↔ (option_and_then (λ p. (note_of notes (owner_of p)).feeder) giver ≡ Some x)
    plain_feeder giver is x = (to, back giver is)
      where
        to : HasFeeder g h e x → option_and_then (λ p. (note_of notes (owner_of p)).feeder) giver ≡ Some x
        to f = go (feeder_by g h e x f)
          where
            go : ((is_head g e ≡ true) × (e ≡ x)) ⊎ ((is_head g e ≡ false) × (p : ℕ) × (first_giver h (spans_at g (sink_at e 0)) ≡ Some p) × HasFeeder g h (owner_of p) x)
                → option_and_then (λ p. (note_of notes (owner_of p)).feeder) giver ≡ Some x
            go (inl own) = absurd (true≢false (sym own.0 ∙ no_head))
            go (inr other) =
                ap (option_and_then (λ p. (note_of notes (owner_of p)).feeder)) (is ∙ other.2) ∙ ((noted_giver other.1 other.2).feeder x).0 other.3

        back : (giver : Option ℕ) → giver ≡ first_giver h (spans_at g (sink_at e 0)) → option_and_then (λ p. (note_of notes (owner_of p)).feeder) giver ≡ Some x → HasFeeder g h e x
        back None at same = absurd (no_some (sym same))
        back (Some p) at same = HasFeeder.given e p x no_head (sym at) (((noted_giver p (sym at)).feeder x).1 same)

    plain_head : (before : Option PadPlace) → before ≡ source_before g.links (sink_at e 0) → (x : ℕ) → HasHead g e x ↔ (option_and_then (λ (source : PadPlace). (note_of notes source.element).head) before ≡ Some x)
    plain_head before is x = (to, back before is)
      where
        to : HasHead g e x → option_and_then (λ (source : PadPlace). (note_of notes source.element).head) before ≡ Some x
        to f = go (head_by g e x f)
          where
            go : ((is_head g e ≡ true) × (e ≡ x)) ⊎ ((b : Behind g e) × HasHead g b.source.element x) → option_and_then (λ (source : PadPlace). (note_of notes source.element).head) before ≡ Some x
            go (inl own) = absurd (true≢false (sym own.0 ∙ no_head))
            go (inr other) =
                let here = first_here other.0.source other.0.sink other.0.element other.0.before in
                ap (option_and_then (λ (source : PadPlace). (note_of notes source.element).head)) (is ∙ here) ∙ ((noted_source other.0.source here).head x).0 other.1

        back : (before : Option PadPlace) → before ≡ source_before g.links (sink_at e 0) → option_and_then (λ (source : PadPlace). (note_of notes source.element).head) before ≡ Some x → HasHead g e x
        back None at same = absurd (no_some (sym same))
        back (Some source) at same = HasHead.behind source (sink_at e 0) x plain (sym at) (((noted_source source (sym at)).head x).1 same)

    abbrev pub reached_before : Option PadPlace → Bool
    reached_before before = option_map_or (λ (source : PadPlace). (note_of notes source.element).is_reached) before false

    plain_reached : (before : Option PadPlace) → before ≡ source_before g.links (sink_at e 0) → IsReached g start e ↔ (((e == start) || reached_before before) ≡ true)
    plain_reached before is = (to, λ either. back before is (one_of_two (e == start) (reached_before before) either))
      where
        to : IsReached g start e → ((e == start) || reached_before before) ≡ true
        to r = go (reached_by g start e r)
          where
            go : ((start ≡ e) × (has_lanes g e ≡ false))
                ⊎ ((source sink : PadPlace) × IsReached g start source.element × (sink_behind g.links source ≡ Some sink) × (has_lanes g sink.element ≡ false) × (sink.element ≡ e))
                → ((e == start) || reached_before before) ≡ true
            go (inl own) = first_of_two (e == start) (reached_before before) (ap (λ (d : ℕ). e == d) own.0 ∙ number_itself e)
            go (inr next) =
                let here = first_here next.0 next.1 next.5 (found_back g stand next.0 next.1 next.3) in
                second_of_two (e == start) (reached_before before) (ap reached_before (is ∙ here) ∙ (noted_source next.0 here).reached.0 next.2)

        back : (before : Option PadPlace) → before ≡ source_before g.links (sink_at e 0) → ((e == start) ≡ true) ⊎ (reached_before before ≡ true) → IsReached g start e
        back before at (inl same) = subst (λ (d : ℕ). IsReached g d e) (same_number e start same) (IsReached.first e plain)
        back None at (inr none) = absurd (false≢true none)
        back (Some source) at (inr some) =
            IsReached.next start source (sink_at e 0) ((noted_source source (sym at)).reached.1 some) (behind source (sink_at e 0) (sym at)) plain

    pub plain_noted : (before : Option PadPlace) (giver : Option ℕ) → before ≡ source_before g.links (sink_at e 0) → giver ≡ first_giver h (spans_at g (sink_at e 0)) → IsNoted g h start e (plain_note notes before giver (e == start))
    plain_noted before giver before_is giver_is = record {
      head = plain_head before before_is;
      feeder = plain_feeder giver giver_is;
      reached = plain_reached before before_is;
    }
