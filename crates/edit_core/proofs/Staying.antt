-- What is kept of the feeders stays so while more crosses.
use Rattle.std.proofs.Common.{◌≡◌, ℕ, Bool, if◌then◌else◌, List, [], ◌∷◌, Option, Some, refl, sym, ap, ◌∙◌, append-nil}
use Rattle.flow_model.specs.Item.{Item}
use Rattle.flow_model.specs.Call.{Call, items}
use Rattle.flow_model.specs.Link.{Span, Linked, WasLinked, Flushed, Given, span_calls}
use Rattle.flow_model.specs.Prefix.{IsPrefix}
use Rattle.flow_model.specs.Sticky.{stickies}
use Rattle.flow_model.proofs.Prefixes.{take_prefix}
use Rattle.gst_item.specs.Item.{has_item}
use Rattle.graph_core.specs.GraphPlan.{sink_at}
use Rattle.graph_edits.specs.Edited.{spans_at}
use Rattle.graph_edits.specs.Growing.{AreWithin}
use Rattle.graph_edits.specs.Refused.{first_giver}
use Rattle.graph_edits.proofs.Grown.{unlinked_same}
use Rattle.edit_core.specs.Feeds.{FeedsStay, IsBegun, closed}

module _ (h h' : ℕ → List Item) (longer : (p : ℕ) → IsPrefix (h p) (h' p)) where
  -- a link that was undone gives what it gave
  same_calls : (source from to : ℕ) (eos : Bool) (marks : _) (ss : List Span) → AreWithin h (WasLinked source from to eos marks ∷ ss)
      → span_calls h' (WasLinked source from to eos marks) ≡ span_calls h (WasLinked source from to eos marks)
  same_calls source from to eos marks ss w =
      sym (append-nil (span_calls h' (WasLinked source from to eos marks)))
      ∙ unlinked_same h h' longer (WasLinked source from to eos marks ∷ []) (w.0, w.1, tt) refl
      ∙ append-nil (span_calls h (WasLinked source from to eos marks))

  same_giver : (ss : List Span) → AreWithin h ss → first_giver h' (closed ss) ≡ first_giver h (closed ss)
  same_giver [] w = refl
  same_giver (Linked source from marks ∷ ss) w = rw w.1 refl
  same_giver (WasLinked source from to eos marks ∷ ss) w =
      ap (λ (cs : List Call). if has_item (items cs) then Some source else first_giver h' (closed ss)) (same_calls source from to eos marks ss w)
      ∙ ap (λ (o : Option ℕ). if has_item (items (span_calls h (WasLinked source from to eos marks))) then Some source else o) (same_giver ss w.2)
  same_giver (Flushed number ∷ ss) w = same_giver ss w
  same_giver (Given calls ∷ ss) w = ap (λ (o : Option ℕ). if has_item (items calls) then o else o) (same_giver ss w)

  same_begun : (place : ℕ) (opened : Bool) (ss : List Span) → AreWithin h ss → IsBegun h place opened ss → IsBegun h' place opened ss
  same_begun place opened [] w b = tt
  same_begun place opened (Linked source from marks ∷ ss) w b =
      rw w.1 (b.0, b.1 ∙ ap (λ (xs : List Item). has_item (stickies xs)) (take_prefix from (longer source) w.0), tt)
  same_begun place opened (WasLinked source from to eos marks ∷ ss) w b = same_begun place opened ss w.2 b
  same_begun place opened (Flushed number ∷ ss) w b = same_begun place opened ss w b
  same_begun place opened (Given calls ∷ ss) w b = same_begun place opened ss w b

pub feeds_stay : FeedsStay
feeds_stay = record {
  grows = λ h owed h' owed' g feeds grows kept are. record {
    count = are.count;
    each = λ e feed at. record {
      first = (are.each e feed at).first ∙ sym (same_giver h h' grows.crossed (spans_at g (sink_at e 0)) (kept.within (sink_at e 0)));
      begun = same_begun h h' grows.crossed feed.from feed.opened (spans_at g (sink_at e 0)) (kept.within (sink_at e 0)) (are.each e feed at).begun;
    };
  };
  removed = λ h g feeds e are. record { count = are.count; each = are.each };
}
