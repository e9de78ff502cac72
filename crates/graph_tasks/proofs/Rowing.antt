-- The rows of an element's sink pads, each fed from the lane to its pad.
use Rattle.std.proofs.Common.{◌≡◌, ◌≢◌, ◌<◌, ◌+◌, ◌⊎◌, ℕ, false, List, [], ◌∷◌, ◌++◌, Option, None, Some, length, length-set, refl, sym, ap, ◌∙◌, subst, inl, inr, append_assoc, arith}
use Rattle.std.specs.Prelude.{slice_get, slice_index_or, slice_set}
use Rattle.std.specs.Option.{is_some}
use Rattle.std.proofs.lemmas.List.{append-nil}
use Rattle.std.proofs.lemmas.Option.{slice_get-get_or}
use Rattle.flow_model.specs.Account.{IsMember}
use Rattle.graph_core.specs.Elements.{Made}
use Rattle.graph_core.specs.GraphPlan.{pad_id, sink_at as place_at}
use Rattle.graph_pads.specs.declared.pad.PadLink.{PadLink}
use Rattle.graph_parts.specs.declared.bag.BagHead.TheVariants.{Inlets}
use Rattle.graph_parts.proofs.Onces.{in_either, in_front, in_back}
use Rattle.graph_parts.specs.Lanes.{InletAt, lane_room}
use Rattle.graph_parts.proofs.LaneSlots.{one_slot, slot_of_set}
use Rattle.inlet_row.specs.Row.{feeds_of}
use Rattle.inlet_row.specs.declared.row.InletRow.{InletRow}
use Rattle.lane_core.specs.declared.ends.Inlet as inlets
use Rattle.graph_tasks.specs.Tasks.{IsRowOf, sink_count}
use Rattle.graph_tasks.specs.Wiring.{AreApart, InletsLeft, RowsMade, feeds_with, inlets_of}
use Rattle.graph_tasks.proofs.Numbers.{in_numbers, number_within, numbers_more, numbers_of, of_numbers}

no_lane : (found : Option ℕ) → found ≡ None → is_some found ≡ false
no_lane None h = refl
no_lane (Some n) h = absurd (cc)

module _ {I L O : Type 0} (i : inlets.Ghosts I L O) (made : List Made) (links : List PadLink) where
  -- one more inlet is taken
  inlets_less : (heads : List ℕ) (d : ℕ) (starts left : List (Option I)) → InletsLeft i made links heads starts → left ≡ slice_set starts d None → InletsLeft i made links (heads ++ d ∷ []) left
  inlets_less heads d starts left were is = subst (λ (es : List (Option I)). InletsLeft i made links (heads ++ d ∷ []) es) (sym is) (record {
    size = length-set starts d None ∙ were.size;
    at = λ m end at fresh. by m end fresh (slot_of_set starts d None m end at);
  })
    where
      by : (m : ℕ) (end : Option I) → (IsMember m (heads ++ d ∷ []) → ⊥) → ((m ≡ d) × (end ≡ None)) ⊎ ((m ≢ d) × (slice_get starts m ≡ Some end)) → InletAt i.place i.received made links m end
      by m end fresh (inl here) = absurd (fresh (in_back m heads (d ∷ []) (inl here.0)))
      by m end fresh (inr other) = were.at m end other.1 (λ h. fresh (in_front m heads (d ∷ []) h))

  -- the row of a sink pad, by the inlet that was there
  row_by : (n k : ℕ) (row : InletRow I) (found : Option I) → InletAt i.place i.received made links (pad_id (place_at n k)) found → feeds_of row ≡ feeds_with (pad_id (place_at n k)) found → IsRowOf i made links n k row
  row_by n k row None at is = IsRowOf.unlinked (no_lane (lane_room made links (pad_id (place_at n k))) at) is
  row_by n k row (Some inlet) at is = IsRowOf.linked inlet at.0 is at.1 at.2

  -- The rows of the first sink pads of an element were made.
  pub record RowsSo (n : ℕ) (heads : List ℕ) (k : ℕ) (rows : List (InletRow I)) (starts : List (Option I)) : Type 0 where
    pub each : (j : ℕ) (row : InletRow I) → slice_get rows j ≡ Some row → IsRowOf i made links n j row
    pub left : InletsLeft i made links (heads ++ numbers_of n k) starts

  pub rows_begin : (n : ℕ) (heads : List ℕ) (rows : List (InletRow I)) (starts : List (Option I)) → rows ≡ [] → InletsLeft i made links heads starts → RowsSo n heads 0 rows starts
  rows_begin n heads rows starts none left = record {
    each = λ j row at. absurd (let no = sym at ∙ ap (λ (rs : List (InletRow I)). slice_get rs j) none in cc);
    left = subst (λ (ns : List ℕ). InletsLeft i made links ns starts) (sym (append-nil heads)) left;
  }

  module _ (n : ℕ) (heads : List ℕ) (k : ℕ) (within : k < sink_count made n) (apart : AreApart (inlets_of made (Inlets n)) heads) where
    -- the inlet of the next pad was not taken
    not_taken : IsMember (pad_id (place_at n k)) (heads ++ numbers_of n k) → ⊥
    not_taken m = go (in_either (pad_id (place_at n k)) heads (numbers_of n k) m)
      where
        go : IsMember (pad_id (place_at n k)) heads ⊎ IsMember (pad_id (place_at n k)) (numbers_of n k) → ⊥
        go (inl h) = apart (pad_id (place_at n k)) (in_numbers n (sink_count made n) k within) h
        go (inr h) = let r = of_numbers n k (pad_id (place_at n k)) h in omega (arith, r.1, r.2)

    pub rows_more : (d : ℕ) (rows rows' : List (InletRow I)) (row : InletRow I) (starts starts' : List (Option I)) → length rows ≡ k → d ≡ pad_id (place_at n k) → RowsSo n heads k rows starts
        → feeds_of row ≡ feeds_with d (slice_index_or starts d None) → starts' ≡ slice_set starts d None → rows' ≡ rows ++ row ∷ [] → RowsSo n heads (k + 1) rows' starts'
    rows_more d rows rows' row starts starts' size number so fed less put = record {
      each = one_slot (λ (j : ℕ) (r : InletRow I). IsRowOf i made links n j r) rows rows' row k put size so.each (row_by n k row (slice_index_or starts (pad_id (place_at n k)) None) own is);
      left =
          subst (λ (ns : List ℕ). InletsLeft i made links ns starts')
          (append_assoc heads (numbers_of n k) (pad_id (place_at n k) ∷ []) ∙ ap (λ (ns : List ℕ). heads ++ ns) (sym (numbers_more n k)))
          (inlets_less (heads ++ numbers_of n k) (pad_id (place_at n k)) starts starts' so.left (subst (λ (e : ℕ). starts' ≡ slice_set starts e None) number less));
    }
      where
        own : InletAt i.place i.received made links (pad_id (place_at n k)) (slice_index_or starts (pad_id (place_at n k)) None)
        own =
            so.left.at (pad_id (place_at n k)) (slice_index_or starts (pad_id (place_at n k)) None)
            (slice_get-get_or starts (pad_id (place_at n k)) None (let w = number_within made n k within in omega (arith, w, so.left.size))) not_taken

        is : feeds_of row ≡ feeds_with (pad_id (place_at n k)) (slice_index_or starts (pad_id (place_at n k)) None)
        is = subst (λ (e : ℕ). feeds_of row ≡ feeds_with e (slice_index_or starts e None)) number fed

  pub rows_made : (n : ℕ) (heads : List ℕ) (k : ℕ) (rows : List (InletRow I)) (starts : List (Option I)) → length rows ≡ k → k ≡ sink_count made n → RowsSo n heads k rows starts → RowsMade i made links n heads rows starts
  rows_made n heads k rows starts size whole so = record {
    count = size ∙ whole;
    each = so.each;
    left = subst (λ (c : ℕ). InletsLeft i made links (heads ++ numbers_of n c) starts) whole so.left;
  }
