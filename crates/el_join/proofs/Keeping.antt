-- A pad whose turn it is not, or that had EOS, is given an item.
use Rattle.std.proofs.Common.{◌≡◌, ◌≢◌, ◌<◌, ℕ, zero, suc, Bool, true, false, if◌then◌else◌, Some, List, [], ◌∷◌, ◌++◌, ltb, refl, sym, ap, ◌∙◌, subst, append-nil, arith}
use Rattle.std.specs.Prelude.{slice_get}
use Rattle.std.proofs.lemmas.Bool.{ltb-true, ltb-false}
use Rattle.gst_item.specs.declared.out.Out.{Out}
use Rattle.gst_item.specs.declared.flow.Flow.TheVariants.{Ok as Taken, Eos as BehindEos}
use Rattle.flow_model.specs.Item.{Item, Buf, Ev, StreamStart, NewCaps, NewSegment, Tag, Gap, FlushStop, Eos, is_flush_stop, is_eos}
use Rattle.flow_model.specs.Call.{Call, Feed}
use Rattle.flow_model.specs.Feeding.{flow_behind, on_pad}
use Rattle.flow_model.specs.SinkPads.{push_calls, calls_at}
use Rattle.el_join.specs.declared.sums.Sums.{Sums}
use Rattle.el_join.specs.declared.pad.Facts.{Facts}
use Rattle.el_join.specs.declared.pad.Pad.{Pad}
use Rattle.el_join.specs.declared.concat.Concat.{Concat}
use Rattle.el_join.specs.Totals.{no_sums}
use Rattle.el_join.specs.Pads.{opening_of, note_of, noted, ended, taken, brought}
use Rattle.el_join.specs.Sections.{reopened_of, all_reopened, open_section}
use Rattle.el_join.specs.Concats.{has_end, behind, joined_from}
use Rattle.el_join.specs.Passing.{Swaps, here, there}
use Rattle.el_join.specs.Joins.{facts_of, waiting_of, Knows, Counts, InTurn, Joins, JoinPuts}
use Rattle.el_join.proofs.Noting.{Longer, longer_item, longer_end, knows_noted, knows_ended, knows_behind, counts_noted, counts_ended, reopened_same}
use Rattle.el_join.proofs.Lines.{AtPad, at_pad, later_item, swaps_map}
use Rattle.el_join.proofs.Joining.{Brings, answers_are, here_is, swap_is, joins_push, next_is}
use Rattle.el_join.proofs.Swapping.{swaps_same, swaps_none}

differ : true ≡ false → ⊥
differ e = absurd (cc)

-- a pad before the one in turn has ended
ended_before : {k : ℕ} {xs ys : List Item} {xss yss : List (List Item)} (turn : ℕ) (sums now : Sums) (ws : List (List Out)) → Swaps k xs ys xss yss → k < turn → InTurn turn sums now ws xss → has_end xs ≡ true
ended_before zero sums now ws s h t = absurd (omega (arith, h))
ended_before (suc turn) sums now [] here h t = absurd t
ended_before (suc turn) sums now (w ∷ ws) here h t = t.0
ended_before (suc turn) sums now [] (there s) h t = absurd t
ended_before (suc turn) sums now (w ∷ ws) (there {x = zs} s) h t = ended_before turn (behind sums zs) now ws s (omega (arith, h)) t.2

-- A pad whose turn it is not is given an item, which waits.
brought_item : (f : Facts) (x : Item) → is_eos x ≡ false → brought f x ≡ opening_of f.begun f.inherited ++ x ∷ []
brought_item f x e = ap (λ (b : Bool). opening_of f.begun f.inherited ++ (if b then [] else x ∷ [])) e

brought_end : (f : Facts) (x : Item) → is_eos x ≡ true → brought f x ≡ opening_of f.begun f.inherited
brought_end f x e = ap (λ (b : Bool). opening_of f.begun f.inherited ++ (if b then [] else x ∷ [])) e ∙ append-nil (opening_of f.begun f.inherited)

pub end_is : (x : Item) → is_eos x ≡ true → x ≡ Ev Eos
end_is (Buf b) e = absurd (cc)
end_is (Ev (StreamStart id)) e = absurd (cc)
end_is (Ev (NewCaps caps)) e = absurd (cc)
end_is (Ev (NewSegment t)) e = absurd (cc)
end_is (Ev (Tag title)) e = absurd (cc)
end_is (Ev (Gap pts duration)) e = absurd (cc)
end_is (Ev (FlushStop number)) e = absurd (cc)
end_is (Ev Eos) e = refl

module _ (old new : Concat) (k : ℕ) (x : Item) (f : Facts) (w v : List Out) (plain : is_flush_stop x ≡ false) (none : f.ended ≡ false) (other : k ≢ old.turn)
    (turn : new.turn ≡ old.turn) (sums : new.sums ≡ old.sums) (s : Swaps k f (taken f x) (facts_of old.pads.items) (facts_of new.pads.items))
    (r : Swaps k w v (waiting_of old.pads.items) (waiting_of new.pads.items)) (waits : v ≡ w ++ on_pad 0 (brought f x)) where
  module _ (took : List (List Call)) (put : List Item) (j : Joins old took put) where
    at_wait : AtPad (open_section took) f (calls_at k took)
    at_wait = here_is old (facts_of new.pads.items) k x f (taken f x) plain took put j s

    swap_wait : Swaps k (reopened_of (open_section took) (calls_at k took)) (reopened_of (open_section took) (calls_at k took ++ Feed x ∷ []))
        (all_reopened (open_section took) took) (all_reopened (open_section took) (push_calls k (Feed x ∷ []) took))
    swap_wait = swap_is old (facts_of new.pads.items) k x f (taken f x) plain took put j s

    next_wait : reopened_of (open_section took) (calls_at k took ++ Feed x ∷ []) ≡ reopened_of (open_section took) (calls_at k took) ++ (opening_of f.begun f.inherited ++ x ∷ [])
    next_wait = next_is old (facts_of new.pads.items) k x f (taken f x) plain took put j s none

    open_list : has_end (reopened_of (open_section took) (calls_at k took)) ≡ false
    open_list = sym at_wait.counts.ended ∙ none

    wait_longer : (b : Bool) → is_eos x ≡ b → Longer (reopened_of (open_section took) (calls_at k took)) (reopened_of (open_section took) (calls_at k took ++ Feed x ∷ [])) (brought f x) b
    wait_longer false e =
        subst (λ (ys : List Item). Longer (reopened_of (open_section took) (calls_at k took)) ys (brought f x) false) (sym next_wait)
        (subst (λ (more : List Item). Longer (reopened_of (open_section took) (calls_at k took)) (reopened_of (open_section took) (calls_at k took) ++ (opening_of f.begun f.inherited ++ x ∷ [])) more false)
        (sym (brought_item f x e)) (longer_item f (reopened_of (open_section took) (calls_at k took)) open_list x e))
    wait_longer true e =
        subst (λ (ys : List Item). Longer (reopened_of (open_section took) (calls_at k took)) ys (brought f x) true) (sym next_wait)
        (subst (λ (more : List Item). Longer (reopened_of (open_section took) (calls_at k took)) (reopened_of (open_section took) (calls_at k took) ++ (opening_of f.begun f.inherited ++ x ∷ [])) more true)
        (sym (brought_end f x e)) (subst (λ (y : Item). Longer (reopened_of (open_section took) (calls_at k took)) (reopened_of (open_section took) (calls_at k took) ++ (opening_of f.begun f.inherited ++ y ∷ []))
        (opening_of f.begun f.inherited) true) (sym (end_is x e)) (longer_end f (reopened_of (open_section took) (calls_at k took)) open_list)))

    wait_knows : (b : Bool) → is_eos x ≡ b → Knows (if b then ended f else noted f (note_of x)) (calls_at k took ++ Feed x ∷ [])
    wait_knows false e = knows_noted f (calls_at k took) x plain e none at_wait.knows
    wait_knows true e = subst (λ (y : Item). Knows (ended f) (calls_at k took ++ Feed y ∷ [])) (sym (end_is x e)) (knows_ended f (calls_at k took) none at_wait.knows)

    wait_counts : (b : Bool) → is_eos x ≡ b → Counts (if b then ended f else noted f (note_of x)) (reopened_of (open_section took) (calls_at k took) ++ (opening_of f.begun f.inherited ++ x ∷ []))
    wait_counts false e = counts_noted f (reopened_of (open_section took) (calls_at k took)) x e none at_wait.counts
    wait_counts true e = subst (λ (y : Item). Counts (ended f) (reopened_of (open_section took) (calls_at k took) ++ (opening_of f.begun f.inherited ++ y ∷ []))) (sym (end_is x e))
        (counts_ended f (reopened_of (open_section took) (calls_at k took)) none at_wait.counts)

    behind_turn : old.turn < k
    behind_turn = go (ltb k old.turn) refl
      where
        go : (b : Bool) → ltb k old.turn ≡ b → old.turn < k
        go false e = omega (arith, other, ltb-false k old.turn e)
        go true e =
            let over = ended_before old.turn no_sums old.sums (waiting_of old.pads.items) swap_wait (ltb-true k old.turn e) j.turn in
            absurd (differ (sym over ∙ open_list))

    wait_brings : InTurn old.turn no_sums old.sums (waiting_of new.pads.items) (all_reopened (open_section took) (push_calls k (Feed x ∷ []) took)) × Brings (open_section took) k x took []
    wait_brings =
        let n = open_section took in
        let t = later_item old.turn no_sums old.sums (brought f x) (is_eos x) r swap_wait (wait_longer (is_eos x) refl) waits behind_turn j.turn in
        (t.0, record { swap = swap_wait; more = t.1 ∙ sym (append-nil (joined_from no_sums (all_reopened n took))) })

  turn_from : (ws : List (List Out)) (yss : List (List Item)) → new.turn ≡ old.turn → new.sums ≡ old.sums → InTurn old.turn no_sums old.sums ws yss → InTurn new.turn no_sums new.sums ws yss
  turn_from ws yss a b t = subst (λ (q : ℕ). InTurn q no_sums new.sums ws yss) (sym a) (subst (λ (q : Sums). InTurn old.turn no_sums q ws yss) (sym b) t)

  pub puts_kept : (out out' : List Out) → out' ≡ out → JoinPuts old new k x out out'
  puts_kept out out' same = record {
    more = [];
    outs = same ∙ sym (append-nil out);
    free = refl;
    owed = λ took put j. answers_are k x took [] (wait_brings took put j).1;
    stands = λ took put j.
        let b = wait_brings took put j in
        joins_push old new k x f (taken f x) plain took put j s [] []
        (wait_knows took put j (is_eos x) refl)
        (subst (λ (ys : List Item). Counts (taken f x) ys) (sym (next_wait took put j)) (wait_counts took put j (is_eos x) refl))
        (turn_from (waiting_of new.pads.items) (all_reopened (open_section took) (push_calls k (Feed x ∷ []) took)) turn sums b.0) b.1 refl;
  }

-- A pad that had EOS is given an item.
module _ (old : Concat) (k : ℕ) (x : Item) (p : Pad) (plain : is_flush_stop x ≡ false) (over : p.facts.ended ≡ true) (at : slice_get old.pads.items k ≡ Some p) where
  same_swap : Swaps k p.facts p.facts (facts_of old.pads.items) (facts_of old.pads.items)
  same_swap = swaps_map (λ (q : Pad). q.facts) (swaps_same k old.pads.items p at)

  module _ (took : List (List Call)) (put : List Item) (j : Joins old took put) where
    at_over : AtPad (open_section took) p.facts (calls_at k took)
    at_over = here_is old (facts_of old.pads.items) k x p.facts p.facts plain took put j same_swap

    list_same : reopened_of (open_section took) (calls_at k took ++ Feed x ∷ []) ≡ reopened_of (open_section took) (calls_at k took)
    list_same = reopened_same (open_section took) p.facts (calls_at k took) x plain over at_over.level at_over.counts

    lists_same : all_reopened (open_section took) (push_calls k (Feed x ∷ []) took) ≡ all_reopened (open_section took) took
    lists_same = swaps_none (subst (λ (ys : List Item). Swaps k (reopened_of (open_section took) (calls_at k took)) ys (all_reopened (open_section took) took) (all_reopened (open_section took) (push_calls k (Feed x ∷ []) took)))
        list_same (swap_is old (facts_of old.pads.items) k x p.facts p.facts plain took put j same_swap))

    over_brings : Brings (open_section took) k x took []
    over_brings = record {
      swap = swap_is old (facts_of old.pads.items) k x p.facts p.facts plain took put j same_swap;
      more = ap (joined_from no_sums) lists_same ∙ sym (append-nil (joined_from no_sums (all_reopened (open_section took) took)));
    }

    pub flow_over : BehindEos ≡ flow_behind (calls_at k took)
    flow_over = ap (λ (b : Bool). if b then BehindEos else Taken) (sym (at_over.knows.eos ∙ over))

  pub puts_over : (out : List Out) → JoinPuts old old k x out out
  puts_over out = record {
    more = [];
    outs = sym (append-nil out);
    free = refl;
    owed = λ took put j. answers_are k x took [] (over_brings took put j);
    stands = λ took put j.
        joins_push old old k x p.facts p.facts plain took put j same_swap [] []
        (knows_behind p.facts (calls_at k took) x plain over (at_over took put j).knows)
        (subst (λ (ys : List Item). Counts p.facts ys) (sym (list_same took put j)) (at_over took put j).counts)
        (subst (λ (yss : List (List Item)). InTurn old.turn no_sums old.sums (waiting_of old.pads.items) yss) (sym (lists_same took put j)) j.turn)
        (over_brings took put j) refl;
  }

-- in front of its EOS the answer is Ok
pub flow_taken : (old : Concat) (k : ℕ) (p : Pad) (took : List (List Call)) (put : List Item) → slice_get old.pads.items k ≡ Some p → p.facts.ended ≡ false → Joins old took put → Taken ≡ flow_behind (calls_at k took)
flow_taken old k p took put at none j =
    let at_it = at_pad (open_section took) took (swaps_map (λ (q : Pad). q.facts) (swaps_same k old.pads.items p at)) j.remembers.each j.counts j.remembers.level in
    ap (λ (b : Bool). if b then BehindEos else Taken) (sym (at_it.knows.eos ∙ none))
