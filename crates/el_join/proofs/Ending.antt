-- The pad in turn is given EOS.
use Rattle.std.proofs.Common.{◌≡◌, ◌+◌, ℕ, suc, true, false, Option, None, List, [], ◌∷◌, ◌++◌, map, drop, refl, sym, ap, ◌∙◌, subst, Result, Ok}
use Rattle.gst_item.specs.declared.out.Out.{Out}
use Rattle.flow_model.specs.declared.fault.ElementFault.{ElementFault}
use Rattle.flow_model.specs.Item.{Item, Ev, Eos}
use Rattle.flow_model.specs.Call.{Call, Feed}
use Rattle.flow_model.specs.Feeding.{IsFaultOf}
use Rattle.flow_model.specs.Rule.{Fault}
use Rattle.flow_model.specs.SinkPads.{push_calls, calls_at}
use Rattle.el_join.specs.declared.pad.Facts.{Facts}
use Rattle.el_join.specs.declared.pad.Pad.{Pad}
use Rattle.el_join.specs.declared.concat.Concat.{Concat}
use Rattle.el_join.specs.Outs.{fault_in, IsDue}
use Rattle.el_join.specs.Totals.{no_sums, with_tally, raised}
use Rattle.el_join.specs.Pads.{opening_of, ended}
use Rattle.el_join.specs.Sections.{reopened_of, all_reopened, open_section}
use Rattle.el_join.specs.Concats.{joined_from, all_or_fault, concat_answers}
use Rattle.el_join.specs.Going.{later}
use Rattle.el_join.specs.Passing.{Swaps, Coming, later_from, going_from, TurnEnds}
use Rattle.el_join.specs.Joins.{facts_of, waiting_of, Counts, CountEach, Joins, JoinPuts}
use Rattle.el_join.proofs.Noting.{Longer, longer_end, knows_ended, counts_ended}
use Rattle.el_join.proofs.Lines.{AtPad, count_swapped, all_fit, turn_end}
use Rattle.el_join.proofs.Joining.{opening_ok, opening_fault, due_is, Brings, answers_are, here_is, swap_is, joins_push, next_is}
use Rattle.el_join.proofs.Swapping.{swaps_drop}
use Rattle.el_join.proofs.Free.{opening_free}
use Rattle.flow_model.proofs.Items.{free_append, on_append}
use Rattle.gst_value.proofs.Basics.{one_more}

abbrev done : List Item → Result (List Item) Fault
done ys = Ok ys

-- what waits behind the pad in turn, and what goes out where it has EOS
abbrev rest_behind : Concat → Pad → List (Result Item Fault)
rest_behind old p = later_from (suc old.turn) (with_tally old.sums p.facts.tally) old.pads.items

abbrev goes_out : Concat → Pad → List Item
goes_out old p = opening_of p.facts.begun p.facts.inherited ++ going_from (old.turn + 1) (with_tally old.sums p.facts.tally) old.pads.items

-- The pad in turn is given EOS.
module _ (old : Concat) (gs : List Facts) (p : Pad) (none : p.facts.ended ≡ false) (s : Swaps old.turn p.facts (ended p.facts) (facts_of old.pads.items) gs) where
  module _ (took : List (List Call)) (put : List Item) (j : Joins old took put) where
    at_end : AtPad (open_section took) p.facts (calls_at old.turn took)
    at_end = here_is old gs old.turn (Ev Eos) p.facts (ended p.facts) refl took put j s

    end_longer : Longer (reopened_of (open_section took) (calls_at old.turn took)) (reopened_of (open_section took) (calls_at old.turn took ++ Feed (Ev Eos) ∷ [])) (opening_of p.facts.begun p.facts.inherited) true
    end_longer =
        subst (λ (ys : List Item). Longer (reopened_of (open_section took) (calls_at old.turn took)) ys (opening_of p.facts.begun p.facts.inherited) true)
        (sym (next_is old gs old.turn (Ev Eos) p.facts (ended p.facts) refl took put j s none))
        (longer_end p.facts (reopened_of (open_section took) (calls_at old.turn took)) (sym at_end.counts.ended ∙ none))

    end_counts : Counts (ended p.facts) (reopened_of (open_section took) (calls_at old.turn took ++ Feed (Ev Eos) ∷ []))
    end_counts =
        subst (λ (ys : List Item). Counts (ended p.facts) ys) (sym (next_is old gs old.turn (Ev Eos) p.facts (ended p.facts) refl took put j s none))
        (counts_ended p.facts (reopened_of (open_section took) (calls_at old.turn took)) none at_end.counts)

    all_counts : CountEach gs (all_reopened (open_section took) (push_calls old.turn (Feed (Ev Eos) ∷ []) took))
    all_counts =
        count_swapped s (swap_is old gs old.turn (Ev Eos) p.facts (ended p.facts) refl took put j s) end_counts j.counts

    end_brings : Coming (suc old.turn) no_sums (with_tally old.sums p.facts.tally) (waiting_of old.pads.items) (all_reopened (open_section took) (push_calls old.turn (Feed (Ev Eos) ∷ []) took))
        × Brings (open_section took) old.turn (Ev Eos) took (map (raised old.sums) (opening_of p.facts.begun p.facts.inherited) ++ rest_behind old p)
    end_brings =
        let n = open_section took in
        let swap = swap_is old gs old.turn (Ev Eos) p.facts (ended p.facts) refl took put j s in
        let t = turn_end no_sums old.sums (waiting_of old.pads.items) (opening_of p.facts.begun p.facts.inherited) s swap end_longer end_counts all_counts j.turn in (
          t.0,
          record {
            swap = swap;
            more = t.1 ∙ ap (λ (fs : List Facts). joined_from no_sums (all_reopened n took) ++ (map (raised old.sums) (opening_of p.facts.begun p.facts.inherited)
                ++ later (with_tally old.sums p.facts.tally) fs (drop (suc old.turn) (waiting_of old.pads.items)))) (swaps_drop s);
          },
        )

  pub end_fault : (took : List (List Call)) (put : List Item) (fault : ElementFault) → Joins old took put
      → IsDue (fault_in (later_from (old.turn + 1) (with_tally old.sums p.facts.tally) old.pads.items)) fault → IsFaultOf (concat_answers took old.turn (Ev Eos)) fault
  end_fault took put fault j due =
      subst (λ (r : Result (List Item) Fault). IsFaultOf r fault) (sym (answers_are old.turn (Ev Eos) took _ (end_brings took put j).1))
      (due_is (map (raised old.sums) (opening_of p.facts.begun p.facts.inherited) ++ rest_behind old p) fault
      (subst (λ (o : Option Fault). IsDue o fault)
      (ap (λ k. fault_in (later_from k (with_tally old.sums p.facts.tally) old.pads.items)) (one_more old.turn) ∙ sym (opening_fault old.sums p.facts.begun p.facts.inherited (rest_behind old p))) due))

module _ (old new : Concat) (p : Pad) (none : p.facts.ended ≡ false) (out out' : List Out)
    (t : TurnEnds old.pads.items new.pads.items old.turn new.turn old.sums new.sums p out out') where
  rest_all : all_or_fault (map (raised old.sums) (opening_of p.facts.begun p.facts.inherited) ++ later_from (suc old.turn) (with_tally old.sums p.facts.tally) old.pads.items) ≡ Ok (goes_out old p)
  rest_all =
      opening_ok old.sums p.facts.begun p.facts.inherited (later_from (suc old.turn) (with_tally old.sums p.facts.tally) old.pads.items) (going_from (suc old.turn) (with_tally old.sums p.facts.tally) old.pads.items)
      (all_fit (with_tally old.sums p.facts.tally) (drop (suc old.turn) (facts_of old.pads.items)) (drop (suc old.turn) (waiting_of old.pads.items))
      (subst (λ (k : ℕ). fault_in (later_from k (with_tally old.sums p.facts.tally) old.pads.items) ≡ None) (one_more old.turn) t.fits))
      ∙ ap done (ap (λ (k : ℕ). opening_of p.facts.begun p.facts.inherited ++ going_from k (with_tally old.sums p.facts.tally) old.pads.items) (sym (one_more old.turn)))

  pub puts_end : JoinPuts old new old.turn (Ev Eos) out out'
  puts_end = record {
    more = goes_out old p;
    outs = t.passes.outs ∙ ap (λ os. out ++ os) (sym (on_append (opening_of p.facts.begun p.facts.inherited) (going_from (old.turn + 1) (with_tally old.sums p.facts.tally) old.pads.items)));
    free = free_append (opening_of p.facts.begun p.facts.inherited) (going_from (old.turn + 1) (with_tally old.sums p.facts.tally) old.pads.items)
        (opening_free p.facts.begun p.facts.inherited) t.passes.free;
    owed = λ took put j. answers_are old.turn (Ev Eos) took _ (end_brings old (facts_of new.pads.items) p none t.passes.facts took put j).1 ∙ rest_all;
    stands = λ took put j.
        let b = end_brings old (facts_of new.pads.items) p none t.passes.facts took put j in
        joins_push old new old.turn (Ev Eos) p.facts (ended p.facts) refl took put j t.passes.facts _ _
        (knows_ended p.facts (calls_at old.turn took) none (at_end old (facts_of new.pads.items) p none t.passes.facts took put j).knows)
        (end_counts old (facts_of new.pads.items) p none t.passes.facts took put j)
        (t.passes.comes no_sums (all_reopened (open_section took) (push_calls old.turn (Feed (Ev Eos) ∷ []) took)) (all_counts old (facts_of new.pads.items) p none t.passes.facts took put j)
        (subst (λ (k : ℕ). Coming k no_sums (with_tally old.sums p.facts.tally) (waiting_of old.pads.items) (all_reopened (open_section took) (push_calls old.turn (Feed (Ev Eos) ∷ []) took))) (sym (one_more old.turn)) b.0))
        b.1 rest_all;
  }
