-- From what a pad did to what the element puts out.
use Rattle.std.proofs.Common.{◌≡◌, ◌≢◌, ◌<◌, ◌+◌, ◌^◌, ℕ, false, Some, List, [], ◌∷◌, ◌++◌, Vec, Global, vec_len, length, length-set, set, refl, sym, ap, ◌∙◌, subst, Result, Ok, Err}
use Rattle.std.proofs.Props.{props}
use Rattle.std.specs.Prelude.{slice_get, IfErr, OnOk}
use Rattle.std.specs.Vec.{with_item}
use Rattle.gst_item.specs.declared.out.Out.{Out}
use Rattle.flow_model.specs.declared.fault.ElementFault.{ElementFault}
use Rattle.flow_model.specs.Item.{Item, Ev, Eos, is_flush_stop, is_eos}
use Rattle.flow_model.specs.Call.{Call}
use Rattle.flow_model.specs.Feeding.{on_pad, IsFaultOf}
use Rattle.el_join.specs.declared.sums.Sums.{Sums}
use Rattle.el_join.specs.declared.pad.Facts.{Facts}
use Rattle.el_join.specs.declared.pad.Pad.{Pad}
use Rattle.el_join.specs.declared.concat.Concat.{Concat}
use Rattle.el_join.specs.Outs.{fault_in, IsDue}
use Rattle.el_join.specs.Totals.{with_tally, raised, lifted}
use Rattle.el_join.specs.Pads.{opening_of, note_of, noted, ended, taken, brought}
use Rattle.el_join.specs.Concats.{concat_answers}
use Rattle.el_join.specs.Passing.{Swaps, later_from, TurnEnds}
use Rattle.el_join.specs.Joins.{facts_of, waiting_of, Joins, JoinPuts, HasNoEos}
use Rattle.el_join.proofs.Swapping.{some_is, swaps_set, swaps_none}
use Rattle.el_join.proofs.Joining.{puts_item, turn_fault}
use Rattle.el_join.proofs.Ending.{puts_end, end_fault}
use Rattle.el_join.proofs.Keeping.{puts_kept}
use Rattle.el_join.proofs.Pouring.{facts_swap, waits_swap, waits_same}
use Rattle.gst_value.proofs.Basics.{length_prop}
use Rattle.gst_value.proofs.Places.{found_at}

-- an element of the same parts
few_prop : (n : ℕ) → IsProp (n < 2 ^ 32)
few_prop n = hlevel props

abbrev SameAs : Concat → Vec Pad Global → ℕ → Sums → Type 0
SameAs old pads turn sums = (few : vec_len pads < 2 ^ 32) → record { pads = pads; turn = turn; sums = sums; few = few } ≡ old

as_is : (old : Concat) → SameAs old old.pads old.turn old.sums
as_is old few = rw (few_prop (vec_len old.pads) few old.few) refl

pub concat_is : (old : Concat) (pads : Vec Pad Global) (turn : ℕ) (sums : Sums) → pads ≡ old.pads → turn ≡ old.turn → sums ≡ old.sums → SameAs old pads turn sums
concat_is old pads turn sums e f g =
    subst (λ (v : Vec Pad Global). SameAs old v turn sums) (sym e) (subst (λ (n : ℕ). SameAs old old.pads n sums) (sym f) (subst (λ (s : Sums). SameAs old old.pads old.turn s) (sym g) (as_is old)))

abbrev SameVec : Vec Pad Global → List Pad → Type 0
SameVec v ws = (o : v.len ≡ length ws) → record { ptr = v.ptr; len = v.len; cap = v.cap; alloc = v.alloc; items = ws; ok = (o, v.ok.1); small = v.small } ≡ v

same_vec : (v : Vec Pad Global) → SameVec v v.items
same_vec v o = rw (length_prop v.len (length v.items) o v.ok.0) refl

pub vec_back : (v : Vec Pad Global) (k : ℕ) (p q : Pad) → slice_get v.items k ≡ Some p → q ≡ p → with_item v k q ≡ v
vec_back v k p q at is =
    subst (λ (ws : List Pad). SameVec v ws) (sym (ap (λ (r : Pad). set v.items k r) is ∙ swaps_none (swaps_set k v.items p p at))) (same_vec v)
    (v.ok.0 ∙ sym (length-set v.items k q))

pub no_eos_is : (old : Concat) (k : ℕ) (p : Pad) → slice_get old.pads.items k ≡ Some p → p.facts.ended ≡ false → HasNoEos old k
no_eos_is old k p at none q is = ap (λ (r : Pad). r.facts.ended) (some_is q p (sym is ∙ at)) ∙ none

-- a pad with other facts
with_facts : (old : Concat) (k : ℕ) (p : Pad) (f : Facts) → slice_get old.pads.items k ≡ Some p → (gs : List Facts) × Swaps k p.facts f (facts_of old.pads.items) gs
with_facts old k p f at = (facts_of (set old.pads.items k (record p { facts = f })), facts_swap k old.pads.items p (record p { facts = f }) f at refl)

-- A pad that is not in turn keeps an item.
pub kept_puts : (old new : Concat) (k : ℕ) (x : Item) (p q : Pad) → is_flush_stop x ≡ false → HasNoEos old k → k ≢ old.turn → slice_get old.pads.items k ≡ Some p
    → new.turn ≡ old.turn → new.sums ≡ old.sums → new.pads.items ≡ set old.pads.items k q → q.waiting ≡ p.waiting ++ on_pad 0 (brought p.facts x) → q.facts ≡ taken p.facts x
    → (out : List Out) → JoinPuts old new k x out out
kept_puts old new k x p q plain runs other at turn sums is waits facts out =
    puts_kept old new k x p.facts p.waiting q.waiting plain (runs p at) other turn sums
    (subst (λ (ps : List Pad). Swaps k p.facts (taken p.facts x) (facts_of old.pads.items) (facts_of ps)) (sym is) (facts_swap k old.pads.items p q (taken p.facts x) at facts))
    (subst (λ (ps : List Pad). Swaps k p.waiting q.waiting (waiting_of old.pads.items) (waiting_of ps)) (sym is) (waits_swap k old.pads.items p q q.waiting at refl))
    waits out out refl

pub kept_on : {A E : Type 0} (r : Result A E) (old new : Concat) (k : ℕ) (x : Item) (p q : Pad) → is_flush_stop x ≡ false → HasNoEos old k → k ≢ old.turn → slice_get old.pads.items k ≡ Some p
    → new.turn ≡ old.turn → new.sums ≡ old.sums → new.pads.items ≡ set old.pads.items k q → OnOk r (q.waiting ≡ p.waiting ++ on_pad 0 (brought p.facts x)) → OnOk r (q.facts ≡ taken p.facts x)
    → OnOk r ((out : List Out) → JoinPuts old new k x out out)
kept_on (Ok a) old new k x p q plain runs other at turn sums is waits facts = kept_puts old new k x p q plain runs other at turn sums is waits facts
kept_on (Err e) old new k x p q plain runs other at turn sums is waits facts = tt

-- The pad in turn puts an item out.
pub passed_puts : (old new : Concat) (x : Item) (p q : Pad) (out out' : List Out) → is_flush_stop x ≡ false → is_eos x ≡ false → HasNoEos old old.turn → slice_get old.pads.items old.turn ≡ Some p
    → new.turn ≡ old.turn → new.sums ≡ old.sums → new.pads.items ≡ set old.pads.items old.turn q
    → out' ≡ out ++ on_pad 0 (opening_of p.facts.begun p.facts.inherited ++ lifted old.sums x ∷ []) → raised old.sums x ≡ Ok (lifted old.sums x)
    → q.facts ≡ noted p.facts (note_of x) → q.waiting ≡ p.waiting → JoinPuts old new old.turn x out out'
passed_puts old new x p q out out' plain more runs at turn sums is outs fits facts waits =
    puts_item old new x p.facts plain more (runs p at)
    (subst (λ (ps : List Pad). Swaps old.turn p.facts (noted p.facts (note_of x)) (facts_of old.pads.items) (facts_of ps)) (sym is)
    (facts_swap old.turn old.pads.items p q (noted p.facts (note_of x)) at facts))
    turn sums (ap waiting_of is ∙ waits_same old.turn old.pads.items p q at waits) fits out out' outs

pub passed_on : {A E : Type 0} (r : Result A E) (old new : Concat) (x : Item) (p q : Pad) (out out' : List Out) → is_flush_stop x ≡ false → is_eos x ≡ false → HasNoEos old old.turn
    → slice_get old.pads.items old.turn ≡ Some p → new.turn ≡ old.turn → new.sums ≡ old.sums → new.pads.items ≡ set old.pads.items old.turn q
    → OnOk r (out' ≡ out ++ on_pad 0 (opening_of p.facts.begun p.facts.inherited ++ lifted old.sums x ∷ [])) → OnOk r (raised old.sums x ≡ Ok (lifted old.sums x))
    → OnOk r (q.facts ≡ noted p.facts (note_of x)) → OnOk r (q.waiting ≡ p.waiting) → OnOk r (JoinPuts old new old.turn x out out')
passed_on (Ok a) old new x p q out out' plain more runs at turn sums is outs fits facts waits = passed_puts old new x p q out out' plain more runs at turn sums is outs fits facts waits
passed_on (Err e) old new x p q out out' plain more runs at turn sums is outs fits facts waits = tt

pub passed_fault : (old : Concat) (x : Item) (p : Pad) → is_flush_stop x ≡ false → is_eos x ≡ false → HasNoEos old old.turn → slice_get old.pads.items old.turn ≡ Some p
    → (fault : ElementFault) → IsDue (fault_in (raised old.sums x ∷ [])) fault → (took : List (List Call)) (put : List Item) → Joins old took put → IsFaultOf (concat_answers took old.turn x) fault
passed_fault old x p plain more runs at fault due took put j =
    let s = with_facts old old.turn p (noted p.facts (note_of x)) at in turn_fault old s.0 x p.facts plain more (runs p at) s.1 took put fault j due

-- The pad in turn has EOS.
pub ended_puts : (old new : Concat) (out out' : List Out) → HasNoEos old old.turn → old.turn < length old.pads.items
    → ((p : Pad) → slice_get old.pads.items old.turn ≡ Some p → TurnEnds old.pads.items new.pads.items old.turn new.turn old.sums new.sums p out out')
    → JoinPuts old new old.turn (Ev Eos) out out'
ended_puts old new out out' runs within ends =
    let p = found_at old.pads.items old.turn within in puts_end old new p.0 (runs p.0 p.1) out out' (ends p.0 p.1)

pub ended_fault : (old : Concat) → HasNoEos old old.turn → old.turn < length old.pads.items → (fault : ElementFault)
    → ((p : Pad) → slice_get old.pads.items old.turn ≡ Some p → IsDue (fault_in (later_from (old.turn + 1) (with_tally old.sums p.facts.tally) old.pads.items)) fault)
    → (took : List (List Call)) (put : List Item) → Joins old took put → IsFaultOf (concat_answers took old.turn (Ev Eos)) fault
ended_fault old runs within fault due took put j =
    let p = found_at old.pads.items old.turn within in
    let s = with_facts old old.turn p.0 (ended p.0.facts) p.1 in
    end_fault old s.0 p.0 (runs p.0 p.1) s.1 took put fault j (due p.0 p.1)

-- what is said of the pad in turn, said of a pad that is in turn
pub puts_as : {A E : Type 0} (r : Result A E) (old new : Concat) (k : ℕ) (x y : Item) (out out' : List Out) → k ≡ old.turn → x ≡ y → OnOk r (JoinPuts old new old.turn y out out')
    → OnOk r (JoinPuts old new k x out out')
puts_as r old new k x y out out' e f h =
    subst (λ (i : ℕ). OnOk r (JoinPuts old new i x out out')) (sym e) (subst (λ (z : Item). OnOk r (JoinPuts old new old.turn z out out')) (sym f) h)

abbrev FaultAt : {A : Type 0} → Result A ElementFault → Concat → ℕ → Item → Type 0
FaultAt r old k x = IfErr r (λ fault. (took : List (List Call)) (put : List Item) → Joins old took put → IsFaultOf (concat_answers took k x) fault)

pub fault_as : {A : Type 0} (r : Result A ElementFault) (old : Concat) (k : ℕ) (x y : Item) → k ≡ old.turn → x ≡ y → FaultAt r old old.turn y → FaultAt r old k x
fault_as r old k x y e f h = subst (λ (i : ℕ). FaultAt r old i x) (sym e) (subst (λ (z : Item). FaultAt r old old.turn z) (sym f) h)
