-- Where EOS came on each sink pad; which pad is wanted; and how many pads there are.
use Rattle.std.proofs.Common.{◌≡◌, ◌<◌, ℕ, zero, suc, Bool, true, false, if◌then◌else◌, Some, None, List, [], ◌∷◌, ◌++◌, map, length, refl, sym, ap, ◌∙◌, Result, Ok, Err, arith}
use Rattle.std.specs.Prelude.{nat_lt}
use Rattle.std.proofs.lemmas.List.{length-map}
use Rattle.std.proofs.lemmas.Bool.{ltb-true}
use Rattle.std.proofs.lemmas.Option.{same_Some as some_is}
use Rattle.flow_model.specs.Item.{Item, Ev, Eos, is_eos}
use Rattle.flow_model.specs.Call.{Call}
use Rattle.flow_model.specs.Rule.{Fault}
use Rattle.flow_model.specs.Feeding.{has_eos}
use Rattle.flow_model.specs.SinkPads.{calls_at}
use Rattle.el_join.specs.declared.sums.Sums.{Sums}
use Rattle.el_join.specs.declared.pad.Facts.{Facts}
use Rattle.el_join.specs.declared.pad.Pad.{Pad}
use Rattle.el_join.specs.declared.concat.Concat.{Concat}
use Rattle.el_join.specs.Totals.{no_sums, raised}
use Rattle.el_join.specs.Sections.{reopened_of, all_reopened, open_section}
use Rattle.el_join.specs.Concats.{before_eos, has_end, behind, joined_from, in_front, all_or_fault}
use Rattle.el_join.specs.Joins.{sink_pads, facts_of, Knows, KnowEach, Counts, CountEach, Joins, first_open}
use Rattle.el_join.specs.Laws.{HandsEosOn, WantsOpenPads}
use Rattle.el_join.proofs.Beginning.{wants_first}
use Rattle.el_join.proofs.Sectioning.{puts_in_order}

-- EOS came on each sink pad, one after the other
abbrev AllEnded : List (List Call) → Type 0
AllEnded [] = Unit {0}
AllEnded (cs ∷ css) = (has_eos cs ≡ true) × AllEnded css

by_place : (took : List (List Call)) → ((pad : ℕ) → pad < length took → has_eos (calls_at pad took) ≡ true) → AllEnded took
by_place [] h = tt
by_place (cs ∷ css) h = (h 0 (omega arith), by_place css (λ pad within. h (suc pad) (omega (arith, within))))

at_place : (took : List (List Call)) → AllEnded took → (pad : ℕ) → pad < length took → has_eos (calls_at pad took) ≡ true
at_place [] h pad within = absurd (omega (arith, within))
at_place (cs ∷ css) h zero within = h.0
at_place (cs ∷ css) h (suc pad) within = at_place css h.1 pad (omega (arith, within))

-- so each list of the open section has EOS
abbrev AllOver : List (List Item) → Type 0
AllOver [] = Unit {0}
AllOver (xs ∷ xss) = (has_end xs ≡ true) × AllOver xss

all_over : (n : ℕ) (fs : List Facts) (took : List (List Call)) → KnowEach fs took → CountEach fs (all_reopened n took) → AllEnded took → AllOver (all_reopened n took)
all_over n fs [] ks ds h = tt
all_over n [] (cs ∷ took) ks ds h = absurd ks
all_over n (f ∷ fs) (cs ∷ took) ks ds h =
    let k : Knows f cs = ks.0 in let d : Counts f (reopened_of n cs) = ds.0 in
    (sym d.ended ∙ sym k.eos ∙ h.0, all_over n fs took ks.1 ds.1 h.1)

-- what is owed without a fault ends as its last part does
abbrev whole : List Item → Result (List Item) Fault
whole ys = Ok ys

same_of : (xs ys : List Item) → whole xs ≡ whole ys → xs ≡ ys
same_of xs ys e = cc

end_behind : (rs qs : List (Result Item Fault)) (put : List Item) → all_or_fault (rs ++ qs) ≡ Ok put → ((last : List Item) → all_or_fault qs ≡ Ok last → has_end last ≡ true)
    → has_end put ≡ true
end_behind [] qs put e ends = ends put e
end_behind (Err fault ∷ rs) qs put e ends = absurd (cc)
end_behind (Ok x ∷ rs) qs put e ends = go (all_or_fault (rs ++ qs)) refl e (λ more is. end_behind rs qs more is ends)
  where
    first : (b : Bool) (more : List Item) → has_end more ≡ true → (if b then true else has_end more) ≡ true
    first true more h = refl
    first false more h = h

    go : (r : Result (List Item) Fault) → all_or_fault (rs ++ qs) ≡ r → in_front x r ≡ Ok put → ((more : List Item) → all_or_fault (rs ++ qs) ≡ Ok more → has_end more ≡ true)
        → has_end put ≡ true
    go (Err fault) is e rest = absurd (cc)
    go (Ok more) is e rest = ap has_end (sym (same_of (x ∷ more) put e)) ∙ first (is_eos x) more (rest more is)

joined_over : (sums : Sums) (xss : List (List Item)) (put : List Item) → AllOver xss → all_or_fault (joined_from sums xss) ≡ Ok put → has_end put ≡ true
joined_over sums [] put h e = ap has_end (sym (same_of (Ev Eos ∷ []) put e))
joined_over sums (xs ∷ xss) put h e =
    end_behind (map (raised sums) (before_eos xs)) (joined_from (behind sums xs) xss) put
    (ap (λ (b : Bool). all_or_fault (map (raised sums) (before_eos xs) ++ (if b then joined_from (behind sums xs) xss else []))) (sym h.0) ∙ e)
    (λ last is. joined_over (behind sums xs) xss last h.1 is)

put_over : (element : Concat) (took : List (List Call)) (put : List Item) → Joins element took put → 0 < length took → AllEnded took → has_end put ≡ true
put_over element [] put j some h = absurd (omega (arith, some))
put_over element (cs ∷ took) put j some h =
    let n = open_section (cs ∷ took) in
    joined_over no_sums (all_reopened n (cs ∷ took)) put (all_over n (facts_of element.pads.items) (cs ∷ took) j.remembers.each j.counts h) j.owed

pub hands_eos_on : HandsEosOn
hands_eos_on element took put j some ended port =
    ap has_end (puts_in_order.all element took put j port) ∙ put_over element took put j some (by_place took ended)

-- the pad that is wanted
all_closed : (pad : ℕ) (took : List (List Call)) → first_open pad took ≡ None → AllEnded took
all_closed pad [] e = tt
all_closed pad (cs ∷ css) e = go (has_eos cs) refl e (all_closed (suc pad) css)
  where
    go : (b : Bool) → has_eos cs ≡ b → (if b then first_open (suc pad) css else Some pad) ≡ None → (first_open (suc pad) css ≡ None → AllEnded css) → (has_eos cs ≡ true) × AllEnded css
    go true is e rest = (is, rest e)
    go false is e rest = absurd (cc)

turn_within : (turn n pad : ℕ) → (if nat_lt turn n then Some turn else None) ≡ Some pad → pad < n
turn_within turn n pad e = go (nat_lt turn n) refl e
  where
    go : (b : Bool) → nat_lt turn n ≡ b → (if b then Some turn else None) ≡ Some pad → pad < n
    go true is e = let less = ltb-true turn n is in let same = some_is turn pad e in omega (arith, less, same)
    go false is e = absurd (cc)

know_length : (fs : List Facts) (took : List (List Call)) → KnowEach fs took → length took ≡ length fs
know_length [] [] ks = refl
know_length [] (cs ∷ took) ks = absurd ks
know_length (f ∷ fs) [] ks = absurd ks
know_length (f ∷ fs) (cs ∷ took) ks = ap suc (know_length fs took ks.1)

pub wants_open_pads : WantsOpenPads
wants_open_pads = record {
  pads = λ element took put j. know_length (facts_of element.pads.items) took j.remembers.each ∙ length-map element.pads.items (λ (p : Pad). p.facts);
  within = λ element pad e. turn_within element.turn (sink_pads element) pad e;
  none = λ element took put j e. at_place took (all_closed 0 took (sym (wants_first element took put j) ∙ e));
}
