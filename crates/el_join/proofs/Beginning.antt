-- An element that was given nothing, the pad in turn, a flush, and an event that is laid.
use Rattle.std.proofs.Common.{◌≡◌, ◌≤◌, ◌<◌, ◌+◌, ℕ, zero, suc, Bool, true, false, if◌then◌else◌, Option, Some, None, List, [], ◌∷◌, ◌++◌, map, length, replicate, refl, sym, ap, ◌∙◌, subst, Ok, arith}
use Rattle.std.specs.Prelude.{nat_lt}
use Rattle.std.proofs.lemmas.List.{length-map}
use Rattle.std.proofs.lemmas.Bool.{ltb-true, ltb-false, lt-ltb, le-ltb}
use Rattle.gst_item.specs.declared.out.Out.{Out}
use Rattle.flow_model.specs.Item.{Item, Event, Ev, FlushStop}
use Rattle.flow_model.specs.Call.{Call, Feed, items}
use Rattle.flow_model.specs.Feeding.{on_pad}
use Rattle.flow_model.proofs.Calls.{items_push}
use Rattle.flow_model.specs.SinkPads.{flush_stops_given, push_calls, push_each, InSection, calls_at}
use Rattle.flow_model.specs.Section.{flush_stops}
use Rattle.el_join.specs.declared.sums.Sums.{Sums}
use Rattle.el_join.specs.declared.pad.Facts.{Facts}
use Rattle.el_join.specs.declared.pad.Pad.{Pad}
use Rattle.el_join.specs.declared.concat.Concat.{Concat}
use Rattle.el_join.specs.Totals.{no_sums}
use Rattle.el_join.specs.Pads.{cleared, laid, no_facts}
use Rattle.el_join.specs.Sections.{reopened_of, all_reopened, reopened, open_section}
use Rattle.el_join.specs.Concats.{before_eos, has_end, behind, joined_from, all_or_fault, joined_now}
use Rattle.el_join.specs.Passing.{Swaps}
use Rattle.el_join.specs.Joins.{wanted, facts_of, waiting_of, Knows, KnowEach, Counts, CountEach, Wait, InTurn, Remembers, Joins, first_open}
use Rattle.el_join.proofs.Opened.{reopened_flushed}
use Rattle.el_join.proofs.Noting.{knows_laid, knows_flushed, plain_of, counts_flushed}
use Rattle.el_join.proofs.Lines.{know_at, know_swapped, level_pushed}
use Rattle.el_join.proofs.Joining.{open_push}
use Rattle.flow_model.proofs.Items.{none_in as level_none, stops_flushed, stops_of, stops_push as flush_push}
use Rattle.flow_model.specs.Inherited.{is_inherited}

plus_none : (m : ℕ) → m ≡ m + 0
plus_none m = omega arith

zero_plus : (m : ℕ) → m ≡ 0 + m
zero_plus m = omega arith

plus_suc : (m turn : ℕ) → suc m + turn ≡ m + suc turn
plus_suc m turn = omega arith

no_pads : (ps : List Pad) → facts_of ps ≡ [] → ps ≡ []
no_pads [] e = refl
no_pads (p ∷ ps) e = absurd (cc)

-- the pad in turn is the lowest without EOS
suc_lt : (a b : ℕ) → nat_lt a b ≡ nat_lt (suc a) (suc b)
suc_lt a b = go (nat_lt a b) refl
  where
    go : (t : Bool) → nat_lt a b ≡ t → nat_lt a b ≡ nat_lt (suc a) (suc b)
    go true e = let less = ltb-true a b e in e ∙ sym (lt-ltb (suc a) (suc b) (omega (arith, less)))
    go false e = let more = ltb-false a b e in e ∙ sym (le-ltb (suc a) (suc b) (omega (arith, more)))

abbrev some_if : Bool → ℕ → Option ℕ
some_if b n = if b then Some n else None

first_is : (m turn : ℕ) (sums now : Sums) (fs : List Facts) (ws : List (List Out)) (n : ℕ) (took : List (List Call)) → KnowEach fs took → CountEach fs (all_reopened n took) → InTurn turn sums now ws (all_reopened n took)
    → first_open m took ≡ some_if (nat_lt turn (length fs)) (m + turn)
first_is m zero sums now [] ws n [] ks cs t = sym (ap (λ (b : Bool). some_if b (m + 0)) (le-ltb 0 0 (omega arith)))
first_is m (suc turn) sums now [] [] n [] ks cs t = absurd t
first_is m (suc turn) sums now [] (w ∷ ws) n [] ks cs t = absurd t
first_is m zero sums now [] ws n (c ∷ took) ks cs t = absurd ks
first_is m (suc turn) sums now [] ws n (c ∷ took) ks cs t = absurd ks
first_is m zero sums now (f ∷ fs) ws n [] ks cs t = absurd ks
first_is m (suc turn) sums now (f ∷ fs) ws n [] ks cs t = absurd ks
first_is m zero sums now (f ∷ fs) [] n (c ∷ took) ks cs t = absurd t
first_is m zero sums now (f ∷ fs) (w ∷ ws) n (c ∷ took) ks cs t =
    let k : Knows f c = ks.0 in let d : Counts f (reopened_of n c) = cs.0 in
    ap (λ (b : Bool). if b then first_open (suc m) took else Some m) (k.eos ∙ d.ended ∙ t.1) ∙ ap (λ (q : ℕ). some_if true q) (plus_none m)
    ∙ sym (ap (λ (b : Bool). some_if b (m + 0)) (lt-ltb 0 (suc (length fs)) (omega arith)))
first_is m (suc turn) sums now (f ∷ fs) [] n (c ∷ took) ks cs t = absurd t
first_is m (suc turn) sums now (f ∷ fs) (w ∷ ws) n (c ∷ took) ks cs t =
    let k : Knows f c = ks.0 in let d : Counts f (reopened_of n c) = cs.0 in
    ap (λ (b : Bool). if b then first_open (suc m) took else Some m) (k.eos ∙ d.ended ∙ t.0)
    ∙ first_is (suc m) turn (behind sums (reopened_of n c)) now fs ws n took ks.1 cs.1 t.2
    ∙ ap (λ (q : ℕ). some_if (nat_lt turn (length fs)) q) (plus_suc m turn)
    ∙ ap (λ (b : Bool). some_if b (m + suc turn)) (suc_lt turn (length fs))

pub wants_first : (element : Concat) (took : List (List Call)) (put : List Item) → Joins element took put → wanted element ≡ first_open 0 took
wants_first element took put j =
    ap (λ (n : ℕ). if nat_lt element.turn n then Some element.turn else None) (sym (length-map element.pads.items (λ (p : Pad). p.facts)))
    ∙ ap (λ (q : ℕ). some_if (nat_lt element.turn (length (facts_of element.pads.items))) q) (zero_plus element.turn)
    ∙ sym (first_is 0 element.turn no_sums element.sums (facts_of element.pads.items) (waiting_of element.pads.items) (open_section took) took j.remembers.each j.counts j.turn)

pub wanted_some : (element : Concat) → element.turn < length element.pads.items → Some element.turn ≡ wanted element
wanted_some element h = ap (λ (b : Bool). some_if b element.turn) (sym (lt-ltb element.turn (length element.pads.items) h))

pub wanted_none : (element : Concat) → length element.pads.items ≤ element.turn → None ≡ wanted element
wanted_none element h = ap (λ (b : Bool). some_if b element.turn) (sym (le-ltb element.turn (length element.pads.items) h))

-- An element that was given nothing.
knows_nothing : Knows no_facts []
knows_nothing = record { stream_start = refl; caps = refl; tag = refl; eos = refl }

know_none : (n : ℕ) → KnowEach (replicate n no_facts) (replicate n [])
know_none zero = tt
know_none (suc n) = (knows_nothing, know_none n)

count_none : (m n : ℕ) → CountEach (replicate n no_facts) (all_reopened m (replicate n []))
count_none m zero = tt
count_none zero (suc n) = (record { begun = refl; ended = refl; tally = refl }, count_none zero n)
count_none (suc m) (suc n) = (record { begun = refl; ended = refl; tally = refl }, count_none (suc m) n)

wait_none : (m n : ℕ) → Wait (replicate n []) (all_reopened m (replicate n []))
wait_none m zero = tt
wait_none zero (suc n) = (refl, wait_none zero n)
wait_none (suc m) (suc n) = (refl, wait_none (suc m) n)

turn_none : (n : ℕ) → InTurn 0 no_sums no_sums (replicate n []) (all_reopened 0 (replicate n []))
turn_none zero = refl
turn_none (suc n) = (refl, refl, refl, wait_none 0 n)

section_none : (n : ℕ) → open_section (replicate n []) ≡ 0
section_none zero = refl
section_none (suc n) = refl

owed_none : (n : ℕ) → all_or_fault (joined_now 0 (replicate n [])) ≡ Ok []
owed_none zero = refl
owed_none (suc n) = refl

-- the first pad is in turn
turn_at : (turn : ℕ) (sums : Sums) (ws : List (List Out)) {vs : List (List Out)} (xss : List (List Item)) → turn ≡ 0 → sums ≡ no_sums → ws ≡ vs → InTurn 0 no_sums no_sums vs xss → InTurn turn no_sums sums ws xss
turn_at turn sums ws xss a b c t =
    subst (λ (k : ℕ). InTurn k no_sums sums ws xss) (sym a) (subst (λ (s : Sums). InTurn 0 no_sums s ws xss) (sym b) (subst (λ (us : List (List Out)). InTurn 0 no_sums no_sums us xss) (sym c) t))

pub joins_new : (element : Concat) (n : ℕ) → facts_of element.pads.items ≡ replicate n no_facts → waiting_of element.pads.items ≡ replicate n [] → element.turn ≡ 0 → element.sums ≡ no_sums
    → Joins element (replicate n []) []
joins_new element n facts waits turn sums = record {
  remembers = record {
    each = subst (λ (fs : List Facts). KnowEach fs (replicate n [])) (sym facts) (know_none n);
    level = subst (λ (m : ℕ). InSection m (replicate n [])) (sym (section_none n)) (level_none n);
  };
  counts = subst (λ (m : ℕ). CountEach (facts_of element.pads.items) (all_reopened m (replicate n []))) (sym (section_none n))
      (subst (λ (fs : List Facts). CountEach fs (all_reopened 0 (replicate n []))) (sym facts) (count_none 0 n));
  turn = subst (λ (m : ℕ). InTurn element.turn no_sums element.sums (waiting_of element.pads.items) (all_reopened m (replicate n []))) (sym (section_none n))
      (turn_at element.turn element.sums (waiting_of element.pads.items) (all_reopened 0 (replicate n [])) turn sums waits (turn_none n));
  owed = subst (λ (m : ℕ). all_or_fault (joined_now m (replicate n [])) ≡ Ok []) (sym (section_none n)) (owed_none n);
}

-- A section begins.
abbrev flush_of : ℕ → List Call
flush_of number = Feed (Ev (FlushStop number)) ∷ []

flush_level : (n number : ℕ) (cs : List Call) → flush_stops_given cs ≡ n → flush_stops_given (cs ++ flush_of number) ≡ suc n
flush_level n number cs e = stops_of (cs ++ flush_of number) ∙ ap flush_stops (items_push cs (Ev (FlushStop number))) ∙ stops_flushed (items cs) number ∙ ap suc (sym (stops_of cs) ∙ e)

know_flushed : (number : ℕ) (fs : List Facts) (took : List (List Call)) → KnowEach fs took → KnowEach (map cleared fs) (push_each (flush_of number) took)
know_flushed number [] [] ks = tt
know_flushed number [] (cs ∷ took) ks = absurd ks
know_flushed number (f ∷ fs) [] ks = absurd ks
know_flushed number (f ∷ fs) (cs ∷ took) ks = (knows_flushed f cs number ks.0, know_flushed number fs took ks.1)

count_flushed : (n number : ℕ) (fs : List Facts) (took : List (List Call)) → KnowEach fs took → InSection n took → CountEach (map cleared fs) (all_reopened (suc n) (push_each (flush_of number) took))
count_flushed n number [] [] ks ls = tt
count_flushed n number [] (cs ∷ took) ks ls = absurd ks
count_flushed n number (f ∷ fs) [] ks ls = absurd ks
count_flushed n number (f ∷ fs) (cs ∷ took) ks ls = (counts_flushed n f cs number ls.0, count_flushed n number fs took ks.1 ls.1)

level_flushed : (n number : ℕ) (took : List (List Call)) → InSection n took → InSection (suc n) (push_each (flush_of number) took)
level_flushed n number [] ls = tt
level_flushed n number (cs ∷ took) ls = (flush_level n number cs ls.0, level_flushed n number took ls.1)

list_flushed : (n number : ℕ) (cs : List Call) → flush_stops_given cs ≡ n → reopened_of (suc n) (cs ++ flush_of number) ≡ []
list_flushed n number cs e = ap (reopened (suc n)) (items_push cs (Ev (FlushStop number))) ∙ reopened_flushed n (items cs) number (sym (stops_of cs) ∙ e)

wait_flushed : (n number : ℕ) (fs : List Facts) (ws : List (List Out)) (took : List (List Call)) → length ws ≡ length fs → KnowEach fs took → InSection n took
    → Wait (map (λ (w : List Out). []) ws) (all_reopened (suc n) (push_each (flush_of number) took))
wait_flushed n number [] [] [] e ks ls = tt
wait_flushed n number [] (w ∷ ws) took e ks ls = absurd (cc)
wait_flushed n number [] [] (cs ∷ took) e ks ls = absurd ks
wait_flushed n number (f ∷ fs) [] took e ks ls = absurd (cc)
wait_flushed n number (f ∷ fs) (w ∷ ws) [] e ks ls = absurd ks
wait_flushed n number (f ∷ fs) (w ∷ ws) (cs ∷ took) e ks ls = (ap (λ (xs : List Item). on_pad 0 (before_eos xs)) (sym (list_flushed n number cs ls.0)), wait_flushed n number fs ws took (cc) ks.1 ls.1)

turn_flushed : (n number : ℕ) (fs : List Facts) (ws : List (List Out)) (took : List (List Call)) → length ws ≡ length fs → KnowEach fs took → InSection n took
    → InTurn 0 no_sums no_sums (map (λ (w : List Out). []) ws) (all_reopened (suc n) (push_each (flush_of number) took))
turn_flushed n number [] [] [] e ks ls = refl
turn_flushed n number [] (w ∷ ws) took e ks ls = absurd (cc)
turn_flushed n number [] [] (cs ∷ took) e ks ls = absurd ks
turn_flushed n number (f ∷ fs) [] took e ks ls = absurd (cc)
turn_flushed n number (f ∷ fs) (w ∷ ws) [] e ks ls = absurd ks
turn_flushed n number (f ∷ fs) (w ∷ ws) (cs ∷ took) e ks ls =
    (refl, ap has_end (list_flushed n number cs ls.0), refl, wait_flushed n number fs ws took (cc) ks.1 ls.1)

owed_flushed : (n number : ℕ) (took : List (List Call)) → InSection n took → all_or_fault (joined_now (suc n) (push_each (flush_of number) took)) ≡ Ok []
owed_flushed n number [] ls = refl
owed_flushed n number (cs ∷ took) ls =
    ap (λ (xs : List Item). all_or_fault (joined_from no_sums (xs ∷ all_reopened (suc n) (push_each (flush_of number) took)))) (list_flushed n number cs ls.0)

pub joins_flushed : (old new : Concat) → facts_of new.pads.items ≡ map cleared (facts_of old.pads.items) → waiting_of new.pads.items ≡ map (λ (w : List Out). []) (waiting_of old.pads.items)
    → new.turn ≡ 0 → new.sums ≡ no_sums → (took : List (List Call)) (number : ℕ) → Remembers old took → Joins new (push_each (flush_of number) took) []
joins_flushed old new facts waits turn sums [] number r = nothing (facts_of old.pads.items) refl r.each
  where
    nothing : (fs : List Facts) → facts_of old.pads.items ≡ fs → KnowEach fs [] → Joins new [] []
    nothing [] is ks =
        let none = no_pads old.pads.items is in
        joins_new new 0 (facts ∙ ap (map cleared) is) (waits ∙ ap (λ (ps : List Pad). map (λ (w : List Out). []) (waiting_of ps)) none) turn sums
    nothing (f ∷ fs) is ks = absurd ks
joins_flushed old new facts waits turn sums (cs ∷ took) number r =
    let n = flush_stops_given cs in
    let now : open_section (push_each (flush_of number) (cs ∷ took)) ≡ suc n = flush_level n number cs refl in
    let same = length-map old.pads.items (λ (p : Pad). p.waiting) ∙ sym (length-map old.pads.items (λ (p : Pad). p.facts)) in
    record {
      remembers = record {
        each = subst (λ (fs : List Facts). KnowEach fs (push_each (flush_of number) (cs ∷ took))) (sym facts) (know_flushed number (facts_of old.pads.items) (cs ∷ took) r.each);
        level = subst (λ (m : ℕ). InSection m (push_each (flush_of number) (cs ∷ took))) (sym now) (level_flushed n number (cs ∷ took) r.level);
      };
      counts = subst (λ (m : ℕ). CountEach (facts_of new.pads.items) (all_reopened m (push_each (flush_of number) (cs ∷ took)))) (sym now)
          (subst (λ (fs : List Facts). CountEach fs (all_reopened (suc n) (push_each (flush_of number) (cs ∷ took)))) (sym facts) (count_flushed n number (facts_of old.pads.items) (cs ∷ took) r.each r.level));
      turn = subst (λ (m : ℕ). InTurn new.turn no_sums new.sums (waiting_of new.pads.items) (all_reopened m (push_each (flush_of number) (cs ∷ took)))) (sym now)
          (turn_at new.turn new.sums (waiting_of new.pads.items) (all_reopened (suc n) (push_each (flush_of number) (cs ∷ took))) turn sums waits
          (turn_flushed n number (facts_of old.pads.items) (waiting_of old.pads.items) (cs ∷ took) same r.each r.level));
      owed = subst (λ (m : ℕ). all_or_fault (joined_now m (push_each (flush_of number) (cs ∷ took))) ≡ Ok []) (sym now) (owed_flushed n number (cs ∷ took) r.level);
    }

-- An event is laid.
pub remembers_laid : (old new : Concat) (k : ℕ) (f : Facts) (event : Event) → is_inherited event ≡ true → Swaps k f (laid f event) (facts_of old.pads.items) (facts_of new.pads.items)
    → (took : List (List Call)) → Remembers old took → Remembers new (push_calls k (Feed (Ev event) ∷ []) took)
remembers_laid old new k f event h s took r = record {
  each = know_swapped took (Feed (Ev event)) s (knows_laid f (calls_at k took) event h (know_at took s r.each)) r.each;
  level = subst (λ (n : ℕ). InSection n (push_calls k (Feed (Ev event) ∷ []) took)) (sym (open_push k took (Ev event) (plain_of event h)))
      (level_pushed (open_section took) k took (Feed (Ev event)) (flush_push (calls_at k took) (Ev event) (plain_of event h)) r.level);
}
