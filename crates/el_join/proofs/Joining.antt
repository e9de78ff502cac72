-- For which lists an element stands, with one call more.
use Rattle.std.proofs.Common.{◌≡◌, ℕ, zero, suc, Bool, true, false, Option, Some, None, List, [], ◌∷◌, ◌++◌, map, length, drop, refl, sym, ap, ◌∙◌, subst, Result, Ok, Err}
use Rattle.gst_value.specs.Description.{Description}
use Rattle.gst_value.specs.declared.one.One.{One}
use Rattle.gst_item.specs.declared.out.Out.{Out}
use Rattle.flow_model.specs.declared.fault.ElementFault.{ElementFault}
use Rattle.flow_model.specs.declared.fault.ElementFault.TheVariants.{NotNegotiated as Refused, BadStream as Broken, TooLong as Passing, OutOfMemory as Wanting}
use Rattle.flow_model.specs.Item.{Item, Ev, StreamStart, NewCaps, is_flush_stop, is_eos}
use Rattle.flow_model.specs.Call.{Call, Feed}
use Rattle.flow_model.specs.Feeding.{on_pad, IsFaultOf}
use Rattle.flow_model.specs.Rule.{Fault, TooLong}
use Rattle.flow_model.specs.SinkPads.{push_calls, InSection, calls_at}
use Rattle.el_join.specs.declared.sums.Sums.{Sums}
use Rattle.el_join.specs.declared.inherited.Inherited.{Inherited}
use Rattle.el_join.specs.declared.pad.Facts.{Facts}
use Rattle.el_join.specs.declared.concat.Concat.{Concat}
use Rattle.el_join.specs.Outs.{fault_in, IsDue}
use Rattle.el_join.specs.Totals.{no_sums, raised, lifted}
use Rattle.el_join.specs.Pads.{opening_of, note_of, noted}
use Rattle.el_join.specs.Sections.{reopened_of, all_reopened, open_section}
use Rattle.el_join.specs.Concats.{joined_from, joined, in_front, all_or_fault, joined_now, concat_answers}
use Rattle.el_join.specs.Passing.{Swaps, here, there}
use Rattle.el_join.specs.Joins.{wanted, facts_of, waiting_of, Knows, Counts, CountEach, InTurn, Joins, JoinPuts}
use Rattle.el_join.proofs.Free.{opening_free, one_free, lifted_stop}
use Rattle.el_join.proofs.Noting.{Longer, longer_item, knows_noted, counts_noted, reopened_next}
use Rattle.el_join.proofs.Lines.{map_append, AtPad, at_pad, lists_swap, know_swapped, level_pushed, count_swapped, first_fault, turn_item}
use Rattle.flow_model.proofs.Items.{free_append, stops_push as flush_push}
use Rattle.flow_model.specs.Inherited.{start_event, caps_event, tag_event}

drop_append : {A : Type 0} (xs ys : List A) → drop (length xs) (xs ++ ys) ≡ ys
drop_append [] ys = refl
drop_append (x ∷ xs) ys = drop_append xs ys

abbrev pub done : List Item → Result (List Item) Fault
done ys = Ok ys

done_is : (xs ys : List Item) → done xs ≡ done ys → xs ≡ ys
done_is xs ys e = cc

pub all_append : (rs qs : List (Result Item Fault)) (xs ys : List Item) → all_or_fault rs ≡ done xs → all_or_fault qs ≡ done ys → all_or_fault (rs ++ qs) ≡ done (xs ++ ys)
all_append [] qs xs ys e h = h ∙ ap (λ (us : List Item). done (us ++ ys)) (done_is [] xs e)
all_append (Err fault ∷ rs) qs xs ys e h = absurd (cc)
all_append (Ok x ∷ rs) qs xs ys e h = go (all_or_fault rs) refl e (λ zs is. all_append rs qs zs ys is h)
  where
    go : (r : Result (List Item) Fault) → all_or_fault rs ≡ r → in_front x r ≡ done xs → ((zs : List Item) → all_or_fault rs ≡ done zs → all_or_fault (rs ++ qs) ≡ done (zs ++ ys))
        → in_front x (all_or_fault (rs ++ qs)) ≡ done (xs ++ ys)
    go (Err fault) is e rest = absurd (cc)
    go (Ok zs) is e rest = ap (in_front x) (rest zs is) ∙ ap (λ (us : List Item). done (us ++ ys)) (done_is (x ∷ zs) xs e)

-- what goes out in front of an item is never a fault
abbrev in_fronts : List Item → Result (List Item) Fault → Result (List Item) Fault
in_fronts [] r = r
in_fronts (x ∷ xs) r = in_front x (in_fronts xs r)

fronts_ok : (xs ys : List Item) → in_fronts xs (Ok ys) ≡ Ok (xs ++ ys)
fronts_ok [] ys = refl
fronts_ok (x ∷ xs) ys = ap (in_front x) (fronts_ok xs ys)

opening_all : (sums : Sums) (begun : Bool) (i : Inherited) (rs : List (Result Item Fault)) → all_or_fault (map (raised sums) (opening_of begun i) ++ rs) ≡ in_fronts (opening_of begun i) (all_or_fault rs)
opening_all sums true i rs = refl
opening_all sums false i rs = go i.stream_start i.caps i.tag
  where
    tags : (g : Option (List ℕ)) → all_or_fault (map (raised sums) (tag_event g) ++ rs) ≡ in_fronts (tag_event g) (all_or_fault rs)
    tags None = refl
    tags (Some title) = refl

    caps : (c : Option (Description One)) (g : Option (List ℕ)) → all_or_fault (map (raised sums) (caps_event c ++ tag_event g) ++ rs) ≡ in_fronts (caps_event c ++ tag_event g) (all_or_fault rs)
    caps None g = tags g
    caps (Some c) g = ap (in_front (Ev (NewCaps c))) (tags g)

    go : (s : Option ℕ) (c : Option (Description One)) (g : Option (List ℕ))
        → all_or_fault (map (raised sums) (start_event s ++ (caps_event c ++ tag_event g)) ++ rs) ≡ in_fronts (start_event s ++ (caps_event c ++ tag_event g)) (all_or_fault rs)
    go None c g = caps c g
    go (Some id) c g = ap (in_front (Ev (StreamStart id))) (caps c g)

pub opening_ok : (sums : Sums) (begun : Bool) (i : Inherited) (rs : List (Result Item Fault)) (ys : List Item) → all_or_fault rs ≡ Ok ys
    → all_or_fault (map (raised sums) (opening_of begun i) ++ rs) ≡ Ok (opening_of begun i ++ ys)
opening_ok sums begun i rs ys e = opening_all sums begun i rs ∙ ap (in_fronts (opening_of begun i)) e ∙ fronts_ok (opening_of begun i) ys

pub opening_fault : (sums : Sums) (begun : Bool) (i : Inherited) (rs : List (Result Item Fault)) → fault_in (map (raised sums) (opening_of begun i) ++ rs) ≡ fault_in rs
opening_fault sums true i rs = refl
opening_fault sums false i rs = go i.stream_start i.caps i.tag
  where
    tags : (g : Option (List ℕ)) → fault_in (map (raised sums) (tag_event g) ++ rs) ≡ fault_in rs
    tags None = refl
    tags (Some title) = refl

    caps : (c : Option (Description One)) (g : Option (List ℕ)) → fault_in (map (raised sums) (caps_event c ++ tag_event g) ++ rs) ≡ fault_in rs
    caps None g = tags g
    caps (Some c) g = tags g

    go : (s : Option ℕ) (c : Option (Description One)) (g : Option (List ℕ)) → fault_in (map (raised sums) (start_event s ++ (caps_event c ++ tag_event g)) ++ rs) ≡ fault_in rs
    go None c g = caps c g
    go (Some id) c g = caps c g

-- the fault that is due is that of the rule
pub due_is : (rs : List (Result Item Fault)) (fault : ElementFault) → IsDue (fault_in rs) fault → IsFaultOf (all_or_fault rs) fault
due_is rs (Refused offered wanted) h = absurd h
due_is rs (Broken place kind) h = absurd h
due_is rs (Passing a b) h = first_fault rs (TooLong a b) h
due_is rs Wanting h = tt

pub open_push : (k : ℕ) (took : List (List Call)) (x : Item) → is_flush_stop x ≡ false → open_section (push_calls k (Feed x ∷ []) took) ≡ open_section took
open_push zero [] x plain = refl
open_push (suc k) [] x plain = refl
open_push zero (cs ∷ css) x plain = flush_push cs x plain
open_push (suc k) (cs ∷ css) x plain = refl

joined_old : {k : ℕ} {xs ys : List Item} {xss yss : List (List Item)} → Swaps k xs ys xss yss → joined xss ≡ joined_from no_sums xss
joined_old here = refl
joined_old (there s) = refl

joined_new : {k : ℕ} {xs ys : List Item} {xss yss : List (List Item)} → Swaps k xs ys xss yss → joined yss ≡ joined_from no_sums yss
joined_new here = refl
joined_new (there s) = refl

-- An item on a sink pad that brings these answers.
pub record Brings (n k : ℕ) (x : Item) (took : List (List Call)) (rs : List (Result Item Fault)) : Type 0 where
  pub swap : Swaps k (reopened_of n (calls_at k took)) (reopened_of n (calls_at k took ++ Feed x ∷ [])) (all_reopened n took) (all_reopened n (push_calls k (Feed x ∷ []) took))
  pub more : joined_from no_sums (all_reopened n (push_calls k (Feed x ∷ []) took)) ≡ joined_from no_sums (all_reopened n took) ++ rs

pub brings_joined : (n k : ℕ) (x : Item) (took : List (List Call)) (rs : List (Result Item Fault)) → Brings n k x took rs → joined_now n (push_calls k (Feed x ∷ []) took) ≡ joined_now n took ++ rs
brings_joined n k x took rs b =
    joined_new b.swap ∙ b.more ∙ ap (λ js. js ++ rs) (sym (joined_old b.swap))

pub answers_are : (k : ℕ) (x : Item) (took : List (List Call)) (rs : List (Result Item Fault)) → Brings (open_section took) k x took rs → concat_answers took k x ≡ all_or_fault rs
answers_are k x took rs b =
    ap (λ js. all_or_fault (drop (length (joined_now (open_section took) took)) js)) (brings_joined (open_section took) k x took rs b)
    ∙ ap all_or_fault (drop_append (joined_now (open_section took) took) rs)

module _ (old : Concat) (gs : List Facts) (k : ℕ) (x : Item) (f g : Facts) (plain : is_flush_stop x ≡ false) (took : List (List Call)) (put : List Item) (j : Joins old took put)
    (s : Swaps k f g (facts_of old.pads.items) gs) where
  pub here_is : AtPad (open_section took) f (calls_at k took)
  here_is = at_pad (open_section took) took s j.remembers.each j.counts j.remembers.level

  pub swap_is : Swaps k (reopened_of (open_section took) (calls_at k took)) (reopened_of (open_section took) (calls_at k took ++ Feed x ∷ []))
      (all_reopened (open_section took) took) (all_reopened (open_section took) (push_calls k (Feed x ∷ []) took))
  swap_is = lists_swap (open_section took) took (Feed x) s j.remembers.each

  pub next_is : f.ended ≡ false → reopened_of (open_section took) (calls_at k took ++ Feed x ∷ []) ≡ reopened_of (open_section took) (calls_at k took) ++ (opening_of f.begun f.inherited ++ x ∷ [])
  next_is none = reopened_next (open_section took) f (calls_at k took) x plain none here_is.level here_is.knows here_is.counts

  -- an item that is not EOS
  pub item_longer : f.ended ≡ false → is_eos x ≡ false
      → Longer (reopened_of (open_section took) (calls_at k took)) (reopened_of (open_section took) (calls_at k took ++ Feed x ∷ [])) (opening_of f.begun f.inherited ++ x ∷ []) false
  item_longer none more =
      subst (λ (ys : List Item). Longer (reopened_of (open_section took) (calls_at k took)) ys (opening_of f.begun f.inherited ++ x ∷ []) false) (sym (next_is none))
      (longer_item f (reopened_of (open_section took) (calls_at k took)) (sym here_is.counts.ended ∙ none) x more)

  pub item_counts : f.ended ≡ false → is_eos x ≡ false → Counts (noted f (note_of x)) (reopened_of (open_section took) (calls_at k took ++ Feed x ∷ []))
  item_counts none more = subst (λ (ys : List Item). Counts (noted f (note_of x)) ys) (sym (next_is none)) (counts_noted f (reopened_of (open_section took) (calls_at k took)) x more none here_is.counts)

module _ (old new : Concat) (k : ℕ) (x : Item) (f g : Facts) (plain : is_flush_stop x ≡ false) (took : List (List Call)) (put : List Item) (j : Joins old took put)
    (s : Swaps k f g (facts_of old.pads.items) (facts_of new.pads.items)) where
  pub joins_push : (rs : List (Result Item Fault)) (more : List Item) → Knows g (calls_at k took ++ Feed x ∷ []) → Counts g (reopened_of (open_section took) (calls_at k took ++ Feed x ∷ []))
      → InTurn new.turn no_sums new.sums (waiting_of new.pads.items) (all_reopened (open_section took) (push_calls k (Feed x ∷ []) took))
      → Brings (open_section took) k x took rs → all_or_fault rs ≡ Ok more → Joins new (push_calls k (Feed x ∷ []) took) (put ++ more)
  joins_push rs more knows counts turn b all =
      let same = sym (open_push k took x plain) in
      record {
        remembers = record {
          each = know_swapped took (Feed x) s knows j.remembers.each;
          level = subst (λ (n : ℕ). InSection n (push_calls k (Feed x ∷ []) took)) same
              (level_pushed (open_section took) k took (Feed x) (flush_push (calls_at k took) x plain) j.remembers.level);
        };
        counts = subst (λ (n : ℕ). CountEach (facts_of new.pads.items) (all_reopened n (push_calls k (Feed x ∷ []) took))) same
            (count_swapped s (swap_is old (facts_of new.pads.items) k x f g plain took put j s) counts j.counts);
        turn = subst (λ (n : ℕ). InTurn new.turn no_sums new.sums (waiting_of new.pads.items) (all_reopened n (push_calls k (Feed x ∷ []) took))) same turn;
        owed = subst (λ (n : ℕ). all_or_fault (joined_now n (push_calls k (Feed x ∷ []) took)) ≡ Ok (put ++ more)) same
            (ap all_or_fault (brings_joined (open_section took) k x took rs b) ∙ all_append (joined_now (open_section took) took) rs put more j.owed all);
      }

-- The pad in turn is given an item that is not EOS.
module _ (old : Concat) (gs : List Facts) (x : Item) (f : Facts) (plain : is_flush_stop x ≡ false) (more : is_eos x ≡ false) (none : f.ended ≡ false)
    (s : Swaps old.turn f (noted f (note_of x)) (facts_of old.pads.items) gs) where
  turn_brings : (took : List (List Call)) (put : List Item) → Joins old took put
      → InTurn old.turn no_sums old.sums (waiting_of old.pads.items) (all_reopened (open_section took) (push_calls old.turn (Feed x ∷ []) took))
      × Brings (open_section took) old.turn x took (map (raised old.sums) (opening_of f.begun f.inherited) ++ raised old.sums x ∷ [])
  turn_brings took put j =
      let n = open_section took in
      let swap = swap_is old gs old.turn x f (noted f (note_of x)) plain took put j s in
      let t = turn_item no_sums old.sums (waiting_of old.pads.items) (opening_of f.begun f.inherited ++ x ∷ []) swap
      (item_longer old gs old.turn x f (noted f (note_of x)) plain took put j s none more) j.turn in
      (t.0, record { swap = swap; more = t.1 ∙ ap (λ rs. joined_from no_sums (all_reopened n took) ++ rs) (map_append (raised old.sums) (opening_of f.begun f.inherited) (x ∷ [])) })

  pub turn_fault : (took : List (List Call)) (put : List Item) (fault : ElementFault) → Joins old took put → IsDue (fault_in (raised old.sums x ∷ [])) fault → IsFaultOf (concat_answers took old.turn x) fault
  turn_fault took put fault j due =
      subst (λ (r : Result (List Item) Fault). IsFaultOf r fault) (sym (answers_are old.turn x took _ (turn_brings took put j).1))
      (due_is (map (raised old.sums) (opening_of f.begun f.inherited) ++ raised old.sums x ∷ []) fault
      (subst (λ (o : Option Fault). IsDue o fault) (sym (opening_fault old.sums f.begun f.inherited (raised old.sums x ∷ []))) due))

module _ (old new : Concat) (x : Item) (f : Facts) (plain : is_flush_stop x ≡ false) (more : is_eos x ≡ false) (none : f.ended ≡ false)
    (s : Swaps old.turn f (noted f (note_of x)) (facts_of old.pads.items) (facts_of new.pads.items)) where
  module _ (turn : new.turn ≡ old.turn) (sums : new.sums ≡ old.sums) (waits : waiting_of new.pads.items ≡ waiting_of old.pads.items) (fits : raised old.sums x ≡ Ok (lifted old.sums x)) where
    item_all : all_or_fault (map (raised old.sums) (opening_of f.begun f.inherited) ++ raised old.sums x ∷ []) ≡ Ok (opening_of f.begun f.inherited ++ lifted old.sums x ∷ [])
    item_all = opening_ok old.sums f.begun f.inherited (raised old.sums x ∷ []) (lifted old.sums x ∷ []) (ap (λ r. all_or_fault (r ∷ [])) fits)

    pub puts_item : (out out' : List Out) → out' ≡ out ++ on_pad 0 (opening_of f.begun f.inherited ++ lifted old.sums x ∷ []) → JoinPuts old new old.turn x out out'
    puts_item out out' outs = record {
      more = opening_of f.begun f.inherited ++ lifted old.sums x ∷ [];
      outs = outs;
      free = free_append (opening_of f.begun f.inherited) (lifted old.sums x ∷ []) (opening_free f.begun f.inherited) (one_free (lifted old.sums x) (lifted_stop old.sums x ∙ plain));
      owed = λ took put j. answers_are old.turn x took _ (turn_brings old (facts_of new.pads.items) x f plain more none s took put j).1 ∙ item_all;
      stands = λ took put j.
          let b = turn_brings old (facts_of new.pads.items) x f plain more none s took put j in
          let at_it = here_is old (facts_of new.pads.items) old.turn x f (noted f (note_of x)) plain took put j s in
          joins_push old new old.turn x f (noted f (note_of x)) plain took put j s _ _
          (knows_noted f (calls_at old.turn took) x plain more none at_it.knows)
          (item_counts old (facts_of new.pads.items) old.turn x f (noted f (note_of x)) plain took put j s none more)
          (subst (λ (q : ℕ). InTurn q no_sums new.sums (waiting_of new.pads.items) (all_reopened (open_section took) (push_calls old.turn (Feed x ∷ []) took))) (sym turn)
          (subst (λ (q : Sums). InTurn old.turn no_sums q (waiting_of new.pads.items) (all_reopened (open_section took) (push_calls old.turn (Feed x ∷ []) took))) (sym sums)
          (subst (λ (ws : List (List Out)). InTurn old.turn no_sums old.sums ws (all_reopened (open_section took) (push_calls old.turn (Feed x ∷ []) took))) (sym waits) b.0))) b.1 item_all;
    }
