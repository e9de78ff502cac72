-- The sections that are over, with one more item and with a flush.
use Rattle.std.proofs.Common.{◌≡◌, ◌≤◌, ◌<◌, ℕ, zero, suc, Bool, true, false, if◌then◌else◌, List, [], ◌∷◌, ◌++◌, length, drop, refl, sym, ap, ◌∙◌, subst, Result, Ok, Err, arith}
use Rattle.flow_model.specs.Item.{Item, Ev, FlushStop, is_flush_stop}
use Rattle.flow_model.specs.Section.{section, counted, before_section, to_eos, flush_stops}
use Rattle.flow_model.specs.Call.{Call, Feed, items}
use Rattle.flow_model.specs.Prefix.{IsPrefix, nothing, next, ArePrefixes, none as no_pads, pad as one_pad}
use Rattle.flow_model.specs.Rule.{Fault}
use Rattle.flow_model.proofs.Prefixes.{prefix_refl, prefix_append, are_prefixes_refl}
use Rattle.flow_model.proofs.Calls.{items_push}
use Rattle.flow_model.specs.SinkPads.{flush_stops_given, push_calls, push_each, InSection}
use Rattle.el_join.specs.declared.concat.Concat.{Concat}
use Rattle.el_join.specs.Sections.{with_inherited, reopened, reopened_of, all_reopened, open_section}
use Rattle.el_join.specs.Concats.{joined_from, joined_now, up_to_fault, in_front, all_or_fault, concat, concat_rule, concat_answers}
use Rattle.el_join.specs.Joins.{Joins}
use Rattle.el_join.specs.Totals.{no_sums}
use Rattle.el_join.specs.Laws.{PutsInOrder, OnlyOpenGrows, FlushEnds}
use Rattle.el_join.proofs.Opened.{reopened_flushed}
use Rattle.el_join.proofs.Joining.{all_append, done, open_push}
use Rattle.el_join.proofs.Prefixing.{all_reopened_prefix, concat_prefix, join_prefix}
use Rattle.flow_model.proofs.Items.{section_before as section_over, section_closed, stops_of}
use Rattle.flow_model.specs.Inherited.{inherited}

before_over : (j : ℕ) (xs ys : List Item) → j ≤ flush_stops xs → before_section j (xs ++ ys) ≡ before_section j xs
before_over zero xs ys h = refl
before_over (suc j) [] ys h = absurd (omega (arith, h))
before_over (suc j) (x ∷ xs) ys h = go (is_flush_stop x) h (before_over j xs ys) (before_over (suc j) xs ys)
  where
    go : (b : Bool) → suc j ≤ (if b then suc (flush_stops xs) else flush_stops xs) → (j ≤ flush_stops xs → before_section j (xs ++ ys) ≡ before_section j xs)
        → (suc j ≤ flush_stops xs → before_section (suc j) (xs ++ ys) ≡ before_section (suc j) xs)
        → x ∷ (if b then before_section j (xs ++ ys) else before_section (suc j) (xs ++ ys)) ≡ x ∷ (if b then before_section j xs else before_section (suc j) xs)
    go true h past same = ap (λ zs. x ∷ zs) (past (omega (arith, h)))
    go false h past same = ap (λ zs. x ∷ zs) (same h)

reopened_over : (j : ℕ) (xs ys : List Item) → j ≤ flush_stops xs → section j (xs ++ ys) ≡ section j xs → reopened j (xs ++ ys) ≡ reopened j xs
reopened_over j xs ys h e =
    ap (λ zs. with_inherited (inherited (counted zs)) (to_eos (section j (xs ++ ys)))) (before_over j xs ys h)
    ∙ ap (λ zs. with_inherited (inherited (counted (before_section j xs))) (to_eos zs)) e

-- of each sink pad
pad_over : (j : ℕ) (cs : List Call) (x : Item) → j < flush_stops_given cs → reopened_of j (cs ++ Feed x ∷ []) ≡ reopened_of j cs
pad_over j cs x h =
    let s = stops_of cs in
    let least : j < flush_stops (items cs) = omega (arith, h, s) in
    ap (reopened j) (items_push cs x) ∙ reopened_over j (items cs) (x ∷ []) (omega (arith, least)) (section_over j (items cs) (x ∷ []) least)

pads_over : (j n pad : ℕ) (took : List (List Call)) (x : Item) → InSection n took → j < n → all_reopened j (push_calls pad (Feed x ∷ []) took) ≡ all_reopened j took
pads_over j n zero [] x ls h = refl
pads_over j n (suc pad) [] x ls h = refl
pads_over j n zero (cs ∷ took) x ls h = let l : flush_stops_given cs ≡ n = ls.0 in ap (λ xs. xs ∷ all_reopened j took) (pad_over j cs x (omega (arith, l, h)))
pads_over j n (suc pad) (cs ∷ took) x ls h = ap (λ xss. reopened_of j cs ∷ xss) (pads_over j n pad took x ls.1 h)

pad_closed : (j : ℕ) (cs : List Call) (number : ℕ) → j ≤ flush_stops_given cs → reopened_of j (cs ++ Feed (Ev (FlushStop number)) ∷ []) ≡ reopened_of j cs
pad_closed j cs number h =
    let s = stops_of cs in
    let least : j ≤ flush_stops (items cs) = omega (arith, h, s) in
    ap (reopened j) (items_push cs (Ev (FlushStop number))) ∙ reopened_over j (items cs) (Ev (FlushStop number) ∷ []) least (section_closed j (items cs) number least)

pads_closed : (j n number : ℕ) (took : List (List Call)) → InSection n took → j ≤ n → all_reopened j (push_each (Feed (Ev (FlushStop number)) ∷ []) took) ≡ all_reopened j took
pads_closed j n number [] ls h = refl
pads_closed j n number (cs ∷ took) ls h =
    let l : flush_stops_given cs ≡ n = ls.0 in
    ap (λ xs. xs ∷ all_reopened j (push_each (Feed (Ev (FlushStop number)) ∷ []) took)) (pad_closed j cs number (omega (arith, l, h)))
    ∙ ap (λ xss. reopened_of j cs ∷ xss) (pads_closed j n number took ls.1 h)

pad_begins : (n : ℕ) (cs : List Call) (number : ℕ) → flush_stops_given cs ≡ n → reopened_of (suc n) (cs ++ Feed (Ev (FlushStop number)) ∷ []) ≡ []
pad_begins n cs number e = ap (reopened (suc n)) (items_push cs (Ev (FlushStop number))) ∙ reopened_flushed n (items cs) number (sym (stops_of cs) ∙ e)

nothing_owed : (n number : ℕ) (took : List (List Call)) → InSection n took → concat (all_reopened (suc n) (push_each (Feed (Ev (FlushStop number)) ∷ []) took)) ≡ []
nothing_owed n number [] ls = refl
nothing_owed n number (cs ∷ took) ls =
    ap (λ (xs : List Item). up_to_fault (joined_from no_sums (xs ∷ all_reopened (suc n) (push_each (Feed (Ev (FlushStop number)) ∷ []) took)))) (pad_begins n cs number ls.0)

-- where there is no fault all of it is owed
all_owed : (rs : List (Result Item Fault)) (xs : List Item) → all_or_fault rs ≡ done xs → up_to_fault rs ≡ xs
all_owed [] xs e = cc
all_owed (Err fault ∷ rs) xs e = absurd (cc)
all_owed (Ok x ∷ rs) xs e = go (all_or_fault rs) refl e (all_owed rs)
  where
    go : (r : Result (List Item) Fault) → all_or_fault rs ≡ r → in_front x r ≡ done xs → ((ys : List Item) → all_or_fault rs ≡ done ys → up_to_fault rs ≡ ys) → x ∷ up_to_fault rs ≡ xs
    go (Err fault) is e rest = absurd (cc)
    go (Ok ys) is e rest = ap (λ zs. x ∷ zs) (rest ys is) ∙ cc

put_is_owed : (element : Concat) (took : List (List Call)) (put : List Item) → Joins element took put → (port : ℕ) → concat_rule took port (open_section took) ≡ put
put_is_owed element took put j port = all_owed (joined_now (open_section took) took) put j.owed

pub puts_in_order : PutsInOrder
puts_in_order = record {
  all = put_is_owed;
  begins = λ element took more put j p port.
      subst (λ (xs : List Item). IsPrefix xs (concat_rule more port (open_section took))) (put_is_owed element took put j port) (concat_prefix took more p port (open_section took));
}

-- with one item more
push_begins : (k : ℕ) (calls : List Call) (took : List (List Call)) → ArePrefixes took (push_calls k calls took)
push_begins zero calls [] = no_pads
push_begins (suc k) calls [] = no_pads
push_begins zero calls (cs ∷ took) = one_pad (prefix_append cs calls) (are_prefixes_refl took)
push_begins (suc k) calls (cs ∷ took) = one_pad (prefix_refl cs) (push_begins k calls took)

split_behind : {A : Type 0} {xs ys : List A} → IsPrefix xs ys → ys ≡ xs ++ drop (length xs) ys
split_behind nothing = refl
split_behind (next {x = x} p) = ap (λ zs. x ∷ zs) (split_behind p)

answered_more : (element : Concat) (took : List (List Call)) (put : List Item) → Joins element took put → (k : ℕ) (x : Item) (more : List Item)
    → concat_answers took k x ≡ Ok more → (port : ℕ)
    → concat_rule (push_calls k (Feed x ∷ []) took) port (open_section took) ≡ concat_rule took port (open_section took) ++ more
answered_more element took put j k x more e port =
    let n = open_section took in
    let was = joined_now n took in
    let is = joined_now n (push_calls k (Feed x ∷ []) took) in
    let split : is ≡ was ++ drop (length was) is = split_behind (join_prefix (all_reopened_prefix n (push_begins k (Feed x ∷ []) took))) in
    all_owed is (put ++ more) (ap all_or_fault split ∙ all_append was (drop (length was) is) put more j.owed e)
    ∙ ap (λ xs. xs ++ more) (sym (put_is_owed element took put j port))

pub only_open_grows : OnlyOpenGrows
only_open_grows = record {
  same = λ pad x took plain. open_push pad took x plain;
  over = λ element took r pad x port j h. ap concat (pads_over j (open_section took) pad took x r.level h);
  now = λ element took put j pad x more e. answered_more element took put j pad x more e;
}

pub flush_ends : FlushEnds
flush_ends = record {
  over = λ element took r number port j h. ap concat (pads_closed j (open_section took) number took r.level (omega (arith, h)));
  nothing = λ element took r number port. nothing_owed (open_section took) number took r.level;
}
