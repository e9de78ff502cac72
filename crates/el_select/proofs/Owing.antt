-- What is owed with one more item, with a selection and with a flush.
use Rattle.std.proofs.Common.{◌≡◌, ◌≤◌, ◌<◌, ℕ, zero, suc, Bool, true, false, if◌then◌else◌, List, [], ◌∷◌, ◌++◌, map, length, replicate, refl, sym, ap, ◌∙◌, append-nil, arith}
use Rattle.flow_model.specs.Item.{Item, Ev, FlushStop, is_flush_stop, is_eos}
use Rattle.flow_model.specs.Call.{Call, Feed, items}
use Rattle.flow_model.specs.Sticky.{has_flush_stop, stickies}
use Rattle.flow_model.specs.Section.{section, counted, flush_stops, to_eos, IsPlain}
use Rattle.flow_model.specs.SinkPads.{calls_at, push_calls, push_each, InSection}
use Rattle.flow_model.specs.Prefix.{IsPrefix, ArePrefixes, none as no_pads, pad as one_pad}
use Rattle.flow_model.proofs.Calls.{items_push}
use Rattle.flow_model.proofs.Items.{none_behind, section_before, section_closed, section_flushed, section_last, section_plain, to_eos_prefix}
use Rattle.flow_model.proofs.Prefixes.{are_prefixes_refl, prefix_append, prefix_by, prefix_refl, rest_of}
use Rattle.flow_model.proofs.Sections.{section_prefix}
use Rattle.el_join.specs.Sections.{open_section}
use Rattle.el_join.specs.Concats.{has_end}
use Rattle.el_join.proofs.Opened.{to_eos_none, to_eos_some, end_to_eos}
use Rattle.el_select.specs.Selections.{Selection, active_behind, list_of, shown, select_rule, AreSelections}
use Rattle.el_select.proofs.Sticking.{stickies_stops, stickies_whole, to_eos_append}
use Rattle.el_select.proofs.Placing.{active_in, none_made, now_selected}
use Rattle.el_select.proofs.Showing.{list_prefix, shows_more, shows_now, shows_section}

-- the calls of one pad
pub at_pushed : (k : ℕ) (more : List Call) (took : List (List Call)) → k < length took → calls_at k (push_calls k more took) ≡ calls_at k took ++ more
at_pushed k more [] less = absurd (omega (arith, less))
at_pushed zero more (cs ∷ took) less = refl
at_pushed (suc k) more (cs ∷ took) less = at_pushed k more took (omega (arith, less))

pub at_other : (j k : ℕ) (more : List Call) (took : List (List Call)) → (j ≡ k → ⊥) → calls_at j (push_calls k more took) ≡ calls_at j took
at_other j k more [] apart = refl
at_other zero zero more (cs ∷ took) apart = absurd (apart refl)
at_other zero (suc k) more (cs ∷ took) apart = refl
at_other (suc j) zero more (cs ∷ took) apart = refl
at_other (suc j) (suc k) more (cs ∷ took) apart = at_other j k more took (λ e. apart (ap suc e))

pub at_each : (k : ℕ) (more : List Call) (took : List (List Call)) → k < length took → calls_at k (push_each more took) ≡ calls_at k took ++ more
at_each k more [] less = absurd (omega (arith, less))
at_each zero more (cs ∷ took) less = refl
at_each (suc k) more (cs ∷ took) less = at_each k more took (omega (arith, less))

pub push_begins : (k : ℕ) (more : List Call) (took : List (List Call)) → ArePrefixes took (push_calls k more took)
push_begins k more [] = no_pads
push_begins zero more (cs ∷ took) = one_pad (prefix_append cs more) (are_prefixes_refl took)
push_begins (suc k) more (cs ∷ took) = one_pad (prefix_refl cs) (push_begins k more took)

pub each_begins : (more : List Call) (took : List (List Call)) → ArePrefixes took (push_each more took)
each_begins more [] = no_pads
each_begins more (cs ∷ took) = one_pad (prefix_append cs more) (each_begins more took)

-- What goes out for beginnings begins what goes out for the whole.
shows_rest : {took more : List (List Call)} → ArePrefixes took more → (ss : List Selection) → AreSelections ss took
    → (rest : List Item) × (shown 0 0 ss more ≡ shown 0 0 ss took ++ rest)
shows_rest p ss m =
    let r = rest_of (list_prefix (active_behind 0 ss) p) in
    (r.0, shows_more p ss r.0 m (sym r.1))

pub rule_prefix : {took more : List (List Call)} → ArePrefixes took more → (ss : List Selection) → AreSelections ss took → (port j : ℕ)
    → IsPrefix (select_rule ss took port j) (select_rule ss more port j)
rule_prefix {took = took} p ss m port j =
    let r = shows_rest p ss m in
    to_eos_prefix (section_prefix j (prefix_by (shown 0 0 ss took) r.0 (sym r.1)))

-- The sections that are over stay.
pub rule_over : {took more : List (List Call)} → ArePrefixes took more → (ss : List Selection) → InSection (open_section took) took → AreSelections ss took
    → (port j : ℕ) → j < open_section took → select_rule ss more port j ≡ select_rule ss took port j
rule_over {took = took} p ss ls m port j less =
    let r = shows_rest p ss m in
    let n = shows_section took ss ls m in
    ap (λ (xs : List Item). to_eos (section j xs)) r.1 ∙ ap to_eos (section_before j (shown 0 0 ss took) r.0 (omega (arith, less, n)))

pub selected_over : (k : ℕ) (took : List (List Call)) (ss : List Selection) → InSection (open_section took) took → AreSelections ss took
    → (port j : ℕ) → j < open_section took → select_rule (ss ++ now_selected k took ∷ []) took port j ≡ select_rule ss took port j
selected_over k took ss ls m port j less =
    let n = shows_section took ss ls m in
    ap (λ (xs : List Item). to_eos (section j xs)) (shows_now k took ss)
    ∙ ap to_eos (section_before j (shown 0 0 ss took) (stickies (counted (list_of k took))) (omega (arith, less, n)))

-- The section that is open, with items behind: behind its EOS it stays, and else they are owed up to the first EOS.
section_ended : (n : ℕ) (w rest : List Item) → flush_stops w ≡ n → flush_stops rest ≡ 0 → has_end (to_eos (section n w)) ≡ true
    → to_eos (section n (w ++ rest)) ≡ to_eos (section n w)
section_ended n w rest e none ends =
    ap to_eos (section_last n w rest e none) ∙ to_eos_some (section n w) rest (sym (end_to_eos (section n w)) ∙ ends)

section_grows : (n : ℕ) (w rest : List Item) → flush_stops w ≡ n → flush_stops rest ≡ 0 → has_end (to_eos (section n w)) ≡ false
    → to_eos (section n (w ++ rest)) ≡ to_eos (section n w) ++ to_eos rest
section_grows n w rest e none begun =
    let open_is = sym (end_to_eos (section n w)) ∙ begun in
    ap to_eos (section_last n w rest e none) ∙ to_eos_append (section n w) rest open_is
    ∙ ap (λ (xs : List Item). xs ++ to_eos rest) (sym (to_eos_none (section n w) open_is))

one_stops : (x : Item) → is_flush_stop x ≡ false → flush_stops (x ∷ []) ≡ 0
one_stops x plain = ap (λ (b : Bool). if b then 1 else 0) plain

one_whole : (x : Item) → to_eos (x ∷ []) ≡ x ∷ []
one_whole x = go (is_eos x)
  where
    go : (b : Bool) → x ∷ (if b then [] else []) ≡ x ∷ []
    go true = refl
    go false = refl

module _ (ss : List Selection) (took : List (List Call)) (ls : InSection (open_section took) took) (m : AreSelections ss took) where
  -- an item on another pad
  pub rule_elsewhere : (k : ℕ) (x : Item) → (active_behind 0 ss ≡ k → ⊥) → (port j : ℕ)
      → select_rule ss (push_calls k (Feed x ∷ []) took) port j ≡ select_rule ss took port j
  rule_elsewhere k x apart port j =
      let same = ap items (at_other (active_behind 0 ss) k (Feed x ∷ []) took apart) ∙ sym (append-nil (list_of (active_behind 0 ss) took)) in
      ap (λ (xs : List Item). to_eos (section j xs)) (shows_more (push_begins k (Feed x ∷ []) took) ss [] m same ∙ append-nil (shown 0 0 ss took))

  -- an item on the active pad
  shows_item : (x : Item) → active_behind 0 ss < length took
      → shown 0 0 ss (push_calls (active_behind 0 ss) (Feed x ∷ []) took) ≡ shown 0 0 ss took ++ x ∷ []
  shows_item x less =
      let k = active_behind 0 ss in
      shows_more (push_begins k (Feed x ∷ []) took) ss (x ∷ []) m (ap items (at_pushed k (Feed x ∷ []) took less) ∙ items_push (calls_at k took) x)

  pub rule_item : (x : Item) → active_behind 0 ss < length took → is_flush_stop x ≡ false → (port : ℕ)
      → has_end (select_rule ss took port (open_section took)) ≡ false
      → select_rule ss (push_calls (active_behind 0 ss) (Feed x ∷ []) took) port (open_section took) ≡ select_rule ss took port (open_section took) ++ x ∷ []
  rule_item x less plain port begun =
      ap (λ (xs : List Item). to_eos (section (open_section took) xs)) (shows_item x less)
      ∙ section_grows (open_section took) (shown 0 0 ss took) (x ∷ []) (shows_section took ss ls m) (one_stops x plain) begun
      ∙ ap (λ (xs : List Item). select_rule ss took port (open_section took) ++ xs) (one_whole x)

  pub rule_behind : (x : Item) → active_behind 0 ss < length took → is_flush_stop x ≡ false → (port : ℕ)
      → has_end (select_rule ss took port (open_section took)) ≡ true
      → select_rule ss (push_calls (active_behind 0 ss) (Feed x ∷ []) took) port (open_section took) ≡ select_rule ss took port (open_section took)
  rule_behind x less plain port ends =
      ap (λ (xs : List Item). to_eos (section (open_section took) xs)) (shows_item x less)
      ∙ section_ended (open_section took) (shown 0 0 ss took) (x ∷ []) (shows_section took ss ls m) (one_stops x plain) ends

  -- a selection
  pub rule_selected : (k port : ℕ) → has_end (select_rule ss took port (open_section took)) ≡ false
      → select_rule (ss ++ now_selected k took ∷ []) took port (open_section took)
      ≡ select_rule ss took port (open_section took) ++ stickies (counted (list_of k took))
  rule_selected k port begun =
      let more = stickies (counted (list_of k took)) in
      ap (λ (xs : List Item). to_eos (section (open_section took) xs)) (shows_now k took ss)
      ∙ section_grows (open_section took) (shown 0 0 ss took) more (shows_section took ss ls m) (stickies_stops (counted (list_of k took))) begun
      ∙ ap (λ (xs : List Item). select_rule ss took port (open_section took) ++ xs) (stickies_whole (counted (list_of k took)))

-- A flush ends the section that is open.
abbrev pub flush_of : ℕ → List Call
flush_of number = Feed (Ev (FlushStop number)) ∷ []

shows_flush : (number : ℕ) (ss : List Selection) (cs : List Call) (took : List (List Call)) → AreSelections ss (cs ∷ took)
    → shown 0 0 ss (push_each (flush_of number) (cs ∷ took)) ≡ shown 0 0 ss (cs ∷ took) ++ Ev (FlushStop number) ∷ []
shows_flush number ss cs took m =
    let k = active_behind 0 ss in
    let less = active_in 0 (0 ∷ map (λ (ds : List Call). 0) took) ss (cs ∷ took) (omega arith) m in
    shows_more (each_begins (flush_of number) (cs ∷ took)) ss (Ev (FlushStop number) ∷ []) m
    (ap items (at_each k (flush_of number) (cs ∷ took) less) ∙ items_push (calls_at k (cs ∷ took)) (Ev (FlushStop number)))

-- without pads nothing goes out
nothing_shown : (ss : List Selection) (port j : ℕ) → AreSelections ss [] → select_rule ss [] port j ≡ []
unfolding stickies
nothing_shown ss port j m =
    ap (λ (qs : List Selection). to_eos (section j (shown 0 0 qs []))) (none_made ss m) ∙ ap to_eos (none_behind j)

pub rule_closed : (number : ℕ) (ss : List Selection) (took : List (List Call)) → InSection (open_section took) took → AreSelections ss took
    → (port j : ℕ) → j ≤ open_section took → select_rule ss (push_each (flush_of number) took) port j ≡ select_rule ss took port j
rule_closed number ss [] ls m port j most = refl
rule_closed number ss (cs ∷ took) ls m port j most =
    let n = shows_section (cs ∷ took) ss ls m in
    ap (λ (xs : List Item). to_eos (section j xs)) (shows_flush number ss cs took m)
    ∙ ap to_eos (section_closed j (shown 0 0 ss (cs ∷ took)) number (omega (arith, most, n)))

pub rule_flushed : (number : ℕ) (ss : List Selection) (took : List (List Call)) → InSection (open_section took) took → AreSelections ss took
    → (port : ℕ) → select_rule ss (push_each (flush_of number) took) port (suc (open_section took)) ≡ []
rule_flushed number ss [] ls m port = nothing_shown ss port 1 m
rule_flushed number ss (cs ∷ took) ls m port =
    let n = shows_section (cs ∷ took) ss ls m in
    ap (λ (xs : List Item). to_eos (section (suc (open_section (cs ∷ took))) xs)) (shows_flush number ss cs took m)
    ∙ ap to_eos (section_flushed (open_section (cs ∷ took)) (shown 0 0 ss (cs ∷ took)) number n)

-- Nothing is owed behind an EOS, and no FLUSH_STOP; and for nothing nothing.
plain_to_eos : (xs : List Item) → has_flush_stop xs ≡ false → IsPlain (to_eos xs)
plain_to_eos [] free = tt
plain_to_eos (x ∷ xs) free = go (is_flush_stop x) refl free (is_eos x) refl (plain_to_eos xs)
  where
    differ : {b : Bool} → b ≡ false → b ≡ true → ⊥
    differ e d = cc

    go : (f : Bool) → is_flush_stop x ≡ f → (if f then true else has_flush_stop xs) ≡ false → (e : Bool) → is_eos x ≡ e
        → (has_flush_stop xs ≡ false → IsPlain (to_eos xs)) → IsPlain (x ∷ (if e then [] else to_eos xs))
    go true f free e is rest = absurd (cc)
    go false f free true is rest = (f, (λ ends. refl), tt)
    go false f free false is rest = (f, (λ ends. absurd (differ is ends)), rest free)

pub rule_plain : (ss : List Selection) (took : List (List Call)) (port j : ℕ) → IsPlain (select_rule ss took port j)
rule_plain ss took port j = plain_to_eos (section j (shown 0 0 ss took)) (section_plain j (shown 0 0 ss took))

pub rule_opens : (pads port j : ℕ) → select_rule [] (replicate pads []) port j ≡ []
unfolding stickies
rule_opens zero port j = ap to_eos (none_behind j)
rule_opens (suc pads) port j = ap to_eos (none_behind j)
