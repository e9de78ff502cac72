-- The selector stands behind a selection, a flush and an event that is laid; and a new one for nothing.
use Rattle.std.proofs.Common.{◌≡◌, ◌<◌, ℕ, zero, suc, true, false, List, [], ◌∷◌, ◌++◌, map, length, set, replicate, Some, refl, sym, ap, ◌∙◌, subst, arith}
use Rattle.std.specs.Prelude.{slice_get}
use Rattle.gst_item.specs.declared.out.Out.{Out}
use Rattle.flow_model.specs.Item.{Item, Event, Ev, FlushStop}
use Rattle.flow_model.specs.Call.{Call, Feed, items}
use Rattle.flow_model.specs.Sticky.{stickies}
use Rattle.flow_model.specs.Section.{counted, flush_stops}
use Rattle.flow_model.specs.Feeding.{has_eos}
use Rattle.flow_model.specs.Inherited.{is_inherited}
use Rattle.flow_model.specs.SinkPads.{calls_at, push_calls, push_each, InSection}
use Rattle.flow_model.proofs.Calls.{items_push, eos_flushed}
use Rattle.flow_model.proofs.Items.{none_in, stops_flushed, stops_of}
use Rattle.el_join.specs.Sections.{open_section}
use Rattle.el_join.specs.Concats.{has_end}
use Rattle.el_join.proofs.Noting.{plain_of}
use Rattle.el_join.proofs.Opened.{end_append}
use Rattle.el_select.specs.declared.pad.Pad.{Pad}
use Rattle.el_select.specs.declared.selector.Selector.{Selector}
use Rattle.el_select.specs.Selections.{Selection, active_behind, list_of, select_rule, AreSelections}
use Rattle.el_select.specs.Selects.{is_over, Knows, KnowEach, PutsSticky, Remembers, Selects, SelectsPad}
use Rattle.el_select.proofs.Sticking.{in_force_end}
use Rattle.el_select.proofs.Placing.{active_now, made_now, none_made, now_selected, selections_more, zeros_within}
use Rattle.el_select.proofs.Owing.{each_begins, flush_of, push_begins, rule_flushed, rule_opens, rule_selected}
use Rattle.el_select.proofs.Knowing.{know_at, know_length, know_pushed}
use Rattle.el_select.proofs.Standing.{Owes, level_push, owes_of, selects_of}

-- A selection.
owes_selected : (ss : List Selection) (took : List (List Call)) (put : List Item) (k : ℕ) → k < length took
    → has_eos (calls_at (active_behind 0 ss) took) ≡ false → Owes ss took put
    → Owes (ss ++ now_selected k took ∷ []) took (put ++ stickies (counted (list_of k took)))
owes_selected ss took put k less begun o =
    let open_is = o.over ∙ begun in
    let more = stickies (counted (list_of k took)) in
    record {
      level = o.level;
      made = made_now (open_section took) k took less o.level (map (λ (cs : List Call). 0) took) ss o.made;
      owed = rule_selected ss took o.level o.made k 0 (ap has_end o.owed ∙ open_is) ∙ ap (λ (xs : List Item). xs ++ more) o.owed;
      over = end_append put more open_is ∙ in_force_end (calls_at k took) ∙ ap (λ (n : ℕ). has_eos (calls_at n took)) (sym (active_now k 0 took ss));
    }

pub selects_pad : (old new : Selector) (k : ℕ) (p : Pad) (out out' : List Out) → slice_get old.pads.items k ≡ Some p → k < length old.pads.items
    → is_over old ≡ false
    → new.pads.items ≡ old.pads.items → new.active ≡ k → PutsSticky p out out' → SelectsPad old new k out out'
selects_pad old new k p out out' at less begun pads active r = record {
  more = r.more;
  outs = r.outs;
  free = r.free;
  owed = owed;
  stands = λ ss took put s.
      let o = owes_of old ss took put s in
      let ks = s.remembers.each in
      let same = know_length old.pads.items took ks in
      let open_is = sym o.over ∙ s.over ∙ begun in
      subst (λ (xs : List Item). Selects new (ss ++ now_selected k took ∷ []) took (put ++ xs)) (sym (owed ss took put s))
      (selects_of new (ss ++ now_selected k took ∷ []) took (put ++ stickies (counted (list_of k took))) (subst (λ (ps : List Pad). KnowEach ps took) (sym pads) ks)
      (active ∙ sym (active_now k 0 took ss)) (owes_selected ss took put k (omega (arith, less, same)) open_is o));
}
  where
    owed : (ss : List Selection) (took : List (List Call)) (put : List Item) → Selects old ss took put → r.more ≡ stickies (counted (list_of k took))
    owed ss took put s = r.owed (calls_at k took) (know_at old.pads.items took s.remembers.each k p at)

-- A flush.
level_flushed : (n number : ℕ) (took : List (List Call)) → InSection n took → InSection (suc n) (push_each (flush_of number) took)
level_flushed n number [] ls = tt
level_flushed n number (cs ∷ took) ls = (
  stops_of (cs ++ flush_of number) ∙ ap flush_stops (items_push cs (Ev (FlushStop number))) ∙ stops_flushed (items cs) number ∙ ap suc (sym (stops_of cs) ∙ ls.0),
  level_flushed n number took ls.1,
)

eos_of_flushed : (k number : ℕ) (took : List (List Call)) → has_eos (calls_at k (push_each (flush_of number) took)) ≡ false
eos_of_flushed k number [] = refl
eos_of_flushed zero number (cs ∷ took) = eos_flushed cs number
eos_of_flushed (suc k) number (cs ∷ took) = eos_of_flushed k number took

open_flushed : (number : ℕ) (cs : List Call) (took : List (List Call)) → InSection (open_section (cs ∷ took)) (cs ∷ took)
    → open_section (push_each (flush_of number) (cs ∷ took)) ≡ suc (open_section (cs ∷ took))
open_flushed number cs took ls = (level_flushed (open_section (cs ∷ took)) number (cs ∷ took) ls).0

owes_flushed : (ss : List Selection) (took : List (List Call)) (number : ℕ) → InSection (open_section took) took → AreSelections ss took
    → Owes ss (push_each (flush_of number) took) []
owes_flushed ss [] number ls m =
    record { level = tt; made = m; owed = ap (λ (qs : List Selection). select_rule qs [] 0 0) (none_made ss m) ∙ rule_opens 0 0 0; over = refl }
owes_flushed ss (cs ∷ took) number ls m =
    let now = open_flushed number cs took ls in
    record {
      level = subst (λ (n : ℕ). InSection n (push_each (flush_of number) (cs ∷ took))) (sym now) (level_flushed (open_section (cs ∷ took)) number (cs ∷ took) ls);
      made = selections_more (each_begins (flush_of number) (cs ∷ took)) ss m;
      owed = ap (λ (n : ℕ). select_rule ss (push_each (flush_of number) (cs ∷ took)) 0 n) now ∙ rule_flushed number ss (cs ∷ took) ls m 0;
      over = sym (eos_of_flushed (active_behind 0 ss) number (cs ∷ took));
    }

pub selects_flushed : (old new : Selector) → new.active ≡ old.active
    → ((took : List (List Call)) (number : ℕ) → KnowEach old.pads.items took → KnowEach new.pads.items (push_each (flush_of number) took))
    → (ss : List Selection) (took : List (List Call)) (number : ℕ) → Remembers old ss took → Selects new ss (push_each (flush_of number) took) []
selects_flushed old new active know ss took number r =
    selects_of new ss (push_each (flush_of number) took) [] (know took number r.each) (active ∙ r.active) (owes_flushed ss took number r.level r.made)

-- An event that is laid.
pub remembers_laid : (old new : Selector) (k : ℕ) (event : Event) (p q : Pad) → is_inherited event ≡ true → slice_get old.pads.items k ≡ Some p
    → new.active ≡ old.active → new.pads.items ≡ set old.pads.items k q
    → ((calls : List Call) → Knows p calls → Knows q (calls ++ Feed (Ev event) ∷ []))
    → (ss : List Selection) (took : List (List Call)) → Remembers old ss took → Remembers new ss (push_calls k (Feed (Ev event) ∷ []) took)
remembers_laid old new k event p q h at active is next ss took r = record {
  each = subst (λ (ps : List Pad). KnowEach ps (push_calls k (Feed (Ev event) ∷ []) took)) (sym is)
      (know_pushed old.pads.items took k p q (Feed (Ev event) ∷ []) at next r.each);
  level = level_push k (Ev event) took (plain_of event h) r.level;
  active = active ∙ r.active;
  made = selections_more (push_begins k (Feed (Ev event) ∷ []) took) ss r.made;
}

-- A new one.
open_none : (n : ℕ) → open_section (replicate n []) ≡ 0
open_none zero = refl
open_none (suc n) = refl

eos_none : (n k : ℕ) → has_eos (calls_at k (replicate n [])) ≡ false
eos_none zero k = refl
eos_none (suc n) zero = refl
eos_none (suc n) (suc k) = eos_none n k

pub selects_new : (element : Selector) (n : ℕ) → KnowEach element.pads.items (replicate n []) → element.active ≡ 0 → Selects element [] (replicate n []) []
selects_new element n ks active =
    selects_of element [] (replicate n []) [] ks active (record {
      level = subst (λ (m : ℕ). InSection m (replicate n [])) (sym (open_none n)) (none_in n);
      made = zeros_within (replicate n []);
      owed = rule_opens n 0 (open_section (replicate n []));
      over = sym (eos_none n 0);
    })
