-- The selector stands for longer lists behind an item, a selection, a flush, and an event that is laid.
use Rattle.std.proofs.Common.{◌≡◌, ◌<◌, ℕ, Bool, true, false, if◌then◌else◌, Some, List, [], ◌∷◌, ◌++◌, ◌⊎◌, inl, inr, length, drop, set, refl, sym, ap, ◌∙◌, subst, append-nil, arith, Result, Ok, Err, OnOk}
use Rattle.std.specs.Prelude.{slice_get}
use Rattle.std.proofs.Math.Seq.{drop-append_seam}
use Rattle.gst_value.proofs.Basics.{same_or_other}
use Rattle.gst_value.proofs.Places.{found_at}
use Rattle.gst_item.specs.declared.out.Out.{Out}
use Rattle.flow_model.specs.Item.{Item, Buffer, Buf, Event, Ev, is_flush_stop, is_eos}
use Rattle.flow_model.specs.Call.{Call, Feed}
use Rattle.flow_model.specs.Sticky.{has_flush_stop}
use Rattle.flow_model.specs.Rule.{Fault}
use Rattle.flow_model.specs.Feeding.{has_eos, on_pad}
use Rattle.flow_model.specs.SinkPads.{calls_at, push_calls, InSection}
use Rattle.flow_model.proofs.Calls.{eos_taken, eos_stays}
use Rattle.flow_model.proofs.Items.{stops_push}
use Rattle.el_join.specs.Sections.{open_section}
use Rattle.el_join.specs.Concats.{has_end}
use Rattle.el_join.proofs.Free.{one_free}
use Rattle.el_join.proofs.Joining.{open_push}
use Rattle.el_join.proofs.Lines.{level_pushed}
use Rattle.el_join.proofs.Opened.{end_append}
use Rattle.el_select.specs.declared.pad.Pad.{Pad}
use Rattle.el_select.specs.declared.selector.Selector.{Selector}
use Rattle.el_select.specs.Selections.{Selection, active_behind, select_rule, select_answers, AreSelections}
use Rattle.el_select.specs.Selects.{ended_of, is_over, Knows, KnowEach, Selects, SelectPuts}
use Rattle.el_select.proofs.Placing.{selections_more}
use Rattle.el_select.proofs.Owing.{at_other, at_pushed, push_begins, rule_behind, rule_elsewhere, rule_item}
use Rattle.el_select.proofs.Keeping.{takes_buffer}
use Rattle.el_select.proofs.Knowing.{ended_at, know_at, know_kept, know_length, know_pushed, knows_behind}

-- What holds of the lists alone.
pub record Owes (ss : List Selection) (took : List (List Call)) (put : List Item) : Type 0 where
  pub level : InSection (open_section took) took
  pub made : AreSelections ss took
  pub owed : select_rule ss took 0 (open_section took) ≡ put
  pub over : has_end put ≡ has_eos (calls_at (active_behind 0 ss) took)

over_is : (element : Selector) (ss : List Selection) (took : List (List Call)) → KnowEach element.pads.items took → element.active ≡ active_behind 0 ss
    → has_eos (calls_at (active_behind 0 ss) took) ≡ is_over element
over_is element ss took ks active =
    ap (λ (k : ℕ). has_eos (calls_at k took)) (sym active) ∙ ended_at element.pads.items took ks element.active

pub owes_of : (element : Selector) (ss : List Selection) (took : List (List Call)) (put : List Item) → Selects element ss took put → Owes ss took put
owes_of element ss took put s = record {
  level = s.remembers.level;
  made = s.remembers.made;
  owed = s.owed;
  over = s.over ∙ sym (over_is element ss took s.remembers.each s.remembers.active);
}

pub selects_of : (element : Selector) (ss : List Selection) (took : List (List Call)) (put : List Item) → KnowEach element.pads.items took
    → element.active ≡ active_behind 0 ss → Owes ss took put → Selects element ss took put
selects_of element ss took put ks active o = record {
  remembers = record { each = ks; level = o.level; active = active; made = o.made };
  owed = o.owed;
  over = o.over ∙ over_is element ss took ks active;
}

-- With an item more these are owed more, and are answered to it.
pub record OwesMore (ss : List Selection) (took : List (List Call)) (put : List Item) (k : ℕ) (x : Item) (more : List Item) : Type 0 where
  pub rule : select_rule ss (push_calls k (Feed x ∷ []) took) 0 (open_section took) ≡ put ++ more
  pub over : has_end (put ++ more) ≡ has_eos (calls_at (active_behind 0 ss) (push_calls k (Feed x ∷ []) took))

pub level_push : (k : ℕ) (x : Item) (took : List (List Call)) → is_flush_stop x ≡ false → InSection (open_section took) took
    → InSection (open_section (push_calls k (Feed x ∷ []) took)) (push_calls k (Feed x ∷ []) took)
level_push k x took plain ls =
    subst (λ (n : ℕ). InSection n (push_calls k (Feed x ∷ []) took)) (sym (open_push k took x plain))
    (level_pushed (open_section took) k took (Feed x) (stops_push (calls_at k took) x plain) ls)

owes_push : (ss : List Selection) (took : List (List Call)) (put : List Item) (k : ℕ) (x : Item) (more : List Item) → is_flush_stop x ≡ false
    → Owes ss took put → OwesMore ss took put k x more → Owes ss (push_calls k (Feed x ∷ []) took) (put ++ more)
owes_push ss took put k x more plain o m = record {
  level = level_push k x took plain o.level;
  made = selections_more (push_begins k (Feed x ∷ []) took) ss o.made;
  owed = ap (λ (n : ℕ). select_rule ss (push_calls k (Feed x ∷ []) took) 0 n) (open_push k took x plain) ∙ m.rule;
  over = m.over;
}

answered : List Item → Result (List Item) Fault
answered xs = Ok xs

answers_more : (ss : List Selection) (took : List (List Call)) (put : List Item) (k : ℕ) (x : Item) (more : List Item)
    → Owes ss took put → OwesMore ss took put k x more → select_answers ss took k x ≡ Ok more
unfolding answered
answers_more ss took put k x more o m =
    ap (λ (xs : List Item). answered (drop (length xs) (select_rule ss (push_calls k (Feed x ∷ []) took) 0 (open_section took)))) o.owed
    ∙ ap (λ (xs : List Item). answered (drop (length put) xs)) m.rule
    ∙ ap answered (drop-append_seam put more)

-- an item on another pad, and one behind the EOS of its pad
elsewhere : (ss : List Selection) (took : List (List Call)) (put : List Item) (k : ℕ) (x : Item) → (active_behind 0 ss ≡ k → ⊥) → Owes ss took put
    → OwesMore ss took put k x []
elsewhere ss took put k x apart o = record {
  rule = rule_elsewhere ss took o.level o.made k x apart 0 (open_section took) ∙ o.owed ∙ sym (append-nil put);
  over = ap has_end (append-nil put) ∙ o.over ∙ ap has_eos (sym (at_other (active_behind 0 ss) k (Feed x ∷ []) took apart));
}

behind_active : (ss : List Selection) (took : List (List Call)) (put : List Item) (x : Item) → is_flush_stop x ≡ false → active_behind 0 ss < length took
    → has_eos (calls_at (active_behind 0 ss) took) ≡ true → Owes ss took put → OwesMore ss took put (active_behind 0 ss) x []
behind_active ss took put x plain less ended o = record {
  rule = rule_behind ss took o.level o.made x less plain 0 (ap has_end o.owed ∙ o.over ∙ ended) ∙ o.owed ∙ sym (append-nil put);
  over = ap has_end (append-nil put) ∙ o.over ∙ ended ∙ sym (eos_stays (calls_at (active_behind 0 ss) took) x plain ended)
      ∙ ap has_eos (sym (at_pushed (active_behind 0 ss) (Feed x ∷ []) took less));
}

behind_eos : (ss : List Selection) (took : List (List Call)) (put : List Item) (k : ℕ) (x : Item) → is_flush_stop x ≡ false → k < length took
    → has_eos (calls_at k took) ≡ true → Owes ss took put → OwesMore ss took put k x []
behind_eos ss took put k x plain less ended o = go (same_or_other (active_behind 0 ss) k)
  where
    go : (active_behind 0 ss ≡ k) ⊎ ((active_behind 0 ss < k) ⊎ (k < active_behind 0 ss)) → OwesMore ss took put k x []
    go (inl same) =
        subst (λ (n : ℕ). OwesMore ss took put n x []) same
        (behind_active ss took put x plain (omega (arith, less, same)) (ap (λ (n : ℕ). has_eos (calls_at n took)) same ∙ ended) o)
    go (inr (inl lower)) = elsewhere ss took put k x (λ e. absurd (omega (arith, lower, e))) o
    go (inr (inr higher)) = elsewhere ss took put k x (λ e. absurd (omega (arith, higher, e))) o

-- an item on the active pad
at_active : (ss : List Selection) (took : List (List Call)) (put : List Item) (x : Item) → is_flush_stop x ≡ false → active_behind 0 ss < length took
    → has_eos (calls_at (active_behind 0 ss) took) ≡ false → Owes ss took put → OwesMore ss took put (active_behind 0 ss) x (x ∷ [])
at_active ss took put x plain less begun o = record {
  rule = rule_item ss took o.level o.made x less plain 0 (ap has_end o.owed ∙ o.over ∙ begun) ∙ ap (λ (xs : List Item). xs ++ x ∷ []) o.owed;
  over = end_append put (x ∷ []) (o.over ∙ begun) ∙ one_end (is_eos x) ∙ sym (eos_taken (calls_at (active_behind 0 ss) took) x plain begun)
      ∙ ap has_eos (sym (at_pushed (active_behind 0 ss) (Feed x ∷ []) took less));
}
  where
    one_end : (b : Bool) → (if b then true else false) ≡ b
    one_end true = refl
    one_end false = refl

-- the element puts out what is owed more
pub puts_more : (old new : Selector) (k : ℕ) (x : Item) (more : List Item) (out out' : List Out) → is_flush_stop x ≡ false → new.active ≡ old.active
    → ((took : List (List Call)) → KnowEach old.pads.items took → KnowEach new.pads.items (push_calls k (Feed x ∷ []) took))
    → out' ≡ out ++ on_pad 0 more → has_flush_stop more ≡ false
    → ((ss : List Selection) (took : List (List Call)) (put : List Item) → Selects old ss took put → OwesMore ss took put k x more)
    → SelectPuts old new k x out out'
puts_more old new k x more out out' plain active know outs free owes = record {
  more = more;
  outs = outs;
  free = free;
  owed = λ ss took put s. answers_more ss took put k x more (owes_of old ss took put s) (owes ss took put s);
  stands = λ ss took put s.
      selects_of new ss (push_calls k (Feed x ∷ []) took) (put ++ more) (know took s.remembers.each) (active ∙ s.remembers.active)
      (owes_push ss took put k x more plain (owes_of old ss took put s) (owes ss took put s));
}

pub puts_behind : (element : Selector) (k : ℕ) (x : Item) (p : Pad) (out : List Out) → is_flush_stop x ≡ false → slice_get element.pads.items k ≡ Some p
    → k < length element.pads.items → p.ended ≡ true → SelectPuts element element k x out out
puts_behind element k x p out plain at less ended =
    puts_more element element k x [] out out plain refl
    (λ took ks. know_kept element.pads.items took k p (Feed x ∷ []) at (knows_behind p x plain ended) ks)
    (sym (append-nil out)) refl
    (λ ss took put s.
    let same = know_length element.pads.items took s.remembers.each in
    let known : Knows p (calls_at k took) = know_at element.pads.items took s.remembers.each k p at in
    behind_eos ss took put k x plain (omega (arith, less, same)) (known.ended ∙ ended) (owes_of element ss took put s))

pub puts_elsewhere : (old new : Selector) (k : ℕ) (x : Item) (p q : Pad) (out : List Out) → is_flush_stop x ≡ false → slice_get old.pads.items k ≡ Some p
    → (old.active ≡ k → ⊥) → new.active ≡ old.active → new.pads.items ≡ set old.pads.items k q
    → ((calls : List Call) → Knows p calls → Knows q (calls ++ Feed x ∷ [])) → SelectPuts old new k x out out
puts_elsewhere old new k x p q out plain at apart active is next =
    puts_more old new k x [] out out plain active
    (λ took ks. subst (λ (ps : List Pad). KnowEach ps (push_calls k (Feed x ∷ []) took)) (sym is) (know_pushed old.pads.items took k p q (Feed x ∷ []) at next ks))
    (sym (append-nil out)) refl
    (λ ss took put s. elsewhere ss took put k x (λ e. apart (s.remembers.active ∙ e)) (owes_of old ss took put s))

pub puts_item : (old new : Selector) (x : Item) (out out' : List Out) → is_flush_stop x ≡ false → old.active < length old.pads.items → is_over old ≡ false
    → new.active ≡ old.active
    → ((took : List (List Call)) → KnowEach old.pads.items took → KnowEach new.pads.items (push_calls old.active (Feed x ∷ []) took))
    → out' ≡ out ++ on_pad 0 (x ∷ []) → SelectPuts old new old.active x out out'
puts_item old new x out out' plain less begun active know outs =
    puts_more old new old.active x (x ∷ []) out out' plain active know outs (one_free x plain)
    (λ ss took put s.
    let same = know_length old.pads.items took s.remembers.each in
    subst (λ (n : ℕ). OwesMore ss took put n x (x ∷ [])) (sym s.remembers.active)
    (at_active ss took put x plain (omega (arith, less, same, s.remembers.active))
    (over_is old ss took s.remembers.each s.remembers.active ∙ begun) (owes_of old ss took put s)))

-- an event, of which a copy is remembered, and a buffer
pub puts_event : (old new : Selector) (event copy : Event) (p q : Pad) (out out' : List Out) → is_flush_stop (Ev event) ≡ false
    → old.active < length old.pads.items
    → is_over old ≡ false → slice_get old.pads.items old.active ≡ Some p → new.active ≡ old.active → new.pads.items ≡ set old.pads.items old.active q
    → copy ≡ event
    → ((calls : List Call) → Knows p calls → Knows q (calls ++ Feed (Ev copy) ∷ [])) → out' ≡ out ++ on_pad 0 (Ev event ∷ [])
    → SelectPuts old new old.active (Ev event) out out'
puts_event old new event copy p q out out' plain less begun at active is same next outs =
    puts_item old new (Ev event) out out' plain less begun active
    (λ took ks. subst (λ (ps : List Pad). KnowEach ps (push_calls old.active (Feed (Ev event) ∷ []) took)) (sym is)
    (know_pushed old.pads.items took old.active p q (Feed (Ev event) ∷ []) at
    (subst (λ (e : Event). (calls : List Call) → Knows p calls → Knows q (calls ++ Feed (Ev e) ∷ [])) same next) ks))
    outs

pub puts_buffer : {A E : Type 0} (r : Result A E) (element : Selector) (x : Item) (b : Buffer) (out out' : List Out) → is_flush_stop x ≡ false
    → element.active < length element.pads.items → is_over element ≡ false → x ≡ Buf b → OnOk r (out' ≡ out ++ on_pad 0 (Buf b ∷ []))
    → OnOk r (SelectPuts element element element.active x out out')
puts_buffer (Err e) element x b out out' plain less begun is outs = tt
puts_buffer (Ok a) element x b out out' plain less begun is outs =
    let found = found_at element.pads.items element.active less in
    let none = sym (ap ended_of found.1) ∙ begun in
    puts_item element element x out out' plain less begun refl
    (λ took ks. know_kept element.pads.items took element.active found.0 (Feed x ∷ []) found.1
    (takes_buffer found.0 found.0 x b plain none is refl (none ∙ sym (ap is_eos is))) ks)
    (outs ∙ ap (λ (y : Item). out ++ on_pad 0 (y ∷ [])) (sym is))
