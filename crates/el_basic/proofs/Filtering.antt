-- A filter of caps with one more call.
use Rattle.std.proofs.Common.{◌≡◌, ℕ, Bool, true, false, List, [], ◌∷◌, ◌++◌, refl, sym, ap, ◌∙◌, append-nil, Result, Ok}
use Rattle.gst_caps.specs.declared.caps.Caps.{Caps}
use Rattle.flow_model.specs.Item.{Item, Ev, FlushStop, Eos, is_flush_stop, is_eos}
use Rattle.flow_model.specs.Call.{Call, Feed, Act, Drain, Set, Filter, Allowed, Drops, items}
use Rattle.flow_model.specs.Rule.{Fed}
use Rattle.el_basic.specs.declared.caps_filter.CapsFilter.{CapsFilter}
use Rattle.el_basic.specs.Filters.{filter_in, filter_answer, filters}
use Rattle.flow_model.specs.CapsInForce.{caps_in_force, caps_behind}
use Rattle.el_basic.specs.Filtered.{filtered, IsFilteredBy}
use Rattle.flow_model.proofs.Counted.{counted_taken, counted_behind, counted_flush, counted_act}
use Rattle.flow_model.proofs.Calls.{items_act, fed_taken, fed_behind, fed_flush, drained_begun, drained_behind, set_push, eos_taken, eos_stays, eos_flushed, eos_act}
use Rattle.flow_model.proofs.CapsFed.{caps_fed}

pub filter_fed : (first : Caps) (calls : List Call) (x : Item) → filter_in first (calls ++ Feed x ∷ []) ≡ filter_in first calls
filter_fed first [] x = refl
filter_fed first (Feed y ∷ calls) x = filter_fed first calls x
filter_fed first (Act Drain ∷ calls) x = filter_fed first calls x
filter_fed first (Act (Set (Filter caps)) ∷ calls) x = filter_fed caps calls x
filter_fed first (Act (Set (Allowed caps)) ∷ calls) x = filter_fed first calls x
filter_fed first (Act (Set (Drops drops)) ∷ calls) x = filter_fed first calls x

pub filter_drained : (first : Caps) (calls : List Call) → filter_in first (calls ++ Act Drain ∷ []) ≡ filter_in first calls
filter_drained first [] = refl
filter_drained first (Feed y ∷ calls) = filter_drained first calls
filter_drained first (Act Drain ∷ calls) = filter_drained first calls
filter_drained first (Act (Set (Filter caps)) ∷ calls) = filter_drained caps calls
filter_drained first (Act (Set (Allowed caps)) ∷ calls) = filter_drained first calls
filter_drained first (Act (Set (Drops drops)) ∷ calls) = filter_drained first calls

pub filter_set : (first : Caps) (calls : List Call) (caps : Caps) → filter_in first (calls ++ Act (Set (Filter caps)) ∷ []) ≡ caps
filter_set first [] caps = refl
filter_set first (Feed y ∷ calls) caps = filter_set first calls caps
filter_set first (Act Drain ∷ calls) caps = filter_set first calls caps
filter_set first (Act (Set (Filter old)) ∷ calls) caps = filter_set old calls caps
filter_set first (Act (Set (Allowed old)) ∷ calls) caps = filter_set first calls caps
filter_set first (Act (Set (Drops drops)) ∷ calls) caps = filter_set first calls caps

-- the answer of the rule, by what the element knows
answer_known : (first : Caps) (element : CapsFilter) (calls : List Call) (put : List Item) (x : Item) (r : Result (List Item) _) → IsFilteredBy first element calls put
    → filter_answer element.filter element.current x ≡ r → filters first (filtered first calls) x ≡ r
answer_known first element calls put x r p e = rw (p.filter_is, p.caps_are) e

pub filtered_item : (old new : CapsFilter) (x : Item) → is_flush_stop x ≡ false → old.ended ≡ false
    → filter_answer old.filter old.current x ≡ Ok (x ∷ []) → new.filter ≡ old.filter → new.current ≡ caps_behind old.current x → new.ended ≡ is_eos x
    → (first : Caps) (calls : List Call) (put : List Item) → IsFilteredBy first old calls put → IsFilteredBy first new (calls ++ Feed x ∷ []) (put ++ x ∷ [])
filtered_item old new x plain begun answer filter current ends first calls put p =
    let same = fed_taken (filters first) calls x (x ∷ []) (p.over ∙ begun) plain (answer_known first old calls put x _ p answer) in
    record {
      owed = ap (λ ys. ys ++ x ∷ []) p.owed ∙ sym (ap (λ (s : Fed). s.out) same);
      all = ap (λ ys. ys ++ x ∷ []) p.all ∙ sym (counted_taken calls x (p.eos ∙ begun));
      over = ap (λ (s : Fed). s.over) same ∙ sym ends;
      eos = eos_taken calls x plain (p.eos ∙ begun) ∙ sym ends;
      filter_is = ap (λ (s : Fed). filter_in first s.given) same ∙ filter_fed first (filtered first calls).given x ∙ p.filter_is ∙ sym filter;
      caps_are = ap (λ (s : Fed). caps_in_force (items s.given)) same ∙ caps_fed (filtered first calls).given x ∙ ap (λ caps. caps_behind caps x) p.caps_are ∙ sym current;
    }

pub filtered_behind : (element : CapsFilter) (x : Item) → is_flush_stop x ≡ false → element.ended ≡ true
    → (first : Caps) (calls : List Call) (put : List Item) → IsFilteredBy first element calls put → IsFilteredBy first element (calls ++ Feed x ∷ []) (put ++ [])
filtered_behind element x plain ended first calls put p =
    let same = fed_behind (filters first) calls x (p.over ∙ ended) plain in
    record {
      owed = append-nil put ∙ p.owed ∙ sym (ap (λ (s : Fed). s.out) same);
      all = ap (λ ys. ys ++ []) p.all ∙ sym (counted_behind calls x (p.eos ∙ ended) plain);
      over = ap (λ (s : Fed). s.over) same ∙ p.over;
      eos = eos_stays calls x plain (p.eos ∙ ended) ∙ sym ended;
      filter_is = ap (λ (s : Fed). filter_in first s.given) same ∙ p.filter_is;
      caps_are = ap (λ (s : Fed). caps_in_force (items s.given)) same ∙ p.caps_are;
    }

pub filtered_flush : (old new : CapsFilter) → new.filter ≡ old.filter → new.current ≡ old.current → new.ended ≡ false
    → (first : Caps) (calls : List Call) (put : List Item) (number : ℕ) → IsFilteredBy first old calls put
    → IsFilteredBy first new (calls ++ Feed (Ev (FlushStop number)) ∷ []) (put ++ Ev (FlushStop number) ∷ [])
filtered_flush old new filter current begun first calls put number p =
    let same = fed_flush (filters first) calls number in let x = Ev (FlushStop number) in
    record {
      owed = ap (λ ys. ys ++ x ∷ []) p.owed ∙ sym (ap (λ (s : Fed). s.out) same);
      all = ap (λ ys. ys ++ Ev (FlushStop number) ∷ []) p.all ∙ sym (counted_flush calls number);
      over = ap (λ (s : Fed). s.over) same ∙ sym begun;
      eos = eos_flushed calls number ∙ sym begun;
      filter_is = ap (λ (s : Fed). filter_in first s.given) same ∙ filter_fed first (filtered first calls).given x ∙ p.filter_is ∙ sym filter;
      caps_are = ap (λ (s : Fed). caps_in_force (items s.given)) same ∙ caps_fed (filtered first calls).given x ∙ p.caps_are ∙ sym current;
    }

pub filtered_drain : (element : CapsFilter) (first : Caps) (calls : List Call) (put : List Item) → IsFilteredBy first element calls put → IsFilteredBy first element (calls ++ Act Drain ∷ []) put
filtered_drain element first calls put p = go (filtered first calls).over refl
  where
    go : (b : Bool) → (filtered first calls).over ≡ b → IsFilteredBy first element (calls ++ Act Drain ∷ []) put
    go true over =
        let same = drained_behind (filters first) calls over in
        record {
          owed = p.owed ∙ sym (ap (λ (s : Fed). s.out) same);
          all = p.all ∙ sym (counted_act calls Drain);
          over = ap (λ (s : Fed). s.over) same ∙ p.over;
          eos = eos_act calls Drain ∙ p.eos;
          filter_is = ap (λ (s : Fed). filter_in first s.given) same ∙ p.filter_is;
          caps_are = ap (λ (s : Fed). caps_in_force (items s.given)) same ∙ p.caps_are;
        }
    go false begun =
        let same = drained_begun (filters first) calls (Ev Eos ∷ []) begun refl in
        record {
          owed = p.owed ∙ sym (append-nil (filtered first calls).out) ∙ sym (ap (λ (s : Fed). s.out) same);
          all = p.all ∙ sym (counted_act calls Drain);
          over = ap (λ (s : Fed). s.over) same ∙ p.over;
          eos = eos_act calls Drain ∙ p.eos;
          filter_is = ap (λ (s : Fed). filter_in first s.given) same ∙ filter_drained first (filtered first calls).given ∙ p.filter_is;
          caps_are = ap (λ (s : Fed). caps_in_force (items s.given)) same ∙ ap caps_in_force (items_act (filtered first calls).given Drain) ∙ p.caps_are;
        }

pub filtered_set : (old new : CapsFilter) (caps : Caps) → new.filter ≡ caps → new.current ≡ old.current → new.ended ≡ old.ended
    → (first : Caps) (calls : List Call) (put : List Item) → IsFilteredBy first old calls put → IsFilteredBy first new (calls ++ Act (Set (Filter caps)) ∷ []) put
filtered_set old new caps filter current ended first calls put p =
    let same = set_push (filters first) calls (Filter caps) in
    record {
      owed = p.owed ∙ sym (ap (λ (s : Fed). s.out) same);
      all = p.all ∙ sym (counted_act calls (Set (Filter caps)));
      over = ap (λ (s : Fed). s.over) same ∙ p.over ∙ sym ended;
      eos = eos_act calls (Set (Filter caps)) ∙ p.eos ∙ sym ended;
      filter_is = ap (λ (s : Fed). filter_in first s.given) same ∙ filter_set first (filtered first calls).given caps ∙ sym filter;
      caps_are = ap (λ (s : Fed). caps_in_force (items s.given)) same ∙ ap caps_in_force (items_act (filtered first calls).given (Set (Filter caps))) ∙ p.caps_are ∙ sym current;
    }
