-- An identity with one more call.
use Rattle.std.proofs.Common.{◌≡◌, ℕ, Bool, true, false, List, [], ◌∷◌, ◌++◌, refl, sym, ap, ◌∙◌, append-nil}
use Rattle.flow_model.specs.Item.{Item, Ev, FlushStop, Eos, is_flush_stop, is_eos}
use Rattle.flow_model.specs.Call.{Call, Feed, Act, Drain}
use Rattle.flow_model.specs.Rule.{Fed, unfed, all_called, passes}
use Rattle.el_basic.specs.declared.identity.Identity.{Identity}
use Rattle.el_basic.specs.Passed.{Passed}
use Rattle.flow_model.proofs.Counted.{counted_taken, counted_behind, counted_flush, counted_act}
use Rattle.flow_model.proofs.Calls.{fed_taken, fed_behind, fed_flush, drained_begun, drained_behind, eos_taken, eos_stays, eos_flushed, eos_act}

pub passed_item : (old new : Identity) (x : Item) → is_flush_stop x ≡ false → old.ended ≡ false → new.ended ≡ is_eos x
    → (calls : List Call) (put : List Item) → Passed old calls put → Passed new (calls ++ Feed x ∷ []) (put ++ x ∷ [])
passed_item old new x plain begun ends calls put p =
    let same = fed_taken passes calls x (x ∷ []) (p.over ∙ begun) plain refl in
    record {
      owed = ap (λ ys. ys ++ x ∷ []) p.owed ∙ sym (ap (λ (s : Fed). s.out) same);
      all = ap (λ ys. ys ++ x ∷ []) p.all ∙ sym (counted_taken calls x (p.eos ∙ begun));
      over = ap (λ (s : Fed). s.over) same ∙ sym ends;
      eos = eos_taken calls x plain (p.eos ∙ begun) ∙ sym ends;
    }

pub passed_behind : (identity : Identity) (x : Item) → is_flush_stop x ≡ false → identity.ended ≡ true
    → (calls : List Call) (put : List Item) → Passed identity calls put → Passed identity (calls ++ Feed x ∷ []) (put ++ [])
passed_behind identity x plain ended calls put p =
    let same = fed_behind passes calls x (p.over ∙ ended) plain in
    record {
      owed = append-nil put ∙ p.owed ∙ sym (ap (λ (s : Fed). s.out) same);
      all = ap (λ ys. ys ++ []) p.all ∙ sym (counted_behind calls x (p.eos ∙ ended) plain);
      over = ap (λ (s : Fed). s.over) same ∙ p.over;
      eos = eos_stays calls x plain (p.eos ∙ ended) ∙ sym ended;
    }

pub passed_flush : (old new : Identity) → new.ended ≡ false
    → (calls : List Call) (put : List Item) (number : ℕ) → Passed old calls put
    → Passed new (calls ++ Feed (Ev (FlushStop number)) ∷ []) (put ++ Ev (FlushStop number) ∷ [])
passed_flush old new begun calls put number p =
    let same = fed_flush passes calls number in
    record {
      owed = ap (λ ys. ys ++ Ev (FlushStop number) ∷ []) p.owed ∙ sym (ap (λ (s : Fed). s.out) same);
      all = ap (λ ys. ys ++ Ev (FlushStop number) ∷ []) p.all ∙ sym (counted_flush calls number);
      over = ap (λ (s : Fed). s.over) same ∙ sym begun;
      eos = eos_flushed calls number ∙ sym begun;
    }

pub passed_drain : (identity : Identity) (calls : List Call) (put : List Item) → Passed identity calls put → Passed identity (calls ++ Act Drain ∷ []) put
passed_drain identity calls put p = go (all_called passes unfed calls).over refl
  where
    after : (all_called passes unfed (calls ++ Act Drain ∷ [])).out ≡ (all_called passes unfed calls).out
        → (all_called passes unfed (calls ++ Act Drain ∷ [])).over ≡ (all_called passes unfed calls).over → Passed identity (calls ++ Act Drain ∷ []) put
    after out over = record { owed = p.owed ∙ sym out; all = p.all ∙ sym (counted_act calls Drain); over = over ∙ p.over; eos = eos_act calls Drain ∙ p.eos }

    go : (b : Bool) → (all_called passes unfed calls).over ≡ b → Passed identity (calls ++ Act Drain ∷ []) put
    go true over =
        let same = drained_behind passes calls over in
        after (ap (λ (s : Fed). s.out) same) (ap (λ (s : Fed). s.over) same)
    go false begun =
        let same = drained_begun passes calls (Ev Eos ∷ []) begun refl in
        after (ap (λ (s : Fed). s.out) same ∙ append-nil (all_called passes unfed calls).out) (ap (λ (s : Fed). s.over) same)
