-- A valve with one more call.
use Rattle.std.proofs.Common.{◌≡◌, ℕ, Bool, true, false, ◌||◌, if◌then◌else◌, List, [], ◌∷◌, ◌++◌, filter, map, refl, sym, ap, ◌∙◌, append-nil, Result, Ok, Err, OnOk}
use Rattle.std.specs.List.{list_any}
use Rattle.gst_value.proofs.Basics.{or_false}
use Rattle.gst_item.specs.declared.out.Out.{Out}
use Rattle.gst_item.proofs.Kept.{buffer_passes, gap_passes}
use Rattle.flow_model.specs.Item.{Item, Buffer, Buf, Event, Ev, Gap, FlushStop, Eos, is_flush_stop, is_eos}
use Rattle.flow_model.specs.Sticky.{InForce, in_force, stickies}
use Rattle.flow_model.specs.Call.{Call, Feed, Act, Drain, Set, Drops, items}
use Rattle.flow_model.specs.Section.{section}
use Rattle.flow_model.specs.Rule.{Fed, not_eos, unfed, responded, flushed, drained, called, all_called, owed_for, only, passes, single}
use Rattle.flow_model.specs.Feeding.{on_pad}
use Rattle.flow_model.proofs.Calls.{items_push, items_act, fed_taken, fed_behind, fed_flush, drained_begun, drained_behind, set_push, eos_taken, eos_stays, eos_flushed, eos_act}
use Rattle.flow_model.proofs.Items.{on_append}
use Rattle.el_basic.specs.declared.valve.Valve.{Valve}
use Rattle.el_basic.specs.Spread.{is_gap}
use Rattle.el_basic.specs.Valves.{drops_behind, sets_drop, drops_in, is_item, to_last_item, since_last_item, dropped_lately, again, GoOut, sent_again, goes_out, valves}
use Rattle.el_basic.proofs.Again.{filter_push, again_kept}
use Rattle.el_basic.specs.Valved.{valving, Valved, Puts}

-- whether it drops
drops_push : (first : Bool) (calls : List Call) (call : Call) → drops_in first (calls ++ call ∷ []) ≡ drops_behind (drops_in first calls) call
drops_push first [] call = refl
drops_push first (c ∷ calls) call = drops_push (drops_behind first c) calls call

-- with an item, or with another call
any_push : (p : Call → Bool) (calls : List Call) (call : Call) → list_any p (calls ++ call ∷ []) ≡ (list_any p calls || p call)
any_push p [] call = or_false (p call)
any_push p (c ∷ calls) call = ap (λ b. p c || b) (any_push p calls call) ∙ go (p c) (list_any p calls) (p call)
  where
    go : (a b d : Bool) → (a || (b || d)) ≡ ((a || b) || d)
    go true b d = refl
    go false b d = refl

any_item : (calls : List Call) (call : Call) → is_item call ≡ true → list_any is_item (calls ++ call ∷ []) ≡ true
any_item calls call item = any_push is_item calls call ∙ ap (λ b. list_any is_item calls || b) item ∙ go (list_any is_item calls)
  where
    go : (b : Bool) → (b || true) ≡ true
    go true = refl
    go false = refl

any_other : (calls : List Call) (call : Call) → is_item call ≡ false → list_any is_item (calls ++ call ∷ []) ≡ list_any is_item calls
any_other calls call other = any_push is_item calls call ∙ ap (λ b. list_any is_item calls || b) other ∙ or_false (list_any is_item calls)

to_item : (calls : List Call) (call : Call) → is_item call ≡ true → to_last_item (calls ++ call ∷ []) ≡ calls ++ call ∷ []
to_item [] call item = rw item refl
to_item (c ∷ calls) call item = rw (any_item (c ∷ calls) call item) (ap (λ cs. c ∷ cs) (to_item calls call item))

since_item : (calls : List Call) (call : Call) → is_item call ≡ true → since_last_item (calls ++ call ∷ []) ≡ []
since_item [] call item = rw item refl
since_item (c ∷ calls) call item = rw (any_item (c ∷ calls) call item) (since_item calls call item)

to_other : (calls : List Call) (call : Call) → is_item call ≡ false → to_last_item (calls ++ call ∷ []) ≡ to_last_item calls
to_other [] call other = rw other refl
to_other (c ∷ calls) call other = rw (any_other (c ∷ calls) call other, to_other calls call other) refl

since_other : (calls : List Call) (call : Call) → is_item call ≡ false → since_last_item (calls ++ call ∷ []) ≡ since_last_item calls ++ call ∷ []
since_other [] call other = rw other refl
since_other (c ∷ calls) call other = rw (any_other (c ∷ calls) call other, since_other calls call other) (go (list_any is_item (c ∷ calls)))
  where
    go : (b : Bool) → (if b then since_last_item calls ++ call ∷ [] else c ∷ (calls ++ call ∷ [])) ≡ (if b then since_last_item calls else c ∷ calls) ++ call ∷ []
    go true = refl
    go false = refl

-- whether it dropped lately
lately_item : (first : Bool) (calls : List Call) (call : Call) → is_item call ≡ true → drops_behind (drops_in first calls) call ≡ drops_in first calls
    → dropped_lately first (calls ++ call ∷ []) ≡ drops_in first calls
lately_item first calls call item same =
    ap (λ cs. drops_in first (to_last_item (calls ++ call ∷ [])) || list_any (drops_behind false) cs) (since_item calls call item)
    ∙ or_false (drops_in first (to_last_item (calls ++ call ∷ [])))
    ∙ ap (drops_in first) (to_item calls call item) ∙ drops_push first calls call ∙ same

lately_other : (first : Bool) (calls : List Call) (call : Call) → is_item call ≡ false
    → dropped_lately first (calls ++ call ∷ []) ≡ (dropped_lately first calls || drops_behind false call)
lately_other first calls call other =
    ap (λ cs. drops_in first cs || list_any (drops_behind false) (since_last_item (calls ++ call ∷ []))) (to_other calls call other)
    ∙ ap (λ cs. drops_in first (to_last_item calls) || list_any (drops_behind false) cs) (since_other calls call other)
    ∙ ap (λ b. drops_in first (to_last_item calls) || b) (any_push (drops_behind false) (since_last_item calls) call)
    ∙ go (drops_in first (to_last_item calls)) (list_any (drops_behind false) (since_last_item calls)) (drops_behind false call)
  where
    go : (a b d : Bool) → (a || (b || d)) ≡ ((a || b) || d)
    go true b d = refl
    go false b d = refl

pub valved_new : (valve : Valve) (drop : Bool) → valve.drops ≡ drop → valve.lately ≡ drop → valve.sticky ≡ in_force [] → valve.ended ≡ false → Valved drop valve [] []
valved_new valve drop drops lately sticky begun =
    record { owed = refl; over = sym begun; eos = sym begun; drops_is = sym drops; lately_is = or_false drop ∙ sym lately; sticky_is = sticky }

-- an item where the section is not over
pub valve_takes : (old new : Valve) (x : Item) (out out' : List Out) → is_flush_stop x ≡ false → old.ended ≡ false
    → GoOut 0 old.sticky (λ h. goes_out old.drops old.lately (stickies h) x) out out'
    → ((h : List Item) → old.sticky ≡ in_force h → new.sticky ≡ in_force (h ++ filter not_eos (x ∷ [])))
    → new.drops ≡ old.drops → new.lately ≡ old.drops → new.ended ≡ is_eos x → Puts old new (Feed x) out out'
valve_takes old new x out out' plain begun gone sticky drops lately ended =
    record {
      more = gone.more;
      outs = gone.outs;
      owed = λ first calls put p. rw (p.over ∙ begun) (answer first calls put p);
      stands = λ first calls put p.
          let s = valving first calls in
          let same = fed_taken (valves first) calls x gone.more (p.over ∙ begun) plain (answer first calls put p) in
          record {
            owed = ap (λ ys. ys ++ gone.more) p.owed ∙ sym (ap (λ (t : Fed). t.out) same);
            over = ap (λ (t : Fed). t.over) same ∙ sym ended;
            eos = eos_taken calls x plain (p.eos ∙ begun) ∙ sym ended;
            drops_is = ap (λ (t : Fed). drops_in first t.given) same ∙ drops_push first s.given (Feed x) ∙ p.drops_is ∙ sym drops;
            lately_is = ap (λ (t : Fed). dropped_lately first t.given) same ∙ lately_item first s.given (Feed x) (rw plain refl) refl ∙ p.drops_is ∙ sym lately;
            sticky_is = sticky (filter not_eos (items s.given)) p.sticky_is
                ∙ ap in_force (sym (filter_push (items s.given) x) ∙ ap (filter not_eos) (sym (items_push s.given x)))
                ∙ sym (ap (λ (t : Fed). in_force (filter not_eos (items t.given))) same);
          };
    }
  where
    answer : (first : Bool) (calls : List Call) (put : List Item) → Valved first old calls put → valves first (valving first calls) x ≡ Ok gone.more
    answer first calls put p = rw (p.drops_is, p.lately_is) (ap (λ ys. Ok ys) (sym (gone.are (filter not_eos (items (valving first calls).given)) p.sticky_is)))

-- and one behind EOS
pub valve_behind : (valve : Valve) (x : Item) (out : List Out) → is_flush_stop x ≡ false → valve.ended ≡ true → Puts valve valve (Feed x) out out
valve_behind valve x out plain ended =
    record {
      more = [];
      outs = sym (append-nil out);
      owed = λ first calls put p. rw (p.over ∙ ended) refl;
      stands = λ first calls put p.
          let same = fed_behind (valves first) calls x (p.over ∙ ended) plain in
          record {
            owed = append-nil put ∙ p.owed ∙ sym (ap (λ (t : Fed). t.out) same);
            over = ap (λ (t : Fed). t.over) same ∙ p.over;
            eos = eos_stays calls x plain (p.eos ∙ ended) ∙ sym ended;
            drops_is = ap (λ (t : Fed). drops_in first t.given) same ∙ p.drops_is;
            lately_is = ap (λ (t : Fed). dropped_lately first t.given) same ∙ p.lately_is;
            sticky_is = p.sticky_is ∙ sym (ap (λ (t : Fed). in_force (filter not_eos (items t.given))) same);
          };
    }

pub valve_flushed : (old new : Valve) → new.drops ≡ old.drops → new.lately ≡ old.lately → new.ended ≡ false
    → ((h : List Item) (number : ℕ) → old.sticky ≡ in_force h → new.sticky ≡ in_force (h ++ Ev (FlushStop number) ∷ []))
    → (first : Bool) (calls : List Call) (put : List Item) (number : ℕ) → Valved first old calls put
    → Valved first new (calls ++ Feed (Ev (FlushStop number)) ∷ []) (put ++ Ev (FlushStop number) ∷ [])
valve_flushed old new drops lately begun sticky first calls put number p =
    let s = valving first calls in let x = Ev (FlushStop number) in
    let same = fed_flush (valves first) calls number in
    record {
      owed = ap (λ ys. ys ++ x ∷ []) p.owed ∙ sym (ap (λ (t : Fed). t.out) same);
      over = ap (λ (t : Fed). t.over) same ∙ sym begun;
      eos = eos_flushed calls number ∙ sym begun;
      drops_is = ap (λ (t : Fed). drops_in first t.given) same ∙ drops_push first s.given (Feed x) ∙ p.drops_is ∙ sym drops;
      lately_is = ap (λ (t : Fed). dropped_lately first t.given) same ∙ lately_other first s.given (Feed x) refl ∙ or_false (dropped_lately first s.given) ∙ p.lately_is ∙ sym lately;
      sticky_is = sticky (filter not_eos (items s.given)) number p.sticky_is
          ∙ ap in_force (sym (filter_push (items s.given) x) ∙ ap (filter not_eos) (sym (items_push s.given x)))
          ∙ sym (ap (λ (t : Fed). in_force (filter not_eos (items t.given))) same);
    }

pub valve_set : (old new : Valve) (drop : Bool) → new.drops ≡ drop → new.lately ≡ (old.lately || drop) → new.sticky ≡ old.sticky → new.ended ≡ old.ended
    → (first : Bool) (calls : List Call) (put : List Item) → Valved first old calls put → Valved first new (calls ++ Act (Set (Drops drop)) ∷ []) put
valve_set old new drop drops lately sticky ended first calls put p =
    let s = valving first calls in let mark = Set (Drops drop) in
    let same = set_push (valves first) calls (Drops drop) in
    record {
      owed = p.owed ∙ sym (ap (λ (t : Fed). t.out) same);
      over = ap (λ (t : Fed). t.over) same ∙ p.over ∙ sym ended;
      eos = eos_act calls mark ∙ p.eos ∙ sym ended;
      drops_is = ap (λ (t : Fed). drops_in first t.given) same ∙ drops_push first s.given (Act mark) ∙ sym drops;
      lately_is = ap (λ (t : Fed). dropped_lately first t.given) same ∙ lately_other first s.given (Act mark) refl ∙ ap (λ b. b || drop) p.lately_is ∙ sym lately;
      sticky_is = sticky ∙ p.sticky_is ∙ sym (ap (λ xs. in_force (filter not_eos xs)) (items_act s.given mark)) ∙ sym (ap (λ (t : Fed). in_force (filter not_eos (items t.given))) same);
    }

-- a drain of a section that is over, and of one that is not
pub valve_drained_over : (valve : Valve) (out : List Out) → valve.ended ≡ true → Puts valve valve (Act Drain) out out
valve_drained_over valve out ended =
    record {
      more = [];
      outs = sym (append-nil out);
      owed = λ first calls put p. rw (p.over ∙ ended) refl;
      stands = λ first calls put p.
          let same = drained_behind (valves first) calls (p.over ∙ ended) in
          record {
            owed = append-nil put ∙ p.owed ∙ sym (ap (λ (t : Fed). t.out) same);
            over = ap (λ (t : Fed). t.over) same ∙ p.over;
            eos = eos_act calls Drain ∙ p.eos;
            drops_is = ap (λ (t : Fed). drops_in first t.given) same ∙ p.drops_is;
            lately_is = ap (λ (t : Fed). dropped_lately first t.given) same ∙ p.lately_is;
            sticky_is = p.sticky_is ∙ sym (ap (λ (t : Fed). in_force (filter not_eos (items t.given))) same);
          };
    }

-- what a drain puts out
drain_owes : (drops lately : Bool) (h : List Item) → filter not_eos (goes_out drops lately (again h) (Ev Eos)) ≡ sent_again drops lately (again h)
drain_owes true true h = refl
drain_owes true false h = refl
drain_owes false true h = filter_push (again h) (Ev Eos) ∙ append-nil (filter not_eos (again h)) ∙ again_kept h
drain_owes false false h = refl

pub valve_drains : (old new : Valve) (out out' : List Out) → old.ended ≡ false → GoOut 0 old.sticky (λ h. sent_again old.drops old.lately (stickies h)) out out'
    → new.drops ≡ old.drops → new.lately ≡ old.drops → new.sticky ≡ old.sticky → new.ended ≡ old.ended → Puts old new (Act Drain) out out'
valve_drains old new out out' begun gone drops lately sticky ended =
    record {
      more = gone.more;
      outs = gone.outs;
      owed = λ first calls put p. rw (p.over ∙ begun) (ap (λ ys. Ok ys) (owes first calls put p));
      stands = λ first calls put p.
          let s = valving first calls in
          let same = drained_begun (valves first) calls _ (p.over ∙ begun) refl in
          record {
            owed = ap (λ ys. ys ++ gone.more) p.owed ∙ ap (λ ys. s.out ++ ys) (sym (owes first calls put p)) ∙ sym (ap (λ (t : Fed). t.out) same);
            over = ap (λ (t : Fed). t.over) same ∙ p.over ∙ sym ended;
            eos = eos_act calls Drain ∙ p.eos ∙ sym ended;
            drops_is = ap (λ (t : Fed). drops_in first t.given) same ∙ drops_push first s.given (Act Drain) ∙ p.drops_is ∙ sym drops;
            lately_is = ap (λ (t : Fed). dropped_lately first t.given) same ∙ lately_item first s.given (Act Drain) refl refl ∙ p.drops_is ∙ sym lately;
            sticky_is = sticky ∙ p.sticky_is ∙ sym (ap (λ xs. in_force (filter not_eos xs)) (items_act s.given Drain))
                ∙ sym (ap (λ (t : Fed). in_force (filter not_eos (items t.given))) same);
          };
    }
  where
    owes : (first : Bool) (calls : List Call) (put : List Item) → Valved first old calls put
        → filter not_eos (goes_out (drops_in first (valving first calls).given) (dropped_lately first (valving first calls).given) (again (items (valving first calls).given)) (Ev Eos)) ≡ gone.more
    owes first calls put p =
        let h = items (valving first calls).given in
        rw (p.drops_is, p.lately_is) (drain_owes old.drops old.lately h ∙ sym (gone.are (filter not_eos h) p.sticky_is))

-- what goes out behind the events in force
pub gone_behind : {T E : Type 0} (r : Result T E) (sticky : InForce) (x : Item) (events : List Event) (out out' queue : List Out)
    → ((h : List Item) → sticky ≡ in_force h → map Ev events ≡ stickies h) → queue ≡ on_pad 0 (map Ev events) ++ on_pad 0 (x ∷ []) → OnOk r (out' ≡ out ++ queue)
    → OnOk r (GoOut 0 sticky (λ h. stickies h ++ x ∷ []) out out')
gone_behind (Ok done) sticky x events out out' queue are queued poured =
    record {
      more = map Ev events ++ x ∷ [];
      outs = poured ∙ ap (λ os. out ++ os) (queued ∙ sym (on_append (map Ev events) (x ∷ [])));
      are = λ h e. ap (λ ys. ys ++ x ∷ []) (are h e);
    }
gone_behind (Err fault) sticky x events out out' queue are queued poured = tt

-- a buffer and a GAP leave the sticky events as they are
pub buffer_remembered : {T E : Type 0} (r : Result T E) (old new : Valve) (x : Item) (b : Buffer) → x ≡ Buf b → OnOk r (new ≡ record old { lately = old.drops })
    → OnOk r ((h : List Item) → old.sticky ≡ in_force h → new.sticky ≡ in_force (h ++ filter not_eos (x ∷ [])))
buffer_remembered (Ok done) old new x b is same = λ h e. rw is (ap (λ (v : Valve). v.sticky) same ∙ e ∙ sym (buffer_passes h b))
buffer_remembered (Err fault) old new x b is same = tt

pub gap_remembered : {T E : Type 0} (r : Result T E) (old new : Valve) (event : Event) → is_gap event ≡ true → OnOk r (new ≡ record old { lately = old.drops })
    → OnOk r ((h : List Item) → old.sticky ≡ in_force h → new.sticky ≡ in_force (h ++ filter not_eos (Ev event ∷ [])))
gap_remembered (Ok done) old new (Gap pts duration) is same = λ h e. ap (λ (v : Valve). v.sticky) same ∙ e ∙ sym (gap_passes h pts duration)
gap_remembered (Ok done) old new _ is same = absurd (cc)
gap_remembered (Err fault) old new event is same = tt

-- a valve that is open, and stays so
abbrev IsOpen : List Call → Type 0
IsOpen given = (drops_in false given ≡ false) × (dropped_lately false given ≡ false)

as_before : (drops : Bool) (call : Call) → sets_drop call ≡ false → drops_behind drops call ≡ drops
as_before drops (Act (Set (Drops set))) e = absurd (cc)
as_before drops _ e = refl

open_push : (given : List Call) (call : Call) → sets_drop call ≡ false → IsOpen given → IsOpen (given ++ call ∷ [])
open_push given call none o = (drops_push false given call ∙ as_before _ call none ∙ o.0, go (is_item call) refl)
  where
    go : (item : Bool) → is_item call ≡ item → dropped_lately false (given ++ call ∷ []) ≡ false
    go true item = lately_item false given call item (as_before _ call none) ∙ o.0
    go false other = lately_other false given call other ∙ ap (λ b. b || drops_behind false call) o.1 ∙ as_before false call none

open_answer : (s : Fed) (x : Item) → IsOpen s.given → valves false s x ≡ passes s x
open_answer s x o = rw (o.0, o.1) refl

open_called : (s : Fed) (call : Call) → IsOpen s.given → called (valves false) s call ≡ called passes s call
open_called s (Feed x) o = ap (λ r. if is_flush_stop x then flushed s x else (if s.over then s else responded s x r)) (open_answer s x o)
open_called s (Act Drain) o = ap (λ r. if s.over then s else drained s r) (open_answer s (Ev Eos) o)
open_called s (Act (Set setting)) o = refl

open_stays : (s : Fed) (call : Call) → sets_drop call ≡ false → IsOpen s.given → IsOpen (called passes s call).given
open_stays s (Feed x) none o = go (is_flush_stop x) s.over
  where
    go : (f over : Bool) → IsOpen (if f then flushed s x else (if over then s else responded s x (Ok (x ∷ [])))).given
    go true over = open_push s.given (Feed x) none o
    go false true = o
    go false false = open_push s.given (Feed x) none o
open_stays s (Act Drain) none o = go s.over
  where
    go : (over : Bool) → IsOpen (if over then s else drained s (Ok (Ev Eos ∷ []))).given
    go true = o
    go false = open_push s.given (Act Drain) none o
open_stays s (Act (Set setting)) none o = open_push s.given (Act (Set setting)) none o

open_all : (s : Fed) (calls : List Call) → list_any sets_drop calls ≡ false → IsOpen s.given → all_called (valves false) s calls ≡ all_called passes s calls
open_all s [] none o = refl
open_all s (call ∷ calls) none o = go (sets_drop call) refl none (open_all (called passes s call) calls)
  where
    go : (b : Bool) → sets_drop call ≡ b → (b || list_any sets_drop calls) ≡ false
        → (list_any sets_drop calls ≡ false → IsOpen (called passes s call).given → all_called (valves false) (called passes s call) calls ≡ all_called passes (called passes s call) calls)
        → all_called (valves false) s (call ∷ calls) ≡ all_called passes s (call ∷ calls)
    go true is none rest = absurd (cc)
    go false is none rest = ap (λ (t : Fed). all_called (valves false) t calls) (open_called s call o) ∙ rest none (open_stays s call is o)

pub open_list : (calls : List Call) → list_any sets_drop calls ≡ false → owed_for (valves false) calls ≡ owed_for passes calls
open_list calls none = ap (λ (s : Fed). s.out) (open_all unfed calls none (refl, refl))

pub open_section : (inputs : List (List Call)) (port j : ℕ) → list_any sets_drop (only inputs) ≡ false → single (valves false) inputs port j ≡ single passes inputs port j
open_section inputs port j none = ap (section j) (open_list (only inputs) none)
