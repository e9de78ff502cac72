-- The pads in their order, with one item more at one of them.
use Rattle.std.proofs.Common.{◌≡◌, ◌<◌, ℕ, zero, suc, Bool, true, false, if◌then◌else◌, Some, None, List, [], ◌∷◌, ◌++◌, map, length, drop, refl, sym, ap, ◌∙◌, append-nil, append_assoc, Result, Ok, Err, arith}
use Rattle.gst_item.specs.declared.out.Out.{Out}
use Rattle.flow_model.specs.Item.{Item}
use Rattle.flow_model.specs.Call.{Call}
use Rattle.flow_model.specs.Feeding.{on_pad}
use Rattle.flow_model.specs.Rule.{Fault}
use Rattle.flow_model.specs.SinkPads.{flush_stops_given, push_calls, InSection, calls_at}
use Rattle.el_join.specs.declared.sums.Sums.{Sums}
use Rattle.el_join.specs.declared.pad.Facts.{Facts}
use Rattle.el_join.specs.declared.tally.Tally.{Tally}
use Rattle.el_join.specs.Outs.{items_of, fault_in}
use Rattle.el_join.specs.Totals.{with_tally, raised, lifted, ok_or}
use Rattle.el_join.specs.Sections.{reopened_of, all_reopened}
use Rattle.el_join.specs.Concats.{before_eos, has_end, behind, joined_from, in_front, all_or_fault}
use Rattle.el_join.specs.Going.{later, going}
use Rattle.el_join.specs.Passing.{Swaps, here, there, Coming}
use Rattle.el_join.specs.Joins.{Knows, KnowEach, Counts, CountEach, Wait, InTurn}
use Rattle.el_join.proofs.Free.{items_on_pad}
use Rattle.el_join.proofs.Noting.{Longer}
use Rattle.flow_model.proofs.Items.{on_append}

pub swaps_map : {A B : Type 0} (g : A → B) {k : ℕ} {a b : A} {xs ys : List A} → Swaps k a b xs ys → Swaps k (g a) (g b) (map g xs) (map g ys)
swaps_map g here = here
swaps_map g (there s) = there (swaps_map g s)

pub map_append : {A B : Type 0} (g : A → B) (xs ys : List A) → map g (xs ++ ys) ≡ map g xs ++ map g ys
map_append g [] ys = refl
map_append g (x ∷ xs) ys = ap (λ zs. g x ∷ zs) (map_append g xs ys)

-- behind a pad without EOS nothing comes, and behind one with EOS the next
closed : {A : Type 0} (b : Bool) (rs qs : List A) → b ≡ false → rs ++ (if b then qs else []) ≡ rs
closed true rs qs e = absurd (cc)
closed false rs qs e = append-nil rs

opened : {A : Type 0} (b : Bool) (rs qs : List A) → b ≡ true → rs ++ (if b then qs else []) ≡ rs ++ qs
opened true rs qs e = refl
opened false rs qs e = absurd (cc)

-- what is known of one pad
pub record AtPad (n : ℕ) (f : Facts) (cs : List Call) : Type 0 where
  pub knows : Knows f cs
  pub counts : Counts f (reopened_of n cs)
  pub level : flush_stops_given cs ≡ n

pub at_pad : (n : ℕ) {k : ℕ} {f g : Facts} {fs gs : List Facts} (took : List (List Call)) → Swaps k f g fs gs → KnowEach fs took → CountEach fs (all_reopened n took) → InSection n took
    → AtPad n f (calls_at k took)
at_pad n [] here ks cs ls = absurd ks
at_pad n (c ∷ took) here ks cs ls = record { knows = ks.0; counts = cs.0; level = ls.0 }
at_pad n [] (there s) ks cs ls = absurd ks
at_pad n (c ∷ took) (there s) ks cs ls = at_pad n took s ks.1 cs.1 ls.1

-- the pads' lists with an item more at one
pub lists_swap : (n : ℕ) {k : ℕ} {f g : Facts} {fs gs : List Facts} (took : List (List Call)) (c : Call) → Swaps k f g fs gs → KnowEach fs took
    → Swaps k (reopened_of n (calls_at k took)) (reopened_of n (calls_at k took ++ c ∷ [])) (all_reopened n took) (all_reopened n (push_calls k (c ∷ []) took))
lists_swap n [] c here ks = absurd ks
lists_swap n (cs ∷ took) c here ks = here
lists_swap n [] c (there s) ks = absurd ks
lists_swap n (cs ∷ took) c (there s) ks = there (lists_swap n took c s ks.1)

pub know_swapped : {k : ℕ} {f g : Facts} {fs gs : List Facts} (took : List (List Call)) (c : Call) → Swaps k f g fs gs → Knows g (calls_at k took ++ c ∷ []) → KnowEach fs took
    → KnowEach gs (push_calls k (c ∷ []) took)
know_swapped [] c here h ks = absurd ks
know_swapped (cs ∷ took) c here h ks = (h, ks.1)
know_swapped [] c (there s) h ks = absurd ks
know_swapped (cs ∷ took) c (there s) h ks = (ks.0, know_swapped took c s h ks.1)

pub know_at : {k : ℕ} {f g : Facts} {fs gs : List Facts} (took : List (List Call)) → Swaps k f g fs gs → KnowEach fs took → Knows f (calls_at k took)
know_at [] here ks = absurd ks
know_at (c ∷ took) here ks = ks.0
know_at [] (there s) ks = absurd ks
know_at (c ∷ took) (there s) ks = know_at took s ks.1

pub level_pushed : (n k : ℕ) (took : List (List Call)) (c : Call) → flush_stops_given (calls_at k took ++ c ∷ []) ≡ flush_stops_given (calls_at k took) → InSection n took → InSection n (push_calls k (c ∷ []) took)
level_pushed n zero [] c h ls = tt
level_pushed n (suc k) [] c h ls = tt
level_pushed n zero (cs ∷ took) c h ls = (h ∙ ls.0, ls.1)
level_pushed n (suc k) (cs ∷ took) c h ls = (ls.0, level_pushed n k took c h ls.1)

pub count_swapped : {k : ℕ} {f g : Facts} {fs gs : List Facts} {xs ys : List Item} {xss yss : List (List Item)} → Swaps k f g fs gs → Swaps k xs ys xss yss → Counts g ys → CountEach fs xss → CountEach gs yss
count_swapped here here h cs = (h, cs.1)
count_swapped (there s) (there r) h cs = (cs.0, count_swapped s r h cs.1)

-- what goes out fits where there is no fault
pub fits_all : (sums : Sums) (xs : List Item) (rs : List (Result Item Fault)) (ys : List Item) → fault_in (map (raised sums) xs ++ rs) ≡ None → (fault_in rs ≡ None → all_or_fault rs ≡ Ok ys)
    → all_or_fault (map (raised sums) xs ++ rs) ≡ Ok (map (lifted sums) xs ++ ys)
fits_all sums [] rs ys e h = h e
fits_all sums (x ∷ xs) rs ys e h = go (raised sums x) e (λ f. fits_all sums xs rs ys f h)
  where
    go : (r : Result Item Fault) → fault_in (r ∷ (map (raised sums) xs ++ rs)) ≡ None
        → (fault_in (map (raised sums) xs ++ rs) ≡ None → all_or_fault (map (raised sums) xs ++ rs) ≡ Ok (map (lifted sums) xs ++ ys))
        → all_or_fault (r ∷ (map (raised sums) xs ++ rs)) ≡ Ok (ok_or r x ∷ (map (lifted sums) xs ++ ys))
    go (Ok y) e rest = ap (in_front y) (rest e)
    go (Err fault) e rest = absurd (cc)

pub first_fault : (rs : List (Result Item Fault)) (fault : Fault) → fault_in rs ≡ Some fault → all_or_fault rs ≡ Err fault
first_fault [] fault e = absurd (cc)
first_fault (Ok x ∷ rs) fault e = ap (in_front x) (first_fault rs fault e)
first_fault (Err other ∷ rs) fault e = cc

pub all_fit : (sums : Sums) (fs : List Facts) (ws : List (List Out)) → fault_in (later sums fs ws) ≡ None → all_or_fault (later sums fs ws) ≡ Ok (going sums fs ws)
all_fit sums [] ws e = refl
all_fit sums (f ∷ fs) [] e = refl
all_fit sums (f ∷ fs) (w ∷ ws) e = fits_all sums (items_of w) (if f.ended then later (with_tally sums f.tally) fs ws else []) (if f.ended then going (with_tally sums f.tally) fs ws else []) e (go f.ended (all_fit (with_tally sums f.tally) fs ws))
  where
    go : (b : Bool) → (fault_in (later (with_tally sums f.tally) fs ws) ≡ None → all_or_fault (later (with_tally sums f.tally) fs ws) ≡ Ok (going (with_tally sums f.tally) fs ws))
        → fault_in (if b then later (with_tally sums f.tally) fs ws else []) ≡ None
        → all_or_fault (if b then later (with_tally sums f.tally) fs ws else []) ≡ Ok (if b then going (with_tally sums f.tally) fs ws else [])
    go true rest e = rest e
    go false rest e = refl

-- what waits at later pads is what they were given
pub later_is : (sums : Sums) (fs : List Facts) (ws : List (List Out)) (xss : List (List Item)) → CountEach fs xss → Wait ws xss → later sums fs ws ≡ joined_from sums xss
later_is sums [] [] [] cs ws = refl
later_is sums [] (w ∷ ws) [] cs h = absurd h
later_is sums (f ∷ fs) [] [] cs h = absurd cs
later_is sums (f ∷ fs) (w ∷ ws) [] cs h = absurd cs
later_is sums [] [] (xs ∷ xss) cs h = absurd cs
later_is sums [] (w ∷ ws) (xs ∷ xss) cs h = absurd cs
later_is sums (f ∷ fs) [] (xs ∷ xss) cs h = absurd h
later_is sums (f ∷ fs) (w ∷ ws) (xs ∷ xss) cs h = go cs.0 h.0 (later_is (behind sums xs) fs ws xss cs.1 h.1)
  where
    go : Counts f xs → w ≡ on_pad 0 (before_eos xs) → later (behind sums xs) fs ws ≡ joined_from (behind sums xs) xss
        → map (raised sums) (items_of w) ++ (if f.ended then later (with_tally sums f.tally) fs ws else []) ≡ map (raised sums) (before_eos xs) ++ (if has_end xs then joined_from (behind sums xs) xss else [])
    go c waits rest =
        ap (λ (ys : List Item). map (raised sums) ys ++ (if f.ended then later (with_tally sums f.tally) fs ws else [])) (ap items_of waits ∙ items_on_pad (before_eos xs))
        ∙ ap (λ (b : Bool). map (raised sums) (before_eos xs) ++ (if b then later (with_tally sums f.tally) fs ws else [])) c.ended
        ∙ ap (λ (t : Tally). map (raised sums) (before_eos xs) ++ (if has_end xs then later (with_tally sums t) fs ws else [])) c.tally
        ∙ ap (λ (rs : List (Result Item Fault)). map (raised sums) (before_eos xs) ++ (if has_end xs then rs else [])) rest

-- The pad in turn is given an item. What it brings goes out behind what went out.
pub turn_item : {k : ℕ} {xs ys : List Item} {xss yss : List (List Item)} (sums now : Sums) (ws : List (List Out)) (more : List Item) → Swaps k xs ys xss yss → Longer xs ys more false
    → InTurn k sums now ws xss → InTurn k sums now ws yss × (joined_from sums yss ≡ joined_from sums xss ++ map (raised now) more)
turn_item sums now [] more here l t = absurd t
turn_item sums now (w ∷ ws) more (here {a = xs} {b = ys} {xs = xss}) l t = (
  (t.0, l.over_is, t.2, t.3),
  closed (has_end ys) (map (raised sums) (before_eos ys)) (joined_from (behind sums ys) xss) l.over_is
      ∙ ap (map (raised sums)) l.before
      ∙ map_append (raised sums) (before_eos xs) more
      ∙ ap (λ (s : Sums). map (raised sums) (before_eos xs) ++ map (raised s) more) t.0
      ∙ ap (λ (rs : List (Result Item Fault)). rs ++ map (raised now) more) (sym (closed (has_end xs) (map (raised sums) (before_eos xs)) (joined_from (behind sums xs) xss) t.1)),
)
turn_item sums now [] more (there s) l t = absurd t
turn_item sums now (w ∷ ws) more (there {x = zs} {xs = xss} {ys = yss} s) l t =
    let r = turn_item (behind sums zs) now ws more s l t.2 in (
      (t.0, t.1, r.0),
      opened (has_end zs) (map (raised sums) (before_eos zs)) (joined_from (behind sums zs) yss) t.0
          ∙ ap (λ (rs : List (Result Item Fault)). map (raised sums) (before_eos zs) ++ rs) r.1
          ∙ sym (append_assoc (map (raised sums) (before_eos zs)) (joined_from (behind sums zs) xss) (map (raised now) more))
          ∙ ap (λ (rs : List (Result Item Fault)). rs ++ map (raised now) more) (sym (opened (has_end zs) (map (raised sums) (before_eos zs)) (joined_from (behind sums zs) xss) t.0)),
    )

-- It is given EOS. Behind what it brings goes out what waits at the next pads.
pub turn_end : {k : ℕ} {f g : Facts} {fs gs : List Facts} {xs ys : List Item} {xss yss : List (List Item)} (sums now : Sums) (ws : List (List Out)) (more : List Item)
    → Swaps k f g fs gs → Swaps k xs ys xss yss → Longer xs ys more true → Counts g ys → CountEach gs yss → InTurn k sums now ws xss
    → Coming (suc k) sums (with_tally now g.tally) ws yss
    × (joined_from sums yss ≡ joined_from sums xss ++ (map (raised now) more ++ later (with_tally now g.tally) (drop (suc k) gs) (drop (suc k) ws)))
turn_end sums now [] more here here l c cs t = absurd t
turn_end sums now (w ∷ ws) more (here {b = g} {xs = fs}) (here {a = xs} {b = ys} {xs = xss}) l c cs t =
    let reached : behind sums ys ≡ with_tally now g.tally = ap (λ (s : Sums). behind s ys) t.0 ∙ ap (with_tally now) (sym c.tally) in
    let rest : joined_from (behind sums ys) xss ≡ later (with_tally now g.tally) fs ws =
    ap (λ (s : Sums). joined_from s xss) reached ∙ sym (later_is (with_tally now g.tally) fs ws xss cs.1 t.3) in (
      (l.over_is, t.2, (reached, t.3)),
      opened (has_end ys) (map (raised sums) (before_eos ys)) (joined_from (behind sums ys) xss) l.over_is
          ∙ ap (λ (rs : List (Result Item Fault)). rs ++ joined_from (behind sums ys) xss) (ap (map (raised sums)) l.before ∙ map_append (raised sums) (before_eos xs) more)
          ∙ append_assoc (map (raised sums) (before_eos xs)) (map (raised sums) more) (joined_from (behind sums ys) xss)
          ∙ ap (λ (rs : List (Result Item Fault)). map (raised sums) (before_eos xs) ++ (map (raised sums) more ++ rs)) rest
          ∙ ap (λ (s : Sums). map (raised sums) (before_eos xs) ++ (map (raised s) more ++ later (with_tally now g.tally) fs ws)) t.0
          ∙ ap (λ (rs : List (Result Item Fault)). rs ++ (map (raised now) more ++ later (with_tally now g.tally) fs ws))
          (sym (closed (has_end xs) (map (raised sums) (before_eos xs)) (joined_from (behind sums xs) xss) t.1)),
    )
turn_end sums now [] more (there s) (there r) l c cs t = absurd t
turn_end {k = suc k} {g = g} sums now (w ∷ ws) more (there {xs = fs} {ys = gs} s) (there {x = zs} {xs = xss} {ys = yss} r) l c cs t =
    let q = turn_end (behind sums zs) now ws more s r l c cs.1 t.2 in
    let tail : List (Result Item Fault) = map (raised now) more ++ later (with_tally now g.tally) (drop (suc k) gs) (drop (suc k) ws) in (
      (t.0, t.1, q.0),
      opened (has_end zs) (map (raised sums) (before_eos zs)) (joined_from (behind sums zs) yss) t.0
          ∙ ap (λ (rs : List (Result Item Fault)). map (raised sums) (before_eos zs) ++ rs) q.1
          ∙ sym (append_assoc (map (raised sums) (before_eos zs)) (joined_from (behind sums zs) xss) tail)
          ∙ ap (λ (rs : List (Result Item Fault)). rs ++ tail) (sym (opened (has_end zs) (map (raised sums) (before_eos zs)) (joined_from (behind sums zs) xss) t.0)),
    )

wait_item : {k : ℕ} {w v : List Out} {ws vs : List (List Out)} {xs ys : List Item} {xss yss : List (List Item)} (more : List Item) (over : Bool) → Swaps k w v ws vs → Swaps k xs ys xss yss
    → Longer xs ys more over → v ≡ w ++ on_pad 0 more → Wait ws xss → Wait vs yss
wait_item more over here (here {a = xs}) l e h =
    (e ∙ ap (λ (os : List Out). os ++ on_pad 0 more) h.0 ∙ sym (on_append (before_eos xs) more) ∙ ap (on_pad 0) (sym l.before), h.1)
wait_item more over (there s) (there r) l e h = (h.0, wait_item more over s r l e h.1)

pub later_item : {k : ℕ} {w v : List Out} {ws vs : List (List Out)} {xs ys : List Item} {xss yss : List (List Item)} (turn : ℕ) (sums now : Sums) (more : List Item) (over : Bool)
    → Swaps k w v ws vs → Swaps k xs ys xss yss → Longer xs ys more over → v ≡ w ++ on_pad 0 more → turn < k → InTurn turn sums now ws xss
    → InTurn turn sums now vs yss × (joined_from sums yss ≡ joined_from sums xss)
later_item turn sums now more over here here l e h t = absurd (omega (arith, h))
later_item zero sums now more over (there s) (there {x = zs} {xs = xss} {ys = yss} r) l e h t = (
  (t.0, t.1, t.2, wait_item more over s r l e t.3),
  closed (has_end zs) (map (raised sums) (before_eos zs)) (joined_from (behind sums zs) yss) t.1
      ∙ sym (closed (has_end zs) (map (raised sums) (before_eos zs)) (joined_from (behind sums zs) xss) t.1),
)
later_item (suc turn) sums now more over (there s) (there {x = zs} r) l e h t =
    let q = later_item turn (behind sums zs) now more over s r l e (omega (arith, h)) t.2 in
    ((t.0, t.1, q.0), ap (λ (rs : List (Result Item Fault)). map (raised sums) (before_eos zs) ++ (if has_end zs then rs else [])) q.1)

-- The pads behind one that had EOS, one by one.
pub coming_next : {k : ℕ} {f : Facts} {fs gs : List Facts} {w : List Out} {ws vs : List (List Out)} (sums now : Sums) (xss : List (List Item)) → Swaps k f f fs gs → Swaps k w [] ws vs → f.ended ≡ true
    → CountEach fs xss → Coming k sums now ws xss → Coming (suc k) sums (with_tally now f.tally) vs xss
coming_next sums now [] here here e cs h = absurd cs
coming_next {f = f} sums now (xs ∷ xss) here here e cs h =
    let c : Counts f xs = cs.0 in
    (sym c.ended ∙ e, refl, (ap (λ (s : Sums). behind s xs) h.0 ∙ ap (with_tally now) (sym c.tally), h.1.1))
coming_next sums now [] (there s) (there r) e cs h = absurd cs
coming_next sums now (xs ∷ xss) (there s) (there r) e cs h = (h.0, h.1, coming_next (behind sums xs) now xss s r e cs.1 h.2)

pub coming_stops : {k : ℕ} {f : Facts} {fs gs : List Facts} {w : List Out} {ws vs : List (List Out)} (sums now : Sums) (xss : List (List Item)) → Swaps k f f fs gs → Swaps k w [] ws vs → f.ended ≡ false
    → CountEach fs xss → Coming k sums now ws xss → InTurn k sums now vs xss
coming_stops sums now [] here here e cs h = absurd cs
coming_stops {f = f} sums now (xs ∷ xss) here here e cs h =
    let c : Counts f xs = cs.0 in
    (h.0, sym c.ended ∙ e, refl, h.1.1)
coming_stops sums now [] (there s) (there r) e cs h = absurd cs
coming_stops sums now (xs ∷ xss) (there s) (there r) e cs h = (h.0, h.1, coming_stops (behind sums xs) now xss s r e cs.1 h.2)

pub coming_whole : (k : ℕ) (sums now : Sums) (ws : List (List Out)) (xss : List (List Item)) → length ws ≡ k → Coming k sums now ws xss → InTurn k sums now ws xss
coming_whole zero sums now [] [] e h = h.0
coming_whole zero sums now [] (xs ∷ xss) e h = absurd h.1
coming_whole zero sums now (w ∷ ws) xss e h = absurd (cc)
coming_whole (suc k) sums now [] xss e h = absurd h
coming_whole (suc k) sums now (w ∷ ws) [] e h = absurd h
coming_whole (suc k) sums now (w ∷ ws) (xs ∷ xss) e h = (h.0, h.1, coming_whole k (behind sums xs) now ws xss (cc) h.2)
