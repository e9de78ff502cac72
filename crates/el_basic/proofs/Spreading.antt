-- A tee with one more call.
use Rattle.std.proofs.Common.{◌≡◌, ◌≤◌, ◌+◌, ℕ, zero, suc, Bool, true, false, if◌then◌else◌, List, [], ◌∷◌, ◌++◌, length, take, drop, map, replicate, refl, sym, ap, ◌∙◌, append_assoc, append-nil, length-append, arith, Result, Ok, Err, OnOk}
use Rattle.std.proofs.lemmas.List.{take-append-le, drop-append-le, map-append}
use Rattle.std.proofs.Math.Seq.{take-length, drop-length}
use Rattle.gst_item.proofs.Kept.{buffer_passes, gap_passes}
use Rattle.flow_model.specs.Item.{Item, Buffer, Buf, Event, Ev, StreamStart, NewCaps, NewSegment, Tag, Gap, FlushStop, Eos, is_flush_stop, is_eos}
use Rattle.flow_model.specs.Sticky.{stickies, InForce, in_force}
use Rattle.flow_model.specs.Section.{counted_after, counted, section}
use Rattle.flow_model.specs.Call.{Call, Feed, Act, Drain, Set, items}
use Rattle.flow_model.specs.Rule.{Fed, unfed, called, all_called, owed_for, only, passes, single}
use Rattle.flow_model.specs.Feeding.{has_eos}
use Rattle.flow_model.proofs.Counted.{counted_taken, counted_behind, counted_flush}
use Rattle.flow_model.proofs.Calls.{items_push, items_act, eos_taken, eos_stays, eos_flushed, eos_act}
use Rattle.el_basic.specs.declared.tee.Tee.{Tee}
use Rattle.el_basic.specs.Spread.{Spread, is_gap, AreUpTo, joined_behind, pad_list, on_pads}
use Rattle.flow_model.proofs.Items.{stop_no_eos as flush_is_no_eos}

-- what counts of a beginning is no longer than what counts of the whole
counted_take : (ended : Bool) (n : ℕ) (xs : List Item) → length (counted_after ended (take n xs)) ≤ length (counted_after ended xs)
counted_take ended zero xs = omega arith
counted_take ended (suc n) [] = omega arith
counted_take false (suc n) (x ∷ xs) = let h : length (counted_after (is_eos x) (take n xs)) ≤ length (counted_after (is_eos x) xs) = counted_take (is_eos x) n xs in omega arith
counted_take true (suc n) (x ∷ xs) = go (is_flush_stop x) (counted_take false n xs) (counted_take true n xs)
  where
    go : (f : Bool) → length (counted_after false (take n xs)) ≤ length (counted_after false xs)
        → length (counted_after true (take n xs)) ≤ length (counted_after true xs)
        → length (if f then x ∷ counted_after false (take n xs) else counted_after true (take n xs)) ≤ length (if f then x ∷ counted_after false xs else counted_after true xs)
    go true begun ended = omega arith
    go false begun ended = ended

-- what is owed to a source pad for one item more, of which these count
list_push : (place : ℕ) (fed : List Item) (x : Item) (ys : List Item) → place ≤ length fed → counted (fed ++ x ∷ []) ≡ counted fed ++ ys
    → pad_list place fed ++ ys ≡ pad_list place (fed ++ x ∷ [])
list_push place fed x ys within more =
    append_assoc (stickies before) (drop (length before) (counted fed)) ys
    ∙ ap (λ zs. stickies before ++ zs) (sym (drop-append-le (length before) (counted fed) ys (counted_take false place fed)))
    ∙ ap (λ zs. joined_behind before zs) (sym more)
    ∙ ap (λ zs. joined_behind (counted zs) (counted (fed ++ x ∷ []))) (sym (take-append-le place fed (x ∷ []) within))
  where
    before : List Item
    before = counted (take place fed)

lists_push : (places : List ℕ) (fed : List Item) (x : Item) (ys : List Item) → AreUpTo (length fed) places → counted (fed ++ x ∷ []) ≡ counted fed ++ ys
    → map (λ put. put ++ ys) (map (λ place. pad_list place fed) places) ≡ map (λ place. pad_list place (fed ++ x ∷ [])) places
lists_push [] fed x ys within more = refl
lists_push (place ∷ places) fed x ys within more =
    ap (λ zs. zs ∷ map (λ put. put ++ ys) (map (λ place. pad_list place fed) places)) (list_push place fed x ys within.0 more)
    ∙ ap (λ zss. pad_list place (fed ++ x ∷ []) ∷ zss) (lists_push places fed x ys within.1 more)

up_to_more : (places : List ℕ) (m n : ℕ) → m ≤ n → AreUpTo m places → AreUpTo n places
up_to_more [] m n le within = tt
up_to_more (place ∷ places) m n le within = ((let h : place ≤ m = within.0 in omega arith), up_to_more places m n le within.1)

up_to_push : (places : List ℕ) (n : ℕ) → AreUpTo n places → AreUpTo n (places ++ n ∷ [])
up_to_push [] n within = (omega arith, tt)
up_to_push (place ∷ places) n within = (within.0, up_to_push places n within.1)

-- an item that is fed, of which these count
pub spread_fed : (old new : Tee) (x : Item) (ys : List Item) → new.pads ≡ old.pads
    → ((calls : List Call) → has_eos calls ≡ old.ended → counted (items (calls ++ Feed x ∷ [])) ≡ counted (items calls) ++ ys)
    → ((calls : List Call) → has_eos calls ≡ old.ended → has_eos (calls ++ Feed x ∷ []) ≡ new.ended)
    → ((h : List Item) → old.sticky ≡ in_force h → new.sticky ≡ in_force (h ++ ys))
    → (places : List ℕ) (calls : List Call) (puts : List (List Item)) → Spread old places calls puts
    → Spread new places (calls ++ Feed x ∷ []) (map (λ put. put ++ ys) puts)
spread_fed old new x ys same counts ends slots places calls puts p =
    let push = items_push calls x in
    let more : counted (items calls ++ x ∷ []) ≡ counted (items calls) ++ ys = ap counted (sym push) ∙ counts calls p.eos in
    record {
      owed = ap (λ zss. map (λ put. put ++ ys) zss) p.owed ∙ lists_push places (items calls) x ys p.within more ∙ ap (λ zs. map (λ place. pad_list place zs) places) (sym push);
      pads = p.pads ∙ sym same;
      within = up_to_more places (length (items calls)) (length (items (calls ++ Feed x ∷ [])))
          (let longer : length (items (calls ++ Feed x ∷ [])) ≡ length (items calls) + 1 = ap length push ∙ length-append (items calls) (x ∷ []) in omega arith) p.within;
      eos = ends calls p.eos;
      in_force_then = slots (counted (items calls)) p.in_force_then ∙ ap in_force (sym (counts calls p.eos));
    }

pub spread_item : (old new : Tee) (x : Item) → is_flush_stop x ≡ false → old.ended ≡ false → new.ended ≡ is_eos x → new.pads ≡ old.pads
    → ((h : List Item) → old.sticky ≡ in_force h → new.sticky ≡ in_force (h ++ x ∷ []))
    → (places : List ℕ) (calls : List Call) (puts : List (List Item)) → Spread old places calls puts
    → Spread new places (calls ++ Feed x ∷ []) (map (λ put. put ++ x ∷ []) puts)
spread_item old new x plain begun ends same slots =
    spread_fed old new x (x ∷ []) same (λ calls e. counted_taken calls x (e ∙ begun)) (λ calls e. eos_taken calls x plain (e ∙ begun) ∙ sym ends) slots

pub spread_behind : (tee : Tee) (x : Item) → is_flush_stop x ≡ false → tee.ended ≡ true
    → (places : List ℕ) (calls : List Call) (puts : List (List Item)) → Spread tee places calls puts
    → Spread tee places (calls ++ Feed x ∷ []) (map (λ put. put ++ []) puts)
spread_behind tee x plain ended =
    spread_fed tee tee x [] refl (λ calls e. counted_behind calls x (e ∙ ended) plain) (λ calls e. eos_stays calls x plain (e ∙ ended) ∙ sym ended)
    (λ h e. e ∙ ap in_force (sym (append-nil h)))

pub spread_flush : (old new : Tee) → new.ended ≡ false → new.pads ≡ old.pads
    → ((h : List Item) (number : ℕ) → old.sticky ≡ in_force h → new.sticky ≡ in_force (h ++ Ev (FlushStop number) ∷ []))
    → (places : List ℕ) (calls : List Call) (puts : List (List Item)) (number : ℕ) → Spread old places calls puts
    → Spread new places (calls ++ Feed (Ev (FlushStop number)) ∷ []) (map (λ put. put ++ Ev (FlushStop number) ∷ []) puts)
spread_flush old new begun same slots places calls puts number =
    spread_fed old new (Ev (FlushStop number)) (Ev (FlushStop number) ∷ []) same (λ calls e. counted_flush calls number) (λ calls e. eos_flushed calls number ∙ sym begun)
    (λ h e. slots h number e) places calls puts

pub spread_drain : (tee : Tee) (places : List ℕ) (calls : List Call) (puts : List (List Item)) → Spread tee places calls puts → Spread tee places (calls ++ Act Drain ∷ []) puts
spread_drain tee places calls puts p =
    let same = items_act calls Drain in
    record {
      owed = p.owed ∙ ap (λ zs. map (λ place. pad_list place zs) places) (sym same);
      pads = p.pads;
      within = rw same p.within;
      eos = eos_act calls Drain ∙ p.eos;
      in_force_then = p.in_force_then ∙ ap (λ zs. in_force (counted zs)) (sym same);
    }

-- what is owed to a pad that is made now
made_list : (fed : List Item) → pad_list (length fed) fed ≡ stickies (counted fed)
made_list fed =
    ap (λ zs. joined_behind (counted zs) (counted fed)) (take-length fed)
    ∙ ap (λ zs. stickies (counted fed) ++ zs) (drop-length (counted fed))
    ∙ append-nil (stickies (counted fed))

pub spread_made : (old new : Tee) → new.pads ≡ old.pads + 1 → new.ended ≡ old.ended → new.sticky ≡ old.sticky
    → (places : List ℕ) (calls : List Call) (puts : List (List Item)) → Spread old places calls puts
    → Spread new (places ++ length (items calls) ∷ []) calls (puts ++ stickies (counted (items calls)) ∷ [])
spread_made old new more ended slots places calls puts p =
    let fed = items calls in
    record {
      owed = ap (λ zss. zss ++ stickies (counted fed) ∷ []) p.owed
          ∙ ap (λ zs. map (λ place. pad_list place fed) places ++ zs ∷ []) (sym (made_list fed))
          ∙ sym (map-append (λ place. pad_list place fed) places (length fed ∷ []));
      pads = length-append places (length fed ∷ []) ∙ ap (λ n. n + 1) p.pads ∙ sym more;
      within = up_to_push places (length fed) p.within;
      eos = p.eos ∙ sym ended;
      in_force_then = slots ∙ p.in_force_then;
    }

-- a tee that was fed nothing
starts : (pads : ℕ) → replicate pads [] ≡ map (λ place. pad_list place []) (replicate pads 0)
unfolding stickies
starts zero = refl
starts (suc pads) = ap (λ zss. [] ∷ zss) (starts pads)

length_starts : (pads : ℕ) → length {A = ℕ} (replicate pads 0) ≡ pads
length_starts zero = refl
length_starts (suc pads) = ap suc (length_starts pads)

up_to_starts : (pads : ℕ) → AreUpTo 0 (replicate pads 0)
up_to_starts zero = tt
up_to_starts (suc pads) = (omega arith, up_to_starts pads)

pub spread_new : (tee : Tee) → tee.ended ≡ false → tee.sticky ≡ in_force [] → Spread tee (replicate tee.pads 0) [] (replicate tee.pads [])
spread_new tee begun slots = record { owed = starts tee.pads; pads = length_starts tee.pads; within = up_to_starts tee.pads; eos = sym begun; in_force_then = slots }

pub on_no_pads : (pads : ℕ) → on_pads pads [] ≡ []
on_no_pads zero = refl
on_no_pads (suc pad) = ap (λ os. os ++ []) (on_no_pads pad)

-- a buffer leaves what is in force as it is
pub buffer_kept : {T E : Type 0} (r : Result T E) (x : Item) (b : Buffer) (s : InForce) → x ≡ Buf b
    → OnOk r ((h : List Item) → s ≡ in_force h → s ≡ in_force (h ++ x ∷ []))
buffer_kept (Ok done) x b s is = λ h e. e ∙ sym (buffer_passes h b) ∙ ap (λ y. in_force (h ++ y ∷ [])) (sym is)
buffer_kept (Err fault) x b s is = tt

-- and so does a GAP
pub gap_kept : {T E : Type 0} (r : Result T E) (event : Event) (s : InForce) → is_gap event ≡ true
    → OnOk r ((h : List Item) → s ≡ in_force h → s ≡ in_force (h ++ Ev event ∷ []))
gap_kept (Ok done) (Gap pts duration) s e = λ h same. same ∙ sym (gap_passes h pts duration)
gap_kept (Ok done) (StreamStart id) s e = cc
gap_kept (Ok done) (NewCaps caps) s e = cc
gap_kept (Ok done) (NewSegment segment) s e = cc
gap_kept (Ok done) (Tag title) s e = cc
gap_kept (Ok done) (FlushStop number) s e = cc
gap_kept (Ok done) Eos s e = cc
gap_kept (Err fault) event s e = tt

-- what passes owes is what counts
abbrev Counts : List Call → Type 0
Counts calls = (s : Fed) → (all_called passes s calls).out ≡ s.out ++ counted_after s.over (items calls)

drain_counts : (calls : List Call) → Counts calls → Counts (Act Drain ∷ calls)
drain_counts calls more s = go s.given s.out s.over
  where
    go : (given : List Call) (out : List Item) (over : Bool)
        → (all_called passes (called passes (record { given = given; out = out; over = over }) (Act Drain)) calls).out ≡ out ++ counted_after over (items calls)
    go given out true = more (record { given = given; out = out; over = true })
    go given out false =
        more (record { given = given ++ Act Drain ∷ []; out = out ++ []; over = false })
        ∙ ap (λ zs. zs ++ counted_after false (items calls)) (append-nil out)

feed_counts : (x : Item) (calls : List Call) → Counts calls → Counts (Feed x ∷ calls)
feed_counts x calls more s = go (is_flush_stop x) refl s.given s.out s.over
  where
    go : (f : Bool) → is_flush_stop x ≡ f → (given : List Call) (out : List Item) (over : Bool)
        → (all_called passes (called passes (record { given = given; out = out; over = over }) (Feed x)) calls).out ≡ out ++ counted_after over (x ∷ items calls)
    go true e given out true =
        rw e (more (record { given = given ++ Feed x ∷ []; out = out ++ x ∷ []; over = false }) ∙ append_assoc out (x ∷ []) (counted_after false (items calls)))
    go true e given out false =
        rw e
        (more (record { given = given ++ Feed x ∷ []; out = out ++ x ∷ []; over = false })
        ∙ append_assoc out (x ∷ []) (counted_after false (items calls))
        ∙ ap (λ b. out ++ x ∷ counted_after b (items calls)) (sym (flush_is_no_eos x e)))
    go false e given out true = rw e (more (record { given = given; out = out; over = true }))
    go false e given out false =
        rw e (more (record { given = given ++ Feed x ∷ []; out = out ++ x ∷ []; over = is_eos x }) ∙ append_assoc out (x ∷ []) (counted_after (is_eos x) (items calls)))

passes_counts : (calls : List Call) → Counts calls
passes_counts [] s = sym (append-nil s.out)
passes_counts (Act Drain ∷ calls) s = drain_counts calls (passes_counts calls) s
passes_counts (Act (Set setting) ∷ calls) s = passes_counts calls (record s { given = s.given ++ Act (Set setting) ∷ [] })
passes_counts (Feed x ∷ calls) s = feed_counts x calls (passes_counts calls) s

pub first_list : (calls : List Call) → pad_list 0 (items calls) ≡ owed_for passes calls
unfolding stickies
first_list calls = sym (passes_counts calls unfed)

pub first_section : (inputs : List (List Call)) (port j : ℕ) → section j (pad_list 0 (items (only inputs))) ≡ single passes inputs port j
first_section inputs port j = ap (section j) (first_list (only inputs))
