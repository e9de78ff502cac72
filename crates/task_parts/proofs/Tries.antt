-- What one try of a pad, or of a head, moves.
use Rattle.std.proofs.Common.{◌≡◌, ◌<◌, ◌≤◌, ℕ, zero, suc, true, false, List, [], ◌∷◌, length, map, get_or, Some, None, Option, refl, sym, ap, ◌∙◌, subst, inl, inr}
use Rattle.std.specs.Prelude.{slice_get, slice_set, ◌+◌, ◌++◌, Result, Ok, Err, OnOk}
use Rattle.std.proofs.lemmas.Option.{slice_get_within}
use Rattle.gst_value.specs.declared.memory.OutOfMemory.{OutOfMemory}
use Rattle.flow_model.specs.Item.{Item}
use Rattle.lane_core.specs.Lane.{Lane}
use Rattle.lane_core.specs.declared.ends.Inlet as inlets
use Rattle.lane_core.specs.declared.ends.Outlet as outlets
use Rattle.flow_model.specs.declared.element.TaskElement as elements
use Rattle.flow_model.specs.declared.source.TaskSource as sources
use Rattle.flow_model.specs.declared.refusal.Refusal.{Refusal}
use Rattle.flow_model.specs.Gives.{Gives, count_after}
use Rattle.inlet_row.specs.declared.feeding.Answer.TheVariants as answers
use Rattle.inlet_row.specs.Taken as takes
use Rattle.inlet_row.specs.Taken.{Taken, taken_of}
use Rattle.task_pads.specs.declared.pad.Pad.{Pad}
use Rattle.task_pads.specs.declared.crossing.Crossing.{Crossing}
use Rattle.task_pads.specs.declared.crossing.Crossing.TheVariants.{To}
use Rattle.task_pads.specs.Behind.{Goes, goes, inside, place_in}
use Rattle.task_pads.specs.Crossing.{IsCrossing}
use Rattle.task_pads.specs.Pads.{KeepsTable, PadReady, PadShape, end_of, pad_shape, probe_of}
use Rattle.task_parts.specs.declared.part.Part.{Part}
use Rattle.task_parts.specs.declared.head.InletHead.{InletHead}
use Rattle.task_parts.specs.declared.head.SourceHead.{SourceHead}
use Rattle.task_parts.specs.declared.step.Tried.{Tried}
use Rattle.task_parts.specs.declared.step.Tried.TheVariants as tried
use Rattle.task_parts.specs.declared.fault.TaskFault.{TaskFault}
use Rattle.task_parts.specs.declared.fault.TaskFault.TheVariants.{NotLinked}
use Rattle.task_parts.specs.Fault.{refusal_fault}
use Rattle.task_parts.specs.Found.{IsAt}
use Rattle.task_parts.specs.declared.head.Given.{Given}
use Rattle.task_parts.specs.Head.{SourceGives}
use Rattle.task_parts.specs.Moved.{CanGive, HandedIn, HandedOut}
use Rattle.task_parts.specs.Part.{PadSet, PartCrossed}
use Rattle.task_parts.specs.Passing.{AfterSource, CrossesSource, HasPort, RowAsked}
use Rattle.task_parts.specs.Shape.{PartShape, goes_within, has_number, pads_within, part_shape}
use Rattle.task_pads.proofs.Lists.{map_set}
use Rattle.task_parts.proofs.Lists.{at_get}
use Rattle.task_parts.proofs.Turns.{set_shape}
use Rattle.gst_value.proofs.Basics.{some_same, and_left, and_right}
use Rattle.gst_value.proofs.Places.{map_get, set_at}

abbrev pub ok_of : Tried → Result Tried TaskFault
ok_of answer = Ok answer

abbrev pub err_of : TaskFault → Result Tried TaskFault
err_of fault = Err fault

pub ok_same : (a b : Tried) → a ≡ b → ok_of a ≡ ok_of b
ok_same a b e = ap ok_of e

pub err_same : (a b : TaskFault) → a ≡ b → err_of a ≡ err_of b
err_same a b e = ap err_of e

pub fault_at : (n m k l : ℕ) → n ≡ m → k ≡ l → NotLinked n k ≡ NotLinked m l
fault_at n m k l e f = ap (λ (x : ℕ). NotLinked x k) e ∙ ap (λ (x : ℕ). NotLinked m x) f

pub gives_as : {S O : Type 0} {s : sources.Ghosts S} (old new : SourceHead S O s) (k k' : Given) → k ≡ k' → SourceGives old new k → SourceGives old new k'
gives_as old new k k' e h = subst (λ (x : Given). SourceGives old new x) e h

pub on_ok : {P Q : Type 0} (r : Result (Unit {0}) OutOfMemory) → (P → Q) → OnOk r P → OnOk r Q
on_ok (Ok u) f p = f p
on_ok (Err x) f p = p

goes_in : (shapes : List PartShape) (pads : List PadShape) (k : ℕ) (s : PadShape) → pads_within shapes pads ≡ true → slice_get pads k ≡ Some s → goes_within shapes s.goes ≡ true
goes_in shapes [] k s w at = absurd cc
goes_in shapes (p ∷ pads) zero s w at = subst (λ (z : PadShape). goes_within shapes z.goes ≡ true) (some_same at) (and_left (goes_within shapes p.goes) (pads_within shapes pads) w)
goes_in shapes (p ∷ pads) (suc k) s w at = goes_in shapes pads k s (and_right (goes_within shapes p.goes) (pads_within shapes pads) w) at

pub named_in : (shapes : List PartShape) (g : Goes) (n pad : ℕ) → g ≡ inside n pad → goes_within shapes g ≡ true → has_number n shapes ≡ true
named_in shapes g n pad e w = subst (λ (z : Goes). goes_within shapes z ≡ true) e w

module _ {E O : Type 0} {e : elements.Ghosts E} where
  abbrev pub at_other : (xs ys : List (Part E O e)) (n to : ℕ) → xs ≡ ys → IsAt xs n to → IsAt ys n to
  at_other xs ys n to s z = record { part = z.part; at = ap (λ (zs : List (Part E O e)). slice_get zs to) (sym s) ∙ z.at; number_is = z.number_is }

  pub place_within : (parts : List (Part E O e)) (place port : ℕ) → HasPort parts place port → place < length parts
  place_within parts place port h = slice_get_within parts place h.part h.at

  pub port_in : (parts : List (Part E O e)) (place port : ℕ) (h : HasPort parts place port) (y : Part E O e) → y ≡ get_or parts place y → port < length y.pads.items
  port_in parts place port h y s = slice_get_within y.pads.items port h.pad (ap (λ (z : Part E O e). slice_get z.pads.items port) (at_get parts place h.part y h.at s) ∙ h.pad_at)

  pub pad_in : (old new : Part E O e) (port : ℕ) (was is : Pad O) → PadSet old new port was is → (y : Part E O e) → y ≡ new → slice_get y.pads.items port ≡ Some is
  pad_in old new port was is s y same =
      ap (λ (z : Part E O e). slice_get z.pads.items port) same ∙ ap (λ (ps : List (Pad O)). slice_get ps port) s.set ∙ set_at old.pads.items port was is s.at

  pub wants_at : (parts : List (Part E O e)) (n to : ℕ) (z : IsAt parts n to) (ix : Part E O e) (el : E) (r v : Option ℕ) → ix ≡ get_or parts to ix → el ≡ ix.element → r ≡ e.wanted el → r ≡ v → e.wanted z.part.element ≡ v
  wants_at parts n to z ix el r v s l w i =
      ap e.wanted (sym (l ∙ ap (λ (p : Part E O e). p.element) (at_get parts to z.part ix z.at s))) ∙ sym w ∙ i

module _ {E O L : Type 0} {e : elements.Ghosts E} (o : outlets.Ghosts O L) where
  pub crossed_shape : (parts : List (Part E O e)) (place port : ℕ) (was is : Part E O e) (t t' : Option (List Lane)) (k : Crossing) → slice_get parts place ≡ Some was → PartCrossed o was is port t t' k
      → map part_shape (slice_set parts place is) ≡ map part_shape parts
  crossed_shape parts place port was is t t' k at cr = map_set part_shape parts place was is at (set_shape was is port cr.was cr.is cr.pad)

  pub to_named : (parts : List (Part E O e)) (place port : ℕ) (was is : Part E O e) (t t' : Option (List Lane)) (n hint sink : ℕ) → slice_get parts place ≡ Some was → PartCrossed o was is port t t' (To n hint sink)
      → pads_within (map part_shape parts) (map pad_shape was.pads.items) ≡ true → has_number n (map part_shape (slice_set parts place is)) ≡ true
  to_named parts place port was is t t' n hint sink at cr w =
      subst (λ (ss : List PartShape). has_number n ss ≡ true) (sym (crossed_shape parts place port was is t t' (To n hint sink) at cr))
      (named_in (map part_shape parts) (goes cr.was.behind) n sink cr.crossed.0.to
      (goes_in (map part_shape parts) (map pad_shape was.pads.items) port (pad_shape cr.was) w (map_get pad_shape was.pads.items port cr.was cr.pad.at)))

  pub to_gives : (parts : List (Part E O e)) (place port : ℕ) (was is : Part E O e) (t t' : Option (List Lane)) (n hint sink : ℕ) → slice_get parts place ≡ Some was → PartCrossed o was is port t t' (To n hint sink) → CanGive (slice_set parts place is) place port
  to_gives parts place port was is t t' n hint sink at cr = record {
    part = is;
    at = set_at parts place was is at;
    pad = cr.is;
    pad_at = pad_in was is port cr.was cr.is cr.pad is refl;
    waits = λ none. (let k : cr.crossed.0.item ∷ cr.crossed.0.rest ≡ [] = sym cr.crossed.0.waits ∙ none in cc);
    back = cr.crossed.0.back;
  }

abbrev pub with_pad : {S O : Type 0} {s : sources.Ghosts S} → SourceHead S O s → Pad O → SourceHead S O s
with_pad head pad = record { number = head.number; source = head.source; pad = pad; given = head.given; few = head.few }

module _ {S E O L : Type 0} {s : sources.Ghosts S} {e : elements.Ghosts E} (o : outlets.Ghosts O L) where
  pub source_same : (head head' : SourceHead S O s) (parts : List (Part E O e)) (t t' : Option (List Lane)) (k : Crossing) (r : Result Tried TaskFault) → head'.number ≡ head.number → head'.source ≡ head.source → head'.given ≡ head.given
      → pad_shape head'.pad ≡ pad_shape head.pad → IsCrossing o head.pad head'.pad t t' false k → probe_of head'.pad ≡ probe_of head.pad → KeepsTable (place_in (end_of o head.pad)) t t' → PadReady o t' head'.pad
      → AfterSource head' head' parts parts k r → CrossesSource o head head' parts parts t t' r
  source_same head head' parts t t' k r number source given shape crossed probe table ready after = record {
    between = head';
    set = record { number = number; source = source; given = given; shape = shape };
    crossing = k;
    crossed = crossed;
    probe = probe;
    table = table;
    ready = ready;
    after = after;
  }

  pub source_to : (head head' : SourceHead S O s) (pad : Pad O) (parts parts' : List (Part E O e)) (t t' : Option (List Lane)) (n hint sink to : ℕ) → head'.number ≡ head.number → head'.source ≡ head.source → head'.given ≡ head.given
      → pad_shape pad ≡ pad_shape head.pad → IsCrossing o head.pad pad t t' false (To n hint sink) → probe_of pad ≡ probe_of head.pad → KeepsTable (place_in (end_of o head.pad)) t t' → PadReady o t' pad
      → IsAt parts n to → pad_shape head'.pad ≡ pad_shape pad → HandedIn pad head'.pad parts parts' to sink → CrossesSource o head head' parts parts' t t' (ok_of tried.Moved)
  source_to head head' pad parts parts' t t' n hint sink to number source given shape crossed probe table ready at same h = record {
    between = with_pad head pad;
    set = record { number = refl; source = refl; given = refl; shape = shape };
    crossing = To n hint sink;
    crossed = crossed;
    probe = probe;
    table = table;
    ready = ready;
    after = (
      refl,
      to,
      at,
      record { item = h.item; set = record { number = number; source = source; given = given; shape = same }; rest = h.rest; taken = h.taken; eater = h.eater; ate = h.ate; fed = h.fed; took = h.took },
    );
  }

  pub source_back : (head head' : SourceHead S O s) (pad : Pad O) (parts parts' : List (Part E O e)) (t t' : Option (List Lane)) (n hint sink to : ℕ) (refusal : Refusal) (fault : TaskFault) → head'.number ≡ head.number → head'.source ≡ head.source
      → head'.given ≡ head.given → pad_shape pad ≡ pad_shape head.pad → IsCrossing o head.pad pad t t' false (To n hint sink) → probe_of pad ≡ probe_of head.pad → KeepsTable (place_in (end_of o head.pad)) t t' → PadReady o t' pad
      → IsAt parts n to → pad_shape head'.pad ≡ pad_shape pad → HandedOut pad head'.pad parts parts' to sink refusal → fault ≡ refusal_fault n refusal → CrossesSource o head head' parts parts' t t' (err_of fault)
  source_back head head' pad parts parts' t t' n hint sink to refusal fault number source given shape crossed probe table ready at same h f = record {
    between = with_pad head pad;
    set = record { number = refl; source = refl; given = refl; shape = shape };
    crossing = To n hint sink;
    crossed = crossed;
    probe = probe;
    table = table;
    ready = ready;
    after = (
      refusal,
      f,
      to,
      at,
      record {
        item = h.item;
        set = record { number = number; source = source; given = given; shape = same };
        between = h.between;
        rest = h.rest;
        taken = h.taken;
        history = h.history;
        counted = h.counted;
        probe = h.probe;
        waiting = h.waiting;
        behind = h.behind;
        eater = h.eater;
        ate = h.ate;
        fed = h.fed;
        fell = h.fell;
      },
    );
  }

module _ {I O L : Type 0} (i : inlets.Ghosts I L O) where
  pub asked_from : (head mid head' : InletHead I) (port : ℕ) (t t' : Option (List Lane)) (taken : Taken) → mid.number ≡ head.number → mid.rows ≡ head.rows → RowAsked i mid head' port t t' taken → RowAsked i head head' port t t' taken
  asked_from head mid head' port t t' taken n r (inl a) = inl (record {
    was = a.was;
    is = a.is;
    set = record { number = a.set.number ∙ n; at = ap (λ v. slice_get v.items port) (sym r) ∙ a.set.at; set = a.set.set ∙ ap (λ v. slice_set v.items port a.is) r };
    gave = a.gave;
    stays = a.stays;
    moves = a.moves;
    between = a.between;
    holds = a.holds;
  })
  asked_from head mid head' port t t' taken n r (inr h) = inr (record { past = subst (λ v. length v.items ≤ port) r h.past; number = h.number ∙ n; rows = h.rows ∙ r; table = h.table; empty = h.empty })

  -- where an item went into its place, that is the one that was taken
  pub asked_item : (head head' : InletHead I) (port : ℕ) (t t' : Option (List Lane)) (into : Option Item) (x : Item) → into ≡ Some x → RowAsked i head head' port t t' (taken_of answers.Item into) → RowAsked i head head' port t t' (takes.Item x)
  asked_item head head' port t t' into x e h = subst (λ (v : Option Item). RowAsked i head head' port t t' (taken_of answers.Item v)) e h

module _ {S : Type 0} (s : sources.Ghosts S) where
  pub gave_item : (was is : S) (v : Option Item) (x : Item) → v ≡ Some x → ((owed given : List Item) → s.gave was owed given → Gives (s.gave is) owed given v) → (owed given : List Item) → s.gave was owed given → s.gave is owed (given ++ x ∷ [])
  gave_item was is v x e f = λ owed given h. subst (λ (w : Option Item). Gives (s.gave is) owed given w) e (f owed given h)

  pub gave_none : (was is : S) (v : Option Item) → v ≡ None → ((owed given : List Item) → s.gave was owed given → Gives (s.gave is) owed given v) → (owed given : List Item) → s.gave was owed given → s.gave is owed given × (owed ≡ given)
  gave_none was is v e f = λ owed given h. subst (λ (w : Option Item). Gives (s.gave is) owed given w) e (f owed given h)

abbrev pub counted : Option Item → ℕ → ℕ
counted v n = count_after (Ok v) n

pub one_more : (v : Option Item) (x : Item) (n m : ℕ) → v ≡ Some x → m ≡ counted v n → m ≡ n + 1
one_more v x n m e c = c ∙ ap (λ (w : Option Item). counted w n) e

pub no_more : (v : Option Item) (n m : ℕ) → v ≡ None → m ≡ counted v n → m ≡ n
no_more v n m e c = c ∙ ap (λ (w : Option Item). counted w n) e
