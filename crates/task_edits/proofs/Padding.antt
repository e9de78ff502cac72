-- One pad of a task is another now: how the task stands to a moment, and that it is as closed as it was.
use Rattle.std.proofs.Common.{Option, ◌<◌, ◌≡◌, ◌≢◌, ◌++◌, ◌+◌, ℕ, List, [], length, map, Some, refl, sym, ap, ◌∙◌, subst, inl}
use Rattle.std.specs.Prelude.{slice_get, slice_set}
use Rattle.std.proofs.lemmas.Option.{slice_get_within}
use Rattle.gst_item.specs.declared.out.Out.{Out}
use Rattle.flow_model.specs.Item.{Item}
use Rattle.flow_model.specs.Link.{Span}
use Rattle.inlet_row.specs.declared.row.InletRow.{InletRow}
use Rattle.lane_core.specs.declared.ends.Inlet as inlets
use Rattle.lane_core.specs.declared.ends.Outlet as outlets
use Rattle.flow_model.specs.Moment.{Moment, behavior_at}
use Rattle.flow_model.specs.Step.{planned}
use Rattle.flow_model.specs.declared.element.TaskElement as elements
use Rattle.flow_model.specs.declared.source.TaskSource as sources
use Rattle.flow_model.specs.Takes.{on_port}
use Rattle.task_pads.specs.Behind.{Goes, inside}
use Rattle.task_pads.specs.declared.pad.Pad.{Pad}
use Rattle.task_pads.specs.Pads.{goes_of, number_of, waiting_of}
use Rattle.task_pads.proofs.Lists.{map_set}
use Rattle.task_parts.specs.declared.part.Part.{Part}
use Rattle.task_parts.specs.declared.head.Head.{Head}
use Rattle.task_parts.specs.declared.head.Head.TheVariants.{Source, Inlets}
use Rattle.task_parts.specs.declared.head.SourceHead.{SourceHead}
use Rattle.task_parts.specs.Head.{IsSameSource}
use Rattle.pad_core.specs.declared.probe.Probe.{Probe}
use Rattle.task_pads.specs.declared.pad.Behind.{Behind}
use Rattle.task_parts.specs.Part.{PartLed, PartProbed, waits_at}
use Rattle.task_parts.proofs.Lists.{each_set, map_back}
use Rattle.net_task.specs.Ties.{AreTied, HasPad, HeadTied, LeadsAs, NoneIs, NoneLeads, PadLinked, PartTied, PartsTied, PortTied, SourceTied, Stands, nothing_lost}
use Rattle.net_task.proofs.Tied.{once_same}
use Rattle.gst_value.proofs.Basics.{some_same}
use Rattle.task_edits.specs.Changes.{Changed, HeadChanged, LedBy, PadIn, PadIs, PartChanged, ProbedBy}
use Rattle.task_edits.specs.Places.{HasNoPad, IsOfHead, NoPart, NoPort, PartHas}

-- the graph with these links
abbrev pub replanned : (ℕ → List (List Span)) → Moment → Moment
replanned sinks m = planned (record m.plan { sinks = sinks }) m

-- A pad of this number may lead elsewhere in another graph; each other leads where it led.
abbrev pub OthersLead : (ℕ → List (List Span)) → Moment → ℕ → Type 0
OthersLead sinks m p = (q : ℕ) (g : Goes) → q ≢ p → LeadsAs m q g → LeadsAs (replanned sinks m) q g

module _ {O L : Type 0} (o : outlets.Ghosts O L) (sinks : ℕ → List (List Span)) (m : Moment) where
  -- another pad is linked as it was
  pub linked_else : (p : ℕ) (pad : Pad O) → OthersLead sinks m p → number_of pad ≢ p → PadLinked o m pad → PadLinked o (replanned sinks m) pad
  linked_else p pad others ne l = record { crossed = l.crossed; leads = others (number_of pad) (goes_of pad) ne l.leads; sent = l.sent }

  pub port_else : (p number port : ℕ) (pad : Pad O) (items : List Item) → OthersLead sinks m p → number_of pad ≢ p → PortTied o m number port pad items → PortTied o (replanned sinks m) number port pad items
  port_else p number port pad items others ne t = record { owner = t.owner; port_is = t.port_is; linked = linked_else p pad others ne t.linked; waits = t.waits }

  has_again : (pads pads' : List (Pad O)) (q : ℕ) → map (λ pad. number_of pad) pads' ≡ map (λ pad. number_of pad) pads → HasPad pads m q → HasPad pads' (replanned sinks m) q
  has_again pads pads' q same h =
      let z = map_back (λ (pad : Pad O). number_of pad) pads' pads (sym same) (m.plan.port q) h.pad h.at in
      record { pad = z.0; at = z.1; number = sym z.2 ∙ h.number; uncut = h.uncut }

module _ {E O L : Type 0} {e : elements.Ghosts E} (o : outlets.Ghosts O L) (sinks : ℕ → List (List Span)) (m : Moment) where
  -- an element that has no pad of the number
  pub part_without : (p : ℕ) (part : Part E O e) → OthersLead sinks m p → NoPort part.pads.items p → PartTied o (Stands m part) m part → PartTied o (Stands (replanned sinks m) part) (replanned sinks m) part
  part_without p part others none t = record {
    stood = t.stood;
    pads = λ port pad at. port_else o sinks m p part.number port pad (waits_at part port pad) others (none port pad at) (t.pads port pad at);
    mine = λ q own. has_again o sinks m part.pads.items part.pads.items q refl (t.mine q own);
  }

  -- the element that has it
  pub part_with : (old new : Part E O e) (port : ℕ) (was is : Pad O) → PadIn old new port was is → number_of is ≡ number_of was → waiting_of is ≡ waiting_of was → OthersLead sinks m (number_of was) → PadLinked o (replanned sinks m) is
      → PartTied o (Stands m old) m old → PartTied o (Stands (replanned sinks m) new) (replanned sinks m) new
  part_with old new port was is s number waiting others linked t = record {
    stood = subst (λ (n : ℕ). e.stands new.element (behavior_at m n) (m.took n)) (sym s.number) (subst (λ (x : E). e.stands x (behavior_at m old.number) (m.took old.number)) (sym s.element) t.stood);
    pads = each_set old.pads.items new.pads.items port is (λ k q. PortTied o m old.number k q (waits_at old k q)) (λ k q. PortTied o (replanned sinks m) new.number k q (waits_at new k q)) s.set t.pads
        (λ k q ne at z.
        let other : number_of q ≢ number_of was = λ same. ne (sym z.port_is ∙ ap m.plan.port same ∙ here.port_is) in
        let y = port_else o sinks m (number_of was) old.number k q (waits_at old k q) others other z in
        record { owner = y.owner ∙ sym s.number; port_is = y.port_is; linked = y.linked; waits = y.waits ∙ ap (λ (os : List Out). waiting_of q ++ on_port k os) (sym s.out) })
        (record {
          owner = ap m.plan.owner number ∙ here.owner ∙ sym s.number;
          port_is = ap m.plan.port number ∙ here.port_is;
          linked = linked;
          waits = ap m.waits number ∙ here.waits ∙ ap (λ (ws : List Item). ws ++ on_port port old.out) (sym waiting) ∙ ap (λ (os : List Out). waiting_of is ++ on_port port os) (sym s.out);
        });
    mine = λ q own. has_again o sinks m old.pads.items new.pads.items q (ap (λ (ps : List (Pad O)). map (λ pad. number_of pad) ps) s.set ∙ map_set (λ (pad : Pad O). number_of pad) old.pads.items port was is s.at number) (t.mine q (own ∙ s.number));
  }
    where
      here : PortTied o m old.number port was (waits_at old port was)
      here = t.pads port was s.at

  -- no element has the pad
  pub parts_without : (p : ℕ) (parts : List (Part E O e)) → OthersLead sinks m p → NoPart parts p → PartsTied o (Stands m) m parts → PartsTied o (Stands (replanned sinks m)) (replanned sinks m) parts
  parts_without p parts others none t = record { each = λ j part at. part_without p part others (none j part at) (t.each j part at); once = t.once }

  -- one element has it
  pub parts_with : (parts : List (Part E O e)) (place port : ℕ) (old new : Part E O e) (was is : Pad O) → slice_get parts place ≡ Some old → PadIn old new port was is → number_of is ≡ number_of was → waiting_of is ≡ waiting_of was
      → OthersLead sinks m (number_of was) → PadLinked o (replanned sinks m) is → PartsTied o (Stands m) m parts → PartsTied o (Stands (replanned sinks m)) (replanned sinks m) (slice_set parts place new)
  parts_with parts place port old new was is at s number waiting others linked t = record {
    each = each_set parts (slice_set parts place new) place new (λ k p. PartTied o (Stands m p) m p) (λ k p. PartTied o (Stands (replanned sinks m) p) (replanned sinks m) p) refl t.each
        (λ k p ne got z. part_without (number_of was) p others (λ j q q_at same. ne (t.once k place p old got at (sym (z.pads j q q_at).owner ∙ ap m.plan.owner same ∙ here.owner))) z)
        (part_with old new port was is s number waiting others linked (t.each place old at));
    once = once_same parts (slice_set parts place new) (map_set (λ (p : Part E O e). p.number) parts place old new at s.number) t.once;
  }
    where
      here : PortTied o m old.number port was (waits_at old port was)
      here = (t.each place old at).pads port was s.at

module _ {E O : Type 0} {e : elements.Ghosts E} where
  numbers_set : (parts : List (Part E O e)) (place : ℕ) (old new : Part E O e) → slice_get parts place ≡ Some old → new.number ≡ old.number → (n : ℕ) → NoneIs parts n → NoneIs (slice_set parts place new) n
  numbers_set parts place old new at number n none j part got same =
      let z = map_back (λ (p : Part E O e). p.number) parts (slice_set parts place new) (map_set (λ (p : Part E O e). p.number) parts place old new at number) j part got in
      none j z.0 z.1 (sym z.2 ∙ same)

  -- a pad that leads to no sink pad to which it did not lead
  none_leads_set : (parts : List (Part E O e)) (place port : ℕ) (old new : Part E O e) (was is : Pad O) → slice_get parts place ≡ Some old → PadIn old new port was is → (n i : ℕ) → (goes_of is ≡ inside n i → goes_of was ≡ inside n i)
      → NoneLeads parts n i → NoneLeads (slice_set parts place new) n i
  none_leads_set parts place port old new was is at s n i leads none j k part pad got pad_at g =
      each_set parts (slice_set parts place new) place new (λ x p. (y : ℕ) (q : Pad O) → slice_get p.pads.items y ≡ Some q → goes_of q ≢ inside n i) (λ x p. (y : ℕ) (q : Pad O) → slice_get p.pads.items y ≡ Some q → goes_of q ≢ inside n i) refl
      (λ x p p_at y q q_at. none x y p q p_at q_at) (λ x p ne p_at z. z)
      (each_set old.pads.items new.pads.items port is (λ y q. goes_of q ≢ inside n i) (λ y q. goes_of q ≢ inside n i) s.set (λ y q q_at. none place y old q at q_at) (λ y q ne q_at z. z) (λ to. none place port old was at s.at (leads to)))
      j part got k pad pad_at g

module _ {S I O : Type 0} {s : sources.Ghosts S} where
  -- the pad leads to no sink pad that a row of the head feeds, unless it led there
  abbrev pub LeavesRows : Head S I O s → Pad O → Pad O → Type 0
  LeavesRows (Source head) was is = Unit {0}
  LeavesRows (Inlets head) was is = (port : ℕ) (row : InletRow I) → slice_get head.rows.items port ≡ Some row → goes_of is ≡ inside head.number port → goes_of was ≡ inside head.number port

  leaves_rows : (head : Head S I O s) (was is : Pad O) → ((n k : ℕ) → goes_of is ≡ inside n k → goes_of was ≡ inside n k) → LeavesRows head was is
  leaves_rows (Source head) was is leads = tt
  leaves_rows (Inlets head) was is leads = λ port row got. leads head.number port

abbrev no_items : List Item
no_items = []

module _ {S E I O L : Type 0} {s : sources.Ghosts S} {e : elements.Ghosts E} (i : inlets.Ghosts I L O) (o : outlets.Ghosts O L) (sinks : ℕ → List (List Span)) (m : Moment) where
  -- the head, where a pad of an element is another
  head_beside : (head : Head S I O s) (parts : List (Part E O e)) (place port : ℕ) (old new : Part E O e) (was is : Pad O) → slice_get parts place ≡ Some old → PadIn old new port was is → m.plan.owner (number_of was) ≡ old.number
      → LeavesRows head was is → OthersLead sinks m (number_of was) → HeadTied i o nothing_lost m head parts → HeadTied i o nothing_lost (replanned sinks m) head (slice_set parts place new)
  head_beside (Source head) parts place port old new was is at set own leads others t =
      let other : number_of head.pad ≢ number_of was = λ same. t.apart place old at (sym own ∙ sym (ap m.plan.owner same) ∙ t.owner) in
      record {
        owner = t.owner;
        mine = t.mine;
        linked = linked_else o sinks m (number_of was) head.pad others other t.linked;
        gave = t.gave;
        given = t.given;
        apart = numbers_set parts place old new at set.number head.number t.apart;
      }
  head_beside (Inlets head) parts place port old new was is at set own leads others t = λ k row got.
      let z = t k row got in
      record { all = z.all; gave = z.gave; got = z.got; whole = z.whole; took = z.took; apart = none_leads_set parts place port old new was is at set head.number k (leads k row got) z.apart }

  -- the head, where its own pad is another
  head_with : (old new : SourceHead S O s) (parts : List (Part E O e)) → IsSameSource old new → number_of new.pad ≡ number_of old.pad → waiting_of new.pad ≡ waiting_of old.pad → PadLinked o (replanned sinks m) new.pad
      → SourceTied o [] m old parts → SourceTied o [] (replanned sinks m) new parts
  head_with old new parts same number waiting linked t = record {
    owner = ap m.plan.owner number ∙ t.owner ∙ sym same.number;
    mine = λ q own. t.mine q (own ∙ same.number) ∙ sym number;
    linked = linked;
    gave = subst (λ (x : S). s.gave x (m.history (number_of new.pad) ++ m.waits (number_of new.pad)) (m.history (number_of new.pad) ++ waiting_of new.pad)) (sym same.source)
        (subst (λ (n : ℕ). s.gave old.source (m.history n ++ m.waits n) (m.history n ++ waiting_of new.pad)) (sym number)
        (subst (λ (ws : List Item). s.gave old.source (m.history (number_of old.pad) ++ m.waits (number_of old.pad)) (m.history (number_of old.pad) ++ ws)) (sym waiting) t.gave));
    given = same.given ∙ t.given ∙ ap (λ (ws : List Item). length (m.history (number_of old.pad)) + (length no_items + length ws)) (sym waiting) ∙ ap (λ (n : ℕ). length (m.history n) + (length no_items + length (waiting_of new.pad))) (sym number);
    apart = λ j part at n. t.apart j part at (n ∙ same.number);
  }

  -- the head and the elements, where one pad is another that leads to no sink pad of the head's rows
  pub tied_beside : (head head' : Head S I O s) (parts parts' : List (Part E O e)) (was is : Pad O) → PadIs head parts head' parts' was is → number_of is ≡ number_of was → waiting_of is ≡ waiting_of was
      → LeavesRows head was is → OthersLead sinks m (number_of was) → (PadLinked o m was → PadLinked o (replanned sinks m) is)
      → AreTied i o (Stands m) nothing_lost m head parts → AreTied i o (Stands (replanned sinks m)) nothing_lost (replanned sinks m) head' parts'
  tied_beside head head' parts parts' was is (PadIs.of_source old new here here' pad pad' same stays) number waiting leads others linked t =
      let at : HeadTied i o nothing_lost m (Source old) parts = subst (λ (h : Head S I O s). HeadTied i o nothing_lost m h parts) here t.head_tied in
      let none : NoPart parts (number_of was) = λ j part got k q q_at equal. at.apart j part got (sym ((t.parts_tied.each j part got).pads k q q_at).owner ∙ ap m.plan.owner (equal ∙ ap (λ (z : Pad O). number_of z) (sym pad)) ∙ at.owner) in
      let ours : PadLinked o (replanned sinks m) is = linked (subst (PadLinked o m) pad at.linked) in
      let heads : SourceTied o [] (replanned sinks m) new parts =
      head_with old new parts same (ap (λ (z : Pad O). number_of z) pad' ∙ number ∙ ap (λ (z : Pad O). number_of z) (sym pad)) (ap (λ (z : Pad O). waiting_of z) pad' ∙ waiting ∙ ap (λ (z : Pad O). waiting_of z) (sym pad))
      (subst (PadLinked o (replanned sinks m)) (sym pad') ours) at in
      subst (λ (h : Head S I O s). AreTied i o (Stands (replanned sinks m)) nothing_lost (replanned sinks m) h parts') (sym here')
      (subst (λ (ps : List (Part E O e)). AreTied i o (Stands (replanned sinks m)) nothing_lost (replanned sinks m) (Source new) ps) (sym stays)
      (record { parts_tied = parts_without o sinks m (number_of was) parts others none t.parts_tied; head_tied = heads }))
  tied_beside head head' parts parts' was is (PadIs.of_part place port old new at set pad same) number waiting leads others linked t =
      let here : PortTied o m old.number port was (waits_at old port was) = (t.parts_tied.each place old at).pads port was pad.at in
      subst (λ (h : Head S I O s). AreTied i o (Stands (replanned sinks m)) nothing_lost (replanned sinks m) h parts') (sym same)
      (subst (λ (ps : List (Part E O e)). AreTied i o (Stands (replanned sinks m)) nothing_lost (replanned sinks m) head ps) (sym set)
      (record {
        parts_tied = parts_with o sinks m parts place port old new was is at pad number waiting others (linked here.linked) t.parts_tied;
        head_tied = head_beside head parts place port old new was is at pad here.owner leads others t.head_tied;
      }))

  -- the head and the elements, where one pad is another that leads to no sink pad of the task to which it did not lead
  pub tied_with : (head head' : Head S I O s) (parts parts' : List (Part E O e)) (was is : Pad O) → PadIs head parts head' parts' was is → number_of is ≡ number_of was → waiting_of is ≡ waiting_of was
      → ((n k : ℕ) → goes_of is ≡ inside n k → goes_of was ≡ inside n k) → OthersLead sinks m (number_of was) → (PadLinked o m was → PadLinked o (replanned sinks m) is)
      → AreTied i o (Stands m) nothing_lost m head parts → AreTied i o (Stands (replanned sinks m)) nothing_lost (replanned sinks m) head' parts'
  tied_with head head' parts parts' was is changed number waiting leads others linked t = tied_beside head head' parts parts' was is changed number waiting (leaves_rows head was is leads) others linked t

  -- the head and the elements, none of which has the pad
  pub tied_without : (p : ℕ) (head : Head S I O s) (parts : List (Part E O e)) → HasNoPad head parts p → OthersLead sinks m p → AreTied i o (Stands m) nothing_lost m head parts → AreTied i o (Stands (replanned sinks m)) nothing_lost (replanned sinks m) head parts
  tied_without p (Source head) parts none others t = record {
    parts_tied = parts_without o sinks m p parts others none.1 t.parts_tied;
    head_tied = record { owner = t.head_tied.owner; mine = t.head_tied.mine; linked = linked_else o sinks m p head.pad others none.0 t.head_tied.linked; gave = t.head_tied.gave; given = t.head_tied.given; apart = t.head_tied.apart };
  }
  tied_without p (Inlets head) parts none others t = record {
    parts_tied = parts_without o sinks m p parts others none.1 t.parts_tied;
    head_tied = λ k row got. let z = t.head_tied k row got in record { all = z.all; gave = z.gave; got = z.got; whole = z.whole; took = z.took; apart = z.apart };
  }

module _ {E O : Type 0} {e : elements.Ghosts E} where
  pub probed_part : (old new : Part E O e) (port : ℕ) (probe : Option Probe) → PartProbed old new port probe → PartChanged (ProbedBy probe) port old new
  probed_part old new port probe p = (p.was, p.is, record { number = p.pad.number; element = p.pad.element; out = p.pad.out; at = p.pad.at; set = p.pad.set }, p.probed)

  pub led_part : (old new : Part E O e) (port : ℕ) (behind back : Behind O) → PartLed old new port behind back → PartChanged (LedBy behind back) port old new
  led_part old new port behind back p = (p.was, p.is, record { number = p.number; element = p.element; out = p.out; at = p.at; set = p.set }, (p.led, p.gave))

-- what was found is the pad of the number, and it is another now
pub source_changed : {S E I O : Type 0} {s : sources.Ghosts S} {e : elements.Ghosts E} (By : Pad O → Pad O → Type 0) (Kept : Type 0) (number : ℕ) (head head' : Head S I O s) (parts : List (Part E O e)) → IsOfHead head number → HeadChanged By head head' → Changed By Kept number head parts head' parts
source_changed By Kept number (Source old) (Source new) parts is c = inl (old.pad, new.pad, is, c.0, PadIs.of_source old new refl refl refl refl c.1 refl)
source_changed By Kept number (Source old) (Inlets new) parts is c = absurd c
source_changed By Kept number (Inlets old) head' parts is c = absurd is

pub part_changed : {S E I O : Type 0} {s : sources.Ghosts S} {e : elements.Ghosts E} (By : Pad O → Pad O → Type 0) (Kept : Type 0) (number place port : ℕ) (head : Head S I O s) (parts : List (Part E O e)) (old new : Part E O e) → PartHas parts number place port → slice_get parts place ≡ Some old
    → PartChanged By port old new → Changed By Kept number head parts head (slice_set parts place new)
part_changed By Kept number place port head parts old new has at (was, is, pad, by) =
    let same : old ≡ has.part = some_same (sym at ∙ has.part_at) in
    let pads : was ≡ has.port_is.pad = some_same (sym pad.at ∙ ap (λ (p : Part _ _ _). slice_get p.pads.items port) same ∙ has.port_is.at) in
    inl (was, is, ap (λ (q : Pad _). number_of q) pads ∙ has.port_is.number_is, by, PadIs.of_part place port old new at refl pad refl)

pub has_within : {E O : Type 0} {e : elements.Ghosts E} (parts : List (Part E O e)) (number place port : ℕ) → PartHas parts number place port → place < length parts
has_within parts number place port h = slice_get_within parts place h.part h.part_at
