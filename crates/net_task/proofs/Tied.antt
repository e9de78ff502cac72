-- How the elements of a task stand to a moment, as items cross and elements are fed.
use Rattle.std.proofs.Common.{◌≡◌, ◌≢◌, ◌⊎◌, ◌++◌, ℕ, zero, suc, true, false, eqb, if◌then◌else◌, List, [], ◌∷◌, map, Some, refl, sym, ap, ◌∙◌, subst, inl, inr, append-nil}
use Rattle.std.specs.Prelude.{slice_get}
use Rattle.std.proofs.lemmas.Bool.Decides.{eqb_tells}
use Rattle.std.proofs.lemmas.Bool.{cases_eq}
use Rattle.gst_item.specs.declared.out.Out.{Out}
use Rattle.flow_model.specs.Item.{Item}
use Rattle.flow_model.specs.Call.{Call, Feed}
use Rattle.lane_core.specs.declared.ends.Inlet as inlets
use Rattle.lane_core.specs.declared.ends.Outlet as outlets
use Rattle.flow_model.specs.Moment.{Moment}
use Rattle.flow_model.specs.SinkPads.{push_calls}
use Rattle.flow_model.specs.Step.{crossed, fed}
use Rattle.flow_model.proofs.Inputs.{at_here, at_other}
use Rattle.flow_model.specs.declared.element.TaskElement as elements
use Rattle.flow_model.specs.declared.source.TaskSource as sources
use Rattle.flow_model.specs.Takes.{on_port}
use Rattle.inlet_row.specs.declared.row.InletRow.{InletRow}
use Rattle.task_pads.specs.declared.pad.Pad.{Pad}
use Rattle.task_pads.specs.Pads.{number_of, pad_shape, waiting_of}
use Rattle.task_parts.specs.declared.part.Part.{Part}
use Rattle.task_parts.specs.declared.head.SourceHead.{SourceHead}
use Rattle.task_parts.specs.declared.head.Head.{Head}
use Rattle.task_parts.specs.declared.head.Head.TheVariants.{Source, Inlets}
use Rattle.task_parts.specs.Shape.{PartShape, part_shape}
use Rattle.task_parts.specs.Part.{PadSet, PadsGrew, waits_at}
use Rattle.task_parts.specs.Moved.{PartSet}
use Rattle.net_task.specs.Ties.{TookAt, PadLinked, PortTied, HasPad, AreOnce, NoneLeads, NoneIs, PartTied, PartsTied, SourceTied, HeadTied}
use Rattle.task_pads.proofs.Lists.{map_set}
use Rattle.task_parts.proofs.Lists.{each_set, map_back}
use Rattle.net_task.proofs.Linked.{same_number, same_goes, linked_same, linked_other, linked_rest, linked_fed, shape_rest}
use Rattle.flow_model.proofs.Calls.{feeds_push as feeds_more}

-- a pad of a number is still there
pub has_same : {O : Type 0} (pads pads' : List (Pad O)) (m m' : Moment) (q : ℕ) → m'.plan ≡ m.plan → map pad_shape pads' ≡ map pad_shape pads → HasPad pads m q → HasPad pads' m' q
has_same pads pads' m m' q pl s h =
    let z = map_back pad_shape pads' pads (sym s) (m.plan.port q) h.pad h.at in
    rw pl (record { pad = z.0; at = z.1; number = sym (same_number h.pad z.0 z.2) ∙ h.number; uncut = h.uncut })

module _ {E O : Type 0} {e : elements.Ghosts E} where
  pub part_number : (p q : Part E O e) → part_shape p ≡ part_shape q → p.number ≡ q.number
  part_number p q s = ap (λ (z : PartShape). z.number) s

  pub part_pads : (p q : Part E O e) → part_shape p ≡ part_shape q → map pad_shape p.pads.items ≡ map pad_shape q.pads.items
  part_pads p q s = ap (λ (z : PartShape). z.pads) s

  -- elements of the same shapes
  pub once_same : (parts parts' : List (Part E O e)) → map (λ (p : Part E O e). p.number) parts' ≡ map (λ (p : Part E O e). p.number) parts → AreOnce parts → AreOnce parts'
  once_same parts parts' s once j k p q at at' n =
      let a = map_back (λ (z : Part E O e). z.number) parts parts' s j p at in
      let b = map_back (λ (z : Part E O e). z.number) parts parts' s k q at' in
      once j k a.0 b.0 a.1 b.1 (sym a.2 ∙ n ∙ b.2)

  pub none_leads_same : (parts parts' : List (Part E O e)) (n i : ℕ) → map part_shape parts' ≡ map part_shape parts → NoneLeads parts n i → NoneLeads parts' n i
  none_leads_same parts parts' n i s none j k part pad at pad_at g =
      let a = map_back part_shape parts parts' s j part at in
      let b = map_back pad_shape a.0.pads.items part.pads.items (part_pads part a.0 a.2) k pad pad_at in
      none j k a.0 b.0 a.1 b.1 (sym (same_goes pad b.0 b.2) ∙ g)

  pub none_is_same : (parts parts' : List (Part E O e)) (n : ℕ) → map part_shape parts' ≡ map part_shape parts → NoneIs parts n → NoneIs parts' n
  none_is_same parts parts' n s none j part at same =
      let a = map_back part_shape parts parts' s j part at in
      none j a.0 a.1 (sym (part_number part a.0 a.2) ∙ same)

  pub set_shape : (old new : Part E O e) (port : ℕ) (was is : Pad O) → PadSet old new port was is → map pad_shape new.pads.items ≡ map pad_shape old.pads.items
  set_shape old new port was is s = ap (λ (ps : List (Pad O)). map pad_shape ps) s.set ∙ map_set pad_shape old.pads.items port was is s.at s.shape

  pub set_part_shape : (old new : Part E O e) (port : ℕ) (was is : Pad O) → PadSet old new port was is → part_shape new ≡ part_shape old
  set_part_shape old new port was is s = let pads = set_shape old new port was is s in rw (s.number, pads) refl

  pub parts_set_shape : (parts parts' : List (Part E O e)) (place : ℕ) (was is : Part E O e) → PartSet parts parts' place was is → part_shape is ≡ part_shape was → map part_shape parts' ≡ map part_shape parts
  parts_set_shape parts parts' place was is s shape = ap (λ (ps : List (Part E O e)). map part_shape ps) s.set ∙ map_set part_shape parts place was is s.at shape

module _ {E O L : Type 0} {e : elements.Ghosts E} (o : outlets.Ghosts O L) where
  -- one element is another now, at another moment
  pub parts_set : (Stood Stood' : Part E O e → Type 0) (m m' : Moment) (parts parts' : List (Part E O e)) (t : ℕ) (was is : Part E O e) → PartSet parts parts' t was is → is.number ≡ was.number
      → ((p : Part E O e) → p.number ≢ was.number → PartTied o (Stood p) m p → PartTied o (Stood' p) m' p) → PartTied o (Stood' is) m' is → PartsTied o Stood m parts → PartsTied o Stood' m' parts'
  parts_set Stood Stood' m m' parts parts' t was is s n other here a = record {
    each = each_set parts parts' t is (λ k p. PartTied o (Stood p) m p) (λ k p. PartTied o (Stood' p) m' p) s.set a.each (λ k p ne at. other p (λ same. ne (a.once k t p was at s.at same))) here;
    once = once_same parts parts' (ap (λ (ps : List (Part E O e)). map (λ (p : Part E O e). p.number) ps) s.set ∙ map_set (λ (p : Part E O e). p.number) parts t was is s.at n) a.once;
  }

  -- the same, where it is used that the others are among the elements
  pub parts_set_at : (Stood Stood' : Part E O e → Type 0) (m m' : Moment) (parts parts' : List (Part E O e)) (t : ℕ) (was is : Part E O e) → PartSet parts parts' t was is → is.number ≡ was.number
      → ((k : ℕ) (p : Part E O e) → slice_get parts k ≡ Some p → PartTied o (Stood p) m p → PartTied o (Stood' p) m' p) → PartTied o (Stood' is) m' is → PartsTied o Stood m parts → PartsTied o Stood' m' parts'
  parts_set_at Stood Stood' m m' parts parts' t was is s n other here a = record {
    each = each_set parts parts' t is (λ k p. PartTied o (Stood p) m p) (λ k p. PartTied o (Stood' p) m' p) s.set a.each (λ k p ne at. other k p at) here;
    once = once_same parts parts' (ap (λ (ps : List (Part E O e)). map (λ (p : Part E O e). p.number) ps) s.set ∙ map_set (λ (p : Part E O e). p.number) parts t was is s.at n) a.once;
  }

  -- what is known of an element is said otherwise
  pub part_known : (S S' : Type 0) (m : Moment) (part : Part E O e) → (S → S') → PartTied o S m part → PartTied o S' m part
  part_known S S' m part f t = record { stood = f t.stood; pads = t.pads; mine = t.mine }

  -- an item crosses a pad of another element
  pub part_crossed : (S : Type 0) (m : Moment) (p : ℕ) (x : Item) (rest : List Item) (part : Part E O e) → m.plan.owner p ≢ part.number → PartTied o S m part → PartTied o S (crossed p x rest m) part
  part_crossed S m p x rest part n t = record {
    stood = t.stood;
    pads = λ k q at.
        let z = t.pads k q at in
        let ne : number_of q ≢ p = λ same. n (ap m.plan.owner (sym same) ∙ z.owner) in
        record { owner = z.owner; port_is = z.port_is; linked = linked_other o m p x rest q ne z.linked; waits = at_other p rest m.waits (number_of q) ne ∙ z.waits };
    mine = λ q own. let z = t.mine q own in record { pad = z.pad; at = z.at; number = z.number; uncut = z.uncut };
  }

  -- A pad of an element is another now, and at the moment m' so is what is told of that pad alone.
  pub part_pad : (S : Type 0) (m m' : Moment) (old new : Part E O e) (port : ℕ) (was is : Pad O) → PadSet old new port was is → m'.plan ≡ m.plan → m'.held ≡ m.held
      → ((q : ℕ) → q ≢ number_of was → m'.history q ≡ m.history q) → ((q : ℕ) → q ≢ number_of was → m'.waits q ≡ m.waits q)
      → PadLinked o m' is → m'.waits (number_of is) ≡ waits_at new port is → PartTied o S m old → PartTied o S m' new
  part_pad S m m' old new port was is s pl held hist waits linked now t = record {
    stood = t.stood;
    pads = each_set old.pads.items new.pads.items port is (λ k q. PortTied o m old.number k q (waits_at old k q)) (λ k q. PortTied o m' new.number k q (waits_at new k q)) s.set t.pads
        (λ k q ne at z.
        let other : number_of q ≢ number_of was = λ w. ne (sym z.port_is ∙ ap m.plan.port w ∙ here.port_is) in
        record {
          owner = rw pl (z.owner ∙ sym s.number);
          port_is = rw pl z.port_is;
          linked = linked_same o m m' q pl held (hist (number_of q) other) z.linked;
          waits = waits (number_of q) other ∙ z.waits ∙ ap (λ (os : List Out). waiting_of q ++ on_port k os) (sym s.out);
        })
        (record {
          owner = rw pl (ap m.plan.owner (same_number is was s.shape) ∙ here.owner ∙ sym s.number);
          port_is = rw pl (ap m.plan.port (same_number is was s.shape) ∙ here.port_is);
          linked = linked;
          waits = now;
        });
    mine = λ q own. has_same old.pads.items new.pads.items m m' q pl (set_shape old new port was is s) (t.mine q (ap (λ z. z.owner q) (sym pl) ∙ own ∙ s.number));
  }
    where
      here : PortTied o m old.number port was (waits_at old port was)
      here = t.pads port was s.at

-- what waits at a pad whose element is fed, and at another
pub waits_fed : (m : Moment) (n : ℕ) (took : List (List Call)) (out : ℕ → List Item) (q : ℕ) → m.plan.owner q ≡ n → (fed n took out m).waits q ≡ m.waits q ++ out (m.plan.port q)
waits_fed m n took out q own = go (eqb_tells (m.plan.owner q) n)
  where
    go : ((eqb (m.plan.owner q) n ≡ true) × (m.plan.owner q ≡ n)) ⊎ ((eqb (m.plan.owner q) n ≡ false) × (m.plan.owner q ≡ n → ⊥))
        → (if eqb (m.plan.owner q) n then m.waits q ++ out (m.plan.port q) else m.waits q) ≡ m.waits q ++ out (m.plan.port q)
    go (inl t) = rw t.0 refl
    go (inr t) = absurd (t.1 own)

pub waits_else : (m : Moment) (n : ℕ) (took : List (List Call)) (out : ℕ → List Item) (q : ℕ) → m.plan.owner q ≢ n → (fed n took out m).waits q ≡ m.waits q
waits_else m n took out q other = go (eqb_tells (m.plan.owner q) n)
  where
    go : ((eqb (m.plan.owner q) n ≡ true) × (m.plan.owner q ≡ n)) ⊎ ((eqb (m.plan.owner q) n ≡ false) × (m.plan.owner q ≡ n → ⊥))
        → (if eqb (m.plan.owner q) n then m.waits q ++ out (m.plan.port q) else m.waits q) ≡ m.waits q
    go (inl t) = absurd (other t.1)
    go (inr t) = rw t.0 refl

module _ {E O L : Type 0} {e : elements.Ghosts E} (o : outlets.Ghosts O L) where
  -- another element is fed
  pub part_else : (S : Type 0) (m : Moment) (n : ℕ) (took : List (List Call)) (out : ℕ → List Item) (part : Part E O e) → part.number ≢ n → PartTied o S m part → PartTied o S (fed n took out m) part
  part_else S m n took out part other t = record {
    stood = t.stood;
    pads = λ k q at.
        let z = t.pads k q at in
        record { owner = z.owner; port_is = z.port_is; linked = linked_fed o m n took out q z.linked; waits = waits_else m n took out (number_of q) (λ own. other (sym z.owner ∙ own)) ∙ z.waits };
    mine = λ q own. let z = t.mine q own in record { pad = z.pad; at = z.at; number = z.number; uncut = z.uncut };
  }

  -- the element was fed, and more waits at its pads
  pub part_fed : (S S' : Type 0) (m : Moment) (took : List (List Call)) (more : List Out) (old new : Part E O e) → new.number ≡ old.number → map pad_shape new.pads.items ≡ map pad_shape old.pads.items → PadsGrew old new more → S'
      → PartTied o S m old → PartTied o S' (fed old.number took (λ port. on_port port more) m) new
  part_fed S S' m took more old new number shape grew stood t = record {
    stood = stood;
    pads = λ k q at.
        let w = grew k q at in
        let z = t.pads k w.was w.at in
        let m' : Moment = fed old.number took (λ port. on_port port more) m in
        let same : number_of q ≡ number_of w.was = same_number q w.was (shape_rest w.was q w.rest) in
        record {
          owner = ap m.plan.owner same ∙ z.owner ∙ sym number;
          port_is = ap m.plan.port same ∙ z.port_is;
          linked = linked_fed o m old.number took (λ port. on_port port more) q (linked_rest o m w.was q w.rest z.linked);
          waits = ap m'.waits same ∙ waits_fed m old.number took (λ port. on_port port more) (number_of w.was) z.owner
              ∙ ap (λ ys. ys ++ on_port (m.plan.port (number_of w.was)) more) z.waits ∙ ap (λ n. waits_at old k w.was ++ on_port n more) z.port_is ∙ sym w.waits;
        };
    mine = λ q own. has_same old.pads.items new.pads.items m (fed old.number took (λ port. on_port port more) m) q refl shape (t.mine q (own ∙ number));
  }

  -- what was put out went on to the pads, and nothing else changed
  pub part_settled : (S S' : Type 0) (m : Moment) (old new : Part E O e) → new.number ≡ old.number → map pad_shape new.pads.items ≡ map pad_shape old.pads.items → PadsGrew old new [] → S' → PartTied o S m old → PartTied o S' m new
  part_settled S S' m old new number shape grew stood t = record {
    stood = stood;
    pads = λ k q at.
        let w = grew k q at in
        let z = t.pads k w.was w.at in
        let same : number_of q ≡ number_of w.was = same_number q w.was (shape_rest w.was q w.rest) in
        record {
          owner = ap m.plan.owner same ∙ z.owner ∙ sym number;
          port_is = ap m.plan.port same ∙ z.port_is;
          linked = linked_rest o m w.was q w.rest z.linked;
          waits = ap m.waits same ∙ z.waits ∙ sym (append-nil (waits_at old k w.was)) ∙ sym w.waits;
        };
    mine = λ q own. has_same old.pads.items new.pads.items m m q refl shape (t.mine q (own ∙ number));
  }

-- what another sink pad took
pub took_other : (i j : ℕ) (cs : List Call) (ts : List (List Call)) (got : List Item) → (i ≡ j → ⊥) → TookAt i ts got → TookAt i (push_calls j cs ts) got
took_other i j cs [] got n t = absurd t
took_other zero zero cs (t ∷ ts) got n q = absurd (n refl)
took_other zero (suc j) cs (t ∷ ts) got n q = q
took_other (suc i) zero cs (t ∷ ts) got n q = q
took_other (suc i) (suc j) cs (t ∷ ts) got n q = took_other i j cs ts got (λ k. n (ap suc k)) q

-- what the sink pad took that is fed
pub took_more : (i : ℕ) (ts : List (List Call)) (got : List Item) (x : Item) → TookAt i ts got → TookAt i (push_calls i (Feed x ∷ []) ts) (got ++ x ∷ [])
took_more i [] got x t = absurd t
took_more zero (t ∷ ts) got x q = ap (λ (cs : List Call). cs ++ Feed x ∷ []) q ∙ sym (feeds_more got x)
took_more (suc i) (t ∷ ts) got x q = took_more i ts got x q

-- the head does not feed this sink pad
abbrev pub IsNotFed : {S I O : Type 0} {s : sources.Ghosts S} → ℕ → ℕ → Head S I O s → Type 0
IsNotFed n i (Source head) = Unit {0}
IsNotFed {I = I} n i (Inlets head) = head.number ≡ n → (port : ℕ) (row : InletRow I) → slice_get head.rows.items port ≡ Some row → port ≡ i → ⊥

module _ {S E O L : Type 0} {s : sources.Ghosts S} {e : elements.Ghosts E} (o : outlets.Ghosts O L) where
  -- a source seen at another moment, which tells the same of it
  pub source_same : (lost : List Item) (m m' : Moment) (head : SourceHead S O s) (parts parts' : List (Part E O e)) → m'.plan ≡ m.plan → m'.held ≡ m.held
      → m'.history (number_of head.pad) ≡ m.history (number_of head.pad) → m'.waits (number_of head.pad) ≡ m.waits (number_of head.pad) → map part_shape parts' ≡ map part_shape parts
      → SourceTied o lost m head parts → SourceTied o lost m' head parts'
  source_same lost m m' head parts parts' pl held hist waits shape t = record {
    owner = rw pl t.owner;
    mine = rw pl t.mine;
    linked = linked_same o m m' head.pad pl held hist t.linked;
    gave = rw (hist, waits) t.gave;
    given = rw hist t.given;
    apart = none_is_same parts parts' head.number shape t.apart;
  }

module _ {S E I O L : Type 0} {s : sources.Ghosts S} {e : elements.Ghosts E} (i : inlets.Ghosts I L O) (o : outlets.Ghosts O L) where
  -- the head, where the elements are of the same shapes
  pub head_same : (lost : ℕ → List Item) (m : Moment) (head : Head S I O s) (parts parts' : List (Part E O e)) → map part_shape parts' ≡ map part_shape parts → HeadTied i o lost m head parts → HeadTied i o lost m head parts'
  head_same lost m (Source head) parts parts' shape t = source_same o (lost 0) m m head parts parts' refl refl refl refl shape t
  head_same lost m (Inlets head) parts parts' shape t = λ port row at.
      let z = t port row at in
      record { all = z.all; gave = z.gave; got = z.got; whole = z.whole; took = z.took; apart = none_leads_same parts parts' head.number port shape z.apart }

  -- the head, where an item crosses a pad of an element
  pub head_crossed : (lost : ℕ → List Item) (m : Moment) (p : ℕ) (x : Item) (rest : List Item) (head : Head S I O s) (parts parts' : List (Part E O e)) (j : ℕ) (part : Part E O e)
      → slice_get parts j ≡ Some part → m.plan.owner p ≡ part.number → map part_shape parts' ≡ map part_shape parts → HeadTied i o lost m head parts → HeadTied i o lost (crossed p x rest m) head parts'
  head_crossed lost m p x rest (Source head) parts parts' j part at own shape t =
      let ne : number_of head.pad ≢ p = λ same. t.apart j part at (sym own ∙ sym (ap m.plan.owner same) ∙ t.owner) in
      source_same o (lost 0) m (crossed p x rest m) head parts parts' refl refl (at_other p (m.history p ++ x ∷ []) m.history (number_of head.pad) ne) (at_other p rest m.waits (number_of head.pad) ne) shape t
  head_crossed lost m p x rest (Inlets head) parts parts' j part at own shape t = λ port row row_at.
      let z = t port row row_at in
      record { all = z.all; gave = z.gave; got = z.got; whole = z.whole; took = z.took; apart = none_leads_same parts parts' head.number port shape z.apart }

  -- the head, where an element was fed on a sink pad that the head does not feed
  pub head_fed : (lost : ℕ → List Item) (m : Moment) (n sink : ℕ) (x : Item) (out : ℕ → List Item) (head : Head S I O s) (parts parts' : List (Part E O e)) (j : ℕ) (part : Part E O e)
      → slice_get parts j ≡ Some part → part.number ≡ n → map part_shape parts' ≡ map part_shape parts → IsNotFed n sink head → HeadTied i o lost m head parts
      → HeadTied i o lost (fed n (push_calls sink (Feed x ∷ []) (m.took n)) out m) head parts'
  head_fed lost m n sink x out (Source head) parts parts' j part at own shape apart t =
      source_same o (lost 0) m (fed n (push_calls sink (Feed x ∷ []) (m.took n)) out m) head parts parts' refl refl refl
      (waits_else m n (push_calls sink (Feed x ∷ []) (m.took n)) out (number_of head.pad) (λ same. t.apart j part at (own ∙ sym same ∙ t.owner))) shape t
  head_fed lost m n sink x out (Inlets head) parts parts' j part at own shape apart t = λ port row row_at.
      let z = t port row row_at in
      record { all = z.all; gave = z.gave; got = z.got; whole = z.whole; took = took_fed port row row_at z.got z.took (cases_eq head.number n); apart = none_leads_same parts parts' head.number port shape z.apart }
    where
      took_fed : (port : ℕ) (row : InletRow I) → slice_get head.rows.items port ≡ Some row → (got : List Item) → TookAt port (m.took head.number) got → ((head.number ≡ n) ⊎ (head.number ≡ n → ⊥))
          → TookAt port ((fed n (push_calls sink (Feed x ∷ []) (m.took n)) out m).took head.number) got
      took_fed port row row_at got took (inl same) =
          subst (λ k. TookAt port ((fed n (push_calls sink (Feed x ∷ []) (m.took n)) out m).took k) got) (sym same)
          (subst (λ (ts : List (List Call)). TookAt port ts got) (sym (at_here n (push_calls sink (Feed x ∷ []) (m.took n)) m.took))
          (took_other port sink (Feed x ∷ []) (m.took n) got (apart same port row row_at) (subst (λ k. TookAt port (m.took k) got) same took)))
      took_fed port row row_at got took (inr other) = subst (λ (ts : List (List Call)). TookAt port ts got) (sym (at_other n (push_calls sink (Feed x ∷ []) (m.took n)) m.took head.number other)) took

-- what a moment tells of an element hangs on its pads alone
pub part_at : {E O L : Type 0} {e : elements.Ghosts E} (o : outlets.Ghosts O L) (S : Type 0) (m m' : Moment) (part : Part E O e) → m'.plan ≡ m.plan → m'.held ≡ m.held
    → ((q : ℕ) → m.plan.owner q ≡ part.number → m'.history q ≡ m.history q) → ((q : ℕ) → m.plan.owner q ≡ part.number → m'.waits q ≡ m.waits q) → PartTied o S m part → PartTied o S m' part
part_at o S m m' part pl held hist waits t = record {
  stood = t.stood;
  pads = λ k q at.
      let z = t.pads k q at in
      record { owner = rw pl z.owner; port_is = rw pl z.port_is; linked = linked_same o m m' q pl held (hist (number_of q) z.owner) z.linked; waits = waits (number_of q) z.owner ∙ z.waits };
  mine = λ q own. has_same part.pads.items part.pads.items m m' q pl refl (t.mine q (ap (λ z. z.owner q) (sym pl) ∙ own));
}

-- the element is another now, and its pads are the same
pub part_fell : {E O L : Type 0} {e : elements.Ghosts E} (o : outlets.Ghosts O L) (S S' : Type 0) (m : Moment) (old new : Part E O e) → new.number ≡ old.number → new.pads ≡ old.pads → new.out ≡ old.out → S' → PartTied o S m old → PartTied o S' m new
part_fell {O = O} o S S' m old new number pads out stood t = record {
  stood = stood;
  pads = λ k q at.
      let z = t.pads k q (ap (λ (v : _). slice_get v.items k) (sym pads) ∙ at) in
      record { owner = z.owner ∙ sym number; port_is = z.port_is; linked = z.linked; waits = z.waits ∙ ap (λ (os : List Out). waiting_of q ++ on_port k os) (sym out) };
  mine = λ q own. rw pads (t.mine q (own ∙ number));
}

-- the head at another moment, which tells the same of it
pub head_at : {S E I O L : Type 0} {s : sources.Ghosts S} {e : elements.Ghosts E} (i : inlets.Ghosts I L O) (o : outlets.Ghosts O L) (lost : ℕ → List Item) (m m' : Moment) (head : Head S I O s) (parts parts' : List (Part E O e))
    → m'.plan ≡ m.plan → m'.held ≡ m.held → m'.took ≡ m.took → ((q : ℕ) → NoneIs parts (m.plan.owner q) → m'.history q ≡ m.history q) → ((q : ℕ) → NoneIs parts (m.plan.owner q) → m'.waits q ≡ m.waits q)
    → map part_shape parts' ≡ map part_shape parts → HeadTied i o lost m head parts → HeadTied i o lost m' head parts'
head_at i o lost m m' (Source head) parts parts' pl held took hist waits shape t =
    let apart : NoneIs parts (m.plan.owner (number_of head.pad)) = subst (NoneIs parts) (sym t.owner) t.apart in
    source_same o (lost 0) m m' head parts parts' pl held (hist (number_of head.pad) apart) (waits (number_of head.pad) apart) shape t
head_at i o lost m m' (Inlets head) parts parts' pl held took hist waits shape t = λ port row at.
    let z = t port row at in
    record { all = z.all; gave = z.gave; got = z.got; whole = z.whole; took = rw took z.took; apart = none_leads_same parts parts' head.number port shape z.apart }
