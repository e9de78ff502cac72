-- An element of a task takes items from control.
use Rattle.std.proofs.Common.{◌≡◌, ◌≢◌, ◌<◌, ◌⊎◌, ◌++◌, ◌==◌, ◌+◌, ℕ, zero, suc, Bool, true, false, if◌then◌else◌, List, [], ◌∷◌, map, length, Option, None, Some, Result, Ok, Err, refl, sym, ap, ◌∙◌, subst, inl, inr, arith, append-nil, append_assoc}
use Rattle.std.specs.Prelude.{IfErr, OnOk, slice_get, sum_by}
use Rattle.std.proofs.lemmas.Bool.{cases_eq}
use Rattle.std.proofs.lemmas.List.{length-map}
use Rattle.std.proofs.lemmas.Option.{slice_get_within}
use Rattle.flow_model.specs.Call.{Call, Feed, Act, feeds}
use Rattle.flow_model.specs.Item.{Item, is_flush_stop}
use Rattle.flow_model.specs.Rule.{Owed, Rule}
use Rattle.flow_model.specs.SinkPads.{InSection, flush_stops_given, push_calls}
use Rattle.flow_model.proofs.Calls.{feeds_push}
use Rattle.flow_model.proofs.Items.{none_first}
use Rattle.gst_item.specs.Sticky.{has_flush_stop}
use Rattle.gst_item.specs.declared.out.Out.{Out}
use Rattle.gst_outside.specs.Causes.{NeverFalls}
use Rattle.inlet_row.specs.declared.row.InletRow.{InletRow}
use Rattle.lane_core.specs.Lane.{Lane}
use Rattle.lane_core.specs.declared.ends.Inlet as inlets
use Rattle.lane_core.specs.declared.ends.Outlet as outlets
use Rattle.flow_model.specs.Moment.{Moment, behavior_at}
use Rattle.flow_model.specs.Pad.{Grows}
use Rattle.flow_model.specs.Refuses.{RefusesBy}
use Rattle.flow_model.specs.Step.{fed}
use Rattle.flow_model.specs.Takes.{OwesMore, on_port}
use Rattle.flow_model.specs.declared.element.TaskElement as elements
use Rattle.flow_model.specs.declared.refusal.Refusal.{Refusal}
use Rattle.flow_model.specs.declared.source.TaskSource as sources
use Rattle.flow_model.proofs.Inputs.{at_here, at_other}
use Rattle.net_task.specs.Failed.{StandsOrFell}
use Rattle.net_task.specs.Frame.{HeadFrame, PartFrame, TaskFrame, frame_in, head_frame}
use Rattle.net_task.specs.Fuel.{head_left, part_left}
use Rattle.net_task.specs.Ready.{AreReady, HeadApart, WiresApart}
use Rattle.net_task.specs.Ties.{AreTied, HeadTied, PartTied, PartsTied, Stands, TookAt, nothing_lost}
use Rattle.net_task.proofs.Bare.{Bare, bare, bare_by, bare_fed, bare_fell, bare_frames, bare_lefts, bare_ready, bare_set, bare_shapes}
use Rattle.net_task.proofs.Tied.{none_leads_same, part_else, part_fed, part_fell, part_known, parts_set, source_same, took_other, waits_else}
use Rattle.task_pads.specs.declared.pad.Pad.{Pad}
use Rattle.pad_core.specs.SrcPad.{state_of}
use Rattle.task_pads.specs.Behind.{goes}
use Rattle.task_pads.specs.Pads.{PadShape, Rest, number_of, pad_shape, rest_of}
use Rattle.task_parts.proofs.Lists.{map_over}
use Rattle.task_parts.specs.Part.{PartFed, PartFell, waits_at}
use Rattle.task_parts.specs.Shape.{HeadShape, PartShape, TaskShape, head_shape, is_closed, part_shape, shape_of}
use Rattle.task_parts.specs.Fault.{refusal_fault}
use Rattle.task_parts.specs.declared.fault.TaskFault.{TaskFault}
use Rattle.task_parts.specs.declared.head.Head.{Head}
use Rattle.task_parts.specs.declared.head.Head.TheVariants.{Source, Inlets}
use Rattle.task_parts.specs.declared.part.Part.{Part}
use Rattle.task_edits.specs.Feeding.{AnswersAll, PartStopped, PartTook, StoppedIn, TookIn, given}
use Rattle.task_edits.specs.Inside.{HasNoRow}

-- ---- lists of calls

pub push_nothing : (i : ℕ) (css : List (List Call)) → push_calls i [] css ≡ css
push_nothing i [] = refl
push_nothing zero (cs ∷ css) = ap (λ (ds : List Call). ds ∷ css) (append-nil cs)
push_nothing (suc i) (cs ∷ css) = ap (λ (dss : List (List Call)). cs ∷ dss) (push_nothing i css)

pub push_twice : (i : ℕ) (cs ds : List Call) (css : List (List Call)) → push_calls i ds (push_calls i cs css) ≡ push_calls i (cs ++ ds) css
push_twice i cs ds [] = refl
push_twice zero cs ds (es ∷ css) = ap (λ (fs : List Call). fs ∷ css) (append_assoc es cs ds)
push_twice (suc i) cs ds (es ∷ css) = ap (λ (dss : List (List Call)). es ∷ dss) (push_twice i cs ds css)

none_given : (xs : List Item) → has_flush_stop xs ≡ false → flush_stops_given (feeds xs) ≡ 0
none_given [] h = refl
none_given (x ∷ xs) h = let z = none_first x xs h in rw z.0 (none_given xs z.1)

given_more : (cs : List Call) (xs : List Item) → has_flush_stop xs ≡ false → flush_stops_given (cs ++ feeds xs) ≡ flush_stops_given cs
given_more [] xs h = none_given xs h
given_more (Feed x ∷ cs) xs h = ap (λ (n : ℕ). if is_flush_stop x then suc n else n) (given_more cs xs h)
given_more (Act mark ∷ cs) xs h = given_more cs xs h

-- items without FLUSH_STOP leave the section open
pub section_more : (n i : ℕ) (xs : List Item) (css : List (List Call)) → has_flush_stop xs ≡ false → InSection n css → InSection n (push_calls i (feeds xs) css)
section_more n i xs [] h s = s
section_more n zero xs (cs ∷ css) h s = (given_more cs xs h ∙ s.0, s.1)
section_more n (suc i) xs (cs ∷ css) h s = (s.0, section_more n i xs css h s.1)

free_front : (xs ys : List Item) → has_flush_stop (xs ++ ys) ≡ false → has_flush_stop xs ≡ false
free_front [] ys h = refl
free_front (x ∷ xs) ys h = let z = none_first x (xs ++ ys) h in rw z.0 (free_front xs ys z.1)

free_back : (xs ys : List Item) → has_flush_stop (xs ++ ys) ≡ false → has_flush_stop ys ≡ false
free_back [] ys h = h
free_back (x ∷ xs) ys h = free_back xs ys (none_first x (xs ++ ys) h).1

on_port_append : (port : ℕ) (outs more : List Out) → on_port port (outs ++ more) ≡ on_port port outs ++ on_port port more
on_port_append port [] more = refl
on_port_append port (o ∷ os) more = go (on_port_append port os more) (o.pad == port)
  where
    go : on_port port (os ++ more) ≡ on_port port os ++ on_port port more → (b : Bool) → (if b then o.item ∷ on_port port (os ++ more) else on_port port (os ++ more)) ≡ (if b then o.item ∷ on_port port os else on_port port os) ++ on_port port more
    go e true = ap (λ (xs : List Item). o.item ∷ xs) e
    go e false = e

-- what is owed more, and then more
pub grows_more : (j : ℕ) (cs : List (ℕ × ℕ)) (a b c : Owed) (xs ys : List Item) → Grows j cs a b xs → Grows j cs b c ys → Grows j cs a c (xs ++ ys)
grows_more j [] a b c xs ys f g = g ∙ ap (λ (zs : List Item). zs ++ ys) f ∙ append_assoc (a j) xs ys
grows_more j (d ∷ ds) a b c xs ys f g = (g.0 ∙ f.0, grows_more (suc j) ds a b c xs ys f.1 g.1)

owes_more : (ports : ℕ) (rule : Rule) (a b c : List (List Call)) (xs ys : List Out) → ((n : ℕ) → InSection n a → InSection n b) → OwesMore ports rule a b xs → OwesMore ports rule b c ys → OwesMore ports rule a c (xs ++ ys)
owes_more ports rule a b c xs ys opens f g cuts section port low =
    subst (Grows 0 cuts (rule a port) (rule c port)) (sym (on_port_append port xs ys))
    (grows_more 0 cuts (rule a port) (rule b port) (rule c port) (on_port port xs) (on_port port ys) (f cuts section port low) (g cuts (opens (length cuts) section) port low))

owes_none : (ports : ℕ) (rule : Rule) (a b : List (List Call)) → b ≡ a → OwesMore ports rule a b []
owes_none ports rule a b same cuts section port low = subst (λ (c : List (List Call)). Grows 0 cuts (rule a port) (rule c port) []) (sym same) (none 0 cuts (rule a port))
  where
    none : (j : ℕ) (cs : List (ℕ × ℕ)) (o : Owed) → Grows j cs o o []
    none j [] o = sym (append-nil (o j))
    none j (c ∷ cs) o = (refl, none (suc j) cs o)

falls_none : (a : Option ℕ) → NeverFalls a a
falls_none None = tt
falls_none (Some n) = omega arith

falls_more : (a b c : Option ℕ) → NeverFalls a b → NeverFalls b c → NeverFalls a c
falls_more None None None f g = tt
falls_more None None (Some z) f g = g
falls_more None (Some y) c f g = absurd f
falls_more (Some x) None c f g = absurd f
falls_more (Some x) (Some y) None f g = g
falls_more (Some x) (Some y) (Some z) f g = omega (arith, f, g)

-- pads that are the same but for what waits there are of the same shapes
abbrev rest_shape : {O : Type 0} → Rest O → PadShape
rest_shape r = record { number = (state_of r.src).number; goes = goes r.behind }

shapes_of : {O : Type 0} (ps qs : List (Pad O)) → map rest_of ps ≡ map rest_of qs → map pad_shape ps ≡ map pad_shape qs
shapes_of {O = O} ps qs same = map_over rest_shape rest_of pad_shape (λ (p : Pad O). refl) ps ∙ ap (λ (rs : List (Rest O)). map rest_shape rs) same ∙ sym (map_over rest_shape rest_of pad_shape (λ (p : Pad O). refl) qs)

-- ---- one element

module _ {E O : Type 0} {e : elements.Ghosts E} where
  pub took_none : (part : Part E O e) (pad : ℕ) → PartTook part part pad []
  took_none part pad = record {
    number = refl;
    more = [];
    stands_now = λ behavior took st. subst (e.stands part.element behavior) (sym (push_nothing pad took)) st;
    owes = λ behavior took st. owes_none (e.ports part.element) behavior.owes took (push_calls pad [] took) (push_nothing pad took);
    pads = λ port p at. record { was = p; at = at; rest = refl; waits = sym (append-nil (waits_at part port p)) };
    rests = refl;
    never_falls = falls_none (e.failures part.element);
    file = refl;
  }

  same_ports : (old new : Part E O e) → map rest_of new.pads.items ≡ map rest_of old.pads.items → e.ports new.element ≡ e.ports old.element
  same_ports old new rests =
      let a = old.ports in
      let b = new.ports in
      let c : length new.pads.items ≡ length old.pads.items = sym (length-map new.pads.items rest_of) ∙ ap (λ (rs : List (Rest O)). length rs) rests ∙ length-map old.pads.items rest_of in
      omega (arith, a, b, c, old.pads.ok.0, new.pads.ok.0)

  -- one item more
  pub took_more : (old between new : Part E O e) (pad : ℕ) (front : List Item) (x : Item) → has_flush_stop front ≡ false → PartTook old between pad front → PartFed between new pad x → part_shape new ≡ part_shape between → PartTook old new pad (front ++ x ∷ [])
  took_more old between new pad front x calm t f shape = record {
    number = f.number ∙ t.number;
    more = t.more ++ f.more;
    stands_now = λ behavior took st. subst (e.stands new.element behavior) (pushed took) (f.stands_now behavior (push_calls pad (feeds front) took) (t.stands_now behavior took st));
    owes = λ behavior took st.
        subst (λ (css : List (List Call)). OwesMore (e.ports old.element) behavior.owes took css (t.more ++ f.more)) (pushed took)
        (owes_more (e.ports old.element) behavior.owes took (push_calls pad (feeds front) took) (push_calls pad (Feed x ∷ []) (push_calls pad (feeds front) took)) t.more f.more (λ n s. section_more n pad front took calm s)
        (t.owes behavior took st)
        (subst (λ (n : ℕ). OwesMore n behavior.owes (push_calls pad (feeds front) took) (push_calls pad (Feed x ∷ []) (push_calls pad (feeds front) took)) f.more) (same_ports old between t.rests)
        (f.owes behavior (push_calls pad (feeds front) took) (t.stands_now behavior took st))));
    pads = λ port p at.
        let w = f.pads port p at in
        let z = t.pads port w.was w.at in
        record {
          was = z.was;
          at = z.at;
          rest = w.rest ∙ z.rest;
          waits = w.waits ∙ ap (λ (l : List Item). l ++ on_port port f.more) z.waits ∙ append_assoc (waits_at old port z.was) (on_port port t.more) (on_port port f.more)
              ∙ ap (λ (l : List Item). waits_at old port z.was ++ l) (sym (on_port_append port t.more f.more));
        };
    rests = ap (λ (b : Bare O). b.rests) (bare_now) ∙ t.rests;
    never_falls = falls_more (e.failures old.element) (e.failures between.element) (e.failures new.element) t.never_falls f.never_falls;
    file = f.file ∙ t.file;
  }
    where
      pushed : (took : List (List Call)) → push_calls pad (Feed x ∷ []) (push_calls pad (feeds front) took) ≡ push_calls pad (feeds (front ++ x ∷ [])) took
      pushed took = push_twice pad (feeds front) (Feed x ∷ []) took ∙ ap (λ (cs : List Call). push_calls pad cs took) (sym (feeds_push front x))

      bare_now : bare new ≡ bare between
      bare_now = bare_fed between new pad x f shape

  same_bare : (was is : Part E O e) → is.number ≡ was.number → e.file is.element ≡ e.file was.element → map rest_of is.pads.items ≡ map rest_of was.pads.items → bare is ≡ bare was
  same_bare was is number file rests =
      ap (λ (n : ℕ). bare_by n (e.file is.element) (map rest_of is.pads.items)) number
      ∙ ap (λ (f : Option (Option (List ℕ))). bare_by was.number f (map rest_of is.pads.items)) file
      ∙ ap (λ (rs : List (Rest O)). bare_by was.number (e.file was.element) rs) rests

  -- but for what waits at its pads it is as it was
  took_bare : (old new : Part E O e) (pad : ℕ) (items : List Item) → PartTook old new pad items → bare new ≡ bare old
  took_bare old new pad items t = same_bare old new t.number t.file t.rests

  pub took_in_bare : (parts parts' : List (Part E O e)) (element pad : ℕ) (items : List Item) → TookIn parts parts' element pad items → map bare parts' ≡ map bare parts
  took_in_bare parts parts' element pad items t = bare_set parts parts' t.place t.was t.is t.set (took_bare t.was t.is pad items t.took)

  pub stopped_in_bare : (parts parts' : List (Part E O e)) (element pad : ℕ) (items : List Item) (fault : _) → StoppedIn parts parts' element pad items fault → map bare parts' ≡ map bare parts
  stopped_in_bare parts parts' element pad items fault t =
      bare_set parts parts' t.place t.was t.is t.set (bare_fell t.stopped.between t.is pad t.stopped.item t.refusal t.stopped.fell ∙ took_bare t.was t.stopped.between pad t.stopped.front t.stopped.took)

-- ---- a task, at a moment

module _ {S E I O L : Type 0} {s : sources.Ghosts S} {e : elements.Ghosts E} (i : inlets.Ghosts I L O) (o : outlets.Ghosts O L) where
  -- the head, where an element takes more on a sink pad of which it has no row
  head_took : (m : Moment) (n pad : ℕ) (cs : List Call) (out : ℕ → List Item) (head : Head S I O s) (parts parts' : List (Part E O e)) (j : ℕ) (part : Part E O e) → slice_get parts j ≡ Some part → part.number ≡ n
      → map part_shape parts' ≡ map part_shape parts → HasNoRow head n pad → HeadTied i o nothing_lost m head parts → HeadTied i o nothing_lost (fed n (push_calls pad cs (m.took n)) out m) head parts'
  head_took m n pad cs out (Source head) parts parts' j part at own shape none t =
      source_same o [] m (fed n (push_calls pad cs (m.took n)) out m) head parts parts' refl refl refl (waits_else m n (push_calls pad cs (m.took n)) out (number_of head.pad) (λ same. t.apart j part at (own ∙ sym same ∙ t.owner))) shape t
  head_took m n pad cs out (Inlets head) parts parts' j part at own shape none t = λ port row row_at.
      let z = t port row row_at in
      record { all = z.all; gave = z.gave; got = z.got; whole = z.whole; took = kept port row row_at z.got z.took (cases_eq head.number n); apart = none_leads_same parts parts' head.number port shape z.apart }
    where
      kept : (port : ℕ) (row : InletRow I) → slice_get head.rows.items port ≡ Some row → (got : List Item) → TookAt port (m.took head.number) got → ((head.number ≡ n) ⊎ (head.number ≡ n → ⊥))
          → TookAt port ((fed n (push_calls pad cs (m.took n)) out m).took head.number) got
      kept port row row_at got took (inl same) =
          let few = none same in
          let low = slice_get_within head.rows.items port row row_at in
          subst (λ (k : ℕ). TookAt port ((fed n (push_calls pad cs (m.took n)) out m).took k) got) (sym same)
          (subst (λ (ts : List (List Call)). TookAt port ts got) (sym (at_here n (push_calls pad cs (m.took n)) m.took))
          (took_other port pad cs (m.took n) got (λ at_pad. omega (arith, few, low, at_pad)) (subst (λ (k : ℕ). TookAt port (m.took k) got) same took)))
      kept port row row_at got took (inr other) = subst (λ (ts : List (List Call)). TookAt port ts got) (sym (at_other n (push_calls pad cs (m.took n)) m.took head.number other)) took

module _ {E O L : Type 0} {e : elements.Ghosts E} (o : outlets.Ghosts O L) (was is : Part E O e) (pad : ℕ) (items : List Item) (t : PartTook was is pad items) (m : Moment) where
  abbrev out_now : ℕ → List Item
  out_now = λ port. on_port port t.more

  abbrev now : Moment
  now = given was.number pad items out_now m

  -- the element, behind what it took
  part_took : (was_tied : PartTied o (Stands m was) m was) → PartTied o (Stands now is) now is
  part_took a =
      part_fed o (Stands m was) (Stands now is) m (push_calls pad (feeds items) (m.took was.number)) t.more was is t.number (shapes_of is.pads.items was.pads.items t.rests) t.pads
      (subst (λ (n : ℕ). e.stands is.element (behavior_at m n) (now.took n)) (sym t.number)
      (subst (e.stands is.element (behavior_at m was.number)) (sym (at_here was.number (push_calls pad (feeds items) (m.took was.number)) m.took)) (t.stands_now (behavior_at m was.number) (m.took was.number) a.stood)))
      a

  -- another one
  part_stays : (part : Part E O e) → part.number ≢ was.number → PartTied o (Stands m part) m part → PartTied o (Stands now part) now part
  part_stays part other a =
      part_known o (Stands m part) (Stands now part) now part (λ st. subst (e.stands part.element (behavior_at m part.number)) (sym (at_other was.number (push_calls pad (feeds items) (m.took was.number)) m.took part.number other)) st)
      (part_else o (Stands m part) m was.number (push_calls pad (feeds items) (m.took was.number)) out_now part other a)

  -- it puts out what it owes more
  answers_all : PartTied o (Stands m was) m was → AnswersAll m was.number pad items out_now
  answers_all a section q own =
      let has = a.mine q own in
      let low : m.plan.port q < length was.pads.items = slice_get_within was.pads.items (m.plan.port q) has.pad has.at in
      subst (λ (cs : List (ℕ × ℕ)). Grows 0 cs (m.plan.rule was.number (m.took was.number) (m.plan.port q)) (m.plan.rule was.number (push_calls pad (feeds items) (m.took was.number)) (m.plan.port q)) (on_port (m.plan.port q) t.more)) (sym has.uncut)
      (t.owes (behavior_at m was.number) (m.took was.number) a.stood [] section (m.plan.port q) (let count = was.ports in omega (arith, low, count, was.pads.ok.0)))

module _ {S E I O L : Type 0} {s : sources.Ghosts S} {e : elements.Ghosts E} (i : inlets.Ghosts I L O) (o : outlets.Ghosts O L) (head head' : Head S I O s) (parts parts' : List (Part E O e)) (element pad : ℕ) (items : List Item) (same : head' ≡ head) where
  -- A head and elements stand for a moment at which an element took items.
  pub record FedAs (m : Moment) : Type 0 where
    pub out : ℕ → List Item
    pub answers : AnswersAll m element pad items out
    pub tied : AreTied i o (Stands (given element pad items out m)) nothing_lost (given element pad items out m) head' parts'

  pub took_tied : TookIn parts parts' element pad items → (m : Moment) → AreTied i o (Stands m) nothing_lost m head parts → HasNoRow head element pad → FedAs m
  took_tied t m a none =
      let here = a.parts_tied.each t.place t.was t.set.at in
      record {
        out = out_now o t.was t.is pad items t.took m;
        answers = subst (λ (n : ℕ). AnswersAll m n pad items (out_now o t.was t.is pad items t.took m)) t.number (answers_all o t.was t.is pad items t.took m here);
        tied = subst (λ (n : ℕ). AreTied i o (Stands (given n pad items (out_now o t.was t.is pad items t.took m) m)) nothing_lost (given n pad items (out_now o t.was t.is pad items t.took m) m) head' parts') t.number
            (subst (λ (h : Head S I O s). AreTied i o (Stands (now o t.was t.is pad items t.took m)) nothing_lost (now o t.was t.is pad items t.took m) h parts') (sym same) (record {
              parts_tied = parts_set o (Stands m) (Stands (now o t.was t.is pad items t.took m)) m (now o t.was t.is pad items t.took m) parts parts' t.place t.was t.is t.set t.took.number (part_stays o t.was t.is pad items t.took m)
                  (part_took o t.was t.is pad items t.took m here) a.parts_tied;
              head_tied = head_took i o m t.was.number pad (feeds items) (out_now o t.was t.is pad items t.took m) head parts parts' t.place t.was t.set.at refl
                  (bare_shapes parts parts' (took_in_bare parts parts' element pad items t)) (subst (λ (n : ℕ). HasNoRow head n pad) (sym t.number) none) a.head_tied;
            }));
      }

  -- They stand for one at which it took those before one item, but for the element, which refused that one.
  pub record FedShortAs (m : Moment) (fault : TaskFault) : Type 0 where
    pub front : List Item
    pub item : Item
    pub rest : List Item
    pub whole : items ≡ front ++ item ∷ rest
    pub out : ℕ → List Item
    pub answers : AnswersAll m element pad front out
    pub tied : AreTied i o (StandsOrFell element pad item (given element pad front out m)) nothing_lost (given element pad front out m) head' parts'
    pub refusal : Refusal
    pub why : RefusesBy (behavior_at m element) (push_calls pad (feeds front) (m.took element)) pad item refusal
    pub fault_is : fault ≡ refusal_fault element refusal

  pub stopped_tied : (fault : TaskFault) → StoppedIn parts parts' element pad items fault → (m : Moment) → AreTied i o (Stands m) nothing_lost m head parts → HasNoRow head element pad → FedShortAs m fault
  stopped_tied fault t m a none =
      let here = a.parts_tied.each t.place t.was t.set.at in
      let f = t.stopped in
      let took : List (List Call) = push_calls pad (feeds f.front) (m.took t.was.number) in
      let stood = f.took.stands_now (behavior_at m t.was.number) (m.took t.was.number) here.stood in
      record {
        front = f.front;
        item = f.item;
        rest = f.rest;
        whole = f.whole;
        out = out_now o t.was f.between pad f.front f.took m;
        answers = subst (λ (n : ℕ). AnswersAll m n pad f.front (out_now o t.was f.between pad f.front f.took m)) t.number (answers_all o t.was f.between pad f.front f.took m here);
        tied = subst (λ (n : ℕ). AreTied i o (StandsOrFell n pad f.item (given n pad f.front (out_now o t.was f.between pad f.front f.took m) m)) nothing_lost (given n pad f.front (out_now o t.was f.between pad f.front f.took m) m) head' parts') t.number
            (subst (λ (h : Head S I O s). AreTied i o (StandsOrFell t.was.number pad f.item (now o t.was f.between pad f.front f.took m)) nothing_lost (now o t.was f.between pad f.front f.took m) h parts') (sym same) (record {
              parts_tied = fell_parts t m a;
              head_tied = head_took i o m t.was.number pad (feeds f.front) (out_now o t.was f.between pad f.front f.took m) head parts parts' t.place t.was t.set.at refl
                  (bare_shapes parts parts' (stopped_in_bare parts parts' element pad items fault t)) (subst (λ (n : ℕ). HasNoRow head n pad) (sym t.number) none) a.head_tied;
            }));
        refusal = t.refusal;
        why = subst (λ (n : ℕ). RefusesBy (behavior_at m n) (push_calls pad (feeds f.front) (m.took n)) pad f.item t.refusal) t.number (f.fell.refused (behavior_at m t.was.number) took stood);
        fault_is = t.fault_is;
      }
    where
      fell_parts : {fault : TaskFault} (t : StoppedIn parts parts' element pad items fault) (m : Moment) → AreTied i o (Stands m) nothing_lost m head parts
          → PartsTied o (StandsOrFell t.was.number pad t.stopped.item (now o t.was t.stopped.between pad t.stopped.front t.stopped.took m)) (now o t.was t.stopped.between pad t.stopped.front t.stopped.took m) parts'
      fell_parts t m a =
          let here = a.parts_tied.each t.place t.was t.set.at in
          let f = t.stopped in
          let m' : Moment = now o t.was f.between pad f.front f.took m in
          let Fell : Part E O e → Type 0 = StandsOrFell t.was.number pad f.item m' in
          parts_set o (Stands m) Fell m m' parts parts' t.place t.was t.is t.set (f.fell.number ∙ f.took.number)
          (λ p other z. part_known o (Stands m' p) (Fell p) m' p inl (part_stays o t.was f.between pad f.front f.took m p other z))
          (part_fell o (Stands m' f.between) (Fell t.is) m' f.between t.is f.fell.number f.fell.pads f.fell.out
          (inr (
            f.fell.number ∙ f.took.number,
            subst (λ (n : ℕ). e.fell t.is.element (behavior_at m n) (m'.took n) pad f.item) (sym (f.fell.number ∙ f.took.number))
                (subst (λ (ts : List (List Call)). e.fell t.is.element (behavior_at m t.was.number) ts pad f.item) (sym (at_here t.was.number (push_calls pad (feeds f.front) (m.took t.was.number)) m.took))
                (f.fell.fell (behavior_at m t.was.number) (push_calls pad (feeds f.front) (m.took t.was.number)) (f.took.stands_now (behavior_at m t.was.number) (m.took t.was.number) here.stood))),
          ))
          (part_took o t.was f.between pad f.front f.took m here))
          a.parts_tied

-- ---- what stays

module _ {S E I O L : Type 0} {s : sources.Ghosts S} {e : elements.Ghosts E} (i : inlets.Ghosts I L O) (o : outlets.Ghosts O L) (head head' : Head S I O s) (parts parts' : List (Part E O e)) (same : head' ≡ head) (bares : map bare parts' ≡ map bare parts) where
  pub bare_frame : frame_in o head' parts' ≡ frame_in o head parts
  bare_frame = ap (λ (h : Head S I O s). frame_in o h parts') same ∙ ap (λ (fs : List PartFrame). framed_by (head_frame o head) fs) (bare_frames o parts parts' bares)
    where
      framed_by : HeadFrame → List PartFrame → TaskFrame
      framed_by h fs = record { head = h; parts = fs }

  pub bare_closed : is_closed (shape_of head parts) ≡ true → is_closed (shape_of head' parts') ≡ true
  bare_closed closed = subst (λ (h : Head S I O s). is_closed (shape_of h parts') ≡ true) (sym same) (subst (λ (ps : List PartShape). is_closed (shaped_by (head_shape head) ps) ≡ true) (sym (bare_shapes parts parts' bares)) closed)
    where
      shaped_by : HeadShape → List PartShape → TaskShape
      shaped_by h ps = record { head = h; parts = ps }

  pub bare_left : head_left i head' + sum_by (λ part. part_left part) parts' ≡ head_left i head + sum_by (λ part. part_left part) parts
  bare_left = ap (λ (h : Head S I O s). head_left i h + sum_by (λ part. part_left part) parts') same ∙ ap (λ (n : ℕ). head_left i head + n) (bare_lefts parts parts' bares)

  pub bare_are_ready : (tells : Option (List Lane)) → AreReady i o tells head parts → AreReady i o tells head' parts'
  bare_are_ready tells r =
      let frames : frame_in o head parts' ≡ frame_in o head parts = sym (ap (λ (h : Head S I O s). frame_in o h parts') same) ∙ bare_frame in
      subst (λ (h : Head S I O s). AreReady i o tells h parts') (sym same) (record {
        parts_ready = bare_ready o tells parts parts' bares r.parts_ready;
        head_ready = r.head_ready;
        wires_apart = subst WiresApart (sym frames) r.wires_apart;
        head_apart = subst (λ (f : TaskFrame). HeadApart i f head) (sym frames) r.head_apart;
      })

-- ---- the loop

-- what an element took of the items, and what is left of them
pub record SoFar {E O : Type 0} {e : elements.Ghosts E} (old new : Part E O e) (pad : ℕ) (items rest : List Item) : Type 0 where
  pub front : List Item
  pub whole : items ≡ front ++ rest
  pub calm : has_flush_stop items ≡ false
  pub took : PartTook old new pad front

pub so_far_none : {E O : Type 0} {e : elements.Ghosts E} (part : Part E O e) (pad : ℕ) (items : List Item) → has_flush_stop items ≡ false → SoFar part part pad items items
so_far_none part pad items calm = record { front = []; whole = refl; calm = calm; took = took_none part pad }

pub so_far_calm : {E O : Type 0} {e : elements.Ghosts E} (old new : Part E O e) (pad : ℕ) (items : List Item) (x : Item) (rest : List Item) → SoFar old new pad items (x ∷ rest) → is_flush_stop x ≡ false
so_far_calm old new pad items x rest s = (none_first x rest (free_back s.front (x ∷ rest) (subst (λ (xs : List Item). has_flush_stop xs ≡ false) s.whole s.calm))).0

pub so_far_more : {E O : Type 0} {e : elements.Ghosts E} (old between new : Part E O e) (pad : ℕ) (items : List Item) (x : Item) (rest : List Item) → SoFar old between pad items (x ∷ rest) → PartFed between new pad x → part_shape new ≡ part_shape between
    → SoFar old new pad items rest
so_far_more old between new pad items x rest s f shape = record {
  front = s.front ++ x ∷ [];
  whole = s.whole ∙ sym (append_assoc s.front (x ∷ []) rest);
  calm = s.calm;
  took = took_more old between new pad s.front x (free_front s.front (x ∷ rest) (subst (λ (xs : List Item). has_flush_stop xs ≡ false) s.whole s.calm)) s.took f shape;
}

pub so_far_stopped : {E O : Type 0} {e : elements.Ghosts E} (old between new : Part E O e) (pad : ℕ) (items : List Item) (x : Item) (rest : List Item) (refusal : Refusal) → SoFar old between pad items (x ∷ rest) → PartFell between new pad x refusal
    → PartStopped old new pad items refusal
so_far_stopped old between new pad items x rest refusal s f = record { front = s.front; item = x; rest = rest; whole = s.whole; between = between; took = s.took; fell = f }

pub so_far_all : {E O : Type 0} {e : elements.Ghosts E} (old new : Part E O e) (pad : ℕ) (items : List Item) → SoFar old new pad items [] → PartTook old new pad items
so_far_all old new pad items s = subst (PartTook old new pad) (sym (s.whole ∙ append-nil s.front)) s.took

-- ---- what came of it

module _ {E O : Type 0} {e : elements.Ghosts E} where
  pub fed_bares : (result : Result (Unit {0}) TaskFault) (parts parts' : List (Part E O e)) (element pad : ℕ) (items : List Item) → OnOk result (TookIn parts parts' element pad items) → IfErr result (StoppedIn parts parts' element pad items)
      → map bare parts' ≡ map bare parts
  fed_bares (Ok done) parts parts' element pad items took stopped = took_in_bare parts parts' element pad items took
  fed_bares (Err fault) parts parts' element pad items took stopped = stopped_in_bare parts parts' element pad items fault stopped

pub none_left : {A : Type 0} (xs : List A) → length xs ≡ 0 → xs ≡ []
none_left [] size = refl
none_left (x ∷ xs) size = absurd (omega (arith, size))
