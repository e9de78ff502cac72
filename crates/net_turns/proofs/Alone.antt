-- A row that holds one lane, or nothing, does so behind each step of a run.
use Rattle.std.proofs.Common.{◌≡◌, ◌++◌, ◌⊎◌, ℕ, Bool, false, List, [], ◌∷◌, Option, None, Some, inl, inr, refl, sym, ap, ◌∙◌, subst, ⊎_elim}
use Rattle.std.specs.Prelude.{slice_get, slice_set}
use Rattle.std.proofs.lemmas.Bool.{cases_eq, false≢true}
use Rattle.flow_model.specs.Item.{Item, is_flush_stop}
use Rattle.gst_item.specs.Sticky.{has_flush_stop}
use Rattle.lane_core.specs.Lane.{Lane}
use Rattle.lane_core.specs.declared.ends.Inlet as inlets
use Rattle.lane_core.specs.declared.ends.Outlet as outlets
use Rattle.flow_model.specs.Moment.{Moment}
use Rattle.flow_model.specs.declared.element.TaskElement as elements
use Rattle.flow_model.specs.declared.source.TaskSource as sources
use Rattle.inlet_row.specs.declared.feeding.Feeding.{Feeding}
use Rattle.inlet_row.specs.declared.feeding.Feeding.TheVariants.{Given, Lane as OfLane}
use Rattle.inlet_row.specs.Taken.{Taken}
use Rattle.inlet_row.specs.Taken as takes
use Rattle.inlet_row.specs.declared.row.InletRow.{InletRow}
use Rattle.inlet_row.specs.Row.{feeds_of}
use Rattle.inlet_row.specs.Take.{AsksLane, LosesGiven, Moves}
use Rattle.turn_order.specs.declared.order.Order.{Order}
use Rattle.task_parts.specs.declared.fault.TaskFault.{TaskFault}
use Rattle.task_parts.specs.declared.head.Head.{Head}
use Rattle.task_parts.specs.declared.head.Head.TheVariants.{Source, Inlets}
use Rattle.task_parts.specs.declared.head.InletHead.{InletHead}
use Rattle.task_parts.specs.declared.part.Part.{Part}
use Rattle.task_parts.specs.declared.step.Step.{Step}
use Rattle.task_parts.specs.declared.step.Step.TheVariants.{Moved, NeedsItem, NeedsRoom, AtProbe, Ended}
use Rattle.task_parts.specs.Passing.{RowAsked}
use Rattle.net_task.specs.declared.task.Task.{Task}
use Rattle.net_task.specs.Frame.{TaskFrame, frame_of, head_frame}
use Rattle.net_task.specs.Moves.{Act, LanesBy, RowsKept, RowsStay, Steps, TookFrom, Unlawful, flush_given, flush_taken, giving, leaving, passing, sending, taking}
use Rattle.net_task.specs.Reasons.{HeadLacks, Why}
use Rattle.net_task.specs.Ties.{Ties}
use Rattle.net_turns.specs.Alone.{HoldLanes, HoldsAlone, LanesStay}
use Rattle.net_turns.specs.Net.{IsFed, NetStands}
use Rattle.net_turns.specs.Turns.{AreTried, ByTurns, IsStepped, StopsBy, at_try, at_turn, begun, ended, none, one, tries, turn, without}
use Rattle.net_turns.proofs.Behind.{owed_all}
use Rattle.net_turns.proofs.Calls.{calm_item}
use Rattle.net_turns.proofs.Places.{set_there}
use Rattle.net_turns.proofs.Stepping.{OutletLaws, net_goes}
use Rattle.gst_value.proofs.Basics.{some_same}
use Rattle.gst_value.proofs.Places.{set_at, some_not}
use Rattle.net_turns.proofs.Readies.{number_same}

module _ {I L O : Type 0} (i : inlets.Ghosts I L O) (tells tells' : Option (List Lane)) where
  asked_alone : (lane : Option ℕ) (was is : InletRow I) (number : ℕ) (rest : List (Feeding I)) (said : _) → AsksLane i tells tells' was is number rest said
      → HoldsAlone lane was → HoldsAlone lane is
  asked_alone None was is number rest said a h = absurd (some_not a.gone rest (OfLane number a.was) (sym a.before ∙ h))
  asked_alone (Some lane) was is number rest said a h = by a.gone (sym a.before ∙ h.1)
    where
      tail : {f g : Feeding I} {fs gs : List (Feeding I)} → f ∷ fs ≡ g ∷ gs → fs ≡ gs
      tail e = cc

      same : {f g : I} {fs gs : List (Feeding I)} {n k : ℕ} → OfLane n f ∷ fs ≡ OfLane k g ∷ gs → n ≡ k
      same e = cc

      by : (gone : List (Feeding I)) → gone ++ OfLane number a.was ∷ rest ≡ OfLane lane h.0 ∷ [] → HoldsAlone (Some lane) is
      by [] e = (a.is, a.after ∙ ap (λ (n : ℕ). OfLane n a.is ∷ rest) (same e) ∙ ap (λ (fs : List (Feeding I)). OfLane lane a.is ∷ fs) (tail e))
      by (g ∷ gone) e = absurd (some_not gone rest (OfLane number a.was) (tail e))

  given_alone : (lane : Option ℕ) (was is : InletRow I) (x : _) → LosesGiven i tells was is x → HoldsAlone lane was → ⊥
  given_alone None was is x g h = some_not g.gone (feeds_of is) (Given x) (sym g.before ∙ h)
  given_alone (Some lane) was is x g h = by g.gone (sym g.before ∙ h.1)
    where
      tail : {f g : Feeding I} {fs gs : List (Feeding I)} → f ∷ fs ≡ g ∷ gs → fs ≡ gs
      tail e = cc

      by : (gone : List (Feeding I)) → gone ++ Given x ∷ feeds_of is ≡ OfLane lane h.0 ∷ [] → ⊥
      by [] e = cc
      by (f ∷ gone) e = some_not gone (feeds_of is) (Given x) (tail e)

  bare_alone : (lane : Option ℕ) (was is : InletRow I) → feeds_of was ≡ [] → feeds_of is ≡ [] → HoldsAlone lane was → HoldsAlone lane is
  bare_alone None was is b c h = c
  bare_alone (Some lane) was is b c h = absurd (some_not [] [] (OfLane lane h.0) (sym h.1 ∙ b))

  moves_alone : (lane : Option ℕ) (was is : InletRow I) (taken : Taken) → Moves i tells tells' was is taken → HoldsAlone lane was → HoldsAlone lane is
  moves_alone lane was is (takes.Item x) (inl g) h = absurd (given_alone lane was is x g.0 h)
  moves_alone lane was is (takes.Item x) (inr a) h = asked_alone lane was is a.0 a.1 _ a.2 h
  moves_alone lane was is (takes.Empty number) (inl a) h = asked_alone lane was is number [] _ a h
  moves_alone lane was is (takes.Empty number) (inr b) h = bare_alone lane was is b.0 b.1 h

module _ {I L O : Type 0} (i : inlets.Ghosts I L O) (lanes : ℕ → ℕ → Option ℕ) where
  abbrev RowsAlone : InletHead I → Type 0
  RowsAlone head = (port : ℕ) (row : InletRow I) → slice_get head.rows.items port ≡ Some row → HoldsAlone (lanes head.number port) row

  same_rows : (head head' : InletHead I) → head'.number ≡ head.number → head'.rows ≡ head.rows → RowsAlone head → RowsAlone head'
  same_rows head head' number rows h = λ port row at.
      subst (λ (n : ℕ). HoldsAlone (lanes n port) row) (sym number) (h port row (ap (λ rs. slice_get rs.items port) (sym rows) ∙ at))

  asked_rows : (tells tells' : Option (List Lane)) (head head' : InletHead I) (port : ℕ) (taken : Taken) → RowAsked i head head' port tells tells' taken
      → RowsAlone head → RowsAlone head'
  asked_rows tells tells' head head' port taken (inl a) h = λ p row at.
      let there : slice_get (slice_set head.rows.items port a.is) p ≡ Some row = ap (λ (rows : List (InletRow I)). slice_get rows p) (sym a.set.set) ∙ at in
      subst (λ (n : ℕ). HoldsAlone (lanes n p) row) (sym a.set.number)
      (⊎_elim
      (λ same.
      let here : a.is ≡ row = some_same (sym (set_at head.rows.items port a.was a.is a.set.at) ∙ ap (λ j. slice_get (slice_set head.rows.items port a.is) j) (sym same) ∙ there) in
      let was : HoldsAlone (lanes head.number p) a.was = h p a.was (ap (λ j. slice_get head.rows.items j) same ∙ a.set.at) in
      subst (λ (r : InletRow I). HoldsAlone (lanes head.number p) r) here (moves_alone i tells tells' (lanes head.number p) a.was a.is taken a.moves was))
      (λ ne. h p row (sym (set_there head.rows.items port p a.is ne) ∙ there))
      (cases_eq p port))
  asked_rows tells tells' head head' port taken (inr b) h = same_rows head head' b.number b.rows h

module _ {S I O L : Type 0} (s : sources.Ghosts S) (i : inlets.Ghosts I L O) (o : outlets.Ghosts O L) (lanes : ℕ → ℕ → Option ℕ) (tells tells' : Option (List Lane)) where
  abbrev HeadAlone : Head S I O s → Type 0
  HeadAlone (Source head) = Unit {0}
  HeadAlone (Inlets head) = RowsAlone i lanes head

  stay : (was is : Head S I O s) → RowsStay was is → HeadAlone was → HeadAlone is
  stay (Source head) (Source head') r h = tt
  stay (Source head) (Inlets head') r h = absurd r
  stay (Inlets head) (Source head') r h = tt
  stay (Inlets head) (Inlets head') r h = subst (λ (one : InletHead I). RowsAlone i lanes one) (sym r) h

  kept : (was is : Head S I O s) → head_frame o is ≡ head_frame o was → RowsKept was is → HeadAlone was → HeadAlone is
  kept (Source head) (Source head') frame r h = tt
  kept (Source head) (Inlets head') frame r h = absurd r
  kept (Inlets head) (Source head') frame r h = tt
  kept (Inlets head) (Inlets head') frame r h = same_rows i lanes head head' (number_same frame) r h

  took : (was is : Head S I O s) (n port : ℕ) (x : Item) → TookFrom i was is n port x tells tells' → HeadAlone was → HeadAlone is
  took (Source head) is n port x t h = absurd t
  took (Inlets head) (Source head') n port x t h = tt
  took (Inlets head) (Inlets head') n port x t h = asked_rows i lanes tells tells' head head' port (takes.Item x) t.1 h

  lacks : {E : Type 0} {e : elements.Ghosts E} (was is : Head S I O s) (parts : List (Part E O e)) (lane : ℕ) → HeadLacks i tells was is parts lane
      → HeadAlone was → HeadAlone is
  lacks (Source head) is parts lane t h = absurd t
  lacks (Inlets head) (Source head') parts lane t h = tt
  lacks (Inlets head) (Inlets head') parts lane t h = asked_rows i lanes tells tells head head' t.2 (takes.Empty lane) t.4 h

  by_act : (frame : TaskFrame) (was is : Head S I O s) (act : Act) → LanesBy i frame was is tells tells' act → HeadAlone was → HeadAlone is
  by_act frame was is (passing p) r h = stay was is r.0 h
  by_act frame was is (sending p x) r h = stay was is r.0 h
  by_act frame was is (leaving p) r h = stay was is r.0 h
  by_act frame was is (taking n port x) r h = took was is n port x r h
  by_act frame was is giving r h = stay was is r.0 h

  -- no source gives a FLUSH_STOP
  unlawful : (m : Moment) (was is : Head S I O s) → ((p : ℕ) (front : List Item) (x : Item) (rest : List Item) → m.history p ++ m.waits p ≡ front ++ x ∷ rest → is_flush_stop x ≡ false)
      → Unlawful i tells tells' m was is → HeadAlone was → HeadAlone is
  unlawful m was is calm (flush_given p front x rest whole flush) h = absurd (false≢true (sym (calm p front x rest whole) ∙ flush))
  unlawful m was is calm (flush_taken n port x t flush) h = took was is n port x t h

module _ {S E I O L : Type 0} {s : sources.Ghosts S} {e : elements.Ghosts E} {i : inlets.Ghosts I L O} {o : outlets.Ghosts O L} (lanes : ℕ → ℕ → Option ℕ) where
  step_alone : (m : Moment) (before after : Task S E I O L s e i o) (tells tells' : Option (List Lane)) (step : Step)
      → ((p : ℕ) (front : List Item) (x : Item) (rest : List Item) → m.history p ++ m.waits p ≡ front ++ x ∷ rest → is_flush_stop x ≡ false)
      → head_frame o after.head ≡ head_frame o before.head → Steps tells tells' before after m step → Why tells before after m step
      → HeadAlone s i o lanes tells tells' before.head → HeadAlone s i o lanes tells tells' after.head
  step_alone m before after tells tells' Moved calm frame (inl a) why h = by_act s i o lanes tells tells' (frame_of before) before.head after.head a.act a.lanes h
  step_alone m before after tells tells' Moved calm frame (inr u) why h = unlawful s i o lanes tells tells' m before.head after.head calm u h
  step_alone m before after tells tells' (NeedsItem lane) calm frame r why h = lacks s i o lanes tells tells' before.head after.head after.parts.items lane why.1 h
  step_alone m before after tells tells' (NeedsRoom lane) calm frame r why h = kept s i o lanes tells tells' before.head after.head frame r.2 h
  step_alone m before after tells tells' (AtProbe command) calm frame r why h = kept s i o lanes tells tells' before.head after.head frame r.2 h
  step_alone m before after tells tells' Ended calm frame r why h = kept s i o lanes tells tells' before.head after.head frame r.2 h

  -- tasks that stand at some moment, and of which the rows hold these lanes
  record Stand (tasks : List (Task S E I O L s e i o)) (tells : Option (List Lane)) : Type 0 where
    pub m : Moment
    pub net : NetStands m tasks tells
    pub alone : HoldLanes lanes tasks

  head_of : (tasks : List (Task S E I O L s e i o)) → HoldLanes lanes tasks → (k : ℕ) (task : Task S E I O L s e i o) → slice_get tasks k ≡ Some task
      → (tells tells' : Option (List Lane)) → HeadAlone s i o lanes tells tells' task.head
  head_of tasks h k task at tells tells' = go task.head refl
    where
      go : (head : Head S I O s) → task.head ≡ head → HeadAlone s i o lanes tells tells' head
      go (Source head) is = tt
      go (Inlets head) is = λ port row here. h k head port row (record { task = task; at = at; head_is = is }) here

  module _ (laws : OutletLaws o) where
    stepped : (was is : List (Task S E I O L s e i o)) (tells tells' : Option (List Lane)) (place : ℕ) (step : Step) → IsStepped place step was is tells tells'
        → Stand was tells → Stand is tells'
    stepped was is tells tells' place step h st =
        let next = net_goes laws st.m was is tells tells' place step st.net h in
        record { m = next.now; net = next.net; alone = λ k head port row fed at. row_alone k head fed port row at (cases_eq k place) }
      where
        tied : Ties h.before st.m
        tied = st.net.tied place h.before h.at

        now : HeadAlone s i o lanes tells tells' h.after.head
        now = step_alone st.m h.before h.after tells tells' step
            (λ p front x rest whole. calm_item front x rest (st.m.history p ++ st.m.waits p) whole
            (ap has_flush_stop (sym (owed_all st.m p st.net.plain (st.net.cells (st.m.plan.owner p)))) ∙ st.net.plain.calm (st.m.plan.owner p) (st.m.plan.port p) (st.m.took (st.m.plan.owner p))))
            (ap (λ (f : TaskFrame). f.head) h.stepped.frame) (h.stepped.steps st.m tied) (h.stepped.why st.m tied)
            (head_of was st.alone place h.before h.at tells tells')

        row_alone : (k : ℕ) (head : InletHead I) → IsFed is k head → (port : ℕ) (row : InletRow I) → slice_get head.rows.items port ≡ Some row
            → (k ≡ place) ⊎ (k ≡ place → ⊥) → HoldsAlone (lanes head.number port) row
        row_alone k head fed port row at (inl same) =
            let task : h.after ≡ fed.task = some_same (sym h.at_after ∙ ap (λ j. slice_get is j) (sym same) ∙ fed.at) in
            (subst (HeadAlone s i o lanes tells tells') (ap (λ (t : Task S E I O L s e i o). t.head) task ∙ fed.head_is) now) port row at
        row_alone k head fed port row at (inr ne) =
            st.alone k head port row (record { task = fed.task; at = sym (h.others k ne) ∙ fed.at; head_is = fed.head_is }) at

    tried : {first : List (Task S E I O L s e i o)} {told : Option (List Lane)} {place : ℕ} {moved : Bool} {is : List (Task S E I O L s e i o)} {tells : Option (List Lane)}
        → AreTried first told place moved is tells → Stand first told → Stand is tells
    tried none st = st
    tried (one place moved step was is tells tells' before h) st = stepped was is tells tells' place step h (tried before st)

    run : {order : Order} {start : ℕ} {first : List (Task S E I O L s e i o)} {told : Option (List Lane)} {n idle : ℕ} {is : List (Task S E I O L s e i o)} {tells : Option (List Lane)}
        → ByTurns order start first told n idle is tells → Stand first told → Stand is tells
    run begun st = st
    run (turn n idle step was is tells tells' before some few h) st = stepped was is tells tells' _ step h (run before st)
    run (tries n was is tells tells' before all) st = tried all (run before st)

    stopped : (order : Order) (start : ℕ) (first : List (Task S E I O L s e i o)) (told : Option (List Lane)) (n : ℕ) (stop : Option TaskFault) (last : List (Task S E I O L s e i o))
        → StopsBy order start first told n stop last → stop ≡ None → Stand first told → HoldLanes lanes last
    stopped order start first told n stop last (without empty) is st = st.alone
    stopped order start first told n stop last (ended k was now tells tells' before all) is st = (tried all (run before st)).alone
    stopped order start first told n stop last (at_turn k idle fault was now tells before some few met) is st = absurd (cc)
    stopped order start first told n stop last (at_try k fault was now tells before met) is st = absurd (cc)

pub lanes_stay : {S E I O L : Type 0} (s : sources.Ghosts S) (e : elements.Ghosts E) (i : inlets.Ghosts I L O) (o : outlets.Ghosts O L) → OutletLaws o → LanesStay s e i o
lanes_stay s e i o laws lanes m order start first last told turns net alone run =
    stopped lanes laws order start first told run.number None last run.run refl (record { m = m; net = net; alone = alone })
