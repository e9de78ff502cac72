-- No row gets anything new in a step.
use Rattle.std.proofs.Common.{◌≡◌, ◌++◌, ◌⊎◌, ℕ, false, List, [], ◌∷◌, Option, Some, inl, inr, refl, sym, ap, ◌∙◌, subst}
use Rattle.std.specs.Prelude.{slice_get, slice_set}
use Rattle.std.proofs.lemmas.Bool.{cases_eq, true≢false}
use Rattle.flow_model.specs.Item.{Item, is_flush_stop}
use Rattle.gst_value.proofs.Basics.{some_same}
use Rattle.gst_value.proofs.Places.{set_at, some_not}
use Rattle.lane_core.specs.Lane.{Lane}
use Rattle.lane_core.specs.declared.ends.Inlet as inlets
use Rattle.lane_core.specs.declared.ends.Outlet as outlets
use Rattle.flow_model.specs.Moment.{Moment}
use Rattle.flow_model.specs.declared.element.TaskElement as elements
use Rattle.flow_model.specs.declared.source.TaskSource as sources
use Rattle.inlet_row.specs.declared.feeding.Feeding.{Feeding}
use Rattle.inlet_row.specs.declared.feeding.Feeding.TheVariants.{Given, Lane as OfLane}
use Rattle.inlet_row.specs.Taken.{Taken}
use Rattle.inlet_row.specs.Taken as takes
use Rattle.inlet_row.specs.declared.row.InletRow.{InletRow}
use Rattle.inlet_row.specs.Row.{ForLanes, feeds_of}
use Rattle.inlet_row.specs.Take.{AsksLane, LosesGiven, Moves}
use Rattle.task_pads.proofs.Lists.{set_there}
use Rattle.task_parts.specs.declared.head.Head.{Head}
use Rattle.task_parts.specs.declared.head.Head.TheVariants.{Source, Inlets}
use Rattle.task_parts.specs.declared.head.InletHead.{InletHead}
use Rattle.task_parts.specs.declared.part.Part.{Part}
use Rattle.task_parts.specs.declared.step.Step.{Step}
use Rattle.task_parts.specs.declared.step.Step.TheVariants.{Moved, NeedsItem, NeedsRoom, AtProbe, Ended}
use Rattle.task_parts.specs.Passing.{RowAsked}
use Rattle.net_task.specs.declared.task.Task.{Task}
use Rattle.net_task.specs.Frame.{TaskFrame, by_inlets, frame_of, head_frame}
use Rattle.net_task.specs.Moves.{Act, LanesBy, RowsKept, RowsStay, Steps, TookFrom, Unlawful, flush_given, flush_taken, giving, leaving, passing, sending, taking}
use Rattle.net_task.specs.Reasons.{HeadLacks, Why}
use Rattle.net_task.specs.Ties.{Ties}
use Rattle.net_turns.specs.Net.{HasRow}
use Rattle.net_edits.specs.Adding.{GetsNothing, HoldsNothingNew}
use Rattle.net_edits.proofs.Endings.{whole_calm}

module _ {I : Type 0} where
  behind : (P : I → Type 0) (xs ys : List (Feeding I)) → ForLanes P (xs ++ ys) → ForLanes P ys
  behind P [] ys h = h
  behind P (Given x ∷ xs) ys h = behind P xs ys h
  behind P (OfLane number inlet ∷ xs) ys h = behind P xs ys h.1

  same_row : (row : InletRow I) → GetsNothing row row
  same_row row = record { empty = λ e. e; no_lane = λ h. h }

  -- each row is one of the same sink pad that got nothing new
  record RowsGet (head head' : InletHead I) : Type 0 where
    pub number : head'.number ≡ head.number
    pub each : (port : ℕ) (row : InletRow I) → slice_get head'.rows.items port ≡ Some row → (was : InletRow I) × (slice_get head.rows.items port ≡ Some was) × GetsNothing was row

  same_rows : (head head' : InletHead I) → head'.number ≡ head.number → head'.rows ≡ head.rows → RowsGet head head'
  same_rows head head' number rows = record { number = number; each = λ port row at. (row, ap (λ rs. slice_get rs.items port) (sym rows) ∙ at, same_row row) }

module _ {I L O : Type 0} (i : inlets.Ghosts I L O) (tells tells' : Option (List Lane)) where
  asked_nothing : (was is : InletRow I) (number : ℕ) (rest : List (Feeding I)) (said : _) → AsksLane i tells tells' was is number rest said → GetsNothing was is
  asked_nothing was is number rest said a = record {
    empty = λ bare. absurd (some_not a.gone rest (OfLane number a.was) (sym a.before ∙ bare));
    no_lane = λ h. absurd (behind (λ inlet. ⊥) a.gone (OfLane number a.was ∷ rest) (subst (λ (fs : List (Feeding I)). ForLanes (λ inlet. ⊥) fs) a.before h)).0;
  }

  given_nothing : (was is : InletRow I) (x : _) → LosesGiven i tells was is x → GetsNothing was is
  given_nothing was is x g = record {
    empty = λ bare. absurd (some_not g.gone (feeds_of is) (Given x) (sym g.before ∙ bare));
    no_lane = λ h. behind (λ inlet. ⊥) g.gone (Given x ∷ feeds_of is) (subst (λ (fs : List (Feeding I)). ForLanes (λ inlet. ⊥) fs) g.before h);
  }

  moves_nothing : (was is : InletRow I) (taken : Taken) → Moves i tells tells' was is taken → GetsNothing was is
  moves_nothing was is (takes.Item x) (inl g) = given_nothing was is x g.0
  moves_nothing was is (takes.Item x) (inr a) = asked_nothing was is a.0 a.1 _ a.2
  moves_nothing was is (takes.Empty number) (inl a) = asked_nothing was is number [] _ a
  moves_nothing was is (takes.Empty number) (inr b) = record { empty = λ bare. b.1; no_lane = λ h. subst (λ (fs : List (Feeding I)). ForLanes (λ inlet. ⊥) fs) (sym b.1) tt }

  asked_rows : (head head' : InletHead I) (port : ℕ) (taken : Taken) → RowAsked i head head' port tells tells' taken → RowsGet head head'
  asked_rows head head' port taken (inl a) = record { number = a.set.number; each = λ p row at. each p row (ap (λ (rows : List (InletRow I)). slice_get rows p) (sym a.set.set) ∙ at) (cases_eq p port) }
    where
      each : (p : ℕ) (row : InletRow I) → slice_get (slice_set head.rows.items port a.is) p ≡ Some row → (p ≡ port) ⊎ (p ≡ port → ⊥) → (was : InletRow I) × (slice_get head.rows.items p ≡ Some was) × GetsNothing was row
      each p row there (inl same) =
          let here : a.is ≡ row = some_same (sym (set_at head.rows.items port a.was a.is a.set.at) ∙ (ap (λ j. slice_get (slice_set head.rows.items port a.is) j) (sym same) ∙ there)) in
          (a.was, ap (λ j. slice_get head.rows.items j) same ∙ a.set.at, subst (λ (r : InletRow I). GetsNothing a.was r) here (moves_nothing a.was a.is taken a.moves))
      each p row there (inr ne) = (row, sym (set_there head.rows.items port p a.is ne) ∙ there, same_row row)
  asked_rows head head' port taken (inr b) = same_rows head head' b.number b.rows

number_same : {n k a b : ℕ} → by_inlets n a ≡ by_inlets k b → n ≡ k
number_same e = cc

module _ {S I O : Type 0} {s : sources.Ghosts S} where
  abbrev HeadGets : Head S I O s → Head S I O s → Type 0
  HeadGets (Source head) (Source head') = Unit {0}
  HeadGets (Inlets head) (Inlets head') = RowsGet head head'
  HeadGets (Source head) (Inlets head') = ⊥
  HeadGets (Inlets head) (Source head') = Unit {0}

  stay : (was is : Head S I O s) → RowsStay was is → HeadGets was is
  stay (Source head) (Source head') r = tt
  stay (Source head) (Inlets head') r = absurd r
  stay (Inlets head) (Source head') r = tt
  stay (Inlets head) (Inlets head') r = subst (λ (one : InletHead I). RowsGet head one) (sym r) (same_rows head head refl refl)

  inlets_back : (was : Head S I O s) (head' : InletHead I) → HeadGets was (Inlets head') → (head : InletHead I) × (was ≡ Inlets head) × RowsGet head head'
  inlets_back (Source head) head' h = absurd h
  inlets_back (Inlets head) head' h = (head, refl, h)

module _ {S I O L : Type 0} {s : sources.Ghosts S} (o : outlets.Ghosts O L) where
  kept : (was is : Head S I O s) → head_frame o is ≡ head_frame o was → RowsKept was is → HeadGets was is
  kept (Source head) (Source head') frame r = tt
  kept (Source head) (Inlets head') frame r = absurd r
  kept (Inlets head) (Source head') frame r = tt
  kept (Inlets head) (Inlets head') frame r = same_rows head head' (number_same frame) r

module _ {S I O L : Type 0} {s : sources.Ghosts S} (i : inlets.Ghosts I L O) (tells tells' : Option (List Lane)) where
  took : (was is : Head S I O s) (n port : ℕ) (x : Item) → TookFrom i was is n port x tells tells' → HeadGets was is
  took (Source head) is n port x t = absurd t
  took (Inlets head) (Source head') n port x t = tt
  took (Inlets head) (Inlets head') n port x t = asked_rows i tells tells' head head' port (takes.Item x) t.1

  lacks : {E : Type 0} {e : elements.Ghosts E} (was is : Head S I O s) (parts : List (Part E O e)) (lane : ℕ) → HeadLacks i tells was is parts lane → HeadGets was is
  lacks (Source head) is parts lane t = absurd t
  lacks (Inlets head) (Source head') parts lane t = tt
  lacks (Inlets head) (Inlets head') parts lane t = asked_rows i tells tells head head' t.2 (takes.Empty lane) t.4

  by_act : (frame : TaskFrame) (was is : Head S I O s) (act : Act) → LanesBy i frame was is tells tells' act → HeadGets was is
  by_act frame was is (passing p) r = stay was is r.0
  by_act frame was is (sending p x) r = stay was is r.0
  by_act frame was is (leaving p) r = stay was is r.0
  by_act frame was is (taking n port x) r = took was is n port x r
  by_act frame was is giving r = stay was is r.0

  -- no source gives a FLUSH_STOP
  unlawful : (m : Moment) (was is : Head S I O s) → ((p : ℕ) (front : List Item) (x : Item) (rest : List Item) → m.history p ++ m.waits p ≡ front ++ x ∷ rest → is_flush_stop x ≡ false) → Unlawful i tells tells' m was is → HeadGets was is
  unlawful m was is calm (flush_given p front x rest whole flush) = absurd (true≢false (sym flush ∙ calm p front x rest whole))
  unlawful m was is calm (flush_taken n port x t flush) = took was is n port x t

module _ {S E I O L : Type 0} {s : sources.Ghosts S} {e : elements.Ghosts E} {i : inlets.Ghosts I L O} {o : outlets.Ghosts O L} where
  step_gets : (m : Moment) (before after : Task S E I O L s e i o) (tells tells' : Option (List Lane)) (step : Step)
      → ((p : ℕ) (front : List Item) (x : Item) (rest : List Item) → m.history p ++ m.waits p ≡ front ++ x ∷ rest → is_flush_stop x ≡ false)
      → head_frame o after.head ≡ head_frame o before.head → Steps tells tells' before after m step → Why tells before after m step → HeadGets before.head after.head
  step_gets m before after tells tells' Moved calm frame (inl a) why = by_act i tells tells' (frame_of before) before.head after.head a.act a.lanes
  step_gets m before after tells tells' Moved calm frame (inr u) why = unlawful i tells tells' m before.head after.head calm u
  step_gets m before after tells tells' (NeedsItem lane) calm frame r why = lacks i tells tells' before.head after.head after.parts.items lane why.1
  step_gets m before after tells tells' (NeedsRoom lane) calm frame r why = kept o before.head after.head frame r.2
  step_gets m before after tells tells' (AtProbe command) calm frame r why = kept o before.head after.head frame r.2
  step_gets m before after tells tells' Ended calm frame r why = kept o before.head after.head frame r.2

pub holds_nothing : {S E I O L : Type 0} (s : sources.Ghosts S) (e : elements.Ghosts E) (i : inlets.Ghosts I L O) (o : outlets.Ghosts O L) → HoldsNothingNew s e i o
holds_nothing {S} {E} {I} {O} {L} s e i o m tasks tasks' tells tells' place step stands h k n port row x = go (cases_eq k place)
  where
    tied : Ties h.before m
    tied = stands.tied place h.before h.at

    gets : HeadGets h.before.head h.after.head
    gets = step_gets m h.before h.after tells tells' step (λ p. whole_calm m p stands.plain (stands.cells (m.plan.owner p))) (ap (λ (f : TaskFrame). f.head) h.stepped.frame) (h.stepped.steps m tied) (h.stepped.why m tied)

    go : (k ≡ place) ⊎ (k ≡ place → ⊥) → (was : InletRow I) × HasRow tasks k n port was × GetsNothing was row
    go (inl same) =
        let task : h.after ≡ x.fed.task = some_same (sym h.at_after ∙ (ap (λ j. slice_get tasks' j) (sym same) ∙ x.fed.at)) in
        let back = inlets_back h.before.head x.head (subst (λ (one : Head S I O s). HeadGets h.before.head one) (ap (λ (t : Task S E I O L s e i o). t.head) task ∙ x.fed.head_is) gets) in
        let was = back.2.each port row x.at in (
          was.0,
          record { head = back.0; fed = record { task = h.before; at = ap (λ j. slice_get tasks j) same ∙ h.at; head_is = back.1 }; number = sym back.2.number ∙ x.number; at = was.1 },
          was.2,
        )
    go (inr ne) = (row, record { head = x.head; fed = record { task = x.fed.task; at = sym (h.others k ne) ∙ x.fed.at; head_is = x.fed.head_is }; number = x.number; at = x.at }, same_row row)
