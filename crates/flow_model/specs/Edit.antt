-- Control's acts, each a function of the moment: a link is undone, with EOS or without, or made, and the element behind a
-- link is drained or set. Each stands in the graph at the place that the source pad has reached.
use Rattle.std.specs.Prelude.{◌≡◌, ℕ, zero, suc, ◌==◌, Bool, false, true, List, [], ◌∷◌, ◌++◌, if◌then◌else◌, map, length}
use Rattle.flow_model.specs.Item.{Item, Ev, Eos}
use Rattle.flow_model.specs.Call.{Call, Feed, Act, Mark, feeds}
use Rattle.flow_model.specs.Sticky.{stickies}
use Rattle.flow_model.specs.Link.{Span, Linked, WasLinked, Flushed, Given}
use Rattle.flow_model.specs.Eval.{Plan}
use Rattle.flow_model.specs.Moment.{Moment, Keeps}
use Rattle.flow_model.specs.Split.{NoneAt}
use Rattle.flow_model.specs.SinkPads.{push_calls}
use Rattle.flow_model.specs.Standing.{is_linked}
use Rattle.flow_model.specs.Step.{Leads, PutsOut, fed, laid, planned}

-- the link of a source pad that stands is undone at a place
abbrev pub undo : ℕ → ℕ → Bool → Span → Span
undo p place eos (Linked source from marks) = if source == p then WasLinked source from place eos marks else Linked source from marks
undo p place eos (WasLinked source from to ended marks) = WasLinked source from to ended marks
undo p place eos (Flushed number) = Flushed number
undo p place eos (Given calls) = Given calls

-- the element behind the link of a source pad that stands is given a mark at a place
abbrev pub act : ℕ → ℕ → Mark → Span → Span
act p place mark (Linked source from marks) = if source == p then Linked source from (marks ++ (place, mark) ∷ []) else Linked source from marks
act p place mark (WasLinked source from to ended marks) = WasLinked source from to ended marks
act p place mark (Flushed number) = Flushed number
act p place mark (Given calls) = Given calls

-- sink pad i gets one more span
abbrev pub push_span : ℕ → Span → List (List Span) → List (List Span)
push_span i s [] = []
push_span zero s (ss ∷ sss) = (ss ++ s ∷ []) ∷ sss
push_span (suc i) s (ss ∷ sss) = ss ∷ push_span i s sss

abbrev pub undone : ℕ → ℕ → Bool → Plan → Plan
undone p place eos plan = record plan { sinks = λ e. map (map (undo p place eos)) (plan.sinks e) }

abbrev pub linked : ℕ → ℕ → ℕ → ℕ → Plan → Plan
linked p place e i plan = record plan { sinks = λ a. if a == e then push_span i (Linked p place []) (plan.sinks a) else plan.sinks a }

abbrev pub acted : ℕ → ℕ → Mark → Plan → Plan
acted p place mark plan = record plan { sinks = λ e. map (map (act p place mark)) (plan.sinks e) }

-- sink pad i is there, and no link of it stands
abbrev pub IsFree : ℕ → List (List Span) → Type 0
IsFree i [] = ⊥
IsFree zero (ss ∷ sss) = is_linked ss ≡ false
IsFree (suc i) (ss ∷ sss) = IsFree i sss

-- A link is undone without EOS: nobody is given more.
abbrev pub unlinked : ℕ → Moment → Moment
unlinked p m = planned (undone p (length (m.history p)) false m.plan) m

-- what a new link of a source pad gives first: the sticky events in force there
abbrev pub opening_calls : ℕ → Moment → List Call
opening_calls p m = feeds (stickies (m.history p))

-- A pad is linked inside a task: the element behind it takes the sticky events at once.
abbrev pub linked_inside : ℕ → ℕ → ℕ → (ℕ → List Item) → Moment → Moment
linked_inside p e i out m = fed e (push_calls i (opening_calls p m) (m.took e)) out (planned (linked p (length (m.history p)) e i m.plan) m)

-- A pad is linked over a new lane: the sticky events stand in the inlet behind it.
abbrev pub linked_over : ℕ → ℕ → ℕ → Moment → Moment
linked_over p e i m = laid e (push_calls i (opening_calls p m) (m.held e)) (planned (linked p (length (m.history p)) e i m.plan) m)

pub record Links (m : Moment) (p e i : ℕ) : Type 0 where
  pub free : IsFree i (m.plan.sinks e)

pub record LinksInside (m : Moment) (p e i : ℕ) (out : ℕ → List Item) : Type 0 where
  pub free : IsFree i (m.plan.sinks e)
  pub inner : NoneAt i (m.held e)
  pub puts_out : PutsOut m e (push_calls i (opening_calls p m) (m.took e)) out

-- The element behind a pad is drained, or a property of it is set.
abbrev pub acted_on : ℕ → ℕ → ℕ → Mark → (ℕ → List Item) → Moment → Moment
acted_on p e i mark out m = fed e (push_calls i (Act mark ∷ []) (m.took e)) out (planned (acted p (length (m.history p)) mark m.plan) m)

pub record Acts (m : Moment) (p e i : ℕ) (mark : Mark) (out : ℕ → List Item) : Type 0 where
  pub leads : Leads m.plan p e i
  pub inner : NoneAt i (m.held e)
  pub puts_out : PutsOut m e (push_calls i (Act mark ∷ []) (m.took e)) out

-- A link is undone with EOS: inside a task the element behind the pad takes it at once, and over a lane it stands in the
-- inlet behind all that was sent.
abbrev pub ended_inside : ℕ → ℕ → ℕ → (ℕ → List Item) → Moment → Moment
ended_inside p e i out m = fed e (push_calls i (Feed (Ev Eos) ∷ []) (m.took e)) out (planned (undone p (length (m.history p)) true m.plan) m)

abbrev pub ended_over : ℕ → ℕ → ℕ → Moment → Moment
ended_over p e i m = laid e (push_calls i (Feed (Ev Eos) ∷ []) (m.held e)) (planned (undone p (length (m.history p)) true m.plan) m)

pub record EndsInside (m : Moment) (p e i : ℕ) (out : ℕ → List Item) : Type 0 where
  pub leads : Leads m.plan p e i
  pub inner : NoneAt i (m.held e)
  pub puts_out : PutsOut m e (push_calls i (Feed (Ev Eos) ∷ []) (m.took e)) out

-- Each act keeps what stands.
abbrev pub UnlinkingKeeps : Type 0
UnlinkingKeeps = (m : Moment) (p : ℕ) → Keeps m (unlinked p m)

abbrev pub LinkingKeeps : Type 0
LinkingKeeps = (m : Moment) (p e i : ℕ) (out : ℕ → List Item) → LinksInside m p e i out → Keeps m (linked_inside p e i out m)

abbrev pub LinkingOverKeeps : Type 0
LinkingOverKeeps = (m : Moment) (p e i : ℕ) → Links m p e i → Keeps m (linked_over p e i m)

abbrev pub ActingKeeps : Type 0
ActingKeeps = (m : Moment) (p e i : ℕ) (mark : Mark) (out : ℕ → List Item) → Acts m p e i mark out → Keeps m (acted_on p e i mark out m)

abbrev pub EndingKeeps : Type 0
EndingKeeps = (m : Moment) (p e i : ℕ) (out : ℕ → List Item) → EndsInside m p e i out → Keeps m (ended_inside p e i out m)

abbrev pub EndingOverKeeps : Type 0
EndingOverKeeps = (m : Moment) (p e i : ℕ) → Leads m.plan p e i → Keeps m (ended_over p e i m)
