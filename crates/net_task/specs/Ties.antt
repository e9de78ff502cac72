-- How a task stands to the moment of a run: its elements took what the moment tells, at its pads waits what the moment
-- tells, and they are linked as its graph tells.
use Rattle.std.specs.Prelude.{◌≡◌, ◌≢◌, ◌+◌, ℕ, zero, suc, List, [], ◌∷◌, ◌++◌, Some, length, slice_get}
use Rattle.flow_model.specs.Item.{Item}
use Rattle.flow_model.specs.Call.{Call, feeds}
use Rattle.lane_core.specs.declared.ends.Inlet as inlets
use Rattle.lane_core.specs.declared.ends.Outlet as outlets
use Rattle.flow_model.specs.Moment.{Moment, behavior_at}
use Rattle.flow_model.specs.Split.{NoneAt}
use Rattle.flow_model.specs.Step.{Leads, LeadsNowhere}
use Rattle.flow_model.specs.declared.element.TaskElement as elements
use Rattle.flow_model.specs.declared.source.TaskSource as sources
use Rattle.inlet_row.specs.declared.row.InletRow.{InletRow}
use Rattle.inlet_row.specs.Row.{RowGave}
use Rattle.task_pads.specs.declared.pad.Pad.{Pad}
use Rattle.task_pads.specs.Behind.{Goes, nowhere, inside, over}
use Rattle.task_pads.specs.Pads.{HasCrossed, SentOver, number_of, goes_of, waiting_of}
use Rattle.task_parts.specs.declared.part.Part.{Part}
use Rattle.task_parts.specs.declared.head.SourceHead.{SourceHead}
use Rattle.task_parts.specs.declared.head.InletHead.{InletHead}
use Rattle.task_parts.specs.declared.head.Head.{Head}
use Rattle.task_parts.specs.declared.head.Head.TheVariants.{Source, Inlets}
use Rattle.net_task.specs.declared.task.Task.{Task}
use Rattle.task_parts.specs.Part.{waits_at}

-- A pad is linked as the graph tells. Nothing stands in the inlet of an element that a pad of its own task feeds.
abbrev pub LeadsAs : Moment → ℕ → Goes → Type 0
LeadsAs m p nowhere = LeadsNowhere m.plan p
LeadsAs m p (inside e i) = Leads m.plan p e i × NoneAt i (m.held e)
LeadsAs m p (over lane e i from) = Leads m.plan p e i

-- what was taken at sink pad i is a list of items
abbrev pub TookAt : ℕ → List (List Call) → List Item → Type 0
TookAt i [] got = ⊥
TookAt zero (t ∷ ts) got = t ≡ feeds got
TookAt (suc i) (t ∷ ts) got = TookAt i ts got

-- The pad counted what crossed it, is linked as the graph tells, and all from the place of its lane on went into that.
pub record PadLinked {O L : Type 0} (o : outlets.Ghosts O L) (m : Moment) (pad : Pad O) : Type 0 where
  pub crossed : HasCrossed pad (m.history (number_of pad))
  pub leads : LeadsAs m (number_of pad) (goes_of pad)
  pub sent : SentOver o pad (m.history (number_of pad))

-- the pad is that port of the element, and this waits at it
pub record PortTied {O L : Type 0} (o : outlets.Ghosts O L) (m : Moment) (number port : ℕ) (pad : Pad O) (items : List Item) : Type 0 where
  pub owner : m.plan.owner (number_of pad) ≡ number
  pub port_is : m.plan.port (number_of pad) ≡ port
  pub linked : PadLinked o m pad
  pub waits : m.waits (number_of pad) ≡ items

-- A pad of the element is there. No seek was made.
pub record HasPad {O : Type 0} (pads : List (Pad O)) (m : Moment) (p : ℕ) : Type 0 where
  pub pad : Pad O
  pub at : slice_get pads (m.plan.port p) ≡ Some pad
  pub number : number_of pad ≡ p
  pub uncut : (m.plan.log p).cuts ≡ []

module _ {E O : Type 0} {e : elements.Ghosts E} where
  -- an element stands by what it does for what it took
  abbrev pub Stands : Moment → Part E O e → Type 0
  Stands m part = e.stands part.element (behavior_at m part.number) (m.took part.number)

  -- the numbers are different
  abbrev pub AreOnce : List (Part E O e) → Type 0
  AreOnce parts = (j k : ℕ) (p q : Part E O e) → slice_get parts j ≡ Some p → slice_get parts k ≡ Some q → p.number ≡ q.number → j ≡ k

  -- no pad of the elements leads to this sink pad
  abbrev pub NoneLeads : List (Part E O e) → ℕ → ℕ → Type 0
  NoneLeads parts n i = (j k : ℕ) (part : Part E O e) (pad : Pad O) → slice_get parts j ≡ Some part → slice_get part.pads.items k ≡ Some pad → goes_of pad ≢ inside n i

  -- none of the elements has this number
  abbrev pub NoneIs : List (Part E O e) → ℕ → Type 0
  NoneIs parts n = (j : ℕ) (part : Part E O e) → slice_get parts j ≡ Some part → part.number ≢ n

module _ {E O L : Type 0} {e : elements.Ghosts E} (o : outlets.Ghosts O L) where
  -- What is known of an element itself, and its pads are tied.
  pub record PartTied (Stood : Type 0) (m : Moment) (part : Part E O e) : Type 0 where
    pub stood : Stood
    pub pads : (port : ℕ) (pad : Pad O) → slice_get part.pads.items port ≡ Some pad → PortTied o m part.number port pad (waits_at part port pad)
    pub mine : (p : ℕ) → m.plan.owner p ≡ part.number → HasPad part.pads.items m p

  pub record PartsTied (Stood : Part E O e → Type 0) (m : Moment) (parts : List (Part E O e)) : Type 0 where
    pub each : (j : ℕ) (part : Part E O e) → slice_get parts j ≡ Some part → PartTied (Stood part) m part
    pub once : AreOnce parts

module _ {S E O L : Type 0} {s : sources.Ghosts S} {e : elements.Ghosts E} (o : outlets.Ghosts O L) where
  -- What the source gave has crossed its pad, was lost, or waits there; what it has yet to give waits there too.
  pub record SourceTied (lost : List Item) (m : Moment) (head : SourceHead S O s) (parts : List (Part E O e)) : Type 0 where
    pub owner : m.plan.owner (number_of head.pad) ≡ head.number
    pub mine : (p : ℕ) → m.plan.owner p ≡ head.number → p ≡ number_of head.pad
    pub linked : PadLinked o m head.pad
    pub gave : s.gave head.source (m.history (number_of head.pad) ++ (lost ++ m.waits (number_of head.pad)))
        (m.history (number_of head.pad) ++ (lost ++ waiting_of head.pad))
    pub given : head.given ≡ length (m.history (number_of head.pad)) + (length lost + length (waiting_of head.pad))
    pub apart : NoneIs parts head.number

-- what a row gave was taken at the sink pad, or was lost, and no pad of the task leads there
pub record RowTied {E I O L : Type 0} {e : elements.Ghosts E} (i : inlets.Ghosts I L O) (lost : List Item) (m : Moment) (number port : ℕ) (row : InletRow I) (parts : List (Part E O e)) : Type 0 where
  pub all : List Item
  pub gave : RowGave i row all
  pub got : List Item
  pub whole : all ≡ got ++ lost
  pub took : TookAt port (m.took number) got
  pub apart : NoneLeads parts number port

abbrev pub RowsTied : {E I O L : Type 0} {e : elements.Ghosts E} → inlets.Ghosts I L O → (ℕ → List Item) → Moment → InletHead I → List (Part E O e) → Type 0
RowsTied {I = I} i lost m head parts = (port : ℕ) (row : InletRow I) → slice_get head.rows.items port ≡ Some row → RowTied i (lost port) m head.number port row parts

module _ {S E I O L : Type 0} {s : sources.Ghosts S} {e : elements.Ghosts E} (i : inlets.Ghosts I L O) (o : outlets.Ghosts O L) where
  abbrev pub HeadTied : (ℕ → List Item) → Moment → Head S I O s → List (Part E O e) → Type 0
  HeadTied lost m (Source head) parts = SourceTied o (lost 0) m head parts
  HeadTied lost m (Inlets head) parts = RowsTied i lost m head parts

  -- A head and elements are tied to a moment, where so much is known of each element, and these items of the head were lost.
  pub record AreTied (Stood : Part E O e → Type 0) (lost : ℕ → List Item) (m : Moment) (head : Head S I O s) (parts : List (Part E O e)) : Type 0 where
    pub parts_tied : PartsTied o Stood m parts
    pub head_tied : HeadTied lost m head parts

abbrev pub nothing_lost : ℕ → List Item
nothing_lost port = []

-- a task stands for a moment
abbrev pub Ties : {S E I O L : Type 0} {s : sources.Ghosts S} {e : elements.Ghosts E} {i : inlets.Ghosts I L O} {o : outlets.Ghosts O L} → Task S E I O L s e i o → Moment → Type 0
Ties {i = i} {o = o} task m = AreTied i o (Stands m) nothing_lost m task.head task.parts.items
