-- Sticky events of what crossed source pads.
use Rattle.std.specs.Prelude.{◌≡◌, ◌++◌, ◌∷◌, List, [], if◌then◌else◌}
use Rattle.flow_model.specs.Item.{Event, Ev, Item}
use Rattle.gst_item.specs.Item.{is_sticky}
use Rattle.gst_item.specs.Sticky.{stickies}
use Rattle.flow_model.specs.declared.source.TaskSource as sources
use Rattle.task_pads.specs.declared.pad.Pad.{Pad}
use Rattle.task_pads.specs.Pads.{HasCrossed}
use Rattle.task_parts.specs.declared.head.Head.{Head}
use Rattle.task_parts.specs.declared.head.Head.TheVariants.{Source, Inlets}

-- the sticky events in force at a pad
abbrev pub AreStickiesOf : {O : Type 0} → Pad O → List Item → Type 0
AreStickiesOf pad items = (h : List Item) → HasCrossed pad h → items ≡ stickies h

-- those at the pad of a source
abbrev pub HeadStickies : {S I O : Type 0} {s : sources.Ghosts S} → Head S I O s → List Item → Type 0
HeadStickies (Source head) items = AreStickiesOf head.pad items
HeadStickies (Inlets head) items = Unit {0}

-- an event behind items, if it is sticky
abbrev pub with_sticky : Event → List Item → List Item
with_sticky event items = if is_sticky event then items ++ Ev event ∷ [] else items
