-- How many items a task sent into a lane, and received from one.
use Rattle.std.specs.Prelude.{ℕ, Option, None}
use Rattle.lane_core.specs.declared.ends.Inlet as inlets
use Rattle.lane_core.specs.declared.ends.Outlet as outlets
use Rattle.flow_model.specs.declared.source.TaskSource as sources
use Rattle.task_pads.specs.Behind.{sent_in}
use Rattle.task_pads.specs.Pads.{rest_of}
use Rattle.task_parts.specs.Ends.{received_among}
use Rattle.task_parts.specs.declared.head.Head.{Head}
use Rattle.task_parts.specs.declared.head.Head.TheVariants.{Source, Inlets}

module _ {S I O L : Type 0} {s : sources.Ghosts S} (o : outlets.Ghosts O L) where
  -- from the pad of a source
  abbrev pub sent_by_head : ℕ → Head S I O s → Option ℕ
  sent_by_head lane (Source head) = sent_in o lane (rest_of head.pad).behind
  sent_by_head lane (Inlets head) = None

module _ {S I O L : Type 0} {s : sources.Ghosts S} (i : inlets.Ghosts I L O) where
  abbrev pub received_by : ℕ → Head S I O s → Option ℕ
  received_by lane (Source head) = None
  received_by lane (Inlets head) = received_among i lane head.rows.items
