-- The first reason for which a source pad is not linked to a sink pad.
use Rattle.std.specs.Prelude.{ℕ, List, Option, None, Some}
use Rattle.flow_model.specs.Item.{Item}
use Rattle.graph_pads.specs.declared.pad.PadPlace.{PadPlace}
use Rattle.graph_edits.specs.Edited.{Edited}
use Rattle.graph_edits.specs.Refused.{IsAfterEos, IsFedElsewhere, IsTaken, LacksFormat, Loops}
use Rattle.edit_core.specs.declared.refusing.LinkReason.{LinkReason}
use Rattle.edit_core.specs.declared.refusing.LinkReason.TheVariants.{AfterEos, WasLinked, WouldLoop, FedElsewhere, NoFormat}

-- it holds, and none of those before it does; where none is told none holds
abbrev pub IsRefusedSo : Edited → (ℕ → List Item) → PadPlace → PadPlace → Option LinkReason → Type 0
IsRefusedSo g h source sink (Some AfterEos) = IsAfterEos g h sink
IsRefusedSo g h source sink (Some WasLinked) = ¬ IsAfterEos g h sink × IsTaken g sink
IsRefusedSo g h source sink (Some WouldLoop) = ¬ IsAfterEos g h sink × ¬ IsTaken g sink × Loops g source sink
IsRefusedSo g h source sink (Some FedElsewhere) = ¬ IsAfterEos g h sink × ¬ IsTaken g sink × ¬ Loops g source sink × IsFedElsewhere g h source sink
IsRefusedSo g h source sink (Some NoFormat) = ¬ IsAfterEos g h sink × ¬ IsTaken g sink × ¬ Loops g source sink × ¬ IsFedElsewhere g h source sink × LacksFormat g source sink
IsRefusedSo g h source sink None = ¬ IsAfterEos g h sink × ¬ IsTaken g sink × ¬ Loops g source sink × ¬ IsFedElsewhere g h source sink × ¬ LacksFormat g source sink
