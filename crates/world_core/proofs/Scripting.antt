-- A run stays one of a script when the next command is answered, in each turn, and where all are tried.
use Rattle.std.proofs.Common.{◌≡◌, ℕ, Bool, true, List, All, length}
use Rattle.lane_core.specs.declared.ends.Inlet as inlets
use Rattle.lane_core.specs.declared.ends.Outlet as outlets
use Rattle.flow_model.specs.declared.element.TaskElement as elements
use Rattle.flow_model.specs.declared.source.TaskSource as sources
use Rattle.script_text.specs.declared.command.Command.{Command}
use Rattle.graph_edits.specs.Edited.{Edited}
use Rattle.edit_core.specs.Deciding.{names_its_pad}
use Rattle.edit_acts.specs.Scripted.{ActsKeepScripts, IsScripted, TurnsKeepScripts}
use Rattle.world_core.specs.Answering.{ActsOn}
use Rattle.world_core.specs.Running.{IsStepped, IsTried, view_of}
use Rattle.world_core.specs.declared.running.Running.{Running}

module _ {S E I O L : Type 0} {s : sources.Ghosts S} {e : elements.Ghosts E} {i : inlets.Ghosts I L O} {o : outlets.Ghosts O L} (script : List Command) (first : Edited) where
  pub by_act : ActsKeepScripts s e i o → All (λ c. names_its_pad c ≡ true) script → (was is : Running S E I O L s e i o) → IsScripted script first (view_of was) → ActsOn was is
      → IsScripted script first (view_of is)
  by_act law names was is w acts = law script first (view_of was) (view_of is) names w acts.acted

  pub by_turn : TurnsKeepScripts s e i o → (was is : Running S E I O L s e i o) (place : ℕ) (moved : Bool) → IsScripted script first (view_of was) → IsStepped place moved was is
      → IsScripted script first (view_of is)
  by_turn law was is place moved w stepped = law.step script first (view_of was) (view_of is) place stepped.step w stepped.stepped stepped.control

  pub by_trial : TurnsKeepScripts s e i o → (was is : Running S E I O L s e i o) (moved : Bool) → IsScripted script first (view_of was) → IsTried moved was is
      → IsScripted script first (view_of is)
  by_trial law was is moved w tried = law.trial script first (view_of was) (view_of is) (length was.tasks.items) moved w tried.tried tried.control
