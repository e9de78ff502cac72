use Rattle.std.proofs.Common.{Result, IfOk, subst, sym}
use Rattle.world_core.specs.Scripts.{ScriptStops}
use Rattle.world_core.specs.declared.running.RunFault.{RunFault}
use Rattle.world_core.proofs.ScriptEnds.{stops_at_fault}
use Rattle.world_core.proofs.scripted.stop_of_script.Goals as goal

pub rest_of_script-requires : goal.rest_of_script-requires
rest_of_script-requires g c = record { answered = c.requires.answered c.in-Ok.is }

pub returns-in-Ok : goal.returns-in-Ok
returns-in-Ok g c = subst (λ (ran : Result (Unit {0}) RunFault). IfOk c.rest_of_script.result (ScriptStops c.args.ended.now ran)) (sym c.in-Ok.is) c.rest_of_script.ensures

pub returns-in-Err : goal.returns-in-Err
returns-in-Err g c = stops_at_fault c.args.ended.now c.args.ran c.in-Err.fault c.in-Err.is c.stop_of_fault.result c.stop_of_fault.ensures
