use Rattle.std.proofs.Common.{arith}
use Rattle.world_core.proofs.ScriptBegun.{stand_first}
use Rattle.world_core.proofs.scripted.probes_of.Goals as goal

pub returns : goal.returns
returns c = stand_first c.args.commands.now c.new.result (omega (arith, c.if-commands.false)) c.new.ensures
