use Rattle.world_core.proofs.Commands.{ends_by_script, ends_by_turns, no_commands, some_commands}
use Rattle.world_core.proofs.launch.run_commands.Goals as goal

pub returns-then-is_empty-clause-ended : goal.returns-then-is_empty-clause-ended
returns-then-is_empty-clause-ended g c =
    λ found named.
    ends_by_turns c.args.request.graph c.args.commands (g.F.Files.seen c.args.files.now) (g.F.Files.seen c.run_turns.new.files) c.run_turns.result
    (no_commands c.args.commands c.as_slice.result.now c.is_empty.result c.as_slice.ensures c.is_empty.ensures c.if-is_empty.true) (c.run_turns.ensures.ended found)

pub returns-clause-ended : goal.returns-clause-ended
returns-clause-ended g c =
    λ found named.
    ends_by_script c.args.request.graph c.args.commands (g.F.Files.seen c.args.files.now) (g.F.Files.seen c.run_script.new.files) c.run_script.result
    (some_commands c.args.commands c.as_slice.result.now c.is_empty.result c.as_slice.ensures c.is_empty.ensures c.if-is_empty.false) named (c.run_script.ensures.ended found)

pub returns-clause-turned : goal.returns-clause-turned
returns-clause-turned g c =
    λ found began none.
    absurd (some_commands c.args.commands c.as_slice.result.now c.is_empty.result c.as_slice.ensures c.is_empty.ensures c.if-is_empty.false none)
