use Rattle.std.proofs.Common.{inl, inr, ◌∙◌}
use Rattle.world_core.proofs.Commands.{asked_named}
use Rattle.world_core.proofs.launch.run_request.Goals as goal

pub returns-in-Ok-clause-reported : goal.returns-in-Ok-clause-reported
returns-in-Ok-clause-reported g c =
    λ found.
    inr (record { begun = g.F.Files.seen c.read_commands.new.files; commands = c.in-Ok.commands; script = c.in-Ok.ensures.commands; ended = c.run_commands.ensures.ended found (asked_named _ (g.F.Files.seen c.args.files.now) c.in-Ok.commands c.in-Ok.ensures.commands.asked) })

pub returns-in-Ok-clause-turned : goal.returns-in-Ok-clause-turned
returns-in-Ok-clause-turned g c =
    λ found began.
    inr (record { begun = g.F.Files.seen c.read_commands.new.files; commands = c.in-Ok.commands; script = c.in-Ok.ensures.commands; went = c.run_commands.ensures.turned found began })

pub returns-in-Err-clause-reported : goal.returns-in-Err-clause-reported
returns-in-Err-clause-reported g c =
    λ found.
    inl (record {
      refusal = c.in-Err.refusal;
      refuses = c.in-Err.ensures.refusal (λ wanting. found (c.not_begun.ensures.status ∙ wanting));
      status = c.not_begun.ensures.status;
      fault = c.not_begun.ensures.fault;
      entries = c.not_begun.ensures.entries;
      pads = c.not_begun.ensures.pads;
      sinks = c.not_begun.ensures.sinks;
      inputs = c.read_commands.ensures.inputs;
      outputs = c.read_commands.ensures.outputs;
    })

pub returns-in-Err-clause-turned : goal.returns-in-Err-clause-turned
returns-in-Err-clause-turned g c =
    λ found began. inl (c.in-Err.refusal, c.in-Err.ensures.refusal (λ wanting. found (c.not_begun.ensures.status ∙ wanting)))
