use Rattle.std.proofs.Common.{false, inl, inr, map, ◌∙◌}
use Rattle.std.specs.String.{string_bytes}
use Rattle.world_core.specs.Headline.{is_quiet}
use Rattle.world_core.proofs.Quiet.{nothing_left_out}
use Rattle.world_core.proofs.launch.run_words.Goals as goal

pub returns-in-Ok-clause-reported : goal.returns-in-Ok-clause-reported
returns-in-Ok-clause-reported g c = λ found. inr (c.in-Ok.request, c.in-Ok.ensures.request, c.run_request.ensures.reported found)

pub returns-in-Err-clause-text : goal.returns-in-Err-clause-text
returns-in-Err-clause-text g c =
    nothing_left_out c.not_begun.result.status false (is_quiet (map string_bytes c.args.words.now)) c.not_begun.result.report c.not_begun.ensures.entries c.not_begun.ensures.pads c.not_begun.ensures.sinks

pub returns-in-Ok-clause-turned : goal.returns-in-Ok-clause-turned
returns-in-Ok-clause-turned g c = λ found began. inr (c.in-Ok.request, c.in-Ok.ensures.request, c.run_request.ensures.turned found began)

pub returns-in-Err-clause-turned : goal.returns-in-Err-clause-turned
returns-in-Err-clause-turned g c = λ found began. inl (c.in-Err.refusal, c.in-Err.ensures.refusal (λ wanting. found (c.not_begun.ensures.status ∙ wanting)))
