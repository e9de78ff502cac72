use Rattle.std.proofs.Common.{OnErr, OnOk, List, ℕ, ◌∙◌, subst}
use Rattle.world_core.specs.Headline.{Wrote, WrotePart}
use Rattle.world_core.proofs.launch.write_report.Goals as goal

pub returns-in-Err-clause-whole : goal.returns-in-Err-clause-whole
returns-in-Err-clause-whole g c =
    subst (λ (text : List ℕ). OnOk c.write_text-in-Err.result (Wrote text (g.O.Sink.bytes c.args.out.now) (g.O.Sink.bytes c.write_text-in-Err.new.out))) (c.as_bytes-in-Err.ensures.value ∙ c.no_memory.ensures c.args.quiet c.args.outcome.now.report) c.write_text-in-Err.ensures.whole

pub returns-in-Err-clause-part : goal.returns-in-Err-clause-part
returns-in-Err-clause-part g c =
    subst (λ (text : List ℕ). OnErr c.write_text-in-Err.result (WrotePart text (g.O.Sink.bytes c.args.out.now) (g.O.Sink.bytes c.write_text-in-Err.new.out))) (c.as_bytes-in-Err.ensures.value ∙ c.no_memory.ensures c.args.quiet c.args.outcome.now.report) c.write_text-in-Err.ensures.part
