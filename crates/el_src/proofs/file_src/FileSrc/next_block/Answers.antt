use Rattle.std.proofs.Common.{sym, ap, ◌∙◌}
use Rattle.el_src.proofs.Answering.{at_fault, on_err, on_ok, wanting_cause}
use Rattle.el_src.proofs.Shortening.{stops_short}
use Rattle.el_src.proofs.file_src.FileSrc.next_block.Goals as goal

pub returns-clause-gave : goal.returns-clause-gave
returns-clause-gave g c =
    on_ok c.give_block.result (λ n did owed h gave. did owed h (record { count = gave.count; eos = gave.eos; told = λ content e. gave.told content (sym c.read_block.ensures.content_stays ∙ e) })) c.give_block.ensures.gave

pub returns-clause-ended : goal.returns-clause-ended
returns-clause-ended g c =
    on_ok c.give_block.result (λ n did owed h gave. did owed h (record { count = gave.count; eos = gave.eos; told = λ content e. gave.told content (sym c.read_block.ensures.content_stays ∙ e) })) c.give_block.ensures.ended

pub returns-clause-kept : goal.returns-clause-kept
returns-clause-kept g c =
    on_err c.give_block.result (λ fault same owed h gave. rw same (record { count = gave.count; eos = gave.eos; told = λ content e. gave.told content (sym c.read_block.ensures.content_stays ∙ e) })) c.give_block.ensures.stays

pub returns-clause-cause : goal.returns-clause-cause
returns-clause-cause g c =
    on_err c.give_block.result
    (λ fault is. wanting_cause fault _ _ is (ap g.S.Source.faults c.give_block.ensures.source_stays ∙ c.in_ok-bytes.ensures.faults_stay))
    c.give_block.ensures.fault

pub returns-in_err-bytes-clause-short : goal.returns-in_err-bytes-clause-short
returns-in_err-bytes-clause-short g c =
    at_fault c.from_residual.result (λ fault owed h gave. stops_short g.S.Source.content c.args.self.now owed h fault c.requires.blocks gave)
