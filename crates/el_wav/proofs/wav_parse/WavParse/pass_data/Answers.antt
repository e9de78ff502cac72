use Rattle.std.proofs.Common.{ap, subst, ◌∙◌}
use Rattle.flow_model.specs.Feeding.{next_owed, IsFaultOf}
use Rattle.el_parse.specs.Parses.{parses as parses_raw}
use Rattle.el_wav.specs.WavParseRule.{body_item}
use Rattle.el_wav.specs.WavParseSteps.{FedOn}
use Rattle.el_wav.proofs.wav_parse.WavParse.pass_data.Goals as goal

pub returns-in-Ok-clause-fed : goal.returns-in-Ok-clause-fed
returns-in-Ok-clause-fed c = λ k place calls left knows.
    subst (λ x. FedOn k calls x c.feed_data.new.self.known c.args.out.now c.feed_data.new.out)
    (c.body_item.ensures ∙ ap body_item (c.in_ok-cut.ensures.body k.head.size place left)) (c.in-Ok.ensures.fed k calls knows)

pub returns-in-Err-clause-fault : goal.returns-in-Err-clause-fault
returns-in-Err-clause-fault c = λ k place calls left knows.
    subst (λ x. IsFaultOf (next_owed (parses_raw k.info) calls x) c.in-Err.fault)
    (c.body_item.ensures ∙ ap body_item (c.in_ok-cut.ensures.body k.head.size place left)) (c.in-Err.ensures.fault k calls knows)
