use Rattle.el_wav.proofs.WavParseParting.{took_other}
use Rattle.flow_model.specs.Item.{Ev}
use Rattle.el_wav.proofs.WavParsePutting.{appends_one}
use Rattle.el_wav.proofs.wav_parse.WavParse.pass.Goals as goal

pub returns-clause-took : goal.returns-clause-took
returns-clause-took c = λ read part calls is.
    took_other read part calls c.args.event c.args.self.now c.args.out.now c.put_out.new.out c.requires.caps c.requires.segment c.requires.eos c.requires.no_flush c.in_ok-put_out.ensures.ok is

pub returns-clause-appends : goal.returns-clause-appends
returns-clause-appends c = appends_one c.args.out.now c.put_out.new.out (Ev c.args.event) c.in_ok-put_out.ensures.ok
