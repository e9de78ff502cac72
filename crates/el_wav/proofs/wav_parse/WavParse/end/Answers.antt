use Rattle.flow_model.specs.Item.{Ev, Eos}
use Rattle.el_wav.proofs.WavParsePutting.{appends_one}
use Rattle.el_wav.proofs.wav_parse.WavParse.end.Goals as goal

pub returns-clause-appends : goal.returns-clause-appends
returns-clause-appends c = appends_one c.args.out.now c.put_out.new.out (Ev Eos) c.in_ok-put_out.ensures.ok
