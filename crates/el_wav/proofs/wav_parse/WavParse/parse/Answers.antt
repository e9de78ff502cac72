use Rattle.el_wav.proofs.WavParsePutting.{appends_none}
use Rattle.el_wav.proofs.wav_parse.WavParse.parse.Goals as goal

pub returns-in-Event-Caps-clause-appends : goal.returns-in-Event-Caps-clause-appends
returns-in-Event-Caps-clause-appends c = appends_none c.args.out.now
