use Rattle.std.proofs.Common.{[]}
use Rattle.el_wav.proofs.WavParseParting.{behind_of}
use Rattle.el_wav.proofs.wav_parse.WavParse.read_first.Goals as goal

pub returns-in-Ok-clause-read : goal.returns-in-Ok-clause-read
returns-in-Ok-clause-read c = λ read reads. record {
  has = c.read_on.new.gathered;
  begun = c.in-Ok.begun;
  read_on = c.in-Ok.ensures.read read [] reads c.new-gathered.ensures;
  behind = behind_of c.in-Ok.begun (record { known = c.args.self.now.known; phase = c.set.new.slot; ended = c.args.self.now.ended }) c.begin.new.self c.read_on.new.gathered c.set.ensures c.begin.ensures.begun;
}

pub returns-clause-fault : goal.returns-clause-fault
returns-clause-fault c = λ read calls reads. c.in-Err.ensures.fault read calls [] reads c.new-gathered.ensures
