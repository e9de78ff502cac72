use Rattle.el_wav.proofs.WavParseParting.{flushed_knows}
use Rattle.el_wav.proofs.wav_parse.flush_known.Goals as goal

pub returns-in-Some : goal.returns-in-Some
returns-in-Some c = λ known calls number knows. flushed_knows known calls number c.args.known.now c.in-Some.known c.flush.new.self c.in-Some.is c.flush.ensures knows
