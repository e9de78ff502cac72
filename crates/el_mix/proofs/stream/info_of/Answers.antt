use Rattle.std.proofs.Common.{sym}
use Rattle.el_mix.proofs.Telling.{heard_none}
use Rattle.el_mix.proofs.stream.info_of.Goals as goal

pub returns-in-Err : goal.returns-in-Err
returns-in-Err c = sym (heard_none c.args.caps.now c.in-Err.ensures.not_audio)
