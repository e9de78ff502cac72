use Rattle.std.proofs.Common.{refl}
use Rattle.el_src.proofs.Ramping.{all_to_come}
use Rattle.el_src.proofs.ramp_src.RampSrc.new.Goals as goal

pub returns-clause-gave : goal.returns-clause-gave
returns-clause-gave c = record { count = refl; eos = refl; whole = all_to_come c.args.settings c.args.id c.requires.some_samples }
