use Rattle.std.proofs.Common.{◌++◌, sym, ap, ◌∙◌}
use Rattle.el_wav.proofs.WavParseParting.{last_taken}
use Rattle.el_wav.proofs.WavParsing.{on_ok}
use Rattle.el_wav.proofs.wav_put_out.put_last.Goals as goal

pub returns-in-Some-clause-ok : goal.returns-in-Some-clause-ok
returns-in-Some-clause-ok c = on_ok c.push.result (λ put.
    put ∙ ap (λ last. c.args.out.now ++ last) (sym (last_taken c.args.made c.pop.new.self.items c.in-Some.last (sym c.into_vec-made.ensures ∙ c.in-Some.ensures.items)))) c.push.ensures.ok
