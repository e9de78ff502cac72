use Rattle.std.proofs.Common.{Some, subst}
use Rattle.el_wav.specs.WavParsed.{KnowsHead}
use Rattle.el_wav.proofs.WavParsing.{on_if}
use Rattle.el_wav.proofs.WavParsePutting.{appends_none}
use Rattle.el_wav.proofs.wav_parse.WavParse.feed_data.Goals as goal

pub returns-clause-fed : goal.returns-clause-fed
returns-clause-fed c = on_if c.feed.result (λ done fed k calls knows. fed k calls (subst (KnowsHead (Some k) calls) c.in-Some.is knows)) c.feed.ensures.fed

pub returns-in_default-clause-appends : goal.returns-in_default-clause-appends
returns-in_default-clause-appends c = appends_none c.args.out.now
