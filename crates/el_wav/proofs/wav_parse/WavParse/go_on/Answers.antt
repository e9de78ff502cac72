use Rattle.std.proofs.Common.{Some, sym, subst}
use Rattle.el_wav.specs.WavParseData.{IsKnown}
use Rattle.el_wav.specs.WavParsed.{KnowsHead}
use Rattle.el_wav.specs.WavParseAppends.{Appends}
use Rattle.el_wav.specs.WavParseSteps.{FedOn, WentOn}
use Rattle.el_wav.proofs.WavParseParting.{went_on}
use Rattle.el_wav.proofs.WavParsePutting.{appends_none, appends_last}
use Rattle.el_wav.proofs.wav_parse.WavParse.go_on.Goals as goal

pub returns-in_ok-put_last-in-Ok-feed-clause-fed : goal.returns-in_ok-put_last-in-Ok-feed-clause-fed
returns-in_ok-put_last-in-Ok-feed-clause-fed c = λ k calls knows.
    let copied = subst (λ known. IsKnown k calls known) (sym c.in-Ok.ensures) (subst (KnowsHead (Some k) calls) c.in-Some.is knows) in
    let fed = subst (λ made. FedOn k calls c.args.item (Some c.feed.new.self) made c.feed.new.out) c.new-made.ensures (c.in-Ok-feed.ensures.fed k calls copied) in
    subst (λ known. WentOn k calls c.args.item known c.args.out.now c.put_last.new.out) (sym c.set.ensures)
    (went_on k calls c.args.item (Some c.feed.new.self) c.args.out.now c.put_last.new.out c.feed.new.out fed c.in_ok-put_last-in-Ok-feed.ensures.ok)

pub returns-in-Err-clause-fault : goal.returns-in-Err-clause-fault
returns-in-Err-clause-fault c = λ k calls knows.
    c.in-Err.ensures.fault k calls (subst (λ known. IsKnown k calls known) (sym c.in-Ok.ensures) (subst (KnowsHead (Some k) calls) c.in-Some.is knows))

pub returns-in_ok-put_last-in-Ok-feed-clause-appends : goal.returns-in_ok-put_last-in-Ok-feed-clause-appends
returns-in_ok-put_last-in-Ok-feed-clause-appends c =
    appends_last c.feed.new.out c.args.out.now c.put_last.new.out (subst (λ made. Appends made c.feed.new.out) c.new-made.ensures c.in-Ok-feed.ensures.appends) c.in_ok-put_last-in-Ok-feed.ensures.ok

pub returns-in_default-clause-appends : goal.returns-in_default-clause-appends
returns-in_default-clause-appends c = appends_none c.args.out.now
