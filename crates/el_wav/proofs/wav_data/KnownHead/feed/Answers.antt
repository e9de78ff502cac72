use Rattle.std.proofs.Common.{◌++◌}
use Rattle.el_wav.proofs.wav_data.KnownHead.feed.Goals as goal

pub returns-in-Ok-clause-fed : goal.returns-in-Ok-clause-fed
returns-in-Ok-clause-fed c = λ k calls (head, info, (put, p)).
    let did = c.in-Ok.ensures.fed k.info calls put p in
    (did.0, did.1, did.2, (head, info, (put ++ did.0, did.3)))

pub returns-in-Err-clause-fault : goal.returns-in-Err-clause-fault
returns-in-Err-clause-fault c = λ k calls (head, info, (put, p)). c.in-Err.ensures.fault k.info calls put p

pub returns-in-Ok-clause-appends : goal.returns-in-Ok-clause-appends
returns-in-Ok-clause-appends c = (c.in-Ok.ensures.puts.more, c.in-Ok.ensures.puts.outs)
