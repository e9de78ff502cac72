use Rattle.std.proofs.Common.{[]}
use Rattle.el_wav.proofs.WavParseReading.{began, begin_fault}
use Rattle.el_wav.proofs.wav_begun.begin_data.Goals as goal

pub returns-in-Ok-feed-clause-begun : goal.returns-in-Ok-feed-clause-begun
returns-in-Ok-feed-clause-begun c = λ bytes first.
    let head = c.args.head in
    let info = c.in-Some.known.info in
    began head info bytes c.args.first c.in-Ok.cut c.body_item.result c.feed.new.self c.in-Ok.left c.args.out.now c.feed.new.out
    c.in-Some.ensures.format first (c.in-Ok.ensures.body head.size 0 c.left_of.ensures) c.body_item.ensures (c.in-Ok.ensures.left head.size 0 c.left_of.ensures)
    (c.in-Ok-feed.ensures.fed (record { head = head; info = info }) [] c.in-Some.ensures.known)

pub returns-in-Err-clause-fault : goal.returns-in-Err-clause-fault
returns-in-Err-clause-fault c = λ bytes first.
    let head = c.args.head in
    let info = c.in-Some.known.info in
    begin_fault head info bytes c.args.first c.in-Ok.cut c.body_item.result c.in-Err.fault
    c.in-Some.ensures.format first (c.in-Ok.ensures.body head.size 0 c.left_of.ensures) c.body_item.ensures
    (c.in-Err.ensures.fault (record { head = head; info = info }) [] c.in-Some.ensures.known)
