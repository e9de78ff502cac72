use Rattle.std.proofs.Common.{inr, sym, ◌∙◌, arith}
use Rattle.wav_format.specs.Format.{AreBytes}
use Rattle.wav_format.proofs.Decided.{opens}
use Rattle.wav_format.proofs.chunk.read_chunk.Goals as goal

pub returns-in-Some-clause-reads : goal.returns-in-Some-clause-reads
returns-in-Some-clause-reads c = c.in-Some.ensures.fault c.args.known

pub returns-in-Some-open_length-clause-reads : goal.returns-in-Some-open_length-clause-reads
returns-in-Some-open_length-clause-reads c =
    let fine : AreBytes c.args.left.now = λ i. let f = c.type_inv.left i in omega arith in
    let long = c.if-left-lt8.false in
    let has = c.in_default.ensures.fault in
    let o = opens (record { at = c.args.at; known = c.args.known; left = c.args.left.now }) c.in-Some-open_length.longer fine long (record { room = has.room; format = has.format }) c.in-Some-open_length.ensures.0 in
    let next = o.next in
    (inr (record { headed = record { headed = long; other = sym c.begins.ensures ∙ c.if-begins.false }; room = record { room = has.room; format = has.format }; short = o.cut }), omega (arith, next))

pub returns-in-Some-open_length-clause-few : goal.returns-in-Some-open_length-clause-few
returns-in-Some-open_length-clause-few c =
    let fine : AreBytes c.args.left.now = λ i. let f = c.type_inv.left i in omega arith in
    let has = c.in_default.ensures.fault in
    let o = opens (record { at = c.args.at; known = c.args.known; left = c.args.left.now }) c.in-Some-open_length.longer fine c.if-left-lt8.false (record { room = has.room; format = has.format }) c.in-Some-open_length.ensures.0 in
    λ n e. o.few
