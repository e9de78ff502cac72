use Rattle.std.proofs.Common.{◌≡◌, ◌*◌, ◌/◌, length, refl}
use Rattle.el_parse.specs.Streams.{stream_by}
use Rattle.el_parse.proofs.Timed.{fault_on}
use Rattle.el_parse.proofs.Cutting.{cut_none, cut_more, cut_fault, cut_whole, piece_body}
use Rattle.el_parse.proofs.pieces.cut_pieces.Goals as goal

pub loop-index-init : goal.loop-index-init
loop-index-init c =
    (rw c.in_ok-whole.ensures (cut_none (stream_by c.args.timing.info) c.args.timing.pts c.args.timing.reached c.args.frames c.args.first _ c.args.bytes), c.requires.fits)

pub returns-in_err-reached-clause-fault : goal.returns-in_err-reached-clause-fault
returns-in_err-reached-clause-fault c =
    let body = piece_body _ c.args.bytes c.loop-index.index c.args.frames c.width.result _ c.in_ok-body.ensures c.width.ensures.bytes in
    let count : length c.as_slice.result.now / (c.args.frames * c.width.result) ≡ length c.args.bytes / (c.args.frames * (stream_by c.args.timing.info).width) =
    rw (c.as_slice.ensures.bytes, c.width.ensures.bytes) refl in
    fault_on _ _ _ c.from_residual-in_err-reached.ensures.1
    (rw (← count)
    (cut_fault (stream_by c.args.timing.info) c.args.timing.pts c.args.timing.reached c.args.frames c.args.first _ c.args.bytes c.loop-index.index c.loop-index.next c.loop-index.reached c.loop-index.whole.items
    c.in_ok-body.body _ c.loop-index.invariant.0 c.loop-index-test.true body c.in_err-reached.ensures.fault))

pub loop-index-preserved : goal.loop-index-preserved
loop-index-preserved c =
    let body = piece_body _ c.args.bytes c.loop-index.index c.args.frames c.width.result _ c.in_ok-body.ensures c.width.ensures.bytes in
    let did = c.in_ok-reached.ensures in
    rw c.from-next.ensures (
      cut_more (stream_by c.args.timing.info) c.args.timing.pts c.args.timing.reached c.args.frames c.args.first _ c.args.bytes c.loop-index.index c.loop-index.next c.loop-index.reached c.loop-index.whole.items
          c.in_ok-body.body _ _ c.loop-index.invariant.0 c.loop-index-test.true body did.answer did.into did.reached,
      did.fits,
    )

pub returns-clause-whole : goal.returns-clause-whole
returns-clause-whole c =
    let count : length c.as_slice.result.now / (c.args.frames * c.width.result) ≡ length c.args.bytes / (c.args.frames * (stream_by c.args.timing.info).width) =
    rw (c.as_slice.ensures.bytes, c.width.ensures.bytes) refl in
    (cut_whole _ _ _ _ _ _ _ _ _ _ _ _ c.loop-index.invariant.0 c.loop-index-test.false count).0

pub returns-clause-reached : goal.returns-clause-reached
returns-clause-reached c =
    let count : length c.as_slice.result.now / (c.args.frames * c.width.result) ≡ length c.args.bytes / (c.args.frames * (stream_by c.args.timing.info).width) =
    rw (c.as_slice.ensures.bytes, c.width.ensures.bytes) refl in
    (cut_whole _ _ _ _ _ _ _ _ _ _ _ _ c.loop-index.invariant.0 c.loop-index-test.false count).1
