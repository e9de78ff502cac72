use Rattle.std.proofs.Common.{◌<◌, ◌^◌}
use Rattle.el_parse.specs.Streams.{stream_by}
use Rattle.el_parse.proofs.Cutting.{CutSoFar}
use Rattle.el_parse.proofs.pieces.cut_pieces.Given as goal

abbrev pub invariant-loop-index : goal.invariant-loop-index
invariant-loop-index l =
    CutSoFar (stream_by l.timing.info) l.timing.pts l.timing.reached l.frames l.first l.count l.fn.bytes l.index l.next l.reached l.whole.items × (l.next < 2 ^ 53)
