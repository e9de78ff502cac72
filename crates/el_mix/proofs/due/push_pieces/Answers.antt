use Rattle.std.proofs.Common.{map, sym, ap, ◌∙◌, arith}
use Rattle.el_mix.specs.Heard.{mono_by}
use Rattle.el_mix.specs.Taking.{settled, lines}
use Rattle.el_mix.proofs.Falling.{falls}
use Rattle.el_mix.proofs.Sending.{grows_twice, passes_length}
use Rattle.el_mix.proofs.Streaming.{lines_passes, settled_passes, pieced_more, pieced_out, pieced_zero}
use Rattle.el_mix.proofs.due.push_pieces.Goals as goal

pub returns-then-bytes-eq0-clause-all : goal.returns-then-bytes-eq0-clause-all
returns-then-bytes-eq0-clause-all c =
    pieced_zero (mono_by c.args.info) c.loop-bytes.at c.in-Some.bytes (lines c.loop-bytes.channels) (sym c.in-Some.ensures.cut) c.if-bytes-eq0.true

pub loop-bytes-smaller : goal.loop-bytes-smaller
loop-bytes-smaller c =
    falls c.in-Some.bytes (lines c.loop-bytes.channels) (lines c.push_piece.new.channels) (sym c.in-Some.ensures.cut) (omega (arith, c.if-bytes-eq0.false))
    (ap lines c.in_ok-push_piece.ensures.passes ∙ lines_passes c.in-Some.bytes c.loop-bytes.channels)

pub loop-bytes-preserved : goal.loop-bytes-preserved
loop-bytes-preserved c = record {
  pieced = pieced_more (mono_by c.args.info) c.args.at.now c.loop-bytes.at c.push_piece.new.at c.in-Some.bytes _ (lines c.loop-bytes.channels) _ _ c.loop-bytes.outs.items _
      (sym c.in-Some.ensures.cut) c.in_ok-push_piece.ensures.goes
      (ap lines c.in_ok-push_piece.ensures.passes ∙ lines_passes c.in-Some.bytes c.loop-bytes.channels) c.in_ok-push_piece.ensures.outs c.loop-bytes.invariant.pieced;
  still = ap (map settled) c.in_ok-push_piece.ensures.passes ∙ settled_passes c.in-Some.bytes c.loop-bytes.channels ∙ c.loop-bytes.invariant.still;
  grows = grows_twice c.args.outs.now.items c.loop-bytes.outs.items c.push_piece.new.outs.items c.loop-bytes.invariant.grows c.in_ok-push_piece.ensures.grows;
  few = omega (arith, passes_length c.in-Some.bytes c.loop-bytes.channels c.push_piece.new.channels c.in_ok-push_piece.ensures.passes, c.loop-bytes.invariant.few);
}

pub returns-clause-all : goal.returns-clause-all
returns-clause-all c = pieced_out (mono_by c.args.info) c.loop-bytes.at (lines c.loop-bytes.channels) (sym c.in_default.ensures.cut)
