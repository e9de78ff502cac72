use Rattle.std.proofs.Common.{length, ◌∙◌, arith}
use Rattle.el_mix.specs.Taking.{lines}
use Rattle.el_mix.proofs.Handing.{if_ok}
use Rattle.el_mix.proofs.Mixing.{sample_some}
use Rattle.el_mix.proofs.Turning.{frame_within, frames_few, more_turns, all_turns}
use Rattle.std.proofs.Math.Nat.{div-mul-le_self}
use Rattle.el_mix.proofs.turns.interleave.Goals as goal
use Rattle.el_mix.proofs.Stepping.{fewer_ahead as less_ahead}

pub nonzero_div-frames : goal.nonzero_div-frames
nonzero_div-frames c = rw c.width-width.ensures (sample_some c.args.format)

pub overflow_mul-frames : goal.overflow_mul-frames
overflow_mul-frames c = omega (arith, div-mul-le_self c.args.bytes c.width-width.result)

pub overflow_mul-frames-2 : goal.overflow_mul-frames-2
overflow_mul-frames-2 c = omega (arith, frames_few c.args.bytes c.width-width.result (length c.args.channels.now) c.requires.small c.requires.few)

pub overflow_mul-frame : goal.overflow_mul-frame
overflow_mul-frame c = omega (arith, frame_within c.args.bytes c.width-width.result c.loop-frame.frame c.loop-frame-test.true)

pub push_turn-requires-clause-ahead : goal.push_turn-requires-clause-ahead
push_turn-requires-clause-ahead c =
    less_ahead _ c.args.bytes (lines c.args.channels.now)
    (omega (arith, frame_within c.args.bytes c.width-width.result c.loop-frame.frame c.loop-frame-test.true, c.width-width.ensures)) c.requires.ahead

pub push_turn-requires-clause-small : goal.push_turn-requires-clause-small
push_turn-requires-clause-small c = omega (arith, frame_within c.args.bytes c.width-width.result c.loop-frame.frame c.loop-frame-test.true)

pub loop-frame-preserved : goal.loop-frame-preserved
loop-frame-preserved c =
    more_turns c.args.format (lines c.args.channels.now) c.loop-frame.frame c.width-width.result c.loop-frame.made.items c.push_turn.new.into.items c.width-width.ensures c.loop-frame.invariant
    c.in_ok-push_turn.ensures

pub returns : goal.returns
returns c =
    if_ok c.from_vec.result _ _
    (λ made e. e ∙ all_turns c.args.format (lines c.args.channels.now) c.loop-frame.frame c.args.bytes c.width-width.result c.loop-frame.made.items c.width-width.ensures c.loop-frame.auto.frame-end
    c.loop-frame-test.false c.loop-frame.invariant) c.from_vec.ensures.bytes
