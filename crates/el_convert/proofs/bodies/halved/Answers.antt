use Rattle.std.proofs.Common.{◌++◌, ap, ◌∙◌, map, rules}
use Rattle.std.proofs.lemmas.Int.{to_z-of_z}
use mir.Syntax.{w32}
use mir.Val.{SFits}
use Rattle.audio_info.specs.Packing.{sample_value}
use Rattle.el_convert.specs.Bodies.{repacked, half_sum}
use Rattle.el_convert.proofs.Conversion.{at_most_four, flat_map_step, has_room, next_len}
use Rattle.el_convert.proofs.Scaling.{some_width}
use Rattle.el_convert.proofs.bodies.halved.Goals as goal

pub append-requires : goal.append-requires
append-requires g c =
    record { few = at_most_four _ _ (some_width c.args.to).1 c.requires.bytes_out; room = has_room _ _ _ _ _ c.loop-pair-test.true c.loop-pair.invariant.len c.loop-pair.invariant.room }

pub loop-pair-preserved : goal.loop-pair-preserved
loop-pair-preserved g c =
    let fits : SFits w32 c.half.result = search rules in
    record {
      items = flat_map_step (λ p. repacked c.args.from c.args.to (half_sum (map (sample_value c.args.from) p))) c.args.pairs.now c.loop-pair.pair-index c.pair-item.result c.loop-pair.made.items c.append.new.made.items
          c.loop-pair-test.true c.pair-item.is c.loop-pair.invariant.items
          (c.append.ensures.items ∙ ap (λ b. c.loop-pair.made.items ++ b) (c.packed-bytes.ensures ∙ ap (repacked c.args.from c.args.to) (to_z-of_z w32 c.half.result fits ∙ c.half.ensures.value)));
      len = next_len _ _ _ _ c.loop-pair.invariant.len c.append.ensures.len;
      room = c.append.ensures.capacity ∙ c.loop-pair.invariant.room;
    }
