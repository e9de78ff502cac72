use Rattle.std.proofs.Common.{◌++◌, ap, ◌∙◌, rules}
use Rattle.std.proofs.lemmas.Int.{to_z-of_z}
use mir.Syntax.{w32}
use mir.Val.{SFits}
use Rattle.audio_info.specs.Packing.{sample_value}
use Rattle.el_convert.specs.Bodies.{repacked}
use Rattle.el_convert.proofs.Conversion.{at_most_four, flat_map_step, has_room, next_len}
use Rattle.el_convert.proofs.Scaling.{some_width}
use Rattle.el_convert.proofs.bodies.kept.Goals as goal

pub append-requires : goal.append-requires
append-requires g c =
    record { few = at_most_four _ _ (some_width c.args.to).1 c.requires.bytes_out; room = has_room _ _ _ _ _ c.loop-sample-test.true c.loop-sample.invariant.len c.loop-sample.invariant.room }

pub loop-sample-preserved : goal.loop-sample-preserved
loop-sample-preserved g c =
    let fits : SFits w32 c.get.result = search rules in
    record {
      items = flat_map_step (λ s. repacked c.args.from c.args.to (sample_value c.args.from s)) c.args.samples.now c.loop-sample.sample-index c.sample-item.result c.loop-sample.made.items c.append.new.made.items
          c.loop-sample-test.true c.sample-item.is c.loop-sample.invariant.items
          (c.append.ensures.items ∙ ap (λ b. c.loop-sample.made.items ++ b) (c.packed-bytes.ensures ∙ ap (repacked c.args.from c.args.to) (to_z-of_z w32 c.get.result fits ∙ c.get.ensures.value)));
      len = next_len _ _ _ _ c.loop-sample.invariant.len c.append.ensures.len;
      room = c.append.ensures.capacity ∙ c.loop-sample.invariant.room;
    }
