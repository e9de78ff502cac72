use Rattle.std.proofs.Common.{◌∷◌, [], ap, ◌∙◌, length, arith, rules}
use Rattle.std.proofs.lemmas.Int.{to_z-of_z}
use mir.Syntax.{w16}
use mir.Val.{SFits}
use Rattle.audio_info.specs.Packing.{sample_bytes, sample_value}
use Rattle.audio_info.specs.declared.sample.Sample.TheVariants.{S16LE as Linear}
use Rattle.el_law.specs.Companding.{format_of}
use Rattle.el_law.proofs.Decoding.{decoded_more, decoded_whole}
use Rattle.el_law.proofs.recode.decoded.Goals as goal

pub push_reserved-requires : goal.push_reserved-requires
push_reserved-requires c = omega (arith, c.loop-code-test.true, c.loop-code.invariant.len, c.loop-code.invariant.room)

pub push_reserved-requires-in-loop-code : goal.push_reserved-requires-in-loop-code
push_reserved-requires-in-loop-code c = omega (arith, c.loop-code-test.true, c.loop-code.invariant.len, c.loop-code.invariant.room, c.push_reserved.ensures.len, c.push_reserved.ensures.capacity)

pub loop-code-preserved : goal.loop-code-preserved
loop-code-preserved c =
    let fits : SFits w16 c.decode.result = search rules in
    record {
      items = decoded_more (λ k. sample_bytes Linear (sample_value (format_of c.args.law) (k ∷ []))) c.args.codes.now c.loop-code.code-index c.loop-code.samples.items c.push_reserved.new.self.items c.push_reserved-in-loop-code.new.self.items c.linear_bytes-sample.result
          c.loop-code-test.true c.loop-code.invariant.items c.push_reserved.ensures.items c.push_reserved-in-loop-code.ensures.items
          (ap length c.linear_bytes-sample.ensures) (c.linear_bytes-sample.ensures ∙ ap (sample_bytes Linear) (to_z-of_z w16 c.decode.result fits ∙ c.decode.ensures));
      len = omega (arith, c.loop-code.invariant.len, c.push_reserved.ensures.len, c.push_reserved-in-loop-code.ensures.len);
      room = c.push_reserved-in-loop-code.ensures.capacity ∙ c.push_reserved.ensures.capacity ∙ c.loop-code.invariant.room;
    }

pub returns : goal.returns
returns c = decoded_whole c.args.law c.args.codes.now _ c.loop-code.code-index c.loop-code-test.false c.loop-code.invariant.items
