use Rattle.std.proofs.Common.{◌∙◌, arith}
use Rattle.el_convert.proofs.Conversion.{appended}
use Rattle.el_convert.proofs.bodies.append.Goals as goal

pub loop-place-preserved : goal.loop-place-preserved
loop-place-preserved g c =
    record {
      items = appended c.args.made.now.items c.loop-place.made.items c.push_reserved.new.self.items c.args.bytes.now c.loop-place.place _ (omega arith) c.loop-place.invariant.items c.push_reserved.ensures.items;
      len = omega (arith, c.loop-place.invariant.len, c.push_reserved.ensures.len);
      capacity = c.push_reserved.ensures.capacity ∙ c.loop-place.invariant.capacity;
    }
