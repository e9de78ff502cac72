use Rattle.std.proofs.Common.{◌≡◌, ◌*◌}
use Rattle.std.specs.Prelude.{take, map, length, vec_len, vec_capacity}
use Rattle.std.specs.List.{flat_map}
use Rattle.audio_info.specs.Packing.{sample_value}
use Rattle.el_convert.specs.Bodies.{repacked, half_sum}
use Rattle.el_convert.proofs.bodies.halved.Given as goal

abbrev pub invariant-loop-pair : goal.invariant-loop-pair
invariant-loop-pair g l =
    record {
      items : l.made.items ≡ flat_map (λ p. repacked l.from l.to (half_sum (map (sample_value l.from) p))) (take l.pair-index l.pairs);
      len : vec_len l.made ≡ g.row.OUT * l.pair-index;
      room : vec_capacity l.made ≡ g.row.OUT * length l.pairs;
    }
