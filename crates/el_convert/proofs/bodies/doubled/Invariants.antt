use Rattle.std.proofs.Common.{◌≡◌, ◌*◌, ◌++◌}
use Rattle.std.specs.Prelude.{take, length, vec_len, vec_capacity}
use Rattle.std.specs.List.{flat_map}
use Rattle.audio_info.specs.Packing.{sample_value}
use Rattle.el_convert.specs.Bodies.{repacked}
use Rattle.el_convert.proofs.bodies.doubled.Given as goal

abbrev pub invariant-loop-sample : goal.invariant-loop-sample
invariant-loop-sample g l =
    record {
      items : l.made.items ≡ flat_map (λ s. repacked l.from l.to (sample_value l.from s) ++ repacked l.from l.to (sample_value l.from s)) (take l.sample-index l.samples);
      len : vec_len l.made ≡ 2 * g.row.OUT * l.sample-index;
      room : vec_capacity l.made ≡ 2 * g.row.OUT * length l.samples;
    }
