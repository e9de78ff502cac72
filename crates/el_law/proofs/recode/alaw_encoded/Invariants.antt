use Rattle.std.proofs.Common.{◌≡◌}
use Rattle.std.specs.Prelude.{take, length, vec_len, vec_capacity}
use Rattle.std.specs.List.{flat_map}
use Rattle.audio_info.specs.Packing.{sample_bytes, sample_value}
use Rattle.audio_info.specs.declared.sample.Sample.TheVariants.{S16LE as Linear, ALaw}
use Rattle.el_law.proofs.recode.alaw_encoded.Given as goal

abbrev pub invariant-loop-sample : goal.invariant-loop-sample
invariant-loop-sample l =
    record {
      items : l.codes.items ≡ flat_map (λ s. sample_bytes ALaw (sample_value Linear s)) (take l.sample-index l.samples);
      len : vec_len l.codes ≡ l.sample-index;
      room : vec_capacity l.codes ≡ length l.samples;
    }
