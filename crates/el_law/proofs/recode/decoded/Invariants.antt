use Rattle.std.proofs.Common.{◌≡◌, ◌*◌, ◌∷◌, []}
use Rattle.std.specs.Prelude.{take, length, vec_len, vec_capacity}
use Rattle.std.specs.List.{flat_map}
use Rattle.audio_info.specs.Packing.{sample_bytes, sample_value}
use Rattle.audio_info.specs.declared.sample.Sample.TheVariants.{S16LE as Linear}
use Rattle.el_law.specs.Companding.{format_of}
use Rattle.el_law.proofs.recode.decoded.Given as goal

abbrev pub invariant-loop-code : goal.invariant-loop-code
invariant-loop-code l =
    record {
      items : l.samples.items ≡ flat_map (λ c. sample_bytes Linear (sample_value (format_of l.law) (c ∷ []))) (take l.code-index l.codes);
      len : vec_len l.samples ≡ 2 * l.code-index;
      room : vec_capacity l.samples ≡ 2 * length l.codes;
    }
