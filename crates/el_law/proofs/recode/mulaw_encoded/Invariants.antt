use Rattle.std.proofs.Common.{◌≡◌, ◌++◌, ◌+◌, ◌*◌, ◌/◌}
use Rattle.std.specs.Prelude.{take, length}
use Rattle.std.specs.List.{flat_map}
use Rattle.std.specs.Simd.{first_chunks}
use Rattle.el_law.proofs.Grouped.{coded}
use Rattle.el_law.proofs.recode.mulaw_encoded.Given as goal

abbrev pub invariant-loop-group : goal.invariant-loop-group
invariant-loop-group l =
    record {
      place : l.place ≡ 16 * l.group-index;
      size : length l.codes.items ≡ length l.bytes / 2;
      done : take l.place l.codes.items ≡ flat_map (λ g. flat_map coded (first_chunks 2 16 g)) (take l.group-index l.groups);
    }

abbrev pub invariant-loop-sample : goal.invariant-loop-sample
invariant-loop-sample l =
    record {
      place : l.place ≡ 16 * (length l.bytes / 32) + l.sample-index;
      size : length l.codes.items ≡ length l.bytes / 2;
      done : take l.place l.codes.items ≡ flat_map (λ g. flat_map coded (first_chunks 2 16 g)) (first_chunks 32 (length l.bytes / 32) l.bytes) ++ flat_map coded (take l.sample-index l.samples);
    }
