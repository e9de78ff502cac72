use Rattle.std.proofs.Common.{◌≡◌, ◌+◌, ◌++◌}
use Rattle.std.specs.Prelude.{take, vec_len, vec_capacity}
use Rattle.el_convert.proofs.bodies.append.Given as goal

abbrev pub invariant-loop-place : goal.invariant-loop-place
invariant-loop-place g l =
    record {
      items : l.made.items ≡ l.initial.made.items ++ take l.place l.bytes;
      len : vec_len l.made ≡ vec_len l.initial.made + l.place;
      capacity : vec_capacity l.made ≡ vec_capacity l.initial.made;
    }
