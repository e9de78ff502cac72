use Rattle.std.proofs.Common.{◌≡◌, drop, find}
use Rattle.std.specs.Str.{bytes_eq}
use Rattle.audio_info.proofs.field.field_named.Given as goal

abbrev pub invariant-loop-place : goal.invariant-loop-place
invariant-loop-place l =
    find (λ f. bytes_eq f.0 l.fn.name) l.fn.caps.fields ≡ find (λ f. bytes_eq f.0 l.fn.name) (drop l.place l.fn.caps.fields)
