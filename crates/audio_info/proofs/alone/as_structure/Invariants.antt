use Rattle.std.proofs.Common.{◌≡◌, take, map}
use Rattle.audio_info.specs.Alone.{as_field}
use Rattle.audio_info.proofs.alone.as_structure.Given as goal

abbrev pub invariant-loop-place : goal.invariant-loop-place
invariant-loop-place l = l.made ≡ record { media = l.caps.media; fields = map as_field (take l.place l.caps.fields) }
