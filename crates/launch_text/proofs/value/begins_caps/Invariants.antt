use Rattle.std.proofs.Common.{◌≡◌, drop}
use Rattle.launch_text.specs.Words.{begins_caps}
use Rattle.launch_text.proofs.value.begins_caps.Given as goal

abbrev pub invariant-loop-byte : goal.invariant-loop-byte
invariant-loop-byte l = begins_caps (drop l.byte-index l.bytes) ≡ begins_caps l.bytes
