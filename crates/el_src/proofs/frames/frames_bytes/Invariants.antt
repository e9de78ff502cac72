use Rattle.std.proofs.Common.{◌≡◌, ◌≤◌, ◌-◌}
use Rattle.el_src.specs.Ramp.{frames_bytes}
use Rattle.el_src.proofs.frames.frames_bytes.Given as goal

abbrev pub invariant-loop-frame : goal.invariant-loop-frame
invariant-loop-frame l = (l.first ≤ l.frame) × (l.bytes.items ≡ frames_bytes l.channels l.first (l.frame - l.first))
