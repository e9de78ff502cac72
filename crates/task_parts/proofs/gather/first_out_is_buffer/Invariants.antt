use Rattle.std.proofs.Common.{◌≡◌, drop}
use Rattle.flow_model.specs.Takes.{on_port}
use Rattle.task_parts.proofs.gather.first_out_is_buffer.Given as goal

-- none of those before was for the port
abbrev pub invariant-loop-place : goal.invariant-loop-place
invariant-loop-place l = on_port l.fn.port l.fn.outs ≡ on_port l.fn.port (drop l.place l.fn.outs)
