use Rattle.std.proofs.Common.{◌≡◌, drop}
use Rattle.std.specs.String.{string_bytes}
use Rattle.launch_text.specs.Printed.{with_tokens}
use Rattle.launch_text.specs.Tokens.{linked}
use Rattle.launch_text.proofs.printing.put_linked.Given as goal

abbrev pub invariant-loop-node : goal.invariant-loop-node
invariant-loop-node l = with_tokens (string_bytes l.into) (linked (drop l.node-index l.nodes)) ≡ with_tokens (string_bytes l.fn.into) (linked l.nodes)
