use Rattle.std.proofs.Common.{◌≡◌, drop}
use Rattle.std.specs.List.{flat_map}
use Rattle.std.specs.String.{string_bytes}
use Rattle.launch_text.specs.Printed.{with_tokens}
use Rattle.launch_text.specs.Tokens.{part_tokens, tree_tokens}
use Rattle.launch_text.proofs.printing.+printed.Given as goal

abbrev pub invariant-put_parts-loop-part : goal.invariant-put_parts-loop-part
invariant-put_parts-loop-part l = with_tokens (string_bytes l.into) (flat_map part_tokens (drop l.part-index l.part-items)) ≡ with_tokens (string_bytes l.fn.into) (tree_tokens l.tree)
