-- At first no part is printed.
use Rattle.std.proofs.Common.{ap, sym, ◌∙◌}
use Rattle.std.specs.List.{flat_map}
use Rattle.std.specs.String.{string_bytes}
use Rattle.launch_text.specs.Printed.{with_tokens}
use Rattle.launch_text.specs.Tokens.{part_tokens}
use Rattle.launch_text.proofs.Lines.{tree_parts}
use Rattle.launch_text.proofs.printing.+printed.Goals as goal

pub put_parts-loop-part-init : goal.put_parts-loop-part-init
put_parts-loop-part-init t c = ap (with_tokens (string_bytes c.args.into.now)) (ap (flat_map part_tokens) c.as_slice-part-items.ensures ∙ sym (tree_parts c.args.tree.now))
