use Rattle.std.proofs.Common.{◌++◌, ◌∙◌, ap, codes}
use Rattle.std.specs.Fmt.{decimal}
use Rattle.std.specs.String.{string_bytes}
use Rattle.run_report.specs.Pads.{newline}
use Rattle.run_report.proofs.Parts.{four_parts}
use Rattle.run_report.proofs.faults.write_line.Goals as goal

pub returns : goal.returns
returns c = rw (← c.script_kind_name-kind.ensures) (c.in_ok-write.ensures.bytes ∙ ap (λ rest. string_bytes c.args.text.now ++ (codes "fault line " ++ rest)) (four_parts (decimal c.args.line) (codes " ") c.script_kind_name-kind.result.now newline))
