use Rattle.std.proofs.Common.{◌++◌, ◌∙◌, ap, codes}
use Rattle.std.specs.String.{string_bytes}
use Rattle.run_report.specs.Pads.{newline}
use Rattle.run_report.proofs.Parts.{four_parts}
use Rattle.run_report.proofs.faults.write_missing.Goals as goal

pub returns : goal.returns
returns c = rw (← c.as_str-name.ensures, ← c.what_name-what.ensures) (c.in_ok-write.ensures.bytes ∙ ap (λ rest. string_bytes c.args.text.now ++ (codes "fault NoSuch " ++ rest)) (four_parts c.as_str-name.result.now (codes " ") c.what_name-what.result.now newline))
