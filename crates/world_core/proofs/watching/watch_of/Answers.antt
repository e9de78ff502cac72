use Rattle.std.proofs.Common.{◌∙◌, ap, sym}
use Rattle.script_text.specs.declared.command.When.{When}
use Rattle.graph_edits.specs.Names.{source_when}
use Rattle.world_core.proofs.watching.watch_of.Goals as goal

pub returns-in-Some-source_number : goal.returns-in-Some-source_number
returns-in-Some-source_number c = record {
  name = c.in-At.pad;
  when_is = c.in-At.is;
  there = λ edited is. sym (c.in_ok-has_all.ensures edited is) ∙ c.if-not-branch.false;
  at = λ edited is. (
    c.in-Some.source,
    sym (ap (λ (when : When). source_when edited when) c.in-At.is) ∙ sym (c.in_ok-source.ensures.found edited is) ∙ c.in-Some.is,
    c.in-Some-source_number.ensures.number,
  );
}
