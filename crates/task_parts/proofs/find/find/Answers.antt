use Rattle.std.proofs.Common.{◌∙◌, sym}
use Rattle.task_pads.proofs.Lists.{some_at}
use Rattle.task_parts.proofs.find.find.Goals as goal

pub returns-then-number : goal.returns-then-number
returns-then-number g c = record {
  part = c.index-parts-hint.result;
  at = some_at c.args.parts.now c.args.hint c.index-parts-hint.result c.if-hint-parts.true c.index-parts-hint.is;
  number_is = sym c.number.ensures ∙ c.if-number.true;
}

pub returns : goal.returns
returns g c = c.search.ensures
