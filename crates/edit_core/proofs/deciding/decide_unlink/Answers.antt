use Rattle.std.proofs.Common.{sym, ◌∙◌}
use Rattle.edit_core.specs.Deciding.{IsDeed}
use Rattle.edit_core.proofs.deciding.decide_unlink.Goals as goal

pub returns-in-Some : goal.returns-in-Some
returns-in-Some c = λ e m when edited by. record {
  reached = by.0;
  deed_is = IsDeed.unlinks c.args.eos c.args.source c.in-Some.sink by.1 (sym (c.sink_behind.ensures e edited) ∙ c.in-Some.is);
}
