use Rattle.std.proofs.Common.{take, refl, sym, ap, ◌∙◌}
use Rattle.el_mix.proofs.Leaving.{moves_none, moves_left, bare_left, bare_back, settled_left, settled_back}
use Rattle.el_mix.proofs.due.put_out.Goals as goal

pub returns-then-not-all_started-clause-moves : goal.returns-then-not-all_started-clause-moves
returns-then-not-all_started-clause-moves c = moves_none c.args.at.now c.args.channels.now c.args.out.now (sym c.if-not-all_started.ensures)

pub returns-in-Ok-clause-moves : goal.returns-in-Ok-clause-moves
returns-in-Ok-clause-moves c =
    moves_left c.args.at.now c.push_due.new.at c.args.channels.now c.push_due.new.channels c.leave_all.new.channels c.args.out.now c.into_vec-outs.result.items
    c.push_due.new.outs.items c.put_back.new.out (sym c.if-not-all_started.ensures) c.in-Ok.ensures.still c.in-Ok.ensures.pushes (c.into_vec-outs.ensures ∙ c.replace.ensures.value)
    c.leave_all.ensures c.put_back.ensures

pub returns-in-Ok-clause-bare : goal.returns-in-Ok-clause-bare
returns-in-Ok-clause-bare c = bare_left c.args.channels.now c.push_due.new.channels c.leave_all.new.channels c.leave_all.ensures c.in-Ok.ensures.still

pub returns-in-Ok-clause-settled : goal.returns-in-Ok-clause-settled
returns-in-Ok-clause-settled c = λ same. settled_left c.push_due.new.channels c.leave_all.new.channels c.leave_all.ensures

pub returns-in-Err-clause-bare : goal.returns-in-Err-clause-bare
returns-in-Err-clause-bare c = bare_back c.args.channels.now c.push_due.new.channels c.rewind_all.new.channels c.rewind_all.ensures c.in-Err.ensures.still

pub returns-in-Err-clause-settled : goal.returns-in-Err-clause-settled
returns-in-Err-clause-settled c = λ same. settled_back c.push_due.new.channels c.rewind_all.new.channels c.rewind_all.ensures

pub returns-in-Err-clause-stays : goal.returns-in-Err-clause-stays
returns-in-Err-clause-stays c = (
  refl,
  c.put_back-in-Err.ensures ∙ c.truncate.ensures.items ∙ ap (λ n. take n c.push_due.new.outs.items) (c.len-length.ensures ∙ c.into_vec-outs.result.ok.0) ∙ c.in-Err.ensures.grows
      ∙ (c.into_vec-outs.ensures ∙ c.replace.ensures.value),
  c.rewind_all.ensures ∙ c.in-Err.ensures.still,
)
