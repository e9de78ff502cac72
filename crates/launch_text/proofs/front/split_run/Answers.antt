-- A run ends at a boundary, and what is behind it is the rest.
use Rattle.std.proofs.Common.{◌∙◌, ap, arith, drop, take}
use Rattle.launch_text.proofs.Runs.{behind_run_is, run_boundary, run_is}
use Rattle.launch_text.proofs.front.split_run.Goals as goal

pub split_at-requires : goal.split_at-requires
split_at-requires c = run_boundary c.args.class c.args.text.now c.run_length.result c.utf8.text c.run_length.ensures

pub returns-clause-behind : goal.returns-clause-behind
returns-clause-behind c = c.split_at.ensures.back ∙ ap (λ n. drop n c.args.text.now) c.run_length.ensures ∙ behind_run_is c.args.class c.args.text.now

pub returns-clause-run : goal.returns-clause-run
returns-clause-run c = c.split_at.ensures.front ∙ ap (λ n. take n c.args.text.now) c.run_length.ensures ∙ run_is c.args.class c.args.text.now

pub returns-clause-lengths : goal.returns-clause-lengths
returns-clause-lengths c = omega (arith, c.split_at.ensures.front_len, c.split_at.ensures.back_len)
