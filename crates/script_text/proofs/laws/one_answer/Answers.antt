use Rattle.script_text.proofs.Outcomes.{each_has_one, never_both, one_refusal, one_script}
use Rattle.script_text.proofs.Undone.{none_said}
use Rattle.script_text.proofs.laws.one_answer.Goals as goal

pub returns : goal.returns
returns c = record { each = each_has_one; both = never_both; script = one_script; refusal = one_refusal; none = none_said }
