use Rattle.std.proofs.Common.{◌≡◌, sym, ◌∙◌, ap, Some}
use Rattle.el_convert.specs.Choice.{choice}
use Rattle.el_convert.specs.Converted.{knows}
use Rattle.el_convert.proofs.Buffers.{none_offered, if_err, if_no_value}
use Rattle.gst_caps.proofs.Same.{caps_decide}
use Rattle.el_convert.proofs.convert.Convert.other_choice.Goals as goal

pub returns-in_default-clause-fault : goal.returns-in_default-clause-fault
returns-in_default-clause-fault c = if_err c.before_caps.result _ _ (λ fault h. λ b. h (knows c.args.self.now) b (none_offered c.args.self.now c.in_default.is)) c.before_caps.ensures

pub returns-in_default-clause-choice : goal.returns-in_default-clause-choice
returns-in_default-clause-choice c = if_no_value c.before_caps.result _ _ c.before_caps.ensures

pub returns-then-same_caps-clause-choice : goal.returns-then-same_caps-clause-choice
returns-then-same_caps-clause-choice c =
    let same : c.in-Some.stream.chosen ≡ c.in_ok-other.other.chosen = (caps_decide c.in-Some.stream.chosen c.in_ok-other.other.chosen).0 (sym c.same_caps.ensures ∙ c.if-same_caps.true) in
    record {
      stream = c.in-Some.stream;
      is = c.in-Some.is;
      chosen = ap (λ o. choice o c.args.self.now.allowed) (sym c.in_ok-copy.ensures) ∙ c.in_ok-other.ensures.chosen ∙ ap Some (sym same);
    }

pub returns-clause-choice : goal.returns-clause-choice
returns-clause-choice c = record {
  stream = c.in-Some.stream;
  is = c.in-Some.is;
  same_stream = c.in_ok-other.ensures.offered ∙ c.in_ok-copy.ensures;
  chosen = ap (λ o. choice o c.args.self.now.allowed) (sym c.in_ok-copy.ensures) ∙ c.in_ok-other.ensures.chosen;
  differs = sym c.same_caps.ensures ∙ c.if-same_caps.false;
}
