use Rattle.std.proofs.Common.{◌++◌, ◌∷◌, [], length, sym, ap, ◌∙◌, arith}
use Rattle.flow_model.specs.Item.{Buf}
use Rattle.flow_model.specs.Feeding.{on_pad}
use Rattle.el_convert.specs.Converts.{frame_width}
use Rattle.flow_model.specs.Owed.{answered}
use Rattle.el_convert.specs.Converted.{knows}
use Rattle.el_convert.proofs.Buffers.{owed_staying, fault_staying, knows_staying, none_offered, if_err, if_no_value, on_no_value, ok_of, takes_whole, takes_fits}
use Rattle.el_convert.proofs.convert.Convert.put_converted.Goals as goal

pub returns-in_default-clause-fault : goal.returns-in_default-clause-fault
returns-in_default-clause-fault c = if_err c.before_caps.result _ _ (λ fault h. h (knows c.args.self.now) c.args.buffer (none_offered c.args.self.now c.in_default.is)) c.before_caps.ensures

pub returns-in_default-clause-flow : goal.returns-in_default-clause-flow
returns-in_default-clause-flow c = if_no_value c.before_caps.result _ _ c.before_caps.ensures

pub returns-in_default-clause-answer : goal.returns-in_default-clause-answer
returns-in_default-clause-answer c = on_no_value c.before_caps.result _ _ c.before_caps.ensures

pub returns-in_default-clause-out : goal.returns-in_default-clause-out
returns-in_default-clause-out c = on_no_value c.before_caps.result _ _ c.before_caps.ensures

pub returns-in_default-clause-knows : goal.returns-in_default-clause-knows
returns-in_default-clause-knows c = on_no_value c.before_caps.result _ _ c.before_caps.ensures

pub returns-in_default-clause-eos : goal.returns-in_default-clause-eos
returns-in_default-clause-eos c = on_no_value c.before_caps.result _ _ c.before_caps.ensures

pub returns-then-not-takes-clause-fault : goal.returns-then-not-takes-clause-fault
returns-then-not-takes-clause-fault c = if_err c.refuse.result _ _ (λ fault h. fault_staying c.args.self.now c.in-Some.stream c.args.buffer fault (c.requires.kept c.in-Some.stream c.in-Some.is) c.in-Some.is h) c.refuse.ensures

pub returns-then-not-takes-clause-flow : goal.returns-then-not-takes-clause-flow
returns-then-not-takes-clause-flow c = if_no_value c.refuse.result _ _ c.refuse.ensures

pub returns-then-not-takes-clause-answer : goal.returns-then-not-takes-clause-answer
returns-then-not-takes-clause-answer c = on_no_value c.refuse.result _ _ c.refuse.ensures

pub returns-then-not-takes-clause-out : goal.returns-then-not-takes-clause-out
returns-then-not-takes-clause-out c = on_no_value c.refuse.result _ _ c.refuse.ensures

pub returns-then-not-takes-clause-knows : goal.returns-then-not-takes-clause-knows
returns-then-not-takes-clause-knows c = on_no_value c.refuse.result _ _ c.refuse.ensures

pub returns-then-not-takes-clause-eos : goal.returns-then-not-takes-clause-eos
returns-then-not-takes-clause-eos c = on_no_value c.refuse.result _ _ c.refuse.ensures

pub convert-requires : goal.convert-requires
convert-requires c = record { whole = takes_whole (frame_width c.in-Some.stream.offered) c.args.self.now.got c.args.buffer (sym c.takes.ensures ∙ c.if-not-takes.false) }

pub invariant_of-self-clause-below_limit : goal.invariant_of-self-clause-below_limit
invariant_of-self-clause-below_limit c =
    omega (arith, takes_fits (frame_width c.in-Some.stream.offered) c.args.self.now.got c.args.buffer (sym c.takes.ensures ∙ c.if-not-takes.false), ap length c.as_slice.ensures.bytes)

pub returns-clause-answer : goal.returns-clause-answer
returns-clause-answer c = ok_of _ _ (owed_staying c.args.self.now c.in-Some.stream c.args.buffer (c.requires.kept c.in-Some.stream c.in-Some.is) c.in-Some.is (sym c.takes.ensures ∙ c.if-not-takes.false))

pub returns-clause-out : goal.returns-clause-out
returns-clause-out c =
    c.in-Ok-put_out.ensures.ok
    ∙ ap (λ m. c.args.out.now ++ on_pad 0 (Buf m ∷ [])) c.in-Ok.ensures.made
    ∙ ap (λ r. c.args.out.now ++ on_pad 0 (answered r)) (sym (owed_staying c.args.self.now c.in-Some.stream c.args.buffer (c.requires.kept c.in-Some.stream c.in-Some.is) c.in-Some.is (sym c.takes.ensures ∙ c.if-not-takes.false)))

pub returns-clause-knows : goal.returns-clause-knows
returns-clause-knows c = knows_staying c.args.self.now c.in-Some.stream c.args.buffer _ (c.requires.kept c.in-Some.stream c.in-Some.is) c.in-Some.is (sym c.takes.ensures ∙ c.if-not-takes.false) (ap length c.as_slice.ensures.bytes)
