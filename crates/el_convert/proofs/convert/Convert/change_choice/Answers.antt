use Rattle.std.proofs.Common.{◌++◌, ◌∷◌, [], length, sym, ap, ◌∙◌, arith}
use Rattle.flow_model.specs.Item.{Buf, Ev, NewCaps}
use Rattle.flow_model.specs.Feeding.{on_pad}
use Rattle.el_convert.specs.Converts.{frame_width}
use Rattle.flow_model.specs.Owed.{answered}
use Rattle.el_convert.proofs.Buffers.{owed_changing, fault_changing, knows_changing, if_err, if_no_value, on_no_value, ok_of, takes_whole, takes_fits}
use Rattle.el_convert.proofs.convert.Convert.change_choice.Goals as goal

pub returns-then-not-takes-clause-fault : goal.returns-then-not-takes-clause-fault
returns-then-not-takes-clause-fault c = if_err c.refuse.result _ _ (λ fault h. fault_changing c.args.self.now c.args.stream c.args.buffer fault c.requires h) c.refuse.ensures

pub returns-then-not-takes-clause-flow : goal.returns-then-not-takes-clause-flow
returns-then-not-takes-clause-flow c = if_no_value c.refuse.result _ _ c.refuse.ensures

pub returns-then-not-takes-clause-answer : goal.returns-then-not-takes-clause-answer
returns-then-not-takes-clause-answer c = on_no_value c.refuse.result _ _ c.refuse.ensures

pub returns-then-not-takes-clause-out : goal.returns-then-not-takes-clause-out
returns-then-not-takes-clause-out c = on_no_value c.refuse.result _ _ c.refuse.ensures

pub returns-then-not-takes-clause-knows : goal.returns-then-not-takes-clause-knows
returns-then-not-takes-clause-knows c = on_no_value c.refuse.result _ _ c.refuse.ensures

pub returns-then-not-takes-clause-eos : goal.returns-then-not-takes-clause-eos
returns-then-not-takes-clause-eos c = on_no_value c.refuse.result _ _ c.refuse.ensures

pub convert-requires : goal.convert-requires
convert-requires c = record { whole = takes_whole (frame_width c.args.stream.offered) c.args.self.now.got c.args.buffer (sym c.takes.ensures ∙ c.if-not-takes.false) }

pub invariant_of-self-clause-below_limit : goal.invariant_of-self-clause-below_limit
invariant_of-self-clause-below_limit c =
    omega (arith, takes_fits (frame_width c.args.stream.offered) c.args.self.now.got c.args.buffer (sym c.takes.ensures ∙ c.if-not-takes.false), ap length c.as_slice.ensures.bytes)

pub returns-clause-answer : goal.returns-clause-answer
returns-clause-answer c = ok_of _ _ (owed_changing c.args.self.now c.args.stream c.args.buffer c.requires (sym c.takes.ensures ∙ c.if-not-takes.false))

pub returns-clause-out : goal.returns-clause-out
returns-clause-out c =
    c.in_ok-put_with_caps.ensures.ok
    ∙ ap (λ o. c.args.out.now ++ on_pad 0 (Ev (NewCaps o) ∷ Buf c.convert.new.buffer ∷ [])) c.in_ok-copy.ensures
    ∙ ap (λ m. c.args.out.now ++ on_pad 0 (Ev (NewCaps c.args.stream.chosen) ∷ Buf m ∷ [])) c.in_ok-convert.ensures.made
    ∙ ap (λ r. c.args.out.now ++ on_pad 0 (answered r)) (sym (owed_changing c.args.self.now c.args.stream c.args.buffer c.requires (sym c.takes.ensures ∙ c.if-not-takes.false)))

pub returns-clause-knows : goal.returns-clause-knows
returns-clause-knows c = knows_changing c.args.self.now c.args.stream c.args.buffer _ c.requires (sym c.takes.ensures ∙ c.if-not-takes.false) (ap length c.as_slice.ensures.bytes)
