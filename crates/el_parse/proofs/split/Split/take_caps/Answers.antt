use Rattle.std.proofs.Common.{sym, ap, ◌∙◌, ◌++◌}
use Rattle.flow_model.specs.Feeding.{on_pad}
use Rattle.el_parse.specs.Regrouped.{come}
use Rattle.el_parse.proofs.Accepted.{never_other}
use Rattle.el_parse.proofs.Grouping.{caps_ok, caps_out}
use Rattle.el_parse.proofs.split.Split.take_caps.Goals as goal

pub unreachable-requires : goal.unreachable-requires
unreachable-requires c = never_other _ c.args.caps c.in_ok-wanted.ensures (sym c.if-not-accepts.ensures) c.in_default.ensures.not_audio

pub returns-clause-answer : goal.returns-clause-answer
returns-clause-answer c = caps_ok c.args.self.now.frames (come c.args.self.now) _ c.args.caps c.in_ok-wanted.ensures c.if-not-accepts.ensures c.in_ok-put_rest.ensures.answer

pub returns-clause-out : goal.returns-clause-out
returns-clause-out c =
    c.in_ok-put_rest.ensures.out
    ∙ ap (λ ys. c.args.out.now ++ on_pad 0 ys)
    (sym (caps_out c.args.self.now.frames (come c.args.self.now) _ c.args.caps c.in_ok-wanted.ensures c.if-not-accepts.ensures c.in_ok-put_rest.ensures.answer))
