use Rattle.std.proofs.Common.{arith}
use Rattle.el_join.proofs.Answering.{on_err}
use Rattle.el_join.proofs.Taking.{ended_puts, ended_fault, concat_is}
use Rattle.el_join.proofs.concat.Concat.end.Goals as goal
use Rattle.gst_value.proofs.Results.{if_err, then_ok as on_ok}

pub end_turn-requires : goal.end_turn-requires
end_turn-requires c = omega (arith, c.requires.turn, c.args.self.now.pads.ok.0)

pub returns-clause-puts : goal.returns-clause-puts
returns-clause-puts c = on_ok c.end_turn.result _ _ (λ ends. ended_puts c.args.self.now _ c.args.out.now c.end_turn.new.out c.requires.runs c.requires.turn ends) c.end_turn.ensures.ends

pub returns-clause-stays : goal.returns-clause-stays
returns-clause-stays c = on_err c.end_turn.result _ _ (λ same. (concat_is c.args.self.now _ _ _ same.0 same.1 same.2 _, same.3)) c.end_turn.ensures.stays

pub returns-clause-fault : goal.returns-clause-fault
returns-clause-fault c = if_err c.end_turn.result _ _ (λ fault due. ended_fault c.args.self.now c.requires.runs c.requires.turn fault due) c.end_turn.ensures.fault

pub returns-clause-pads : goal.returns-clause-pads
returns-clause-pads c = omega (arith, c.end_turn.new.pads.ok.0, c.args.self.now.pads.ok.0, c.end_turn.ensures.pads)
