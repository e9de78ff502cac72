use Rattle.el_convert.proofs.Buffers.{chosen_here, where_none}
use Rattle.el_convert.proofs.convert.Convert.choose_anew.Goals as goal
use Rattle.gst_value.proofs.Results.{handed_on}

pub put_converted-requires : goal.put_converted-requires
put_converted-requires c = record { kept = λ stream is. chosen_here c.args.self.now stream (where_none c.in_ok-other_choice.field-0 _ _ c.in_ok-other_choice.ensures.choice c.in-None.is) is }

pub returns-in_err-other_choice-clause-fault : goal.returns-in_err-other_choice-clause-fault
returns-in_err-other_choice-clause-fault c = handed_on c.from_residual.result c.in_err-other_choice.field-0.0 _ c.from_residual.ensures.1 (c.in_err-other_choice.ensures.fault c.args.buffer)
