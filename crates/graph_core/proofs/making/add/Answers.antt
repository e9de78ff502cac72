use Rattle.graph_core.specs.Elements.{all_made, made_in, IsUnmade}
use Rattle.graph_core.specs.declared.fault.BuildFault.TheVariants.{OutOfMemory}
use Rattle.graph_core.proofs.Steps.{follows_one, stops_one}
use Rattle.graph_core.proofs.making.add.Goals as goal
use Rattle.gst_value.proofs.Results.{handed_on}

pub returns-in_err-made-clause-fault : goal.returns-in_err-made-clause-fault
returns-in_err-made-clause-fault c = handed_on c.from_residual.result _ _ c.from_residual.ensures.1 (stops_one (all_made c.args.elements.now) (record { kind = c.args.kind.now; props = c.args.props.now }) _ c.in_err-made.ensures.fault)

pub returns-in_err-put-clause-fault : goal.returns-in_err-put-clause-fault
returns-in_err-put-clause-fault c =
    handed_on c.from_residual-in_err-put.result OutOfMemory _ c.from_residual-in_err-put.ensures.1 (stops_one (all_made c.args.elements.now) (record { kind = c.args.kind.now; props = c.args.props.now }) OutOfMemory IsUnmade.memory)

pub returns-clause-made : goal.returns-clause-made
returns-clause-made c = follows_one (all_made c.args.elements.now) _ (record { kind = c.args.kind.now; props = c.args.props.now }) (made_in c.in_ok-made.made) c.in_ok-made.ensures.made c.in_ok-put.ensures.made
