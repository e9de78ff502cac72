use Rattle.std.proofs.Common.{◌≡◌, ◌∙◌, ap}
use Rattle.graph_core.specs.Asked.{Declared}
use Rattle.graph_core.specs.Elements.{all_made, name_of, IsUnmade}
use Rattle.graph_core.specs.declared.fault.BuildFault.TheVariants.{OutOfMemory}
use Rattle.graph_core.proofs.Steps.{unset}
use Rattle.graph_core.proofs.making.new_element.Goals as goal
use Rattle.gst_value.proofs.Results.{handed_on}

pub returns-in_err-name-clause-fault : goal.returns-in_err-name-clause-fault
returns-in_err-name-clause-fault c = handed_on c.from_residual.result OutOfMemory _ c.from_residual.ensures.1 IsUnmade.memory

pub returns-in_err-named_fault-in-Err-clause-fault : goal.returns-in_err-named_fault-in-Err-clause-fault
returns-in_err-named_fault-in-Err-clause-fault c =
    handed_on c.from_residual-in_err-named_fault-in-Err.result OutOfMemory _ c.from_residual-in_err-named_fault-in-Err.ensures.1 IsUnmade.memory

pub returns-in_ok-named_fault-in-Err-clause-fault : goal.returns-in_ok-named_fault-in-Err-clause-fault
returns-in_ok-named_fault-in-Err-clause-fault c =
    let d : Declared = record { kind = c.args.kind.now; props = c.args.props.now } in
    let named : c.as_str.result.now ≡ name_of (all_made c.args.before.now) d =
    c.as_str.ensures.value ∙ c.in_ok-name.ensures ∙ ap (λ ps. name_of (all_made c.args.before.now) (let own : Declared = record { kind = c.args.kind.now; props = ps } in own)) c.as_slice.ensures
    in
    unset (all_made c.args.before.now) d c.as_str.result.now c.in-Err.fault _ named c.in-Err.ensures c.in_ok-named_fault-in-Err.ensures
