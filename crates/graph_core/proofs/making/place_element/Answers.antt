use Rattle.std.proofs.Common.{◌≡◌, ◌∙◌, string_bytes, Err, is_some, not, refl, rules}
use Rattle.graph_core.specs.Asked.{Declared}
use Rattle.graph_core.specs.Elements.{all_made, given_name, IsUnmade}
use Rattle.graph_core.specs.declared.fault.BuildFault.TheVariants.{OutOfMemory}
use Rattle.graph_core.proofs.Steps.{unplaced, placed_named, placed_made}
use Rattle.graph_core.proofs.making.place_element.Goals as goal
use Rattle.gst_value.proofs.Results.{handed_on}

pub returns-in_err-judge-clause-fault : goal.returns-in_err-judge-clause-fault
returns-in_err-judge-clause-fault c =
    let d : Declared = record { kind = c.args.kind.now; props = c.args.props.now } in
    let fault = c.in_err-judge.field-0.0 in
    handed_on c.from_residual.result fault _ c.from_residual.ensures.1
    (unplaced (all_made c.args.before.now) d c.args.settings fault c.requires.set (placed_named (all_made c.args.before.now) c.as_str.result.now _ c.args.settings (Err fault) (c.as_str.ensures.value ∙ c.requires.name) c.in_err-judge.ensures))

pub returns-in_err-from_str-clause-fault : goal.returns-in_err-from_str-clause-fault
returns-in_err-from_str-clause-fault c = handed_on c.from_residual-in_err-from_str.result OutOfMemory _ c.from_residual-in_err-from_str.ensures.1 IsUnmade.memory

pub returns-clause-made : goal.returns-clause-made
returns-clause-made c =
    let numbered : c.is_none.result ≡ not (is_some (given_name c.as_slice.result.now)) = search rules in
    placed_made (all_made c.args.before.now) (record { kind = c.args.kind.now; props = c.args.props.now }) c.as_str.result.now (string_bytes c.args.name) c.as_slice.result.now _ c.args.settings
    c.as_str.ensures.value c.requires.name c.requires.set c.in_ok-judge.ensures c.as_slice.ensures (c.in_ok-from_str.ensures, numbered, refl)
