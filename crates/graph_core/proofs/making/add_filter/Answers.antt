use Rattle.std.proofs.Common.{List, [], ◌∷◌, codes, subst, OnOk, IfErr}
use Rattle.gst_value.specs.declared.name.Prop.{Prop}
use Rattle.graph_core.specs.Asked.{Declared}
use Rattle.graph_core.specs.Elements.{all_made, IsUnmade, Follows, Stops}
use Rattle.graph_core.specs.declared.fault.BuildFault.{BuildFault}
use Rattle.graph_core.specs.declared.fault.BuildFault.TheVariants.{OutOfMemory}
use Rattle.graph_core.proofs.Steps.{stops_one}
use Rattle.graph_core.proofs.making.add_filter.Goals as goal
use Rattle.gst_value.proofs.Results.{handed_on}

pub returns-clause-made : goal.returns-clause-made
returns-clause-made c =
    let filter : List Prop → List Declared = λ props. (let d : Declared = record { kind = codes "capsfilter"; props = props } in d) ∷ [] in
    subst (λ (props : List Prop). OnOk c.add.result (Follows (all_made c.args.elements.now) (filter props) (all_made c.add.new.elements))) c.in_ok-props.ensures c.add.ensures.made

pub returns-clause-fault : goal.returns-clause-fault
returns-clause-fault c =
    let filter : List Prop → List Declared = λ props. (let d : Declared = record { kind = codes "capsfilter"; props = props } in d) ∷ [] in
    subst (λ (props : List Prop). IfErr c.add.result (λ (fault : BuildFault). Stops (all_made c.args.elements.now) (filter props) fault)) c.in_ok-props.ensures c.add.ensures.fault

pub returns-in_err-props-clause-fault : goal.returns-in_err-props-clause-fault
returns-in_err-props-clause-fault c = handed_on c.from_residual.result OutOfMemory _ c.from_residual.ensures.1 (stops_one (all_made c.args.elements.now) _ OutOfMemory IsUnmade.memory)
