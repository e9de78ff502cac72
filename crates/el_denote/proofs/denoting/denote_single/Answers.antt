use Rattle.el_denote.proofs.WholeLists.{denoted_ok, denoted_err, first_is}
use Rattle.el_denote.proofs.denoting.denote_single.Goals as goal

pub returns-in_ok-on_pads-in-Ok : goal.returns-in_ok-on_pads-in-Ok
returns-in_ok-on_pads-in-Ok c =
    let found = c.in-Some.ensures.item in
    let only = first_is c.args.inputs.now c.as_slice.result.now c.in-Some.input.now c.as_slice-2.result.now c.as_slice.ensures found.3.0 found.1 c.as_slice-2.ensures in
    denoted_ok c.args.settings.now c.args.allowed.now c.args.inputs.now c.as_slice-2.result.now c.evaluated.result c.in-Ok.output _ c.in-Ok.is only (c.evaluated.ensures _ c.in_ok-element.ensures) c.in_ok-on_pads-in-Ok.ensures

pub returns-in-Err : goal.returns-in-Err
returns-in-Err c =
    let found = c.in-Some.ensures.item in
    let only = first_is c.args.inputs.now c.as_slice.result.now c.in-Some.input.now c.as_slice-2.result.now c.as_slice.ensures found.3.0 found.1 c.as_slice-2.ensures in
    denoted_err c.args.settings.now c.args.allowed.now c.args.inputs.now c.as_slice-2.result.now c.evaluated.result c.in-Err.fault c.in-Err.is only (c.evaluated.ensures _ c.in_ok-element.ensures)
