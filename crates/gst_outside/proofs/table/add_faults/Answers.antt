-- One entry is changed, the one that was found.
use Rattle.std.proofs.Common.{◌≡◌, ap, refl, arith}
use Rattle.gst_outside.specs.Causes.{plus}
use Rattle.gst_outside.specs.Table.{with_faults}
use Rattle.gst_outside.proofs.Entries.{changed}
use Rattle.gst_outside.proofs.table.add_faults.Goals as goal

pub returns : goal.returns
returns c =
    let old = c.index_mut-file.result.now in
    let is : c.saturating_add-file.result ≡ plus old.faults c.args.faults = omega arith in
    changed (with_faults c.args.faults) (λ x. refl) c.as_slice.result.now c.args.files.now.items c.args.location.now c.known_index-index.result old (record old { faults = c.saturating_add-file.result })
    c.known_index-index.ensures.found c.as_slice.ensures.value c.index_mut-file.ensures.value (ap (λ n. record old { faults = n }) is)
