-- One entry is changed, the one that was found.
use Rattle.std.proofs.Common.{◌≡◌, ap, refl, arith}
use Rattle.gst_outside.specs.Causes.{raised}
use Rattle.gst_outside.specs.Table.{with_refusal}
use Rattle.gst_outside.proofs.Entries.{changed}
use Rattle.gst_outside.proofs.table.add_refusal.Goals as goal

pub returns : goal.returns
returns c =
    let old = c.index_mut-file.result.now in
    let is : c.saturating_add-file.result ≡ raised old.refused = omega arith in
    changed with_refusal (λ x. refl) c.as_slice.result.now c.args.files.now.items c.args.location.now c.known_index-index.result old (record old { refused = c.saturating_add-file.result })
    c.known_index-index.ensures.found c.as_slice.ensures.value c.index_mut-file.ensures.value (ap (λ n. record old { refused = n }) is)
