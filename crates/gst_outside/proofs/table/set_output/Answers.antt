-- One entry is changed, the one that was found.
use Rattle.std.proofs.Common.{refl}
use Rattle.gst_outside.specs.Table.{with_output}
use Rattle.gst_outside.proofs.Entries.{changed}
use Rattle.gst_outside.proofs.table.set_output.Goals as goal

pub returns : goal.returns
returns c =
    let old = c.index_mut-file.result.now in
    changed (with_output c.args.output) (λ x. refl) c.as_slice.result.now c.args.files.now.items c.args.location.now c.known_index-index.result old (record old { output = c.args.output })
    c.known_index-index.ensures.found c.as_slice.ensures.value c.index_mut-file.ensures.value refl
