-- What is stored is the write, since the vector was long enough.
use Rattle.std.proofs.Common.{◌<◌, length, rules}
use Rattle.gst_outside.proofs.Writing.{stored}
use Rattle.gst_outside.proofs.mem_sink.store.Goals as goal

pub returns-then-not-is_empty-clause-bytes : goal.returns-then-not-is_empty-clause-bytes
returns-then-not-is_empty-clause-bytes c =
    let some : 0 < length c.args.piece.now = search rules in
    stored c.args.bytes.now.items c.stretch.new.bytes.items c.as_mut_slice.result.now c.overwrite.new.bytes
    c.stretch.new.bytes.len c.args.place c.args.piece.now
    c.stretch.ensures.bytes c.as_mut_slice.ensures.value c.as_mut_slice.ensures.len c.overwrite.ensures some
