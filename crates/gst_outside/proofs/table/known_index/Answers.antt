-- An entry that is there is found.
use Rattle.std.proofs.Common.{sym}
use Rattle.gst_outside.proofs.Entries.{absent}
use Rattle.gst_outside.proofs.table.known_index.Goals as goal

pub unreachable-requires : goal.unreachable-requires
unreachable-requires c = absent c.args.files.now c.args.location.now (sym c.in-None.ensures) c.requires
