-- The bytes of a body, in either way of holding them.
use Rattle.std.specs.Prelude.{ℕ, List}
use Rattle.gst_item.specs.declared.body.Held.{Held}
use Rattle.gst_item.specs.declared.body.Held.TheVariants.{Owned, Shared}

abbrev pub held_bytes : Held → List ℕ
held_bytes (Owned block) = block
held_bytes (Shared part) = part
