-- Bodies whose bytes are lent to be changed.
use Rattle.std.specs.Prelude.{ℕ, List, ◌++◌, length, take, drop, Result}
use Rattle.std.specs.Borrow.{Lends, LendsIfOk, MutBor, Fml, Array, u8}
use Rattle.gst_value.specs.declared.memory.OutOfMemory.{OutOfMemory}
use Rattle.gst_item.specs.declared.body.Held.{Held}
use Rattle.gst_item.specs.declared.body.Held.TheVariants.{Owned}
use Rattle.gst_item.specs.contracts.body.Body.{the_row}
use Rattle.gst_item.specs.contracts.body.OwnedBytes.{the_row as block_row}
use Rattle.gst_item.specs.contracts.body.Held.{the_row as held_row}

-- a body behind a change of its bytes, which keeps its length
abbrev pub changed : List ℕ → List ℕ → List ℕ
changed body bytes = take (length body) (bytes ++ drop (length bytes) body)

-- the block ends as what was written into the loan
abbrev pub LendsBytes : MutBor (List ℕ) → MutBor (List ℕ) → Fml
LendsBytes block lent = Lends block_row (Array u8 0) block lent (changed block.now)

-- the body ends as what was written into the loan, and where there is no loan the body stays
abbrev pub LendsBytesIfOk : MutBor (List ℕ) → Result (MutBor (List ℕ)) OutOfMemory → Fml
LendsBytesIfOk body lent = LendsIfOk the_row (Array u8 0) body lent (changed body.now) body.now

-- the body ends as the block that was lent, and where there is no loan the body stays
abbrev pub LendsBlockIfOk : MutBor (List ℕ) → Result (MutBor (List ℕ)) OutOfMemory → Fml
LendsBlockIfOk body block = LendsIfOk the_row block_row body block (λ bytes. bytes) body.now

-- what is held ends as the block that was lent, and where there is no loan it stays
abbrev pub LendsOwnedIfOk : MutBor Held → Result (MutBor (List ℕ)) OutOfMemory → Fml
LendsOwnedIfOk held block = LendsIfOk held_row block_row held block Owned held.now
