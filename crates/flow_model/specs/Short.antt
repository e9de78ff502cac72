-- How what a source gave ends where it can't be read.
use Rattle.std.specs.Prelude.{◌≡◌, true, false, List, [], ◌∷◌, ◌++◌}
use Rattle.std.specs.List.{list_all}
use Rattle.flow_model.specs.Item.{Item, Ev, Eos, is_buffer, eos_among}
use Rattle.flow_model.specs.declared.refusal.Unread.{Unread}
use Rattle.flow_model.specs.declared.refusal.Unread.TheVariants.{Failed, OutOfMemory}

-- EOS was not given; what was given ends before a buffer, or before the EOS behind the last one
pub record EndsShort (owed given : List Item) : Type 0 where
  pub eos : eos_among given ≡ false
  pub left : List Item
  pub buffers : list_all is_buffer left ≡ true
  pub owes : owed ≡ given ++ (left ++ Ev Eos ∷ [])

-- so it is where a read failed; want of memory says nothing
abbrev pub StopsShort : List Item → List Item → Unread → Type 0
StopsShort owed given (Failed before after) = EndsShort owed given
StopsShort owed given OutOfMemory = Unit {0}
