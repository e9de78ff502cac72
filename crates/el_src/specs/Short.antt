-- How what a source gave ends where a read fails.
use Rattle.std.specs.Prelude.{◌≡◌, ℕ, true, false, List, [], ◌∷◌, ◌++◌, Option, Some}
use Rattle.std.specs.List.{list_all}
use Rattle.flow_model.specs.Item.{Item, Ev, Eos, is_buffer, eos_among}
use Rattle.el_src.specs.declared.fault.SrcFault.{SrcFault}
use Rattle.el_src.specs.declared.fault.SrcFault.TheVariants.{ReadFault, OutOfMemory}

-- what was given ends before a buffer, or before the EOS behind the last one: buffers alone are still owed, and EOS
pub record EndsShort (owed given : List Item) : Type 0 where
  pub left : List Item
  pub buffers : list_all is_buffer left ≡ true
  pub owes : owed ≡ given ++ (left ++ Ev Eos ∷ [])

-- EOS was not given where a read fails, and what was given ends short where the content is told; want of memory says nothing
abbrev pub StopsShort : Option (List ℕ) → (List ℕ → List Item) → List Item → SrcFault → Type 0
StopsShort content owed given (ReadFault before after) = (eos_among given ≡ false) × ((c : List ℕ) → content ≡ Some c → EndsShort (owed c) given)
StopsShort content owed given OutOfMemory = Unit {0}
