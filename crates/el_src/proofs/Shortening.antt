-- What was given ends short where a block is still to come.
use Rattle.std.proofs.Common.{◌≡◌, ◌-◌, ℕ, true, List, [], ◌∷◌, ◌++◌, map, Option, refl, sym, ap, ◌∙◌}
use Rattle.std.specs.List.{list_all, range_with_len}
use Rattle.flow_model.specs.Item.{Item, is_buffer}
use Rattle.flow_model.specs.Source.{block_at, block_count, blocks_from}
use Rattle.el_src.specs.Gave.{Gave, is_over, still_to_come}
use Rattle.el_src.specs.Short.{StopsShort}
use Rattle.el_src.specs.declared.fault.SrcFault.{SrcFault}
use Rattle.el_src.specs.declared.fault.SrcFault.TheVariants.{ReadFault, OutOfMemory as Wanting}
use Rattle.el_src.specs.declared.file_src.FileSrc.{FileSrc}
use Rattle.el_src.specs.declared.file_src.Phase.TheVariants.{Blocks as InBlocks}

blocks_are : (size place : ℕ) (c ks : List ℕ) → list_all is_buffer (map (block_at size place c) ks) ≡ true
blocks_are size place c [] = refl
blocks_are size place c (k ∷ ks) = blocks_are size place c ks

pub blocks_left : (size place : ℕ) (c : List ℕ) → list_all is_buffer (blocks_from size place c 0) ≡ true
blocks_left size place c = blocks_are size place c (range_with_len 0 (block_count size place c - 0))

pub stops_short : {S : Type 0} (content_of : S → Option (List ℕ)) (file : FileSrc S) (owed : List ℕ → List Item) (given : List Item) (fault : SrcFault) → file.phase ≡ InBlocks
    → Gave content_of file owed given → StopsShort (content_of file.source) owed given fault
stops_short content_of file owed given (ReadFault before after) at gave = (
  sym gave.eos ∙ ap is_over at,
  λ c told. record {
    left = blocks_from file.blocksize file.place c 0;
    buffers = blocks_left file.blocksize file.place c;
    owes = sym (gave.told c told) ∙ ap (λ phase. given ++ still_to_come phase file.id file.blocksize file.place c) at;
  },
)
stops_short content_of file owed given Wanting at gave = tt
