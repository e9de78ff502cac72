-- For which lists a file source stands: what is owed, as it goes by the content of the file, and what was given
-- of it since the start or the last seek.
use Rattle.std.specs.Prelude.{◌≡◌, ℕ, ◌+◌, Bool, true, false, if◌then◌else◌, Option, Some, Result, Ok, Err, List, [], ◌∷◌, ◌++◌, length, take}
use Rattle.flow_model.specs.Item.{Item, Ev, StreamStart, Eos, eos_among}
use Rattle.flow_model.specs.Source.{file_section, blocks_from}
use Rattle.el_src.specs.declared.answer.Next.{Next}
use Rattle.el_src.specs.declared.answer.Next.TheVariants.{Item as Given, Ended}
use Rattle.el_src.specs.declared.fault.SrcFault.{SrcFault}
use Rattle.el_src.specs.declared.file_src.FileSrc.{FileSrc}
use Rattle.el_src.specs.declared.file_src.Phase.{Phase}
use Rattle.el_src.specs.declared.file_src.Phase.TheVariants.{Start as AtStart, Segment as AtSegment, Blocks as InBlocks, Eos as AtEos, Ended as Over}

-- what is read
abbrev pub source_of : {S : Type 0} → FileSrc S → S
source_of file = file.source

-- how many items were given since the start or the last seek
abbrev pub items_given : {S : Type 0} → FileSrc S → ℕ
items_given file = file.items

-- what is still to come, by what comes next, for the blocks of a size from a place on
abbrev pub still_to_come : Phase → ℕ → ℕ → ℕ → List ℕ → List Item
still_to_come AtStart id size place content = Ev (StreamStart id) ∷ file_section size place content
still_to_come AtSegment id size place content = file_section size place content
still_to_come InBlocks id size place content = blocks_from size place content 0 ++ Ev Eos ∷ []
still_to_come AtEos id size place content = Ev Eos ∷ []
still_to_come Over id size place content = []

abbrev pub is_over : Phase → Bool
is_over Over = true
is_over _ = false

-- what was given and what is still to come are what is owed
pub record Gave {S : Type 0} (content_of : S → Option (List ℕ)) (file : FileSrc S) (owed : List ℕ → List Item) (given : List Item) : Type 0 where
  pub count : file.items ≡ length given
  pub eos : is_over file.phase ≡ eos_among given
  pub told : (content : List ℕ) → content_of file.source ≡ Some content
      → given ++ still_to_come file.phase file.id file.blocksize file.place content ≡ owed content

-- all that is owed was given, EOS last
pub record GaveAll {S : Type 0} (content_of : S → Option (List ℕ)) (file : FileSrc S) (owed : List ℕ → List Item) (given : List Item) : Type 0 where
  pub gave : Gave content_of file owed given
  pub whole : (content : List ℕ) → content_of file.source ≡ Some content → given ≡ owed content

-- the lists behind a next item
abbrev pub AfterNext : {S : Type 0} → (S → Option (List ℕ)) → FileSrc S → (List ℕ → List Item) → List Item → Next → Type 0
AfterNext content_of file owed given (Given x) = Gave content_of file owed (given ++ x ∷ [])
AfterNext content_of file owed given Ended = GaveAll content_of file owed given

abbrev pub is_ended : Next → Bool
is_ended (Given x) = false
is_ended Ended = true

abbrev pub items_after : Result Next SrcFault → ℕ → ℕ
items_after (Ok (Given x)) n = n + 1
items_after (Ok Ended) n = n
items_after (Err fault) n = n

-- what is owed where the source is asked to end: the items that were given, and EOS; nothing changes behind EOS
abbrev pub ended_at : List Item → (List ℕ → List Item) → List ℕ → List Item
ended_at given owed content = if eos_among given then owed content else (take (length given) (owed content) ++ Ev Eos ∷ [])
