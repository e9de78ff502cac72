-- For which lists a source stands: what is owed, as it goes by the content of the file that it reads, and what was
-- given of it since the start or the last seek. A source that reads nothing owes the same for each content.
use Rattle.std.specs.Prelude.{◌≡◌, ℕ, List, [], ◌∷◌, ◌++◌, Option, Some, None}
use Rattle.flow_model.specs.Item.{Item}
use Rattle.el_src.specs.declared.answer.Next.{Next}
use Rattle.el_src.specs.declared.answer.Next.TheVariants.{Item as Given, Ended}
use Rattle.el_src.specs.declared.fault.SrcFault.{SrcFault}
use Rattle.el_src.specs.declared.fault.SrcFault.TheVariants.{ReadFault, OutOfMemory}
use Rattle.el_src.specs.Gave.{Gave, GaveAll, items_given, source_of}
use Rattle.el_src.specs.RampGave.{RampGave, RampGaveAll, ramp_items}
use Rattle.el_set.specs.declared.source.SourceElement.{SourceElement}
use Rattle.el_set.specs.declared.source.SourceElement.TheVariants.{File, Ramp}
use Rattle.gst_outside.specs.Causes.{NamesRise}

abbrev pub SourceGave : {S : Type 0} → (S → Option (List ℕ)) → SourceElement S → (List ℕ → List Item) → List Item → Type 0
SourceGave content_of (File file) owed given = Gave content_of file owed given
SourceGave content_of (Ramp ramp) owed given = (content : List ℕ) → RampGave ramp (owed content) given

-- all that is owed was given, EOS last
abbrev pub SourceGaveAll : {S : Type 0} → (S → Option (List ℕ)) → SourceElement S → (List ℕ → List Item) → List Item → Type 0
SourceGaveAll content_of (File file) owed given = GaveAll content_of file owed given
SourceGaveAll content_of (Ramp ramp) owed given = (content : List ℕ) → RampGaveAll ramp (owed content) given

-- the lists behind a next item
abbrev pub SourceAfter : {S : Type 0} → (S → Option (List ℕ)) → SourceElement S → (List ℕ → List Item) → List Item → Next → Type 0
SourceAfter content_of source owed given (Given x) = SourceGave content_of source owed (given ++ x ∷ [])
SourceAfter content_of source owed given Ended = SourceGaveAll content_of source owed given

-- how many items were given since the start or the last seek
abbrev pub source_items : {S : Type 0} → SourceElement S → ℕ
source_items (File file) = items_given file
source_items (Ramp ramp) = ramp_items ramp

-- what a source reads
abbrev pub source_file : {S : Type 0} → SourceElement S → Option S
source_file (File file) = Some (source_of file)
source_file (Ramp ramp) = None

-- the count of failures, the location and the content of what a source reads; a ramp reads nothing
abbrev pub source_faults : {S : Type 0} → (S → ℕ) → SourceElement S → Option ℕ
source_faults faults (File file) = Some (faults (source_of file))
source_faults faults (Ramp ramp) = None

abbrev pub source_location : {S : Type 0} → (S → Option (List ℕ)) → SourceElement S → Option (List ℕ)
source_location location (File file) = location (source_of file)
source_location location (Ramp ramp) = None

abbrev pub source_content : {S : Type 0} → (S → Option (List ℕ)) → SourceElement S → Option (List ℕ)
source_content content_of (File file) = content_of (source_of file)
source_content content_of (Ramp ramp) = Some []

-- a read failed only where the count of failures rose; where memory was wanting none failed
abbrev pub SourceCause : Option ℕ → Option ℕ → SrcFault → Type 0
SourceCause was is (ReadFault before after) = NamesRise was is before after
SourceCause was is OutOfMemory = is ≡ was
