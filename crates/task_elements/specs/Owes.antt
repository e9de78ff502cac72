-- What a source of a stream owes, and what it gave of that.
use Rattle.std.specs.Prelude.{◌≡◌, ℕ, List, ◌++◌, Option, Some, None, Result, Ok, Err}
use Rattle.std.specs.Option.{option_map}
use mathlib.Core.Path.{sym, ◌∙◌}
use Rattle.flow_model.specs.Item.{Item}
use Rattle.el_src.specs.declared.answer.Next.{Next}
use Rattle.el_src.specs.declared.answer.Next.TheVariants.{Item as Given, Ended}
use Rattle.el_src.specs.declared.fault.SrcFault.{SrcFault}
use Rattle.el_src.specs.declared.fault.SrcFault.TheVariants.{ReadFault, OutOfMemory as NoMemory}
use Rattle.flow_model.specs.declared.refusal.Unread.{Unread}
use Rattle.flow_model.specs.declared.refusal.Unread.TheVariants.{Failed, OutOfMemory}
use Rattle.el_set.specs.declared.source.SourceElement.{SourceElement}
use Rattle.el_set.specs.declared.source.SourceElement.TheVariants.{File, Ramp}
use Rattle.el_set.specs.Gives.{SourceGave, source_content, source_file}

-- The content of what it reads is told. By that it owes the first list, and it gave the second.
pub record Owes {S : Type 0} (content_of : S → Option (List ℕ)) (source : SourceElement S) (owed given : List Item) : Type 0 where
  pub content : List ℕ
  pub told : source_content content_of source ≡ Some content
  pub list : List ℕ → List Item
  pub gave : SourceGave content_of source list given
  pub owed_is : owed ≡ list content

-- what was given begins what is owed
pub rest_of : {S : Type 0} (content_of : S → Option (List ℕ)) (source : SourceElement S) (content : List ℕ) (list : List ℕ → List Item) (given : List Item)
    → source_content content_of source ≡ Some content → SourceGave content_of source list given → (rest : List Item) × (list content ≡ given ++ rest)
rest_of content_of (File file) content list given told gave = (_, sym (gave.told content told))
rest_of content_of (Ramp ramp) content list given told gave = (_, sym ((gave content).whole))

pub owes_more : {S : Type 0} (content_of : S → Option (List ℕ)) (source : SourceElement S) (owed given : List Item) → Owes content_of source owed given
    → (rest : List Item) × (owed ≡ given ++ rest)
owes_more content_of source owed given o = let r = rest_of content_of source o.content o.list given o.told o.gave in (r.0, o.owed_is ∙ r.1)

-- the location of the file that it reads
abbrev pub location_read : {S : Type 0} → (S → Option (List ℕ)) → SourceElement S → Option (Option (List ℕ))
location_read location source = option_map location (source_file source)

-- a source's answer
abbrev pub answer_of : Result Next SrcFault → Result (Option Item) Unread
answer_of (Ok (Given x)) = Ok (Some x)
answer_of (Ok Ended) = Ok None
answer_of (Err (ReadFault before after)) = Err (Failed before after)
answer_of (Err NoMemory) = Err OutOfMemory
