-- Sources of a stream.
use Rattle.std.proofs.Common.{◌≡◌, ℕ, List, [], ◌∷◌, ◌++◌, Option, Some, sym, ◌∙◌, Result, Ok, Err, IfOk, IfErr}
use Rattle.flow_model.specs.Item.{Item}
use Rattle.el_src.specs.declared.answer.Next.{Next}
use Rattle.el_src.specs.declared.answer.Next.TheVariants.{Item as Given, Ended}
use Rattle.el_src.specs.declared.fault.SrcFault.{SrcFault}
use Rattle.el_src.specs.declared.fault.SrcFault.TheVariants.{ReadFault, OutOfMemory as NoMemory}
use Rattle.el_src.specs.Short.{StopsShort as SourceStops}
use Rattle.flow_model.specs.Gives.{Gives}
use Rattle.flow_model.specs.Short.{StopsShort}
use Rattle.el_set.specs.declared.source.SourceElement.{SourceElement}
use Rattle.el_set.specs.declared.source.SourceElement.TheVariants.{File, Ramp}
use Rattle.el_set.specs.Gives.{SourceGave, SourceGaveAll, SourceAfter, source_content}
use Rattle.task_elements.specs.Owes.{Owes, answer_of}

-- all was given
gave_all : {S : Type 0} (content_of : S → Option (List ℕ)) (source : SourceElement S) (list : List ℕ → List Item) (given : List Item)
    → SourceGaveAll content_of source list given → SourceGave content_of source list given
gave_all content_of (File file) list given all = all.gave
gave_all content_of (Ramp ramp) list given all = λ content. (all content).gave

gave_whole : {S : Type 0} (content_of : S → Option (List ℕ)) (source : SourceElement S) (list : List ℕ → List Item) (given : List Item) (content : List ℕ)
    → source_content content_of source ≡ Some content → SourceGaveAll content_of source list given → list content ≡ given
gave_whole content_of (File file) list given content told all = sym (all.whole content told)
gave_whole content_of (Ramp ramp) list given content told all = sym ((all content).all)

owes_now : {S : Type 0} (content_of : S → Option (List ℕ)) (old new : SourceElement S) (owed given now : List Item) → source_content content_of new ≡ source_content content_of old
    → (o : Owes content_of old owed given) → SourceGave content_of new o.list now → Owes content_of new owed now
owes_now content_of old new owed given now same o gave =
    record { content = o.content; told = same ∙ o.told; list = o.list; gave = gave; owed_is = o.owed_is }

pub gives : {S : Type 0} (content_of : S → Option (List ℕ)) (old new : SourceElement S) (r : Result Next SrcFault) → source_content content_of new ≡ source_content content_of old
    → IfOk r (λ n. (list : List ℕ → List Item) (given : List Item) → SourceGave content_of old list given → SourceAfter content_of new list given n)
    → IfOk (answer_of r) (λ next. (owed given : List Item) → Owes content_of old owed given → Gives (Owes content_of new) owed given next)
gives content_of old new (Ok (Given x)) same after = λ owed given o. owes_now content_of old new owed given (given ++ x ∷ []) same o (after o.list given o.gave)
gives content_of old new (Ok Ended) same after = λ owed given o.
    let all = after o.list given o.gave in (
      owes_now content_of old new owed given given same o (gave_all content_of new o.list given all),
      o.owed_is ∙ gave_whole content_of new o.list given o.content (same ∙ o.told) all,
    )
gives content_of old new (Err (ReadFault before after)) same kept = tt
gives content_of old new (Err NoMemory) same kept = tt

-- where the source can't be read
pub stops : {S : Type 0} (content_of : S → Option (List ℕ)) (source : SourceElement S) (r : Result Next SrcFault)
    → IfErr r (λ fault. (list : List ℕ → List Item) (given : List Item) → SourceGave content_of source list given → SourceStops (source_content content_of source) list given fault)
    → IfErr (answer_of r) (λ unread. (owed given : List Item) → Owes content_of source owed given → StopsShort owed given unread)
stops content_of source (Ok (Given x)) short = tt
stops content_of source (Ok Ended) short = tt
stops content_of source (Err (ReadFault before after)) short = λ owed given o.
    let s = short o.list given o.gave in
    let e = s.1 o.content o.told in
    record { eos = s.0; left = e.left; buffers = e.buffers; owes = o.owed_is ∙ e.owes }
stops content_of source (Err NoMemory) short = λ owed given o. tt
