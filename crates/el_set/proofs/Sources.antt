-- The sources, kind by kind.
use Rattle.std.proofs.Common.{◌≡◌, ℕ, List, [], Option, Some, Result, Ok, Err, IfOk, IfErr, OnOk, OnErr, ap}
use Rattle.flow_model.specs.Item.{Item, eos_among}
use Rattle.el_src.specs.declared.answer.Next.{Next}
use Rattle.el_src.specs.declared.answer.Next.TheVariants.{Item as Given, Ended}
use Rattle.el_src.specs.declared.fault.SrcFault.{SrcFault}
use Rattle.el_src.specs.declared.fault.SrcFault.TheVariants.{OutOfMemory as Wanting}
use Rattle.el_src.specs.declared.file_src.FileSrc.{FileSrc}
use Rattle.el_src.specs.declared.ramp_src.RampSrc.{RampSrc}
use Rattle.el_src.specs.Gave.{Gave, AfterNext, is_ended, ended_at, source_of}
use Rattle.el_src.specs.RampGave.{RampGave, AfterRampNext, ramp_ended_at}
use Rattle.el_src.specs.Short.{StopsShort}
use Rattle.el_set.specs.declared.source.SourceElement.{SourceElement}
use Rattle.el_set.specs.declared.source.SourceElement.TheVariants.{File, Ramp}
use Rattle.el_set.specs.Gives.{SourceGave, SourceAfter, source_content, source_faults}

-- a source that reads a file
pub file_gives : {S : Type 0} (content_of : S → Option (List ℕ)) (r : Result Next SrcFault) (element : SourceElement S) (old new : FileSrc S) → element ≡ File old
    → IfOk r (λ n. (owed : List ℕ → List Item) (given : List Item) → Gave content_of old owed given → AfterNext content_of new owed given n)
    → IfOk r (λ n. (owed : List ℕ → List Item) (given : List Item) → SourceGave content_of element owed given → SourceAfter content_of (File new) owed given n)
file_gives content_of (Ok (Given x)) element old new is gives = rw is gives
file_gives content_of (Ok Ended) element old new is gives = rw is gives
file_gives content_of (Err fault) element old new is gives = tt

pub file_ends : {S : Type 0} (content_of : S → Option (List ℕ)) (r : Result Next SrcFault) (element : SourceElement S) (old : FileSrc S) → element ≡ File old
    → IfOk r (λ n. (owed : List ℕ → List Item) (given : List Item) → Gave content_of old owed given → is_ended n ≡ eos_among given)
    → IfOk r (λ n. (owed : List ℕ → List Item) (given : List Item) → SourceGave content_of element owed given → is_ended n ≡ eos_among given)
file_ends content_of (Ok n) element old is ends = rw is ends
file_ends content_of (Err fault) element old is ends = tt

pub file_stays : {S : Type 0} (content_of : S → Option (List ℕ)) (r : Result Next SrcFault) (element : SourceElement S) (old new : FileSrc S) → element ≡ File old
    → OnErr r ((owed : List ℕ → List Item) (given : List Item) → Gave content_of old owed given → Gave content_of new owed given)
    → OnErr r ((owed : List ℕ → List Item) (given : List Item) → SourceGave content_of element owed given → Gave content_of new owed given)
file_stays content_of (Ok n) element old new is stays = tt
file_stays content_of (Err fault) element old new is stays = rw is stays

-- a source that makes audio
pub ramp_gives : {S : Type 0} (content_of : S → Option (List ℕ)) (r : Result Next SrcFault) (element : SourceElement S) (old new : RampSrc) → element ≡ Ramp old
    → IfOk r (λ n. (owed given : List Item) → RampGave old owed given → AfterRampNext new owed given n)
    → IfOk r (λ n. (owed : List ℕ → List Item) (given : List Item) → SourceGave content_of element owed given → SourceAfter content_of (Ramp new) owed given n)
ramp_gives content_of (Ok (Given x)) element old new is gives = rw is (λ owed given s content. gives (owed content) given (s content))
ramp_gives content_of (Ok Ended) element old new is gives = rw is (λ owed given s content. gives (owed content) given (s content))
ramp_gives content_of (Err fault) element old new is gives = tt

pub ramp_ends : {S : Type 0} (content_of : S → Option (List ℕ)) (r : Result Next SrcFault) (element : SourceElement S) (old : RampSrc) → element ≡ Ramp old
    → IfOk r (λ n. (owed given : List Item) → RampGave old owed given → is_ended n ≡ eos_among given)
    → IfOk r (λ n. (owed : List ℕ → List Item) (given : List Item) → SourceGave content_of element owed given → is_ended n ≡ eos_among given)
ramp_ends content_of (Ok n) element old is ends = rw is (λ owed given s. ends (owed []) given (s []))
ramp_ends content_of (Err fault) element old is ends = tt

pub ramp_stays : {S : Type 0} (content_of : S → Option (List ℕ)) (r : Result Next SrcFault) (element : SourceElement S) (old new : RampSrc) → element ≡ Ramp old
    → OnErr r ((owed given : List Item) → RampGave old owed given → RampGave new owed given)
    → OnErr r ((owed : List ℕ → List Item) (given : List Item) → SourceGave content_of element owed given → (content : List ℕ) → RampGave new (owed content) given)
ramp_stays content_of (Ok n) element old new is stays = tt
ramp_stays content_of (Err fault) element old new is stays = rw is (λ owed given s content. stays (owed content) given (s content))

-- a source that is asked to end
pub ramp_stops : {S : Type 0} (content_of : S → Option (List ℕ)) (element : SourceElement S) (old new : RampSrc) → element ≡ Ramp old
    → ((owed given : List Item) → RampGave old owed given → RampGave new (ramp_ended_at given owed) given)
    → (owed : List ℕ → List Item) (given : List Item) → SourceGave content_of element owed given → (content : List ℕ) → RampGave new (ended_at given owed content) given
ramp_stops content_of element old new is stops = rw is (λ owed given s content. stops (owed content) given (s content))

-- what a source that can't be read gave ends short; a ramp is always read
pub file_short : {S : Type 0} (content_of : S → Option (List ℕ)) (r : Result Next SrcFault) (element : SourceElement S) (old : FileSrc S) → element ≡ File old
    → IfErr r (λ fault. (owed : List ℕ → List Item) (given : List Item) → Gave content_of old owed given → StopsShort (content_of (source_of old)) owed given fault)
    → IfErr r (λ fault. (owed : List ℕ → List Item) (given : List Item) → SourceGave content_of element owed given → StopsShort (source_content content_of element) owed given fault)
file_short content_of (Ok n) element old is short = tt
file_short content_of (Err fault) element old is short = rw is short

pub ramp_short : {S : Type 0} (content_of : S → Option (List ℕ)) (r : Result Next SrcFault) (element : SourceElement S) → IfErr r (λ fault. fault ≡ Wanting)
    → IfErr r (λ fault. (owed : List ℕ → List Item) (given : List Item) → SourceGave content_of element owed given → StopsShort (source_content content_of element) owed given fault)
ramp_short content_of (Ok n) element wanting = tt
ramp_short content_of (Err fault) element wanting = rw wanting (λ owed given gave. tt)

pub file_stays_read : {S : Type 0} (faults : S → ℕ) (r : Result Next SrcFault) (element : SourceElement S) (old new : FileSrc S) → element ≡ File old
    → OnOk r (faults (source_of new) ≡ faults (source_of old)) → OnOk r (Some (faults (source_of new)) ≡ source_faults faults element)
file_stays_read faults (Ok n) element old new is stays = rw is (ap Some stays)
file_stays_read faults (Err fault) element old new is stays = tt
