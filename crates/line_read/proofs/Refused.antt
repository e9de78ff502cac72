-- Why words are refused, by what is answered of their line and of its graph.
use Rattle.std.proofs.Common.{◌≡◌, ◌<◌, ◌≤◌, ◌⊎◌, ℕ, List, length, Result, Ok, Err, inl, inr, refl, ap, ◌∙◌, subst}
use Rattle.std.specs.Prelude.{◌≢◌, IfErr, IsErrAnd}
use Rattle.std.proofs.lemmas.Bool.{cases_lt}
use Rattle.launch_text.specs.Grammar.{IsLine}
use Rattle.launch_text.specs.Parsed.{Answers, Stopped}
use Rattle.launch_text.specs.Places.{IsPlace}
use Rattle.launch_text.specs.declared.fault.LineFault.{LineFault}
use Rattle.launch_text.specs.declared.fault.LineFault.TheVariants.{BadLine as BadText, OutOfMemory as LineMemory}
use Rattle.launch_text.specs.declared.fault.LineKind.{LineKind}
use Rattle.launch_text.specs.declared.fault.LineKind.TheVariants.{TooLong}
use Rattle.launch_text.specs.declared.tree.Tree.{Tree}
use Rattle.graph_core.specs.Graph.{IsFault}
use Rattle.graph_core.specs.declared.fault.BuildFault.{BuildFault}
use Rattle.graph_core.specs.declared.fault.BuildFault.TheVariants.{NoSuch as Missing, BadValue as WrongValue, NameTaken as SameName, LocationTaken as SameLocation, TooMany as Limit, LinkRefused as NoLink, OutOfMemory}
use Rattle.line_read.specs.Lines.{HasLine, HasTree, line_of, longest}
use Rattle.line_read.specs.Refusals.{IsRefusal, graph_refusal, line_refusal, status_of}
use Rattle.line_read.specs.declared.refusal.Refusal.{Refusal}

-- what a question mark hands on is what the fault is turned into
pub handed_on : {T : Type 0} (r : Result T Refusal) (wanted : Refusal) (P : Refusal → Type 0) → IsErrAnd r (λ refusal. refusal ≡ wanted) → ((refusal : Refusal) → refusal ≡ wanted → P refusal) → IfErr r P
handed_on (Ok x) wanted P is holds = tt
handed_on (Err refusal) wanted P is holds = holds refusal is

-- what is answered of a line's text
pub record Parsed (line : List ℕ) (answer : Result Tree LineFault) : Type 0 where
  pub complete : (tree : Tree) → length line ≤ longest → IsLine line tree → Answers answer tree
  pub place : (place : ℕ) (kind : LineKind) → length line ≤ longest → answer ≡ Err (BadText place kind) → IsPlace line place
  pub kind : (place : ℕ) (kind : LineKind) → length line ≤ longest → answer ≡ Err (BadText place kind) → Stopped line place kind
  pub long : longest < length line → answer ≡ Err (BadText longest TooLong)

same_text : (place other : ℕ) (kind reason : LineKind) (T : Type 0) → (let a : Result T LineFault = Err (BadText place kind) in a) ≡ Err (BadText other reason) → (place ≡ other) × (kind ≡ reason)
same_text place other kind reason T e =
    let at : place ≡ other = cc in
    let why : kind ≡ reason = cc in
    (at, why)

line_of_words_refused : (words : List (List ℕ)) (fault : LineFault) (refusal : Refusal) → HasLine words → Parsed (line_of words) (Err fault) → refusal ≡ line_refusal fault → refusal.status ≢ 13 → IsRefusal words refusal
line_of_words_refused words (BadText place kind) refusal has parsed is found = inr (inr (inl (record {
  place = place;
  kind = kind;
  line = has;
  none = λ tree short stands. parsed.complete tree short stands;
  stops = by (cases_lt longest (length (line_of words)));
  answer = is;
})))
  where
    by : (longest < length (line_of words)) ⊎ (length (line_of words) ≤ longest) → ((longest < length (line_of words)) × (place ≡ longest) × (kind ≡ TooLong)) ⊎ ((length (line_of words) ≤ longest) × IsPlace (line_of words) place × Stopped (line_of words) place kind)
    by (inl long) = let same = same_text place longest kind TooLong Tree (parsed.long long) in inl (long, same.0, same.1)
    by (inr short) = inr (short, parsed.place place kind short refl, parsed.kind place kind short refl)
line_of_words_refused words LineMemory refusal has parsed is found = absurd (found (ap (λ (r : Refusal). r.status) is))

pub line_refused : (words : List (List ℕ)) (line : List ℕ) (fault : LineFault) (refusal : Refusal) → line ≡ line_of words → HasLine words → Parsed line (Err fault) → refusal ≡ line_refusal fault → refusal.status ≢ 13 → IsRefusal words refusal
line_refused words line fault refusal same has parsed is found = line_of_words_refused words fault refusal has (subst (λ l. Parsed l (Err fault)) same parsed) is found

-- the tree that is answered of a line's text
pub record IsTreeOf (line : List ℕ) (tree : Tree) : Type 0 where
  pub short : length line ≤ longest
  pub stands : IsLine line tree
  pub complete : (other : Tree) → length line ≤ longest → IsLine line other → tree ≡ other

pub has_tree : (words : List (List ℕ)) (line : List ℕ) (tree : Tree) → line ≡ line_of words → HasLine words → IsTreeOf line tree → HasTree words tree
has_tree words line tree same has is = by (subst (λ l. IsTreeOf l tree) same is)
  where
    by : IsTreeOf (line_of words) tree → HasTree words tree
    by is = record { line = has; short = is.short; stands = is.stands; only = λ other stands. is.complete other is.short stands }

-- that memory is wanting, or is not
is_memory : (fault : BuildFault) → (fault ≡ OutOfMemory) ⊎ (fault ≢ OutOfMemory)
is_memory (Missing name what) = inr (λ e. cc)
is_memory (WrongValue name property) = inr (λ e. cc)
is_memory (SameName name) = inr (λ e. cc)
is_memory (SameLocation location) = inr (λ e. cc)
is_memory (Limit count) = inr (λ e. cc)
is_memory (NoLink a b ret) = inr (λ e. cc)
is_memory OutOfMemory = inl refl

pub graph_refused : (words : List (List ℕ)) (tree : Tree) (fault : BuildFault) (refusal : Refusal) → HasTree words tree → (fault ≡ OutOfMemory) ⊎ IsFault tree fault → refusal ≡ graph_refusal fault → refusal.status ≢ 13 → IsRefusal words refusal
graph_refused words tree fault refusal has why is found = by (is_memory fault) why
  where
    wants : fault ≡ OutOfMemory → ⊥
    wants memory = found (ap (λ (r : Refusal). r.status) is ∙ ap status_of memory)

    by : (fault ≡ OutOfMemory) ⊎ (fault ≢ OutOfMemory) → (fault ≡ OutOfMemory) ⊎ IsFault tree fault → IsRefusal words refusal
    by (inl memory) why = absurd (wants memory)
    by (inr other) (inl memory) = absurd (wants memory)
    by (inr other) (inr is_fault) = inr (inr (inr (record { tree = tree; fault = fault; has_tree = has; is_fault = is_fault; found = other; answer = is })))
