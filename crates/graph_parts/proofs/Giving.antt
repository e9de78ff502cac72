-- What an element, a source, and the tasks that have them give back.
use Rattle.std.proofs.Common.{◌≡◌, ◌⊎◌, ℕ, List, [], ◌∷◌, ◌++◌, Option, Some, refl, sym, ◌∙◌, subst, inl, inr}
use Rattle.flow_model.specs.declared.element.TaskElement as elements
use Rattle.flow_model.specs.declared.source.TaskSource as sources
use Rattle.graph_core.specs.Elements.{Made}
use Rattle.lane_core.specs.declared.ends.Inlet as inlets
use Rattle.lane_core.specs.declared.ends.Outlet as outlets
use Rattle.net_task.specs.declared.task.Task.{Task}
use Rattle.run_files.specs.declared.end.End.{End}
use Rattle.task_elements.specs.Stands.{len_in}
use Rattle.task_elements.specs.declared.element.StreamElement.{StreamElement}
use Rattle.task_elements.specs.declared.source.StreamSource.{StreamSource}
use Rattle.task_parts.specs.declared.head.Head.{Head}
use Rattle.task_parts.specs.declared.head.Head.TheVariants.{Source, Inlets}
use Rattle.task_parts.specs.declared.head.SourceHead.{SourceHead}
use Rattle.task_parts.specs.declared.part.Part.{Part}
use Rattle.graph_parts.specs.Back.{Gives, HasElement, HasHead, HasLength, HasPart, IsHead, IsPart, by_element, by_source, read_end, written_end}
use Rattle.graph_parts.specs.Put.{Among, PutBack}
use Rattle.graph_parts.specs.Single.{IsAt, IsNone, IsSingle, IsValue}
use Rattle.graph_parts.proofs.Putting.{Joins, among_joins, put_alike, put_joined, put_none}

-- nothing belongs nowhere
pub joins_none : {X : Type 0} → Joins {X = X} IsNone IsNone IsNone
joins_none = record { first = λ n x here. here; second = λ n x here. here; split = λ n x here. inl here }

pub joins_first : {X : Type 0} (Here : ℕ → X → Type 0) → Joins Here IsNone Here
joins_first Here = record { first = λ n x here. here; second = λ n x here. absurd here; split = λ n x here. inl here }

pub joins_second : {X : Type 0} (Here : ℕ → X → Type 0) → Joins IsNone Here Here
joins_second Here = record { first = λ n x here. absurd here; second = λ n x here. here; split = λ n x here. inr here }

module _ {S K : Type 0} where
  pub gives_joins : (made : List Made) (R Q P : ℕ → StreamSource S → Type 0) (G H J : ℕ → StreamElement K → Type 0) → Joins R Q P → Joins G H J → Joins (Gives made R G) (Gives made Q H) (Gives made P J)
  gives_joins made R Q P G H J sources elements = record { first = to_first; second = to_second; split = from }
    where
      to_first : (n : ℕ) (end : Option (End S K)) → Gives made R G n end → Gives made P J n end
      to_first n end (by_source source reads is) = by_source source (sources.first n source reads) is
      to_first n end (by_element element has is) = by_element element (elements.first n element has) is

      to_second : (n : ℕ) (end : Option (End S K)) → Gives made Q H n end → Gives made P J n end
      to_second n end (by_source source reads is) = by_source source (sources.second n source reads) is
      to_second n end (by_element element has is) = by_element element (elements.second n element has) is

      source_of : (n : ℕ) (end : Option (End S K)) (source : StreamSource S) → read_end made n source ≡ Some end → R n source ⊎ Q n source → Gives made R G n end ⊎ Gives made Q H n end
      source_of n end source is (inl reads) = inl (by_source source reads is)
      source_of n end source is (inr reads) = inr (by_source source reads is)

      element_of : (n : ℕ) (end : Option (End S K)) (element : StreamElement K) → written_end made n element ≡ Some end → G n element ⊎ H n element → Gives made R G n end ⊎ Gives made Q H n end
      element_of n end element is (inl has) = inl (by_element element has is)
      element_of n end element is (inr has) = inr (by_element element has is)

      from : (n : ℕ) (end : Option (End S K)) → Gives made P J n end → Gives made R G n end ⊎ Gives made Q H n end
      from n end (by_source source reads is) = source_of n end source is (sources.split n source reads)
      from n end (by_element element has is) = element_of n end element is (elements.split n element has)

  pub gives_none : (made : List Made) (R : ℕ → StreamSource S → Type 0) (G : ℕ → StreamElement K → Type 0) → ((n : ℕ) (source : StreamSource S) → R n source → ⊥) → ((n : ℕ) (element : StreamElement K) → G n element → ⊥)
      → (n : ℕ) (end : Option (End S K)) → Gives made R G n end → ⊥
  gives_none made R G no_source no_element n end (by_source source reads is) = no_source n source reads
  gives_none made R G no_source no_element n end (by_element element has is) = no_element n element has

  pub element_gives : (made : List Made) (n : ℕ) (element : StreamElement K) (value : Option (Option (End S K))) (old new : List (Option (End S K))) → value ≡ written_end made n element
      → PutBack (IsValue n value) old new → PutBack (Gives {S = S} made IsNone (IsSingle n element)) old new
  element_gives made n element value old new value_is = put_alike (IsValue n value) (Gives made IsNone (IsSingle n element)) old new to back
    where
      to : (k : ℕ) (end : Option (End S K)) → IsValue n value k end → Gives {S = S} made IsNone (IsSingle n element) k end
      to k end is = by_element element (is.0, refl) (subst (λ (i : ℕ). written_end made i element ≡ Some end) is.0 (sym value_is ∙ is.1))

      back : (k : ℕ) (end : Option (End S K)) → Gives {S = S} made IsNone (IsSingle n element) k end → IsValue n value k end
      back k end (by_source source reads is) = absurd reads
      back k end (by_element same has is) = (has.0, value_is ∙ subst (λ (i : ℕ). written_end made i element ≡ Some end) (sym has.0) (subst (λ (y : StreamElement K). written_end made k y ≡ Some end) (sym has.1) is))

  pub source_gives : (made : List Made) (n : ℕ) (source : StreamSource S) (value : Option (Option (End S K))) (old new : List (Option (End S K))) → value ≡ read_end made n source
      → PutBack (IsValue n value) old new → PutBack (Gives {K = K} made (IsSingle n source) IsNone) old new
  source_gives made n source value old new value_is = put_alike (IsValue n value) (Gives made (IsSingle n source) IsNone) old new to back
    where
      to : (k : ℕ) (end : Option (End S K)) → IsValue n value k end → Gives {K = K} made (IsSingle n source) IsNone k end
      to k end is = by_source source (is.0, refl) (subst (λ (i : ℕ). read_end made i source ≡ Some end) is.0 (sym value_is ∙ is.1))

      back : (k : ℕ) (end : Option (End S K)) → Gives {K = K} made (IsSingle n source) IsNone k end → IsValue n value k end
      back k end (by_element element has is) = absurd has
      back k end (by_source same reads is) = (reads.0, value_is ∙ subst (λ (i : ℕ). read_end made i source ≡ Some end) (sym reads.0) (subst (λ (y : StreamSource S). read_end made k y ≡ Some end) (sym reads.1) is))

module _ {K : Type 0} where
  pub length_joins : (G H J : ℕ → StreamElement K → Type 0) → Joins G H J → Joins (HasLength G) (HasLength H) (HasLength J)
  length_joins G H J elements = record { first = to_first; second = to_second; split = from }
    where
      to_first : (n length : ℕ) → HasLength G n length → HasLength J n length
      to_first n length here = record { element = here.element; inside = elements.first n here.element here.inside; told = here.told }

      to_second : (n length : ℕ) → HasLength H n length → HasLength J n length
      to_second n length here = record { element = here.element; inside = elements.second n here.element here.inside; told = here.told }

      from : (n length : ℕ) → HasLength J n length → HasLength G n length ⊎ HasLength H n length
      from n length here = by (elements.split n here.element here.inside)
        where
          by : G n here.element ⊎ H n here.element → HasLength G n length ⊎ HasLength H n length
          by (inl inside) = inl (record { element = here.element; inside = inside; told = here.told })
          by (inr inside) = inr (record { element = here.element; inside = inside; told = here.told })

  pub length_none : (G : ℕ → StreamElement K → Type 0) → ((n : ℕ) (element : StreamElement K) → G n element → ⊥) → (n length : ℕ) → HasLength G n length → ⊥
  length_none G no_element n length here = no_element n here.element here.inside

  pub element_length : (n : ℕ) (element : StreamElement K) (value : Option ℕ) (old new : List ℕ) → value ≡ len_in element → PutBack (IsValue n value) old new → PutBack (HasLength (IsSingle n element)) old new
  element_length n element value old new value_is = put_alike (IsValue n value) (HasLength (IsSingle n element)) old new to back
    where
      to : (k length : ℕ) → IsValue n value k length → HasLength (IsSingle n element) k length
      to k length is = record { element = element; inside = (is.0, refl); told = sym value_is ∙ is.1 }

      back : (k length : ℕ) → HasLength (IsSingle n element) k length → IsValue n value k length
      back k length here = (here.inside.0, value_is ∙ subst (λ (y : StreamElement K). len_in y ≡ Some length) (sym here.inside.1) here.told)

module _ {S K : Type 0} where
  pub ends_joined : (made : List Made) (R Q P : ℕ → StreamSource S → Type 0) (G H J : ℕ → StreamElement K → Type 0) (old mid new : List (Option (End S K))) → Joins R Q P → Joins G H J
      → PutBack (Gives made R G) old mid → PutBack (Gives made Q H) mid new → PutBack (Gives made P J) old new
  ends_joined made R Q P G H J old mid new sources elements =
      put_joined (Gives made R G) (Gives made Q H) (Gives made P J) old mid new (gives_joins made R Q P G H J sources elements)

  pub ends_none : (made : List Made) (R : ℕ → StreamSource S → Type 0) (G : ℕ → StreamElement K → Type 0) (list : List (Option (End S K))) → ((n : ℕ) (source : StreamSource S) → R n source → ⊥) → ((n : ℕ) (element : StreamElement K) → G n element → ⊥)
      → PutBack (Gives made R G) list list
  ends_none made R G list no_source no_element = put_none (Gives made R G) list (gives_none made R G no_source no_element)

module _ {K : Type 0} where
  pub lengths_joined : (G H J : ℕ → StreamElement K → Type 0) (old mid new : List ℕ) → Joins G H J → PutBack (HasLength G) old mid → PutBack (HasLength H) mid new → PutBack (HasLength J) old new
  lengths_joined G H J old mid new elements = put_joined (HasLength G) (HasLength H) (HasLength J) old mid new (length_joins G H J elements)

  pub lengths_none : (G : ℕ → StreamElement K → Type 0) (list : List ℕ) → ((n : ℕ) (element : StreamElement K) → G n element → ⊥) → PutBack (HasLength G) list list
  lengths_none G list no_element = put_none (HasLength G) list (length_none G no_element)

module _ {K O : Type 0} {e : elements.Ghosts (StreamElement K)} where
  -- a part that is taken from a list by its number and its element
  pub part_joins : (whole front : List (Part (StreamElement K) O e)) (part : Part (StreamElement K) O e) (n : ℕ) (element : StreamElement K) → whole ≡ front ++ part ∷ [] → n ≡ part.number → element ≡ part.element
      → Joins (IsSingle n element) (Among IsPart front) (Among IsPart whole)
  part_joins whole front part n element more number_is element_is =
      subst (λ (k : ℕ). Joins (IsSingle k element) (Among IsPart front) (Among IsPart whole)) (sym number_is)
      (subst (λ (y : StreamElement K). Joins (IsSingle part.number y) (Among IsPart front) (Among IsPart whole)) (sym element_is) (among_joins IsPart whole front part more))

module _ {S K I O : Type 0} {s : sources.Ghosts (StreamSource S)} where
  -- the source of a head, by its number and itself
  pub head_gives : (made : List Made) (head : Head (StreamSource S) I O s) (one : SourceHead (StreamSource S) O s) (n : ℕ) (source : StreamSource S) (value : Option (Option (End S K))) (old new : List (Option (End S K)))
      → head ≡ Source one → n ≡ one.number → source ≡ one.source → value ≡ read_end made n source → PutBack (IsValue n value) old new → PutBack (Gives {K = K} made (IsHead head) IsNone) old new
  head_gives made head one n source value old new head_is number_is source_is value_is put =
      subst (λ (h : Head (StreamSource S) I O s). PutBack (Gives {K = K} made (IsHead h) IsNone) old new) (sym head_is)
      (subst (λ (k : ℕ). PutBack (Gives {K = K} made (IsSingle k one.source) IsNone) old new) number_is
      (subst (λ (y : StreamSource S). PutBack (Gives {K = K} made (IsSingle n y) IsNone) old new) source_is (source_gives made n source value old new value_is put)))

  -- a head that is no source gives none
  pub inlets_give : (made : List Made) (head : Head (StreamSource S) I O s) (list : List (Option (End S K))) → ((one : SourceHead (StreamSource S) O s) → head ≡ Source one → ⊥) → PutBack (Gives {K = K} made (IsHead head) IsNone) list list
  inlets_give made (Source one) list others = absurd (others one refl)
  inlets_give made (Inlets one) list others = ends_none made (λ n source. ⊥) IsNone list (λ n x here. here) (λ n x here. here)

module _ {S K I O L : Type 0} {s : sources.Ghosts (StreamSource S)} {e : elements.Ghosts (StreamElement K)} {i : inlets.Ghosts I L O} {o : outlets.Ghosts O L} where
  pub element_joins : (tasks : List (Task (StreamSource S) (StreamElement K) I O L s e i o)) (rest : List (Option (StreamElement K))) → Joins (Among HasPart tasks) (IsAt rest) (HasElement tasks rest)
  element_joins tasks rest = record { first = λ n x here. inl here; second = λ n x here. inr here; split = λ n x here. here }

  -- the head of a task, and then its parts
  pub task_gives : (made : List Made) (task : Task (StreamSource S) (StreamElement K) I O L s e i o) (head : Head (StreamSource S) I O s) (parts : List (Part (StreamElement K) O e)) (old mid new : List (Option (End S K)))
      → head ≡ task.head → parts ≡ task.parts.items → PutBack (Gives {K = K} made (IsHead head) IsNone) old mid → PutBack (Gives {S = S} made IsNone (Among IsPart parts)) mid new → PutBack (Gives made (HasHead task) (HasPart task)) old new
  task_gives made task head parts old mid new head_is parts_are first second =
      ends_joined made (HasHead task) IsNone (HasHead task) IsNone (HasPart task) (HasPart task) old mid new (joins_first (HasHead task)) (joins_second (HasPart task))
      (subst (λ (h : Head (StreamSource S) I O s). PutBack (Gives {K = K} made (IsHead h) IsNone) old mid) head_is first)
      (subst (λ (ps : List (Part (StreamElement K) O e)). PutBack (Gives {S = S} made IsNone (Among IsPart ps)) mid new) parts_are second)

  pub task_lengths : (task : Task (StreamSource S) (StreamElement K) I O L s e i o) (parts : List (Part (StreamElement K) O e)) (old new : List ℕ) → parts ≡ task.parts.items → PutBack (HasLength (Among IsPart parts)) old new → PutBack (HasLength (HasPart task)) old new
  task_lengths task parts old new = subst (λ (ps : List (Part (StreamElement K) O e)). PutBack (HasLength (Among IsPart ps)) old new)
