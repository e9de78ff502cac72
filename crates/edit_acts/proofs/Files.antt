-- Elements and sources keep their files where tasks are edited.
use Rattle.std.proofs.Common.{◌≡◌, ◌⊎◌, ◌++◌, ◌+◌, ◌<◌, ℕ, zero, suc, Bool, true, false, List, [], ◌∷◌, Option, None, Some, length, map, refl, sym, ap, ◌∙◌, subst, inl, inr}
use Rattle.std.specs.Prelude.{◌↔◌, IfErr, IfOk, IfSome, Result, Ok, Err, slice_get, slice_set}
use Rattle.std.specs.Global.{Vec}
use Rattle.std.specs.List.{remove}
use Rattle.std.proofs.lemmas.Bool.{cases_eq}
use Rattle.lane_core.specs.declared.ends.Inlet as inlets
use Rattle.lane_core.specs.declared.ends.Outlet as outlets
use Rattle.flow_model.specs.Item.{Item}
use Rattle.flow_model.specs.declared.element.TaskElement as elements
use Rattle.flow_model.specs.declared.source.TaskSource as sources
use Rattle.inlet_row.specs.declared.feeding.Feeding.{Feeding}
use Rattle.task_pads.specs.declared.pad.Behind.{Behind}
use Rattle.task_pads.specs.declared.pad.Behind.TheVariants.{Nothing}
use Rattle.task_pads.specs.declared.pad.Pad.{Pad}
use Rattle.task_pads.proofs.Lists.{set_there}
use Rattle.task_parts.specs.Head.{IsSameSource}
use Rattle.task_parts.specs.declared.head.Head.{Head}
use Rattle.task_parts.specs.declared.head.Head.TheVariants.{Source, Inlets}
use Rattle.task_parts.specs.declared.head.InletHead.{InletHead}
use Rattle.task_parts.specs.declared.head.SourceHead.{SourceHead}
use Rattle.task_parts.specs.declared.part.Part.{Part}
use Rattle.gst_value.proofs.Basics.{some_same}
use Rattle.gst_value.proofs.Places.{map_get, map_got, nil_append, set_at, set_here}
use Rattle.net_task.specs.declared.task.Task.{Task}
use Rattle.net_task.specs.Frame.{PartFrame, TaskFrame, frame_of, head_frame, part_frame}
use Rattle.net_turns.specs.declared.net.Stopped.{Stopped}
use Rattle.task_edits.specs.Changes.{Changed, LedBy, PadIn, PadIs}
use Rattle.task_edits.specs.declared.inside.Inside.{Inside}
use Rattle.task_edits.specs.declared.openings.Opening.{Opening}
use Rattle.net_edits.specs.Ending.{IsEndedOver}
use Rattle.net_edits.specs.Inside.{FedAll, FedShort, IsEndedInside, IsLinkedOpened, IsTurned, NoneHasBoth, NotEnded, NotLinkedOpened, TiesLinked, TiesUndone, eos_alone}
use Rattle.net_edits.specs.Nets.{IsUnlinked, IsUnlinkedAt, NoneHas}
use Rattle.net_edits.specs.Over.{AreKept, IsGrownAt, IsLinkedOver}
use Rattle.net_edits.specs.declared.inside.EditFault.{EditFault}
use Rattle.net_edits.specs.declared.inside.EditFault.TheVariants as faults
use Rattle.net_edits.specs.declared.over.NewLink.{NewLink}
use Rattle.net_groups.specs.Behind.{AreParted}
use Rattle.net_groups.specs.Joined.{IsJoined}
use Rattle.net_groups.specs.Splits.{IsSplitAt}
use Rattle.net_groups.proofs.Lists.{append_back, append_first, append_second, removed_back, removed_on}
use Rattle.net_groups.proofs.Within.{IsOne, gone_within, kept_within, parted_on, place_in, within_at}
use Rattle.edit_acts.specs.Deeds.{outcome_of}
use Rattle.edit_acts.specs.Files.{File, HasFile, HoldsFile, Holder, KeepFiles, OneOf, Reads, Writes, taken_by}
use Rattle.edit_acts.specs.declared.doing.Outcome.{Outcome}
use Rattle.edit_acts.proofs.Undoes.{ToldSplit}

-- ---- one of the things of a list that changed

module _ {A : Type 0} (P : A → Type 0) where
  one_at : (xs : List A) (k : ℕ) (x : A) → slice_get xs k ≡ Some x → P x → OneOf P xs
  one_at xs k x at p = record { place = k; thing = x; at = at; is_so = p }

  -- one thing is another now
  one_set : (xs : List A) (k : ℕ) (x y : A) → slice_get xs k ≡ Some x → (P x → P y) → OneOf P xs → OneOf P (slice_set xs k y)
  one_set xs k x y at so one = go (cases_eq one.place k)
    where
      go : (one.place ≡ k) ⊎ (one.place ≡ k → ⊥) → OneOf P (slice_set xs k y)
      go (inl same) =
          let it : one.thing ≡ x = some_same (sym one.at ∙ ap (λ (j : ℕ). slice_get xs j) same ∙ at) in
          one_at (slice_set xs k y) k y (set_at xs k x y at) (so (subst P it one.is_so))
      go (inr other) = one_at (slice_set xs k y) one.place one.thing (set_there xs k one.place y other ∙ one.at) one.is_so

  set_one : (xs : List A) (k : ℕ) (y : A) → OneOf P (slice_set xs k y) → P y ⊎ OneOf P xs
  set_one xs k y one = go (cases_eq one.place k)
    where
      go : (one.place ≡ k) ⊎ (one.place ≡ k → ⊥) → P y ⊎ OneOf P xs
      go (inl same) = inl (subst P (set_here xs k one.thing y (ap (λ (j : ℕ). slice_get (slice_set xs k y) j) (sym same) ∙ one.at)) one.is_so)
      go (inr other) = inr (one_at xs one.place one.thing (sym (set_there xs k one.place y other) ∙ one.at) one.is_so)

  -- one list stands behind another
  pub one_first : (xs ys : List A) → OneOf P xs → OneOf P (xs ++ ys)
  one_first xs ys one = one_at (xs ++ ys) one.place one.thing (append_first xs ys one.place one.thing one.at) one.is_so

  pub one_second : (xs ys : List A) → OneOf P ys → OneOf P (xs ++ ys)
  one_second xs ys one = one_at (xs ++ ys) (length xs + one.place) one.thing (append_second xs ys one.place one.thing one.at) one.is_so

  pub either : (xs ys : List A) → OneOf P (xs ++ ys) → OneOf P xs ⊎ OneOf P ys
  either xs ys one = go (append_back xs ys one.place one.thing one.at)
    where
      go : ((one.place < length xs) × (slice_get xs one.place ≡ Some one.thing)) ⊎ ((j : ℕ) × (one.place ≡ length xs + j) × (slice_get ys j ≡ Some one.thing)) → OneOf P xs ⊎ OneOf P ys
      go (inl z) = inl (one_at xs one.place one.thing z.1 one.is_so)
      go (inr z) = inr (one_at ys z.0 one.thing z.2 one.is_so)

  alone : (x : A) → OneOf P (x ∷ []) → P x
  alone x one = go one.place one.thing one.at one.is_so
    where
      go : (k : ℕ) (y : A) → slice_get (x ∷ []) k ≡ Some y → P y → P x
      go zero y at p = subst P (sym (some_same at)) p
      go (suc k) y at p = absurd cc

  -- one thing is taken out
  one_removed : (xs : List A) (k : ℕ) (x : A) → slice_get xs k ≡ Some x → OneOf P xs → P x ⊎ OneOf P (remove xs k)
  one_removed xs k x at one = go (cases_eq one.place k)
    where
      go : (one.place ≡ k) ⊎ (one.place ≡ k → ⊥) → P x ⊎ OneOf P (remove xs k)
      go (inl same) = inl (subst P (some_same (sym one.at ∙ ap (λ (j : ℕ). slice_get xs j) same ∙ at)) one.is_so)
      go (inr other) = let z = removed_on xs k one.place one.thing one.at other in inr (one_at (remove xs k) z.0 one.thing z.2 one.is_so)

  removed_one : (xs : List A) (k : ℕ) → OneOf P (remove xs k) → OneOf P xs
  removed_one xs k one = let z = removed_back xs k one.place one.thing one.at in one_at xs z.0 one.thing z.2 one.is_so

  -- some things go, and the others stay
  module _ {Q : A → Type 0} {xs kept gone : List A} (parted : AreParted Q xs kept gone) where
    one_parted : OneOf P xs → OneOf P kept ⊎ OneOf P gone
    one_parted one = go (parted_on parted one.place one.thing one.at)
      where
        go : IsOne Q kept gone one.thing → OneOf P kept ⊎ OneOf P gone
        go (inl z) = inl (one_at kept z.0 one.thing z.1 one.is_so)
        go (inr z) = inr (one_at gone z.0 one.thing z.1 one.is_so)

    kept_one : OneOf P kept → OneOf P xs
    kept_one one = one_at xs (place_in (kept_within parted) one.place) one.thing (within_at (kept_within parted) one.place one.thing one.at).0 one.is_so

    gone_one : OneOf P gone → OneOf P xs
    gone_one one = one_at xs (place_in (gone_within parted) one.place) one.thing (within_at (gone_within parted) one.place one.thing one.at).0 one.is_so

-- a thing of a list, and what is made of it
mapped_one : {A B : Type 0} (f : A → B) (P : B → Type 0) (xs : List A) → OneOf (λ x. P (f x)) xs ↔ OneOf P (map f xs)
mapped_one {A = A} f P xs = (
  λ one. one_at P (map f xs) one.place (f one.thing) (map_get f xs one.place one.thing one.at) one.is_so,
  λ one. let z = map_got f xs one.place one.thing one.at in one_at (λ (x : A). P (f x)) xs one.place z.0 z.1 (subst P z.2 one.is_so),
)

-- ---- elements and sources of one task

module _ {E O : Type 0} {e : elements.Ghosts E} where
  -- the elements of two tasks are the same, with the same files
  abbrev SameWrites : List (Part E O e) → List (Part E O e) → Type 0
  SameWrites parts parts' = (n : ℕ) (file : File) → OneOf (Writes n file) parts ↔ OneOf (Writes n file) parts'

  writes_same : (parts parts' : List (Part E O e)) → parts' ≡ parts → SameWrites parts parts'
  writes_same parts parts' same n file = (subst (λ (ps : List (Part E O e)). OneOf (Writes n file) ps) (sym same), subst (λ (ps : List (Part E O e)). OneOf (Writes n file) ps) same)

  writes_then : (a b c : List (Part E O e)) → SameWrites a b → SameWrites b c → SameWrites a c
  writes_then a b c one other n file = (λ w. (other n file).0 ((one n file).0 w), λ w. (one n file).1 ((other n file).1 w))

  -- a pad of an element is another
  writes_pad : (parts : List (Part E O e)) (place port : ℕ) (old new : Part E O e) (was is : Pad O) → slice_get parts place ≡ Some old → PadIn old new port was is → SameWrites parts (slice_set parts place new)
  writes_pad parts place port old new was is at pad n file = (one_set (Writes n file) parts place old new at on, λ w. go (set_one (Writes n file) parts place new w))
    where
      on : Writes n file old → Writes n file new
      on w = (pad.number ∙ w.0, ap (λ (x : E). e.file x) pad.element ∙ w.1)

      go : Writes n file new ⊎ OneOf (Writes n file) parts → OneOf (Writes n file) parts
      go (inl w) = one_at (Writes n file) parts place old at (sym pad.number ∙ w.0, ap (λ (x : E). e.file x) (sym pad.element) ∙ w.1)
      go (inr w) = w

  -- the frames are the same
  writes_frame : {L : Type 0} (o : outlets.Ghosts O L) (parts parts' : List (Part E O e)) → map (part_frame o) parts' ≡ map (part_frame o) parts → SameWrites parts parts'
  writes_frame o parts parts' same n file = (
    λ w. (mapped_one (part_frame o) At parts').1 (subst (λ (fs : List PartFrame). OneOf At fs) (sym same) ((mapped_one (part_frame o) At parts).0 w)),
    λ w. (mapped_one (part_frame o) At parts).1 (subst (λ (fs : List PartFrame). OneOf At fs) same ((mapped_one (part_frame o) At parts').0 w)),
  )
    where
      At : PartFrame → Type 0
      At one = (one.number ≡ n) × (one.file ≡ file)

module _ {S I O : Type 0} {s : sources.Ghosts S} where
  -- the sources of two tasks are the same, with the same file
  abbrev SameReads : Head S I O s → Head S I O s → Type 0
  SameReads head head' = (n : ℕ) (file : File) → Reads n file head ↔ Reads n file head'

  reads_same : (head head' : Head S I O s) → head' ≡ head → SameReads head head'
  reads_same head head' same n file = (subst (λ (h : Head S I O s). Reads n file h) (sym same), subst (λ (h : Head S I O s). Reads n file h) same)

  reads_none : (old new : InletHead I) (head head' : Head S I O s) → head ≡ Inlets old → head' ≡ Inlets new → SameReads head head'
  reads_none old new head head' was is n file = (λ r. absurd (subst (λ (h : Head S I O s). Reads n file h) was r), λ r. absurd (subst (λ (h : Head S I O s). Reads n file h) is r))

  reads_source : (old new : SourceHead S O s) (head head' : Head S I O s) → head ≡ Source old → head' ≡ Source new → IsSameSource old new → SameReads head head'
  reads_source old new head head' was is same n file = (
    λ r. subst (λ (h : Head S I O s). Reads n file h) (sym is) (on (subst (λ (h : Head S I O s). Reads n file h) was r)),
    λ r. subst (λ (h : Head S I O s). Reads n file h) (sym was) (back (subst (λ (h : Head S I O s). Reads n file h) is r)),
  )
    where
      before : Head S I O s
      before = Source old

      now : Head S I O s
      now = Source new

      on : Reads n file before → Reads n file now
      on r = (same.number ∙ r.0, ap (λ (x : S). s.file x) same.source ∙ r.1)

      back : Reads n file now → Reads n file before
      back r = (sym same.number ∙ r.0, ap (λ (x : S). s.file x) (sym same.source) ∙ r.1)

  -- the frames are the same
  reads_frame : {L : Type 0} (o : outlets.Ghosts O L) (head head' : Head S I O s) → head_frame o head' ≡ head_frame o head → SameReads head head'
  reads_frame o (Source a) (Source b) same n file = (λ r. (number ∙ r.0, read ∙ r.1), λ r. (sym number ∙ r.0, sym read ∙ r.1))
    where
      number : b.number ≡ a.number
      number = cc

      read : s.file b.source ≡ s.file a.source
      read = cc
  reads_frame o (Source a) (Inlets b) same n file = absurd (cc)
  reads_frame o (Inlets a) (Source b) same n file = absurd (cc)
  reads_frame o (Inlets a) (Inlets b) same n file = (λ r. absurd r, λ r. absurd r)

module _ {S E I O : Type 0} {s : sources.Ghosts S} {e : elements.Ghosts E} where
  pad_same : (head head' : Head S I O s) (parts parts' : List (Part E O e)) (was is : Pad O) → PadIs head parts head' parts' was is → SameReads head head' × SameWrites parts parts'
  pad_same head head' parts parts' was is (PadIs.of_source old new here here' at at' same stays) = (reads_source old new head head' here here' same, writes_same parts parts' stays)
  pad_same head head' parts parts' was is (PadIs.of_part place port old new at set pad stays) =
      (reads_same head head' stays, writes_then parts (slice_set parts place new) parts' (writes_pad parts place port old new was is at pad) (writes_same (slice_set parts place new) parts' set))

  -- a pad of the task is another
  changed_same : (By : Pad O → Pad O → Type 0) (Kept : Type 0) (pad : ℕ) (head head' : Head S I O s) (parts parts' : List (Part E O e)) → Changed By Kept pad head parts head' parts' → SameReads head head' × SameWrites parts parts'
  changed_same By Kept pad head head' parts parts' (inl (was, is, number, by, changed)) = pad_same head head' parts parts' was is changed
  changed_same By Kept pad head head' parts parts' (inr (none, head_same, parts_same, kept)) = (reads_same head head' head_same, writes_same parts parts' parts_same)

-- ---- those of tasks

module _ {S E I O L : Type 0} {s : sources.Ghosts S} {e : elements.Ghosts E} {i : inlets.Ghosts I L O} {o : outlets.Ghosts O L} where
  pub files_same : (tasks tasks' : List (Task S E I O L s e i o)) → tasks' ≡ tasks → KeepFiles tasks tasks'
  files_same tasks tasks' same = record {
    same = λ holder file. (subst (λ (ts : List (Task S E I O L s e i o)). HoldsFile ts holder file) (sym same), subst (λ (ts : List (Task S E I O L s e i o)). HoldsFile ts holder file) same);
  }

  pub files_then : (a b c : List (Task S E I O L s e i o)) → KeepFiles a b → KeepFiles b c → KeepFiles a c
  files_then a b c one other = record {
    same = λ holder file. (λ h. (other.same holder file).0 ((one.same holder file).0 h), λ h. (one.same holder file).1 ((other.same holder file).1 h));
  }

  -- One task is another now, with the same elements and source.
  set_files : (tasks tasks' : List (Task S E I O L s e i o)) (place : ℕ) (was is : Task S E I O L s e i o) → slice_get tasks place ≡ Some was → tasks' ≡ slice_set tasks place is
      → SameReads was.head is.head → SameWrites was.parts.items is.parts.items → KeepFiles tasks tasks'
  set_files tasks tasks' place was is at set reads writes = subst (λ (ts : List (Task S E I O L s e i o)). KeepFiles tasks ts) (sym set) (record {
    same = λ holder file. (
      one_set (HasFile holder file) tasks place was is at (has holder file).0,
      λ h. back holder file (set_one (HasFile holder file) tasks place is h),
    );
  })
    where
      has : (holder : Holder) (file : File) → HasFile holder file was ↔ HasFile holder file is
      has (Holder.element n) file = writes n file
      has (Holder.source n) file = reads n file

      back : (holder : Holder) (file : File) → HasFile holder file is ⊎ HoldsFile tasks holder file → HoldsFile tasks holder file
      back holder file (inl h) = one_at (HasFile holder file) tasks place was at ((has holder file).1 h)
      back holder file (inr h) = h

  -- a pad of one of them is another
  pub changed_files : (By : Pad O → Pad O → Type 0) (Kept : Type 0) (tasks tasks' : List (Task S E I O L s e i o)) (place pad : ℕ) (was is : Task S E I O L s e i o) → slice_get tasks place ≡ Some was → tasks' ≡ slice_set tasks place is
      → Changed By Kept pad was.head was.parts.items is.head is.parts.items → KeepFiles tasks tasks'
  changed_files By Kept tasks tasks' place pad was is at set changed = let same = changed_same By Kept pad was.head is.head was.parts.items is.parts.items changed in set_files tasks tasks' place was is at set same.0 same.1

  unlinked_files : (tasks tasks' : List (Task S E I O L s e i o)) (place pad : ℕ) (back : Behind O) → IsUnlinkedAt tasks tasks' place pad back → KeepFiles tasks tasks'
  unlinked_files tasks tasks' place pad back u = changed_files (LedBy Nothing back) (back ≡ Nothing) tasks tasks' place pad u.was u.is u.at u.set u.changed

  -- an element took items then
  turned_files : (tasks tasks' : List (Task S E I O L s e i o)) (place pad : ℕ) (behind : Behind O) (Tied Fed : Task S E I O L s e i o → Task S E I O L s e i o → Type 0) → IsTurned tasks tasks' place pad behind Tied Fed → KeepFiles tasks tasks'
  turned_files tasks tasks' place pad behind Tied Fed t =
      let same = changed_same (LedBy behind t.back) (t.back ≡ behind) pad t.was.head t.turned.head t.was.parts.items t.turned.parts.items t.changed in
      set_files tasks tasks' place t.was t.is t.at t.set (subst (λ (h : Head S I O s). SameReads t.was.head h) (sym t.head) same.0)
      (writes_then t.was.parts.items t.turned.parts.items t.is.parts.items same.1 (writes_frame o t.turned.parts.items t.is.parts.items (ap (λ (f : TaskFrame). f.parts) t.frame)))

  -- more stands in a row
  grown_files : (tasks tasks' : List (Task S E I O L s e i o)) (place port : ℕ) (more : List (Feeding I)) → IsGrownAt tasks tasks' place port more → KeepFiles tasks tasks'
  grown_files tasks tasks' place port more g =
      set_files tasks tasks' place g.was g.is g.at g.set (reads_none g.grew.old g.grew.new g.was.head g.is.head g.grew.was_fed g.grew.fed) (writes_same g.was.parts.items g.is.parts.items g.grew.parts)

  pub kept_files : (tasks tasks' : List (Task S E I O L s e i o)) → AreKept tasks tasks' → KeepFiles tasks tasks'
  kept_files tasks tasks' (inl same) = files_same tasks tasks' same
  kept_files tasks tasks' (inr (place, port, grown)) = grown_files tasks tasks' place port [] grown

  -- ---- two tasks become one

  module _ (tasks mid : List (Task S E I O L s e i o)) (pad element : ℕ) (j : IsJoined tasks mid pad element) where
    abbrev set : List (Task S E I O L s e i o)
    set = slice_set tasks j.to j.merged.is

    gave_at : slice_get set j.from ≡ Some j.merged.gave
    gave_at = set_there tasks j.to j.from j.merged.is j.apart ∙ j.merged.from_at

    of_second : (holder : Holder) (file : File) → HasFile holder file j.merged.was → HasFile holder file j.merged.is
    of_second (Holder.element n) file w =
        subst (λ (ps : List (Part E O e)). OneOf (Writes n file) ps) (sym j.merged.parts) (one_second (Writes n file) j.merged.gave.parts.items j.merged.was.parts.items w)
    of_second (Holder.source n) file r = subst (λ (h : Head S I O s). Reads n file h) (sym j.merged.head) r

    -- what gave its elements has no source
    of_first : (holder : Holder) (file : File) → HasFile holder file j.merged.gave → HasFile holder file j.merged.is
    of_first (Holder.element n) file w =
        subst (λ (ps : List (Part E O e)). OneOf (Writes n file) ps) (sym j.merged.parts) (one_first (Writes n file) j.merged.gave.parts.items j.merged.was.parts.items w)
    of_first (Holder.source n) file r =
        let fed : j.merged.gave.head ≡ Inlets j.fed.head = ap (λ (t : Task S E I O L s e i o). t.head) (some_same (sym j.merged.from_at ∙ j.fed.fed.at)) ∙ j.fed.fed.head_is in
        absurd (subst (λ (h : Head S I O s). Reads n file h) fed r)

    of_both : (holder : Holder) (file : File) → HasFile holder file j.merged.is → HasFile holder file j.merged.gave ⊎ HasFile holder file j.merged.was
    of_both (Holder.element n) file w =
        either (Writes n file) j.merged.gave.parts.items j.merged.was.parts.items (subst (λ (ps : List (Part E O e)). OneOf (Writes n file) ps) j.merged.parts w)
    of_both (Holder.source n) file r = inr (subst (λ (h : Head S I O s). Reads n file h) j.merged.head r)

    here : (holder : Holder) (file : File) → HasFile holder file j.merged.is → OneOf (HasFile holder file) (remove set j.from)
    here holder file h =
        let z = removed_on set j.from j.to j.merged.is (set_at tasks j.to j.merged.was j.merged.is j.merged.to_at) (λ same. j.apart (sym same)) in
        one_at (HasFile holder file) (remove set j.from) z.0 j.merged.is z.2 h

    pub joined_files : KeepFiles tasks mid
    joined_files = subst (λ (ts : List (Task S E I O L s e i o)). KeepFiles tasks ts) (sym j.merged.list) (record {
      same = λ holder file. (
        λ h. on holder file (one_removed (HasFile holder file) set j.from j.merged.gave gave_at (one_set (HasFile holder file) tasks j.to j.merged.was j.merged.is j.merged.to_at (of_second holder file) h)),
        λ h. back holder file (set_one (HasFile holder file) tasks j.to j.merged.is (removed_one (HasFile holder file) set j.from h)),
      );
    })
      where
        on : (holder : Holder) (file : File) → HasFile holder file j.merged.gave ⊎ HoldsFile (remove set j.from) holder file → HoldsFile (remove set j.from) holder file
        on holder file (inl h) = here holder file (of_first holder file h)
        on holder file (inr h) = h

        by : (holder : Holder) (file : File) → HasFile holder file j.merged.gave ⊎ HasFile holder file j.merged.was → HoldsFile tasks holder file
        by holder file (inl h) = one_at (HasFile holder file) tasks j.from j.merged.gave j.merged.from_at h
        by holder file (inr h) = one_at (HasFile holder file) tasks j.to j.merged.was j.merged.to_at h

        back : (holder : Holder) (file : File) → HasFile holder file j.merged.is ⊎ HoldsFile tasks holder file → HoldsFile tasks holder file
        back holder file (inl h) = by holder file (of_both holder file h)
        back holder file (inr h) = h

  -- ---- a task becomes two

  module _ (tasks tasks' : List (Task S E I O L s e i o)) (place element pads : ℕ) (z : IsSplitAt tasks tasks' place element pads) where
    to_either : (holder : Holder) (file : File) → HasFile holder file z.was → HasFile holder file z.is ⊎ HasFile holder file z.fresh
    to_either (Holder.element n) file w = one_parted (Writes n file) z.parted w
    to_either (Holder.source n) file r = inl (subst (λ (h : Head S I O s). Reads n file h) (sym z.head) r)

    from_first : (holder : Holder) (file : File) → HasFile holder file z.is → HasFile holder file z.was
    from_first (Holder.element n) file w = kept_one (Writes n file) z.parted w
    from_first (Holder.source n) file r = subst (λ (h : Head S I O s). Reads n file h) z.head r

    from_second : (holder : Holder) (file : File) → HasFile holder file z.fresh → HasFile holder file z.was
    from_second (Holder.element n) file w = gone_one (Writes n file) z.parted w
    from_second (Holder.source n) file r = absurd (subst (λ (h : Head S I O s). Reads n file h) z.fed_is r)

    pub split_files : KeepFiles tasks tasks'
    split_files = subst (λ (ts : List (Task S E I O L s e i o)). KeepFiles tasks ts) (sym z.list) (record {
      same = λ holder file. (
        λ h. on holder file h,
        λ h. back holder file (either (HasFile holder file) (slice_set tasks place z.is) (z.fresh ∷ []) h),
      );
    })
      where
        now : List (Task S E I O L s e i o)
        now = slice_set tasks place z.is ++ z.fresh ∷ []

        of_was : (holder : Holder) (file : File) → HasFile holder file z.is ⊎ HasFile holder file z.fresh → HoldsFile now holder file
        of_was holder file (inl h) =
            one_first (HasFile holder file) (slice_set tasks place z.is) (z.fresh ∷ []) (one_at (HasFile holder file) (slice_set tasks place z.is) place z.is (set_at tasks place z.was z.is z.at) h)
        of_was holder file (inr h) = one_second (HasFile holder file) (slice_set tasks place z.is) (z.fresh ∷ []) (one_at (HasFile holder file) (z.fresh ∷ []) 0 z.fresh refl h)

        on : (holder : Holder) (file : File) → HoldsFile tasks holder file → HoldsFile now holder file
        on holder file h = go (cases_eq h.place place)
          where
            go : (h.place ≡ place) ⊎ (h.place ≡ place → ⊥) → HoldsFile now holder file
            go (inl same) =
                let it : h.thing ≡ z.was = some_same (sym h.at ∙ ap (λ (k : ℕ). slice_get tasks k) same ∙ z.at) in
                of_was holder file (to_either holder file (subst (λ (t : Task S E I O L s e i o). HasFile holder file t) it h.is_so))
            go (inr other) =
                one_first (HasFile holder file) (slice_set tasks place z.is) (z.fresh ∷ [])
                (one_at (HasFile holder file) (slice_set tasks place z.is) h.place h.thing (set_there tasks place h.place z.is other ∙ h.at) h.is_so)

        was_in : (holder : Holder) (file : File) → HasFile holder file z.was → HoldsFile tasks holder file
        was_in holder file h = one_at (HasFile holder file) tasks place z.was z.at h

        first : (holder : Holder) (file : File) → HasFile holder file z.is ⊎ HoldsFile tasks holder file → HoldsFile tasks holder file
        first holder file (inl h) = was_in holder file (from_first holder file h)
        first holder file (inr h) = h

        back : (holder : Holder) (file : File) → HoldsFile (slice_set tasks place z.is) holder file ⊎ HoldsFile (z.fresh ∷ []) holder file → HoldsFile tasks holder file
        back holder file (inl h) = first holder file (set_one (HasFile holder file) tasks place z.is h)
        back holder file (inr h) = was_in holder file (from_second holder file (alone (HasFile holder file) z.fresh h))

  -- ---- what calls told

  pub told_unlinked : (pad : ℕ) (tasks mid : Vec (Task S E I O L s e i o)) (back : Option (Behind O)) → IfSome back (IsUnlinked tasks.items mid.items pad) → (back ≡ None → NoneHas tasks.items pad × (mid ≡ tasks)) → KeepFiles tasks.items mid.items
  told_unlinked pad tasks mid (Some back) there none = unlinked_files tasks.items mid.items there.0 pad back there.2
  told_unlinked pad tasks mid None there none = files_same tasks.items mid.items (ap (λ (v : Vec (Task S E I O L s e i o)). v.items) (none refl).1)

  pub told_split : (done : Bool) (mid tasks' : List (Task S E I O L s e i o)) (element pads : ℕ) → ToldSplit done mid tasks' element pads → KeepFiles mid tasks'
  told_split true mid tasks' element pads told = let y = told.split refl in split_files mid tasks' y.0 element pads y.2
  told_split false mid tasks' element pads told = files_same mid tasks' (told.same refl)

  pub ended_files : (tasks mid : List (Task S E I O L s e i o)) (pad : ℕ) → IsEndedInside tasks mid pad → KeepFiles tasks mid
  ended_files tasks mid pad z = turned_files tasks mid z.place pad Nothing (TiesUndone pad) (FedAll z.to eos_alone) z.done

  pub not_ended_files : (tasks mid : List (Task S E I O L s e i o)) (pad : ℕ) (fault : EditFault) → NotEnded tasks mid pad fault → KeepFiles tasks mid
  not_ended_files tasks mid pad faults.OutOfMemory same = files_same tasks mid same
  not_ended_files tasks mid pad (faults.Failed stopped) (to, inside, turned) = turned_files tasks mid stopped.task pad Nothing (TiesUndone pad) (FedShort to eos_alone stopped.fault) turned

  pub ended_over_files : (tasks tasks' : List (Task S E I O L s e i o)) (pad : ℕ) → IsEndedOver tasks tasks' pad → KeepFiles tasks tasks'
  ended_over_files tasks tasks' pad z = files_then tasks z.between tasks' (grown_files tasks z.between z.receiver z.to.pad _ z.grown) (unlinked_files z.between tasks' z.sender pad z.back z.undone)

  pub linked_over_files : (tasks tasks' : List (Task S E I O L s e i o)) (pad : ℕ) (to : NewLink I O) (opening : Opening) → IsLinkedOver tasks tasks' pad to opening → KeepFiles tasks tasks'
  linked_over_files tasks tasks' pad to opening z =
      files_then tasks z.between tasks' (grown_files tasks z.between z.receiver to.pad _ z.grown) (changed_files _ _ z.between tasks' z.sender pad z.led.was z.led.is z.led.at z.led.set z.led.changed)

  pub opened_files : (tasks mid tasks' : Vec (Task S E I O L s e i o)) (pad : ℕ) (to : Inside) (items : List Item) → IsJoined tasks.items mid.items pad to.element → (result : Result Bool Stopped)
      → IfOk result (λ done. done ≡ true → IsLinkedOpened mid.items tasks'.items pad to items) → IfOk result (λ done. done ≡ false → NoneHasBoth mid.items pad to.element × (tasks' ≡ mid)) → IfErr result (NotLinkedOpened mid.items tasks'.items pad to items)
      → KeepFiles tasks.items tasks'.items
  opened_files tasks mid tasks' pad to items joined result linked none short = files_then tasks.items mid.items tasks'.items (joined_files tasks.items mid.items pad to.element joined) (go result linked none short)
    where
      go : (r : Result Bool Stopped) → IfOk r (λ done. done ≡ true → IsLinkedOpened mid.items tasks'.items pad to items) → IfOk r (λ done. done ≡ false → NoneHasBoth mid.items pad to.element × (tasks' ≡ mid)) → IfErr r (NotLinkedOpened mid.items tasks'.items pad to items)
          → KeepFiles mid.items tasks'.items
      go (Ok true) linked none short = let z = linked refl in turned_files mid.items tasks'.items z.place pad _ (TiesLinked pad to) (FedAll to items) z.done
      go (Ok false) linked none short = files_same mid.items tasks'.items (ap (λ (v : Vec (Task S E I O L s e i o)). v.items) (none refl).1)
      go (Err stopped) linked none short = turned_files mid.items tasks'.items stopped.task pad _ (TiesLinked pad to) (FedShort to items stopped.fault) short.1

  -- ---- a task is taken out

  pub files_none : (tasks tasks' : List (Task S E I O L s e i o)) → KeepFiles tasks tasks' → KeepFiles tasks (tasks' ++ [])
  files_none tasks tasks' keep = subst (λ (ts : List (Task S E I O L s e i o)). KeepFiles tasks ts) (sym (nil_append tasks')) keep

  pub out_files : (tasks tasks' : List (Task S E I O L s e i o)) (place : ℕ) (task : Task S E I O L s e i o) → slice_get tasks place ≡ Some task → tasks' ≡ remove tasks place → KeepFiles tasks (tasks' ++ task ∷ [])
  out_files tasks tasks' place task at rest = subst (λ (ts : List (Task S E I O L s e i o)). KeepFiles tasks (ts ++ task ∷ [])) (sym rest) (record {
    same = λ holder file. (
      λ h. on holder file (one_removed (HasFile holder file) tasks place task at h),
      λ h. back holder file (either (HasFile holder file) (remove tasks place) (task ∷ []) h),
    );
  })
    where
      on : (holder : Holder) (file : File) → HasFile holder file task ⊎ HoldsFile (remove tasks place) holder file → HoldsFile (remove tasks place ++ task ∷ []) holder file
      on holder file (inl h) = one_second (HasFile holder file) (remove tasks place) (task ∷ []) (one_at (HasFile holder file) (task ∷ []) 0 task refl h)
      on holder file (inr h) = one_first (HasFile holder file) (remove tasks place) (task ∷ []) h

      back : (holder : Holder) (file : File) → HoldsFile (remove tasks place) holder file ⊎ HoldsFile (task ∷ []) holder file → HoldsFile tasks holder file
      back holder file (inl h) = removed_one (HasFile holder file) tasks place h
      back holder file (inr h) = one_at (HasFile holder file) tasks place task at (alone (HasFile holder file) task h)

  -- a deed that takes none out
  pub done_files : (tasks tasks' : List (Task S E I O L s e i o)) (out : Result (Outcome S E I O L s e i o) EditFault) (r : Result Bool EditFault) → out ≡ outcome_of r → KeepFiles tasks tasks' → IfOk out (λ outcome. KeepFiles tasks (tasks' ++ taken_by outcome))
  done_files tasks tasks' out r is keep = subst (λ (x : Result (Outcome S E I O L s e i o) EditFault). IfOk x (λ outcome. KeepFiles tasks (tasks' ++ taken_by outcome))) (sym is) (go r)
    where
      go : (r : Result Bool EditFault) → IfOk (outcome_of {s = s} {e = e} {i = i} {o = o} r) (λ outcome. KeepFiles tasks (tasks' ++ taken_by outcome))
      go (Ok true) = files_none tasks tasks' keep
      go (Ok false) = files_none tasks tasks' keep
      go (Err fault) = tt

  -- ---- a task with the frame that it had

  has_framed : (before after : Task S E I O L s e i o) → frame_of after ≡ frame_of before → (holder : Holder) (file : File) → HasFile holder file before ↔ HasFile holder file after
  has_framed before after same (Holder.element n) file = writes_frame o before.parts.items after.parts.items (ap (λ (f : TaskFrame). f.parts) same) n file
  has_framed before after same (Holder.source n) file = reads_frame o before.head after.head (ap (λ (f : TaskFrame). f.head) same) n file

  held_on : (tasks tasks' : List (Task S E I O L s e i o)) (place : ℕ) (before after : Task S E I O L s e i o) → ((k : ℕ) → (k ≡ place → ⊥) → slice_get tasks' k ≡ slice_get tasks k)
      → slice_get tasks place ≡ Some before → slice_get tasks' place ≡ Some after → (P : Task S E I O L s e i o → Type 0) → (P before → P after) → OneOf P tasks → OneOf P tasks'
  held_on tasks tasks' place before after others at at' P on one = go (cases_eq one.place place)
    where
      go : (one.place ≡ place) ⊎ (one.place ≡ place → ⊥) → OneOf P tasks'
      go (inl same) = one_at P tasks' place after at' (on (subst P (some_same (sym one.at ∙ ap (λ (j : ℕ). slice_get tasks j) same ∙ at)) one.is_so))
      go (inr other) = one_at P tasks' one.place one.thing (others one.place other ∙ one.at) one.is_so

  -- One task has the frame that it had, and the others stay.
  pub framed_files : (tasks tasks' : List (Task S E I O L s e i o)) (place : ℕ) (before after : Task S E I O L s e i o) → ((k : ℕ) → (k ≡ place → ⊥) → slice_get tasks' k ≡ slice_get tasks k)
      → slice_get tasks place ≡ Some before → slice_get tasks' place ≡ Some after → frame_of after ≡ frame_of before → KeepFiles tasks tasks'
  framed_files tasks tasks' place before after others at at' same = record {
    same = λ holder file. (
      held_on tasks tasks' place before after others at at' (HasFile holder file) (has_framed before after same holder file).0,
      held_on tasks' tasks place after before (λ k ne. sym (others k ne)) at' at (HasFile holder file) (has_framed before after same holder file).1,
    );
  }

  -- ---- tasks that stand beside others

  pub files_beside : (tasks tasks' others aside : List (Task S E I O L s e i o)) → KeepFiles tasks (tasks' ++ aside) → KeepFiles (tasks ++ others) (tasks' ++ (others ++ aside))
  files_beside tasks tasks' others aside kept = record {
    same = λ holder file. (
      λ h. on holder file (either (HasFile holder file) tasks others h),
      λ h. back holder file (either (HasFile holder file) tasks' (others ++ aside) h),
    );
  }
    where
      moved : (holder : Holder) (file : File) → HoldsFile tasks' holder file ⊎ HoldsFile aside holder file → HoldsFile (tasks' ++ (others ++ aside)) holder file
      moved holder file (inl h) = one_first (HasFile holder file) tasks' (others ++ aside) h
      moved holder file (inr h) = one_second (HasFile holder file) tasks' (others ++ aside) (one_second (HasFile holder file) others aside h)

      on : (holder : Holder) (file : File) → HoldsFile tasks holder file ⊎ HoldsFile others holder file → HoldsFile (tasks' ++ (others ++ aside)) holder file
      on holder file (inl h) = moved holder file (either (HasFile holder file) tasks' aside ((kept.same holder file).0 h))
      on holder file (inr h) = one_second (HasFile holder file) tasks' (others ++ aside) (one_first (HasFile holder file) others aside h)

      beside : (holder : Holder) (file : File) → HoldsFile others holder file ⊎ HoldsFile aside holder file → HoldsFile (tasks ++ others) holder file
      beside holder file (inl h) = one_second (HasFile holder file) tasks others h
      beside holder file (inr h) = one_first (HasFile holder file) tasks others ((kept.same holder file).1 (one_second (HasFile holder file) tasks' aside h))

      back : (holder : Holder) (file : File) → HoldsFile tasks' holder file ⊎ HoldsFile (others ++ aside) holder file → HoldsFile (tasks ++ others) holder file
      back holder file (inl h) = one_first (HasFile holder file) tasks others ((kept.same holder file).1 (one_first (HasFile holder file) tasks' aside h))
      back holder file (inr h) = beside holder file (either (HasFile holder file) others aside h)
