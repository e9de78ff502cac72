-- Where the files of a run of a script are behind it: its tasks, those too that were set aside, have the elements of the line, each with the file that was opened for it.
use Rattle.std.proofs.Common.{◌≡◌, ◌⊎◌, ◌++◌, ℕ, true, false, List, [], Option, None, Some, length, append-nil, refl, sym, ap, ◌∙◌, subst, inl, inr, arith}
use Rattle.std.specs.Prelude.{slice_get}
use Rattle.std.specs.Option.{option_map}
use Rattle.std.proofs.lemmas.List.{length-map}
use Rattle.std.proofs.lemmas.Option.{same_Some, slice_get_within}
use Rattle.el_set.specs.Gives.{source_file}
use Rattle.el_set.specs.Made.{file_for, read_for}
use Rattle.el_set.proofs.Openings.{read_own, written_own}
use Rattle.el_settings.specs.Asked.{is_source, reads, writes}
use Rattle.flow_model.specs.declared.element.TaskElement as elements
use Rattle.flow_model.specs.declared.source.TaskSource as givers
use Rattle.flow_model.specs.Account.{IsMember}
use Rattle.graph_core.specs.Elements.{Made, has}
use Rattle.graph_core.specs.Graph.{made as made_in, links as links_in}
use Rattle.graph_core.specs.declared.graph.Graph.{Graph}
use Rattle.graph_edits.specs.Graph.{made as made_of}
use Rattle.graph_parts.specs.Back.{Gives, GivesBack, HasElement, HasPart, HasSource, IsHead}
use Rattle.graph_parts.specs.Ends.{at, left_by, sink_end, source_end}
use Rattle.graph_parts.specs.Files.{AreLocated}
use Rattle.graph_parts.specs.Put.{Among, IsPutAt, PutBack}
use Rattle.graph_parts.proofs.OwnFiles.{IsReader, IsWriter, reader, writer}
use Rattle.graph_tasks.specs.Tasks.{IsOf}
use Rattle.graph_tasks.specs.Wired.{part_numbers}
use Rattle.graph_tasks.proofs.Takes.{without_stays, without_stood}
use Rattle.gst_outside.specs.Seen.{Seen}
use Rattle.gst_outside.specs.declared.sink.Sink as sinks
use Rattle.gst_outside.specs.declared.source.Source as sources
use Rattle.gst_value.proofs.Places.{found_at as got_within, map_get as get_map}
use Rattle.lane_core.specs.declared.ends.Inlet as inlets
use Rattle.lane_core.specs.declared.ends.Outlet as outlets
use Rattle.net_task.specs.Frame.{frame_of}
use Rattle.net_task.specs.declared.task.Task.{Task}
use Rattle.net_turns.specs.Rests.{AllFramed}
use Rattle.run_files.specs.Ends.{known_ends}
use Rattle.run_files.specs.declared.end.End.{End}
use Rattle.run_files.specs.declared.end.End.TheVariants.{Src, Snk}
use Rattle.script_text.specs.declared.command.Command.{Command}
use Rattle.task_elements.specs.Stands.{file_in}
use Rattle.task_elements.specs.declared.element.StreamElement.{StreamElement}
use Rattle.task_elements.specs.declared.source.StreamSource.{StreamSource}
use Rattle.task_parts.specs.declared.head.Head.{Head}
use Rattle.task_parts.specs.declared.head.Head.TheVariants.{Source, Inlets}
use Rattle.edit_acts.specs.Files.{File, HoldsFile, Holder, KeepFiles, OneOf, Reads, Writes}
use Rattle.edit_acts.proofs.Files.{either, one_first, one_second}
use Rattle.world_core.specs.Running.{KeepsElements, all_tasks}
use Rattle.world_core.specs.Scripts.{ScriptBegins}
use Rattle.world_core.specs.declared.running.Running.{Running}
use Rattle.world_core.proofs.Headed.{HeadAt, given_from, head_there}
use Rattle.world_core.proofs.Members.{mapped, member_or}
use Rattle.world_core.proofs.Opened.{element_made, element_writes, end_count, got_end, known, none_at, sink_at, source_at, source_reads}
use Rattle.world_core.proofs.Returned.{asked_at, no_read, no_written, put_none, read_here, written_here}
use Rattle.world_core.proofs.Traced.{PartAt, part_there, taken_from}

-- what stands at a place where things were put twice, of which one at least is there
pub put_twice : {A : Type 0} (Q : A → Type 0) (First Second : ℕ → A → Type 0) (old mid new : List A) (n : ℕ) → ((x : A) → First n x → Q x) → ((x : A) → Second n x → Q x)
    → (x : A) × (First n x ⊎ Second n x) → IsPutAt First old mid n → IsPutAt Second mid new n → (x : A) × (slice_get new n ≡ Some x) × Q x
put_twice Q First Second old mid new n one two some first (IsPutAt.was_put x here is) = (x, is, two x here)
put_twice Q First Second old mid new n one two some (IsPutAt.was_put x here is) (IsPutAt.was_kept none same) = (x, same ∙ is, one x here)
put_twice Q First Second old mid new n one two (x, inl here) (IsPutAt.was_kept away is) (IsPutAt.was_kept none same) = absurd (away x here)
put_twice Q First Second old mid new n one two (x, inr here) first (IsPutAt.was_kept none same) = absurd (none x here)

-- a list is framed as it is
pub same_framed : {S E I O L : Type 0} {s : givers.Ghosts S} {e : elements.Ghosts E} {i : inlets.Ghosts I L O} {o : outlets.Ghosts O L} (tasks : List (Task S E I O L s e i o)) → AllFramed tasks tasks
same_framed {o = o} tasks k before after here there = ap (λ (task : Task _ _ _ _ _ _ _ _ _). frame_of task) (same_Some after before (sym there ∙ here))

module _ {S K I O L : Type 0} {giver : givers.Ghosts (StreamSource S)} {taker : elements.Ghosts (StreamElement K)} {i : inlets.Ghosts I L O} {o : outlets.Ghosts O L}
    (tasks : List (Task (StreamSource S) (StreamElement K) I O L giver taker i o)) where
  -- an element of tasks holds its file, and what holds a file is an element of them
  pub part_holds : (d : ℕ) (x : StreamElement K) → Among HasPart tasks d x → HoldsFile tasks (Holder.element d) (taker.file x)
  part_holds d x own = record {
    place = own.place;
    thing = own.one;
    at = own.at;
    is_so = record { place = own.inside.place; thing = own.inside.one; at = own.inside.at; is_so = (own.inside.inside.0, ap (λ (y : StreamElement K). taker.file y) own.inside.inside.1) };
  }

  holds_part : (d : ℕ) (file : File) → HoldsFile tasks (Holder.element d) file → (x : StreamElement K) × Among HasPart tasks d x
  holds_part d file h = (
    h.is_so.thing.element,
    record { place = h.place; one = h.thing; at = h.at; inside = record { place = h.is_so.place; one = h.is_so.thing; at = h.is_so.at; inside = (h.is_so.is_so.0, refl) } },
  )

  -- so it is with a source
  head_reads : (e : ℕ) (x : StreamSource S) (head : Head (StreamSource S) I O giver) → IsHead head e x → Reads e (giver.file x) head
  head_reads e x (Source head) is = (is.0, ap (λ (y : StreamSource S). giver.file y) is.1)
  head_reads e x (Inlets head) is = absurd is

  reads_head : (e : ℕ) (file : File) (head : Head (StreamSource S) I O giver) → Reads e file head → (x : StreamSource S) × IsHead head e x
  reads_head e file (Source head) is = (head.source, (is.0, refl))
  reads_head e file (Inlets head) is = absurd is

  head_holds : (e : ℕ) (x : StreamSource S) → HasSource tasks e x → HoldsFile tasks (Holder.source e) (giver.file x)
  head_holds e x own = record { place = own.place; thing = own.one; at = own.at; is_so = head_reads e x own.one.head own.inside }

  holds_head : (e : ℕ) (file : File) → HoldsFile tasks (Holder.source e) file → (x : StreamSource S) × HasSource tasks e x
  holds_head e file h = let x = reads_head e file h.thing.head h.is_so in (x.0, record { place = h.place; one = h.thing; at = h.at; inside = x.1 })

module _ {S K I O L : Type 0} {giver : givers.Ghosts (StreamSource S)} {taker : elements.Ghosts (StreamElement K)} {i : inlets.Ghosts I L O} {o : outlets.Ghosts O L}
    (s : sources.Ghosts S) (k : sinks.Ghosts K) (taken : (x : StreamElement K) → taker.file x ≡ option_map k.location (file_in x))
    (given : (x : StreamSource S) → giver.file x ≡ option_map s.location (source_file x.source)) (graph : Graph) (script : List Command)
    (run : Running (StreamSource S) (StreamElement K) I O L giver taker i o) (rest : List (Option (StreamElement K))) (left : List (Option (End S K))) (before : Seen)
    (begins : ScriptBegins s k graph script run rest left before) where
  -- ---- where it began

  abbrev writes_then : ℕ → Made → File
  writes_then d m = option_map k.location (file_for m.settings (sink_end (at begins.ends d)))

  abbrev reads_then : ℕ → Made → File
  reads_then e m = option_map s.location (read_for m.settings (source_end (at begins.ends e)))

  -- an element that was made has the file that was opened for it, and so has a source
  stood_file : (d : ℕ) (m : Made) (x : StreamElement K) → slice_get (made_in graph) d ≡ Some m → IsOf begins.elements_in d x → taker.file x ≡ writes_then d m
  stood_file d m x here stood =
      taken x
      ∙ ap (option_map k.location)
      (element_writes s k (made_in graph) begins.ends before begins.opened begins.opens begins.elements_in begins.sources_in left begins.filled d m x here stood)

  stood_source : (e : ℕ) (m : Made) (x : StreamSource S) → slice_get (made_in graph) e ≡ Some m → IsOf begins.sources_in e x → giver.file x ≡ reads_then e m
  stood_source e m x here stood =
      given x
      ∙ ap (option_map s.location)
      (source_reads s k (made_in graph) begins.ends before begins.opened begins.opens begins.elements_in begins.sources_in left begins.filled e m x here stood)

  first_file : (d : ℕ) (m : Made) (file : File) → slice_get (made_in graph) d ≡ Some m → HoldsFile run.tasks.items (Holder.element d) file → file ≡ writes_then d m
  first_file d m file here h =
      let own : PartAt run.tasks.items h.place h.is_so.place d = record { task = h.thing; at = h.at; part = h.is_so.thing; inner = h.is_so.at; number = h.is_so.is_so.0 } in
      let from =
      taken_from i o (made_in graph) (links_in graph) begins.elements_in begins.sources_in begins.bags run.tasks.items run.tasks.items begins.table begins.wired begins.tasks_are begins.wired_are
      (same_framed run.tasks.items) refl h.place h.is_so.place d own in
      sym h.is_so.is_so.1 ∙ from.same_file ∙ stood_file d m from.was here from.stood

  head_of : (e : ℕ) (file : File) (head : Head (StreamSource S) I O giver) (place : ℕ) (task : Task (StreamSource S) (StreamElement K) I O L giver taker i o) → slice_get run.tasks.items place ≡ Some task
      → task.head ≡ head → Reads e file head → (own : HeadAt run.tasks.items place e) × (giver.file own.own.source ≡ file)
  head_of e file (Source head) place task there is has = (record { task = task; at = there; own = head; is = is; number = has.0 }, has.1)
  head_of e file (Inlets head) place task there is has = absurd has

  first_source : (e : ℕ) (m : Made) (file : File) → slice_get (made_in graph) e ≡ Some m → HoldsFile run.tasks.items (Holder.source e) file → file ≡ reads_then e m
  first_source e m file here h =
      let own = head_of e file h.thing.head h.place h.thing h.at refl h.is_so in
      let from =
      given_from i o (made_in graph) (links_in graph) begins.elements_in begins.sources_in begins.bags run.tasks.items run.tasks.items begins.table begins.wired begins.tasks_are begins.wired_are
      (same_framed run.tasks.items) refl h.place e own.0 in
      sym own.1 ∙ from.same_file ∙ stood_source e m from.was here from.stood

  -- each element with a sink pad was there, in a task or among the rest, and each source
  first_there : (d : ℕ) (m : Made) → slice_get (made_in graph) d ≡ Some m → is_source m.settings ≡ false
      → ((file : File) × HoldsFile run.tasks.items (Holder.element d) file) ⊎ ((x : StreamElement K) × (slice_get rest d ≡ Some (Some x)))
  first_there d m here pads = by (member_or (part_numbers begins.wired) d)
    where
      by : IsMember d (part_numbers begins.wired) ⊎ (IsMember d (part_numbers begins.wired) → ⊥)
          → ((file : File) × HoldsFile run.tasks.items (Holder.element d) file) ⊎ ((x : StreamElement K) × (slice_get rest d ≡ Some (Some x)))
      by (inl among) =
          let there =
          part_there i o (made_in graph) (links_in graph) begins.elements_in begins.sources_in begins.bags run.tasks.items run.tasks.items begins.table begins.wired begins.tasks_are begins.wired_are
          (same_framed run.tasks.items) refl d among in
          let own = there.2 in
          let inside : OneOf (Writes d (taker.file own.part.element)) own.task.parts.items = record { place = there.1; thing = own.part; at = own.inner; is_so = (own.number, refl) } in
          inl (taker.file own.part.element, record { place = there.0; thing = own.task; at = own.at; is_so = inside })
      by (inr none) =
          let x = element_made s k (made_in graph) begins.ends before begins.opened begins.opens begins.elements_in begins.sources_in left begins.filled d m here pads in
          inr (x.0, subst (λ (xs : List (Option (StreamElement K))). IsOf xs d x.0) (sym begins.rest_is) (without_stays (part_numbers begins.wired) begins.elements_in d x.0 none x.1))

  source_there : (e : ℕ) (m : Made) → slice_get (made_in graph) e ≡ Some m → is_source m.settings ≡ true → (file : File) × HoldsFile run.tasks.items (Holder.source e) file
  source_there e m here pads =
      let there =
      head_there i o (made_in graph) (links_in graph) begins.elements_in begins.sources_in begins.bags run.tasks.items run.tasks.items begins.table begins.wired begins.tasks_are begins.wired_are
      (same_framed run.tasks.items) refl begins.bags_are.are e m here pads in
      let own = there.1 in
      let head : Reads e (giver.file own.own.source) own.task.head =
      subst (λ (head : Head (StreamSource S) I O giver). Reads e (giver.file own.own.source) head) (sym own.is) (own.number, refl) in
      (giver.file own.own.source, record { place = there.0; thing = own.task; at = own.at; is_so = head })

  rest_file : (d : ℕ) (m : Made) (x : StreamElement K) → slice_get (made_in graph) d ≡ Some m → slice_get rest d ≡ Some (Some x) → taker.file x ≡ writes_then d m
  rest_file d m x here is =
      stood_file d m x here
      (without_stood (part_numbers begins.wired) begins.elements_in d x (subst (λ (xs : List (Option (StreamElement K))). IsOf xs d x) begins.rest_is is))

  -- ---- where it stopped

  module _ (last removed : List (Task (StreamSource S) (StreamElement K) I O L giver taker i o)) (kept : KeepFiles (all_tasks run) (last ++ removed)) where
    firsts : all_tasks run ≡ run.tasks.items
    firsts = ap (λ (ts : List (Task (StreamSource S) (StreamElement K) I O L giver taker i o)). run.tasks.items ++ ts) begins.none_removed ∙ append-nil run.tasks.items

    pub was_held : (holder : Holder) (file : File) → HoldsFile (last ++ removed) holder file → HoldsFile run.tasks.items holder file
    was_held holder file h = subst (λ (ts : List (Task (StreamSource S) (StreamElement K) I O L giver taker i o)). HoldsFile ts holder file) firsts ((kept.same holder file).1 h)

    is_held : (holder : Holder) (file : File) → HoldsFile run.tasks.items holder file → HoldsFile last holder file ⊎ HoldsFile removed holder file
    is_held holder file h =
        either _ last removed ((kept.same holder file).0 (subst (λ (ts : List (Task (StreamSource S) (StreamElement K) I O L giver taker i o)). HoldsFile ts holder file) (sym firsts) h))

    -- each element that is given back has the file that was opened for it
    pub last_file : (d : ℕ) (m : Made) (x : StreamElement K) → slice_get (made_in graph) d ≡ Some m → HasElement last rest d x → taker.file x ≡ writes_then d m
    last_file d m x here (inl own) = first_file d m (taker.file x) here (was_held (Holder.element d) (taker.file x) (one_first _ last removed (part_holds last d x own)))
    last_file d m x here (inr is) = rest_file d m x here is

    none_in : {A : Type 0} (d : ℕ) (x : A) → slice_get [] d ≡ Some x → ⊥
    none_in d x is = let low = slice_get_within [] d x is in omega (arith, low)

    pub removed_file : (d : ℕ) (m : Made) (x : StreamElement K) → slice_get (made_in graph) d ≡ Some m → HasElement removed [] d x → taker.file x ≡ writes_then d m
    removed_file d m x here (inl own) = first_file d m (taker.file x) here (was_held (Holder.element d) (taker.file x) (one_second _ last removed (part_holds removed d x own)))
    removed_file d m x here (inr is) = absurd (none_in d (Some x) is)

    last_source : (e : ℕ) (m : Made) (x : StreamSource S) → slice_get (made_in graph) e ≡ Some m → HasSource last e x → giver.file x ≡ reads_then e m
    last_source e m x here own = first_source e m (giver.file x) here (was_held (Holder.source e) (giver.file x) (one_first _ last removed (head_holds last e x own)))

    removed_source : (e : ℕ) (m : Made) (x : StreamSource S) → slice_get (made_in graph) e ≡ Some m → HasSource removed e x → giver.file x ≡ reads_then e m
    removed_source e m x here own = first_source e m (giver.file x) here (was_held (Holder.source e) (giver.file x) (one_second _ last removed (head_holds removed e x own)))

    -- ---- the ends that are given back

    module _ (mid ends : List (Option (End S K))) (back : PutBack (GivesBack (made_in graph) last rest) left mid) (aside : PutBack (GivesBack (made_in graph) removed []) mid ends) where
      count : length ends ≡ length (made_in graph)
      count = aside.count ∙ back.count ∙ begins.filled.end_count ∙ end_count s k (made_in graph) begins.ends before begins.opened begins.opens

      pub back_at : (d : ℕ) (m : Made) → slice_get (made_in graph) d ≡ Some m → IsPutAt (GivesBack (made_in graph) last rest) left mid d
      back_at d m here = let low = slice_get_within (made_in graph) d m here in let size = aside.count in back.each d (omega (arith, low, count, size, back.count))

      pub aside_at : (d : ℕ) (m : Made) → slice_get (made_in graph) d ≡ Some m → IsPutAt (GivesBack (made_in graph) removed []) mid ends d
      aside_at d m here = let low = slice_get_within (made_in graph) d m here in aside.each d (omega (arith, low, count, aside.count))

      -- of a file that is written
      module _ (d : ℕ) (m : Made) (location : List ℕ) (here : slice_get (made_in graph) d ≡ Some m) (own : IsWriter m.settings location)
          (there : (file : K) × (at begins.ends d ≡ Some (Snk file)) × (k.location file ≡ Some location)) where
        pub written : (x : StreamElement K) → taker.file x ≡ writes_then d m → (file : K) × (file_in x ≡ Some file) × (k.location file ≡ Some location)
        written x is =
            mapped k.location (file_in x) (Some location)
            (sym (taken x) ∙ is
            ∙ ap (option_map k.location) (written_own m.settings (sink_end (at begins.ends d)) own.writing)
            ∙ ap (λ (end : Option (End S K)). option_map k.location (sink_end end)) there.1
            ∙ ap (λ (place : Option (List ℕ)). Some place) there.2)

        abbrev IsSink : Option (End S K) → Type 0
        IsSink end = (file : K) × (end ≡ Some (Snk file)) × (k.location file ≡ Some location)

        sink_given : (Reading : ℕ → StreamSource S → Type 0) (Has : ℕ → StreamElement K → Type 0) → ((x : StreamElement K) → Has d x → taker.file x ≡ writes_then d m) → (end : Option (End S K))
            → Gives (made_in graph) Reading Has d end → IsSink end
        sink_given Reading Has so end (Gives.by_source source of gives) = absurd (no_read (made_in graph) d source end (asked_at reads (made_in graph) d m here ∙ own.no_reading) gives)
        sink_given Reading Has so end (Gives.by_element element of gives) =
            let file = written element (so element of) in
            let is = written_here (made_in graph) d element file.0 (asked_at writes (made_in graph) d m here ∙ own.writing) file.1 in
            (file.0, same_Some end (Some (Snk file.0)) (sym gives ∙ is), file.2)

        given_sink : (Reading : ℕ → StreamSource S → Type 0) (Has : ℕ → StreamElement K → Type 0) (x : StreamElement K) → Has d x → taker.file x ≡ writes_then d m
            → (end : Option (End S K)) × Gives (made_in graph) Reading Has d end
        given_sink Reading Has x of is =
            let file = written x is in
            (Some (Snk file.0), Gives.by_element x of (written_here (made_in graph) d x file.0 (asked_at writes (made_in graph) d m here ∙ own.writing) file.1))

        sink_there : (end : Option (End S K)) × (GivesBack (made_in graph) last rest d end ⊎ GivesBack (made_in graph) removed [] d end)
        sink_there = by (first_there d m here own.no_source)
          where
            of_last : (x : StreamElement K) → HasElement last rest d x → (end : Option (End S K)) × (GivesBack (made_in graph) last rest d end ⊎ GivesBack (made_in graph) removed [] d end)
            of_last x has = let end = given_sink (HasSource last) (HasElement last rest) x has (last_file d m x here has) in (end.0, inl end.1)

            of_removed : (x : StreamElement K) → HasElement removed [] d x → (end : Option (End S K)) × (GivesBack (made_in graph) last rest d end ⊎ GivesBack (made_in graph) removed [] d end)
            of_removed x has = let end = given_sink (HasSource removed) (HasElement removed []) x has (removed_file d m x here has) in (end.0, inr end.1)

            of_held : (file : File) → HoldsFile last (Holder.element d) file ⊎ HoldsFile removed (Holder.element d) file
                → (end : Option (End S K)) × (GivesBack (made_in graph) last rest d end ⊎ GivesBack (made_in graph) removed [] d end)
            of_held file (inl h) = let x = holds_part last d file h in of_last x.0 (inl x.1)
            of_held file (inr h) = let x = holds_part removed d file h in of_removed x.0 (inl x.1)

            by : ((file : File) × HoldsFile run.tasks.items (Holder.element d) file) ⊎ ((x : StreamElement K) × (slice_get rest d ≡ Some (Some x)))
                → (end : Option (End S K)) × (GivesBack (made_in graph) last rest d end ⊎ GivesBack (made_in graph) removed [] d end)
            by (inl held) = of_held held.0 (is_held (Holder.element d) held.0 held.1)
            by (inr x) = of_last x.0 (inr x.1)

        sink_put : (end : Option (End S K)) × (slice_get ends d ≡ Some end) × IsSink end
        sink_put =
            put_twice IsSink (GivesBack (made_in graph) last rest) (GivesBack (made_in graph) removed []) left mid ends d
            (sink_given (HasSource last) (HasElement last rest) (λ x of. last_file d m x here of))
            (sink_given (HasSource removed) (HasElement removed []) (λ x of. removed_file d m x here of)) sink_there (back_at d m here) (aside_at d m here)

      -- and of one that is read
      module _ (e : ℕ) (m : Made) (location : List ℕ) (here : slice_get (made_in graph) e ≡ Some m) (own : IsReader m.settings location)
          (there : (file : S) × (at begins.ends e ≡ Some (Src file)) × (s.location file ≡ Some location)) where
        read : (x : StreamSource S) → giver.file x ≡ reads_then e m → (file : S) × (source_file x.source ≡ Some file) × (s.location file ≡ Some location)
        read x is =
            mapped s.location (source_file x.source) (Some location)
            (sym (given x) ∙ is
            ∙ ap (option_map s.location) (read_own m.settings (source_end (at begins.ends e)) own.reading)
            ∙ ap (λ (end : Option (End S K)). option_map s.location (source_end end)) there.1
            ∙ ap (λ (place : Option (List ℕ)). Some place) there.2)

        abbrev IsSource : Option (End S K) → Type 0
        IsSource end = (file : S) × (end ≡ Some (Src file)) × (s.location file ≡ Some location)

        source_given : (Reading : ℕ → StreamSource S → Type 0) (Has : ℕ → StreamElement K → Type 0) → ((x : StreamSource S) → Reading e x → giver.file x ≡ reads_then e m) → (end : Option (End S K))
            → Gives (made_in graph) Reading Has e end → IsSource end
        source_given Reading Has so end (Gives.by_source source of gives) =
            let file = read source (so source of) in
            let is = read_here (made_in graph) e source file.0 (asked_at reads (made_in graph) e m here ∙ own.reading) file.1 in
            (file.0, same_Some end (Some (Src file.0)) (sym gives ∙ is), file.2)
        source_given Reading Has so end (Gives.by_element element of gives) = absurd (no_written (made_in graph) e element end (asked_at writes (made_in graph) e m here ∙ own.no_writing) gives)

        given_source : (Reading : ℕ → StreamSource S → Type 0) (Has : ℕ → StreamElement K → Type 0) (x : StreamSource S) → Reading e x → giver.file x ≡ reads_then e m
            → (end : Option (End S K)) × Gives (made_in graph) Reading Has e end
        given_source Reading Has x of is =
            let file = read x is in
            (Some (Src file.0), Gives.by_source x of (read_here (made_in graph) e x file.0 (asked_at reads (made_in graph) e m here ∙ own.reading) file.1))

        source_back : (end : Option (End S K)) × (GivesBack (made_in graph) last rest e end ⊎ GivesBack (made_in graph) removed [] e end)
        source_back = let held = source_there e m here own.source in by held.0 (is_held (Holder.source e) held.0 held.1)
          where
            of_last : (x : StreamSource S) → HasSource last e x → (end : Option (End S K)) × (GivesBack (made_in graph) last rest e end ⊎ GivesBack (made_in graph) removed [] e end)
            of_last x has = let end = given_source (HasSource last) (HasElement last rest) x has (last_source e m x here has) in (end.0, inl end.1)

            of_removed : (x : StreamSource S) → HasSource removed e x → (end : Option (End S K)) × (GivesBack (made_in graph) last rest e end ⊎ GivesBack (made_in graph) removed [] e end)
            of_removed x has = let end = given_source (HasSource removed) (HasElement removed []) x has (removed_source e m x here has) in (end.0, inr end.1)

            by : (file : File) → HoldsFile last (Holder.source e) file ⊎ HoldsFile removed (Holder.source e) file
                → (end : Option (End S K)) × (GivesBack (made_in graph) last rest e end ⊎ GivesBack (made_in graph) removed [] e end)
            by file (inl h) = let x = holds_head last e file h in of_last x.0 x.1
            by file (inr h) = let x = holds_head removed e file h in of_removed x.0 x.1

        source_put : (end : Option (End S K)) × (slice_get ends e ≡ Some end) × IsSource end
        source_put =
            put_twice IsSource (GivesBack (made_in graph) last rest) (GivesBack (made_in graph) removed []) left mid ends e
            (source_given (HasSource last) (HasElement last rest) (λ x of. last_source e m x here of))
            (source_given (HasSource removed) (HasElement removed []) (λ x of. removed_source e m x here of)) source_back (back_at e m here) (aside_at e m here)

      -- the ends that are given back are where they were opened
      pub script_located : AreLocated (made_in graph) (known_ends s k ends)
      script_located = record {
        size = length-map ends (option_map (known s k)) ∙ count;
        written = λ d m location here opens.
            let file = sink_at s k (made_in graph) begins.ends before begins.opened begins.opens d m location here opens in
            let end = sink_put d m location here (writer m.settings location opens) file in
            let own = end.2.0 in
            record {
              end = known s k (Snk own);
              at = get_map (option_map (known s k)) ends d (Some (Snk own)) (end.1 ∙ ap (λ (x : Option (End S K)). Some x) end.2.1);
              kind = refl;
              place = end.2.2;
            };
        read = λ e m location here opens.
            let file = source_at s k (made_in graph) begins.ends before begins.opened begins.opens e m location here opens in
            let end = source_put e m location here (reader m.settings location opens) file in
            let own = end.2.0 in
            record {
              end = known s k (Src own);
              at = get_map (option_map (known s k)) ends e (Some (Src own)) (end.1 ∙ ap (λ (x : Option (End S K)). Some x) end.2.1);
              kind = refl;
              place = end.2.2;
            };
        none = λ d m here opens.
            let low = slice_get_within (made_in graph) d m here in
            let was = got_within left d (omega (arith, low, count, aside.count, back.count)) in
            let none =
            sym (got_end left d was.0 was.1) ∙ (begins.filled.each d m here).left_is
            ∙ ap (left_by m.settings) (none_at s k (made_in graph) begins.ends before begins.opened begins.opens d m here opens) in
            get_map (option_map (known s k)) ends d None
            (put_none (made_in graph) (HasSource removed) (HasElement removed []) mid ends d m here opens (aside_at d m here)
            ∙ put_none (made_in graph) (HasSource last) (HasElement last rest) left mid d m here opens (back_at d m here)
            ∙ was.1 ∙ ap (λ (end : Option (End S K)). Some end) none);
      }

  -- so it is behind a run that kept its elements
  pub located_so : (is : Running (StreamSource S) (StreamElement K) I O L giver taker i o) → KeepsElements run is → (last removed : List (Task (StreamSource S) (StreamElement K) I O L giver taker i o))
      → last ≡ is.tasks.items → removed ≡ is.removed.items → (made other : List Made) → made ≡ made_of is.graph → other ≡ made_of is.graph → (nothing : List (Option (StreamElement K))) → nothing ≡ []
      → (mid ends : List (Option (End S K))) → PutBack (GivesBack made last rest) left mid → PutBack (GivesBack other removed nothing) mid ends → AreLocated (made_in graph) (known_ends s k ends)
  located_so is kept last removed last_is removed_is made other made_is other_is nothing nothing_is mid ends back aside =
      let line : made_of is.graph ≡ made_in graph = kept.made_of ∙ begins.edited.elements in
      script_located last removed
      (subst (λ (ts : List (Task (StreamSource S) (StreamElement K) I O L giver taker i o)). KeepFiles (all_tasks run) (ts ++ removed)) (sym last_is)
      (subst (λ (ts : List (Task (StreamSource S) (StreamElement K) I O L giver taker i o)). KeepFiles (all_tasks run) (is.tasks.items ++ ts)) (sym removed_is) kept.files))
      mid ends (subst (λ (ms : List Made). PutBack (GivesBack ms last rest) left mid) (made_is ∙ line) back)
      (subst (λ (ms : List Made). PutBack (GivesBack ms removed []) mid ends) (other_is ∙ line)
      (subst (λ (none : List (Option (StreamElement K))). PutBack (GivesBack other removed none) mid ends) nothing_is aside))
