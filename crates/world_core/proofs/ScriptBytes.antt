-- What the files of a run of a script hold behind it, by the ends and the lengths that its tasks give back.
use Rattle.std.proofs.Common.{◌≡◌, ◌≢◌, ◌⊎◌, ◌++◌, ℕ, List, [], Option, None, Some, length, map, refl, sym, ap, ◌∙◌, subst, inl, inr, arith}
use Rattle.std.specs.Prelude.{slice_get}
use Rattle.std.specs.Option.{ForSome, option_map}
use Rattle.std.proofs.lemmas.Option.{slice_get_within}
use Rattle.el_set.specs.Gives.{source_file}
use Rattle.el_set.specs.Made.{keeps_flushed}
use Rattle.el_settings.specs.Asked.{reads, writes}
use Rattle.flow_model.specs.Account.{IsMember}
use Rattle.flow_model.specs.SinkBytes.{sink_bytes}
use Rattle.flow_model.specs.declared.element.TaskElement as elements
use Rattle.flow_model.specs.declared.source.TaskSource as givers
use Rattle.flow_model.proofs.Items.{get_member}
use Rattle.gst_outside.specs.Seen.{Seen}
use Rattle.gst_outside.specs.declared.sink.Sink as sinks
use Rattle.gst_outside.specs.declared.source.Source as sources
use Rattle.gst_value.proofs.Basics.{none_some, some_same}
use Rattle.gst_value.proofs.Places.{map_get}
use Rattle.graph_core.specs.Elements.{Made}
use Rattle.graph_core.specs.Graph.{made as made_in, links as links_in}
use Rattle.graph_core.specs.declared.graph.Graph.{Graph}
use Rattle.graph_edits.specs.Edited.{Edited}
use Rattle.graph_edits.specs.Graph.{made as made_of}
use Rattle.graph_edits.specs.declared.graph.EditedGraph.{EditedGraph}
use Rattle.graph_parts.specs.Back.{Gives, GivesBack, HasElement, HasPart, HasSource, Wrote}
use Rattle.graph_parts.specs.Files.{opening_of}
use Rattle.graph_parts.specs.Put.{Among, PutBack}
use Rattle.graph_parts.proofs.OwnFiles.{writer}
use Rattle.graph_tasks.specs.Tasks.{IsOf}
use Rattle.graph_tasks.specs.Wired.{number_in, part_numbers}
use Rattle.graph_tasks.specs.Written.{AreStreams}
use Rattle.graph_tasks.specs.declared.wired_task.WiredTask.{WiredTask}
use Rattle.lane_core.specs.declared.ends.Inlet as inlets
use Rattle.lane_core.specs.declared.ends.Outlet as outlets
use Rattle.net_task.specs.declared.task.Task.{Task}
use Rattle.run_files.specs.Ends.{Known, known_end, known_ends}
use Rattle.run_files.specs.declared.end.End.{End}
use Rattle.run_files.specs.declared.end.End.TheVariants.{Snk}
use Rattle.run_files.specs.declared.end.Opening.{Opening}
use Rattle.run_files.specs.declared.end.Opening.TheVariants.{Read, Write}
use Rattle.script_text.specs.declared.command.Command.{Command}
use Rattle.task_elements.specs.Stands.{file_in, len_in}
use Rattle.task_elements.specs.declared.element.StreamElement.{StreamElement}
use Rattle.task_elements.specs.declared.source.StreamSource.{StreamSource}
use Rattle.task_parts.specs.declared.fault.TaskFault.{TaskFault}
use Rattle.task_parts.specs.declared.fault.TaskFault.TheVariants.{OutOfMemory}
use Rattle.edit_acts.specs.Evaluated.{OweInOrder, RunsAreEvaluated as HistoriesAreEvaluated}
use Rattle.edit_acts.specs.Files.{HoldsFile, Holder}
use Rattle.edit_acts.proofs.Files.{one_first, one_second}
use Rattle.world_core.specs.Begins.{line_graph}
use Rattle.world_core.specs.Evaluated.{IsRunAt, IsWrittenBy}
use Rattle.world_core.specs.Ran.{KnownHold}
use Rattle.world_core.specs.Running.{KeepsElements}
use Rattle.world_core.specs.Scripts.{ScriptBegins}
use Rattle.world_core.specs.declared.running.Running.{Running}
use Rattle.world_core.proofs.Counted.{lengths_by}
use Rattle.world_core.proofs.Members.{flat_member, without_gone}
use Rattle.world_core.proofs.Opened.{sink_at}
use Rattle.world_core.proofs.Returned.{asked_at, no_read, written_here}
use Rattle.world_core.proofs.ScriptFiles.{aside_at, back_at, last_file, part_holds, put_twice, removed_file, same_framed, was_held, written}
use Rattle.world_core.proofs.ScriptHeld.{came, is_written, IsWritten}
use Rattle.world_core.proofs.ScriptTold.{FilesTold}
use Rattle.world_core.proofs.ShortFiles.{HoldsShort}
use Rattle.world_core.proofs.Traced.{PartAt, taken_from}

module _ {S K I O L : Type 0} {giver : givers.Ghosts (StreamSource S)} {taker : elements.Ghosts (StreamElement K)} {i : inlets.Ghosts I L O} {o : outlets.Ghosts O L}
    (s : sources.Ghosts S) (k : sinks.Ghosts K) (taken : (x : StreamElement K) → taker.file x ≡ option_map k.location (file_in x))
    (given : (x : StreamSource S) → giver.file x ≡ option_map s.location (source_file x.source)) (graph : Graph) (script : List Command)
    (first : Running (StreamSource S) (StreamElement K) I O L giver taker i o) (rest : List (Option (StreamElement K))) (left : List (Option (End S K))) (before : Seen)
    (begins : ScriptBegins s k graph script first rest left before) (last : Running (StreamSource S) (StreamElement K) I O L giver taker i o) (kept : KeepsElements first last)
    (streams : AreStreams k taker) (law : HistoriesAreEvaluated giver taker i o) (contents : ℕ → List ℕ) (met : Option TaskFault) (w : IsRunAt contents script (line_graph graph) met last)
    (memory : met ≢ Some OutOfMemory) (mid ends : List (Option (End S K))) (back : PutBack (GivesBack (made_in graph) last.tasks.items rest) left mid)
    (aside : PutBack (GivesBack (made_in graph) last.removed.items []) mid ends) (zeros some lengths : List ℕ) (count : length zeros ≡ length (made_in graph))
    (one : PutBack (Wrote last.tasks.items rest) zeros some) (other : PutBack (Wrote last.removed.items []) some lengths) where
  abbrev g : Edited
  g = w.of.scripted.g

  line : g.made ≡ made_in graph
  line = sym w.of.scripted.has.current.edited.elements ∙ ap (λ (edited : EditedGraph). made_of edited) (sym w.graph) ∙ kept.made_of ∙ begins.edited.elements

  -- an element that writes a location
  module _ (d : ℕ) (m : Made) (location : List ℕ) (here : slice_get (made_in graph) d ≡ Some m) (opens : opening_of m.settings ≡ Some (Write location)) where
    here_now : slice_get g.made d ≡ Some m
    here_now = ap (λ (made : List Made). slice_get made d) line ∙ here

    abbrev IsHere : StreamElement K → Type 0
    IsHere x = Among HasPart last.tasks.items d x ⊎ Among HasPart last.removed.items d x

    its_file : (x : StreamElement K) → IsHere x → (file : K) × (file_in x ≡ Some file)
    its_file x (inl has) =
        let z =
        written s k taken given graph script first rest left before begins last.tasks.items last.removed.items kept.files mid ends back aside d m location here (writer m.settings location opens)
        (sink_at s k (made_in graph) begins.ends before begins.opened begins.opens d m location here opens) x
        (last_file s k taken given graph script first rest left before begins last.tasks.items last.removed.items kept.files d m x here (inl has)) in
        (z.0, z.1)
    its_file x (inr has) =
        let z =
        written s k taken given graph script first rest left before begins last.tasks.items last.removed.items kept.files mid ends back aside d m location here (writer m.settings location opens)
        (sink_at s k (made_in graph) begins.ends before begins.opened begins.opens d m location here opens) x
        (removed_file s k taken given graph script first rest left before begins last.tasks.items last.removed.items kept.files d m x here (inl has)) in
        (z.0, z.1)

    its_bytes : IsWritten k streams law contents script (line_graph graph) met last w memory d m location here_now (writer m.settings location opens) (slice_get_within g.made d m here_now)
    its_bytes =
        is_written k streams law contents script (line_graph graph) met last w memory d m location here_now (writer m.settings location opens) (slice_get_within g.made d m here_now) its_file

    -- none of the elements that no task took is one of the number
    no_rest : (x : StreamElement K) → slice_get rest d ≡ Some (Some x) → ⊥
    no_rest x is = without_gone (part_numbers begins.wired) begins.elements_in d x (member held) (subst (λ (xs : List (Option (StreamElement K))). IsOf xs d x) begins.rest_is is)
      where
        held : HoldsFile first.tasks.items (Holder.element d) (taker.file its_bytes.some.0)
        held = was_held s k taken given graph script first rest left before begins last.tasks.items last.removed.items kept.files (Holder.element d) (taker.file its_bytes.some.0) (by its_bytes.some.1)
          where
            by : IsHere its_bytes.some.0 → HoldsFile (last.tasks.items ++ last.removed.items) (Holder.element d) (taker.file its_bytes.some.0)
            by (inl has) = one_first _ last.tasks.items last.removed.items (part_holds last.tasks.items d its_bytes.some.0 has)
            by (inr has) = one_second _ last.tasks.items last.removed.items (part_holds last.removed.items d its_bytes.some.0 has)

        member : HoldsFile first.tasks.items (Holder.element d) (taker.file its_bytes.some.0) → IsMember d (part_numbers begins.wired)
        member h =
            let own : PartAt first.tasks.items h.place h.is_so.place d = record { task = h.thing; at = h.at; part = h.is_so.thing; inner = h.is_so.at; number = h.is_so.is_so.0 } in
            let from =
            taken_from i o (made_in graph) (links_in graph) begins.elements_in begins.sources_in begins.bags first.tasks.items first.tasks.items begins.table begins.wired begins.tasks_are begins.wired_are
            (same_framed first.tasks.items) refl h.place h.is_so.place d own in
            flat_member (λ (task : WiredTask I O). map number_in task.parts.items) begins.wired h.place from.plan d from.at
            (get_member (map number_in from.plan.parts.items) h.is_so.place d from.numbered)

    of_last : (x : StreamElement K) → HasElement last.tasks.items rest d x → IsHere x
    of_last x (inl has) = inl has
    of_last x (inr is) = absurd (no_rest x is)

    of_removed : (x : StreamElement K) → HasElement last.removed.items [] d x → IsHere x
    of_removed x (inl has) = inr has
    of_removed x (inr is) = absurd (let low = slice_get_within [] d (Some x) is in omega (arith, low))

    -- ---- the end

    abbrev IsEnd : Option (End S K) → Type 0
    IsEnd end = (x : StreamElement K) × IsHere x × (file : K) × (file_in x ≡ Some file) × (end ≡ Some (Snk file))

    its_end : (Reading : ℕ → StreamSource S → Type 0) (Has : ℕ → StreamElement K → Type 0) → ((x : StreamElement K) → Has d x → IsHere x) → (end : Option (End S K)) → Gives (made_in graph) Reading Has d end → IsEnd end
    its_end Reading Has so end (Gives.by_source source of gives) =
        absurd (no_read (made_in graph) d source end (asked_at reads (made_in graph) d m here ∙ (writer m.settings location opens).no_reading) gives)
    its_end Reading Has so end (Gives.by_element x of gives) =
        let file = its_file x (so x of) in
        let is = written_here (made_in graph) d x file.0 (asked_at writes (made_in graph) d m here ∙ (writer m.settings location opens).writing) file.1 in
        (x, so x of, file.0, file.1, some_same (sym gives ∙ is))

    gives_end : (Reading : ℕ → StreamSource S → Type 0) (Has : ℕ → StreamElement K → Type 0) (x : StreamElement K) → Has d x → IsHere x → (end : Option (End S K)) × Gives (made_in graph) Reading Has d end
    gives_end Reading Has x of has =
        let file = its_file x has in
        (Some (Snk file.0), Gives.by_element x of (written_here (made_in graph) d x file.0 (asked_at writes (made_in graph) d m here ∙ (writer m.settings location opens).writing) file.1))

    end_there : (end : Option (End S K)) × (GivesBack (made_in graph) last.tasks.items rest d end ⊎ GivesBack (made_in graph) last.removed.items [] d end)
    end_there = by its_bytes.some.0 its_bytes.some.1
      where
        by : (x : StreamElement K) → IsHere x → (end : Option (End S K)) × (GivesBack (made_in graph) last.tasks.items rest d end ⊎ GivesBack (made_in graph) last.removed.items [] d end)
        by x (inl has) = let end = gives_end (HasSource last.tasks.items) (HasElement last.tasks.items rest) x (inl has) (inl has) in (end.0, inl end.1)
        by x (inr has) = let end = gives_end (HasSource last.removed.items) (HasElement last.removed.items []) x (inl has) (inr has) in (end.0, inr end.1)

    end_put : (end : Option (End S K)) × (slice_get ends d ≡ Some end) × IsEnd end
    end_put =
        put_twice IsEnd (GivesBack (made_in graph) last.tasks.items rest) (GivesBack (made_in graph) last.removed.items []) left mid ends d
        (its_end (HasSource last.tasks.items) (HasElement last.tasks.items rest) of_last)
        (its_end (HasSource last.removed.items) (HasElement last.removed.items []) of_removed) end_there
        (back_at s k taken given graph script first rest left before begins last.tasks.items last.removed.items kept.files mid ends back aside d m here)
        (aside_at s k taken given graph script first rest left before begins last.tasks.items last.removed.items kept.files mid ends back aside d m here)

    -- ---- the length

    abbrev IsLength : ℕ → Type 0
    IsLength n = (x : StreamElement K) × IsHere x × (len_in x ≡ Some n)

    length_there : (n : ℕ) × (Wrote last.tasks.items rest d n ⊎ Wrote last.removed.items [] d n)
    length_there = by its_bytes.some.0 its_bytes.some.1
      where
        by : (x : StreamElement K) → IsHere x → (n : ℕ) × (Wrote last.tasks.items rest d n ⊎ Wrote last.removed.items [] d n)
        by x (inl has) = let file = its_file x (inl has) in (length its_bytes.bytes, inl (record { element = x; inside = inl has; told = (its_bytes.holds x (inl has) file.0 file.1).size }))
        by x (inr has) = let file = its_file x (inr has) in (length its_bytes.bytes, inr (record { element = x; inside = inl has; told = (its_bytes.holds x (inr has) file.0 file.1).size }))

    length_put : (n : ℕ) × (slice_get lengths d ≡ Some n) × IsLength n
    length_put =
        put_twice IsLength (Wrote last.tasks.items rest) (Wrote last.removed.items []) zeros some lengths d (λ n has. (has.element, of_last has.element has.inside, has.told))
        (λ n has. (has.element, of_removed has.element has.inside, has.told)) length_there
        (one.each d (let low = slice_get_within (made_in graph) d m here in omega (arith, low, count)))
        (other.each d (let low = slice_get_within (made_in graph) d m here in let put = one.count in omega (arith, low, count, put)))

  -- ---- the bytes of a number, which are none where it writes no file

  pub record FileOf (d : ℕ) : Type 0 where
    pub bytes : List ℕ
    pub known : (m : Made) (location : List ℕ) → slice_get (made_in graph) d ≡ Some m → opening_of m.settings ≡ Some (Write location)
        → (end : Known) × (slice_get (known_ends s k ends) d ≡ Some (Some end)) × ForSome end.bytes (λ file. file ≡ bytes)
    pub size : (m : Made) (location : List ℕ) → slice_get (made_in graph) d ≡ Some m → opening_of m.settings ≡ Some (Write location) → slice_get lengths d ≡ Some (length bytes)
    pub so : ((m : Made) → slice_get (made_in graph) d ≡ Some m → bytes ≡ sink_bytes (keeps_flushed m.settings) (came k streams law contents script (line_graph graph) met last w memory d))
        ⊎ HoldsShort g w.of.scripted.m.history w.of.scripted.due met d bytes

  -- all that came to an element, written by its settings
  abbrev all_of : ℕ → Made → List ℕ
  all_of d m = sink_bytes (keeps_flushed m.settings) (came k streams law contents script (line_graph graph) met last w memory d)

  -- a number at which no file is written
  without : (d : ℕ) (found : Option Made) (bytes : List ℕ) → slice_get (made_in graph) d ≡ found → ((m : Made) (location : List ℕ) → found ≡ Some m → opening_of m.settings ≡ Some (Write location) → ⊥)
      → ((m : Made) → found ≡ Some m → bytes ≡ all_of d m) → FileOf d
  without d found bytes at none is = record {
    bytes = bytes;
    known = λ m location here opens. absurd (none m location (sym at ∙ here) opens);
    size = λ m location here opens. absurd (none m location (sym at ∙ here) opens);
    so = inl (λ m here. is m (sym at ∙ here));
  }

  without_file : (d : ℕ) (m : Made) → slice_get (made_in graph) d ≡ Some m → ((location : List ℕ) → opening_of m.settings ≡ Some (Write location) → ⊥) → FileOf d
  without_file d m here never =
      without d (Some m) (all_of d m) here (λ n location same is. never location (ap (λ (x : Made). opening_of x.settings) (some_same same) ∙ is)) (λ n same. ap (λ (x : Made). all_of d x) (some_same same))

  with_file : (d : ℕ) (m : Made) (location : List ℕ) → slice_get (made_in graph) d ≡ Some m → opening_of m.settings ≡ Some (Write location) → FileOf d
  with_file d m location here opens =
      let held = its_bytes d m location here opens in
      let end = end_put d m location here opens in
      let own = end.2 in
      let long = length_put d m location here opens in
      let file = its_file d m location here opens long.2.0 long.2.1 in
      record {
        bytes = held.bytes;
        known = λ n other at is. (
          known_end s k (Snk own.2),
          map_get (option_map (known_end s k)) ends d (Some (Snk own.2)) (end.1 ∙ ap (λ (x : Option (End S K)). Some x) own.4),
          (held.holds own.0 own.1 own.2 own.3).told,
        );
        size = λ n other at is. long.1 ∙ (ap Some (some_same (sym long.2.2 ∙ (held.holds long.2.0 long.2.1 file.0 file.1).size)));
        so = so held.so;
      }
    where
      so : ((its_bytes d m location here opens).bytes ≡ all_of d m) ⊎ HoldsShort g w.of.scripted.m.history w.of.scripted.due met d (its_bytes d m location here opens).bytes
          → ((n : Made) → slice_get (made_in graph) d ≡ Some n → (its_bytes d m location here opens).bytes ≡ all_of d n)
          ⊎ HoldsShort g w.of.scripted.m.history w.of.scripted.due met d (its_bytes d m location here opens).bytes
      so (inl is) = inl (λ n at. is ∙ ap (λ (x : Made). all_of d x) (some_same (sym here ∙ at)))
      so (inr short) = inr short

  pub file_of : (d : ℕ) → FileOf d
  file_of d = by (slice_get (made_in graph) d) refl
    where
      by_opening : (m : Made) → slice_get (made_in graph) d ≡ Some m → (found : Option Opening) → opening_of m.settings ≡ found → FileOf d
      by_opening m here (Some (Write location)) opens = with_file d m location here opens
      by_opening m here (Some (Read place)) opens = without_file d m here (λ location is. let same = some_same (sym opens ∙ is) in cc)
      by_opening m here None opens = without_file d m here (λ location is. none_some (sym opens ∙ is))

      by : (found : Option Made) → slice_get (made_in graph) d ≡ found → FileOf d
      by None at = without d None [] at (λ m location is opens. none_some is) (λ m is. absurd (none_some is))
      by (Some m) at = by_opening m at (opening_of m.settings) refl

  -- so the lengths and the ends are told by the bytes of all numbers
  abbrev bytes_of : ℕ → List ℕ
  bytes_of d = (file_of d).bytes

  now_here : (d : ℕ) (m : Made) → slice_get g.made d ≡ Some m → slice_get (made_in graph) d ≡ Some m
  now_here d m at = ap (λ (made : List Made). slice_get made d) (sym line) ∙ at

  pub files_are : (owes : OweInOrder taker) → FilesTold law owes contents script graph met last w lengths (KnownHold graph (known_ends s k ends))
  files_are owes = record {
    bytes = bytes_of;
    sinks = lengths_by g.made lengths bytes_of (λ d location opens. (file_of d).size opens.element location (now_here d opens.element opens.at) opens.opens);
    files = λ d m location at opens. (file_of d).known m location at opens;
    written = λ d. by d (file_of d).so;
  }
    where
      by : (d : ℕ) → ((m : Made) → slice_get (made_in graph) d ≡ Some m → bytes_of d ≡ all_of d m)
          ⊎ HoldsShort g w.of.scripted.m.history w.of.scripted.due met d (bytes_of d)
          → IsWrittenBy g w.of.scripted.m.history bytes_of d ⊎ HoldsShort g w.of.scripted.m.history w.of.scripted.due met d (bytes_of d)
      by d (inl is) = inl (λ m at writing. is m (now_here d m at))
      by d (inr short) = inr short

module _ {S K I O L : Type 0} {giver : givers.Ghosts (StreamSource S)} {taker : elements.Ghosts (StreamElement K)} {i : inlets.Ghosts I L O} {o : outlets.Ghosts O L}
    (s : sources.Ghosts S) (k : sinks.Ghosts K) (taken : (x : StreamElement K) → taker.file x ≡ option_map k.location (file_in x))
    (given : (x : StreamSource S) → giver.file x ≡ option_map s.location (source_file x.source)) (graph : Graph) (script : List Command)
    (first : Running (StreamSource S) (StreamElement K) I O L giver taker i o) (rest : List (Option (StreamElement K))) (left : List (Option (End S K))) (before : Seen)
    (begins : ScriptBegins s k graph script first rest left before) (is : Running (StreamSource S) (StreamElement K) I O L giver taker i o) (kept : KeepsElements first is)
    (streams : AreStreams k taker) (law : HistoriesAreEvaluated giver taker i o) (contents : ℕ → List ℕ) (owes : OweInOrder taker) where
  -- so it is of a run that gave back its elements, and those that it set aside
  pub files_so : (last removed : List (Task (StreamSource S) (StreamElement K) I O L giver taker i o)) → last ≡ is.tasks.items → removed ≡ is.removed.items → (made other : List Made) → made ≡ made_of is.graph
      → other ≡ made_of is.graph → (nothing : List (Option (StreamElement K))) → nothing ≡ [] → (mid ends : List (Option (End S K))) → PutBack (GivesBack made last rest) left mid
      → PutBack (GivesBack other removed nothing) mid ends → (zeros some lengths : List ℕ) → length zeros ≡ length (made_in graph) → PutBack (Wrote last rest) zeros some → PutBack (Wrote removed nothing) some lengths
      → (met : Option TaskFault) (w : IsRunAt contents script (line_graph graph) met is) → met ≢ Some OutOfMemory → FilesTold law owes contents script graph met is w lengths (KnownHold graph (known_ends s k ends))
  files_so last removed last_is removed_is made other made_is other_is nothing nothing_is mid ends back aside zeros some lengths size one two met w memory =
      let line : made_of is.graph ≡ made_in graph = kept.made_of ∙ begins.edited.elements in
      files_are s k taken given graph script first rest left before begins is kept streams law contents met w memory mid ends
      (subst (λ (ts : List (Task (StreamSource S) (StreamElement K) I O L giver taker i o)). PutBack (GivesBack (made_in graph) ts rest) left mid) last_is
      (subst (λ (ms : List Made). PutBack (GivesBack ms last rest) left mid) (made_is ∙ line) back))
      (subst (λ (ts : List (Task (StreamSource S) (StreamElement K) I O L giver taker i o)). PutBack (GivesBack (made_in graph) ts []) mid ends) removed_is
      (subst (λ (ms : List Made). PutBack (GivesBack ms removed []) mid ends) (other_is ∙ line)
      (subst (λ (none : List (Option (StreamElement K))). PutBack (GivesBack other removed none) mid ends) nothing_is aside)))
      zeros some lengths size (subst (λ (ts : List (Task (StreamSource S) (StreamElement K) I O L giver taker i o)). PutBack (Wrote ts rest) zeros some) last_is one)
      (subst (λ (ts : List (Task (StreamSource S) (StreamElement K) I O L giver taker i o)). PutBack (Wrote ts []) some lengths) removed_is
      (subst (λ (none : List (Option (StreamElement K))). PutBack (Wrote removed none) some lengths) nothing_is two))
      owes
