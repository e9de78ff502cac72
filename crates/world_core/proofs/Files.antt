-- The tasks of a run that stopped have the elements of its graph, and these the files that were opened for them.
use Rattle.std.proofs.Common.{◌≡◌, ◌⊎◌, ℕ, true, false, List, Option, None, Some, length, map, refl, sym, ap, ◌∙◌, subst, inl, inr, arith}
use Rattle.std.specs.Prelude.{slice_get}
use Rattle.std.specs.Option.{option_map}
use Rattle.std.proofs.lemmas.List.{length-map}
use Rattle.std.proofs.lemmas.Option.{slice_get_within}
use Rattle.el_set.specs.Gives.{source_file}
use Rattle.el_set.specs.Made.{file_for, read_for}
use Rattle.flow_model.specs.declared.element.TaskElement as elements
use Rattle.flow_model.specs.declared.source.TaskSource as givers
use Rattle.flow_model.specs.Account.{IsMember}
use Rattle.el_settings.specs.Asked.{is_source}
use Rattle.graph_core.specs.Elements.{Made}
use Rattle.graph_core.specs.Graph.{made as made_in, links as links_in}
use Rattle.graph_core.specs.declared.graph.Graph.{Graph}
use Rattle.graph_tasks.specs.Frames.{HaveBags}
use Rattle.graph_parts.specs.Back.{GivesBack, HasElement, HasHead, HasPart, HasSource, IsHead, Wrote}
use Rattle.graph_parts.specs.Ends.{at, left_by, sink_end, source_end}
use Rattle.graph_parts.specs.Files.{AreLocated, OpensAt}
use Rattle.graph_parts.specs.Put.{Among, IsPutAt, PutBack}
use Rattle.graph_parts.specs.declared.counts.Count.{Count}
use Rattle.graph_tasks.specs.Tasks.{IsOf}
use Rattle.graph_tasks.specs.Wired.{number_in, part_numbers}
use Rattle.graph_tasks.specs.declared.wired_task.WiredTask.{WiredTask}
use Rattle.graph_tasks.proofs.Takes.{one_of, without_stays, without_stood}
use Rattle.gst_outside.specs.Seen.{Seen}
use Rattle.gst_outside.specs.declared.sink.Sink as sinks
use Rattle.gst_outside.specs.declared.source.Source as sources
use Rattle.lane_core.specs.Lane.{Lane}
use Rattle.lane_core.specs.declared.ends.Inlet as inlets
use Rattle.lane_core.specs.declared.ends.Outlet as outlets
use Rattle.net_task.specs.declared.task.Task.{Task}
use Rattle.run_files.specs.Ends.{known_end, known_ends}
use Rattle.run_files.specs.declared.end.End.{End}
use Rattle.run_files.specs.declared.end.End.TheVariants.{Src, Snk}
use Rattle.run_files.specs.declared.end.Opening.TheVariants.{Read, Write}
use Rattle.task_elements.specs.Stands.{file_in, len_in}
use Rattle.task_elements.specs.declared.element.StreamElement.{StreamElement}
use Rattle.task_elements.specs.declared.source.StreamSource.{StreamSource}
use Rattle.task_parts.specs.declared.head.Head.{Head}
use Rattle.task_parts.specs.declared.head.Head.TheVariants.{Source, Inlets}
use Rattle.task_parts.specs.declared.head.SourceHead.{SourceHead}
use Rattle.task_parts.specs.declared.part.Part.{Part}
use Rattle.world_core.specs.Prepared.{HasRoom}
use Rattle.world_core.specs.Stopped.{HasRun}
use Rattle.graph_tasks.proofs.Bagged.{tasks_have, tasks_keep}
use Rattle.graph_parts.proofs.OwnFiles.{reader, writer}
use Rattle.world_core.proofs.Headed.{GivenFrom, HeadAt, given_from, head_there, one_head}
use Rattle.world_core.proofs.Members.{flat_member, mapped, member_or, without_gone}
use Rattle.world_core.proofs.Opened.{element_made, element_writes, end_count, got_end, known, none_at, sink_at, source_at, source_reads}
use Rattle.world_core.proofs.Returned.{has_length, put_length, put_none, put_sink, put_source}
use Rattle.world_core.proofs.Traced.{PartAt, TakenFrom, one_part, part_there, taken_from}
use Rattle.el_set.proofs.Openings.{read_own, written_own}
use Rattle.flow_model.proofs.Items.{get_member}
use Rattle.gst_value.proofs.Places.{found_at as got_within, map_get as get_map}

module _ {S K I O L : Type 0} {giver : givers.Ghosts (StreamSource S)} {taker : elements.Ghosts (StreamElement K)}
    {i : inlets.Ghosts I L O} {o : outlets.Ghosts O L}
    (s : sources.Ghosts S) (k : sinks.Ghosts K) (graph : Graph) (first last : List (Task (StreamSource S) (StreamElement K) I O L giver taker i o))
    (rest : List (Option (StreamElement K))) (left : List (Option (End S K))) (tells : Option (List Lane)) (before : Seen)
    (run : HasRun s k graph first last rest left tells before) where
  -- there is a task for each bag, where the run began and where it stopped
  pub first_bags : HaveBags (made_in graph) (links_in graph) run.started.bags first
  first_bags =
      tasks_have i o (made_in graph) (links_in graph) run.started.elements_in run.started.sources_in run.started.bags first run.started.table
      run.started.tasks_are

  pub have_bags : HaveBags (made_in graph) (links_in graph) run.started.bags last
  have_bags = tasks_keep i o (made_in graph) (links_in graph) run.started.bags first last first_bags run.count run.framed

  -- an element of the tasks stands at a place, and so does a source
  abbrev part_at : (d : ℕ) (x : StreamElement K) (own : Among HasPart last d x) → PartAt last own.place own.inside.place d
  part_at d x own = record { task = own.one; at = own.at; part = own.inside.one; inner = own.inside.at; number = own.inside.inside.0 }

  head_at : (e : ℕ) (x : StreamSource S) (own : Among HasHead last e x) → (is : HeadAt last own.place e) × (is.own.source ≡ x)
  head_at e x own = by own.one.head refl own.inside
    where
      by : (head : Head (StreamSource S) I O giver) → own.one.head ≡ head → IsHead head e x → (is : HeadAt last own.place e) × (is.own.source ≡ x)
      by (Source head) at is = (record { task = own.one; at = own.at; own = head; is = at; number = is.0 }, is.1)
      by (Inlets head) at is = absurd is

  part_from : (a j d : ℕ) (own : PartAt last a j d) → TakenFrom taker run.started.elements_in run.started.wired a j d own.part.element
  part_from =
      taken_from i o (made_in graph) (links_in graph) run.started.elements_in run.started.sources_in run.started.bags first last run.started.table
      run.started.wired run.started.tasks_are run.started.wired_are run.framed run.count

  head_from : (a e : ℕ) (own : HeadAt last a e) → GivenFrom giver run.started.sources_in run.started.wired a e own.own.source
  head_from =
      given_from i o (made_in graph) (links_in graph) run.started.elements_in run.started.sources_in run.started.bags first last run.started.table
      run.started.wired run.started.tasks_are run.started.wired_are run.framed run.count

  -- an element of the rest is of no task
  rest_stood : (d : ℕ) (x : StreamElement K) → slice_get rest d ≡ Some (Some x) → IsOf run.started.elements_in d x
  rest_stood d x is =
      without_stood (part_numbers run.started.wired) run.started.elements_in d x
      (subst (λ (xs : List (Option (StreamElement K))). IsOf xs d x) run.started.rest_is is)

  rest_apart : (d : ℕ) (x y : StreamElement K) → Among HasPart last d x → slice_get rest d ≡ Some (Some y) → ⊥
  rest_apart d x y own is =
      let from = part_from own.place own.inside.place d (part_at d x own) in
      let among = get_member (map number_in from.plan.parts.items) own.inside.place d from.numbered in
      without_gone (part_numbers run.started.wired) run.started.elements_in d y
      (flat_member (λ (task : WiredTask I O). map number_in task.parts.items) run.started.wired own.place from.plan d from.at among)
      (subst (λ (xs : List (Option (StreamElement K))). IsOf xs d y) run.started.rest_is is)

  -- an element is as it was, but for what its file holds
  origin : (d : ℕ) (x : StreamElement K) → HasElement last rest d x
      → (was : StreamElement K) × IsOf run.started.elements_in d was × (taker.file x ≡ taker.file was)
  origin d x (inl own) =
      let from = part_from own.place own.inside.place d (part_at d x own) in
      (from.was, from.stood, sym (ap taker.file own.inside.inside.1) ∙ from.same_file)
  origin d x (inr is) = (x, rest_stood d x is, refl)

  source_origin : (e : ℕ) (x : StreamSource S) → HasSource last e x
      → (was : StreamSource S) × IsOf run.started.sources_in e was × (giver.file x ≡ giver.file was)
  source_origin e x own =
      let head = head_at e x own in
      let from = head_from own.place e head.0 in
      (from.was, from.stood, sym (ap giver.file head.1) ∙ from.same_file)

  -- an element is one, and so is a source
  pub one_element : (d : ℕ) (x y : StreamElement K) → HasElement last rest d x → HasElement last rest d y → x ≡ y
  one_element d x y (inl a) (inl b) =
      sym a.inside.inside.1
      ∙ ap (λ (part : Part (StreamElement K) O taker). part.element)
      (one_part i o (made_in graph) (links_in graph) run.started.elements_in run.started.sources_in run.started.bags first last run.started.table
      run.started.wired run.started.tasks_are run.started.wired_are run.framed run.count run.started.wired_are.parts_once
      a.place a.inside.place b.place b.inside.place d (part_at d x a) (part_at d y b))
      ∙ b.inside.inside.1
  one_element d x y (inl a) (inr b) = absurd (rest_apart d x y a b)
  one_element d x y (inr a) (inl b) = absurd (rest_apart d y x b a)
  one_element d x y (inr a) (inr b) = one_of rest d x y a b

  pub one_source : (e : ℕ) (x y : StreamSource S) → HasSource last e x → HasSource last e y → x ≡ y
  one_source e x y a b =
      let own = head_at e x a in
      let other = head_at e y b in
      sym own.1
      ∙ ap (λ (head : SourceHead (StreamSource S) O giver). head.source)
      (one_head i o (made_in graph) (links_in graph) run.started.elements_in run.started.sources_in run.started.bags first last run.started.table
      run.started.wired run.started.tasks_are run.started.wired_are run.framed run.count run.started.wired_are.sources_once a.place b.place e own.0 other.0)
      ∙ other.1

  -- each element with a sink pad is there, and each source
  pub element_there : (d : ℕ) (m : Made) → slice_get (made_in graph) d ≡ Some m → is_source m.settings ≡ false
      → (x : StreamElement K) × HasElement last rest d x
  element_there d m here pads = by (member_or (part_numbers run.started.wired) d)
    where
      by : IsMember d (part_numbers run.started.wired) ⊎ (IsMember d (part_numbers run.started.wired) → ⊥) → (x : StreamElement K) × HasElement last rest d x
      by (inl among) =
          let there =
          part_there i o (made_in graph) (links_in graph) run.started.elements_in run.started.sources_in run.started.bags first last run.started.table
          run.started.wired run.started.tasks_are run.started.wired_are run.framed run.count d among in
          let own = there.2 in
          let inside : HasPart own.task d own.part.element = record { place = there.1; one = own.part; at = own.inner; inside = (own.number, refl) } in
          (own.part.element, inl (record { place = there.0; one = own.task; at = own.at; inside = inside }))
      by (inr none) =
          let x =
          element_made s k (made_in graph) run.started.ends before run.started.opened run.started.opens run.started.elements_in run.started.sources_in left
          run.started.filled d m here pads in (
            x.0,
            inr
                (subst (λ (xs : List (Option (StreamElement K))). IsOf xs d x.0) (sym run.started.rest_is)
                (without_stays (part_numbers run.started.wired) run.started.elements_in d x.0 none x.1)),
          )

  pub source_there : (e : ℕ) (m : Made) → slice_get (made_in graph) e ≡ Some m → is_source m.settings ≡ true
      → (x : StreamSource S) × HasSource last e x
  source_there e m here pads =
      let there =
      head_there i o (made_in graph) (links_in graph) run.started.elements_in run.started.sources_in run.started.bags first last run.started.table
      run.started.wired run.started.tasks_are run.started.wired_are run.framed run.count run.started.bags_are.are e m here pads in
      let own = there.1 in
      let inside : HasHead own.task e own.own.source =
      subst (λ (head : Head (StreamSource S) I O giver). IsHead head e own.own.source) (sym own.is) (own.number, refl) in
      (own.own.source, record { place = there.0; one = own.task; at = own.at; inside = inside })

  module _ (taken : (x : StreamElement K) → taker.file x ≡ option_map k.location (file_in x)) where
    -- the file of an element is where that is which was opened for it
    pub element_file : (d : ℕ) (m : Made) (x : StreamElement K) → slice_get (made_in graph) d ≡ Some m → HasElement last rest d x
        → option_map k.location (file_in x) ≡ option_map k.location (file_for m.settings (sink_end (at run.started.ends d)))
    element_file d m x here has =
        let was = origin d x has in
        sym (taken x) ∙ was.2 ∙ taken was.0
        ∙ ap (option_map k.location)
        (element_writes s k (made_in graph) run.started.ends before run.started.opened run.started.opens run.started.elements_in run.started.sources_in left
        run.started.filled d m was.0 here was.1)

    pub written_file : (d : ℕ) (location : List ℕ) (x : StreamElement K) → OpensAt (made_in graph) d (Write location) → HasElement last rest d x
        → (file : K) × (file_in x ≡ Some file) × (k.location file ≡ Some location)
    written_file d location x opens has =
        let file = sink_at s k (made_in graph) run.started.ends before run.started.opened run.started.opens d opens.element location opens.at opens.opens in
        let own = writer opens.element.settings location opens.opens in
        let is : option_map k.location (file_in x) ≡ Some (Some location) =
        element_file d opens.element x opens.at has
        ∙ ap (option_map k.location) (written_own opens.element.settings (sink_end (at run.started.ends d)) own.writing)
        ∙ ap (λ (end : Option (End S K)). option_map k.location (sink_end end)) file.1
        ∙ ap (λ (place : Option (List ℕ)). Some place) file.2 in
        mapped k.location (file_in x) (Some location) is

    -- the length of a file that is written is put at the number of its element
    pub length_there : (none : List Count) (zeros lengths : List ℕ) → HasRoom (length (made_in graph)) none zeros → PutBack (Wrote last rest) zeros lengths
        → (d : ℕ) (location : List ℕ) (x : StreamElement K) → OpensAt (made_in graph) d (Write location) → HasElement last rest d x
        → slice_get lengths d ≡ len_in x
    length_there none zeros lengths room wrote d location x opens has =
        let file = written_file d location x opens has in
        let size = has_length x file.0 file.1 in
        let w = slice_get_within (made_in graph) d opens.element opens.at in
        put_length (HasElement last rest) zeros lengths one_element d x size.0 has size.1 (wrote.each d (omega (arith, w, room.lengths_size)))

  module _ (given : (x : StreamSource S) → giver.file x ≡ option_map s.location (source_file x.source)) where
    -- so it is with the file of a source
    pub head_file : (e : ℕ) (m : Made) (x : StreamSource S) → slice_get (made_in graph) e ≡ Some m → HasSource last e x
        → option_map s.location (source_file x.source) ≡ option_map s.location (read_for m.settings (source_end (at run.started.ends e)))
    head_file e m x here has =
        let was = source_origin e x has in
        sym (given x) ∙ was.2 ∙ given was.0
        ∙ ap (option_map s.location)
        (source_reads s k (made_in graph) run.started.ends before run.started.opened run.started.opens run.started.elements_in run.started.sources_in left
        run.started.filled e m was.0 here was.1)

    pub read_file : (e : ℕ) (location : List ℕ) (x : StreamSource S) → OpensAt (made_in graph) e (Read location) → HasSource last e x
        → (file : S) × (source_file x.source ≡ Some file) × (s.location file ≡ Some location)
    read_file e location x opens has =
        let file = source_at s k (made_in graph) run.started.ends before run.started.opened run.started.opens e opens.element location opens.at opens.opens in
        let own = reader opens.element.settings location opens.opens in
        let is : option_map s.location (source_file x.source) ≡ Some (Some location) =
        head_file e opens.element x opens.at has
        ∙ ap (option_map s.location) (read_own opens.element.settings (source_end (at run.started.ends e)) own.reading)
        ∙ ap (λ (end : Option (End S K)). option_map s.location (source_end end)) file.1
        ∙ ap (λ (place : Option (List ℕ)). Some place) file.2 in
        mapped s.location (source_file x.source) (Some location) is

  module _ (taken : (x : StreamElement K) → taker.file x ≡ option_map k.location (file_in x))
      (given : (x : StreamSource S) → giver.file x ≡ option_map s.location (source_file x.source))
      (ends : List (Option (End S K))) (back : PutBack (GivesBack (made_in graph) last rest) left ends) where
    put_at : (d : ℕ) (m : Made) → slice_get (made_in graph) d ≡ Some m → IsPutAt (GivesBack (made_in graph) last rest) left ends d
    put_at d m here =
        let w = slice_get_within (made_in graph) d m here in
        let count = end_count s k (made_in graph) run.started.ends before run.started.opened run.started.opens in
        back.each d (omega (arith, w, count, run.started.filled.end_count))

    -- the end that is given back of a sink is its file, and so is that of a source
    pub known_sink : (d : ℕ) (location : List ℕ) (x : StreamElement K) (file : K) → OpensAt (made_in graph) d (Write location) → HasElement last rest d x
        → file_in x ≡ Some file
        → slice_get (known_ends s k ends) d ≡ Some (Some (known_end s k (Snk file)))
    known_sink d location x file opens has is =
        get_map (option_map (known s k)) ends d (Some (Snk file))
        (put_sink (made_in graph) (HasSource last) (HasElement last rest) left ends one_element one_source d opens.element location x file opens.at
        (writer opens.element.settings location opens.opens) has is (put_at d opens.element opens.at))

    pub known_source : (e : ℕ) (location : List ℕ) (x : StreamSource S) (file : S) → OpensAt (made_in graph) e (Read location) → HasSource last e x
        → source_file x.source ≡ Some file
        → slice_get (known_ends s k ends) e ≡ Some (Some (known_end s k (Src file)))
    known_source e location x file opens has is =
        get_map (option_map (known s k)) ends e (Some (Src file))
        (put_source (made_in graph) (HasSource last) (HasElement last rest) left ends one_element one_source e opens.element location x file opens.at
        (reader opens.element.settings location opens.opens) has is (put_at e opens.element opens.at))

    -- the ends that are given back are where they were opened
    pub run_located : AreLocated (made_in graph) (known_ends s k ends)
    run_located = record {
      size =
          length-map ends (option_map (known s k)) ∙ back.count ∙ run.started.filled.end_count
          ∙ end_count s k (made_in graph) run.started.ends before run.started.opened run.started.opens;
      written = λ d m location here opens.
          let own = writer m.settings location opens in
          let x = element_there d m here own.no_source in
          let at : OpensAt (made_in graph) d (Write location) = record { element = m; at = here; opens = opens } in
          let file = written_file taken d location x.0 at x.1 in
          record { end = known s k (Snk file.0); at = known_sink d location x.0 file.0 at x.1 file.1; kind = refl; place = file.2 };
      read = λ e m location here opens.
          let own = reader m.settings location opens in
          let x = source_there e m here own.source in
          let at : OpensAt (made_in graph) e (Read location) = record { element = m; at = here; opens = opens } in
          let file = read_file given e location x.0 at x.1 in
          record { end = known s k (Src file.0); at = known_source e location x.0 file.0 at x.1 file.1; kind = refl; place = file.2 };
      none = λ d m here opens.
          let w = slice_get_within (made_in graph) d m here in
          let count = end_count s k (made_in graph) run.started.ends before run.started.opened run.started.opens in
          let was = got_within left d (omega (arith, w, count, run.started.filled.end_count)) in
          let none =
          sym (got_end left d was.0 was.1) ∙ (run.started.filled.each d m here).left_is
          ∙ ap (left_by m.settings) (none_at s k (made_in graph) run.started.ends before run.started.opened run.started.opens d m here opens) in
          get_map (option_map (known s k)) ends d None
          (put_none (made_in graph) (HasSource last) (HasElement last rest) left ends d m here opens (put_at d m here)
          ∙ was.1 ∙ ap (λ (end : Option (End S K)). Some end) none);
    }
