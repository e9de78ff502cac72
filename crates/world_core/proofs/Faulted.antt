-- A run that stopped at a fault: how it ended.
use Rattle.std.proofs.Common.{◌≡◌, ◌≢◌, ◌⊎◌, ◌<◌, ℕ, Bool, if◌then◌else◌, List, [], Option, None, Some, length, refl, sym, ap, ◌∙◌, subst, inl, inr, arith}
use Rattle.std.specs.Prelude.{slice_get, unwrap_or}
use Rattle.std.specs.Option.{option_map, option_map_or}
use Rattle.std.proofs.lemmas.Option.{none-some, same_Some}
use Rattle.el_settings.specs.Asked.{location_of, source_pads}
use Rattle.el_set.specs.Gives.{source_file}
use Rattle.el_set.specs.Made.{file_for, read_for}
use Rattle.flow_model.specs.Failures.{IsReadCause, IsWriteCause}
use Rattle.flow_model.specs.declared.element.TaskElement as elements
use Rattle.flow_model.specs.declared.refusal.Refusal.TheVariants.{Fault, Unwritten}
use Rattle.flow_model.specs.declared.refusal.Unread.TheVariants as reads
use Rattle.flow_model.specs.declared.source.TaskSource as givers
use Rattle.flow_model.specs.Item.{Item}
use Rattle.graph_parts.specs.declared.bag.Bag.{Bag}
use Rattle.graph_core.specs.Elements.{Made}
use Rattle.graph_core.specs.Ends.{name_at}
use Rattle.graph_core.specs.Graph.{made as made_in, links as links_in}
use Rattle.graph_pads.specs.Links.{sink_behind}
use Rattle.graph_core.specs.declared.graph.Graph.{Graph}
use Rattle.graph_tasks.specs.Blamed.{IsBlamed}
use Rattle.graph_tasks.specs.Owed.{AreWritten, Refuses, went_from}
use Rattle.graph_tasks.specs.Runs.{crossed_in}
use Rattle.graph_parts.specs.Back.{HasElement, HasSource}
use Rattle.graph_parts.specs.Ends.{at as end_at, sink_end, source_end}
use Rattle.graph_parts.specs.Files.{OpensAt, WereTold}
use Rattle.flow_model.specs.declared.fault.ElementFault.{ElementFault}
use Rattle.flow_model.specs.declared.fault.ElementFault.TheVariants as own_faults
use Rattle.gst_outside.specs.Causes.{Rose}
use Rattle.gst_outside.specs.Seen.{Seen}
use Rattle.gst_outside.specs.declared.sink.Sink as sinks
use Rattle.gst_outside.specs.declared.source.Source as sources
use Rattle.lane_core.specs.Lane.{Lane}
use Rattle.lane_core.specs.declared.ends.Inlet as inlets
use Rattle.lane_core.specs.declared.ends.Outlet as outlets
use Rattle.el_settings.proofs.Padded.{few_sources}
use Rattle.graph_pads.specs.declared.pad.PadPlace.{PadPlace}
use Rattle.graph_tasks.proofs.Came.{place_again}
use Rattle.graph_parts.proofs.Sources.{place_is_pad}
use Rattle.graph_parts.specs.MomentLaws.{place_of}
use Rattle.graph_core.specs.GraphPlan.{pad_id, sink_at as place_at}
use Rattle.flow_model.specs.Moment.{Moment}
use Rattle.net_task.specs.declared.task.Task.{Task}
use Rattle.run_files.specs.Ends.{Known, known_end, known_ends}
use Rattle.run_files.specs.declared.end.End.{End}
use Rattle.run_files.specs.declared.end.End.TheVariants.{Src, Snk}
use Rattle.run_files.specs.declared.end.Opening.TheVariants.{Write}
use Rattle.run_report.specs.declared.report.Fault.TheVariants as told_faults
use Rattle.task_elements.specs.Stands.{faults_in, file_in}
use Rattle.task_elements.specs.declared.element.StreamElement.{StreamElement}
use Rattle.task_elements.specs.declared.element.StreamElement.TheVariants as kinds
use Rattle.el_set.specs.declared.sink.SinkElement.TheVariants as sink_kinds
use Rattle.task_elements.specs.declared.source.StreamSource.{StreamSource}
use Rattle.task_parts.specs.Fault.{refusal_fault}
use Rattle.task_parts.specs.declared.fault.TaskFault.{TaskFault}
use Rattle.task_parts.specs.declared.fault.TaskFault.TheVariants as faults
use Rattle.world_core.specs.Cut.{IsCutBefore}
use Rattle.world_core.specs.Ended.{EndsRefused, EndsTooLong, EndsUnlinked, EndsUnread, EndsUnwritten, PassesLimit, TellsRun}
use Rattle.world_core.specs.Ran.{KnownFailed, KnownHold}
use Rattle.world_core.specs.Stopped.{HasRun}
use Rattle.world_core.specs.Pads.{no_pad, source_name, source_pad}
use Rattle.world_core.specs.Told.{element_fault, element_status, location_named, task_fault, task_status}
use Rattle.world_core.specs.declared.ended.WorldEnd.{WorldEnd}
use Rattle.world_core.specs.declared.report.Stop.TheVariants as stops
use Rattle.world_core.proofs.Blame.{IsFull, RefusedAt, link_blamed, own_blamed, read_blamed, write_blamed}
use Rattle.world_core.proofs.CutBefore.{cut_before}
use Rattle.world_core.proofs.Files.{element_file, head_file, known_sink, known_source, one_element}
use Rattle.world_core.proofs.Held.{AllBehind, RestHasCame, behind_held}
use Rattle.world_core.proofs.Openers.{reader_opens, writer_opens}
use Rattle.world_core.proofs.Parts.{part_held}
use Rattle.world_core.proofs.Settled.{IsSettled, IsTold, all_bytes, all_written, rendered}
use Rattle.world_core.proofs.Members.{mapped as mapped_some}

rose_zero : (before after : ℕ) → Rose before after → Rose 0 after
rose_zero before after rose = omega (arith, rose)

-- an element that counts failures writes a file
counts_file : {K : Type 0} (faults_of : K → ℕ) (x : StreamElement K) (n : ℕ) → faults_in faults_of x ≡ Some n → (file : K) × (file_in x ≡ Some file) × (faults_of file ≡ n)
counts_file faults_of (kinds.Filter filter) n is = absurd (none-some n is)
counts_file faults_of (kinds.Queue queue) n is = absurd (none-some n is)
counts_file faults_of (kinds.Tee tee) n is = absurd (none-some n is)
counts_file faults_of (kinds.Join join) n is = absurd (none-some n is)
counts_file faults_of (kinds.Sink (sink_kinds.File file)) n is = (_, refl, same_Some _ n is)
counts_file faults_of (kinds.Sink (sink_kinds.Fake fake)) n is = absurd (none-some n is)

module _ {S K I O L : Type 0} {giver : givers.Ghosts (StreamSource S)} {taker : elements.Ghosts (StreamElement K)} {i : inlets.Ghosts I L O} {o : outlets.Ghosts O L} where
  -- at the moment at which a run met a fault
  pub record IsFaulted (k : sinks.Ghosts K) (contents : ℕ → List ℕ) (graph : Graph) (bags : List Bag) (last : List (Task (StreamSource S) (StreamElement K) I O L giver taker i o)) (rest : List (Option (StreamElement K))) (fault : TaskFault) : Type 0 where
    pub m : Moment
    pub settled : IsSettled contents graph bags m last
    pub behind : AllBehind k graph last rest m contents fault
    pub others : RestHasCame k graph last rest m
    pub blamed : IsBlamed contents graph m fault

module _ {S K I O L : Type 0} {giver : givers.Ghosts (StreamSource S)} {taker : elements.Ghosts (StreamElement K)} {i : inlets.Ghosts I L O} {o : outlets.Ghosts O L}
    (s : sources.Ghosts S) (k : sinks.Ghosts K) (graph : Graph) (first last : List (Task (StreamSource S) (StreamElement K) I O L giver taker i o))
    (rest : List (Option (StreamElement K))) (left : List (Option (End S K))) (tells : Option (List Lane)) (before : Seen)
    (run : HasRun s k graph first last rest left tells before)
    (taken : (x : StreamElement K) → taker.file x ≡ option_map k.location (file_in x)) (given : (x : StreamSource S) → giver.file x ≡ option_map s.location (source_file x.source))
    (write_fails : (x : StreamElement K) → taker.failures x ≡ faults_in k.faults x) (read_fails : (x : StreamSource S) → giver.failures x ≡ option_map s.faults (source_file x.source))
    (ends : List (Option (End S K))) (fault : TaskFault) (end : WorldEnd) (told : IsTold graph last rest left ends (stops.Fault fault) end)
    (faulted : (contents : ℕ → List ℕ) → WereTold (made_in graph) before contents → IsFaulted k contents graph run.started.bags last rest fault) where
  abbrev known : List (Option Known)
  known = known_ends s k ends

  abbrev made : List Made
  made = made_in graph

  -- what is told where no write failed
  all_told : fault ≢ faults.OutOfMemory → ((d a b : ℕ) → fault ≢ faults.WriteFault d a b) → (Cause : (ℕ → List ℕ) → (ℕ → List Item) → (ℕ → List ℕ) → Type 0)
      → ((contents : ℕ → List ℕ) → (f : IsFaulted k contents graph run.started.bags last rest fault) → Cause contents (crossed_in graph f.m) (all_bytes graph f.m))
      → TellsRun graph before (KnownHold graph known) end.report Cause
  all_told memory writes Cause causes contents were =
      let f = faulted contents were in
      rendered s k graph first last rest left tells before run taken given ends (stops.Fault fault) end told contents f.m f.settled (all_bytes graph f.m)
      (behind_held k graph last rest f.m contents fault f.behind f.others memory writes) (Cause contents) (causes contents f)

  -- the name of an element, and its location
  name_is : (n : ℕ) (one : Made) → slice_get made n ≡ Some one → name_at made n ≡ one.name
  name_is n one at = ap (λ found. option_map_or (λ (x : Made). x.name) found []) at

  location_is : (n : ℕ) (one : Made) (location : List ℕ) → slice_get made n ≡ Some one → location_of one.settings ≡ Some location → location_named made n ≡ location
  location_is n one location at is =
      ap (λ found. option_map_or (λ (x : Made). unwrap_or (location_of x.settings) []) found []) at ∙ ap (λ (l : Option (List ℕ)). unwrap_or l []) is

  -- a source could not be read
  pub unread_ends : (n : ℕ) (one : Made) (x : StreamSource S) (a b : ℕ) (was : Option ℕ) → fault ≡ faults.ReadFault n a b → slice_get made n ≡ Some one → HasSource last n x
      → IsReadCause was (giver.failures x) (reads.Failed a b) → EndsUnread graph before (KnownHold graph known) (KnownFailed known) end
  unread_ends n one x a b was is at has cause =
      let file = mapped_some s.faults (source_file x.source) b (sym (read_fails x) ∙ cause.1) in
      let same = head_file s k graph first last rest left tells before run given n one x at has in
      let read = mapped_some s.location (read_for one.settings (source_end (end_at run.started.ends n))) (s.location file.0) (sym same ∙ ap (option_map s.location) file.1) in
      let opens = reader_opens one.settings (source_end (end_at run.started.ends n)) read.0 read.1 in
      record {
        status = told.tells.status ∙ ap (λ f. task_status f) is;
        e = n;
        element = one;
        at = at;
        location = opens.0;
        reads = opens.1;
        first = a;
        second = b;
        fault = told.tells.fault ∙ ap (λ f. task_fault made f) is ∙ ap (λ l. told_faults.ReadFault l a b) (location_is n one opens.0 at opens.2);
        rose = cause.2;
        failed = (
          known_end s k (Src file.0),
          known_source s k graph first last rest left tells before run taken given ends told.back n opens.0 x file.0 (record { element = one; at = at; opens = opens.1 }) has file.1,
          subst (λ (c : ℕ). Rose 0 c) (sym file.2) (rose_zero a b cause.2),
          file.2,
        );
        tells = all_told not_memory not_write (λ contents h bytes. AreWritten made (links_in graph) h bytes × IsCutBefore contents h n one.settings)
            (λ contents f. (all_written graph f.m, cut_before contents (crossed_in graph f.m) n one.settings opens.0 opens.1 (read_blamed contents graph f.m fault f.blamed n a b is one at)));
      }
    where
      not_memory : fault ≢ faults.OutOfMemory
      not_memory e = cc

      not_write : (d p q : ℕ) → fault ≢ faults.WriteFault d p q
      not_write d p q e = cc

  -- a write failed
  pub unwritten_ends : (n : ℕ) (one : Made) (x : StreamElement K) (a b : ℕ) (was : Option ℕ) → fault ≡ faults.WriteFault n a b → slice_get made n ≡ Some one → HasElement last rest n x
      → IsWriteCause was (taker.failures x) (Unwritten a b) → EndsUnwritten graph before (KnownHold graph known) (KnownFailed known) end
  unwritten_ends n one x a b was is at has cause =
      let file = counts_file k.faults x b (sym (write_fails x) ∙ cause.1) in
      let same = element_file s k graph first last rest left tells before run taken n one x at has in
      let wrote = mapped_some k.location (file_for one.settings (sink_end (end_at run.started.ends n))) (k.location file.0) (sym same ∙ ap (option_map k.location) file.1) in
      let opens = writer_opens one.settings (sink_end (end_at run.started.ends n)) wrote.0 wrote.1 in
      let place : OpensAt made n (Write opens.0) = record { element = one; at = at; opens = opens.1 } in
      record {
        status = told.tells.status ∙ ap (λ f. task_status f) is;
        d = n;
        element = one;
        at = at;
        location = opens.0;
        writes = opens.1;
        first = a;
        second = b;
        fault = told.tells.fault ∙ ap (λ f. task_fault made f) is ∙ ap (λ l. told_faults.WriteFault l a b) (location_is n one opens.0 at opens.2);
        rose = cause.2;
        failed = (
          known_end s k (Snk file.0),
          known_sink s k graph first last rest left tells before run taken given ends told.back n opens.0 x file.0 place has file.1,
          subst (λ (c : ℕ). Rose 0 c) (sym file.2) (rose_zero a b cause.2),
          file.2,
        );
        tells = λ contents were.
            let f = faulted contents were in
            let item = write_blamed contents graph f.m fault f.blamed n a b is in
            let held = part_held k graph last rest f.m contents n a b one opens.0 x file.0 place at has file.1
            (λ y also. one_element s k graph first last rest left tells before run n y x also has)
            (subst (λ (t : TaskFault). AllBehind k graph last rest f.m contents t) is f.behind) f.others item.0 item.1 in
            rendered s k graph first last rest left tells before run taken given ends (stops.Fault fault) end told contents f.m f.settled held.bytes held.held _
            ((λ c apart. λ m there writes. held.others c apart ∙ all_written graph f.m c m there writes), held.part);
      }

  -- the rule of an element has a fault, of which its pad's limit is none
  pub refused_ends : (n : ℕ) (one : Made) (own : ElementFault) → fault ≡ refusal_fault n (Fault own) → own ≢ own_faults.OutOfMemory → slice_get made n ≡ Some one
      → ((contents : ℕ → List ℕ) → (f : IsFaulted k contents graph run.started.bags last rest fault) → IsFull contents graph f.m n own → ⊥)
      → EndsRefused graph before (KnownHold graph known) end
  refused_ends n one own is memory at not_full = record {
    d = n;
    element = one;
    at = at;
    own = own;
    status = told.tells.status ∙ ap (λ f. task_status f) is ∙ status_by own memory;
    fault = told.tells.fault ∙ ap (λ f. task_fault made f) is ∙ fault_by own memory ∙ ap (λ name. element_fault name own) (name_is n one at);
    tells = all_told (λ e. not_memory own memory (sym is ∙ e)) (λ d a b e. not_write own memory d a b (sym is ∙ e)) _ (λ contents f. (all_written graph f.m, refuses contents f));
  }
    where
      status_by : (x : ElementFault) → x ≢ own_faults.OutOfMemory → task_status (refusal_fault n (Fault x)) ≡ element_status x
      status_by (own_faults.NotNegotiated a b) some = refl
      status_by (own_faults.BadStream a b) some = refl
      status_by (own_faults.TooLong a b) some = refl
      status_by own_faults.OutOfMemory some = refl

      fault_by : (x : ElementFault) → x ≢ own_faults.OutOfMemory → task_fault made (refusal_fault n (Fault x)) ≡ element_fault (name_at made n) x
      fault_by (own_faults.NotNegotiated a b) some = refl
      fault_by (own_faults.BadStream a b) some = refl
      fault_by (own_faults.TooLong a b) some = refl
      fault_by own_faults.OutOfMemory some = refl

      not_memory : (x : ElementFault) → x ≢ own_faults.OutOfMemory → refusal_fault n (Fault x) ≢ faults.OutOfMemory
      not_memory (own_faults.NotNegotiated a b) some e = cc
      not_memory (own_faults.BadStream a b) some e = cc
      not_memory (own_faults.TooLong a b) some e = cc
      not_memory own_faults.OutOfMemory some e = some refl

      not_write : (x : ElementFault) → x ≢ own_faults.OutOfMemory → (d a b : ℕ) → refusal_fault n (Fault x) ≢ faults.WriteFault d a b
      not_write (own_faults.NotNegotiated p q) some d a b e = cc
      not_write (own_faults.BadStream p q) some d a b e = cc
      not_write (own_faults.TooLong p q) some d a b e = cc
      not_write own_faults.OutOfMemory some d a b e = cc

      refuses : (contents : ℕ → List ℕ) → (f : IsFaulted k contents graph run.started.bags last rest fault) → Refuses contents made (links_in graph) (crossed_in graph f.m) n one.settings own
      refuses contents f = by (own_blamed contents graph f.m fault f.blamed n own is memory)
        where
          by : RefusedAt contents graph f.m n own ⊎ IsFull contents graph f.m n own → Refuses contents made (links_in graph) (crossed_in graph f.m) n one.settings own
          by (inl r) = subst (λ (x : Made). Refuses contents made (links_in graph) (crossed_in graph f.m) n x.settings own) (same_Some r.element one (sym r.at ∙ at)) r.refuses
          by (inr full) = absurd (not_full contents f full)

  -- a source pad of an element is full
  pub full_ends : (n : ℕ) (one : Made) → fault ≡ faults.TooLong n 1099511627776 1 → slice_get made n ≡ Some one → (pad : ℕ) → pad < source_pads one.settings
      → ((contents : ℕ → List ℕ) → (f : IsFaulted k contents graph run.started.bags last rest fault)
      → length (went_from (crossed_in graph f.m) (place_at n pad)) ≡ 1099511627776)
      → EndsTooLong graph before (KnownHold graph known) end
  full_ends n one is at pad there full = record {
    status = told.tells.status ∙ ap (λ f. task_status f) is;
    e = n;
    element = one;
    at = at;
    fault = told.tells.fault ∙ ap (λ f. task_fault made f) is ∙ ap (λ name. told_faults.TooLong name 1099511627776 1) (name_is n one at);
    tells = all_told not_memory not_write _ (λ contents f. (all_written graph f.m, passed contents f));
  }
    where
      passed : (contents : ℕ → List ℕ) → (f : IsFaulted k contents graph run.started.bags last rest fault)
          → PassesLimit contents made (links_in graph) (crossed_in graph f.m) n one.settings
      passed contents f = by (own_blamed contents graph f.m fault f.blamed n (own_faults.TooLong 1099511627776 1) is no_want)
        where
          no_want : own_faults.TooLong 1099511627776 1 ≢ own_faults.OutOfMemory
          no_want e = cc

          by : RefusedAt contents graph f.m n (own_faults.TooLong 1099511627776 1) ⊎ IsFull contents graph f.m n (own_faults.TooLong 1099511627776 1)
              → PassesLimit contents made (links_in graph) (crossed_in graph f.m) n one.settings
          by (inl r) = record {
            pad = pad;
            there = there;
            full = full contents f;
            more = inr (subst (λ (x : Made). Refuses contents made (links_in graph) (crossed_in graph f.m) n x.settings (own_faults.TooLong 1099511627776 1))
                (same_Some r.element one (sym r.at ∙ at)) r.refuses);
          }
          by (inr limit) = record {
            pad = limit.pad;
            there = subst (λ (x : Made). limit.pad < source_pads x.settings) (same_Some limit.more.1.element one (sym limit.more.1.at ∙ at)) limit.more.1.there;
            full = limit.full;
            more = inl limit.more;
          }

      not_memory : fault ≢ faults.OutOfMemory
      not_memory e = cc

      not_write : (d p q : ℕ) → fault ≢ faults.WriteFault d p q
      not_write d p q e = cc

  -- a pad is not linked
  pub unlinked_ends : (source : PadPlace) (one : Made) (place : ℕ) → fault ≡ faults.NotLinked (pad_id source) place → slice_get made source.element ≡ Some one
      → source.pad < source_pads one.settings → sink_behind (links_in graph) source ≡ None → EndsUnlinked graph before (KnownHold graph known) end
  unlinked_ends source one place is at there alone = record {
    status = told.tells.status ∙ ap (λ f. task_status f) is;
    source = source;
    element = one;
    at = at;
    there = there;
    alone = alone;
    place = place;
    fault = told.tells.fault ∙ ap (λ f. task_fault made f) is ∙ ap (λ name. told_faults.NotLinked name place) named;
    tells = all_told not_memory not_write _
        (λ contents f. let link = link_blamed contents graph f.m fault f.blamed source place few is in (all_written graph f.m, link.0, link.1));
  }
    where
      few : source.pad < 64
      few = let most = few_sources one.settings in omega (arith, there, most)

      named : source_pad made (pad_id source) ≡ source_name made source
      named =
          ap (λ (b : Bool). if b then source_name made (place_of (pad_id source)) else no_pad made (place_of (pad_id source)).element)
          (place_is_pad made source (subst (λ (found : Option Made). source.pad < option_map_or (λ (m : Made). source_pads m.settings) found 0) (sym at) there))
          ∙ ap (source_name made) (place_again source few)

      not_memory : fault ≢ faults.OutOfMemory
      not_memory e = cc

      not_write : (d p q : ℕ) → fault ≢ faults.WriteFault d p q
      not_write d p q e = cc
