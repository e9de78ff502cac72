-- From the ends that a run gave back to its files.
use Rattle.std.proofs.Common.{◌≡◌, ◌<◌, ◌≤◌, ◌-◌, ◌^◌, ◌&&◌, ℕ, Bool, true, List, [], ◌∷◌, ◌++◌, Option, None, Some, Result, Ok, IfOk, IsTrue, length, map, refl, sym, ap, ◌∙◌, subst, inl, inr, arith}
use Rattle.std.specs.Prelude.{Contains, count_by, slice_get}
use Rattle.std.specs.Option.{ForSome, option_map}
use Rattle.std.proofs.lemmas.List.{length-append, length-map}
use Rattle.std.proofs.lemmas.Option.{same_Some}
use Rattle.std.proofs.lemmas.Slice.Eq.{bytes_eq-Decides}
use Rattle.gst_outside.specs.Causes.{Rose, plus}
use Rattle.gst_outside.specs.Places.{is_at}
use Rattle.gst_caps.specs.declared.caps.Caps.TheVariants.{Any}
use Rattle.flow_model.specs.Item.{Item}
use Rattle.el_settings.specs.Asked.{no_pads}
use Rattle.graph_core.specs.Allowed.{all_allowed, checked, with_caps, with_made_pads}
use Rattle.graph_core.specs.Asked.{Declared, declared}
use Rattle.graph_core.specs.Comes.{Comes}
use Rattle.graph_core.specs.Elements.{ElementsCome, Made}
use Rattle.graph_core.specs.Graph.{IsGraph, made as made_in}
use Rattle.graph_core.specs.declared.fault.BuildFault.{BuildFault}
use Rattle.graph_core.specs.declared.graph.Graph.{Graph}
use Rattle.gst_outside.specs.Seen.{Seen, ToldRose}
use Rattle.launch_text.specs.declared.tree.Tree.{Tree}
use Rattle.graph_parts.specs.Files.{AreLocated, made_opening, opening_of}
use Rattle.graph_parts.proofs.Locating.{is_present, no_sink, one_sink, same_count}
use Rattle.run_files.proofs.Lists.{sum_above, sum_above_of}
use Rattle.run_files.specs.Closing.{Closes, faults_at}
use Rattle.run_files.specs.Ends.{Known, is_sink_at, present}
use Rattle.run_files.specs.Opening.{Opens, location_of}
use Rattle.run_files.specs.declared.end.Opening.{Opening}
use Rattle.run_files.specs.declared.end.Opening.TheVariants.{Read, Write}
use Rattle.run_report.specs.declared.report.Report.{Report}
use Rattle.world_core.specs.Ended.{HasEnded, TellsRun}
use Rattle.world_core.specs.Ran.{KnownFailed, KnownHold}
use Rattle.world_core.specs.World.{FileFailed, FilesHold, IsUnwritten, RoseBy}
use Rattle.world_core.specs.declared.ended.WorldEnd.{WorldEnd}

-- a line has few elements
few_come : (made : List Made) (ds : List Declared) (answer : Result (List Made) BuildFault) → ElementsCome made ds answer → length made ≤ 256
    → IfOk answer (λ all. length all ≤ 256)
few_come made ds answer (Comes.all all) few = few
few_come made ds answer (Comes.more all d m rest a makes comes) few =
    few_come (all ++ m ∷ []) rest a comes (let size = length-append all (m ∷ []) in omega (arith, size, makes.room))
few_come made ds answer (Comes.stop all d rest fault why) few = tt

pub few_elements : (tree : Tree) (graph : Graph) → IsGraph tree graph → length (made_in graph) ≤ 256
few_elements tree graph is =
    subst (λ (n : ℕ). n ≤ 256) (length-map (all_allowed (made_in graph)) (with_made_pads no_pads) ∙ length-map (made_in graph) (with_caps Any))
    (few_come [] (declared tree) (Ok (checked (made_in graph))) is.elements (omega arith))

module _ (graph : Graph) (before : Seen) (Holds Other : (ℕ → List ℕ) → Type 0) where
  -- the same is told of a run by what is known otherwise of its files
  tells_with : (report : Report) (Cause : (ℕ → List ℕ) → (ℕ → List Item) → (ℕ → List ℕ) → Type 0) → ((b : ℕ → List ℕ) → Holds b → Other b)
      → TellsRun graph before Holds report Cause → TellsRun graph before Other report Cause
  tells_with report Cause more tells contents told =
      let one = tells contents told in
      record {
        h = one.h;
        evaluated = one.evaluated;
        pads = one.pads;
        limit = one.limit;
        bytes = one.bytes;
        sinks = one.sinks;
        files = more one.bytes one.files;
        cause = one.cause;
      }

  pub ended_with : (Fails More : ℕ → ℕ → Type 0) (end : WorldEnd) → ((b : ℕ → List ℕ) → Holds b → Other b) → ((e n : ℕ) → Fails e n → More e n)
      → HasEnded graph before Holds Fails end → HasEnded graph before Other More end
  ended_with Fails More end holds fails (inl x) = inl (record { status = x.status; fault = x.fault; tells = tells_with end.report _ holds x.tells })
  ended_with Fails More end holds fails (inr (inl x)) = inr (inl (record {
    status = x.status;
    e = x.e;
    element = x.element;
    at = x.at;
    location = x.location;
    reads = x.reads;
    first = x.first;
    second = x.second;
    fault = x.fault;
    rose = x.rose;
    failed = fails x.e x.second x.failed;
    tells = tells_with end.report _ holds x.tells;
  }))
  ended_with Fails More end holds fails (inr (inr (inl x))) = inr (inr (inl (record {
    status = x.status;
    d = x.d;
    element = x.element;
    at = x.at;
    location = x.location;
    writes = x.writes;
    first = x.first;
    second = x.second;
    fault = x.fault;
    rose = x.rose;
    failed = fails x.d x.second x.failed;
    tells = tells_with end.report _ holds x.tells;
  })))
  ended_with Fails More end holds fails (inr (inr (inr (inl x)))) = inr (inr (inr (inl (record {
    d = x.d;
    element = x.element;
    at = x.at;
    own = x.own;
    status = x.status;
    fault = x.fault;
    tells = tells_with end.report _ holds x.tells;
  }))))
  ended_with Fails More end holds fails (inr (inr (inr (inr (inl x))))) = inr (inr (inr (inr (inl (record {
    status = x.status;
    source = x.source;
    element = x.element;
    at = x.at;
    there = x.there;
    alone = x.alone;
    place = x.place;
    fault = x.fault;
    tells = tells_with end.report _ holds x.tells;
  })))))
  ended_with Fails More end holds fails (inr (inr (inr (inr (inr (inl x)))))) = inr (inr (inr (inr (inr (inl (record {
    status = x.status;
    e = x.e;
    element = x.element;
    at = x.at;
    fault = x.fault;
    tells = tells_with end.report _ holds x.tells;
  }))))))
  ended_with Fails More end holds fails (inr (inr (inr (inr (inr (inr x)))))) = inr (inr (inr (inr (inr (inr (record {
    status = x.status;
    tasks = x.tasks;
    fault = x.fault;
    tells = tells_with end.report _ holds x.tells;
  }))))))

rose_more : (before mid after : ℕ) → before ≤ mid → Rose mid after → Rose before after
rose_more before mid after more rose = omega (arith, more, rose)

-- a sink at a location is one there
sink_there : (k : Known) (l : List ℕ) → k.is_sink ≡ true → k.location ≡ Some l → IsTrue (is_sink_at l k)
sink_there k l sink place =
    subst (λ (x : Bool). IsTrue x)
    (sym (ap (λ (x : Bool). x && is_at k.location l) sink ∙ ap (λ (o : Option (List ℕ)). is_at o l) place ∙ (bytes_eq-Decides l l).1 refl)) refl

-- an end that is known of an element is the one that is known of it
same_end : (known : List (Option Known)) (e : ℕ) (one other : Known) → slice_get known e ≡ Some (Some one) → slice_get known e ≡ Some (Some other) → one ≡ other
same_end known e one other first second = same_Some one other (same_Some (Some one) (Some other) (sym first ∙ second))

module _ (tree : Tree) (graph : Graph) (is : IsGraph tree graph) (known : List (Option Known)) (located : AreLocated (made_in graph) known)
    (before mid after : Seen) (opened : List (Option Known)) (opens : Opens (map made_opening (made_in graph)) opened before mid) where
  -- the sink that was given back alone at a location left its bytes there
  pub files_hold : ((l : List ℕ) (end : Known) → Contains (present known) end → IsTrue (is_sink_at l end) → count_by (is_sink_at l) (present known) ≡ 1
      → after.output l ≡ end.bytes) → (b : ℕ → List ℕ) → KnownHold graph known b → FilesHold graph after b
  files_hold alone b holds d m location at opens_it =
      let held = holds d m location at opens_it in
      let own = located.written d m location at opens_it in
      let same = same_end known d own.end held.0 own.at held.1 in
      let sink = subst (λ (k : Known). IsTrue (is_sink_at location k)) same (sink_there own.end location own.kind own.place) in
      let one = alone location held.0 (is_present known d held.0 held.1) sink (one_sink tree graph known d m location is located at opens_it) in
      subst (λ (o : Option (List ℕ)). ForSome o (λ file. file ≡ b d)) (sym one) held.2

  -- where calls of an end failed, the failures of the files rose
  pub file_failed : ((end : Known) → Contains (present known) end → Rose 0 end.faults → Rose mid.faults after.faults)
      → ((l : List ℕ) (end : Known) → Contains (present known) end → Rose 0 end.faults → end.location ≡ Some l → ToldRose (mid.faults_of l) (after.faults_of l))
      → Closes (present known) mid after → (e n : ℕ) → KnownFailed known e n → FileFailed graph before after e n
  file_failed rose rose_of closes e n failed m opening at opens_it =
      let place = place_of m opening at opens_it in
      let l = location_of opening in (
        rose_more before.faults mid.faults after.faults opens.faults (rose failed.0 there failed.2),
        subst (λ (o : Option ℕ). ToldRose o (after.faults_of l)) (opens.faults_of l) (rose_of l failed.0 there failed.2 place),
        all_by,
        (λ x was y now. told_by l place x was y now),
      )
    where
      there : Contains (present known) failed.0
      there = is_present known e failed.0 failed.1

      all_by : RoseBy n (Some before.faults) (Some after.faults)
      all_by x was y now =
          let b = same_Some before.faults x was in
          let a = same_Some after.faults y now in
          omega (arith, b, a, opens.faults, closes.faults, failed.3, sum_above (λ (end : Known). end.faults) (present known) failed.0 there)

      told_by : (l : List ℕ) → failed.0.location ≡ Some l → RoseBy n (before.faults_of l) (after.faults_of l)
      told_by l place x was y now =
          let counted = ap (λ (o : Option ℕ). option_map (λ k. plus k (faults_at l (present known))) o) (opens.faults_of l ∙ was) in
          let told : y ≡ plus x (faults_at l (present known)) =
          same_Some y (plus x (faults_at l (present known))) (sym now ∙ closes.faults_of l ∙ counted)
          in
          let here = ap (λ (o : Option (List ℕ)). is_at o l) place ∙ (bytes_eq-Decides l l).1 refl in
          omega (arith, told, failed.3, sum_above_of (λ (end : Known). end.faults) (λ (end : Known). is_at end.location l) (present known) failed.0 there here)

      place_of : (x : Made) (o : Opening) → slice_get (made_in graph) e ≡ Some x → opening_of x.settings ≡ Some o → failed.0.location ≡ Some (location_of o)
      place_of x (Read location) x_at x_opens =
          let own = located.read e x location x_at x_opens in
          ap (λ (k : Known). k.location) (sym (same_end known e own.end failed.0 own.at failed.1)) ∙ own.place
      place_of x (Write location) x_at x_opens =
          let own = located.written e x location x_at x_opens in
          ap (λ (k : Known). k.location) (sym (same_end known e own.end failed.0 own.at failed.1)) ∙ own.place

  -- all ends that were opened are given back
  pub ends_same : Closes (present known) mid after → before.ends < 2 ^ 63 → after.ends ≡ before.ends
  ends_same closes small =
      ends_by before.ends mid.ends after.ends (length (present known)) opens_count closes.count (count_few (made_in graph)) (few_elements tree graph is) small
    where
      opens_count : mid.ends ≡ plus before.ends (length (present known))
      opens_count = opens.count ∙ ap (plus before.ends) (sym (same_count (made_in graph) known located))

      present_few : {A : Type 0} (xs : List (Option A)) → length (present xs) ≤ length xs
      present_few [] = omega arith
      present_few (None ∷ xs) = omega (arith, present_few xs)
      present_few (Some x ∷ xs) = omega (arith, present_few xs)

      count_few : (made : List Made) → length (present known) ≤ length (made_in graph)
      count_few made = subst (λ (n : ℕ). length (present known) ≤ n) located.size (present_few known)

      ends_by : (b m a k : ℕ) → m ≡ plus b k → a ≡ m - k → k ≤ length (made_in graph) → length (made_in graph) ≤ 256 → b < 2 ^ 63 → a ≡ b
      ends_by b m a k put taken few_k few_made small_b = omega (arith, put, taken, few_k, few_made, small_b)

  -- what is read stays, and what no filesink writes
  pub inputs_stay : Closes (present known) mid after → (l : List ℕ) → after.input l ≡ before.input l
  inputs_stay closes l = closes.input l ∙ opens.input l

  pub others_stay : ((l : List ℕ) → count_by (is_sink_at l) (present known) ≡ 0 → after.output l ≡ mid.output l)
      → (l : List ℕ) → IsUnwritten graph l → after.output l ≡ before.output l
  others_stay others l away = others l (no_sink l (made_in graph) known located (λ e m at opens_it. away e m at opens_it)) ∙ opens.output l
