-- How a run of a launch line ends.
use Rattle.std.specs.Prelude.{◌≡◌, ◌≤◌, ◌⊎◌, ℕ, List, [], Option, Some, map, slice_get, take}
use Rattle.std.specs.Option.{ForSome}
use Rattle.gst_outside.specs.Causes.{Rose, plus}
use Rattle.graph_core.specs.Elements.{Made}
use Rattle.graph_core.specs.Graph.{IsGraph, IsSound, made as made_in}
use Rattle.graph_core.specs.declared.graph.Graph.{Graph}
use Rattle.gst_outside.specs.Seen.{Seen, ToldRose}
use Rattle.launch_text.specs.declared.tree.Tree.{Tree}
use Rattle.graph_parts.specs.Files.{made_opening, opening_of}
use Rattle.run_files.specs.Opening.{GivesBack, Refuses, location_of}
use Rattle.run_files.specs.declared.end.Opening.{Opening}
use Rattle.run_files.specs.declared.end.Opening.TheVariants.{Write}
use Rattle.run_report.specs.declared.report.Fault.TheVariants.{OpenFault}
use Rattle.world_core.specs.Ended.{HasEnded}
use Rattle.world_core.specs.declared.ended.WorldEnd.{WorldEnd}

-- some line has this graph: it is what `build` gives for its tree
pub record IsBuilt (graph : Graph) : Type 0 where
  pub tree : Tree
  pub line : IsGraph tree graph
  pub sound : IsSound graph

-- A location of an element could not be opened, and no other one was refused; the run did not begin. What the elements before
-- it opened was given back, and of what they write nothing stands.
pub record RunUnopened (graph : Graph) (before after : Seen) (end : WorldEnd) : Type 0 where
  pub status : end.status ≡ 6
  pub e : ℕ
  pub element : Made
  pub at : slice_get (made_in graph) e ≡ Some element
  pub opening : Opening
  pub opens : opening_of element.settings ≡ Some opening
  pub fault : end.report.fault ≡ OpenFault (location_of opening)
  pub refuses : Refuses opening before after
  pub back : GivesBack (take e (map made_opening (made_in graph))) before after
  pub entries : end.report.entries ≡ []
  pub pads : end.report.pads ≡ []
  pub sinks : end.report.sinks ≡ []

-- the files of the filesinks hold these bytes, where what they hold is told
abbrev pub FilesHold : Graph → Seen → (ℕ → List ℕ) → Type 0
FilesHold graph after bytes = (d : ℕ) (m : Made) (location : List ℕ) → slice_get (made_in graph) d ≡ Some m → opening_of m.settings ≡ Some (Write location) → ForSome (after.output location) (λ file. file ≡ bytes d)

-- where a count of failures is told, it rose by so many at least, up to its last value
abbrev pub RoseBy : ℕ → Option ℕ → Option ℕ → Type 0
RoseBy n before after = ForSome before (λ b. ForSome after (λ a. plus b n ≤ a))

-- so many calls of the file of an element failed: the failures of all files rose by them, and those of its location, where
-- they are told
abbrev pub FileFailed : Graph → Seen → Seen → ℕ → ℕ → Type 0
FileFailed graph before after e n = (m : Made) (opening : Opening) → slice_get (made_in graph) e ≡ Some m → opening_of m.settings ≡ Some opening
    → Rose before.faults after.faults × ToldRose (before.faults_of (location_of opening)) (after.faults_of (location_of opening))
    × RoseBy n (Some before.faults) (Some after.faults) × RoseBy n (before.faults_of (location_of opening)) (after.faults_of (location_of opening))

-- A run that began has ended. It answered no command.
pub record RunEnded (graph : Graph) (before after : Seen) (end : WorldEnd) : Type 0 where
  pub entries : end.report.entries ≡ []
  pub ended : HasEnded graph before (FilesHold graph after) (FileFailed graph before after) end

-- a run that did not begin, by what its elements open
pub record NotBegun (openings : List (Option Opening)) (before after : Seen) (end : WorldEnd) : Type 0 where
  pub status : end.status ≡ 6
  pub place : ℕ
  pub opening : Opening
  pub at : slice_get openings place ≡ Some (Some opening)
  pub fault : end.report.fault ≡ OpenFault (location_of opening)
  pub refuses : Refuses opening before after
  pub back : GivesBack (take place openings) before after
  pub entries : end.report.entries ≡ []
  pub pads : end.report.pads ≡ []
  pub sinks : end.report.sinks ≡ []

abbrev pub IsWorldEnd : Graph → Seen → Seen → WorldEnd → Type 0
IsWorldEnd graph before after end = RunUnopened graph before after end ⊎ RunEnded graph before after end

-- no filesink of a line writes this location
abbrev pub IsUnwritten : Graph → List ℕ → Type 0
IsUnwritten graph location = (e : ℕ) (m : Made) → slice_get (made_in graph) e ≡ Some m → opening_of m.settings ≡ Some (Write location) → ⊥

-- the statuses that a run of a line answers
abbrev pub IsRunStatus : ℕ → Type 0
IsRunStatus n = (n ≡ 0) ⊎ (n ≡ 6) ⊎ (n ≡ 7) ⊎ (n ≡ 8) ⊎ (n ≡ 9) ⊎ (n ≡ 10) ⊎ (n ≡ 11) ⊎ (n ≡ 12) ⊎ (n ≡ 13) ⊎ (n ≡ 15)
