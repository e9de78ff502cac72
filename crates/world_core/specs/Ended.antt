-- How a run of a launch line that began has ended: what its report says, what its files hold, and the cause of its status.
-- `Holds` says that the files of the filesinks hold these bytes, by the numbers of the elements, and `Failed` that calls of
-- the file of an element failed, and how many.
use Rattle.std.specs.Prelude.{◌≡◌, ◌≢◌, ◌≤◌, ◌<◌, ◌⊎◌, ℕ, All, List, length, None, Some, slice_get}
use Rattle.flow_model.specs.declared.fault.ElementFault.{ElementFault}
use Rattle.flow_model.specs.declared.fault.ElementFault.TheVariants.{TooLong}
use Rattle.gst_outside.specs.Causes.{Rose}
use Rattle.flow_model.specs.Eval.{eval}
use Rattle.flow_model.specs.Item.{Item}
use Rattle.graph_core.specs.Elements.{Made}
use Rattle.graph_core.specs.Graph.{made as made_in, links as links_in}
use Rattle.graph_pads.specs.Links.{sink_behind}
use Rattle.graph_core.specs.declared.graph.Graph.{Graph}
use Rattle.graph_pads.specs.declared.pad.PadLink.{PadLink}
use Rattle.graph_pads.specs.declared.pad.PadPlace.{PadPlace}
use Rattle.el_settings.specs.Asked.{source_pads}
use Rattle.el_settings.specs.declared.settings.Settings.{Settings}
use Rattle.graph_parts.specs.Files.{WereTold, opening_of}
use Rattle.graph_core.specs.GraphPlan.{graph_plan, owner_of, sink_at as place_at}
use Rattle.gst_outside.specs.Seen.{Seen}
use Rattle.run_files.specs.declared.end.Opening.TheVariants.{Read, Write}
use Rattle.run_report.specs.declared.report.Fault.TheVariants as faults
use Rattle.run_report.specs.declared.report.Report.{Report}
use Rattle.run_report.specs.declared.report.StalledTask.{StalledTask}
use Rattle.graph_tasks.specs.Owed.{AreWhole, AreWritten, IsOwedMore, IsPartWritten, IsWritten, Refuses, WantsLink, went_from}
use Rattle.world_core.specs.Cut.{IsCutBefore}
use Rattle.world_core.specs.Over.{IsOver}
use Rattle.world_core.specs.Pads.{source_name}
use Rattle.world_core.specs.Stalled.{IsStalled}
use Rattle.world_core.specs.Told.{element_fault, element_status, pad_entries, sink_entries}
use Rattle.world_core.specs.declared.ended.WorldEnd.{WorldEnd}

-- the most items that cross a pad
abbrev pub most_items : ℕ
most_items = 1099511627776

-- The counts of a report are those of the histories of the line's evaluation, cut at these counts, and of the files of
-- its filesinks. `Cause` says what else is known of the histories and of the files.
pub record IsRendered (contents : ℕ → List ℕ) (graph : Graph) (Holds : (ℕ → List ℕ) → Type 0) (report : Report) (Cause : (ℕ → List Item) → (ℕ → List ℕ) → Type 0) : Type 0 where
  pub h : ℕ → List Item
  pub evaluated : (p : ℕ) → owner_of p < length (made_in graph) → eval (graph_plan contents graph (λ q. length (h q))) p ≡ h p
  pub pads : report.pads ≡ pad_entries (made_in graph) h
  pub limit : All (λ count. count.items ≤ most_items) report.pads
  pub bytes : ℕ → List ℕ
  pub sinks : report.sinks ≡ sink_entries (made_in graph) bytes
  pub files : Holds bytes
  pub cause : Cause h bytes

-- so it is where the contents of what the line's sources read are told
abbrev pub TellsRun : Graph → Seen → ((ℕ → List ℕ) → Type 0) → Report → ((ℕ → List ℕ) → (ℕ → List Item) → (ℕ → List ℕ) → Type 0) → Type 0
TellsRun graph before Holds report Cause = (contents : ℕ → List ℕ) → WereTold (made_in graph) before contents → IsRendered contents graph Holds report (Cause contents)

-- The run is over, so EOS came to all live sinks, and every pad is whole.
pub record EndsEos (graph : Graph) (before : Seen) (Holds : (ℕ → List ℕ) → Type 0) (end : WorldEnd) : Type 0 where
  pub status : end.status ≡ 0
  pub fault : end.report.fault ≡ faults.Nothing
  pub tells : TellsRun graph before Holds end.report
      (λ contents h bytes. AreWritten (made_in graph) (links_in graph) h bytes × AreWhole contents graph h × IsOver contents graph h h)

-- No task can go on, each for the reason that is told, and the condition of status 0 does not hold.
pub record EndsStalled (graph : Graph) (before : Seen) (Holds : (ℕ → List ℕ) → Type 0) (end : WorldEnd) : Type 0 where
  pub status : end.status ≡ 12
  pub tasks : List StalledTask
  pub fault : end.report.fault ≡ faults.Stalled None tasks
  pub tells : TellsRun graph before Holds end.report
      (λ contents h bytes. AreWritten (made_in graph) (links_in graph) h bytes × IsStalled contents graph h tasks)

-- A source could not be read: what crossed its pad is cut before what could not be read, and has no EOS.
pub record EndsUnread (graph : Graph) (before : Seen) (Holds : (ℕ → List ℕ) → Type 0) (Failed : ℕ → ℕ → Type 0) (end : WorldEnd) : Type 0 where
  pub status : end.status ≡ 7
  pub e : ℕ
  pub element : Made
  pub at : slice_get (made_in graph) e ≡ Some element
  pub location : List ℕ
  pub reads : opening_of element.settings ≡ Some (Read location)
  pub first : ℕ
  pub second : ℕ
  pub fault : end.report.fault ≡ faults.ReadFault location first second
  pub rose : Rose first second
  pub failed : Failed e second
  pub tells : TellsRun graph before Holds end.report
      (λ contents h bytes. AreWritten (made_in graph) (links_in graph) h bytes × IsCutBefore contents h e element.settings)

-- A filesink could not be written: of the next item that was owed to it a part stands in its file.
pub record EndsUnwritten (graph : Graph) (before : Seen) (Holds : (ℕ → List ℕ) → Type 0) (Failed : ℕ → ℕ → Type 0) (end : WorldEnd) : Type 0 where
  pub status : end.status ≡ 8
  pub d : ℕ
  pub element : Made
  pub at : slice_get (made_in graph) d ≡ Some element
  pub location : List ℕ
  pub writes : opening_of element.settings ≡ Some (Write location)
  pub first : ℕ
  pub second : ℕ
  pub fault : end.report.fault ≡ faults.WriteFault location first second
  pub rose : Rose first second
  pub failed : Failed d second
  pub tells : TellsRun graph before Holds end.report
      (λ contents h bytes. ((c : ℕ) → c ≢ d → IsWritten (made_in graph) (links_in graph) h bytes c) × IsPartWritten contents (made_in graph) (links_in graph) h bytes d element.settings)

-- The rule of an element has a fault at its next item: status 9, 10 or 15, by the fault.
pub record EndsRefused (graph : Graph) (before : Seen) (Holds : (ℕ → List ℕ) → Type 0) (end : WorldEnd) : Type 0 where
  pub d : ℕ
  pub element : Made
  pub at : slice_get (made_in graph) d ≡ Some element
  pub own : ElementFault
  pub status : end.status ≡ element_status own
  pub fault : end.report.fault ≡ element_fault element.name own
  pub tells : TellsRun graph before Holds end.report
      (λ contents h bytes. AreWritten (made_in graph) (links_in graph) h bytes × Refuses contents (made_in graph) (links_in graph) h d element.settings own)

-- A buffer is owed to a source pad that is not linked, nor is any other of its element.
pub record EndsUnlinked (graph : Graph) (before : Seen) (Holds : (ℕ → List ℕ) → Type 0) (end : WorldEnd) : Type 0 where
  pub status : end.status ≡ 11
  pub source : PadPlace
  pub element : Made
  pub at : slice_get (made_in graph) source.element ≡ Some element
  pub there : source.pad < source_pads element.settings
  pub alone : sink_behind (links_in graph) source ≡ None
  pub place : ℕ
  pub fault : end.report.fault ≡ faults.NotLinked (source_name (made_in graph) source) place
  pub tells : TellsRun graph before Holds end.report
      (λ contents h bytes. AreWritten (made_in graph) (links_in graph) h bytes × (length (went_from h source) ≡ place)
      × WantsLink contents (made_in graph) (links_in graph) h source)

-- The most items crossed a source pad of an element, and another item is owed there, or the rule of the element has at its next item
-- the fault that looks alike.
pub record PassesLimit (contents : ℕ → List ℕ) (made : List Made) (links : List PadLink) (h : ℕ → List Item) (e : ℕ) (settings : Settings) : Type 0 where
  pub pad : ℕ
  pub there : pad < source_pads settings
  pub full : length (went_from h (place_at e pad)) ≡ most_items
  pub more : IsOwedMore contents made links h (place_at e pad) ⊎ Refuses contents made links h e settings (TooLong most_items 1)

-- More items than the limit were to cross a pad of an element.
pub record EndsTooLong (graph : Graph) (before : Seen) (Holds : (ℕ → List ℕ) → Type 0) (end : WorldEnd) : Type 0 where
  pub status : end.status ≡ 15
  pub e : ℕ
  pub element : Made
  pub at : slice_get (made_in graph) e ≡ Some element
  pub fault : end.report.fault ≡ faults.TooLong element.name most_items 1
  pub tells : TellsRun graph before Holds end.report
      (λ contents h bytes. AreWritten (made_in graph) (links_in graph) h bytes × PassesLimit contents (made_in graph) (links_in graph) h e element.settings)

abbrev pub HasEnded : Graph → Seen → ((ℕ → List ℕ) → Type 0) → (ℕ → ℕ → Type 0) → WorldEnd → Type 0
HasEnded graph before Holds Failed end =
    EndsEos graph before Holds end ⊎ EndsUnread graph before Holds Failed end ⊎ EndsUnwritten graph before Holds Failed end
    ⊎ EndsRefused graph before Holds end ⊎ EndsUnlinked graph before Holds end ⊎ EndsTooLong graph before Holds end ⊎ EndsStalled graph before Holds end
