-- What the files of a run of a script hold where it has stopped: all that their links gave them, but one of which a write failed.
use Rattle.std.proofs.Common.{◌≡◌, ◌≢◌, ◌⊎◌, ◌<◌, ℕ, Bool, true, false, List, [], ◌∷◌, Option, Some, length, refl, sym, ap, ◌∙◌, subst, inl, inr}
use Rattle.std.specs.Prelude.{slice_get, take}
use Rattle.std.specs.Option.{option_map, option_map_or}
use Rattle.std.proofs.lemmas.Bool.{true≢false}
use Rattle.std.proofs.lemmas.Option.{slice_get-map}
use Rattle.el_set.specs.Made.{keeps_flushed}
use Rattle.el_settings.specs.Asked.{is_source}
use Rattle.flow_model.specs.Call.{feeds, items}
use Rattle.flow_model.specs.Feeding.{IsFaultOf}
use Rattle.flow_model.specs.Item.{Item, body_of}
use Rattle.flow_model.specs.Moment.{Behavior, Moment, behavior_at}
use Rattle.flow_model.specs.Refuses.{RefusesBy}
use Rattle.flow_model.specs.SinkBytes.{disk_after, sink_bytes}
use Rattle.flow_model.specs.declared.element.TaskElement as elements
use Rattle.flow_model.specs.declared.source.TaskSource as givers
use Rattle.flow_model.specs.declared.fault.ElementFault.{ElementFault}
use Rattle.flow_model.specs.declared.refusal.Refusal.{Refusal}
use Rattle.flow_model.specs.declared.refusal.Refusal.TheVariants.{Fault, Unwritten}
use Rattle.gst_outside.specs.Bytes.{written}
use Rattle.gst_outside.specs.declared.sink.Sink as sinks
use Rattle.gst_value.proofs.Basics.{none_some, some_same}
use Rattle.gst_value.proofs.Places.{map_got}
use Rattle.graph_core.specs.Allowed.{first_pad}
use Rattle.graph_core.specs.Elements.{Made, has}
use Rattle.graph_edits.specs.Edited.{Edited, is_there}
use Rattle.graph_edits.specs.Plans.{items_at}
use Rattle.graph_parts.specs.Back.{HasPart}
use Rattle.graph_parts.specs.Put.{Among}
use Rattle.graph_parts.proofs.OwnFiles.{IsWriter}
use Rattle.graph_tasks.specs.Written.{AreStreams, HasAll, HasPart as HasShort, HoldsBytes}
use Rattle.graph_tasks.proofs.SinkFiles.{has_all, has_part}
use Rattle.lane_core.specs.declared.ends.Inlet as inlets
use Rattle.lane_core.specs.declared.ends.Outlet as outlets
use Rattle.net_task.specs.Frame.{PartFrame, TaskFrame, frame_of, part_frame}
use Rattle.net_task.specs.declared.task.Task.{Task}
use Rattle.net_turns.specs.Net.{HasElement, Owns}
use Rattle.script_text.specs.declared.command.Command.{Command}
use Rattle.task_elements.specs.Stands.{StreamFell, file_in, takes_all}
use Rattle.task_elements.specs.declared.element.StreamElement.{StreamElement}
use Rattle.task_elements.specs.declared.element.StreamElement.TheVariants as kinds
use Rattle.task_elements.specs.declared.source.StreamSource.{StreamSource}
use Rattle.task_parts.specs.Fault.{refusal_fault}
use Rattle.task_parts.specs.declared.fault.TaskFault.{TaskFault}
use Rattle.task_parts.specs.declared.fault.TaskFault.TheVariants.{OutOfMemory, WriteFault}
use Rattle.task_parts.specs.declared.part.Part.{Part}
use Rattle.edit_acts.specs.Evaluated.{RunsAreEvaluated as HistoriesAreEvaluated}
use Rattle.world_core.specs.Evaluated.{HasFallen, IsPartOf, IsRunAt, WasAt}
use Rattle.world_core.specs.declared.running.Running.{Running}
use Rattle.world_core.proofs.Members.{mapped}
use Rattle.world_core.proofs.ShortFiles.{HoldsShort, IsNextAt, next_at}
use Rattle.world_core.proofs.SinkAnswers.{one_given, sink_alone, takes_none, writer_opens}
use Rattle.world_core.proofs.Traced.{part_back}

module _ {S K I O L : Type 0} {giver : givers.Ghosts (StreamSource S)} {taker : elements.Ghosts (StreamElement K)} {i : inlets.Ghosts I L O} {o : outlets.Ghosts O L}
    (k : sinks.Ghosts K) (streams : AreStreams k taker) (law : HistoriesAreEvaluated giver taker i o) (contents : ℕ → List ℕ) (script : List Command) (begun : Edited) (met : Option TaskFault)
    (run : Running (StreamSource S) (StreamElement K) I O L giver taker i o) (w : IsRunAt contents script begun met run) (memory : met ≢ Some OutOfMemory) where
  abbrev g : Edited
  g = w.of.scripted.g

  abbrev m : Moment
  m = w.of.scripted.m

  -- all that came to the sink pad of an element
  abbrev pub came : ℕ → List Item
  came d = items_at g m.history (first_pad d)

  -- a write of an element failed, which is the fault that a task met, and a part of an item stands in its file
  pub record IsShort (d : ℕ) (x : StreamElement K) : Type 0 where
    pub first : ℕ
    pub second : ℕ
    pub is : met ≡ Some (WriteFault d first second)
    pub item : Item
    pub next : IsNextAt g m.history w.of.scripted.due d item
    pub part : HasShort k x (came d) item

  module _ (d : ℕ) (one : Made) (location : List ℕ) (here : slice_get g.made d ≡ Some one) (own : IsWriter one.settings location) (low : d < length g.made) where
    took_all : (list : List Item) → m.took d ≡ feeds list ∷ [] → came d ≡ list
    took_all list is =
        one_given m.history (g.spans d) list
        (sym (law.took contents g m w.of.scripted.due w.was w.of.scripted.has w.of.fits d low (sink_alone g d one location here own)) ∙ is)

    held : (x : StreamElement K) (behavior : Behavior) → taker.stands x behavior (m.took d) → HasAll k x (came d)
    held x behavior stands = has_all k behavior (m.took d) (w.of.scripted.has.run.net.first d).0 (came d) (λ is list took. took_all list took) x (streams.stands x behavior (m.took d) stands)

    -- one that refused an item fell short of it
    module _ (x : StreamElement K) (pad : ℕ) (item : Item) (is_next : IsNextAt g m.history w.of.scripted.due d item) where
      of_refusal : (refusal : Refusal) → met ≡ Some (refusal_fault d refusal) → RefusesBy (behavior_at m d) (m.took d) pad item refusal → behavior_at m d ≡ takes_all → HasShort k x (came d) item
          → HasAll k x (came d) ⊎ IsShort d x
      of_refusal (Unwritten a b) is why all part = inr (record { first = a; second = b; is = is; item = item; next = is_next; part = part })
      of_refusal (Fault own_fault) is why all part =
          let none = takes_none (m.took d) pad item own_fault (subst (λ (b : Behavior). IsFaultOf (b.answers (m.took d) pad item) own_fault) all why) in
          absurd (memory (is ∙ ap (λ (f : ElementFault). Some (refusal_fault d (Fault f))) none))

    of_kind : (x : StreamElement K) (pad : ℕ) (item : Item) → IsNextAt g m.history w.of.scripted.due d item → (refusal : Refusal) → met ≡ Some (refusal_fault d refusal) → RefusesBy (behavior_at m d) (m.took d) pad item refusal
        → StreamFell k.bytes x (behavior_at m d) (m.took d) pad item → HasAll k x (came d) ⊎ IsShort d x
    of_kind (kinds.Sink sink) pad item is_next refusal is why fell =
        of_refusal (kinds.Sink sink) pad item is_next refusal is why fell.behavior_is
        (has_part k (behavior_at m d) (m.took d) (w.of.scripted.has.run.net.first d).0 (came d) (λ is list took. took_all list took) item sink fell)
    of_kind _ pad item is_next refusal is why fell = inl (λ keep file is. absurd (none_some is))

    -- ---- the element is there, once

    -- a task is framed as it was
    was_task : (place : ℕ) (task : Task (StreamSource S) (StreamElement K) I O L giver taker i o) → slice_get run.tasks.items place ≡ Some task
        → (was : Task (StreamSource S) (StreamElement K) I O L giver taker i o) × (slice_get w.was.tasks place ≡ Some was) × (frame_of was ≡ frame_of task)
    was_task place task at =
        mapped (λ (t : Task (StreamSource S) (StreamElement K) I O L giver taker i o). frame_of t) (slice_get w.was.tasks place) (frame_of task)
        (sym (w.frames place) ∙ ap (option_map (λ (t : Task (StreamSource S) (StreamElement K) I O L giver taker i o). frame_of t)) at)

    is_task : (place : ℕ) (task : Task (StreamSource S) (StreamElement K) I O L giver taker i o) → slice_get w.was.tasks place ≡ Some task
        → (is : Task (StreamSource S) (StreamElement K) I O L giver taker i o) × (slice_get run.tasks.items place ≡ Some is) × (frame_of is ≡ frame_of task)
    is_task place task at =
        mapped (λ (t : Task (StreamSource S) (StreamElement K) I O L giver taker i o). frame_of t) (slice_get run.tasks.items place) (frame_of task)
        (w.frames place ∙ ap (option_map (λ (t : Task (StreamSource S) (StreamElement K) I O L giver taker i o). frame_of t)) at)

    -- where an element of a task was, and what it was
    record WasPart (part : Part (StreamElement K) O taker) (is : IsPartOf run.tasks.items part) : Type 0 where
      task : Task (StreamSource S) (StreamElement K) I O L giver taker i o
      at : slice_get w.was.tasks is.place ≡ Some task
      was : Part (StreamElement K) O taker
      inner : slice_get task.parts.items is.within ≡ Some was
      number : was.number ≡ part.number
      owns : Owns w.was.tasks is.place part.number

    was_part : (part : Part (StreamElement K) O taker) (is : IsPartOf run.tasks.items part) → WasPart part is
    was_part part is =
        let task = was_task is.place is.task is.at in
        let was = part_back is.task task.0 is.within part (sym task.2) is.is in
        let number : was.0.number ≡ part.number = sym (ap (λ (f : PartFrame). f.number) was.2) in
        record {
          task = task.0;
          at = task.1;
          was = was.0;
          inner = was.1;
          number = number;
          owns = record {
            task = task.0;
            at = task.1;
            has = HasElement.part is.within (part_frame o was.0) (slice_get-map (part_frame o) task.0.parts.items is.within ∙ ap (option_map (part_frame o)) was.1) number;
          };
        }

    one_part : (one other : Part (StreamElement K) O taker) → IsPartOf run.tasks.items one → IsPartOf run.tasks.items other → one.number ≡ d → other.number ≡ d → one ≡ other
    one_part one other a b one_is other_is =
        let x = was_part one a in
        let y = was_part other b in
        let place : a.place ≡ b.place =
        w.of.scripted.has.run.net.wired.once a.place b.place d (subst (Owns w.was.tasks a.place) one_is x.owns) (subst (Owns w.was.tasks b.place) other_is y.owns) in
        let same : x.task ≡ y.task = some_same (sym x.at ∙ ap (slice_get w.was.tasks) place ∙ y.at) in
        let within : a.within ≡ b.within =
        (w.of.scripted.has.run.net.tied b.place y.task y.at).parts_tied.once a.within b.within x.was y.was
        (subst (λ (t : Task (StreamSource S) (StreamElement K) I O L giver taker i o). slice_get t.parts.items a.within ≡ Some x.was) same x.inner) y.inner (x.number ∙ one_is ∙ sym (y.number ∙ other_is)) in
        let task : a.task ≡ b.task = some_same (sym a.at ∙ ap (slice_get run.tasks.items) place ∙ b.at) in
        some_same (sym a.is ∙ ap (λ (t : Task (StreamSource S) (StreamElement K) I O L giver taker i o). slice_get t.parts.items a.within) task ∙ ap (slice_get b.task.parts.items) within ∙ b.is)

    there_of : (part : Part (StreamElement K) O taker) → IsPartOf run.tasks.items part → part.number ≡ d → is_there g d ≡ true
    there_of part is number = w.of.scripted.has.run.are.there is.place d (subst (Owns w.was.tasks is.place) number (was_part part is).owns)

    gone_of : (part : Part (StreamElement K) O taker) → IsPartOf run.removed.items part → part.number ≡ d → is_there g d ≡ false
    gone_of part is number = sym (ap (is_there g) number) ∙ (w.aside.parts part is).1

    -- ---- it fell short, or has all

    part_held : (part : Part (StreamElement K) O taker) → IsPartOf run.tasks.items part → part.number ≡ d → HasAll k part.element (came d) ⊎ IsShort d part.element
    part_held part is number = by (w.parts part is)
      where
        by : taker.stands part.element (behavior_at m part.number) (m.took part.number) ⊎ HasFallen m w.was.tasks met part → HasAll k part.element (came d) ⊎ IsShort d part.element
        by (inl stands) = inl (held part.element (behavior_at m d) (subst (λ (n : ℕ). taker.stands part.element (behavior_at m n) (m.took n)) number stands))
        by (inr f) =
            let was = subst (λ (n : ℕ). WasAt m w.was.tasks n f.pad f.item) number f.was_at in
            of_kind part.element f.pad f.item (next_at contents script begun w.was w.of d f.pad f.item (there_of part is number) (sink_alone g d one location here own) was)
            f.refusal (f.is ∙ ap (λ (n : ℕ). Some (refusal_fault n f.refusal)) number)
            (subst (λ (n : ℕ). RefusesBy (behavior_at m n) (m.took n) f.pad f.item f.refusal) number f.why)
            (streams.fell part.element (behavior_at m d) (m.took d) f.pad f.item (subst (λ (n : ℕ). taker.fell part.element (behavior_at m n) (m.took n) f.pad f.item) number f.fell))

    gone_held : (part : Part (StreamElement K) O taker) → IsPartOf run.removed.items part → part.number ≡ d → HasAll k part.element (came d)
    gone_held part is number =
        let z = w.aside.parts part is in
        held part.element z.2.0 (subst (λ (n : ℕ). taker.stands part.element z.2.0 (m.took n)) number z.2.1)

    -- ---- where it is

    no_source : has is_source g.made d ≡ false
    no_source = ap (λ (found : Option Made). option_map_or (λ (x : Made). is_source x.settings) found false) here ∙ own.no_source

    -- an element of the number
    data IsSomewhere : Type 0 where
      in_task : (part : Part (StreamElement K) O taker) → IsPartOf run.tasks.items part → part.number ≡ d → IsSomewhere
      set_aside : (part : Part (StreamElement K) O taker) → IsPartOf run.removed.items part → part.number ≡ d → IsSomewhere

    somewhere : IsSomewhere
    somewhere = by (is_there g d) refl
      where
        of_task : (place : ℕ) (task : Task (StreamSource S) (StreamElement K) I O L giver taker i o) → slice_get w.was.tasks place ≡ Some task → HasElement (frame_of task) d → IsSomewhere
        of_task place task at (HasElement.part within frame is number) =
            let now = is_task place task at in
            let part = map_got (part_frame o) now.0.parts.items within frame (ap (λ (f : TaskFrame). slice_get f.parts within) now.2 ∙ is) in
            IsSomewhere.in_task part.0 (record { place = place; task = now.0; at = now.1; within = within; is = part.1 }) (sym (ap (λ (f : PartFrame). f.number) part.2) ∙ number)
        of_task place task at (HasElement.source file wire is) = absurd (true≢false (sym (w.of.scripted.has.run.are.sources place task d file wire at is) ∙ no_source))

        by : (b : Bool) → is_there g d ≡ b → IsSomewhere
        by true there = let own = w.of.scripted.has.run.are.owned d there (w.of.fits.awake d) in of_task own.0 own.1.task own.1.at own.1.has
        by false gone = let part = w.aside.elements d low gone no_source in IsSomewhere.set_aside part.0 part.1 part.2

    -- ---- what its file holds

    abbrev pub IsElement : StreamElement K → Type 0
    IsElement x = Among HasPart run.tasks.items d x ⊎ Among HasPart run.removed.items d x

    -- the bytes of its file, whichever element of the number is asked: those of all that came, or a write of it failed
    pub record IsWritten : Type 0 where
      pub bytes : List ℕ
      pub some : (x : StreamElement K) × IsElement x
      pub holds : (x : StreamElement K) → IsElement x → (file : K) → file_in x ≡ Some file → HoldsBytes k x file bytes
      pub so : (bytes ≡ sink_bytes (keeps_flushed one.settings) (came d)) ⊎ HoldsShort g m.history w.of.scripted.due met d bytes

    module _ (files : (x : StreamElement K) → IsElement x → (file : K) × (file_in x ≡ Some file)) where
      part_in : (tasks : List (Task (StreamSource S) (StreamElement K) I O L giver taker i o)) (x : StreamElement K) → Among HasPart tasks d x
          → (part : Part (StreamElement K) O taker) × IsPartOf tasks part × (part.number ≡ d) × (part.element ≡ x)
      part_in tasks x own =
          (own.inside.one, record { place = own.place; task = own.one; at = own.at; within = own.inside.place; is = own.inside.at }, own.inside.inside.0, own.inside.inside.1)

      in_part : (tasks : List (Task (StreamSource S) (StreamElement K) I O L giver taker i o)) (part : Part (StreamElement K) O taker) → IsPartOf tasks part → part.number ≡ d → Among HasPart tasks d part.element
      in_part tasks part is number = record { place = is.place; one = is.task; at = is.at; inside = record { place = is.within; one = part; at = is.is; inside = (number, refl) } }

      apart : (one other : Part (StreamElement K) O taker) → IsPartOf run.tasks.items one → one.number ≡ d → IsPartOf run.removed.items other → other.number ≡ d → ⊥
      apart one other a one_is b other_is = true≢false (sym (there_of one a one_is) ∙ gone_of other b other_is)

      abbrev all_bytes : List ℕ
      all_bytes = sink_bytes (keeps_flushed one.settings) (came d)

      of_gone : (part : Part (StreamElement K) O taker) → IsPartOf run.removed.items part → part.number ≡ d → (x : StreamElement K) → IsElement x → (file : K) → file_in x ≡ Some file → HoldsBytes k x file all_bytes
      of_gone part is number x (inl has) file there = let p = part_in run.tasks.items x has in absurd (apart p.0 part p.1 p.2 is number)
      of_gone part is number x (inr has) file there =
          let p = part_in run.removed.items x has in
          subst (λ (y : StreamElement K). HasAll k y (came d)) p.3 (gone_held p.0 p.1 p.2) (keeps_flushed one.settings) file there

      -- the one element in a task
      module _ (part : Part (StreamElement K) O taker) (is : IsPartOf run.tasks.items part) (number : part.number ≡ d) where
        of_there : (bytes : List ℕ) → ((file : K) → file_in part.element ≡ Some file → HoldsBytes k part.element file bytes) → (x : StreamElement K) → IsElement x → (file : K) → file_in x ≡ Some file
            → HoldsBytes k x file bytes
        of_there bytes it x (inr has) file there = let p = part_in run.removed.items x has in absurd (apart part p.0 is number p.1 p.2)
        of_there bytes it x (inl has) file there =
            let p = part_in run.tasks.items x has in
            let same : part.element ≡ x = ap (λ (y : Part (StreamElement K) O taker). y.element) (one_part part p.0 is p.1 number p.2) ∙ p.3 in
            subst (λ (y : StreamElement K). HoldsBytes k y file bytes) same (it file (ap (λ (y : StreamElement K). file_in y) same ∙ there))

        short_bytes : (count : ℕ) (bytes : List ℕ) (file : K) → file_in part.element ≡ Some file → HoldsBytes k part.element file bytes → (short : IsShort d part.element)
            → (let disk = disk_after (keeps_flushed one.settings) (came d) in bytes ≡ written disk.bytes disk.place (take count (body_of short.item))) → IsWritten
        short_bytes count bytes file there holds short same = record {
          bytes = bytes;
          some = (part.element, inl (in_part run.tasks.items part is number));
          holds = of_there bytes (λ other at. subst (λ (f : K). HoldsBytes k part.element f bytes) (some_same (sym there ∙ at)) holds);
          so = inr (record {
            element = one;
            at = here;
            location = location;
            opens = writer_opens one.settings location own;
            first = short.first;
            second = short.second;
            is = short.is;
            item = short.item;
            next = short.next;
            part = count;
            bytes_are = same;
          });
        }

        of_part : HasAll k part.element (came d) ⊎ IsShort d part.element → IsWritten
        of_part (inl all) = record {
          bytes = all_bytes;
          some = (part.element, inl (in_part run.tasks.items part is number));
          holds = of_there all_bytes (all (keeps_flushed one.settings));
          so = inl refl;
        }
        of_part (inr short) =
            let own_file = files part.element (inl (in_part run.tasks.items part is number)) in
            let z = short.part (keeps_flushed one.settings) own_file.0 own_file.1 in
            short_bytes z.0 _ own_file.0 own_file.1 z.1 short refl

      pub is_written : IsWritten
      is_written = by somewhere
        where
          by : IsSomewhere → IsWritten
          by (IsSomewhere.set_aside part is number) = record { bytes = all_bytes; some = (part.element, inr (in_part run.removed.items part is number)); holds = of_gone part is number; so = inl refl }
          by (IsSomewhere.in_task part is number) = of_part part is number (part_held part is number)
