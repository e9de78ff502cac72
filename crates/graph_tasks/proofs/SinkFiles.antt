-- A sink whose element stands holds all that came to it in its file, and one of which a write failed a part of an item more.
use Rattle.std.proofs.Common.{◌≡◌, ℕ, suc, Bool, true, false, if◌then◌else◌, List, [], ◌∷◌, Some, length, take, refl, sym, ap, ◌∙◌, subst}
use Rattle.std.specs.Prelude.{fold}
use Rattle.std.specs.Option.{ForSome}
use Rattle.gst_outside.specs.Bytes.{written}
use Rattle.gst_outside.specs.declared.sink.Sink as sinks
use Rattle.flow_model.specs.Item.{Item, body_of, is_flush_stop}
use Rattle.flow_model.specs.Call.{Call, feeds, items}
use Rattle.flow_model.specs.SinkBytes.{Disk, disk_after, empty_disk, next_disk, rendered, sink_bytes}
use Rattle.flow_model.specs.Moment.{Behavior}
use Rattle.flow_model.specs.SinkPads.{InSection, flush_stops_given}
use Rattle.el_set.specs.declared.sink.SinkElement.{SinkElement}
use Rattle.el_set.specs.declared.sink.SinkElement.TheVariants as sink_kinds
use Rattle.el_sink.specs.declared.file_sink.FileSink.{FileSink}
use Rattle.el_sink.specs.Held.{length_of, sink_of}
use Rattle.task_elements.specs.Stands.{SinkFell, SinkStands, StreamStands, takes_all}
use Rattle.task_elements.specs.declared.element.StreamElement.{StreamElement}
use Rattle.task_elements.specs.declared.element.StreamElement.TheVariants as kinds
use Rattle.graph_tasks.specs.Written.{HasAll, HasPart, HoldsBytes}
use Rattle.gst_value.proofs.Basics.{some_same, none_some}
use Rattle.flow_model.proofs.Items.{items_feeds as items_fed}

pub feeds_same : (one other : List Item) → feeds one ≡ feeds other → one ≡ other
feeds_same one other same = sym (items_fed one) ∙ ap items same ∙ items_fed other

some_zero : {n : ℕ} → suc n ≡ 0 → ⊥
some_zero e = cc

-- without a flush it is one whether that keeps bytes
disk_same : (keep other : Bool) (list : List Item) (disk : Disk) → flush_stops_given (feeds list) ≡ 0
    → fold (next_disk keep) disk list ≡ fold (next_disk other) disk list
disk_same keep other [] disk none = refl
disk_same keep other (x ∷ list) disk none = go (is_flush_stop x) refl none (disk_same keep other list)
  where
    go : (b : Bool) → is_flush_stop x ≡ b → (if b then suc (flush_stops_given (feeds list)) else flush_stops_given (feeds list)) ≡ 0
        → ((d : Disk) → flush_stops_given (feeds list) ≡ 0 → fold (next_disk keep) d list ≡ fold (next_disk other) d list)
        → fold (next_disk keep) disk (x ∷ list) ≡ fold (next_disk other) disk (x ∷ list)
    go true is none later = absurd (some_zero none)
    go false is none later = rw is (later (if disk.ended then disk else rendered disk x) none)

same_disk : (keep other : Bool) (list : List Item) → flush_stops_given (feeds list) ≡ 0 → disk_after keep list ≡ disk_after other list
same_disk keep other list none = disk_same keep other list empty_disk none

quiet_of : (took : List (List Call)) (list : List Item) → took ≡ feeds list ∷ [] → InSection 0 took → flush_stops_given (feeds list) ≡ 0
quiet_of took list is first = (subst (λ (css : List (List Call)). InSection 0 css) is first).0

module _ {K : Type 0} (k : sinks.Ghosts K) where
  -- a file whose length and bytes are these
  holds : (one : FileSink K) (file : K) (bytes other : List ℕ) → Some (sink_of one) ≡ Some file → other ≡ bytes → length_of one ≡ length bytes
      → ForSome (k.bytes (sink_of one)) (λ is. is ≡ bytes) → HoldsBytes k (kinds.Sink (sink_kinds.File one)) file other
  holds one file bytes other is same size told = record {
    size = ap Some (size ∙ ap length (sym same));
    told = subst (λ (f : K). ForSome (k.bytes f) (λ is. is ≡ other)) (some_same is)
        (subst (λ (bs : List ℕ). ForSome (k.bytes (sink_of one)) (λ is. is ≡ bs)) (sym same) told);
  }

  module _ (behavior : Behavior) (took : List (List Call)) (first : InSection 0 took) (came : List Item)
      (all : behavior ≡ takes_all → (list : List Item) → took ≡ feeds list ∷ [] → came ≡ list) where
    of_sink : (sink : SinkElement K) → SinkStands k.bytes sink behavior took → HasAll k (kinds.Sink sink) came
    of_sink (sink_kinds.Fake fake) t keep file is = absurd (none_some is)
    of_sink (sink_kinds.File one) t keep file is =
        let none = quiet_of took t.list t.took_is first in
        let same = ap (sink_bytes keep) (all t.behavior_is t.list t.took_is) ∙ ap (λ (d : Disk). d.bytes) (same_disk keep t.keep t.list none) in
        holds one file (sink_bytes t.keep t.list) (sink_bytes keep came) is same t.told.disk.size t.told.disk.told

    -- An element whose file is told stands for all that came to it, where a sink took all that came.
    pub has_all : (element : StreamElement K) → StreamStands k.bytes element behavior took → HasAll k element came
    has_all (kinds.Sink sink) t keep file is = of_sink sink t keep file is
    has_all _ t keep file is = absurd (none_some is)

    -- One of which a write failed holds a part of the item too.
    pub has_part : (x : Item) (sink : SinkElement K) → SinkFell k.bytes sink x behavior took → HasPart k (kinds.Sink sink) came x
    has_part x (sink_kinds.Fake fake) t keep file is = absurd t.told
    has_part x (sink_kinds.File one) t keep file is =
        let none = quiet_of took t.list t.took_is first in
        let disk = ap (disk_after keep) (all t.behavior_is t.list t.took_is) ∙ same_disk keep t.keep t.list none in
        let same = ap (λ (d : Disk). written d.bytes d.place (take t.told.count (body_of x))) disk in
        (t.told.count, holds one file _ _ is same t.told.size t.told.told)
