-- A file behind a body, behind an item, and behind a list.
use Rattle.std.proofs.Common.{◌≡◌, ℕ, Bool, true, false, if◌then◌else◌, List, [], ◌∷◌, fold, refl, ap, ◌∙◌, Option, Result, Ok, Err, IfOk}
use Rattle.gst_time.specs.declared.segment.Segment.{Segment}
use Rattle.flow_model.specs.Item.{Item, Buf, Ev, StreamStart, NewCaps, NewSegment, Tag, Gap, FlushStop, Eos, Format, Bytes, Time}
use Rattle.flow_model.specs.SinkBytes.{Disk, empty_disk, at_segment, rendered, reopened, next_disk, disk_after}
use Rattle.gst_item.specs.declared.flow.Flow.{Flow}
use Rattle.el_sink.specs.declared.file_sink.FileSink.{FileSink}
use Rattle.el_sink.specs.Ended.{next_ended, has_ended, flow_for, flow_behind}
use Rattle.el_sink.specs.Held.{Held}

-- the sink knows whether its stream has ended as the list does
chosen : (b : Bool) (d r : Disk) (v : Bool) → d.ended ≡ b → (b ≡ false → r.ended ≡ v) → (if b then d else r).ended ≡ (if b then true else v)
chosen true d r v e h = e
chosen false d r v e h = h refl

segment_keeps : (d : Disk) (segment : Segment) (format : Format) → (at_segment d segment format).ended ≡ d.ended
segment_keeps d segment Bytes = refl
segment_keeps d segment Time = refl

reopened_open : (keep : Bool) (d : Disk) → (reopened keep d).ended ≡ false
reopened_open true d = refl
reopened_open false d = refl

next_agrees : (keep : Bool) (d : Disk) (x : Item) → (next_disk keep d x).ended ≡ next_ended d.ended x
next_agrees keep d (Buf b) = chosen d.ended d (rendered d (Buf b)) false refl (λ e. e)
next_agrees keep d (Ev (StreamStart id)) = chosen d.ended d d false refl (λ e. e)
next_agrees keep d (Ev (NewCaps caps)) = chosen d.ended d d false refl (λ e. e)
next_agrees keep d (Ev (NewSegment segment)) = chosen d.ended d (at_segment d segment segment.format) false refl (λ e. segment_keeps d segment segment.format ∙ e)
next_agrees keep d (Ev (Tag title)) = chosen d.ended d d false refl (λ e. e)
next_agrees keep d (Ev (Gap pts duration)) = chosen d.ended d d false refl (λ e. e)
next_agrees keep d (Ev (FlushStop number)) = reopened_open keep d
next_agrees keep d (Ev Eos) = chosen d.ended d (rendered d (Ev Eos)) true refl (λ e. refl)

agree_along : (keep : Bool) (d : Disk) (list : List Item) → (fold (next_disk keep) d list).ended ≡ fold next_ended d.ended list
agree_along keep d [] = refl
agree_along keep d (x ∷ xs) = agree_along keep (next_disk keep d x) xs ∙ ap (λ ended. fold next_ended ended xs) (next_agrees keep d x)

pub ended_agrees : (keep : Bool) (list : List Item) → (disk_after keep list).ended ≡ has_ended list
ended_agrees keep list = agree_along keep empty_disk list

-- what the sink answers is what its list says
pub flow_by_list : {K E : Type 0} (bytes_of : K → Option (List ℕ)) (file : FileSink K) (answer : Result Flow E) (x : Item) → IfOk answer (λ flow. flow ≡ flow_for file.ended x)
    → IfOk answer (λ flow. (keep : Bool) (list : List Item) → Held bytes_of keep file list → flow ≡ flow_behind list x)
flow_by_list bytes_of file (Ok flow) x e = λ keep list held. e ∙ ap (λ ended. flow_for ended x) (held.disk.over ∙ ended_agrees keep list)
flow_by_list bytes_of file (Err fault) x e = tt
