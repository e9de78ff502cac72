-- What one pad has counted is put at its number.
use Rattle.std.proofs.Common.{◌≡◌, ℕ, List, Some, inl, inr, sym, ◌∙◌, subst}
use Rattle.flow_model.specs.declared.element.TaskElement as elements
use Rattle.flow_model.specs.declared.source.TaskSource as sources
use Rattle.lane_core.specs.declared.ends.Inlet as inlets
use Rattle.lane_core.specs.declared.ends.Outlet as outlets
use Rattle.net_task.specs.declared.task.Task.{Task}
use Rattle.task_pads.specs.Pads.{number_of}
use Rattle.task_pads.specs.declared.pad.Pad.{Pad}
use Rattle.task_parts.specs.declared.head.Head.{Head}
use Rattle.task_parts.specs.declared.head.Head.TheVariants.{Source}
use Rattle.task_parts.specs.declared.head.SourceHead.{SourceHead}
use Rattle.graph_parts.specs.Counts.{HeadCounted, IsCountOf, PadCounted, PartCounted, TaskCounted}
use Rattle.graph_parts.specs.Put.{Among, PutBack}
use Rattle.graph_parts.specs.Single.{IsValue}
use Rattle.graph_parts.specs.declared.counts.Count.{Count}
use Rattle.graph_parts.proofs.Putting.{put_joined, put_there}

pub pad_counted : {O : Type 0} (pad : Pad O) (n : ℕ) (count : Count) (old new : List Count) → n ≡ number_of pad → IsCountOf pad count → PutBack (IsValue n (Some count)) old new → PutBack (PadCounted pad) old new
pad_counted pad n count old new number_is counted put = put_there (PadCounted pad) n count old new (sym number_is, counted) (λ k y here. number_is ∙ here.0) put

module _ {S I O : Type 0} {s : sources.Ghosts S} where
  pub head_counted : (head : Head S I O s) (one : SourceHead S O s) (pad : Pad O) (old new : List Count) → head ≡ Source one → pad ≡ one.pad → PutBack (PadCounted pad) old new → PutBack (HeadCounted head) old new
  head_counted head one pad old new head_is pad_is put =
      subst (λ (h : Head S I O s). PutBack (HeadCounted h) old new) (sym head_is) (subst (λ (p : Pad O). PutBack (PadCounted p) old new) pad_is put)

module _ {S E I O L : Type 0} {s : sources.Ghosts S} {e : elements.Ghosts E} {i : inlets.Ghosts I L O} {o : outlets.Ghosts O L} where
  pub task_counted : (task : Task S E I O L s e i o) (old mid new : List Count) → PutBack (HeadCounted task.head) old mid → PutBack (Among PartCounted task.parts.items) mid new → PutBack (TaskCounted task) old new
  task_counted task old mid new = put_joined (HeadCounted task.head) (Among PartCounted task.parts.items) (TaskCounted task) old mid new (record { first = λ n x here. inl here; second = λ n x here. inr here; split = λ n x here. here })
