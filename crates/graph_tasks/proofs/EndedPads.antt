-- At most 2^40 items crossed a pad: each counts its own, and through a pad of no task nothing went.
use Rattle.std.proofs.Common.{◌≡◌, ◌≤◌, ◌⊎◌, ℕ, List, length, sym, ap, ◌∙◌, subst, inl, inr, arith}
use Rattle.flow_model.specs.Eval.{Plan}
use Rattle.flow_model.specs.Item.{Item}
use Rattle.lane_core.specs.declared.ends.Inlet as inlets
use Rattle.lane_core.specs.declared.ends.Outlet as outlets
use Rattle.flow_model.specs.Moment.{Moment}
use Rattle.flow_model.specs.declared.element.TaskElement as elements
use Rattle.flow_model.specs.declared.source.TaskSource as sources
use Rattle.graph_core.specs.Elements.{Made}
use Rattle.graph_core.specs.Graph.{made as made_in, links as links_in}
use Rattle.graph_parts.specs.BagLaws.{StandsIn}
use Rattle.task_pads.specs.declared.pad.Pad.{Pad}
use Rattle.task_pads.specs.Pads.{HasCrossed, number_of}
use Rattle.task_pads.proofs.Few.{few_crossed}
use Rattle.task_parts.specs.declared.head.Head.{Head}
use Rattle.net_task.specs.declared.task.Task.{Task}
use Rattle.net_task.specs.Ties.{HeadTied, Ties, nothing_lost}
use Rattle.graph_tasks.specs.Ended.{PadsAreLimited}
use Rattle.graph_tasks.proofs.EndedBags.{HasOwn, own_part, own_source, IsLoose, in_bag_or_loose, stands_own}
use Rattle.graph_tasks.proofs.EndedLoose.{loose_quiet}

-- so many crossed a pad as it counted
counted : {O : Type 0} (pad : Pad O) (p : ℕ) (h : ℕ → List Item) → number_of pad ≡ p → HasCrossed pad (h (number_of pad)) → length (h p) ≤ 1099511627776
counted pad p h is crossed =
    let few = few_crossed pad in
    let count = crossed.crossed ∙ ap (λ (n : ℕ). length (h n)) is in
    omega (arith, few, count)

module _ {S E I O L : Type 0} {s : sources.Ghosts S} {e : elements.Ghosts E} {i : inlets.Ghosts I L O} {o : outlets.Ghosts O L} where
  -- a pad of an element of a task
  pub own_limited : (made : List Made) (m : Moment) (task : Task S E I O L s e i o) → Ties task m → (p : ℕ) → HasOwn made task (m.plan.owner p)
      → length (m.history p) ≤ 1099511627776
  own_limited made m task ties p (own_part place part at is) =
      let tied = ties.parts_tied.each place part at in
      let pad = tied.mine p (sym is) in
      counted pad.pad p m.history pad.number (tied.pads (m.plan.port p) pad.pad pad.at).linked.crossed
  own_limited made m task ties p (own_source head at is source) =
      let tied = subst (λ (h : Head S I O s). HeadTied i o nothing_lost m h task.parts.items) at ties.head_tied in
      counted head.pad p m.history (sym (tied.mine p (sym is))) tied.linked.crossed

pub pads_are_limited : {S E I O L : Type 0} (s : sources.Ghosts S) (e : elements.Ghosts E) (i : inlets.Ghosts I L O) (o : outlets.Ghosts O L)
    → PadsAreLimited s e i o
pads_are_limited s e i o contents graph bags m tasks tells at p pad = go (in_bag_or_loose bags (m.plan.owner p))
  where
    go : ((k : ℕ) × StandsIn bags k (m.plan.owner p)) ⊎ IsLoose bags (m.plan.owner p) → length (m.history p) ≤ 1099511627776
    go (inl t) =
        let one = stands_own (made_in graph) (links_in graph) bags tasks at.have at.bags_are.are t.0 (m.plan.owner p) t.1 in
        own_limited (made_in graph) m one.task (at.net.tied t.0 one.task one.at) p one.own
    go (inr loose) =
        let none = ap length (loose_quiet contents graph bags m tasks tells at p (subst (λ (plan : Plan). IsLoose bags (plan.owner p)) at.plan loose)) in
        omega (arith, none)
