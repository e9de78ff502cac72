-- An element of a task takes an item.
use Rattle.std.proofs.Common.{◌≡◌, ◌≢◌, ◌<◌, ℕ, List, [], ◌∷◌, length, refl, sym, subst, arith}
use Rattle.std.proofs.lemmas.Option.{slice_get_within}
use Rattle.flow_model.specs.Item.{Item}
use Rattle.flow_model.specs.Call.{Call, Feed}
use Rattle.lane_core.specs.declared.ends.Inlet as inlets
use Rattle.lane_core.specs.declared.ends.Outlet as outlets
use Rattle.flow_model.specs.Moment.{Moment, behavior_at}
use Rattle.flow_model.specs.Pad.{Grows}
use Rattle.flow_model.specs.SinkPads.{push_calls}
use Rattle.flow_model.specs.Step.{fed}
use Rattle.flow_model.proofs.Inputs.{at_here, at_other}
use Rattle.flow_model.specs.declared.element.TaskElement as elements
use Rattle.flow_model.specs.declared.source.TaskSource as sources
use Rattle.flow_model.specs.Takes.{on_port}
use Rattle.task_parts.specs.declared.part.Part.{Part}
use Rattle.task_parts.specs.declared.head.Head.{Head}
use Rattle.task_parts.specs.Shape.{part_shape}
use Rattle.task_parts.specs.Part.{PartFed}
use Rattle.task_parts.specs.Moved.{PartSet}
use Rattle.net_task.specs.Ties.{PartsTied, AreTied, Stands}
use Rattle.net_task.specs.Moves.{Answers}
use Rattle.net_task.proofs.Tied.{IsNotFed, part_pads, parts_set_shape, parts_set, part_known, part_else, part_fed, head_fed}

module _ {E O L : Type 0} {e : elements.Ghosts E} (o : outlets.Ghosts O L) (parts parts' : List (Part E O e)) (to sink : ℕ) (x : Item) (eater ate : Part E O e)
    (set : PartSet parts parts' to eater ate) (shape : part_shape ate ≡ part_shape eater) (took : PartFed eater ate sink x) (m : Moment) where
  -- what it took then, and what it puts out
  abbrev pub took_now : List (List Call)
  took_now = push_calls sink (Feed x ∷ []) (m.took eater.number)

  abbrev pub out_now : ℕ → List Item
  out_now = λ port. on_port port took.more

  abbrev pub now : Moment
  now = fed eater.number took_now out_now m

  stands_else : (part : Part E O e) → part.number ≢ eater.number → Stands m part → Stands now part
  stands_else part n st = subst (e.stands part.element (behavior_at m part.number)) (sym (at_other eater.number took_now m.took part.number n)) st

  stands_here : Stands m eater → Stands now ate
  stands_here st =
      subst (λ n. e.stands ate.element (behavior_at m n) (now.took n)) (sym took.number)
      (subst (e.stands ate.element (behavior_at m eater.number)) (sym (at_here eater.number took_now m.took)) (took.stands_now (behavior_at m eater.number) (m.took eater.number) st))

  pub fed_parts : PartsTied o (Stands m) m parts → PartsTied o (Stands now) now parts'
  fed_parts a =
      let t = a.each to eater set.at in
      parts_set o (Stands m) (Stands now) m now parts parts' to eater ate set took.number
      (λ p n z. part_known o (Stands m p) (Stands now p) now p (stands_else p n) (part_else o (Stands m p) m eater.number took_now out_now p n z))
      (part_fed o (Stands m eater) (Stands now ate) m took_now took.more eater ate took.number (part_pads ate eater shape) took.pads (stands_here t.stood) t)
      a

  -- it puts out what it owes more
  pub fed_answers : PartsTied o (Stands m) m parts → Answers m eater.number sink x out_now
  fed_answers a section q own =
      let t = a.each to eater set.at in
      let has = t.mine q own in
      let low : m.plan.port q < length eater.pads.items = slice_get_within eater.pads.items (m.plan.port q) has.pad has.at in
      subst (λ cs. Grows 0 cs (m.plan.rule eater.number (m.took eater.number) (m.plan.port q)) (m.plan.rule eater.number took_now (m.plan.port q)) (on_port (m.plan.port q) took.more)) (sym has.uncut)
      (took.owes (behavior_at m eater.number) (m.took eater.number) t.stood [] section (m.plan.port q) (let count = eater.ports in omega (arith, low, count, eater.pads.ok.0)))

module _ {S E I O L : Type 0} {s : sources.Ghosts S} {e : elements.Ghosts E} (i : inlets.Ghosts I L O) (o : outlets.Ghosts O L) (head : Head S I O s) (parts parts' : List (Part E O e)) (to sink : ℕ) (x : Item)
    (eater ate : Part E O e) (set : PartSet parts parts' to eater ate) (shape : part_shape ate ≡ part_shape eater) (took : PartFed eater ate sink x) (m : Moment) where
  pub fed_tied : (lost : ℕ → List Item) → IsNotFed eater.number sink head → AreTied i o (Stands m) lost m head parts → AreTied i o (Stands (now o parts parts' to sink x eater ate set shape took m)) lost (now o parts parts' to sink x eater ate set shape took m) head parts'
  fed_tied lost apart a = record {
    parts_tied = fed_parts o parts parts' to sink x eater ate set shape took m a.parts_tied;
    head_tied = head_fed i o lost m eater.number sink x (λ port. on_port port took.more) head parts parts' to eater set.at refl (parts_set_shape parts parts' to eater ate set shape) apart a.head_tied;
  }
