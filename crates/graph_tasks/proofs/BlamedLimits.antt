-- At most 2^40 items crossed a pad at which something waits.
use Rattle.std.proofs.Common.{◌≡◌, ◌<◌, ◌≤◌, ◌⊎◌, ℕ, List, [], ◌∷◌, Option, length, refl, sym, ap, ◌∙◌, subst, inl, inr, arith}
use Rattle.std.proofs.lemmas.Bool.{cases_lt}
use Rattle.flow_model.specs.Item.{Item}
use Rattle.lane_core.specs.Lane.{Lane}
use Rattle.lane_core.specs.declared.ends.Inlet as inlets
use Rattle.lane_core.specs.declared.ends.Outlet as outlets
use Rattle.flow_model.specs.Moment.{Moment}
use Rattle.flow_model.specs.declared.element.TaskElement as elements
use Rattle.flow_model.specs.declared.source.TaskSource as sources
use Rattle.task_pads.specs.Pads.{HasCrossed}
use Rattle.task_pads.specs.declared.pad.Pad.{Pad}
use Rattle.task_pads.proofs.Few.{few_crossed}
use Rattle.task_parts.specs.declared.head.Head.{Head}
use Rattle.task_parts.specs.declared.head.Head.TheVariants.{Inlets, Source}
use Rattle.net_task.specs.declared.task.Task.{Task}
use Rattle.net_task.specs.Frame.{Wire, by_inlets, by_source, frame_of, head_frame, part_frame}
use Rattle.net_task.specs.Ties.{HeadTied, Ties, nothing_lost}
use Rattle.net_turns.specs.Net.{HasElement, NetStands, Owns, part, source}
use Rattle.gst_value.proofs.Places.{map_got as get_map}

few_in : {O : Type 0} (pad : Pad O) (h : List Item) → HasCrossed pad h → length h ≤ 1099511627776
few_in pad h crossed = let few = few_crossed pad in let count = crossed.crossed in omega (arith, few, count)

module _ {S E I O L : Type 0} {s : sources.Ghosts S} {e : elements.Ghosts E} {i : inlets.Ghosts I L O} {o : outlets.Ghosts O L} (m : Moment)
    (tasks : List (Task S E I O L s e i o))
    (tells : Option (List Lane)) (net : NetStands m tasks tells) (p : ℕ) where
  IsFew : Type 0
  IsFew = length (m.history p) ≤ 1099511627776

  same_source : {a b : ℕ} {f g : Option (Option (List ℕ))} {w v : Wire} → by_source a f w ≡ by_source b g v → a ≡ b
  same_source is = cc

  no_source : {a b c : ℕ} {g : Option (Option (List ℕ))} {v : Wire} → by_inlets a c ≡ by_source b g v → ⊥
  no_source is = cc

  of_source : (task : Task S E I O L s e i o) (n : ℕ) (file : Option (Option (List ℕ))) (wire : Wire) (head : Head S I O s)
      → HeadTied i o nothing_lost m head task.parts.items → head_frame o head ≡ by_source n file wire
      → m.plan.owner p ≡ n → IsFew
  unfolding IsFew
  of_source task n file wire (Source head) tied is mine =
      let here = tied.mine p (mine ∙ sym (same_source is)) in
      subst (λ (q : ℕ). length (m.history q) ≤ 1099511627776) (sym here) (few_in head.pad _ tied.linked.crossed)
  of_source task n file wire (Inlets head) tied is mine = absurd (no_source is)

  owned : (k : ℕ) → Owns tasks k (m.plan.owner p) → IsFew
  unfolding IsFew
  owned k own = go own.has
    where
      tied : Ties own.task m
      tied = net.tied k own.task own.at

      go : HasElement (frame_of own.task) (m.plan.owner p) → length (m.history p) ≤ 1099511627776
      go (part place one at number) =
          let found = get_map (part_frame o) own.task.parts.items place one at in
          let part_tied = tied.parts_tied.each place found.0 found.1 in
          let mine = part_tied.mine p (sym number ∙ ap (λ z. z.number) found.2) in
          subst (λ (q : ℕ). length (m.history q) ≤ 1099511627776) mine.number
          (few_in mine.pad _ (part_tied.pads (m.plan.port p) mine.pad mine.at).linked.crossed)
      go (source file wire is) = of_source own.task (m.plan.owner p) file wire own.task.head tied.head_tied is refl

  pub limited : (x : Item) (rest : List Item) → m.waits p ≡ x ∷ rest → length (m.history p) ≤ 1099511627776
  unfolding IsFew
  limited x rest waits = go (cases_lt 1099511627776 (length (m.history p)))
    where
      some : [] ≡ x ∷ rest → ⊥
      some e = cc

      go : (1099511627776 < length (m.history p)) ⊎ (length (m.history p) ≤ 1099511627776) → length (m.history p) ≤ 1099511627776
      go (inl more) = absurd (some (sym (net.loose p (λ k own. let few = owned k own in omega (arith, few, more))) ∙ waits))
      go (inr few) = few
