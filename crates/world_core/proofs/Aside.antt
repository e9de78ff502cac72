-- What a deed sets aside, by what it came to.
use Rattle.std.proofs.Common.{◌≡◌, ◌++◌, List, [], ◌∷◌, sym, subst, inl, inr}
use Rattle.lane_core.specs.declared.ends.Inlet as inlets
use Rattle.lane_core.specs.declared.ends.Outlet as outlets
use Rattle.flow_model.specs.declared.element.TaskElement as elements
use Rattle.flow_model.specs.declared.source.TaskSource as sources
use Rattle.net_task.specs.declared.task.Task.{Task}
use Rattle.edit_core.specs.declared.deciding.Deed.{Deed}
use Rattle.edit_core.specs.declared.deciding.Deed.TheVariants as deeds
use Rattle.edit_acts.specs.Deeds.{TakesFor, WasDone}
use Rattle.edit_acts.specs.Removed.{IsTakenOut}
use Rattle.edit_acts.specs.declared.doing.Outcome.{Outcome}
use Rattle.edit_acts.specs.declared.doing.Outcome.TheVariants.{Done, TakenOut, Undone}
use Rattle.edit_acts.specs.declared.removing.TakenOut.{TakenOut as Taken}
use Rattle.world_core.specs.Answering.{SetsAside}
use Rattle.world_core.specs.Running.{KeepsTurns, taking_without}
use Rattle.world_core.specs.declared.running.Running.{Running}

module _ {S E I O L : Type 0} {s : sources.Ghosts S} {e : elements.Ghosts E} {i : inlets.Ghosts I L O} {o : outlets.Ghosts O L} (was is : Running S E I O L s e i o) (tasks : List (Task S E I O L s e i o)) where
  none_so : (deed : Deed) → TakesFor was.tasks.items tasks deed Done → KeepsTurns was is → SetsAside was is deed
  none_so (deeds.Relink source sink) takes keeps = keeps
  none_so (deeds.Unlink source sink eos) takes keeps = keeps
  none_so deeds.Add takes keeps = keeps
  none_so (deeds.Remove element) takes keeps = inr (takes.0, keeps)

  pub none_aside : (deed : Deed) (outcome : Outcome S E I O L s e i o) → outcome ≡ Done → TakesFor was.tasks.items tasks deed outcome → KeepsTurns was is → SetsAside was is deed
  none_aside deed outcome told takes keeps = none_so deed (subst (λ (x : Outcome S E I O L s e i o). TakesFor was.tasks.items tasks deed x) told takes) keeps

  one_so : (deed : Deed) (taken : Taken S E I O L s e i o) → TakesFor was.tasks.items tasks deed (TakenOut taken) → is.tasks.items ≡ tasks → is.removed.items ≡ was.removed.items ++ taken.task ∷ []
      → is.taking ≡ taking_without taken.place was.taking → SetsAside was is deed
  one_so (deeds.Relink source sink) taken takes same removed taking = absurd takes
  one_so (deeds.Unlink source sink eos) taken takes same removed taking = absurd takes
  one_so deeds.Add taken takes same removed taking = absurd takes
  one_so (deeds.Remove element) taken takes same removed taking =
      inl (record { taken = taken; out = subst (λ (ts : List (Task S E I O L s e i o)). IsTakenOut was.tasks.items ts element taken) (sym same) takes; removed = removed; taking = taking })

  pub one_aside : (deed : Deed) (outcome : Outcome S E I O L s e i o) (taken : Taken S E I O L s e i o) → outcome ≡ TakenOut taken → TakesFor was.tasks.items tasks deed outcome → is.tasks.items ≡ tasks
      → is.removed.items ≡ was.removed.items ++ taken.task ∷ [] → is.taking ≡ taking_without taken.place was.taking → SetsAside was is deed
  one_aside deed outcome taken told takes same removed taking = one_so deed taken (subst (λ (x : Outcome S E I O L s e i o). TakesFor was.tasks.items tasks deed x) told takes) same removed taking

pub not_done : {S E I O L : Type 0} {s : sources.Ghosts S} {e : elements.Ghosts E} {i : inlets.Ghosts I L O} {o : outlets.Ghosts O L} (outcome : Outcome S E I O L s e i o) → outcome ≡ Undone → WasDone outcome → ⊥
not_done {S} {E} {I} {O} {L} {s} {e} {i} {o} outcome told was = subst (λ (x : Outcome S E I O L s e i o). WasDone x) told was
