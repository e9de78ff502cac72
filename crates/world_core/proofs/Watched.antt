-- The next command is looked up once, and then only its pad is looked at.
use Rattle.std.proofs.Common.{◌≡◌, ◌+◌, ℕ, Bool, true, false, List, Some, drop, length, refl, sym, subst}
use Rattle.std.specs.Prelude.{Result, Ok, Err, IfOk, if◌then◌else◌, slice_get}
use Rattle.lane_core.specs.declared.ends.Inlet as inlets
use Rattle.lane_core.specs.declared.ends.Outlet as outlets
use Rattle.flow_model.specs.declared.element.TaskElement as elements
use Rattle.flow_model.specs.declared.source.TaskSource as sources
use Rattle.script_text.specs.declared.command.Command.{Command}
use Rattle.script_text.specs.declared.command.When.{When}
use Rattle.task_edits.specs.declared.seeing.SeenPad.{SeenPad}
use Rattle.graph_edits.specs.Lawful.{command, is_all_there}
use Rattle.graph_edits.specs.declared.graph.EditedGraph.{EditedGraph}
use Rattle.net_edits.specs.Seeing.{SeesPad}
use Rattle.edit_core.specs.Judging.{IsVerdict, has_ended_before, stands_at}
use Rattle.edit_core.specs.declared.judging.Verdict.TheVariants as verdicts
use Rattle.world_core.specs.Answering.{NothingCanBeDone}
use Rattle.world_core.specs.Watching.{AwaitsBuffer, IsWatchOf, IsWatched, WatchStands, looked_up, waits_yet}
use Rattle.world_core.specs.declared.running.Running.{Running}
use Rattle.world_core.specs.declared.watching.Watch.{Watch}
use Rattle.world_core.specs.declared.watching.Watch.TheVariants.{Unasked, Open, At}
use Rattle.world_core.proofs.Left.{next_of}

neither : (ended stands : Bool) → (if ended then false else if stands then false else true) ≡ true → (ended ≡ false) × (stands ≡ false)
neither true stands is = absurd cc
neither false true is = absurd cc
neither false false is = (refl, refl)

-- what is known of a command is known of it as the next one
known_next : (graph : EditedGraph) (commands : List Command) (answered : ℕ) (c : Command) (watch : Watch) → slice_get commands answered ≡ Some c → IsWatchOf graph c watch
    → (looked_up watch ≡ 1) × WatchStands graph commands answered watch
known_next graph commands answered c Unasked next is = absurd is
known_next graph commands answered c Open next is = (refl, tt)
known_next graph commands answered c (At pad n) next is = (refl, (c, next, is))

pub of_next : {W : Type 0} (graph : EditedGraph) (commands : List Command) (answered : ℕ) (c : Command) (r : Result Watch W) → slice_get commands answered ≡ Some c → IfOk r (IsWatchOf graph c)
    → IfOk r (λ watch. (looked_up watch ≡ 1) × WatchStands graph commands answered watch)
of_next graph commands answered c (Ok watch) next is = known_next graph commands answered c watch next is
of_next graph commands answered c (Err fault) next is = tt

module _ {S E I O L : Type 0} {s : sources.Ghosts S} {e : elements.Ghosts E} {i : inlets.Ghosts I L O} {o : outlets.Ghosts O L} where
  -- what is known is so where nothing is known
  pub nothing_known : (run : Running S E I O L s e i o) → run.watch ≡ Unasked → IsWatched run
  nothing_known run same = subst (λ (watch : Watch). WatchStands run.graph run.script.items (length run.entries.items) watch) (sym same) tt

  -- The next command waits where its pad is seen so.
  pub still_waits : (run : Running S E I O L s e i o) (pad n : ℕ) (seen : SeenPad) → run.watch ≡ At pad n → IsWatched run → SeesPad run.tasks.items pad seen → waits_yet n seen ≡ true
      → NothingCanBeDone run
  still_waits run pad n seen same watched sees yet =
      let known = subst (λ (watch : Watch). WatchStands run.graph run.script.items (length run.entries.items) watch) same watched in
      waiting known.0 known.1 known.2
    where
      waiting : (c : Command) → slice_get run.script.items (length run.entries.items) ≡ Some c → AwaitsBuffer run.graph c pad n → NothingCanBeDone run
      waiting c next awaits =
          NothingCanBeDone.waits c (drop (length run.entries.items + 1) run.script.items) (next_of run.script.items (length run.entries.items) c next)
          (λ g m names has.
          let at = awaits.at g has.current.edited in
          let not = neither (has_ended_before n seen) (stands_at n seen) yet in
          subst (λ (when : When). IsVerdict g m run.tasks.items (command when c.act) verdicts.Waits) (sym awaits.when_is)
          (IsVerdict.waits awaits.name n c.act at.0 seen (subst (λ (when : When). is_all_there g (command when c.act) ≡ true) awaits.when_is (awaits.there g has.current.edited)) at.1
          (subst (λ (p : ℕ). SeesPad run.tasks.items p seen) at.2 sees) not.0 not.1))
