-- The verdict on a command, by what is seen of the source pad that it names.
use Rattle.std.proofs.Common.{◌≡◌, ◌≤◌, ◌⊎◌, ◌++◌, ℕ, Bool, true, false, List, [], ◌∷◌, Option, None, Some, length, take, drop, refl, sym, ap, ◌∙◌, subst, inl, inr, arith}
use Rattle.std.specs.Prelude.{◌==◌, nat_le, is_some, if◌then◌else◌}
use Rattle.std.proofs.Math.Seq.{drop-append_seam, take-length}
use Rattle.std.proofs.lemmas.Bool.{eqb-true, leb-true}
use Rattle.flow_model.specs.Item.{Item, buffers}
use Rattle.lane_core.specs.declared.ends.Inlet as inlets
use Rattle.lane_core.specs.declared.ends.Outlet as outlets
use Rattle.flow_model.specs.Moment.{Moment}
use Rattle.flow_model.specs.declared.element.TaskElement as elements
use Rattle.flow_model.specs.declared.source.TaskSource as sources
use Rattle.net_task.specs.declared.task.Task.{Task}
use Rattle.graph_core.specs.GraphPlan.{pad_id}
use Rattle.graph_pads.specs.declared.pad.Direction.TheVariants.{Source}
use Rattle.graph_pads.specs.declared.pad.PadPlace.{PadPlace}
use Rattle.gst_value.specs.declared.name.PadName.{PadName}
use Rattle.gst_value.proofs.Basics.{and_left, and_right}
use Rattle.pad_core.specs.Crossing.{has_ended}
use Rattle.script_text.specs.declared.command.Act.{Act}
use Rattle.script_text.specs.declared.command.When.{When}
use Rattle.script_text.specs.declared.command.When.TheVariants.{At, NowPad, Now}
use Rattle.task_pads.specs.Pads.{first_is_buffer}
use Rattle.graph_edits.specs.Edited.{Edited}
use Rattle.graph_edits.specs.Lawful.{IsAtBuffer, IsBeforeEos, IsUnreached, Reaches, begins_with_buffer, command, is_all_there}
use Rattle.graph_edits.specs.Names.{is_act_there, is_when_there, pad_named, source_when}
use Rattle.net_edits.specs.Seeing.{SeesPad}
use Rattle.task_edits.specs.Seeing.{SeenAt}
use Rattle.task_edits.specs.declared.seeing.SeenPad.{SeenPad}
use Rattle.edit_core.specs.Judging.{IsVerdict, has_ended_before, is_true, owed_then, stands_at, verdict_of}
use Rattle.edit_core.specs.declared.judging.Verdict.TheVariants.{Waits, Unreached, Reached}

-- what a test says
told : (b : Bool) → (b ≡ true) ⊎ (b ≡ false)
told true = inl refl
told false = inr refl

missing_pad : (found : Option PadPlace) → found ≡ None → is_some found ≡ true → ⊥
missing_pad None is there = cc
missing_pad (Some source) is there = cc

module _ (m : Moment) (p : ℕ) (seen : SeenPad) (at : SeenAt m p seen) where
  whole : take seen.items (m.history p) ≡ m.history p
  whole = ap (λ (n : ℕ). take n (m.history p)) at.tells.items ∙ take-length (m.history p)

  within : seen.items ≤ length (m.history p)
  within = let items = at.tells.items in omega (arith, items)

  -- what is owed behind what has crossed begins with what waits
  behind : drop seen.items (owed_then m p) ≡ m.waits p
  behind = ap (λ (n : ℕ). drop n (owed_then m p)) at.tells.items ∙ drop-append_seam (m.history p) (m.waits p)

  begins : (here later : List Item) → is_true (first_is_buffer here) ≡ true → begins_with_buffer (here ++ later) ≡ true
  begins [] later is = absurd cc
  begins (x ∷ here) later is = is

  pub stands : (n : ℕ) → stands_at n seen ≡ true → IsAtBuffer m.history (owed_then m) p n seen.items
  stands n is = record {
    crossed = within;
    counted = ap buffers whole ∙ sym at.tells.buffers_are ∙ eqb-true seen.buffers n (and_left (seen.buffers == n) (is_true seen.first_is_buffer) is);
    next = ap begins_with_buffer (behind ∙ at.waits) ∙ begins at.here at.later (sym (ap is_true at.tells.first) ∙ and_right (seen.buffers == n) (is_true seen.first_is_buffer) is);
  }

  pub before : seen.has_ended ≡ false → IsBeforeEos m.history p seen.items
  before open_yet = record { crossed = within; open_yet = ap has_ended whole ∙ sym at.tells.ended ∙ open_yet }

  pub over : (n : ℕ) → has_ended_before n seen ≡ true → (has_ended (m.history p) ≡ true) × (buffers (m.history p) ≤ n)
  over n is =
      let ended = and_left seen.has_ended (nat_le seen.buffers n) is in
      let few = leb-true seen.buffers n (and_right seen.has_ended (nat_le seen.buffers n) is) in
      (sym at.tells.ended ∙ ended, subst (λ (k : ℕ). k ≤ n) at.tells.buffers_are few)

module _ {S E I O L : Type 0} {s : sources.Ghosts S} {e : elements.Ghosts E} {i : inlets.Ghosts I L O} {o : outlets.Ghosts O L} (g : Edited) (m : Moment) (tasks : List (Task S E I O L s e i o)) where
  -- a command that names a source pad which is there
  pub judged : (when : When) (act : Act) (source : PadPlace) (seen : SeenPad) → is_all_there g (command when act) ≡ true → source_when g when ≡ Some source
      → SeesPad tasks (pad_id source) seen → SeenAt m (pad_id source) seen → IsVerdict g m tasks (command when act) (verdict_of when seen)
  judged (At pad n) act source seen all named sees at = by (told (has_ended_before n seen)) (told (stands_at n seen))
    where
      by : ((has_ended_before n seen ≡ true) ⊎ (has_ended_before n seen ≡ false)) → ((stands_at n seen ≡ true) ⊎ (stands_at n seen ≡ false))
          → IsVerdict g m tasks (command (At pad n) act) (if has_ended_before n seen then Unreached else if stands_at n seen then Reached seen.items else Waits)
      by (inl is) there = rw is (let z = over m (pad_id source) seen at n is in IsVerdict.unreached (command (At pad n) act) all (IsUnreached.at pad n source named z.0 z.1))
      by (inr not) (inl is) = rw not (rw is (IsVerdict.reached (command (At pad n) act) (Some source) seen.items all (Reaches.at pad n seen.items source named (stands m (pad_id source) seen at n is)) at.tells.items))
      by (inr not) (inr none) = rw not (rw none (IsVerdict.waits pad n act source seen all named sees not none))
  judged (NowPad pad) act source seen all named sees at = by (told seen.has_ended)
    where
      by : ((seen.has_ended ≡ true) ⊎ (seen.has_ended ≡ false)) → IsVerdict g m tasks (command (NowPad pad) act) (if seen.has_ended then Unreached else Reached seen.items)
      by (inl is) = rw is (IsVerdict.unreached (command (NowPad pad) act) all (IsUnreached.now_pad pad source named (sym at.tells.ended ∙ is)))
      by (inr not) = rw not (IsVerdict.reached (command (NowPad pad) act) (Some source) seen.items all (Reaches.now_pad pad seen.items source named (before m (pad_id source) seen at not)) at.tells.items)
  judged Now act source seen all named sees at = absurd cc

  -- and one that names none
  pub judged_now : (when : When) (act : Act) → is_all_there g (command when act) ≡ true → source_when g when ≡ None → IsVerdict g m tasks (command when act) (Reached 0)
  judged_now (At pad n) act all none = absurd (let there = and_left (is_when_there g (At pad n)) (is_act_there g (At pad n) act) all in missing_pad (pad_named Source g pad) none there)
  judged_now (NowPad pad) act all none = absurd (let there = and_left (is_when_there g (NowPad pad)) (is_act_there g (NowPad pad) act) all in missing_pad (pad_named Source g pad) none there)
  judged_now Now act all none = IsVerdict.reached (command Now act) None 0 all Reaches.now refl

-- a source pad that is named is one that is there under that name
pub fresh_when : (g : Edited) (when : When) (source : PadPlace) (P : PadPlace → Type 0) → source_when g when ≡ Some source → ((pad : PadName) (there : PadPlace) → pad_named Source g pad ≡ Some there → P there) → P source
fresh_when g (At pad n) source P named each = each pad source named
fresh_when g (NowPad pad) source P named each = each pad source named
fresh_when g Now source P named each = absurd cc
