-- An element owes a beginning of what it owes for more: one that has no more than one sink pad for any lists, and one that brings several together as it stands.
use Rattle.std.proofs.Common.{◌≡◌, ℕ, Bool, true, false, if◌then◌else◌, List, [], Option, None, Some, refl, sym, ap, ◌∙◌, subst}
use Rattle.std.specs.Prelude.{slice_get}
use Rattle.std.specs.Option.{option_map_or}
use Rattle.flow_model.specs.Call.{Call}
use Rattle.flow_model.specs.Moment.{Moment, behavior_at}
use Rattle.flow_model.specs.Prefix.{nothing}
use Rattle.flow_model.specs.Rule.{Rule}
use Rattle.flow_model.specs.Section.{first_section}
use Rattle.flow_model.specs.Whole.{OwesInOrder}
use Rattle.flow_model.specs.declared.element.TaskElement as elements
use Rattle.flow_model.specs.declared.source.TaskSource as sources
use Rattle.flow_model.proofs.Prefixes.{prefix_refl}
use Rattle.flow_model.proofs.Singles.{single_in_order}
use Rattle.gst_value.proofs.Places.{map_got}
use Rattle.lane_core.specs.Lane.{Lane}
use Rattle.lane_core.specs.declared.ends.Inlet as inlets
use Rattle.lane_core.specs.declared.ends.Outlet as outlets
use Rattle.net_task.specs.Frame.{PartFrame, frame_of, part_frame}
use Rattle.net_task.specs.declared.task.Task.{Task}
use Rattle.net_turns.specs.Net.{HasElement}
use Rattle.el_settings.specs.Asked.{Begins, Ends, Gathers, Passes, Place, Splits, begins, ends, gathers, is_sink, is_source, makes_sinks, place_of}
use Rattle.el_set.specs.Denoted.{response_of, rule_of}
use Rattle.el_set.specs.Made.{list_of}
use Rattle.el_set.proofs.Ruled.{single_rule}
use Rattle.task_elements.specs.Stands.{owes_nothing}
use Rattle.graph_core.specs.Elements.{Made, has}
use Rattle.graph_core.specs.GraphPlan.{rule_for}
use Rattle.graph_edits.specs.Edited.{Edited, is_there}
use Rattle.graph_edits.specs.Plans.{edited_rule, is_asleep}
use Rattle.edit_core.specs.Whole.{moment_plan}
use Rattle.edit_core.specs.Ways.{IsRun}
use Rattle.edit_acts.specs.Evaluated.{OweInOrder}

-- ---- rules

-- where no link makes its sink pads, an element owes in order for any lists
ordered : (found : Option Made) (n : ℕ) (content : List ℕ) (took : List (List Call)) → option_map_or (λ (m : Made). makes_sinks m.settings) found false ≡ false
    → OwesInOrder (rule_for found n content) took
ordered None n content took one = λ whole begins port j. nothing
ordered (Some m) n content took one = go (is_source m.settings)
  where
    go : (b : Bool) → OwesInOrder (if b then (λ inputs port. first_section (list_of m.settings n content)) else rule_of m.settings) took
    go true = λ whole begins port j. prefix_refl (first_section (list_of m.settings n content) j)
    go false = subst (λ (rule : Rule). OwesInOrder rule took) (sym (single_rule m.settings one)) (single_in_order (response_of m.settings) took)

-- an element that brings several sink pads together is no source and no sink
abbrev IsInner : (Made → Bool) → Option Made → Type 0
IsInner asked found = option_map_or asked found false ≡ false

joins_no_source : (found : Option Made) → option_map_or (λ (m : Made). makes_sinks m.settings) found false ≡ true → IsInner (λ m. is_source m.settings) found
joins_no_source None joins = refl
joins_no_source (Some m) joins = go (place_of m.settings) joins
  where
    go : (place : Place) → gathers place ≡ true → begins place ≡ false
    go Begins joins = absurd cc
    go Passes joins = refl
    go Splits joins = refl
    go Gathers joins = refl
    go Ends joins = refl

joins_no_sink : (found : Option Made) → option_map_or (λ (m : Made). makes_sinks m.settings) found false ≡ true → IsInner (λ m. is_sink m.settings) found
joins_no_sink None joins = refl
joins_no_sink (Some m) joins = go (place_of m.settings) joins
  where
    go : (place : Place) → gathers place ≡ true → ends place ≡ false
    go Begins joins = refl
    go Passes joins = refl
    go Splits joins = refl
    go Gathers joins = refl
    go Ends joins = absurd cc

-- ---- the plan of an edited graph

module _ (contents : ℕ → List ℕ) (g : Edited) (n : ℕ) where
  pub awake_rule : is_asleep g n ≡ false → edited_rule contents g n ≡ rule_for (slice_get g.made n) n (contents n)
  awake_rule awake = ap (λ (b : Bool). if b then (λ inputs port j. []) else rule_for (slice_get g.made n) n (contents n)) awake

  -- an element that is no sink owes by its own rule
  pub own_rule : has is_sink g.made n ≡ false → (moment_plan contents g).rule n ≡ edited_rule contents g n
  own_rule inner = ap (λ (b : Bool). if b then owes_nothing else edited_rule contents g n) inner

  -- where its own rule owes in order, that of the plan does
  pub plan_ordered : (took : List (List Call)) → OwesInOrder (edited_rule contents g n) took → OwesInOrder ((moment_plan contents g).rule n) took
  plan_ordered took ordered = go (has is_sink g.made n)
    where
      go : (b : Bool) → OwesInOrder (if b then owes_nothing else edited_rule contents g n) took
      go true = λ whole begins port j. nothing
      go false = ordered

-- ---- elements of tasks

module _ {S E I O L : Type 0} {s : sources.Ghosts S} {e : elements.Ghosts E} {i : inlets.Ghosts I L O} {o : outlets.Ghosts O L} (owes : OweInOrder e) (contents : ℕ → List ℕ) (g : Edited) (m : Moment)
    (tasks : List (Task S E I O L s e i o)) (tells : Option (List Lane)) (run : IsRun g m tasks tells) where
  -- an element of a task that is no source stands, and so owes in order for what it took
  stands_ordered : (n k : ℕ) (task : Task S E I O L s e i o) → slice_get tasks k ≡ Some task → has is_source g.made n ≡ false → HasElement (frame_of task) n → OwesInOrder (m.plan.rule n) (m.took n)
  stands_ordered n k task at other (HasElement.part place one one_at number) =
      let z = map_got (part_frame o) task.parts.items place one one_at in
      let number_is : z.0.number ≡ n = ap (λ (f : PartFrame). f.number) (sym z.2) ∙ number in
      let stood = ((run.net.tied k task at).parts_tied.each place z.0 z.1).stood in
      subst (λ (d : ℕ). OwesInOrder (m.plan.rule d) (m.took d)) number_is (owes z.0.element (behavior_at m z.0.number) (m.took z.0.number) stood)
  stands_ordered n k task at other (HasElement.source file wire is) = absurd (let source = run.are.sources k task n file wire at is in cc)

  -- an element that is there owes in order by its own rule
  pub there_ordered : (n : ℕ) → is_there g n ≡ true → is_asleep g n ≡ false → m.plan.rule n ≡ (moment_plan contents g).rule n → OwesInOrder (edited_rule contents g n) (m.took n)
  there_ordered n there awake same = go (has makes_sinks g.made n) refl
    where
      go : (b : Bool) → has makes_sinks g.made n ≡ b → OwesInOrder (edited_rule contents g n) (m.took n)
      go false one = subst (λ (rule : Rule). OwesInOrder rule (m.took n)) (sym (awake_rule contents g n awake)) (ordered (slice_get g.made n) n (contents n) (m.took n) one)
      go true joins =
          let own = run.are.owned n there awake in
          subst (λ (rule : Rule). OwesInOrder rule (m.took n)) (same ∙ own_rule contents g n (joins_no_sink (slice_get g.made n) joins))
          (stands_ordered n own.0 own.1.task own.1.at (joins_no_source (slice_get g.made n) joins) own.1.has)
