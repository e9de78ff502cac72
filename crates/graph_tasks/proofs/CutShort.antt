-- What crossed the pad of a source that can't be read, by what it owes.
use Rattle.std.proofs.Common.{◌≡◌, ◌%◌, ℕ, true, false, List, [], ◌∷◌, ◌++◌, Option, Some, refl, sym, ap, ◌∙◌, subst, arith}
use Rattle.std.specs.Prelude.{slice_get}
use Rattle.std.specs.Option.{option_map_or}
use Rattle.flow_model.specs.Eval.{Plan}
use Rattle.flow_model.specs.Item.{Item, Ev, Eos, eos_among}
use Rattle.flow_model.specs.Rule.{Rule}
use Rattle.flow_model.specs.Moment.{CellStands, Moment}
use Rattle.flow_model.specs.declared.refusal.Unread.{Unread}
use Rattle.flow_model.specs.declared.refusal.Unread.TheVariants.{Failed, OutOfMemory}
use Rattle.el_settings.specs.Asked.{is_source}
use Rattle.el_set.specs.Made.{list_of}
use Rattle.graph_parts.specs.Links.{source_count}
use Rattle.graph_core.specs.Elements.{Made, has}
use Rattle.graph_core.specs.Graph.{made as made_in}
use Rattle.graph_core.specs.declared.graph.Graph.{Graph}
use Rattle.graph_core.specs.Allowed.{first_pad}
use Rattle.graph_core.specs.GraphPlan.{line_plan, pad_id}
use Rattle.graph_parts.specs.Pads.{IsThere}
use Rattle.graph_parts.specs.Plans.{moment_plan, tight_rule}
use Rattle.graph_parts.proofs.Wholes.{pads_have_numbers}
use Rattle.net_task.specs.Short.{CrossedShort}
use Rattle.graph_tasks.specs.Owed.{went_from}
use Rattle.graph_tasks.specs.Runs.{crossed_in}
use Rattle.graph_tasks.specs.Short.{UnreadAt}
use Rattle.graph_tasks.proofs.EndedPass.{source_rule}

is_there : (made : List Made) (n : ℕ) (one : Made) → slice_get made n ≡ Some one → has is_source made n ≡ true → is_source one.settings ≡ true
is_there made n one at source = sym (ap (λ (found : Option Made). option_map_or (λ (m : Made). is_source m.settings) found false) at) ∙ source

module _ (contents : ℕ → List ℕ) (graph : Graph) (m : Moment) (plan : m.plan ≡ moment_plan contents graph) (cells : (n : ℕ) → CellStands m n)
    (n : ℕ) (source : has is_source (made_in graph) n ≡ true) (count : source_count (made_in graph) n ≡ 1) where
  abbrev made : List Made
  made = made_in graph

  -- the number of its only pad
  abbrev p : ℕ
  p = pad_id (first_pad n)

  there : IsThere made (first_pad n)
  there = omega (arith, count)

  -- all that is owed there has crossed it or waits there
  source_owes : (one : Made) → slice_get made n ≡ Some one → list_of one.settings n (contents n) ≡ m.history p ++ m.waits p
  unfolding line_plan
  source_owes one at =
      let number = pads_have_numbers made (first_pad n) there in
      let cell = subst (λ (pl : Plan). CellStands (record m { plan = pl }) n) plan (cells n) in
      let rule = source_rule one n (contents n) (is_there made n one at source) in
      let whole = subst (λ (e : ℕ). tight_rule (slice_get made e) e (contents e) (m.took e) (p % 64) 0 ≡ m.history p ++ m.waits p) number.owner (cell.pads p number.owner) in
      sym (ap (λ (r : Rule). r (m.took n) (p % 64) 0) rule) ∙ ap (λ (found : Option Made). tight_rule found n (contents n) (m.took n) (p % 64) 0) (sym at) ∙ whole

  pub cut_short : (why : Unread) → CrossedShort m n why → UnreadAt contents made (crossed_in graph m) n why
  cut_short (Failed before after) short = λ one at.
      let number = pads_have_numbers made (first_pad n) there in
      let e = short p (subst (λ (pl : Plan). pl.owner p ≡ n) (sym plan) number.owner) in
      let went : went_from (crossed_in graph m) (first_pad n) ≡ m.history p = rw number.pad refl in
      record {
        eos = subst (λ (xs : List Item). eos_among xs ≡ false) (sym went) e.eos;
        left = e.left;
        buffers = e.buffers;
        owed = source_owes one at ∙ e.owes ∙ ap (λ (xs : List Item). xs ++ (e.left ++ Ev Eos ∷ [])) (sym went);
      }
  cut_short OutOfMemory short = tt
