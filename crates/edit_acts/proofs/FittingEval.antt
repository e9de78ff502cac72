-- What crossed the pads of a run that fits the evaluation of its graph is what that gives.
use Rattle.std.proofs.Common.{◌≡◌, ◌⊎◌, ◌<◌, ◌≤◌, ◌%◌, ◌++◌, ℕ, suc, Bool, true, false, if◌then◌else◌, List, [], ◌∷◌, Option, None, Some, length, map, refl, sym, ap, ◌∙◌, subst, inl, inr, arith}
use Rattle.std.specs.Prelude.{slice_get}
use Rattle.std.specs.Option.{option_map_or}
use Rattle.std.proofs.lemmas.Bool.{ltb-true}
use Rattle.std.proofs.lemmas.Option.{slice_get_within}
use Rattle.flow_model.specs.Call.{Call, feeds}
use Rattle.flow_model.specs.Item.{Item}
use Rattle.flow_model.specs.Link.{Span, input_of}
use Rattle.flow_model.specs.Moment.{Moment}
use Rattle.flow_model.specs.Prefix.{ArePrefixes, IsPrefix, nothing}
use Rattle.flow_model.specs.Rule.{Rule}
use Rattle.flow_model.specs.Split.{AreEmpty}
use Rattle.flow_model.specs.Step.{planned}
use Rattle.flow_model.specs.Whole.{CellBegins, OwesInOrder}
use Rattle.flow_model.specs.declared.element.TaskElement as elements
use Rattle.flow_model.specs.declared.source.TaskSource as sources
use Rattle.flow_model.proofs.Pads.{account_of}
use Rattle.flow_model.proofs.Prefixes.{prefix_by, prefix_trans, rest_of}
use Rattle.flow_model.proofs.Splits.{split_all, split_begins}
use Rattle.gst_value.proofs.Places.{found_at}
use Rattle.inlet_row.specs.Row.{held}
use Rattle.inlet_row.specs.declared.feeding.Feeding.{Feeding}
use Rattle.inlet_row.specs.declared.row.InletRow.{InletRow}
use Rattle.lane_core.specs.declared.ends.Inlet as inlets
use Rattle.lane_core.specs.declared.ends.Outlet as outlets
use Rattle.task_parts.specs.declared.head.InletHead.{InletHead}
use Rattle.net_turns.specs.Net.{HasRow, IsFed, ListAt, NetStands}
use Rattle.el_settings.specs.Asked.{is_sink, source_pads}
use Rattle.el_settings.proofs.Roles.{end_no_source_pad}
use Rattle.graph_core.specs.Elements.{Made, has, limit}
use Rattle.graph_core.specs.GraphPlan.{most_pads, owner_of}
use Rattle.graph_edits.specs.Edited.{Edited, is_there}
use Rattle.graph_edits.specs.Plans.{edited_plan, edited_rule}
use Rattle.graph_edits.specs.Refused.{has_lanes}
use Rattle.graph_parts.specs.Links.{source_count}
use Rattle.graph_parts.specs.Pads.{is_pad}
use Rattle.edit_core.specs.Whole.{EditedIsEval, moment_plan, owner_in}
use Rattle.edit_acts.specs.Evaluated.{FitsPlan, OweInOrder, RunsAreEvaluated}
use Rattle.edit_acts.specs.Scripted.{Has, ScriptRun}
use Rattle.edit_acts.proofs.FittingGone.{gone_crossed, gone_took, put_out}
use Rattle.edit_acts.proofs.FittingOrder.{own_rule, plan_ordered, there_ordered}

-- ---- pads

-- an element with a source pad is there, and is no sink
has_pad : (found : Option Made) (n : ℕ) → n < option_map_or (λ (m : Made). source_pads m.settings) found 0 → (m : Made) × (found ≡ Some m) × (is_sink m.settings ≡ false)
has_pad None n low = absurd (omega (arith, low))
has_pad (Some m) n low = (m, refl, by (is_sink m.settings) refl)
  where
    by : (b : Bool) → is_sink m.settings ≡ b → b ≡ false
    by true is = absurd (let none = end_no_source_pad m.settings is in omega (arith, low, none))
    by false is = refl

module _ (g : Edited) (p : ℕ) where
  module _ (pad : is_pad g.made p ≡ true) where
    low : p % 64 < source_count g.made (owner_of p)
    low = ltb-true (p % 64) (source_count g.made (owner_of p)) pad

    pub owner_within : owner_of p < length g.made
    owner_within = let one = has_pad (slice_get g.made (owner_of p)) (p % 64) low in slice_get_within g.made (owner_of p) one.0 one.1

    pub owner_no_sink : has is_sink g.made (owner_of p) ≡ false
    owner_no_sink = let one = has_pad (slice_get g.made (owner_of p)) (p % 64) low in ap (λ o. option_map_or (λ (m : Made). is_sink m.settings) o false) one.1 ∙ one.2

    pub owner_is : owner_in g.made p ≡ owner_of p
    owner_is = ap (λ (b : Bool). if b then owner_of p else limit) pad

  -- what belongs to an element that was made is a pad of it
  pub pad_of : (a : ℕ) → a < length g.made → length g.made ≤ limit → owner_in g.made p ≡ a → is_pad g.made p ≡ true
  pad_of a within few own = go (is_pad g.made p) refl
    where
      go : (b : Bool) → is_pad g.made p ≡ b → b ≡ true
      go true pad = refl
      go false not = let past : a ≡ limit = sym own ∙ ap (λ (b : Bool). if b then owner_of p else limit) not in absurd (omega (arith, within, few, past))

  -- an element with a pad owes by its own rule
  pub pad_rule : (contents : ℕ → List ℕ) (a : ℕ) → is_pad g.made p ≡ true → owner_in g.made p ≡ a → (moment_plan contents g).rule a ≡ edited_rule contents g a
  pad_rule contents a pad own = own_rule contents g a (ap (λ (n : ℕ). has is_sink g.made n) (sym own ∙ owner_is pad) ∙ owner_no_sink pad)

-- whether nothing stands in the inlets of an element can be told
empty_or_not : (hs : List (List Call)) → AreEmpty hs ⊎ (AreEmpty hs → ⊥)
empty_or_not [] = inl tt
empty_or_not ([] ∷ hs) = go (empty_or_not hs)
  where
    go : AreEmpty hs ⊎ (AreEmpty hs → ⊥) → AreEmpty ([] ∷ hs) ⊎ (AreEmpty ([] ∷ hs) → ⊥)
    go (inl empty) = inl (refl, empty)
    go (inr not) = inr (λ empty. not empty.1)
empty_or_not ((c ∷ cs) ∷ hs) = inr (λ empty. cons_not empty.0)
  where
    cons_not : c ∷ cs ≡ [] → ⊥
    cons_not e = cc

-- where nothing is at each place, nothing is there
pub all_empty : (css : List (List Call)) → ((port : ℕ) → port < length css → ListAt port css []) → AreEmpty css
all_empty [] each = tt
all_empty (cs ∷ css) each = (each 0 (omega arith), all_empty css (λ port within. each (suc port) (omega (arith, within))))

-- ---- an element is what is needed of it for the evaluation

module _ (contents : ℕ → List ℕ) (g : Edited) (m : Moment) where
  cell_of : (a : ℕ) → ((p : ℕ) → owner_in g.made p ≡ a → IsPrefix (m.history p) ((moment_plan contents g).rule a (m.took a) (p % most_pads) 0))
      → ArePrefixes (m.took a) (map (input_of m.history) (g.spans a)) → OwesInOrder (edited_rule contents g a) (m.took a) → CellBegins (planned (moment_plan contents g) m) a
  unfolding edited_plan
  cell_of a crossed begins ordered = record {
    pads = λ p own.
        let plan = moment_plan contents g in
        let owed = λ (n : ℕ). plan.rule n (m.took n) (p % most_pads) in
        let more = rest_of (subst (λ (n : ℕ). IsPrefix (m.history p) (owed n 0)) (sym own) (crossed p own)) in
        account_of [] (owed (owner_in g.made p)) (m.history p) more.0 (sym more.1);
    begins = begins;
    in_order = plan_ordered contents g a (m.took a) ordered;
  }

module _ {S E I O L : Type 0} {s : sources.Ghosts S} {e : elements.Ghosts E} {i : inlets.Ghosts I L O} {o : outlets.Ghosts O L} (contents : ℕ → List ℕ) (g : Edited) (m : Moment)
    (due : ℕ → List Item) (run : ScriptRun s e i o) (has_it : Has run g m) (fits : FitsPlan contents g m due) where
  abbrev net : NetStands m run.tasks run.tells
  net = has_it.run.net

  -- what its element owes to a pad for all that it was given
  abbrev owed_whole : ℕ → List Item
  owed_whole p = edited_rule contents g (owner_of p) (map (input_of m.history) (g.spans (owner_of p))) (p % most_pads) 0

  -- ---- one that is there

  module _ (a : ℕ) (there : is_there g a ≡ true) where
    inputs_there : map (input_of m.history) (m.plan.sinks a) ≡ map (input_of m.history) (g.spans a)
    inputs_there = ap (λ (sss : List (List Span)). map (input_of m.history) sss) (has_it.run.sinks a there)

    pub begins_there : ArePrefixes (m.took a) (map (input_of m.history) (g.spans a))
    begins_there = subst (λ (css : List (List Call)). ArePrefixes (m.took a) css) inputs_there (split_begins (net.cells a).input)

    -- what it owes has crossed its pads or waits there
    put_out_there : (p : ℕ) → owner_in g.made p ≡ a → (moment_plan contents g).rule a (m.took a) (p % most_pads) 0 ≡ m.history p ++ m.waits p
    put_out_there p own =
        ap (λ (rule : Rule). rule (m.took a) (p % most_pads) 0) (sym (fits.rules a there))
        ∙ ap (λ (port : ℕ). m.plan.rule a (m.took a) port 0) (sym (fits.port p))
        ∙ ap (λ (n : ℕ). m.plan.rule n (m.took n) (m.plan.port p) 0) (sym (fits.owner p ∙ own))
        ∙ put_out g m run has_it p

    pub owed_there : (p : ℕ) → is_pad g.made p ≡ true → owner_in g.made p ≡ a → edited_rule contents g a (m.took a) (p % most_pads) 0 ≡ m.history p ++ m.waits p
    owed_there p pad own = ap (λ (rule : Rule). rule (m.took a) (p % most_pads) 0) (sym (pad_rule g p contents a pad own)) ∙ put_out_there p own

    -- where no lanes feed it nothing stands in its inlets
    module _ (bare : has_lanes g a ≡ false) where
      row_empty : (k : ℕ) (head : InletHead I) → IsFed run.tasks k head → head.number ≡ a → (port : ℕ) → (row : InletRow I) × (slice_get head.rows.items port ≡ Some row) → ListAt port (m.held a) []
      row_empty k head fed same port row =
          let there : HasRow run.tasks k a port row.0 = record { head = head; fed = fed; number = same; at = row.1 } in
          let z = net.rows k a port row.0 there in
          subst (λ (fs : List (Feeding I)). ListAt port (m.held a) (feeds (held i net.table fs))) (has_it.run.are.bare k a port row.0 there bare) z.holds

      fed_empty : (k : ℕ) (head : InletHead I) → IsFed run.tasks k head → head.number ≡ a → AreEmpty (m.held a)
      fed_empty k head fed same =
          all_empty (m.held a) (λ port within.
          row_empty k head fed same port (found_at head.rows.items port
          (let size = net.each k head fed in let held : length (m.held head.number) ≡ length (m.held a) = ap (λ (n : ℕ). length (m.held n)) same in omega (arith, size, held, within))))

      inlets_empty : AreEmpty (m.held a)
      inlets_empty = go (empty_or_not (m.held a))
        where
          go : AreEmpty (m.held a) ⊎ (AreEmpty (m.held a) → ⊥) → AreEmpty (m.held a)
          go (inl empty) = empty
          go (inr not) = absurd (not (net.others a (λ k head fed same. not (fed_empty k head fed same))))

      pub took_there : m.took a ≡ map (input_of m.history) (g.spans a)
      took_there = split_all inlets_empty (net.cells a).input ∙ inputs_there

  -- ---- one that was taken away

  module _ (a : ℕ) (within : a < length g.made) (gone : is_there g a ≡ false) where
    took_is : m.took a ≡ (fits.gone a within gone).took
    took_is = gone_took g m run has_it a gone contents due (fits.gone a within gone)

    begins_gone : ArePrefixes (m.took a) (map (input_of m.history) (g.spans a))
    begins_gone = subst (λ (css : List (List Call)). ArePrefixes css (map (input_of m.history) (g.spans a))) (sym took_is) (fits.gone a within gone).begins

    ordered_gone : OwesInOrder (edited_rule contents g a) (m.took a)
    ordered_gone = subst (λ (css : List (List Call)). OwesInOrder (edited_rule contents g a) css) (sym took_is) (fits.gone a within gone).in_order

    due_gone : (p : ℕ) → owner_in g.made p ≡ a → due p ≡ edited_rule contents g a (m.took a) (p % most_pads) 0
    due_gone p own = (fits.gone a within gone).due_is p own ∙ ap (λ (css : List (List Call)). edited_rule contents g a css (p % most_pads) 0) (sym took_is)

    crossed_gone : (p : ℕ) → owner_in g.made p ≡ a → m.history p ≡ (fits.gone a within gone).cut (p % most_pads)
    crossed_gone p own = gone_crossed g m run has_it a gone contents due (fits.gone a within gone) p (fits.owner p ∙ own) ∙ ap (fits.gone a within gone).cut (fits.port p)

    cell_gone : length g.made ≤ limit → CellBegins (planned (moment_plan contents g) m) a
    cell_gone few =
        cell_of contents g m a
        (λ p own.
        subst (λ (l : List Item). IsPrefix l ((moment_plan contents g).rule a (m.took a) (p % most_pads) 0)) (sym (crossed_gone p own))
        (subst (λ (l : List Item). IsPrefix ((fits.gone a within gone).cut (p % most_pads)) l)
        (due_gone p own ∙ ap (λ (rule : Rule). rule (m.took a) (p % most_pads) 0) (sym (pad_rule g p contents a (pad_of g p a within few own) own)))
        ((fits.gone a within gone).owes p own)))
        begins_gone ordered_gone

  -- ---- each

  there_or_gone : (a : ℕ) → (is_there g a ≡ true) ⊎ (is_there g a ≡ false)
  there_or_gone a = go (is_there g a) refl
    where
      go : (b : Bool) → is_there g a ≡ b → (is_there g a ≡ true) ⊎ (is_there g a ≡ false)
      go true there = inl there
      go false gone = inr gone

  pub each_took : (a : ℕ) → a < length g.made → has_lanes g a ≡ false → m.took a ≡ map (input_of m.history) (g.spans a)
  each_took a within bare = go (there_or_gone a)
    where
      go : (is_there g a ≡ true) ⊎ (is_there g a ≡ false) → m.took a ≡ map (input_of m.history) (g.spans a)
      go (inl there) = took_there a there bare
      go (inr gone) = took_is a within gone ∙ (fits.gone a within gone).whole bare

  module _ (owes : OweInOrder e) where
    pub ordered_there : (a : ℕ) → is_there g a ≡ true → OwesInOrder (edited_rule contents g a) (m.took a)
    ordered_there a there = there_ordered owes contents g m run.tasks run.tells has_it.run a there (fits.awake a) (fits.rules a there)

    pub each_cell : length g.made ≤ limit → (a : ℕ) → a < length g.made → CellBegins (planned (moment_plan contents g) m) a
    each_cell few a within = go (there_or_gone a)
      where
        go : (is_there g a ≡ true) ⊎ (is_there g a ≡ false) → CellBegins (planned (moment_plan contents g) m) a
        go (inl there) = cell_of contents g m a (λ p own. prefix_by (m.history p) (m.waits p) (sym (put_out_there a there p own))) (begins_there a there) (ordered_there a there)
        go (inr gone) = cell_gone a within gone few

    -- what is due to a pad begins what is owed to it for the whole inputs
    each_due : ((p : ℕ) → is_there g (m.plan.owner p) ≡ true → IsPrefix (due p) (m.history p ++ m.waits p)) → (p : ℕ) → is_pad g.made p ≡ true → IsPrefix (due p) (owed_whole p)
    each_due begins p pad = go (there_or_gone (owner_of p))
      where
        within : owner_of p < length g.made
        within = owner_within g p pad

        go : (is_there g (owner_of p) ≡ true) ⊎ (is_there g (owner_of p) ≡ false) → IsPrefix (due p) (owed_whole p)
        go (inl there) =
            prefix_trans (begins p (ap (is_there g) (fits.owner p ∙ owner_is g p pad) ∙ there))
            (subst (λ (l : List Item). IsPrefix l (owed_whole p)) (owed_there (owner_of p) there p pad (owner_is g p pad))
            (ordered_there (owner_of p) there (map (input_of m.history) (g.spans (owner_of p))) (begins_there (owner_of p) there) (p % most_pads) 0))
        go (inr gone) =
            subst (λ (l : List Item). IsPrefix l (owed_whole p)) (sym (due_gone (owner_of p) within gone p (owner_is g p pad)))
            (ordered_gone (owner_of p) within gone (map (input_of m.history) (g.spans (owner_of p))) (begins_gone (owner_of p) within gone) (p % most_pads) 0)

    pub all_due : ((p : ℕ) → is_there g (m.plan.owner p) ≡ true → IsPrefix (due p) (m.history p ++ m.waits p)) → (p : ℕ) → IsPrefix (due p) (owed_whole p)
    all_due begins p = go (is_pad g.made p) refl
      where
        go : (b : Bool) → is_pad g.made p ≡ b → IsPrefix (due p) (owed_whole p)
        go true pad = each_due begins p pad
        go false not = subst (λ (l : List Item). IsPrefix l (owed_whole p)) (sym (fits.bare p not)) nothing

pub runs_are_evaluated : {S E I O L : Type 0} (s : sources.Ghosts S) (e : elements.Ghosts E) (i : inlets.Ghosts I L O) (o : outlets.Ghosts O L) → EditedIsEval → RunsAreEvaluated s e i o
unfolding edited_plan
runs_are_evaluated s e i o evaluated = record {
  histories = λ owes contents forward g m due run has_it fits few order p pad.
      evaluated contents g forward m order has_it.current.made few (λ a within. each_cell contents g m due run has_it fits owes few a within) p pad;
  due = λ owes contents forward g m due run has_it fits begins p. all_due contents g m due run has_it fits owes begins p;
  took = λ contents g m due run has_it fits a within bare. each_took contents g m due run has_it fits a within bare;
}
