-- An item that waits first at a pad is the next that is owed there.
use Rattle.std.proofs.Common.{◌≡◌, ◌<◌, ◌%◌, ℕ, Bool, true, false, if◌then◌else◌, List, [], ◌∷◌, ◌++◌, Option, None, Some, length, map, refl, sym, ap, ◌∙◌, subst}
use Rattle.std.proofs.Common.{arith}
use Rattle.std.specs.Prelude.{slice_get}
use Rattle.std.specs.Option.{option_map_or}
use Rattle.std.proofs.lemmas.Option.{slice_get_past}
use Rattle.flow_model.specs.Call.{Call, feeds}
use Rattle.flow_model.specs.Eval.{Plan, inputs}
use Rattle.flow_model.specs.Item.{Item}
use Rattle.flow_model.specs.Prefix.{IsPrefix, nothing, next}
use Rattle.flow_model.specs.Rule.{Rule}
use Rattle.flow_model.specs.Section.{first_section}
use Rattle.flow_model.proofs.Prefixes.{append_prefix, prefix_trans}
use Rattle.flow_model.specs.Moment.{Moment}
use Rattle.flow_model.specs.Pad.{Holds}
use Rattle.flow_model.specs.Split.{AreEmpty, AreSplit}
use Rattle.flow_model.specs.Step.{Leads}
use Rattle.flow_model.specs.Whole.{OwesInOrder}
use Rattle.flow_model.proofs.Splits.{split_all, split_begins}
use Rattle.el_settings.specs.Asked.{is_source, source_pads}
use Rattle.el_set.specs.Denoted.{rule_of}
use Rattle.el_set.specs.Made.{list_of}
use Rattle.graph_core.specs.Elements.{Made}
use Rattle.graph_core.specs.Graph.{IsSound, made as made_in, links as links_in}
use Rattle.graph_core.specs.declared.graph.Graph.{Graph}
use Rattle.graph_pads.specs.declared.pad.PadPlace.{PadPlace}
use Rattle.graph_core.specs.GraphPlan.{line_plan, owner_of, sink_at as place_at}
use Rattle.graph_parts.specs.MomentLaws.{place_of}
use Rattle.graph_parts.specs.Pads.{is_pad, pad_owner}
use Rattle.graph_parts.specs.Plans.{moment_plan, tight_rule}
use Rattle.graph_parts.proofs.Sources.{owner_is, rule_at}
use Rattle.graph_tasks.specs.Owed.{IsAwaited, IsNext, inputs_to, owed_by, went_from}
use Rattle.graph_tasks.specs.Runs.{RunStands, crossed_in}
use Rattle.graph_tasks.proofs.Came.{given_is, leads_from, number_at, there_at}
use Rattle.graph_parts.specs.Links.{source_count}

not_there : (front rest : List Item) (x : Item) → [] ≡ front ++ x ∷ rest → ⊥
not_there [] rest x e = cc
not_there (y ∷ front) rest x e = cc

-- the element of a source pad
pub record HasElementAt (made : List Made) (source : PadPlace) : Type 0 where
  pub element : Made
  pub at : slice_get made source.element ≡ Some element
  pub few : source.pad < source_pads element.settings

pub element_at : (made : List Made) (source : PadPlace) → source.pad < source_count made source.element → HasElementAt made source
element_at made source there = go (slice_get made source.element) refl there
  where
    go : (found : Option Made) → slice_get made source.element ≡ found → source.pad < option_map_or (λ (m : Made). source_pads m.settings) found 0 → HasElementAt made source
    go None at few = absurd (omega (arith, few))
    go (Some m) at few = record { element = m; at = at; few = few }

module _ (contents : ℕ → List ℕ) (graph : Graph) (m : Moment) (sound : IsSound graph) (run : RunStands contents graph m) where
  -- what a number is owed by the rule of an element for some lists
  abbrev ruled : Option Made → ℕ → List (List Call) → ℕ → List Item
  ruled found n given p = tight_rule found n (contents n) given (p % 64) 0

  -- what it is owed for what its owner took has crossed it or waits there
  pub owes : (p : ℕ) → let n = pad_owner (made_in graph) p in ruled (slice_get (made_in graph) n) n (m.took n) p ≡ m.history p ++ m.waits p
  unfolding line_plan
  owes p =
      subst (λ (pl : Plan). Holds 0 0 (pl.log p).cuts (pl.rule (pl.owner p) (m.took (pl.owner p)) (pl.port p)) (m.history p) (m.waits p)) run.plan
      ((run.cells (m.plan.owner p)).pads p refl)

  -- something waits at pads alone
  pub waits_at_pad : (p : ℕ) (x : Item) (rest : List Item) → m.waits p ≡ x ∷ rest → is_pad (made_in graph) p ≡ true
  waits_at_pad p x rest waits = go (is_pad (made_in graph) p) refl (owes p)
    where
      none : ℕ
      none = length (made_in graph)

      go : (b : Bool) → is_pad (made_in graph) p ≡ b
          → (let n = (if b then owner_of p else length (made_in graph)) in ruled (slice_get (made_in graph) n) n (m.took n) p ≡ m.history p ++ m.waits p)
          → is_pad (made_in graph) p ≡ true
      go true pad owed = pad
      go false pad owed =
          absurd (not_there (m.history p) rest x
          (subst (λ (found : Option Made). ruled found none (m.took none) p ≡ m.history p ++ x ∷ rest) (slice_get_past (made_in graph) none (omega arith))
          (subst (λ (w : List Item). ruled (slice_get (made_in graph) none) none (m.took none) p ≡ m.history p ++ w) waits owed)))

  -- what crossed a pad
  pub went_is : (p : ℕ) → is_pad (made_in graph) p ≡ true → went_from (crossed_in graph m) (place_of p) ≡ m.history p
  went_is p pad = ap (crossed_in graph m) (sym (number_at p)) ∙ rw pad refl

  split : (n : ℕ) → AreSplit (m.took n) (m.held n) (inputs (moment_plan contents graph) m.history n)
  split n = subst (λ (pl : Plan). AreSplit (m.took n) (m.held n) (inputs pl m.history n)) run.plan (run.cells n).input

  -- what an element took and what stands in its inlets is what came to it
  pub split_came : (n : ℕ) → AreSplit (m.took n) (m.held n) (map feeds (inputs_to (made_in graph) (links_in graph) (crossed_in graph m) n))
  split_came n = subst (AreSplit (m.took n) (m.held n)) (given_is graph sound m.history contents n) (split n)

  -- where nothing stands there it took all
  pub took_all : (n : ℕ) → AreEmpty (m.held n) → m.took n ≡ map feeds (inputs_to (made_in graph) (links_in graph) (crossed_in graph m) n)
  took_all n empty = split_all empty (split_came n)

  -- what the rule of an element owes to its pad for all that it was given
  pub owed_is : (source : PadPlace) (one : Made) → source.pad < source_pads one.settings
      → tight_rule (Some one) source.element (contents source.element) (map feeds (inputs_to (made_in graph) (links_in graph) (crossed_in graph m) source.element)) source.pad 0
      ≡ owed_by contents (made_in graph) (links_in graph) (crossed_in graph m) source one.settings
  owed_is source one few = ap (λ (rule : Rule). rule given source.pad 0) (rule_at (Some one) e (contents e) source.pad few) ∙ by (is_source one.settings)
    where
      e : ℕ
      e = source.element

      given : List (List Call)
      given = map feeds (inputs_to (made_in graph) (links_in graph) (crossed_in graph m) source.element)

      by : (b : Bool) → (if b then (λ inputs port. first_section (list_of one.settings e (contents e))) else rule_of one.settings) given source.pad 0
          ≡ (if b then list_of one.settings e (contents e) else rule_of one.settings given source.pad 0)
      by true = refl
      by false = refl

  -- what waits first at a pad is the next item that is owed to it
  pub next_at : (p : ℕ) (x : Item) (rest : List Item) → m.waits p ≡ x ∷ rest
      → IsNext contents (made_in graph) (links_in graph) (crossed_in graph m) (place_of p) x
  next_at p x rest waits = record {
    element = f.element;
    at = f.at;
    there = f.few;
    next = subst (λ (h : List Item). IsPrefix (h ++ x ∷ []) owed) (sym (went_is p pad)) (prefix_trans begins ordered);
  }
    where
      pad : is_pad (made_in graph) p ≡ true
      pad = waits_at_pad p x rest waits

      f : HasElementAt (made_in graph) (place_of p)
      f = element_at (made_in graph) (place_of p) (there_at (made_in graph) p pad)

      e : ℕ
      e = owner_of p

      given : List (List Call)
      given = map feeds (inputs_to (made_in graph) (links_in graph) (crossed_in graph m) e)

      owed : List Item
      owed = owed_by contents (made_in graph) (links_in graph) (crossed_in graph m) (place_of p) f.element.settings

      now : ruled (slice_get (made_in graph) e) e (m.took e) p ≡ m.history p ++ x ∷ rest
      now =
          subst (λ (n : ℕ). ruled (slice_get (made_in graph) n) n (m.took n) p ≡ m.history p ++ m.waits p) (owner_is (made_in graph) p pad) (owes p)
          ∙ ap (λ (w : List Item). m.history p ++ w) waits

      begins : IsPrefix (m.history p ++ x ∷ []) (ruled (slice_get (made_in graph) e) e (m.took e) p)
      begins = subst (λ (w : List Item). IsPrefix (m.history p ++ x ∷ []) w) (sym now) (append_prefix (m.history p) (next nothing))

      in_order : OwesInOrder (tight_rule (slice_get (made_in graph) e) e (contents e)) (m.took e)
      in_order = subst (λ (pl : Plan). OwesInOrder (pl.rule e) (m.took e)) run.plan (run.in_order e)

      whole : ruled (slice_get (made_in graph) e) e given p ≡ owed
      whole = ap (λ (found : Option Made). ruled found e given p) f.at ∙ owed_is (place_of p) f.element f.few

      ordered : IsPrefix (ruled (slice_get (made_in graph) e) e (m.took e) p) owed
      ordered = subst (λ (w : List Item). IsPrefix (ruled (slice_get (made_in graph) e) e (m.took e) p) w) whole
          (in_order given (split_begins (split_came e)) (p % 64) 0)

  -- and awaited at the sink pad that the pad leads to
  pub awaited : (p n i : ℕ) (x : Item) (rest : List Item) → m.waits p ≡ x ∷ rest → Leads m.plan p n i
      → IsAwaited contents (made_in graph) (links_in graph) (crossed_in graph m) (place_at n i) x
  awaited p n i x rest waits leads = record {
    before = place_of p;
    linked = (leads_from contents graph sound p n i (subst (λ (pl : Plan). Leads pl p n i) run.plan leads)).linked;
    next = next_at p x rest waits;
  }
