-- A run of a script fits the evaluation of its graph behind each answer.
use Rattle.std.proofs.Common.{◌≡◌, ◌<◌, ◌≤◌, ◌%◌, ◌++◌, ℕ, Bool, true, false, if◌then◌else◌, List, length, map, refl, sym, ap, ◌∙◌, subst, arith}
use Rattle.std.proofs.lemmas.Bool.{false≢true, ltb-true}
use Rattle.std.specs.List.{list_any}
use Rattle.std.specs.Prelude.{◌==◌, nat_lt}
use Rattle.flow_model.specs.Call.{Call}
use Rattle.flow_model.specs.Item.{Item}
use Rattle.flow_model.specs.Link.{Span, input_of}
use Rattle.flow_model.specs.Moment.{Moment}
use Rattle.flow_model.specs.Prefix.{ArePrefixes}
use Rattle.flow_model.specs.Rule.{Rule}
use Rattle.flow_model.specs.Whole.{OwesInOrder}
use Rattle.flow_model.specs.declared.element.TaskElement as elements
use Rattle.flow_model.specs.declared.source.TaskSource as sources
use Rattle.flow_model.proofs.Prefixes.{prefix_by}
use Rattle.lane_core.specs.declared.ends.Inlet as inlets
use Rattle.lane_core.specs.declared.ends.Outlet as outlets
use Rattle.script_text.specs.declared.command.Command.{Command}
use Rattle.graph_core.specs.Elements.{Made, limit}
use Rattle.graph_core.specs.GraphPlan.{most_pads, owner_of}
use Rattle.graph_edits.specs.Edited.{Edited, is_there}
use Rattle.graph_edits.specs.Plans.{edited_rule}
use Rattle.graph_parts.specs.Pads.{is_pad}
use Rattle.edit_core.specs.Judging.{owed_then}
use Rattle.edit_core.specs.Whole.{owner_in}
use Rattle.edit_acts.specs.Evaluated.{ActsKeepEvaluated, FitsPlan, IsEvaluated, IsGone, OweInOrder}
use Rattle.edit_acts.specs.Planned.{IsTakenFrom, KeepsPlan}
use Rattle.edit_acts.specs.Scripted.{IsActed, IsAnsweredBy, ScriptRun}
use Rattle.edit_acts.proofs.Entered.{due_then, scripted_then}
use Rattle.edit_acts.proofs.FittingEval.{begins_there, each_took, ordered_there, owed_there, pad_of}
use Rattle.edit_acts.proofs.FittingGone.{all_taken, gone_took}
use Rattle.edit_acts.proofs.FittingSpans.{answered_spans, answered_there, gone_free}
use Rattle.edit_acts.proofs.FittingStays.{gone_stays, lanes_stay, owner_stays, plan_stays, rule_stays}

-- what is there is one of the elements that were made
pub there_within : (g : Edited) (a : ℕ) → is_there g a ≡ true → a < length g.made
there_within g a there = go (list_any (λ gone. gone == a) g.removed) there
  where
    go : (b : Bool) → (if b then false else nat_lt a (length g.made)) ≡ true → a < length g.made
    go true e = absurd (false≢true e)
    go false e = ltb-true a (length g.made) e

-- to a number without a pad belongs no element that is there
pub no_pad_gone : (g : Edited) (p : ℕ) → length g.made ≤ limit → is_pad g.made p ≡ false → is_there g (owner_in g.made p) ≡ false
no_pad_gone g p few not = go (is_there g (owner_in g.made p)) refl
  where
    past : owner_in g.made p ≡ limit
    past = ap (λ (b : Bool). if b then owner_of p else limit) not

    go : (b : Bool) → is_there g (owner_in g.made p) ≡ b → b ≡ false
    go true there = absurd (let within = there_within g (owner_in g.made p) there in omega (arith, within, few, past))
    go false gone = refl

-- what is due to a pad whose element is gone stays
pub due_stays : (g : Edited) (owner : ℕ → ℕ) (due now : ℕ → List Item) (p : ℕ) → is_there g (owner p) ≡ false → (if is_there g (owner p) then now p else due p) ≡ due p
due_stays g owner due now p gone = ap (λ (b : Bool). if b then now p else due p) gone

module _ {S E I O L : Type 0} {s : sources.Ghosts S} {e : elements.Ghosts E} {i : inlets.Ghosts I L O} {o : outlets.Ghosts O L} (owes : OweInOrder e) (contents : ℕ → List ℕ) (script : List Command)
    (first : Edited) (was is : ScriptRun s e i o) (w : IsEvaluated contents script first was) (acted : IsActed was is)
    (by : IsAnsweredBy is w.scripted.g w.scripted.m acted.command acted.entry.answer) where
  abbrev g : Edited
  g = w.scripted.g

  abbrev m : Moment
  m = w.scripted.m

  abbrev next : Edited
  next = by.next

  abbrev now : Moment
  now = by.now

  abbrev due : ℕ → List Item
  due = due_then script first was is w.scripted acted by

  plan : KeepsPlan g next m now
  plan = by.plan

  fits : FitsPlan contents g m w.scripted.due
  fits = w.fits

  owner_is : (p : ℕ) → now.plan.owner p ≡ owner_in next.made p
  owner_is p = ap (λ (f : ℕ → ℕ). f p) by.owner ∙ fits.owner p ∙ ap (λ (all : List Made). owner_in all p) (sym plan.made)

  awake : (a : ℕ) → edited_rule contents next a ≡ edited_rule contents g a
  awake a = rule_stays contents g next plan.made a (fits.awake a) (plan.awake a (fits.awake a))

  -- an element that is gone behind the answer
  module _ (a : ℕ) (low : a < length next.made) (gone : is_there next a ≡ false) where
    within : a < length g.made
    within = subst (λ (all : List Made). a < length all) plan.made low

    same_due : (p : ℕ) → owner_in g.made p ≡ a → due p ≡ w.scripted.due p
    same_due p own =
        due_stays next now.plan.owner w.scripted.due (owed_then now) p (ap (is_there next) (owner_is p ∙ ap (λ (all : List Made). owner_in all p) plan.made ∙ own) ∙ gone)

    same_given : map (input_of now.history) (next.spans a) ≡ map (input_of m.history) (g.spans a)
    same_given =
        ap (λ (h : ℕ → List Item). map (input_of h) (next.spans a)) by.crossed
        ∙ ap (λ (sss : List (List Span)). map (input_of m.history) sss)
        (answered_spans m.history (owed_then m) g a (λ before. gone_free g m was w.scripted.has a before) acted.command acted.entry.answer next by.lawful plan.made gone)

    -- that was gone before
    module _ (before : is_there g a ≡ false) where
      old : IsGone contents g m w.scripted.due a
      old = fits.gone a within before

      gone_on : IsGone contents next now due a
      gone_on =
          gone_stays contents g next plan.made a m now w.scripted.due due old (plan.gone a before).0 ((plan.gone a before).1 old.took old.sinks) (awake a) same_due same_given

      took_on : now.took a ≡ m.took a
      took_on = all_taken next now is by.has a gone old.took ((plan.gone a before).1 old.took old.sinks) ∙ sym (gone_took g m was w.scripted.has a before contents w.scripted.due old)

    -- that was taken away
    module _ (there : is_there g a ≡ true) where
      taken : IsTakenFrom m now a
      taken = plan.taken a there gone (fits.awake a)

      cut_is : (p : ℕ) → owner_in g.made p ≡ a → taken.cut (p % most_pads) ≡ m.history p
      cut_is p own = ap taken.cut (sym (fits.port p)) ∙ taken.is_cut.own p (fits.owner p ∙ own)

      due_was : (p : ℕ) → owner_in g.made p ≡ a → due p ≡ m.history p ++ m.waits p
      due_was p own = same_due p own ∙ w.scripted.owes p (ap (is_there g) (fits.owner p ∙ own) ∙ there)

      gone_now : IsGone contents next now due a
      gone_now = record {
        cut = taken.cut;
        took = m.took a;
        rule = taken.rule;
        sinks = taken.sinks;
        owes = λ p mine.
            let own = owner_stays contents g next plan.made a p mine in
            prefix_by (taken.cut (p % most_pads)) (m.waits p) (ap (λ (l : List Item). l ++ m.waits p) (cut_is p own) ∙ sym (due_was p own));
        due_is = λ p mine.
            let own = owner_stays contents g next plan.made a p mine in
            due_was p own
            ∙ sym (owed_there contents g m w.scripted.due was w.scripted.has fits a there p (pad_of g p a within w.few own) own)
            ∙ ap (λ (rule : Rule). rule (m.took a) (p % most_pads) 0) (sym (awake a));
        begins = subst (λ (css : List (List Call)). ArePrefixes (m.took a) css) (sym same_given) (begins_there contents g m w.scripted.due was w.scripted.has fits a there);
        whole = λ bare. each_took contents g m w.scripted.due was w.scripted.has fits a within (lanes_stay contents g next plan.made a bare) ∙ sym same_given;
        in_order = subst (λ (rule : Rule). OwesInOrder rule (m.took a)) (sym (awake a)) (ordered_there contents g m w.scripted.due was w.scripted.has fits owes a there);
      }

      took_now : now.took a ≡ m.took a
      took_now = all_taken next now is by.has a gone (m.took a) taken.sinks

  gone_then : (a : ℕ) → a < length next.made → is_there next a ≡ false → IsGone contents next now due a
  gone_then a low gone = go (is_there g a) refl
    where
      go : (b : Bool) → is_there g a ≡ b → IsGone contents next now due a
      go true there = gone_now a low gone there
      go false before = gone_on a low gone before

  took_then : (a : ℕ) → a < length next.made → is_there next a ≡ false → now.took a ≡ m.took a
  took_then a low gone = go (is_there g a) refl
    where
      go : (b : Bool) → is_there g a ≡ b → now.took a ≡ m.took a
      go true there = took_now a low gone there
      go false before = took_on a low gone before

  few_then : length next.made ≤ limit
  few_then = subst (λ (all : List Made). length all ≤ limit) (sym plan.made) w.few

  fits_then : FitsPlan contents next now due
  fits_then = record {
    owner = owner_is;
    port = λ p. plan.port p ∙ fits.port p;
    rules = λ a there.
        plan.rules a there
        ∙ fits.rules a (answered_there m.history (owed_then m) g a acted.command acted.entry.answer next by.lawful plan.made there)
        ∙ sym (plan_stays contents g next plan.made a (fits.awake a) (plan.awake a (fits.awake a)));
    awake = λ a. plan.awake a (fits.awake a);
    gone = gone_then;
    bare = λ p not.
        due_stays next now.plan.owner w.scripted.due (owed_then now) p (ap (is_there next) (owner_is p) ∙ no_pad_gone next p few_then not)
        ∙ fits.bare p (ap (λ (all : List Made). is_pad all p) (sym plan.made) ∙ not);
  }

  abbrev evaluated_then : IsEvaluated contents script first is
  evaluated_then = record { scripted = scripted_then script first was is w.scripted acted by; fits = fits_then; few = few_then }

pub acts_keep_evaluated : {S E I O L : Type 0} (s : sources.Ghosts S) (e : elements.Ghosts E) (i : inlets.Ghosts I L O) (o : outlets.Ghosts O L) → ActsKeepEvaluated s e i o
acts_keep_evaluated s e i o owes contents script first was is w acted names =
    let by = acted.answered w.scripted.g w.scripted.m names w.scripted.has in
    record {
      run = evaluated_then owes contents script first was is w acted by;
      graph = refl;
      moment = refl;
      took = λ a low gone. took_then owes contents script first was is w acted by a low gone;
    }
