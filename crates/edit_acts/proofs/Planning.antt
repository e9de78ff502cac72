-- What stays of the plan of a moment where a deed was done.
use Rattle.std.proofs.Common.{◌≡◌, ◌⊎◌, ℕ, Bool, true, false, eqb, if◌then◌else◌, List, [], ◌∷◌, map, refl, sym, ap, ◌∙◌, subst, inl, inr}
use Rattle.std.proofs.lemmas.Bool.{true≢false}
use Rattle.std.proofs.lemmas.Bool.Decides.{eqb_tells}
use Rattle.flow_model.specs.Call.{Call}
use Rattle.flow_model.specs.Edit.{linked, push_span, undo, undone}
use Rattle.flow_model.specs.Eval.{Plan}
use Rattle.flow_model.specs.Item.{Item}
use Rattle.flow_model.specs.Link.{Span, Given, Linked}
use Rattle.flow_model.specs.Moment.{Moment}
use Rattle.flow_model.specs.Rule.{Rule}
use Rattle.gst_value.proofs.Basics.{number_itself}
use Rattle.graph_core.specs.GraphPlan.{pad_id}
use Rattle.graph_pads.specs.declared.pad.PadPlace.{PadPlace}
use Rattle.net_edits.specs.Adding.{IsCut, frozen, owes_just}
use Rattle.graph_edits.specs.Edited.{Edited, is_there, relinked_at, unlinked_at, without_element}
use Rattle.graph_edits.specs.Plans.{is_asleep}
use Rattle.edit_acts.specs.Planned.{IsTakenFrom, KeepsPlan, givens}
use Rattle.edit_acts.proofs.Gone.{still_there, was_there}
use Rattle.edit_acts.proofs.Graphs.{still_awake}

-- sink pads that are given no more have no link to undo
undo_givens : (p place : ℕ) (eos : Bool) (took : List (List Call)) → map (map (undo p place eos)) (givens took) ≡ givens took
undo_givens p place eos [] = refl
undo_givens p place eos (calls ∷ took) = ap (λ (rest : List (List Span)). (Given calls ∷ []) ∷ rest) (undo_givens p place eos took)

not_both : (g next : Edited) (a : ℕ) → is_there next a ≡ is_there g a → is_there g a ≡ true → is_there next a ≡ false → ⊥
not_both g next a same there gone = true≢false (sym there ∙ sym same ∙ gone)

-- nothing changes
pub plan_stays : (g : Edited) (m : Moment) → KeepsPlan g g m m
plan_stays g m = record {
  made = refl;
  awake = λ a awake. awake;
  port = λ p. refl;
  rules = λ a there. refl;
  gone = λ a gone. (refl, λ took same. same);
  taken = λ a there gone awake. absurd (not_both g g a refl there gone);
}

-- a link is undone
pub undone_plan : (g : Edited) (m now : Moment) (source : PadPlace) (items p place : ℕ) (eos ended : Bool) → now.plan ≡ undone p place ended m.plan → KeepsPlan g (unlinked_at source items eos g) m now
undone_plan g m now source items p place eos ended is = record {
  made = refl;
  awake = λ a awake. awake;
  port = λ q. ap (λ (pl : Plan). pl.port q) is;
  rules = λ a there. ap (λ (pl : Plan). pl.rule a) is;
  gone = λ a gone. (
    ap (λ (pl : Plan). pl.rule a) is,
    λ took same. ap (λ (pl : Plan). pl.sinks a) is ∙ ap (λ (sss : List (List Span)). map (map (undo p place ended)) sss) same ∙ undo_givens p place ended took,
  );
  taken = λ a there gone awake. absurd (not_both g (unlinked_at source items eos g) a refl there gone);
}

-- and another one is made to an element that is there
pub relinked_plan : (g : Edited) (m now : Moment) (source sink : PadPlace) (items p place : ℕ) → is_there g sink.element ≡ true
    → now.plan ≡ linked p place sink.element sink.pad (undone p place false m.plan) → KeepsPlan g (relinked_at source items sink g) m now
relinked_plan g m now source sink items p place there is = record {
  made = refl;
  awake = λ a awake. still_awake (unlinked_at source items false g) source items sink a awake;
  port = λ q. ap (λ (pl : Plan). pl.port q) is;
  rules = λ a there. ap (λ (pl : Plan). pl.rule a) is;
  gone = λ a gone. (ap (λ (pl : Plan). pl.rule a) is, λ took same. ap (λ (pl : Plan). pl.sinks a) is ∙ other a gone (eqb_tells a sink.element) ∙ ap (λ (sss : List (List Span)). map (map (undo p place false)) sss) same ∙ undo_givens p place false took);
  taken = λ a there gone awake. absurd (not_both g (relinked_at source items sink g) a refl there gone);
}
  where
    other : (a : ℕ) → is_there g a ≡ false → ((eqb a sink.element ≡ true) × (a ≡ sink.element)) ⊎ ((eqb a sink.element ≡ false) × (a ≡ sink.element → ⊥))
        → (linked p place sink.element sink.pad (undone p place false m.plan)).sinks a ≡ map (map (undo p place false)) (m.plan.sinks a)
    other a gone (inl t) = absurd (true≢false (sym there ∙ ap (is_there g) (sym t.1) ∙ gone))
    other a gone (inr t) =
        ap (λ (b : Bool). if b then push_span sink.pad (Linked p place []) (map (map (undo p place false)) (m.plan.sinks a)) else map (map (undo p place false)) (m.plan.sinks a)) t.0

-- an element is taken out
pub frozen_plan : (g : Edited) (m : Moment) (n : ℕ) (cut : ℕ → List Item) → is_there g n ≡ true → IsCut m n cut → KeepsPlan g (without_element n g) m (frozen n cut m)
frozen_plan g m n cut there is_cut = record {
  made = refl;
  awake = λ a awake. awake;
  port = λ q. refl;
  rules = λ a there. rule_else a (eqb_tells a n) (was_there g n a there).1;
  gone = λ a gone. let other : a ≡ n → ⊥ = λ same. true≢false (sym there ∙ ap (is_there g) (sym same) ∙ gone) in (
    rule_else a (eqb_tells a n) other,
    λ took same. sinks_else a (eqb_tells a n) other ∙ same,
  );
  taken = λ a was gone awake. taken a was gone (eqb_tells a n);
}
  where
    rule_else : (a : ℕ) → ((eqb a n ≡ true) × (a ≡ n)) ⊎ ((eqb a n ≡ false) × (a ≡ n → ⊥)) → (a ≡ n → ⊥) → (frozen n cut m).plan.rule a ≡ m.plan.rule a
    rule_else a (inl t) other = absurd (other t.1)
    rule_else a (inr t) other = ap (λ (b : Bool). if b then owes_just cut else m.plan.rule a) t.0

    sinks_else : (a : ℕ) → ((eqb a n ≡ true) × (a ≡ n)) ⊎ ((eqb a n ≡ false) × (a ≡ n → ⊥)) → (a ≡ n → ⊥) → (frozen n cut m).plan.sinks a ≡ m.plan.sinks a
    sinks_else a (inl t) other = absurd (other t.1)
    sinks_else a (inr t) other = ap (λ (b : Bool). if b then givens (m.took n) else m.plan.sinks a) t.0

    taken : (a : ℕ) → is_there g a ≡ true → is_there (without_element n g) a ≡ false → ((eqb a n ≡ true) × (a ≡ n)) ⊎ ((eqb a n ≡ false) × (a ≡ n → ⊥)) → IsTakenFrom m (frozen n cut m) a
    taken a was gone (inl t) =
        subst (λ (b : ℕ). IsTakenFrom m (frozen n cut m) b) (sym t.1)
        (record {
          cut = cut;
          is_cut = is_cut;
          rule = ap (λ (b : Bool). if b then owes_just cut else m.plan.rule n) (number_itself n);
          sinks = ap (λ (b : Bool). if b then givens (m.took n) else m.plan.sinks n) (number_itself n);
        })
    taken a was gone (inr t) = absurd (true≢false (sym (still_there g n a t.1 was) ∙ gone))

-- a source that is asleep is taken away, and the moment stays
pub asleep_plan : (g : Edited) (m : Moment) (n : ℕ) → is_there g n ≡ true → is_asleep g n ≡ true → KeepsPlan g (without_element n g) m m
asleep_plan g m n there asleep = record {
  made = refl;
  awake = λ a awake. awake;
  port = λ q. refl;
  rules = λ a there. refl;
  gone = λ a gone. (refl, λ took same. same);
  taken = λ a was gone awake. absurd (taken a was gone awake (eqb_tells a n));
}
  where
    taken : (a : ℕ) → is_there g a ≡ true → is_there (without_element n g) a ≡ false → is_asleep g a ≡ false → ((eqb a n ≡ true) × (a ≡ n)) ⊎ ((eqb a n ≡ false) × (a ≡ n → ⊥)) → ⊥
    taken a was gone awake (inl t) = true≢false (sym asleep ∙ ap (is_asleep g) (sym t.1) ∙ awake)
    taken a was gone awake (inr t) = true≢false (sym (still_there g n a t.1 was) ∙ gone)
