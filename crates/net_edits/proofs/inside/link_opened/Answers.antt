use Rattle.std.proofs.Common.{List, refl, subst, arith}
use Rattle.task_edits.specs.Inside.{inside_behind}
use Rattle.net_task.specs.declared.task.Task.{Task}
use Rattle.net_edits.specs.Inside.{FedAll, FedShort, HasBoth, NoneHasBoth, TiesLinked}
use Rattle.net_edits.proofs.Together.{both_element, both_within}
use Rattle.net_edits.proofs.Turned.{inside_over_none, opened_stands, turned_left, turned_ready, turned_size}
use Rattle.net_edits.proofs.inside.link_opened.Goals as goal

pub returns-in_default-clause-none : goal.returns-in_default-clause-none
returns-in_default-clause-none g c = λ none. (subst (λ (ts : List (Task _ _ _ _ _ _ _ _ _)). NoneHasBoth ts c.args.pad c.args.to.element) c.as_slice.ensures.value (c.in_default.ensures.none refl), refl)

pub link_at-requires-clause-place : goal.link_at-requires-clause-place
link_at-requires-clause-place g c κs w =
    let within = both_within c.args.tasks.now.items c.args.pad c.args.to.element c.in-Some.place (subst (λ (ts : List (Task _ _ _ _ _ _ _ _ _)). HasBoth ts c.args.pad c.args.to.element c.in-Some.place) c.as_slice.ensures.value c.in-Some.ensures.there) in
    omega (arith, within, c.args.tasks.now.ok.0)

pub link_at-requires-clause-there : goal.link_at-requires-clause-there
link_at-requires-clause-there g c κs w =
    both_element c.args.tasks.now.items c.args.pad c.args.to.element c.in-Some.place (subst (λ (ts : List (Task _ _ _ _ _ _ _ _ _)). HasBoth ts c.args.pad c.args.to.element c.in-Some.place) c.as_slice.ensures.value c.in-Some.ensures.there)

pub returns-in-Ok-clause-linked : goal.returns-in-Ok-clause-linked
returns-in-Ok-clause-linked g c = λ done. record {
  place = c.in-Some.place;
  both = subst (λ (ts : List (Task _ _ _ _ _ _ _ _ _)). HasBoth ts c.args.pad c.args.to.element c.in-Some.place) c.as_slice.ensures.value c.in-Some.ensures.there;
  done = c.in-Ok.ensures.linked;
}

pub returns-in-Ok-clause-none : goal.returns-in-Ok-clause-none
returns-in-Ok-clause-none g c = λ none. absurd cc

pub returns-in-Ok-clause-stands : goal.returns-in-Ok-clause-stands
returns-in-Ok-clause-stands g c = λ done m tells stands can events. opened_stands c.args.tasks.now.items c.link_at.new.tasks.items c.args.pad c.args.to c.args.items (returns-in-Ok-clause-linked g c refl) c.requires.calm m tells stands can events

pub returns-in-Ok-clause-ready : goal.returns-in-Ok-clause-ready
returns-in-Ok-clause-ready g c = λ tells ready.
    turned_ready c.args.tasks.now.items c.link_at.new.tasks.items c.in-Some.place c.args.pad (inside_behind c.args.to) (TiesLinked c.args.pad c.args.to) (FedAll c.args.to c.args.items) (inside_over_none g.row.O.Denot c.args.to) c.in-Ok.ensures.linked tells ready

pub returns-in-Ok-clause-moves : goal.returns-in-Ok-clause-moves
returns-in-Ok-clause-moves g c =
    turned_left c.args.tasks.now.items c.link_at.new.tasks.items c.in-Some.place c.args.pad (inside_behind c.args.to) (TiesLinked c.args.pad c.args.to) (FedAll c.args.to c.args.items) (inside_over_none g.row.O.Denot c.args.to) c.in-Ok.ensures.linked

pub returns-in-Ok-clause-count : goal.returns-in-Ok-clause-count
returns-in-Ok-clause-count g c =
    turned_size c.args.tasks.now.items c.link_at.new.tasks.items c.in-Some.place c.args.pad (inside_behind c.args.to) (TiesLinked c.args.pad c.args.to) (FedAll c.args.to c.args.items) (inside_over_none g.row.O.Denot c.args.to) c.in-Ok.ensures.linked

pub returns-in-Err-clause-faults : goal.returns-in-Err-clause-faults
returns-in-Err-clause-faults g c =
    (subst (λ (ts : List (Task _ _ _ _ _ _ _ _ _)). HasBoth ts c.args.pad c.args.to.element c.in-Some.place) c.as_slice.ensures.value c.in-Some.ensures.there, c.in-Err.ensures.faults)

pub returns-in-Err-clause-ready : goal.returns-in-Err-clause-ready
returns-in-Err-clause-ready g c = λ tells ready.
    turned_ready c.args.tasks.now.items c.link_at.new.tasks.items c.in-Some.place c.args.pad (inside_behind c.args.to) (TiesLinked c.args.pad c.args.to) (FedShort c.args.to c.args.items c.in-Err.fault) (inside_over_none g.row.O.Denot c.args.to) c.in-Err.ensures.faults tells ready

pub returns-in-Err-clause-moves : goal.returns-in-Err-clause-moves
returns-in-Err-clause-moves g c =
    turned_left c.args.tasks.now.items c.link_at.new.tasks.items c.in-Some.place c.args.pad (inside_behind c.args.to) (TiesLinked c.args.pad c.args.to) (FedShort c.args.to c.args.items c.in-Err.fault) (inside_over_none g.row.O.Denot c.args.to) c.in-Err.ensures.faults

pub returns-in-Err-clause-count : goal.returns-in-Err-clause-count
returns-in-Err-clause-count g c =
    turned_size c.args.tasks.now.items c.link_at.new.tasks.items c.in-Some.place c.args.pad (inside_behind c.args.to) (TiesLinked c.args.pad c.args.to) (FedShort c.args.to c.args.items c.in-Err.fault) (inside_over_none g.row.O.Denot c.args.to) c.in-Err.ensures.faults
