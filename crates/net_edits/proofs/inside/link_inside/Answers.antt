use Rattle.std.proofs.Common.{List, refl, subst, arith}
use Rattle.task_pads.proofs.Lists.{some_at}
use Rattle.task_edits.specs.Inside.{inside_behind}
use Rattle.net_task.specs.declared.task.Task.{Task}
use Rattle.net_edits.specs.Inside.{FedAll, FedShort, HasBoth, NoneHasBoth, TiesLinked}
use Rattle.net_edits.proofs.Together.{both_element, both_within, opening_read}
use Rattle.net_edits.proofs.Turned.{inside_over_none, linked_stands, turned_left, turned_ready, turned_size}
use Rattle.net_edits.proofs.inside.link_inside.Goals as goal

pub returns-in_default-clause-none : goal.returns-in_default-clause-none
returns-in_default-clause-none g c = λ none. (subst (λ (ts : List (Task _ _ _ _ _ _ _ _ _)). NoneHasBoth ts c.args.pad c.args.to.element) c.as_slice.ensures.value (c.in_default.ensures.none refl), refl)

pub index-requires : goal.index-requires
index-requires g c =
    let within = both_within c.args.tasks.now.items c.args.pad c.args.to.element c.in-Some.place (subst (λ (ts : List (Task _ _ _ _ _ _ _ _ _)). HasBoth ts c.args.pad c.args.to.element c.in-Some.place) c.as_slice.ensures.value c.in-Some.ensures.there) in
    omega (arith, within, c.args.tasks.now.ok.0)

pub link_at-requires-clause-place : goal.link_at-requires-clause-place
link_at-requires-clause-place g c κs w =
    let within = both_within c.args.tasks.now.items c.args.pad c.args.to.element c.in-Some.place (subst (λ (ts : List (Task _ _ _ _ _ _ _ _ _)). HasBoth ts c.args.pad c.args.to.element c.in-Some.place) c.as_slice.ensures.value c.in-Some.ensures.there) in
    omega (arith, within, c.args.tasks.now.ok.0)

pub link_at-requires-clause-there : goal.link_at-requires-clause-there
link_at-requires-clause-there g c κs w =
    both_element c.args.tasks.now.items c.args.pad c.args.to.element c.in-Some.place (subst (λ (ts : List (Task _ _ _ _ _ _ _ _ _)). HasBoth ts c.args.pad c.args.to.element c.in-Some.place) c.as_slice.ensures.value c.in-Some.ensures.there)

pub link_at-requires-clause-calm : goal.link_at-requires-clause-calm
link_at-requires-clause-calm g c κs w = c.in-Ok.ensures.calm

pub returns-in-Ok-link_at-clause-linked : goal.returns-in-Ok-link_at-clause-linked
returns-in-Ok-link_at-clause-linked g c = λ done.
    let both : HasBoth c.args.tasks.now.items c.args.pad c.args.to.element c.in-Some.place = subst (λ (ts : List (Task _ _ _ _ _ _ _ _ _)). HasBoth ts c.args.pad c.args.to.element c.in-Some.place) c.as_slice.ensures.value c.in-Some.ensures.there in
    let within = both_within c.args.tasks.now.items c.args.pad c.args.to.element c.in-Some.place both in
    record {
      place = c.in-Some.place;
      both = both;
      items = c.in-Ok.items;
      opening = opening_read c.args.tasks.now.items c.in-Some.place c.args.pad c.index.result.now c.in-Ok.items (some_at c.args.tasks.now.items c.in-Some.place c.index.result.now within c.index.ensures) c.in-Ok.ensures.all;
      done = c.in-Ok-link_at.ensures.linked;
    }

pub returns-in-Ok-link_at-clause-none : goal.returns-in-Ok-link_at-clause-none
returns-in-Ok-link_at-clause-none g c = λ none. absurd cc

pub returns-in-Ok-link_at-clause-stands : goal.returns-in-Ok-link_at-clause-stands
returns-in-Ok-link_at-clause-stands g c = λ done m tells stands can.
    let both : HasBoth c.args.tasks.now.items c.args.pad c.args.to.element c.in-Some.place = subst (λ (ts : List (Task _ _ _ _ _ _ _ _ _)). HasBoth ts c.args.pad c.args.to.element c.in-Some.place) c.as_slice.ensures.value c.in-Some.ensures.there in
    let within = both_within c.args.tasks.now.items c.args.pad c.args.to.element c.in-Some.place both in
    linked_stands c.args.tasks.now.items c.link_at.new.tasks.items c.args.pad c.args.to
    (record {
      place = c.in-Some.place;
      both = both;
      items = c.in-Ok.items;
      opening = opening_read c.args.tasks.now.items c.in-Some.place c.args.pad c.index.result.now c.in-Ok.items (some_at c.args.tasks.now.items c.in-Some.place c.index.result.now within c.index.ensures) c.in-Ok.ensures.all;
      done = c.in-Ok-link_at.ensures.linked;
    }) c.in-Ok.ensures.calm m tells stands can

pub returns-in-Ok-link_at-clause-ready : goal.returns-in-Ok-link_at-clause-ready
returns-in-Ok-link_at-clause-ready g c = λ tells ready.
    turned_ready c.args.tasks.now.items c.link_at.new.tasks.items c.in-Some.place c.args.pad (inside_behind c.args.to) (TiesLinked c.args.pad c.args.to) (FedAll c.args.to c.in-Ok.items) (inside_over_none g.row.O.Denot c.args.to) c.in-Ok-link_at.ensures.linked tells ready

pub returns-in-Ok-link_at-clause-moves : goal.returns-in-Ok-link_at-clause-moves
returns-in-Ok-link_at-clause-moves g c =
    turned_left c.args.tasks.now.items c.link_at.new.tasks.items c.in-Some.place c.args.pad (inside_behind c.args.to) (TiesLinked c.args.pad c.args.to) (FedAll c.args.to c.in-Ok.items) (inside_over_none g.row.O.Denot c.args.to) c.in-Ok-link_at.ensures.linked

pub returns-in-Ok-link_at-clause-count : goal.returns-in-Ok-link_at-clause-count
returns-in-Ok-link_at-clause-count g c =
    turned_size c.args.tasks.now.items c.link_at.new.tasks.items c.in-Some.place c.args.pad (inside_behind c.args.to) (TiesLinked c.args.pad c.args.to) (FedAll c.args.to c.in-Ok.items) (inside_over_none g.row.O.Denot c.args.to) c.in-Ok-link_at.ensures.linked

pub returns-in-Err-link_at-clause-faults : goal.returns-in-Err-link_at-clause-faults
returns-in-Err-link_at-clause-faults g c =
    let both : HasBoth c.args.tasks.now.items c.args.pad c.args.to.element c.in-Some.place = subst (λ (ts : List (Task _ _ _ _ _ _ _ _ _)). HasBoth ts c.args.pad c.args.to.element c.in-Some.place) c.as_slice.ensures.value c.in-Some.ensures.there in
    let within = both_within c.args.tasks.now.items c.args.pad c.args.to.element c.in-Some.place both in (
      both,
      (
        c.in-Ok.items,
        opening_read c.args.tasks.now.items c.in-Some.place c.args.pad c.index.result.now c.in-Ok.items (some_at c.args.tasks.now.items c.in-Some.place c.index.result.now within c.index.ensures) c.in-Ok.ensures.all,
        c.in-Err-link_at.ensures.faults,
      ),
    )

pub returns-in-Err-link_at-clause-ready : goal.returns-in-Err-link_at-clause-ready
returns-in-Err-link_at-clause-ready g c = λ tells ready.
    turned_ready c.args.tasks.now.items c.link_at.new.tasks.items c.in-Some.place c.args.pad (inside_behind c.args.to) (TiesLinked c.args.pad c.args.to) (FedShort c.args.to c.in-Ok.items c.in-Err-link_at.fault) (inside_over_none g.row.O.Denot c.args.to) c.in-Err-link_at.ensures.faults tells ready

pub returns-in-Err-link_at-clause-moves : goal.returns-in-Err-link_at-clause-moves
returns-in-Err-link_at-clause-moves g c =
    turned_left c.args.tasks.now.items c.link_at.new.tasks.items c.in-Some.place c.args.pad (inside_behind c.args.to) (TiesLinked c.args.pad c.args.to) (FedShort c.args.to c.in-Ok.items c.in-Err-link_at.fault) (inside_over_none g.row.O.Denot c.args.to) c.in-Err-link_at.ensures.faults

pub returns-in-Err-link_at-clause-count : goal.returns-in-Err-link_at-clause-count
returns-in-Err-link_at-clause-count g c =
    turned_size c.args.tasks.now.items c.link_at.new.tasks.items c.in-Some.place c.args.pad (inside_behind c.args.to) (TiesLinked c.args.pad c.args.to) (FedShort c.args.to c.in-Ok.items c.in-Err-link_at.fault) (inside_over_none g.row.O.Denot c.args.to) c.in-Err-link_at.ensures.faults
