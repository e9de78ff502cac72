use Rattle.std.proofs.Common.{◌≡◌, false, List, inl, inr, refl, subst, sym, arith}
use Rattle.flow_model.specs.Item.{Item}
use Rattle.gst_item.specs.Sticky.{has_flush_stop}
use Rattle.task_pads.proofs.Lists.{some_at}
use Rattle.task_pads.specs.declared.pad.Behind.TheVariants.{Nothing}
use Rattle.net_task.specs.declared.task.Task.{Task}
use Rattle.net_edits.specs.Inside.{FedAll, FedShort, HasInside, IsTurned, TiesUndone}
use Rattle.net_edits.specs.Nets.{NoneHas, TaskHas}
use Rattle.net_edits.proofs.Together.{inside_element, leads_out, pad_within}
use Rattle.net_edits.proofs.Turned.{ended_stands, nothing_over_none, turned_left, turned_ready, turned_size}
use Rattle.net_edits.proofs.inside.end_inside.Goals as goal

pub index-requires : goal.index-requires
index-requires g c =
    let within = pad_within c.args.tasks.now.items c.args.pad c.in-Some.place (subst (λ (ts : List (Task _ _ _ _ _ _ _ _ _)). TaskHas ts c.args.pad c.in-Some.place) c.as_slice.ensures.value c.in-Some.ensures.there) in
    omega (arith, within, c.args.tasks.now.ok.0)

pub end_at-requires-clause-place : goal.end_at-requires-clause-place
end_at-requires-clause-place g c κs w =
    let within = pad_within c.args.tasks.now.items c.args.pad c.in-Some.place (subst (λ (ts : List (Task _ _ _ _ _ _ _ _ _)). TaskHas ts c.args.pad c.in-Some.place) c.as_slice.ensures.value c.in-Some.ensures.there) in
    omega (arith, within, c.args.tasks.now.ok.0)

pub end_at-requires-clause-there : goal.end_at-requires-clause-there
end_at-requires-clause-there g c κs w =
    let within = pad_within c.args.tasks.now.items c.args.pad c.in-Some.place (subst (λ (ts : List (Task _ _ _ _ _ _ _ _ _)). TaskHas ts c.args.pad c.in-Some.place) c.as_slice.ensures.value c.in-Some.ensures.there) in
    let inside : HasInside c.args.tasks.now.items c.args.pad c.in-Some.place c.in-Some-inside_of.to = record { task = c.index.result.now; at = some_at c.args.tasks.now.items c.in-Some.place c.index.result.now within c.index.ensures; leads = c.in-Some-inside_of.ensures.leads } in
    inside_element c.args.tasks.now.items c.args.pad c.in-Some.place c.in-Some-inside_of.to inside

pub end_at-requires-clause-calm : goal.end_at-requires-clause-calm
end_at-requires-clause-calm g c κs w = subst (λ (items : List Item). has_flush_stop items ≡ false) (sym c.in-Ok.ensures) refl

pub returns-in-Ok-end_at-clause-ended : goal.returns-in-Ok-end_at-clause-ended
returns-in-Ok-end_at-clause-ended g c = λ done.
    let within = pad_within c.args.tasks.now.items c.args.pad c.in-Some.place (subst (λ (ts : List (Task _ _ _ _ _ _ _ _ _)). TaskHas ts c.args.pad c.in-Some.place) c.as_slice.ensures.value c.in-Some.ensures.there) in
    let inside : HasInside c.args.tasks.now.items c.args.pad c.in-Some.place c.in-Some-inside_of.to = record { task = c.index.result.now; at = some_at c.args.tasks.now.items c.in-Some.place c.index.result.now within c.index.ensures; leads = c.in-Some-inside_of.ensures.leads } in
    record { place = c.in-Some.place; to = c.in-Some-inside_of.to; inside = inside; done = subst (λ (items : List Item). IsTurned c.args.tasks.now.items c.end_at.new.tasks.items c.in-Some.place c.args.pad Nothing (TiesUndone c.args.pad) (FedAll c.in-Some-inside_of.to items)) c.in-Ok.ensures c.in-Ok-end_at.ensures.ended }

pub returns-in-Ok-end_at-clause-stands : goal.returns-in-Ok-end_at-clause-stands
returns-in-Ok-end_at-clause-stands g c = λ done m tells stands.
    let within = pad_within c.args.tasks.now.items c.args.pad c.in-Some.place (subst (λ (ts : List (Task _ _ _ _ _ _ _ _ _)). TaskHas ts c.args.pad c.in-Some.place) c.as_slice.ensures.value c.in-Some.ensures.there) in
    let inside : HasInside c.args.tasks.now.items c.args.pad c.in-Some.place c.in-Some-inside_of.to = record { task = c.index.result.now; at = some_at c.args.tasks.now.items c.in-Some.place c.index.result.now within c.index.ensures; leads = c.in-Some-inside_of.ensures.leads } in
    ended_stands c.args.tasks.now.items c.end_at.new.tasks.items c.args.pad (record { place = c.in-Some.place; to = c.in-Some-inside_of.to; inside = inside; done = subst (λ (items : List Item). IsTurned c.args.tasks.now.items c.end_at.new.tasks.items c.in-Some.place c.args.pad Nothing (TiesUndone c.args.pad) (FedAll c.in-Some-inside_of.to items)) c.in-Ok.ensures c.in-Ok-end_at.ensures.ended }) m tells stands

pub returns-in-Ok-end_at-clause-ready : goal.returns-in-Ok-end_at-clause-ready
returns-in-Ok-end_at-clause-ready g c = λ tells ready. turned_ready c.args.tasks.now.items c.end_at.new.tasks.items c.in-Some.place c.args.pad Nothing (TiesUndone c.args.pad) (FedAll c.in-Some-inside_of.to c.in-Ok.items) (nothing_over_none g.row.O.Denot) c.in-Ok-end_at.ensures.ended tells ready

pub returns-in-Ok-end_at-clause-moves : goal.returns-in-Ok-end_at-clause-moves
returns-in-Ok-end_at-clause-moves g c = turned_left c.args.tasks.now.items c.end_at.new.tasks.items c.in-Some.place c.args.pad Nothing (TiesUndone c.args.pad) (FedAll c.in-Some-inside_of.to c.in-Ok.items) (nothing_over_none g.row.O.Denot) c.in-Ok-end_at.ensures.ended

pub returns-in-Ok-end_at-clause-count : goal.returns-in-Ok-end_at-clause-count
returns-in-Ok-end_at-clause-count g c = turned_size c.args.tasks.now.items c.end_at.new.tasks.items c.in-Some.place c.args.pad Nothing (TiesUndone c.args.pad) (FedAll c.in-Some-inside_of.to c.in-Ok.items) (nothing_over_none g.row.O.Denot) c.in-Ok-end_at.ensures.ended

pub returns-in-Ok-end_at-clause-none : goal.returns-in-Ok-end_at-clause-none
returns-in-Ok-end_at-clause-none g c = λ none. absurd cc

pub returns-in-Err-end_at-clause-faults : goal.returns-in-Err-end_at-clause-faults
returns-in-Err-end_at-clause-faults g c =
    let within = pad_within c.args.tasks.now.items c.args.pad c.in-Some.place (subst (λ (ts : List (Task _ _ _ _ _ _ _ _ _)). TaskHas ts c.args.pad c.in-Some.place) c.as_slice.ensures.value c.in-Some.ensures.there) in
    let inside : HasInside c.args.tasks.now.items c.args.pad c.in-Some.place c.in-Some-inside_of.to = record { task = c.index.result.now; at = some_at c.args.tasks.now.items c.in-Some.place c.index.result.now within c.index.ensures; leads = c.in-Some-inside_of.ensures.leads } in
    (c.in-Some-inside_of.to, inside, subst (λ (items : List Item). IsTurned c.args.tasks.now.items c.end_at.new.tasks.items c.in-Some.place c.args.pad Nothing (TiesUndone c.args.pad) (FedShort c.in-Some-inside_of.to items c.in-Err-end_at.fault)) c.in-Ok.ensures c.in-Err-end_at.ensures.faults)

pub returns-in-Err-end_at-clause-ready : goal.returns-in-Err-end_at-clause-ready
returns-in-Err-end_at-clause-ready g c = λ tells ready. turned_ready c.args.tasks.now.items c.end_at.new.tasks.items c.in-Some.place c.args.pad Nothing (TiesUndone c.args.pad) (FedShort c.in-Some-inside_of.to c.in-Ok.items c.in-Err-end_at.fault) (nothing_over_none g.row.O.Denot) c.in-Err-end_at.ensures.faults tells ready

pub returns-in-Err-end_at-clause-moves : goal.returns-in-Err-end_at-clause-moves
returns-in-Err-end_at-clause-moves g c = turned_left c.args.tasks.now.items c.end_at.new.tasks.items c.in-Some.place c.args.pad Nothing (TiesUndone c.args.pad) (FedShort c.in-Some-inside_of.to c.in-Ok.items c.in-Err-end_at.fault) (nothing_over_none g.row.O.Denot) c.in-Err-end_at.ensures.faults

pub returns-in-Err-end_at-clause-count : goal.returns-in-Err-end_at-clause-count
returns-in-Err-end_at-clause-count g c = turned_size c.args.tasks.now.items c.end_at.new.tasks.items c.in-Some.place c.args.pad Nothing (TiesUndone c.args.pad) (FedShort c.in-Some-inside_of.to c.in-Ok.items c.in-Err-end_at.fault) (nothing_over_none g.row.O.Denot) c.in-Err-end_at.ensures.faults

pub returns-in_default-clause-none : goal.returns-in_default-clause-none
returns-in_default-clause-none g c = λ none. (inl (subst (λ (ts : List (Task _ _ _ _ _ _ _ _ _)). NoneHas ts c.args.pad) c.as_slice.ensures.value (c.in_default.ensures.none refl)), refl)

pub returns-in_default-inside_of-clause-none : goal.returns-in_default-inside_of-clause-none
returns-in_default-inside_of-clause-none g c = λ none.
    (inr (c.in-Some.place, leads_out c.args.tasks.now.items c.args.pad c.in-Some.place (subst (λ (ts : List (Task _ _ _ _ _ _ _ _ _)). TaskHas ts c.args.pad c.in-Some.place) c.as_slice.ensures.value c.in-Some.ensures.there) c.index.result.now c.index.ensures (c.in_default-inside_of.ensures.none refl)), refl)
