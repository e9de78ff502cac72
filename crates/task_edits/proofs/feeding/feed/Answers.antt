use Rattle.std.proofs.Common.{◌∙◌, List, ap, subst, sym}
use Rattle.std.specs.Prelude.{IfErr, OnOk}
use Rattle.std.proofs.lemmas.Result.{IfErr-weaker, on_ok_weaker}
use Rattle.task_parts.specs.declared.part.Part.{Part}
use Rattle.task_edits.specs.Feeding.{StoppedIn, TookIn}
use Rattle.task_edits.proofs.Feeds.{bare_are_ready, bare_closed, bare_frame, bare_left, fed_bares, stopped_tied, took_tied}
use Rattle.task_edits.proofs.feeding.feed.Goals as goal

pub new-requires-clause-closed : goal.new-requires-clause-closed
new-requires-clause-closed g c κs within =
    bare_closed g.I.Inlet g.O.Outlet c.args.task.head c.into_parts-head.result.0 c.args.task.parts.items c.feed_in-fed.new.parts.items c.into_parts-head.ensures.head
    (fed_bares c.feed_in-fed.result c.args.task.parts.items c.feed_in-fed.new.parts.items c.args.element c.args.pad c.args.items
    (subst (λ (ps : List (Part _ _ _)). OnOk c.feed_in-fed.result (TookIn ps c.feed_in-fed.new.parts.items c.args.element c.args.pad c.args.items)) (ap (λ (v : _). v.items) c.into_parts-head.ensures.parts) c.feed_in-fed.ensures.took)
    (subst (λ (ps : List (Part _ _ _)). IfErr c.feed_in-fed.result (StoppedIn ps c.feed_in-fed.new.parts.items c.args.element c.args.pad c.args.items)) (ap (λ (v : _). v.items) c.into_parts-head.ensures.parts) c.feed_in-fed.ensures.stopped))
    c.args.task.closed

pub returns-clause-head : goal.returns-clause-head
returns-clause-head g c = c.new.ensures.head ∙ c.into_parts-head.ensures.head

pub returns-clause-took : goal.returns-clause-took
returns-clause-took g c =
    subst (λ (ps : List (Part _ _ _)). OnOk c.feed_in-fed.result (TookIn c.args.task.parts.items ps c.args.element c.args.pad c.args.items)) (sym (ap (λ (v : _). v.items) c.new.ensures.parts))
    (subst (λ (ps : List (Part _ _ _)). OnOk c.feed_in-fed.result (TookIn ps c.feed_in-fed.new.parts.items c.args.element c.args.pad c.args.items)) (ap (λ (v : _). v.items) c.into_parts-head.ensures.parts) c.feed_in-fed.ensures.took)

pub returns-clause-stopped : goal.returns-clause-stopped
returns-clause-stopped g c =
    subst (λ (ps : List (Part _ _ _)). IfErr c.feed_in-fed.result (StoppedIn c.args.task.parts.items ps c.args.element c.args.pad c.args.items)) (sym (ap (λ (v : _). v.items) c.new.ensures.parts))
    (subst (λ (ps : List (Part _ _ _)). IfErr c.feed_in-fed.result (StoppedIn ps c.feed_in-fed.new.parts.items c.args.element c.args.pad c.args.items)) (ap (λ (v : _). v.items) c.into_parts-head.ensures.parts) c.feed_in-fed.ensures.stopped)

pub returns-clause-fed : goal.returns-clause-fed
returns-clause-fed g c =
    on_ok_weaker c.feed_in-fed.result
    (λ t m ties none.
    let z = took_tied g.I.Inlet g.O.Outlet c.args.task.head c.new.result.head c.args.task.parts.items c.new.result.parts.items c.args.element c.args.pad c.args.items (returns-clause-head g c) t m ties none in
    record { out = z.out; answers = z.answers; ties = z.tied }) (returns-clause-took g c)

pub returns-clause-faults : goal.returns-clause-faults
returns-clause-faults g c =
    IfErr-weaker c.feed_in-fed.result _ _
    (λ fault t m ties none.
    let z = stopped_tied g.I.Inlet g.O.Outlet c.args.task.head c.new.result.head c.args.task.parts.items c.new.result.parts.items c.args.element c.args.pad c.args.items (returns-clause-head g c) fault t m ties none in
    record { front = z.front; item = z.item; rest = z.rest; whole = z.whole; out = z.out; answers = z.answers; tied = z.tied; refusal = z.refusal; why = z.why; fault_is = z.fault_is }) (returns-clause-stopped g c)

pub returns-clause-frame : goal.returns-clause-frame
returns-clause-frame g c =
    bare_frame g.I.Inlet g.O.Outlet c.args.task.head c.new.result.head c.args.task.parts.items c.new.result.parts.items (returns-clause-head g c)
    (fed_bares c.feed_in-fed.result c.args.task.parts.items c.new.result.parts.items c.args.element c.args.pad c.args.items (returns-clause-took g c) (returns-clause-stopped g c))

pub returns-clause-ready : goal.returns-clause-ready
returns-clause-ready g c = λ tells r.
    bare_are_ready g.I.Inlet g.O.Outlet c.args.task.head c.new.result.head c.args.task.parts.items c.new.result.parts.items (returns-clause-head g c)
    (fed_bares c.feed_in-fed.result c.args.task.parts.items c.new.result.parts.items c.args.element c.args.pad c.args.items (returns-clause-took g c) (returns-clause-stopped g c)) tells r

pub returns-clause-moves : goal.returns-clause-moves
returns-clause-moves g c =
    bare_left g.I.Inlet g.O.Outlet c.args.task.head c.new.result.head c.args.task.parts.items c.new.result.parts.items (returns-clause-head g c)
    (fed_bares c.feed_in-fed.result c.args.task.parts.items c.new.result.parts.items c.args.element c.args.pad c.args.items (returns-clause-took g c) (returns-clause-stopped g c))
