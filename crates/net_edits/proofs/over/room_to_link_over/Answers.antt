use Rattle.std.proofs.Common.{◌+◌, List, length, inr, refl, subst, arith}
use Rattle.std.proofs.lemmas.Option.{slice_get_within}
use Rattle.flow_model.specs.Item.{Event}
use Rattle.net_task.specs.declared.task.Task.{Task}
use Rattle.net_edits.specs.Over.{AreEnds, CannotJoin, HasRoomAt}
use Rattle.net_edits.proofs.Linked.{kept_ready, kept_stands, opens_now}
use Rattle.net_edits.proofs.Rowed.{feeds_has, opens_there, pad_read}
use Rattle.net_edits.proofs.Together.{pad_within}
use Rattle.net_edits.proofs.over.room_to_link_over.Goals as goal

pub returns-in_default-clause-none : goal.returns-in_default-clause-none
returns-in_default-clause-none g c = λ none. subst (λ (ts : List (Task _ _ _ _ _ _ _ _ _)). CannotJoin ts c.args.pad c.args.element c.args.port) c.as_slice.ensures.value (c.in_default.ensures.none refl)

pub index-requires : goal.index-requires
index-requires g c =
    let ends : AreEnds c.args.tasks.now.items c.args.pad c.args.element c.args.port c.in-Some.ends.sender c.in-Some.ends.receiver =
    subst (λ (ts : List (Task _ _ _ _ _ _ _ _ _)). AreEnds ts c.args.pad c.args.element c.args.port c.in-Some.ends.sender c.in-Some.ends.receiver) c.as_slice.ensures.value c.in-Some.ensures.there in
    let low = pad_within c.args.tasks.now.items c.args.pad c.in-Some.ends.sender ends.sends in
    omega (arith, low, c.args.tasks.now.ok.0)

pub opening_at-requires-clause-there : goal.opening_at-requires-clause-there
opening_at-requires-clause-there g c κs within =
    let ends : AreEnds c.args.tasks.now.items c.args.pad c.args.element c.args.port c.in-Some.ends.sender c.in-Some.ends.receiver =
    subst (λ (ts : List (Task _ _ _ _ _ _ _ _ _)). AreEnds ts c.args.pad c.args.element c.args.port c.in-Some.ends.sender c.in-Some.ends.receiver) c.as_slice.ensures.value c.in-Some.ensures.there in
    pad_read c.args.tasks.now.items c.in-Some.ends.sender c.args.pad ends.sends c.index.result.now c.index.ensures

pub room_at-requires-clause-place : goal.room_at-requires-clause-place
room_at-requires-clause-place g c κs within =
    let ends : AreEnds c.args.tasks.now.items c.args.pad c.args.element c.args.port c.in-Some.ends.sender c.in-Some.ends.receiver =
    subst (λ (ts : List (Task _ _ _ _ _ _ _ _ _)). AreEnds ts c.args.pad c.args.element c.args.port c.in-Some.ends.sender c.in-Some.ends.receiver) c.as_slice.ensures.value c.in-Some.ensures.there in
    let low = slice_get_within c.args.tasks.now.items c.in-Some.ends.receiver ends.feeds.1.fed.task ends.feeds.1.fed.at in
    omega (arith, low, c.args.tasks.now.ok.0)

pub room_at-requires-clause-row : goal.room_at-requires-clause-row
room_at-requires-clause-row g c κs within =
    let ends : AreEnds c.args.tasks.now.items c.args.pad c.args.element c.args.port c.in-Some.ends.sender c.in-Some.ends.receiver =
    subst (λ (ts : List (Task _ _ _ _ _ _ _ _ _)). AreEnds ts c.args.pad c.args.element c.args.port c.in-Some.ends.sender c.in-Some.ends.receiver) c.as_slice.ensures.value c.in-Some.ensures.there in
    feeds_has c.args.tasks.now.items c.in-Some.ends.receiver c.args.element c.args.port ends.feeds

pub returns-in-Ok-room_at-clause-there : goal.returns-in-Ok-room_at-clause-there
returns-in-Ok-room_at-clause-there g c =
    let ends : AreEnds c.args.tasks.now.items c.args.pad c.args.element c.args.port c.in-Some.ends.sender c.in-Some.ends.receiver =
    subst (λ (ts : List (Task _ _ _ _ _ _ _ _ _)). AreEnds ts c.args.pad c.args.element c.args.port c.in-Some.ends.sender c.in-Some.ends.receiver) c.as_slice.ensures.value c.in-Some.ensures.there in
    subst (λ (events : List Event). HasRoomAt c.room_at.new.tasks.items c.in-Some.ends.receiver c.args.element c.args.port (length events + 1)) c.as_slice-2.ensures (c.in-Ok-room_at.ensures.enough c.args.element ends.feeds)

pub returns-in-Ok-room_at-clause-opening : goal.returns-in-Ok-room_at-clause-opening
returns-in-Ok-room_at-clause-opening g c =
    let ends : AreEnds c.args.tasks.now.items c.args.pad c.args.element c.args.port c.in-Some.ends.sender c.in-Some.ends.receiver =
    subst (λ (ts : List (Task _ _ _ _ _ _ _ _ _)). AreEnds ts c.args.pad c.args.element c.args.port c.in-Some.ends.sender c.in-Some.ends.receiver) c.as_slice.ensures.value c.in-Some.ensures.there in
    opens_now c.args.tasks.now.items c.in-Some.ends.sender c.args.pad ends.sends c.in-Ok.opening
    (opens_there c.args.tasks.now.items c.in-Some.ends.sender c.args.pad ends.sends c.index.result.now c.in-Ok.opening c.index.ensures c.in-Ok.ensures)

pub returns-in-Ok-room_at-clause-kept : goal.returns-in-Ok-room_at-clause-kept
returns-in-Ok-room_at-clause-kept g c = inr (c.in-Some.ends.receiver, c.args.port, c.in-Ok-room_at.ensures.kept)

pub returns-in-Ok-room_at-clause-stays : goal.returns-in-Ok-room_at-clause-stays
returns-in-Ok-room_at-clause-stays g c = λ m tells n. kept_stands c.args.tasks.now.items c.room_at.new.tasks.items (inr (c.in-Some.ends.receiver, c.args.port, c.in-Ok-room_at.ensures.kept)) m tells n

pub returns-in-Ok-room_at-clause-stays_ready : goal.returns-in-Ok-room_at-clause-stays_ready
returns-in-Ok-room_at-clause-stays_ready g c = λ tells n. kept_ready c.args.tasks.now.items c.room_at.new.tasks.items (inr (c.in-Some.ends.receiver, c.args.port, c.in-Ok-room_at.ensures.kept)) tells n

pub returns-in-Err-room_at-clause-stays : goal.returns-in-Err-room_at-clause-stays
returns-in-Err-room_at-clause-stays g c = λ m tells n. kept_stands c.args.tasks.now.items c.room_at.new.tasks.items (inr (c.in-Some.ends.receiver, c.args.port, c.in-Err-room_at.ensures.kept)) m tells n

pub returns-in-Err-room_at-clause-stays_ready : goal.returns-in-Err-room_at-clause-stays_ready
returns-in-Err-room_at-clause-stays_ready g c = λ tells n. kept_ready c.args.tasks.now.items c.room_at.new.tasks.items (inr (c.in-Some.ends.receiver, c.args.port, c.in-Err-room_at.ensures.kept)) tells n
