use Rattle.std.proofs.Common.{◌∙◌, List, arith, inr, refl, subst}
use Rattle.std.proofs.lemmas.Option.{slice_get_within}
use Rattle.net_task.specs.declared.task.Task.{Task}
use Rattle.net_edits.specs.Ending.{CannotEnd}
use Rattle.net_edits.specs.Nets.{NoneHas, TaskHas}
use Rattle.net_edits.specs.Over.{NoneFeeds, TaskFeeds, eos_given}
use Rattle.net_edits.proofs.Acts.{left_set, size_set}
use Rattle.net_edits.proofs.Ended.{ended_ready, ended_stands}
use Rattle.net_edits.proofs.Lefts.{grown_left}
use Rattle.net_edits.proofs.Linked.{kept_ready, kept_stands}
use Rattle.net_edits.proofs.Parted.{first_grown, leads_first, leads_over, leads_over_none}
use Rattle.net_edits.proofs.Rowed.{feeds_has}
use Rattle.net_edits.proofs.Together.{pad_within}
use Rattle.net_edits.proofs.over.end_over.Goals as goal

pub returns-in_default-clause-none : goal.returns-in_default-clause-none
returns-in_default-clause-none g c = λ none. (CannotEnd.no_pad (subst (λ (ts : List (Task _ _ _ _ _ _ _ _ _)). NoneHas ts c.args.pad) c.as_slice.ensures.value (c.in_default.ensures.none refl)), refl)

pub index-requires : goal.index-requires
index-requires g c =
    let within = pad_within c.args.tasks.now.items c.args.pad c.in-Some.sender (subst (λ (ts : List (Task _ _ _ _ _ _ _ _ _)). TaskHas ts c.args.pad c.in-Some.sender) c.as_slice.ensures.value c.in-Some.ensures.there) in
    omega (arith, within, c.args.tasks.now.ok.0)

pub returns-in_default-over_of-clause-none : goal.returns-in_default-over_of-clause-none
returns-in_default-over_of-clause-none g c = λ none.
    let has : TaskHas c.args.tasks.now.items c.args.pad c.in-Some.sender = subst (λ (ts : List (Task _ _ _ _ _ _ _ _ _)). TaskHas ts c.args.pad c.in-Some.sender) c.as_slice.ensures.value c.in-Some.ensures.there in
    (CannotEnd.no_lane c.in-Some.sender (leads_over_none c.args.tasks.now.items c.args.pad c.in-Some.sender has c.index.result.now c.index.ensures (c.in_default-over_of.ensures.none refl)), refl)

pub returns-in_default-find_row-clause-none : goal.returns-in_default-find_row-clause-none
returns-in_default-find_row-clause-none g c = λ none.
    let has : TaskHas c.args.tasks.now.items c.args.pad c.in-Some.sender = subst (λ (ts : List (Task _ _ _ _ _ _ _ _ _)). TaskHas ts c.args.pad c.in-Some.sender) c.as_slice.ensures.value c.in-Some.ensures.there in
    let over = leads_over c.args.tasks.now.items c.args.pad c.in-Some.sender has c.index.result.now c.index.ensures c.in-Some-over_of.to c.in-Some-over_of.ensures.leads in (
      CannotEnd.no_row c.in-Some.sender c.in-Some-over_of.to over (subst (λ (ts : List (Task _ _ _ _ _ _ _ _ _)). NoneFeeds ts c.in-Some-over_of.to.element c.in-Some-over_of.to.pad) c.as_slice-2.ensures.value (c.in_default-find_row.ensures.none refl)),
      refl,
    )

pub end_at-requires-clause-place : goal.end_at-requires-clause-place
end_at-requires-clause-place g c κs within =
    let feeds : TaskFeeds c.args.tasks.now.items c.in-Some-over_of.to.element c.in-Some-over_of.to.pad c.in-Some-find_row.receiver =
    subst (λ (ts : List (Task _ _ _ _ _ _ _ _ _)). TaskFeeds ts c.in-Some-over_of.to.element c.in-Some-over_of.to.pad c.in-Some-find_row.receiver) c.as_slice-2.ensures.value c.in-Some-find_row.ensures.there in
    let low = slice_get_within c.args.tasks.now.items c.in-Some-find_row.receiver feeds.1.fed.task feeds.1.fed.at in
    omega (arith, low, c.args.tasks.now.ok.0)

pub end_at-requires-clause-row : goal.end_at-requires-clause-row
end_at-requires-clause-row g c κs within =
    feeds_has c.args.tasks.now.items c.in-Some-find_row.receiver c.in-Some-over_of.to.element c.in-Some-over_of.to.pad
    (subst (λ (ts : List (Task _ _ _ _ _ _ _ _ _)). TaskFeeds ts c.in-Some-over_of.to.element c.in-Some-over_of.to.pad c.in-Some-find_row.receiver) c.as_slice-2.ensures.value c.in-Some-find_row.ensures.there)

pub unlink_at-requires-clause-place : goal.unlink_at-requires-clause-place
unlink_at-requires-clause-place g c κs within =
    let low = pad_within c.args.tasks.now.items c.args.pad c.in-Some.sender (subst (λ (ts : List (Task _ _ _ _ _ _ _ _ _)). TaskHas ts c.args.pad c.in-Some.sender) c.as_slice.ensures.value c.in-Some.ensures.there) in
    let size = size_set c.args.tasks.now.items c.end_at.new.tasks.items c.in-Some-find_row.receiver c.args.pad _ c.in-Ok.ensures.grown.set in
    omega (arith, low, size, c.end_at.new.tasks.ok.0)

pub returns-in-Ok-clause-ended : goal.returns-in-Ok-clause-ended
returns-in-Ok-clause-ended g c = λ done.
    let has : TaskHas c.args.tasks.now.items c.args.pad c.in-Some.sender = subst (λ (ts : List (Task _ _ _ _ _ _ _ _ _)). TaskHas ts c.args.pad c.in-Some.sender) c.as_slice.ensures.value c.in-Some.ensures.there in
    record {
      sender = c.in-Some.sender;
      receiver = c.in-Some-find_row.receiver;
      to = c.in-Some-over_of.to;
      over = leads_over c.args.tasks.now.items c.args.pad c.in-Some.sender has c.index.result.now c.index.ensures c.in-Some-over_of.to c.in-Some-over_of.ensures.leads;
      feeds = subst (λ (ts : List (Task _ _ _ _ _ _ _ _ _)). TaskFeeds ts c.in-Some-over_of.to.element c.in-Some-over_of.to.pad c.in-Some-find_row.receiver) c.as_slice-2.ensures.value c.in-Some-find_row.ensures.there;
      between = c.end_at.new.tasks.items;
      grown = c.in-Ok.ensures.grown;
      back = c.unlink_at.result;
      undone = c.unlink_at.ensures.undone;
      led = c.unlink_at.ensures.back _ (first_grown c.args.tasks.now.items c.end_at.new.tasks.items c.in-Some-find_row.receiver c.in-Some-over_of.to.pad eos_given c.in-Ok.ensures.grown c.in-Some.sender c.args.pad _ (leads_first c.args.tasks.now.items c.args.pad c.in-Some.sender has c.index.result.now c.index.ensures c.in-Some-over_of.to c.in-Some-over_of.ensures.leads));
    }

pub returns-in-Ok-clause-stands : goal.returns-in-Ok-clause-stands
returns-in-Ok-clause-stands g c = λ done m tells n. ended_stands c.args.tasks.now.items c.unlink_at.new.tasks.items c.args.pad (returns-in-Ok-clause-ended g c refl) m tells n

pub returns-in-Ok-clause-ready : goal.returns-in-Ok-clause-ready
returns-in-Ok-clause-ready g c = λ done tells n. ended_ready c.args.tasks.now.items c.unlink_at.new.tasks.items c.args.pad (returns-in-Ok-clause-ended g c refl) tells n

pub returns-in-Ok-clause-moves : goal.returns-in-Ok-clause-moves
returns-in-Ok-clause-moves g c = λ done.
    left_set c.end_at.new.tasks.items c.unlink_at.new.tasks.items c.in-Some.sender c.args.pad _ _ c.unlink_at.ensures.undone.at c.unlink_at.ensures.undone.set c.unlink_at.ensures.undone.moves
    ∙ grown_left c.args.tasks.now.items c.end_at.new.tasks.items c.in-Some-find_row.receiver c.in-Some-over_of.to.pad eos_given c.in-Ok.ensures.grown

pub returns-in-Err-clause-stays : goal.returns-in-Err-clause-stays
returns-in-Err-clause-stays g c = λ m tells n. kept_stands c.args.tasks.now.items c.end_at.new.tasks.items (inr (c.in-Some-find_row.receiver, c.in-Some-over_of.to.pad, c.in-Err.ensures.grown)) m tells n

pub returns-in-Err-clause-stays_ready : goal.returns-in-Err-clause-stays_ready
returns-in-Err-clause-stays_ready g c = λ tells n. kept_ready c.args.tasks.now.items c.end_at.new.tasks.items (inr (c.in-Some-find_row.receiver, c.in-Some-over_of.to.pad, c.in-Err.ensures.grown)) tells n
