use Rattle.std.proofs.Common.{arith, refl}
use Rattle.task_pads.proofs.Lists.{some_at}
use Rattle.net_edits.proofs.Together.{opening_read, pad_within}
use Rattle.net_edits.proofs.inside.opening_items.Goals as goal

pub returns-in_default-clause-none : goal.returns-in_default-clause-none
returns-in_default-clause-none g c = λ none. c.in_default.ensures.none refl

pub offset_bounds-tasks-place : goal.offset_bounds-tasks-place
offset_bounds-tasks-place g c = let within = pad_within c.args.tasks.now c.args.pad c.in-Some.place c.in-Some.ensures.there in omega (arith, within)

pub bounds-tasks-place : goal.bounds-tasks-place
bounds-tasks-place g c = pad_within c.args.tasks.now c.args.pad c.in-Some.place c.in-Some.ensures.there

pub returns-in-Ok-clause-opening : goal.returns-in-Ok-clause-opening
returns-in-Ok-clause-opening g c = record {
  place = c.in-Some.place;
  has = c.in-Some.ensures.there;
  opening = opening_read c.args.tasks.now c.in-Some.place c.args.pad c.index-tasks-place.result c.in-Ok.items
      (some_at c.args.tasks.now c.in-Some.place c.index-tasks-place.result (pad_within c.args.tasks.now c.args.pad c.in-Some.place c.in-Some.ensures.there) c.index-tasks-place.is) c.in-Ok.ensures.all;
}

pub returns-in-Ok-clause-at : goal.returns-in-Ok-clause-at
returns-in-Ok-clause-at g c = λ m tells net.
    let z = returns-in-Ok-clause-opening g c in
    z.opening z.has.task z.has.at m (net.tied z.place z.has.task z.has.at) z.has.has
