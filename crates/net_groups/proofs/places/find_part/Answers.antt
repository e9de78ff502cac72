use Rattle.std.proofs.Common.{arith, length, sym, subst, ◌∙◌, List}
use Rattle.std.proofs.lemmas.Option.{slice_get_within}
use Rattle.gst_value.proofs.Basics.{some_same}
use Rattle.task_pads.proofs.Lists.{some_at}
use Rattle.net_task.specs.declared.task.Task.{Task}
use Rattle.task_parts.specs.declared.part.Part.{Part}
use Rattle.net_groups.specs.Places.{IsPartOf, PartIs}
use Rattle.net_groups.proofs.Lists.{loop_done, loop_next}
use Rattle.net_groups.proofs.places.find_part.Goals as goal

pub loop-place-init : goal.loop-place-init
loop-place-init g c = λ j less p. absurd (omega (arith, less))

pub returns-then-has_part-clause-there : goal.returns-then-has_part-clause-there
returns-then-has_part-clause-there g c = let z = c.has_part.ensures.there c.if-has_part.true in record { task = c.index-tasks-place.result; at = some_at c.args.tasks.now c.loop-place.place c.index-tasks-place.result c.loop-place-test.true c.index-tasks-place.is; place = z.0; is = subst (λ (ps : List (Part _ _ _)). PartIs ps c.args.element z.0) c.parts.ensures z.1 }

pub loop-place-preserved : goal.loop-place-preserved
loop-place-preserved g c = loop_next (λ j. IsPartOf c.args.tasks.now j c.args.element) c.loop-place.place (λ p. c.has_part.ensures.none c.if-has_part.false p.place (subst (λ (ps : List (Part _ _ _)). PartIs ps c.args.element p.place) (sym c.parts.ensures) (subst (λ (t : Task _ _ _ _ _ _ _ _ _). PartIs t.parts.items c.args.element p.place) (some_same (sym p.at ∙ some_at c.args.tasks.now c.loop-place.place c.index-tasks-place.result c.loop-place-test.true c.index-tasks-place.is)) p.is))) c.loop-place.invariant

pub returns-clause-none : goal.returns-clause-none
returns-clause-none g c = λ none. loop_done (λ j. IsPartOf c.args.tasks.now j c.args.element) (length c.args.tasks.now) c.loop-place.place (omega (arith, c.loop-place-test.false)) (λ j p. slice_get_within c.args.tasks.now j _ p.at) c.loop-place.invariant
