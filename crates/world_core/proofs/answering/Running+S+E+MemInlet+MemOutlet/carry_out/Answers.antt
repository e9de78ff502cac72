use Rattle.std.proofs.Common.{refl, subst}
use Rattle.edit_core.specs.declared.deciding.Deed.{Deed}
use Rattle.edit_core.specs.declared.deciding.Deed.TheVariants.{Relink}
use Rattle.world_core.specs.Answering.{CanBeAnswered}
use Rattle.world_core.proofs.Acting.{always, aside_for, done_for, fails_for}
use Rattle.world_core.proofs.Elements.{first_elements}
use Rattle.world_core.proofs.answering.Running+S+E+MemInlet+MemOutlet.carry_out.Goals as goal

pub link_over_lane-requires-clause-can : goal.link_over_lane-requires-clause-can
link_over_lane-requires-clause-can g c = λ edited is.
    subst (λ (d : Deed). CanBeAnswered edited d) c.in-Some.ensures.asked ((c.can_do.ensures edited is).0 c.if-not-can_do.false)

pub link_over_lane-requires-clause-fed : goal.link_over_lane-requires-clause-fed
link_over_lane-requires-clause-fed g c = c.in-Some.ensures.room

pub do_without_lane-requires-clause-can : goal.do_without_lane-requires-clause-can
do_without_lane-requires-clause-can g c κs within = λ edited is. (c.can_do.ensures edited is).0 c.if-not-can_do.false

pub do_without_lane-requires-clause-unfed : goal.do_without_lane-requires-clause-unfed
do_without_lane-requires-clause-unfed g c κs within = c.in-None.ensures.none refl

pub returns-in-Some-clause-done : goal.returns-in-Some-clause-done
returns-in-Some-clause-done g c =
    done_for c.args.self.now c.link_over_lane.new.self c.args.deed (Relink c.in-Some.asked.source c.in-Some.asked.sink) c.args.items c.args.places c.in-Some.ensures.asked c.link_over_lane.result
    c.link_over_lane.ensures.done

pub returns-in-Some-clause-aside : goal.returns-in-Some-clause-aside
returns-in-Some-clause-aside g c =
    aside_for c.args.self.now c.link_over_lane.new.self c.args.deed (Relink c.in-Some.asked.source c.in-Some.asked.sink) c.args.items c.args.places c.in-Some.ensures.asked c.link_over_lane.result
    c.link_over_lane.ensures.turns

pub returns-in-Some-clause-failed : goal.returns-in-Some-clause-failed
returns-in-Some-clause-failed g c =
    fails_for c.args.self.now c.link_over_lane.new.self c.args.deed (Relink c.in-Some.asked.source c.in-Some.asked.sink) c.args.items c.args.places c.in-Some.ensures.asked c.link_over_lane.result
    c.link_over_lane.ensures.failed

pub returns-in-None-clause-ready : goal.returns-in-None-clause-ready
returns-in-None-clause-ready g c = always c.do_without_lane.result (c.do_without_lane.ensures.ready c.requires.ready)

pub returns-then-not-can_do-clause-elements : goal.returns-then-not-can_do-clause-elements
returns-then-not-can_do-clause-elements g c = first_elements c.args.self.now

pub returns-in-Some-clause-elements : goal.returns-in-Some-clause-elements
returns-in-Some-clause-elements g c = c.link_over_lane.ensures.elements

pub returns-in-None-clause-elements : goal.returns-in-None-clause-elements
returns-in-None-clause-elements g c = c.do_without_lane.ensures.elements
