use Rattle.std.proofs.Common.{Option, None, refl, subst}
use Rattle.edit_core.specs.declared.deciding.Ruling.{Ruling}
use Rattle.gst_value.proofs.Results.{if_err}
use Rattle.world_core.proofs.Acting.{answered, aside_of, done, done_of, fails, ruled, waits_so}
use Rattle.world_core.proofs.Elements.{entered_elements, first_elements}
use Rattle.world_core.specs.Answering.{ActFails, CarryFails, NothingCanBeDone, RulesNext}
use Rattle.world_core.proofs.answering.Running+S+E+MemInlet+MemOutlet.answer_next.Goals as goal

pub returns-in-Ok-None-clause-waits : goal.returns-in-Ok-None-clause-waits
returns-in-Ok-None-clause-waits g c = λ told. (NothingCanBeDone.none_left (subst (λ (o : Option Ruling). RulesNext c.args.self.now o) c.in-Ok-None.field-0-is c.in-Ok-None.ensures), refl)

pub returns-in-Ok-Some-Waits-clause-waits : goal.returns-in-Ok-Some-Waits-clause-waits
returns-in-Ok-Some-Waits-clause-waits g c = λ told.
    let next = ruled c.args.self.now c.in-Ok-Some-Waits.field-0 _ c.in-Ok-Some-Waits.field-0-is c.in-Ok-Some-Waits.ensures in
    (waits_so c.args.self.now c.in-Ok-Some-Waits.field-0-0 c.in-Ok-Some-Waits.field-0-0-is next, refl)

pub returns-in-Ok-Some-Answered-clause-acted : goal.returns-in-Ok-Some-Answered-clause-acted
returns-in-Ok-Some-Answered-clause-acted g c = λ told.
    let next = ruled c.args.self.now c.in-Ok-Some-Answered.field-0 _ c.in-Ok-Some-Answered.field-0-is c.in-Ok-Some-Answered.ensures in
    answered c.args.self.now c.enter.new.self c.in-Ok-Some-Answered.field-0-0 c.in-Ok-Some-Answered.answer c.in-Ok-Some-Answered.field-0-0-is next c.enter.ensures

pub returns-in-Ok-Some-ToDo-clause-acted : goal.returns-in-Ok-Some-ToDo-clause-acted
returns-in-Ok-Some-ToDo-clause-acted g c = λ is.
    let next = ruled c.args.self.now c.in-Ok-Some-ToDo.field-0 _ c.in-Ok-Some-ToDo.field-0-is c.in-Ok-Some-ToDo.ensures in
    done c.deeds_are_answers.ensures c.args.self.now c.carry_out.new.self c.in-Ok-Some-ToDo.field-0-0 c.in-Ok-Some-ToDo.deed c.in-Ok-Some-ToDo.items c.in-Ok-Some-ToDo.places c.in-Ok-Some-ToDo.field-0-0-is next
    (done_of c.carry_out.result is c.carry_out.ensures.done) (aside_of c.carry_out.result is c.carry_out.ensures.aside)

pub returns-in-Ok-Some-ToDo-clause-failed : goal.returns-in-Ok-Some-ToDo-clause-failed
returns-in-Ok-Some-ToDo-clause-failed g c =
    let next = ruled c.args.self.now c.in-Ok-Some-ToDo.field-0 _ c.in-Ok-Some-ToDo.field-0-is c.in-Ok-Some-ToDo.ensures in
    if_err c.carry_out.result (CarryFails c.args.self.now c.carry_out.new.self c.in-Ok-Some-ToDo.deed c.in-Ok-Some-ToDo.items c.in-Ok-Some-ToDo.places) (ActFails c.args.self.now c.carry_out.new.self)
    (fails c.deeds_are_answers.ensures c.args.self.now c.carry_out.new.self c.in-Ok-Some-ToDo.field-0-0 c.in-Ok-Some-ToDo.deed c.in-Ok-Some-ToDo.items c.in-Ok-Some-ToDo.places c.in-Ok-Some-ToDo.field-0-0-is next)
    c.carry_out.ensures.failed

pub returns-in-Err-clause-failed : goal.returns-in-Err-clause-failed
returns-in-Err-clause-failed g c = record {
  entries = refl;
  keeps = record { script = refl; turns = record { taking = refl; removed = refl } };
  room = None;
  lanes = refl;
  control = λ edited m has. has;
}

pub returns-in-Ok-None-clause-elements : goal.returns-in-Ok-None-clause-elements
returns-in-Ok-None-clause-elements g c = first_elements c.args.self.now

pub returns-in-Ok-Some-Waits-clause-elements : goal.returns-in-Ok-Some-Waits-clause-elements
returns-in-Ok-Some-Waits-clause-elements g c = first_elements c.args.self.now

pub returns-in-Ok-Some-Answered-clause-elements : goal.returns-in-Ok-Some-Answered-clause-elements
returns-in-Ok-Some-Answered-clause-elements g c = entered_elements c.args.self.now c.enter.new.self c.in-Ok-Some-Answered.answer c.enter.ensures

pub returns-in-Ok-Some-ToDo-clause-elements : goal.returns-in-Ok-Some-ToDo-clause-elements
returns-in-Ok-Some-ToDo-clause-elements g c = c.carry_out.ensures.elements

pub returns-in-Err-clause-elements : goal.returns-in-Err-clause-elements
returns-in-Err-clause-elements g c = first_elements c.args.self.now
