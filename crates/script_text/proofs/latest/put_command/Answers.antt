-- A command is put, or it goes back.
use Rattle.std.proofs.Common.{◌∙◌, Ok, ap, sym, subst}
use Rattle.script_text.specs.Latest.{IsLatest}
use Rattle.script_text.proofs.Order.{placed, put_said, refused_back, told_refusal}
use Rattle.script_text.proofs.latest.put_command.Goals as goal

pub returns-in-Err-clause-answer : goal.returns-in-Err-clause-answer
returns-in-Err-clause-answer c = told_refusal {X = Unit {0}} (λ x. c.args.commands.now) c.in-Err.refusal _ (refused_back (Unit {0}) c.args.latest.now c.note.new.latest c.args.commands.now c.args.command c.in-Err.refusal c.in-Err.ensures c.requires)

pub returns-clause-latest : goal.returns-clause-latest
returns-clause-latest c =
    let put = placed c.args.latest.now c.note.new.latest c.args.commands.now c.args.command c.in-Ok.field-0 c.in-Ok.ensures c.requires in
    subst (IsLatest c.note.new.latest) (sym c.in_ok-push.ensures.ok) put.latest

pub returns-clause-answer : goal.returns-clause-answer
returns-clause-answer c =
    let put = placed c.args.latest.now c.note.new.latest c.args.commands.now c.args.command c.in-Ok.field-0 c.in-Ok.ensures c.requires in
    put_said c.args.commands.now c.args.command put.forward ∙ ap Ok (sym c.in_ok-push.ensures.ok)
