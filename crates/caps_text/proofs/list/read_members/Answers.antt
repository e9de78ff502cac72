-- A step is the last, goes on or is refused.
use Rattle.std.proofs.Common.{sym, ◌∙◌, ap, Ok}
use Rattle.caps_text.specs.Reading.{list_step, next}
use Rattle.caps_text.proofs.Loops.{list_again, list_done, list_few, list_refused, list_shorter, refused_too}
use Rattle.caps_text.proofs.list.read_members.Goals as goal

pub returns-in-Ok-true : goal.returns-in-Ok-true
returns-in-Ok-true c =
    let is = c.in-Ok-true.ensures ∙ ap (λ b. Ok (next b c.list_step.new.members.items, c.list_step.new.scanner.rest.now)) c.in-Ok-true.field-0-test in
    sym c.loop-members.invariant.0 ∙ list_done c.kind_of-kind.result c.loop-members.members.items c.list_step.new.members.items c.loop-members.scanner.rest.now c.list_step.new.scanner.rest.now is

pub returns-in-Err : goal.returns-in-Err
returns-in-Err c = refused_too c.in-Err.refusal c.list_step.new.scanner.rest.now (list_step c.kind_of-kind.result c.loop-members.members.items c.loop-members.scanner.rest.now) _ (λ s e. sym c.loop-members.invariant.0 ∙ list_refused c.kind_of-kind.result c.loop-members.members.items c.loop-members.scanner.rest.now s e) c.in-Err.ensures

pub loop-members-smaller : goal.loop-members-smaller
loop-members-smaller c =
    let is = c.in-Ok-false.ensures ∙ ap (λ b. Ok (next b c.list_step.new.members.items, c.list_step.new.scanner.rest.now)) c.in-Ok-false.field-0-test in
    list_shorter c.kind_of-kind.result c.loop-members.members.items c.list_step.new.members.items c.loop-members.scanner.rest.now c.list_step.new.scanner.rest.now is

pub loop-members-preserved : goal.loop-members-preserved
loop-members-preserved c =
    let is = c.in-Ok-false.ensures ∙ ap (λ b. Ok (next b c.list_step.new.members.items, c.list_step.new.scanner.rest.now)) c.in-Ok-false.field-0-test in (
      sym (list_again c.kind_of-kind.result c.loop-members.members.items c.list_step.new.members.items c.loop-members.scanner.rest.now c.list_step.new.scanner.rest.now is) ∙ c.loop-members.invariant.0,
      list_few c.kind_of-kind.result c.loop-members.members.items c.list_step.new.members.items c.loop-members.scanner.rest.now c.list_step.new.scanner.rest.now is,
    )
