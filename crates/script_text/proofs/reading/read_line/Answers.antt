-- A line is no text, is passed over, is one too many, or says what its words say.
use Rattle.std.proofs.Common.{◌≤◌, ◌<◌, ◌∙◌, length, arith, sym, ap}
use Rattle.script_text.specs.declared.command.Command.{Command}
use Rattle.script_text.proofs.Stepping.{moved, step_command, step_long, step_no_text, step_passed, step_refused}
use Rattle.script_text.proofs.reading.read_line.Goals as goal

pub returns-in_default-clause-step : goal.returns-in_default-clause-step
returns-in_default-clause-step c = step_no_text c.args.acts c.args.commands.now c.args.line.now c.in_default.ensures.cases.0

pub returns-then-says_nothing-clause-step : goal.returns-then-says_nothing-clause-step
returns-then-says_nothing-clause-step c = step_passed c.args.acts c.args.commands.now c.args.line.now c.in-Ok.text.now c.in-Ok.ensures.cases.0 c.in-Ok.ensures.cases.1 (sym c.says_nothing.ensures ∙ c.if-says_nothing.true)

pub returns-then-as_slice-ge-MOST_COMMANDS-clause-step :
    goal.returns-then-as_slice-ge-MOST_COMMANDS-clause-step
returns-then-as_slice-ge-MOST_COMMANDS-clause-step c =
    let many : 4096 ≤ length c.args.commands.now = omega (arith, ap length c.as_slice.ensures) in
    step_long c.args.acts c.args.commands.now c.args.line.now c.in-Ok.text.now c.in-Ok.ensures.cases.0 c.in-Ok.ensures.cases.1 (sym c.says_nothing.ensures ∙ c.if-says_nothing.false) many

pub returns-in-Err-clause-step : goal.returns-in-Err-clause-step
returns-in-Err-clause-step c =
    let few : length c.args.commands.now < 4096 = omega (arith, ap length c.as_slice.ensures) in
    step_refused c.args.acts {X = Command} (λ x. x) (λ (x : Unit {0}). c.args.commands.now) c.args.commands.now c.args.line.now c.in-Ok.text.now c.in-Err.refusal c.in-Ok.ensures.cases.0 c.in-Ok.ensures.cases.1 (sym c.says_nothing.ensures ∙ c.if-says_nothing.false) few c.in-Err.ensures

pub returns-clause-step : goal.returns-clause-step
returns-clause-step c =
    let few : length c.args.commands.now < 4096 = omega (arith, ap length c.as_slice.ensures) in
    let said = step_command c.args.acts c.args.commands.now c.args.line.now c.in-Ok.text.now c.in-Ok-read_command.command c.in-Ok.ensures.cases.0 c.in-Ok.ensures.cases.1 (sym c.says_nothing.ensures ∙ c.if-says_nothing.false) few c.in-Ok-read_command.ensures in
    moved (λ (x : Unit {0}). c.put_command.new.commands) c.put_command.result _ _ said c.put_command.ensures.answer
