-- One line more.
use Rattle.std.proofs.Common.{◌≡◌, ◌+◌, ◌∙◌, ◌∷◌, ◌++◌, [], arith, length, length-append, append_assoc, append-nil, sym, ap, subst, refl}
use Rattle.script_text.specs.Latest.{IsLatest}
use Rattle.script_text.specs.Lines.{lines}
use Rattle.script_text.specs.Scripts.{AreCommands}
use Rattle.script_text.proofs.Growing.{at_first, grown}
use Rattle.script_text.proofs.Lines.{no_lines}
use Rattle.script_text.proofs.Stepping.{faulted, first_latest}
use Rattle.script_text.proofs.reading.read_lines.Goals as goal

pub loop-rest-init : goal.loop-rest-init
loop-rest-init c = (
  [],
  refl,
  refl,
  subst (AreCommands c.args.acts []) (sym c.new-commands.ensures) (at_first c.args.acts),
  subst (IsLatest c.new-latest.result) (sym c.new-commands.ensures) (first_latest c.new-latest.result c.new-latest.ensures.empty),
  omega arith,
)

pub loop-rest-preserved : goal.loop-rest-preserved
loop-rest-preserved c =
    let kept = c.loop-rest.invariant in
    let front = kept.0 in
    let line = c.split_line.result.0.now in
    let parts : lines c.args.bytes.now ≡ front ++ line ∷ lines c.split_line.result.1.now = kept.1 ∙ ap (λ l. front ++ l) c.split_line.ensures.lines in (
      front ++ line ∷ [],
      parts ∙ sym (append_assoc front (line ∷ []) (lines c.split_line.result.1.now)),
      (let one = length-append front (line ∷ []) in omega (arith, one, kept.2)),
      grown c.args.acts front line c.loop-rest.commands c.read_line.new.commands kept.3 c.in-Ok.ensures.step,
      c.in-Ok.ensures.latest,
      omega (arith, kept.5, c.split_line.ensures.shorter),
    )

pub returns-in-Err-clause-fault : goal.returns-in-Err-clause-fault
returns-in-Err-clause-fault c =
    let kept = c.loop-rest.invariant in
    let parts : lines c.args.bytes.now ≡ kept.0 ++ c.split_line.result.0.now ∷ lines c.split_line.result.1.now = kept.1 ∙ ap (λ l. kept.0 ++ l) c.split_line.ensures.lines in
    let counted : c.loop-rest.number + 1 ≡ length kept.0 + 1 = omega (arith, kept.2) in
    faulted c.args.acts (λ (x : Unit {0}). c.read_line.new.commands) (lines c.args.bytes.now) kept.0 (lines c.split_line.result.1.now) c.split_line.result.0.now c.loop-rest.commands (c.loop-rest.number + 1) c.in-Err.refusal c.at.result parts counted kept.3 c.in-Err.ensures.step c.at.ensures

pub returns-clause-said : goal.returns-clause-said
returns-clause-said c =
    let kept = c.loop-rest.invariant in
    let parts : lines c.args.bytes.now ≡ kept.0 = kept.1 ∙ ap (λ l. kept.0 ++ l) (no_lines c.loop-rest.rest.now (sym c.is_empty.ensures ∙ c.loop-rest-test.false)) ∙ append-nil kept.0 in
    subst (λ t. AreCommands c.args.acts t c.loop-rest.commands) (sym parts) kept.3
