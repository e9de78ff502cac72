use Rattle.std.proofs.Common.{refl, sym, ◌∙◌}
use Rattle.std.proofs.lemmas.Bool.{false≢true}
use Rattle.world_core.proofs.ScriptEnds.{none_there, some_none}
use Rattle.world_core.proofs.scripted.is_over_then.Goals as goal

pub returns-then-is_some : goal.returns-then-is_some
returns-then-is_some g c = (λ told. absurd (false≢true told), λ over. absurd (some_none c.args.ended.now.waits (sym c.is_some.ensures ∙ c.if-is_some.true) over.0))

pub returns-then-is_over : goal.returns-then-is_over
returns-then-is_over g c =
    let told = rw (c.elements.ensures, c.as_slice-tasks.ensures.value, c.as_slice-steps.ensures.value) at c.is_over.ensures in
    let held = rw (c.as_slice-tasks.ensures.value, c.as_slice-steps.ensures.value) at c.hold_nothing.ensures in (
      λ so. (none_there c.args.ended.now.waits (sym c.is_some.ensures ∙ c.if-is_some.false), told.0 c.if-is_over.true, λ t is. (held t is).0 so),
      λ over. (held c.args.ended.now.lanes refl).1 (over.2 c.args.ended.now.lanes refl),
    )

pub returns-else-is_over : goal.returns-else-is_over
returns-else-is_over g c =
    let told = rw (c.elements.ensures, c.as_slice-tasks.ensures.value, c.as_slice-steps.ensures.value) at c.is_over.ensures in
    (λ so. absurd (false≢true (sym c.if-is_over.false ∙ so)), λ over. told.1 over.1)
