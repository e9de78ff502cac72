-- A field of this name, or one of another name.
use Rattle.std.proofs.Common.{sym, ◌∙◌, arith}
use Rattle.caps_text.proofs.Fields.{found_at, passed_at}
use Rattle.caps_text.proofs.structures.has_field.Goals as goal

pub returns-then-is_named : goal.returns-then-is_named
returns-then-is_named c = sym (found_at c.args.name.now c.args.structure.now.fields c.loop-place.place (sym c.is_named.ensures ∙ c.if-is_named.true))

pub loop-place-preserved : goal.loop-place-preserved
loop-place-preserved c = passed_at c.args.name.now c.args.structure.now.fields c.loop-place.place (omega arith) (sym c.is_named.ensures ∙ c.if-is_named.false) c.loop-place.invariant
