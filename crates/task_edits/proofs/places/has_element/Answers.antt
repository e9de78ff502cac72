use Rattle.std.proofs.Common.{◌≡◌, ◌∙◌, List, None, false, map, subst}
use Rattle.std.specs.Prelude.{IfSome}
use Rattle.task_parts.specs.Found.{IsAt}
use Rattle.task_parts.specs.Shape.{has_number, part_shape}
use Rattle.task_parts.specs.declared.part.Part.{Part}
use Rattle.task_edits.proofs.Elements.{has_is}
use Rattle.task_edits.proofs.places.has_element.Goals as goal

pub returns : goal.returns
returns g c =
    c.is_some.ensures
    ∙ has_is c.find_element.result c.args.task.now.parts.items c.args.element (subst (λ (ps : List (Part _ _ _)). IfSome c.find_element.result (IsAt ps c.args.element)) c.parts.ensures c.find_element.ensures.there)
    (subst (λ (ps : List (Part _ _ _)). c.find_element.result ≡ None → has_number c.args.element (map part_shape ps) ≡ false) c.parts.ensures c.find_element.ensures.none)
