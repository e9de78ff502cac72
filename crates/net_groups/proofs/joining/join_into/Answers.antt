use Rattle.std.proofs.Common.{◌≡◌, ◌++◌, List, true, ap, sym, ◌∙◌, subst}
use Rattle.task_parts.specs.Shape.{is_closed, shape_of}
use Rattle.task_parts.specs.declared.head.Head.{Head}
use Rattle.task_parts.specs.declared.part.Part.{Part}
use Rattle.net_groups.proofs.Closing.{closed_joined}
use Rattle.net_groups.proofs.joining.join_into.Goals as goal

pub new-requires-clause-closed : goal.new-requires-clause-closed
new-requires-clause-closed g c κs within =
    subst (λ (h : Head _ _ _ _). is_closed (shape_of h c.append-2.new.items.items) ≡ true) (sym c.into_parts-head.ensures.head)
    (subst (λ (ps : List (Part _ _ _)). is_closed (shape_of c.args.was.head ps) ≡ true)
    (sym (c.append-2.ensures.items ∙ ap (λ (ps : List (Part _ _ _)). ps ++ c.into_parts-head.result.1.items) (c.append.ensures.items ∙ ap (λ (ps : List (Part _ _ _)). ps ++ c.into_parts-first.result.1.items) c.requires.empty ∙ ap (λ (v : _). v.items) c.into_parts-first.ensures.parts)
    ∙ ap (λ (v : _). c.args.gave.parts.items ++ v.items) c.into_parts-head.ensures.parts))
    (closed_joined c.args.gave.head c.args.was.head c.args.gave.parts.items c.args.was.parts.items c.args.gave.closed c.args.was.closed))
