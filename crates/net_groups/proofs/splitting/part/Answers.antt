use Rattle.std.proofs.Common.{◌≡◌, ◌∙◌, List, true, length, ap, subst, sym}
use Rattle.task_parts.specs.Shape.{is_closed, shape_of}
use Rattle.task_parts.specs.declared.head.Head.{Head}
use Rattle.task_parts.specs.declared.part.Part.{Part}
use Rattle.net_groups.specs.Behind.{flagged, unflagged}
use Rattle.net_groups.specs.Places.{AreBare}
use Rattle.inlet_row.specs.declared.row.InletRow.{InletRow}
use Rattle.net_groups.proofs.splitting.part.Goals as goal

pub new-requires-clause-closed : goal.new-requires-clause-closed
new-requires-clause-closed g c κs within =
    subst (λ (h : Head _ _ _ _). is_closed (shape_of h c.deal.new.kept.items) ≡ true) (sym c.into_parts-head.ensures.head)
    (subst (λ (ps : List (Part _ _ _)). is_closed (shape_of c.args.was.head ps) ≡ true) (sym (c.deal.ensures.kept ∙ ap (λ (v : _). unflagged c.args.flags.now v.items) c.into_parts-head.ensures.parts)) c.requires.closed.kept)

pub returns : goal.returns
returns g c = record {
  head = c.new.ensures.head ∙ c.into_parts-head.ensures.head;
  kept = ap (λ (v : _). v.items) c.new.ensures.parts ∙ c.deal.ensures.kept ∙ ap (λ (v : _). unflagged c.args.flags.now v.items) c.into_parts-head.ensures.parts;
  gone = ap (λ (v : _). v.items) c.new-2.ensures.parts ∙ c.deal.ensures.gone ∙ ap (λ (v : _). flagged c.args.flags.now v.items) c.into_parts-head.ensures.parts;
  fed = c.new-fed.result;
  fed_is = c.new-2.ensures.head;
  number = c.new-fed.ensures.number;
  size = (let a = c.args.room.rows.ok.0 in ap (λ (v : _). length v.items) c.new-fed.ensures.rows ∙ sym a);
  bare = subst (λ (rows : List (InletRow _)). AreBare rows) (ap (λ (v : _). v.items) (sym c.new-fed.ensures.rows)) c.requires.room.bare;
}
