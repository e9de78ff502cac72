use Rattle.std.proofs.Common.{refl, arith, sym, ap, subst, inl, inr, ◌∙◌, ◌≡◌, true, List, Some, None, map}
use Rattle.std.specs.Prelude.{slice_get}
use Rattle.std.proofs.lemmas.Option.{slice_get_within}
use Rattle.inlet_row.specs.Taken as takes
use Rattle.task_parts.specs.declared.part.Part.{Part}
use Rattle.task_parts.specs.Shape.{has_number, part_shape}
use Rattle.task_parts.proofs.Tries.{asked_from, asked_item, at_other, wants_at}
use Rattle.task_parts.proofs.Fronts.{front_fed, front_same, idle_of}
use Rattle.task_parts.proofs.passing.take.Goals as goal

pub find-to-requires-clause-named : goal.find-to-requires-clause-named
find-to-requires-clause-named g c κs within = subst (λ (ps : List (Part g.row.E.Denot g.row.O.Denot g.E.TaskElement)). has_number c.args.head.now.number (map part_shape ps) ≡ true) (sym c.as_slice.ensures.value) c.requires.named

pub index-requires : goal.index-requires
index-requires g c =
    let z = at_other _ c.args.parts.now.items c.args.head.now.number c.find-to.result c.as_slice.ensures.value c.find-to.ensures in
    let low = slice_get_within c.args.parts.now.items c.find-to.result z.part z.at in
    omega (arith, low, c.args.parts.now.ok.0)

pub returns-in_default-clause-takes : goal.returns-in_default-clause-takes
returns-in_default-clause-takes g c = record {
  to = c.find-to.result;
  fed = record { part = c.find-to.ensures.part; at = ap (λ (zs : List (Part g.row.E.Denot g.row.O.Denot g.E.TaskElement)). slice_get zs c.find-to.result) (sym c.as_slice.ensures.value) ∙ c.find-to.ensures.at; number_is = c.find-to.ensures.number_is };
  next = inl (record {
    wanted = wants_at c.args.parts.now.items c.args.head.now.number c.find-to.result (at_other _ c.args.parts.now.items c.args.head.now.number c.find-to.result c.as_slice.ensures.value c.find-to.ensures) c.index.result.now c.element.result.now c.wants.result None c.index.ensures c.element.ensures c.wants.ensures c.in_default.is;
    number = refl;
    rows = refl;
    parts_same = refl;
    table = refl;
    idle = refl;
  });
}

pub returns-in-Empty-clause-takes : goal.returns-in-Empty-clause-takes
returns-in-Empty-clause-takes g c = record {
  to = c.find-to.result;
  fed = record { part = c.find-to.ensures.part; at = ap (λ (zs : List (Part g.row.E.Denot g.row.O.Denot g.E.TaskElement)). slice_get zs c.find-to.result) (sym c.as_slice.ensures.value) ∙ c.find-to.ensures.at; number_is = c.find-to.ensures.number_is };
  next = inr (record {
    port = c.in-Some.port;
    wanted = wants_at c.args.parts.now.items c.args.head.now.number c.find-to.result (at_other _ c.args.parts.now.items c.args.head.now.number c.find-to.result c.as_slice.ensures.value c.find-to.ensures) c.index.result.now c.element.result.now c.wants.result (Some c.in-Some.port) c.index.ensures c.element.ensures c.wants.ensures c.in-Some.is;
    taken = takes.Empty c.in-Empty.lane;
    asks = asked_from g.I.Inlet c.args.head.now _ c.take_row.new.head c.in-Some.port _ _ _ refl refl c.in-Empty.ensures.asked;
    after = (refl, refl);
  });
}

pub feed_row-fed-requires-clause-to : goal.feed_row-fed-requires-clause-to
feed_row-fed-requires-clause-to g c =
    let z = at_other _ c.args.parts.now.items c.args.head.now.number c.find-to.result c.as_slice.ensures.value c.find-to.ensures in
    let low = slice_get_within c.args.parts.now.items c.find-to.result z.part z.at in
    omega (arith, low, c.args.parts.now.ok.0)

pub returns-in-Some-next-clause-takes : goal.returns-in-Some-next-clause-takes
returns-in-Some-next-clause-takes g c = record {
  to = c.find-to.result;
  fed = record { part = c.find-to.ensures.part; at = ap (λ (zs : List (Part g.row.E.Denot g.row.O.Denot g.E.TaskElement)). slice_get zs c.find-to.result) (sym c.as_slice.ensures.value) ∙ c.find-to.ensures.at; number_is = c.find-to.ensures.number_is };
  next = inr (record {
    port = c.in-Some.port;
    wanted = wants_at c.args.parts.now.items c.args.head.now.number c.find-to.result (at_other _ c.args.parts.now.items c.args.head.now.number c.find-to.result c.as_slice.ensures.value c.find-to.ensures) c.index.result.now c.element.result.now c.wants.result (Some c.in-Some.port) c.index.ensures c.element.ensures c.wants.ensures c.in-Some.is;
    taken = takes.Item c.in-Some-next.item;
    asks = asked_from g.I.Inlet c.args.head.now _ c.take_row.new.head c.in-Some.port _ _ _ refl refl (asked_item g.I.Inlet _ _ _ _ _ _ _ c.in-Some-next.is c.in-Item.ensures.asked);
    after = c.feed_row-fed.ensures.feeds;
  });
}

pub returns-in_default-clause-front : goal.returns-in_default-clause-front
returns-in_default-clause-front g c = front_same c.args.from.now c.args.parts.now.items

pub returns-in-Empty-clause-front : goal.returns-in-Empty-clause-front
returns-in-Empty-clause-front g c = front_same c.args.from.now c.args.parts.now.items

pub returns-in-Some-next-clause-front : goal.returns-in-Some-next-clause-front
returns-in-Some-next-clause-front g c = front_fed c.args.from.now c.lower.new.from c.find-to.result c.in-Some.port c.in-Some-next.item c.args.parts.now.items c.feed_row-fed.new.parts.items c.feed_row-fed.result c.lower.ensures.lower (idle_of _ _ c.find-to.result c.lower.new.from c.as_slice-in-Item.ensures.value c.lower.ensures.idle) c.feed_row-fed.ensures.feeds
