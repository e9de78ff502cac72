use Rattle.std.proofs.Common.{◌≡◌, ◌<◌, Bool, List, true, false, take}
use Rattle.graph_order.specs.Marks.{unmarked}
use Rattle.graph_core.specs.Live.{IsClosedWithin, IsSpreading}
use Rattle.graph_core.proofs.live.spread.Given as goal

abbrev pub invariant-loop-link : goal.invariant-loop-link
invariant-loop-link l = record {
  spreads : (was : List Bool) → IsSpreading l.links was l.initial.marks.items → IsSpreading l.links was l.marks.items;
  same : l.is_new ≡ false → l.marks.items ≡ l.initial.marks.items;
  closed : l.is_new ≡ false → IsClosedWithin (take l.link-index l.links) l.marks.items;
  fewer : l.is_new ≡ true → unmarked l.marks.items < unmarked l.initial.marks.items;
}
