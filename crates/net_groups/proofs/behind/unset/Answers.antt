use Rattle.std.proofs.Common.{◌∙◌, ◌+◌, Bool, List, [], ◌∷◌, false, ap, arith, length, length-append}
use Rattle.net_groups.proofs.Flags.{none_set, none_set_next}
use Rattle.net_groups.proofs.behind.unset.Goals as goal

pub loop-init : goal.loop-init
loop-init c = record {
  size = ap (λ (fs : List Bool). length fs) c.requires.empty;
  room = c.requires.room;
  none = none_set c.args.flags.items c.requires.empty;
}

pub loop-preserved : goal.loop-preserved
loop-preserved c = record {
  size =
      ap (λ (fs : List Bool). length fs) c.push_reserved.ensures.items ∙ length-append c.loop.flags.items (false ∷ []) ∙ ap (λ n. n + 1) c.loop.invariant.size;
  room = let a = c.loop.invariant.room in let b = c.push_reserved.ensures.capacity in omega (arith, a, b);
  none = none_set_next c.loop.flags.items c.push_reserved.new.self.items c.push_reserved.ensures.items c.loop.invariant.none;
}
