use Rattle.std.proofs.Common.{Bool, List, subst, sym, vec_len}
use Rattle.net_groups.specs.Splits.{CanPartAt, IsPartedAt}
use Rattle.net_groups.proofs.splitting.part_off.Goals as goal

pub take_out-requires-clause-closed : goal.take_out-requires-clause-closed
take_out-requires-clause-closed g c κs within = subst (λ (fs : List Bool). CanPartAt c.args.tasks.now.items c.args.parting.place fs c.args.element) (sym c.as_slice.ensures.value) c.requires.closed

pub returns-clause-parted : goal.returns-clause-parted
returns-clause-parted g c = subst (λ (fs : List Bool). IsPartedAt c.args.tasks.now.items c.take_out.new.tasks.items c.args.parting.place fs c.args.element (vec_len c.args.parting.halves.rows)) c.as_slice.ensures.value c.take_out.ensures.parted
