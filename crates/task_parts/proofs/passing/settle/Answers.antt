use Rattle.std.proofs.Common.{refl, arith, sym, subst}
use Rattle.task_parts.specs.declared.part.Part.{Part}
use Rattle.task_parts.specs.Part.{IsSettled}
use Rattle.task_parts.specs.Shape.{part_shape}
use Rattle.task_pads.proofs.Lists.{map_set, some_at}
use Rattle.task_parts.proofs.Tries.{on_ok}
use Rattle.task_parts.proofs.passing.settle.Goals as goal
use Rattle.gst_value.proofs.Places.{set_here}

pub returns-clause-settled : goal.returns-clause-settled
returns-clause-settled g c = record {
  was = c.index_mut.result.now;
  is = c.settle.new.self;
  set = record { at = some_at c.args.parts.now.items c.args.place c.index_mut.result.now (omega (arith, c.requires.place, c.args.parts.now.ok.0)) c.index_mut.ensures.value; set = refl };
  settled = c.settle.ensures.settled;
}

pub returns-clause-all : goal.returns-clause-all
returns-clause-all g c = on_ok c.settle.result (λ done part at. subst (λ (p : Part g.row.E.Denot g.row.O.Denot g.E.TaskElement). IsSettled p) (sym (set_here c.args.parts.now.items c.args.place part c.settle.new.self at)) done) c.settle.ensures.all

pub returns-clause-shape : goal.returns-clause-shape
returns-clause-shape g c = map_set part_shape c.args.parts.now.items c.args.place c.index_mut.result.now c.settle.new.self (some_at c.args.parts.now.items c.args.place c.index_mut.result.now (omega (arith, c.requires.place, c.args.parts.now.ok.0)) c.index_mut.ensures.value) c.settle.ensures.shape
