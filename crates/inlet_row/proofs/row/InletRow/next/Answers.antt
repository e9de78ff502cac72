use Rattle.std.proofs.Common.{◌<◌, ◌≤◌, ◌∙◌, length, subst, arith, Option}
use Rattle.gst_item.specs.declared.item.Item.{Item}
use Rattle.inlet_row.specs.Row.{feeds_of}
use Rattle.inlet_row.specs.Taken.{GoesInto, taken_of}
use Rattle.inlet_row.proofs.Moving.{found_last, goes_on}
use Rattle.inlet_row.proofs.row.InletRow.next.Goals as goal

pub loop-self-preserved : goal.loop-self-preserved
loop-self-preserved g c =
    let many : 1 < length (feeds_of c.loop-self.self) =
    let ok = c.loop-self.self.feeds.ok in
    omega arith in
    record {
      between = goes_on g.I.Inlet _ _ _ c.args.self.now c.loop-self.self _ (feeds_of c.first.new.self) c.in-Empty.field-0 c.loop-self.invariant.between many c.in-Empty.ensures.first c.drop_first.ensures;
      into = c.in-Empty.ensures.into ∙ c.loop-self.invariant.into;
    }

pub returns-clause-moves : goal.returns-clause-moves
returns-clause-moves g c =
    let few : length (feeds_of c.loop-self.self) ≤ 1 =
    let ok = c.loop-self.self.feeds.ok in
    omega arith in
    found_last g.I.Inlet _ _ _ c.args.self.now c.loop-self.self c.first-2.new.self (taken_of c.first-2.result c.first-2.new.into) c.loop-self.invariant.between few c.first-2.ensures.first

pub returns-clause-into : goal.returns-clause-into
returns-clause-into g c = subst (λ (into : Option Item). GoesInto c.first-2.result into c.first-2.new.into) c.loop-self.invariant.into c.first-2.ensures.into
