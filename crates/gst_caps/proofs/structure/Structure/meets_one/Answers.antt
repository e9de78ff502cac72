use Rattle.std.proofs.Common.{◌&&◌, sym, ap, ◌∙◌}
use Rattle.std.specs.List.{list_any}
use Rattle.std.proofs.lemmas.List.{take_all}
use Rattle.gst_caps.specs.Accepts.{takes, fixed, met}
use Rattle.gst_value.proofs.Laws.{and_false}
use Rattle.gst_caps.proofs.Overlap.{met_fixed, met_taken, apart_taken, none_more, any_at}
use Rattle.gst_caps.proofs.structure.Structure.meets_one.Goals as goal
use Rattle.gst_value.proofs.Basics.{and_left, and_right}

pub loop-other-init : goal.loop-other-init
loop-other-init c = λ x. and_false (takes c.args.self.now x)

pub loop-other-preserved : goal.loop-other-preserved
loop-other-preserved c = λ x.
    none_more _ _ _ c.other-item.result x c.loop-other-test.true c.other-item.is (c.loop-other.invariant x) (apart_taken _ _ c.meets.ensures.well_formed c.meets.ensures.other (sym c.meets.ensures.meet ∙ c.if-meets.false) x)

pub returns-then-meets-clause-some : goal.returns-then-meets-clause-some
returns-then-meets-clause-some c = λ _.
    let meet = sym c.meets.ensures.meet ∙ c.if-meets.true in
    let taken = met_taken c.args.self.now c.other-item.result c.meets.ensures.well_formed c.meets.ensures.other meet in (
      fixed (met c.args.self.now c.other-item.result),
      met_fixed _ _ c.meets.ensures.well_formed c.meets.ensures.other meet,
      and_left (takes c.args.self.now (fixed (met c.args.self.now c.other-item.result))) _ taken,
      any_at c.args.others.now _ c.other-item.result _ c.loop-other-test.true c.other-item.is (and_right (takes c.args.self.now (fixed (met c.args.self.now c.other-item.result))) _ taken),
    )

pub returns-clause-none : goal.returns-clause-none
returns-clause-none c = λ _ x.
    ap (λ ts. takes c.args.self.now x && list_any (λ t. takes t x) ts) (sym (take_all _ c.args.others.now c.loop-other-test.false)) ∙ c.loop-other.invariant x
