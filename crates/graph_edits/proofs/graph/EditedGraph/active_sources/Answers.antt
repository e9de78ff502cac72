use Rattle.std.proofs.Common.{◌≡◌, ◌∙◌, Bool, List, ap, arith, length}
use Rattle.graph_order.specs.Marks.{is_marked}
use Rattle.graph_edits.specs.Live.{is_active_source}
use Rattle.graph_edits.proofs.LiveElements.{mark_more}
use Rattle.graph_edits.proofs.graph.EditedGraph.active_sources.Goals as goal

pub loop-element-init : goal.loop-element-init
loop-element-init c = record { size = c.new-marks.ensures.len; marked = λ g is e within. absurd (omega (arith, within)) }

pub loop-element-preserved : goal.loop-element-preserved
loop-element-preserved c =
    let now = c.loop-element.invariant in
    let marks = c.loop-element.marks.items in
    let at : c.loop-element.element ≡ length marks = omega (arith, now.size, c.loop-element.marks.ok.0) in
    record {
      size = omega (arith, now.size, c.in_ok-push.ensures.len);
      marked = λ g is e within.
          ap (λ (ms : List Bool). is_marked ms e) c.in_ok-push.ensures.items
          ∙ mark_more (is_active_source g) marks c.is_active_source.result e (λ k inside. now.marked g is k (omega (arith, inside, at))) (c.is_active_source.ensures g is ∙ ap (is_active_source g) at) (omega (arith, within, at));
    }

pub returns : goal.returns
returns c =
    let now = c.loop-element.invariant in
    let all : c.loop-element.element ≡ c.count-element-end.result = omega (arith, c.loop-element-test.false, c.loop-element.auto.element-end) in
    record {
      size = now.size ∙ all ∙ c.count-element-end.ensures.made;
      marked = λ g is e within. now.marked g is e (omega (arith, within, all, c.count-element-end.ensures.made));
    }
