use Rattle.std.proofs.Common.{◌≡◌, [], ◌∙◌, ap, List}
use Rattle.gst_item.specs.declared.out.Out.{Out}
use Rattle.gst_item.specs.Sticky.{has_flush_stop}
use Rattle.std.specs.VecDeque.{deque_len}
use Rattle.task_pads.specs.Behind.{items_of}
use Rattle.task_pads.proofs.Waiting.{within_free, is_nil, filled}
use Rattle.task_pads.proofs.put.fill.Goals as goal

pub invariant_of-pad-clause-no_flush : goal.invariant_of-pad-clause-no_flush
invariant_of-pad-clause-no_flush g c =
    let same : c.replace-empty.new.dest.items ≡ c.args.out.now = ap (λ q. q.items) c.replace-empty.ensures.after ∙ c.from_vec.ensures.items ∙ c.into_vec-outs.ensures ∙ c.replace.ensures.value in
    ap (λ (os : List Out). has_flush_stop (items_of os)) same ∙ within_free 1 c.args.out.now c.requires

pub returns-clause-waiting : goal.returns-clause-waiting
returns-clause-waiting g c =
    let same : c.replace-empty.new.dest.items ≡ c.args.out.now = ap (λ q. q.items) c.replace-empty.ensures.after ∙ c.from_vec.ensures.items ∙ c.into_vec-outs.ensures ∙ c.replace.ensures.value in
    let none : c.args.pad.now.waiting.items ≡ [] =
    is_nil c.is_empty.result (deque_len c.args.pad.now.waiting) c.args.pad.now.waiting.items c.is_empty.ensures c.args.pad.now.waiting.ok.0 c.if-not-is_empty.false in
    filled c.args.pad.now.waiting.items c.args.out.now c.replace-empty.new.dest.items c.from_vec-2.result none c.requires same
    (c.from_vec-2.ensures ∙ c.into_vec.ensures.items ∙ ap (λ q. q.items) c.replace-empty.ensures.value ∙ none)
