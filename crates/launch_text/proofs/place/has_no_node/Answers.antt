-- Each word is a bracket, or one is not.
use Rattle.std.proofs.Common.{sym, ◌∙◌, length}
use Rattle.launch_text.specs.Kinds.{is_bracket}
use Rattle.launch_text.proofs.Cutting.{positive}
use Rattle.launch_text.proofs.Splitting.{left_done, left_more, left_start, left_stop, word_split}
use Rattle.launch_text.proofs.place.has_no_node.Goals as goal

pub loop-rest-init : goal.loop-rest-init
loop-rest-init c =
    let cut = c.behind_white-rest.ensures.cut in
    record { start = c.behind_white-rest.ensures.start; utf8 = c.behind_white-rest.utf8; left = left_start is_bracket c.args.line.now cut.0 c.behind_white-rest.result.now cut.1 cut.2 c.behind_white-rest.ensures.start }

pub returns-then-not-is_bracket : goal.returns-then-not-is_bracket
returns-then-not-is_bracket c = left_stop is_bracket c.args.line.now c.loop-rest.rest.now c.split_word.result.0.now c.split_word.result.1.now c.loop-rest.invariant.left c.loop-rest.invariant.start (positive (length c.loop-rest.rest.now) (sym c.is_empty.ensures ∙ c.loop-rest-test.true)) c.split_word.ensures.word c.split_word.ensures.behind (sym c.is_bracket.ensures ∙ c.if-not-is_bracket.true)

pub loop-rest-preserved : goal.loop-rest-preserved
loop-rest-preserved c =
    let cut = c.behind_white-rest-in-loop-rest.ensures.cut in
    record {
      start = c.behind_white-rest-in-loop-rest.ensures.start;
      utf8 = c.behind_white-rest-in-loop-rest.utf8;
      left = left_more is_bracket c.args.line.now c.loop-rest.rest.now c.split_word.result.0.now c.behind_white-rest-in-loop-rest.result.now c.loop-rest.invariant.left (word_split c.loop-rest.rest.now c.split_word.result.0.now c.split_word.result.1.now cut.0 c.behind_white-rest-in-loop-rest.result.now c.loop-rest.invariant.start (positive (length c.loop-rest.rest.now) (sym c.is_empty.ensures ∙ c.loop-rest-test.true)) c.split_word.ensures.word c.split_word.ensures.behind cut.1 cut.2) c.behind_white-rest-in-loop-rest.ensures.start (sym c.is_bracket.ensures ∙ c.if-not-is_bracket.false);
    }

pub returns : goal.returns
returns c = left_done is_bracket c.args.line.now c.loop-rest.rest.now c.loop-rest.invariant.left (sym c.is_empty.ensures ∙ c.loop-rest-test.false)
