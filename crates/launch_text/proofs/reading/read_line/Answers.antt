-- One word more.
use Rattle.std.proofs.Common.{sym, ◌∙◌, arith, length}
use Rattle.launch_text.specs.Reading.{held}
use Rattle.launch_text.proofs.Cutting.{positive}
use Rattle.launch_text.proofs.Splitting.{passed_word}
use Rattle.launch_text.proofs.reading.read_line.Goals as goal

pub loop-word-preserved : goal.loop-word-preserved
loop-word-preserved c =
    let cut = c.behind_white-rest-in-loop-word.ensures.cut in
    record {
      start = c.behind_white-rest-in-loop-word.ensures.start;
      utf8 = c.behind_white-rest-in-loop-word.utf8;
      within = omega (arith, c.loop-word.invariant.within, c.split_word.ensures.shorter, c.behind_white-rest-in-loop-word.ensures.within);
      passed = passed_word c.args.line.now c.loop-word.rest.now c.split_word.result.0.now c.split_word.result.1.now cut.0 c.behind_white-rest-in-loop-word.result.now (held c.loop-word.parts, c.loop-word.last) (held c.read_word.new.parts, c.in-Ok.next) c.loop-word.invariant.passed c.loop-word.invariant.start (positive (length c.loop-word.rest.now) (sym c.is_empty.ensures ∙ c.loop-word-test.true)) c.split_word.ensures.word c.split_word.ensures.behind cut.1 cut.2 c.in-Ok.ensures;
    }
