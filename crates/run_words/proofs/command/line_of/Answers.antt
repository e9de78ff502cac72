-- The words that `get_strs` shows are those of the line.
use Rattle.std.proofs.Common.{◌≡◌, ◌∙◌, length, sym, ap}
use Rattle.std.proofs.lemmas.Bool.{eqb-true}
use Rattle.clap.specs.Words.{found_of}
use Rattle.run_words.specs.Line.{joined}
use Rattle.run_words.proofs.Values.{are_none, are_words, no_words, some_words}
use Rattle.run_words.proofs.command.line_of.Goals as goal
use Rattle.run_words.proofs.command.line_of.Goals.{in_default-via-in-Some+else-not-is_empty, in_default-via-in_default}

pub returns-in_ok-join_words-in-Some-clause-line :
    goal.returns-in_ok-join_words-in-Some-clause-line
returns-in_ok-join_words-in-Some-clause-line c =
    let words = some_words (found_of c.args.matches.now) c.get_strs.result c.in-Some.words c.in-Some.is c.get_strs.ensures in
    ((λ none. are_words c.in-Some.words.now c.if-not-is_empty.ensures (words ∙ none)), c.in_ok-join_words-in-Some.ensures ∙ ap joined words)

pub returns-in_default-clause-missing : goal.returns-in_default-clause-missing
returns-in_default-clause-missing c = elim c.in_default.branch [
  | in_default-via-in-Some+else-not-is_empty w ↦
      let words = some_words (found_of c.args.matches.now) c.get_strs.result w.in-Some.words w.in-Some.is c.get_strs.ensures in
      let none : length w.in-Some.words.now ≡ 0 = eqb-true _ _ (sym w.if-not-is_empty.ensures) in
      sym words ∙ are_none w.in-Some.words.now none
  | in_default-via-in_default w ↦ no_words (found_of c.args.matches.now) c.get_strs.result w.in_default.is c.get_strs.ensures
]
