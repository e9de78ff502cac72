-- The first word and the others, or none.
use Rattle.std.proofs.Common.{rules, ◌≡◌, ◌∙◌, ◌∷◌, sym, ap, map}
use Rattle.std.specs.String.{string_bytes}
use Rattle.run_words.specs.Line.{joined}
use Rattle.run_words.proofs.Spaces.{line_put}
use Rattle.run_words.proofs.Values.{are_none}
use Rattle.run_words.proofs.line.join_words.Goals as goal
use Rattle.run_words.proofs.line.join_words.Goals.{in-Some+in_ok-put_word+in_ok-put_more, in_default}

pub returns : goal.returns
returns c = elim c.match-split_first.branch [
  | in-Some+in_ok-put_word+in_ok-put_more w ↦
      let words : map (λ v. v.now) c.args.words.now ≡ w.in-Some.first.now.now ∷ map (λ v. v.now) w.in-Some.others.now = search rules in
      c.from_string.ensures ∙ (ap string_bytes w.line-is
      ∙ (line_put w.in-Some.first.now.now (map (λ v. v.now) w.in-Some.others.now) _ _ _ c.new-line.ensures.bytes w.in_ok-put_word.ensures w.in_ok-put_more.ensures ∙ ap joined (sym words)))
  | in_default w ↦ c.from_string.ensures ∙ (ap string_bytes w.line-is ∙ (c.new-line.ensures.bytes ∙ ap joined (sym (are_none c.args.words.now w.in_default.ensures.cases))))
]
