-- With a backslash or without.
use Rattle.std.proofs.Common.{◌∙◌, ◌++◌, ap}
use Rattle.std.specs.String.{string_bytes}
use Rattle.std.specs.Char.{encode_utf8}
use Rattle.run_words.proofs.Spaces.{plain_put, space_put}
use Rattle.run_words.proofs.line.put_character.Goals as goal
use Rattle.run_words.proofs.line.put_character.Goals.{then-character-eq-SPACE+in_ok-push, else-character-eq-SPACE}

pub returns : goal.returns
returns c = elim c.if-character-eq-SPACE.branch [
  | then-character-eq-SPACE+in_ok-push w ↦ space_put c.args.character _ _ _ w.if-character-eq-SPACE.true w.in_ok-push.ensures.bytes (c.in_ok-push-2.ensures.bytes ∙ ap (λ s. string_bytes s ++ encode_utf8 c.args.character) w.into-is)
  | else-character-eq-SPACE w ↦ plain_put c.args.character _ _ _ w.if-character-eq-SPACE.false (ap string_bytes w.into-is) c.in_ok-push-2.ensures.bytes
]
