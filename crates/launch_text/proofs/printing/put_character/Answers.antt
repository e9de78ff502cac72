-- With a backslash or without.
use Rattle.std.proofs.Common.{◌∙◌, ◌++◌, sym, ap}
use Rattle.std.specs.String.{string_bytes}
use Rattle.std.specs.Char.{encode_utf8}
use Rattle.launch_text.proofs.Marks.{marked_put, unmarked_put}
use Rattle.launch_text.proofs.printing.put_character.Goals as goal
use Rattle.launch_text.proofs.printing.put_character.Goals.{then-holds+in_ok-push, else-holds}

pub returns : goal.returns
returns c = elim c.if-holds.branch [
  | then-holds+in_ok-push w ↦ marked_put c.args.marked c.args.character _ _ _ (sym c.holds.ensures ∙ w.if-holds.true) w.in_ok-push.ensures.bytes (c.in_ok-push-2.ensures.bytes ∙ ap (λ s. string_bytes s ++ encode_utf8 c.args.character) w.into-is)
  | else-holds w ↦ unmarked_put c.args.marked c.args.character _ _ _ (sym c.holds.ensures ∙ w.if-holds.false) (ap string_bytes w.into-is) c.in_ok-push-2.ensures.bytes
]
