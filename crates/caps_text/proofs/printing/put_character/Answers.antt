-- Other characters stand for themselves.
use Rattle.caps_text.proofs.Characters.{escaped_plain}
use Rattle.caps_text.proofs.printing.put_character.Goals as goal

pub returns : goal.returns
returns c = rw (escaped_plain c.args.character c.if-character-eq34.false c.if-character-eq92.false) c.in_ok-push.ensures.bytes
