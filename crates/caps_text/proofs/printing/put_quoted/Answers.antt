-- A character is passed.
use Rattle.caps_text.proofs.printing.put_quoted.Goals as goal
use Rattle.gst_value.proofs.Characters.{shorter_by}

pub loop-character-smaller : goal.loop-character-smaller
loop-character-smaller c = shorter_by c.in-Some.character c.loop-character.scanner.rest.now c.take.new.self.rest.now c.in-Some.ensures
