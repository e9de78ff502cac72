-- What is read is a value.
use Rattle.caps_text.proofs.Valid.{value_good}
use Rattle.caps_text.proofs.Whole.{reads_whole_value}
use Rattle.caps_text.proofs.structures.read_field.Goals as goal

pub set-requires : goal.set-requires
set-requires c = let f = reads_whole_value.sound c.mark.new.self.rest.now c.read_whole_value.new.scanner.rest.now c.in_ok-value.value c.in_ok-value.ensures in value_good f.0 c.in_ok-value.value f.2
