use Rattle.std.proofs.Common.{◌≡◌, take, map}
use Rattle.item_letters.specs.Letters.{letter_of_out}
use Rattle.item_letters.proofs.item.letters_of.Given as goal

abbrev pub invariant-loop-one : goal.invariant-loop-one
invariant-loop-one l = l.letters.items ≡ map letter_of_out (take l.one-index l.out)
