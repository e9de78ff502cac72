use Rattle.std.proofs.Common.{◌≡◌, ◌++◌, length}
use Rattle.item_letters.specs.Letters.{bytes_of_digits}
use Rattle.item_letters.proofs.digits.bytes_by.Given as goal

-- the bytes that were read, with those that are still to be, are those of the whole text
abbrev pub invariant-loop-rest : goal.invariant-loop-rest
invariant-loop-rest l = l.bytes.items ++ bytes_of_digits l.rest ≡ bytes_of_digits l.digits

abbrev pub decreases-loop-rest : goal.decreases-loop-rest
decreases-loop-rest l = length l.rest
