-- A front is no longer than the word.
use Rattle.std.proofs.Common.{arith}
use Rattle.launch_text.specs.declared.front.Spot.TheVariants.{Start, Bin, Chain, Element, Link}
use Rattle.launch_text.proofs.Runs.{front_within}
use Rattle.launch_text.proofs.front.front_length.Goals as goal

pub returns-in-Start-clause-within : goal.returns-in-Start-clause-within
returns-in-Start-clause-within c = omega (arith, c.part_front.ensures, front_within Start c.args.depth c.args.word.now)

pub returns-in-Bin-clause-within : goal.returns-in-Bin-clause-within
returns-in-Bin-clause-within c = omega (arith, c.next_front.ensures, front_within Bin c.args.depth c.args.word.now)

pub returns-in-Chain-clause-within : goal.returns-in-Chain-clause-within
returns-in-Chain-clause-within c = omega (arith, c.next_front-in-Chain.ensures, front_within Chain c.args.depth c.args.word.now)

pub returns-in-Element-clause-within : goal.returns-in-Element-clause-within
returns-in-Element-clause-within c = omega (arith, c.element_front.ensures, front_within Element c.args.depth c.args.word.now)

pub returns-in-Link-clause-within : goal.returns-in-Link-clause-within
returns-in-Link-clause-within c = omega (arith, c.caps_front.ensures, front_within Link c.args.depth c.args.word.now)
