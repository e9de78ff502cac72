use Rattle.std.proofs.Common.{arith}
use Rattle.el_denote.specs.Turns.{turns_before}
use Rattle.el_denote.proofs.Looping.{from_empty, section_done}
use Rattle.el_denote.proofs.joined.take_section.Goals as goal

pub returns-in_ok-gather-in-Ok-clause-taken : goal.returns-in_ok-gather-in-Ok-clause-taken
returns-in_ok-gather-in-Ok-clause-taken c = λ settings at.
    section_done settings c.args.inputs.now c.args.number c.in-Ok.gaps c.args.join.now c.take_pads.new.join c.take_pads.new.put c.args.out.now c.gather.new.out
    (omega (arith, c.requires.some, c.requires.pads, c.take_pads.ensures.pads)) at
    (c.in-Ok.ensures.taken settings (turns_before c.args.number c.args.inputs.now) (from_empty settings c.args.number c.args.join.now _ _ c.new-put.ensures at.runs))
    c.in_ok-gather-in-Ok.ensures

pub returns-in-Err-clause-fault : goal.returns-in-Err-clause-fault
returns-in-Err-clause-fault c = λ settings at.
    c.in-Err.ensures.fault settings (turns_before c.args.number c.args.inputs.now) (from_empty settings c.args.number c.args.join.now _ _ c.new-put.ensures at.runs)
