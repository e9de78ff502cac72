use Rattle.el_denote.proofs.Looping.{section_next}
use Rattle.el_denote.proofs.joined.take_flushed.Goals as goal

pub returns-clause-fed : goal.returns-clause-fed
returns-clause-fed c = c.flush.ensures.fed c.in-Ok.ensures.fed

pub returns-clause-taken : goal.returns-clause-taken
returns-clause-taken c = λ settings at.
    section_next settings c.args.inputs.now c.args.number c.take_section.new.join c.flush.new.join c.take_section.new.out c.push.new.self c.stop_number.result c.stop_number.ensures
    (c.in-Ok.ensures.taken settings at) c.in_ok-push.ensures.ok c.flush.ensures.flushed

pub returns-in-Err-clause-fault : goal.returns-in-Err-clause-fault
returns-in-Err-clause-fault c = λ settings at. c.in-Err.ensures.fault settings at
