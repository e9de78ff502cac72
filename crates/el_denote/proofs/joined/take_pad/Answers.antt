use Rattle.std.proofs.Common.{arith}
use Rattle.el_denote.proofs.Looping.{pad_closed, pad_fault, part_plain}
use Rattle.el_denote.proofs.joined.take_pad.Goals as goal

pub take_items-requires-clause-plain : goal.take_items-requires-clause-plain
take_items-requires-clause-plain c = part_plain c.args.number c.args.list.now _ _ c.as_slice.ensures c.in_ok-items.ensures

pub close-requires-clause-pad : goal.close-requires-clause-pad
close-requires-clause-pad c = omega (arith, c.requires.pad, c.take_items.ensures.pads)

pub returns-in-Ok-clause-taken : goal.returns-in-Ok-clause-taken
returns-in-Ok-clause-taken c = λ settings marks turns is r.
    pad_closed c.args.number c.args.list.now _ _ c.as_slice.ensures c.in_ok-items.ensures settings _ _ c.args.pad marks turns _
    (c.in_ok-close-in-Ok.ensures.closed settings c.args.number marks _ is (c.in-Ok.ensures.taken settings c.args.number marks turns is r))

pub returns-clause-fault : goal.returns-clause-fault
returns-clause-fault c = λ settings marks turns is r.
    pad_fault c.args.number c.args.list.now _ _ c.as_slice.ensures c.in_ok-items.ensures settings c.args.pad turns c.in-Err.fault
    (c.in-Err.ensures.fault settings c.args.number marks turns is r)
