use Rattle.std.proofs.Common.{refl}
use Rattle.edit_acts.proofs.Apart.{is_apart, linkable}
use Rattle.edit_acts.proofs.relinking.prepare.Goals as goal

pub returns-then-not-is_apart-clause-none : goal.returns-then-not-is_apart-clause-none
returns-then-not-is_apart-clause-none g c = λ same feeds graph m tells items fed w.
    let apart = is_apart c.args.graph.now feeds c.args.tasks.now.items graph m tells c.args.source c.args.sink items w c.args.pad c.requires.number
    c.room_to_undo.new.tasks c.in_ok-undo.ensures.items c.in_ok-undo.undo c.in_ok-undo.ensures.room in
    let told = c.if-not-is_apart.ensures.1 apart in cc

pub returns-in-Linked-clause-prepared : goal.returns-in-Linked-clause-prepared
returns-in-Linked-clause-prepared g c = record { number = c.requires.number; undo = c.in_ok-undo.ensures.room; apart = c.if-not-is_apart.ensures.0 refl }

pub returns-in-Linked-clause-link : goal.returns-in-Linked-clause-link
returns-in-Linked-clause-link g c = record {
  edited = λ graph place is. let answer = rw c.in-Linked.is at c.in_ok-relink.ensures.answer in (answer graph place is).1;
  was = λ graph is. c.sink_behind-before.ensures graph is;
}

pub returns-in-Loops-clause-none : goal.returns-in-Loops-clause-none
returns-in-Loops-clause-none g c = λ same feeds graph m tells items fed w.
    let answer = rw c.in-Loops.is at c.in_ok-relink.ensures.answer in
    (linkable c.args.graph.now feeds c.args.tasks.now.items graph m tells c.args.source c.args.sink items w).forward (answer graph w.controlled.current.edited).0

pub returns-in-Loops-clause-left : goal.returns-in-Loops-clause-left
returns-in-Loops-clause-left g c = λ same graph is.
    let answer = rw c.in-Loops.is at c.in_ok-relink.ensures.answer in
    (answer graph is).1
