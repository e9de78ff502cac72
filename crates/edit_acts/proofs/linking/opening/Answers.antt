use Rattle.edit_acts.proofs.Joinable.{some_has}
use Rattle.edit_acts.proofs.linking.opening.Goals as goal

pub returns-in-None-clause-at : goal.returns-in-None-clause-at
returns-in-None-clause-at g c = λ m tells k stands owns. absurd (some_has m c.args.tasks.now tells stands k c.args.pad owns (c.in_ok-items.ensures.none c.in-None.is))

pub returns-in-Some-clause-at : goal.returns-in-Some-clause-at
returns-in-Some-clause-at g c = λ m tells k stands owns. (rw c.in-Some.is at c.in_ok-items.ensures.at) m tells stands
