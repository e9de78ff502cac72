use Rattle.std.proofs.Common.{◌≡◌, false, true}
use Rattle.net_groups.proofs.joining.join.Goals as goal

pub returns-clause-stands : goal.returns-clause-stands
returns-clause-stands g c = λ is. let done : c.join_reserved.result ≡ true = cc in c.join_reserved.ensures.stands done

pub returns-clause-ready : goal.returns-clause-ready
returns-clause-ready g c = λ is. let done : c.join_reserved.result ≡ true = cc in c.join_reserved.ensures.ready done

pub returns-clause-joined : goal.returns-clause-joined
returns-clause-joined g c = λ is. let done : c.join_reserved.result ≡ true = cc in c.join_reserved.ensures.joined done

pub returns-clause-none : goal.returns-clause-none
returns-clause-none g c = λ is. let stays : c.join_reserved.result ≡ false = cc in c.join_reserved.ensures.none stays
