use Rattle.std.proofs.Common.{◌≡◌, sym, ◌∙◌}
use Rattle.std.proofs.lemmas.Result.{IfOk-weaker}
use Rattle.gst_value.specs.Common.{commons, first_least, least_of}
use Rattle.gst_value.proofs.Fixing.{commons_found}
use Rattle.gst_caps.proofs.fixate.least_common.Goals as goal

pub returns-in-Some : goal.returns-in-Some
returns-in-Some c =
    rw (← c.members-member-items.ensures, ← c.members-others.ensures)
    (IfOk-weaker c.least.result (λ m. m ≡ least_of c.in-Some.found) (λ m. m ≡ first_least (commons c.members-member-items.result.now c.members-others.result.now))
    (λ m e. commons_found c.members-member-items.result.now c.members-others.result.now _ c.member-item.result c.in-Some.found m c.loop-member-test.true c.loop-member.invariant c.member-item.is (sym c.in-Some.is ∙ c.in_ok-found.ensures) e) c.least.ensures)
