use Rattle.std.proofs.Common.{[], refl, arith}
use Rattle.gst_caps.proofs.caps.Caps.meets.Goals as goal

pub returns-in-Any-Any : goal.returns-in-Any-Any
returns-in-Any-Any c =
    rw (c.in-Any-Any.is-0, c.in-Any-Any.is-1)
    (λ _. (record { media = []; fields = [] }, record { ordered = tt; values = tt; few = omega arith }, refl, refl), λ _. refl)
