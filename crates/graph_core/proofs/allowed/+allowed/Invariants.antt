use Rattle.std.proofs.Common.{◌≡◌, ◌<◌, ◌*◌, ◌+◌, ℕ, All, Option, Some}
use Rattle.gst_caps.specs.declared.caps.Caps.{Caps}
use Rattle.graph_core.specs.Allowed.{Allows, AreCounted, Falls, all_common}
use Rattle.graph_core.specs.Elements.{all_made}
use Rattle.graph_core.specs.Links.{HasPads}
use Rattle.graph_core.proofs.LinkedOnce.{place_of}
use Rattle.graph_core.proofs.allowed.+allowed.Given as goal

abbrev pub decreases-allowed_within : goal.decreases-allowed_within
decreases-allowed_within l = 2 * l.limit

abbrev pub decreases-common_caps : goal.decreases-common_caps
decreases-common_caps l = 2 * l.limit + 1

-- so far the pads are allowed what is common to them
abbrev pub invariant-common_caps-loop-pad : goal.invariant-common_caps-loop-pad
invariant-common_caps-loop-pad l =
    (rank : ℕ → ℕ) → All (HasPads (all_made l.elements)) l.links → AreCounted (all_made l.elements) l.links → Falls l.links rank → rank l.element < l.limit
    → (each : ℕ → Option Caps) → ((k : ℕ) → k < l.pads → Allows (all_made l.elements) l.links (place_of l.element k) (each k)) → all_common each l.pad ≡ Some l.common
