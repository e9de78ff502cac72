-- Elements without lanes have one sink pad at the most.
use Rattle.std.proofs.Common.{◌≡◌, ◌≤◌, ◌||◌, ℕ, Bool, true, false, List, [], ◌∷◌, Option, None, Some, length, arith}
use Rattle.std.specs.Option.{option_map_or}
use Rattle.flow_model.specs.Link.{Span}
use Rattle.flow_model.specs.Standing.{LinksAt}
use Rattle.el_settings.specs.Asked.{is_queue, makes_sinks}
use Rattle.el_settings.proofs.Padded.{one_sink}
use Rattle.graph_core.specs.Elements.{Made}
use Rattle.graph_core.specs.GraphPlan.{sink_count}

neither : (a b : Bool) → (a || b) ≡ false → b ≡ false
neither true b e = absurd cc
neither false b e = e

pub few : (found : Option Made) → (option_map_or (λ (m : Made). is_queue m.settings) found false || option_map_or (λ (m : Made). makes_sinks m.settings) found false) ≡ false → sink_count found ≤ 1
few None none = omega arith
few (Some m) none = one_sink m.settings (neither (is_queue m.settings) (makes_sinks m.settings) none)

-- where a link stands there is a sink pad
pub some : (p i : ℕ) (sinks : List (List Span)) → LinksAt p i sinks → 1 ≤ length sinks
some p i [] at = absurd at
some p i (ss ∷ sinks) at = omega arith
