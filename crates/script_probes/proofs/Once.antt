-- What holds of the stops of a script.
use Rattle.std.proofs.Common.{◌≡◌, ℕ, Some, None, refl, ap, ◌∙◌, inl, inr, arith}
use Rattle.pad_core.specs.declared.probe.Probe.{Probe}
use Rattle.script_probes.specs.Laws.{OneStop, StandsLater}
use Rattle.script_probes.specs.Queues.{queue_at}
use Rattle.script_probes.specs.Stops.{StopsFirst}
use Rattle.script_probes.proofs.Waiting.{queue_later}

same_probe : (a b : Probe) → StopsFirst a b → StopsFirst b a → a ≡ b
same_probe a b (inl h) (inl g) = absurd (omega (arith, h, g))
same_probe a b (inl h) (inr g) = absurd (omega (arith, h, g.0))
same_probe a b (inr h) (inl g) = absurd (omega (arith, h.0, g))
same_probe a b (inr h) (inr g) =
    ap (λ (n : ℕ). let p : Probe = record { command = n; buffers = a.buffers } in p) (omega (arith, h.1, g.1))
    ∙ ap (λ (n : ℕ). let p : Probe = record { command = b.command; buffers = n } in p) h.0

pub one_stop_only : OneStop
one_stop_only commands answered pad (Some a) (Some b) h g = ap Some (same_probe a b (h.1 b g.0) (g.1 a h.0))
one_stop_only commands answered pad (Some a) None h g = absurd (g a h.0)
one_stop_only commands answered pad None (Some b) h g = absurd (h b g.0)
one_stop_only commands answered pad None None h g = refl

pub stands_later : StandsLater
stands_later probes commands before answered le h = record { queues = λ pad. queue_later commands pad before answered (queue_at probes.elements pad) le (h.queues pad) }
