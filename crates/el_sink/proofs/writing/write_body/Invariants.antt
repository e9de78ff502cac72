use Rattle.std.proofs.Common.{length, ◌-◌, ◌≡◌, ◌≤◌, ◌<◌, ◌+◌, ◌^◌, take, option_map}
use Rattle.gst_outside.specs.Bytes.{written}
use Rattle.el_sink.proofs.writing.write_body.Given as goal

abbrev pub invariant-loop-done : goal.invariant-loop-done
invariant-loop-done g l =
    (l.done ≤ length l.body) × (g.K.Sink.location l.sink ≡ g.K.Sink.location l.initial.sink) × (g.K.Sink.faults l.initial.sink ≤ g.K.Sink.faults l.sink) × (0 < l.done → l.place + length l.body ≤ 2 ^ 63) × (g.K.Sink.bytes l.sink ≡ option_map (λ b. written b l.place (take l.done l.body)) (g.K.Sink.bytes l.initial.sink))

abbrev pub decreases-loop-done : goal.decreases-loop-done
decreases-loop-done g l = length l.body - l.done
