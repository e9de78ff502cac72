use Rattle.std.proofs.Common.{◌≡◌, take}
use Rattle.script_probes.specs.Stops.{stops_of}
use Rattle.script_probes.proofs.stops.stops_of.Given as goal

abbrev pub invariant-loop-place : goal.invariant-loop-place
invariant-loop-place l = l.stops.items ≡ stops_of 0 (take l.place l.commands)
