-- The probes are sorted by their numbers of buffers and their places.
use Rattle.std.proofs.Common.{subst, rules, List}
use Rattle.std.proofs.lemmas.List.Sorted.{answers_always}
use Rattle.std.specs.List.Sorted.{IsPermutation}
use Rattle.pad_core.specs.declared.probe.Probe.{Probe}
use Rattle.script_probes.proofs.Gathered.{are_stops, key_of, sorted_order}
use Rattle.script_probes.proofs.stops.ordered_stops.Goals as goal

pub returns-clause-whole : goal.returns-clause-whole
returns-clause-whole c = are_stops c.args.commands.now c.sort_unstable_by_key.new.self.items (subst (λ (xs : List Probe). IsPermutation xs c.sort_unstable_by_key.new.self.items) c.in_ok-stops.ensures c.sort_unstable_by_key.ensures.permutation)

pub returns-clause-ordered : goal.returns-clause-ordered
returns-clause-ordered c = sorted_order c.sort_unstable_by_key.new.self.items (c.sort_unstable_by_key.ensures.sorted key_of (answers_always _ _ _ (λ f a r g h. search rules)))
