use Rattle.std.proofs.Common.{◌≡◌, ◌≤◌, length}
use Rattle.caps_text.specs.Reading.{list_step, read_members, repeat}
use Rattle.caps_text.proofs.list.read_members.Given as goal

abbrev pub invariant-loop-members : goal.invariant-loop-members
invariant-loop-members l = (repeat (list_step l.kind) l.members.items l.scanner.rest.now ≡ read_members l.fn.first l.fn.scanner.rest.now) × (length l.members.items ≤ 64)

abbrev pub decreases-loop-members : goal.decreases-loop-members
decreases-loop-members l = length l.scanner.rest.now
