use Rattle.std.proofs.Common.{◌≡◌, ◌≤◌, ◌+◌, ◌++◌, ℕ, List, length}
use Rattle.script_text.specs.Latest.{IsLatest}
use Rattle.script_text.specs.Lines.{lines}
use Rattle.script_text.specs.Scripts.{AreCommands}
use Rattle.script_text.proofs.reading.read_lines.Given as goal

abbrev pub invariant-loop-rest : goal.invariant-loop-rest
invariant-loop-rest l =
    (front : List (List ℕ)) × (lines l.bytes ≡ front ++ lines l.rest) × (l.number ≡ length front) × AreCommands l.acts front l.commands × IsLatest l.latest l.commands
    × (l.number + length l.rest ≤ length l.bytes)

abbrev pub decreases-loop-rest : goal.decreases-loop-rest
decreases-loop-rest l = length l.rest
