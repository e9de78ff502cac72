use Rattle.std.proofs.Common.{◌≡◌, ◌≤◌, map, take, length}
use Rattle.el_mix.specs.Heard.{mono_by}
use Rattle.el_mix.specs.Taking.{settled, lines}
use Rattle.el_mix.specs.Putting.{Pieced}
use Rattle.el_mix.proofs.Falling.{total}
use Rattle.el_mix.proofs.due.push_pieces.Given as goal

abbrev pub invariant-loop-bytes : goal.invariant-loop-bytes
invariant-loop-bytes l = record {
  pieced : Pieced (mono_by l.info) l.fn.at l.at (lines l.fn.channels) (lines l.channels) l.fn.outs.items l.outs.items;
  still : map settled l.channels ≡ map settled l.fn.channels;
  grows : take (length l.fn.outs.items) l.outs.items ≡ l.fn.outs.items;
  few : length l.channels ≤ 64;
}

abbrev pub decreases-loop-bytes : goal.decreases-loop-bytes
decreases-loop-bytes l = total (lines l.channels)
