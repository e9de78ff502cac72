-- Whole lines: what is answered is what the grammar says.
use Rattle.std.proofs.Common.{ℕ, List, Result, Ok, Err, IfOk}
use Rattle.launch_text.specs.Grammar.{IsLine}
use Rattle.launch_text.specs.Parsed.{Answers, Told}
use Rattle.launch_text.specs.declared.fault.LineFault.{LineFault}
use Rattle.launch_text.specs.declared.tree.Tree.{Tree}
use Rattle.launch_text.proofs.Answering.{told_answers}
use Rattle.launch_text.proofs.Complete.{tree_read}
use Rattle.launch_text.proofs.Sound.{read_spelt}
use Rattle.launch_text.proofs.Spelling.{line_spelt, spelt_line}

pub told_complete : (text : List ℕ) (r : Result Tree LineFault) (tree : Tree) → Told text r → IsLine text tree → Answers r tree
told_complete text r tree t h = let s = line_spelt text tree h in told_answers text r s.0 tree t s.1 (tree_read tree s.0 h.fits s.2)

pub told_sound : (text : List ℕ) (r : Result Tree LineFault) → Told text r → IfOk r (λ tree. IsLine text tree)
told_sound text (Ok tree) t = let s = read_spelt t.0 tree t.2 in spelt_line text tree t.0 t.1 s.0 s.1
told_sound text (Err e) t = tt
