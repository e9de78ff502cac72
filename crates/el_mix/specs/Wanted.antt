-- Which pad is wanted.
use Rattle.std.specs.Prelude.{ℕ, suc, Bool, true, false, List, [], ◌∷◌, Option, None, Some, if◌then◌else◌}
use Rattle.el_mix.specs.declared.channel.Channel.{Channel}
use Rattle.el_mix.specs.Line.{is_none}

-- the lowest pad that passes a test, counted from a number on
abbrev pub lowest : {A : Type 0} → (A → Bool) → ℕ → List A → Option ℕ
lowest test pad [] = None
lowest test pad (x ∷ xs) = if test x then Some pad else lowest test (suc pad) xs

-- without frames that wait and without EOS; without SEGMENT and EOS
abbrev pub is_short : Channel → Bool
is_short c = if c.progress.ended then false else is_none c.waiting.rest

abbrev pub is_unstarted : Channel → Bool
is_unstarted c = if c.progress.started then false else true

abbrev pub else_lowest : Option ℕ → List Channel → Option ℕ
else_lowest (Some pad) cs = Some pad
else_lowest None cs = lowest is_unstarted 0 cs
