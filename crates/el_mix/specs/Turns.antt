-- Frames of all channels in turn, from the bodies that are first ahead.
use Rattle.std.specs.Prelude.{◌≤◌, ℕ, zero, suc, ◌*◌, Bool, true, false, List, [], ◌∷◌, ◌++◌, Option, Some, None, if◌then◌else◌, nat_lt, length, take, drop, replicate, flat_map}
use Rattle.audio_info.specs.declared.sample.Sample.{Sample}
use Rattle.audio_info.specs.Packing.{sample_width}
use Rattle.el_mix.specs.Mono.{silence}

-- whether a channel ended, and the bodies that are ahead there
abbrev pub Ahead : Type 0
Ahead = Bool × List (List ℕ)

-- the bytes to the next cut: the least length of a first body, where each channel has one or ended, and some channel has one
abbrev pub least_of : Option ℕ → ℕ → Option ℕ
least_of None n = Some n
least_of (Some m) n = if nat_lt m n then Some m else Some n

abbrev pub next_cut : Option ℕ → List Ahead → Option ℕ
next_cut least [] = least
next_cut least ((ended, b ∷ bs) ∷ ls) = next_cut (least_of least (length b)) ls
next_cut least ((true, []) ∷ ls) = next_cut least ls
next_cut least ((false, []) ∷ ls) = None

-- each first body has so many bytes
abbrev pub HasAhead : ℕ → List (List ℕ) → Type 0
HasAhead n [] = Unit {0}
HasAhead n (b ∷ bs) = n ≤ length b

abbrev pub IsAhead : ℕ → List Ahead → Type 0
IsAhead n [] = Unit {0}
IsAhead n (l ∷ ls) = HasAhead n l.1 × IsAhead n ls

-- a sample of a channel from a byte on, and silence where none waits
abbrev pub sample : Sample → List (List ℕ) → ℕ → List ℕ
sample format [] from = replicate (sample_width format) (silence format)
sample format (b ∷ bs) from = take (sample_width format) (drop from b)

-- one of each channel, and so for n frames
abbrev pub turn : Sample → List Ahead → ℕ → List ℕ
turn format ls from = flat_map (λ (l : Ahead). sample format l.1 from) ls

abbrev pub turns : Sample → List Ahead → ℕ → List ℕ
turns format ls zero = []
turns format ls (suc n) = turns format ls n ++ turn format ls (n * sample_width format)
