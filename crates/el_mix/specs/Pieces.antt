-- How the output buffers go on: those that are owed more lie behind the last cut point.
use Rattle.std.specs.Prelude.{◌≡◌, ◌<◌, ℕ, ◌+◌, ◌-◌, true, false, List, [], ◌∷◌, ◌++◌}
use Rattle.flow_model.specs.Item.{Item, is_eos}
use Rattle.flow_model.specs.Prefix.{IsPrefix}
use Rattle.el_mix.specs.Mono.{Mono}
use Rattle.el_mix.specs.Mixed.{has, is_cut, piece, mixed, limit}

-- A pad's list goes on where it begins another, and is all of it where it had EOS.
pub record Goes (xs ys : List Item) : Type 0 where
  pub begins : IsPrefix xs ys
  pub ends : has is_eos xs ≡ true → xs ≡ ys

pub data AllGo : List (List Item) → List (List Item) → Type 0 where
  no_pads : AllGo [] []
  one_pad : {xs ys : List Item} {xss yss : List (List Item)} → Goes xs ys → AllGo xss yss → AllGo (xs ∷ xss) (ys ∷ yss)

-- What is owed for longer lists is what was owed, and then the buffers from the place up to which frames were owed.
abbrev pub BuffersGoOn : Type 0
BuffersGoOn = (mono : Mono) (xss yss : List (List Item)) → AllGo xss yss
    → mixed mono yss 0 0 (limit mono yss)
    ≡ mixed mono xss 0 0 (limit mono xss) ++ mixed mono yss (limit mono xss) (limit mono xss) (limit mono yss - limit mono xss)

-- The next buffer reaches from one cut point to the next.
abbrev pub NextBuffer : Type 0
NextBuffer = (mono : Mono) (xss : List (List Item)) (at n m : ℕ) → 0 < n → is_cut mono xss (at + n) ≡ true
    → ((k : ℕ) → 0 < k → k < n → is_cut mono xss (at + k) ≡ false)
    → mixed mono xss at at (n + m) ≡ piece mono xss at (at + n) ∷ mixed mono xss (at + n) (at + n) m
