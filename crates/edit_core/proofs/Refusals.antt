-- What a question that was answered no denies.
use Rattle.std.proofs.Common.{◌≡◌, Bool, true, false, sym, ◌∙◌}
use Rattle.std.proofs.lemmas.Bool.{false≢true}

pub denied : {P : Type 0} (told : Bool) → told ≡ false → (P → told ≡ true) → P → ⊥
denied told denies affirms is = false≢true (sym denies ∙ affirms is)
