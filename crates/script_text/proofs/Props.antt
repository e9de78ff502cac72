-- Properties are read from the front on.
use Rattle.std.proofs.Common.{◌≡◌, ◌∙◌, ◌++◌, ◌∷◌, ℕ, [], List, Option, Some, None, refl, sym, ap, append_assoc}
use Rattle.gst_value.specs.declared.name.Prop.{Prop}
use Rattle.text_words.specs.Values.{prop_of, ◌>>=◌}
use Rattle.script_text.specs.Commands.{props_of}

abbrev behind : List Prop → Option (List Prop) → Option (List Prop)
behind props o = o >>= λ more. Some (props ++ more)

-- one property more
pub prop_more : (props new : List Prop) (prop : Prop) (word : List ℕ) (left rest : List (List ℕ)) → left ≡ word ∷ rest → prop_of word ≡ Some prop → new ≡ props ++ prop ∷ []
    → (props_of rest >>= λ more. Some (new ++ more)) ≡ (props_of left >>= λ more. Some (props ++ more))
prop_more props new prop word left rest is said put =
    ap (λ p. props_of rest >>= λ more. Some (p ++ more)) put
    ∙ go (props_of rest)
    ∙ sym (ap (λ l. behind props (props_of l)) is ∙ ap (λ o. behind props (o >>= λ p. props_of rest >>= λ ps. Some (p ∷ ps))) said)
  where
    go : (o : Option (List Prop)) → (o >>= λ more. Some ((props ++ prop ∷ []) ++ more)) ≡ behind props (o >>= λ ps. Some (prop ∷ ps))
    go None = refl
    go (Some more) = ap Some (append_assoc props (prop ∷ []) more)
