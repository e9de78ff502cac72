-- What single readers do.
use Rattle.std.proofs.Common.{◌≡◌, List, [], ◌∷◌, ◌++◌, Some, refl, sym, ap, ◌∙◌}
use Rattle.text_words.specs.Values.{◌>>=◌}
use Rattle.launch_text.specs.Reading.{Held, closed, closed_in, innermost, more_outer}
use Rattle.launch_text.specs.declared.tree.Part.{Part}
use Rattle.launch_text.specs.declared.tree.Part.TheVariants.{Bin}

pub innermost_last : (xs : List (List Part)) (x : List Part) → innermost (xs ++ x ∷ []) ≡ Some (xs, x)
innermost_last [] x = refl
innermost_last (y ∷ ys) x = ap (more_outer y) (innermost_last ys x)

pub closed_last : (h : Held) (xs : List (List Part)) (x : List Part) → h.outer ≡ xs ++ x ∷ [] → closed h ≡ closed_in h (xs, x)
unfolding closed
closed_last h xs x e = ap (λ o. innermost o >>= closed_in h) e ∙ ap (λ o. o >>= closed_in h) (innermost_last xs x)

-- the parts inside of a bracket become a part behind those before it
pub close_is : (h : Held) (xs : List (List Part)) (x ps made inner : List Part) → h.outer ≡ xs ++ x ∷ [] → ps ≡ x → inner ≡ h.parts → made ≡ ps ++ Bin (record { parts = inner }) ∷ [] → closed h ≡ Some (record { outer = xs; parts = made; nodes = h.nodes })
close_is h xs x ps made inner e f g k =
    closed_last h xs x e ∙ ap (λ l. Some (record { outer = xs; parts = l; nodes = h.nodes })) (sym (k ∙ ap (λ l. l ++ Bin (record { parts = inner }) ∷ []) f ∙ ap (λ l. x ++ Bin (record { parts = l }) ∷ []) g))
