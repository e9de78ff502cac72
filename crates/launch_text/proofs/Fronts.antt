-- A front of a word is a front.
use Rattle.std.proofs.Common.{◌≡◌, ℕ, Bool, true, false, cond, eqb, List, [], ◌∷◌, ◌++◌, length, Option, Some, None, refl, sym, ap, ◌∙◌, append_assoc, append-nil}
use Rattle.std.specs.Prelude.{is_some, nat_lt}
use Rattle.std.proofs.lemmas.Bool.{eqb-true}
use Rattle.text_words.specs.Values.{cut, property_of}
use Rattle.text_words.specs.declared.class.Class.TheVariants.{Name}
use Rattle.launch_text.specs.Places.{begins, behind_run, caps_before, caps_front, element_front, front_of, name_front, next_front, pad_front, part_front, point_front, run_of}
use Rattle.launch_text.specs.Words.{begins_caps}
use Rattle.launch_text.specs.declared.front.Spot.{Spot}
use Rattle.launch_text.specs.declared.front.Spot.TheVariants.{Start, Bin, Chain, Element, Link, Caps, Reference}
use Rattle.launch_text.proofs.Facts.{cut_sound}
use Rattle.launch_text.proofs.Runs.{run_whole}

abbrev pub Front : List ℕ → List ℕ → Type 0
Front u w = (x : List ℕ) × (w ≡ u ++ x)

none_cut : (w : List ℕ) → Front [] w
none_cut w = (w, refl)

all_cut : (w : List ℕ) → Front w w
all_cut w = ([], sym (append-nil w))

one_cut : (mark : ℕ) (w other : List ℕ) → Front other w → Front (cond (begins mark w) (mark ∷ []) other) w
one_cut mark [] other f = f
one_cut mark (b ∷ bs) other f = go (eqb b mark) refl
  where
    go : (t : Bool) → eqb b mark ≡ t → Front (cond t (mark ∷ []) other) (b ∷ bs)
    go true e = (bs, ap (λ x. x ∷ bs) (eqb-true b mark e))
    go false e = f

some_cut : (mark : ℕ) (w other : List ℕ) (t : Bool) → Front other w → Front (cond (begins mark w) (cond t (mark ∷ []) []) other) w
some_cut mark w other true f = one_cut mark w other f
some_cut mark w other false f = go (begins mark w)
  where
    go : (t : Bool) → Front (cond t [] other) w
    go true = none_cut w
    go false = f

not_cut : (mark : ℕ) (w other : List ℕ) (t : Bool) → Front other w → Front (cond (begins mark w) (cond t [] (mark ∷ [])) other) w
not_cut mark w other true f = some_cut mark w other false f
not_cut mark w other false f = one_cut mark w other f

point_cut : (x : List ℕ) → Front (point_front x) x
point_cut [] = none_cut []
point_cut (b ∷ bs) = go (eqb b 46) refl
  where
    go : (t : Bool) → eqb b 46 ≡ t → Front (pad_front (cond t (Some bs) None)) (b ∷ bs)
    go true e = (behind_run Name bs, (λ i. eqb-true b 46 e i ∷ run_whole Name bs i))
    go false e = none_cut (b ∷ bs)

name_cut : (w : List ℕ) → Front (name_front w) w
unfolding name_front
name_cut w = go (eqb (length (run_of Name w)) 0)
  where
    go : (t : Bool) → Front (cond t [] (run_of Name w ++ point_front (behind_run Name w))) w
    go true = none_cut w
    go false = let p = point_cut (behind_run Name w) in (p.0, run_whole Name w ∙ ap (λ l. run_of Name w ++ l) p.1 ∙ sym (append_assoc (run_of Name w) (point_front (behind_run Name w)) p.0))

part_cut : (depth : ℕ) (w : List ℕ) → Front (part_front depth w) w
unfolding part_front
part_cut depth w = some_cut 40 w (name_front w) (nat_lt depth 16) (name_cut w)

next_cut : (depth : ℕ) (w : List ℕ) → Front (next_front depth w) w
unfolding next_front
next_cut depth w = not_cut 41 w (part_front depth w) (eqb depth 0) (part_cut depth w)

element_cut : (depth : ℕ) (w : List ℕ) → Front (element_front depth w) w
unfolding element_front
element_cut depth w = go (is_some (property_of w))
  where
    go : (t : Bool) → Front (cond t w (cond (begins 33 w) (33 ∷ []) (next_front depth w))) w
    go true = all_cut w
    go false = one_cut 33 w (next_front depth w) (next_cut depth w)

caps_cut : (w : List ℕ) → Front (caps_front w) w
unfolding caps_front
caps_cut w = go (begins_caps w)
  where
    inner : (o : Option (List ℕ × List ℕ)) → cut 61 w ≡ o → Front (caps_before w o) w
    inner None e = all_cut w
    inner (Some p) e = (61 ∷ p.1, cut_sound 61 w p e)

    go : (t : Bool) → Front (cond t w (caps_before w (cut 61 w))) w
    go true = all_cut w
    go false = inner (cut 61 w) refl

pub front_cut : (spot : Spot) (depth : ℕ) (w : List ℕ) → Front (front_of spot depth w) w
front_cut Start depth w = part_cut depth w
front_cut Bin depth w = next_cut depth w
front_cut Chain depth w = next_cut depth w
front_cut Element depth w = element_cut depth w
front_cut Link depth w = caps_cut w
front_cut Caps depth w = all_cut w
front_cut Reference depth w = one_cut 33 w [] (none_cut w)
