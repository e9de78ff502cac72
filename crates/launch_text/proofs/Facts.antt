-- What a word is read as.
use Rattle.std.proofs.Common.{◌≡◌, ℕ, Bool, true, false, cond, eqb, ◌&&◌, ◌||◌, not, List, [], ◌∷◌, ◌++◌, length, Option, Some, None, inl, inr, refl, sym, ap, ◌∙◌, arith, codes}
use Rattle.std.specs.List.{list_all}
use Rattle.std.specs.Str.{bytes_eq}
use Rattle.std.proofs.lemmas.Bool.Decides.{eqb_tells}
use Rattle.std.proofs.lemmas.List.Folds.{list_all-append}
use Rattle.std.proofs.lemmas.Slice.Eq.{bytes_eq-Decides}
use Rattle.std.proofs.lemmas.Option.{none-some, same_Some}
use Rattle.text_words.specs.Bytes.{in_class, is_run}
use Rattle.text_words.specs.Values.{cut, longer, named, property_of, ◌>>=◌}
use Rattle.text_words.specs.declared.class.Class.{Class}
use Rattle.text_words.specs.declared.class.Class.TheVariants.{Kind, Name, Property}
use Rattle.launch_text.specs.Printed.{reference_text}
use Rattle.launch_text.specs.Reading.{pad_of, reference_from, reference_of}
use Rattle.launch_text.specs.Words.{begins_caps, is_link, is_pad}
use Rattle.launch_text.specs.declared.tree.Node.{Node}
use Rattle.launch_text.specs.declared.tree.Node.TheVariants.{Reference}
use Rattle.launch_text.proofs.Calm.{not_zero, run_all, run_some}
use Rattle.gst_value.proofs.Basics.{no_true, and_left, and_right, and_both as both_true, not_false}

-- two texts that a test tells apart
pub differs : (test : List ℕ → Bool) (w x : List ℕ) → test w ≡ true → test x ≡ false → bytes_eq w x ≡ false
differs test w x h k = step (bytes_eq w x) refl
  where
    step : (t : Bool) → bytes_eq w x ≡ t → t ≡ false
    step true e = absurd (no_true (sym k ∙ ap test (sym ((bytes_eq-Decides w x).0 e)) ∙ h))
    step false e = refl

pub same_text : (w x : List ℕ) → bytes_eq w x ≡ true → w ≡ x
same_text w x e = (bytes_eq-Decides w x).0 e

-- bytes that are not this one
abbrev pub lacks : ℕ → List ℕ → Bool
lacks mark x = list_all (λ b. not (eqb b mark)) x

pub cut_lacks : (mark : ℕ) (x : List ℕ) → lacks mark x ≡ true → cut mark x ≡ None
cut_lacks mark [] h = refl
cut_lacks mark (b ∷ bs) h = ap (λ t. cond t (Some ([], bs)) (longer b (cut mark bs))) (not_false (eqb b mark) (and_left (not (eqb b mark)) (lacks mark bs) h)) ∙ ap (longer b) (cut_lacks mark bs (and_right (not (eqb b mark)) (lacks mark bs) h))

pub cut_finds : (mark : ℕ) (x y : List ℕ) → lacks mark x ≡ true → cut mark (x ++ mark ∷ y) ≡ Some (x, y)
cut_finds mark [] y h = elim (eqb_tells mark mark) [ inl t ↦ rw t.0 refl | inr t ↦ absurd (t.1 refl) ]
cut_finds mark (b ∷ bs) y h = ap (λ t. cond t (Some ([], bs ++ mark ∷ y)) (longer b (cut mark (bs ++ mark ∷ y)))) (not_false (eqb b mark) (and_left (not (eqb b mark)) (lacks mark bs) h)) ∙ ap (longer b) (cut_finds mark bs y (and_right (not (eqb b mark)) (lacks mark bs) h))

-- a cut text is its parts round the byte
pub cut_sound : (mark : ℕ) (x : List ℕ) (p : List ℕ × List ℕ) → cut mark x ≡ Some p → x ≡ p.0 ++ mark ∷ p.1
cut_sound mark [] p h = absurd (none-some p h)
cut_sound mark (b ∷ bs) p h = elim (eqb_tells b mark) [
  | inl t ↦ let e = same_Some ([], bs) p (sym (ap (λ u. cond u (Some ([], bs)) (longer b (cut mark bs))) t.0) ∙ h) in (λ i. t.1 i ∷ (e i).1) ∙ ap (λ l. l ++ mark ∷ p.1) (ap (λ q. q.0) e)
  | inr t ↦ step (cut mark bs) refl (cut_sound mark bs) (sym (ap (λ u. cond u (Some ([], bs)) (longer b (cut mark bs))) t.0) ∙ h)
]
  where
    step : (o : Option (List ℕ × List ℕ)) → cut mark bs ≡ o → ((q : List ℕ × List ℕ) → cut mark bs ≡ Some q → bs ≡ q.0 ++ mark ∷ q.1) → longer b o ≡ Some p → b ∷ bs ≡ p.0 ++ mark ∷ p.1
    step None e ih k = absurd (none-some p k)
    step (Some q) e ih k = ap (λ l. b ∷ l) (ih q e) ∙ ap (λ r. r.0 ++ mark ∷ r.1) (same_Some (b ∷ q.0, q.1) p k)

class_lacks : (class : Class) (mark : ℕ) (x : List ℕ) → in_class class mark ≡ false → list_all (in_class class) x ≡ true → lacks mark x ≡ true
class_lacks class mark [] e h = refl
class_lacks class mark (b ∷ bs) e h = both_true (not (eqb b mark)) (lacks mark bs) first (class_lacks class mark bs e (and_right (in_class class b) _ h))
  where
    first : not (eqb b mark) ≡ true
    first = elim (eqb_tells b mark) [ inl t ↦ absurd (no_true (sym e ∙ ap (in_class class) (sym t.1) ∙ and_left (in_class class b) _ h)) | inr t ↦ rw t.0 refl ]

pub run_lacks : (class : Class) (mark : ℕ) (x : List ℕ) → in_class class mark ≡ false → is_run class x ≡ true → lacks mark x ≡ true
run_lacks class mark x e h = class_lacks class mark x e (run_all class x h)

pub lacks_caps : (x : List ℕ) → lacks 47 x ≡ true → begins_caps x ≡ false
lacks_caps [] h = refl
lacks_caps (b ∷ bs) h = ap (λ t. cond t true (cond (eqb b 61) false (begins_caps bs))) (not_false (eqb b 47) (and_left (not (eqb b 47)) (lacks 47 bs) h)) ∙ step (eqb b 61) (lacks_caps bs (and_right (not (eqb b 47)) (lacks 47 bs) h))
  where
    step : (t : Bool) → begins_caps bs ≡ false → cond t false (begins_caps bs) ≡ false
    step true ih = refl
    step false ih = ih

-- a kind
pub kind_no_property : (k : List ℕ) → is_run Kind k ≡ true → property_of k ≡ None
unfolding property_of
kind_no_property k h = ap (λ o. o >>= named) (cut_lacks 61 k (run_lacks Kind 61 k refl h))

pub kind_differs : (k x : List ℕ) → is_run Kind k ≡ true → is_run Kind x ≡ false → bytes_eq k x ≡ false
kind_differs k x h e = differs (is_run Kind) k x h e

pub kind_no_caps : (k : List ℕ) → is_run Kind k ≡ true → begins_caps k ≡ false
kind_no_caps k h = lacks_caps k (run_lacks Kind 47 k refl h)

-- a property
pub property_found : (name spelling : List ℕ) → is_run Property name ≡ true → property_of (name ++ 61 ∷ spelling) ≡ Some (name, spelling)
unfolding property_of
property_found name spelling h = ap (λ o. o >>= named) (cut_finds 61 name spelling (run_lacks Property 61 name refl h)) ∙ ap (λ t. cond t (Some (name, spelling)) None) h

pub property_sound : (w : List ℕ) (p : List ℕ × List ℕ) → property_of w ≡ Some p → (w ≡ p.0 ++ 61 ∷ p.1) × (is_run Property p.0 ≡ true)
unfolding property_of
property_sound w p h = step (cut 61 w) refl h
  where
    inner : (q : List ℕ × List ℕ) (t : Bool) → is_run Property q.0 ≡ t → cut 61 w ≡ Some q → cond t (Some q) None ≡ Some p → (w ≡ p.0 ++ 61 ∷ p.1) × (is_run Property p.0 ≡ true)
    inner q true e f k = let is = same_Some q p k in (cut_sound 61 w q f ∙ ap (λ r. r.0 ++ 61 ∷ r.1) is, ap (λ r. is_run Property r.0) (sym is) ∙ e)
    inner q false e f k = absurd (none-some p k)

    step : (o : Option (List ℕ × List ℕ)) → cut 61 w ≡ o → (o >>= named) ≡ Some p → (w ≡ p.0 ++ 61 ∷ p.1) × (is_run Property p.0 ≡ true)
    step None e k = absurd (none-some p k)
    step (Some q) e k = inner q (is_run Property q.0) refl e k

-- a reference
abbrev pub is_point : ℕ → Bool
is_point b = in_class Name b || eqb b 46

points : (x : List ℕ) → list_all (in_class Name) x ≡ true → list_all is_point x ≡ true
points [] h = refl
points (b ∷ bs) h = both_true (is_point b) (list_all is_point bs) (rw (and_left (in_class Name b) _ h) refl) (points bs (and_right (in_class Name b) _ h))

pub reference_points : (name : List ℕ) (pad : Option (List ℕ)) → is_run Name name ≡ true → is_pad pad ≡ true → list_all is_point (reference_text name pad) ≡ true
reference_points name None h k = list_all-append is_point name (46 ∷ []) ∙ both_true (list_all is_point name) true (points name (run_all Name name h)) refl
reference_points name (Some pad) h k = list_all-append is_point name (46 ∷ pad) ∙ both_true (list_all is_point name) (list_all is_point pad) (points name (run_all Name name h)) (points pad (run_all Name pad k))

point_lacks : (mark : ℕ) (x : List ℕ) → is_point mark ≡ false → list_all is_point x ≡ true → lacks mark x ≡ true
point_lacks mark [] e h = refl
point_lacks mark (b ∷ bs) e h = both_true (not (eqb b mark)) (lacks mark bs) first (point_lacks mark bs e (and_right (is_point b) _ h))
  where
    first : not (eqb b mark) ≡ true
    first = elim (eqb_tells b mark) [ inl t ↦ absurd (no_true (sym e ∙ ap is_point (sym t.1) ∙ and_left (is_point b) _ h)) | inr t ↦ rw t.0 refl ]

pub reference_no_property : (name : List ℕ) (pad : Option (List ℕ)) → is_run Name name ≡ true → is_pad pad ≡ true → property_of (reference_text name pad) ≡ None
unfolding property_of
reference_no_property name pad h k = ap (λ o. o >>= named) (cut_lacks 61 (reference_text name pad) (point_lacks 61 (reference_text name pad) refl (reference_points name pad h k)))

pub reference_differs : (name : List ℕ) (pad : Option (List ℕ)) (x : List ℕ) → is_run Name name ≡ true → is_pad pad ≡ true → list_all is_point x ≡ false → bytes_eq (reference_text name pad) x ≡ false
reference_differs name pad x h k e = differs (list_all is_point) (reference_text name pad) x (reference_points name pad h k) e

pub reference_no_caps : (name : List ℕ) (pad : Option (List ℕ)) → is_run Name name ≡ true → is_pad pad ≡ true → begins_caps (reference_text name pad) ≡ false
reference_no_caps name pad h k = lacks_caps (reference_text name pad) (point_lacks 47 (reference_text name pad) refl (reference_points name pad h k))

pub not_all : (test : ℕ → Bool) (x : List ℕ) (b : ℕ) (y : List ℕ) → test b ≡ false → list_all test (x ++ b ∷ y) ≡ false
not_all test [] b y e = ap (λ t. t && list_all test y) e
not_all test (a ∷ r) b y e = ap (λ t. test a && t) (not_all test r b y e) ∙ never (test a)
  where
    never : (t : Bool) → (t && false) ≡ false
    never true = refl
    never false = refl

pub not_run : (class : Class) (x : List ℕ) (b : ℕ) (y : List ℕ) → in_class class b ≡ false → is_run class (x ++ b ∷ y) ≡ false
not_run class x b y e = ap (λ t. not (eqb (length (x ++ b ∷ y)) 0) && t) (not_all (in_class class) x b y e) ∙ never (not (eqb (length (x ++ b ∷ y)) 0))
  where
    never : (t : Bool) → (t && false) ≡ false
    never true = refl
    never false = refl

pub reference_no_kind : (name : List ℕ) (pad : Option (List ℕ)) → is_run Kind (reference_text name pad) ≡ false
reference_no_kind name None = not_run Kind name 46 [] refl
reference_no_kind name (Some pad) = not_run Kind name 46 pad refl

some_pad : (pad : List ℕ) → is_run Name pad ≡ true → pad_of pad ≡ Some (Some pad)
unfolding pad_of
some_pad pad h = ap (λ t. cond t (Some None) (cond (is_run Name pad) (Some (Some pad)) None)) (not_false (eqb (length pad) 0) (not_zero (length pad) (run_some Name pad h))) ∙ ap (λ t. cond t (Some (Some pad)) None) h

pub reference_found : (name : List ℕ) (pad : Option (List ℕ)) → is_run Name name ≡ true → is_pad pad ≡ true → reference_of (reference_text name pad) ≡ Some (Reference name pad)
unfolding reference_of pad_of
reference_found name None h k = ap (λ o. o >>= reference_from) (cut_finds 46 name [] (run_lacks Name 46 name refl h)) ∙ ap (λ t. cond t (Some (Reference name None)) None) h
reference_found name (Some pad) h k = ap (λ o. o >>= reference_from) (cut_finds 46 name pad (run_lacks Name 46 name refl h)) ∙ ap (λ t. cond t (pad_of pad >>= λ q. Some (Reference name q)) None) h ∙ ap (λ o. o >>= λ q. Some (Reference name q)) (some_pad pad k)

-- the name and pad of a reference that was read
pub record IsReference (w : List ℕ) (n : Node) : Type 0 where
  pub name : List ℕ
  pub pad : Option (List ℕ)
  pub node : n ≡ Reference name pad
  pub word : w ≡ reference_text name pad
  pub name_is : is_run Name name ≡ true
  pub pad_is : is_pad pad ≡ true

pad_sound : (text : List ℕ) (pad : Option (List ℕ)) → pad_of text ≡ Some pad → ((name : List ℕ) → name ++ 46 ∷ text ≡ reference_text name pad) × (is_pad pad ≡ true)
unfolding pad_of
pad_sound [] pad h = let e = same_Some None pad h in ((λ name. ap (reference_text name) e), ap is_pad (sym e))
pad_sound (b ∷ bs) pad h = step (is_run Name (b ∷ bs)) refl (sym (ap (λ t. cond t (Some None) (cond (is_run Name (b ∷ bs)) (Some (Some (b ∷ bs))) None)) (not_false (eqb (length (b ∷ bs)) 0) (not_zero (length (b ∷ bs)) (omega arith)))) ∙ h)
  where
    step : (t : Bool) → is_run Name (b ∷ bs) ≡ t → cond t (Some (Some (b ∷ bs))) None ≡ Some pad → ((name : List ℕ) → name ++ 46 ∷ b ∷ bs ≡ reference_text name pad) × (is_pad pad ≡ true)
    step true e k = let is = same_Some (Some (b ∷ bs)) pad k in ((λ name. ap (reference_text name) is), ap is_pad (sym is) ∙ e)
    step false e k = absurd (none-some pad k)

pub reference_sound : (w : List ℕ) (n : Node) → reference_of w ≡ Some n → IsReference w n
unfolding reference_of
reference_sound w n h = step (cut 46 w) refl h
  where
    last : (p : List ℕ × List ℕ) (o : Option (Option (List ℕ))) → pad_of p.1 ≡ o → is_run Name p.0 ≡ true → cut 46 w ≡ Some p → (o >>= λ pad. Some (Reference p.0 pad)) ≡ Some n → IsReference w n
    last p None e f g k = absurd (none-some n k)
    last p (Some pad) e f g k = let s = pad_sound p.1 pad e in record { name = p.0; pad = pad; node = sym (same_Some (Reference p.0 pad) n k); word = cut_sound 46 w p g ∙ s.0 p.0; name_is = f; pad_is = s.1 }

    inner : (p : List ℕ × List ℕ) (t : Bool) → is_run Name p.0 ≡ t → cut 46 w ≡ Some p → cond t (pad_of p.1 >>= λ pad. Some (Reference p.0 pad)) None ≡ Some n → IsReference w n
    inner p true e f k = last p (pad_of p.1) refl e f k
    inner p false e f k = absurd (none-some n k)

    step : (o : Option (List ℕ × List ℕ)) → cut 46 w ≡ o → (o >>= reference_from) ≡ Some n → IsReference w n
    step None e k = absurd (none-some n k)
    step (Some p) e k = inner p (is_run Name p.0) refl e k

-- a word that is no link
pub link_differs : (w : List ℕ) → not (is_link w) ≡ true → bytes_eq w (codes "!") ≡ false
link_differs w h = differs (λ v. not (is_link v)) w (codes "!") h refl

pub link_differs_back : (w : List ℕ) → bytes_eq w (codes "!") ≡ false → not (is_link w) ≡ true
link_differs_back [] h = refl
link_differs_back (b ∷ bs) h = step (is_link (b ∷ bs)) refl
  where
    empty : (l : List ℕ) → eqb (length l) 0 ≡ true → l ≡ []
    empty [] e = refl
    empty (x ∷ xs) e = absurd (no_true (sym (not_false (eqb (length (x ∷ xs)) 0) (not_zero (length (x ∷ xs)) (omega arith))) ∙ e))

    is : is_link (b ∷ bs) ≡ true → b ∷ bs ≡ codes "!"
    is e = elim (eqb_tells b 33) [ inl t ↦ (λ i. t.1 i ∷ empty bs (and_right (eqb b 33) (eqb (length bs) 0) e) i) | inr t ↦ absurd (no_true (sym t.0 ∙ and_left (eqb b 33) (eqb (length bs) 0) e)) ]

    step : (t : Bool) → is_link (b ∷ bs) ≡ t → not t ≡ true
    step true e = absurd (no_true (sym h ∙ (bytes_eq-Decides (b ∷ bs) (codes "!")).1 (is e)))
    step false e = refl
