-- Which elements are there once another one was taken away, or one was added.
use Rattle.std.proofs.Common.{◌≡◌, ◌⊎◌, ◌||◌, ◌++◌, ℕ, Bool, true, false, if◌then◌else◌, eqb, List, [], ◌∷◌, Option, None, Some, length, nat_lt, position, refl, sym, ap, ◌∙◌, subst, inl, inr, arith}
use Rattle.std.specs.Prelude.{◌==◌, option_and_then}
use Rattle.std.specs.List.{list_any}
use Rattle.std.proofs.lemmas.Bool.{false≢true, lt-ltb, ltb-true, true≢false}
use Rattle.std.proofs.lemmas.Bool.Decides.{eqb_tells}
use Rattle.std.proofs.lemmas.List.{length_push}
use Rattle.std.proofs.lemmas.List.Folds.{list_any-append}
use Rattle.gst_value.proofs.Basics.{none_some, number_itself, or_false, or_first, or_second, some_same}
use Rattle.gst_value.specs.declared.name.PadName.{PadName}
use Rattle.graph_core.specs.Elements.{Made, is_named}
use Rattle.graph_core.specs.GraphPlan.{IsIn}
use Rattle.graph_pads.specs.declared.pad.Direction.TheVariants.{Source}
use Rattle.graph_pads.specs.declared.pad.PadLink.{PadLink}
use Rattle.graph_pads.specs.declared.pad.PadPlace.{PadPlace}
use Rattle.graph_edits.specs.Edited.{Edited, added, is_there, touches, without_element}
use Rattle.graph_edits.specs.Lawful.{has_link}
use Rattle.graph_edits.specs.Names.{element_named, pad_named}
use Rattle.edit_core.proofs.Finding.{found_of, named_by}
use Rattle.edit_acts.proofs.Having.{any_in}

-- ---- one taken away

gone_or : (removed : List ℕ) (n b : ℕ) → list_any (λ gone. gone == b) (removed ++ n ∷ []) ≡ (list_any (λ gone. gone == b) removed || ((n == b) || false))
gone_or removed n b = list_any-append (λ gone. gone == b) removed (n ∷ [])

-- each other one stays
pub still_there : (g : Edited) (n b : ℕ) → (b ≡ n → ⊥) → is_there g b ≡ true → is_there (without_element n g) b ≡ true
still_there g n b other there = by (eqb_tells n b)
  where
    by : ((eqb n b ≡ true) × (n ≡ b)) ⊎ ((eqb n b ≡ false) × (n ≡ b → ⊥)) → is_there (without_element n g) b ≡ true
    by (inl t) = absurd (other (sym t.1))
    by (inr t) =
        let same : list_any (λ gone. gone == b) (g.removed ++ n ∷ []) ≡ list_any (λ gone. gone == b) g.removed =
        gone_or g.removed n b ∙ ap (λ (x : Bool). list_any (λ gone. gone == b) g.removed || (x || false)) t.0 ∙ or_false (list_any (λ gone. gone == b) g.removed) in
        ap (λ (x : Bool). if x then false else nat_lt b (length g.made)) same ∙ there

neither : (a b there : Bool) → (if a || (b || false) then false else there) ≡ true → ((if a then false else there) ≡ true) × (b ≡ false)
neither true b there e = absurd (false≢true e)
neither false true there e = absurd (false≢true e)
neither false false there e = (e, refl)

-- what is there was, and is another
pub was_there : (g : Edited) (n b : ℕ) → is_there (without_element n g) b ≡ true → (is_there g b ≡ true) × (b ≡ n → ⊥)
was_there g n b there =
    let z = neither (list_any (λ gone. gone == b) g.removed) (n == b) (nat_lt b (length g.made)) (ap (λ (x : Bool). if x then false else nat_lt b (length g.made)) (sym (gone_or g.removed n b)) ∙ there) in
    (z.0, λ same. true≢false (sym (number_itself n) ∙ ap (λ (x : ℕ). n == x) (sym same) ∙ z.1))

-- a source pad that is named was
pub was_named : (g : Edited) (n : ℕ) (pad : PadName) (source : PadPlace) → pad_named Source (without_element n g) pad ≡ Some source → pad_named Source g pad ≡ Some source
was_named g n pad source e =
    let found = found_of Source (without_element n g) pad source e in
    named_by g pad source (record {
      element = found.element;
      first = found.first;
      there = (was_there g n found.element found.there).0;
      made = found.made;
      at = found.at;
      pad = found.pad;
    })

-- ---- one added

pub more_there : (g : Edited) (m : Made) (k : ℕ) → is_there g k ≡ true → is_there (added m g) k ≡ true
more_there g m k there = by (list_any (λ gone. gone == k) g.removed) there
  where
    by : (b : Bool) → (if b then false else nat_lt k (length g.made)) ≡ true → (if b then false else nat_lt k (length (g.made ++ m ∷ []))) ≡ true
    by true e = absurd (false≢true e)
    by false e = lt-ltb k (length (g.made ++ m ∷ [])) (let low = ltb-true k (length g.made) e in let long = length_push g.made m in omega (arith, low, long))

-- ---- what names and links tell

-- the element of a name is there
pub element_there : (g : Edited) (name : List ℕ) (n : ℕ) → element_named g name ≡ Some n → is_there g n ≡ true
element_there g name n e = by (position (is_named name) g.made) e
  where
    by_there : (k : ℕ) (b : Bool) → is_there g k ≡ b → (if b then Some k else None) ≡ Some n → is_there g n ≡ true
    by_there k true there e = subst (λ (x : ℕ). is_there g x ≡ true) (some_same e) there
    by_there k false there e = absurd (none_some e)

    by : (found : Option ℕ) → option_and_then (λ x. if is_there g x then Some x else None) found ≡ Some n → is_there g n ≡ true
    by None e = absurd (none_some e)
    by (Some k) e = by_there k (is_there g k) refl e

touched : (g : Edited) (n : ℕ) (link : PadLink) → has_link g n ≡ false → IsIn link g.links → touches n link ≡ true → ⊥
touched g n link none is touches_it = true≢false (sym (any_in (touches n) g.links link is touches_it) ∙ none)

-- an element that no link touches is the source of none
pub not_source : (g : Edited) (n : ℕ) (link : PadLink) → has_link g n ≡ false → IsIn link g.links → link.source.element ≡ n → ⊥
not_source g n link none is same =
    touched g n link none is (or_first (link.source.element == n) (link.sink.element == n) (ap (λ (x : ℕ). x == n) same ∙ number_itself n))

-- and no link leads to it
pub not_sink : (g : Edited) (n : ℕ) (link : PadLink) → has_link g n ≡ false → IsIn link g.links → link.sink.element ≡ n → ⊥
not_sink g n link none is same =
    touched g n link none is (or_second (link.source.element == n) (link.sink.element == n) (ap (λ (x : ℕ). x == n) same ∙ number_itself n))
