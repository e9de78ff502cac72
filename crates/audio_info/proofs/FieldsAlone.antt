-- The fields of fixed caps, set one by one.
use Rattle.std.proofs.Common.{◌≡◌, ◌+◌, ℕ, zero, suc, List, [], ◌∷◌, map, take, Some, sym, ap, ◌∙◌, subst, add-one}
use Rattle.std.specs.Prelude.{slice_get}
use Rattle.std.specs.Ordering.{is_lt}
use Rattle.std.specs.Cmp.Lexicographic.{slice_cmp}
use Rattle.std.specs.Ordering.{nat_cmp}
use Rattle.std.specs.declared.cmp.Ordering.TheVariants.{Less}
use Rattle.gst_value.proofs.Basics.{some_same}
use Rattle.gst_value.proofs.NamesInOrder.{fields_with_step}
use Rattle.gst_value.specs.Description.{Description}
use Rattle.gst_value.specs.Names.{Each, Rises, fields_with}
use Rattle.gst_value.specs.declared.one.One.{One}
use Rattle.gst_caps.specs.declared.value.Value.{Value}
use Rattle.gst_caps.specs.declared.value.Value.TheVariants.{One as Single}
use Rattle.audio_info.specs.Alone.{as_field}

abbrev Field : Type 0
Field = List ℕ × One

-- what holds of each holds of the one at a place
each_at : (P : Field → Type 0) (fs : List Field) (i : ℕ) (f : Field) → Each P fs → slice_get fs i ≡ Some f → P f
each_at P [] i f all e = absurd (cc)
each_at P (g ∷ gs) zero f all e = subst P (some_same e) all.0
each_at P (g ∷ gs) (suc i) f all e = each_at P gs i f all.1 e

-- one more field is set behind those before it
set_next : (fs : List Field) (i : ℕ) (f : Field) → Rises fs → slice_get fs i ≡ Some f → fields_with f.0 (Single f.1) (map as_field (take i fs)) ≡ map as_field (take (suc i) fs)
set_next [] i f r e = absurd (cc)
set_next (g ∷ gs) zero f r e = ap (λ (h : Field). as_field h ∷ []) (some_same (sym e))
set_next (g ∷ gs) (suc i) f r e =
    fields_with_step f.0 (Single f.1) (as_field g) (map as_field (take i gs)) (ap is_lt (each_at (λ h. slice_cmp nat_cmp g.0 h.0 ≡ Less) gs i f r.0 e))
    ∙ ap (λ hs. as_field g ∷ hs) (set_next gs i f r.1 e)

pub one_more : (fs : List Field) (i : ℕ) (name : List ℕ) (value : One) → Rises fs → slice_get fs i ≡ Some (name, value)
    → fields_with name (Single value) (map as_field (take i fs)) ≡ map as_field (take (i + 1) fs)
one_more fs i name value r e = set_next fs i (name, value) r e ∙ ap (λ k. map as_field (take k fs)) (sym (add-one i))

-- the structure of the fields before a place, with the one there
pub more_structure : (x : Description One) (i : ℕ) (name : List ℕ) (value : One) (old new : Description Value) → old ≡ record { media = x.media; fields = map as_field (take i x.fields) }
    → new ≡ record old { fields = fields_with name (Single value) old.fields } → Rises x.fields → slice_get x.fields i ≡ Some (name, value)
    → new ≡ record { media = x.media; fields = map as_field (take (i + 1) x.fields) }
more_structure x i name value old new before set rises at =
    set ∙ ap (λ (s : Description Value). record s { fields = fields_with name (Single value) s.fields }) before ∙ ap (of_fields x.media) (one_more x.fields i name value rises at)
  where
    of_fields : List ℕ → List (List ℕ × Value) → Description Value
    of_fields media fields = record { media = media; fields = fields }
