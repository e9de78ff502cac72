-- Elements by their names.
use Rattle.std.proofs.Common.{◌≡◌, ◌+◌, ◌&&◌, ◌||◌, ℕ, zero, suc, Bool, true, false, not, cond, List, [], ◌∷◌, ◌++◌, Some, map, slice_get, slice_set, refl, sym, ap, ◌∙◌, bytes_eq, count_by, fold, position, String, string_bytes, string_eq, if◌then◌else◌}
use Rattle.std.proofs.lemmas.List.{length-map}
use Rattle.indexmap.specs.IndexMap.{insert_entry, set_value_at}
use Rattle.std.specs.List.{list_any, position_or_len}
use Rattle.el_settings.specs.declared.settings.Settings.{Settings}
use Rattle.graph_core.specs.Elements.{Made, made_of, has_number_of, numbered, is_named, is_name_taken, clash, is_location_taken}
use Rattle.graph_core.specs.declared.element.Element.{Element}
use Rattle.graph_core.proofs.Bare.{set_to}

module _ {K : Type 0} (bytes : K → List ℕ) where
  abbrev pub made_by : K × Element → Made
  made_by e = made_of (bytes e.0) e.1

  prefix_made : (name : List ℕ) (es : List (K × Element)) → position_or_len (is_named name) (map made_by es) ≡ position_or_len (λ k. bytes_eq name (bytes k)) (map (λ e. e.0) es)
  prefix_made name [] = refl
  prefix_made name (e ∷ es) = ap (λ n. cond (not (bytes_eq name (bytes e.0))) (1 + n) 0) (prefix_made name es)

  -- a name is found among the elements where it is found among the names
  pub position_made : (name : List ℕ) (es : List (K × Element)) → position (is_named name) (map made_by es) ≡ position (λ k. bytes_eq name (bytes k)) (map (λ e. e.0) es)
  position_made name es = rw (prefix_made name es, length-map es made_by, length-map es (λ e. e.0)) refl

  numbered_from : (kind : List ℕ) (es : List (K × Element)) (n : ℕ) → fold (λ a x. a + cond (has_number_of kind x) 1 0) n (map made_by es) ≡ fold (λ a (x : Element). a + cond (x.is_numbered && bytes_eq x.kind kind) 1 0) n (map (λ e. e.1) es)
  numbered_from kind [] n = refl
  numbered_from kind (e ∷ es) n = numbered_from kind es (n + cond (has_number_of kind (made_by e)) 1 0)

  pub numbered_made : (kind : List ℕ) (es : List (K × Element)) → numbered kind (map made_by es) ≡ count_by (λ (x : Element). x.is_numbered && bytes_eq x.kind kind) (map (λ e. e.1) es)
  numbered_made kind es = numbered_from kind es 0

  pub taken_made : (settings : Settings) (es : List (K × Element)) → is_location_taken settings (map made_by es) ≡ list_any (λ (x : Element). clash x.settings settings) (map (λ e. e.1) es)
  taken_made settings [] = refl
  taken_made settings (e ∷ es) = ap (λ b. clash e.1.settings settings || b) (taken_made settings es)

  -- an element is set otherwise
  pub set_made : (with : Settings → Settings) (es : List (K × Element)) (i : ℕ) (x : Element) (settings : Settings) (m : Made) → slice_get (map (λ e. e.1) es) i ≡ Some x → slice_get (map made_by es) i ≡ Some m → settings ≡ with x.settings
      → map made_by (set_value_at es i (record { kind = x.kind; is_numbered = x.is_numbered; settings = settings })) ≡ slice_set (map made_by es) i (set_to m (with m.settings))
  set_made with [] i x settings m at made is = absurd (cc)
  set_made with (e ∷ es) zero x settings m at made is =
      let same : e.1 ≡ x = cc in
      let own : made_by e ≡ m = cc in
      ap (λ (y : Made). y ∷ map made_by es)
      (ap (λ (s : Settings). let r : Made = record { name = bytes e.0; kind = x.kind; is_numbered = x.is_numbered; settings = s } in r) is ∙ ap (λ (z : Element). let r : Made = made_by (e.0, z) in set_to r (with r.settings)) (sym same)
      ∙ ap (λ (y : Made). set_to y (with y.settings)) own)
  set_made with (e ∷ es) (suc i) x settings m at made is = ap (λ (l : List Made). made_by e ∷ l) (set_made with es i x settings m at made is)

-- an element of a new name stands behind the others
pub push_made : {Z : Type 0} (name : String Z) (x : Element) (es : List (String Z × Element)) → is_name_taken (string_bytes name) (map (made_by string_bytes) es) ≡ false
    → map (made_by string_bytes) (insert_entry string_eq es name x) ≡ map (made_by string_bytes) es ++ made_of (string_bytes name) x ∷ []
push_made name x [] free = refl
push_made {Z} name x (e ∷ es) free = by (bytes_eq (string_bytes name) (string_bytes e.0)) free (push_made name x es)
  where
    by : (b : Bool) → (b || is_name_taken (string_bytes name) (map (made_by string_bytes) es)) ≡ false
        → (is_name_taken (string_bytes name) (map (made_by string_bytes) es) ≡ false → map (made_by string_bytes) (insert_entry string_eq es name x) ≡ map (made_by string_bytes) es ++ made_of (string_bytes name) x ∷ [])
        → map (made_by string_bytes) (if b then (e.0, x) ∷ es else e ∷ insert_entry string_eq es name x) ≡ made_by string_bytes e ∷ (map (made_by string_bytes) es ++ made_of (string_bytes name) x ∷ [])
    by true free rest = absurd (cc)
    by false free rest = ap (λ l. made_by string_bytes e ∷ l) (rest free)
