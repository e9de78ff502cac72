-- One opening more.
use Rattle.std.proofs.Common.{◌≡◌, ◌<◌, ◌+◌, ℕ, List, [], ◌∷◌, ◌++◌, Option, None, Some, length, map, take, refl, sym, ap, ◌∙◌}
use Rattle.std.specs.Prelude.{slice_get}
use Rattle.std.specs.Option.{option_map}
use Rattle.std.proofs.lemmas.List.{map-append, take_more}
use Rattle.std.proofs.lemmas.Option.{get_or_from_slice_get}
use Rattle.el_settings.specs.declared.settings.Settings.{Settings}
use Rattle.graph_core.specs.Elements.{Made}
use Rattle.run_files.specs.declared.end.Opening.{Opening}
use Rattle.graph_parts.specs.Files.{made_opening, opening_of}

pub opening_more : (made : List Made) (k : ℕ) (s : Settings) (opening : Option Opening) (old new : List (Option Opening)) → k < length made → option_map (λ (m : Made). m.settings) (slice_get made k) ≡ Some s → opening ≡ opening_of s
    → old ≡ map made_opening (take k made) → new ≡ old ++ opening ∷ [] → new ≡ map made_opening (take (k + 1) made)
opening_more made k s opening old new within at is so_far put = by (slice_get made k) refl at
  where
    by : (o : Option Made) → slice_get made k ≡ o → option_map (λ (m : Made). m.settings) o ≡ Some s → new ≡ map made_opening (take (k + 1) made)
    by None e h = absurd (cc)
    by (Some m) e h =
        let set : m.settings ≡ s = cc in
        let more : take (k + 1) made ≡ take k made ++ m ∷ [] = take_more made k m within ∙ ap (λ x. take k made ++ x ∷ []) (get_or_from_slice_get made k m m e) in
        put ∙ ap (λ os. os ++ opening ∷ []) so_far ∙ ap (λ x. map made_opening (take k made) ++ x ∷ []) (is ∙ ap opening_of (sym set)) ∙ sym (ap (map made_opening) more ∙ map-append made_opening (take k made) (m ∷ []))
