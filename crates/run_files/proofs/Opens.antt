-- Ends that are opened one after the other.
use Rattle.std.proofs.Common.{◌≡◌, ℕ, ◌+◌, List, [], ◌∷◌, ◌++◌, length, false, true, Option, Some, None, refl, sym, ap, ◌∙◌, subst, arith, length-append, get_or, take, ◌<◌}
use Rattle.std.specs.Prelude.{map, option_map}
use Rattle.std.proofs.lemmas.List.{map-append, take_more}
use Rattle.gst_outside.specs.Causes.{plus}
use Rattle.gst_outside.specs.Seen.{Seen}
use Rattle.run_files.specs.declared.end.Opening.{Opening}
use Rattle.run_files.specs.declared.end.Opening.TheVariants.{Read, Write}
use Rattle.run_files.specs.Ends.{Known, present}
use Rattle.run_files.specs.Opening.{Opens, fresh_end, fresh_ends}
use Rattle.run_files.proofs.Closes.{plus_plus}
use Rattle.run_files.proofs.Lists.{present_append}

module _ (before mid : Seen) (input : (l : List ℕ) → mid.input l ≡ before.input l) (output : (l : List ℕ) → mid.output l ≡ before.output l) where
  fresh_same : (o : Option Opening) → option_map (fresh_end mid) o ≡ option_map (fresh_end before) o
  fresh_same None = refl
  fresh_same (Some (Read location)) = ap (λ (b : Option (List ℕ)). Some (record { is_sink = false; location = Some location; bytes = b; faults = 0 })) (input location)
  fresh_same (Some (Write location)) = ap (λ (b : Option (List ℕ)). Some (record { is_sink = true; location = Some location; bytes = option_map (λ (c : List ℕ). []) b; faults = 0 })) (output location)

  pub fresh_ends_same : (openings : List (Option Opening)) → fresh_ends mid openings ≡ fresh_ends before openings
  fresh_ends_same [] = refl
  fresh_ends_same (o ∷ os) = ap (λ (e : Option Known). e ∷ fresh_ends mid os) (fresh_same o) ∙ ap (λ (es : List (Option Known)). option_map (fresh_end before) o ∷ es) (fresh_ends_same os)

-- some were opened, and then more
pub opens_join : (xs ys : List (Option Opening)) (opened more : List (Option Known)) (before mid after : Seen) → Opens xs opened before mid → Opens ys more mid after → Opens (xs ++ ys) (opened ++ more) before after
opens_join xs ys opened more before mid after h k = record {
  made =
      ap (λ (es : List (Option Known)). es ++ more) h.made ∙ ap (λ (es : List (Option Known)). fresh_ends before xs ++ es) (k.made ∙ fresh_ends_same before mid h.input h.output ys)
      ∙ sym (map-append (option_map (fresh_end before)) xs ys);
  input = λ l. k.input l ∙ h.input l;
  output = λ l. k.output l ∙ h.output l;
  faults_of = λ l. k.faults_of l ∙ h.faults_of l;
  refused_of = λ l. k.refused_of l ∙ h.refused_of l;
  faults = omega (arith, h.faults, k.faults);
  count =
      k.count ∙ ap (λ (n : ℕ). plus n (length (present ys))) h.count ∙ plus_plus before.ends (length (present xs)) (length (present ys))
      ∙ ap (λ (m : ℕ). plus before.ends m) (count_parts xs ys);
}
  where
    count_parts : (xs ys : List (Option Opening)) → length (present ys) + length (present xs) ≡ length (present (xs ++ ys))
    count_parts xs ys = omega (arith, ap length (present_append xs ys), length-append (present xs) (present ys))

module _ {E : Type 0} (known : E → Known) (openings : List (Option Opening)) (place : ℕ) (entry : Option Opening) (within : place < length openings) (is : entry ≡ get_or openings place entry) (before mid after : Seen) where
  -- the one at a place was opened
  pub opens_more : (ends pushed : List (Option E)) (end : Option E) → Opens (take place openings) (map (option_map known) ends) before mid → Opens (entry ∷ []) (option_map known end ∷ []) mid after
      → pushed ≡ ends ++ end ∷ [] → Opens (take (place + 1) openings) (map (option_map known) pushed) before after
  opens_more ends pushed end h k push =
      subst (λ (xs : List (Option Opening)). Opens xs (map (option_map known) pushed) before after) (sym (take_more openings place entry within ∙ ap (λ (o : Option Opening). take place openings ++ o ∷ []) (sym is)))
      (subst (λ (es : List (Option Known)). Opens (take place openings ++ entry ∷ []) es before after) (sym (ap (λ (es : List (Option E)). map (option_map known) es) push ∙ map-append (option_map known) ends (end ∷ [])))
      (opens_join (take place openings) (entry ∷ []) (map (option_map known) ends) (option_map known end ∷ []) before mid after h k))
