-- Ends that were opened by their files.
use Rattle.std.proofs.Common.{◌≡◌, ℕ, List, [], ◌∷◌, ◌++◌, Option, None, Some, sym, ap, ◌∙◌, subst}
use Rattle.std.specs.Prelude.{All, map, option_map}
use Rattle.std.proofs.lemmas.List.{map-append}
use Rattle.std.proofs.lemmas.List.Elements.{All-nil, All-cons, All-head, All-tail, All-append, All-weaker}
use Rattle.std.proofs.lemmas.Option.{none-some, same_Some}
use Rattle.run_files.specs.Ends.{Known, AllOpened, present}
use Rattle.run_files.proofs.Lists.{present_append}

-- the location of an end that was opened
pub opened_end : {E : Type 0} (known : E → Known) (opened : List ℕ → Type 0) (entry : Option E) (end : E) → entry ≡ Some end → AllOpened opened (option_map known entry ∷ [])
    → (l : List ℕ) → (known end).location ≡ Some l → opened l
opened_end {E = E} known opened entry end is all =
    All-head (λ (end : Known). (l : List ℕ) → end.location ≡ Some l → opened l) (known end) [] (subst (λ (e : Option E). AllOpened opened (option_map known e ∷ [])) is all)

all_front : {A : Type 0} (P : A → Type 0) (xs ys : List A) → All P (xs ++ ys) → All P xs
all_front P [] ys h = All-nil P
all_front P (x ∷ xs) ys h = All-cons P x xs (All-head P x (xs ++ ys) h) (all_front P xs ys (All-tail P x (xs ++ ys) h))

all_back : {A : Type 0} (P : A → Type 0) (xs ys : List A) → All P (xs ++ ys) → All P ys
all_back P [] ys h = h
all_back P (x ∷ xs) ys h = all_back P xs ys (All-tail P x (xs ++ ys) h)

module _ {E : Type 0} (known : E → Known) (opened : List ℕ → Type 0) where
  known_parts : (xs ys : List (Option E)) → present (map (option_map known) (xs ++ ys)) ≡ present (map (option_map known) xs) ++ present (map (option_map known) ys)
  known_parts xs ys = ap (λ (es : List (Option Known)). present es) (map-append (option_map known) xs ys) ∙ present_append (map (option_map known) xs) (map (option_map known) ys)

  parts : (all xs ys : List (Option E)) → all ≡ xs ++ ys → AllOpened opened (map (option_map known) all)
      → All (λ (end : Known). (l : List ℕ) → end.location ≡ Some l → opened l) (present (map (option_map known) xs) ++ present (map (option_map known) ys))
  parts all xs ys e h =
      subst (λ (es : List Known). All (λ (end : Known). (l : List ℕ) → end.location ≡ Some l → opened l) es) (ap (λ (es : List (Option E)). present (map (option_map known) es)) e ∙ known_parts xs ys) h

  -- those in front, and those behind
  pub opened_front : (all xs ys : List (Option E)) → all ≡ xs ++ ys → AllOpened opened (map (option_map known) all) → AllOpened opened (map (option_map known) xs)
  opened_front all xs ys e h = all_front (λ (end : Known). (l : List ℕ) → end.location ≡ Some l → opened l) (present (map (option_map known) xs)) (present (map (option_map known) ys)) (parts all xs ys e h)

  pub opened_back : (all xs ys : List (Option E)) → all ≡ xs ++ ys → AllOpened opened (map (option_map known) all) → AllOpened opened (map (option_map known) ys)
  opened_back all xs ys e h = all_back (λ (end : Known). (l : List ℕ) → end.location ≡ Some l → opened l) (present (map (option_map known) xs)) (present (map (option_map known) ys)) (parts all xs ys e h)

  -- one more at the end
  pub opened_push : (all xs : List (Option E)) (x : Option E) → all ≡ xs ++ x ∷ [] → AllOpened opened (map (option_map known) xs) → AllOpened opened (option_map known x ∷ []) → AllOpened opened (map (option_map known) all)
  opened_push all xs x e h one =
      subst (λ (es : List Known). All (λ (end : Known). (l : List ℕ) → end.location ≡ Some l → opened l) es)
      (sym (ap (λ (es : List (Option E)). present (map (option_map known) es)) e ∙ known_parts xs (x ∷ [])))
      (All-append (λ (end : Known). (l : List ℕ) → end.location ≡ Some l → opened l) (present (map (option_map known) xs)) (present (option_map known x ∷ [])) h one)

-- what was opened stays opened
pub opened_later : (opened later : List ℕ → Type 0) → ((l : List ℕ) → opened l → later l) → (ends : List (Option Known)) → AllOpened opened ends → AllOpened later ends
opened_later opened later more ends h =
    All-weaker (λ (end : Known). (l : List ℕ) → end.location ≡ Some l → opened l) (λ (end : Known). (l : List ℕ) → end.location ≡ Some l → later l) (λ end f l at. more l (f l at)) (present ends) h

-- an end that was moved on keeps its location
pub opened_moved : {E : Type 0} (known : E → Known) (opened : List ℕ → Type 0) (was is : Option E) → option_map (λ (e : E). (known e).location) is ≡ option_map (λ (e : E). (known e).location) was
    → AllOpened opened (option_map known was ∷ []) → AllOpened opened (option_map known is ∷ [])
opened_moved known opened was None same h = All-nil (λ (end : Known). (l : List ℕ) → end.location ≡ Some l → opened l)
opened_moved known opened None (Some is) same h = absurd (none-some (known is).location (sym same))
opened_moved known opened (Some was) (Some is) same h =
    All-cons (λ (end : Known). (l : List ℕ) → end.location ≡ Some l → opened l) (known is) []
    (λ l at. All-head (λ (end : Known). (l : List ℕ) → end.location ≡ Some l → opened l) (known was) [] h l (sym (same_Some (known is).location (known was).location same) ∙ at))
    (All-nil (λ (end : Known). (l : List ℕ) → end.location ≡ Some l → opened l))
