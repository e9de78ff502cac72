-- A file that an element of a line writes is opened by no other.
use Rattle.std.proofs.Common.{◌≡◌, ◌⊎◌, ◌<◌, ◌||◌, ℕ, zero, suc, Bool, true, false, List, [], ◌∷◌, ◌++◌, Some, Result, Ok, IfOk, length, refl, sym, ap, ◌∙◌, inl, inr, arith}
use Rattle.std.specs.Prelude.{slice_get}
use Rattle.std.specs.List.{list_any}
use Rattle.std.proofs.lemmas.Option.{none-some, same_Some, slice_get_within}
use Rattle.std.proofs.lemmas.Slice.Eq.{bytes_eq-Decides}
use Rattle.launch_text.specs.declared.tree.Tree.{Tree}
use Rattle.el_settings.specs.Asked.{is_sink, location_of}
use Rattle.el_settings.specs.declared.settings.Settings.{Settings}
use Rattle.graph_core.proofs.Bare.{bare, checked_at, clash_checked}
use Rattle.graph_core.specs.Allowed.{checked}
use Rattle.graph_core.specs.Asked.{Declared, declared}
use Rattle.graph_core.specs.Comes.{Comes}
use Rattle.graph_core.specs.Elements.{ElementsCome, Made, clash, is_location_taken}
use Rattle.graph_core.specs.Graph.{IsGraph, made as made_in}
use Rattle.graph_core.specs.declared.fault.BuildFault.{BuildFault}
use Rattle.graph_core.specs.declared.graph.Graph.{Graph}
use Rattle.run_files.specs.declared.end.Opening.TheVariants.{Read, Write}
use Rattle.graph_parts.specs.Files.{opening_of}
use Rattle.graph_parts.proofs.OwnFiles.{reader, writer}
use Rattle.gst_value.proofs.Basics.{neither, same_or_other}

-- one element more at the end of a list
push_cases : {A : Type 0} (xs : List A) (y x : A) (k : ℕ) → slice_get (xs ++ y ∷ []) k ≡ Some x → (slice_get xs k ≡ Some x) ⊎ ((k ≡ length xs) × (y ≡ x))
push_cases [] y x zero e = inr (refl, same_Some y x e)
push_cases [] y x (suc k) e = absurd (cc)
push_cases (z ∷ xs) y x zero e = inl e
push_cases (z ∷ xs) y x (suc k) e = go (push_cases xs y x k e)
  where
    go : (slice_get xs k ≡ Some x) ⊎ ((k ≡ length xs) × (y ≡ x)) → (slice_get xs k ≡ Some x) ⊎ ((suc k ≡ suc (length xs)) × (y ≡ x))
    go (inl h) = inl h
    go (inr h) = inr (ap suc h.0, h.1)

-- where no element passes a test, that at a place does not
none_passes : {A : Type 0} (p : A → Bool) (xs : List A) (k : ℕ) (x : A) → list_any p xs ≡ false → slice_get xs k ≡ Some x → p x ≡ false
none_passes p [] k x none at = absurd (none-some x at)
none_passes p (y ∷ ys) zero x none at = ap p (sym (same_Some y x at)) ∙ (neither (p y) (list_any p ys) none).0
none_passes p (y ∷ ys) (suc k) x none at = none_passes p ys k x (neither (p y) (list_any p ys) none).1 at

-- two elements of one location clash where one of them is a sink
clash_at : (one other : Settings) (location : List ℕ) → location_of one ≡ Some location → location_of other ≡ Some location → (is_sink one ≡ true) ⊎ (is_sink other ≡ true) → clash one other ≡ true
clash_at one other location first second which = rw (first, second, (bytes_eq-Decides location location).1 refl) (by which)
  where
    or_true : (b : Bool) → (b || true) ≡ true
    or_true true = refl
    or_true false = refl

    by : (is_sink one ≡ true) ⊎ (is_sink other ≡ true) → (is_sink one || is_sink other) ≡ true
    by (inl is) = ap (λ (b : Bool). b || is_sink other) is
    by (inr is) = ap (λ (b : Bool). is_sink one || b) is ∙ or_true (is_sink one)

-- no element clashes with one that stands behind it
Apart : List Made → Type 0
Apart made = (d e : ℕ) (m n : Made) → slice_get made d ≡ Some m → slice_get made e ≡ Some n → d < e → clash m.settings n.settings ≡ false

-- one element more, whose location is not taken
apart_more : (made : List Made) (m : Made) → is_location_taken m.settings made ≡ false → Apart made → Apart (made ++ m ∷ [])
unfolding Apart
apart_more made m free apart d e one other first second before = by (push_cases made m one d first) (push_cases made m other e second)
  where
    by : (slice_get made d ≡ Some one) ⊎ ((d ≡ length made) × (m ≡ one)) → (slice_get made e ≡ Some other) ⊎ ((e ≡ length made) × (m ≡ other)) → clash one.settings other.settings ≡ false
    by (inl old) (inl also) = apart d e one other old also before
    by (inl old) (inr new) = ap (λ (n : Made). clash one.settings n.settings) (sym new.1) ∙ none_passes (λ (n : Made). clash n.settings m.settings) made d one free old
    by (inr new) (inl old) = absurd (let within = slice_get_within made e other old in omega (arith, new.0, within, before))
    by (inr new) (inr also) = absurd (omega (arith, new.0, also.0, before))

-- so the elements that come of a line are apart
apart_come : (made : List Made) (ds : List Declared) (answer : Result (List Made) BuildFault) → ElementsCome made ds answer → Apart made → IfOk answer Apart
apart_come made ds answer (Comes.all ms) h = h
apart_come made ds answer (Comes.more ms d m rest a makes comes) h = apart_come (ms ++ m ∷ []) rest a comes (apart_more ms m makes.free_location h)
apart_come made ds answer (Comes.stop ms d rest fault why) h = tt

-- no elements are apart
none_apart : Apart []
unfolding Apart
none_apart = λ d e m n first second before. absurd (none-some m first)

-- nothing is both
never_both : {b : Bool} → b ≡ true → b ≡ false → ⊥
never_both is is_not = let both = sym is ∙ is_not in cc

module _ (tree : Tree) (graph : Graph) (is : IsGraph tree graph) (d e : ℕ) (m n : Made) (location : List ℕ) where
  -- the elements of a graph are apart
  are_apart : Apart (made_in graph)
  unfolding Apart
  are_apart = λ d e m n first second before.
      sym (clash_checked m n) ∙ apart_come [] (declared tree) (Ok (checked (made_in graph))) is.elements none_apart d e (bare m) (bare n) (checked_at (made_in graph) d m first) (checked_at (made_in graph) e n second) before

  -- two elements with one location, the first of which writes it, are one element
  one_opens : slice_get (made_in graph) d ≡ Some m → slice_get (made_in graph) e ≡ Some n → location_of m.settings ≡ Some location → location_of n.settings ≡ Some location
      → is_sink m.settings ≡ true → d ≡ e
  unfolding Apart
  one_opens first second here also ends = by (same_or_other d e)
    where
      by : (d ≡ e) ⊎ ((d < e) ⊎ (e < d)) → d ≡ e
      by (inl same) = same
      by (inr (inl before)) = absurd (never_both (clash_at m.settings n.settings location here also (inl ends)) (are_apart d e m n first second before))
      by (inr (inr behind)) = absurd (never_both (clash_at n.settings m.settings location also here (inr ends)) (are_apart e d n m second first behind))

  -- a location is written by one element of a line at the most
  pub one_writer : slice_get (made_in graph) d ≡ Some m → slice_get (made_in graph) e ≡ Some n → opening_of m.settings ≡ Some (Write location) → opening_of n.settings ≡ Some (Write location) → d ≡ e
  one_writer first second writes also =
      let one = writer m.settings location writes in
      one_opens first second one.place (writer n.settings location also).place one.sink

  -- and no element reads a location that one writes
  pub reader_is_no_writer : slice_get (made_in graph) d ≡ Some m → slice_get (made_in graph) e ≡ Some n → opening_of m.settings ≡ Some (Write location) → opening_of n.settings ≡ Some (Read location) → ⊥
  reader_is_no_writer first second writes reads =
      let one = writer m.settings location writes in
      let same = one_opens first second one.place (reader n.settings location reads).place one.sink in
      not_both (same_Some m n (sym first ∙ ap (slice_get (made_in graph)) same ∙ second))
    where
      not_both : m ≡ n → ⊥
      not_both one = let both = same_Some (Write location) (Read location) (sym writes ∙ ap (λ (x : Made). opening_of x.settings) one ∙ reads) in cc
