-- A run that did not begin, since a location could not be opened.
use Rattle.std.proofs.Common.{◌≡◌, ◌<◌, ◌≤◌, ◌^◌, ℕ, zero, suc, Bool, true, false, List, [], ◌∷◌, Option, None, Some, if◌then◌else◌, length, map, take, bytes_eq, refl, sym, ap, ◌∙◌, subst, arith}
use Rattle.std.specs.Prelude.{slice_get}
use Rattle.std.specs.List.{list_any}
use Rattle.std.specs.Option.{option_map}
use Rattle.std.proofs.lemmas.List.{length-map}
use Rattle.std.proofs.lemmas.Option.{none-some, same_Some, slice_get-map}
use Rattle.std.proofs.lemmas.Slice.Eq.{bytes_eq-Decides}
use Rattle.graph_core.specs.Elements.{Made}
use Rattle.graph_core.specs.Graph.{IsGraph, made as made_in}
use Rattle.graph_core.specs.declared.graph.Graph.{Graph}
use Rattle.gst_outside.specs.Seen.{Seen}
use Rattle.launch_text.specs.declared.tree.Tree.{Tree}
use Rattle.graph_parts.specs.Files.{made_opening, opening_of}
use Rattle.run_files.specs.Ends.{Known}
use Rattle.run_files.specs.Opening.{GivesBack, IsUnopened, Opens, writes_to}
use Rattle.run_files.specs.declared.end.Opening.{Opening}
use Rattle.run_files.specs.declared.end.Opening.TheVariants.{Read, Write}
use Rattle.run_files.specs.declared.end.Unopened.{Unopened}
use Rattle.run_files.specs.declared.end.Unopened.TheVariants.{Failed, OutOfMemory}
use Rattle.world_core.proofs.Closing.{few_elements}
use Rattle.world_core.specs.World.{IsUnwritten, NotBegun, RunUnopened}
use Rattle.world_core.specs.declared.ended.WorldEnd.{WorldEnd}

-- an opening of a line is that of an element
pub unopened_run : (graph : Graph) (openings : List (Option Opening)) (before after : Seen) (end : WorldEnd) → openings ≡ map made_opening (made_in graph)
    → NotBegun openings before after end → RunUnopened graph before after end
unopened_run graph openings before after end same n =
    by (slice_get (made_in graph) n.place) refl
    (sym (slice_get-map made_opening (made_in graph) n.place) ∙ ap (λ (os : List (Option Opening)). slice_get os n.place) (sym same) ∙ n.at)
  where
    by : (found : Option Made) → slice_get (made_in graph) n.place ≡ found → option_map made_opening found ≡ Some (Some n.opening)
        → RunUnopened graph before after end
    by None there is = absurd (none-some (Some n.opening) is)
    by (Some m) there is = record {
      status = n.status;
      e = n.place;
      element = m;
      at = there;
      opening = n.opening;
      opens = same_Some (opening_of m.settings) (Some n.opening) is;
      fault = n.fault;
      refuses = n.refuses;
      back = subst (λ (os : List (Option Opening)). GivesBack (take n.place os) before after) same n.back;
      entries = n.entries;
      pads = n.pads;
      sinks = n.sinks;
    }

-- what is known of the ends that were given back where a location could not be opened
back_of : (openings : List (Option Opening)) (before after : Seen) (why : Unopened) → IsUnopened openings before after why
    → (n : ℕ) × GivesBack (take n openings) before after
back_of openings before after (Failed place) u = (place, u.back)
back_of openings before after OutOfMemory u = (u.place, u.back)

none_writes : (l : List ℕ) (made : List Made) (n : ℕ) → ((e : ℕ) (m : Made) → slice_get made e ≡ Some m → opening_of m.settings ≡ Some (Write l) → ⊥)
    → list_any (writes_to l) (take n (map made_opening made)) ≡ false
none_writes l made zero away = refl
none_writes l [] (suc n) away = refl
none_writes l (m ∷ ms) (suc n) away = rw (one (made_opening m) (away 0 m refl), none_writes l ms n (λ e x at. away (suc e) x at)) refl
  where
    one : (o : Option Opening) → (o ≡ Some (Write l) → ⊥) → writes_to l o ≡ false
    one None other = refl
    one (Some (Read location)) other = refl
    one (Some (Write location)) other = by (bytes_eq location l) refl
      where
        by : (b : Bool) → bytes_eq location l ≡ b → bytes_eq location l ≡ false
        by true is = absurd (other (ap (λ (x : List ℕ). Some (Write x)) ((bytes_eq-Decides location l).0 is)))
        by false is = is

module _ (graph : Graph) (openings : List (Option Opening)) (before after : Seen) (same : openings ≡ map made_opening (made_in graph)) where
  -- openings that are those of a line
  pub opens_line : (opened : List (Option Known)) → Opens openings opened before after → Opens (map made_opening (made_in graph)) opened before after
  opens_line opened opens = subst (λ (os : List (Option Opening)). Opens os opened before after) same opens

  back_line : (why : Unopened) → IsUnopened openings before after why → (n : ℕ) × GivesBack (take n (map made_opening (made_in graph))) before after
  back_line why u = back_of (map made_opening (made_in graph)) before after why (subst (λ (os : List (Option Opening)). IsUnopened os before after why) same u)

  -- what no filesink writes stays
  pub unopened_others : (why : Unopened) → IsUnopened openings before after why → (l : List ℕ) → IsUnwritten graph l → after.output l ≡ before.output l
  unopened_others why u l away =
      let back = back_line why u in
      back.1.output l
      ∙ ap (λ (b : Bool). if b then option_map (λ _. []) (before.output l) else before.output l)
      (none_writes l (made_in graph) back.0 (λ e m at opens_it. away e m at opens_it))

  pub unopened_inputs : (why : Unopened) → IsUnopened openings before after why → (l : List ℕ) → after.input l ≡ before.input l
  unopened_inputs why u l = (back_line why u).1.input l

  -- and no end is left open
  pub unopened_ends : (tree : Tree) → IsGraph tree graph → (why : Unopened) → IsUnopened openings before after why → before.ends < 2 ^ 63
      → after.ends ≡ before.ends
  unopened_ends tree is why u small =
      let back = back_line why u in
      let few = few_elements tree graph is in
      back.1.count (omega (arith, few, small, take_few back.0 (map made_opening (made_in graph)), length-map (made_in graph) made_opening))
    where
      take_few : {A : Type 0} (n : ℕ) (xs : List A) → length (take n xs) ≤ length xs
      take_few zero xs = omega arith
      take_few (suc n) [] = omega arith
      take_few (suc n) (x ∷ xs) = omega (arith, take_few n xs)
