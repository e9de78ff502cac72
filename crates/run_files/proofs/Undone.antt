-- Ends that are given back because a later opening gave none.
use Rattle.std.proofs.Common.{◌≡◌, ◌≤◌, ℕ, suc, Bool, true, false, cond, ◌||◌, List, [], ◌∷◌, length, Option, Some, None, refl, sym, ap, ◌∙◌, arith, take}
use Rattle.std.specs.Prelude.{bytes_eq, filter, find, option_map, slice_get}
use Rattle.std.specs.List.{list_any}
use Rattle.std.proofs.lemmas.Slice.Eq.{bytes_eq-Decides}
use Rattle.gst_outside.specs.Causes.{plus, raised}
use Rattle.gst_outside.specs.Places.{is_at}
use Rattle.gst_outside.specs.Seen.{Seen}
use Rattle.gst_outside.specs.declared.opening.OpenEnd.TheVariants as refusals
use Rattle.run_files.specs.declared.end.Opening.{Opening}
use Rattle.run_files.specs.declared.end.Opening.TheVariants.{Read, Write}
use Rattle.run_files.specs.declared.end.Unopened.{Unopened}
use Rattle.run_files.specs.declared.end.Unopened.TheVariants.{Failed, OutOfMemory}
use Rattle.run_files.specs.Closing.{Closes, bytes_or, fault_count, faults_at}
use Rattle.run_files.specs.Ends.{Known, is_sink_at, present}
use Rattle.run_files.specs.Opening.{FailsAt, GivesBack, IsUnopened, Opens, Refuses, Wants, fresh_end, fresh_ends, location_of, writes_to}
use Rattle.run_files.specs.Stopping.{RefusedBy, Stops, Untouched}
use Rattle.run_files.proofs.Closes.{counts_none}
use Rattle.run_files.proofs.Lists.{sum_more}

-- Of fresh ends the sinks are empty.
emptied_by : (files : Seen) (l written : List ℕ) (b rest : Bool) (found : Option Known) → bytes_eq written l ≡ b
    → bytes_or (files.output l) found ≡ cond rest (option_map (λ (c : List ℕ). []) (files.output l)) (files.output l)
    → bytes_or (files.output l) (cond b (Some (fresh_end files (Write written))) found) ≡ cond (b || rest) (option_map (λ (c : List ℕ). []) (files.output l)) (files.output l)
emptied_by files l written true rest found is more = ap (λ (m : List ℕ). option_map (λ (c : List ℕ). []) (files.output m)) ((bytes_eq-Decides written l).0 is)
emptied_by files l written false rest found is more = more

emptied : (files : Seen) (l : List ℕ) (openings : List (Option Opening))
    → bytes_or (files.output l) (find (is_sink_at l) (present (fresh_ends files openings))) ≡ cond (list_any (writes_to l) openings) (option_map (λ (c : List ℕ). []) (files.output l)) (files.output l)
emptied files l [] = refl
emptied files l (None ∷ os) = emptied files l os
emptied files l (Some (Read read) ∷ os) = emptied files l os
emptied files l (Some (Write written) ∷ os) =
    emptied_by files l written (bytes_eq written l) (list_any (writes_to l) os) (find (is_sink_at l) (present (fresh_ends files os))) refl (emptied files l os)

-- no call of a fresh end failed
unfailed_by : (end : Known) (ends : List Known) (b : Bool) → end.faults ≡ 0 → fault_count ends ≡ 0 → fault_count (cond b (end ∷ ends) ends) ≡ 0
unfailed_by end ends true none rest = omega (arith, sum_more (λ (end : Known). end.faults) end ends, none, rest)
unfailed_by end ends false none rest = rest

unfailed : (files : Seen) (l : List ℕ) (openings : List (Option Opening)) → faults_at l (present (fresh_ends files openings)) ≡ 0
unfailed files l [] = refl
unfailed files l (None ∷ os) = unfailed files l os
unfailed files l (Some (Read read) ∷ os) = unfailed_by (fresh_end files (Read read)) (filter (λ (end : Known). is_at end.location l) (present (fresh_ends files os))) (bytes_eq read l) refl (unfailed files l os)
unfailed files l (Some (Write written) ∷ os) = unfailed_by (fresh_end files (Write written)) (filter (λ (end : Known). is_at end.location l) (present (fresh_ends files os))) (bytes_eq written l) refl (unfailed files l os)

-- there are as many ends as locations that are asked for
pub as_many : (files : Seen) (openings : List (Option Opening)) → length (present (fresh_ends files openings)) ≡ length (present openings)
as_many files [] = refl
as_many files (None ∷ os) = as_many files os
as_many files (Some o ∷ os) = ap suc (as_many files os)

pub no_more : (openings : List (Option Opening)) → length (present openings) ≤ length openings
no_more [] = omega arith
no_more (None ∷ os) = let h = no_more os in omega (arith, h)
no_more (Some o ∷ os) = let h = no_more os in omega (arith, h)

gives_back : (openings : List (Option Opening)) (opened : List (Option Known)) (before mid refused after : Seen) → Opens openings opened before mid → Untouched mid refused → Closes (present opened) refused after → GivesBack openings before after
gives_back openings opened before mid refused after h u k =
    let is : present opened ≡ present (fresh_ends before openings) = ap (λ (es : List (Option Known)). present es) h.made in
    record {
      input = λ l. k.input l ∙ u.input l ∙ h.input l;
      output = λ l.
          k.output l ∙ ap (λ (o : Option (List ℕ)). bytes_or o (find (is_sink_at l) (present opened))) (u.output l ∙ h.output l)
          ∙ ap (λ (es : List Known). bytes_or (before.output l) (find (is_sink_at l) es)) is ∙ emptied before l openings;
      faults_of = λ l.
          k.faults_of l ∙ ap (λ (m : ℕ). option_map (λ n. plus n m) (refused.faults_of l)) (ap (faults_at l) is ∙ unfailed before l openings) ∙ counts_none (refused.faults_of l)
          ∙ u.faults_of l ∙ h.faults_of l;
      faults = omega (arith, h.faults, u.faults, k.faults);
      count = λ small. omega (arith, small, h.count, u.count, k.count, ap (λ (es : List Known). length es) is, as_many before openings, no_more openings);
    }

refuses : (opening : Opening) (before mid refused after : Seen) → before.faults ≤ mid.faults → ((l : List ℕ) → mid.refused_of l ≡ before.refused_of l) → refused.faults ≤ after.faults → ((l : List ℕ) → after.refused_of l ≡ refused.refused_of l)
    → Refuses opening mid refused → Refuses opening before after
refuses opening before mid refused after first was last is h = record {
  rose = omega (arith, first, last, h.rose);
  rose_of = λ x at y at'. h.rose_of x (was (location_of opening) ∙ at) y (sym (is (location_of opening)) ∙ at');
  refused_of = λ l. is l ∙ h.refused_of l ∙ ap (λ (o : Option ℕ). cond (bytes_eq (location_of opening) l) (option_map raised o) o) (was l);
}

module _ (openings : List (Option Opening)) (opened : List (Option Known)) (before refused after : Seen) (k : Closes (present opened) refused after) where
  rising : refused.faults ≤ after.faults
  rising = omega (arith, k.faults)

  failed : (place : ℕ) (mid : Seen) (entry : Option Opening) → slice_get openings place ≡ Some entry → Opens (take place openings) opened before mid → RefusedBy entry mid refused refusals.Failed → FailsAt openings before after place
  failed place mid None at h r = absurd r
  failed place mid (Some opening) at h r = record {
    opening = opening;
    at = at;
    refuses = refuses opening before mid refused after h.faults h.refused_of rising k.refused_of r.1;
    back = gives_back (take place openings) opened before mid refused after h r.0 k;
  }

  wanting : (place : ℕ) (mid : Seen) (entry : Option Opening) → Opens (take place openings) opened before mid → RefusedBy entry mid refused refusals.OutOfMemory → Wants openings before after
  wanting place mid None h r = absurd r
  wanting place mid (Some opening) h r = record {
    place = place;
    refused_of = λ l. k.refused_of l ∙ r.1 l ∙ h.refused_of l;
    back = gives_back (take place openings) opened before mid refused after h r.0 k;
  }

  pub unopened_by : (why : Unopened) → Stops openings opened before refused why → IsUnopened openings before after why
  unopened_by (Failed place) s = failed place s.moment s.opening s.at s.opens s.refused
  unopened_by OutOfMemory s = wanting s.0 s.1.moment s.1.opening s.1.opens s.1.refused
