-- Ends that are given back.
use Rattle.std.proofs.Common.{◌≡◌, ℕ, ◌+◌, true, List, [], ◌++◌, Option, Some, None, refl, sym, ap, ◌∙◌, arith, length-append}
use Rattle.std.specs.Prelude.{Contains, IsTrue, count_by, filter, find, option_map}
use Rattle.std.specs.Option.{option_or}
use Rattle.std.proofs.lemmas.List.Elements.{filter-append}
use Rattle.std.proofs.lemmas.List.Folds.{find-append}
use Rattle.std.proofs.lemmas.List.Sums.{sum_by-append}
use Rattle.std.proofs.lemmas.Option.{same_Some}
use Rattle.std.proofs.lemmas.Slice.Eq.{bytes_eq-Decides}
use Rattle.gst_outside.specs.Causes.{Rose, plus}
use Rattle.gst_outside.specs.Places.{is_at}
use Rattle.gst_outside.specs.Seen.{Seen, ToldRose}
use Rattle.run_files.specs.Closing.{Closes, bytes_or, fault_count, faults_at}
use Rattle.run_files.specs.Ends.{Known, is_sink_at}
use Rattle.run_files.proofs.Lists.{find_none, find_only, sum_above, sum_above_of}

pub plus_plus : (n a b : ℕ) → plus (plus n a) b ≡ plus n (b + a)
plus_plus n a b = omega arith

pub plus_none : (n : ℕ) → plus n 0 ≡ n
plus_none n = omega arith

counts_plus : (o : Option ℕ) (a b : ℕ) → option_map (λ n. plus n b) (option_map (λ n. plus n a) o) ≡ option_map (λ n. plus n (b + a)) o
counts_plus None a b = refl
counts_plus (Some n) a b = ap Some (plus_plus n a b)

pub counts_none : (o : Option ℕ) → option_map (λ n. plus n 0) o ≡ o
counts_none None = refl
counts_none (Some n) = ap Some (plus_none n)

bytes_bytes : (o : Option (List ℕ)) (xs ys : Option Known) → bytes_or (bytes_or o xs) ys ≡ bytes_or o (option_or ys xs)
bytes_bytes o xs None = refl
bytes_bytes o xs (Some end) = refl

faults_parts : (l : List ℕ) (ys xs : List Known) → faults_at l (ys ++ xs) ≡ faults_at l ys + faults_at l xs
faults_parts l ys xs =
    ap fault_count (filter-append (λ (end : Known). is_at end.location l) ys xs)
    ∙ sum_by-append (λ (end : Known). end.faults) (filter (λ (end : Known). is_at end.location l) ys) (filter (λ (end : Known). is_at end.location l) xs)

-- none was given back
pub closes_none : (files : Seen) → Closes [] files files
closes_none files = record {
  input = λ l. refl;
  output = λ l. refl;
  faults_of = λ l. sym (counts_none (files.faults_of l));
  refused_of = λ l. refl;
  faults = sym (plus_none files.faults);
  count = omega arith;
}

-- some were given back, and then more, which stand in front
pub closes_join : (xs ys : List Known) (before mid after : Seen) → Closes xs before mid → Closes ys mid after → Closes (ys ++ xs) before after
closes_join xs ys before mid after h k = record {
  input = λ l. k.input l ∙ h.input l;
  output = λ l.
      k.output l ∙ ap (λ (o : Option (List ℕ)). bytes_or o (find (is_sink_at l) ys)) (h.output l) ∙ bytes_bytes (before.output l) (find (is_sink_at l) xs) (find (is_sink_at l) ys)
      ∙ ap (λ (o : Option Known). bytes_or (before.output l) o) (sym (find-append (is_sink_at l) ys xs));
  faults_of = λ l.
      k.faults_of l ∙ ap (λ (o : Option ℕ). option_map (λ n. plus n (faults_at l ys)) o) (h.faults_of l) ∙ counts_plus (before.faults_of l) (faults_at l xs) (faults_at l ys)
      ∙ ap (λ (m : ℕ). option_map (λ n. plus n m) (before.faults_of l)) (sym (faults_parts l ys xs));
  refused_of = λ l. k.refused_of l ∙ h.refused_of l;
  faults =
      k.faults ∙ ap (λ (n : ℕ). plus n (fault_count ys)) h.faults ∙ plus_plus before.faults (fault_count xs) (fault_count ys)
      ∙ ap (λ (m : ℕ). plus before.faults m) (sym (sum_by-append (λ (end : Known). end.faults) ys xs));
  count = omega (arith, h.count, k.count, length-append ys xs);
}

at_itself : (location : Option (List ℕ)) (l : List ℕ) → location ≡ Some l → is_at location l ≡ true
at_itself location l e = ap (λ (o : Option (List ℕ)). is_at o l) e ∙ (bytes_eq-Decides l l).1 refl

module _ (ends : List Known) (before after : Seen) (h : Closes ends before after) where
  -- the only sink of a location leaves its bytes there
  pub closes_alone : (l : List ℕ) (end : Known) → Contains ends end → IsTrue (is_sink_at l end) → count_by (is_sink_at l) ends ≡ 1 → after.output l ≡ end.bytes
  closes_alone l end there at one = h.output l ∙ ap (λ (o : Option Known). bytes_or (before.output l) o) (find_only (is_sink_at l) ends end there at one)

  -- where no sink is, the output stays
  pub closes_others : (l : List ℕ) → count_by (is_sink_at l) ends ≡ 0 → after.output l ≡ before.output l
  closes_others l none = h.output l ∙ ap (λ (o : Option Known). bytes_or (before.output l) o) (find_none (is_sink_at l) ends none)

  -- a call of an end failed
  pub closes_rose : (end : Known) → Contains ends end → Rose 0 end.faults → Rose before.faults after.faults
  closes_rose end there rose = omega (arith, h.faults, sum_above (λ (end : Known). end.faults) ends end there, rose)

  pub closes_rose_of : (l : List ℕ) (end : Known) → Contains ends end → Rose 0 end.faults → end.location ≡ Some l → ToldRose (before.faults_of l) (after.faults_of l)
  closes_rose_of l end there rose at x was y is =
      let told : y ≡ plus x (faults_at l ends) = same_Some y (plus x (faults_at l ends)) (sym is ∙ h.faults_of l ∙ ap (λ (o : Option ℕ). option_map (λ n. plus n (faults_at l ends)) o) was) in
      omega (arith, told, rose, sum_above_of (λ (end : Known). end.faults) (λ (end : Known). is_at end.location l) ends end there (at_itself end.location l at))
