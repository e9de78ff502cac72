-- The ends of a line's elements are where they were opened.
use Rattle.std.proofs.Common.{◌≡◌, ◌+◌, ◌&&◌, ℕ, zero, suc, Bool, true, false, cond, List, [], ◌∷◌, Option, None, Some, length, map, bytes_eq, refl, sym, ap, ◌∙◌, subst, arith}
use Rattle.std.specs.Prelude.{All, Contains, count_by, option_map, slice_get}
use Rattle.std.specs.List.{cons_option}
use Rattle.std.proofs.lemmas.List.Elements.{All-nil, All-cons, All-head, All-tail}
use Rattle.std.proofs.lemmas.Option.{none-some, same_Some}
use Rattle.std.proofs.lemmas.Slice.Eq.{bytes_eq-Decides}
use Rattle.gst_outside.specs.Places.{is_at}
use Rattle.gst_outside.specs.Seen.{Seen}
use Rattle.launch_text.specs.declared.tree.Tree.{Tree}
use Rattle.graph_core.specs.Elements.{Made}
use Rattle.graph_core.specs.Graph.{IsGraph, made as made_in}
use Rattle.graph_core.specs.declared.graph.Graph.{Graph}
use Rattle.run_files.specs.Ends.{AllOpened, Known, is_sink_at, present}
use Rattle.run_files.specs.Opening.{fresh_end, fresh_ends}
use Rattle.run_files.specs.declared.end.Opening.{Opening}
use Rattle.run_files.specs.declared.end.Opening.TheVariants.{Read, Write}
use Rattle.run_files.proofs.Lists.{sum_more}
use Rattle.graph_parts.specs.Files.{AreLocated, made_opening, opening_of}
use Rattle.graph_parts.proofs.Writers.{one_writer}

-- an end that is known is where an opening opens it
Fits : Option Opening → Option Known → Type 0
Fits None None = Unit {0}
Fits None (Some k) = ⊥
Fits (Some (Read l)) None = ⊥
Fits (Some (Write l)) None = ⊥
Fits (Some (Read l)) (Some k) = (k.is_sink ≡ false) × (k.location ≡ Some l)
Fits (Some (Write l)) (Some k) = (k.is_sink ≡ true) × (k.location ≡ Some l)

-- the end of the first element
first_fits : (m : Made) (ms : List Made) (k : Option Known) (ks : List (Option Known)) → AreLocated (m ∷ ms) (k ∷ ks) → Fits (opening_of m.settings) k
unfolding Fits
first_fits m ms k ks h = by (opening_of m.settings) refl
  where
    by : (o : Option Opening) → opening_of m.settings ≡ o → Fits o k
    by None is = subst (λ (x : Option Known). Fits None x) (sym (same_Some k None (h.none zero m refl is))) tt
    by (Some (Read l)) is =
        let end = h.read zero m l refl is in
        subst (λ (x : Option Known). Fits (Some (Read l)) x) (sym (same_Some k (Some end.end) end.at)) (end.kind, end.place)
    by (Some (Write l)) is =
        let end = h.written zero m l refl is in
        subst (λ (x : Option Known). Fits (Some (Write l)) x) (sym (same_Some k (Some end.end) end.at)) (end.kind, end.place)

-- the ends of the others
rest_located : (m : Made) (ms : List Made) (k : Option Known) (ks : List (Option Known)) → AreLocated (m ∷ ms) (k ∷ ks) → AreLocated ms ks
rest_located m ms k ks h = record {
  size = omega (arith, h.size);
  written = λ e n location at is. let end = h.written (suc e) n location at is in record { end = end.end; at = end.at; kind = end.kind; place = end.place };
  read = λ e n location at is. let end = h.read (suc e) n location at is in record { end = end.end; at = end.at; kind = end.kind; place = end.place };
  none = λ e n at is. h.none (suc e) n at is;
}

-- an end is there where something was opened
one_more : (o : Option Opening) (k : Option Known) (os : List Opening) (ks : List Known) → Fits o k → length ks ≡ length os → length (cons_option k ks) ≡ length (cons_option o os)
unfolding Fits
one_more None None os ks fits same = same
one_more None (Some k) os ks fits same = absurd fits
one_more (Some (Read l)) None os ks fits same = absurd fits
one_more (Some (Write l)) None os ks fits same = absurd fits
one_more (Some (Read l)) (Some k) os ks fits same = ap suc same
one_more (Some (Write l)) (Some k) os ks fits same = ap suc same

-- there are as many ends as were opened
pub same_count : (made : List Made) (known : List (Option Known)) → AreLocated made known → length (present known) ≡ length (present (map made_opening made))
same_count [] [] h = refl
same_count [] (k ∷ ks) h = absurd (omega (arith, h.size))
same_count (m ∷ ms) [] h = absurd (omega (arith, h.size))
same_count (m ∷ ms) (k ∷ ks) h = one_more (opening_of m.settings) k (present (map made_opening ms)) (present ks) (first_fits m ms k ks h) (same_count ms ks (rest_located m ms k ks h))

-- an end that is known of an element is among those that are there
pub is_present : (known : List (Option Known)) (e : ℕ) (k : Known) → slice_get known e ≡ Some (Some k) → Contains (present known) k
is_present [] e k at = absurd (none-some (Some k) at)
is_present (None ∷ ks) zero k at = absurd (none-some k (same_Some None (Some k) at))
is_present (None ∷ ks) (suc e) k at = is_present ks e k at
is_present (Some x ∷ ks) zero k at = (0, omega arith, same_Some x k (same_Some (Some x) (Some k) at))
is_present (Some x ∷ ks) (suc e) k at = let there = is_present ks e k at in (suc there.0, omega (arith, there.1), there.2)

-- whether a sink at one location is one at another
sink_tells : (l here : List ℕ) (k : Known) → k.is_sink ≡ true → k.location ≡ Some here → is_sink_at l k ≡ bytes_eq here l
sink_tells l here k sink at = ap (λ (b : Bool). b && is_at k.location l) sink ∙ ap (λ (o : Option (List ℕ)). is_at o l) at

module _ (l : List ℕ) where
  -- the first end counts, or does not
  counted : (k : Known) (ks : List Known) → count_by (is_sink_at l) (k ∷ ks) ≡ cond (is_sink_at l k) 1 0 + count_by (is_sink_at l) ks
  counted k ks = sum_more (λ (x : Known). cond (is_sink_at l x) 1 0) k ks

  -- a sink at the location counts
  counts : (k : Known) (ks : List Known) → is_sink_at l k ≡ true → count_by (is_sink_at l) (k ∷ ks) ≡ suc (count_by (is_sink_at l) ks)
  counts k ks is = counted k ks ∙ by (is_sink_at l k) is
    where
      by : (b : Bool) → b ≡ true → cond b 1 0 + count_by (is_sink_at l) ks ≡ suc (count_by (is_sink_at l) ks)
      by true e = omega arith
      by false e = absurd (cc)

  -- and another end does not
  counts_no : (k : Known) (ks : List Known) → is_sink_at l k ≡ false → count_by (is_sink_at l) (k ∷ ks) ≡ count_by (is_sink_at l) ks
  counts_no k ks is = counted k ks ∙ by (is_sink_at l k) is
    where
      by : (b : Bool) → b ≡ false → cond b 1 0 + count_by (is_sink_at l) ks ≡ count_by (is_sink_at l) ks
      by true e = absurd (cc)
      by false e = omega arith

  -- the end of an element that does not write the location is no sink there
  other_counts : (o : Option Opening) (k : Option Known) (ks : List Known) → Fits o k → (o ≡ Some (Write l) → ⊥) → count_by (is_sink_at l) (cons_option k ks) ≡ count_by (is_sink_at l) ks
  unfolding Fits
  other_counts None None ks fits other = refl
  other_counts None (Some k) ks fits other = absurd fits
  other_counts (Some (Read here)) None ks fits other = absurd fits
  other_counts (Some (Write here)) None ks fits other = absurd fits
  other_counts (Some (Read here)) (Some k) ks fits other = counts_no k ks (ap (λ (b : Bool). b && is_at k.location l) fits.0)
  other_counts (Some (Write here)) (Some k) ks fits other = counts_no k ks (sink_tells l here k fits.0 fits.1 ∙ by (bytes_eq here l) refl)
    where
      by : (b : Bool) → bytes_eq here l ≡ b → b ≡ false
      by true is = absurd (other (ap (λ (x : List ℕ). Some (Write x)) ((bytes_eq-Decides here l).0 is)))
      by false is = refl

  -- and that of one that writes it is
  writer_counts : (o : Option Opening) (k : Option Known) (ks : List Known) → Fits o k → o ≡ Some (Write l) → count_by (is_sink_at l) (cons_option k ks) ≡ suc (count_by (is_sink_at l) ks)
  unfolding Fits
  writer_counts None k ks fits is = absurd (none-some (Write l) is)
  writer_counts (Some (Read here)) k ks fits is = absurd (let no = same_Some (Read here) (Write l) is in cc)
  writer_counts (Some (Write here)) None ks fits is = absurd fits
  writer_counts (Some (Write here)) (Some k) ks fits is = counts k ks (sink_tells l here k fits.0 fits.1 ∙ (bytes_eq-Decides here l).1 (same (same_Some (Write here) (Write l) is)))
    where
      same : Write here ≡ Write l → here ≡ l
      same h = cc

  -- where no element writes a location, no end is a sink there
  pub no_sink : (made : List Made) (known : List (Option Known)) → AreLocated made known → ((e : ℕ) (m : Made) → slice_get made e ≡ Some m → opening_of m.settings ≡ Some (Write l) → ⊥) → count_by (is_sink_at l) (present known) ≡ 0
  no_sink [] [] h none = refl
  no_sink [] (k ∷ ks) h none = absurd (omega (arith, h.size))
  no_sink (m ∷ ms) [] h none = absurd (omega (arith, h.size))
  no_sink (m ∷ ms) (k ∷ ks) h none =
      other_counts (opening_of m.settings) k (present ks) (first_fits m ms k ks h) (none zero m refl) ∙ no_sink ms ks (rest_located m ms k ks h) (λ e n at writes. none (suc e) n at writes)

  -- where one element alone writes a location, one end is a sink there
  sink_of_one : (made : List Made) (known : List (Option Known)) (e : ℕ) (m : Made) → AreLocated made known → slice_get made e ≡ Some m → opening_of m.settings ≡ Some (Write l)
      → ((d : ℕ) (n : Made) → slice_get made d ≡ Some n → opening_of n.settings ≡ Some (Write l) → e ≡ d) → count_by (is_sink_at l) (present known) ≡ 1
  sink_of_one [] known e m h at writes alone = absurd (none-some m at)
  sink_of_one (x ∷ ms) [] e m h at writes alone = absurd (omega (arith, h.size))
  sink_of_one (x ∷ ms) (k ∷ ks) zero m h at writes alone =
      writer_counts (opening_of x.settings) k (present ks) (first_fits x ms k ks h) (ap (λ (n : Made). opening_of n.settings) (same_Some x m at) ∙ writes)
      ∙ ap suc (no_sink ms ks (rest_located x ms k ks h) (λ d n there also. let no = alone (suc d) n there also in absurd (omega (arith, no))))
  sink_of_one (x ∷ ms) (k ∷ ks) (suc e) m h at writes alone =
      other_counts (opening_of x.settings) k (present ks) (first_fits x ms k ks h) (λ also. let no = alone zero x refl also in absurd (omega (arith, no)))
      ∙ sink_of_one ms ks e m (rest_located x ms k ks h) at writes (λ d n there also. let same = alone (suc d) n there also in omega (arith, same))

-- a location that an element of a line writes has one sink
pub one_sink : (tree : Tree) (graph : Graph) (known : List (Option Known)) (e : ℕ) (m : Made) (location : List ℕ) → IsGraph tree graph → AreLocated (made_in graph) known
    → slice_get (made_in graph) e ≡ Some m → opening_of m.settings ≡ Some (Write location) → count_by (is_sink_at location) (present known) ≡ 1
one_sink tree graph known e m location is located at writes =
    sink_of_one location (made_in graph) known e m located at writes (λ d n there also. one_writer tree graph is e d m n location at there writes also)

module _ (opened : List ℕ → Type 0) (before : Seen) where
  -- an end was opened
  IsOpened : Known → Type 0
  IsOpened end = (l : List ℕ) → end.location ≡ Some l → opened l

  -- an end at the location of one that was opened was opened
  opened_as : (k fresh : Known) (here : List ℕ) → k.location ≡ Some here → fresh.location ≡ Some here → IsOpened fresh → IsOpened k
  unfolding IsOpened
  opened_as k fresh here at also is = λ l there. is l (also ∙ sym at ∙ there)

  -- so was the first end, and the others
  opened_more : (o : Option Opening) (k : Option Known) (fs ks : List Known) → Fits o k → All IsOpened (cons_option (option_map (fresh_end before) o) fs) → (All IsOpened fs → All IsOpened ks) → All IsOpened (cons_option k ks)
  unfolding Fits
  opened_more None None fs ks fits all rest = rest all
  opened_more None (Some k) fs ks fits all rest = absurd fits
  opened_more (Some (Read l)) None fs ks fits all rest = absurd fits
  opened_more (Some (Write l)) None fs ks fits all rest = absurd fits
  opened_more (Some (Read l)) (Some k) fs ks fits all rest =
      All-cons IsOpened k ks (opened_as k (fresh_end before (Read l)) l fits.1 refl (All-head IsOpened (fresh_end before (Read l)) fs all)) (rest (All-tail IsOpened (fresh_end before (Read l)) fs all))
  opened_more (Some (Write l)) (Some k) fs ks fits all rest =
      All-cons IsOpened k ks (opened_as k (fresh_end before (Write l)) l fits.1 refl (All-head IsOpened (fresh_end before (Write l)) fs all)) (rest (All-tail IsOpened (fresh_end before (Write l)) fs all))

  -- so were all
  each_opened : (made : List Made) (known : List (Option Known)) → AreLocated made known → All IsOpened (present (fresh_ends before (map made_opening made))) → All IsOpened (present known)
  each_opened [] [] h all = All-nil IsOpened
  each_opened [] (k ∷ ks) h all = absurd (omega (arith, h.size))
  each_opened (m ∷ ms) [] h all = absurd (omega (arith, h.size))
  each_opened (m ∷ ms) (k ∷ ks) h all =
      opened_more (opening_of m.settings) k (present (fresh_ends before (map made_opening ms))) (present ks) (first_fits m ms k ks h) all
      (λ others. each_opened ms ks (rest_located m ms k ks h) others)

  -- the ends have the locations of those that were opened
  pub all_opened : (made : List Made) (known : List (Option Known)) → AreLocated made known → AllOpened opened (fresh_ends before (map made_opening made)) → AllOpened opened known
  unfolding IsOpened
  all_opened made known h all = each_opened made known h all
