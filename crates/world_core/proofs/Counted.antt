-- What a run counted is what crossed the pads, and what its files hold.
use Rattle.std.proofs.Common.{◌≡◌, ◌<◌, ◌≤◌, ◌*◌, ◌/◌, ◌%◌, ℕ, zero, suc, Bool, true, false, List, [], ◌∷◌, All, Option, None, Some, if◌then◌else◌, length, refl, sym, ap, ◌∙◌, subst, arith}
use Rattle.std.specs.Prelude.{filter_map, slice_get}
use Rattle.std.specs.List.{cons_option, range_with_len}
use Rattle.std.specs.Option.{option_map, option_map_or}
use Rattle.std.proofs.lemmas.Option.{none-some, same_Some, slice_get_within}
use Rattle.el_settings.specs.Asked.{source_pads, writes}
use Rattle.flow_model.specs.declared.element.TaskElement as elements
use Rattle.flow_model.specs.declared.source.TaskSource as sources
use Rattle.flow_model.specs.Item.{Item, buffers}
use Rattle.graph_parts.specs.BagLaws.{StandsIn}
use Rattle.graph_parts.specs.declared.bag.Bag.{Bag}
use Rattle.graph_core.specs.Elements.{Made, has}
use Rattle.graph_core.specs.Ends.{name_at}
use Rattle.graph_core.specs.Graph.{made as made_in, links as links_in}
use Rattle.graph_core.specs.declared.graph.Graph.{Graph}
use Rattle.graph_tasks.specs.Ended.{IsQuiet}
use Rattle.graph_tasks.specs.Frames.{HaveBags}
use Rattle.graph_tasks.specs.Runs.{crossed_in}
use Rattle.graph_tasks.proofs.Came.{number_at, there_at}
use Rattle.graph_tasks.specs.Written.{TaskCrossed}
use Rattle.graph_parts.specs.Counts.{TasksCounted}
use Rattle.graph_parts.specs.Files.{OpensAt}
use Rattle.graph_parts.specs.Put.{IsPutAt, PutBack, was_kept, was_put}
use Rattle.graph_parts.proofs.OwnFiles.{writing_opens}
use Rattle.graph_parts.specs.declared.counts.Count.{Count}
use Rattle.graph_parts.specs.MomentLaws.{place_of}
use Rattle.graph_parts.specs.Pads.{at_pads, is_pad}
use Rattle.lane_core.specs.declared.ends.Inlet as inlets
use Rattle.lane_core.specs.declared.ends.Outlet as outlets
use Rattle.flow_model.specs.Moment.{Moment}
use Rattle.net_task.specs.declared.task.Task.{Task}
use Rattle.run_files.specs.declared.end.Opening.TheVariants.{Write}
use Rattle.run_report.specs.declared.report.PadCount.{PadCount}
use Rattle.run_report.specs.declared.report.SinkCount.{SinkCount}
use Rattle.world_core.proofs.TaskCounts.{IsTold, counted_there, counted_told}
use Rattle.world_core.specs.Ended.{most_items}
use Rattle.world_core.specs.Prepared.{HasRoom}
use Rattle.world_core.specs.Pads.{source_name}
use Rattle.world_core.specs.Told.{pad_entries, pad_entry, pad_told, pads_told, sink_entries, sink_entry, sink_told, sinks_told}
use Rattle.graph_parts.specs.Links.{source_count}

-- two choices of the same are one
same_choice : {A B : Type 0} (f g : A → Option B) (xs : List A) → ((x : A) → f x ≡ g x) → filter_map f xs ≡ filter_map g xs
same_choice f g [] same = refl
same_choice f g (x ∷ xs) same = rw (same x, same_choice f g xs same) refl

-- the number of a source pad has its place among those of all elements
pub pad_within : (made : List Made) (p : ℕ) → is_pad made p ≡ true → (p / 64 < length made) × (p < length made * 64)
pad_within made p pad = (inside, omega (arith, inside))
  where
    inside : p / 64 < length made
    inside = by (slice_get made (p / 64)) refl (there_at made p pad)
      where
        by : (found : Option Made) → slice_get made (p / 64) ≡ found → p % 64 < option_map_or (λ (m : Made). source_pads m.settings) found 0 → p / 64 < length made
        by None is few = absurd (omega (arith, few))
        by (Some m) is few = slice_get_within made (p / 64) m is

-- what crossed a source pad of the graph
at_a_pad : (made : List Made) (h : ℕ → List Item) (p : ℕ) → is_pad made p ≡ true → at_pads made h p ≡ h p
at_a_pad made h p is = ap (λ (b : Bool). if b then h p else []) is

-- the count of a pad, and that of what crossed it
abbrev of_list : List Made → ℕ → List Item → PadCount
of_list made p list = record { pad = source_name made (place_of p); items = length list; buffers = buffers list }

abbrev count_of : List Made → ℕ → Count → PadCount
count_of made p x = record { pad = source_name made (place_of p); items = x.items; buffers = x.buffers }

-- where what is counted at each source pad is what crossed it, the counts are told so
pub pads_are_told : (made : List Made) (counts : List Count) (h : ℕ → List Item)
    → ((p : ℕ) → is_pad made p ≡ true → (x : Count) × (slice_get counts p ≡ Some x) × IsTold x (h p))
    → pads_told made counts ≡ pad_entries made h
pads_are_told made counts h are =
    same_choice (pad_told made counts) (pad_entry made h) (range_with_len 0 (length made * 64)) (λ p. choose p (is_pad made p) refl)
  where
    of_pad : (p : ℕ) (x : Count) → IsTold x (h p) → (found : Option Count) → found ≡ Some x
        → option_map {U = PadCount} (count_of made p) found ≡ Some (of_list made p (h p))
    of_pad p x told found is =
        ap (option_map {U = PadCount} (count_of made p)) is
        ∙ ap (λ (n : ℕ). Some (record { pad = source_name made (place_of p); items = n; buffers = x.buffers })) told.items_are
        ∙ ap (λ (n : ℕ). Some (record { pad = source_name made (place_of p); items = length (h p); buffers = n })) told.buffers_are

    choose : (p : ℕ) (b : Bool) → is_pad made p ≡ b
        → (if b then option_map {U = PadCount} (count_of made p) (slice_get counts p) else None) ≡ (if b then Some (of_list made p (h p)) else None)
    choose p true pad = let one = are p pad in of_pad p one.0 one.2 (slice_get counts p) one.1
    choose p false pad = refl

module _ {S E I O L : Type 0} {s : sources.Ghosts S} {e : elements.Ghosts E} {i : inlets.Ghosts I L O} {o : outlets.Ghosts O L} where
  module _ (graph : Graph) (bags : List Bag) (m : Moment) (last : List (Task S E I O L s e i o)) (none counts : List Count) (zeros : List ℕ)
      (room : HasRoom (length (made_in graph)) none zeros) (counted : PutBack (TasksCounted last) none counts) (have : HaveBags (made_in graph) (links_in graph) bags last)
      (crossed : (place : ℕ) (task : Task S E I O L s e i o) → slice_get last place ≡ Some task → TaskCrossed m task)
      (quiet : (n : ℕ) → n < length (made_in graph) → ((k : ℕ) → StandsIn bags k n → ⊥) → IsQuiet graph m n) where
    -- what is counted at a source pad is what crossed it
    pub count_at : (p : ℕ) → is_pad (made_in graph) p ≡ true → (x : Count) × (slice_get counts p ≡ Some x) × IsTold x (crossed_in graph m p)
    count_at p pad = by (counted.each p (subst (λ (n : ℕ). p < n) (sym room.size) within.1))
      where
        within : (p / 64 < length (made_in graph)) × (p < length (made_in graph) * 64)
        within = pad_within (made_in graph) p pad

        there : p % 64 < source_count (made_in graph) (p / 64)
        there = there_at (made_in graph) p pad

        by : IsPutAt (TasksCounted last) none counts p → (x : Count) × (slice_get counts p ≡ Some x) × IsTold x (crossed_in graph m p)
        by (was_put x here at) =
            let told = counted_told m last crossed p x here in
            (x, at, subst (λ (list : List Item). IsTold x list) (sym (at_a_pad (made_in graph) m.history p pad)) told)
        by (was_kept left same) =
            let calm =
            quiet (p / 64) within.0 (λ k in_bag.
            let one = counted_there (made_in graph) (links_in graph) m bags last have crossed (p / 64) (p % 64) k there in_bag in
            left one.0 (subst (λ (n : ℕ). TasksCounted last n one.0) (sym (number_at p)) one.1))
            in
            let none_went = ap (crossed_in graph m) (number_at p) ∙ calm.went (p % 64) there in (
              record { items = 0; buffers = 0 },
              same ∙ room.uncounted p within.1,
              record { items_are = ap length (sym none_went); buffers_are = ap buffers (sym none_went) },
            )

    -- the counts of the pads are those of what crossed them
    pub counts_are : pads_told (made_in graph) counts ≡ pad_entries (made_in graph) (crossed_in graph m)
    counts_are = pads_are_told (made_in graph) counts (crossed_in graph m) count_at

-- and none of them is above the limit of a pad
pub limits_are : (graph : Graph) (m : Moment) → ((p : ℕ) → is_pad (made_in graph) p ≡ true → length (m.history p) ≤ 1099511627776)
    → All (λ (count : PadCount). count.items ≤ most_items) (pad_entries (made_in graph) (crossed_in graph m))
limits_are graph m limit = go (range_with_len 0 (length (made_in graph) * 64))
  where
    put : (found : Option PadCount) (counts : List PadCount) → ((c : PadCount) → found ≡ Some c → c.items ≤ most_items)
        → All (λ (count : PadCount). count.items ≤ most_items) counts → All (λ (count : PadCount). count.items ≤ most_items) (cons_option found counts)
    put None counts one rest k x w = rest k x w
    put (Some c) counts one rest zero x w = one c refl
    put (Some c) counts one rest (suc k) x w = rest k x (omega (arith, w))

    choose : (p : ℕ) (b : Bool) (c : PadCount) → is_pad (made_in graph) p ≡ b
        → (if b then Some (of_list (made_in graph) p (crossed_in graph m p)) else None) ≡ Some c → c.items ≤ most_items
    choose p true c pad is =
        let crossed = at_a_pad (made_in graph) m.history p pad in
        let same = ap (λ (x : PadCount). x.items) (same_Some (of_list (made_in graph) p (crossed_in graph m p)) c is) in
        subst (λ (n : ℕ). n ≤ most_items) (ap length (sym crossed) ∙ same) (limit p pad)
    choose p false c pad is = absurd (none-some c is)

    go : (ps : List ℕ) → All (λ (count : PadCount). count.items ≤ most_items) (filter_map (pad_entry (made_in graph) (crossed_in graph m)) ps)
    go [] = λ k x w. absurd (omega (arith, w))
    go (p ∷ ps) =
        put (pad_entry (made_in graph) (crossed_in graph m) p) (filter_map (pad_entry (made_in graph) (crossed_in graph m)) ps)
        (λ c is. choose p (is_pad (made_in graph) p) c refl is) (go ps)

-- the lengths of the files of filesinks are those of their bytes
pub lengths_are : (made : List Made) (lengths : List ℕ) (bytes : ℕ → List ℕ)
    → ((d : ℕ) → has writes made d ≡ true → slice_get lengths d ≡ Some (length (bytes d))) → sinks_told made lengths ≡ sink_entries made bytes
lengths_are made lengths bytes are =
    same_choice (sink_told made lengths) (sink_entry made bytes) (range_with_len 0 (length made)) (λ d. choose d (has writes made d) refl)
  where
    choose : (d : ℕ) (b : Bool) → has writes made d ≡ b
        → (if b then option_map {U = SinkCount} (λ n. record { name = name_at made d; bytes = n }) (slice_get lengths d) else None)
        ≡ (if b then Some (record { name = name_at made d; bytes = length (bytes d) }) else None)
    choose d true writing = ap (option_map {U = SinkCount} (λ n. record { name = name_at made d; bytes = n })) (are d writing)
    choose d false writing = refl

-- what writes a file opens it
pub writes_at : (made : List Made) (d : ℕ) → has writes made d ≡ true → (location : List ℕ) × OpensAt made d (Write location)
writes_at made d h = by (slice_get made d) refl h
  where
    by : (found : Option Made) → slice_get made d ≡ found → option_map_or (λ (m : Made). writes m.settings) found false ≡ true
        → (location : List ℕ) × OpensAt made d (Write location)
    by None at holds = absurd (cc)
    by (Some m) at holds = let own = writing_opens m.settings holds in (own.0, record { element = m; at = at; opens = own.1 })

-- so they are where it is known of each element that opens a file to write it
pub lengths_by : (made : List Made) (lengths : List ℕ) (bytes : ℕ → List ℕ)
    → ((d : ℕ) (location : List ℕ) → OpensAt made d (Write location) → slice_get lengths d ≡ Some (length (bytes d)))
    → sinks_told made lengths ≡ sink_entries made bytes
lengths_by made lengths bytes are = lengths_are made lengths bytes (λ d writing. let own = writes_at made d writing in are d own.0 own.1)
