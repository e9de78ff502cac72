-- How ends are opened.
use Rattle.std.specs.Prelude.{◌≡◌, ◌≤◌, ◌<◌, ◌+◌, ◌^◌, ℕ, Bool, true, false, if◌then◌else◌, List, [], Option, None, Some, bytes_eq, length, map, option_map, slice_get, take}
use Rattle.std.specs.List.{list_any}
use Rattle.gst_outside.specs.Causes.{Rose, plus, raised}
use Rattle.gst_outside.specs.Seen.{Seen, ToldRose}
use Rattle.run_files.specs.declared.end.Opening.{Opening}
use Rattle.run_files.specs.declared.end.Opening.TheVariants.{Read, Write}
use Rattle.run_files.specs.declared.end.Unopened.{Unopened}
use Rattle.run_files.specs.declared.end.Unopened.TheVariants.{Failed, OutOfMemory}
use Rattle.run_files.specs.Ends.{Known, present}

abbrev pub location_of : Opening → List ℕ
location_of (Read location) = location
location_of (Write location) = location

-- The end that an opening gives: a source of what is read there, or an empty sink, with the location, and no call of it
-- failed.
abbrev pub fresh_end : Seen → Opening → Known
fresh_end files (Read location) = record { is_sink = false; location = Some location; bytes = files.input location; faults = 0 }
fresh_end files (Write location) = record { is_sink = true; location = Some location; bytes = option_map (λ _. []) (files.output location); faults = 0 }

-- the ends that the openings of all elements give
abbrev pub fresh_ends : Seen → List (Option Opening) → List (Option Known)
fresh_ends files openings = map (option_map (fresh_end files)) openings

-- All of these were opened, and gave these ends; what is known of the locations stays.
pub record Opens (openings : List (Option Opening)) (opened : List (Option Known)) (before after : Seen) : Type 0 where
  pub made : opened ≡ fresh_ends before openings
  pub input : (l : List ℕ) → after.input l ≡ before.input l
  pub output : (l : List ℕ) → after.output l ≡ before.output l
  pub faults_of : (l : List ℕ) → after.faults_of l ≡ before.faults_of l
  pub refused_of : (l : List ℕ) → after.refused_of l ≡ before.refused_of l
  pub faults : before.faults ≤ after.faults
  pub count : after.ends ≡ plus before.ends (length (present openings))

-- whether an element asks to write a location
abbrev pub writes_to : List ℕ → Option Opening → Bool
writes_to location None = false
writes_to location (Some (Read read)) = false
writes_to location (Some (Write written)) = bytes_eq written location

-- All of these were opened and given back. What was opened for writing is empty; no end is left open.
pub record GivesBack (openings : List (Option Opening)) (before after : Seen) : Type 0 where
  pub input : (l : List ℕ) → after.input l ≡ before.input l
  pub output : (l : List ℕ) → after.output l ≡ (if list_any (writes_to l) openings then option_map (λ _. []) (before.output l) else before.output l)
  pub faults_of : (l : List ℕ) → after.faults_of l ≡ before.faults_of l
  pub faults : before.faults ≤ after.faults
  pub count : before.ends + length openings < 2 ^ 64 → after.ends ≡ before.ends

-- An opening was refused: the failures rose, and the refusals of its location.
pub record Refuses (opening : Opening) (before after : Seen) : Type 0 where
  pub rose : Rose before.faults after.faults
  pub rose_of : ToldRose (before.refused_of (location_of opening)) (after.refused_of (location_of opening))
  pub refused_of : (l : List ℕ) → after.refused_of l ≡ (if bytes_eq (location_of opening) l then option_map raised (before.refused_of l) else before.refused_of l)

-- The opening at a place was refused, and those before it were given back.
pub record FailsAt (openings : List (Option Opening)) (before after : Seen) (place : ℕ) : Type 0 where
  pub opening : Opening
  pub at : slice_get openings place ≡ Some (Some opening)
  pub refuses : Refuses opening before after
  pub back : GivesBack (take place openings) before after

-- Memory was wanting for some opening, and those before it were given back.
pub record Wants (openings : List (Option Opening)) (before after : Seen) : Type 0 where
  pub place : ℕ
  pub refused_of : (l : List ℕ) → after.refused_of l ≡ before.refused_of l
  pub back : GivesBack (take place openings) before after

-- why not all were opened
abbrev pub IsUnopened : List (Option Opening) → Seen → Seen → Unopened → Type 0
IsUnopened openings before after (Failed place) = FailsAt openings before after place
IsUnopened openings before after OutOfMemory = Wants openings before after
