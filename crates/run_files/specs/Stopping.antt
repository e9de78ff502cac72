-- Openings that stopped at one that gave no end.
use Rattle.std.specs.Prelude.{◌≡◌, ◌≤◌, ℕ, List, Option, None, Some, slice_get, take}
use Rattle.gst_outside.specs.Seen.{Seen}
use Rattle.gst_outside.specs.declared.opening.OpenEnd.{OpenEnd}
use Rattle.gst_outside.specs.declared.opening.OpenEnd.TheVariants as refusals
use Rattle.run_files.specs.declared.end.Opening.{Opening}
use Rattle.run_files.specs.declared.end.Unopened.{Unopened}
use Rattle.run_files.specs.declared.end.Unopened.TheVariants.{Failed, OutOfMemory}
use Rattle.run_files.specs.Ends.{Known}
use Rattle.run_files.specs.Opening.{Opens, Refuses}

-- An opening that gave no end: nothing changed but the failures and, where it was refused, the refusals.
pub record Untouched (before after : Seen) : Type 0 where
  pub input : (l : List ℕ) → after.input l ≡ before.input l
  pub output : (l : List ℕ) → after.output l ≡ before.output l
  pub faults_of : (l : List ℕ) → after.faults_of l ≡ before.faults_of l
  pub faults : before.faults ≤ after.faults
  pub count : after.ends ≡ before.ends

abbrev pub RefusedBy : Option Opening → Seen → Seen → OpenEnd → Type 0
RefusedBy None before after why = ⊥
RefusedBy (Some opening) before after refusals.Failed = Untouched before after × Refuses opening before after
RefusedBy (Some opening) before after refusals.OutOfMemory = Untouched before after × ((l : List ℕ) → after.refused_of l ≡ before.refused_of l)

-- The openings before a place gave these ends, up to some moment, and the one at the place gave none.
pub record StopsAt (openings : List (Option Opening)) (opened : List (Option Known)) (before after : Seen) (place : ℕ) (why : OpenEnd) : Type 0 where
  pub moment : Seen
  pub opening : Option Opening
  pub at : slice_get openings place ≡ Some opening
  pub opens : Opens (take place openings) opened before moment
  pub refused : RefusedBy opening moment after why

abbrev pub Stops : List (Option Opening) → List (Option Known) → Seen → Seen → Unopened → Type 0
Stops openings opened before after (Failed place) = StopsAt openings opened before after place refusals.Failed
Stops openings opened before after OutOfMemory = (place : ℕ) × StopsAt openings opened before after place refusals.OutOfMemory
