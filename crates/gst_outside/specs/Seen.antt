-- What files tell, and what their calls leave of it.
use Rattle.std.specs.Prelude.{◌≡◌, ◌≤◌, ◌-◌, ℕ, if◌then◌else◌, List, Option, None, Result, IfErr, bytes_eq, is_ok, option_map}
use Rattle.std.specs.Option.{ForSome}
use Rattle.gst_outside.specs.Causes.{OpenCause, Rose, plus, raised, refused_after}
use Rattle.gst_outside.specs.Places.{is_at}
use Rattle.gst_outside.specs.declared.opening.OpenEnd.{OpenEnd}

-- Of each location, where it is told: what a source that is opened there reads, what the sink that was closed last left
-- there, how many calls failed of the ends that were closed there, and how many openings of it answered Failed. Of all
-- together: the failures of openings and of closed ends, and the ends that were given out and not yet closed.
pub record Seen : Type 0 where
  pub input : List ℕ → Option (List ℕ)
  pub output : List ℕ → Option (List ℕ)
  pub faults_of : List ℕ → Option ℕ
  pub refused_of : List ℕ → Option ℕ
  pub faults : ℕ
  pub ends : ℕ

-- nothing told of any location, and these counts
abbrev pub untold : ℕ → ℕ → Seen
untold faults ends = record {
  input = λ _. None;
  output = λ _. None;
  faults_of = λ _. None;
  refused_of = λ _. None;
  faults = faults;
  ends = ends;
}

-- a count that is told of a location rose
abbrev pub ToldRose : Option ℕ → Option ℕ → Type 0
ToldRose before after = ForSome before (λ b. ForSome after (λ a. Rose b a))

-- what an opening of a location leaves: it counts an end, or a refusal with its cause
pub record AfterOpening {T : Type 0} (location : List ℕ) (result : Result T OpenEnd) (before after : Seen) : Type 0 where
  pub input : (l : List ℕ) → after.input l ≡ before.input l
  pub output : (l : List ℕ) → after.output l ≡ before.output l
  pub faults_of : (l : List ℕ) → after.faults_of l ≡ before.faults_of l
  pub refused_of : (l : List ℕ) → after.refused_of l ≡ (if bytes_eq location l then refused_after result (before.refused_of l) else before.refused_of l)
  pub never_falls : before.faults ≤ after.faults
  pub cause : IfErr result (λ why. OpenCause why before.faults after.faults)
  pub ends : after.ends ≡ (if is_ok result then raised before.ends else before.ends)

-- what the closing of an end with so many failures leaves, but for the output of its location
pub record AfterClosing (location : Option (List ℕ)) (failures : ℕ) (before after : Seen) : Type 0 where
  pub input : (l : List ℕ) → after.input l ≡ before.input l
  pub faults_of : (l : List ℕ) → after.faults_of l ≡ (if is_at location l then option_map (λ n. plus n failures) (before.faults_of l) else before.faults_of l)
  pub refused_of : (l : List ℕ) → after.refused_of l ≡ before.refused_of l
  pub never_falls : before.faults ≤ after.faults
  pub faults : after.faults ≡ plus before.faults failures
  pub ends : after.ends ≡ before.ends - 1
