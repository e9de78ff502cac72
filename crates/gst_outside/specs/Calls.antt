-- Calls on objects in memory, some of which are to fail.
use Rattle.std.specs.Prelude.{ℕ, Bool, List, ◌==◌}
use Rattle.std.specs.List.{list_any}
use Rattle.gst_outside.specs.Causes.{raised}
use Rattle.gst_outside.specs.declared.calls.Calls.{Calls}

-- whether a list of numbers has this one
abbrev pub is_listed : List ℕ → ℕ → Bool
is_listed numbers number = list_any (λ n. n == number) numbers

-- no call yet, and the numbers of those that are to fail
abbrev pub new_calls : List ℕ → Calls
new_calls failing = record { made = 0; failing = failing }

-- whether the next call is to fail
abbrev pub next_fails : Calls → Bool
next_fails calls = is_listed calls.failing (raised calls.made)

-- one more call
abbrev pub counted : Calls → Calls
counted calls = record calls { made = raised calls.made }
