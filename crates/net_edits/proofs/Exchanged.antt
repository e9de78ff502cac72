-- A row of a task is taken out, and put back with more behind what stood there.
use Rattle.std.proofs.Common.{◌≡◌, ◌++◌, ℕ, zero, suc, List, [], ◌∷◌, Some, length, refl, sym, ap, ◌∙◌, subst}
use Rattle.std.specs.Prelude.{slice_get, slice_set}
use Rattle.std.proofs.lemmas.Option.{slice_get_within}
use Rattle.gst_value.proofs.Basics.{some_same}
use Rattle.gst_value.proofs.Places.{set_at}
use Rattle.inlet_row.specs.Row.{feeds_of}
use Rattle.inlet_row.specs.declared.feeding.Feeding.{Feeding}
use Rattle.inlet_row.specs.declared.row.InletRow.{InletRow}
use Rattle.lane_core.specs.declared.ends.Inlet as inlets
use Rattle.lane_core.specs.declared.ends.Outlet as outlets
use Rattle.flow_model.specs.declared.element.TaskElement as elements
use Rattle.flow_model.specs.declared.source.TaskSource as sources
use Rattle.task_pads.proofs.Lists.{set_length}
use Rattle.task_parts.specs.declared.head.Head.{Head}
use Rattle.task_parts.specs.declared.head.InletHead.{InletHead}
use Rattle.net_task.specs.declared.task.Task.{Task}
use Rattle.net_turns.specs.Net.{HasRow}
use Rattle.net_edits.specs.Over.{HasRowOf, IsExchangedAt, IsGrownAt}
use Rattle.net_edits.proofs.NetGrown.{inlets_same}

-- what is put where something was put before
set_again : {A : Type 0} (xs : List A) (k : ℕ) (x y : A) → slice_set (slice_set xs k x) k y ≡ slice_set xs k y
set_again [] k x y = refl
set_again (z ∷ zs) zero x y = refl
set_again (z ∷ zs) (suc k) x y = ap (λ (ws : List _). z ∷ ws) (set_again zs k x y)

module _ {S E I O L : Type 0} {s : sources.Ghosts S} {e : elements.Ghosts E} {i : inlets.Ghosts I L O} {o : outlets.Ghosts O L} where
  module _ (tasks tasks' : List (Task S E I O L s e i o)) (place port : ℕ) (row back : InletRow I) (z : IsExchangedAt tasks tasks' place port row back) where
    here : slice_get tasks' place ≡ Some z.is
    here = ap (λ (ts : List (Task S E I O L s e i o)). slice_get ts place) z.set ∙ set_at tasks place z.was z.is z.at

    row_here : slice_get z.exchanged.new.rows.items port ≡ Some row
    row_here = ap (λ (rows : List (InletRow I)). slice_get rows port) z.exchanged.rows.set ∙ set_at z.exchanged.old.rows.items port back row z.exchanged.rows.at

    pub exchanged_size : length tasks' ≡ length tasks
    exchanged_size = ap (λ (ts : List (Task S E I O L s e i o)). length ts) z.set ∙ set_length tasks place z.is

    -- the task has a row there still
    pub exchanged_has : (task : Task S E I O L s e i o) → slice_get tasks' place ≡ Some task → HasRowOf task.head port
    exchanged_has task at =
        subst (λ (t : Task S E I O L s e i o). HasRowOf t.head port) (some_same (sym here ∙ at))
        (subst (λ (h : Head S I O s). HasRowOf h port) (sym z.exchanged.fed) (slice_get_within z.exchanged.new.rows.items port row row_here))

    module _ (element : ℕ) (was : InletRow I) (h : HasRow tasks place element port was) where
      same_inlets : z.exchanged.old ≡ h.head
      same_inlets = inlets_same z.exchanged.old h.head z.was.head z.exchanged.was_fed (ap (λ (t : Task S E I O L s e i o). t.head) (some_same (sym z.at ∙ h.fed.at)) ∙ h.fed.head_is)

      -- the row that was there was given back
      pub row_taken : was ≡ back
      row_taken = some_same (sym h.at ∙ ap (λ (head : InletHead I). slice_get head.rows.items port) (sym same_inlets) ∙ z.exchanged.rows.at)

      -- the one that was put there is there
      pub row_put : HasRow tasks' place element port row
      row_put = record {
        head = z.exchanged.new;
        fed = record { task = z.is; at = here; head_is = z.exchanged.fed };
        number = z.exchanged.rows.number ∙ ap (λ (head : InletHead I). head.number) same_inlets ∙ h.number;
        at = row_here;
      }

  module _ (tasks mid tasks' : List (Task S E I O L s e i o)) (place port : ℕ) (empty row grown back : InletRow I) (out : IsExchangedAt tasks mid place port empty row) (into : IsExchangedAt mid tasks' place port grown back) where
    same_was : into.was ≡ out.is
    same_was = some_same (sym into.at ∙ here tasks mid place port empty row out)

    same_head : into.exchanged.old ≡ out.exchanged.new
    same_head = inlets_same into.exchanged.old out.exchanged.new into.was.head into.exchanged.was_fed (ap (λ (t : Task S E I O L s e i o). t.head) same_was ∙ out.exchanged.fed)

    -- A row that was taken out and put back with more behind what stood there has grown.
    pub grown_by : (more : List (Feeding I)) → feeds_of grown ≡ feeds_of row ++ more → IsGrownAt tasks tasks' place port more
    grown_by more feeds = record {
      was = out.was;
      is = into.is;
      at = out.at;
      set = into.set ∙ ap (λ (ts : List (Task S E I O L s e i o)). slice_set ts place into.is) out.set ∙ set_again tasks place out.is into.is;
      grew = record {
        old = out.exchanged.old;
        new = into.exchanged.new;
        was_fed = out.exchanged.was_fed;
        fed = into.exchanged.fed;
        grew = record {
          number = into.exchanged.rows.number ∙ ap (λ (head : InletHead I). head.number) same_head ∙ out.exchanged.rows.number;
          hint = into.exchanged.rows.hint ∙ ap (λ (head : InletHead I). head.hint) same_head ∙ out.exchanged.rows.hint;
          row = row;
          grown = grown;
          at = out.exchanged.rows.at;
          set = into.exchanged.rows.set ∙ ap (λ (rows : List (InletRow I)). slice_set rows port grown) (ap (λ (head : InletHead I). head.rows.items) same_head ∙ out.exchanged.rows.set) ∙ set_again out.exchanged.old.rows.items port empty grown;
          feeds = feeds;
        };
        parts = into.exchanged.parts ∙ ap (λ (t : Task S E I O L s e i o). t.parts.items) same_was ∙ out.exchanged.parts;
      };
    }
