-- For which fed and put-out lists a valve stands.
use Rattle.std.specs.Prelude.{◌≡◌, Bool, List, filter}
use Rattle.gst_item.specs.declared.out.Out.{Out}
use Rattle.flow_model.specs.Item.{Item}
use Rattle.flow_model.specs.Sticky.{in_force}
use Rattle.flow_model.specs.Call.{Call, items}
use Rattle.flow_model.specs.Rule.{Fed, unfed, all_called, owed_for, not_eos}
use Rattle.flow_model.specs.Feeding.{has_eos}
use Rattle.flow_model.specs.Puts.{PutsBy}
use Rattle.el_basic.specs.declared.valve.Valve.{Valve}
use Rattle.el_basic.specs.Valves.{drops_in, dropped_lately, valves}

-- how far its rule has come
abbrev pub valving : Bool → List Call → Fed
valving first calls = all_called (valves first) unfed calls

-- It dropped at first or not, was given the calls, and put out what is owed for them, each FLUSH_STOP at its place. It knows
-- whether it drops and whether it dropped lately, the sticky events in force but EOS, and whether EOS was fed since the last
-- FLUSH_STOP.
pub record Valved (first : Bool) (valve : Valve) (calls : List Call) (put : List Item) : Type 0 where
  pub owed : put ≡ owed_for (valves first) calls
  pub over : (valving first calls).over ≡ valve.ended
  pub eos : has_eos calls ≡ valve.ended
  pub drops_is : drops_in first (valving first calls).given ≡ valve.drops
  pub lately_is : dropped_lately first (valving first calls).given ≡ valve.lately
  pub sticky_is : valve.sticky ≡ in_force (filter not_eos (items (valving first calls).given))

-- It put out for a call what each rule owes by which it stands.
abbrev pub Puts : Valve → Valve → Call → List Out → List Out → Type 0
Puts old new call out out' = PutsBy valves Valved old new call out out'
