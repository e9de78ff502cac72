-- For which fed and put-out lists a filter of caps stands.
use Rattle.std.specs.Prelude.{◌≡◌, List}
use Rattle.gst_caps.specs.declared.caps.Caps.{Caps}
use Rattle.flow_model.specs.Item.{Item}
use Rattle.flow_model.specs.Section.{counted}
use Rattle.flow_model.specs.Call.{Call, items}
use Rattle.flow_model.specs.Rule.{Fed, unfed, all_called, owed_for}
use Rattle.flow_model.specs.Feeding.{has_eos}
use Rattle.el_basic.specs.declared.caps_filter.CapsFilter.{CapsFilter}
use Rattle.el_basic.specs.Filters.{filter_in, filters}
use Rattle.flow_model.specs.CapsInForce.{caps_in_force}

-- how far its rule has come
abbrev pub filtered : Caps → List Call → Fed
filtered first calls = all_called (filters first) unfed calls

-- It began with the first filter, was given the calls, of which none was a fault, and put out what is owed for
-- them, each FLUSH_STOP at its place: all that counts of what was fed. It knows the filter and the caps in force,
-- and whether EOS was fed since the last FLUSH_STOP.
pub record IsFilteredBy (first : Caps) (element : CapsFilter) (calls : List Call) (put : List Item) : Type 0 where
  pub owed : put ≡ owed_for (filters first) calls
  pub all : put ≡ counted (items calls)
  pub over : (filtered first calls).over ≡ element.ended
  pub eos : has_eos calls ≡ element.ended
  pub filter_is : filter_in first (filtered first calls).given ≡ element.filter
  pub caps_are : caps_in_force (items (filtered first calls).given) ≡ element.current
