-- The caps in force behind one more item.
use Rattle.std.proofs.Common.{◌≡◌, if◌then◌else◌, List, [], ◌∷◌, ◌++◌, refl}
use Rattle.gst_item.proofs.Kept.{latest_push}
use Rattle.flow_model.specs.Item.{Item, Buf, Ev, StreamStart, NewCaps, NewSegment, Tag, Gap, FlushStop, Eos, is_caps}
use Rattle.flow_model.specs.Sticky.{latest}
use Rattle.flow_model.specs.Call.{Call, Feed, items}
use Rattle.flow_model.specs.CapsInForce.{caps_of, caps_in_force, caps_behind}
use Rattle.flow_model.proofs.Calls.{items_push}

pub caps_by : (x : Item) (h : List Item) → caps_of (if is_caps x then x ∷ [] else latest is_caps h) ≡ caps_behind (caps_in_force h) x
caps_by (Buf b) h = refl
caps_by (Ev (StreamStart id)) h = refl
caps_by (Ev (NewCaps caps)) h = refl
caps_by (Ev (NewSegment segment)) h = refl
caps_by (Ev (Tag title)) h = refl
caps_by (Ev (Gap pts duration)) h = refl
caps_by (Ev (FlushStop number)) h = refl
caps_by (Ev Eos) h = refl

pub caps_fed : (calls : List Call) (x : Item) → caps_in_force (items (calls ++ Feed x ∷ [])) ≡ caps_behind (caps_in_force (items calls)) x
caps_fed calls x = rw (items_push calls x, latest_push is_caps (items calls) x) (caps_by x (items calls))
