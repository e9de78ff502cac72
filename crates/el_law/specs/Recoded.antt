-- For which fed and put-out lists an element of a law stands.
use Rattle.std.specs.Prelude.{◌≡◌, List, map}
use Rattle.flow_model.specs.Item.{Item}
use Rattle.flow_model.specs.Section.{counted}
use Rattle.flow_model.specs.Call.{Call, items}
use Rattle.flow_model.specs.Rule.{Fed, unfed, all_called, owed_for}
use Rattle.flow_model.specs.Feeding.{has_eos}
use Rattle.el_law.specs.declared.kind.LawKind.{LawKind}
use Rattle.el_law.specs.declared.law.Law.{Law}
use Rattle.el_law.specs.Laws.{frame_in_force, recoded, recodes}
use Rattle.flow_model.specs.Looking.{bytes_since_flush as bytes_got}

-- how far its rule has come
abbrev pub recoding : LawKind → List Call → Fed
recoding kind calls = all_called (recodes kind) unfed calls

-- It is of this kind, was given the calls, of which none was a fault, and put out what is owed for them, each
-- FLUSH_STOP at its place: all that counts of what was fed, item by item recoded. It knows the bytes of a frame
-- of the caps in force, the bytes that came since the last FLUSH_STOP, and whether EOS was fed since then.
pub record Recoded (kind : LawKind) (law : Law) (calls : List Call) (put : List Item) : Type 0 where
  pub owed : put ≡ owed_for (recodes kind) calls
  pub all : put ≡ map (recoded kind) (counted (items calls))
  pub over : (recoding kind calls).over ≡ law.ended
  pub eos : has_eos calls ≡ law.ended
  pub kind_is : kind ≡ law.kind
  pub frame_is : frame_in_force kind (items (recoding kind calls).given) ≡ law.frame
  pub got_is : bytes_got (items (recoding kind calls).given) ≡ law.got
