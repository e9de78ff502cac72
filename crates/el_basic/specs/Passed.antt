-- For which fed and put-out lists an identity stands.
use Rattle.std.specs.Prelude.{◌≡◌, Bool, List}
use Rattle.flow_model.specs.Item.{Item}
use Rattle.flow_model.specs.Section.{counted}
use Rattle.flow_model.specs.Call.{Call, items}
use Rattle.flow_model.specs.Rule.{unfed, all_called, owed_for, passes}
use Rattle.flow_model.specs.Feeding.{has_eos}
use Rattle.el_basic.specs.declared.identity.Identity.{Identity}

-- whether EOS was fed since the last FLUSH_STOP
abbrev pub has_ended : Identity → Bool
has_ended identity = identity.ended

-- It was given the calls, and put out what is owed for them, each FLUSH_STOP at its place: all that counts of
-- what was fed. It knows whether EOS was fed since the last FLUSH_STOP.
pub record Passed (identity : Identity) (calls : List Call) (put : List Item) : Type 0 where
  pub owed : put ≡ owed_for passes calls
  pub all : put ≡ counted (items calls)
  pub over : (all_called passes unfed calls).over ≡ identity.ended
  pub eos : has_eos calls ≡ identity.ended
