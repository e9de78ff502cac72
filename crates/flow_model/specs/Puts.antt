-- What an element with one sink pad and one source pad puts out for a call, whatever lists it stands for.
use Rattle.std.specs.Prelude.{◌≡◌, List, [], ◌∷◌, ◌++◌, Ok}
use Rattle.gst_item.specs.declared.out.Out.{Out}
use Rattle.flow_model.specs.Item.{Item}
use Rattle.flow_model.specs.Call.{Call}
use Rattle.flow_model.specs.Rule.{Response}
use Rattle.flow_model.specs.Feeding.{on_pad}
use Rattle.flow_model.specs.Owed.{owed_at}

-- It put out these items for a call, on its source pad. They are what each rule owes by which it stands, and it stands by the same
-- rules from then on.
pub record PutsBy {X E : Type 0} (rule : X → Response) (Stands : X → E → List Call → List Item → Type 0) (old new : E) (call : Call) (out out' : List Out) : Type 0 where
  pub more : List Item
  pub outs : out' ≡ out ++ on_pad 0 more
  pub owed : (x : X) (calls : List Call) (put : List Item) → Stands x old calls put → owed_at (rule x) calls call ≡ Ok more
  pub stands : (x : X) (calls : List Call) (put : List Item) → Stands x old calls put → Stands x new (calls ++ call ∷ []) (put ++ more)
