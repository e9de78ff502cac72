-- What an element put out goes to its pads, and what waits there is taken.
use Rattle.std.specs.Prelude.{◌≡◌, ℕ, false, List, [], ◌∷◌, ◌++◌, Option, None, Some, slice_get}
use Rattle.gst_item.specs.declared.out.Out.{Out}
use Rattle.flow_model.specs.Item.{Item, is_flush_stop}
use Rattle.flow_model.specs.Takes.{on_port}
use Rattle.task_pads.specs.declared.pad.Pad.{Pad}
use Rattle.task_pads.specs.Pads.{rest_of, waiting_of}

-- the oldest item that waited was taken, and it is no FLUSH_STOP; or none waited
abbrev pub IsTaken : {O : Type 0} → Pad O → Pad O → Option Item → Type 0
IsTaken old new None = (waiting_of old ≡ []) × (waiting_of new ≡ [])
IsTaken old new (Some item) = (waiting_of old ≡ item ∷ waiting_of new) × (is_flush_stop item ≡ false)

-- the first is no FLUSH_STOP
abbrev pub FirstNoFlush : List Out → Type 0
FirstNoFlush [] = Unit {0}
FirstNoFlush (out ∷ outs) = is_flush_stop out.item ≡ false

-- the first goes behind what waits
pub record MovesFirst (outs outs' : List Out) (waiting waiting' : List Item) : Type 0 where
  pub first : Out
  pub whole : outs ≡ first ∷ outs'
  pub waits : waiting' ≡ waiting ++ first.item ∷ []

-- The pad of a place: what waits there, and what is still to go there, is what it was.
pub record SpreadAt {O : Type 0} (pads : List (Pad O)) (out out' : List Out) (place : ℕ) (pad : Pad O) : Type 0 where
  pub was : Pad O
  pub at : slice_get pads place ≡ Some was
  pub rest : rest_of pad ≡ rest_of was
  pub waiting : waiting_of pad ++ on_port place out' ≡ waiting_of was ++ on_port place out

-- so it is at each pad
abbrev pub Spread : {O : Type 0} → List Out → List Out → List (Pad O) → List (Pad O) → Type 0
Spread {O = O} out out' pads pads' = (place : ℕ) (pad : Pad O) → slice_get pads' place ≡ Some pad → SpreadAt pads out out' place pad
