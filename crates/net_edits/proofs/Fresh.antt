-- A pad that nothing crossed, at a moment.
use Rattle.std.proofs.Common.{◌≡◌, ℕ, List, [], refl, sym, ap}
use Rattle.flow_model.specs.Item.{Item, buffers}
use Rattle.flow_model.specs.Moment.{Moment}
use Rattle.pad_core.specs.Crossing.{has_ended}
use Rattle.task_edits.specs.Seeing.{SeenAt}
use Rattle.net_edits.specs.Seeing.{fresh_pad}
use Rattle.std.proofs.Common.{length}

pub fresh_at : (m : Moment) (pad : ℕ) → m.history pad ≡ [] → SeenAt m pad fresh_pad
fresh_at m pad none = record {
  here = [];
  tells = record { items = sym (ap (λ (xs : List Item). length xs) none); buffers_are = sym (ap buffers none); ended = sym (ap has_ended none); first = refl };
  later = m.waits pad;
  waits = refl;
}
