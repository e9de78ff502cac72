-- What the selector tells of a sink pad: whether it had EOS, and how an item is answered.
use Rattle.std.proofs.Common.{◌≡◌, ℕ, Bool, if◌then◌else◌, Some, List, sym, ap, ◌∙◌}
use Rattle.std.specs.Prelude.{slice_get}
use Rattle.gst_item.specs.declared.flow.Flow.{Flow}
use Rattle.gst_item.specs.declared.flow.Flow.TheVariants.{Ok as Taken, Eos as BehindEos}
use Rattle.flow_model.specs.Item.{Item}
use Rattle.flow_model.specs.Call.{Call}
use Rattle.flow_model.specs.Feeding.{has_eos, flow_behind}
use Rattle.flow_model.specs.SinkPads.{calls_at}
use Rattle.el_select.specs.declared.pad.Pad.{Pad}
use Rattle.el_select.specs.declared.selector.Selector.{Selector}
use Rattle.el_select.specs.Selections.{Selection}
use Rattle.el_select.specs.Selects.{ended_of, Remembers, Selects}
use Rattle.el_select.proofs.Knowing.{ended_at}

pub ended_told : (element : Selector) (k : ℕ) (p : Pad) → slice_get element.pads.items k ≡ Some p
    → (ss : List Selection) (took : List (List Call)) → Remembers element ss took → p.ended ≡ has_eos (calls_at k took)
ended_told element k p at ss took r = sym (ended_at element.pads.items took r.each k ∙ ap ended_of at)

abbrev flow_for : Bool → Flow
flow_for ended = if ended then BehindEos else Taken

pub flow_told : (element : Selector) (k : ℕ) (p : Pad) (ended : Bool) → slice_get element.pads.items k ≡ Some p → p.ended ≡ ended
    → (ss : List Selection) (took : List (List Call)) (put : List Item) → Selects element ss took put → flow_for ended ≡ flow_behind (calls_at k took)
flow_told element k p ended at is ss took put s = ap flow_for (sym is ∙ ended_told element k p at ss took s.remembers)

-- the pad that is active
pub over_at : (element : Selector) (p : Pad) (k : ℕ) → slice_get element.pads.items k ≡ Some p → k ≡ element.active
    → ended_of (slice_get element.pads.items element.active) ≡ p.ended
over_at element p k at here = ap (λ (n : ℕ). ended_of (slice_get element.pads.items n)) (sym here) ∙ ap ended_of at
