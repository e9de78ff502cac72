use Rattle.std.proofs.Common.{◌∙◌}
use Rattle.gst_item.proofs.Kept.{in_order}
use Rattle.gst_item.proofs.sticky.Sticky.list.Goals as goal

pub returns : goal.returns
returns c = λ h e.
    in_order h _ _ _ _ _ _ (c.self.view_is ∙ e) (rw c.new-events.ensures at c.in_ok-add_copy.ensures)
    c.in_ok-add_copy-2.ensures c.in_ok-add_copy-3.ensures c.in_ok-add_copy-4.ensures c.in_ok-add_copy-5.ensures
