use Rattle.std.proofs.Common.{◌≡◌, ◌&&◌, false, take}
use Rattle.std.specs.List.{list_any}
use Rattle.gst_caps.specs.Accepts.{takes}
use Rattle.gst_value.specs.Description.{Description}
use Rattle.gst_value.specs.declared.one.One.{One}
use Rattle.gst_caps.proofs.caps.some_meet.Given as goal

abbrev pub invariant-loop-one : goal.invariant-loop-one
invariant-loop-one l = (x : Description One) → (list_any (λ s. takes s x) (take l.one-index l.first) && list_any (λ s. takes s x) l.second) ≡ false
