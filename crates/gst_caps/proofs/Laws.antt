-- What is common to two values contains what both contain.
use Rattle.std.proofs.Common.{◌≡◌, true, ◌&&◌, ap, ◌∙◌}
use Rattle.std.specs.List.{list_any}
use Rattle.gst_caps.proofs.Merging.{members-as_value}
use Rattle.gst_caps.specs.Common.{members, contains, common, as_value, have_common}
use Rattle.gst_value.specs.Common.{holds, common_one, commons}
use Rattle.gst_value.specs.declared.one.One.{One}
use Rattle.gst_caps.specs.declared.value.Value.{Value}
use Rattle.gst_value.proofs.Laws.{any_some, any-distinct, commons_law}
use Rattle.gst_value.proofs.Basics.{and_both as and_true}

-- the common values of two values contain what both contain
pub value_law : (v w : Value) (o : One) → contains (as_value (common v w)) o ≡ (contains v o && contains w o)
value_law v w o = ap (list_any (λ m. holds m o)) (members-as_value (common v w)) ∙ any-distinct o (commons (members v) (members w)) ∙ commons_law (members v) (members w) o

-- two values that contain one have something in common
pub meet_at : (v w : Value) (o : One) → contains v o ≡ true → contains w o ≡ true → have_common v w ≡ true
meet_at v w o h k = any_some (λ m. holds m o) common_one (members v) (members w) (commons_law (members v) (members w) o ∙ and_true _ _ h k)
