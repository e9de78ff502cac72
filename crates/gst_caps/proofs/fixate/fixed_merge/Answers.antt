use Rattle.std.proofs.Common.{◌≤◌, ◌⊎◌, inl, inr, length}
use Rattle.gst_caps.proofs.Fixing.{fix_end}
use Rattle.gst_caps.proofs.fixate.fixed_merge.Goals as goal
use Rattle.gst_caps.proofs.fixate.fixed_merge.Goals.{then-loop-field-test+else-place-others, else-loop-field-test}

pub returns : goal.returns
returns c =
    let over : (length c.args.fields.now ≤ c.loop-field.field) ⊎ (length c.args.others.now ≤ c.loop-field.place) = elim c.loop-field-test.branch [ then-loop-field-test+else-place-others w ↦ inr w.if-place-others.false | else-loop-field-test w ↦ inl w.loop-field-test.false ] in
    fix_end c.args.fields.now c.args.others.now _ _ _ c.loop-field.field c.loop-field.place c.loop-field.invariant.0 over c.in_ok-fix_rest.ensures c.in_ok-fix_rest-2.ensures
