use Rattle.std.proofs.Common.{◌++◌, ◌≤◌, ◌-◌, ◌⊎◌, inl, inr, take, drop, length, sym, ap, ◌∙◌, refl}
use Rattle.gst_caps.specs.Passes.{fields_pass}
use Rattle.gst_value.proofs.Limit.{over_from}
use Rattle.gst_caps.proofs.Merging.{merged_end, pass-append}
use Rattle.gst_caps.proofs.merge.merged_fields.Goals as goal
use Rattle.gst_caps.proofs.merge.merged_fields.Goals.{then-loop-field-test+else-place-others, else-loop-field-test}

pub returns-clause-ok : goal.returns-clause-ok
returns-clause-ok c =
    let over : (length c.args.fields.now ≤ c.loop-field.field) ⊎ (length c.args.others.now ≤ c.loop-field.place) = elim c.loop-field-test.branch [ then-loop-field-test+else-place-others w ↦ inr w.if-place-others.false | else-loop-field-test w ↦ inl w.loop-field-test.false ] in
    merged_end c.args.fields.now c.args.others.now _ _ _ c.loop-field.field c.loop-field.place c.loop-field.invariant.0 over c.in_ok-add_rest.ensures.ok c.in_ok-add_rest-2.ensures.ok

pub returns-clause-too_many : goal.returns-clause-too_many
returns-clause-too_many c = λ h.
    let within = c.in_ok-add_rest-2.ensures.within in
    let same = ap fields_pass (returns-clause-ok c) in
    cc

pub returns-in_err-add_rest-clause-too_many : goal.returns-in_err-add_rest-clause-too_many
returns-in_err-add_rest-clause-too_many c =
    let over : (length c.args.fields.now ≤ c.loop-field.field) ⊎ (length c.args.others.now ≤ c.loop-field.place) = elim c.loop-field-test.branch [ then-loop-field-test+else-place-others w ↦ inr w.if-place-others.false | else-loop-field-test w ↦ inl w.loop-field-test.false ] in
    let rest = take (length c.args.others.now - c.loop-field.place) (drop c.loop-field.place c.args.others.now) in
    let whole = merged_end c.args.fields.now c.args.others.now _ _ _ c.loop-field.field c.loop-field.place c.loop-field.invariant.0 over refl refl in
    over_from _ _ _ _ c.from_residual-in_err-add_rest.ensures.1 c.in_err-add_rest.ensures.too_many
    (λ q. sym (ap fields_pass whole) ∙ pass-append (c.loop-field.made.items ++ take (length c.args.fields.now - c.loop-field.field) (drop c.loop-field.field c.args.fields.now)) rest q)
