use Rattle.std.proofs.Common.{◌∷◌, ◌+◌, sym, ap, ◌∙◌}
use Rattle.gst_caps.specs.Merge.{merged_from}
use Rattle.gst_value.proofs.Limit.{err_from}
use Rattle.gst_caps.proofs.Merging.{add_step, over_members_of, from_first, from_second, from_both}
use Rattle.gst_caps.proofs.merge.merge_next.Goals as goal

pub returns-in_ok-add_field-in-Less-clause-ok : goal.returns-in_ok-add_field-in-Less-clause-ok
returns-in_ok-add_field-in-Less-clause-ok c =
    add_step _ _ _ _ _ c.in_ok-add_field-in-Less.ensures.ok (from_first c.args.fields.now c.args.others.now c.args.field c.args.place c.index-fields-field.result c.index-others-place.result c.requires.fields c.requires.others c.requires.field c.requires.place c.index-fields-field.is c.index-others-place.is (sym c.in-Less.ensures) ∙ ap (λ v. (c.index-fields-field.result.0, v) ∷ merged_from (c.args.field + 1) c.args.place c.args.fields.now c.args.others.now) (sym c.in_ok-value-in-Less.ensures))

pub returns-in_ok-add_field-in-Greater-clause-ok : goal.returns-in_ok-add_field-in-Greater-clause-ok
returns-in_ok-add_field-in-Greater-clause-ok c =
    add_step _ _ _ _ _ c.in_ok-add_field-in-Greater.ensures.ok (from_second c.args.fields.now c.args.others.now c.args.field c.args.place c.index-fields-field.result c.index-others-place.result c.requires.fields c.requires.others c.requires.field c.requires.place c.index-fields-field.is c.index-others-place.is (sym c.in-Greater.ensures) ∙ ap (λ v. (c.index-others-place.result.0, v) ∷ merged_from c.args.field (c.args.place + 1) c.args.fields.now c.args.others.now) (sym c.in_ok-value-in-Greater.ensures))

pub returns-in_ok-add_field-in-Equal-clause-ok : goal.returns-in_ok-add_field-in-Equal-clause-ok
returns-in_ok-add_field-in-Equal-clause-ok c =
    add_step _ _ _ _ _ c.in_ok-add_field-in-Equal.ensures.ok (from_both c.args.fields.now c.args.others.now c.args.field c.args.place c.index-fields-field.result c.index-others-place.result c.requires.fields c.requires.others c.requires.field c.requires.place c.index-fields-field.is c.index-others-place.is (sym c.in-Equal.ensures) ∙ ap (λ v. (c.index-fields-field.result.0, v) ∷ merged_from (c.args.field + 1) (c.args.place + 1) c.args.fields.now c.args.others.now) (sym c.in_ok-value-in-Equal.ensures.ok))

pub returns-in_err-value-in-Equal-clause-too_many : goal.returns-in_err-value-in-Equal-clause-too_many
returns-in_err-value-in-Equal-clause-too_many c =
    err_from _ _ _ _ c.from_residual-in_err-value-in-Equal.ensures.1 c.in_err-value-in-Equal.ensures.too_many
    (λ q. over_members_of c.args.made.now.items (merged_from (c.args.field + 1) (c.args.place + 1) c.args.fields.now c.args.others.now) _ _ c.index-fields-field.result.1 c.index-others-place.result.1 (from_both c.args.fields.now c.args.others.now c.args.field c.args.place c.index-fields-field.result c.index-others-place.result c.requires.fields c.requires.others c.requires.field c.requires.place c.index-fields-field.is c.index-others-place.is (sym c.in-Equal.ensures)) q)
