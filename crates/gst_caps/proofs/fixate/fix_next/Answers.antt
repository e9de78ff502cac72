use Rattle.std.proofs.Common.{sym, ◌∙◌}
use Rattle.gst_caps.proofs.Fixing.{fix_step, least_common_is}
use Rattle.gst_caps.proofs.Merging.{from_first, from_second, from_both}
use Rattle.gst_caps.proofs.fixate.fix_next.Goals as goal

pub returns-in_ok-add_fixed-in-Less-clause-ok : goal.returns-in_ok-add_fixed-in-Less-clause-ok
returns-in_ok-add_fixed-in-Less-clause-ok c =
    fix_step _ _ _ _ _ c.index-fields-field.result.1 _ c.in_ok-add_fixed-in-Less.ensures c.in_ok-value-in-Less.ensures (from_first c.args.fields.now c.args.others.now c.args.field c.args.place c.index-fields-field.result c.index-others-place.result c.requires.fields c.requires.others c.requires.field c.requires.place c.index-fields-field.is c.index-others-place.is (sym c.in-Less.ensures))

pub returns-in_ok-add_fixed-in-Greater-clause-ok : goal.returns-in_ok-add_fixed-in-Greater-clause-ok
returns-in_ok-add_fixed-in-Greater-clause-ok c =
    fix_step _ _ _ _ _ c.index-others-place.result.1 _ c.in_ok-add_fixed-in-Greater.ensures c.in_ok-value-in-Greater.ensures (from_second c.args.fields.now c.args.others.now c.args.field c.args.place c.index-fields-field.result c.index-others-place.result c.requires.fields c.requires.others c.requires.field c.requires.place c.index-fields-field.is c.index-others-place.is (sym c.in-Greater.ensures))

pub returns-in_ok-add_fixed-in-Equal-clause-ok : goal.returns-in_ok-add_fixed-in-Equal-clause-ok
returns-in_ok-add_fixed-in-Equal-clause-ok c =
    fix_step _ _ _ _ _ _ _ c.in_ok-add_fixed-in-Equal.ensures (c.in_ok-value-in-Equal.ensures ∙ least_common_is c.index-fields-field.result.1 c.index-others-place.result.1) (from_both c.args.fields.now c.args.others.now c.args.field c.args.place c.index-fields-field.result c.index-others-place.result c.requires.fields c.requires.others c.requires.field c.requires.place c.index-fields-field.is c.index-others-place.is (sym c.in-Equal.ensures))
