use Rattle.std.proofs.Common.{arith, sym, ◌∙◌}
use Rattle.gst_value.proofs.NamesInOrder.{set-fields_with, insert-fields_with_other, insert-fields_with_end, length-fields_with_set, length-fields_with_insert}
use Rattle.gst_value.proofs.field.place_of.Goals as goal
use Rattle.gst_value.proofs.field.place_of.Goals.{else-place-fields-via-then-place-fields+else-eq, else-place-fields-via-else-place-fields}

pub returns-then-eq-clause-found : goal.returns-then-eq-clause-found
returns-then-eq-clause-found g c = λ v d.
    set-fields_with c.args.name.now v c.args.fields.now c.count_before-place.result d c.index-fields-place.result c.requires c.count_before-place.ensures.before c.if-place-fields.true (rw (← c.as_str.ensures) (sym c.eq.ensures ∙ c.if-eq.true))

pub returns-then-eq-clause-count : goal.returns-then-eq-clause-count
returns-then-eq-clause-count g c = λ v.
    length-fields_with_set c.args.name.now v c.args.fields.now c.count_before-place.result c.index-fields-place.result (returns-then-eq-clause-found g c v c.index-fields-place.result)

pub returns-else-place-fields-clause-absent : goal.returns-else-place-fields-clause-absent
returns-else-place-fields-clause-absent g c = λ v.
    elim c.else-place-fields.branch [
      | else-place-fields-via-then-place-fields+else-eq w ↦ insert-fields_with_other c.args.name.now v c.args.fields.now c.count_before-place.result w.index-fields-place.result c.requires c.count_before-place.ensures.before w.if-place-fields.true (c.count_before-place.ensures.behind w.index-fields-place.result w.if-place-fields.true) (rw (← w.as_str.ensures) (sym w.eq.ensures ∙ w.if-eq.false))
      | else-place-fields-via-else-place-fields w ↦ insert-fields_with_end c.args.name.now v c.args.fields.now c.count_before-place.result c.requires c.count_before-place.ensures.before (let h = c.count_before-place.ensures.within in omega (arith, h))
    ]

pub returns-else-place-fields-clause-count : goal.returns-else-place-fields-clause-count
returns-else-place-fields-clause-count g c = λ v.
    length-fields_with_insert c.args.name.now v c.args.fields.now c.count_before-place.result c.count_before-place.ensures.within (returns-else-place-fields-clause-absent g c v)
