use Rattle.std.proofs.Common.{◌≡◌, sym, ◌∙◌, length, arith}
use Rattle.gst_caps.proofs.Same.{one_more, differs, over, uneven, given_at, media_differ, fields_differ, all_same}
use Rattle.gst_caps.proofs.equal.same_caps.Goals as goal

pub returns-then-ne : goal.returns-then-ne
returns-then-ne c = media_differ c.args.one.now c.args.other.now _ _ c.media.ensures c.media-2.ensures c.if-ne.ensures

pub returns-then-fields : goal.returns-then-fields
returns-then-fields c = fields_differ c.args.one.now c.args.other.now (uneven c.args.one.now.fields c.args.other.now.fields (λ h. c.if-fields.true (c.fields.ensures.count ∙ h ∙ sym c.fields-2.ensures.count)))

pub returns-then-not-same_at : goal.returns-then-not-same_at
returns-then-not-same_at c =
    let one = c.args.one.now.fields in
    let other = c.args.other.now.fields in
    let even : length one ≡ length other = sym c.fields.ensures.count ∙ c.if-fields.false ∙ c.fields-2.ensures.count in
    fields_differ c.args.one.now c.args.other.now
    (c.loop-place.invariant ∙ differs one other c.loop-place.place (omega arith) even (given_at _ one other c.loop-place.place _ _ _ _ c.same_at.ensures c.field.ensures c.field-in-loop-place.ensures c.if-not-same_at.true))

pub loop-place-preserved : goal.loop-place-preserved
loop-place-preserved c =
    let one = c.args.one.now.fields in
    let other = c.args.other.now.fields in
    one_more one other c.loop-place.place _ c.loop-place.invariant (given_at _ one other c.loop-place.place _ _ _ _ c.same_at.ensures c.field.ensures c.field-in-loop-place.ensures c.if-not-same_at.false)

pub returns : goal.returns
returns c =
    let one = c.args.one.now.fields in
    let other = c.args.other.now.fields in
    let even : length one ≡ length other = sym c.fields.ensures.count ∙ c.if-fields.false ∙ c.fields-2.ensures.count in
    all_same c.args.one.now c.args.other.now _ _ c.media.ensures c.media-2.ensures c.if-ne.ensures (c.loop-place.invariant ∙ over one other c.loop-place.place (omega arith) even)
