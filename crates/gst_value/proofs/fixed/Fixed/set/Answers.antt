use Rattle.std.proofs.Common.{ℕ, List, arith}
use Rattle.gst_value.specs.Description.{IsFixed}
use Rattle.gst_value.specs.Names.{fields_with}
use Rattle.gst_value.specs.Values.{IsSingle}
use Rattle.gst_value.specs.declared.one.One.{One}
use Rattle.gst_value.proofs.NamesInOrder.{Rises-fields_with, Each-fields_with, after_set}
use Rattle.gst_value.proofs.fixed.Fixed.set.Goals as goal

pub invariant_of-self : goal.invariant_of-self
invariant_of-self c =
    let Q : List (List ℕ × One) → Type 0 = λ fs. IsFixed (record { media = c.self.inside.media; fields = fs }) in
    after_set c.set_field.result c.self.inside.fields.items c.set_field.new.fields.items (fields_with c.args.name.now c.args.value c.self.inside.fields.items) Q c.set_field.ensures.ok c.set_field.ensures.err c.set_field.ensures.too_many c.self.invariant
    (λ few. record { ordered = Rises-fields_with _ _ _ c.self.invariant.ordered; values = Each-fields_with IsSingle _ _ _ c.requires c.self.invariant.values; few = omega (arith, few) })
