use Rattle.std.proofs.Common.{List, ℕ, subst, sym, ◌∙◌}
use Rattle.gst_caps.specs.Merge.{IsShort}
use Rattle.gst_value.specs.Names.{Each}
use Rattle.gst_caps.specs.declared.value.Value.{Value}
use Rattle.gst_caps.proofs.Sound.{each_short_value, merged_whole}
use Rattle.gst_caps.proofs.structure.Structure.meet.Goals as goal

pub merged_fields-requires-clause-short : goal.merged_fields-requires-clause-short
merged_fields-requires-clause-short c =
    let Q : List (List ℕ × Value) → Type 0 = λ fs. Each (λ f. IsShort f.1) fs in
    subst Q (sym c.entries.ensures.entries) (each_short_value _ c.entries.ensures.well_formed.values)

pub merged_fields-requires-clause-short_others : goal.merged_fields-requires-clause-short_others
merged_fields-requires-clause-short_others c =
    let Q : List (List ℕ × Value) → Type 0 = λ fs. Each (λ f. IsShort f.1) fs in
    subst Q (sym c.entries-2.ensures.entries) (each_short_value _ c.entries-2.ensures.well_formed.values)

pub invariant_of-result : goal.invariant_of-result
invariant_of-result c =
    merged_whole _ _ _ _ c.args.self.now c.args.other.now c.meets.ensures.well_formed c.meets.ensures.other c.entries.ensures.entries c.entries-2.ensures.entries (sym c.meets.ensures.meet ∙ c.if-not-meets.false) c.in_ok-merged_fields.ensures.ok c.in_ok-merged_fields.ensures.too_many
