-- The spans of sink pads, once the link that stands there was undone.
use Rattle.std.proofs.Common.{◌≡◌, ℕ, Bool, List, length, map, Some, sym, ap, ◌∙◌, subst}
use Rattle.std.specs.Prelude.{slice_get}
use Rattle.std.proofs.lemmas.List.{length-map}
use Rattle.flow_model.specs.Link.{Span}
use Rattle.flow_model.specs.Eval.{Plan}
use Rattle.flow_model.specs.Edit.{undo, undone}
use Rattle.flow_model.specs.Moment.{Moment}
use Rattle.gst_value.proofs.Places.{map_got}
use Rattle.net_groups.specs.Splits.{HaveNoMarks, TookItems}
use Rattle.edit_core.proofs.Marks.{undone as undone_marks}

-- what took items alone did so
pub undone_took : (m m' : Moment) (p place : ℕ) (eos : Bool) (n pads : ℕ) → m'.plan ≡ undone p place eos m.plan → TookItems m n pads → TookItems m' n pads
undone_took m m' p place eos n pads plan took = record {
  size = ap (λ (sss : List (List Span)). length sss) same ∙ length-map (m.plan.sinks n) (map (undo p place eos)) ∙ took.size;
  marks = λ port spans at. marks port spans (ap (λ (sss : List (List Span)). slice_get sss port) (sym same) ∙ at);
}
  where
    same : m'.plan.sinks n ≡ map (map (undo p place eos)) (m.plan.sinks n)
    same = ap (λ (q : Plan). q.sinks n) plan

    marks : (port : ℕ) (spans : List Span) → slice_get (map (map (undo p place eos)) (m.plan.sinks n)) port ≡ Some spans → HaveNoMarks spans
    marks port spans at =
        let z = map_got (map (undo p place eos)) (m.plan.sinks n) port spans at in
        subst HaveNoMarks (sym z.2) (undone_marks p place eos z.0 (took.marks port z.0 z.1))
