use Rattle.std.proofs.Common.{◌≡◌, ◌+◌, ℕ, suc, List, get_or, length, take, sym, ap, ◌∙◌, subst, arith}
use Rattle.std.proofs.lemmas.List.{length-replicate}
use Rattle.std.proofs.lemmas.Option.{slice_get-get_or}
use Rattle.edit_core.specs.Notes.{AreNotedBefore}
use Rattle.edit_core.specs.declared.notes.Note.{Note}
use Rattle.edit_core.proofs.Passing.{AreNotedIn, pass_begins, pass_ends, pass_on}
use Rattle.edit_core.proofs.notes.note_all.Goals as goal

pub loop-element-init : goal.loop-element-init
loop-element-init g c = λ e m tells is.
    pass_begins e m.history c.args.start c.in_ok-notes.notes.items
    (ap length (c.in_ok-notes.ensures.items_if_clones_equal (λ y e. e)) ∙ length-replicate c.count.result c.none.result ∙ c.count.ensures.made ∙ ap length is.edited.elements)

pub loop-element-preserved : goal.loop-element-preserved
loop-element-preserved g c = λ e m tells is.
    let order : List ℕ = c.forward-order.result.now in
    let k : ℕ = c.loop-element.element-index in
    let next : k + 1 ≡ suc k = omega arith in
    subst (λ (notes : List Note). AreNotedIn e m.history c.args.start notes (take (k + 1) order)) (sym c.put.ensures)
    (pass_on e m.history c.args.start order (c.forward-order.ensures e is.edited) c.loop-element.notes.items k (k + 1) (get_or order k 0) c.note_one-note.result
    (slice_get-get_or order k 0 c.loop-element-test.true) next (c.loop-element.invariant e m tells is)
    (λ there before. c.note_one-note.ensures e m tells is there (subst (λ (notes : List Note). AreNotedBefore e m.history c.args.start notes (get_or order k 0)) (sym c.deref.ensures.value) before)))

pub returns : goal.returns
returns g c = λ e m tells is.
    pass_ends e m.history c.args.start c.forward-order.result.now (c.forward-order.ensures e is.edited) c.loop-element.notes.items c.loop-element.element-index c.loop-element-test.false
    c.loop-element.auto.element-index-end (c.loop-element.invariant e m tells is)
