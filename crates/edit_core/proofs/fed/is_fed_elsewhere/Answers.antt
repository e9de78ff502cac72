use Rattle.std.proofs.Common.{◌≡◌, ◌<◌, List, None, Some, length, sym, ap, ◌∙◌, subst}
use Rattle.std.specs.List.{list_any}
use Rattle.std.proofs.lemmas.Bool.{false≢true}
use Rattle.graph_core.specs.Elements.{Made}
use Rattle.graph_edits.proofs.Standing.{element_there}
use Rattle.graph_edits.specs.Graph.{made}
use Rattle.graph_pads.specs.declared.pad.Direction.TheVariants.{Source}
use Rattle.edit_core.specs.Notes.{is_foreign, note_of, task_feeder}
use Rattle.edit_core.specs.declared.notes.Note.{Note}
use Rattle.edit_core.proofs.Elsewhere.{fed_by, unfed}
use Rattle.edit_core.proofs.fed.is_fed_elsewhere.Goals as goal

pub returns-in_default : goal.returns-in_default
returns-in_default g c = λ e m tells is.
    let there : c.args.source.element < length e.made =
    subst (λ (ms : List Made). c.args.source.element < length ms) is.edited.elements (element_there (made c.args.graph.now) Source c.args.source.element c.args.source.pad c.requires.source) in
    let note : c.note_of.result ≡ note_of c.in_ok-notes.notes.items c.args.source.element = c.note_of.ensures ∙ ap (λ (ns : List Note). note_of ns c.args.source.element) c.deref.ensures.value in
    let none : task_feeder (note_of c.in_ok-notes.notes.items c.args.source.element) ≡ None = sym (c.task_feeder.ensures ∙ ap task_feeder note) ∙ c.in_default.is in
    (λ t. absurd (false≢true t), λ fed. absurd (unfed e m.history is.stand c.args.source c.args.sink c.in_ok-notes.notes.items (c.in_ok-notes.ensures e m tells is) there none fed))

pub returns : goal.returns
returns g c = λ e m tells is.
    let there : c.args.source.element < length e.made =
    subst (λ (ms : List Made). c.args.source.element < length ms) is.edited.elements (element_there (made c.args.graph.now) Source c.args.source.element c.args.source.pad c.requires.source) in
    let note : c.note_of.result ≡ note_of c.in_ok-notes.notes.items c.args.source.element = c.note_of.ensures ∙ ap (λ (ns : List Note). note_of ns c.args.source.element) c.deref.ensures.value in
    let own : task_feeder (note_of c.in_ok-notes.notes.items c.args.source.element) ≡ Some c.in-Some.own = sym (c.task_feeder.ensures ∙ ap task_feeder note) ∙ c.in-Some.is in
    let some : c.some_foreign.result ≡ list_any (is_foreign c.in-Some.own) c.in_ok-notes.notes.items = c.some_foreign.ensures ∙ ap (list_any (is_foreign c.in-Some.own)) c.deref-2.ensures.value in
    let both = fed_by e m.history is.stand c.args.source c.args.sink c.in_ok-notes.notes.items (c.in_ok-notes.ensures e m tells is) there c.in-Some.own own in
    (λ t. both.0 (sym some ∙ t), λ fed. some ∙ both.1 fed)
