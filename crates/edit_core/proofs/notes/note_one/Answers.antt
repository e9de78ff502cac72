use Rattle.std.proofs.Common.{◌≡◌, true, false, sym, ◌∙◌, subst}
use Rattle.el_settings.specs.Asked.{is_source}
use Rattle.graph_core.specs.Elements.{has}
use Rattle.graph_edits.specs.Refused.{has_lanes}
use Rattle.edit_core.specs.Notes.{IsNoted}
use Rattle.edit_core.specs.declared.notes.Note.{Note}
use Rattle.edit_core.proofs.Noting.{lanes_noted, plain_noted, source_noted}
use Rattle.edit_core.proofs.Standing.{has_at, lanes_at}
use Rattle.edit_core.proofs.notes.note_one.Goals as goal

pub returns-then-has_lanes : goal.returns-then-has_lanes
returns-then-has_lanes g c = λ e m tells is there before.
    let at = c.settings-settings.ensures e is.edited in
    let lanes : has_lanes e c.args.element ≡ true = lanes_at e c.args.element c.settings-settings.result.now at ∙ sym c.has_lanes.ensures ∙ c.if-has_lanes.true in
    subst (λ (n : Note). IsNoted e m.history c.args.start c.args.element n) (sym c.of_head.ensures) (lanes_noted e m.history c.args.start is.stand c.args.element lanes)

pub returns-then-is_source : goal.returns-then-is_source
returns-then-is_source g c = λ e m tells is there before.
    let at = c.settings-settings.ensures e is.edited in
    let plain : has_lanes e c.args.element ≡ false = lanes_at e c.args.element c.settings-settings.result.now at ∙ sym c.has_lanes.ensures ∙ c.if-has_lanes.false in
    let source : has is_source e.made c.args.element ≡ true = has_at is_source e.made c.args.element c.settings-settings.result.now at ∙ sym c.is_source.ensures ∙ c.if-is_source.true in
    subst (λ (n : Note). IsNoted e m.history c.args.start c.args.element n) (sym c.of_head-then-is_source.ensures) (source_noted e m.history c.args.start is.stand c.args.element plain source)

pub returns : goal.returns
returns g c = λ e m tells is there before.
    let at = c.settings-settings.ensures e is.edited in
    let plain : has_lanes e c.args.element ≡ false = lanes_at e c.args.element c.settings-settings.result.now at ∙ sym c.has_lanes.ensures ∙ c.if-has_lanes.false in
    let source : has is_source e.made c.args.element ≡ false = has_at is_source e.made c.args.element c.settings-settings.result.now at ∙ sym c.is_source.ensures ∙ c.if-is_source.false in
    let linked = c.source_before-before.ensures e is.edited in
    subst (λ (n : Note). IsNoted e m.history c.args.start c.args.element n) (sym c.plain.ensures)
    (plain_noted e m.history c.args.start is.stand is.made is.ends.back c.args.notes.now c.args.element plain source before c.source_before-before.result c.giver-giver.result linked
    (c.giver-giver.ensures e m tells is there linked))
