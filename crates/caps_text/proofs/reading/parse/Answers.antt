-- The two words, and structures.
use Rattle.std.proofs.Common.{sym, ◌∙◌, ap, codes}
use Rattle.std.proofs.lemmas.Slice.Eq.{bytes_eq-Decides}
use Rattle.gst_caps.specs.declared.caps.Caps.TheVariants.{Of}
use Rattle.caps_text.proofs.Parsing.{any_only, empty_only, told_found, told_only}
use Rattle.caps_text.proofs.OnlyExcess.{any_few, empty_few, told_excess}
use Rattle.caps_text.proofs.Places.{told_place}
use Rattle.caps_text.proofs.reading.parse.Goals as goal

pub returns-then-eq-clause-only : goal.returns-then-eq-clause-only
returns-then-eq-clause-only c caps h = any_only c.args.text.now caps ((bytes_eq-Decides c.args.text.now (codes "ANY")).0 (sym c.if-eq.ensures)) h

pub returns-then-eq-2-clause-only : goal.returns-then-eq-2-clause-only
returns-then-eq-2-clause-only c caps h = ap Of c.new.ensures ∙ empty_only c.args.text.now caps ((bytes_eq-Decides c.args.text.now (codes "EMPTY")).0 (sym c.if-eq-2.ensures)) h

pub returns-clause-found : goal.returns-clause-found
returns-clause-found c = told_found c.args.text.now c.parse_structures.result c.parse_structures.ensures

pub returns-clause-only : goal.returns-clause-only
returns-clause-only c caps h = told_only c.args.text.now c.parse_structures.result caps
    (λ e. let yes = (bytes_eq-Decides c.args.text.now (codes "ANY")).1 e in let no = c.if-eq.ensures in cc)
    (λ e. let yes = (bytes_eq-Decides c.args.text.now (codes "EMPTY")).1 e in let no = c.if-eq-2.ensures in cc)
    c.parse_structures.ensures h

pub returns-clause-place : goal.returns-clause-place
returns-clause-place c = told_place c.args.text.now c.parse_structures.result c.parse_structures.ensures

pub returns-then-eq-clause-many : goal.returns-then-eq-clause-many
returns-then-eq-clause-many c h = any_few c.args.text.now ((bytes_eq-Decides c.args.text.now (codes "ANY")).0 (sym c.if-eq.ensures)) h

pub returns-then-eq-2-clause-many : goal.returns-then-eq-2-clause-many
returns-then-eq-2-clause-many c h = empty_few c.args.text.now ((bytes_eq-Decides c.args.text.now (codes "EMPTY")).0 (sym c.if-eq-2.ensures)) h

pub returns-clause-many : goal.returns-clause-many
returns-clause-many c = told_excess c.args.text.now c.parse_structures.result c.parse_structures.ensures
