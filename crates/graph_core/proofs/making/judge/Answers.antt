use Rattle.std.proofs.Common.{refl, sym, ap, ◌∙◌, is_some, arith}
use Rattle.graph_core.specs.Elements.{all_made, is_named}
use Rattle.graph_core.proofs.Steps.{found_any, location_told, memory_refused, taken_location}
use Rattle.graph_core.proofs.making.judge.Goals as goal

pub returns-in_err-name : goal.returns-in_err-name
returns-in_err-name c = memory_refused (all_made c.args.before.now) c.args.name.now c.args.settings.now c.from_residual.result c.from_residual.ensures.1

pub returns-then-is_some : goal.returns-then-is_some
returns-then-is_some c =
    let found = sym (found_any (is_named c.args.name.now) (all_made c.args.before.now)) ∙ ap is_some (sym c.find.ensures) ∙ sym c.is_some.ensures ∙ c.if-is_some.true in
    (c.in_ok-name.ensures, found)

pub location_taken-requires : goal.location_taken-requires
location_taken-requires c = taken_location c.args.settings.now (all_made c.args.before.now) (sym c.is_location_taken.ensures ∙ c.if-is_location_taken.true)

pub returns-in_err-location_taken : goal.returns-in_err-location_taken
returns-in_err-location_taken c = memory_refused (all_made c.args.before.now) c.args.name.now c.args.settings.now c.from_residual-in_err-location_taken.result c.from_residual-in_err-location_taken.ensures.1

pub returns-then-is_location_taken : goal.returns-then-is_location_taken
returns-then-is_location_taken c =
    let free = sym (found_any (is_named c.args.name.now) (all_made c.args.before.now)) ∙ ap is_some (sym c.find.ensures) ∙ sym c.is_some.ensures ∙ c.if-is_some.false in
    location_told (all_made c.args.before.now) c.args.name.now c.args.settings.now _ free (sym c.is_location_taken.ensures ∙ c.if-is_location_taken.true) c.in_ok-location_taken.ensures

pub returns-then-count-ge-LIMIT : goal.returns-then-count-ge-LIMIT
returns-then-count-ge-LIMIT c =
    let free = sym (found_any (is_named c.args.name.now) (all_made c.args.before.now)) ∙ ap is_some (sym c.find.ensures) ∙ sym c.is_some.ensures ∙ c.if-is_some.false in
    (refl, free, sym c.is_location_taken.ensures ∙ c.if-is_location_taken.false, omega (arith, c.count.ensures.count))

pub returns : goal.returns
returns c =
    let free = sym (found_any (is_named c.args.name.now) (all_made c.args.before.now)) ∙ ap is_some (sym c.find.ensures) ∙ sym c.is_some.ensures ∙ c.if-is_some.false in
    (free, sym c.is_location_taken.ensures ∙ c.if-is_location_taken.false, omega (arith, c.count.ensures.count))
