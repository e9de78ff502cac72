use Rattle.std.proofs.Common.{◌≡◌, ap, ◌∙◌, arith}
use Rattle.graph_core.specs.Allowed.{checked}
use Rattle.graph_core.specs.Elements.{all_made}
use Rattle.graph_pads.specs.Pads.{links_at, makes}
use Rattle.graph_core.proofs.Answering.{made_at}
use Rattle.graph_core.proofs.Counted.{count_next, count_none, pads_alike}
use Rattle.graph_core.proofs.counting.count_one.Goals as goal

pub returns-in_default-clause-counted : goal.returns-in_default-clause-counted
returns-in_default-clause-counted c =
    let found = made_at (all_made c.args.elements.now) c.args.element c.settings.result.now c.settings.ensures in
    count_none (all_made c.args.elements.now) c.args.links.now c.args.element found.0 found.1 (λ direction. ap (makes direction) found.2 ∙ c.made_direction.ensures.none c.in_default.is direction)

pub returns-clause-stay : goal.returns-clause-stay
returns-clause-stay c =
    let found = made_at (all_made c.args.elements.now) c.args.element c.settings.result.now c.settings.ensures in
    ap checked (c.set_pads.ensures found.0 found.1) ∙ pads_alike (all_made c.args.elements.now) c.args.element c.of-pads.result found.0 found.1

pub returns-clause-counted : goal.returns-clause-counted
returns-clause-counted c =
    let found = made_at (all_made c.args.elements.now) c.args.element c.settings.result.now c.settings.ensures in
    let makes_one = ap (makes c.in-Some.direction) found.2 ∙ c.in-Some.ensures.makes in
    let few = c.requires.few c.args.element found.0 c.in-Some.direction found.1 makes_one in
    let count : c.of-pads.result.count ≡ links_at c.args.links.now c.in-Some.direction c.args.element = omega (arith, c.of-pads.ensures, c.links_at.ensures, few) in
    count_next (all_made c.args.elements.now) c.args.links.now c.args.element found.0 found.1 c.in-Some.direction c.of-pads.result (all_made c.set_pads.new.self) (c.set_pads.ensures found.0 found.1) makes_one count
