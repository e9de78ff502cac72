use Rattle.std.proofs.Common.{sym, ap, ◌∙◌}
use Rattle.el_settings.specs.Asked.{is_converter}
use Rattle.graph_core.specs.Allowed.{all_allowed}
use Rattle.graph_core.specs.Elements.{all_made}
use Rattle.graph_core.specs.Links.{all_links}
use Rattle.graph_core.proofs.Answering.{made_at, set_alike, set_one}
use Rattle.graph_core.proofs.allowed.allow_one.Goals as goal

pub returns-clause-stay : goal.returns-clause-stay
returns-clause-stay c =
    let found = made_at (all_made c.args.elements.now) c.args.element c.settings.result.now c.settings.ensures in
    ap all_allowed (c.set_allowed.ensures found.0 found.1) ∙ set_alike (all_made c.args.elements.now) c.args.element c.in_ok-caps.caps found.0 found.1

pub returns-clause-allowed : goal.returns-clause-allowed
returns-clause-allowed c =
    let found = made_at (all_made c.args.elements.now) c.args.element c.settings.result.now c.settings.ensures in
    set_one (all_made c.args.elements.now) (all_links c.args.links.now) c.args.element found.0 found.1 c.in_ok-caps.caps (all_made c.set_allowed.new.self) (c.set_allowed.ensures found.0 found.1)
    (ap is_converter found.2 ∙ sym c.is_converter.ensures ∙ c.if-not-is_converter.false) (c.in_ok-caps.ensures c.requires.ordered c.requires.pads c.requires.counted)
