use Rattle.std.proofs.Common.{List, All, arith, subst, sym}
use Rattle.graph_order.specs.Forward.{forward_of}
use Rattle.graph_core.specs.Allowed.{Allows, Answers, AreCounted, Falls}
use Rattle.graph_core.specs.Elements.{all_made}
use Rattle.graph_core.specs.Links.{HasPads}
use Rattle.graph_pads.specs.declared.pad.PadLink.{PadLink}
use Rattle.graph_core.proofs.Ranks.{after, after_falls, after_few}
use Rattle.graph_core.proofs.allowed.allowed_caps.Goals as goal

pub returns : goal.returns
returns c = λ ordered pads counted.
    let made = all_made c.args.elements.now in
    let few = after_few made c.args.links.now ordered c.args.source.element c.requires in
    let same = sym c.as_slice-links.ensures.value in
    subst (λ (ls : List PadLink). Answers (Allows made ls c.args.source) c.allowed_within.result) c.as_slice-links.ensures.value
    (c.allowed_within.ensures (λ e. after e (forward_of c.args.links.now.order)) (subst (λ (ls : List PadLink). All (HasPads made) ls) same pads) (subst (λ (ls : List PadLink). AreCounted made ls) same counted)
    (subst (λ (ls : List PadLink). Falls ls (λ e. after e (forward_of c.args.links.now.order))) same (after_falls made c.args.links.now ordered)) (omega (arith, few, c.count.ensures.count)))
