use Rattle.std.proofs.Common.{◌≤◌, ℕ, sym, ap, ◌∙◌, subst, string_bytes}
use Rattle.std.specs.Option.{option_copied_mut}
use Rattle.indexmap.proofs.CallerLemmas.{index_map_len-with_value_at}
use Rattle.el_settings.specs.Asked.{with_pads}
use Rattle.graph_core.specs.declared.element.Element.{Element}
use Rattle.graph_core.proofs.ByName.{set_made}
use Rattle.graph_core.proofs.elements.Elements.set_pads.Goals as goal

pub invariant_of-self : goal.invariant_of-self
invariant_of-self c =
    let x : Element = record { kind = c.in-Some.element.now.kind; is_numbered = c.in-Some.element.now.is_numbered; settings = c.set_pads.new.self } in
    record { few = subst (λ (n : ℕ). n ≤ 256) (sym (index_map_len-with_value_at c.args.self.now.by_name c.args.element x)) c.args.self.now.few }

pub returns : goal.returns
returns c = λ m at.
    set_made string_bytes (with_pads c.args.pads) c.args.self.now.by_name.entries c.args.element c.in-Some.element.now c.set_pads.new.self m (sym c.get_index_mut.ensures.value ∙ ap (λ o. option_copied_mut o) c.in-Some.is) at c.set_pads.ensures
