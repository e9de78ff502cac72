use Rattle.std.proofs.Common.{◌≡◌, ℕ, List, Some, refl, true, ap, sym, ◌∙◌, subst}
use Rattle.script_text.specs.declared.command.Act.{Act}
use Rattle.script_text.specs.declared.command.Act.TheVariants.{Relink, Unlink, Remove}
use Rattle.graph_edits.specs.Lawful.{command, places_at}
use Rattle.graph_edits.specs.Names.{source_when}
use Rattle.edit_core.specs.Deciding.{IsDeed, IsReached, IsReachedBy, IsRuled, IsRuledAnyhow, names_its_pad}
use Rattle.edit_core.specs.declared.deciding.Deed.TheVariants as deeds
use Rattle.edit_core.proofs.Decided.{anyhow, carry, no_pad, reached}
use Rattle.edit_core.proofs.deciding.decide_at.Goals as goal

pub returns-in-Some : goal.returns-in-Some
returns-in-Some g c = carry c.decide_relink.result _ _ (λ ruling ruled e m tells is names verdict.
    let at : IsReached e m c.args.command.now c.args.items c.in_ok-places.places =
    reached e m c.args.tasks.now c.args.command.now c.args.items c.in_ok-places.places verdict
    (c.in_ok-places.ensures e is.edited ∙ ap (λ p. places_at e p c.args.items) (c.in_ok-source.ensures.found e is.edited)) in
    let named : source_when e c.args.command.now.when ≡ Some c.in-Some.source = sym (c.in_ok-source.ensures.found e is.edited) ∙ c.in-Some.is in
    subst (λ (act : Act). IsRuled e m c.args.tasks.now (command c.args.command.now.when act) ruling) (sym c.in-Relink.is)
    (ruled e m tells c.args.command.now.when is
    (subst (λ (act : Act). IsReachedBy e m (command c.args.command.now.when act) c.in-Some.source c.args.items c.in_ok-places.places) c.in-Relink.is (at, named)))) c.decide_relink.ensures

pub returns-in-None : goal.returns-in-None
returns-in-None g c = λ e m tells is names verdict.
    let at : IsReached e m c.args.command.now c.args.items c.in_ok-places.places =
    reached e m c.args.tasks.now c.args.command.now c.args.items c.in_ok-places.places verdict
    (c.in_ok-places.ensures e is.edited ∙ ap (λ p. places_at e p c.args.items) (c.in_ok-source.ensures.found e is.edited)) in
    absurd (no_pad e c.args.command.now.when (Relink c.in-Relink.sink) refl
    (subst (λ (act : Act). names_its_pad (command c.args.command.now.when act) ≡ true) c.in-Relink.is names)
    (subst (λ (act : Act). IsReached e m (command c.args.command.now.when act) c.args.items c.in_ok-places.places) c.in-Relink.is at).all
    (sym (c.in_ok-source.ensures.found e is.edited) ∙ c.in-None.is))

pub returns-in-Some-source : goal.returns-in-Some-source
returns-in-Some-source g c = λ e m tells is names verdict.
    let at : IsReached e m c.args.command.now c.args.items c.in_ok-places.places =
    reached e m c.args.tasks.now c.args.command.now c.args.items c.in_ok-places.places verdict
    (c.in_ok-places.ensures e is.edited ∙ ap (λ p. places_at e p c.args.items) (c.in_ok-source.ensures.found e is.edited)) in
    let named : source_when e c.args.command.now.when ≡ Some c.in-Some-source.source = sym (c.in_ok-source.ensures.found e is.edited) ∙ c.in-Some-source.is in
    subst (λ (act : Act). IsRuled e m c.args.tasks.now (command c.args.command.now.when act) c.decide_unlink.result) (sym c.in-Unlink.is)
    (anyhow e m c.args.tasks.now (command c.args.command.now.when (Unlink c.in-Unlink.eos)) c.decide_unlink.result
    (c.decide_unlink.ensures e m c.args.command.now.when is.edited
    (subst (λ (act : Act). IsReachedBy e m (command c.args.command.now.when act) c.in-Some-source.source c.args.items c.in_ok-places.places) c.in-Unlink.is (at, named))))

pub returns-in-None-source : goal.returns-in-None-source
returns-in-None-source g c = λ e m tells is names verdict.
    let at : IsReached e m c.args.command.now c.args.items c.in_ok-places.places =
    reached e m c.args.tasks.now c.args.command.now c.args.items c.in_ok-places.places verdict
    (c.in_ok-places.ensures e is.edited ∙ ap (λ p. places_at e p c.args.items) (c.in_ok-source.ensures.found e is.edited)) in
    absurd (no_pad e c.args.command.now.when (Unlink c.in-Unlink.eos) refl
    (subst (λ (act : Act). names_its_pad (command c.args.command.now.when act) ≡ true) c.in-Unlink.is names)
    (subst (λ (act : Act). IsReached e m (command c.args.command.now.when act) c.args.items c.in_ok-places.places) c.in-Unlink.is at).all
    (sym (c.in_ok-source.ensures.found e is.edited) ∙ c.in-None-source.is))

pub returns-in-Add : goal.returns-in-Add
returns-in-Add g c = λ e m tells is names verdict. record {
  reached = reached e m c.args.tasks.now c.args.command.now c.args.items c.in_ok-places.places verdict
      (c.in_ok-places.ensures e is.edited ∙ ap (λ p. places_at e p c.args.items) (c.in_ok-source.ensures.found e is.edited));
  deed_is = subst (λ (act : Act). IsDeed e m.history (source_when e c.args.command.now.when) act deeds.Add) (sym c.in-Add.is) (IsDeed.adds c.in-Add.kind c.in-Add.props);
}

pub returns-in-Remove : goal.returns-in-Remove
returns-in-Remove g c = λ e m tells is names verdict.
    let at : IsReached e m c.args.command.now c.args.items c.in_ok-places.places =
    reached e m c.args.tasks.now c.args.command.now c.args.items c.in_ok-places.places verdict
    (c.in_ok-places.ensures e is.edited ∙ ap (λ p. places_at e p c.args.items) (c.in_ok-source.ensures.found e is.edited)) in
    subst (λ (act : Act). IsRuled e m c.args.tasks.now (command c.args.command.now.when act) c.decide_remove.result) (sym c.in-Remove.is)
    (anyhow e m c.args.tasks.now (command c.args.command.now.when (Remove c.in-Remove.element)) c.decide_remove.result
    (subst (λ (name : List ℕ). IsRuledAnyhow e m (command c.args.command.now.when (Remove name)) c.decide_remove.result) c.as_str.ensures
    (c.decide_remove.ensures e m c.args.command.now.when is.edited
    (subst (λ (name : List ℕ). IsReached e m (command c.args.command.now.when (Remove name)) c.args.items c.in_ok-places.places) (sym c.as_str.ensures)
    (subst (λ (act : Act). IsReached e m (command c.args.command.now.when act) c.args.items c.in_ok-places.places) c.in-Remove.is at)))))
