use Rattle.std.proofs.Common.{◌≡◌, Option, None, Some, ap, sym, ◌∙◌, subst}
use Rattle.graph_pads.specs.declared.pad.Direction.TheVariants.{Sink}
use Rattle.graph_pads.specs.declared.pad.PadPlace.{PadPlace}
use Rattle.script_text.specs.declared.answer.Answer.TheVariants.{Refused}
use Rattle.script_text.specs.declared.answer.Reason.{Reason}
use Rattle.script_text.specs.declared.command.Act.TheVariants.{Relink}
use Rattle.graph_edits.specs.Lawful.{IsRefusedFor, command}
use Rattle.graph_edits.specs.Names.{pad_named}
use Rattle.edit_core.specs.Deciding.{IsDeed, IsRuled, reason_of}
use Rattle.edit_core.specs.Refusing.{IsRefusedSo}
use Rattle.edit_core.specs.declared.deciding.Ruling.{Ruling}
use Rattle.edit_core.specs.declared.deciding.Ruling.TheVariants.{Answered}
use Rattle.edit_core.specs.declared.refusing.LinkReason.{LinkReason}
use Rattle.edit_core.proofs.Decided.{first_told, linkable, own_fed, refuse, unlinkable}
use Rattle.edit_core.proofs.deciding.decide_relink.Goals as goal

pub returns-in-Some-2 : goal.returns-in-Some-2
returns-in-Some-2 g c = λ e m tells when is by.
    let named : pad_named Sink e c.args.sink.now ≡ Some c.in-Some.to = sym (c.in_ok-to.ensures.found e is.edited) ∙ c.in-Some.is in
    let so : IsRefusedSo e m.history c.args.source c.in-Some.to (Some c.in-Some-2.reason) =
    subst (λ (o : Option LinkReason). IsRefusedSo e m.history c.args.source c.in-Some.to o) c.in-Some-2.is (c.in_ok-reason.ensures e m tells is) in
    subst (λ (r : Ruling). IsRuled e m c.args.tasks.now (command when (Relink c.args.sink.now)) r)
    (sym (c.refused.ensures ∙ ap (λ (reason : Reason). Answered (Refused reason c.args.places)) c.reason_of.ensures))
    (refuse e m when (Relink c.args.sink.now) c.args.items c.args.places (reason_of c.in-Some-2.reason) by.0
    (subst (λ (p : Option PadPlace). IsRefusedFor e m.history p (Relink c.args.sink.now) (reason_of c.in-Some-2.reason)) (sym by.1)
    (IsRefusedFor.unlinkable c.args.sink.now c.args.source c.in-Some.to (reason_of c.in-Some-2.reason) named (unlinkable e m.history c.args.source c.in-Some.to c.in-Some-2.reason so)))
    (first_told e m when c.args.sink.now c.args.source c.in-Some.to c.args.places c.in-Some-2.reason by.1 named so))

pub returns-in-None : goal.returns-in-None
returns-in-None g c = λ e m tells when is by.
    let so : IsRefusedSo e m.history c.args.source c.in-Some.to None =
    subst (λ (o : Option LinkReason). IsRefusedSo e m.history c.args.source c.in-Some.to o) c.in-None.is (c.in_ok-reason.ensures e m tells is) in
    record {
      reached = by.0;
      deed_is = IsDeed.relinks c.args.sink.now c.args.source c.in-Some.to by.1 (sym (c.in_ok-to.ensures.found e is.edited) ∙ c.in-Some.is)
          (linkable e m.history c.args.source c.in-Some.to so) (own_fed e m.history c.args.source c.in-Some.to so);
    }
