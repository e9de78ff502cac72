use Rattle.std.proofs.Common.{refl, ap, ◌∙◌, ◌++◌, ◌∷◌, [], ℕ}
use Rattle.graph_order.specs.Forward.{forward_of}
use Rattle.graph_order.proofs.Parted.{forward_same, forward_added}
use Rattle.graph_order.proofs.order.Order.add.Goals as goal

pub returns-in_err-push-clause-forward : goal.returns-in_err-push-clause-forward
returns-in_err-push-clause-forward c = λ h. forward_same c.args.self.now _ c.in_err-push.ensures.items c.in_err-push.ensures.len refl h

pub returns-clause-forward : goal.returns-clause-forward
returns-clause-forward c = λ h. forward_added c.args.self.now _ (c.in_ok-push.ensures.items ∙ ap (λ (n : ℕ). forward_of c.args.self.now ++ n ∷ []) c.len-number.ensures) c.in_ok-push.ensures.len refl h
