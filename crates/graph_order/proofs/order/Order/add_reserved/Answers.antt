use Rattle.std.proofs.Common.{refl, ap, ◌∙◌, ◌++◌, ◌∷◌, [], ℕ}
use Rattle.graph_order.specs.Forward.{forward_of}
use Rattle.graph_order.proofs.Parted.{forward_added}
use Rattle.graph_order.proofs.order.Order.add_reserved.Goals as goal

pub returns-clause-forward : goal.returns-clause-forward
returns-clause-forward c = λ h. forward_added c.args.self.now _ (c.push_reserved.ensures.items ∙ ap (λ (n : ℕ). forward_of c.args.self.now ++ n ∷ []) c.len-number.ensures) c.push_reserved.ensures.len refl h
