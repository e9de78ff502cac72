use Rattle.std.proofs.Common.{◌∙◌, ◌++◌, List, length, ap, arith, length-append, filter, ℕ, true, false}
use Rattle.graph_order.specs.Marks.{is_chosen}
use Rattle.graph_order.proofs.Parted.{parted_length}
use Rattle.graph_order.proofs.order.parted.Goals as goal

pub returns-clause-size : goal.returns-clause-size
returns-clause-size c =
    let all = c.in_ok-put_chosen-2.ensures ∙ ap (λ (xs : List ℕ). xs ++ filter (is_chosen c.args.marks.now true) c.args.elements.now) (c.in_ok-put_chosen.ensures ∙ ap (λ (xs : List ℕ). xs ++ filter (is_chosen c.args.marks.now false) c.args.elements.now) c.in_ok-parted.ensures.items) in
    omega (arith, ap length all, length-append (filter (is_chosen c.args.marks.now false) c.args.elements.now) (filter (is_chosen c.args.marks.now true) c.args.elements.now), parted_length c.args.marks.now c.args.elements.now, c.put_chosen-2.new.into.ok.0)
