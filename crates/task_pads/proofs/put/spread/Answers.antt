use Rattle.std.proofs.Common.{◌∙◌, sym, subst, List}
use Rattle.gst_item.specs.declared.out.Out.{Out}
use Rattle.task_pads.specs.Put.{Spread}
use Rattle.task_pads.proofs.put.spread.Goals as goal

pub returns-clause-spread : goal.returns-clause-spread
returns-clause-spread g c =
    subst (λ (os : List Out). Spread {O = g.row.O.Denot} c.args.out.now os c.args.pads.now.items c.spread_all-spread.new.pads.items) (sym (c.from_vec.ensures ∙ c.into_vec.ensures.items))
    (subst (λ (os : List Out). Spread {O = g.row.O.Denot} os c.spread_all-spread.new.outs.items c.args.pads.now.items c.spread_all-spread.new.pads.items)
    (c.from_vec-outs.ensures.items ∙ c.into_vec-outs.ensures ∙ c.replace.ensures.value) c.spread_all-spread.ensures.spread)
