use Rattle.std.proofs.Common.{◌≡◌, true, ℕ, arith, sym, subst, ◌∙◌}
use Rattle.task_parts.specs.Gathered.{are_within}
use Rattle.task_pads.proofs.Lists.{some_at}
use Rattle.task_parts.proofs.Outs.{fill_all, fill_spread, filled_none, nil_when, of_within, within_of}
use Rattle.task_parts.proofs.Tries.{on_ok}
use Rattle.task_parts.proofs.gather.gather.Goals as goal

pub fill-requires : goal.fill-requires
fill-requires g c = within_of 1 c.args.out.now (subst (λ (n : ℕ). are_within n c.args.out.now ≡ true) (sym c.len.ensures ∙ c.if-len-eq1.true) c.requires.within)

pub returns-then-len-eq1-clause-spread : goal.returns-then-len-eq1-clause-spread
returns-then-len-eq1-clause-spread g c =
    let one = sym c.len.ensures ∙ c.if-len-eq1.true in
    fill_spread c.args.pads.now.items c.index_mut.result.now c.fill.new.pad c.args.out.now c.fill.new.out (sym c.args.pads.now.ok.0 ∙ one)
    (some_at c.args.pads.now.items 0 c.index_mut.result.now (omega (arith, one, c.args.pads.now.ok.0)) c.index_mut.ensures.value) c.fill.ensures.rest c.fill.ensures.waiting

pub spread-requires : goal.spread-requires
spread-requires g c = within_of _ c.args.out.now (subst (λ (n : ℕ). are_within n c.args.out.now ≡ true) c.args.pads.now.ok.0 c.requires.within)

pub returns-clause-within : goal.returns-clause-within
returns-clause-within g c = subst (λ (n : ℕ). are_within n c.spread.new.out ≡ true) (sym c.spread.new.pads.ok.0) (of_within _ c.spread.new.out c.spread.ensures.within)

pub returns-then-is_empty-clause-all : goal.returns-then-is_empty-clause-all
returns-then-is_empty-clause-all g c = filled_none c.args.pads.now.items c.args.out.now (sym c.as_slice.ensures ∙ nil_when c.as_slice.result.now (sym c.is_empty.ensures ∙ c.if-is_empty.true))

pub returns-then-len-eq1-clause-all : goal.returns-then-len-eq1-clause-all
returns-then-len-eq1-clause-all g c =
    let one = sym c.len.ensures ∙ c.if-len-eq1.true in
    fill_all c.args.pads.now.items c.index_mut.result.now c.fill.new.pad c.args.out.now c.fill.new.out (sym c.args.pads.now.ok.0 ∙ one)
    (some_at c.args.pads.now.items 0 c.index_mut.result.now (omega (arith, one, c.args.pads.now.ok.0)) c.index_mut.ensures.value) c.fill.ensures.filled c.fill.ensures.stays

pub returns-clause-all : goal.returns-clause-all
returns-clause-all g c = on_ok c.spread.result (filled_none c.spread.new.pads.items c.spread.new.out) c.spread.ensures.all
