use Rattle.std.proofs.Common.{◌∙◌, ℕ, true, false, arith, sym, subst}
use Rattle.gst_value.proofs.Basics.{some_same}
use Rattle.task_pads.proofs.Lists.{some_at}
use Rattle.task_parts.specs.declared.part.Part.{Part}
use Rattle.net_groups.specs.Behind.{IsLed}
use Rattle.net_groups.proofs.Flags.{flag_at}
use Rattle.net_groups.proofs.behind.is_next.Goals as goal

pub returns-then-flags-place-clause-not : goal.returns-then-flags-place-clause-not
returns-then-flags-place-clause-not g c = λ none h. let e = sym (flag_at c.args.flags.now c.args.place true (let size = c.requires.len in let low = c.requires.place in omega (arith, size, low)) c.if-flags-place.true) ∙ h.flag in cc

pub returns-clause-next : goal.returns-clause-next
returns-clause-next g c = λ is. record {
  part = c.index-parts-place.result;
  at = some_at c.args.parts.now c.args.place c.index-parts-place.result c.requires.place c.index-parts-place.is;
  flag = flag_at c.args.flags.now c.args.place false (let size = c.requires.len in let low = c.requires.place in omega (arith, size, low)) c.if-flags-place.false;
  leads = subst (λ (n : ℕ). IsLed c.args.parts.now c.args.flags.now c.args.element n) c.number.ensures (c.is_led.ensures.led is);
}

pub returns-clause-not : goal.returns-clause-not
returns-clause-not g c = λ none h.
    c.is_led.ensures.none none (subst (λ (n : ℕ). IsLed c.args.parts.now c.args.flags.now c.args.element n) (sym c.number.ensures) (subst (λ (q : Part _ _ _). IsLed c.args.parts.now c.args.flags.now c.args.element q.number) (some_same (sym h.at ∙ some_at c.args.parts.now c.args.place c.index-parts-place.result c.requires.place c.index-parts-place.is)) h.leads))
