use Rattle.std.proofs.Common.{◌∙◌, true, false, ap, arith, sym}
use Rattle.gst_value.proofs.Basics.{some_same}
use Rattle.task_pads.proofs.Lists.{some_at}
use Rattle.task_parts.specs.declared.part.Part.{Part}
use Rattle.net_groups.proofs.Flags.{flag_at}
use Rattle.net_groups.proofs.behind.has_flag_at.Goals as goal

pub returns-then-not-flags-place-clause-none : goal.returns-then-not-flags-place-clause-none
returns-then-not-flags-place-clause-none g c = λ none h. let e = sym (flag_at c.args.flags.now c.args.place false (let size = c.requires.len in let low = c.requires.place in omega (arith, size, low)) c.if-not-flags-place.true) ∙ h.flag in cc

pub returns-then-number-clause-has : goal.returns-then-number-clause-has
returns-then-number-clause-has g c = λ is. record { part = c.index-parts-place.result; at = some_at c.args.parts.now c.args.place c.index-parts-place.result c.requires.place c.index-parts-place.is; flag = flag_at c.args.flags.now c.args.place true (let size = c.requires.len in let low = c.requires.place in omega (arith, size, low)) c.if-not-flags-place.false; number = sym c.number.ensures ∙ c.if-number.true }

pub returns-clause-none : goal.returns-clause-none
returns-clause-none g c = λ none h. c.if-number.false (c.number.ensures ∙ ap (λ (q : Part _ _ _). q.number) (some_same (sym (some_at c.args.parts.now c.args.place c.index-parts-place.result c.requires.place c.index-parts-place.is) ∙ h.at)) ∙ h.number)
