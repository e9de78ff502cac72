use Rattle.std.proofs.Common.{◌∙◌, Bool, List, ℕ, ap, inl, inr, length, subst, sym}
use Rattle.task_parts.specs.declared.head.Head.{Head}
use Rattle.task_parts.specs.declared.part.Part.{Part}
use Rattle.net_groups.specs.Behind.{HasFlag, HasFlagAt, IsBehind, TellBehind}
use Rattle.net_groups.specs.Splits.{number_in}
use Rattle.net_groups.proofs.splitting.flags_of.Goals as goal

pub returns-then-has_flag-clause-none : goal.returns-then-has_flag-clause-none
returns-then-has_flag-clause-none g c = λ none.
    let z =
    subst (λ (n : ℕ). HasFlag c.args.task.now.parts.items c.behind-flags.result.items n) (c.head_number.ensures ∙ ap (λ (h : Head _ _ _ _). number_in h) c.head.ensures)
    (subst (λ (fs : List Bool). HasFlag c.args.task.now.parts.items fs c.head_number.result) c.as_slice.ensures.value
    (subst (λ (ps : List (Part _ _ _)). HasFlag ps c.as_slice.result.now c.head_number.result) c.parts-2.ensures (c.has_flag.ensures.has c.if-has_flag.true))) in
    let tell = subst (λ (ps : List (Part _ _ _)). TellBehind ps c.args.element c.behind-flags.result.items) c.parts.ensures c.behind-flags.ensures.tell in
    inl (subst (λ (n : ℕ). IsBehind c.args.task.now.parts.items c.args.element n) z.1.number (tell.behind z.0 z.1.part z.1.at z.1.flag))

pub returns-then-is_entered-clause-none : goal.returns-then-is_entered-clause-none
returns-then-is_entered-clause-none g c = λ none. inr (c.is_entered.ensures.entered c.if-is_entered.true)

pub is_entered-requires-clause-size : goal.is_entered-requires-clause-size
is_entered-requires-clause-size g c κs within = ap (λ (fs : List Bool). length fs) c.as_slice-2.ensures.value ∙ c.behind-flags.ensures.len ∙ ap (λ (ps : List (Part _ _ _)). length ps) c.parts.ensures

pub is_entered-requires-clause-tell : goal.is_entered-requires-clause-tell
is_entered-requires-clause-tell g c κs within = subst (λ (fs : List Bool). TellBehind c.args.task.now.parts.items c.args.element fs) (sym c.as_slice-2.ensures.value) (subst (λ (ps : List (Part _ _ _)). TellBehind ps c.args.element c.behind-flags.result.items) c.parts.ensures c.behind-flags.ensures.tell)

pub returns-clause-apart : goal.returns-clause-apart
returns-clause-apart g c = record {
  size = c.behind-flags.ensures.len ∙ ap (λ (ps : List (Part _ _ _)). length ps) c.parts.ensures;
  tell = subst (λ (ps : List (Part _ _ _)). TellBehind ps c.args.element c.behind-flags.result.items) c.parts.ensures c.behind-flags.ensures.tell;
  ahead = λ k has.
      c.has_flag.ensures.none c.if-has_flag.false k
      (subst (λ (ps : List (Part _ _ _)). HasFlagAt ps c.as_slice.result.now c.head_number.result k) (sym c.parts-2.ensures)
      (subst (λ (fs : List Bool). HasFlagAt c.args.task.now.parts.items fs c.head_number.result k) (sym c.as_slice.ensures.value)
      (subst (λ (n : ℕ). HasFlagAt c.args.task.now.parts.items c.behind-flags.result.items n k) (sym (c.head_number.ensures ∙ ap (λ (h : Head _ _ _ _). number_in h) c.head.ensures)) has)));
  free = λ z. c.is_entered.ensures.free c.if-is_entered.false z;
}
