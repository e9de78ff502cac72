-- The probe stands behind the others of its pad.
use Rattle.std.proofs.Common.{[], ◌∷◌, ◌++◌, cond, ◌∙◌, rules, append-nil}
use Rattle.script_probes.proofs.Maps.{fresh_set, lent_set, on_ok, sets_key}
use Rattle.script_probes.proofs.pads.put_at.Goals as goal

pub returns-in-Some : goal.returns-in-Some
returns-in-Some c =
    on_ok c.put_in.result c.put_in.ensures
    (lent_set (λ b xs. xs ++ cond b (c.args.stop ∷ []) []) (λ xs. append-nil xs) c.args.pad.now c.args.elements.now (c.get_mut.follows.lender c.put_in.new.pads) c.in-Some.pads.now c.put_in.new.pads c.as_str.result.now c.as_str-in-Some.result.now
    c.as_str.ensures c.as_str-in-Some.ensures c.in-Some.ensures.value ((c.get_mut.follows.holds c.put_in.new.pads).3 (search rules)))

pub returns : goal.returns
returns c =
    fresh_set (λ b xs. xs ++ cond b (c.args.stop ∷ []) []) (λ xs. append-nil xs) c.args.pad.now c.args.elements.now c.insert.new.self c.new-pads.result c.put_in-2.new.pads c.as_str.result.now c.as_str-2.result.now
    c.as_str.ensures c.as_str-2.ensures c.in_default.ensures.value c.new-pads.ensures.empty
    (sets_key c.args.pad.now.element c.in_ok-from_str.field-0 c.args.elements.now c.get_mut.follows.lender-at-none c.insert.new.self c.put_in-2.new.pads (c.in_ok-from_str.ensures.ok ∙ c.as_str-3.ensures) c.get_mut.follows.holds-at-none c.in_ok-insert.ensures.updates)
    c.in_ok-put_in.ensures
