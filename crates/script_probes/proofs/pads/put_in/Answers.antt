-- The probe stands behind the others of its pad.
use Rattle.std.proofs.Common.{[], ◌∷◌, ◌++◌, cond, ap, ◌∙◌, rules, append-nil}
use Rattle.std.specs.Option.{option_map_or}
use Rattle.std.specs.declared.alloc.Global.{Global}
use Rattle.std.specs.declared.collections.VecDeque.{VecDeque}
use Rattle.pad_core.specs.declared.probe.Probe.{Probe}
use Rattle.script_probes.proofs.Maps.{queue_set, sets_key}
use Rattle.script_probes.proofs.pads.put_in.Goals as goal

pub returns-in-Some : goal.returns-in-Some
returns-in-Some c =
    queue_set (λ b xs. xs ++ cond b (c.args.stop ∷ []) []) (λ xs. append-nil xs) c.args.pad.now c.args.pads.now (c.get_mut.follows.lender c.push_back.new.self) c.push_back.new.self ((c.get_mut.follows.holds c.push_back.new.self).3 (search rules))
    (c.in_ok-push_back.ensures.items ∙ ap (λ o. option_map_or (λ (q : VecDeque Probe Global). q.items) o [] ++ c.args.stop ∷ []) c.in-Some.ensures.value)

pub returns : goal.returns
returns c =
    queue_set (λ b xs. xs ++ cond b (c.args.stop ∷ []) []) (λ xs. append-nil xs) c.args.pad.now c.args.pads.now c.insert.new.self c.push_back-2.new.self
    (sets_key c.args.pad.now c.in_ok-from_str.field-0 c.args.pads.now c.get_mut.follows.lender-at-none c.insert.new.self c.push_back-2.new.self c.in_ok-from_str.ensures.ok c.get_mut.follows.holds-at-none c.in_ok-insert.ensures.updates)
    (c.in_ok-push_back-2.ensures.items ∙ ap (λ l. l ++ c.args.stop ∷ []) (c.new-queue.ensures.items ∙ ap (λ o. option_map_or (λ (q : VecDeque Probe Global). q.items) o []) c.in_default.ensures.value))
