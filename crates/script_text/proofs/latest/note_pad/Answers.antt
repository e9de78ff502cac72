-- The number is noted under the pad's name.
use Rattle.std.proofs.Common.{◌≤◌, ◌∙◌, subst}
use Rattle.script_text.specs.Commands.{spelled}
use Rattle.script_text.proofs.Order.{put_last, read_last}
use Rattle.script_text.proofs.latest.note_pad.Goals as goal

pub returns : goal.returns
returns c =
    let last = read_last c.args.latest.now c.in_ok-name.name c.as_str.result.now (spelled c.args.pad.now) c.unwrap_or-last.result c.copied.result c.in_ok-name.ensures c.as_str.ensures.value (c.copied.ensures ∙ c.get.ensures.value) c.unwrap_or-last.ensures in
    (subst (λ n. n ≤ c.args.buffers) last c.if-buffers-last.false, put_last c.args.latest.now c.insert.new.self c.in_ok-name.name (spelled c.args.pad.now) c.args.buffers c.in_ok-name.ensures c.in_ok-insert.ensures.updates)
