-- What stands before a dash stays, and the dash is lost.
use Rattle.std.proofs.Common.{Some, None, string_bytes, lit<, rules}
use Rattle.std.proofs.lemmas.Str.Pattern.{split_parts}
use Rattle.graph_core.proofs.Dashes.{kept_more, kept_all, shorter}
use Rattle.graph_core.proofs.naming.put_without_dashes.Goals as goal

pub loop-before-preserved : goal.loop-before-preserved
loop-before-preserved c =
    let parts = split_parts 45 c.loop-before.rest.now (Some (c.in-Some.before, c.in-Some.after)) c.in-Some.ensures.cases (lit< tt) in
    (search rules, kept_more (string_bytes c.loop-before.into) (string_bytes c.push_str.new.self) _ c.loop-before.rest.now c.in-Some.before.now c.in-Some.after.now c.in_ok-push_str.ensures.bytes parts.0 parts.1 c.loop-before.invariant.1)

pub loop-before-smaller : goal.loop-before-smaller
loop-before-smaller c =
    let parts = split_parts 45 c.loop-before.rest.now (Some (c.in-Some.before, c.in-Some.after)) c.in-Some.ensures.cases (lit< tt) in
    shorter c.loop-before.rest.now c.in-Some.before.now c.in-Some.after.now parts.0

pub returns : goal.returns
returns c = kept_all (string_bytes c.loop-before.into) (string_bytes c.push_str-2.new.self) _ c.loop-before.rest.now c.in_ok-push_str-2.ensures.bytes (split_parts 45 c.loop-before.rest.now None c.in_default.ensures.cases (lit< tt)) c.loop-before.invariant.1
