use Rattle.el_convert.proofs.Unchanged.{same_body}
use Rattle.el_convert.proofs.bodies.convert.Goals as goal

pub returns-then-is_same-clause-made : goal.returns-then-is_same-clause-made
returns-then-is_same-clause-made c =
    let same = c.is_same.ensures c.if-is_same.true in
    same_body c.args.input.format c.args.output.format c.args.input.channels c.args.output.channels c.as_slice.result.now c.args.body.now same.0 same.1 c.as_slice.ensures.bytes c.requires.from c.requires.whole c.unchanged.ensures
