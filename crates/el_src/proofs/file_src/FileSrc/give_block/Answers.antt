use Rattle.std.proofs.Common.{◌≡◌, length, arith, rules, ◌∙◌, ap, sym}
use Rattle.el_src.proofs.Blocks.{due_eos, due_block, due_last}
use Rattle.el_src.proofs.file_src.FileSrc.give_block.Goals as goal

pub give-requires-clause-due : goal.give-requires-clause-due
give-requires-clause-due g c κs within = λ content told.
    due_eos _ _ _ _ _ content c.requires.blocks (omega arith) (c.requires.read content told) (search rules)

pub give-requires-then-size-self-clause-due : goal.give-requires-then-size-self-clause-due
give-requires-then-size-self-clause-due g c κs within = λ content told.
    let size : c.len-size.result ≡ length c.in_ok-body.body = c.len-size.ensures ∙ search rules ∙ ap length (sym c.in_ok-body.ensures.bytes) in
    due_last _ _ _ _ c.in_ok-body.body content c.requires.blocks (omega arith) (c.in_ok-body.ensures.bytes ∙ c.requires.read content told) (omega arith) (omega arith) ∙ search rules

pub give-requires-else-size-self-clause-due : goal.give-requires-else-size-self-clause-due
give-requires-else-size-self-clause-due g c κs within = λ content told.
    let size : c.len-size.result ≡ length c.in_ok-body.body = c.len-size.ensures ∙ search rules ∙ ap length (sym c.in_ok-body.ensures.bytes) in
    due_block _ _ _ _ c.in_ok-body.body content c.requires.blocks (omega arith) (c.in_ok-body.ensures.bytes ∙ c.requires.read content told) (omega arith) ∙ search rules
