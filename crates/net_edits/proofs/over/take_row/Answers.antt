use Rattle.net_edits.proofs.over.take_row.Goals as goal

pub returns-clause-taken : goal.returns-clause-taken
returns-clause-taken g c = (_, c.exchange_at.ensures.exchanged)
