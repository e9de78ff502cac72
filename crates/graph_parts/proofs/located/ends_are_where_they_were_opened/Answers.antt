use Rattle.graph_parts.proofs.Locating as located
use Rattle.graph_parts.proofs.located.ends_are_where_they_were_opened.Goals as goal

pub returns-clause-one_sink : goal.returns-clause-one_sink
returns-clause-one_sink c = λ tree graph known e location is ends opens. located.one_sink tree graph known e opens.element location is ends opens.at opens.opens

pub returns-clause-no_sink : goal.returns-clause-no_sink
returns-clause-no_sink c = λ location made known ends none.
    located.no_sink location made known ends (λ e m at writes. none e (record { element = m; at = at; opens = writes }))

pub returns-clause-is_present : goal.returns-clause-is_present
returns-clause-is_present c = located.is_present

pub returns-clause-same_count : goal.returns-clause-same_count
returns-clause-same_count c = located.same_count
