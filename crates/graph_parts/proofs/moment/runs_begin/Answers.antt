use Rattle.graph_parts.proofs.Rules.{moment_starts, moment_stands, sources_wait}
use Rattle.graph_parts.proofs.moment.runs_begin.Goals as goal

pub returns-clause-untouched : goal.returns-clause-untouched
returns-clause-untouched c = moment_starts

pub returns-clause-standing : goal.returns-clause-standing
returns-clause-standing c = moment_stands

pub returns-clause-waiting : goal.returns-clause-waiting
returns-clause-waiting c = sources_wait
