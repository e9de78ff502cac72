use Rattle.el_basic.proofs.Filtering.{filtered_drain}
use Rattle.el_basic.proofs.caps_filter.CapsFilter.drain.Goals as goal

pub returns-clause-drained : goal.returns-clause-drained
returns-clause-drained c = filtered_drain c.args.self.now
