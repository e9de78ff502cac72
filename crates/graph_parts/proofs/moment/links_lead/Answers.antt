use Rattle.graph_parts.proofs.MomentLeading.{links_lead, unlinked_lead}
use Rattle.graph_parts.proofs.moment.links_lead.Goals as goal

pub returns-clause-linked : goal.returns-clause-linked
returns-clause-linked c = links_lead

pub returns-clause-unlinked : goal.returns-clause-unlinked
returns-clause-unlinked c = unlinked_lead
