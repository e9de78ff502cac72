use Rattle.graph_parts.proofs.Writers.{one_writer, reader_is_no_writer}
use Rattle.graph_parts.proofs.located.locations_have_one_writer.Goals as goal

pub returns-clause-writers : goal.returns-clause-writers
returns-clause-writers c = λ tree graph is d e location first second. one_writer tree graph is d e first.element second.element location first.at second.at first.opens second.opens

pub returns-clause-readers : goal.returns-clause-readers
returns-clause-readers c = λ tree graph is d e location first second.
    reader_is_no_writer tree graph is d e first.element second.element location first.at second.at first.opens second.opens
