use Rattle.graph_parts.proofs.Locating.{all_opened}
use Rattle.graph_parts.proofs.located.ends_stay_opened.Goals as goal

pub returns : goal.returns
returns g c = λ files before made known located opened. all_opened (g.F.Files.opened files) before made known located opened
