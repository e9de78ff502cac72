use Rattle.run_files.specs.Ends.{known_ends}
use Rattle.run_files.proofs.Undone.{unopened_by}
use Rattle.run_files.proofs.opening.open_all.Goals as goal

pub returns-in-Err-clause-unopened : goal.returns-in-Err-clause-unopened
returns-in-Err-clause-unopened g c =
    unopened_by c.args.openings.now (known_ends g.F.Src.Source g.F.Snk.Sink c.open_each.new.ends.items)
    (g.F.Files.seen c.args.files.now)
    (g.F.Files.seen c.open_each.new.files)
    (g.F.Files.seen c.close_all.new.files)
    c.close_all.ensures.closes c.in-Err.unopened c.in-Err.ensures.stopped
