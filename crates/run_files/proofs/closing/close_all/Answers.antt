use Rattle.run_files.specs.Ends.{known_ends, present}
use Rattle.run_files.proofs.Closes.{closes_alone, closes_others, closes_rose, closes_rose_of}
use Rattle.run_files.proofs.closing.close_all.Goals as goal

pub returns-clause-alone : goal.returns-clause-alone
returns-clause-alone g c =
    closes_alone
    (present (known_ends g.F.Src.Source g.F.Snk.Sink c.args.ends.items))
    (g.F.Files.seen c.args.files.now)
    (g.F.Files.seen c.close_each.new.files)
    c.close_each.ensures.closes

pub returns-clause-others : goal.returns-clause-others
returns-clause-others g c =
    closes_others
    (present (known_ends g.F.Src.Source g.F.Snk.Sink c.args.ends.items))
    (g.F.Files.seen c.args.files.now)
    (g.F.Files.seen c.close_each.new.files)
    c.close_each.ensures.closes

pub returns-clause-rose : goal.returns-clause-rose
returns-clause-rose g c =
    closes_rose
    (present (known_ends g.F.Src.Source g.F.Snk.Sink c.args.ends.items))
    (g.F.Files.seen c.args.files.now)
    (g.F.Files.seen c.close_each.new.files)
    c.close_each.ensures.closes

pub returns-clause-rose_of : goal.returns-clause-rose_of
returns-clause-rose_of g c =
    closes_rose_of
    (present (known_ends g.F.Src.Source g.F.Snk.Sink c.args.ends.items))
    (g.F.Files.seen c.args.files.now)
    (g.F.Files.seen c.close_each.new.files)
    c.close_each.ensures.closes
