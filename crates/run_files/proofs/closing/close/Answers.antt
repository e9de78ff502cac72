use Rattle.std.proofs.Common.{Some, ap, ◌∙◌}
use Rattle.run_files.specs.Ends.{known_end}
use Rattle.run_files.specs.declared.end.End.TheVariants.{Src, Snk}
use Rattle.run_files.proofs.Ends.{opened_end}
use Rattle.run_files.proofs.closing.close.Goals as goal

pub close_read-requires-clause-opened_here : goal.close_read-requires-clause-opened_here
close_read-requires-clause-opened_here g c κs within =
    opened_end (known_end g.F.Src.Source g.F.Snk.Sink) (g.F.Files.opened c.args.files.now) c.args.end (Src c.in-Some-Src.source)
    (c.in-Some-Src.is ∙ ap Some c.in-Some-Src.field-0-is) c.requires.opened_here

pub close_write-requires-clause-opened_here : goal.close_write-requires-clause-opened_here
close_write-requires-clause-opened_here g c κs within =
    opened_end (known_end g.F.Src.Source g.F.Snk.Sink) (g.F.Files.opened c.args.files.now) c.args.end (Snk c.in-Some-Snk.sink)
    (c.in-Some-Snk.is ∙ ap Some c.in-Some-Snk.field-0-is) c.requires.opened_here
