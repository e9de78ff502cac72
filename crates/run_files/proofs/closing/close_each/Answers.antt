use Rattle.std.proofs.Common.{[], ◌∷◌, arith}
use Rattle.run_files.specs.Ends.{known_end, known_ends}
use Rattle.run_files.proofs.GivenBack.{closing_none, closing_more, closing_all}
use Rattle.run_files.proofs.Ends.{opened_front, opened_back, opened_later}
use Rattle.run_files.proofs.closing.close_each.Goals as goal
use Rattle.gst_value.proofs.Places.{none_left}

pub loop-end-init : goal.loop-end-init
loop-end-init g c =
    record {
      closing = closing_none (known_end g.F.Src.Source g.F.Snk.Sink) c.args.ends.items
          (g.F.Files.seen c.args.files.now);
      here = c.requires.opened_here;
      opened_stays = λ k h. h;
    }

pub close-requires-clause-opened_here : goal.close-requires-clause-opened_here
close-requires-clause-opened_here g c κs within =
    opened_back (known_end g.F.Src.Source g.F.Snk.Sink) (g.F.Files.opened c.loop-end.files) c.loop-end.ends.items c.pop.new.self.items (c.in-Some.end ∷ [])
    c.in-Some.ensures.items c.loop-end.invariant.here

pub loop-end-preserved : goal.loop-end-preserved
loop-end-preserved g c =
    record {
      closing = closing_more (known_end g.F.Src.Source g.F.Snk.Sink) c.args.ends.items
          (g.F.Files.seen c.args.files.now)
          c.loop-end.ends.items c.pop.new.self.items c.in-Some.end
          (g.F.Files.seen c.loop-end.files)
          (g.F.Files.seen c.close.new.files)
          c.loop-end.invariant.closing c.in-Some.ensures.items c.close.ensures.closes;
      here = opened_later (g.F.Files.opened c.loop-end.files) (g.F.Files.opened c.close.new.files) c.close.ensures.opened_stays
          (known_ends g.F.Src.Source g.F.Snk.Sink c.pop.new.self.items)
          (opened_front (known_end g.F.Src.Source g.F.Snk.Sink) (g.F.Files.opened c.loop-end.files) c.loop-end.ends.items c.pop.new.self.items (c.in-Some.end ∷ [])
          c.in-Some.ensures.items c.loop-end.invariant.here);
      opened_stays = λ k h. c.close.ensures.opened_stays k (c.loop-end.invariant.opened_stays k h);
    }

pub returns-clause-closes : goal.returns-clause-closes
returns-clause-closes g c =
    closing_all (known_end g.F.Src.Source g.F.Snk.Sink) c.args.ends.items
    (g.F.Files.seen c.args.files.now)
    c.loop-end.ends.items
    (g.F.Files.seen c.loop-end.files)
    (none_left c.loop-end.ends.items (omega (arith, c.in_default.ensures.cases.0, c.loop-end.ends.ok.0))) c.loop-end.invariant.closing
