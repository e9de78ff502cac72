use Rattle.std.proofs.Common.{◌∷◌, [], length, ap, arith, length-append}
use Rattle.run_files.specs.Ends.{known_end}
use Rattle.run_files.proofs.Ends.{opened_back, opened_front, opened_moved, opened_push}
use Rattle.part_tests.proofs.run_files_tests.work.Goals as goal

pub loop-end-preserved : goal.loop-end-preserved
loop-end-preserved g c =
    record {
      left = opened_front (known_end g.F.Src.Source g.F.Snk.Sink) (g.F.Files.opened c.args.files.now) c.loop-end.ends.items c.pop.new.self.items (c.in-Some.end ∷ []) c.in-Some.ensures.items c.loop-end.invariant.left;
      done = opened_push (known_end g.F.Src.Source g.F.Snk.Sink) (g.F.Files.opened c.args.files.now) c.push_reserved.new.self.items c.loop-end.back.items c.worked.result c.push_reserved.ensures.items c.loop-end.invariant.done
          (opened_moved (known_end g.F.Src.Source g.F.Snk.Sink) (g.F.Files.opened c.args.files.now) c.in-Some.end c.worked.result c.worked.ensures
          (opened_back (known_end g.F.Src.Source g.F.Snk.Sink) (g.F.Files.opened c.args.files.now) c.loop-end.ends.items c.pop.new.self.items (c.in-Some.end ∷ []) c.in-Some.ensures.items c.loop-end.invariant.left));
      room = omega (arith, c.loop-end.invariant.room, c.push_reserved.ensures.capacity, ap length c.in-Some.ensures.items, length-append c.pop.new.self.items (c.in-Some.end ∷ []), ap length c.push_reserved.ensures.items, length-append c.loop-end.back.items (c.worked.result ∷ []));
    }
