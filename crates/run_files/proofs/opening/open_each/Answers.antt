use Rattle.std.proofs.Common.{◌∷◌, [], length, ap, arith, length-append}
use Rattle.run_files.specs.Ends.{known_end, known_ends}
use Rattle.run_files.proofs.Ends.{opened_later, opened_push}
use Rattle.run_files.proofs.Opens.{opens_more}
use Rattle.run_files.proofs.opening.open_each.Goals as goal

pub loop-place-preserved : goal.loop-place-preserved
loop-place-preserved g c =
    record {
      opened = opens_more (known_end g.F.Src.Source g.F.Snk.Sink) c.args.openings.now c.loop-place.place c.index-openings-place.result (omega arith) c.index-openings-place.is
          (g.F.Files.seen c.args.files.now)
          (g.F.Files.seen c.loop-place.files)
          (g.F.Files.seen c.open_entry.new.files)
          c.loop-place.ends.items c.push_reserved.new.self.items c.in-Ok.end c.loop-place.invariant.opened c.in-Ok.ensures.opened c.push_reserved.ensures.items;
      here = opened_push (known_end g.F.Src.Source g.F.Snk.Sink) (g.F.Files.opened c.open_entry.new.files) c.push_reserved.new.self.items c.loop-place.ends.items c.in-Ok.end c.push_reserved.ensures.items
          (opened_later (g.F.Files.opened c.loop-place.files) (g.F.Files.opened c.open_entry.new.files) c.open_entry.ensures.opened_stays (known_ends g.F.Src.Source g.F.Snk.Sink c.loop-place.ends.items) c.loop-place.invariant.here)
          c.in-Ok.ensures.here;
      opened_stays = λ k h. c.open_entry.ensures.opened_stays k (c.loop-place.invariant.opened_stays k h);
      filled = omega (arith, c.loop-place.invariant.filled, ap length c.push_reserved.ensures.items, length-append c.loop-place.ends.items (c.in-Ok.end ∷ []));
      room = omega (arith, c.loop-place.invariant.room, c.push_reserved.ensures.capacity);
    }
