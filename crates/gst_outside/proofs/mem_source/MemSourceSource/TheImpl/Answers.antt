-- An exact read is a read.
use Rattle.std.proofs.Common.{length, rules}
use Rattle.gst_outside.proofs.Reading.{read_end}
use Rattle.gst_outside.proofs.mem_source.MemSourceSource.TheImpl.Goals as goal

pub read_at-tells : goal.read_at-tells
read_at-tells x c = record {
  content_stays = search rules;
  location_stays = search rules;
  never_falls = search rules;
  failed = search rules;
  faults_stay = search rules;
  room = search rules;
  inside = search rules;
  bytes = search rules;
  end = read_end c.result c.args.self.now.content c.args.place (length c.args.into.now) c.ensures.count;
}
