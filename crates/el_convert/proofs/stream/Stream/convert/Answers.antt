use Rattle.std.proofs.Common.{length}
use Rattle.el_convert.proofs.Unchanged.{stream_samples}
use Rattle.el_convert.proofs.stream.Stream.convert.Goals as goal

pub convert-requires-clause-whole : goal.convert-requires-clause-whole
convert-requires-clause-whole c =
    stream_samples c.args.self.now.offered c.args.self.now.input.format c.args.self.now.input.channels (length c.args.buffer.now.body) c.args.self.now.format_in c.args.self.now.channels_in c.requires.whole
