use Rattle.std.proofs.Common.{◌≡◌, ◌+◌, ◌%◌, ◌≤◌, ◌++◌, [], length, codes, sym, ap, subst, ◌∙◌, rules, Some}
use Rattle.byteorder.specs.Endian.{little_bytes}
use Rattle.wav_format.specs.Chunks.{HeadThen, longest_head}
use Rattle.wav_format.specs.Written.{format_chunk, written}
use Rattle.wav_format.proofs.Again.{Writable, written_again}
use Rattle.wav_format.proofs.Parts.{three_parts, joined}
use Rattle.wav_format.proofs.writing.write_head.Goals as goal

pub returns-in-Some : goal.returns-in-Some
returns-in-Some c =
    let n = c.in-Some.size in
    let riff : c.write_riff.new.into ≡ codes "RIFF" ++ little_bytes 4 (36 + n + n % 2) ++ codes "WAVE" = c.write_riff.ensures in
    let format : c.write_format.new.into ≡ format_chunk c.args.head.now = c.write_format.ensures in
    let samples : c.write_data.new.into ≡ codes "data" ++ little_bytes 4 n = c.write_data.ensures in
    let room : length c.args.into.now ≡ 44 = search rules in
    let all = three_parts c.write_riff.new.into c.write_format.new.into c.write_data.new.into c.args.into.now (ap length riff) (ap length format) room
    ∙ joined _ _ _ _ _ _ riff format samples in
    let head = c.args.head.now in
    let small : n ≤ 4294967258 = rw c.in-Some.is at c.requires.size in
    let writable : Writable head n = record {
      size_is = c.in-Some.is;
      small = small;
      some_channel = c.requires.some_channel;
      few_channels = c.requires.few_channels;
      some_rate = c.requires.some_rate;
      low_rate = c.requires.low_rate;
      known = c.requires.known;
    } in
    record {
      written = λ size e. let same : n ≡ size = cc in all ∙ ap (written head) same;
      again = λ start some. subst (λ xs. HeadThen longest_head xs head []) (sym all) (written_again head n writable start (λ zero_size. some (c.in-Some.is ∙ ap Some zero_size)));
    }
