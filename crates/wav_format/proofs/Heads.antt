-- A head stays where more bytes follow.
use Rattle.std.proofs.Common.{ℕ, List, ◌++◌, drop, codes, refl, sym, ap, ◌∙◌, arith}
use Rattle.std.proofs.lemmas.List.{length-append}
use Rattle.wav_format.specs.declared.head.Head.{Head}
use Rattle.wav_format.specs.Chunks.{BeginsWithHead, EndsHead, Spot, data_size}
use Rattle.wav_format.proofs.Least.{reached_more}
use Rattle.wav_format.proofs.Longer.{begins_more, ext, size_more}

ends_more : (h : Head) (rest : List ℕ) (s : Spot) (more : List ℕ) → EndsHead h rest s → EndsHead h (drop 8 (s.left ++ more)) (ext s more)
ends_more h rest s more e =
    let headed = e.headed in
    record {
      headed = omega (arith, headed, length-append s.left more);
      named = begins_more (codes "data") s.left more (omega arith) ∙ e.named;
      format = e.format;
      start = e.start;
      size = e.size ∙ sym (ap data_size (size_more s.left more headed));
      leaves = refl;
    }

pub begins_on : (bytes more : List ℕ) (h : Head) → BeginsWithHead bytes h → BeginsWithHead (bytes ++ more) h
begins_on bytes more h (rest, (s, reached, ends)) = (drop 8 (s.left ++ more), (ext s more, reached_more bytes more s reached, ends_more h rest s more ends))
