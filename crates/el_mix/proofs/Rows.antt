-- The rows hold: each side is computed.
use Rattle.std.proofs.Common.{refl}
use Rattle.gst_caps.specs.Same.{same_caps}
use Rattle.el_mix.specs.Rows.{MixRows, RefusedRows, SectionRows, AnswerRows}

pub mix_rows : MixRows
unfolding same_caps
mix_rows = record { cuts = refl; silent = refl; silent_in_bytes = refl; waits = refl; nothing_more = refl; begins = refl; empty = refl; dropped = refl }

pub refused_rows : RefusedRows
unfolding same_caps
refused_rows = record { other_caps = refl; two_channels = refl; refused_opens_nothing = refl; no_caps = refl; split_frame = refl }

pub section_rows : SectionRows
unfolding same_caps
section_rows = record { before = refl; behind = refl; nothing_new = refl }

pub answer_rows : AnswerRows
unfolding same_caps
answer_rows = record {
  more = refl;
  ends = refl;
  past_eos = refl;
  no_caps = refl;
  other_caps = refl;
  own_caps = refl;
  two_channels = refl;
  split_frame = refl;
  inherited = refl;
  fits = refl;
  too_long = refl;
}
