-- The rows are computed.
use Rattle.std.proofs.Common.{refl}
use Rattle.text_words.specs.Values.{number_of, pad_of, prop_of, property_of, said}
use Rattle.text_words.specs.Words.{words_of}
use Rattle.text_words.proofs.laws.word_rows.Goals as goal

pub returns : goal.returns
unfolding words_of pad_of number_of prop_of property_of said
returns c = record {
  white_row = refl;
  space_row = refl;
  quoted_row = refl;
  said_row = refl;
  open_row = refl;
  prop_row = refl;
  empty_row = refl;
  no_prop_row = refl;
  pad_row = refl;
  no_pad_row = refl;
  number_row = refl;
  no_number_row = refl;
}
