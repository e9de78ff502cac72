-- The rows are computed.
use Rattle.std.proofs.Common.{refl}
use Rattle.text_words.specs.Values.{number_of, pad_of, prop_of, property_of, said}
use Rattle.text_words.specs.Words.{words_of}
use Rattle.script_text.specs.Commands.{act_of, command_of, when_of}
use Rattle.script_text.proofs.laws.script_rows.Goals as goal

pub returns : goal.returns
unfolding command_of when_of act_of words_of pad_of number_of prop_of property_of said
returns c = record {
  lines_row = refl;
  end_row = refl;
  blank_row = refl;
  comment_row = refl;
  indented_row = refl;
  at_row = refl;
  add_row = refl;
  when_row = refl;
  number_row = refl;
  act_row = refl;
  needs_row = refl;
  stray_row = refl;
  undone_row = refl;
  undone_number_row = refl;
  back_row = refl;
  equal_row = refl;
}
