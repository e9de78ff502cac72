-- For which fed and put-out lists a parser of raw audio stands.
use Rattle.std.specs.Prelude.{◌≡◌, ℕ, ◌*◌, ◌/◌, List, [], ◌++◌, length, Bool, false}
use Rattle.audio_info.specs.declared.info.Info.{Info}
use Rattle.flow_model.specs.Item.{Item}
use Rattle.flow_model.specs.Call.{Call, items}
use Rattle.flow_model.specs.Rule.{Fed, unfed, all_called, owed_for}
use Rattle.flow_model.specs.Feeding.{has_eos}
use Rattle.el_parse.specs.declared.raw_parse.RawParse.{RawParse}
use Rattle.el_parse.specs.Part.{part_bytes}
use Rattle.el_parse.specs.Frames.{frame_width, bytes_in}
use Rattle.el_parse.specs.Parses.{Progress, progress, parses}

-- how far its rule has come
abbrev pub parsed : Info → List Call → Fed
parsed info calls = all_called (parses info) unfed calls

-- how far a parser has come
abbrev pub come : RawParse → Progress
come parser = record { opened = parser.opened; next = parser.next; held = bytes_in parser.rest; reached = parser.reached }

-- In each part whole frames were put out: they and what is held are the bytes that were given.
pub record PutFrames (width : ℕ) (fed : Fed) (held : List ℕ) (opened : Bool) : Type 0 where
  pub whole : part_bytes fed.out ++ held ≡ part_bytes (items fed.given)
  pub frames : length (part_bytes fed.out) / width * width ≡ length (part_bytes fed.out)
  pub unopened : opened ≡ false → part_bytes (items fed.given) ≡ []

-- It parses frames of this kind, was given the calls, of which none was a fault, and put out what is owed for them,
-- each FLUSH_STOP at its place. It is as far as its rule, and knows whether EOS was fed since the last FLUSH_STOP.
pub record Parsed (info : Info) (parser : RawParse) (calls : List Call) (put : List Item) : Type 0 where
  pub owed : put ≡ owed_for (parses info) calls
  pub over : (parsed info calls).over ≡ parser.ended
  pub eos : has_eos calls ≡ parser.ended
  pub same : parser.info ≡ info
  pub as_far : progress info (parsed info calls) ≡ come parser
  pub bytes : PutFrames (frame_width info) (parsed info calls) (bytes_in parser.rest) parser.opened
