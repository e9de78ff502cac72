-- For which fed and put-out lists an element that writes WAV files stands.
use Rattle.std.specs.Prelude.{◌≡◌, List}
use Rattle.std.specs.Option.{option_map}
use Rattle.flow_model.specs.Item.{Item}
use Rattle.flow_model.specs.Call.{Call}
use Rattle.flow_model.specs.Rule.{Fed, unfed, all_called, owed_for}
use Rattle.flow_model.specs.Feeding.{has_eos}
use Rattle.el_wavenc.specs.declared.wav_enc.WavEnc.{WavEnc}
use Rattle.el_wavenc.specs.Known.{stream_by}
use Rattle.el_wavenc.specs.Encodes.{Progress, progress, encodes}

-- how far its rule has come
abbrev pub encoding : List Call → Fed
encoding calls = all_called encodes unfed calls

-- how far an element has come
abbrev pub come : WavEnc → Progress
come encoder = record {
  stream = option_map stream_by encoder.stream;
  announced = encoder.announced;
  opened = encoder.opened;
  size = encoder.size;
}

-- It was given the calls, of which none was a fault, and put out what is owed for them, each FLUSH_STOP at its place.
-- It is as far as its rule, and knows whether EOS was fed since the last FLUSH_STOP.
pub record Encoded (encoder : WavEnc) (calls : List Call) (put : List Item) : Type 0 where
  pub owed : put ≡ owed_for encodes calls
  pub over : (encoding calls).over ≡ encoder.ended
  pub eos : has_eos calls ≡ encoder.ended
  pub as_far : progress (encoding calls) ≡ come encoder
