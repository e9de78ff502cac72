-- What an element that writes WAV files puts out for a call.
use Rattle.std.proofs.Common.{◌≡◌, true, false, List, [], ◌++◌, sym, ap, ◌∙◌, append-nil}
use Rattle.std.specs.Prelude.{IsOk}
use Rattle.gst_item.specs.declared.out.Out.{Out}
use Rattle.flow_model.specs.Item.{Item, is_flush_stop, is_eos}
use Rattle.flow_model.specs.Call.{Feed, Act, Drain}
use Rattle.flow_model.specs.Feeding.{on_pad}
use Rattle.flow_model.specs.Owed.{answered}
use Rattle.el_wavenc.specs.declared.wav_enc.WavEnc.{WavEnc}
use Rattle.el_wavenc.specs.Encodes.{ending, encode_answer, finished, progress_behind}
use Rattle.el_wavenc.specs.Encoded.{come}
use Rattle.el_wavenc.specs.Puts.{Puts}
use Rattle.el_wavenc.proofs.Encoding.{encoded_item, encoded_behind, encoded_drained, encoded_drained_behind}

-- for an item in a section that is not over
pub puts_taken : (old new : WavEnc) (x : Item) (out out' : List Out) → is_flush_stop x ≡ false → old.ended ≡ false
    → IsOk (encode_answer (come old) x) → come new ≡ progress_behind (come old) x → new.ended ≡ is_eos x
    → out' ≡ out ++ on_pad 0 (answered (encode_answer (come old) x)) → Puts old new (Feed x) out out'
puts_taken old new x out out' plain begun ok moved ends outs =
    record {
      more = answered (encode_answer (come old) x);
      outs = outs;
      owed = λ one calls put p. (encoded_item old new x plain begun ok moved ends calls put p).0;
      stands = λ one calls put p. (encoded_item old new x plain begun ok moved ends calls put p).1;
    }

-- behind EOS
pub puts_behind : (encoder : WavEnc) (x : Item) (out : List Out) → is_flush_stop x ≡ false → encoder.ended ≡ true
    → Puts encoder encoder (Feed x) out out
puts_behind encoder x out plain ended =
    record {
      more = [];
      outs = sym (append-nil out);
      owed = λ one calls put p. (encoded_behind encoder x plain ended calls put p).0;
      stands = λ one calls put p. (encoded_behind encoder x plain ended calls put p).1;
    }

-- for a drain: what ends the file
pub puts_ending : (old new : WavEnc) (out out' : List Out) → old.ended ≡ false → come new ≡ finished (come old) → new.ended ≡ old.ended
    → out' ≡ out ++ on_pad 0 (ending (come old) ++ []) → Puts old new (Act Drain) out out'
puts_ending old new out out' begun moved ends outs =
    record {
      more = ending (come old);
      outs = outs ∙ ap (λ ys. out ++ on_pad 0 ys) (append-nil (ending (come old)));
      owed = λ one calls put p. (encoded_drained old new begun moved ends calls put p).0;
      stands = λ one calls put p. (encoded_drained old new begun moved ends calls put p).1;
    }

-- and behind EOS nothing
pub puts_none : (encoder : WavEnc) (out : List Out) → encoder.ended ≡ true → Puts encoder encoder (Act Drain) out out
puts_none encoder out ended =
    record {
      more = [];
      outs = sym (append-nil out);
      owed = λ one calls put p. (encoded_drained_behind encoder ended calls put p).0;
      stands = λ one calls put p. (encoded_drained_behind encoder ended calls put p).1;
    }
