-- What an element that writes WAV files puts out for a call, whatever lists it stands for.
use Rattle.std.specs.Prelude.{List}
use Rattle.gst_item.specs.declared.out.Out.{Out}
use Rattle.flow_model.specs.Call.{Call}
use Rattle.flow_model.specs.Puts.{PutsBy}
use Rattle.el_wavenc.specs.declared.wav_enc.WavEnc.{WavEnc}
use Rattle.el_wavenc.specs.Encodes.{encodes}
use Rattle.el_wavenc.specs.Encoded.{Encoded}

-- It put out for a call what each rule owes by which it stands.
abbrev pub Puts : WavEnc → WavEnc → Call → List Out → List Out → Type 0
Puts old new call out out' = PutsBy (λ (one : Unit {0}). encodes) (λ one encoder calls put. Encoded encoder calls put) old new call out out'
