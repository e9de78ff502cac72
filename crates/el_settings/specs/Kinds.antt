-- The kinds of elements.
use Rattle.std.specs.Prelude.{ℕ, List, [], ◌∷◌, codes}
use Rattle.el_law.specs.declared.kind.LawKind.TheVariants.{MulawEnc, AlawEnc, MulawDec, AlawDec}
use Rattle.el_settings.specs.declared.kind.Kind.{Kind}
use Rattle.el_settings.specs.declared.kind.Kind.TheVariants.{FileSrc, RampTestSrc, Identity, CapsFilter, Valve, Queue, Tee, AudioConvert, Law, RawAudioParse, AudioBufferSplit, WavParse, WavEnc, Interleave, Concat, FileSink, FakeSink}

abbrev pub kinds : List (List ℕ × Kind)
kinds =
    (codes "filesrc", FileSrc) ∷ (codes "ramptestsrc", RampTestSrc) ∷ (codes "identity", Identity) ∷ (codes "capsfilter", CapsFilter) ∷ (codes "valve", Valve) ∷ (codes "queue", Queue)
    ∷ (codes "tee", Tee) ∷ (codes "audioconvert", AudioConvert) ∷ (codes "mulawenc", Law MulawEnc) ∷ (codes "alawenc", Law AlawEnc) ∷ (codes "mulawdec", Law MulawDec) ∷ (codes "alawdec", Law AlawDec)
    ∷ (codes "rawaudioparse", RawAudioParse) ∷ (codes "audiobuffersplit", AudioBufferSplit) ∷ (codes "wavparse", WavParse) ∷ (codes "wavenc", WavEnc) ∷ (codes "interleave", Interleave) ∷ (codes "concat", Concat)
    ∷ (codes "filesink", FileSink) ∷ (codes "fakesink", FakeSink) ∷ []
