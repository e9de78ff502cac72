-- The rules of the elements, by what they are set to.
use Rattle.flow_model.specs.Rule.{Response, Rule, only, passes, single, Answers}
use Rattle.flow_model.specs.Feeding.{next_owed}
use Rattle.el_basic.specs.Filters.{filters}
use Rattle.el_basic.specs.Valves.{valves}
use Rattle.el_convert.specs.Converts.{converts}
use Rattle.el_join.specs.Concats.{concat_rule, concat_answers}
use Rattle.el_law.specs.Laws.{recodes}
use Rattle.el_mix.specs.Answer.{mix_answer}
use Rattle.el_mix.specs.Mixes.{mixes}
use Rattle.el_parse.specs.Parses.{parses as parses_raw}
use Rattle.el_parse.specs.Splits.{splits}
use Rattle.el_wav.specs.WavParse.{parses as parses_wav}
use Rattle.el_wavenc.specs.Encodes.{encodes}
use Rattle.el_settings.specs.declared.settings.Settings.{Settings}
use Rattle.el_settings.specs.declared.settings.Settings.TheVariants.{FileSrc, RampTestSrc, Identity, CapsFilter, Valve, Queue, Tee, AudioConvert, Law, RawAudioParse, AudioBufferSplit, WavParse, WavEnc, Interleave, Concat, FileSink, FakeSink}

-- the rule of an element with one sink pad; one with several sink pads is not asked
abbrev pub response_of : Settings → Response
response_of (CapsFilter s) = filters s.caps
response_of (Valve s) = valves s.drops
response_of (FileSrc s) = passes
response_of (RampTestSrc s) = passes
response_of Identity = passes
response_of (Queue s) = passes
response_of (Tee pads) = passes
response_of (AudioConvert s) = converts s.allowed
response_of (Law kind) = recodes kind
response_of (RawAudioParse info) = parses_raw info
response_of (AudioBufferSplit s) = splits s.frames
response_of WavParse = parses_wav
response_of WavEnc = encodes
response_of (Interleave pads) = passes
response_of (Concat pads) = passes
response_of (FileSink s) = passes
response_of FakeSink = passes

-- The rule of an element: of one with several sink pads over the lists of all of them. A tee owes to each of its source pads
-- what it was fed.
abbrev pub rule_of : Settings → Rule
rule_of (Interleave pads) = mixes
rule_of (Concat pads) = concat_rule
rule_of settings = single (response_of settings)

abbrev pub answers_by : Response → Answers
answers_by respond given pad x = next_owed respond (only given) x

abbrev pub answers_of : Settings → Answers
answers_of (Interleave pads) = mix_answer
answers_of (Concat pads) = concat_answers
answers_of settings = answers_by (response_of settings)
