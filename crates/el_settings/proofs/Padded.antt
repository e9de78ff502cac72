-- Settings of elements of which links make pads.
use Rattle.std.proofs.Common.{◌≡◌, ◌≤◌, true, false, refl, arith}
use Rattle.gst_caps.specs.declared.caps.Caps.{Caps}
use Rattle.el_settings.specs.Asked.{hands_on, makes_sinks, makes_sources, no_pads, sink_pads, source_pads, with_allowed, with_pads}
use Rattle.el_settings.specs.declared.pads.MadePads.{MadePads}
use Rattle.el_settings.specs.declared.settings.Settings.{Settings}
use Rattle.el_settings.specs.declared.settings.Settings.TheVariants.{FileSrc, RampTestSrc, AudioConvert, Tee, Interleave, Concat, FileSink, FakeSink}

-- the pads that links made
abbrev pub made_pads : Settings → MadePads
made_pads (Tee pads) = pads
made_pads (Interleave pads) = pads
made_pads (Concat pads) = pads
made_pads _ = no_pads

-- the last that are given count
pub padded_twice : (pads other : MadePads) (s : Settings) → with_pads pads (with_pads other s) ≡ with_pads pads s
padded_twice pads other (Tee was) = refl
padded_twice pads other (Interleave was) = refl
padded_twice pads other (Concat was) = refl
padded_twice pads other _ = refl

pub padded_own : (s : Settings) → with_pads (made_pads s) s ≡ s
padded_own (Tee was) = refl
padded_own (Interleave was) = refl
padded_own (Concat was) = refl
padded_own _ = refl

-- pads and what a converter is allowed are apart
pub padded_allowed : (pads : MadePads) (caps : Caps) (s : Settings) → with_allowed caps (with_pads pads s) ≡ with_pads pads (with_allowed caps s)
padded_allowed pads caps (Tee was) = refl
padded_allowed pads caps (Interleave was) = refl
padded_allowed pads caps (Concat was) = refl
padded_allowed pads caps (AudioConvert s) = refl
padded_allowed pads caps _ = refl

-- how many pads an element has then
pub sources_given : (pads : MadePads) (s : Settings) → makes_sources s ≡ true → source_pads (with_pads pads s) ≡ pads.count
sources_given pads (Tee was) is = refl
sources_given pads _ is = absurd (cc)

pub sinks_given : (pads : MadePads) (s : Settings) → makes_sinks s ≡ true → sink_pads (with_pads pads s) ≡ pads.count
sinks_given pads (Interleave was) is = refl
sinks_given pads (Concat was) is = refl
sinks_given pads _ is = absurd (cc)

pub sources_kept : (pads : MadePads) (s : Settings) → makes_sources s ≡ false → source_pads (with_pads pads s) ≡ source_pads s
sources_kept pads (Tee was) is = absurd (cc)
sources_kept pads (Interleave was) is = refl
sources_kept pads (Concat was) is = refl
sources_kept pads _ is = refl

pub sinks_kept : (pads : MadePads) (s : Settings) → makes_sinks s ≡ false → sink_pads (with_pads pads s) ≡ sink_pads s
sinks_kept pads (Tee was) is = refl
sinks_kept pads (Interleave was) is = absurd (cc)
sinks_kept pads (Concat was) is = absurd (cc)
sinks_kept pads _ is = refl

pub sources_made : (s : Settings) → makes_sources s ≡ true → source_pads s ≡ (made_pads s).count
sources_made (Tee pads) is = refl
sources_made _ is = absurd (cc)

pub sinks_made : (s : Settings) → makes_sinks s ≡ true → sink_pads s ≡ (made_pads s).count
sinks_made (Interleave pads) is = refl
sinks_made (Concat pads) is = refl
sinks_made _ is = absurd (cc)

pub none_made : (s : Settings) → makes_sources s ≡ false → makes_sinks s ≡ false → made_pads s ≡ no_pads
none_made (Tee pads) no_source no_sink = absurd (cc)
none_made (Interleave pads) no_source no_sink = absurd (cc)
none_made (Concat pads) no_source no_sink = absurd (cc)
none_made _ no_source no_sink = refl

-- links make pads of one direction
pub one_direction : (s : Settings) → makes_sources s ≡ true → makes_sinks s ≡ false
one_direction (Tee pads) is = refl
one_direction _ is = absurd (cc)

-- an element that splits a stream does not hand caps on
pub split_alone : (s : Settings) → makes_sources s ≡ true → hands_on s ≡ false
split_alone (Tee pads) is = refl
split_alone _ is = absurd (cc)

-- no element has more than 64 source pads
pub few_sources : (s : Settings) → source_pads s ≤ 64
few_sources (Tee pads) = pads.few
few_sources (FileSink s) = omega arith
few_sources FakeSink = omega arith
few_sources _ = omega arith

-- nor more than 64 sink pads
pub few_sinks : (s : Settings) → sink_pads s ≤ 64
few_sinks (FileSrc s) = omega arith
few_sinks (RampTestSrc s) = omega arith
few_sinks (Interleave pads) = pads.few
few_sinks (Concat pads) = pads.few
few_sinks _ = omega arith

-- nor more than one, where no link makes it
pub one_sink : (s : Settings) → makes_sinks s ≡ false → sink_pads s ≤ 1
one_sink (FileSrc s) plain = omega arith
one_sink (RampTestSrc s) plain = omega arith
one_sink (Interleave pads) plain = absurd (cc)
one_sink (Concat pads) plain = absurd (cc)
one_sink _ plain = omega arith
