-- The role of each element, and what is known of its pads by it.
use Rattle.std.proofs.Common.{◌≡◌, true, false, is_some, refl}
use Rattle.el_settings.specs.Asked.{is_queue, is_sink, is_source, limits_of, makes_sinks, sink_pads, source_pads}
use Rattle.el_settings.specs.Roles.{Role, any_filter, any_queue, any_tee, any_join, drop_sink, file_sink, file_source, made_source}
use Rattle.el_settings.specs.declared.settings.Settings.{Settings}
use Rattle.el_settings.specs.declared.settings.Settings.TheVariants.{FileSrc, RampTestSrc, Queue, Tee, Interleave, Concat, FileSink, FakeSink}

pub role_of : (s : Settings) → Role s
role_of (FileSrc s) = file_source s.location (record { place_is = refl; sinks_are = refl; sources_are = refl; filter_is = refl; queue_is = refl; location_is = refl })
role_of (RampTestSrc s) = made_source (record { place_is = refl; sinks_are = refl; sources_are = refl; filter_is = refl; queue_is = refl; location_is = refl })
role_of (Queue s) = any_queue (record { place_is = refl; sinks_are = refl; sources_are = refl; filter_is = refl; queue_is = refl; location_is = refl })
role_of (Tee pads) = any_tee pads.count (record { place_is = refl; sinks_are = refl; sources_are = refl; filter_is = refl; queue_is = refl; location_is = refl })
role_of (Interleave pads) = any_join pads.count (record { place_is = refl; sinks_are = refl; sources_are = refl; filter_is = refl; queue_is = refl; location_is = refl })
role_of (Concat pads) = any_join pads.count (record { place_is = refl; sinks_are = refl; sources_are = refl; filter_is = refl; queue_is = refl; location_is = refl })
role_of (FileSink s) = file_sink s.location (record { place_is = refl; sinks_are = refl; sources_are = refl; filter_is = refl; queue_is = refl; location_is = refl })
role_of FakeSink = drop_sink (record { place_is = refl; sinks_are = refl; sources_are = refl; filter_is = refl; queue_is = refl; location_is = refl })
role_of _ = any_filter (record { place_is = refl; sinks_are = refl; sources_are = refl; filter_is = refl; queue_is = refl; location_is = refl })

-- a source has a source pad and no sink pad
pub source_sources : (s : Settings) → is_source s ≡ true → source_pads s ≡ 1
source_sources (FileSrc s) is = refl
source_sources (RampTestSrc s) is = refl
source_sources _ is = absurd (cc)

pub source_no_sink : (s : Settings) → is_source s ≡ true → sink_pads s ≡ 0
source_no_sink (FileSrc s) is = refl
source_no_sink (RampTestSrc s) is = refl
source_no_sink _ is = absurd (cc)

-- an element that is no source, and for which no link makes a sink pad, has one sink pad
pub other_sinks : (s : Settings) → is_source s ≡ false → makes_sinks s ≡ false → sink_pads s ≡ 1
other_sinks (FileSrc s) some plain = absurd (cc)
other_sinks (RampTestSrc s) some plain = absurd (cc)
other_sinks (Interleave pads) some plain = absurd (cc)
other_sinks (Concat pads) some plain = absurd (cc)
other_sinks _ some plain = refl

-- a sink has a sink pad and no source pad
pub end_sinks : (s : Settings) → is_sink s ≡ true → sink_pads s ≡ 1
end_sinks (FileSink s) is = refl
end_sinks FakeSink is = refl
end_sinks _ is = absurd (cc)

pub end_no_source_pad : (s : Settings) → is_sink s ≡ true → source_pads s ≡ 0
end_no_source_pad (FileSink s) is = refl
end_no_source_pad FakeSink is = refl
end_no_source_pad _ is = absurd (cc)

pub end_no_source : (s : Settings) → is_sink s ≡ true → is_source s ≡ false
end_no_source (FileSink s) is = refl
end_no_source FakeSink is = refl
end_no_source _ is = absurd (cc)

-- a queue has one pad of each side, is no source, no sink and no filter, and has limits
pub queue_sinks : (s : Settings) → is_queue s ≡ true → sink_pads s ≡ 1
queue_sinks (Queue s) is = refl
queue_sinks _ is = absurd (cc)

pub queue_no_source : (s : Settings) → is_queue s ≡ true → is_source s ≡ false
queue_no_source (Queue s) is = refl
queue_no_source _ is = absurd (cc)

pub queue_limits : (s : Settings) → is_some (limits_of s) ≡ is_queue s
queue_limits (Queue s) = refl
queue_limits _ = refl
