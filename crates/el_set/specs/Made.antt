-- What is made by settings.
use Rattle.std.specs.Prelude.{◌≡◌, ℕ, Bool, true, false, List, [], replicate, Option, None, Some, is_some}
use Rattle.std.specs.Option.{ForSome, option_map}
use Rattle.flow_model.specs.Item.{Item}
use Rattle.flow_model.specs.Source.{file_list}
use Rattle.el_basic.specs.declared.tee.Tee.{Tee}
use Rattle.el_basic.specs.Spread.{Spread, pad_count}
use Rattle.el_src.specs.Ramp.{ramp_list}
use Rattle.el_settings.specs.declared.settings.Settings.{Settings}
use Rattle.el_settings.specs.declared.settings.Settings.TheVariants.{FileSrc, RampTestSrc, FileSink, FakeSink}
use Rattle.el_set.specs.declared.filter.FilterElement.{FilterElement}
use Rattle.el_set.specs.declared.join.JoinElement.{JoinElement}
use Rattle.el_set.specs.declared.source.SourceElement.{SourceElement}
use Rattle.el_set.specs.declared.sink.SinkElement.{SinkElement}
use Rattle.el_settings.specs.Asked.{is_filter, makes_sinks, makes_sources, sink_pads, source_pads}
use Rattle.el_set.specs.Denoted.{response_of, rule_of, answers_of}
use Rattle.el_set.specs.Joins.{JoinStands, join_rule, join_answers, join_pads}
use Rattle.el_set.specs.Stands.{Stands}
use Rattle.el_set.specs.Gives.{SourceGave, source_items, source_file}
use Rattle.el_set.specs.Holds.{SinkHeld, sink_file, sink_len}

-- it has the rule of its settings, and was given nothing yet
abbrev pub IsFilterFor : Settings → Option FilterElement → Type 0
IsFilterFor settings None = is_filter settings ≡ false
IsFilterFor settings (Some element) = (is_filter settings ≡ true) × Stands (response_of settings) element [] []

-- it has the source pads of its settings, all made before anything was given
pub record MadeTee (settings : Settings) (tee : Tee) : Type 0 where
  pub kind : makes_sources settings ≡ true
  pub spread : Spread tee (replicate (source_pads settings) 0) [] (replicate (source_pads settings) [])
  pub pads : pad_count tee ≡ source_pads settings

abbrev pub IsTeeFor : Settings → Option Tee → Type 0
IsTeeFor settings None = makes_sources settings ≡ false
IsTeeFor settings (Some tee) = MadeTee settings tee

-- it has the rule and the sink pads of its settings, and was given nothing yet
pub record MadeJoin (settings : Settings) (join : JoinElement) : Type 0 where
  pub kind : makes_sinks settings ≡ true
  pub rule : join_rule join ≡ rule_of settings
  pub answers : join_answers join ≡ answers_of settings
  pub stands : JoinStands join (replicate (sink_pads settings) []) []
  pub pads : join_pads join ≡ sink_pads settings

abbrev pub IsJoinFor : Settings → Option JoinElement → Type 0
IsJoinFor settings None = makes_sinks settings ≡ false
IsJoinFor settings (Some join) = MadeJoin settings join

-- whether there is a source of these settings that reads this
abbrev pub makes_source : {S : Type 0} → Settings → Option S → Bool
makes_source (FileSrc s) file = is_some file
makes_source (RampTestSrc s) file = true
makes_source _ file = false

-- the content of what a source of these settings reads, by that of its file
abbrev pub read_content : Settings → List ℕ → List ℕ
read_content (FileSrc s) content = content
read_content _ content = []

-- what a source of these settings owes, by the content of its file
abbrev pub list_of : Settings → ℕ → List ℕ → List Item
list_of (FileSrc s) id content = file_list id s.blocksize content
list_of (RampTestSrc s) id content = ramp_list s.ramp id
list_of _ id content = []

-- what a source of these settings reads; a ramp reads nothing
abbrev pub read_for : {S : Type 0} → Settings → Option S → Option S
read_for (FileSrc s) file = file
read_for _ file = None

-- it owes the list of its settings, gave nothing yet, and reads the file
abbrev pub IsSourceFor : {S : Type 0} → (S → Option (List ℕ)) → Settings → Option S → ℕ → Option (SourceElement S) → Type 0
IsSourceFor content settings file id None = makes_source settings file ≡ false
IsSourceFor content settings file id (Some source) =
    (makes_source settings file ≡ true) × SourceGave content source (list_of settings id) [] × (source_items source ≡ 0) × (source_file source ≡ read_for settings file)

-- whether there is a sink of these settings that writes this
abbrev pub makes_sink : {K : Type 0} → Settings → Option K → Bool
makes_sink (FileSink s) file = is_some file
makes_sink FakeSink file = true
makes_sink _ file = false

-- what a sink of these settings writes; a fake sink writes nothing
abbrev pub file_for : {K : Type 0} → Settings → Option K → Option K
file_for (FileSink s) file = file
file_for _ file = None

-- whether a flush keeps what was written
abbrev pub keeps_flushed : Settings → Bool
keeps_flushed (FileSink s) = s.keep_flushed
keeps_flushed _ = false

abbrev pub IsEmpty : {K : Type 0} → (K → Option (List ℕ)) → Option K → Type 0
IsEmpty bytes None = Unit {0}
IsEmpty bytes (Some file) = ForSome (bytes file) (λ b. b ≡ [])

-- it was given nothing yet, and writes the file, which is empty
abbrev pub IsSinkFor : {K : Type 0} → (K → Option (List ℕ)) → Settings → Option K → Option (SinkElement K) → Type 0
IsSinkFor bytes settings file None = makes_sink settings file ≡ false
IsSinkFor bytes settings file (Some sink) =
    (makes_sink settings file ≡ true)
    × (IsEmpty bytes (file_for settings file) → SinkHeld bytes (keeps_flushed settings) sink [])
    × (sink_file sink ≡ file_for settings file)
    × (sink_len sink ≡ option_map (λ k. 0) (file_for settings file))
