-- The role of an element.
use Rattle.std.specs.Prelude.{◌≡◌, ℕ, Bool, true, false, List, Option, None, Some}
use Rattle.el_settings.specs.declared.settings.Settings.{Settings}
use Rattle.el_settings.specs.Asked.{Place, Begins, Passes, Splits, Gathers, Ends, place_of, is_filter, is_queue, location_of, sink_pads, source_pads}

-- these are the answers to what is asked of the settings
pub record Tells (settings : Settings) (place : Place) (sinks sources : ℕ) (filter queue : Bool) (location : Option (List ℕ)) : Type 0 where
  pub place_is : place_of settings ≡ place
  pub sinks_are : sink_pads settings ≡ sinks
  pub sources_are : source_pads settings ≡ sources
  pub filter_is : is_filter settings ≡ filter
  pub queue_is : is_queue settings ≡ queue
  pub location_is : location_of settings ≡ location

-- An element is a source, which reads a file or makes what it gives; or it stands between two pads, as a filter or as a
-- queue; or it splits a stream to so many pads, or brings the streams of so many pads together; or it is a sink, which writes
-- a file or drops what it takes.
pub data Role (settings : Settings) : Type 0 where
  file_source : (location : List ℕ) → Tells settings Begins 0 1 false false (Some location) → Role settings
  made_source : Tells settings Begins 0 1 false false None → Role settings
  any_filter : Tells settings Passes 1 1 true false None → Role settings
  any_queue : Tells settings Passes 1 1 false true None → Role settings
  any_tee : (pads : ℕ) → Tells settings Splits 1 pads false false None → Role settings
  any_join : (pads : ℕ) → Tells settings Gathers pads 1 false false None → Role settings
  file_sink : (location : List ℕ) → Tells settings Ends 1 0 false false (Some location) → Role settings
  drop_sink : Tells settings Ends 1 0 false false None → Role settings
