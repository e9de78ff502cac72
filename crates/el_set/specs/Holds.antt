-- For which lists a sink stands.
use Rattle.std.specs.Prelude.{ℕ, Bool, List, Option, Some, None}
use Rattle.flow_model.specs.Item.{Item}
use Rattle.el_sink.specs.declared.fault.WriteFault.{WriteFault}
use Rattle.el_sink.specs.Held.{Held, HeldPart, sink_of, length_of}
use Rattle.el_sink.specs.Passed.{Passed}
use Rattle.el_set.specs.declared.sink.SinkElement.{SinkElement}
use Rattle.el_set.specs.declared.sink.SinkElement.TheVariants.{File, Fake}
use Rattle.gst_outside.specs.Causes.{NamesRise}

-- It was given the list, whose writes all went well; keep says whether a flush keeps the bytes of a file. A fake sink
-- knows only whether EOS ended the list.
abbrev pub SinkHeld : {K : Type 0} → (K → Option (List ℕ)) → Bool → SinkElement K → List Item → Type 0
SinkHeld bytes keep (File file) list = Held bytes keep file list
SinkHeld bytes keep (Fake fake) list = Passed fake list

-- It was given the list, and then an item of which a write or a cut failed.
abbrev pub SinkPart : {K : Type 0} → (K → Option (List ℕ)) → Bool → SinkElement K → List Item → Item → Type 0
SinkPart bytes keep (File file) list x = HeldPart bytes keep file list x
SinkPart bytes keep (Fake fake) list x = ⊥

-- the length of a sink's file as it stands
abbrev pub sink_len : {K : Type 0} → SinkElement K → Option ℕ
sink_len (File file) = Some (length_of file)
sink_len (Fake fake) = None

-- what a sink writes to
abbrev pub sink_file : {K : Type 0} → SinkElement K → Option K
sink_file (File file) = Some (sink_of file)
sink_file (Fake fake) = None

-- the count of failures and the location of what a sink writes to
abbrev pub sink_faults : {K : Type 0} → (K → ℕ) → SinkElement K → Option ℕ
sink_faults faults (File file) = Some (faults (sink_of file))
sink_faults faults (Fake fake) = None

abbrev pub sink_location : {K : Type 0} → (K → Option (List ℕ)) → SinkElement K → Option (List ℕ)
sink_location location (File file) = location (sink_of file)
sink_location location (Fake fake) = None

-- a write failed only where the count of failures rose, and both counts are named
abbrev pub SinkCause : Option ℕ → Option ℕ → WriteFault → Type 0
SinkCause was is fault = NamesRise was is fault.before fault.after
