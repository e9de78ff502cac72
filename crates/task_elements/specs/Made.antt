-- Elements of a stream that are made by settings.
use Rattle.std.specs.Prelude.{◌≡◌, ◌||◌, ℕ, Bool, false, if◌then◌else◌, List, [], replicate, Option, Some, None}
use Rattle.flow_model.specs.Rule.{Rule}
use Rattle.flow_model.specs.Moment.{Behavior}
use Rattle.el_settings.specs.declared.settings.Settings.{Settings}
use Rattle.el_settings.specs.Asked.{is_filter, is_queue, is_sink, makes_sinks, makes_sources, sink_pads, source_pads}
use Rattle.el_set.specs.Denoted.{rule_of as owes_by, answers_of}
use Rattle.el_set.specs.Made.{makes_sink, file_for, IsEmpty}
use Rattle.task_elements.specs.declared.element.StreamElement.{StreamElement}
use Rattle.task_elements.specs.Stands.{StreamStands, owes_nothing, file_in, pads_of}

-- the rule of an element of these settings; a sink owes nothing
abbrev pub rule_of : Settings → Rule
rule_of settings = if is_sink settings then owes_nothing else owes_by settings

-- what an element of these settings does, where it has a sink pad
abbrev pub behavior_of : Settings → Behavior
behavior_of settings = record { owes = rule_of settings; answers = answers_of settings }

-- whether there is an element with a sink pad of these settings that writes this
abbrev pub makes_element : {K : Type 0} → Settings → Option K → Bool
makes_element settings file =
    is_filter settings || (is_queue settings || (makes_sources settings || (makes_sinks settings || makes_sink settings file)))

-- It does what its settings say, took nothing yet at each of its sink pads, and writes the file, which is empty.
abbrev pub IsElementFor : {K : Type 0} → (K → Option (List ℕ)) → Settings → Option K → Option (StreamElement K) → Type 0
IsElementFor bytes settings file None = makes_element settings file ≡ false
IsElementFor bytes settings file (Some element) =
    (IsEmpty bytes (file_for settings file) → StreamStands bytes element (behavior_of settings) (replicate (sink_pads settings) []))
    × (file_in element ≡ file_for settings file)
    × (pads_of element ≡ source_pads settings)
