-- What a sink answers and takes: it refuses no item, no lanes feed it, and one that writes a location opens that.
use Rattle.std.proofs.Common.{◌≡◌, ◌||◌, ℕ, Bool, true, false, if◌then◌else◌, List, [], ◌∷◌, Option, Some, Ok, get_or, map, refl, sym, ap, ◌∙◌}
use Rattle.std.specs.Prelude.{slice_get}
use Rattle.std.specs.Option.{option_map, option_map_or}
use Rattle.std.proofs.lemmas.Bool.{true≢false}
use Rattle.el_set.proofs.Fed.{inlets_no_sink}
use Rattle.el_settings.specs.Asked.{is_queue, location_of, makes_sinks}
use Rattle.el_settings.specs.declared.settings.Settings.{Settings}
use Rattle.flow_model.specs.Call.{Call, feeds, items}
use Rattle.flow_model.specs.Feeding.{IsFaultOf}
use Rattle.flow_model.specs.Item.{Item}
use Rattle.flow_model.specs.Link.{Span, input_of}
use Rattle.flow_model.specs.declared.fault.ElementFault.{ElementFault}
use Rattle.flow_model.specs.declared.fault.ElementFault.TheVariants as own_faults
use Rattle.flow_model.proofs.Items.{items_feeds}
use Rattle.graph_core.specs.Elements.{Made}
use Rattle.graph_edits.specs.Edited.{Edited}
use Rattle.graph_edits.specs.Refused.{has_lanes}
use Rattle.graph_parts.specs.Files.{opened_by, opening_of}
use Rattle.graph_parts.proofs.OwnFiles.{IsWriter}
use Rattle.run_files.specs.declared.end.Opening.TheVariants.{Write}
use Rattle.task_elements.specs.Stands.{takes_all}

-- an element that takes all has no fault but want of memory
pub takes_none : (took : List (List Call)) (pad : ℕ) (x : Item) (fault : ElementFault) → IsFaultOf (takes_all.answers took pad x) fault → fault ≡ own_faults.OutOfMemory
takes_none took pad x fault is = go _ fault is
  where
    go : (over : Bool) (f : ElementFault) → IsFaultOf (if over then Ok [] else Ok (x ∷ [])) f → f ≡ own_faults.OutOfMemory
    go true (own_faults.NotNegotiated offered wanted) e = absurd (cc)
    go false (own_faults.NotNegotiated offered wanted) e = absurd (cc)
    go true (own_faults.BadStream place kind) e = absurd (cc)
    go false (own_faults.BadStream place kind) e = absurd (cc)
    go true (own_faults.TooLong a b) e = absurd (cc)
    go false (own_faults.TooLong a b) e = absurd (cc)
    go over own_faults.OutOfMemory e = refl

-- what its only sink pad was given is what a sink took
pub one_given : (h : ℕ → List Item) (spans : List (List Span)) (list : List Item) → map (input_of h) spans ≡ feeds list ∷ [] → items (input_of h (get_or spans 0 [])) ≡ list
one_given h [] list is = absurd (no is)
  where
    no : [] ≡ feeds list ∷ [] → ⊥
    no e = cc
one_given h (one ∷ []) list is = ap items (first is) ∙ items_feeds list
  where
    first : input_of h one ∷ [] ≡ feeds list ∷ [] → input_of h one ≡ feeds list
    first e = cc
one_given h (one ∷ other ∷ more) list is = absurd (no is)
  where
    no : input_of h one ∷ input_of h other ∷ map (input_of h) more ≡ feeds list ∷ [] → ⊥
    no e = cc

-- no lanes feed a sink
pub sink_alone : (g : Edited) (d : ℕ) (one : Made) (location : List ℕ) → slice_get g.made d ≡ Some one → IsWriter one.settings location → has_lanes g d ≡ false
sink_alone g d one location here own =
    ap (λ (found : Option Made). option_map_or (λ (m : Made). is_queue m.settings) found false || option_map_or (λ (m : Made). makes_sinks m.settings) found false) here ∙ by (is_queue one.settings || makes_sinks one.settings) refl
  where
    by : (b : Bool) → (is_queue one.settings || makes_sinks one.settings) ≡ b → (is_queue one.settings || makes_sinks one.settings) ≡ false
    by true fed = absurd (true≢false (sym own.sink ∙ inlets_no_sink one.settings fed))
    by false is = is

-- one that writes a location opens it to be written
pub writer_opens : (s : Settings) (location : List ℕ) → IsWriter s location → opening_of s ≡ Some (Write location)
writer_opens s location own = ap (λ (source : Bool). option_map (opened_by source) (location_of s)) own.no_source ∙ ap (option_map (opened_by false)) own.place
