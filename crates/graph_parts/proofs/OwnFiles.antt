-- The files that elements open, by what their settings answer.
use Rattle.std.proofs.Common.{◌≡◌, ◌||◌, ℕ, Bool, true, false, List, [], Option, Some, None, replicate, refl, sym, ap, ◌∙◌, subst}
use Rattle.std.specs.Option.{option_map}
use Rattle.std.proofs.lemmas.Option.{none-some, same_Some}
use Rattle.el_settings.specs.Asked.{Place, Begins, Passes, Splits, Gathers, Ends, begins, ends, is_filter, is_queue, is_sink, is_source, location_of, makes_sinks, makes_sources, place_of, reads, sink_pads, source_pads, writes}
use Rattle.el_set.specs.Made.{IsEmpty, file_for, read_for}
use Rattle.el_settings.specs.Roles.{Role, any_filter, any_join, any_queue, any_tee, drop_sink, file_sink, file_source, made_source}
use Rattle.el_settings.specs.declared.settings.Settings.{Settings}
use Rattle.el_set.proofs.Openings.{read_again, sink_again, source_again, written_again}
use Rattle.el_settings.proofs.Roles.{role_of}
use Rattle.gst_outside.specs.declared.sink.Sink as sinks
use Rattle.gst_outside.specs.declared.source.Source as sources
use Rattle.run_files.specs.declared.end.Opening.{Opening}
use Rattle.run_files.specs.declared.end.Opening.TheVariants.{Read, Write}
use Rattle.task_elements.specs.Made.{behavior_of}
use Rattle.task_elements.specs.Stands.{StreamStands, file_in, pads_of}
use Rattle.task_elements.specs.declared.element.StreamElement.{StreamElement}
use Rattle.task_elements.specs.declared.source.StreamSource.{StreamSource}
use Rattle.graph_parts.specs.Files.{opened_by, opening_of}
use Rattle.graph_parts.specs.Filled.{IsGiverFor, IsMadeFor}

-- an element takes the file that it writes of an end, and a source the one that it reads
pub made_with : {K : Type 0} (k : sinks.Ghosts K) (settings : Settings) (file : Option K) (element : Option (StreamElement K)) → IsMadeFor k settings (file_for settings file) element → IsMadeFor k settings file element
made_with k settings file None is =
    ap (λ (b : Bool). is_filter settings || (is_queue settings || (makes_sources settings || (makes_sinks settings || b)))) (sym (sink_again settings file)) ∙ is
made_with {K} k settings file (Some element) is =
    subst (λ (own : Option K). (IsEmpty k.bytes own → StreamStands k.bytes element (behavior_of settings) (replicate (sink_pads settings) [])) × (file_in element ≡ own) × (pads_of element ≡ source_pads settings))
    (written_again settings file) is

pub given_with : {S : Type 0} (g : sources.Ghosts S) (settings : Settings) (file : Option S) (e : ℕ) (source : Option (StreamSource S)) → IsGiverFor g settings (read_for settings file) e source → IsGiverFor g settings file e source
given_with g settings file e None is = sym (source_again settings file) ∙ is
given_with g settings file e (Some source) is =
    record { made = (sym (source_again settings file) ∙ is.made.0, is.made.1, is.made.2, is.made.3 ∙ read_again settings file); owes = is.owes }

-- an element that writes a location is a sink
pub record IsWriter (settings : Settings) (location : List ℕ) : Type 0 where
  pub place : location_of settings ≡ Some location
  pub no_source : is_source settings ≡ false
  pub sink : is_sink settings ≡ true
  pub no_pad : source_pads settings ≡ 0
  pub writing : writes settings ≡ true
  pub no_reading : reads settings ≡ false

-- one that reads a location is a source
pub record IsReader (settings : Settings) (location : List ℕ) : Type 0 where
  pub place : location_of settings ≡ Some location
  pub source : is_source settings ≡ true
  pub reading : reads settings ≡ true
  pub no_writing : writes settings ≡ false

-- what is opened goes by whether the element is a source, and by its location
pub opened : (s : Settings) (p : Place) (o : Option (List ℕ)) → place_of s ≡ p → location_of s ≡ o → opening_of s ≡ option_map (opened_by (begins p)) o
opened s p o stands place = ap (λ (q : Place). option_map (opened_by (begins q)) (location_of s)) stands ∙ ap (option_map (opened_by (begins p))) place

some_one : (one other : Opening) → Some one ≡ Some other → one ≡ other
some_one one other is = same_Some one other is

pub writer : (s : Settings) (location : List ℕ) → opening_of s ≡ Some (Write location) → IsWriter s location
writer s location is = by (role_of s)
  where
    never : opening_of s ≡ None → IsWriter s location
    never none = absurd (none-some (Write location) (sym none ∙ is))

    by : Role s → IsWriter s location
    by (file_source own t) = absurd (let no = some_one (Read own) (Write location) (sym (opened s Begins (Some own) t.place_is t.location_is) ∙ is) in cc)
    by (made_source t) = never (opened s Begins None t.place_is t.location_is)
    by (any_filter t) = never (opened s Passes None t.place_is t.location_is)
    by (any_queue t) = never (opened s Passes None t.place_is t.location_is)
    by (any_tee pads t) = never (opened s Splits None t.place_is t.location_is)
    by (any_join pads t) = never (opened s Gathers None t.place_is t.location_is)
    by (file_sink own t) =
        let same = some_one (Write own) (Write location) (sym (opened s Ends (Some own) t.place_is t.location_is) ∙ is) in
        record {
          place = t.location_is ∙ (let one : own ≡ location = cc in ap Some one);
          no_source = ap begins t.place_is;
          sink = ap ends t.place_is;
          no_pad = t.sources_are;
          writing = rw (t.place_is, t.location_is) refl;
          no_reading = rw t.place_is refl;
        }
    by (drop_sink t) = never (opened s Ends None t.place_is t.location_is)

pub reader : (s : Settings) (location : List ℕ) → opening_of s ≡ Some (Read location) → IsReader s location
reader s location is = by (role_of s)
  where
    never : opening_of s ≡ None → IsReader s location
    never none = absurd (none-some (Read location) (sym none ∙ is))

    by : Role s → IsReader s location
    by (file_source own t) =
        let same = some_one (Read own) (Read location) (sym (opened s Begins (Some own) t.place_is t.location_is) ∙ is) in
        record {
          place = t.location_is ∙ (let one : own ≡ location = cc in ap Some one);
          source = ap begins t.place_is;
          reading = rw (t.place_is, t.location_is) refl;
          no_writing = rw t.place_is refl;
        }
    by (made_source t) = never (opened s Begins None t.place_is t.location_is)
    by (any_filter t) = never (opened s Passes None t.place_is t.location_is)
    by (any_queue t) = never (opened s Passes None t.place_is t.location_is)
    by (any_tee pads t) = never (opened s Splits None t.place_is t.location_is)
    by (any_join pads t) = never (opened s Gathers None t.place_is t.location_is)
    by (file_sink own t) = absurd (let no = some_one (Write own) (Read location) (sym (opened s Ends (Some own) t.place_is t.location_is) ∙ is) in cc)
    by (drop_sink t) = never (opened s Ends None t.place_is t.location_is)

-- what is written and what is read is opened so
pub writing_opens : (s : Settings) → writes s ≡ true → (location : List ℕ) × (opening_of s ≡ Some (Write location)) × (location_of s ≡ Some location)
writing_opens s is = by (role_of s)
  where
    no : {P : Type 0} → writes s ≡ false → P
    no false_is = absurd (let never : true ≡ false = sym is ∙ false_is in cc)

    by : Role s → (location : List ℕ) × (opening_of s ≡ Some (Write location)) × (location_of s ≡ Some location)
    by (file_source own t) = no (rw t.place_is refl)
    by (made_source t) = no (rw t.place_is refl)
    by (any_filter t) = no (rw t.place_is refl)
    by (any_queue t) = no (rw t.place_is refl)
    by (any_tee pads t) = no (rw t.place_is refl)
    by (any_join pads t) = no (rw t.place_is refl)
    by (file_sink own t) = (own, opened s Ends (Some own) t.place_is t.location_is, t.location_is)
    by (drop_sink t) = no (rw (t.place_is, t.location_is) refl)

pub reading_opens : (s : Settings) → reads s ≡ true → (location : List ℕ) × (opening_of s ≡ Some (Read location)) × (location_of s ≡ Some location)
reading_opens s is = by (role_of s)
  where
    no : {P : Type 0} → reads s ≡ false → P
    no false_is = absurd (let never : true ≡ false = sym is ∙ false_is in cc)

    by : Role s → (location : List ℕ) × (opening_of s ≡ Some (Read location)) × (location_of s ≡ Some location)
    by (file_source own t) = (own, opened s Begins (Some own) t.place_is t.location_is, t.location_is)
    by (made_source t) = no (rw (t.place_is, t.location_is) refl)
    by (any_filter t) = no (rw t.place_is refl)
    by (any_queue t) = no (rw t.place_is refl)
    by (any_tee pads t) = no (rw t.place_is refl)
    by (any_join pads t) = no (rw t.place_is refl)
    by (file_sink own t) = no (rw t.place_is refl)
    by (drop_sink t) = no (rw t.place_is refl)

-- where nothing is opened there is no location
pub no_place : (s : Settings) → opening_of s ≡ None → location_of s ≡ None
no_place s none = by (location_of s) none
  where
    by : (o : Option (List ℕ)) → option_map (opened_by (is_source s)) o ≡ None → o ≡ None
    by None is = refl
    by (Some location) is = absurd (cc)
