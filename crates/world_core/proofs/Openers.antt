-- What is made of an element, what it reads and what it writes, by what it opens.
use Rattle.std.proofs.Common.{◌≡◌, ◌||◌, ℕ, Bool, true, false, if◌then◌else◌, List, [], Option, Some, None, is_some, refl, sym, ap, ◌∙◌, subst}
use Rattle.std.proofs.lemmas.Option.{none-some, same_Some}
use Rattle.el_settings.specs.Asked.{Place, Begins, Ends, begins, ends, gathers, is_filter, is_queue, is_source, location_of, makes_sinks, makes_sources, place_of, reads, splits, writes}
use Rattle.el_settings.specs.Roles.{Role, any_filter, any_join, any_queue, any_tee, drop_sink, file_sink, file_source, made_source}
use Rattle.el_set.specs.Gives.{source_content, source_file}
use Rattle.el_set.specs.Made.{IsEmpty, file_for, list_of, makes_sink, makes_source, read_for}
use Rattle.el_settings.specs.declared.settings.Settings.{Settings}
use Rattle.el_set.specs.declared.source.SourceElement.{SourceElement}
use Rattle.el_set.specs.declared.source.SourceElement.TheVariants.{File, Ramp}
use Rattle.el_set.proofs.Lists.{list_read}
use Rattle.el_set.proofs.Openings.{content_is, read_is, sink_with, source_with, written_is}
use Rattle.el_settings.proofs.Roles.{role_of}
use Rattle.graph_parts.specs.Files.{opening_of}
use Rattle.graph_parts.proofs.OwnFiles.{reading_opens, writing_opens}
use Rattle.run_files.specs.declared.end.Opening.TheVariants.{Read, Write}
use Rattle.task_elements.specs.Made.{makes_element}

-- an element with a sink pad is made, one that writes a file where that is there
pub makes : {K : Type 0} (settings : Settings) (file : Option K) → is_source settings ≡ false
    → ((location : List ℕ) → opening_of settings ≡ Some (Write location) → is_some file ≡ true) → makes_element settings file ≡ true
makes settings file pads there = by (role_of settings)
  where
    first : (a b : Bool) → a ≡ true → (a || b) ≡ true
    first a b is = ap (λ (x : Bool). x || b) is

    later : (a b : Bool) → b ≡ true → (a || b) ≡ true
    later true b is = refl
    later false b is = is

    own : writes settings ≡ true → is_some file ≡ true
    own writing = let opens = writing_opens settings writing in there opens.0 opens.1

    no_source : (p : Place) → place_of settings ≡ p → begins p ≡ true → makes_element settings file ≡ true
    no_source p place source = absurd (let no : false ≡ true = sym pads ∙ ap begins place ∙ source in cc)

    ended : (p : Place) → place_of settings ≡ p → ends p ≡ true → makes_element settings file ≡ true
    ended p place sink =
        later (is_filter settings) _ (later (is_queue settings) _ (later (makes_sources settings) _ (later (makes_sinks settings) (makes_sink settings file)
        (sink_with settings file (ap ends place ∙ sink) own))))

    by : Role settings → makes_element settings file ≡ true
    by (file_source location t) = no_source Begins t.place_is refl
    by (made_source t) = no_source Begins t.place_is refl
    by (any_filter t) = first (is_filter settings) _ t.filter_is
    by (any_queue t) = later (is_filter settings) _ (first (is_queue settings) _ t.queue_is)
    by (any_tee n t) = later (is_filter settings) _ (later (is_queue settings) _ (first (makes_sources settings) _ (ap splits t.place_is)))
    by (any_join n t) =
        later (is_filter settings) _ (later (is_queue settings) _ (later (makes_sources settings) _ (first (makes_sinks settings) _ (ap gathers t.place_is))))
    by (file_sink location t) = ended Ends t.place_is refl
    by (drop_sink t) = ended Ends t.place_is refl

-- a source is made, one that reads a file where that is there
pub gives : {S : Type 0} (settings : Settings) (file : Option S) → is_source settings ≡ true
    → ((location : List ℕ) → opening_of settings ≡ Some (Read location) → is_some file ≡ true) → makes_source settings file ≡ true
gives settings file pads there = source_with settings file pads (λ reading. let opens = reading_opens settings reading in there opens.0 opens.1)

-- what an element writes is empty, where the file is that was opened for it
pub written_empty : {K : Type 0} (bytes : K → Option (List ℕ)) (settings : Settings) (file : Option K)
    → ((location : List ℕ) → opening_of settings ≡ Some (Write location) → IsEmpty bytes file) → IsEmpty bytes (file_for settings file)
written_empty {K} bytes settings file empty = subst (λ (own : Option K). IsEmpty bytes own) (sym (written_is settings file)) (by (writes settings) refl)
  where
    by : (b : Bool) → writes settings ≡ b → IsEmpty bytes (if b then file else None)
    by true writing = let opens = writing_opens settings writing in empty opens.0 opens.1
    by false none = tt

-- The content of what a source reads is told, and by that it owes the list of its settings.
pub record IsTold {S : Type 0} (content : S → Option (List ℕ)) (settings : Settings) (n : ℕ) (source : SourceElement S) (told : List ℕ) : Type 0 where
  pub is : List ℕ
  pub told_is : source_content content source ≡ Some is
  pub same : list_of settings n is ≡ list_of settings n told

module _ {S : Type 0} (content : S → Option (List ℕ)) where
  of_file : (source : SourceElement S) (file : S) (told : List ℕ) → source_file source ≡ Some file → content file ≡ Some told
      → source_content content source ≡ Some told
  of_file (File own) file told is told_is = ap content (same_Some _ file is) ∙ told_is
  of_file (Ramp ramp) file told is told_is = absurd (cc)

  of_none : (source : SourceElement S) → source_file source ≡ None → source_content content source ≡ Some []
  of_none (File own) is = absurd (cc)
  of_none (Ramp ramp) is = refl

  pub told_of : (settings : Settings) (n : ℕ) (file : Option S) (source : SourceElement S) (told : List ℕ) → source_file source ≡ read_for settings file
      → ((location : List ℕ) → opening_of settings ≡ Some (Read location) → (one : S) × (file ≡ Some one) × (content one ≡ Some told))
      → IsTold content settings n source told
  told_of settings n file source told is opens = by (reads settings) refl
    where
      own_file : (b : Bool) → reads settings ≡ b → source_file source ≡ (if b then file else None)
      own_file b reading = is ∙ read_is settings file ∙ ap (λ (so : Bool). if so then file else None) reading

      by : (b : Bool) → reads settings ≡ b → IsTold content settings n source told
      by true reading =
          let opening = reading_opens settings reading in
          let own = opens opening.0 opening.1 in
          record { is = told; told_is = of_file source own.0 told (own_file true reading ∙ own.1) own.2; same = refl }
      by false none =
          record {
            is = [];
            told_is = of_none source (own_file false none);
            same = ap (list_of settings n) (sym (content_is settings told ∙ ap (λ (so : Bool). if so then told else []) none)) ∙ list_read settings n told;
          }

-- an element whose settings have it write a file opens that, and so does one that reads
pub writer_opens : {K : Type 0} (settings : Settings) (file : Option K) (one : K) → file_for settings file ≡ Some one
    → (location : List ℕ) × (opening_of settings ≡ Some (Write location)) × (location_of settings ≡ Some location)
writer_opens {K} settings file one is = by (writes settings) refl
  where
    by : (b : Bool) → writes settings ≡ b → (location : List ℕ) × (opening_of settings ≡ Some (Write location)) × (location_of settings ≡ Some location)
    by true writing = writing_opens settings writing
    by false none = absurd (none-some one (sym (written_is settings file ∙ ap (λ (so : Bool). if so then file else None) none) ∙ is))

pub reader_opens : {S : Type 0} (settings : Settings) (file : Option S) (one : S) → read_for settings file ≡ Some one
    → (location : List ℕ) × (opening_of settings ≡ Some (Read location)) × (location_of settings ≡ Some location)
reader_opens {S} settings file one is = by (reads settings) refl
  where
    by : (b : Bool) → reads settings ≡ b → (location : List ℕ) × (opening_of settings ≡ Some (Read location)) × (location_of settings ≡ Some location)
    by true reading = reading_opens settings reading
    by false none = absurd (none-some one (sym (read_is settings file ∙ ap (λ (so : Bool). if so then file else None) none) ∙ is))
