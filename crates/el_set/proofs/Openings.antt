-- What is made of settings with a file, and which file that is, by their pads and their location.
use Rattle.std.proofs.Common.{◌≡◌, ◌&&◌, ◌||◌, not, ℕ, Bool, true, false, if◌then◌else◌, List, [], Option, None, is_some, refl, sym, ap, ◌∙◌}
use Rattle.el_settings.specs.Asked.{is_sink, is_source, location_of, reads, writes}
use Rattle.el_set.specs.Made.{file_for, makes_sink, makes_source, read_content, read_for}
use Rattle.el_settings.specs.declared.settings.Settings.{Settings}
use Rattle.el_settings.specs.declared.settings.Settings.TheVariants.{FileSrc, RampTestSrc, FileSink, FakeSink}

-- what is read, and what is written
pub read_is : {S : Type 0} (s : Settings) (file : Option S) → read_for s file ≡ (if reads s then file else None)
read_is (FileSrc s) file = refl
read_is _ file = refl

pub content_is : (s : Settings) (content : List ℕ) → read_content s content ≡ (if reads s then content else [])
content_is (FileSrc s) content = refl
content_is _ content = refl

pub written_is : {K : Type 0} (s : Settings) (file : Option K) → file_for s file ≡ (if writes s then file else None)
written_is (FileSink s) file = refl
written_is _ file = refl

-- of a source that reads its file, and of a sink that writes its own
pub read_own : {S : Type 0} (s : Settings) (file : Option S) → reads s ≡ true → read_for s file ≡ file
read_own s file reading = read_is s file ∙ ap (λ (b : Bool). if b then file else None) reading

pub written_own : {K : Type 0} (s : Settings) (file : Option K) → writes s ≡ true → file_for s file ≡ file
written_own s file writing = written_is s file ∙ ap (λ (b : Bool). if b then file else None) writing

-- there is a source, and a sink, where a file that the settings name is there
pub source_made : {S : Type 0} (s : Settings) (file : Option S) → makes_source s file ≡ (is_source s && (not (is_some (location_of s)) || is_some file))
source_made (FileSrc s) file = refl
source_made (RampTestSrc s) file = refl
source_made _ file = refl

pub sink_made : {K : Type 0} (s : Settings) (file : Option K) → makes_sink s file ≡ (is_sink s && (not (is_some (location_of s)) || is_some file))
sink_made (FileSink s) file = refl
sink_made FakeSink file = refl
sink_made _ file = refl

with_file : {A : Type 0} (file : Option A) (b d : Bool) → b ≡ true → ((b && d) ≡ true → is_some file ≡ true) → (b && (not d || is_some file)) ≡ true
with_file file true true own there = there refl
with_file file true false own there = refl
with_file file false d own there = absurd (cc)

pub source_with : {S : Type 0} (s : Settings) (file : Option S) → is_source s ≡ true → (reads s ≡ true → is_some file ≡ true) → makes_source s file ≡ true
source_with s file own there = source_made s file ∙ with_file file (is_source s) (is_some (location_of s)) own there

pub sink_with : {K : Type 0} (s : Settings) (file : Option K) → is_sink s ≡ true → (writes s ≡ true → is_some file ≡ true) → makes_sink s file ≡ true
sink_with s file own there = sink_made s file ∙ with_file file (is_sink s) (is_some (location_of s)) own there

-- the file that is read of a file is that, and what is made with it is the same
twice : {A : Type 0} (b : Bool) (file : Option A) → (if b then (if b then file else None) else None) ≡ (if b then file else None)
twice true file = refl
twice false file = refl

pub read_again : {S : Type 0} (s : Settings) (file : Option S) → read_for s (read_for s file) ≡ read_for s file
read_again s file = rw (read_is s (read_for s file), read_is s file) (twice (reads s) file)

pub written_again : {K : Type 0} (s : Settings) (file : Option K) → file_for s (file_for s file) ≡ file_for s file
written_again s file = rw (written_is s (file_for s file), written_is s file) (twice (writes s) file)

with_own : {A : Type 0} (b d : Bool) (file : Option A) → (b && (not d || is_some (if b && d then file else None))) ≡ (b && (not d || is_some file))
with_own true true file = refl
with_own true false file = refl
with_own false d file = refl

pub source_again : {S : Type 0} (s : Settings) (file : Option S) → makes_source s (read_for s file) ≡ makes_source s file
source_again s file = source_made s (read_for s file) ∙ ap (λ (o : _). is_source s && (not (is_some (location_of s)) || is_some o)) (read_is s file)
    ∙ with_own (is_source s) (is_some (location_of s)) file ∙ sym (source_made s file)

pub sink_again : {K : Type 0} (s : Settings) (file : Option K) → makes_sink s (file_for s file) ≡ makes_sink s file
sink_again s file = sink_made s (file_for s file) ∙ ap (λ (o : _). is_sink s && (not (is_some (location_of s)) || is_some o)) (written_is s file)
    ∙ with_own (is_sink s) (is_some (location_of s)) file ∙ sym (sink_made s file)

-- where no file is named none is read, and none written
pub opens_none : (s : Settings) → location_of s ≡ None → (reads s ≡ false) × (writes s ≡ false)
opens_none s none = (no (is_source s), no (is_sink s))
  where
    no : (b : Bool) → (b && is_some (location_of s)) ≡ false
    no true = ap is_some none
    no false = refl
