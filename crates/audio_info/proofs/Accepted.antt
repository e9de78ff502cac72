-- Caps that the templates of audio accept are those of audio.
use Rattle.std.proofs.Common.{◌≡◌, ℕ, pos, negsuc, Bool, true, false, cond, if◌then◌else◌, ◌&&◌, ◌||◌, nat_le, ◌⊎◌, inl, inr, List, [], ◌∷◌, Option, Some, None, codes, refl, sym, ap, ◌∙◌, subst, is_some, int_le, map}
use Rattle.std.specs.List.{find, list_any}
use Rattle.std.specs.Option.{option_map, option_and_then}
use Rattle.std.specs.Str.{bytes_eq}
use Rattle.std.proofs.lemmas.Slice.Eq.{bytes_eq-Decides}
use Rattle.gst_caps.specs.Accepts.{value_at, contains_given, takes, accepts}
use Rattle.gst_value.specs.Common.{holds}
use Rattle.gst_value.specs.Description.{Description}
use Rattle.gst_value.specs.Names.{Each}
use Rattle.gst_caps.specs.declared.caps.Caps.TheVariants.{Of}
use Rattle.gst_value.specs.declared.one.One.{One}
use Rattle.gst_value.specs.declared.one.One.TheVariants.{Int, Bool as Truth, Text as Words, Fraction, IntRange}
use Rattle.gst_caps.specs.declared.value.Value.{Value}
use Rattle.gst_caps.specs.declared.value.Value.TheVariants.{One as Single, Many}
use Rattle.audio_info.specs.Media.{field_of, number_up_to, raw_sample, raw_samples, sample_name, sample_of, rate_of, channels_of}
use Rattle.audio_info.specs.Templates.{up_to_most, format_name, raw_formats, raw_structure, law_structure, structure_of, sample_template, raw_template, audio_template}
use Rattle.audio_info.specs.declared.sample.Sample.{Sample}
use Rattle.audio_info.specs.declared.sample.Sample.TheVariants.{S8, U8, S16LE, S16BE, S24LE, S32LE, MuLaw, ALaw}
use Rattle.gst_value.proofs.Basics.{or_false, and_left, and_right}

-- the two ways to find a field agree
pub found_same : (name : List ℕ) (fields : List (List ℕ × One)) → value_at name fields ≡ field_of name fields
found_same name [] = refl
found_same name (f ∷ fs) = go (bytes_eq f.0 name) (found_same name fs)
  where
    go : (b : Bool) → value_at name fs ≡ field_of name fs
        → cond b (Some f.1) (value_at name fs) ≡ option_map (λ g. g.1) (cond b (Some f) (find (λ g. bytes_eq g.0 name) fs))
    go true e = refl
    go false e = e

-- a number from 1 to the most is found
in_range : (most n : ℕ) → ((int_le (pos 1) (pos n) && int_le (pos n) (pos most)) || false) ≡ true → is_some (if nat_le 1 n && nat_le n most then Some n else None) ≡ true
in_range most n h = go (nat_le 1 n && nat_le n most) (sym (or_false (nat_le 1 n && nat_le n most)) ∙ h)
  where
    go : (b : Bool) → b ≡ true → is_some (if b then Some n else None) ≡ true
    go true e = refl
    go false e = absurd (cc)

number_found : (most : ℕ) (v : Option One) → contains_given (up_to_most most) v ≡ true → is_some (option_and_then (number_up_to most) v) ≡ true
number_found most None h = absurd (cc)
number_found most (Some (Int (pos n))) h = in_range most n h
number_found most (Some (Int (negsuc n))) h = absurd (cc)
number_found most (Some (Truth b)) h = absurd (cc)
number_found most (Some (Words t)) h = absurd (cc)
number_found most (Some (Fraction a b)) h = absurd (cc)
number_found most (Some (IntRange a b)) h = absurd (cc)

-- the field of a name passes a test of numbers
numbered : (name : List ℕ) (most : ℕ) (caps : Description One) → contains_given (up_to_most most) (value_at name caps.fields) ≡ true → is_some (option_and_then (number_up_to most) (field_of name caps.fields)) ≡ true
numbered name most caps h = ap (λ v. is_some (option_and_then (number_up_to most) v)) (sym (found_same name caps.fields)) ∙ number_found most (value_at name caps.fields) h

-- ---- formats

-- a format that is found by its name
abbrev pub IsNamed : Sample → Type 0
IsNamed s = raw_sample (format_name s) ≡ Some s

abbrev pub IsKnown : Option Sample → Type 0
IsKnown o = is_some o ≡ true

abbrev pub IsThe : Sample → Option Sample → Type 0
IsThe s o = o ≡ Some s

named_is : (s : Sample) (x : One) → IsNamed s → holds (format_name s) x ≡ true → raw_sample x ≡ Some s
named_is s (Int n) named h = absurd (cc)
named_is s (Truth b) named h = absurd (cc)
named_is s (Words t) named h = ap (λ u. raw_sample (Words u)) (sym ((bytes_eq-Decides (sample_name s) t).0 h)) ∙ named
named_is s (Fraction a b) named h = absurd (cc)
named_is s (IntRange a b) named h = absurd (cc)

one_found : (s : Sample) (v : Option One) → IsNamed s → contains_given (Single (format_name s)) v ≡ true → IsThe s (option_and_then raw_sample v)
one_found s None named h = absurd (cc)
one_found s (Some x) named h = named_is s x named (sym (or_false (holds (format_name s) x)) ∙ h)

among : (formats : List Sample) (x : One) → Each IsNamed formats → list_any (λ m. holds m x) (map format_name formats) ≡ true → IsKnown (raw_sample x)
among [] x named h = absurd (cc)
among (s ∷ ss) x named h = go (holds (format_name s) x) refl h (among ss x named.1)
  where
    go : (b : Bool) → holds (format_name s) x ≡ b → (b || list_any (λ m. holds m x) (map format_name ss)) ≡ true
        → (list_any (λ m. holds m x) (map format_name ss) ≡ true → IsKnown (raw_sample x)) → IsKnown (raw_sample x)
    go true is h later = ap is_some (named_is s x named.0 is)
    go false is h later = later h

one_of : (formats : List Sample) (v : Option One) → Each IsNamed formats → contains_given (Many (map format_name formats)) v ≡ true → IsKnown (option_and_then raw_sample v)
one_of formats None named h = absurd (cc)
one_of formats (Some x) named h = among formats x named h

-- ---- structures

-- what such caps say of audio, and what is known of their format
pub record IsAudio (P : Option Sample → Type 0) (caps : Description One) : Type 0 where
  pub format : P (sample_of caps)
  pub some_rate : is_some (rate_of caps) ≡ true
  pub some_channels : is_some (channels_of caps) ≡ true

pub media_is : (s : Description Value) (caps : Description One) → takes s caps ≡ true → caps.media ≡ s.media
media_is s caps h = sym ((bytes_eq-Decides s.media caps.media).0 (and_left _ _ h))

-- the format of raw audio is that of its field
pub raw_format_of : (P : Option Sample → Type 0) (caps : Description One) → caps.media ≡ codes "audio/x-raw" → P (option_and_then raw_sample (field_of (codes "format") caps.fields)) → P (sample_of caps)
raw_format_of P caps media h = subst P (sym same) h
  where
    same : sample_of caps ≡ option_and_then raw_sample (field_of (codes "format") caps.fields)
    same = rw media refl

raw_taken : (P : Option Sample → Type 0) (formats : Value) (caps : Description One) → ((v : Option One) → contains_given formats v ≡ true → P (option_and_then raw_sample v))
    → takes (raw_structure formats) caps ≡ true → IsAudio P caps
raw_taken P formats caps known whole =
    let all = and_right (bytes_eq (codes "audio/x-raw") caps.media) _ whole in
    let behind = and_right (contains_given (up_to_most 64) (value_at (codes "channels") caps.fields)) _ all in
    let more = and_right (contains_given formats (value_at (codes "format") caps.fields)) _ behind in
    let last = and_right (contains_given (Single (Words (codes "interleaved"))) (value_at (codes "layout") caps.fields)) _ more in
    record {
      format = raw_format_of P caps (media_is (raw_structure formats) caps whole)
          (subst (λ v. P (option_and_then raw_sample v)) (found_same (codes "format") caps.fields) (known (value_at (codes "format") caps.fields) (and_left _ _ behind)));
      some_rate = numbered (codes "rate") 768000 caps (and_left (contains_given (up_to_most 768000) (value_at (codes "rate") caps.fields)) _ last);
      some_channels = numbered (codes "channels") 64 caps (and_left _ _ all);
    }

law_taken : (P : Option Sample → Type 0) (media : List ℕ) (caps : Description One) → (caps.media ≡ media → P (sample_of caps)) → takes (law_structure media) caps ≡ true → IsAudio P caps
law_taken P media caps known whole =
    let all = and_right (bytes_eq media caps.media) _ whole in
    let last = and_right (contains_given (up_to_most 64) (value_at (codes "channels") caps.fields)) _ all in
    record {
      format = known (media_is (law_structure media) caps whole);
      some_rate = numbered (codes "rate") 768000 caps (and_left (contains_given (up_to_most 768000) (value_at (codes "rate") caps.fields)) _ last);
      some_channels = numbered (codes "channels") 64 caps (and_left _ _ all);
    }

-- ---- templates

-- the structure that takes what caps of one structure accept
pub only_takes : (s : Description Value) (caps : Description One) → (takes s caps || false) ≡ true → takes s caps ≡ true
only_takes s caps h = sym (or_false (takes s caps)) ∙ h

raws_named : Each IsNamed raw_samples
raws_named = (refl, (refl, (refl, (refl, (refl, (refl, tt))))))

pub raw_accepted : (caps : Description One) → accepts raw_template caps ≡ true → IsAudio IsKnown caps
raw_accepted caps h = raw_taken IsKnown raw_formats caps (λ v. one_of raw_samples v raws_named) (only_takes (raw_structure raw_formats) caps h)

raw_alone : (s : Sample) (caps : Description One) → IsNamed s → accepts (Of (raw_structure (Single (format_name s)) ∷ [])) caps ≡ true → IsAudio (IsThe s) caps
raw_alone s caps named h =
    raw_taken (IsThe s) (Single (format_name s)) caps (λ v. one_found s v named) (only_takes (raw_structure (Single (format_name s))) caps h)

pub sample_accepted : (s : Sample) (caps : Description One) → accepts (sample_template s) caps ≡ true → IsAudio (IsThe s) caps
sample_accepted S8 caps h = raw_alone S8 caps refl h
sample_accepted U8 caps h = raw_alone U8 caps refl h
sample_accepted S16LE caps h = raw_alone S16LE caps refl h
sample_accepted S16BE caps h = raw_alone S16BE caps refl h
sample_accepted S24LE caps h = raw_alone S24LE caps refl h
sample_accepted S32LE caps h = raw_alone S32LE caps refl h
sample_accepted MuLaw caps h = law_taken (IsThe MuLaw) (codes "audio/x-mulaw") caps (λ media. rw media refl) (only_takes (structure_of MuLaw) caps h)
sample_accepted ALaw caps h = law_taken (IsThe ALaw) (codes "audio/x-alaw") caps (λ media. rw media refl) (only_takes (structure_of ALaw) caps h)

-- one of the structures takes them
taken : (a b c : Bool) → (a || (b || (c || false))) ≡ true → (a ≡ true) ⊎ (b ≡ true) ⊎ (c ≡ true)
taken true b c h = inl refl
taken false true c h = inr (inl refl)
taken false false true h = inr (inr refl)
taken false false false h = absurd (cc)

pub audio_accepted : (formats : List Sample) (caps : Description One) → Each IsNamed formats → accepts (audio_template (Many (map format_name formats))) caps ≡ true → IsAudio IsKnown caps
audio_accepted formats caps named h = go (taken (takes (raw_structure names) caps) (takes mulaw caps) (takes alaw caps) h)
  where
    names : Value
    names = Many (map format_name formats)

    mulaw : Description Value
    mulaw = law_structure (codes "audio/x-mulaw")

    alaw : Description Value
    alaw = law_structure (codes "audio/x-alaw")

    go : (takes (raw_structure (Many (map format_name formats))) caps ≡ true) ⊎ (takes (law_structure (codes "audio/x-mulaw")) caps ≡ true)
        ⊎ (takes (law_structure (codes "audio/x-alaw")) caps ≡ true) → IsAudio IsKnown caps
    go (inl e) = raw_taken IsKnown (Many (map format_name formats)) caps (λ v. one_of formats v named) e
    go (inr (inl e)) = law_taken IsKnown (codes "audio/x-mulaw") caps (λ media. rw media refl) e
    go (inr (inr e)) = law_taken IsKnown (codes "audio/x-alaw") caps (λ media. rw media refl) e

-- caps of audio lack nothing
pub lacks_nothing : (P : Option Sample → Type 0) (caps : Description One) → (P None → ⊥) → IsAudio P caps → (sample_of caps ≡ None) ⊎ (rate_of caps ≡ None) ⊎ (channels_of caps ≡ None) → ⊥
lacks_nothing P caps none p (inl e) = none (subst P e p.format)
lacks_nothing P caps none p (inr (inl e)) =
    let f : false ≡ true = ap is_some (sym e) ∙ p.some_rate in
    absurd (cc)
lacks_nothing P caps none p (inr (inr e)) =
    let f : false ≡ true = ap is_some (sym e) ∙ p.some_channels in
    absurd (cc)
