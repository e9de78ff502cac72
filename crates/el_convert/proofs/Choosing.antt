-- A choice is raw audio.
use Rattle.std.proofs.Common.{◌≡◌, ◌≤◌, ℕ, ℤ, pos, ◌≤ℤ◌, Bool, true, false, cond, if◌then◌else◌, ◌&&◌, ◌||◌, ◌==◌, nat_le, ◌⊎◌, List, [], ◌∷◌, ◌++◌, map, Option, Some, None, is_some, codes, refl, sym, ap, ◌∙◌, subst, arith}
use Rattle.std.specs.List.{cons_option, filter, filter_map, list_any}
use Rattle.std.specs.Option.{option_map, option_and_then, unwrap_or}
use Rattle.std.specs.Prelude.{int_lt}
use Rattle.std.specs.Int.{int_max, int_min}
use Rattle.std.specs.Str.{bytes_eq}
use Rattle.std.proofs.lemmas.Bool.{le-leb}
use Rattle.std.proofs.lemmas.Int.{ints, clamps}
use Rattle.std.proofs.lemmas.Slice.Eq.{bytes_eq-Decides}
use Rattle.gst_caps.proofs.Fixing.{least_common_is}
use Rattle.gst_caps.specs.Accepts.{value_at, accepts, agrees, structures_meet, narrowed, merged, met, meet, intersection, fixed, first_structure, fixation}
use Rattle.gst_caps.specs.Common.{members, least}
use Rattle.gst_value.specs.Common.{same, ends, span, common_of, common_one, commons, least_of, first_least}
use Rattle.gst_value.specs.Description.{Description}
use Rattle.gst_value.specs.Names.{Each, is_before}
use Rattle.gst_caps.specs.declared.caps.Caps.{Caps}
use Rattle.gst_caps.specs.declared.caps.Caps.TheVariants.{Any, Of}
use Rattle.gst_value.specs.declared.one.One.{One}
use Rattle.gst_value.specs.declared.one.One.TheVariants.{Int, Bool as Truth, Text as Words, Fraction, IntRange}
use Rattle.gst_caps.specs.declared.value.Value.{Value}
use Rattle.gst_caps.specs.declared.value.Value.TheVariants.{One as Single, Many}
use Rattle.audio_info.specs.Media.{field_of, number_up_to, raw_sample, raw_samples, sample_of, rate_of, channels_of}
use Rattle.audio_info.specs.Packing.{IsRaw}
use Rattle.audio_info.specs.declared.sample.Sample.{Sample}
use Rattle.audio_info.specs.declared.sample.Sample.TheVariants.{S8, U8, S16LE, S16BE, S24LE, S32LE, MuLaw, ALaw}
use Rattle.audio_info.specs.Templates.{raw, format_name, raw_formats, raw_structure, raw_template}
use Rattle.audio_info.proofs.Accepted.{IsAudio, IsKnown, found_same, lacks_nothing, media_is, only_takes, raw_accepted, raw_format_of}
use Rattle.el_convert.specs.Raw.{channels_from, options_from}
use Rattle.el_convert.specs.Choice.{choice}
use Rattle.gst_value.proofs.Basics.{and_left, and_right}
use Rattle.gst_value.proofs.Sound.{lt_le as below}

abbrev Fields : Type 0
Fields = List (List ℕ × Value)

-- ---- the fields of a meet

-- fields that a test of names lets pass, and those that it does not
passed : (q : List ℕ → Bool) (n : List ℕ) (gs : Fields) → q n ≡ true → value_at n (filter (λ g. q g.0) gs) ≡ value_at n gs
passed q n [] e = refl
passed q n (g ∷ gs) e = go (q g.0) refl (bytes_eq g.0 n) refl (passed q n gs e)
  where
    go : (b : Bool) → q g.0 ≡ b → (h : Bool) → bytes_eq g.0 n ≡ h → value_at n (filter (λ g. q g.0) gs) ≡ value_at n gs
        → value_at n (cond b (g ∷ filter (λ g. q g.0) gs) (filter (λ g. q g.0) gs)) ≡ cond h (Some g.1) (value_at n gs)
    go true is true same ih = rw same refl
    go true is false same ih = rw same ih
    go false is false same ih = ih
    go false is true same ih =
        let f : g.0 ≡ n = (bytes_eq-Decides g.0 n).0 same in
        let k : true ≡ false = sym e ∙ sym (ap q f) ∙ is in
        absurd (cc)

dropped : (q : List ℕ → Bool) (n : List ℕ) (gs tail : Fields) → q n ≡ false → value_at n (filter (λ g. q g.0) gs ++ tail) ≡ value_at n tail
dropped q n [] tail e = refl
dropped q n (g ∷ gs) tail e = go (q g.0) refl (bytes_eq g.0 n) refl (dropped q n gs tail e)
  where
    go : (b : Bool) → q g.0 ≡ b → (h : Bool) → bytes_eq g.0 n ≡ h → value_at n (filter (λ g. q g.0) gs ++ tail) ≡ value_at n tail
        → value_at n (cond b (g ∷ filter (λ g. q g.0) gs) (filter (λ g. q g.0) gs) ++ tail) ≡ value_at n tail
    go false is h same ih = ih
    go true is false same ih = rw same ih
    go true is true same ih =
        let f : g.0 ≡ n = (bytes_eq-Decides g.0 n).0 same in
        let k : true ≡ false = sym is ∙ ap q f ∙ e in
        absurd (cc)

-- the field of a name in a meet: that of the first structure's field, and one behind other fields
found : (n : List ℕ) (v : Value) (fs gs : Fields) → is_before n n ≡ false → bytes_eq n n ≡ true → value_at n (merged ((n, v) ∷ fs) gs) ≡ Some (narrowed v (value_at n gs))
found n v fs gs e h = dropped (λ m. is_before m n) n gs _ e ∙ ap (λ b. cond b (Some (narrowed v (value_at n gs))) (value_at n (merged fs (filter (λ g. is_before n g.0) gs)))) h

skipped : (m n : List ℕ) (v : Value) (fs gs : Fields) → is_before n m ≡ false → bytes_eq m n ≡ false → value_at n (merged ((m, v) ∷ fs) gs) ≡ value_at n (merged fs (filter (λ g. is_before m g.0) gs))
skipped m n v fs gs e h = dropped (λ k. is_before k m) n gs _ e ∙ ap (λ b. cond b (Some (narrowed v (value_at m gs))) (value_at n (merged fs (filter (λ g. is_before m g.0) gs)))) h

-- the fields of what raw audio meets
abbrev with_rate : Value → Fields
with_rate rate = (codes "rate", rate) ∷ []

abbrev with_layout : Value → Fields
with_layout rate = (codes "layout", Single (Words (codes "interleaved"))) ∷ with_rate rate

abbrev with_formats : Value → Value → Fields
with_formats formats rate = (codes "format", formats) ∷ with_layout rate

abbrev behind : List ℕ → Fields → Fields
behind n gs = filter (λ g. is_before n g.0) gs

module _ (channels formats rate : Value) (gs : Fields) where
  channels_met : value_at (codes "channels") (merged (raw channels formats rate).fields gs) ≡ Some (narrowed channels (value_at (codes "channels") gs))
  channels_met = found (codes "channels") channels (with_formats formats rate) gs refl refl

  formats_met : value_at (codes "format") (merged (raw channels formats rate).fields gs) ≡ Some (narrowed formats (value_at (codes "format") gs))
  formats_met =
      let one = behind (codes "channels") gs in
      skipped (codes "channels") (codes "format") channels (with_formats formats rate) gs refl refl
      ∙ found (codes "format") formats (with_layout rate) one refl refl
      ∙ ap (λ o. Some (narrowed formats o)) (passed (is_before (codes "channels")) (codes "format") gs refl)

  rate_met : value_at (codes "rate") (merged (raw channels formats rate).fields gs) ≡ Some (narrowed rate (value_at (codes "rate") gs))
  rate_met =
      let one = behind (codes "channels") gs in
      let two = behind (codes "format") one in
      let three = behind (codes "layout") two in
      skipped (codes "channels") (codes "rate") channels (with_formats formats rate) gs refl refl
      ∙ skipped (codes "format") (codes "rate") formats (with_layout rate) one refl refl
      ∙ skipped (codes "layout") (codes "rate") (Single (Words (codes "interleaved"))) (with_rate rate) two refl refl
      ∙ found (codes "rate") rate [] three refl refl
      ∙ ap (λ o. Some (narrowed rate o)) (passed (is_before (codes "layout")) (codes "rate") two refl ∙ passed (is_before (codes "format")) (codes "rate") one refl ∙ passed (is_before (codes "channels")) (codes "rate") gs refl)

-- ---- the least of what two values have in common

-- a value that is a number or a word
abbrev IsPlain : One → Type 0
IsPlain (Int n) = Unit {0}
IsPlain (Words t) = Unit {0}
IsPlain (Truth b) = ⊥
IsPlain (Fraction a b) = ⊥
IsPlain (IntRange a b) = ⊥

least_plain : (m : One) → IsPlain m → least_of m ≡ m
least_plain (Int n) plain = refl
least_plain (Words t) plain = refl
least_plain (Truth b) plain = absurd plain
least_plain (Fraction a b) plain = absurd plain
least_plain (IntRange a b) plain = absurd plain

not_above : (a b : ℤ) → int_lt b a ≡ false → a ≤ℤ b
not_above a b e = grind (arith, ints)

span_some : (low high : ℤ) (o : One) → span low high ≡ Some o → (least_of o ≡ Int low) × (low ≤ℤ high)
span_some low high o e = go (int_lt low high) refl (int_lt high low) refl e
  where
    go : (a : Bool) → int_lt low high ≡ a → (b : Bool) → int_lt high low ≡ b → cond a (Some (IntRange low high)) (cond b None (Some (Int low))) ≡ Some o → (least_of o ≡ Int low) × (low ≤ℤ high)
    go true lt b gt f = let is : IntRange low high ≡ o = cc in (ap least_of (sym is), below low high lt)
    go false lt true gt f = absurd (cc)
    go false lt false gt f = let is : Int low ≡ o = cc in (ap least_of (sym is), not_above low high gt)

-- a number has itself in common with what it has in common with others
in_both : (c a b : ℤ) → int_max c a ≤ℤ int_min c b → int_max c a ≡ c
in_both c a b le = omega (arith, ints, clamps)

same_plain : (m n o : One) → IsPlain m → cond (same m n) (Some m) None ≡ Some o → least_of o ≡ m
same_plain m n o plain e = go (same m n) e (least_plain m plain)
  where
    go : (b : Bool) → cond b (Some m) None ≡ Some o → least_of m ≡ m → least_of o ≡ m
    go true f is = let g : m ≡ o = cc in ap least_of (sym g) ∙ is
    go false f is = absurd (cc)

chosen_one : (m n o : One) → IsPlain m → common_one m n ≡ Some o → least_of o ≡ m
chosen_one (Words t) n o plain e = same_plain (Words t) n o plain e
chosen_one (Int c) n o plain e = go (ends n) e
  where
    go : (q : Option (ℤ × ℤ)) → common_of (Int c) n (Some (c, c)) q ≡ Some o → least_of o ≡ Int c
    go None f = same_plain (Int c) n o tt f
    go (Some q) f =
        let known = span_some (int_max c q.0) (int_min c q.1) o f in
        known.0 ∙ ap Int (in_both c q.0 q.1 known.1)
chosen_one (Truth b) n o plain e = absurd plain
chosen_one (Fraction a b) n o plain e = absurd plain
chosen_one (IntRange a b) n o plain e = absurd plain

-- the first of what is common is one of the members
one_of : (Q : One → Type 0) (ms ns : List One) → Each IsPlain ms → Each Q ms → list_any (λ m. list_any (λ n. is_some (common_one m n)) ns) ms ≡ true → Q (first_least (commons ms ns))
one_of Q [] ns plain each e = absurd (cc)
one_of Q (m ∷ ms) ns plain each e = row (one_of Q ms ns plain.1 each.1) ns e
  where
    row : (list_any (λ k. list_any (λ n. is_some (common_one k n)) ns) ms ≡ true → Q (first_least (commons ms ns))) → (rest : List One)
        → (list_any (λ n. is_some (common_one m n)) rest || list_any (λ k. list_any (λ n. is_some (common_one k n)) ns) ms) ≡ true → Q (first_least (filter_map (common_one m) rest ++ commons ms ns))
    row later [] f = later f
    row later (n ∷ rest) f = at (common_one m n) refl f (row later rest)
      where
        at : (o : Option One) → common_one m n ≡ o
            → ((is_some o || list_any (λ n. is_some (common_one m n)) rest) || list_any (λ k. list_any (λ n. is_some (common_one k n)) ns) ms) ≡ true
            → ((list_any (λ n. is_some (common_one m n)) rest || list_any (λ k. list_any (λ n. is_some (common_one k n)) ns) ms) ≡ true → Q (first_least (filter_map (common_one m) rest ++ commons ms ns)))
            → Q (first_least (cons_option o (filter_map (common_one m) rest) ++ commons ms ns))
        at (Some o) is g later = subst Q (sym (chosen_one m n o plain.0 is)) each.0
        at None is g later = later g

-- what a meet has of plain members
least_met : (Q : One → Type 0) (v : Value) (other : Option Value) → Each IsPlain (members v) → Each Q (members v) → Q (least v) → agrees v other ≡ true → Q (least (narrowed v other))
least_met Q v None plain each first e = first
least_met Q v (Some w) plain each first e = subst Q (least_common_is v w) (one_of Q (members v) (members w) plain each e)

-- ---- what raw audio can become is raw audio

abbrev IsNumber : ℕ → One → Type 0
IsNumber most m = is_some (number_up_to most m) ≡ true

abbrev IsFormat : One → Type 0
IsFormat m = is_some (raw_sample m) ≡ true

number_within : (most n : ℕ) → 1 ≤ n → n ≤ most → IsNumber most (Int (pos n))
number_within most n some few = go (nat_le 1 n) (le-leb 1 n some) (nat_le n most) (le-leb n most few)
  where
    go : (a : Bool) → a ≡ true → (b : Bool) → b ≡ true → is_some (if a && b then Some n else None) ≡ true
    go true e true f = refl
    go true e false f = absurd (cc)
    go false e b f = absurd (cc)

pub record AreOptions (Q : One → Type 0) (ms : List One) : Type 0 where
  pub plain : Each IsPlain ms
  pub each : Each Q ms
  pub first : Q (first_least ms)

channels_are : (n : ℕ) → 1 ≤ n → n ≤ 64 → AreOptions (IsNumber 64) (channels_from n)
channels_are n some few = go (n == 1) (n == 2)
  where
    go : (a b : Bool) → AreOptions (IsNumber 64) (if a then Int (pos 1) ∷ Int (pos 2) ∷ [] else (if b then Int (pos 2) ∷ Int (pos 1) ∷ [] else Int (pos n) ∷ []))
    go true b = record { plain = (tt, (tt, tt)); each = (refl, (refl, tt)); first = refl }
    go false true = record { plain = (tt, (tt, tt)); each = (refl, (refl, tt)); first = refl }
    go false false = record { plain = (tt, tt); each = (number_within 64 n some few, tt); first = number_within 64 n some few }

own_format : (s : Sample) → IsRaw s → IsFormat (format_name s)
own_format S8 h = refl
own_format U8 h = refl
own_format S16LE h = refl
own_format S16BE h = refl
own_format S24LE h = refl
own_format S32LE h = refl
own_format MuLaw h = absurd (h.0 refl)
own_format ALaw h = absurd (h.1 refl)

formats_are : (s : Sample) → IsRaw s → AreOptions IsFormat (map format_name (s ∷ raw_samples))
formats_are s h = record {
  plain = (tt, (tt, (tt, (tt, (tt, (tt, (tt, tt)))))));
  each = (own_format s h, (refl, (refl, (refl, (refl, (refl, (refl, tt)))))));
  first = own_format s h;
}

rate_is : (r : ℕ) → 1 ≤ r → r ≤ 768000 → AreOptions (IsNumber 768000) (Int (pos r) ∷ [])
rate_is r some few = record { plain = (tt, tt); each = (number_within 768000 r some few, tt); first = number_within 768000 r some few }

-- the format of raw audio is no law
raw_found : (m : One) (f : Sample) → raw_sample m ≡ Some f → IsRaw f
raw_found (Int n) f e = absurd (cc)
raw_found (Truth b) f e = absurd (cc)
raw_found (Fraction a b) f e = absurd (cc)
raw_found (IntRange a b) f e = absurd (cc)
raw_found (Words t) f e = go (bytes_eq (codes "S8") t) (bytes_eq (codes "U8") t) (bytes_eq (codes "S16LE") t) (bytes_eq (codes "S16BE") t) (bytes_eq (codes "S24LE") t) (bytes_eq (codes "S32LE") t) e
  where
    go : (a b c d g h : Bool) → cond a (Some S8) (cond b (Some U8) (cond c (Some S16LE) (cond d (Some S16BE) (cond g (Some S24LE) (cond h (Some S32LE) None))))) ≡ Some f → IsRaw f
    go true b c d g h e = ((λ l. absurd (cc)), (λ l. absurd (cc)))
    go false true c d g h e = ((λ l. absurd (cc)), (λ l. absurd (cc)))
    go false false true d g h e = ((λ l. absurd (cc)), (λ l. absurd (cc)))
    go false false false true g h e = ((λ l. absurd (cc)), (λ l. absurd (cc)))
    go false false false false true h e = ((λ l. absurd (cc)), (λ l. absurd (cc)))
    go false false false false false true e = ((λ l. absurd (cc)), (λ l. absurd (cc)))
    go false false false false false false e = absurd (cc)

-- ---- fields of fixed caps

value_fixed : (n : List ℕ) (fs : Fields) → value_at n (map (λ f. (f.0, least f.1)) fs) ≡ option_map least (value_at n fs)
value_fixed n [] = refl
value_fixed n (f ∷ fs) = go (bytes_eq f.0 n) (value_fixed n fs)
  where
    go : (b : Bool) → value_at n (map (λ g. (g.0, least g.1)) fs) ≡ option_map least (value_at n fs)
        → cond b (Some (least f.1)) (value_at n (map (λ g. (g.0, least g.1)) fs)) ≡ option_map least (cond b (Some f.1) (value_at n fs))
    go true e = refl
    go false e = e

-- what is known of a choice: its media type, and in three fields the least of what an option and another value have in
-- common
pub record IsChosen (channels formats rate : Value) (x : Description One) : Type 0 where
  pub media : x.media ≡ codes "audio/x-raw"
  pub other_channels : Option Value
  pub channels_agree : agrees channels other_channels ≡ true
  pub channels_is : field_of (codes "channels") x.fields ≡ Some (least (narrowed channels other_channels))
  pub other_formats : Option Value
  pub formats_agree : agrees formats other_formats ≡ true
  pub format_is : field_of (codes "format") x.fields ≡ Some (least (narrowed formats other_formats))
  pub other_rate : Option Value
  pub rate_agrees : agrees rate other_rate ≡ true
  pub rate_is : field_of (codes "rate") x.fields ≡ Some (least (narrowed rate other_rate))

fixed_field_of : (n : List ℕ) (fs : Fields) (v : Value) → value_at n fs ≡ Some v → field_of n (map (λ f. (f.0, least f.1)) fs) ≡ Some (least v)
fixed_field_of n fs v e = sym (found_same n (map (λ f. (f.0, least f.1)) fs)) ∙ value_fixed n fs ∙ ap (option_map least) e

chosen_alone : (channels formats rate : Value) → IsChosen channels formats rate (fixed (raw channels formats rate))
chosen_alone channels formats rate = record {
  media = refl;
  other_channels = None;
  channels_agree = refl;
  channels_is = refl;
  other_formats = None;
  formats_agree = refl;
  format_is = refl;
  other_rate = None;
  rate_agrees = refl;
  rate_is = refl;
}

chosen_met : (channels formats rate : Value) (t : Description Value) → structures_meet (raw channels formats rate) t ≡ true → IsChosen channels formats rate (fixed (met (raw channels formats rate) t))
chosen_met channels formats rate t meets =
    let one = and_right (bytes_eq (codes "audio/x-raw") t.media) _ meets in
    let two = and_right (agrees channels (value_at (codes "channels") t.fields)) _ one in
    let three = and_right (agrees formats (value_at (codes "format") t.fields)) _ two in
    let four = and_right (agrees (Single (Words (codes "interleaved"))) (value_at (codes "layout") t.fields)) _ three in
    record {
      media = refl;
      other_channels = value_at (codes "channels") t.fields;
      channels_agree = and_left _ _ one;
      channels_is = fixed_field_of (codes "channels") (merged (raw channels formats rate).fields t.fields) _ (channels_met channels formats rate t.fields);
      other_formats = value_at (codes "format") t.fields;
      formats_agree = and_left _ _ two;
      format_is = fixed_field_of (codes "format") (merged (raw channels formats rate).fields t.fields) _ (formats_met channels formats rate t.fields);
      other_rate = value_at (codes "rate") t.fields;
      rate_agrees = and_left _ _ four;
      rate_is = fixed_field_of (codes "rate") (merged (raw channels formats rate).fields t.fields) _ (rate_met channels formats rate t.fields);
    }

-- the first meet
first_met : (channels formats rate : Value) (ts : List (Description Value)) (x : Description One) → option_map fixed (first_structure (filter_map (meet (raw channels formats rate)) ts ++ [])) ≡ Some x → IsChosen channels formats rate x
first_met channels formats rate [] x e = absurd (cc)
first_met channels formats rate (t ∷ ts) x e = go (structures_meet s t) refl e (first_met channels formats rate ts x)
  where
    s : Description Value
    s = raw channels formats rate

    go : (b : Bool) → structures_meet (raw channels formats rate) t ≡ b
        → option_map fixed (first_structure (cons_option (cond b (Some (met (raw channels formats rate) t)) None) (filter_map (meet (raw channels formats rate)) ts) ++ [])) ≡ Some x
        → (option_map fixed (first_structure (filter_map (meet (raw channels formats rate)) ts ++ [])) ≡ Some x → IsChosen channels formats rate x) → IsChosen channels formats rate x
    go true is f later =
        let same : fixed (met (raw channels formats rate) t) ≡ x = cc in
        subst (IsChosen channels formats rate) same (chosen_met channels formats rate t is)
    go false is f later = later f

chosen_from : (channels formats rate : Value) (allowed : Caps) (x : Description One) → fixation (intersection (Of (raw channels formats rate ∷ [])) allowed) ≡ Some x → IsChosen channels formats rate x
chosen_from channels formats rate Any x e =
    let same : fixed (raw channels formats rate) ≡ x = cc in
    subst (IsChosen channels formats rate) same (chosen_alone channels formats rate)
chosen_from channels formats rate (Of ts) x e = first_met channels formats rate ts x e

-- what caps of raw audio say
pub record IsRawAudio (x : Description One) : Type 0 where
  pub media : x.media ≡ codes "audio/x-raw"
  pub audio : IsAudio IsKnown x

of_option : (Q : One → Type 0) (v : Value) (other : Option Value) → AreOptions Q (members v) → agrees v other ≡ true → Q (least (narrowed v other))
of_option Q v other p e = least_met Q v other p.plain p.each p.first e

pub chosen_raw : (format : Sample) (rate channels : ℕ) (allowed : Caps) (x : Description One) → IsRaw format → 1 ≤ rate → rate ≤ 768000 → 1 ≤ channels → channels ≤ 64
    → Some x ≡ fixation (intersection (Of (options_from format rate channels ∷ [])) allowed) → IsRawAudio x
chosen_raw format rate channels allowed x is_raw some_rate few_rate some_channels few_channels e =
    let cs = Many (channels_from channels) in
    let fs = Many (map format_name (format ∷ raw_samples)) in
    let p = chosen_from cs fs (Single (Int (pos rate))) allowed x (sym e) in
    record {
      media = p.media;
      audio = record {
        format = raw_format_of IsKnown x p.media (rw p.format_is (of_option IsFormat fs p.other_formats (formats_are format is_raw) p.formats_agree));
        some_rate = rw p.rate_is (of_option (IsNumber 768000) (Single (Int (pos rate))) p.other_rate (rate_is rate some_rate few_rate) p.rate_agrees);
        some_channels = rw p.channels_is (of_option (IsNumber 64) cs p.other_channels (channels_are channels some_channels few_channels) p.channels_agree);
      };
    }

-- caps that the template accepts are raw audio
pub accepted : (wanted : Caps) (caps : Description One) → wanted ≡ raw_template → true ≡ accepts wanted caps → IsRawAudio caps
accepted wanted caps is h =
    let whole : accepts raw_template caps ≡ true = sym (ap (λ w. accepts w caps) is) ∙ sym h in
    record { media = media_is (raw_structure raw_formats) caps (only_takes (raw_structure raw_formats) caps whole); audio = raw_accepted caps whole }

-- caps of raw audio are audio, and their format is no law
pub never_other : (x : Description One) → IsRawAudio x → (sample_of x ≡ None) ⊎ (rate_of x ≡ None) ⊎ (channels_of x ≡ None) → ⊥
never_other x p = lacks_nothing IsKnown x (λ e. absurd (cc)) p.audio

pub raw_format : (x : Description One) (f : Sample) → x.media ≡ codes "audio/x-raw" → sample_of x ≡ Some f → IsRaw f
raw_format x f media e = go (field_of (codes "format") x.fields) (rw media at e)
  where
    go : (o : Option One) → option_and_then raw_sample o ≡ Some f → IsRaw f
    go None h = absurd (cc)
    go (Some m) h = raw_found m f h

-- the choice, by what is known of the caps
pub choice_known : (caps : Description One) (allowed : Caps) (format : Sample) (rate channels : ℕ) → sample_of caps ≡ Some format → rate_of caps ≡ Some rate → channels_of caps ≡ Some channels
    → choice caps allowed ≡ fixation (intersection (Of (options_from format rate channels ∷ [])) allowed)
unfolding choice
choice_known caps allowed format rate channels e f g =
    by_parts _ _ _ _ _ _ (ap (λ o. unwrap_or o S8) e) (ap (λ o. unwrap_or o 0) f) (ap (λ o. unwrap_or o 0) g)
  where
    by_parts : (a b : Sample) (r s m n : ℕ) → a ≡ b → r ≡ s → m ≡ n
        → fixation (intersection (Of (options_from a r m ∷ [])) allowed) ≡ fixation (intersection (Of (options_from b s n ∷ [])) allowed)
    by_parts a b r s m n p q t = rw (p, q, t) refl
