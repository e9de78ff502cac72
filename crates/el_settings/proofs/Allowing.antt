-- What a converter may put out matters for nothing else that is asked of it, and is all caps where properties set it; and how
-- many pads links made matters for no more than that.
use Rattle.std.proofs.Common.{◌≡◌, ℕ, Bool, true, false, List, [], ◌∷◌, Option, None, Some, Ok, if◌then◌else◌, refl, sym, ap}
use Rattle.std.specs.Prelude.{bytes_eq}
use Rattle.gst_caps.specs.declared.caps.Caps.{Caps}
use Rattle.gst_caps.specs.declared.caps.Caps.TheVariants.{Any}
use Rattle.gst_value.specs.declared.name.Prop.{Prop}
use Rattle.el_settings.specs.Asked.{allowed_of, filter_caps, hands_on, is_converter, location_of, no_pads, place_of, sink_pads, source_pads, template_of, with_allowed, with_pads}
use Rattle.el_settings.specs.Checked.{IsAnswer, IsAnswerFor}
use Rattle.el_settings.specs.Kinds.{kinds}
use Rattle.el_settings.specs.Rows.{find_row}
use Rattle.el_settings.specs.declared.pads.MadePads.{MadePads}
use Rattle.el_settings.specs.declared.settings.AudioConvertSettings.{AudioConvertSettings}
use Rattle.el_settings.specs.declared.settings.Settings.{Settings}
use Rattle.el_settings.specs.declared.settings.Settings.TheVariants.{AudioConvert, Tee, Interleave, Concat}
use Rattle.el_settings.proofs.Copied.{pads_same}

pub place_set : (caps : Caps) (s : Settings) → place_of (with_allowed caps s) ≡ place_of s
place_set caps (AudioConvert s) = refl
place_set caps _ = refl

pub place_padded : (pads : MadePads) (s : Settings) → place_of (with_pads pads s) ≡ place_of s
place_padded pads (Tee was) = refl
place_padded pads (Interleave was) = refl
place_padded pads (Concat was) = refl
place_padded pads _ = refl

pub hands_padded : (pads : MadePads) (s : Settings) → hands_on (with_pads pads s) ≡ hands_on s
hands_padded pads (Tee was) = refl
hands_padded pads (Interleave was) = refl
hands_padded pads (Concat was) = refl
hands_padded pads _ = refl

pub filter_padded : (pads : MadePads) (s : Settings) → filter_caps (with_pads pads s) ≡ filter_caps s
filter_padded pads (Tee was) = refl
filter_padded pads (Interleave was) = refl
filter_padded pads (Concat was) = refl
filter_padded pads _ = refl

pub converter_padded : (pads : MadePads) (s : Settings) → is_converter (with_pads pads s) ≡ is_converter s
converter_padded pads (Tee was) = refl
converter_padded pads (Interleave was) = refl
converter_padded pads (Concat was) = refl
converter_padded pads _ = refl

pub location_padded : (pads : MadePads) (s : Settings) → location_of (with_pads pads s) ≡ location_of s
location_padded pads (Tee was) = refl
location_padded pads (Interleave was) = refl
location_padded pads (Concat was) = refl
location_padded pads _ = refl

pub template_padded : (pads : MadePads) (s : Settings) (sink : Bool) → template_of (with_pads pads s) sink ≡ template_of s sink
template_padded pads (Tee was) sink = refl
template_padded pads (Interleave was) sink = refl
template_padded pads (Concat was) sink = refl
template_padded pads _ sink = refl

pub hands_set : (caps : Caps) (s : Settings) → hands_on (with_allowed caps s) ≡ hands_on s
hands_set caps (AudioConvert s) = refl
hands_set caps _ = refl

pub filter_set : (caps : Caps) (s : Settings) → filter_caps (with_allowed caps s) ≡ filter_caps s
filter_set caps (AudioConvert s) = refl
filter_set caps _ = refl

pub template_set : (caps : Caps) (sink : Bool) (s : Settings) → template_of (with_allowed caps s) sink ≡ template_of s sink
template_set caps sink (AudioConvert s) = refl
template_set caps sink _ = refl

pub converter_set : (caps : Caps) (s : Settings) → is_converter (with_allowed caps s) ≡ is_converter s
converter_set caps (AudioConvert s) = refl
converter_set caps _ = refl

pub sinks_set : (caps : Caps) (s : Settings) → sink_pads (with_allowed caps s) ≡ sink_pads s
sinks_set caps (AudioConvert s) = refl
sinks_set caps _ = refl

pub sources_set : (caps : Caps) (s : Settings) → source_pads (with_allowed caps s) ≡ source_pads s
sources_set caps (AudioConvert s) = refl
sources_set caps _ = refl

pub location_set : (caps : Caps) (s : Settings) → location_of (with_allowed caps s) ≡ location_of s
location_set caps (AudioConvert s) = refl
location_set caps _ = refl

-- the last that is set counts
pub set_twice : (caps other : Caps) (s : Settings) → with_allowed caps (with_allowed other s) ≡ with_allowed caps s
set_twice caps other (AudioConvert s) = refl
set_twice caps other _ = refl

pub set_own : (s : Settings) → with_allowed (allowed_of s) s ≡ s
set_own (AudioConvert s) = refl
set_own _ = refl

pub allowed_set : (caps : Caps) (s : Settings) → is_converter s ≡ true → allowed_of (with_allowed caps s) ≡ caps
allowed_set caps (AudioConvert s) is = refl
allowed_set caps _ is = absurd (cc)

pub allowed_other : (s : Settings) → is_converter s ≡ false → allowed_of s ≡ Any
allowed_other (AudioConvert s) is = absurd (cc)
allowed_other _ is = refl

-- what holds of each row of a table, and where there is none, holds of the row of a name
abbrev EachRow : {V : Type 0} → (Option V → Type 0) → List (List ℕ × V) → Type 0
EachRow P [] = P None
EachRow P (row ∷ rows) = P (Some row.1) × EachRow P rows

by_row : {V : Type 0} (P : Option V → Type 0) (name : List ℕ) (rows : List (List ℕ × V)) → EachRow P rows → P (find_row name rows)
by_row P name [] each = each
by_row P name (row ∷ rows) each = by (bytes_eq name row.0) (by_row P name rows each.1)
  where
    by : (b : Bool) → P (find_row name rows) → P (if b then Some row.1 else find_row name rows)
    by true rest = each.0
    by false rest = rest

-- properties allow a converter all caps
any_allowed : (kind : List ℕ) (props : List Prop) (s : AudioConvertSettings) → IsAnswerFor (find_row kind kinds) props (Ok (AudioConvert s)) → s.allowed ≡ Any
any_allowed kind props s = by_row (λ o. IsAnswerFor o props (Ok (AudioConvert s)) → s.allowed ≡ Any) kind kinds
    (wrong, (wrong, (wrong, (wrong, (wrong, (wrong, (wrong, ((λ h. h.1), (wrong, (wrong, (wrong, (wrong, (wrong, (wrong, (wrong, (wrong, (wrong, (wrong, (wrong, (wrong, λ h. absurd h))))))))))))))))))))
  where
    wrong : {P : Type 0} → P × ⊥ → s.allowed ≡ Any
    wrong h = absurd h.1

pub set_any : (kind : List ℕ) (props : List Prop) (s : Settings) → IsAnswer kind props (Ok s) → with_allowed Any s ≡ s
set_any kind props (AudioConvert s) h = ap (λ (c : Caps). AudioConvert (record { allowed = c })) (sym (any_allowed kind props s h))
set_any kind props _ h = refl

-- properties make no pads
tee_none : (kind : List ℕ) (props : List Prop) (s : MadePads) → IsAnswerFor (find_row kind kinds) props (Ok (Tee s)) → s.count ≡ 0
tee_none kind props s = by_row (λ o. IsAnswerFor o props (Ok (Tee s)) → s.count ≡ 0) kind kinds
    (wrong, (wrong, (wrong, (wrong, (wrong, (wrong, ((λ h. h.1), (wrong, (wrong, (wrong, (wrong, (wrong, (wrong, (wrong, (wrong, (wrong, (wrong, (wrong, (wrong, (wrong, λ h. absurd h))))))))))))))))))))
  where
    wrong : {P : Type 0} → P × ⊥ → s.count ≡ 0
    wrong h = absurd h.1

interleave_none : (kind : List ℕ) (props : List Prop) (s : MadePads) → IsAnswerFor (find_row kind kinds) props (Ok (Interleave s)) → s.count ≡ 0
interleave_none kind props s = by_row (λ o. IsAnswerFor o props (Ok (Interleave s)) → s.count ≡ 0) kind kinds
    (wrong, (wrong, (wrong, (wrong, (wrong, (wrong, (wrong, (wrong, (wrong, (wrong, (wrong, (wrong, (wrong, (wrong, (wrong, (wrong, ((λ h. h.1), (wrong, (wrong, (wrong, λ h. absurd h))))))))))))))))))))
  where
    wrong : {P : Type 0} → P × ⊥ → s.count ≡ 0
    wrong h = absurd h.1

concat_none : (kind : List ℕ) (props : List Prop) (s : MadePads) → IsAnswerFor (find_row kind kinds) props (Ok (Concat s)) → s.count ≡ 0
concat_none kind props s = by_row (λ o. IsAnswerFor o props (Ok (Concat s)) → s.count ≡ 0) kind kinds
    (wrong, (wrong, (wrong, (wrong, (wrong, (wrong, (wrong, (wrong, (wrong, (wrong, (wrong, (wrong, (wrong, (wrong, (wrong, (wrong, (wrong, ((λ h. h.1), (wrong, (wrong, λ h. absurd h))))))))))))))))))))
  where
    wrong : {P : Type 0} → P × ⊥ → s.count ≡ 0
    wrong h = absurd h.1

pub set_none : (kind : List ℕ) (props : List Prop) (s : Settings) → IsAnswer kind props (Ok s) → with_pads no_pads s ≡ s
set_none kind props (Tee s) h = ap Tee (pads_same no_pads s (sym (tee_none kind props s h)))
set_none kind props (Interleave s) h = ap Interleave (pads_same no_pads s (sym (interleave_none kind props s h)))
set_none kind props (Concat s) h = ap Concat (pads_same no_pads s (sym (concat_none kind props s h)))
set_none kind props _ h = refl
