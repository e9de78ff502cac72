-- Why properties are refused.
use Rattle.std.proofs.Common.{◌≡◌, ℕ, ◌+◌, ◌*◌, ◌^◌, ◌<◌, ◌≤◌, codes, List, ◌∷◌, ◌++◌, length, take, drop, get_or, refl, sym, ap, ◌∙◌, Result, Err, add-one, drop-cons}
use Rattle.std.proofs.lemmas.List.{take-append-drop}
use Rattle.gst_value.specs.declared.name.Prop.{Prop}
use Rattle.gst_caps.specs.declared.caps.Caps.{Caps}
use Rattle.caps_text.specs.Parsed.{AnswersCaps}
use Rattle.caps_text.specs.declared.fault.CapsTextFault.{CapsTextFault}
use Rattle.caps_text.specs.declared.fault.CapsTextFault.TheVariants.{BadCaps, TooMany}
use Rattle.el_settings.specs.declared.kind.Kind.{Kind}
use Rattle.el_settings.specs.declared.fault.PropFault.{PropFault}
use Rattle.el_settings.specs.declared.fault.PropFault.TheVariants.{NoSuchKind, NoSuchProperty, BadValue, OutOfMemory}
use Rattle.el_src.specs.Ramp.{frame_time}
use Rattle.el_settings.specs.Values.{AllTaken, NumberOr}
use Rattle.el_settings.specs.Checked.{IsOwnFault, IsFirstFault, IsJudged, IsLateFault, IsSettled}
use Rattle.el_settings.specs.declared.kind.Kind.TheVariants.{RampTestSrc}

split_at : (props : List Prop) (i : ℕ) (prop : Prop) → i < length props → prop ≡ get_or props i prop → props ≡ take i props ++ prop ∷ drop (i + 1) props
split_at props i prop within is =
    sym (take-append-drop i props) ∙ ap (λ xs. take i props ++ xs) (drop-cons props i prop within ∙ rw (← is, add-one i) refl)

judged_by : (kind : Kind) (props : List Prop) (fault : PropFault) → IsFirstFault kind props fault → IsJudged kind props (Err fault)
judged_by kind props NoSuchKind first = absurd first.own
judged_by kind props (NoSuchProperty name) first = first
judged_by kind props (BadValue name) first = first
judged_by kind props OutOfMemory first = tt

pub judged_at : (kind : Kind) (props : List Prop) (i : ℕ) (prop : Prop) (fault : PropFault) → i < length props → prop ≡ get_or props i prop
    → AllTaken kind (take i props) → IsOwnFault kind prop fault → IsJudged kind props (Err fault)
judged_at kind props i prop fault within is taken own =
    judged_by kind props fault
    (record { before = take i props; prop = prop; after = drop (i + 1) props; place = split_at props i prop within is; taken = taken; own = own })

-- a text that stands for caps is not refused
pub no_bad_caps : (r : Result Caps CapsTextFault) (fault : CapsTextFault) (place : ℕ) → r ≡ Err fault → fault ≡ BadCaps place
    → (caps : Caps) → AnswersCaps r caps → ⊥
no_bad_caps r fault place e g caps a = let b : AnswersCaps (Err fault) caps = rw e at a in rw g at b

pub not_too_many : (r : Result Caps CapsTextFault) (fault : CapsTextFault) (count : ℕ) → r ≡ Err fault → fault ≡ TooMany count
    → (caps : Caps) → AnswersCaps r caps → ⊥
not_too_many r fault count e g caps a = let b : AnswersCaps (Err fault) caps = rw e at a in rw g at b

-- a ramp that ends too late
pub late_settled : (props : List Prop) (fault : PropFault) (buffers samples rate : ℕ) → NumberOr (codes "num-buffers") 16 props buffers → NumberOr (codes "samplesperbuffer") 1024 props samples
    → NumberOr (codes "rate") 44100 props rate → 2 ^ 63 ≤ frame_time rate (buffers * samples) → IsLateFault fault → IsSettled RampTestSrc props (Err fault)
late_settled props NoSuchKind buffers samples rate b s r late h = absurd h
late_settled props (NoSuchProperty name) buffers samples rate b s r late h = absurd h
late_settled props (BadValue name) buffers samples rate b s r late h =
    record { buffers = buffers; samples = samples; rate = rate; buffers_given = b; samples_given = s; rate_given = r; late = late; told = h }
late_settled props OutOfMemory buffers samples rate b s r late h = tt
