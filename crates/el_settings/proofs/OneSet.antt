-- What properties set an element to is one thing, or one fault.
use Rattle.std.proofs.Common.{◌≡◌, ◌≤◌, ◌<◌, ◌*◌, ◌^◌, ℕ, Bool, false, List, [], ◌∷◌, ◌++◌, Option, None, Some, Result, Ok, Err, MatchOption, refl, sym, ap, ◌∙◌, subst, inl, inr, codes, arith}
use Rattle.gst_caps.specs.declared.caps.Caps.{Caps}
use Rattle.gst_caps.specs.declared.caps.Caps.TheVariants.{Any}
use Rattle.gst_value.specs.declared.name.Prop.{Prop}
use Rattle.audio_info.specs.declared.info.Info.{Info}
use Rattle.audio_info.specs.declared.sample.Sample.{Sample}
use Rattle.audio_info.specs.declared.sample.Sample.TheVariants.{S16LE}
use Rattle.el_src.specs.Ramp.{frame_time}
use Rattle.el_settings.specs.Checked.{IsSetTo, EndsTooLate, IsUnfit, IsOwnFault, IsFirstFault, IsFault, IsAnswerFor, IsAnswer, IsNoKind}
use Rattle.el_settings.specs.Kinds.{kinds}
use Rattle.el_settings.specs.Numbers.{IsNumber}
use Rattle.el_settings.specs.Rows.{find_row, formats, domain_named, InDomain, spells_true}
use Rattle.el_settings.specs.Values.{IsTaken, AllTaken, last_value, NumberOr, SwitchOr, FormatOr, CapsOr}
use Rattle.el_settings.specs.declared.domain.Domain.{Domain}
use Rattle.el_settings.specs.declared.fault.PropFault.{PropFault}
use Rattle.el_settings.specs.declared.fault.PropFault.TheVariants.{NoSuchKind, NoSuchProperty, BadValue, OutOfMemory}
use Rattle.el_settings.specs.declared.kind.Kind.{Kind}
use Rattle.el_settings.specs.declared.kind.Kind.TheVariants.{FileSrc, RampTestSrc, Identity, CapsFilter, Valve, Queue, Tee, AudioConvert, Law, RawAudioParse, AudioBufferSplit, WavParse, WavEnc, Interleave, Concat, FileSink, FakeSink}
use Rattle.el_settings.specs.declared.settings.FileSrcSettings.{FileSrcSettings}
use Rattle.el_settings.specs.declared.settings.QueueSettings.{QueueSettings}
use Rattle.el_settings.specs.declared.settings.RampTestSrcSettings.{RampTestSrcSettings}
use Rattle.el_settings.specs.declared.settings.FileSinkSettings.{FileSinkSettings}
use Rattle.el_settings.specs.declared.settings.Settings.{Settings}
use Rattle.el_settings.specs.declared.settings.Settings.TheVariants.{FileSrc as FileSrcBy, RampTestSrc as RampTestSrcBy, Identity as IdentityBy, CapsFilter as CapsFilterBy, Valve as ValveBy, Queue as QueueBy, Tee as TeeBy, AudioConvert as AudioConvertBy, Law as LawBy, RawAudioParse as RawAudioParseBy, AudioBufferSplit as AudioBufferSplitBy, WavParse as WavParseBy, WavEnc as WavEncBy, Interleave as InterleaveBy, Concat as ConcatBy, FileSink as FileSinkBy, FakeSink as FakeSinkBy}
use Rattle.caps_text.specs.Grammar.{IsCapsText}
use Rattle.el_settings.specs.Alike.{AreAlike, AreLike, IsUnjudged}
use Rattle.el_settings.proofs.Copied.{file_same, ramp_same, split_same, info_same, pads_same}
use Rattle.gst_value.proofs.Basics.{one_some as some_one}

-- each text stands for one caps
abbrev pub OneReading : Type 0
OneReading = (text : List ℕ) (a b : Caps) → IsCapsText text a → IsCapsText text b → a ≡ b

some_none : {A : Type 0} {P : Type 0} (o : Option A) (a : A) → o ≡ Some a → o ≡ None → P
some_none o a e f = absurd (cc)

number_one : (name : List ℕ) (plain : ℕ) (props : List Prop) (n m : ℕ) → NumberOr name plain props n → NumberOr name plain props m → n ≡ m
number_one name plain props n m h g = by (last_value name props) h g
  where
    by : (o : Option (List ℕ)) → MatchOption o (n ≡ plain) (λ text. IsNumber text n) → MatchOption o (m ≡ plain) (λ text. IsNumber text m) → n ≡ m
    by None h g = h ∙ sym g
    by (Some text) h g = sym h.2 ∙ g.2

switch_one : (name : List ℕ) (props : List Prop) (a b : Bool) → SwitchOr name props a → SwitchOr name props b → a ≡ b
switch_one name props a b h g = by (last_value name props) h g
  where
    by : (o : Option (List ℕ)) → MatchOption o (a ≡ false) (λ text. a ≡ spells_true text) → MatchOption o (b ≡ false) (λ text. b ≡ spells_true text) → a ≡ b
    by None h g = h ∙ sym g
    by (Some text) h g = h ∙ sym g

format_one : (name : List ℕ) (plain : Sample) (props : List Prop) (a b : Sample) → FormatOr name plain props a → FormatOr name plain props b → a ≡ b
format_one name plain props a b h g = by (last_value name props) h g
  where
    by : (o : Option (List ℕ)) → MatchOption o (a ≡ plain) (λ text. find_row text formats ≡ Some a) → MatchOption o (b ≡ plain) (λ text. find_row text formats ≡ Some b) → a ≡ b
    by None h g = h ∙ sym g
    by (Some text) h g = some_one (find_row text formats) a b h g

caps_one : OneReading → (name : List ℕ) (props : List Prop) (a b : Caps) → CapsOr name props a → CapsOr name props b → a ≡ b
caps_one one name props a b h g = by (last_value name props) h g
  where
    by : (o : Option (List ℕ)) → MatchOption o (a ≡ Any) (λ text. IsCapsText text a) → MatchOption o (b ≡ Any) (λ text. IsCapsText text b) → a ≡ b
    by None h g = h ∙ sym g
    by (Some text) h g = one text a b h g

file_src_one : (s t : FileSrcSettings) → s.location ≡ t.location → s.blocksize ≡ t.blocksize → s ≡ t
file_src_one s t e f =
    let P : ℕ → Type 0 = λ n. (a : 1 ≤ n) (b : n ≤ 1048576) → record { location = t.location; blocksize = n; some = a; small = b } ≡ s in
    sym (subst P f (file_same s t.location (sym e)) t.some t.small)

file_sink_one : (s t : FileSinkSettings) → s.location ≡ t.location → s.keep_flushed ≡ t.keep_flushed → s ≡ t
file_sink_one s t e f = ap (λ l. let r : FileSinkSettings = record { location = l; keep_flushed = s.keep_flushed } in r) e ∙ ap (λ b. let r : FileSinkSettings = record { location = t.location; keep_flushed = b } in r) f

queue_one : (s t : QueueSettings) → s.buffers ≡ t.buffers → s.bytes ≡ t.bytes → s.time ≡ t.time → s ≡ t
queue_one s t e f g =
    ap (λ n. let r : QueueSettings = record { buffers = n; bytes = s.bytes; time = s.time } in r) e ∙ ap (λ n. let r : QueueSettings = record { buffers = t.buffers; bytes = n; time = s.time } in r) f ∙ ap (λ n. let r : QueueSettings = record { buffers = t.buffers; bytes = t.bytes; time = n } in r) g

-- the settings of a ramp, of raw audio and of buffers of as many frames
ramp_one : (props : List Prop) (s t : RampTestSrcSettings) → IsSetTo RampTestSrc props (RampTestSrcBy s) → IsSetTo RampTestSrc props (RampTestSrcBy t) → s ≡ t
ramp_one props s t h g =
    ramp_same s t (number_one (codes "num-buffers") 16 props s.ramp.buffers t.ramp.buffers h.0 g.0)
    (number_one (codes "samplesperbuffer") 1024 props s.ramp.samples t.ramp.samples h.1 g.1) (number_one (codes "rate") 44100 props s.ramp.rate t.ramp.rate h.2 g.2)
    (number_one (codes "channels") 1 props s.ramp.channels t.ramp.channels h.3 g.3) (number_one (codes "gap-every") 0 props s.ramp.gap_every t.ramp.gap_every h.4 g.4)
    (sym h.5 ∙ g.5)

parse_one : (props : List Prop) (s t : Info) → IsSetTo RawAudioParse props (RawAudioParseBy s) → IsSetTo RawAudioParse props (RawAudioParseBy t) → s ≡ t
parse_one props s t h g =
    info_same s t (format_one (codes "pcm-format") S16LE props s.format t.format h.0 g.0) (number_one (codes "sample-rate") 44100 props s.rate t.rate h.1 g.1)
    (number_one (codes "num-channels") 2 props s.channels t.channels h.2 g.2)

set_one : OneReading → (kind : Kind) (props : List Prop) (s t : Settings) → IsSetTo kind props s → IsSetTo kind props t → s ≡ t
set_one one FileSrc props (FileSrcBy s) (FileSrcBy t) h g = ap FileSrcBy (file_src_one s t (some_one (last_value (codes "location") props) s.location t.location h.0 g.0) (number_one (codes "blocksize") 4096 props s.blocksize t.blocksize h.1 g.1))
set_one one FileSrc props (FileSrcBy s) _ h g = absurd g
set_one one FileSrc props _ t h g = absurd h
set_one one RampTestSrc props (RampTestSrcBy s) (RampTestSrcBy t) h g = ap RampTestSrcBy (ramp_one props s t h g)
set_one one RampTestSrc props (RampTestSrcBy s) _ h g = absurd g
set_one one RampTestSrc props _ t h g = absurd h
set_one one Identity props IdentityBy IdentityBy h g = refl
set_one one Identity props IdentityBy _ h g = absurd g
set_one one Identity props _ t h g = absurd h
set_one one CapsFilter props (CapsFilterBy s) (CapsFilterBy t) h g = ap (λ c. CapsFilterBy (record { caps = c })) (caps_one one (codes "caps") props s.caps t.caps h g)
set_one one CapsFilter props (CapsFilterBy s) _ h g = absurd g
set_one one CapsFilter props _ t h g = absurd h
set_one one Valve props (ValveBy s) (ValveBy t) h g = ap (λ b. ValveBy (record { drops = b })) (switch_one (codes "drop") props s.drops t.drops h g)
set_one one Valve props (ValveBy s) _ h g = absurd g
set_one one Valve props _ t h g = absurd h
set_one one Queue props (QueueBy s) (QueueBy t) h g =
    ap QueueBy (queue_one s t (number_one (codes "max-size-buffers") 200 props s.buffers t.buffers h.0 g.0) (number_one (codes "max-size-bytes") 10485760 props s.bytes t.bytes h.1 g.1) (number_one (codes "max-size-time") 1000000000 props s.time t.time h.2 g.2))
set_one one Queue props (QueueBy s) _ h g = absurd g
set_one one Queue props _ t h g = absurd h
set_one one Tee props (TeeBy s) (TeeBy t) h g = ap TeeBy (pads_same s t (h ∙ sym g))
set_one one Tee props (TeeBy s) _ h g = absurd g
set_one one Tee props _ t h g = absurd h
set_one one AudioConvert props (AudioConvertBy s) (AudioConvertBy t) h g = ap (λ (c : Caps). AudioConvertBy (record { allowed = c })) (h ∙ sym g)
set_one one AudioConvert props (AudioConvertBy s) _ h g = absurd g
set_one one AudioConvert props _ t h g = absurd h
set_one one (Law kind) props (LawBy s) (LawBy t) h g = ap LawBy (h ∙ sym g)
set_one one (Law kind) props (LawBy s) _ h g = absurd g
set_one one (Law kind) props _ t h g = absurd h
set_one one RawAudioParse props (RawAudioParseBy s) (RawAudioParseBy t) h g = ap RawAudioParseBy (parse_one props s t h g)
set_one one RawAudioParse props (RawAudioParseBy s) _ h g = absurd g
set_one one RawAudioParse props _ t h g = absurd h
set_one one AudioBufferSplit props (AudioBufferSplitBy s) (AudioBufferSplitBy t) h g =
    ap AudioBufferSplitBy (split_same s t (number_one (codes "frames") 1024 props s.frames t.frames h g))
set_one one AudioBufferSplit props (AudioBufferSplitBy s) _ h g = absurd g
set_one one AudioBufferSplit props _ t h g = absurd h
set_one one WavParse props WavParseBy WavParseBy h g = refl
set_one one WavParse props WavParseBy _ h g = absurd g
set_one one WavParse props _ t h g = absurd h
set_one one WavEnc props WavEncBy WavEncBy h g = refl
set_one one WavEnc props WavEncBy _ h g = absurd g
set_one one WavEnc props _ t h g = absurd h
set_one one Interleave props (InterleaveBy s) (InterleaveBy t) h g = ap InterleaveBy (pads_same s t (h ∙ sym g))
set_one one Interleave props (InterleaveBy s) _ h g = absurd g
set_one one Interleave props _ t h g = absurd h
set_one one Concat props (ConcatBy s) (ConcatBy t) h g = ap ConcatBy (pads_same s t (h ∙ sym g))
set_one one Concat props (ConcatBy s) _ h g = absurd g
set_one one Concat props _ t h g = absurd h
set_one one FileSink props (FileSinkBy s) (FileSinkBy t) h g = ap FileSinkBy (file_sink_one s t (some_one (last_value (codes "location") props) s.location t.location h.0 g.0) (switch_one (codes "keep-flushed") props s.keep_flushed t.keep_flushed h.1 g.1))
set_one one FileSink props (FileSinkBy s) _ h g = absurd g
set_one one FileSink props _ t h g = absurd h
set_one one FakeSink props FakeSinkBy FakeSinkBy h g = refl
set_one one FakeSink props FakeSinkBy _ h g = absurd g
set_one one FakeSink props _ t h g = absurd h

taken_at : (kind : Kind) (before : List Prop) (prop : Prop) (after : List Prop) → AllTaken kind (before ++ prop ∷ after) → IsTaken kind prop
taken_at kind [] prop after h = h.0
taken_at kind (p ∷ ps) prop after h = taken_at kind ps prop after h.1

-- a property that is taken has no fault
own_taken : (kind : Kind) (prop : Prop) (f : PropFault) → IsOwnFault kind prop f → IsTaken kind prop → IsUnjudged f
own_taken kind prop (NoSuchProperty name) own taken = some_none (domain_named kind prop.name) taken.0 taken.1 own.1
own_taken kind prop (BadValue name) own taken = absurd (own.3 (subst (λ (d : Domain). InDomain d prop.value) (some_one (domain_named kind prop.name) taken.0 own.1 taken.1 own.2) taken.2))
own_taken kind prop NoSuchKind own taken = absurd own
own_taken kind prop OutOfMemory own taken = refl

own_one : (kind : Kind) (prop : Prop) (f g : PropFault) → IsOwnFault kind prop f → IsOwnFault kind prop g → AreLike f g
own_one kind prop (NoSuchProperty a) (NoSuchProperty b) h g = inl (ap NoSuchProperty (h.0 ∙ sym g.0))
own_one kind prop (NoSuchProperty a) (BadValue b) h g = some_none (domain_named kind prop.name) g.1 g.2 h.1
own_one kind prop (NoSuchProperty a) NoSuchKind h g = absurd g
own_one kind prop (NoSuchProperty a) OutOfMemory h g = inr (inr refl)
own_one kind prop (BadValue a) (NoSuchProperty b) h g = some_none (domain_named kind prop.name) h.1 h.2 g.1
own_one kind prop (BadValue a) (BadValue b) h g = inl (ap BadValue (h.0 ∙ sym g.0))
own_one kind prop (BadValue a) NoSuchKind h g = absurd g
own_one kind prop (BadValue a) OutOfMemory h g = inr (inr refl)
own_one kind prop NoSuchKind g' h g = absurd h
own_one kind prop OutOfMemory g' h g = inr (inl refl)

head_same : (p q : Prop) (ps qs : List Prop) → p ∷ ps ≡ q ∷ qs → p ≡ q
head_same p q ps qs e = cc

tail_same : (p q : Prop) (ps qs : List Prop) → p ∷ ps ≡ q ∷ qs → ps ≡ qs
tail_same p q ps qs e = cc

place_one : (kind : Kind) (before other : List Prop) (p q : Prop) (after rest : List Prop) (f g : PropFault) → before ++ p ∷ after ≡ other ++ q ∷ rest → AllTaken kind before → AllTaken kind other → IsOwnFault kind p f → IsOwnFault kind q g → AreLike f g
place_one kind [] [] p q after rest f g same all al own_f own_g = own_one kind p f g own_f (subst (λ (x : Prop). IsOwnFault kind x g) (sym (head_same p q after rest same)) own_g)
place_one kind [] (x ∷ xs) p q after rest f g same all al own_f own_g = inr (inl (own_taken kind p f own_f (subst (IsTaken kind) (sym (head_same p x after (xs ++ q ∷ rest) same)) al.0)))
place_one kind (x ∷ xs) [] p q after rest f g same all al own_f own_g = inr (inr (own_taken kind q g own_g (subst (IsTaken kind) (head_same x q (xs ++ p ∷ after) rest same) all.0)))
place_one kind (x ∷ xs) (y ∷ ys) p q after rest f g same all al own_f own_g = place_one kind xs ys p q after rest f g (tail_same x y (xs ++ p ∷ after) (ys ++ q ∷ rest) same) all.1 al.1 own_f own_g

first_one : (kind : Kind) (props : List Prop) (f g : PropFault) → IsFirstFault kind props f → IsFirstFault kind props g → AreLike f g
first_one kind props f g h k = place_one kind h.before k.before h.prop k.prop h.after k.after f g (sym h.place ∙ k.place) h.taken k.taken h.own k.own

first_taken : (kind : Kind) (props : List Prop) (f : PropFault) → IsFirstFault kind props f → AllTaken kind props → IsUnjudged f
first_taken kind props f h all = own_taken kind h.prop f h.own (taken_at kind h.before h.prop h.after (subst (AllTaken kind) h.place all))

unfit_one : (kind : Kind) (props : List Prop) (a b : List ℕ) → IsUnfit kind props a → IsUnfit kind props b → a ≡ b
unfit_one FileSrc props a b (inl h) (inl g) = h.1 ∙ sym g.1
unfit_one FileSrc props a b (inl h) (inr g) = absurd g
unfit_one FileSrc props a b (inr h) g = absurd h
unfit_one RampTestSrc props a b h g = h.told ∙ sym g.told
unfit_one FileSink props a b (inl h) (inl g) = h.1 ∙ sym g.1
unfit_one FileSink props a b (inl h) (inr g) = absurd g
unfit_one FileSink props a b (inr h) g = absurd h
unfit_one Identity props a b h g = absurd h
unfit_one CapsFilter props a b h g = absurd h
unfit_one Valve props a b h g = absurd h
unfit_one Queue props a b h g = absurd h
unfit_one AudioConvert props a b h g = absurd h
unfit_one (Law kind) props a b h g = absurd h
unfit_one RawAudioParse props a b h g = absurd h
unfit_one AudioBufferSplit props a b h g = absurd h
unfit_one WavParse props a b h g = absurd h
unfit_one WavEnc props a b h g = absurd h
unfit_one Tee props a b h g = absurd h
unfit_one Interleave props a b h g = absurd h
unfit_one Concat props a b h g = absurd h
unfit_one FakeSink props a b h g = absurd h

-- a ramp that is set does not end too late
too_late : (props : List Prop) (s : RampTestSrcSettings) (name : List ℕ) → IsSetTo RampTestSrc props (RampTestSrcBy s) → EndsTooLate props name → ⊥
too_late props s name h g =
    let buffers : g.buffers ≡ s.ramp.buffers = number_one (codes "num-buffers") 16 props g.buffers s.ramp.buffers g.buffers_given h.0 in
    let samples : g.samples ≡ s.ramp.samples = number_one (codes "samplesperbuffer") 1024 props g.samples s.ramp.samples g.samples_given h.1 in
    let rate : g.rate ≡ s.ramp.rate = number_one (codes "rate") 44100 props g.rate s.ramp.rate g.rate_given h.2 in
    let same : frame_time g.rate (g.buffers * g.samples) ≡ frame_time s.ramp.rate (s.ramp.buffers * s.ramp.samples) = rw (buffers, samples, rate) refl in
    not_both (frame_time g.rate (g.buffers * g.samples)) (frame_time s.ramp.rate (s.ramp.buffers * s.ramp.samples)) same g.late s.times_fit
  where
    not_both : (n m : ℕ) → n ≡ m → 2 ^ 63 ≤ n → m < 2 ^ 63 → ⊥
    not_both n m e low high = omega (arith, e, low, high)

set_unfit : (kind : Kind) (props : List Prop) (s : Settings) (name : List ℕ) → IsSetTo kind props s → IsUnfit kind props name → ⊥
set_unfit FileSrc props (FileSrcBy s) name h (inl g) = some_none (last_value (codes "location") props) s.location h.0 g.0
set_unfit FileSrc props (FileSrcBy s) name h (inr g) = g
set_unfit FileSrc props _ name h g = absurd h
set_unfit RampTestSrc props (RampTestSrcBy s) name h g = too_late props s name h g
set_unfit RampTestSrc props _ name h g = absurd h
set_unfit FileSink props (FileSinkBy s) name h (inl g) = some_none (last_value (codes "location") props) s.location h.0 g.0
set_unfit FileSink props (FileSinkBy s) name h (inr g) = g
set_unfit FileSink props _ name h g = absurd h
set_unfit Identity props s name h g = absurd g
set_unfit CapsFilter props s name h g = absurd g
set_unfit Valve props s name h g = absurd g
set_unfit Queue props s name h g = absurd g
set_unfit AudioConvert props s name h g = absurd g
set_unfit (Law kind) props s name h g = absurd g
set_unfit RawAudioParse props s name h g = absurd g
set_unfit AudioBufferSplit props s name h g = absurd g
set_unfit WavParse props s name h g = absurd g
set_unfit WavEnc props s name h g = absurd g
set_unfit Tee props s name h g = absurd g
set_unfit Interleave props s name h g = absurd g
set_unfit Concat props s name h g = absurd g
set_unfit FakeSink props s name h g = absurd g

fault_one : (kind : Kind) (props : List Prop) (f g : PropFault) → IsFault kind props f → IsFault kind props g → AreLike f g
fault_one kind props (NoSuchProperty a) (NoSuchProperty b) h g = first_one kind props (NoSuchProperty a) (NoSuchProperty b) h g
fault_one kind props (NoSuchProperty a) (BadValue b) h (inl g) = first_one kind props (NoSuchProperty a) (BadValue b) h g
fault_one kind props (NoSuchProperty a) (BadValue b) h (inr g) = inr (inl (first_taken kind props (NoSuchProperty a) h g.0))
fault_one kind props (NoSuchProperty a) NoSuchKind h g = absurd g
fault_one kind props (NoSuchProperty a) OutOfMemory h g = inr (inr refl)
fault_one kind props (BadValue a) (NoSuchProperty b) (inl h) g = first_one kind props (BadValue a) (NoSuchProperty b) h g
fault_one kind props (BadValue a) (NoSuchProperty b) (inr h) g = inr (inr (first_taken kind props (NoSuchProperty b) g h.0))
fault_one kind props (BadValue a) (BadValue b) (inl h) (inl g) = first_one kind props (BadValue a) (BadValue b) h g
fault_one kind props (BadValue a) (BadValue b) (inl h) (inr g) = inr (inl (first_taken kind props (BadValue a) h g.0))
fault_one kind props (BadValue a) (BadValue b) (inr h) (inl g) = inr (inr (first_taken kind props (BadValue b) g h.0))
fault_one kind props (BadValue a) (BadValue b) (inr h) (inr g) = inl (ap BadValue (unfit_one kind props a b h.1 g.1))
fault_one kind props (BadValue a) NoSuchKind h g = absurd g
fault_one kind props (BadValue a) OutOfMemory h g = inr (inr refl)
fault_one kind props NoSuchKind g' h g = absurd h
fault_one kind props OutOfMemory g' h g = inr (inl refl)

set_fault : (kind : Kind) (props : List Prop) (s : Settings) (f : PropFault) → AllTaken kind props → IsSetTo kind props s → IsFault kind props f → IsUnjudged f
set_fault kind props s (NoSuchProperty a) all set h = first_taken kind props (NoSuchProperty a) h all
set_fault kind props s (BadValue a) all set (inl h) = first_taken kind props (BadValue a) h all
set_fault kind props s (BadValue a) all set (inr h) = absurd (set_unfit kind props s a set h.1)
set_fault kind props s NoSuchKind all set h = absurd h
set_fault kind props s OutOfMemory all set h = refl

kindless_one : (f g : PropFault) → IsNoKind (Err f) → IsNoKind (Err g) → AreLike f g
kindless_one NoSuchKind NoSuchKind h g = inl refl
kindless_one NoSuchKind OutOfMemory h g = inr (inr refl)
kindless_one NoSuchKind (NoSuchProperty _) h g = absurd g
kindless_one NoSuchKind (BadValue _) h g = absurd g
kindless_one OutOfMemory g' h g = inr (inl refl)
kindless_one (NoSuchProperty _) g' h g = absurd h
kindless_one (BadValue _) g' h g = absurd h

alike_for : OneReading → (o : Option Kind) (props : List Prop) (a b : Result Settings PropFault) → IsAnswerFor o props a → IsAnswerFor o props b → AreAlike a b
alike_for one None props (Ok s) b h g = absurd h
alike_for one None props (Err f) (Ok t) h g = absurd g
alike_for one None props (Err f) (Err g') h g = kindless_one f g' h g
alike_for one (Some k) props (Ok s) (Ok t) h g = set_one one k props s t h.1 g.1
alike_for one (Some k) props (Ok s) (Err g') h g = set_fault k props s g' h.0 h.1 g
alike_for one (Some k) props (Err f) (Ok t) h g = set_fault k props t f g.0 g.1 h
alike_for one (Some k) props (Err f) (Err g') h g = fault_one k props f g' h g

pub answers_alike : OneReading → (kind : List ℕ) (props : List Prop) (a b : Result Settings PropFault) → IsAnswer kind props a → IsAnswer kind props b → AreAlike a b
answers_alike one kind props a b h g = alike_for one (find_row kind kinds) props a b h g
