-- Each rule owes for EOS something and EOS behind it, and neither EOS nor FLUSH_STOP for another item.
use Rattle.std.proofs.Common.{◌≡◌, ℕ, zero, suc, ◌+◌, ◌*◌, ◌==◌, Bool, true, false, if◌then◌else◌, List, [], ◌∷◌, ◌++◌, take, drop, refl, sym, ap, ◌∙◌, subst, append_assoc, append-nil, Option, Some, None, Result, Ok, Err}
use Rattle.gst_value.specs.Description.{Description}
use Rattle.gst_caps.specs.declared.caps.Caps.{Caps}
use Rattle.gst_value.specs.declared.one.One.{One}
use Rattle.audio_info.specs.declared.info.Info.{Info}
use Rattle.flow_model.specs.Item.{Item, Buffer, Buf, Ev, StreamStart, NewCaps, NewSegment, Tag, Gap, FlushStop, Eos, is_flush_stop, is_eos}
use Rattle.flow_model.specs.Call.{Call, items}
use Rattle.flow_model.specs.Rule.{Fault, Fed, unfed, all_called}
use Rattle.flow_model.specs.Feeding.{next_owed}
use Rattle.gst_caps.specs.Same.{same_caps}
use Rattle.el_basic.specs.Valves.{drops_in, dropped_lately, again, goes_out, valves}
use Rattle.el_basic.proofs.Again.{AreInner as AgainInner, again_inner}
use Rattle.el_convert.specs.Choice.{choice}
use Rattle.el_convert.specs.Converts as conv
use Rattle.flow_model.specs.Looking.{bytes_since_flush}
use Rattle.el_law.specs.Laws as laws
use Rattle.el_law.specs.declared.kind.LawKind.{LawKind}
use Rattle.el_parse.specs.Frames.{frame_time, frame_width, frame_at, frames_buffer, opening}
use Rattle.el_parse.specs.Parses as raw
use Rattle.el_parse.specs.Splits as split
use Rattle.el_parse.specs.Streams.{Stream}
use Rattle.el_wav.specs.WavParse.{parses}
use Rattle.el_wav.specs.WavParseHeads.{Told}
use Rattle.el_wav.specs.WavParseTold.{wav_told}
use Rattle.el_wav.specs.WavParseParts.{Known, Part, Standing, Unbegun, InHead, InData, Broken, goes_on, standing, known_in, place_at, with_item, last_part}
use Rattle.el_wav.specs.WavParseRule as wav
use Rattle.el_wavenc.specs.Encodes as enc
use Rattle.el_wavenc.specs.Templates.{wav_caps}
use Rattle.el_wavenc.specs.WavFile.{Stream as FileStream, head_length, head_items, padding, bytes_at}
use Rattle.el_set.proofs.Ending.{AreInner, EndsAs, OwesEos, IsEnding, eos_of, inner_append}

-- an item for itself
pub passing : (x : Item) → is_flush_stop x ≡ false → EndsAs x (x ∷ [])
passing x f = go (is_eos x) refl
  where
    go : (e : Bool) → is_eos x ≡ e → EndsAs x (x ∷ [])
    go true e = record { inner = []; all = rw e refl; quiet = tt }
    go false e = record { inner = x ∷ []; all = rw e refl; quiet = (f, e, tt) }

-- what goes out behind an inner list
behind_inner : (x : Item) (ys : List Item) → is_flush_stop x ≡ false → AreInner ys → EndsAs x (ys ++ x ∷ [])
behind_inner x ys f h =
    let e = passing x f in
    record { inner = ys ++ e.inner; all = ap (λ zs. ys ++ zs) e.all ∙ sym (append_assoc ys e.inner (eos_of x)); quiet = inner_append ys e.inner h e.quiet }

-- a valve
as_inner : (xs : List Item) → AgainInner xs → AreInner xs
as_inner [] h = tt
as_inner (x ∷ xs) h = (h.0, h.1, as_inner xs h.2)

valve_owes : (drops lately : Bool) (events : List Item) (x : Item) → is_flush_stop x ≡ false → AreInner events → EndsAs x (goes_out drops lately events x)
valve_owes true lately events x f h = record { inner = []; all = refl; quiet = tt }
valve_owes false true events x f h = behind_inner x events f h
valve_owes false false events x f h = passing x f

pub valves_ending : (first : Bool) → IsEnding (valves first)
valves_ending first s x f = valve_owes (drops_in first s.given) (dropped_lately first s.given) (again (items s.given)) x f (as_inner (again (items s.given)) (again_inner (items s.given)))

-- inner items
inner_owed : (x : Item) → is_eos x ≡ false → (ys : List Item) → AreInner ys → EndsAs x ys
inner_owed x e ys h = record { inner = ys; all = rw e (sym (append-nil ys)); quiet = h }

if_ok : (x : Item) (b : Bool) (ys : List Item) (fault : Fault) → EndsAs x ys → OwesEos x (if b then Ok ys else Err fault)
if_ok x true ys fault h = h
if_ok x false ys fault h = tt

two_tests : (x : Item) (b d : Bool) (ys : List Item) (fault other : Fault) → EndsAs x ys → OwesEos x (if b then (if d then Ok ys else Err fault) else Err other)
two_tests x true d ys fault other h = if_ok x d ys fault h
two_tests x false d ys fault other h = tt

if_or : (x : Item) (b : Bool) (r : Result (List Item) Fault) (fault : Fault) → OwesEos x r → OwesEos x (if b then r else Err fault)
if_or x true r fault h = h
if_or x false r fault h = tt

both_tests : (x : Item) (b d : Bool) (r : Result (List Item) Fault) (fault other : Fault) → OwesEos x r → OwesEos x (if b then (if d then r else Err fault) else Err other)
both_tests x true d r fault other h = if_or x d r fault h
both_tests x false d r fault other h = tt

if_both : (x : Item) (b : Bool) (r t : Result (List Item) Fault) → OwesEos x r → OwesEos x t → OwesEos x (if b then r else t)
if_both x true r t h k = h
if_both x false r t h k = k

-- answers of inner items
abbrev AllInner : Result (List Item) Fault → Type 0
AllInner (Ok ys) = AreInner ys
AllInner (Err fault) = Unit {0}

inner_result : (x : Item) → is_eos x ≡ false → (r : Result (List Item) Fault) → AllInner r → OwesEos x r
inner_result x e (Ok ys) h = inner_owed x e ys h
inner_result x e (Err fault) h = tt

result_inner : (x : Item) → is_eos x ≡ false → (r : Result (List Item) Fault) → OwesEos x r → AllInner r
result_inner x e (Ok ys) h = subst AreInner (sym h.all) (inner_append h.inner (eos_of x) h.quiet (rw e tt))
result_inner x e (Err fault) h = tt

test_inner : (b : Bool) (r : Result (List Item) Fault) (fault : Fault) → AllInner r → AllInner (if b then r else Err fault)
test_inner true r fault h = h
test_inner false r fault h = tt

-- a body recoded
law_owes : (kind : LawKind) (frame : Option ℕ) (got : ℕ) (x : Item) → is_flush_stop x ≡ false → OwesEos x (laws.law_answer kind frame got x)
law_owes kind frame got (Ev (NewCaps new)) f =
    let ys = Ev (NewCaps (laws.recoded_caps kind new)) ∷ [] in if_ok (Ev (NewCaps new)) _ ys _ (inner_owed (Ev (NewCaps new)) refl ys (refl, refl, tt))
law_owes kind None got (Buf b) f = tt
law_owes kind (Some frame) got (Buf b) f =
    let ys = Buf (laws.recoded_buffer kind b) ∷ [] in two_tests (Buf b) _ _ ys _ _ (inner_owed (Buf b) refl ys (refl, refl, tt))
law_owes kind frame got (Ev (StreamStart id)) f = passing (Ev (StreamStart id)) f
law_owes kind frame got (Ev (NewSegment segment)) f = passing (Ev (NewSegment segment)) f
law_owes kind frame got (Ev (Tag title)) f = passing (Ev (Tag title)) f
law_owes kind frame got (Ev (Gap pts duration)) f = passing (Ev (Gap pts duration)) f
law_owes kind frame got (Ev (FlushStop number)) f = passing (Ev (FlushStop number)) f
law_owes kind frame got (Ev Eos) f = passing (Ev Eos) f

pub recodes_ending : (kind : LawKind) → IsEnding (laws.recodes kind)
recodes_ending kind s x f = law_owes kind (laws.frame_in_force kind (items s.given)) (bytes_since_flush (items s.given)) x f

-- a body converted
before_inner : (last : Option (Description One)) (to : Description One) → AreInner (conv.caps_before last to)
before_inner None to = (refl, refl, tt)
before_inner (Some last) to = go (same_caps last to)
  where
    go : (b : Bool) → AreInner (if b then [] else Ev (NewCaps to) ∷ [])
    go true = tt
    go false = (refl, refl, tt)

chosen_owes : (k : conv.Known) (from : Description One) (choice : Option (Description One)) (b : Buffer) → OwesEos (Buf b) (conv.buffer_answer k from choice b)
chosen_owes k from None b = tt
chosen_owes k from (Some to) b =
    let last = Buf (conv.converted_buffer from to b) ∷ [] in let ys = conv.caps_before k.chosen to ++ last in
    two_tests (Buf b) _ _ ys _ _ (inner_owed (Buf b) refl ys (inner_append (conv.caps_before k.chosen to) last (before_inner k.chosen to) (refl, refl, tt)))

fed_owes : (k : conv.Known) (offered : Option (Description One)) (b : Buffer) → OwesEos (Buf b) (conv.fed_buffer k offered b)
fed_owes k None b = tt
fed_owes k (Some from) b = chosen_owes k from (choice from k.allowed) b

caps_owes : (k : conv.Known) (new : Description One) (choice : Option (Description One)) → OwesEos (Ev (NewCaps new)) (conv.caps_answer k new choice)
caps_owes k new None = tt
caps_owes k new (Some to) = inner_owed (Ev (NewCaps new)) refl (Ev (NewCaps to) ∷ []) (refl, refl, tt)

convert_owes : (k : conv.Known) (x : Item) → is_flush_stop x ≡ false → OwesEos x (conv.convert_answer k x)
convert_owes k (Ev (NewCaps new)) f = if_or (Ev (NewCaps new)) _ (conv.caps_answer k new (choice new k.allowed)) _ (caps_owes k new (choice new k.allowed))
convert_owes k (Buf b) f = fed_owes k k.offered b
convert_owes k (Ev (StreamStart id)) f = passing (Ev (StreamStart id)) f
convert_owes k (Ev (NewSegment segment)) f = passing (Ev (NewSegment segment)) f
convert_owes k (Ev (Tag title)) f = passing (Ev (Tag title)) f
convert_owes k (Ev (Gap pts duration)) f = passing (Ev (Gap pts duration)) f
convert_owes k (Ev (FlushStop number)) f = passing (Ev (FlushStop number)) f
convert_owes k (Ev Eos) f = passing (Ev Eos) f

pub converts_ending : (first : Caps) → IsEnding (conv.converts first)
converts_ending first s x f = convert_owes (conv.known first s) x f

-- whole frames
beginning_inner : (info : Info) (p : raw.Progress) → AreInner (raw.beginning info p)
beginning_inner info p = go p.opened
  where
    go : (b : Bool) → AreInner (if b then [] else opening info 0)
    go true = tt
    go false = (refl, refl, (refl, refl, tt))

frames_owes : (info : Info) (p : raw.Progress) (bytes : List ℕ) (count : ℕ) (b : Buffer) → OwesEos (Buf b) (raw.whole_frames info p bytes count)
frames_owes info p bytes count b =
    let start = raw.beginning info p in
    let last = Buf (frames_buffer info p.next count (take (count * frame_width info) bytes)) ∷ [] in
    if_both (Buf b) (count == 0) (Ok start) (raw.in_time info p (p.next + count) (start ++ last)) (inner_owed (Buf b) refl start (beginning_inner info p))
    (if_ok (Buf b) _ (start ++ last) _ (inner_owed (Buf b) refl (start ++ last) (inner_append start last (beginning_inner info p) (refl, refl, tt))))

parse_owes : (info : Info) (p : raw.Progress) (x : Item) → is_flush_stop x ≡ false → OwesEos x (raw.parse_answer info p x)
parse_owes info p (Buf b) f = frames_owes info p (p.held ++ b.body) _ b
parse_owes info p (Ev (NewSegment s)) f =
    let ys = opening info (frame_time info (frame_at (frame_width info) s.start s.format)) in
    if_ok (Ev (NewSegment s)) _ ys _ (inner_owed (Ev (NewSegment s)) refl ys (refl, refl, (refl, refl, tt)))
parse_owes info p (Ev (NewCaps caps)) f = inner_owed (Ev (NewCaps caps)) refl [] tt
parse_owes info p (Ev (StreamStart id)) f = passing (Ev (StreamStart id)) f
parse_owes info p (Ev (Tag title)) f = passing (Ev (Tag title)) f
parse_owes info p (Ev (Gap pts duration)) f = passing (Ev (Gap pts duration)) f
parse_owes info p (Ev (FlushStop number)) f = passing (Ev (FlushStop number)) f
parse_owes info p (Ev Eos) f = passing (Ev Eos) f

pub raw_ending : (info : Info) → IsEnding (raw.parses info)
raw_ending info s x f = parse_owes info (raw.progress info s) x f

-- buffers of as many frames
sum_inner : (pts : Option ℕ) (time : ℕ) (r : Result (List Item) Fault) → AllInner r → AllInner (split.in_sum pts time r)
sum_inner None time r h = h
sum_inner (Some pts) time r h = test_inner _ r _ h

timed_inner : (s : Stream) (pts : Option ℕ) (reached first count : ℕ) (body : List ℕ) → AllInner (split.timed s pts reached first count body)
timed_inner s pts reached first count body =
    let one = Ok (Buf (split.piece s pts first count body) ∷ []) in
    let ends = split.in_time reached (split.time_at s (first + count)) one in
    test_inner _ (split.in_sum pts (split.time_at s first) ends) _ (sum_inner pts (split.time_at s first) ends (test_inner _ one _ (refl, refl, tt)))

ahead_inner : (r t : Result (List Item) Fault) → AllInner r → AllInner t → AllInner (split.ahead r t)
ahead_inner (Ok xs) (Ok ys) h k = inner_append xs ys h k
ahead_inner (Ok xs) (Err fault) h k = tt
ahead_inner (Err fault) t h k = tt

pieces_inner : (s : Stream) (pts : Option ℕ) (reached frames first n : ℕ) (bytes : List ℕ) → AllInner (split.pieces s pts reached frames first n bytes)
pieces_inner s pts reached frames first zero bytes = tt
pieces_inner s pts reached frames first (suc n) bytes =
    ahead_inner (split.timed s pts reached first frames (take (frames * s.width) bytes)) (split.pieces s pts reached frames (first + frames) n (drop (frames * s.width) bytes))
    (timed_inner s pts reached first frames (take (frames * s.width) bytes)) (pieces_inner s pts reached frames (first + frames) n (drop (frames * s.width) bytes))

rest_inner : (p : split.Cutting) (stream : Option Stream) → AllInner (split.rest_by p stream)
rest_inner p None = tt
rest_inner p (Some s) = go _ (split.timed s p.pts p.reached p.next _ p.held) (timed_inner s p.pts p.reached p.next _ p.held)
  where
    go : (b : Bool) (r : Result (List Item) Fault) → AllInner r → AllInner (if b then Ok [] else r)
    go true r h = tt
    go false r h = h

ahead_owes : (x : Item) (r : Result (List Item) Fault) (zs : List Item) → AllInner r → EndsAs x zs → OwesEos x (split.ahead r (Ok zs))
ahead_owes x (Ok ys) zs h e =
    record { inner = ys ++ e.inner; all = ap (λ t. ys ++ t) e.all ∙ sym (append_assoc ys e.inner (eos_of x)); quiet = inner_append ys e.inner h e.quiet }
ahead_owes x (Err fault) zs h e = tt

cut_owes : (frames : ℕ) (p : split.Cutting) (b : Buffer) (stream : Option Stream) → OwesEos (Buf b) (split.buffer_answer frames p b stream)
cut_owes frames p b None = tt
cut_owes frames p b (Some s) =
    let bytes = p.held ++ b.body in
    both_tests (Buf b) _ _ (split.whole_pieces s (split.pts_with p b) p.reached frames p.next bytes) _ _
    (inner_result (Buf b) refl (split.whole_pieces s (split.pts_with p b) p.reached frames p.next bytes)
    (pieces_inner s (split.pts_with p b) p.reached frames p.next (split.whole_count frames s bytes) bytes))

split_owes : (frames : ℕ) (p : split.Cutting) (x : Item) → is_flush_stop x ≡ false → OwesEos x (split.split_answer frames p x)
split_owes frames p (Buf b) f = cut_owes frames p b p.stream
split_owes frames p (Ev (NewCaps caps)) f =
    let x = Ev (NewCaps caps) in
    if_or x _ (split.ahead (split.rest p) (Ok (x ∷ []))) _ (ahead_owes x (split.rest p) (x ∷ []) (rest_inner p p.stream) (passing x refl))
split_owes frames p (Ev (NewSegment segment)) f =
    let x = Ev (NewSegment segment) in ahead_owes x (split.rest p) (x ∷ []) (rest_inner p p.stream) (passing x refl)
split_owes frames p (Ev Eos) f = ahead_owes (Ev Eos) (split.rest p) (Ev Eos ∷ []) (rest_inner p p.stream) (passing (Ev Eos) refl)
split_owes frames p (Ev (StreamStart id)) f = passing (Ev (StreamStart id)) f
split_owes frames p (Ev (Tag title)) f = passing (Ev (Tag title)) f
split_owes frames p (Ev (Gap pts duration)) f = passing (Ev (Gap pts duration)) f
split_owes frames p (Ev (FlushStop number)) f = passing (Ev (FlushStop number)) f

pub splits_ending : (frames : ℕ) → IsEnding (split.splits frames)
splits_ending frames s x f = split_owes frames (split.cutting s) x f

-- The data of a WAV file. Its parser is given neither EOS nor FLUSH_STOP for an item.
abbrev PassesInner : wav.Passed → Type 0
PassesInner wav.Nothing = Unit {0}
PassesInner (wav.OneMore info y) = (is_flush_stop y ≡ false) × (is_eos y ≡ false)
PassesInner (wav.First info y) = (is_flush_stop y ≡ false) × (is_eos y ≡ false)
PassesInner (wav.Reopens info y) = (is_flush_stop y ≡ false) × (is_eos y ≡ false)

next_inner : (info : Info) (calls : List Call) (y : Item) → is_flush_stop y ≡ false → is_eos y ≡ false → AllInner (next_owed (raw.parses info) calls y)
next_inner info calls y f e = go (all_called (raw.parses info) unfed calls) (all_called (raw.parses info) unfed calls).over
  where
    go : (s : Fed) (over : Bool) → AllInner (if over then Ok [] else raw.parses info s y)
    go s true = tt
    go s false = result_inner y e (raw.parses info s y) (raw_ending info s y f)

last_inner : (ys : List Item) → AreInner ys → AreInner (wav.last_of ys)
last_inner [] h = tt
last_inner (x ∷ []) h = h
last_inner (x ∷ y ∷ ys) h = last_inner (y ∷ ys) h.2

last_owed_inner : (r : Result (List Item) Fault) → AllInner r → AllInner (wav.last_owed r)
last_owed_inner (Ok ys) h = last_inner ys h
last_owed_inner (Err fault) h = tt

with_inner : (calls : List Call) (q : wav.Passed) → PassesInner q → AllInner (wav.owed_with calls q)
with_inner calls wav.Nothing h = tt
with_inner calls (wav.OneMore info y) h = next_inner info calls y h.0 h.1
with_inner calls (wav.First info y) h = next_inner info [] y h.0 h.1
with_inner calls (wav.Reopens info y) h = last_owed_inner (next_owed (raw.parses info) calls y) (next_inner info calls y h.0 h.1)

first_inner : (after : Standing) (bytes : List ℕ) → PassesInner (wav.pass_first after bytes)
first_inner Unbegun bytes = tt
first_inner InHead bytes = tt
first_inner (InData k place) bytes = (refl, refl)
first_inner (Broken place kind) bytes = tt

body_inner : (before after : Standing) (bytes body : List ℕ) → PassesInner (wav.pass_body before after bytes body)
body_inner Unbegun after bytes body = first_inner after bytes
body_inner InHead after bytes body = first_inner after bytes
body_inner (InData k place) after bytes body = (refl, refl)
body_inner (Broken place kind) after bytes body = tt

segment_inner : (known : Option Known) (start : ℕ) → PassesInner (wav.pass_segment known start)
segment_inner None start = tt
segment_inner (Some k) start = (refl, refl)

unless_inner : (at : Standing) (r : Result (List Item) Fault) → AllInner r → AllInner (wav.unless_broken at r)
unless_inner Unbegun r h = h
unless_inner InHead r h = h
unless_inner (InData k place) r h = h
unless_inner (Broken place kind) r h = tt

unbegun_owes : (known : Option Known) → OwesEos (Ev Eos) (wav.end_unbegun known)
unbegun_owes None = tt
unbegun_owes (Some k) = passing (Ev Eos) refl

end_owes : (at : Standing) (p : Part) → OwesEos (Ev Eos) (wav.end_owed at p)
end_owes Unbegun p = unbegun_owes p.known
end_owes InHead p = tt
end_owes (InData k place) p = passing (Ev Eos) refl
end_owes (Broken place kind) p = tt

wav_owes : (read : List ℕ → Told) (p : Part) (calls : List Call) (x : Item) → is_flush_stop x ≡ false → OwesEos x (wav.answer read p calls x)
wav_owes read p calls (Buf b) f =
    let q = wav.passed read p (Buf b) in let after = standing read (with_item read p (Buf b)) in
    inner_result (Buf b) refl (wav.unless_broken after (wav.owed_with calls q))
    (unless_inner after (wav.owed_with calls q) (with_inner calls q (body_inner (standing read p) after (p.bytes ++ b.body) b.body)))
wav_owes read p calls (Ev (NewSegment s)) f =
    let q = wav.passed read p (Ev (NewSegment s)) in
    inner_result (Ev (NewSegment s)) refl (wav.owed_with calls q)
    (with_inner calls q (segment_inner (goes_on (known_in read p) (place_at s.start s.format)) (place_at s.start s.format)))
wav_owes read p calls (Ev (NewCaps caps)) f = inner_owed (Ev (NewCaps caps)) refl [] tt
wav_owes read p calls (Ev Eos) f = end_owes (standing read p) p
wav_owes read p calls (Ev (StreamStart id)) f = passing (Ev (StreamStart id)) f
wav_owes read p calls (Ev (Tag title)) f = passing (Ev (Tag title)) f
wav_owes read p calls (Ev (Gap pts duration)) f = passing (Ev (Gap pts duration)) f
wav_owes read p calls (Ev (FlushStop number)) f = passing (Ev (FlushStop number)) f

pub wav_ending : IsEnding parses
wav_ending s x f = wav_owes wav_told (last_part wav_told (items s.given)) (wav.data_calls wav_told (items s.given)) x f

-- a WAV file
opening_inner : (p : enc.Progress) (s : FileStream) → AreInner (enc.opening p s)
opening_inner p s = go p.opened
  where
    go : (b : Bool) → AreInner (if b then [] else head_items s 0)
    go true = tt
    go false = (refl, refl, (refl, refl, tt))

padding_inner : (size : ℕ) → AreInner (padding size)
padding_inner size = go _
  where
    go : (b : Bool) → AreInner (if b then [] else bytes_at (head_length + size) (0 ∷ []) ∷ [])
    go true = tt
    go false = (refl, refl, tt)

end_inner : (p : enc.Progress) (stream : Option FileStream) → AreInner (enc.file_end p stream)
end_inner p None = tt
end_inner p (Some s) =
    inner_append (enc.opening p s) (padding p.size ++ head_items s p.size) (opening_inner p s)
    (inner_append (padding p.size) (head_items s p.size) (padding_inner p.size) (refl, refl, (refl, refl, tt)))

announced_inner : (p : enc.Progress) → AreInner (enc.announcement p)
announced_inner p = go p.announced
  where
    go : (b : Bool) → AreInner (if b then [] else Ev (NewCaps wav_caps) ∷ [])
    go true = tt
    go false = (refl, refl, tt)

data_owes : (p : enc.Progress) (b : Buffer) (stream : Option FileStream) → OwesEos (Buf b) (enc.buffer_answer p b stream)
data_owes p b None = tt
data_owes p b (Some s) =
    let last = bytes_at (head_length + p.size) b.body ∷ [] in let ys = enc.opening p s ++ last in
    two_tests (Buf b) _ _ ys _ _ (inner_owed (Buf b) refl ys (inner_append (enc.opening p s) last (opening_inner p s) (refl, refl, tt)))

told_owes : (p : enc.Progress) (caps : Description One) (settled : Option (Description One)) → OwesEos (Ev (NewCaps caps)) (enc.caps_answer p caps settled)
told_owes p caps None = if_ok (Ev (NewCaps caps)) _ (enc.announcement p) _ (inner_owed (Ev (NewCaps caps)) refl (enc.announcement p) (announced_inner p))
told_owes p caps (Some first) = if_ok (Ev (NewCaps caps)) _ (enc.announcement p) _ (inner_owed (Ev (NewCaps caps)) refl (enc.announcement p) (announced_inner p))

encode_owes : (p : enc.Progress) (x : Item) → is_flush_stop x ≡ false → OwesEos x (enc.encode_answer p x)
encode_owes p (Buf b) f = data_owes p b p.stream
encode_owes p (Ev (NewCaps caps)) f = told_owes p caps (enc.settled p)
encode_owes p (Ev (NewSegment segment)) f = inner_owed (Ev (NewSegment segment)) refl [] tt
encode_owes p (Ev (Gap pts duration)) f = inner_owed (Ev (Gap pts duration)) refl [] tt
encode_owes p (Ev Eos) f = record { inner = enc.ending p; all = refl; quiet = end_inner p p.stream }
encode_owes p (Ev (StreamStart id)) f = passing (Ev (StreamStart id)) f
encode_owes p (Ev (Tag title)) f = passing (Ev (Tag title)) f
encode_owes p (Ev (FlushStop number)) f = passing (Ev (FlushStop number)) f

pub encodes_ending : IsEnding enc.encodes
encodes_ending s x f = encode_owes (enc.progress s) x f
