-- A whole WAV file is taken where the times of its frames fit.
use Rattle.std.proofs.Common.{◌≡◌, ◌≤◌, ◌<◌, ◌+◌, ◌-◌, ◌*◌, ◌/◌, ℕ, Bool, true, false, if◌then◌else◌, List, [], ◌∷◌, ◌++◌, length, take, drop, map, Option, Some, None, refl, sym, ap, subst, ◌∙◌, append_assoc, arith, Result, Ok, Err, length-append, nat_lt}
use Rattle.std.specs.Prelude.{◌==◌, IsOk}
use Rattle.std.proofs.lemmas.Bool.{lt-ltb}
use Rattle.std.proofs.lemmas.Nat.{le-div}
use Rattle.std.proofs.lemmas.List.{length-drop, length-take}
use Rattle.std.proofs.Math.Nat.{add-mul-div_right, div-mul-le_self}
use Rattle.gst_time.specs.declared.time.TheConstants.{LIMIT}
use Rattle.audio_info.specs.declared.info.Info.{Info}
use Rattle.flow_model.specs.declared.fault.StreamKind.{StreamKind}
use Rattle.wav_format.specs.declared.head.Head.{Head}
use Rattle.wav_format.specs.declared.head.HeadAnswer.{HeadAnswer}
use Rattle.wav_format.specs.declared.head.HeadAnswer.TheVariants.{Whole as WholeHead, NeedMore, Bad}
use Rattle.wav_format.specs.Answers.{AnswerIn}
use Rattle.wav_format.specs.Chunks.{BeginsWithHead}
use Rattle.wav_format.specs.Format.{AreBytes}
use Rattle.wav_format.specs.Told.{answer_told}
use Rattle.flow_model.specs.Item.{Item, Buf, Buffer}
use Rattle.flow_model.specs.Call.{Call, Feed, feeds, items}
use Rattle.flow_model.specs.Rule.{Fed, Fault, TooLong, unfed, responded, called, all_called}
use Rattle.el_parse.specs.Part.{part_bytes}
use Rattle.el_parse.specs.Frames.{frame_width, frame_time, frames_buffer, first_frame}
use Rattle.el_parse.specs.Parses.{Progress, progress, beginning, parses as parses_raw}
use Rattle.el_parse.proofs.Steps.{later, some_width}
use Rattle.el_wav.specs.WavParse.{parses}
use Rattle.el_wav.specs.WavParseHeads.{Told, Whole, More, Wrong, IsFormatOf, ReadsHeads, coding}
use Rattle.el_wav.specs.WavParseTold.{wav_told, are_bytes, as_told, info_of, head_told}
use Rattle.el_wav.specs.WavParseParts.{read_as}
use Rattle.el_wav.specs.WavParseRule.{within, body_item, OneMore, owed_with, unless_broken, data_calls, answer}
use Rattle.el_wav.specs.WholeFile.{opened_file, file_bytes, data_of}
use Rattle.el_wav.proofs.WavParseFaulty.{fault_begins_none}
use Rattle.el_wav.proofs.WavParseFits.{head_within}
use Rattle.el_wav.proofs.WavParseParting.{Longer}
use Rattle.el_wav.proofs.WholeFrames.{Framed, framed_none}
use Rattle.el_wav.proofs.WholeFile.{part_of, PutOut, PutBy, StandsBehind, passed_by, step, data_more, begins_reading}
use Rattle.wav_format.proofs.Least.{front_fine}

-- ---- frames of raw audio

-- the time of the end of the whole frames of these bytes
abbrev end_time : Info → List ℕ → ℕ
end_time info bytes = frame_time info (length bytes / frame_width info)

-- with more bytes it is no earlier
no_earlier : (info : Info) (bytes more : List ℕ) → length bytes ≤ length more → end_time info bytes ≤ end_time info more
no_earlier info bytes more le =
    let width = frame_width info in
    let within : length bytes / width * width ≤ length bytes = div-mul-le_self (length bytes) width in
    let fewer : length bytes / width ≤ length more / width = le-div (length bytes / width) (length more) width (some_width info) (omega (arith, within, le)) in
    let apart : length bytes / width + (length more / width - length bytes / width) ≡ length more / width = omega (arith, fewer) in
    subst (λ n. end_time info bytes ≤ frame_time info n) apart (later info (length bytes / width) (length more / width - length bytes / width))

-- the frames that were put out, and those that are whole with some bytes more
count_on : (info : Info) (fed : Fed) (data_bytes body : List ℕ) → Framed info fed data_bytes
    → (progress info fed).next + length ((progress info fed).held ++ body) / frame_width info ≡ length (data_bytes ++ body) / frame_width info
count_on info fed data_bytes body f =
    let width = frame_width info in
    let out = part_bytes fed.out in
    let held = (progress info fed).held in
    let count = length out / width in
    let more = length (held ++ body) in
    let long : length (data_bytes ++ body) ≡ count * width + more =
    ap (λ bs. length (bs ++ body)) (sym f.given ∙ sym f.split.whole) ∙ ap length (append_assoc out held body) ∙ length-append out (held ++ body) ∙ ap (λ n. n + more) (sym f.split.frames) in
    let turned : count * width + more ≡ more + count * width = omega arith in
    let first : (progress info fed).next ≡ 0 + count = ap (λ xs. first_frame info xs + count) f.plain in
    let next : (0 + count) + more / width ≡ more / width + count = omega arith in
    ap (λ n. n + more / width) first ∙ next ∙ sym (add-mul-div_right more count (some_width info)) ∙ sym (ap (λ n. n / width) (long ∙ turned))

raw_taken : (info : Info) (fed : Fed) (data_bytes : List ℕ) (b : Buffer) → Framed info fed data_bytes → end_time info (data_bytes ++ b.body) < LIMIT → IsOk (parses_raw info fed (Buf b))
raw_taken info fed data_bytes b f fits = go (length ((progress info fed).held ++ b.body) / frame_width info == 0)
  where
    p : Progress
    p = progress info fed

    count : ℕ
    count = length (p.held ++ b.body) / frame_width info

    in_time : (c : Bool) (xs : List Item) (fault : Fault) → c ≡ true → IsOk (if c then Ok xs else Err fault)
    in_time true xs fault e = cc
    in_time false xs fault e = absurd (cc)

    go : (none : Bool)
        → IsOk (if none then Ok (beginning info p) else (if nat_lt (frame_time info (p.next + count)) LIMIT then Ok (beginning info p ++ Buf (frames_buffer info p.next count (take (count * frame_width info) (p.held ++ b.body))) ∷ []) else Err (TooLong p.reached (LIMIT - p.reached))))
    go true = cc
    go false = in_time (nat_lt (frame_time info (p.next + count)) LIMIT) _ _ (ap (λ n. nat_lt (frame_time info n) LIMIT) (count_on info fed data_bytes b.body f) ∙ lt-ltb _ _ fits)

-- ---- the front of a file is not at fault

abbrev pub IsTold : Type 0
IsTold = (bytes : List ℕ) → AreBytes bytes → AnswerIn bytes (answer_told bytes)

not_wrong : IsTold → (bytes more : List ℕ) (head : Head) → AreBytes (bytes ++ more) → BeginsWithHead (bytes ++ more) head → (place : ℕ) (kind : StreamKind) → wav_told bytes ≡ Wrong place kind → ⊥
unfolding wav_told
not_wrong told_so bytes more head fine begins place kind is = go (are_bytes bytes) is
  where
    whole : (h : Head) (o : Option Info) → head_told h o ≡ Wrong place kind → ⊥
    whole h None e = absurd (cc)
    whole h (Some info) e = absurd (cc)

    by : (a : HeadAnswer) → AnswerIn bytes a → as_told a ≡ Wrong place kind → ⊥
    by (WholeHead h) answer e = whole h (info_of (coding h.tag h.bits) h) e
    by (NeedMore n) answer e = absurd (cc)
    by (Bad at wrong) answer e = fault_begins_none bytes more at wrong head fine answer begins

    go : (b : Bool) → (if b then as_told (answer_told bytes) else More) ≡ Wrong place kind → ⊥
    go true e = by (answer_told bytes) (told_so bytes (front_fine bytes more fine)) e
    go false e = absurd (cc)

-- the file, with the head that its bytes begin with, and the times of its frames
record IsFile (head : Head) (info : Info) (bytes : List ℕ) : Type 0 where
  fine : AreBytes bytes
  begins : BeginsWithHead bytes head
  format : IsFormatOf head info
  fits : end_time info (data_of head bytes) < LIMIT

shorter : (size : Option ℕ) (start : ℕ) (bytes more : List ℕ) → length (within size 0 (drop start bytes)) ≤ length (within size 0 (drop start (bytes ++ more)))
shorter None start bytes more =
    let long = length-append bytes more in
    let one = length-drop start bytes in
    let all = length-drop start (bytes ++ more) in
    omega (arith, long, one, all)
shorter (Some size) start bytes more =
    let long = length-append bytes more in
    let one = length-drop start bytes in
    let all = length-drop start (bytes ++ more) in
    let cut = length-take (size - 0) (drop start bytes) in
    let cut_all = length-take (size - 0) (drop start (bytes ++ more)) in
    omega (arith, long, one, all, cut, cut_all)

front_fits : ReadsHeads wav_told → Longer → (head h : Head) (info i : Info) (bytes more : List ℕ) → IsFile head info (bytes ++ more) → wav_told bytes ≡ Whole h i → end_time i (data_of h bytes) < LIMIT
front_fits reads stays head h info i bytes more file e =
    let only = reads.only bytes h i e in
    let here = reads.whole (bytes ++ more) h i file.fine (stays bytes more h only.1) only.2 in
    let there = reads.whole (bytes ++ more) head info file.fine file.begins file.format in
    let same_head : head ≡ h = cc in
    let same_info : info ≡ i = cc in
    let all : end_time i (data_of h (bytes ++ more)) < LIMIT = subst (λ n. end_time n (data_of h (bytes ++ more)) < LIMIT) same_info (subst (λ g. end_time info (data_of g (bytes ++ more)) < LIMIT) same_head file.fits) in
    let le = no_earlier i (data_of h bytes) (data_of h (bytes ++ more)) (shorter h.size h.start bytes more) in
    omega (arith, all, le)

-- ---- one more body

abbrev Answer : Told → Told → List ℕ → List ℕ → List Call → Result (List Item) Fault
Answer was now bytes body calls = unless_broken (read_as now (bytes ++ body)) (owed_with calls (passed_by was now bytes body))

going : (b : Bool) (r : Result (List Item) Fault) → b ≡ false → IsOk r → IsOk (if b then Ok [] else r)
going true r e ok = absurd (cc)
going false r e ok = ok

data_taken : (head : Head) (info : Info) (bytes body : List ℕ) (calls : List Call) (out : List Item) → head.start ≤ length bytes → PutOut info (data_of head bytes) calls out → end_time info (data_of head (bytes ++ body)) < LIMIT
    → IsOk (owed_with calls (OneMore info (body_item (within head.size (length bytes - head.start) body))))
data_taken head info bytes body calls out le p fits =
    let fed = all_called (parses_raw info) unfed calls in
    let part = within head.size (length bytes - head.start) body in
    let more : end_time info (data_of head bytes ++ part) < LIMIT = subst (λ bs. end_time info bs < LIMIT) (sym (data_more head.size head.start bytes body le)) fits in
    going fed.over (parses_raw info fed (body_item part)) p.goes (raw_taken info fed (data_of head bytes) (record { body = part; pts = None; duration = None; offset = None; discont = false }) p.framed more)

body_taken : IsTold → ReadsHeads wav_told → Longer → (head : Head) (info : Info) (bytes body more : List ℕ) (calls : List Call) (out : List Item) → IsFile head info ((bytes ++ body) ++ more)
    → (was now : Told) → wav_told bytes ≡ was → wav_told (bytes ++ body) ≡ now → PutBy was bytes calls out → IsOk (Answer was now bytes body calls)
body_taken told_so reads stays head info bytes body more calls out file (Wrong place kind) now e f p = absurd p
body_taken told_so reads stays head info bytes body more calls out file More More e f p = cc
body_taken told_so reads stays head info bytes body more calls out file More (Wrong place kind) e f p = absurd (not_wrong told_so (bytes ++ body) more head file.fine file.begins place kind f)
body_taken told_so reads stays head info bytes body more calls out file More (Whole h i) e f p =
    raw_taken i unfed [] (record { body = data_of h (bytes ++ body); pts = None; duration = None; offset = None; discont = false }) (framed_none i) (front_fits reads stays head h info i (bytes ++ body) more file f)
body_taken told_so reads stays head info bytes body more calls out file (Whole h i) now e f p =
    let only = reads.only bytes h i e in
    let here = reads.whole (bytes ++ body) h i (front_fine (bytes ++ body) more file.fine) (stays bytes body h only.1) only.2 in
    let whole : Whole h i ≡ now = sym here ∙ f in
    subst (λ t. IsOk (Answer (Whole h i) t bytes body calls)) whole
    (data_taken h i bytes body calls out (head_within bytes h only.1) p (front_fits reads stays head h info i (bytes ++ body) more file here))

not_over : (fed : Fed) (b : Buffer) (r : Result (List Item) Fault) → IsOk r → (responded fed (Buf b) r).over ≡ false
not_over fed b (Ok ys) ok = refl
not_over fed b (Err fault) ok = absurd (cc)

step_taken : IsTold → ReadsHeads wav_told → Longer → (head : Head) (info : Info) (fed : Fed) (bytes more : List ℕ) (b : Buffer) → IsFile head info ((bytes ++ b.body) ++ more) → StandsBehind fed bytes → fed.over ≡ false
    → (called parses fed (Feed (Buf b))).over ≡ false
step_taken told_so reads stays head info fed bytes more b file s goes = go fed.over goes
  where
    same : answer wav_told (part_of bytes) s.calls (Buf b) ≡ parses fed (Buf b)
    same = sym (ap (λ p. answer wav_told p (data_calls wav_told (items fed.given)) (Buf b)) s.part ∙ ap (λ cs. answer wav_told (part_of bytes) cs (Buf b)) s.is_given)

    taken : IsOk (parses fed (Buf b))
    taken = subst IsOk same (body_taken told_so reads stays head info bytes b.body more s.calls fed.out file (wav_told bytes) (wav_told (bytes ++ b.body)) refl refl s.put)

    go : (o : Bool) → o ≡ false → (if o then fed else responded fed (Buf b) (parses fed (Buf b))).over ≡ false
    go true e = absurd (cc)
    go false e = not_over fed b (parses fed (Buf b)) taken

all_taken : IsTold → ReadsHeads wav_told → Longer → (head : Head) (info : Info) (bodies : List Buffer) (fed : Fed) (bytes : List ℕ) → IsFile head info (bytes ++ file_bytes bodies) → StandsBehind fed bytes → fed.over ≡ false
    → (all_called parses fed (feeds (map Buf bodies))).over ≡ false
all_taken told_so reads stays head info [] fed bytes file s goes = goes
all_taken told_so reads stays head info (b ∷ bs) fed bytes file s goes =
    let all : (bytes ++ b.body) ++ file_bytes bs ≡ bytes ++ (b.body ++ file_bytes bs) = append_assoc bytes b.body (file_bytes bs) in
    let whole : IsFile head info ((bytes ++ b.body) ++ file_bytes bs) = subst (IsFile head info) (sym all) file in
    let on = step_taken told_so reads stays head info fed bytes (file_bytes bs) b whole s goes in
    all_taken told_so reads stays head info bs (called parses fed (Feed (Buf b))) (bytes ++ b.body) whole
    (step reads stays fed bytes b (front_fine (bytes ++ b.body) (file_bytes bs) whole.fine) (λ e. s) on) on

pub times_fit : IsTold → ReadsHeads wav_told → Longer → (id : ℕ) (bodies : List Buffer) (head : Head) (info : Info) → AreBytes (file_bytes bodies) → BeginsWithHead (file_bytes bodies) head → IsFormatOf head info
    → frame_time info (length (data_of head (file_bytes bodies)) / frame_width info) < LIMIT → (all_called parses unfed (feeds (opened_file id bodies))).over ≡ false
times_fit told_so reads stays id bodies head info fine begins format fits =
    all_taken told_so reads stays head info bodies (all_called parses unfed (feeds (opened_file id []))) [] (record { fine = fine; begins = begins; format = format; fits = fits }) (begins_reading reads id) refl
