-- What is put out for a whole WAV file.
use Rattle.std.proofs.Common.{◌≡◌, ◌≤◌, ◌-◌, ℕ, zero, suc, Bool, true, false, if◌then◌else◌, List, [], ◌∷◌, ◌++◌, length, take, drop, map, Option, Some, None, refl, sym, ap, subst, ◌∙◌, append_assoc, append-nil, arith, Result, Ok, Err}
use Rattle.std.proofs.lemmas.List.{length-drop, drop-append-le}
use Rattle.audio_info.specs.declared.info.Info.{Info}
use Rattle.wav_format.specs.declared.head.Head.{Head}
use Rattle.wav_format.specs.Chunks.{BeginsWithHead}
use Rattle.wav_format.specs.Format.{AreBytes}
use Rattle.flow_model.specs.Item.{Item, Buf, Ev, Buffer, Eos}
use Rattle.flow_model.specs.Call.{Call, Feed, feeds, items}
use Rattle.flow_model.specs.Rule.{Fed, Fault, unfed, responded, called, all_called, owed_for}
use Rattle.flow_model.specs.Looking.{bytes_of}
use Rattle.flow_model.proofs.Calls.{items_push, fed_taken, feeds_push}
use Rattle.el_parse.specs.Parses.{parses as parses_raw}
use Rattle.el_wav.specs.WavParse.{parses}
use Rattle.el_wav.specs.WavParseHeads.{Told, Whole, More, Wrong, IsFormatOf, ReadsHeads}
use Rattle.el_wav.specs.WavParseTold.{wav_told}
use Rattle.el_wav.specs.WavParseParts.{Part, read_as, with_item, first_part, last_part}
use Rattle.el_wav.specs.WavParseRule.{within, body_item, Passed, OneMore, pass_body, calls_with, owed_with, unless_broken, data_calls, calls_behind, answer}
use Rattle.el_wav.specs.WholeFile.{opened_file, file_bytes, data_of, whole_frames}
use Rattle.el_wav.proofs.WavParseFits.{head_within}
use Rattle.el_wav.proofs.WavParseParting.{Longer, nothing_more}
use Rattle.el_wav.proofs.WavParsing.{part_from, calls_from}
use Rattle.el_wav.proofs.WholeFrames.{Framed, bytes_append, framed_bytes, framed_more, framed_none}
use Rattle.wav_format.proofs.Least.{front_fine}

-- ---- what stands behind the bytes so far

-- the part that they are, from the start of the file
abbrev pub part_of : List ℕ → Part
part_of bytes = record { known = None; start = Some 0; bytes = bytes }

-- the parser of the data was given these calls, and what it put out is all that was put out
pub record PutOut (info : Info) (bytes : List ℕ) (calls : List Call) (out : List Item) : Type 0 where
  pub goes : (all_called (parses_raw info) unfed calls).over ≡ false
  pub framed : Framed info (all_called (parses_raw info) unfed calls) bytes
  pub same : bytes_of out ≡ bytes_of (owed_for (parses_raw info) calls)

-- no bytes were put out in the head, and behind it frames of the data so far
abbrev pub PutBy : Told → List ℕ → List Call → List Item → Type 0
PutBy (Whole head info) bytes calls out = PutOut info (data_of head bytes) calls out
PutBy More bytes calls out = (calls ≡ []) × (bytes_of out ≡ [])
PutBy (Wrong place kind) bytes calls out = ⊥

pub record StandsBehind (fed : Fed) (bytes : List ℕ) : Type 0 where
  pub part : last_part wav_told (items fed.given) ≡ part_of bytes
  pub calls : List Call
  pub is_given : data_calls wav_told (items fed.given) ≡ calls
  pub put : PutBy (wav_told bytes) bytes calls fed.out

-- ---- one more body

take_both : (n : ℕ) (xs ys : List ℕ) → take n (xs ++ ys) ≡ take n xs ++ take (n - length xs) ys
take_both zero xs ys = let none : 0 - length xs ≡ 0 = omega arith in ap (λ n. take n ys) (sym none)
take_both (suc n) [] ys = let all : suc n - 0 ≡ suc n = omega arith in ap (λ n. take n ys) (sym all)
take_both (suc n) (x ∷ xs) ys =
    let left : suc n - suc (length xs) ≡ n - length xs = omega arith in
    ap (λ zs. x ∷ zs) (take_both n xs ys) ∙ ap (λ k. x ∷ (take n xs ++ take k ys)) (sym left)

pub data_more : (size : Option ℕ) (start : ℕ) (bytes body : List ℕ) → start ≤ length bytes
    → within size 0 (drop start bytes) ++ within size (length bytes - start) body ≡ within size 0 (drop start (bytes ++ body))
data_more None start bytes body le = sym (drop-append-le start bytes body le)
data_more (Some size) start bytes body le =
    let long = length-drop start bytes in
    let left : size - (length bytes - start) ≡ size - 0 - length (drop start bytes) = omega (arith, long) in
    ap (λ n. take (size - 0) (drop start bytes) ++ take n body) left
    ∙ sym (take_both (size - 0) (drop start bytes) body)
    ∙ ap (take (size - 0)) (sym (drop-append-le start bytes body le))

-- the first data, where the head is whole
put_first : (head : Head) (info : Info) (bytes : List ℕ) (out ys : List Item) → bytes_of out ≡ [] → parses_raw info unfed (body_item (data_of head bytes)) ≡ Ok ys
    → PutOut info (data_of head bytes) (Feed (body_item (data_of head bytes)) ∷ []) (out ++ ys)
put_first head info bytes out ys none owed =
    let x = body_item (data_of head bytes) in
    let same = fed_taken (parses_raw info) [] x ys refl refl owed in
    record {
      goes = ap (λ (s : Fed). s.over) same;
      framed = subst (λ s. Framed info s (data_of head bytes)) (sym same) (framed_more info unfed [] (record { body = data_of head bytes; pts = None; duration = None; offset = None; discont = false }) ys (framed_none info) owed);
      same = bytes_append out ys ∙ ap (λ bs. bs ++ bytes_of ys) none ∙ sym (ap (λ (s : Fed). bytes_of s.out) same);
    }

pub answered_by : (b : Bool) (r : Result (List Item) Fault) (ys : List Item) → b ≡ false → (if b then Ok [] else r) ≡ Ok ys → r ≡ Ok ys
answered_by true r ys goes e = absurd (cc)
answered_by false r ys goes e = e

put_next : (head : Head) (info : Info) (bytes body : List ℕ) (calls : List Call) (out ys : List Item) → head.start ≤ length bytes → PutOut info (data_of head bytes) calls out
    → owed_with calls (OneMore info (body_item (within head.size (length bytes - head.start) body))) ≡ Ok ys
    → PutOut info (data_of head (bytes ++ body)) (calls ++ Feed (body_item (within head.size (length bytes - head.start) body)) ∷ []) (out ++ ys)
put_next head info bytes body calls out ys le p owed =
    let x = body_item (within head.size (length bytes - head.start) body) in
    let fed = all_called (parses_raw info) unfed calls in
    let answer = answered_by fed.over (parses_raw info fed x) ys p.goes owed in
    let same = fed_taken (parses_raw info) calls x ys p.goes refl answer in
    record {
      goes = ap (λ (s : Fed). s.over) same;
      framed = subst (λ s. Framed info s (data_of head (bytes ++ body))) (sym same)
          (subst (λ bs. Framed info (responded fed x (Ok ys)) bs) (data_more head.size head.start bytes body le)
          (framed_more info fed (data_of head bytes) (record { body = within head.size (length bytes - head.start) body; pts = None; duration = None; offset = None; discont = false }) ys p.framed answer));
      same = bytes_append out ys ∙ ap (λ bs. bs ++ bytes_of ys) p.same ∙ sym (bytes_append fed.out ys) ∙ sym (ap (λ (s : Fed). bytes_of s.out) same);
    }

-- what is owed for a body, and what the parser of the data was then given, by what the bytes before it and with it say
abbrev pub passed_by : Told → Told → List ℕ → List ℕ → Passed
passed_by was now bytes body = pass_body (read_as was bytes) (read_as now (bytes ++ body)) (bytes ++ body) body

abbrev pub IsOwed : Told → Told → List ℕ → List ℕ → List Call → List Item → Type 0
IsOwed was now bytes body calls ys = unless_broken (read_as now (bytes ++ body)) (owed_with calls (passed_by was now bytes body)) ≡ Ok ys

put_more : ReadsHeads wav_told → Longer → (bytes body : List ℕ) (calls : List Call) (out ys : List Item) → AreBytes (bytes ++ body) → (was now : Told) → wav_told bytes ≡ was → wav_told (bytes ++ body) ≡ now
    → PutBy was bytes calls out → IsOwed was now bytes body calls ys → PutBy now (bytes ++ body) (calls_with calls (passed_by was now bytes body)) (out ++ ys)
put_more reads stays bytes body calls out ys fine (Wrong place kind) now e f p owed = absurd p
put_more reads stays bytes body calls out ys fine More More e f p owed =
    let none : [] ≡ ys = cc in
    (p.0, ap (λ zs. bytes_of (out ++ zs)) (sym none) ∙ ap bytes_of (append-nil out) ∙ p.1)
put_more reads stays bytes body calls out ys fine More (Wrong place kind) e f p owed = absurd (cc)
put_more reads stays bytes body calls out ys fine More (Whole head info) e f p owed = put_first head info (bytes ++ body) out ys p.1 owed
put_more reads stays bytes body calls out ys fine (Whole head info) now e f p owed =
    let only = reads.only bytes head info e in
    let whole : Whole head info ≡ now = sym (reads.whole (bytes ++ body) head info fine (stays bytes body head only.1) only.2) ∙ f in
    subst (λ t. IsOwed (Whole head info) t bytes body calls ys → PutBy t (bytes ++ body) (calls_with calls (passed_by (Whole head info) t bytes body)) (out ++ ys)) whole
    (put_next head info bytes body calls out ys (head_within bytes head only.1) p) owed

answered : ReadsHeads wav_told → Longer → (fed : Fed) (bytes : List ℕ) (b : Buffer) → AreBytes (bytes ++ b.body) → (s : StandsBehind fed bytes) → (r : Result (List Item) Fault)
    → answer wav_told (part_of bytes) s.calls (Buf b) ≡ r → (responded fed (Buf b) r).over ≡ false → StandsBehind (responded fed (Buf b) r) (bytes ++ b.body)
answered reads stays fed bytes b fine s (Err fault) owed goes = absurd (cc)
answered reads stays fed bytes b fine s (Ok ys) owed goes =
    let h = items fed.given in
    let more = items_push fed.given (Buf b) in
    record {
      part = ap (last_part wav_told) more ∙ part_from wav_told first_part h (Buf b) ∙ ap (λ p. with_item wav_told p (Buf b)) s.part;
      calls = calls_behind wav_told (part_of bytes) s.calls (Buf b);
      is_given = ap (data_calls wav_told) more ∙ calls_from wav_told first_part [] h (Buf b)
          ∙ ap (λ p. calls_behind wav_told p (data_calls wav_told h) (Buf b)) s.part ∙ ap (λ cs. calls_behind wav_told (part_of bytes) cs (Buf b)) s.is_given;
      put = put_more reads stays bytes b.body s.calls fed.out ys fine (wav_told bytes) (wav_told (bytes ++ b.body)) refl refl s.put owed;
    }

pub step : ReadsHeads wav_told → Longer → (fed : Fed) (bytes : List ℕ) (b : Buffer) → AreBytes (bytes ++ b.body) → (fed.over ≡ false → StandsBehind fed bytes)
    → (called parses fed (Feed (Buf b))).over ≡ false → StandsBehind (called parses fed (Feed (Buf b))) (bytes ++ b.body)
step reads stays fed bytes b fine stands = go fed.over refl
  where
    go : (o : Bool) → fed.over ≡ o → (if o then fed else responded fed (Buf b) (parses fed (Buf b))).over ≡ false
        → StandsBehind (if o then fed else responded fed (Buf b) (parses fed (Buf b))) (bytes ++ b.body)
    go true over goes = absurd (cc)
    go false begun goes =
        let s = stands begun in
        answered reads stays fed bytes b fine s (parses fed (Buf b)) (sym (ap (λ p. answer wav_told p (data_calls wav_told (items fed.given)) (Buf b)) s.part ∙ ap (λ cs. answer wav_told (part_of bytes) cs (Buf b)) s.is_given)) goes

-- ---- all bodies, and EOS

all_fed : ReadsHeads wav_told → Longer → (bodies : List Buffer) (fed : Fed) (bytes : List ℕ) → AreBytes (bytes ++ file_bytes bodies) → (fed.over ≡ false → StandsBehind fed bytes)
    → (all_called parses fed (feeds (map Buf bodies))).over ≡ false → StandsBehind (all_called parses fed (feeds (map Buf bodies))) (bytes ++ file_bytes bodies)
all_fed reads stays [] fed bytes fine stands goes = subst (λ bs. StandsBehind fed bs) (sym (append-nil bytes)) (stands goes)
all_fed reads stays (b ∷ bs) fed bytes fine stands goes =
    let all : (bytes ++ b.body) ++ file_bytes bs ≡ bytes ++ (b.body ++ file_bytes bs) = append_assoc bytes b.body (file_bytes bs) in
    let fine_all : AreBytes ((bytes ++ b.body) ++ file_bytes bs) = subst AreBytes (sym all) fine in
    subst (λ cs. StandsBehind (all_called parses (called parses fed (Feed (Buf b))) (feeds (map Buf bs))) cs) all
    (all_fed reads stays bs (called parses fed (Feed (Buf b))) (bytes ++ b.body) fine_all (step reads stays fed bytes b (front_fine (bytes ++ b.body) (file_bytes bs) fine_all) stands) goes)

-- behind STREAM_START and SEGMENT
pub begins_reading : ReadsHeads wav_told → (id : ℕ) → StandsBehind (all_called parses unfed (feeds (opened_file id []))) []
begins_reading reads id = record {
  part = refl;
  calls = [];
  is_given = refl;
  put = subst (λ t. PutBy t [] [] (all_called parses unfed (feeds (opened_file id []))).out) (sym (nothing_more wav_told reads)) (refl, refl);
}

pub frames_made : ReadsHeads wav_told → Longer → (id : ℕ) (bodies : List Buffer) (head : Head) (info : Info) → AreBytes (file_bytes bodies) → BeginsWithHead (file_bytes bodies) head → IsFormatOf head info
    → (all_called parses unfed (feeds (opened_file id bodies))).over ≡ false
    → bytes_of (owed_for parses (feeds (opened_file id bodies ++ Ev Eos ∷ []))) ≡ whole_frames info (data_of head (file_bytes bodies))
frames_made reads stays id bodies head info fine begins format goes =
    let h = opened_file id bodies in
    let fed = all_called parses unfed (feeds h) in
    let bytes = file_bytes bodies in
    let whole = reads.whole bytes head info fine begins format in
    let stands : StandsBehind fed bytes = all_fed reads stays bodies (all_called parses unfed (feeds (opened_file id []))) [] fine (λ e. begins_reading reads id) goes in
    let put : PutOut info (data_of head bytes) stands.calls fed.out = subst (λ t. PutBy t bytes stands.calls fed.out) whole stands.put in
    let answer : parses fed (Ev Eos) ≡ Ok (Ev Eos ∷ []) = rw (stands.part, whole) refl in
    let same = fed_taken parses (feeds h) (Ev Eos) (Ev Eos ∷ []) goes refl answer in
    ap (λ cs. bytes_of (owed_for parses cs)) (feeds_push h (Ev Eos))
    ∙ ap (λ (s : Fed). bytes_of s.out) same
    ∙ bytes_append fed.out (Ev Eos ∷ [])
    ∙ append-nil (bytes_of fed.out)
    ∙ put.same
    ∙ framed_bytes info (all_called (parses_raw info) unfed stands.calls) (data_of head bytes) put.framed
