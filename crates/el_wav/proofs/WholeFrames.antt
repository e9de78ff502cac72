-- What a parser of raw audio puts out of buffers alone: their bytes, without a part of a frame at their end.
use Rattle.std.proofs.Common.{◌≡◌, ◌<◌, ◌+◌, ◌-◌, ◌*◌, ◌/◌, ◌%◌, ℕ, Bool, true, false, if◌then◌else◌, List, [], ◌∷◌, ◌++◌, length, take, drop, refl, sym, ap, subst, ◌∙◌, append_assoc, append-nil, arith, Result, Ok, Err, length-append, nat_lt}
use Rattle.std.specs.Prelude.{◌==◌, IsOk}
use Rattle.std.proofs.lemmas.List.{take_at, length-drop}
use Rattle.std.proofs.lemmas.Nat.{div-add-mod', div-mul-add, mod_below}
use Rattle.gst_time.specs.declared.time.TheConstants.{LIMIT}
use Rattle.audio_info.specs.declared.info.Info.{Info}
use Rattle.flow_model.specs.Item.{Item, Buf, Buffer, body_of}
use Rattle.flow_model.specs.Call.{Feed, items}
use Rattle.flow_model.specs.Rule.{Fed, Fault, TooLong, unfed, responded}
use Rattle.flow_model.specs.Owed.{answered}
use Rattle.flow_model.specs.Looking.{bytes_of}
use Rattle.flow_model.proofs.Calls.{items_push}
use Rattle.el_parse.specs.Part.{part_bytes}
use Rattle.el_parse.specs.Frames.{frame_width, frame_time, opening, frames_buffer}
use Rattle.el_parse.specs.Parses.{Progress, progress, beginning, parse_answer, parses}
use Rattle.el_parse.proofs.Seen.{Seen, seen, seen_one, seen_all, seen_push, seen_append}
use Rattle.el_parse.proofs.Steps.{Split, Went, went, some_width, nothing_seen, begins_anew}
use Rattle.el_wav.specs.WholeFile.{whole_frames}
use Rattle.gst_value.proofs.Places.{append_left_nil as left_none}

-- The parser was given these bytes, and put out whole frames of them. What it holds is less than a frame.
pub record Framed (info : Info) (fed : Fed) (bytes : List ℕ) : Type 0 where
  pub split : Split (frame_width info) (seen (items fed.given)) (seen fed.out) (progress info fed).held (progress info fed).opened
  pub short : length (progress info fed).held < frame_width info
  pub given : part_bytes (items fed.given) ≡ bytes
  pub out : bytes_of fed.out ≡ part_bytes fed.out
  pub plain : (seen (items fed.given)).segment ≡ []

pub bytes_append : (xs ys : List Item) → bytes_of (xs ++ ys) ≡ bytes_of xs ++ bytes_of ys
bytes_append [] ys = refl
bytes_append (x ∷ xs) ys = ap (λ bytes. body_of x ++ bytes) (bytes_append xs ys) ∙ sym (append_assoc (body_of x) (bytes_of xs) (bytes_of ys))

-- ---- the frames that were put out

whole_by : (width : ℕ) (out held bytes : List ℕ) → out ++ held ≡ bytes → length out / width * width ≡ length out → length held < width
    → out ≡ take (length bytes / width * width) bytes
whole_by width out held bytes joined frames short =
    let count = length out / width in
    let long : length bytes ≡ count * width + length held = ap length (sym joined) ∙ length-append out held ∙ ap (λ n. n + length held) (sym frames) in
    let same : length bytes / width ≡ count = ap (λ n. n / width) long ∙ div-mul-add count width (length held) short in
    sym (take_at out held (length out) refl) ∙ ap (λ bs. take (length out) bs) joined ∙ ap (λ n. take n bytes) (sym frames ∙ ap (λ n. n * width) (sym same))

pub framed_bytes : (info : Info) (fed : Fed) (bytes : List ℕ) → Framed info fed bytes → bytes_of fed.out ≡ whole_frames info bytes
framed_bytes info fed bytes f =
    f.out ∙ whole_by (frame_width info) (part_bytes fed.out) (progress info fed).held bytes (f.split.whole ∙ f.given) f.split.frames f.short

-- ---- one more buffer

less_left : (info : Info) (bytes : List ℕ) → length (drop (length bytes / frame_width info * frame_width info) bytes) < frame_width info
less_left info bytes =
    let n = length bytes in
    let width = frame_width info in
    let parts : n / width * width + n % width ≡ n = div-add-mod' n width in
    let below : n % width < width = mod_below n width (some_width info) in
    let left : length (drop (n / width * width) bytes) ≡ n - n / width * width = length-drop (n / width * width) bytes in
    omega (arith, parts, below, left)

-- what begins a section without a SEGMENT stands before all bytes
abbrev begun : Info → Bool → List Item
begun info opened = if opened then [] else opening info 0

put_none : (info : Info) (s : Seen) (bytes : List ℕ) (opened : Bool) → bytes ≡ s.bytes → (opened ≡ false → s.bytes ≡ []) → bytes ++ bytes_of (begun info opened) ≡ (seen_all s (begun info opened)).bytes
put_none info s bytes true e none = append-nil bytes ∙ e
put_none info s bytes false e none = append-nil bytes ∙ e ∙ none refl

put_one : (info : Info) (s : Seen) (bytes : List ℕ) (opened : Bool) (b : Buffer) → bytes ≡ s.bytes → (opened ≡ false → s.bytes ≡ [])
    → bytes ++ bytes_of (begun info opened ++ Buf b ∷ []) ≡ (seen_all s (begun info opened ++ Buf b ∷ [])).bytes
put_one info s bytes true b e none = rw (append-nil b.body) (ap (λ bs. bs ++ b.body) e)
put_one info s bytes false b e none = rw (append-nil b.body) (ap (λ bs. bs ++ b.body) (e ∙ none refl))

chosen : (b : Bool) (xs ys : List Item) (fault : Fault) → (if b then Ok xs else Err fault) ≡ Ok ys → xs ≡ ys
chosen true xs ys fault e = cc
chosen false xs ys fault e = absurd (cc)

put_more : (info : Info) (p : Progress) (s : Seen) (bytes : List ℕ) (b : Buffer) (ys : List Item) → bytes ≡ s.bytes → (p.opened ≡ false → s.bytes ≡ []) → parse_answer info p (Buf b) ≡ Ok ys
    → bytes ++ bytes_of ys ≡ (seen_all s ys).bytes
put_more info p s bytes b ys e none owed = go (count == 0) owed
  where
    all : List ℕ
    all = p.held ++ b.body

    count : ℕ
    count = length all / frame_width info

    made : Buffer
    made = frames_buffer info p.next count (take (count * frame_width info) all)

    go : (no_frame : Bool)
        → (if no_frame then Ok (beginning info p) else (if nat_lt (frame_time info (p.next + count)) LIMIT then Ok (beginning info p ++ Buf made ∷ []) else Err (TooLong p.reached (LIMIT - p.reached)))) ≡ Ok ys
        → bytes ++ bytes_of ys ≡ (seen_all s ys).bytes
    go true owed = let same : beginning info p ≡ ys = cc in subst (λ zs. bytes ++ bytes_of zs ≡ (seen_all s zs).bytes) same (put_none info s bytes p.opened e none)
    go false owed =
        let same = chosen (nat_lt (frame_time info (p.next + count)) LIMIT) (beginning info p ++ Buf made ∷ []) ys (TooLong p.reached (LIMIT - p.reached)) owed in
        subst (λ zs. bytes ++ bytes_of zs ≡ (seen_all s zs).bytes) same (put_one info s bytes p.opened made e none)

ok_of : (r : Result (List Item) Fault) (ys : List Item) → r ≡ Ok ys → IsOk r × (answered r ≡ ys)
ok_of (Ok xs) ys e = (cc, cc)
ok_of (Err fault) ys e = absurd (cc)

pub framed_more : (info : Info) (fed : Fed) (bytes : List ℕ) (b : Buffer) (ys : List Item) → Framed info fed bytes → parses info fed (Buf b) ≡ Ok ys
    → Framed info (responded fed (Buf b) (Ok ys)) (bytes ++ b.body)
framed_more info fed bytes b ys f owed =
    let p = progress info fed in
    let x = Buf b in
    let ok = ok_of (parse_answer info p x) ys owed in
    let after = responded fed x (Ok ys) in
    let given : seen (items (fed.given ++ Feed x ∷ [])) ≡ seen_one (seen (items fed.given)) x = ap seen (items_push fed.given x) ∙ seen_push (items fed.given) x in
    let out : seen (fed.out ++ ys) ≡ seen_all (seen fed.out) ys = seen_append fed.out ys in
    let step : Went info p x (seen_one (seen (items fed.given)) x) (seen_all (seen fed.out) ys) =
    subst (λ zs. Went info p x (seen_one (seen (items fed.given)) x) (seen_all (seen fed.out) zs)) ok.1 (went info p (seen (items fed.given)) (seen fed.out) x refl refl f.split ok.0) in
    let here : Went info p x (seen (items after.given)) (seen after.out) = rw (given, out) step in
    let none : p.opened ≡ false → part_bytes fed.out ≡ [] = λ e. left_none (part_bytes fed.out) p.held (f.split.whole ∙ f.split.unopened e) in
    record {
      split = subst (λ (q : Progress). Split (frame_width info) (seen (items after.given)) (seen after.out) q.held q.opened) (sym here.as_far) here.bytes;
      short = subst (λ (q : Progress). length q.held < frame_width info) (sym here.as_far) (less_left info (p.held ++ b.body));
      given = ap (λ (s : Seen). s.bytes) given ∙ ap (λ bs. bs ++ b.body) f.given;
      out = bytes_append fed.out ys ∙ put_more info p (seen fed.out) (bytes_of fed.out) b ys f.out none owed ∙ sym (ap (λ (s : Seen). s.bytes) out);
      plain = ap (λ (s : Seen). s.segment) given ∙ f.plain;
    }

-- a parser that was given nothing
pub framed_none : (info : Info) → Framed info unfed []
framed_none info =
    let start = begins_anew info in
    record {
      split = subst (λ (q : Progress). Split (frame_width info) nothing_seen nothing_seen q.held q.opened) (sym start.0) start.1;
      short = subst (λ (q : Progress). length q.held < frame_width info) (sym start.0) (some_width info);
      given = refl;
      out = refl;
      plain = refl;
    }
