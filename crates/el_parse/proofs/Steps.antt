-- How far a parser's rule is behind one more item.
use Rattle.std.proofs.Common.{◌≡◌, ◌≤◌, zero, suc, ◌<◌, ℕ, ◌+◌, ◌-◌, ◌*◌, ◌/◌, Bool, true, false, if◌then◌else◌, List, [], ◌∷◌, ◌++◌, length, take, drop, refl, sym, ap, ◌∙◌, append_assoc, append-nil, arith, Ok, Err, length-append, nat_lt}
use Rattle.std.specs.Prelude.{◌==◌, IsOk}
use Rattle.std.proofs.lemmas.Nat.{le-div}
use Rattle.std.proofs.lemmas.List.{drop_at, take-append-drop, length-take-le}
use Rattle.std.proofs.lemmas.Bool.{eqb-true}
use Rattle.std.proofs.Math.Nat.{add-mul-div_right, div-mul-le_self, zero-div}
use Rattle.gst_time.specs.declared.time.TheConstants.{LIMIT}
use Rattle.audio_info.specs.declared.info.Info.{Info}
use Rattle.audio_info.specs.declared.sample.Sample.{Sample}
use Rattle.audio_info.specs.declared.sample.Sample.TheVariants.{S8, U8, S16LE, S16BE, S24LE, S32LE, MuLaw, ALaw}
use Rattle.audio_info.specs.Packing.{sample_width}
use Rattle.flow_model.specs.Item.{Item, Buf, Ev, Buffer, StreamStart, NewCaps, NewSegment, Tag, Gap, FlushStop, Eos, Segment, is_flush_stop}
use Rattle.flow_model.specs.Rule.{Fault, TooLong}
use Rattle.el_parse.specs.Frames.{frame_width, frame_time, opening, frames_buffer, frame_at, first_frame}
use Rattle.el_parse.specs.Parses.{Progress, in_time, beginning, parse_answer, progress_behind}
use Rattle.flow_model.specs.Owed.{answered}
use Rattle.el_parse.proofs.Seen.{Seen, seen_one, seen_all}
use Rattle.gst_value.proofs.Places.{append_left_nil as left_nil}
use Rattle.flow_model.specs.Looking.{end_of}
use Rattle.gst_item.specs.Item.{has_item}

-- by what is seen of the items that were given, and of those that were put out
abbrev pub progress_by : Info → Seen → Seen → Progress
progress_by info given out = record {
  opened = has_item out.segment;
  next = first_frame info given.segment + length out.bytes / frame_width info;
  held = drop (length out.bytes) given.bytes;
  reached = end_of out.buffer;
}

-- whole frames were put out, and these and what is held are what was given
pub record Split (width : ℕ) (given out : Seen) (held : List ℕ) (opened : Bool) : Type 0 where
  pub whole : out.bytes ++ held ≡ given.bytes
  pub frames : length out.bytes / width * width ≡ length out.bytes
  pub unopened : opened ≡ false → given.bytes ≡ []

-- as far as it is to be behind an item
pub record Went (info : Info) (p : Progress) (x : Item) (given out : Seen) : Type 0 where
  pub as_far : progress_by info given out ≡ progress_behind info p x
  pub bytes : Split (frame_width info) given out (progress_behind info p x).held (progress_behind info p x).opened

none_out : {width : ℕ} {given out : Seen} {held : List ℕ} {opened : Bool} → Split width given out held opened → opened ≡ false → out.bytes ≡ []
none_out {out = out} {held = held} s e = left_nil out.bytes held (s.whole ∙ s.unopened e)

some_bytes : (s : Sample) → 1 ≤ sample_width s
some_bytes S8 = omega arith
some_bytes U8 = omega arith
some_bytes S16LE = omega arith
some_bytes S16BE = omega arith
some_bytes S24LE = omega arith
some_bytes S32LE = omega arith
some_bytes MuLaw = omega arith
some_bytes ALaw = omega arith

product_some : (a b : ℕ) → 1 ≤ a → 1 ≤ b → 0 < a * b
product_some (suc a) (suc b) x y = grind arith
product_some zero b x y = absurd (omega arith)
product_some (suc a) zero x y = absurd (omega arith)

pub some_width : (info : Info) → 0 < frame_width info
some_width info = product_some info.channels (sample_width info.format) info.some_channels (some_bytes info.format)

-- a later frame has no earlier time
pub later : (info : Info) (first count : ℕ) → frame_time info first ≤ frame_time info (first + count)
later info first count =
    let rate : 0 < info.rate = info.some_rate in
    let lower : first * 1000000000 / info.rate * info.rate ≤ first * 1000000000 = div-mul-le_self (first * 1000000000) info.rate in
    le-div (frame_time info first) ((first + count) * 1000000000) info.rate rate (omega arith)

abbrev progress_at : Bool → ℕ → List ℕ → ℕ → Progress
progress_at opened next held reached = record { opened = opened; next = next; held = held; reached = reached }

same_progress : {a b : Bool} {m n j k : ℕ} {xs ys : List ℕ} → a ≡ b → m ≡ n → xs ≡ ys → j ≡ k
    → progress_at a m xs j ≡ progress_at b n ys k
same_progress w x y z = cc

-- what begins a section without a SEGMENT leaves the bytes and the buffer
record Begun (out after : Seen) : Type 0 where
  bytes : after.bytes ≡ out.bytes
  segment : has_item after.segment ≡ true
  buffer : after.buffer ≡ out.buffer

begun : (info : Info) (out : Seen) (opened : Bool) → has_item out.segment ≡ opened → (opened ≡ false → out.bytes ≡ [])
    → Begun out (seen_all out (if opened then [] else opening info 0))
begun info out true e none = record { bytes = refl; segment = e; buffer = refl }
begun info out false e none = record { bytes = sym (none refl); segment = refl; buffer = refl }

seen_more : (s : Seen) (xs ys : List Item) → seen_all s (xs ++ ys) ≡ seen_all (seen_all s xs) ys
seen_more s [] ys = refl
seen_more s (x ∷ xs) ys = seen_more (seen_one s x) xs ys

-- the bytes of a part, with those of one more buffer: what was put out, and then what waits
joined : (given out after held body : List ℕ) → out ++ held ≡ given → after ≡ out → given ++ body ≡ after ++ (held ++ body)
joined given out after held body whole same = ap (λ bytes. bytes ++ body) (sym whole) ∙ append_assoc out held body ∙ ap (λ bytes. bytes ++ (held ++ body)) (sym same)

no_bytes : (width : ℕ) → 0 * width ≡ 0
no_bytes width = omega arith

-- a buffer with which no frame is complete
went_none : (info : Info) (p : Progress) (given out after : Seen) (b : Buffer)
    → length (p.held ++ b.body) / frame_width info ≡ 0 → progress_by info given out ≡ p → Split (frame_width info) given out p.held p.opened → Begun out after
    → Went info p (Buf b) (seen_one given (Buf b)) after
went_none info p given out after b none at s begun =
    let bytes = p.held ++ b.body in
    let all : given.bytes ++ b.body ≡ after.bytes ++ bytes = joined given.bytes out.bytes after.bytes p.held b.body s.whole begun.bytes in
    let zeroed : length bytes / frame_width info * frame_width info ≡ 0 = ap (λ n. n * frame_width info) none ∙ no_bytes (frame_width info) in
    let rest : bytes ≡ drop (length bytes / frame_width info * frame_width info) bytes = ap (λ n. drop n bytes) (sym zeroed) in
    record {
      as_far = same_progress begun.segment
          (ap (λ xs. first_frame info given.segment + length xs / frame_width info) begun.bytes ∙ ap (λ (q : Progress). q.next) at ∙ omega (arith, none))
          (ap (λ xs. drop (length after.bytes) xs) all ∙ drop_at after.bytes bytes (length after.bytes) refl ∙ rest)
          (ap end_of begun.buffer ∙ ap (λ (q : Progress). q.reached) at ∙ sym (ap (λ n. if n == 0 then p.reached else frame_time info (p.next + n)) none));
      bytes = record {
        whole = ap (λ xs. after.bytes ++ xs) (sym rest) ∙ sym all;
        frames = ap (λ xs. length xs / frame_width info * frame_width info) begun.bytes ∙ s.frames ∙ sym (ap length begun.bytes);
        unopened = λ e. absurd (cc);
      };
    }

-- how many bytes whole frames have
frames_within : (info : Info) (bytes : List ℕ) → length (take (length bytes / frame_width info * frame_width info) bytes) ≡ length bytes / frame_width info * frame_width info
frames_within info bytes = length-take-le _ bytes (div-mul-le_self (length bytes) (frame_width info))

more_frames : (width done count : ℕ) → 0 < width → (done + count * width) / width ≡ done / width + count
more_frames width done count some = add-mul-div_right done count some

still_whole : (width done count : ℕ) → 0 < width → done / width * width ≡ done → (done + count * width) / width * width ≡ done + count * width
still_whole width done count some e =
    let n = more_frames width done count some in
    let spread : (done / width + count) * width ≡ done / width * width + count * width = grind arith in
    ap (λ m. m * width) n ∙ spread ∙ ap (λ m. m + count * width) e

-- a buffer with which frames are complete
went_frames : (info : Info) (p : Progress) (given out after : Seen) (b : Buffer)
    → (length (p.held ++ b.body) / frame_width info == 0) ≡ false → progress_by info given out ≡ p → Split (frame_width info) given out p.held p.opened → Begun out after
    → Went info p (Buf b) (seen_one given (Buf b))
    (seen_one after (Buf (frames_buffer info p.next (length (p.held ++ b.body) / frame_width info) (take (length (p.held ++ b.body) / frame_width info * frame_width info) (p.held ++ b.body)))))
went_frames info p given out after b some at s begun =
    let bytes = p.held ++ b.body in
    let width = frame_width info in
    let count = length bytes / frame_width info in
    let cut = take (count * width) bytes in
    let all : given.bytes ++ b.body ≡ after.bytes ++ bytes = joined given.bytes out.bytes after.bytes p.held b.body s.whole begun.bytes in
    let whole : (after.bytes ++ cut) ++ drop (count * width) bytes ≡ given.bytes ++ b.body =
    append_assoc after.bytes cut (drop (count * width) bytes) ∙ ap (λ xs. after.bytes ++ xs) (take-append-drop (count * width) bytes) ∙ sym all in
    let size : length (after.bytes ++ cut) ≡ length out.bytes + count * width =
    length-append after.bytes cut ∙ ap (λ n. length after.bytes + n) (frames_within info bytes) ∙ ap (λ xs. length xs + count * width) begun.bytes in
    record {
      as_far = same_progress begun.segment
          (ap (λ n. first_frame info given.segment + n / width) size
          ∙ ap (λ n. first_frame info given.segment + n) (more_frames width (length out.bytes) count (some_width info))
          ∙ sym (add_assoc (first_frame info given.segment) (length out.bytes / width) count)
          ∙ ap (λ (q : Progress). q.next + count) at)
          (ap (λ xs. drop (length (after.bytes ++ cut)) xs) (sym whole) ∙ drop_at (after.bytes ++ cut) (drop (count * width) bytes) (length (after.bytes ++ cut)) refl)
          (ends info p.next count p.reached some);
      bytes = record {
        whole = whole;
        frames = ap (λ n. n / width * width) size ∙ still_whole width (length out.bytes) count (some_width info) s.frames ∙ sym size;
        unopened = λ e. absurd (cc);
      };
    }
  where
    add_assoc : (a b c : ℕ) → (a + b) + c ≡ a + (b + c)
    add_assoc a b c = omega arith

    ends : (info : Info) (first count reached : ℕ) → (count == 0) ≡ false
        → frame_time info first + (frame_time info (first + count) - frame_time info first) ≡ (if count == 0 then reached else frame_time info (first + count))
    ends info first count reached some =
        let grows = later info first count in
        let e : frame_time info first + (frame_time info (first + count) - frame_time info first) ≡ frame_time info (first + count) = omega arith in
        e ∙ sym (ap (λ b. if b then reached else frame_time info (first + count)) some)

-- where an answer is no fault
chosen : (b : Bool) (ys : List Item) (fault : Fault) → IsOk (if b then Ok ys else Err fault) → answered (if b then Ok ys else Err fault) ≡ ys
chosen true ys fault ok = refl
chosen false ys fault ok = absurd (cc)

went_buffer : (info : Info) (p : Progress) (given out : Seen) (b : Buffer)
    → progress_by info given out ≡ p → Split (frame_width info) given out p.held p.opened → IsOk (parse_answer info p (Buf b))
    → Went info p (Buf b) (seen_one given (Buf b)) (seen_all out (answered (parse_answer info p (Buf b))))
went_buffer info p given out b at s ok = go (count == 0) refl ok
  where
    bytes : List ℕ
    bytes = p.held ++ b.body

    count : ℕ
    count = length bytes / frame_width info

    opening_is : Begun out (seen_all out (beginning info p))
    opening_is = begun info out p.opened (ap (λ (q : Progress). q.opened) at) (none_out s)

    go : (none : Bool) → (count == 0) ≡ none
        → IsOk (if none then Ok (beginning info p) else in_time info p (p.next + count) (beginning info p ++ Buf (frames_buffer info p.next count (take (count * frame_width info) bytes)) ∷ []))
        → Went info p (Buf b) (seen_one given (Buf b)) (seen_all out (answered (if none then Ok (beginning info p) else in_time info p (p.next + count) (beginning info p ++ Buf (frames_buffer info p.next count (take (count * frame_width info) bytes)) ∷ []))))
    go true e ok = went_none info p given out (seen_all out (beginning info p)) b (eqb-true count 0 e) at s opening_is
    go false e ok =
        rw (chosen (nat_lt (frame_time info (p.next + count)) LIMIT) (beginning info p ++ Buf (frames_buffer info p.next count (take (count * frame_width info) bytes)) ∷ []) (TooLong p.reached (LIMIT - p.reached)) ok)
        (rw (seen_more out (beginning info p) (Buf (frames_buffer info p.next count (take (count * frame_width info) bytes)) ∷ []))
        (went_frames info p given out (seen_all out (beginning info p)) b e at s opening_is))

-- an item without bytes
kept : (info : Info) (p : Progress) (given out : Seen) (more : List Item)
    → progress_by info given out ≡ p → Split (frame_width info) given out p.held p.opened
    → (xs ys : List ℕ) → xs ≡ given.bytes → ys ≡ out.bytes
    → (progress_by info (record { bytes = xs; segment = given.segment; buffer = more }) (record { bytes = ys; segment = out.segment; buffer = out.buffer }) ≡ p)
    × Split (frame_width info) (record { bytes = xs; segment = given.segment; buffer = more }) (record { bytes = ys; segment = out.segment; buffer = out.buffer }) p.held p.opened
kept info p given out more at s xs ys ex ey =
    (rw (ex, ey) at, record { whole = rw (ex, ey) s.whole; frames = rw ey s.frames; unopened = λ e. ex ∙ s.unopened e })

no_frames : (width : ℕ) → 0 / width ≡ 0
no_frames width = zero-div width

went_segment : (info : Info) (p : Progress) (given out : Seen) (s : Segment)
    → progress_by info given out ≡ p
    → Went info p (Ev (NewSegment s)) (seen_one given (Ev (NewSegment s))) (seen_all out (opening info (frame_time info (frame_at (frame_width info) s.start s.format))))
went_segment info p given out s at = record {
  as_far = same_progress refl (ap (λ n. frame_at (frame_width info) s.start s.format + n) (no_frames (frame_width info)) ∙ plus_none (frame_at (frame_width info) s.start s.format)) refl (ap (λ (q : Progress). q.reached) at);
  bytes = record { whole = refl; frames = ap (λ n. n * frame_width info) (no_frames (frame_width info)) ∙ no_bytes (frame_width info); unopened = λ e. absurd (cc) };
}
  where
    plus_none : (n : ℕ) → n + 0 ≡ n
    plus_none n = omega arith

went_by : (info : Info) (p : Progress) (x : Item) (given out : Seen)
    → (progress_by info given out ≡ progress_behind info p x) × Split (frame_width info) given out (progress_behind info p x).held (progress_behind info p x).opened → Went info p x given out
went_by info p x given out w = record { as_far = w.0; bytes = w.1 }

-- an item that is taken
pub went : (info : Info) (p : Progress) (given out : Seen) (x : Item) → is_flush_stop x ≡ false
    → progress_by info given out ≡ p → Split (frame_width info) given out p.held p.opened → IsOk (parse_answer info p x)
    → Went info p x (seen_one given x) (seen_all out (answered (parse_answer info p x)))
went info p given out (Buf b) plain at s ok = went_buffer info p given out b at s ok
went info p given out (Ev (NewSegment segment)) plain at s ok =
    rw (chosen (nat_lt (frame_time info (frame_at (frame_width info) segment.start segment.format)) LIMIT) (opening info (frame_time info (frame_at (frame_width info) segment.start segment.format))) (TooLong p.reached (LIMIT - p.reached)) ok)
    (went_segment info p given out segment at)
went info p given out (Ev (NewCaps caps)) plain at s ok = went_by info p (Ev (NewCaps caps)) _ _ (kept info p given out given.buffer at s (given.bytes ++ []) out.bytes (append-nil given.bytes) refl)
went info p given out (Ev (StreamStart id)) plain at s ok = went_by info p (Ev (StreamStart id)) _ _ (kept info p given out given.buffer at s (given.bytes ++ []) (out.bytes ++ []) (append-nil given.bytes) (append-nil out.bytes))
went info p given out (Ev (Tag title)) plain at s ok = went_by info p (Ev (Tag title)) _ _ (kept info p given out given.buffer at s (given.bytes ++ []) (out.bytes ++ []) (append-nil given.bytes) (append-nil out.bytes))
went info p given out (Ev (Gap pts duration)) plain at s ok = went_by info p (Ev (Gap pts duration)) _ _ (kept info p given out given.buffer at s (given.bytes ++ []) (out.bytes ++ []) (append-nil given.bytes) (append-nil out.bytes))
went info p given out (Ev Eos) plain at s ok = went_by info p (Ev Eos) _ _ (kept info p given out given.buffer at s (given.bytes ++ []) (out.bytes ++ []) (append-nil given.bytes) (append-nil out.bytes))
went info p given out (Ev (FlushStop number)) plain at s ok = absurd (cc)

-- a section that begins anew
abbrev pub nothing_seen : Seen
nothing_seen = record { bytes = []; segment = []; buffer = [] }

pub begins_anew : (info : Info) → (progress_by info nothing_seen nothing_seen ≡ record { opened = false; next = 0; held = []; reached = 0 }) × Split (frame_width info) nothing_seen nothing_seen [] false
begins_anew info = (ap (λ n. progress_at false (0 + n) [] 0) (no_frames (frame_width info)), record { whole = refl; frames = ap (λ n. n * frame_width info) (no_frames (frame_width info)) ∙ no_bytes (frame_width info); unopened = λ e. refl })
