-- How far the rule of an element that cuts raw audio is behind one more item.
use Rattle.std.proofs.Common.{◌≡◌, ◌≤◌, ◌<◌, zero, suc, ℕ, ◌+◌, ◌*◌, ◌/◌, Bool, true, false, if◌then◌else◌, List, [], ◌∷◌, ◌++◌, length, take, drop, Option, Some, None, refl, sym, ap, subst, ◌∙◌, append_assoc, append-nil, arith, Result, Ok, Err, nat_lt}
use Rattle.std.specs.Prelude.{◌==◌, ◌%◌, filter}
use Rattle.std.proofs.lemmas.List.{drop_at, take-append-drop, length-take-le, length-drop, drop-drop}
use Rattle.std.proofs.lemmas.Bool.{eqb-true}
use Rattle.std.proofs.Math.Nat.{div-mul-le_self, zero-div, add-mul-div_right}
use Rattle.gst_time.specs.declared.time.TheConstants.{LIMIT}
use Rattle.gst_caps.specs.Accepts.{accepts}
use Rattle.flow_model.specs.declared.fault.StreamKind.TheVariants.{SplitFrame}
use Rattle.flow_model.specs.Item.{Item, Buf, Ev, Buffer, StreamStart, NewCaps, NewSegment, Tag, Gap, FlushStop, Eos, Segment, is_flush_stop, is_buffer}
use Rattle.flow_model.specs.Rule.{Fault, NotNegotiated, BadStream, TooLong, not_eos}
use Rattle.flow_model.specs.Owed.{answered}
use Rattle.audio_info.specs.Templates.{raw_template}
use Rattle.el_parse.specs.Streams.{Stream, stream_of, frames_in}
use Rattle.el_parse.specs.Splits.{Cutting, timed, ahead, pieces, pts_with, buffer_answer, rest_by, rest, split_answer, reached_by, rested, size_of, cut_behind, cutting_behind}
use Rattle.el_parse.proofs.Cutting.{timed_ok, both_ok}
use Rattle.el_parse.proofs.Views.{View, view_one, view_all, view_more}
use Rattle.flow_model.proofs.Items.{chosen}
use Rattle.flow_model.specs.Looking.{end_of}

-- by what is seen of the items that were given, and of those that were put out
abbrev pub cutting_by : View → View → Cutting
cutting_by given out = record {
  stream = given.stream;
  begun = given.begun;
  pts = given.pts;
  next = out.frames;
  held = drop (length out.bytes) given.bytes;
  got = given.got;
  reached = end_of out.buffer;
}

-- what was put out and what waits are what was given, under the same CAPS
pub record Kept (given out : View) (held : List ℕ) : Type 0 where
  pub whole : out.bytes ++ held ≡ given.bytes
  pub same_stream : out.stream ≡ given.stream
  pub unknown : given.stream ≡ None → held ≡ []

-- as far as it is to be behind an item
pub record Moved (q : Cutting) (given out : View) : Type 0 where
  pub as_far : cutting_by given out ≡ q
  pub kept : Kept given out q.held

abbrev cutting_at : Option Stream → Bool → Option ℕ → ℕ → List ℕ → ℕ → ℕ → Cutting
cutting_at stream begun pts next held got reached =
    record { stream = stream; begun = begun; pts = pts; next = next; held = held; got = got; reached = reached }

same_cutting : {s s' : Option Stream} {b b' : Bool} {p p' : Option ℕ} {n n' : ℕ} {h h' : List ℕ} {g g' : ℕ} {r r' : ℕ}
    → s ≡ s' → b ≡ b' → p ≡ p' → n ≡ n' → h ≡ h' → g ≡ g' → r ≡ r' → cutting_at s b p n h g r ≡ cutting_at s' b' p' n' h' g' r'
same_cutting a b c d e f g = cc

-- what is left behind what was put out
left_of : (out held given : List ℕ) → out ++ held ≡ given → drop (length out) given ≡ held
left_of out held given whole = ap (λ bytes. drop (length out) bytes) (sym whole) ∙ drop_at out held (length out) refl

-- buffers that are put out, of the bytes at the front of those that wait
pub record Put (s : Stream) (ys : List Item) (bytes left : List ℕ) (count : ℕ) (out after : View) : Type 0 where
  pub whole : after.bytes ++ left ≡ out.bytes ++ bytes
  pub frames : after.frames ≡ out.frames + count
  pub stream : after.stream ≡ out.stream
  pub ends : end_of after.buffer ≡ reached_by (end_of out.buffer) ys

put_one : (s : Stream) (pts : Option ℕ) (reached first count : ℕ) (body left : List ℕ) (ys : List Item) (out : View) → out.stream ≡ Some s
    → timed s pts reached first count body ≡ Ok ys → Put s ys (body ++ left) left (length body / s.width) out (view_all out ys)
put_one s pts reached first count body left ys out known e =
    let same = timed_ok s pts reached first count body ys e in
    subst (λ zs. Put s zs (body ++ left) left (length body / s.width) out (view_all out zs)) same
    (record {
      whole = append_assoc out.bytes body left;
      frames = ap (λ o. out.frames + frames_in o body) known;
      stream = refl;
      ends = refl;
    })

put_both : (s : Stream) (xs ys : List Item) (bytes middle left : List ℕ) (m n : ℕ) (out : View)
    → Put s xs bytes middle m out (view_all out xs) → Put s ys middle left n (view_all out xs) (view_all (view_all out xs) ys)
    → Put s (xs ++ ys) bytes left (m + n) out (view_all out (xs ++ ys))
put_both s xs ys bytes middle left m n out a b =
    rw (view_more out xs ys)
    (record {
      whole = b.whole ∙ a.whole;
      frames = (let f = a.frames in let g = b.frames in omega (arith, f, g));
      stream = b.stream ∙ a.stream;
      ends = b.ends ∙ ap (λ r. reached_by r ys) a.ends ∙ reached_more (end_of out.buffer) xs ys;
    })
  where
    reached_more : (r : ℕ) (xs ys : List Item) → reached_by (reached_by r xs) ys ≡ reached_by r (xs ++ ys)
    reached_more r [] ys = refl
    reached_more r (x ∷ xs) ys = reached_more (if is_buffer x then end_of (x ∷ []) else r) xs ys

more_left : (size n : ℕ) (bytes : List ℕ) → suc n * size ≤ length bytes → n * size ≤ length (drop size bytes)
more_left size n bytes h =
    let l = length-drop size bytes in
    let spread : suc n * size ≡ size + n * size = grind arith in
    omega (arith, l, spread)

first_fits : (size n : ℕ) (bytes : List ℕ) → suc n * size ≤ length bytes → size ≤ length bytes
first_fits size n bytes h =
    let spread : suc n * size ≡ size + n * size = grind arith in
    omega (arith, spread)

further : (size n : ℕ) (bytes : List ℕ) → drop (suc n * size) bytes ≡ drop (n * size) (drop size bytes)
further size n bytes = ap (λ m. drop m bytes) spread ∙ sym (drop-drop (n * size) size bytes)
  where
    spread : suc n * size ≡ size + n * size
    spread = grind arith

one_more : (n frames : ℕ) → frames + n * frames ≡ suc n * frames
one_more n frames = grind arith

count_of : (width frames : ℕ) (bytes : List ℕ) → 0 < width → frames * width ≤ length bytes → length (take (frames * width) bytes) / width ≡ frames
count_of width frames bytes some enough =
    ap (λ m. m / width) (length-take-le (frames * width) bytes enough) ∙ quotient
  where
    zero_plus : (m : ℕ) → 0 + m ≡ m
    zero_plus m = omega arith

    quotient : frames * width / width ≡ frames
    quotient =
        ap (λ m. m / width) (sym (zero_plus (frames * width))) ∙ add-mul-div_right 0 frames some ∙ ap (λ m. m + frames) (zero-div width) ∙ zero_plus frames

-- whole buffers that are put out
put_pieces : (s : Stream) (pts : Option ℕ) (reached frames : ℕ) → 0 < s.width → (n first : ℕ) (bytes : List ℕ) (ys : List Item) (out : View) → out.stream ≡ Some s
    → n * (frames * s.width) ≤ length bytes → pieces s pts reached frames first n bytes ≡ Ok ys
    → Put s ys bytes (drop (n * (frames * s.width)) bytes) (n * frames) out (view_all out ys)
put_pieces s pts reached frames some zero first bytes ys out known enough e =
    subst (λ zs. Put s zs bytes (drop (0 * (frames * s.width)) bytes) (0 * frames) out (view_all out zs)) (ap answered e)
    (record { whole = ap (λ n. out.bytes ++ drop n bytes) none; frames = (let z : 0 * frames ≡ 0 = omega arith in omega (arith, z)); stream = refl; ends = refl })
  where
    none : 0 * (frames * s.width) ≡ 0
    none = omega arith
put_pieces s pts reached frames some (suc n) first bytes ys out known enough e =
    let size = frames * s.width in
    let b = both_ok (timed s pts reached first frames (take size bytes)) (pieces s pts reached frames (first + frames) n (drop size bytes)) ys e in
    let one = put_one s pts reached first frames (take size bytes) (drop size bytes) b.first out known b.first_is in
    let others = put_pieces s pts reached frames some n (first + frames) (drop size bytes) b.second (view_all out b.first) (one.stream ∙ known) (more_left size n bytes enough) b.second_is in
    let all = put_both s b.first b.second (take size bytes ++ drop size bytes) (drop size bytes) (drop (n * size) (drop size bytes)) (length (take size bytes) / s.width) (n * frames) out one others in
    subst (λ zs. Put s zs bytes (drop (suc n * size) bytes) (suc n * frames) out (view_all out zs)) b.all
    (record {
      whole = ap (λ zs. (view_all out (b.first ++ b.second)).bytes ++ zs) (further size n bytes) ∙ all.whole ∙ ap (λ zs. out.bytes ++ zs) (take-append-drop size bytes);
      frames = all.frames ∙ ap (λ m. out.frames + m) (ap (λ m. m + n * frames) (count_of s.width frames bytes some (first_fits size n bytes enough)) ∙ one_more n frames);
      stream = all.stream;
      ends = all.ends;
    })

-- nothing has no frames
none_in : (t : Option Stream) → frames_in t [] ≡ 0
none_in None = refl
none_in (Some s) = zero-div s.width

empty : (xs : List ℕ) → length xs ≡ 0 → xs ≡ []
empty [] e = refl
empty (x ∷ xs) e = absurd (cc)

-- what waits is put out
record Rest (p : Cutting) (ys : List Item) (out after : View) : Type 0 where
  bytes : after.bytes ≡ out.bytes ++ p.held
  frames : after.frames ≡ out.frames + frames_in p.stream p.held
  stream : after.stream ≡ out.stream
  ends : end_of after.buffer ≡ reached_by (end_of out.buffer) ys

rest_nothing : (p : Cutting) (ys : List Item) (out : View) → p.held ≡ [] → [] ≡ ys → Rest p ys out (view_all out ys)
rest_nothing p ys out none e =
    subst (λ zs. Rest p zs out (view_all out zs)) e
    (record {
      bytes = sym (append-nil out.bytes) ∙ ap (λ zs. out.bytes ++ zs) (sym none);
      frames = plus_none out.frames ∙ ap (λ n. out.frames + n) (sym (none_in p.stream) ∙ ap (frames_in p.stream) (sym none));
      stream = refl;
      ends = refl;
    })
  where
    plus_none : (n : ℕ) → n ≡ n + 0
    plus_none n = omega arith

rest_put : (p : Cutting) (ys : List Item) (out : View) → out.stream ≡ p.stream → (p.stream ≡ None → p.held ≡ []) → rest p ≡ Ok ys → Rest p ys out (view_all out ys)
rest_put p ys out same unknown e = go p.stream refl e
  where
    go : (t : Option Stream) → p.stream ≡ t → rest_by p t ≡ Ok ys → Rest p ys out (view_all out ys)
    go None is e = rest_nothing p ys out (unknown is) (ap answered e)
    go (Some s) is e = waiting (length p.held == 0) refl e
      where
        waiting : (b : Bool) → (length p.held == 0) ≡ b → (if b then Ok [] else timed s p.pts p.reached p.next (length p.held / s.width) p.held) ≡ Ok ys → Rest p ys out (view_all out ys)
        waiting true none e = rest_nothing p ys out (empty p.held (eqb-true (length p.held) 0 none)) (ap answered e)
        waiting false some e =
            let put = put_one s p.pts p.reached p.next (length p.held / s.width) p.held [] ys out (same ∙ is) e in
            record {
              bytes = sym (append-nil (view_all out ys).bytes) ∙ put.whole ∙ ap (λ zs. out.bytes ++ zs) (append-nil p.held);
              frames = put.frames ∙ ap (λ t. out.frames + frames_in t p.held) (sym is);
              stream = put.stream;
              ends = put.ends;
            }

ok_items : (r : Result (List Item) Fault) (ys : List Item) → r ≡ Ok ys → answered r ≡ ys
ok_items r ys e = ap answered e

-- behind the rest
pub rest_moved : (p : Cutting) (given out : View) (ys : List Item) → cutting_by given out ≡ p → Kept given out p.held → rest p ≡ Ok ys → Moved (rested p) given (view_all out ys)
rest_moved p given out ys at kept e =
    let known : given.stream ≡ p.stream = ap (λ (q : Cutting). q.stream) at in
    let put = rest_put p ys out (kept.same_stream ∙ known) (λ none. kept.unknown (known ∙ none)) e in
    let whole : (view_all out ys).bytes ++ [] ≡ given.bytes = append-nil (view_all out ys).bytes ∙ put.bytes ∙ kept.whole in
    record {
      as_far = same_cutting known (ap (λ (q : Cutting). q.begun) at) (ap (λ (q : Cutting). q.pts) at)
          (put.frames ∙ ap (λ (q : Cutting). q.next + frames_in p.stream p.held) at)
          (left_of (view_all out ys).bytes [] given.bytes whole)
          (ap (λ (q : Cutting). q.got) at)
          (put.ends ∙ ap (λ (q : Cutting). reached_by q.reached ys) at ∙ ap (λ zs. reached_by p.reached zs) (sym (ok_items (rest p) ys e)));
      kept = record { whole = whole; same_stream = put.stream ∙ kept.same_stream; unknown = λ none. refl };
    }

-- an event that begins no part, and behind which the stream is this one
still : (q : Cutting) (given out given' out' : View) (t : Option Stream) → Moved q given out
    → given'.stream ≡ t → given'.bytes ≡ given.bytes ++ [] → given'.begun ≡ given.begun → given'.pts ≡ given.pts → given'.got ≡ given.got + 0
    → out'.stream ≡ t → out'.bytes ≡ out.bytes ++ [] → out'.frames ≡ out.frames + frames_in out.stream [] → out'.buffer ≡ out.buffer
    → (t ≡ None → q.held ≡ []) → Moved (record q { stream = t }) given' out'
still q given out given' out' t moved gs gb gn gp gg os ob of or unknown =
    let at = moved.as_far in
    let whole : out'.bytes ++ q.held ≡ given'.bytes =
    ap (λ zs. zs ++ q.held) (ob ∙ append-nil out.bytes) ∙ moved.kept.whole ∙ sym (append-nil given.bytes) ∙ sym gb in
    record {
      as_far = same_cutting gs (gn ∙ ap (λ (c : Cutting). c.begun) at) (gp ∙ ap (λ (c : Cutting). c.pts) at)
          (of ∙ ap (λ n. out.frames + n) (none_in out.stream) ∙ plus_none out.frames ∙ ap (λ (c : Cutting). c.next) at)
          (left_of out'.bytes q.held given'.bytes whole)
          (gg ∙ plus_none given.got ∙ ap (λ (c : Cutting). c.got) at)
          (ap end_of or ∙ ap (λ (c : Cutting). c.reached) at);
      kept = record { whole = whole; same_stream = os ∙ sym gs; unknown = λ none. unknown (sym gs ∙ none) };
    }
  where
    plus_none : (n : ℕ) → n + 0 ≡ n
    plus_none n = omega arith

-- an event that passes, and leaves the stream
passed : (q : Cutting) (given out given' out' : View) → Moved q given out
    → given'.stream ≡ given.stream → given'.bytes ≡ given.bytes ++ [] → given'.begun ≡ given.begun → given'.pts ≡ given.pts → given'.got ≡ given.got + 0
    → out'.stream ≡ out.stream → out'.bytes ≡ out.bytes ++ [] → out'.frames ≡ out.frames + frames_in out.stream [] → out'.buffer ≡ out.buffer
    → Moved q given' out'
passed q given out given' out' moved gs gb gn gp gg os ob of or =
    subst (λ t. Moved (record q { stream = t }) given' out') (ap (λ (c : Cutting). c.stream) moved.as_far)
    (still q given out given' out' given.stream moved gs gb gn gp gg (os ∙ moved.kept.same_stream) ob of or moved.kept.unknown)

-- a SEGMENT, where nothing waits
segment_moved : (q : Cutting) (given out : View) (segment : Segment) → Moved q given out → q.held ≡ []
    → Moved (record q { begun = false; pts = None; next = 0 }) (view_one given (Ev (NewSegment segment))) (view_one out (Ev (NewSegment segment)))
segment_moved q given out segment moved none =
    let at = moved.as_far in
    record {
      as_far = same_cutting (ap (λ (c : Cutting). c.stream) at) refl refl refl (sym none) (plus_none given.got ∙ ap (λ (c : Cutting). c.got) at) (ap (λ (c : Cutting). c.reached) at);
      kept = record { whole = none; same_stream = moved.kept.same_stream; unknown = moved.kept.unknown };
    }
  where
    plus_none : (n : ℕ) → n + 0 ≡ n
    plus_none n = omega arith

-- where an element stands behind a flush
abbrev pub flushed_cutting : Cutting → Cutting
flushed_cutting q = record { stream = q.stream; begun = false; pts = None; next = 0; held = []; got = 0; reached = 0 }

pub flush_moved : (q : Cutting) (given out : View) (number : ℕ) → Moved q given out
    → Moved (flushed_cutting q) (view_one given (Ev (FlushStop number))) (view_one out (Ev (FlushStop number)))
flush_moved q given out number moved = record {
  as_far = same_cutting (ap (λ (c : Cutting). c.stream) moved.as_far) refl refl refl refl refl refl;
  kept = record { whole = refl; same_stream = moved.kept.same_stream; unknown = λ none. refl };
}

-- a buffer with which buffers are whole
cut_moved : (frames : ℕ) (p : Cutting) (given out : View) (b : Buffer) (s : Stream) → p.stream ≡ Some s → 0 < s.width → Moved p given out
    → (ys : List Item) → split_answer frames p (Buf b) ≡ Ok ys
    → pieces s (pts_with p b) p.reached frames p.next (length (p.held ++ b.body) / (frames * s.width)) (p.held ++ b.body) ≡ Ok ys
    → Moved (cut_behind frames p b (frames * s.width) (length (p.held ++ b.body) / (frames * s.width))) (view_one given (Buf b)) (view_all out ys)
cut_moved frames p given out b s known some moved ys answer e =
    let at = moved.as_far in
    let bytes = p.held ++ b.body in
    let size = frames * s.width in
    let count = length bytes / (frames * s.width) in
    let stream : given.stream ≡ p.stream = ap (λ (q : Cutting). q.stream) at in
    let put = put_pieces s (pts_with p b) p.reached frames some count p.next bytes ys out (moved.kept.same_stream ∙ stream ∙ known) (div-mul-le_self (length bytes) size) e in
    let given_all : out.bytes ++ bytes ≡ given.bytes ++ b.body = sym (append_assoc out.bytes p.held b.body) ∙ ap (λ zs. zs ++ b.body) moved.kept.whole in
    let whole : (view_all out ys).bytes ++ drop (count * size) bytes ≡ given.bytes ++ b.body = put.whole ∙ given_all in
    record {
      as_far = same_cutting stream refl (ap (λ (q : Cutting). pts_with q b) at)
          (put.frames ∙ ap (λ (q : Cutting). q.next + count * frames) at)
          (left_of (view_all out ys).bytes (drop (count * size) bytes) (given.bytes ++ b.body) whole)
          (ap (λ (q : Cutting). q.got + length b.body) at)
          (put.ends ∙ ap (λ (q : Cutting). reached_by q.reached ys) at ∙ ap (λ zs. reached_by p.reached zs) (sym (ok_items (split_answer frames p (Buf b)) ys answer)));
      kept = record { whole = whole; same_stream = put.stream ∙ moved.kept.same_stream; unknown = λ none. absurd (unlike (sym (stream ∙ known) ∙ none)) };
    }
  where
    unlike : Some s ≡ None → ⊥
    unlike e = absurd (cc)

buffer_moved : (frames : ℕ) (p : Cutting) (given out : View) (b : Buffer) → ((s : Stream) → p.stream ≡ Some s → 0 < s.width) → Moved p given out
    → (ys : List Item) → split_answer frames p (Buf b) ≡ Ok ys → Moved (cutting_behind frames p (Buf b)) (view_one given (Buf b)) (view_all out ys)
buffer_moved frames p given out b some moved ys answer = go p.stream refl answer
  where
    go : (t : Option Stream) → p.stream ≡ t → buffer_answer frames p b t ≡ Ok ys → Moved (cutting_behind frames p (Buf b)) (view_one given (Buf b)) (view_all out ys)
    go None is e = absurd (cc)
    go (Some s) is e =
        let inner = chosen (length b.body % s.width == 0) (if nat_lt (p.got + length b.body) LIMIT then pieces s (pts_with p b) p.reached frames p.next (length (p.held ++ b.body) / (frames * s.width)) (p.held ++ b.body) else Err (TooLong p.got (length b.body))) (BadStream (p.got + length b.body) SplitFrame) ys e in
        let cut = chosen (nat_lt (p.got + length b.body) LIMIT) (pieces s (pts_with p b) p.reached frames p.next (length (p.held ++ b.body) / (frames * s.width)) (p.held ++ b.body)) (TooLong p.got (length b.body)) ys inner in
        subst (λ t. Moved (cut_behind frames p b (size_of frames t) (length (p.held ++ b.body) / size_of frames t)) (view_one given (Buf b)) (view_all out ys)) (sym is)
        (cut_moved frames p given out b s is (some s is) moved ys answer cut)

-- the rest, and an event behind it
behind_rest : (p q : Cutting) (given given' out : View) (x : Item) (ys : List Item) → Moved p given out → ahead (rest p) (Ok (x ∷ [])) ≡ Ok ys
    → ((after : View) → Moved (rested p) given after → Moved q given' (view_one after x)) → Moved q given' (view_all out ys)
behind_rest p q given given' out x ys moved e step =
    let b = both_ok (rest p) (Ok (x ∷ [])) ys e in
    let after = rest_moved p given out b.first moved.as_far moved.kept b.first_is in
    let last : x ∷ [] ≡ b.second = ap answered b.second_is in
    subst (λ zs. Moved q given' (view_all out zs)) b.all
    (subst (λ zs. Moved q given' (view_all out (b.first ++ zs))) last
    (rw (view_more out b.first (x ∷ [])) (step (view_all out b.first) after)))

-- an item that is taken
pub went : (frames : ℕ) (p : Cutting) (given out : View) (x : Item) → is_flush_stop x ≡ false → ((s : Stream) → p.stream ≡ Some s → 0 < s.width) → Moved p given out
    → (ys : List Item) → split_answer frames p x ≡ Ok ys → Moved (cutting_behind frames p x) (view_one given x) (view_all out ys)
went frames p given out (Buf b) plain some moved ys e = buffer_moved frames p given out b some moved ys e
went frames p given out (Ev (NewCaps caps)) plain some moved ys e =
    behind_rest p (record (rested p) { stream = Some (stream_of caps) }) given (view_one given (Ev (NewCaps caps))) out (Ev (NewCaps caps)) ys moved
    (chosen (accepts raw_template caps) (ahead (rest p) (Ok (Ev (NewCaps caps) ∷ []))) (NotNegotiated (Some caps) raw_template) ys e)
    (λ after m. still (rested p) given after (view_one given (Ev (NewCaps caps))) (view_one after (Ev (NewCaps caps))) (Some (stream_of caps)) m refl refl refl refl refl refl refl refl refl (λ none. refl))
went frames p given out (Ev (NewSegment segment)) plain some moved ys e =
    behind_rest p (record (rested p) { begun = false; pts = None; next = 0 }) given (view_one given (Ev (NewSegment segment))) out (Ev (NewSegment segment)) ys moved e
    (λ after m. segment_moved (rested p) given after segment m refl)
went frames p given out (Ev Eos) plain some moved ys e =
    behind_rest p (rested p) given (view_one given (Ev Eos)) out (Ev Eos) ys moved e
    (λ after m. passed (rested p) given after (view_one given (Ev Eos)) (view_one after (Ev Eos)) m refl refl refl refl refl refl refl refl refl)
went frames p given out (Ev (StreamStart id)) plain some moved ys e =
    subst (λ zs. Moved p (view_one given (Ev (StreamStart id))) (view_all out zs)) (ap answered e)
    (passed p given out (view_one given (Ev (StreamStart id))) (view_one out (Ev (StreamStart id))) moved refl refl refl refl refl refl refl refl refl)
went frames p given out (Ev (Tag title)) plain some moved ys e =
    subst (λ zs. Moved p (view_one given (Ev (Tag title))) (view_all out zs)) (ap answered e)
    (passed p given out (view_one given (Ev (Tag title))) (view_one out (Ev (Tag title))) moved refl refl refl refl refl refl refl refl refl)
went frames p given out (Ev (Gap pts duration)) plain some moved ys e =
    subst (λ zs. Moved p (view_one given (Ev (Gap pts duration))) (view_all out zs)) (ap answered e)
    (passed p given out (view_one given (Ev (Gap pts duration))) (view_one out (Ev (Gap pts duration))) moved refl refl refl refl refl refl refl refl refl)
went frames p given out (Ev (FlushStop number)) plain some moved ys e = absurd (cc)

-- no EOS is among what waits
pub rest_alone : (p : Cutting) (ys : List Item) → rest p ≡ Ok ys → filter not_eos (ys ++ Ev Eos ∷ []) ≡ ys
rest_alone p ys e = go p.stream e
  where
    alone : List Item → Type 0
    alone zs = filter not_eos (zs ++ Ev Eos ∷ []) ≡ zs

    go : (t : Option Stream) → rest_by p t ≡ Ok ys → filter not_eos (ys ++ Ev Eos ∷ []) ≡ ys
    go None e = subst alone (ap answered e) refl
    go (Some s) e = waiting (length p.held == 0) e
      where
        waiting : (b : Bool) → (if b then Ok [] else timed s p.pts p.reached p.next (length p.held / s.width) p.held) ≡ Ok ys → filter not_eos (ys ++ Ev Eos ∷ []) ≡ ys
        waiting true e = subst alone (ap answered e) refl
        waiting false e = subst alone (timed_ok s p.pts p.reached p.next (length p.held / s.width) p.held ys e) refl
