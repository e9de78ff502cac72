-- How bytes that end too early may go on to a head.
use Rattle.std.proofs.Common.{◌≡◌, ℕ, suc, ◌+◌, ◌-◌, ◌%◌, ◌<◌, ◌≤◌, inl, inr, Bool, true, false, Option, Some, None, List, [], ◌∷◌, ◌++◌, length, take, drop, replicate, get_or, codes, refl, sym, ap, subst, ◌∙◌, arith, append_assoc}
use Rattle.std.proofs.lemmas.Bool.{cases_lt}
use Rattle.std.proofs.lemmas.List.{get_or-append_right, get_or-drop, get_or-take, take-append-drop, drop-append-le, drop-drop, take_at, drop_at, drop_all, length-drop, length-append, length-replicate}
use Rattle.std.proofs.lemmas.Slice.Eq.{bytes_eq-Decides}
use Rattle.wav_format.specs.declared.format.SampleFormat.{SampleFormat}
use Rattle.wav_format.specs.declared.head.Head.{Head}
use Rattle.wav_format.specs.Chunks.{EndsHead, IsPassed, Leads, Spot, begins, spot_behind, body_at, body_size, chunk_length, data_size, format_after}
use Rattle.wav_format.specs.Format.{AreBytes, IsFormat}
use Rattle.wav_format.proofs.Bodies.{AllBelow, bytes-append, bytes_from, bytes-drop, bytes-zeros}
use Rattle.wav_format.proofs.Longer.{begins_long, begins_more, length_more, size_more}

-- ---- further chunks

abbrev pub some_body : List ℕ
some_body = 1 ∷ 0 ∷ 1 ∷ 0 ∷ 64 ∷ 31 ∷ 0 ∷ 0 ∷ 128 ∷ 62 ∷ 0 ∷ 0 ∷ 2 ∷ 0 ∷ 16 ∷ 0 ∷ []

abbrev pub last_chunks : List ℕ
last_chunks = 102 ∷ 109 ∷ 116 ∷ 32 ∷ 16 ∷ 0 ∷ 0 ∷ 0 ∷ (some_body ++ (100 ∷ 97 ∷ 116 ∷ 97 ∷ 0 ∷ 0 ∷ 0 ∷ 0 ∷ []))

pub some_format : (rest : List ℕ) → IsFormat (some_body ++ rest)
some_format rest = record {
  numbers = record {
    long = omega arith;
    extended = λ e. absurd (omega (arith, e));
    some_channel = omega arith;
    few_channels = omega arith;
    some_rate = omega arith;
    low_rate = omega arith;
    block = refl;
  };
  known = inl (refl, inr (inl refl));
}

-- s leads over some chunks to the head of `data`, and nothing follows
pub record Closes (limit : ℕ) (s : Spot) : Type 0 where
  pub chunks : ℕ
  pub end : Spot
  pub head : Head
  pub leads : Leads limit chunks s end
  pub ends : EndsHead head [] end

pub closes_over : (limit : ℕ) (s : Spot) → IsPassed limit s → Closes limit (spot_behind s) → Closes limit s
closes_over limit s p c = record { chunks = suc c.chunks; end = c.end; head = c.head; leads = (p, c.leads); ends = c.ends }

pub closes_last : (limit at : ℕ) (known : Option SampleFormat) → at + 32 ≤ limit → Closes limit (record { at = at; known = known; left = last_chunks })
closes_last limit at known room = record {
  chunks = 1;
  end = spot_behind (record { at = at; known = known; left = last_chunks });
  head = record { tag = 1; channels = 1; rate = 8000; bits = 16; start = at + 24 + 8; size = None };
  leads = (
    record {
      headed = omega arith;
      other = refl;
      room = omega arith;
      format = λ _. some_format [];
      whole = omega arith;
    },
    refl,
  );
  ends = record { headed = omega arith; named = refl; format = refl; start = refl; size = refl; leaves = refl };
}

-- a chunk of which the head is there goes on with the rest of a body
pub rest_of : List ℕ → List ℕ → List ℕ
rest_of left body = drop (length (drop 8 left)) body ++ (replicate (body_size left % 2) 0 ++ last_chunks)

module _ (limit at : ℕ) (known : Option SampleFormat) (left body : List ℕ) (long : 8 ≤ length left) (other : begins (codes "data") left ≡ false)
    (size : length body ≡ body_size left) (front : take (length (drop 8 left)) body ≡ drop 8 left) where
  behind_head : drop 8 (left ++ rest_of left body) ≡ (body ++ replicate (body_size left % 2) 0) ++ last_chunks
  unfolding rest_of
  behind_head =
      drop-append-le 8 left (rest_of left body) long
      ∙ sym (append_assoc (drop 8 left) (drop (length (drop 8 left)) body) (replicate (body_size left % 2) 0 ++ last_chunks))
      ∙ ap (λ xs. (xs ++ drop (length (drop 8 left)) body) ++ (replicate (body_size left % 2) 0 ++ last_chunks)) (sym front)
      ∙ ap (λ xs. xs ++ (replicate (body_size left % 2) 0 ++ last_chunks)) (take-append-drop (length (drop 8 left)) body)
      ∙ sym (append_assoc body (replicate (body_size left % 2) 0) last_chunks)

  body_there : body_at (left ++ rest_of left body) ≡ body
  body_there =
      ap (λ n. take n (drop 8 (left ++ rest_of left body))) (size_more left (rest_of left body) long)
      ∙ ap (take (body_size left)) (behind_head ∙ append_assoc body (replicate (body_size left % 2) 0) last_chunks)
      ∙ take_at body (replicate (body_size left % 2) 0 ++ last_chunks) (body_size left) size

  long_enough : length (left ++ rest_of left body) ≡ 8 + body_size left + body_size left % 2 + 32
  long_enough =
      let e = ap length behind_head in
      let parts = length-append (body ++ replicate (body_size left % 2) 0) last_chunks in
      let inner = length-append body (replicate (body_size left % 2) 0) in
      let zeros = length-replicate {A = ℕ} (body_size left % 2) 0 in
      let gone = length-drop 8 (left ++ rest_of left body) in
      let more = length-append left (rest_of left body) in
      omega (arith, e, parts, inner, zeros, gone, more, size)

  last_left : drop (chunk_length (left ++ rest_of left body)) (left ++ rest_of left body) ≡ last_chunks
  last_left =
      let whole = left ++ rest_of left body in
      let n = body_size left + body_size left % 2 in
      ap (λ k. drop k whole) (length_more left (rest_of left body) long ∙ (let e : 8 + body_size left + body_size left % 2 ≡ 8 + n = omega arith in e))
      ∙ sym (drop-drop n 8 whole)
      ∙ ap (drop n) behind_head
      ∙ drop_at (body ++ replicate (body_size left % 2) 0) last_chunks n (omega (arith, length-append body (replicate (body_size left % 2) 0), length-replicate {A = ℕ} (body_size left % 2) 0, size))

  pub closes_body : (begins (codes "fmt ") left ≡ true → IsFormat body) → at + chunk_length left + 32 ≤ limit → Closes limit (record { at = at; known = known; left = left ++ rest_of left body })
  closes_body format room =
      let s : Spot = record { at = at; known = known; left = left ++ rest_of left body } in
      let same = length_more left (rest_of left body) long in
      closes_over limit s (record {
        headed = omega (arith, long_enough);
        other = begins_more (codes "data") left (rest_of left body) (omega arith) ∙ other;
        room = omega (arith, same, room);
        format = λ e. subst IsFormat (sym body_there) (format (sym (begins_more (codes "fmt ") left (rest_of left body) (omega arith)) ∙ e));
        whole = omega (arith, long_enough, same);
      }) (subst (λ xs. Closes limit (record { at = at + chunk_length (left ++ rest_of left body); known = format_after s; left = xs })) (sym last_left)
      (closes_last limit (at + chunk_length (left ++ rest_of left body)) (format_after s) (omega (arith, same, room))))

pub bytes_last : AreBytes last_chunks
unfolding AllBelow
bytes_last = bytes_from last_chunks (omega arith, (omega arith, (omega arith, (omega arith, (omega arith, (omega arith, (omega arith, (omega arith, (omega arith, (omega arith, (omega arith, (omega arith, (omega arith, (omega arith, (omega arith, (omega arith, (omega arith, (omega arith, (omega arith, (omega arith, (omega arith, (omega arith, (omega arith, (omega arith, (omega arith, (omega arith, (omega arith, (omega arith, (omega arith, (omega arith, (omega arith, (omega arith, tt))))))))))))))))))))))))))))))))

pub rest_some : (left body : List ℕ) → 0 < length (rest_of left body)
unfolding rest_of
rest_some left body =
    let pad : List ℕ = replicate (body_size left % 2) 0 in
    omega (arith, length-append (drop (length (drop 8 left)) body) (pad ++ last_chunks), length-append pad last_chunks)

pub rest_bytes : (left body : List ℕ) → AreBytes body → AreBytes (rest_of left body)
unfolding rest_of
rest_bytes left body fine = bytes-append _ _ (bytes-drop (length (drop 8 left)) body fine) (bytes-append _ last_chunks (bytes-zeros (body_size left % 2)) bytes_last)

-- ---- a head of a chunk that is cut

false_of : (b : Bool) → (b ≡ true → ⊥) → b ≡ false
false_of true h = absurd (h refl)
false_of false h = refl

-- bytes that fill up the head of a chunk, so that its body is long
abbrev pub fill : List ℕ
fill = 0 ∷ 0 ∷ 0 ∷ 0 ∷ 0 ∷ 0 ∷ 0 ∷ 1 ∷ []

unfoldable pub headed : List ℕ → List ℕ
headed left = left ++ drop (length left) fill

module _ (left : List ℕ) (short : length left < 8) where
  pub headed_length : length (headed left) ≡ 8
  unfolding headed
  headed_length = omega (arith, length-append left (drop (length left) fill), length-drop (length left) fill)

  headed_at : (i : ℕ) → length left ≤ i → get_or (headed left) i 0 ≡ get_or fill i 0
  unfolding headed
  headed_at i le =
      get_or-append_right left (drop (length left) fill) (length left) i 0 refl le
      ∙ get_or-drop (length left) fill (i - length left) 0
      ∙ ap (λ j. get_or fill j 0) (omega arith)

  pub headed_size : 16777216 ≤ body_size (headed left)
  headed_size = let top = headed_at 7 (omega arith) in omega (arith, top)

  headed_other : begins (codes "data") left ≡ false → begins (codes "data") (headed left) ≡ false
  unfolding headed
  headed_other other =
      elim (cases_lt (length left) 4) [
        | inl lt ↦ false_of (begins (codes "data") (headed left)) (λ e.
            let same = (bytes_eq-Decides (take 4 (headed left)) (codes "data")).0 e in
            let zero_there = headed_at 3 (omega arith) in
            let there : get_or (headed left) 3 0 ≡ get_or (codes "data") 3 0 = sym (get_or-take 4 (headed left) 3 0 (omega arith)) ∙ ap (λ xs. get_or xs 3 0) same in
            omega (arith, there, zero_there))
        | inr le ↦ begins_more (codes "data") left (drop (length left) fill) le ∙ other
      ]

-- a long body
abbrev pub long_body : ℕ → List ℕ
long_body size = some_body ++ replicate (size - 16) 0

-- what goes on from the head of a chunk
pub closes_unnamed : (limit at : ℕ) (known : Option SampleFormat) (left : List ℕ) → length left < 8 → begins (codes "data") left ≡ false → at + chunk_length (headed left) + 32 ≤ limit
    → Closes limit (record { at = at; known = known; left = headed left ++ rest_of (headed left) (long_body (body_size (headed left))) })
closes_unnamed limit at known left short other room =
    let long = headed_length left short in
    let big = headed_size left short in
    let none : drop 8 (headed left) ≡ [] = drop_all 8 (headed left) (omega (arith, long)) in
    closes_body limit at known (headed left) (long_body (body_size (headed left))) (omega (arith, long)) (headed_other left short other)
    (omega (arith, big, length-append some_body (replicate (body_size (headed left) - 16) 0), length-replicate {A = ℕ} (body_size (headed left) - 16) 0))
    (rw none refl)
    (λ _. some_format (replicate (body_size (headed left) - 16) 0)) room

-- the head of `data` that is filled up
pub closes_named : (limit at : ℕ) (format : SampleFormat) (left : List ℕ) → length left < 8 → begins (codes "data") left ≡ true → Closes limit (record { at = at; known = Some format; left = headed left })
unfolding headed
closes_named limit at format left short named =
    let s : Spot = record { at = at; known = Some format; left = headed left } in
    let long = headed_length left short in
    let four : 4 ≤ length left = begins_long (codes "data") left named in
    record {
      chunks = 0;
      end = s;
      head = record { tag = format.tag; channels = format.channels; rate = format.rate; bits = format.bits; start = at + 8; size = data_size (body_size (headed left)) };
      leads = refl;
      ends = record {
        headed = omega (arith, long);
        named = begins_more (codes "data") left (drop (length left) fill) four ∙ named;
        format = refl;
        start = refl;
        size = refl;
        leaves = drop_all 8 (headed left) (omega (arith, long));
      };
    }
