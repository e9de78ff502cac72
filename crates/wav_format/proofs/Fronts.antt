-- Bytes that end too early are the front of some head.
use Rattle.std.proofs.Common.{◌≡◌, ◌≢◌, ℕ, zero, suc, ◌+◌, ◌-◌, ◌<◌, ◌≤◌, inl, inr, Bool, true, false, Option, Some, None, List, [], ◌∷◌, ◌++◌, length, take, drop, replicate, get_or, codes, refl, sym, ap, subst, ◌∙◌, arith, append_assoc}
use Rattle.std.proofs.lemmas.Bool.{cases_lt}
use Rattle.std.proofs.lemmas.List.{get_or_append_left, get_or-append_right, get_or-drop, get_or-take, drop-append-le, drop_at, take_all, same_lists, get_or_default, length-take, length-drop, length-append}
use Rattle.std.proofs.lemmas.Slice.Eq.{bytes_eq-Decides}
use Rattle.wav_format.specs.declared.format.SampleFormat.{SampleFormat}
use Rattle.wav_format.specs.Answers.{CutsAt}
use Rattle.wav_format.specs.Chunks.{FrontsSomeHead, HeadThen, IsOpened, Leads, Reaches, Spot, begins, spot_behind, body_at, body_size, chunk_length, first_chunk, longest_head}
use Rattle.wav_format.specs.Cuts.{BodyCut, ChunkCut, OpeningCut}
use Rattle.wav_format.specs.Format.{AreBytes, Completes, IsFormat}
use Rattle.wav_format.proofs.Bodies.{AllBelow, bytes-append, bytes-drop, bytes-nil, bytes-take, bytes-zeros, bytes_from, filled, filled_completes}
use Rattle.wav_format.proofs.Completions.{Closes, bytes_last, closes_body, closes_last, closes_named, closes_unnamed, fill, headed, last_chunks, long_body, rest_bytes, rest_of, rest_some, some_body}
use Rattle.wav_format.proofs.Longer.{begins_more, ext, first_more, leads_more}
use Rattle.wav_format.proofs.Openings.{Same, fronts_same}
use Rattle.wav_format.proofs.Unique.{bytes_reached}

-- from a spot, further bytes lead to the end of a head
pub record GoesOn (s : Spot) : Type 0 where
  pub more : List ℕ
  pub some : 0 < length more
  pub fine : AreBytes more
  pub limit : ℕ
  pub high : longest_head ≤ limit
  pub closes : Closes limit (ext s more)

fill_bytes : AreBytes fill
unfolding AllBelow
fill_bytes = bytes_from fill (omega arith, (omega arith, (omega arith, (omega arith, (omega arith, (omega arith, (omega arith, (omega arith, tt))))))))

body_bytes : (size : ℕ) → AreBytes (long_body size)
unfolding AllBelow
body_bytes size = bytes-append some_body (replicate (size - 16) 0) (bytes_from some_body (omega arith, (omega arith, (omega arith, (omega arith, (omega arith, (omega arith, (omega arith, (omega arith, (omega arith, (omega arith, (omega arith, (omega arith, (omega arith, (omega arith, (omega arith, (omega arith, tt))))))))))))))))) (bytes-zeros (size - 16))

head_goes : (at : ℕ) (known : Option SampleFormat) (left : List ℕ) (named : Bool) → begins (codes "data") left ≡ named → length left < 8 → (begins (codes "data") left ≡ true → known ≢ None) → GoesOn (record { at = at; known = known; left = left })
unfolding headed
head_goes at None left true e short some = absurd (some e refl)
head_goes at (Some f) left true e short some = record {
  more = drop (length left) fill;
  some = omega (arith, length-drop (length left) fill);
  fine = bytes-drop (length left) fill fill_bytes;
  limit = longest_head;
  high = omega arith;
  closes = closes_named longest_head at f left short e;
}
head_goes at known left false e short some =
    let filled_up = headed left in
    let body = long_body (body_size filled_up) in
    let limit = longest_head + (at + chunk_length filled_up + 32) in
    record {
      more = drop (length left) fill ++ rest_of filled_up body;
      some = omega (arith, length-drop (length left) fill, length-append (drop (length left) fill) (rest_of filled_up body));
      fine = bytes-append _ _ (bytes-drop (length left) fill fill_bytes) (rest_bytes filled_up body (body_bytes (body_size filled_up)));
      limit = limit;
      high = omega arith;
      closes = subst (λ xs. Closes limit (record { at = at; known = known; left = xs })) (append_assoc left (drop (length left) fill) (rest_of filled_up body))
          (closes_unnamed limit at known left short e (omega arith));
    }

-- some body goes on from what is there of it
any_body : (s : Spot) → AreBytes s.left → BodyCut s → (named : Bool) → begins (codes "fmt ") s.left ≡ named → (body : List ℕ) × Completes (body_at s.left) (body_size s.left) body × (begins (codes "fmt ") s.left ≡ true → IsFormat body)
any_body s bytes cut true e = let m = cut.room.format e in (m.0, m.1, λ _. m.2)
any_body s bytes cut false e = (
  filled (body_at s.left) (body_size s.left) [],
  filled_completes (body_at s.left) (body_size s.left) [] (omega (arith, length-take (body_size s.left) (drop 8 s.left))) (bytes-take (body_size s.left) (drop 8 s.left) (bytes-drop 8 s.left bytes)) bytes-nil,
  λ h. let no_name = e in absurd cc,
)

body_goes : (s : Spot) → AreBytes s.left → BodyCut s → GoesOn s
body_goes s bytes cut =
    let left = s.left in
    let found = any_body s bytes cut (begins (codes "fmt ") left) refl in
    let body = found.0 in
    let all = found.1 in
    let short = cut.short in
    let long = cut.headed.headed in
    let there : body_at left ≡ drop 8 left = take_all (body_size left) (drop 8 left) (omega (arith, short, length-drop 8 left)) in
    let limit = longest_head + (s.at + chunk_length left + 32) in
    record {
      more = rest_of left body;
      some = rest_some left body;
      fine = rest_bytes left body all.bytes;
      limit = limit;
      high = omega arith;
      closes = closes_body limit s.at s.known left body long cut.headed.other all.long (subst (λ given. take (length given) body ≡ given) there all.front) found.2 (omega arith);
    }

pub cut_goes : (s : Spot) → AreBytes s.left → ChunkCut s → GoesOn s
cut_goes s bytes (inl cut) = head_goes s.at s.known s.left (begins (codes "data") s.left) refl cut.short cut.format
cut_goes s bytes (inr cut) = body_goes s bytes cut

-- ---- from the start

leads_wider : (limit wide n : ℕ) (s t : Spot) → limit ≤ wide → Leads limit n s t → Leads wide n s t
leads_wider limit wide zero s t le e = e
leads_wider limit wide (suc n) s t le (p, rest) =
    (record { headed = p.headed; other = p.other; room = (let room = p.room in omega (arith, room)); format = p.format; whole = p.whole }, leads_wider limit wide n (spot_behind s) t le rest)

leads_join : (limit n m : ℕ) (s t u : Spot) → Leads limit n s t → Leads limit m t u → (k : ℕ) × Leads limit k s u
leads_join limit zero m s t u e q = (m, subst (λ (x : Spot). Leads limit m x u) (sym e) q)
leads_join limit (suc n) m s t u (p, rest) q = let on = leads_join limit n m (spot_behind s) t u rest q in (suc on.0, (p, on.1))

pub opened_more : (bytes more : List ℕ) → IsOpened bytes → IsOpened (bytes ++ more)
opened_more bytes more o =
    let long = o.long in
    record {
      long = omega (arith, long, length-append bytes more);
      riff = begins_more (codes "RIFF") bytes more (omega arith) ∙ o.riff;
      wave = ap (begins (codes "WAVE")) (drop-append-le 8 bytes more (omega arith)) ∙ begins_more (codes "WAVE") (drop 8 bytes) more (omega (arith, length-drop 8 bytes)) ∙ o.wave;
    }

pub reached_goes : (bytes : List ℕ) (s : Spot) → Reaches longest_head bytes s → GoesOn s → FrontsSomeHead bytes
reached_goes bytes s (opened, (n, leads)) g =
    let more = g.more in
    let c = g.closes in
    let here = subst (λ (x : Spot). Leads g.limit n x (ext s more)) (sym (first_more bytes more opened.long)) (leads_more g.limit n (first_chunk bytes) s more (leads_wider longest_head g.limit n (first_chunk bytes) s g.high leads)) in
    let joined = leads_join g.limit n c.chunks (first_chunk (bytes ++ more)) (ext s more) c.end here c.leads in
    (more, g.some, (g.limit, c.head, (g.fine, (c.end, (opened_more bytes more opened, (joined.0, joined.1)), c.ends))))

-- ---- an opening that is cut

abbrev opening : List ℕ
opening = 82 ∷ 73 ∷ 70 ∷ 70 ∷ 0 ∷ 0 ∷ 0 ∷ 0 ∷ 87 ∷ 65 ∷ 86 ∷ 69 ∷ []

opening_bytes : AreBytes opening
unfolding AllBelow
opening_bytes = bytes_from opening (omega arith, (omega arith, (omega arith, (omega arith, (omega arith, (omega arith, (omega arith, (omega arith, (omega arith, (omega arith, (omega arith, (omega arith, tt))))))))))))

pub begins_from : (word bytes : List ℕ) → length word ≤ length bytes → Same word bytes → begins word bytes ≡ true
begins_from word bytes long same =
    (bytes_eq-Decides (take (length word) bytes) word).1 (same_lists (take (length word) bytes) word (omega (arith, length-take (length word) bytes)) (λ k d lt.
    let below : k < length word = omega (arith, length-take (length word) bytes) in
    get_or-take (length word) bytes k d below ∙ get_or_default bytes k d 0 (omega arith) ∙ same k below (omega arith) ∙ get_or_default word k 0 d below))

module _ (bytes : List ℕ) (cut : OpeningCut bytes) where
  opened_up : List ℕ
  opened_up = bytes ++ drop (length bytes) opening

  opened_length : length opened_up ≡ 12
  unfolding opened_up
  opened_length = let short = cut.short in omega (arith, short, length-append bytes (drop (length bytes) opening), length-drop (length bytes) opening)

  opened_at : (i : ℕ) → length bytes ≤ i → get_or opened_up i 0 ≡ get_or opening i 0
  unfolding opened_up
  opened_at i le =
      get_or-append_right bytes (drop (length bytes) opening) (length bytes) i 0 refl le
      ∙ get_or-drop (length bytes) opening (i - length bytes) 0
      ∙ ap (λ j. get_or opening j 0) (omega arith)

  opened_riff : Same (codes "RIFF") opened_up
  unfolding opened_up
  opened_riff k in_word in_bytes =
      let same : get_or opening k 0 ≡ get_or (codes "RIFF") k 0 = get_or_append_left (codes "RIFF") (drop 4 opening) 0 k in_word in
      elim (cases_lt k (length bytes)) [
        | inl lt ↦ get_or_append_left bytes (drop (length bytes) opening) 0 k lt ∙ fronts_same (codes "RIFF") bytes cut.riff k in_word lt
        | inr le ↦ opened_at k le ∙ same
      ]

  opened_wave : Same (codes "WAVE") (drop 8 opened_up)
  unfolding opened_up
  opened_wave k in_word in_bytes =
      let same : get_or opening (8 + k) 0 ≡ get_or (codes "WAVE") k 0 = sym (get_or-drop 8 opening k 0) in
      get_or-drop 8 opened_up k 0
      ∙ elim (cases_lt (8 + k) (length bytes)) [
        | inl lt ↦
            get_or_append_left bytes (drop (length bytes) opening) 0 (8 + k) lt ∙ sym (get_or-drop 8 bytes k 0)
            ∙ fronts_same (codes "WAVE") (drop 8 bytes) cut.wave k in_word (omega (arith, length-drop 8 bytes))
        | inr le ↦ opened_at (8 + k) le ∙ same
      ]

  whole_opening : IsOpened opened_up
  whole_opening = record {
    long = omega (arith, opened_length);
    riff = begins_from (codes "RIFF") opened_up (omega (arith, opened_length)) opened_riff;
    wave = begins_from (codes "WAVE") (drop 8 opened_up) (omega (arith, opened_length, length-drop 8 opened_up)) opened_wave;
  }

  pub opening_goes : FrontsSomeHead bytes
  unfolding opened_up
  opening_goes =
      let first : Spot = record { at = 12; known = None; left = last_chunks } in
      let rest = drop (length bytes) opening in
      let c = closes_last longest_head 12 None (omega arith) in
      let left_is : drop 12 (opened_up ++ last_chunks) ≡ last_chunks = drop_at opened_up last_chunks 12 opened_length in
      let start : Leads longest_head c.chunks (first_chunk (opened_up ++ last_chunks)) c.end = subst (λ xs. Leads longest_head c.chunks (record { at = 12; known = None; left = xs }) c.end) (sym left_is) c.leads in
      let head : HeadThen longest_head (opened_up ++ last_chunks) c.head [] = (c.end, (opened_more opened_up last_chunks whole_opening, (c.chunks, start)), c.ends) in (
        rest ++ last_chunks,
        omega (arith, length-append rest last_chunks),
        (
          longest_head,
          c.head,
          (
            bytes-append rest last_chunks (bytes-drop (length bytes) opening opening_bytes) bytes_last,
            subst (λ xs. HeadThen longest_head xs c.head []) (append_assoc bytes rest last_chunks) head,
          ),
        ),
      )

pub cut_fronts : (bytes : List ℕ) (n : ℕ) → AreBytes bytes → CutsAt bytes n → FrontsSomeHead bytes
cut_fronts bytes n fine (inl (cut, is)) = opening_goes bytes cut
cut_fronts bytes n fine (inr (s, reached, cut, is)) = reached_goes bytes s reached (cut_goes s (bytes_reached longest_head bytes s fine reached) cut)
