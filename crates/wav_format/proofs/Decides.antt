-- Some bytes of the next length decide.
use Rattle.std.proofs.Common.{◌≡◌, ℕ, zero, suc, ◌+◌, ◌-◌, ◌<◌, ◌≤◌, ◌⊎◌, inl, inr, Bool, true, false, Option, Some, None, is_none, List, [], ◌∷◌, ◌++◌, length, drop, replicate, get_or, codes, cond, ltb, ◌==◌, ◌&&◌, refl, sym, ap, subst, ◌∙◌, arith, append_assoc}
use Rattle.std.specs.Prelude.{unwrap_or}
use Rattle.std.proofs.lemmas.Bool.{cases_lt, eqb-true, le-leb, le-ltb, lt-leb, lt-ltb, ltb-true}
use Rattle.std.proofs.lemmas.List.{append-nil, drop_at, get_or-append_right, get_or_append_left, get_or_at, get_or-drop, get_or-take, get_or_past, length-append, length-drop, length-replicate, nil_from_length}
use Rattle.byteorder.specs.Endian.{little_from}
use Rattle.wav_format.specs.declared.format.SampleFormat.{SampleFormat}
use Rattle.wav_format.specs.Answers.{CutsAt}
use Rattle.wav_format.specs.Chunks.{IsPassed, Reaches, Spot, begins, spot_behind, body_at, body_size, chunk_length, longest_head}
use Rattle.wav_format.specs.Cuts.{BodyCut, ChunkCut, CutIn, HasRoom, HeadCut, IsLeast, OpeningCut, body_length, deciding, fronts, opening_length}
use Rattle.wav_format.specs.Faults.{MayBeFormat}
use Rattle.wav_format.specs.Format.{AreBytes, extensible, format_of}
use Rattle.wav_format.proofs.Bodies.{AllBelow, bytes-append, bytes-cons, bytes-drop, bytes-nil, bytes-take, bytes-zeros, bytes_from}
use Rattle.wav_format.proofs.Formats.{format_to_given}
use Rattle.wav_format.proofs.Fronts.{begins_from}
use Rattle.wav_format.proofs.Kept.{Step, kept_all, step, wrong_next}
use Rattle.wav_format.proofs.Least.{Decided, body_length_of, body_passed, decided_cut, deciding_fmt, deciding_other, head_length, huge, huge_bytes, huge_stops, longer_fits, longer_same, next_within, reached_below, room_more, stays_open}
use Rattle.wav_format.proofs.Longer.{begins_more, ext, length_more, size_more}
use Rattle.wav_format.proofs.Openings.{Same, begins_same, fronts_same}
use Rattle.wav_format.proofs.Unique.{bytes_reached, itself}
use Rattle.wav_format.proofs.Words.{fronts_from}

-- ---- in the head of a chunk

and_parts : (a b c : Bool) → (a && b && c) ≡ true → (b ≡ true) × (c ≡ true) × (a ≡ true)
and_parts true true true e = (refl, refl, refl)
and_parts true true false e = absurd cc
and_parts true false c e = absurd cc
and_parts false b c e = absurd cc

none_there : (known : Option SampleFormat) → is_none known ≡ true → known ≡ None
none_there None e = refl
none_there (Some f) e = absurd cc

data_there : (left : List ℕ) → fronts (codes "data") left ≡ true → length left < 4 → begins (codes "data") (left ++ drop (length left) (codes "data")) ≡ true
data_there left e short =
    let rest = drop (length left) (codes "data") in
    begins_from (codes "data") (left ++ rest) (omega (arith, length-append left rest, length-drop (length left) (codes "data"))) (λ k in_word in_bytes.
    elim (cases_lt k (length left)) [
      | inl lt ↦ get_or_append_left left rest 0 k lt ∙ fronts_same (codes "data") left e k in_word lt
      | inr le ↦ get_or-append_right left rest (length left) k 0 refl le ∙ get_or-drop (length left) (codes "data") (k - length left) 0 ∙ ap (λ j. get_or (codes "data") j 0) (omega arith)
    ])

data_bytes : AreBytes (codes "data")
unfolding AllBelow
data_bytes = bytes_from (codes "data") (omega arith, (omega arith, (omega arith, (omega arith, tt))))

head_decides : (s : Spot) → HeadCut s → (near : Bool) → (ltb (length s.left) 4 && is_none s.known && fronts (codes "data") s.left) ≡ near → Decided s (cond near (s.at + 4) (s.at + 8))
head_decides s cut true e =
    let left = s.left in
    let rest = drop (length left) (codes "data") in
    let parts = and_parts (ltb (length left) 4) (is_none s.known) (fronts (codes "data") left) e in
    let short : length left < 4 = ltb-true (length left) 4 parts.2 in
    let long : length (left ++ rest) ≡ 4 = omega (arith, short, length-append left rest, length-drop (length left) (codes "data")) in
    record {
      more = rest;
      fresh = bytes-drop (length left) (codes "data") data_bytes;
      long = omega (arith, long);
      at_spot = inl (
        λ c. elim c [
          | inl h ↦ h.format (data_there left parts.1 short) (none_there s.known parts.0)
          | inr b ↦ let headed = b.headed.headed in omega (arith, headed, long)
        ],
        λ p. let headed = p.headed in omega (arith, headed, long),
      );
    }
head_decides s cut false e =
    let left = s.left in
    let short = cut.short in
    let rest = drop (length left) huge in
    let long : length (left ++ rest) ≡ 8 = omega (arith, short, length-append left rest, length-drop (length left) huge) in
    let top : get_or (left ++ rest) 7 0 ≡ 255 = get_or-append_right left rest (length left) 7 0 refl (omega arith) ∙ get_or-drop (length left) huge (7 - length left) 0 ∙ ap (λ j. get_or huge j 0) (let x : length left + (7 - length left) ≡ 7 = omega arith in x) in
    record {
      more = rest;
      fresh = bytes-drop (length left) huge huge_bytes;
      long = omega (arith, long);
      at_spot = inl (huge_stops (ext s rest) long top);
    }

-- ---- behind a chunk that is filled up

module _ (s : Spot) (cut : BodyCut s) (tail : List ℕ) where
  filling : List ℕ
  filling = replicate (chunk_length s.left - length s.left) 0 ++ tail

  filled_length : length (s.left ++ filling) ≡ chunk_length s.left + length tail
  unfolding filling
  filled_length =
      let short = cut.short in
      let zeros : List ℕ = replicate (chunk_length s.left - length s.left) 0 in
      omega (arith, short, length-append s.left (zeros ++ tail), length-append zeros tail, length-replicate {A = ℕ} (chunk_length s.left - length s.left) 0)

  tail_left : drop (chunk_length (s.left ++ filling)) (s.left ++ filling) ≡ tail
  unfolding filling
  tail_left =
      let short = cut.short in
      let zeros : List ℕ = replicate (chunk_length s.left - length s.left) 0 in
      ap (λ n. drop n (s.left ++ (zeros ++ tail))) (length_more s.left (zeros ++ tail) cut.headed.headed)
      ∙ ap (drop (chunk_length s.left)) (sym (append_assoc s.left zeros tail))
      ∙ drop_at (s.left ++ zeros) tail (chunk_length s.left) (omega (arith, short, length-append s.left zeros, length-replicate {A = ℕ} (chunk_length s.left - length s.left) 0))

  filling_bytes : AreBytes tail → AreBytes filling
  unfolding filling
  filling_bytes fine = bytes-append _ tail (bytes-zeros (chunk_length s.left - length s.left)) fine

  filled_passed : HasRoom (ext s filling) → IsPassed longest_head (ext s filling)
  filled_passed has = body_passed s filling cut has (omega (arith, filled_length))

fill_decides : (s : Spot) → (cut : BodyCut s) → HasRoom (ext s (filling s cut huge)) → Decided s (s.at + chunk_length s.left + 8)
fill_decides s cut has =
    let next = spot_behind (ext s (filling s cut huge)) in
    let left_is = tail_left s cut huge in
    record {
      more = filling s cut huge;
      fresh = filling_bytes s cut huge huge_bytes;
      long = omega (arith, filled_length s cut huge);
      at_spot = inr (filled_passed s cut huge has, huge_stops next (ap length left_is) (ap (λ xs. get_or xs 7 0) left_is));
    }

data_decides : (s : Spot) → (cut : BodyCut s) → s.known ≡ None → begins (codes "fmt ") s.left ≡ false → HasRoom (ext s (filling s cut (codes "data"))) → Decided s (s.at + chunk_length s.left + 4)
data_decides s cut none e has =
    let more = filling s cut (codes "data") in
    let next = spot_behind (ext s more) in
    let left_is = tail_left s cut (codes "data") in
    let long : length next.left ≡ 4 = ap length left_is in
    let named : begins (codes "data") next.left ≡ true = ap (begins (codes "data")) left_is in
    let four = cut.headed.headed in
    let still = begins_more (codes "fmt ") s.left more (omega arith) ∙ e in
    let after : next.known ≡ None = ap (λ b. cond b (Some (format_of (body_at (s.left ++ more)))) s.known) still ∙ none in
    record {
      more = more;
      fresh = filling_bytes s cut (codes "data") data_bytes;
      long = omega (arith, filled_length s cut (codes "data"));
      at_spot = inr (
        filled_passed s cut (codes "data") has,
        (
          λ c. elim c [
            | inl h ↦ h.format named after
            | inr b ↦ let headed = b.headed.headed in omega (arith, headed, long)
          ],
          λ p. let headed = p.headed in omega (arith, headed, long),
        ),
      );
    }

-- where another chunk is cut
other_decides : (s : Spot) → (cut : BodyCut s) → begins (codes "fmt ") s.left ≡ false → (known : Option SampleFormat) → s.known ≡ known → Decided s (s.at + chunk_length s.left + cond (is_none known) 4 8)
other_decides s cut e None is = data_decides s cut is e (room_more s (filling s cut (codes "data")) cut (λ named. absurd (let clash : false ≡ true = sym e ∙ named in cc)))
other_decides s cut e (Some f) is = fill_decides s cut (room_more s (filling s cut huge) cut (λ named. absurd (let clash : false ≡ true = sym e ∙ named in cc)))

-- bytes up to the next place that decides, with a wrong one there
wrong_bytes : ℕ → List ℕ
wrong_bytes gap = replicate gap 0 ++ 253 ∷ []

wrong_length : (gap : ℕ) → length (wrong_bytes gap) ≡ gap + 1
unfolding wrong_bytes
wrong_length gap = let zeros : List ℕ = replicate gap 0 in omega (arith, length-append zeros (253 ∷ []), length-replicate {A = ℕ} gap 0)

wrong_fresh : (gap : ℕ) → AreBytes (wrong_bytes gap)
unfolding wrong_bytes
wrong_fresh gap = bytes-append (replicate gap 0) (253 ∷ []) (bytes-zeros gap) (bytes-cons 253 [] (omega arith) bytes-nil)

wrong_at : (left : List ℕ) (gap i : ℕ) → i ≡ length left + gap → get_or (left ++ wrong_bytes gap) i 0 ≡ 253
unfolding wrong_bytes
wrong_at left gap i is =
    get_or-append_right left (replicate gap 0 ++ 253 ∷ []) (length left) i 0 refl (omega arith)
    ∙ ap (λ j. get_or (replicate gap 0 ++ 253 ∷ []) j 0) (let x : i - length left ≡ gap = omega arith in x)
    ∙ get_or_at (replicate gap 0) 253 [] 0 gap (length-replicate {A = ℕ} gap 0)

-- the first byte of the extensible tag
wide_first : (given longer : List ℕ) → AreBytes given → ((i : ℕ) → i < length given → get_or longer i 0 ≡ get_or given i 0) → (little_from 0 2 given == extensible) ≡ true → get_or longer 0 0 ≡ 254
wide_first given longer fine same e =
    let x = eqb-true (little_from 0 2 given) extensible e in
    let b0 = fine 0 in
    let b1 = fine 1 in
    let first : get_or given 0 0 ≡ 254 = omega (arith, x, b0, b1) in
    elim (cases_lt 0 (length given)) [
      | inl lt ↦ same 0 lt ∙ first
      | inr le ↦ let past = get_or_past given 0 0 le in absurd (omega (arith, past, first))
    ]

-- where `fmt ` is cut before a place that decides
place_decides : (s : Spot) → AreBytes s.left → (cut : BodyCut s) → begins (codes "fmt ") s.left ≡ true → (m : ℕ) → Step (little_from 0 2 (body_at s.left) == extensible) (length (body_at s.left)) (Some m) → Decided s (s.at + 8 + m)
place_decides s fine cut e m st =
    let left = s.left in
    let given = body_at left in
    let size = body_size left in
    let long = cut.headed.headed in
    let given_fine : AreBytes given = bytes-take size (drop 8 left) (bytes-drop 8 left fine) in
    let may = cut.room.format e in
    let within = next_within given size m given_fine (format_to_given given size may) st in
    let after = within.0 in
    let inside = within.1 in
    let len = body_length_of left in
    let gap = m - 1 - length given in
    let more = wrong_bytes gap in
    let all : length (left ++ more) ≡ 8 + m = omega (arith, after, inside, len, long, length-append left more, wrong_length gap) in
    let longer = body_at (left ++ more) in
    let same_size = size_more left more long in
    let longer_length : length longer ≡ m = omega (arith, body_length_of (left ++ more), same_size, all, inside) in
    let there : get_or longer (m - 1) 0 ≡ 253 =
    get_or-take (body_size (left ++ more)) (drop 8 (left ++ more)) (m - 1) 0 (omega (arith, after, inside, same_size))
    ∙ get_or-drop 8 (left ++ more) (m - 1) 0
    ∙ wrong_at left gap (8 + (m - 1)) (omega (arith, after, inside, len, long)) in
    let refused : MayBeFormat longer (body_size (left ++ more)) → ⊥ = λ open_still.
    wrong_next longer (body_size (left ++ more)) (format_to_given longer (body_size (left ++ more)) open_still) (little_from 0 2 given == extensible) (length given) m st longer_length
    (wide_first given longer given_fine (longer_same left more long)) there in
    let named = begins_more (codes "fmt ") left more (omega arith) ∙ e in
    record {
      more = more;
      fresh = wrong_fresh gap;
      long = omega (arith, all);
      at_spot = inl (
        λ c. elim c [
          | inl h ↦ let short = h.short in omega (arith, short, all)
          | inr b ↦ refused (b.room.format named)
        ],
        λ p. refused (longer, itself (left ++ more) (bytes-append left more fine (wrong_fresh gap)) p.whole, p.format named),
      );
    }

fmt_decides : (s : Spot) → AreBytes s.left → (cut : BodyCut s) → begins (codes "fmt ") s.left ≡ true → (o : Option ℕ) → Step (little_from 0 2 (body_at s.left) == extensible) (length (body_at s.left)) o → Decided s (s.at + 8 + unwrap_or o (chunk_length s.left))
fmt_decides s fine cut e (Some m) st = place_decides s fine cut e m st
fmt_decides s fine cut e None st =
    let more = filling s cut huge in
    let long = cut.headed.headed in
    let kept = kept_all (body_at s.left) (body_at (s.left ++ more)) (longer_fits s.left more long) (longer_same s.left more long) st in
    let has = room_more s more cut (λ _. stays_open s.left more long (bytes-append s.left more fine (filling_bytes s cut huge huge_bytes)) kept (cut.room.format e)) in
    subst (Decided s) (let x : s.at + chunk_length s.left + 8 ≡ s.at + 8 + chunk_length s.left = omega arith in x) (fill_decides s cut has)

body_decides : (s : Spot) → AreBytes s.left → (cut : BodyCut s) → (named : Bool) → begins (codes "fmt ") s.left ≡ named → Decided s (deciding s)
body_decides s fine cut true e =
    let given = body_at s.left in
    subst (Decided s) (sym (deciding_fmt s cut.headed.headed e)) (fmt_decides s fine cut e (body_length (little_from 0 2 given == extensible) (length given)) (step (little_from 0 2 given == extensible) (length given)))
body_decides s fine cut false e = subst (Decided s) (sym (deciding_other s cut.headed.headed e)) (other_decides s cut e s.known refl)

spot_decides : (s : Spot) → AreBytes s.left → ChunkCut s → Decided s (deciding s)
spot_decides s fine (inl cut) = subst (Decided s) (sym (head_length s cut.short)) (head_decides s cut (ltb (length s.left) 4 && is_none s.known && fronts (codes "data") s.left) refl)
spot_decides s fine (inr cut) = body_decides s fine cut (begins (codes "fmt ") s.left) refl

-- bytes that are cut are shorter than some that are not
above : (bytes : List ℕ) (n : ℕ) → CutIn bytes → (more : List ℕ) × AreBytes more × (length (bytes ++ more) ≡ n) × (CutIn (bytes ++ more) → ⊥) → length bytes < n
above bytes n cut (more, fresh, long, uncut) =
    elim (cases_lt 0 (length more)) [
      | inl lt ↦ omega (arith, lt, long, length-append bytes more)
      | inr le ↦
          let none : more ≡ [] = nil_from_length more (omega arith) in
          absurd (uncut (subst CutIn (sym (append-nil bytes) ∙ ap (λ xs. bytes ++ xs) (sym none)) cut))
    ]

pub reached_least : (bytes : List ℕ) (s : Spot) (n : ℕ) → AreBytes bytes → Reaches longest_head bytes s → ChunkCut s → n ≡ deciding s → IsLeast bytes n
reached_least bytes s n fine reached cut is =
    let bs = bytes_reached longest_head bytes s fine reached in
    let d = decided_cut bytes s (deciding s) fine reached (spot_decides s bs cut) in
    subst (IsLeast bytes) (sym is) (record {
      longer = above bytes (deciding s) (inr (s, reached, cut)) d;
      below = λ more fresh lt. reached_below bytes more s fine fresh reached cut lt;
      decided = d;
    })

-- ---- before the first chunk

riff_low : (i : ℕ) → get_or (codes "RIFF") i 0 < 253
riff_low zero = omega arith
riff_low (suc zero) = omega arith
riff_low (suc (suc zero)) = omega arith
riff_low (suc (suc (suc zero))) = omega arith
riff_low (suc (suc (suc (suc i)))) = omega arith

wave_low : (i : ℕ) → get_or (codes "WAVE") i 0 < 253
wave_low zero = omega arith
wave_low (suc zero) = omega arith
wave_low (suc (suc zero)) = omega arith
wave_low (suc (suc (suc zero))) = omega arith
wave_low (suc (suc (suc (suc i)))) = omega arith

-- what is cut has no other words
words_of : (bytes : List ℕ) → CutIn bytes → Same (codes "RIFF") bytes × Same (codes "WAVE") (drop 8 bytes)
words_of bytes (inl cut) = (fronts_same (codes "RIFF") bytes cut.riff, fronts_same (codes "WAVE") (drop 8 bytes) cut.wave)
words_of bytes (inr (s, (opened, leads), cut)) = (begins_same (codes "RIFF") bytes opened.riff, begins_same (codes "WAVE") (drop 8 bytes) opened.wave)

-- a byte of a word is wrong
wrong_word : (bytes : List ℕ) (place : ℕ) → place < length bytes → get_or bytes place 0 ≡ 253 → (place < 4) ⊎ ((8 ≤ place) × (place < 12)) → CutIn bytes → ⊥
wrong_word bytes place within is (inl lt) cut =
    let same = (words_of bytes cut).0 place lt within in
    let low = riff_low place in
    omega (arith, same, low, is)
wrong_word bytes place within is (inr (ge, lt)) cut =
    let same = (words_of bytes cut).1 (place - 8) (omega arith) (omega (arith, within, length-drop 8 bytes)) in
    let there : get_or (drop 8 bytes) (place - 8) 0 ≡ get_or bytes place 0 = get_or-drop 8 bytes (place - 8) 0 ∙ ap (λ i. get_or bytes i 0) (let x : 8 + (place - 8) ≡ place = omega arith in x) in
    let low = wave_low (place - 8) in
    omega (arith, same, there, low, is)

-- the next length, by where the bytes end
opening_step : (len : ℕ) → len < 12 → ((opening_length len ≡ len + 1) × ((len < 4) ⊎ (8 ≤ len))) ⊎ ((opening_length len ≡ 9) × (4 ≤ len) × (len < 8))
opening_step len short =
    elim (cases_lt len 4) [
      | inl lt ↦ inl (rw (lt-leb 4 len lt) refl, inl lt)
      | inr ge ↦ elim (cases_lt len 8) [
        | inl lt ↦ inr (rw (le-leb 4 len ge, lt-ltb len 8 lt) refl, ge, lt)
        | inr ge8 ↦ inl (rw (le-leb 4 len ge, le-ltb len 8 ge8) refl, inr ge8)
      ]
    ]

no_more : (bytes more : List ℕ) → length (bytes ++ more) ≤ length bytes → CutIn bytes → CutIn (bytes ++ more)
no_more bytes more le cut =
    let none : more ≡ [] = nil_from_length more (omega (arith, le, length-append bytes more)) in
    subst CutIn (sym (append-nil bytes) ∙ ap (λ xs. bytes ++ xs) (sym none)) cut

opening_below : (bytes more : List ℕ) → OpeningCut bytes → length (bytes ++ more) < opening_length (length bytes) → CutIn (bytes ++ more)
opening_below bytes more cut below =
    elim (opening_step (length bytes) cut.short) [
      | inl (e, where_it_is) ↦ no_more bytes more (omega (arith, e, below)) (inl cut)
      | inr (e, ge, lt) ↦ inl (record {
        short = omega (arith, e, below);
        riff = fronts_from (codes "RIFF") (bytes ++ more) (λ k in_word in_bytes. get_or_append_left bytes more 0 k (omega arith) ∙ fronts_same (codes "RIFF") bytes cut.riff k in_word (omega arith));
        wave = fronts_from (codes "WAVE") (drop 8 (bytes ++ more)) (λ k in_word in_bytes. absurd (omega (arith, e, below, in_bytes, length-drop 8 (bytes ++ more))));
      })
    ]

opening_decides : (bytes : List ℕ) → OpeningCut bytes → (more : List ℕ) × AreBytes more × (length (bytes ++ more) ≡ opening_length (length bytes)) × (CutIn (bytes ++ more) → ⊥)
opening_decides bytes cut =
    let len = length bytes in
    let n = opening_length len in
    let gap = n - 1 - len in
    let more = wrong_bytes gap in
    let short = cut.short in
    let facts : (len < n) × ((n - 1 < 4) ⊎ ((8 ≤ n - 1) × (n - 1 < 12))) =
    elim (opening_step len short) [
      | inl (e, at_word) ↦ (omega (arith, e), elim at_word [ inl lt ↦ inl (omega (arith, e, lt)) | inr ge ↦ inr (omega (arith, e, ge), omega (arith, e, short)) ])
      | inr (e, ge, lt) ↦ (omega (arith, e, lt), inr (omega (arith, e), omega (arith, e)))
    ] in
    let after = facts.0 in
    let long : length (bytes ++ more) ≡ n = omega (arith, after, length-append bytes more, wrong_length gap) in
    (more, wrong_fresh gap, long, wrong_word (bytes ++ more) (n - 1) (omega (arith, long, after)) (wrong_at bytes gap (n - 1) (omega (arith, after))) facts.1)

pub opening_least : (bytes : List ℕ) (n : ℕ) → OpeningCut bytes → n ≡ opening_length (length bytes) → IsLeast bytes n
opening_least bytes n cut is =
    let d = opening_decides bytes cut in
    subst (IsLeast bytes) (sym is) (record {
      longer = above bytes (opening_length (length bytes)) (inl cut) d;
      below = λ more fresh lt. opening_below bytes more cut lt;
      decided = d;
    })

pub cut_least : (bytes : List ℕ) (n : ℕ) → AreBytes bytes → CutsAt bytes n → IsLeast bytes n
cut_least bytes n fine (inl (cut, is)) = opening_least bytes n cut is
cut_least bytes n fine (inr (s, reached, cut, is)) = reached_least bytes s n fine reached cut is
