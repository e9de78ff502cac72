-- The next length that decides is the least.
use Rattle.std.proofs.Common.{◌≡◌, ◌≢◌, ℕ, zero, suc, ◌+◌, ◌-◌, ◌<◌, ◌≤◌, min, ◌⊎◌, inl, inr, Bool, true, false, Option, Some, None, is_none, List, [], ◌∷◌, ◌++◌, length, drop, get_or, codes, cond, ltb, ◌==◌, ◌&&◌, refl, sym, ap, subst, ◌∙◌, arith}
use Rattle.std.specs.Prelude.{unwrap_or}
use Rattle.std.proofs.lemmas.Bool.{cases_lt, eqb-true, lt-ltb, le-ltb}
use Rattle.std.proofs.lemmas.List.{get_or_append_left, get_or-take, get_or_past, length-append, length-drop, length-take}
use Rattle.byteorder.specs.Endian.{little_from}
use Rattle.wav_format.specs.declared.format.SampleFormat.{SampleFormat}
use Rattle.wav_format.specs.declared.head.HeadAnswer.TheVariants.{NeedMore}
use Rattle.wav_format.specs.Chunks.{IsPassed, Leads, Reaches, Spot, begins, spot_behind, body_at, body_size, chunk_length, first_chunk, format_after, longest_head}
use Rattle.wav_format.specs.Cuts.{BodyCut, ChunkCut, CutIn, HasRoom, HeadCut, body_length, deciding, deciding_head, fronts}
use Rattle.wav_format.specs.Faults.{MayBeFormat}
use Rattle.wav_format.specs.Format.{AreBytes, extensible, format_of}
use Rattle.wav_format.specs.Given.{FormatAgrees}
use Rattle.wav_format.proofs.Bodies.{AllBelow, bytes-append, bytes-drop, bytes-take, bytes_from}
use Rattle.wav_format.proofs.Formats.{format_to_given, given_to_format}
use Rattle.wav_format.proofs.Fronts.{opened_more}
use Rattle.wav_format.proofs.Kept.{Kept, Step, format_kept, kept_all, kept_some, no_coding, step}
use Rattle.wav_format.proofs.Longer.{begins_long, begins_more, body_more, ext, first_more, follows, leads_more, length_more, size_more}
use Rattle.wav_format.proofs.Openings.{begins_same}
use Rattle.wav_format.proofs.Reached.{leads_next}
use Rattle.wav_format.proofs.Unique.{bytes_reached, stops}
use Rattle.wav_format.proofs.Whole.{passed}
use Rattle.wav_format.proofs.Words.{fronts_from}

-- ---- spots that are reached

place_led : (limit n : ℕ) (s t : Spot) → Leads limit n s t → t.at + length t.left ≡ s.at + length s.left
place_led limit zero s t e = ap (λ (x : Spot). x.at + length x.left) (sym e)
place_led limit (suc n) s t (p, rest) =
    let on = place_led limit n (spot_behind s) t rest in
    let whole = p.whole in
    omega (arith, on, whole, length-drop (chunk_length s.left) s.left)

place_reached : (bytes : List ℕ) (s : Spot) → Reaches longest_head bytes s → s.at + length s.left ≡ length bytes
place_reached bytes s (opened, (n, leads)) =
    let e = place_led longest_head n (first_chunk bytes) s leads in
    let long = opened.long in
    omega (arith, e, long, length-drop 12 bytes)

pub reached_more : (bytes more : List ℕ) (s : Spot) → Reaches longest_head bytes s → Reaches longest_head (bytes ++ more) (ext s more)
reached_more bytes more s (opened, (n, leads)) =
    (opened_more bytes more opened, (n, subst (λ (x : Spot). Leads longest_head n x (ext s more)) (sym (first_more bytes more opened.long)) (leads_more longest_head n (first_chunk bytes) s more leads)))

reached_behind : (bytes : List ℕ) (s : Spot) → Reaches longest_head bytes s → IsPassed longest_head s → Reaches longest_head bytes (spot_behind s)
reached_behind bytes s (opened, (n, leads)) p = (opened, (suc n, leads_next longest_head n (first_chunk bytes) s leads p))

none_on : (k : ℕ) (t u : Spot) → Leads longest_head k t u → (ChunkCut t → ⊥) → (IsPassed longest_head t → ⊥) → ChunkCut u → ⊥
none_on zero t u e uncut unpassed cut = uncut (subst ChunkCut (sym e) cut)
none_on (suc k) t u (p, rest) uncut unpassed cut = unpassed p

-- bytes are not cut where they reach a chunk that is neither cut nor passed
not_cut : (bytes : List ℕ) (t : Spot) → AreBytes bytes → Reaches longest_head bytes t → (ChunkCut t → ⊥) → (IsPassed longest_head t → ⊥) → CutIn bytes → ⊥
not_cut bytes t fine (opened, (n, leads)) uncut unpassed (inl cut) = let short = cut.short in let long = opened.long in omega arith
not_cut bytes t fine (opened, (n, leads)) uncut unpassed (inr (u, (opened', (m, leads')), cut)) =
    let bu = bytes_reached longest_head bytes u fine (opened', (m, leads')) in
    let on = follows longest_head n m (first_chunk bytes) t u leads leads' (stops u (NeedMore (deciding u)) bu (cut, refl)) in
    none_on on.0 t u on.1 uncut unpassed cut

-- ---- the head of a chunk that is cut

pub head_length : (s : Spot) → length s.left < 8 → deciding s ≡ deciding_head s
head_length s short = rw (lt-ltb (length s.left) 8 short) refl

-- where no format is known, `data` may stand there
no_data : (left more : List ℕ) (known : Option SampleFormat) → (ltb (length left) 4 && is_none known && fronts (codes "data") left) ≡ false → (begins (codes "data") left ≡ true → known ≢ None) → begins (codes "data") (left ++ more) ≡ true → known ≢ None
no_data left more (Some f) e cut named none = absurd cc
no_data left more None e cut named none =
    elim (cases_lt (length left) 4) [
      | inl lt ↦
          let same = begins_same (codes "data") (left ++ more) named in
          let front : fronts (codes "data") left ≡ true = fronts_from (codes "data") left (λ k in_word in_left. sym (get_or_append_left left more 0 k in_left) ∙ same k in_word (omega (arith, in_left, length-append left more))) in
          let unknown : Option SampleFormat = None in
          let both : (ltb (length left) 4 && is_none unknown && fronts (codes "data") left) ≡ true = rw (lt-ltb (length left) 4 lt, front) refl in
          let clash : true ≡ false = sym both ∙ e in
          absurd cc
      | inr le ↦ absurd (cut (sym (begins_more (codes "data") left more le) ∙ named) refl)
    ]

choose : (s : Spot) (more : List ℕ) → HeadCut s → (near : Bool) → (ltb (length s.left) 4 && is_none s.known && fronts (codes "data") s.left) ≡ near → s.at + length (s.left ++ more) < cond near (s.at + 4) (s.at + 8) → HeadCut (ext s more)
choose s more cut true e below = record {
  short = omega (arith, below);
  format = λ named. let long = begins_long (codes "data") (s.left ++ more) named in absurd (omega (arith, below, long));
}
choose s more cut false e below = record {
  short = omega (arith, below);
  format = no_data s.left more s.known e cut.format;
}

head_below : (s : Spot) (more : List ℕ) → HeadCut s → s.at + length (s.left ++ more) < deciding s → HeadCut (ext s more)
head_below s more cut below =
    let e = head_length s cut.short in
    choose s more cut (ltb (length s.left) 4 && is_none s.known && fronts (codes "data") s.left) refl (subst (λ n. s.at + length (s.left ++ more) < n) e below)

-- ---- a body that is cut

pub body_length_of : (left : List ℕ) → length (body_at left) ≡ min (body_size left) (length left - 8)
body_length_of left = omega (arith, length-take (body_size left) (drop 8 left), length-drop 8 left)

pub longer_fits : (left more : List ℕ) → 8 ≤ length left → length (body_at left) ≤ length (body_at (left ++ more))
longer_fits left more long =
    omega (arith, ap length (body_more left more long), length-take (length (body_at left)) (body_at (left ++ more)))

pub longer_same : (left more : List ℕ) → 8 ≤ length left → (i : ℕ) → i < length (body_at left) → get_or (body_at (left ++ more)) i 0 ≡ get_or (body_at left) i 0
longer_same left more long i lt =
    sym (get_or-take (length (body_at left)) (body_at (left ++ more)) i 0 lt) ∙ ap (λ xs. get_or xs i 0) (body_more left more long)

-- a format stays open where what decides is kept
pub stays_open : (left more : List ℕ) → 8 ≤ length left → AreBytes (left ++ more) → Kept (body_at left) (body_at (left ++ more)) → MayBeFormat (body_at left) (body_size left) → MayBeFormat (body_at (left ++ more)) (body_size (left ++ more))
stays_open left more long fine kept may =
    let whole = left ++ more in
    let f = format_kept (body_at left) (body_at whole) kept (body_size left) (format_to_given (body_at left) (body_size left) may) in
    given_to_format (body_at whole) (body_size whole) (omega (arith, length-take (body_size whole) (drop 8 whole)))
    (bytes-take (body_size whole) (drop 8 whole) (bytes-drop 8 whole fine)) (subst (λ n. FormatAgrees (body_at whole) n) (sym (size_more left more long)) f)

pub room_more : (s : Spot) (more : List ℕ) → BodyCut s → (begins (codes "fmt ") s.left ≡ true → MayBeFormat (body_at (s.left ++ more)) (body_size (s.left ++ more))) → HasRoom (ext s more)
room_more s more cut open_still =
    let room = cut.room.room in
    let long = cut.headed.headed in
    record {
      room = omega (arith, room, length_more s.left more long);
      format = λ e. open_still (sym (begins_more (codes "fmt ") s.left more (omega arith)) ∙ e);
    }

body_still : (s : Spot) (more : List ℕ) → BodyCut s → HasRoom (ext s more) → length (s.left ++ more) < chunk_length s.left → BodyCut (ext s more)
body_still s more cut has short =
    let long = cut.headed.headed in
    record {
      headed = record { headed = omega (arith, length-append s.left more); other = begins_more (codes "data") s.left more (omega arith) ∙ cut.headed.other };
      room = has;
      short = omega (arith, short, length_more s.left more long);
    }

pub body_passed : (s : Spot) (more : List ℕ) → BodyCut s → HasRoom (ext s more) → chunk_length s.left ≤ length (s.left ++ more) → IsPassed longest_head (ext s more)
body_passed s more cut has whole =
    let long = cut.headed.headed in
    passed s.at s.known (s.left ++ more) (omega (arith, length-append s.left more)) (begins_more (codes "data") s.left more (omega arith) ∙ cut.headed.other)
    (record { room = has.room; format = has.format }) (omega (arith, whole, length_more s.left more long))

-- further bytes end in the chunk, or in the head of the next one
abbrev Goes : Spot → List ℕ → Type 0
Goes s more = ChunkCut (ext s more) ⊎ (IsPassed longest_head (ext s more) × HeadCut (spot_behind (ext s more)))

body_goes : (s : Spot) (more : List ℕ) → BodyCut s → HasRoom (ext s more) → length (s.left ++ more) < chunk_length s.left + 8 → (begins (codes "data") (drop (chunk_length (s.left ++ more)) (s.left ++ more)) ≡ true → format_after (ext s more) ≢ None) → Goes s more
body_goes s more cut has short named =
    elim (cases_lt (length (s.left ++ more)) (chunk_length s.left)) [
      | inl lt ↦ inl (inr (body_still s more cut has lt))
      | inr ge ↦ inr (
        body_passed s more cut has ge,
        record {
          short = omega (arith, short, ge, length_more s.left more cut.headed.headed, length-drop (chunk_length (s.left ++ more)) (s.left ++ more));
          format = named;
        },
      )
    ]

pub deciding_fmt : (s : Spot) → 8 ≤ length s.left → begins (codes "fmt ") s.left ≡ true → deciding s ≡ s.at + 8 + unwrap_or (body_length (little_from 0 2 (body_at s.left) == extensible) (length (body_at s.left))) (chunk_length s.left)
deciding_fmt s long e = rw (le-ltb (length s.left) 8 long, e) refl

pub deciding_other : (s : Spot) → 8 ≤ length s.left → begins (codes "fmt ") s.left ≡ false → deciding s ≡ s.at + chunk_length s.left + cond (is_none s.known) 4 8
deciding_other s long e = rw (le-ltb (length s.left) 8 long, e) refl

-- the extensible form is known to be long
wide_size : (given : List ℕ) (size : ℕ) → AreBytes given → FormatAgrees given size → 16 ≤ length given → (little_from 0 2 given == extensible) ≡ true → 40 ≤ size
wide_size given size fine f long e =
    elim (cases_lt size 40) [
      | inl lt ↦
          let x = eqb-true (little_from 0 2 given) extensible e in
          let b0 = fine 0 in
          let b1 = fine 1 in
          absurd (no_coding given size (λ tag width low narrow m. elim m.tagged [
            | inl a ↦ let y = a.0 (omega arith) in omega (arith, x, y, low, b0, b1)
            | inr (far, a, t) ↦ omega (arith, far, lt)
          ]) f.coding)
      | inr ge ↦ ge
    ]

-- a place that is asked for lies in the body
pub next_within : (given : List ℕ) (size m : ℕ) → AreBytes given → FormatAgrees given size → Step (little_from 0 2 given == extensible) (length given) (Some m) → (length given < m) × (m ≤ size)
next_within given size m fine f (inl (e, lt)) = let long = f.long in (omega (arith, e), omega (arith, e, long))
next_within given size m fine f (inr (inl (e, ge, lt))) = let long = f.long in (omega (arith, e), omega (arith, e, long))
next_within given size m fine f (inr (inr (inl (e, k)))) = let long = f.long in (omega (arith, e, k), omega (arith, e, long))
next_within given size m fine f (inr (inr (inr (inl (e, ge, lt))))) = let long = f.long in (omega (arith, e), omega (arith, e, long))
next_within given size m fine f (inr (inr (inr (inr (inl (e, ge, lt)))))) = let long = f.long in (omega (arith, e), omega (arith, e, long))
next_within given size m fine f (inr (inr (inr (inr (inr (inl (x, e, ge, lt))))))) = let w = wide_size given size fine f ge x in (omega (arith, e), omega (arith, e, w))
next_within given size m fine f (inr (inr (inr (inr (inr (inr (x, e, ge, lt))))))) = let w = wide_size given size fine f (omega arith) x in (omega (arith, e), omega (arith, e, w))

some_after : (s : Spot) → begins (codes "fmt ") s.left ≡ true → format_after s ≢ None
some_after s e none = let x = ap (λ b. cond b (Some (format_of (body_at s.left))) s.known) e in let clash = sym x ∙ none in absurd cc

pub front_fine : (xs ys : List ℕ) → AreBytes (xs ++ ys) → AreBytes xs
front_fine xs ys fine i =
    elim (cases_lt i (length xs)) [
      | inl lt ↦ rw (← get_or_append_left xs ys 0 i lt) (fine i)
      | inr le ↦ rw (get_or_past xs i 0 le) (omega arith)
    ]

-- `fmt `
fmt_below : (s : Spot) (more : List ℕ) → AreBytes (s.left ++ more) → BodyCut s → begins (codes "fmt ") s.left ≡ true → (o : Option ℕ) → Step (little_from 0 2 (body_at s.left) == extensible) (length (body_at s.left)) o
    → length (s.left ++ more) < 8 + unwrap_or o (chunk_length s.left) → Goes s more
fmt_below s more fine cut e (Some m) st below =
    let left = s.left in
    let long = cut.headed.headed in
    let given_fine : AreBytes (body_at left) = bytes-take (body_size left) (drop 8 left) (bytes-drop 8 left (front_fine left more fine)) in
    let may = cut.room.format e in
    let within = next_within (body_at left) (body_size left) m given_fine (format_to_given (body_at left) (body_size left) may) st in
    let inside = within.1 in
    let short : length (body_at (left ++ more)) < m = omega (arith, below, body_length_of (left ++ more)) in
    let kept = kept_some (body_at left) (body_at (left ++ more)) (longer_fits left more long) (longer_same left more long) m st short in
    inl (inr (body_still s more cut (room_more s more cut (λ _. stays_open left more long fine kept may)) (omega (arith, below, inside))))
fmt_below s more fine cut e None st below =
    let left = s.left in
    let long = cut.headed.headed in
    let kept = kept_all (body_at left) (body_at (left ++ more)) (longer_fits left more long) (longer_same left more long) st in
    body_goes s more cut (room_more s more cut (λ _. stays_open left more long fine kept (cut.room.format e))) (omega (arith, below))
    (λ named. some_after (ext s more) (begins_more (codes "fmt ") left more (omega arith) ∙ e))

near : (known : Option SampleFormat) (len size : ℕ) → len < size + cond (is_none known) 4 8 → len < size + 8
near None len size below = omega (arith, below)
near (Some f) len size below = below

known_there : (known : Option SampleFormat) (next : List ℕ) (len size : ℕ) → len < size + cond (is_none known) 4 8 → length next ≡ len - size → begins (codes "data") next ≡ true → known ≢ None
known_there None next len size below long named none = let four = begins_long (codes "data") next named in absurd (omega (arith, below, long, four))
known_there (Some f) next len size below long named none = absurd cc

-- another chunk
other_below : (s : Spot) (more : List ℕ) → BodyCut s → begins (codes "fmt ") s.left ≡ false → length (s.left ++ more) < chunk_length s.left + cond (is_none s.known) 4 8 → Goes s more
other_below s more cut e below =
    let left = s.left in
    let long = cut.headed.headed in
    let still = begins_more (codes "fmt ") left more (omega arith) ∙ e in
    let has = room_more s more cut (λ named. absurd (let clash : false ≡ true = sym e ∙ named in cc)) in
    let after : format_after (ext s more) ≡ s.known = ap (λ b. cond b (Some (format_of (body_at (left ++ more)))) s.known) still in
    body_goes s more cut has (near s.known (length (left ++ more)) (chunk_length left) below) (λ named. subst (λ o. o ≢ None) (sym after)
    (known_there s.known (drop (chunk_length (left ++ more)) (left ++ more)) (length (left ++ more)) (chunk_length left) below (omega (arith, length_more left more long, length-drop (chunk_length (left ++ more)) (left ++ more))) named))

by_name : (s : Spot) (more : List ℕ) → AreBytes (s.left ++ more) → BodyCut s → s.at + length (s.left ++ more) < deciding s → (named : Bool) → begins (codes "fmt ") s.left ≡ named → Goes s more
by_name s more fine cut below true e =
    let given = body_at s.left in
    let far = deciding_fmt s cut.headed.headed e in
    fmt_below s more fine cut e (body_length (little_from 0 2 given == extensible) (length given)) (step (little_from 0 2 given == extensible) (length given)) (omega (arith, below, far))
by_name s more fine cut below false e =
    let far = deciding_other s cut.headed.headed e in
    other_below s more cut e (omega (arith, below, far))

body_below : (s : Spot) (more : List ℕ) → AreBytes (s.left ++ more) → BodyCut s → s.at + length (s.left ++ more) < deciding s → Goes s more
body_below s more fine cut below = by_name s more fine cut below (begins (codes "fmt ") s.left) refl

-- ---- shorter bytes are cut too

spot_below : (s : Spot) (more : List ℕ) → AreBytes (s.left ++ more) → ChunkCut s → s.at + length (s.left ++ more) < deciding s → Goes s more
spot_below s more fine (inl cut) below = inl (inl (head_below s more cut below))
spot_below s more fine (inr cut) below = body_below s more fine cut below

goes_cut : (bytes more : List ℕ) (s : Spot) → Reaches longest_head bytes s → Goes s more → CutIn (bytes ++ more)
goes_cut bytes more s reached (inl cut) = inr (ext s more, reached_more bytes more s reached, cut)
goes_cut bytes more s reached (inr (p, cut)) = inr (spot_behind (ext s more), reached_behind (bytes ++ more) (ext s more) (reached_more bytes more s reached) p, inl cut)

pub reached_below : (bytes more : List ℕ) (s : Spot) → AreBytes bytes → AreBytes more → Reaches longest_head bytes s → ChunkCut s → length (bytes ++ more) < deciding s → CutIn (bytes ++ more)
reached_below bytes more s fine fresh reached cut below =
    let place = place_reached bytes s reached in
    goes_cut bytes more s reached (spot_below s more (bytes-append s.left more (bytes_reached longest_head bytes s fine reached) fresh) cut
    (omega (arith, below, place, length-append bytes more, length-append s.left more)))

-- ---- some bytes of that length are not cut

-- bytes of which every fourth is the top byte of a size that no head has
abbrev pub huge : List ℕ
huge = 255 ∷ 255 ∷ 255 ∷ 255 ∷ 255 ∷ 255 ∷ 255 ∷ 255 ∷ []

pub huge_bytes : AreBytes huge
unfolding AllBelow
huge_bytes = bytes_from huge (omega arith, (omega arith, (omega arith, (omega arith, (omega arith, (omega arith, (omega arith, (omega arith, tt))))))))

-- a spot at which such a size stands
pub huge_stops : (t : Spot) → length t.left ≡ 8 → get_or t.left 7 0 ≡ 255 → (ChunkCut t → ⊥) × (IsPassed longest_head t → ⊥)
huge_stops t long top = (
  λ cut. elim cut [
    | inl c ↦ let short = c.short in omega (arith, short, long)
    | inr c ↦ let room = c.room.room in omega (arith, room, top)
  ],
  λ p. let room = p.room in omega (arith, room, top),
)

-- what decides: further bytes, and the spot at which they do
pub record Decided (s : Spot) (n : ℕ) : Type 0 where
  pub more : List ℕ
  pub fresh : AreBytes more
  pub long : s.at + length (s.left ++ more) ≡ n
  pub at_spot : ((ChunkCut (ext s more) → ⊥) × (IsPassed longest_head (ext s more) → ⊥)) ⊎ (IsPassed longest_head (ext s more) × ((ChunkCut (spot_behind (ext s more)) → ⊥) × (IsPassed longest_head (spot_behind (ext s more)) → ⊥)))

pub decided_cut : (bytes : List ℕ) (s : Spot) (n : ℕ) → AreBytes bytes → Reaches longest_head bytes s → Decided s n → (more : List ℕ) × AreBytes more × (length (bytes ++ more) ≡ n) × (CutIn (bytes ++ more) → ⊥)
decided_cut bytes s n fine reached d =
    let more = d.more in
    let place = place_reached bytes s reached in
    let all = bytes-append bytes more fine d.fresh in
    let here = reached_more bytes more s reached in
    let long = d.long in (
      more,
      d.fresh,
      omega (arith, long, place, length-append bytes more, length-append s.left more),
      elim d.at_spot [
        | inl stop ↦ not_cut (bytes ++ more) (ext s more) all here stop.0 stop.1
        | inr (p, stop) ↦ not_cut (bytes ++ more) (spot_behind (ext s more)) all (reached_behind (bytes ++ more) (ext s more) here p) stop.0 stop.1
      ],
    )
