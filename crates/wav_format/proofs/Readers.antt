-- Where a reader stands in more bytes, and behind one chunk more.
use Rattle.std.proofs.Common.{◌≡◌, ℕ, ◌+◌, ◌-◌, ◌≤◌, min, inl, inr, true, false, Option, Some, None, is_none, List, [], ◌++◌, length, drop, drop_of_length-le, cond, refl, sym, ap, subst, ◌∙◌, arith}
use Rattle.std.proofs.Math.Seq.{drop-append-add}
use Rattle.std.proofs.lemmas.Bool.{cases_lt}
use Rattle.std.proofs.lemmas.List.{drop-append-le, drop-drop, length-append, length-drop}
use Rattle.wav_format.specs.declared.format.SampleFormat.{SampleFormat}
use Rattle.wav_format.specs.declared.head.HeadAnswer.{HeadAnswer}
use Rattle.wav_format.specs.declared.head.HeadAnswer.TheVariants.{Whole, NeedMore, Bad}
use Rattle.wav_format.specs.declared.head.WavKind.TheVariants.{NotRiff, NotWave, NoFmt, BadFmt, TagUnknown, HeadTooLong}
use Rattle.wav_format.specs.declared.reading.Standing.{Standing}
use Rattle.wav_format.specs.Answers.{AnswerAt, AnswerIn}
use Rattle.wav_format.specs.Chunks.{IsOpened, Reaches, Spot, chunk_length, format_after, longest_head}
use Rattle.wav_format.specs.Cuts.{IsDecided, deciding}
use Rattle.wav_format.specs.Format.{AreBytes}
use Rattle.wav_format.specs.Reader.{HasPassed, IsAhead, StandsBehind, StandsIn, spot_in}
use Rattle.wav_format.proofs.Bodies.{bytes-drop}
use Rattle.wav_format.proofs.Decided.{decided_cut, decided_more, decided_passed, deciding_ahead, format_still}
use Rattle.wav_format.proofs.Least.{reached_more}
use Rattle.wav_format.proofs.Longer.{length_more}
use Rattle.wav_format.proofs.Reached.{answered, reaches_next}

-- ---- lists

none_left : (n : ℕ) (xs : List ℕ) → length xs ≤ n → drop n xs ≡ []
none_left n xs le = drop_of_length-le xs le

pub drop_both : (n : ℕ) (xs ys : List ℕ) → drop n (xs ++ ys) ≡ drop n xs ++ drop (n - length xs) ys
drop_both n xs ys =
    elim (cases_lt (length xs) n) [
      | inl lt ↦
          let k = n - length xs in
          ap (λ m. drop m (xs ++ ys)) (let e : n ≡ length xs + k = omega (arith, lt) in e) ∙ drop-append-add xs ys k
          ∙ ap (λ zs. zs ++ drop k ys) (sym (none_left n xs (omega (arith, lt))))
      | inr le ↦ drop-append-le n xs ys le ∙ ap (λ m. drop n xs ++ drop m ys) (let e : 0 ≡ n - length xs = omega (arith, le) in e)
    ]

pub drop_least : (n : ℕ) (xs : List ℕ) → drop (min n (length xs)) xs ≡ drop n xs
drop_least n xs =
    elim (cases_lt (length xs) n) [
      | inl lt ↦ none_left (min n (length xs)) xs (omega (arith, lt)) ∙ sym (none_left n xs (omega (arith, lt)))
      | inr le ↦ ap (λ m. drop m xs) (let e : min n (length xs) ≡ n = omega (arith, le) in e)
    ]

-- what is behind a later place of what is behind a place
pub drop_later : (from to : ℕ) (given : List ℕ) → from ≤ to → drop (to - from) (drop from given) ≡ drop to given
drop_later from to given onward = drop-drop (to - from) from given ∙ ap (λ n. drop n given) (let e : from + (to - from) ≡ to = omega (arith, onward) in e)

-- what is left of the bytes that were given, with more bytes
pub left_given : (place count : ℕ) (kept given more left : List ℕ) → count ≡ length given → kept ≡ drop place given → left ≡ kept ++ drop (place - count) more → left ≡ drop place (given ++ more)
left_given place count kept given more left total is all =
    all ∙ ap (λ xs. xs ++ drop (place - count) more) is ∙ ap (λ n. drop place given ++ drop (place - n) more) total ∙ sym (drop_both place given more)

-- ---- behind one chunk more

pub stands_next : (before after : Standing) (bytes : List ℕ) → HasPassed before bytes → IsDecided (spot_in before bytes)
    → after.place ≡ before.place + chunk_length (drop before.place bytes) → after.known ≡ format_after (spot_in before bytes) → StandsBehind after bytes
stands_next before after bytes p d place known =
    let left = drop before.place bytes in
    let within = p.within in
    let room = d.room.room in
    elim (cases_lt (length bytes) after.place) [
      | inl beyond ↦ inr (record { before = before; passed = p; decided = d; beyond = beyond; place = place; known = known })
      | inr there ↦ inl (record {
        within = there;
        room = omega (arith, room, place);
        reached = subst (λ n. Reaches longest_head bytes (record { at = n; known = after.known; left = drop n bytes })) (sym place)
            (reaches_next longest_head bytes before.place before.known (chunk_length left) after.known p.reached
            (decided_passed (spot_in before bytes) d (omega (arith, there, place, within, length-drop before.place bytes))) refl known);
      })
    ]

-- ---- in more bytes

passed_on : (reader : Standing) (bytes more : List ℕ) → HasPassed reader bytes → HasPassed reader (bytes ++ more)
passed_on reader bytes more p =
    let within = p.within in
    record {
      within = omega (arith, within, length-append bytes more);
      room = p.room;
      reached = subst (λ xs. Reaches longest_head (bytes ++ more) (record { at = reader.place; known = reader.known; left = xs })) (sym (drop-append-le reader.place bytes more within))
          (reached_more bytes more (spot_in reader bytes) p.reached);
    }

ahead_on : (reader : Standing) (bytes more : List ℕ) → AreBytes (bytes ++ more) → IsAhead reader bytes → StandsBehind reader (bytes ++ more)
ahead_on reader bytes more fine a =
    let before = a.before in
    let s = spot_in before bytes in
    let left : drop before.place bytes ++ more ≡ drop before.place (bytes ++ more) = sym (drop-append-le before.place bytes more a.passed.within) in
    let there : List ℕ → Spot = λ xs. record { at = before.place; known = before.known; left = xs } in
    let fine_left = subst AreBytes (sym left) (bytes-drop before.place (bytes ++ more) fine) in
    stands_next before reader (bytes ++ more) (passed_on before bytes more a.passed)
    (subst (λ xs. IsDecided (there xs)) left (decided_more s more fine_left a.decided))
    (a.place ∙ ap (λ n. before.place + n) (sym (length_more (drop before.place bytes) more a.decided.headed.headed) ∙ ap chunk_length left))
    (a.known ∙ sym (format_still s more a.decided) ∙ ap (λ xs. format_after (there xs)) left)

pub stands_on : (reader : Standing) (bytes more : List ℕ) → AreBytes (bytes ++ more) → StandsIn reader bytes → StandsIn reader (bytes ++ more)
stands_on reader bytes more fine (inl start) = inl start
stands_on reader bytes more fine (inr (inl p)) = inr (inl (passed_on reader bytes more p))
stands_on reader bytes more fine (inr (inr a)) = inr (ahead_on reader bytes more fine a)

-- ---- the answer where it stands

-- of no bytes, the head of a chunk is asked for
deciding_none : (at : ℕ) (known : Option SampleFormat) → deciding (record { at = at; known = known; left = [] }) ≡ at + cond (is_none known) 4 8
deciding_none at None = refl
deciding_none at (Some f) = refl

none_there : (at : ℕ) (known : Option SampleFormat) (answer : HeadAnswer) → AnswerAt (record { at = at; known = known; left = [] }) answer → answer ≡ NeedMore (at + cond (is_none known) 4 8)
none_there at known (Whole h) a = let headed = a.headed in absurd (omega (arith, headed))
none_there at known (NeedMore n) a = ap NeedMore (a.1 ∙ deciding_none at known)
none_there at known (Bad place NotRiff) a = absurd a
none_there at known (Bad place NotWave) a = absurd a
none_there at known (Bad place NoFmt) a = let clash : false ≡ true = a.0 in absurd cc
none_there at known (Bad place BadFmt) a = let headed = a.0.headed in absurd (omega (arith, headed))
none_there at known (Bad place TagUnknown) a = let headed = a.0.headed in absurd (omega (arith, headed))
none_there at known (Bad place HeadTooLong) a = let headed = a.0.headed in absurd (omega (arith, headed))

ahead_answered : (reader : Standing) (bytes : List ℕ) (answer : HeadAnswer) → IsAhead reader bytes → AnswerAt (spot_in reader bytes) answer → AnswerIn bytes answer
ahead_answered reader bytes answer a here =
    let s = spot_in a.before bytes in
    let beyond = a.beyond in
    let place = a.place in
    let within = a.passed.within in
    let is = none_there reader.place reader.known answer (subst (λ xs. AnswerAt (record { at = reader.place; known = reader.known; left = xs }) answer) (none_left reader.place bytes (omega (arith, beyond))) here) in
    let next : reader.place + cond (is_none reader.known) 4 8 ≡ deciding s =
    ap (λ n. n + cond (is_none reader.known) 4 8) place ∙ ap (λ o. a.before.place + chunk_length (drop a.before.place bytes) + cond (is_none o) 4 8) a.known ∙ sym (deciding_ahead s a.decided) in
    subst (AnswerIn bytes) (sym is) (inr (s, a.passed.reached, inr (decided_cut s a.decided (omega (arith, beyond, place, within, length-drop a.before.place bytes))), next))

pub stands_answered : (reader : Standing) (bytes : List ℕ) (answer : HeadAnswer) → StandsBehind reader bytes → AnswerAt (spot_in reader bytes) answer → AnswerIn bytes answer
stands_answered reader bytes answer (inl p) here = answered bytes (spot_in reader bytes) answer p.reached here
stands_answered reader bytes answer (inr a) here = ahead_answered reader bytes answer a here

-- a chunk that is there is passed from where the reader stands within the bytes
pub stands_over : (before after : Standing) (bytes : List ℕ) → StandsBehind before bytes → IsDecided (spot_in before bytes)
    → after.place ≡ before.place + chunk_length (drop before.place bytes) → after.known ≡ format_after (spot_in before bytes) → StandsBehind after bytes
stands_over before after bytes (inl p) d place known = stands_next before after bytes p d place known
stands_over before after bytes (inr a) d place known =
    let beyond = a.beyond in
    let headed = d.headed.headed in
    absurd (omega (arith, beyond, headed, length-drop before.place bytes))

-- at the first chunk
pub stands_first : (bytes : List ℕ) → IsOpened bytes → StandsBehind (record { place = 12; known = None }) bytes
stands_first bytes opened = inl (record { within = opened.long; room = omega arith; reached = (opened, (0, refl)) })
