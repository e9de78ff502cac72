-- A text stops at one place, for one reason.
use Rattle.std.proofs.Common.{◌≡◌, ℕ, zero, suc, ◌<◌, ◌≤◌, Bool, true, false, cond, ◌&&◌, not, List, [], ◌∷◌, ◌++◌, length, take, Option, Some, None, refl, sym, ap, ◌∙◌, subst, arith, length-append}
use Rattle.std.specs.List.{list_all}
use Rattle.std.proofs.lemmas.Option.{same_Some, none-some as none_not}
use Rattle.text_words.specs.Bytes.{is_white}
use Rattle.text_words.specs.Words.{after, is_plain, plain}
use Rattle.launch_text.specs.Kinds.{is_bracket, kind_of}
use Rattle.launch_text.specs.Parsed.{Stopped, place_of}
use Rattle.launch_text.specs.Places.{spot_of}
use Rattle.launch_text.specs.Reading.{IsStuck, Splits, State, first_word, none, run, step}
use Rattle.launch_text.specs.Words.{is_start, word_length}
use Rattle.launch_text.specs.declared.fault.LineKind.{LineKind}
use Rattle.gst_value.proofs.Basics.{no_true, and_right}
use Rattle.gst_value.proofs.Places.{take_front}
use Rattle.launch_text.proofs.Splitting.{run_none, same_word, start_white, word_starts}

-- white space ends where something else begins
same_white : (a b x y : List ℕ) → list_all is_white a ≡ true → list_all is_white b ≡ true → is_start x ≡ true → is_start y ≡ true → a ++ x ≡ b ++ y → x ≡ y
same_white [] [] x y ha hb sx sy e = e
same_white [] (b ∷ bs) x y ha hb sx sy e = absurd (start_white b bs y hb (subst (λ l. is_start l ≡ true) e sx))
same_white (a ∷ rs) [] x y ha hb sx sy e = absurd (start_white a rs x ha (subst (λ l. is_start l ≡ true) (sym e) sy))
same_white (a ∷ rs) (b ∷ bs) x y ha hb sx sy e =
    let tail : rs ++ x ≡ bs ++ y = cc in
    same_white rs bs x y (and_right (is_white a) (list_all is_white rs) ha) (and_right (is_white b) (list_all is_white bs) hb) sx sy tail

-- ---- each text has words

record Skipped (text : List ℕ) : Type 0 where
  white : List ℕ
  rest : List ℕ
  are_white : list_all is_white white ≡ true
  starts : is_start rest ≡ true
  parts : text ≡ white ++ rest

skip : (text : List ℕ) → Skipped text
skip [] = record { white = []; rest = []; are_white = refl; starts = refl; parts = refl }
skip (b ∷ bs) = by (is_white b) refl (skip bs)
  where
    by : (t : Bool) → is_white b ≡ t → Skipped bs → Skipped (b ∷ bs)
    by true e s = record { white = b ∷ s.white; rest = s.rest; are_white = rw e s.are_white; starts = s.starts; parts = ap (λ l. b ∷ l) s.parts }
    by false e s = record { white = []; rest = b ∷ bs; are_white = refl; starts = rw e refl; parts = refl }

record Begun (m : _) (text : List ℕ) : Type 0 where
  word : List ℕ
  rest : List ℕ
  parts : text ≡ word ++ rest
  long : word_length m text ≡ length word

first_of : (m : _) (text : List ℕ) → Begun m text
first_of m [] = record { word = []; rest = []; parts = refl; long = refl }
first_of m (b ∷ bs) = by (is_plain m && is_white b) refl (first_of (after m b) bs)
  where
    by : (t : Bool) → (is_plain m && is_white b) ≡ t → Begun (after m b) bs → Begun m (b ∷ bs)
    by true e s = record { word = []; rest = b ∷ bs; parts = refl; long = rw e refl }
    by false e s = record { word = b ∷ s.word; rest = s.rest; parts = ap (λ l. b ∷ l) s.parts; long = rw e (ap suc s.long) }

some_word : (b : ℕ) (bs : List ℕ) → is_start (b ∷ bs) ≡ true → 0 < word_length plain (b ∷ bs)
some_word b bs starts = by (is_white b) starts
  where
    by : (t : Bool) → not t ≡ true → 0 < cond t 0 (suc (word_length (after plain b) bs))
    by true e = absurd (no_true e)
    by false e = omega arith

abbrev Words : List ℕ → Type 0
Words text = (words : List (List ℕ)) × Splits words text []

-- a word behind white space, where what is behind it has its words
word_more : (text white : List ℕ) (b : ℕ) (bs : List ℕ) → list_all is_white white ≡ true → is_start (b ∷ bs) ≡ true → text ≡ white ++ (b ∷ bs) → (s : Begun plain (b ∷ bs)) → ((rest : List ℕ) → length rest < length text → Words rest) → Words text
word_more text white b bs are_white starts parts s deeper =
    let some : 0 < length s.word = omega (arith, some_word b bs starts, s.long) in
    let r = deeper s.rest (omega (arith, ap length parts, length-append white (b ∷ bs), ap length s.parts, length-append s.word s.rest, some)) in
    (s.word ∷ r.0, (white, s.rest, parts ∙ ap (λ l. white ++ l) s.parts, are_white, some, ap (word_length plain) (sym s.parts) ∙ s.long, r.1))

words_behind : (text white rest : List ℕ) → list_all is_white white ≡ true → is_start rest ≡ true → text ≡ white ++ rest → ((rest : List ℕ) → length rest < length text → Words rest) → Words text
words_behind text white [] are_white starts parts deeper = ([], (white, parts, are_white))
words_behind text white (b ∷ bs) are_white starts parts deeper = word_more text white b bs are_white starts parts (first_of plain (b ∷ bs)) deeper

words_of : (most : ℕ) (text : List ℕ) → length text ≤ most → Words text
words_of zero [] few = ([], ([], refl, refl))
words_of zero (b ∷ bs) few = absurd (omega (arith, few))
words_of (suc most) text few =
    let s = skip text in
    words_behind text s.white s.rest s.are_white s.starts s.parts (λ rest less. words_of most rest (omega (arith, less, few)))

-- ---- where words lead to

-- a word behind a place at which none goes on
stuck_word : (s : State) (rest w mid : List ℕ) → IsStuck s rest → rest ≡ w ++ mid → 0 < length w → word_length plain (w ++ mid) ≡ length w → step s w ≡ None
stuck_word s [] w mid stuck parts some long = absurd (omega (arith, some, ap length parts, length-append w mid))
stuck_word s (b ∷ bs) w mid stuck parts some long = ap (step s) (sym (ap first_word parts ∙ ap (λ n. take n (w ++ mid)) long ∙ take_front w mid)) ∙ stuck

stops_there : (words : List (List ℕ)) (s t : State) (w : List ℕ) → step s w ≡ None → run (Some s) (w ∷ words) ≡ Some t → ⊥
stops_there words s t w stuck reads = none_not t (sym (ap (λ o. run o words) stuck ∙ run_none words) ∙ reads)

same_stop : (words others : List (List ℕ)) (text rest left : List ℕ) (s t u : State) → Splits words text rest → Splits others text left → is_start rest ≡ true → is_start left ≡ true
    → run (Some s) words ≡ Some t → run (Some s) others ≡ Some u → IsStuck t rest → IsStuck u left → (t ≡ u) × (rest ≡ left)
same_stop [] [] text rest left s t u h k a b r q f g = (same_Some t u (sym r ∙ q), same_white h.0 k.0 rest left h.2 k.2 a b (sym h.1 ∙ k.1))
same_stop [] (v ∷ others) text rest left s t u h k a b r q f g =
    let e : rest ≡ v ++ k.1 = same_white h.0 k.0 rest (v ++ k.1) h.2 k.3 a (word_starts v k.1 k.4 k.5) (sym h.1 ∙ k.2) in
    absurd (stops_there others s u v (ap (λ x. step x v) (same_Some s t r) ∙ stuck_word t rest v k.1 f e k.4 k.5) q)
same_stop (w ∷ words) [] text rest left s t u h k a b r q f g =
    let e : left ≡ w ++ h.1 = same_white k.0 h.0 left (w ++ h.1) k.2 h.3 b (word_starts w h.1 h.4 h.5) (sym k.1 ∙ h.2) in
    absurd (stops_there words s t w (ap (λ x. step x w) (same_Some s u q) ∙ stuck_word u left w h.1 g e h.4 h.5) r)
same_stop (w ∷ words) (v ∷ others) text rest left s t u h k a b r q f g =
    let e : w ++ h.1 ≡ v ++ k.1 = same_white h.0 k.0 (w ++ h.1) (v ++ k.1) h.3 k.3 (word_starts w h.1 h.4 h.5) (word_starts v k.1 k.4 k.5) (sym h.2 ∙ k.2) in
    let p = same_word w v h.1 k.1 h.5 k.5 e in
    by (step s w) refl (λ next is.
    same_stop words others h.1 rest left next t u h.6 (subst (λ l. Splits others l left) (sym p.1) k.6) a b
    (ap (λ o. run o words) (sym is) ∙ r) (ap (λ o. run o others) (sym is ∙ ap (step s) p.0) ∙ q) f g)
  where
    by : (o : Option State) → step s w ≡ o → ((next : State) → step s w ≡ Some next → (t ≡ u) × (rest ≡ left)) → (t ≡ u) × (rest ≡ left)
    by None is deeper = absurd (stops_there words s t w is r)
    by (Some next) is deeper = deeper next is

pub one_stop : (text : List ℕ) (place other : ℕ) (kind reason : LineKind) → Stopped text place kind → Stopped text other reason → (place ≡ other) × (kind ≡ reason)
one_stop text place other kind reason h k = by (words_of (length text) text (omega arith)) (same_stop h.passed.words k.passed.words text h.rest k.rest none h.state k.state h.passed.splits k.passed.splits h.start k.start h.passed.reads k.passed.reads h.stuck k.stuck)
  where
    place_at : State → List ℕ → ℕ
    place_at s rest = place_of text rest (spot_of s.1) (length s.0.outer) (first_word rest)

    kind_at : ℕ → State → List ℕ → Bool → LineKind
    kind_at at s rest bare = kind_of (length text) at (spot_of s.1) (length s.0.outer) (first_word rest) bare

    by : Words text → (h.state ≡ k.state) × (h.rest ≡ k.rest) → (place ≡ other) × (kind ≡ reason)
    by words same =
        let at : place ≡ other = h.placed ∙ ap (λ s. place_at s h.rest) same.0 ∙ ap (place_at k.state) same.1 ∙ sym k.placed in
        let bare : Bool = list_all is_bracket words.0 in
        (at, h.why words.0 words.1 ∙ ap (λ n. kind_at n h.state h.rest bare) at ∙ ap (λ s. kind_at other s h.rest bare) same.0 ∙ ap (λ l. kind_at other k.state l bare) same.1 ∙ sym (k.why words.0 words.1))
