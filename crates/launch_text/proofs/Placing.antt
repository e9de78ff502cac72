-- The place of a refusal is the longest front of the text with which some line begins.
use Rattle.std.proofs.Common.{◌≡◌, ℕ, zero, suc, ◌+◌, ◌-◌, ◌<◌, ◌≤◌, Bool, true, false, cond, ◌&&◌, not, List, [], ◌∷◌, ◌++◌, length, take, drop, Option, Some, None, Result, Ok, Err, inl, inr, ◌⊎◌, refl, sym, ap, ◌∙◌, subst, arith, append_assoc, append-nil, length-append}
use Rattle.std.specs.List.{list_all}
use Rattle.std.proofs.lemmas.Bool.{cases_lt}
use Rattle.std.proofs.lemmas.List.Folds.{list_all-append}
use Rattle.std.proofs.lemmas.Option.{none-some}
use Rattle.text_words.specs.Bytes.{is_white}
use Rattle.text_words.specs.Values.{◌>>=◌}
use Rattle.text_words.specs.Words.{after, is_closed, is_plain, plain}
use Rattle.text_words.specs.declared.class.Class.TheVariants.{Kind}
use Rattle.text_words.specs.declared.word.Mode.{Mode}
use Rattle.launch_text.specs.Grammar.{IsLine}
use Rattle.launch_text.specs.Parsed.{Stopped, Told}
use Rattle.launch_text.specs.Places.{IsFront, IsPlace, front_of, spot_of}
use Rattle.launch_text.specs.Printed.{reference_text}
use Rattle.launch_text.specs.Reading.{IsStuck, Splits, State, finish, first_word, none, run, step, tree_of}
use Rattle.launch_text.specs.Tokens.{Token, opens, closes, link, kind, property, caps, reference}
use Rattle.launch_text.specs.Words.{ends, is_start, word_length}
use Rattle.launch_text.specs.declared.fault.LineFault.{LineFault}
use Rattle.launch_text.specs.declared.fault.LineFault.TheVariants.{BadLine}
use Rattle.launch_text.specs.declared.fault.LineKind.{LineKind}
use Rattle.launch_text.specs.declared.tree.Tree.{Tree}
use Rattle.launch_text.proofs.Again.{spaced_ends, spaced_splits, spaced_words}
use Rattle.launch_text.proofs.Calm.{calm_closed, property_closed, reference_calm, run_calm, stops_alone, stops_ends, stops_more}
use Rattle.launch_text.proofs.Complete.{tree_read}
use Rattle.launch_text.proofs.Cutting.{length_front, two_parts, within}
use Rattle.launch_text.proofs.Extending.{completes, extends}
use Rattle.launch_text.proofs.Fronts.{front_cut}
use Rattle.launch_text.proofs.Longest.{front_long}
use Rattle.launch_text.proofs.Parsing.{told_sound}
use Rattle.launch_text.proofs.Runs.{front_within}
use Rattle.launch_text.proofs.Sound.{words_fine}
use Rattle.launch_text.proofs.Spelling.{Means, One, Says, Spells, line_spelt}
use Rattle.launch_text.proofs.Splitting.{first_is, more_words, run_append, run_none, some_words, unique}
use Rattle.gst_value.proofs.Basics.{and_left, and_right, and_both as both_true}
use Rattle.gst_value.proofs.Places.{take_front}

-- words that were read are closed
means_closed : (w : List ℕ) (t : Token) → Means w t → is_closed w ≡ true
means_closed w opens m = ap is_closed m
means_closed w closes m = ap is_closed m
means_closed w link m = ap is_closed m
means_closed w (kind k) m = ap is_closed m.0 ∙ calm_closed k (run_calm Kind k m.1)
means_closed w (property name value) m = ap is_closed m.1 ∙ property_closed name m.0 m.2 ∙ m.3
means_closed w (caps text) m = absurd m
means_closed w (reference name pad) m = ap is_closed m.0 ∙ calm_closed (reference_text name pad) (reference_calm name pad m.1 m.2)

one_closed : (ws : List (List ℕ)) (t : Token) → One ws t → list_all is_closed ws ≡ true
one_closed ws t o = ap (list_all is_closed) o.1 ∙ both_true (is_closed o.0) true (means_closed o.0 t o.2) refl

says_closed : (ws : List (List ℕ)) (t : Token) → Says ws t → list_all is_closed ws ≡ true
says_closed ws opens s = one_closed ws opens s
says_closed ws closes s = one_closed ws closes s
says_closed ws link s = one_closed ws link s
says_closed ws (kind k) s = one_closed ws (kind k) s
says_closed ws (property name value) s = one_closed ws (property name value) s
says_closed ws (caps text) s = ap (list_all is_closed) s.is ∙ both_true (is_closed s.first) (list_all is_closed s.more) s.closed s.all_closed
says_closed ws (reference name pad) s = one_closed ws (reference name pad) s

spells_closed : (ts : List Token) (ws : List (List ℕ)) → Spells ts ws → list_all is_closed ws ≡ true
spells_closed [] ws s = ap (list_all is_closed) s
spells_closed (t ∷ ts) ws s = ap (list_all is_closed) s.2 ∙ list_all-append is_closed s.0 s.1 ∙ both_true (list_all is_closed s.0) (list_all is_closed s.1) (says_closed s.0 t s.3) (spells_closed ts s.1 s.4)

-- what may follow the words in place of the rest
abbrev Joins : List ℕ → List ℕ → Type 0
Joins rest z = (ends z ≡ true) ⊎ ((0 < length rest) × (is_start rest ≡ true))

apart : (x : List ℕ) → 0 < length x → ends x ≡ true → is_start x ≡ true → ⊥
apart [] some h k = absurd (omega (arith, some))
apart (b ∷ bs) some h k = bad (rw h at k)
  where
    bad : not true ≡ true → ⊥
    bad e = cc

still : (w b rest z : List ℕ) → is_closed w ≡ true → word_length plain (w ++ (b ++ rest)) ≡ length w → Joins rest z → word_length plain (w ++ (b ++ z)) ≡ length w
still w [] rest z c h (inl e) = stops_more plain w z (stops_alone plain w rest h) c e
still w [] rest z c h (inr s) = absurd (apart rest s.0 (stops_ends w rest h) s.1)
still w (x ∷ xs) rest z c h j = stops_more plain w ((x ∷ xs) ++ z) (stops_alone plain w ((x ∷ xs) ++ rest) h) c (stops_ends w ((x ∷ xs) ++ rest) h)

-- the words with another rest
record Before (words : List (List ℕ)) (text rest : List ℕ) : Type 0 where
  before : List ℕ
  is : text ≡ before ++ rest
  other : (z : List ℕ) → Joins rest z → Splits words (before ++ z) z

before_rest : (words : List (List ℕ)) (text rest : List ℕ) → list_all is_closed words ≡ true → Splits words text rest → Before words text rest
before_rest [] text rest c h = record { before = h.0; is = h.1; other = λ z j. (h.0, refl, h.2) }
before_rest (w ∷ ws) text rest c h =
    let ih = before_rest ws h.1 rest (and_right (is_closed w) (list_all is_closed ws) c) h.6 in
    record {
      before = h.0 ++ (w ++ ih.before);
      is = h.2 ∙ ap (λ l. h.0 ++ (w ++ l)) ih.is ∙ sym (append_assoc h.0 (w ++ ih.before) rest ∙ ap (λ l. h.0 ++ l) (append_assoc w ih.before rest));
      other = λ z j. (h.0, ih.before ++ z, append_assoc h.0 (w ++ ih.before) z ∙ ap (λ l. h.0 ++ l) (append_assoc w ih.before z), h.3, h.4, still w ih.before rest z (and_left (is_closed w) (list_all is_closed ws) c) (ap (λ l. word_length plain (w ++ l)) (sym ih.is) ∙ h.5) j, ih.other z j);
    }

line_of : (text : List ℕ) (ws : List (List ℕ)) (tree : Tree) → Splits ws text [] → tree_of ws ≡ Some tree → IsLine text tree
line_of text ws tree s e = told_sound text (Ok tree) (ws, s, e)

front_same : (b x : List ℕ) (n : ℕ) → n ≡ length b → take n (b ++ x) ≡ b
front_same b x n e = ap (λ m. take m (b ++ x)) e ∙ take_front b x

take_behind : (b x : List ℕ) (n k : ℕ) → n ≡ length b + k → take n (b ++ x) ≡ b ++ take k x
take_behind [] x n k e = ap (λ m. take m x) (omega (arith, e))
take_behind (c ∷ cs) x zero k e = absurd (omega (arith, e))
take_behind (c ∷ cs) x (suc n) k e = ap (λ l. c ∷ l) (take_behind cs x n k (omega (arith, e)))

-- the first word behind a front of the text
shorter_same : (m : Mode) (x y : List ℕ) (k : ℕ) → word_length m x < k → k ≤ length x → word_length m (take k x ++ y) ≡ word_length m x
shorter_same m x y zero h l = absurd (omega (arith, h))
shorter_same m [] y (suc k) h l = absurd (omega (arith, l))
shorter_same m (b ∷ bs) y (suc k) h l = go (is_plain m && is_white b) h (λ q. shorter_same (after m b) bs y k q (omega (arith, l)))
  where
    go : (t : Bool) → cond t 0 (suc (word_length (after m b) bs)) < suc k → (word_length (after m b) bs < k → word_length (after m b) (take k bs ++ y) ≡ word_length (after m b) bs) → cond t 0 (suc (word_length (after m b) (take k bs ++ y))) ≡ cond t 0 (suc (word_length (after m b) bs))
    go true q ih = refl
    go false q ih = ap suc (ih (omega (arith, q)))

take_less : (x y : List ℕ) (j k : ℕ) → j ≤ k → k ≤ length x → take j (take k x ++ y) ≡ take j x
take_less x y zero k h l = refl
take_less x y (suc j) zero h l = absurd (omega (arith, h))
take_less [] y (suc j) (suc k) h l = absurd (omega (arith, l))
take_less (b ∷ bs) y (suc j) (suc k) h l = ap (λ z. b ∷ z) (take_less bs y j k (omega (arith, h)) (omega (arith, l)))

word_begins : (m : Mode) (x y : List ℕ) (k : ℕ) → k ≤ word_length m x → (v : List ℕ) × (take (word_length m (take k x ++ y)) (take k x ++ y) ≡ take k x ++ v)
word_begins m x y zero h = (take (word_length m y) y, refl)
word_begins m [] y (suc k) h = absurd (omega (arith, h))
word_begins m (b ∷ bs) y (suc k) h = go (is_plain m && is_white b) h (λ q. word_begins (after m b) bs y k q)
  where
    go : (t : Bool) → suc k ≤ cond t 0 (suc (word_length (after m b) bs)) → (k ≤ word_length (after m b) bs → (v : List ℕ) × (take (word_length (after m b) (take k bs ++ y)) (take k bs ++ y) ≡ take k bs ++ v)) → (v : List ℕ) × (take (cond t 0 (suc (word_length (after m b) (take k bs ++ y)))) (b ∷ (take k bs ++ y)) ≡ b ∷ (take k bs ++ v))
    go true q ih = absurd (omega (arith, q))
    go false q ih = let i = ih (omega (arith, q)) in (i.0, ap (λ l. b ∷ l) i.1)

take_more : (x : List ℕ) (j k : ℕ) → k ≤ j → (q : List ℕ) × (take j x ≡ take k x ++ q)
take_more x j zero h = (take j x, refl)
take_more [] zero (suc k) h = absurd (omega (arith, h))
take_more [] (suc j) (suc k) h = ([], refl)
take_more (b ∷ bs) zero (suc k) h = absurd (omega (arith, h))
take_more (b ∷ bs) (suc j) (suc k) h = let i = take_more bs j k (omega (arith, h)) in (i.0, ap (λ l. b ∷ l) i.1)

take_start : (x y : List ℕ) (k : ℕ) → 0 < k → 0 < length x → is_start x ≡ true → is_start (take k x ++ y) ≡ true
take_start x y zero h some s = absurd (omega (arith, h))
take_start [] y (suc k) h some s = absurd (omega (arith, some))
take_start (b ∷ bs) y (suc k) h some s = s

is_stuck : (s : State) (rest : List ℕ) → 0 < length rest → IsStuck s rest → step s (first_word rest) ≡ None
is_stuck s [] some h = absurd (omega (arith, some))
is_stuck s (b ∷ bs) some h = h

-- a state from which words lead to a tree takes the first one
takes_first : (s : State) (v : List ℕ) (ws : List (List ℕ)) (tree : Tree) → (run (Some s) (v ∷ ws) >>= finish) ≡ Some tree → (t : State) × (step s v ≡ Some t)
takes_first s v ws tree e = go (step s v) refl e
  where
    go : (o : Option State) → step s v ≡ o → (run o ws >>= finish) ≡ Some tree → (t : State) × (step s v ≡ Some t)
    go None f k = absurd (none-some tree (sym (ap (λ o. o >>= finish) (run_none ws)) ∙ k))
    go (Some t) f k = (t, f)

module _ (text : List ℕ) (place : ℕ) (kind_is : LineKind) (st : Stopped text place kind_is) where
  abbrev words : List (List ℕ)
  words = st.passed.words

  cut : Before words text st.rest
  cut = before_rest words text st.rest (spells_closed _ words (words_fine words st.state st.passed.reads).spells) st.passed.splits

  abbrev word : List ℕ
  word = first_word st.rest

  abbrev front : List ℕ
  front = front_of (spot_of st.state.1) (length st.state.0.outer) word

  sizes : length text ≡ length cut.before + length st.rest
  sizes = ap length cut.is ∙ length-append cut.before st.rest

  at : place ≡ length cut.before + length front
  at = omega (arith, st.placed, sizes)

  word_long : length word ≡ word_length plain st.rest
  word_long = length_front st.rest (word_length plain st.rest) (within plain st.rest)

  front_short : length front ≤ length word
  front_short = front_within (spot_of st.state.1) (length st.state.0.outer) word

  inside : place ≤ length text
  inside = omega (arith, at, sizes, front_short, word_long, within plain st.rest)

  -- the front of the text is what was read with the front of the word
  front_is : take place text ≡ cut.before ++ front
  front_is =
      let c = front_cut (spot_of st.state.1) (length st.state.0.outer) word in
      let w = two_parts st.rest (word_length plain st.rest) in
      let whole : text ≡ (cut.before ++ front) ++ (c.0 ++ drop (word_length plain st.rest) st.rest) = cut.is ∙ ap (λ l. cut.before ++ l) (w ∙ ap (λ l. l ++ drop (word_length plain st.rest) st.rest) c.1 ∙ append_assoc front c.0 (drop (word_length plain st.rest) st.rest)) ∙ sym (append_assoc cut.before front (c.0 ++ drop (word_length plain st.rest) st.rest)) in
      ap (take place) whole ∙ front_same (cut.before ++ front) (c.0 ++ drop (word_length plain st.rest) st.rest) place (at ∙ sym (length-append cut.before front))

  -- a line with the words and others behind them
  line_with : (z : List ℕ) (ws : List (List ℕ)) (tree : Tree) → Joins st.rest z → Splits ws z [] → (run (Some st.state) ws >>= finish) ≡ Some tree → IsLine (cut.before ++ z) tree
  line_with z ws tree j s e = line_of (cut.before ++ z) (words ++ ws) tree (more_words words ws (cut.before ++ z) z [] (cut.other z j) s) (ap (λ o. o >>= finish) (run_append (Some none) words ws ∙ ap (λ o. run o ws) st.passed.reads) ∙ e)

  is_front : (u : List ℕ) → front ≡ u → IsFront (cut.before ++ u)
  is_front [] e =
      let c = completes st.state.0 st.state.1 in
      (spaced_words c.words, c.tree, subst (λ l. IsLine l c.tree) (ap (λ l. l ++ spaced_words c.words) (sym (append-nil cut.before))) (line_with (spaced_words c.words) c.words c.tree (inl (spaced_ends c.words)) (spaced_splits c.words c.whole) c.reads))
  is_front (b ∷ bs) e =
      let some : 0 < length front = omega (arith, ap length e) in
      let full : 0 < length st.rest = omega (arith, some, front_short, word_long, within plain st.rest) in
      let all : word_length plain word ≡ length word = stops_alone plain word (drop (word_length plain st.rest) st.rest) (ap (word_length plain) (sym (two_parts st.rest (word_length plain st.rest))) ∙ sym word_long) in
      let x = extends st.state.0 st.state.1 word all some in
      let c = completes x.next.0 x.next.1 in
      let z : List ℕ = (front ++ x.suffix) ++ spaced_words c.words in
      let s : Splits ((front ++ x.suffix) ∷ c.words) ((front ++ x.suffix) ++ spaced_words c.words) [] = ([], spaced_words c.words, refl, refl, x.whole.some, stops_more plain (front ++ x.suffix) (spaced_words c.words) x.whole.all x.whole.closed (spaced_ends c.words), spaced_splits c.words c.whole) in
      let l = line_with ((front ++ x.suffix) ++ spaced_words c.words) ((front ++ x.suffix) ∷ c.words) c.tree (inr (full, st.start)) s (ap (λ o. run o c.words >>= finish) x.reads ∙ c.reads) in
      let is : cut.before ++ ((front ++ x.suffix) ++ spaced_words c.words) ≡ (cut.before ++ (b ∷ bs)) ++ (x.suffix ++ spaced_words c.words) = ap (λ l. cut.before ++ l) (append_assoc front x.suffix (spaced_words c.words)) ∙ sym (append_assoc cut.before front (x.suffix ++ spaced_words c.words)) ∙ ap (λ l. (cut.before ++ l) ++ (x.suffix ++ spaced_words c.words)) e in
      (x.suffix ++ spaced_words c.words, c.tree, subst (λ l. IsLine l c.tree) is l)

  -- no longer front
  too_long : (n k : ℕ) → n ≡ length cut.before + k → length front < k → k ≤ length st.rest → ¬ IsFront (take n text)
  too_long n k e more few f =
      let z : List ℕ = take k st.rest ++ f.0 in
      let full : 0 < length st.rest = omega (arith, more, few) in
      let is : take n text ++ f.0 ≡ cut.before ++ (take k st.rest ++ f.0) = ap (λ l. take n l ++ f.0) cut.is ∙ ap (λ l. l ++ f.0) (take_behind cut.before st.rest n k e) ∙ append_assoc cut.before (take k st.rest) f.0 in
      let line : IsLine (cut.before ++ (take k st.rest ++ f.0)) f.1 = subst (λ l. IsLine l f.1) is f.2 in
      let sp = line_spelt (cut.before ++ (take k st.rest ++ f.0)) f.1 line in
      let start : is_start (take k st.rest ++ f.0) ≡ true = take_start st.rest f.0 k (omega (arith, more)) full st.start in
      let u = unique words sp.0 (cut.before ++ (take k st.rest ++ f.0)) (take k st.rest ++ f.0) (cut.other (take k st.rest ++ f.0) (inr (full, st.start))) start sp.1 in
      let reads : (run (Some st.state) u.0 >>= finish) ≡ Some f.1 = sym (ap tree_of u.1 ∙ ap (λ o. o >>= finish) (run_append (Some none) words u.0 ∙ ap (λ o. run o u.0) st.passed.reads)) ∙ tree_read f.1 sp.0 line.fits sp.2 in
      go u.0 u.2 reads start (is_stuck st.state st.rest full st.stuck) more few
    where
      refused : (v : List ℕ) (t : State) → step st.state v ≡ Some t → v ≡ first_word (take k st.rest ++ f.0) → step st.state word ≡ None → ⊥
      refused v t h g stuck = elim (cases_lt (word_length plain st.rest) k) [
        | inl less ↦
            let same : first_word (take k st.rest ++ f.0) ≡ word = ap (λ m. take m (take k st.rest ++ f.0)) (shorter_same plain st.rest f.0 k less few) ∙ take_less st.rest f.0 (word_length plain st.rest) k (omega (arith, less)) few in
            none-some t (sym stuck ∙ ap (step st.state) (sym (g ∙ same)) ∙ h)
        | inr le ↦
            let b = word_begins plain st.rest f.0 k le in
            let q = take_more st.rest (word_length plain st.rest) k le in
            let long : length (take k st.rest) ≤ length (front_of (spot_of st.state.1) (length st.state.0.outer) (take k st.rest ++ q.0)) = front_long st.state.0 st.state.1 (take k st.rest) b.0 q.0 t (ap (step st.state) (sym (g ∙ b.1)) ∙ h) in
            let same : length (front_of (spot_of st.state.1) (length st.state.0.outer) (take k st.rest ++ q.0)) ≡ length front = ap (λ w. length (front_of (spot_of st.state.1) (length st.state.0.outer) w)) (sym q.1) in
            omega (arith, long, same, length_front st.rest k few, more)
      ]

      go : (ws : List (List ℕ)) → Splits ws (take k st.rest ++ f.0) [] → (run (Some st.state) ws >>= finish) ≡ Some f.1 → is_start (take k st.rest ++ f.0) ≡ true → step st.state word ≡ None → length front < k → k ≤ length st.rest → ⊥
      go [] s r start stuck more few = empty (take k st.rest ++ f.0) refl start s
        where
          empty : (z : List ℕ) → take k st.rest ++ f.0 ≡ z → is_start (take k st.rest ++ f.0) ≡ true → Splits [] (take k st.rest ++ f.0) [] → ⊥
          empty [] q start s = let a = ap length q in let b : length (take k st.rest ++ f.0) ≡ 0 = a in omega (arith, b, length-append (take k st.rest) f.0, length_front st.rest k few, more)
          empty (b ∷ bs) q start s = some_words b bs (ap is_start (sym q) ∙ start) (subst (λ l. Splits [] l []) q s)
      go (v ∷ ws) s r start stuck more few = let t = takes_first st.state v ws f.1 r in refused v t.0 t.1 (first_is v ws (take k st.rest ++ f.0) [] start s) stuck

  pub stopped_place : IsPlace text place
  stopped_place = record {
    within = inside;
    front = subst IsFront (sym front_is) (is_front front refl);
    longest = λ n more few. too_long n (n - length cut.before) (omega (arith, at, more)) (omega (arith, at, more)) (omega (arith, few, sizes, more));
  }

-- what is told of a text has its place
pub told_place : (text : List ℕ) (r : Result Tree LineFault) (place : ℕ) (why : LineKind) → Told text r → r ≡ Err (BadLine place why) → IsPlace text place
told_place text r place why t e = stopped_place text place why (subst (Told text) e t)

pub told_kind : (text : List ℕ) (r : Result Tree LineFault) (place : ℕ) (why : LineKind) → Told text r → r ≡ Err (BadLine place why) → Stopped text place why
told_kind text r place why t e = subst (Told text) e t
