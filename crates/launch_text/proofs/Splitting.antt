-- A text has its words in one way.
use Rattle.std.proofs.Common.{◌≡◌, ℕ, suc, ◌<◌, Bool, true, false, cond, eqb, ◌&&◌, not, List, [], ◌∷◌, ◌++◌, length, drop, take, Option, Some, None, refl, sym, ap, ◌∙◌, subst, arith, append_assoc}
use Rattle.std.specs.List.{list_all, take_while}
use Rattle.std.proofs.lemmas.Bool.{eqb-true}
use Rattle.std.proofs.lemmas.List.Folds.{list_all-append}
use Rattle.text_words.specs.Bytes.{is_white}
use Rattle.text_words.specs.Values.{◌>>=◌}
use Rattle.text_words.specs.Words.{after, plain}
use Rattle.launch_text.specs.Reading.{Passed, Splits, State, first_word, behind_word, none, run, step}
use Rattle.launch_text.specs.Words.{is_start, word_length}
use Rattle.launch_text.proofs.Cutting.{behind_start, front_white, length_front, some_word, two_parts, within}
use Rattle.gst_value.proofs.Basics.{no_true, and_left, and_right, and_both as both_true}
use Rattle.gst_value.proofs.Places.{same_front, take_front}

pub white_both : (a b : List ℕ) → list_all is_white a ≡ true → list_all is_white b ≡ true → list_all is_white (a ++ b) ≡ true
white_both a b h k = list_all-append is_white a b ∙ both_true (list_all is_white a) (list_all is_white b) h k

-- words behind others
pub more_words : (xs ys : List (List ℕ)) (text mid rest : List ℕ) → Splits xs text mid → Splits ys mid rest → Splits (xs ++ ys) text rest
more_words [] [] text mid rest h k = (h.0 ++ k.0, h.1 ∙ ap (λ l. h.0 ++ l) k.1 ∙ sym (append_assoc h.0 k.0 rest), white_both h.0 k.0 h.2 k.2)
more_words [] (y ∷ ys) text mid rest h k = (h.0 ++ k.0, k.1, h.1 ∙ ap (λ l. h.0 ++ l) k.2 ∙ sym (append_assoc h.0 k.0 (y ++ k.1)), white_both h.0 k.0 h.2 k.3, k.4, k.5, k.6)
more_words (x ∷ xs) ys text mid rest h k = (h.0, h.1, h.2, h.3, h.4, h.5, more_words xs ys h.1 mid rest h.6 k)

pub run_append : (o : Option State) (xs ys : List (List ℕ)) → run o (xs ++ ys) ≡ run (run o xs) ys
run_append o [] ys = refl
run_append o (x ∷ xs) ys = run_append (o >>= (λ s. step s x)) xs ys

pub run_none : (xs : List (List ℕ)) → run None xs ≡ None
run_none [] = refl
run_none (x ∷ xs) = run_none xs

-- one word at the front
pub word_split : (rest word mid front next : List ℕ) → is_start rest ≡ true → 0 < length rest → word ≡ first_word rest → mid ≡ behind_word rest → mid ≡ front ++ next → list_all is_white front ≡ true → Splits (word ∷ []) rest next
word_split rest word mid front next start some e f g white = ([], mid, is, refl, omega (arith, long, some_word rest start some), ap (word_length plain) (sym is) ∙ sym long, (front, g, white))
  where
    is : rest ≡ word ++ mid
    is = two_parts rest (word_length plain rest) ∙ ap (λ l. l ++ behind_word rest) (sym e) ∙ ap (λ l. word ++ l) (sym f)

    long : length word ≡ word_length plain rest
    long = ap length e ∙ length_front rest (word_length plain rest) (within plain rest)

-- one word more is read
pub passed_word : (text rest word mid front next : List ℕ) (s t : State) → Passed text rest s → is_start rest ≡ true → 0 < length rest → word ≡ first_word rest → mid ≡ behind_word rest → mid ≡ front ++ next → list_all is_white front ≡ true → step s word ≡ Some t → Passed text next t
passed_word text rest word mid front next s t p start some e f g white h = record {
  words = p.words ++ word ∷ [];
  splits = more_words p.words (word ∷ []) text rest next p.splits (word_split rest word mid front next start some e f g white);
  reads = run_append (Some none) p.words (word ∷ []) ∙ ap (λ o. o >>= (λ s. step s word)) p.reads ∙ h;
}

pub start_white : (b : ℕ) (bs ys : List ℕ) → list_all is_white (b ∷ bs) ≡ true → is_start ((b ∷ bs) ++ ys) ≡ true → ⊥
start_white b bs ys h k = no_true (rw (and_left (is_white b) (list_all is_white bs) h) at k)

-- white space ends where something else begins
pub same_white : (a b x y : List ℕ) → list_all is_white a ≡ true → list_all is_white b ≡ true → is_start x ≡ true → is_start y ≡ true → a ++ x ≡ b ++ y → (a ≡ b) × (x ≡ y)
same_white [] [] x y ha hb sx sy e = (refl, e)
same_white [] (b ∷ bs) x y ha hb sx sy e = absurd (start_white b bs y hb (subst (λ l. is_start l ≡ true) e sx))
same_white (a ∷ rs) [] x y ha hb sx sy e = absurd (start_white a rs x ha (subst (λ l. is_start l ≡ true) (sym e) sy))
same_white (a ∷ rs) (b ∷ bs) x y ha hb sx sy e =
    let head : a ≡ b = cc in
    let tail : rs ++ x ≡ bs ++ y = cc in
    let r = same_white rs bs x y (and_right (is_white a) (list_all is_white rs) ha) (and_right (is_white b) (list_all is_white bs) hb) sx sy tail in
    ((λ i. head i ∷ r.0 i), r.1)

pub same_word : (w v x y : List ℕ) → word_length plain (w ++ x) ≡ length w → word_length plain (v ++ y) ≡ length v → w ++ x ≡ v ++ y → (w ≡ v) × (x ≡ y)
same_word w v x y h k e = same_front w v x y (sym h ∙ ap (word_length plain) e ∙ k) e

pub word_starts : (w x : List ℕ) → 0 < length w → word_length plain (w ++ x) ≡ length w → is_start (w ++ x) ≡ true
word_starts [] x some h = absurd (omega (arith, some))
word_starts (b ∷ bs) x some h = step (is_white b) h
  where
    step : (t : Bool) → cond t 0 (suc (word_length (after plain b) (bs ++ x))) ≡ suc (length bs) → not t ≡ true
    step true e = absurd (omega (arith, e))
    step false e = refl

nothing : (w x : List ℕ) → 0 < length w → [] ≡ w ++ x → ⊥
nothing [] x some e = absurd (omega (arith, some))
nothing (b ∷ bs) x some e = cc

-- other words of the text begin with those that were read
pub unique : (front vs : List (List ℕ)) (text mid : List ℕ) → Splits front text mid → is_start mid ≡ true → Splits vs text [] → (ws : List (List ℕ)) × (vs ≡ front ++ ws) × Splits ws mid []
unique [] [] text mid h s k =
    let r = same_white h.0 k.0 mid [] h.2 k.2 s refl (sym h.1 ∙ k.1) in
    ([], refl, ([], r.1, refl))
unique [] (v ∷ vs) text mid h s k =
    let r = same_white h.0 k.0 mid (v ++ k.1) h.2 k.3 s (word_starts v k.1 k.4 k.5) (sym h.1 ∙ k.2) in
    (v ∷ vs, refl, ([], k.1, r.1, refl, k.4, k.5, k.6))
unique (w ∷ ws) [] text mid h s k =
    let r = same_white h.0 k.0 (w ++ h.1) [] h.3 k.2 (word_starts w h.1 h.4 h.5) refl (sym h.2 ∙ k.1) in
    absurd (nothing w h.1 h.4 (sym r.1))
unique (w ∷ ws) (v ∷ vs) text mid h s k =
    let r = same_white h.0 k.0 (w ++ h.1) (v ++ k.1) h.3 k.3 (word_starts w h.1 h.4 h.5) (word_starts v k.1 k.4 k.5) (sym h.2 ∙ k.2) in
    let q = same_word w v h.1 k.1 h.5 k.5 r.1 in
    let u = unique ws vs h.1 mid h.6 s (subst (λ l. Splits vs l []) (sym q.1) k.6) in
    (u.0, (λ i. sym q.0 i ∷ u.1 i), u.2)

pub no_words : (ws : List (List ℕ)) → Splits ws [] [] → ws ≡ []
no_words [] h = refl
no_words (w ∷ ws) h = absurd (empty h.0 h.2)
  where
    empty : (white : List ℕ) → [] ≡ white ++ (w ++ h.1) → ⊥
    empty [] e = nothing w h.1 h.4 e
    empty (b ∷ bs) e = cc

pub drop_front : (w x : List ℕ) → drop (length w) (w ++ x) ≡ x
drop_front [] x = refl
drop_front (b ∷ bs) x = drop_front bs x

-- where a text begins with no white space its first word stands there
pub first_is : (w : List ℕ) (ws : List (List ℕ)) (x rest : List ℕ) → is_start x ≡ true → Splits (w ∷ ws) x rest → w ≡ first_word x
first_is w ws x rest s h =
    let r = same_white [] h.0 x (w ++ h.1) refl h.3 s (word_starts w h.1 h.4 h.5) h.2 in
    sym (take_front w h.1) ∙ ap (λ n. take n (w ++ h.1)) (sym h.5) ∙ ap first_word (sym r.1)

pub some_words : (b : ℕ) (bs : List ℕ) → is_start (b ∷ bs) ≡ true → Splits [] (b ∷ bs) [] → ⊥
some_words b bs s h = empty h.0 h.1 h.2
  where
    empty : (white : List ℕ) → b ∷ bs ≡ white ++ [] → list_all is_white white ≡ true → ⊥
    empty [] e w = cc
    empty (a ∷ rs) e w = start_white a rs [] w (subst (λ l. is_start l ≡ true) e s)

-- whether all words pass a test is left to those behind the first, where it passes
abbrev pub LeftTo : (List ℕ → Bool) → List ℕ → List ℕ → Type 0
LeftTo test text rest = (words : List (List ℕ)) → Splits words text [] → (others : List (List ℕ)) × (list_all test words ≡ list_all test others) × Splits others rest []

pub left_start : (test : List ℕ → Bool) (text front rest : List ℕ) → text ≡ front ++ rest → list_all is_white front ≡ true → is_start rest ≡ true → LeftTo test text rest
left_start test text front rest e w s words h = let u = unique [] words text rest (front, e, w) s h in (u.0, ap (list_all test) u.1, u.2)

left_one : (test : List ℕ → Bool) (rest word next : List ℕ) (others : List (List ℕ)) → Splits (word ∷ []) rest next → is_start next ≡ true → Splits others rest [] → (more : List (List ℕ)) × (list_all test others ≡ (test word && list_all test more)) × Splits more next []
left_one test rest word next others one s h = let u = unique (word ∷ []) others rest next one s h in (u.0, ap (list_all test) u.1, u.2)

pub left_more : (test : List ℕ → Bool) (text rest word next : List ℕ) → LeftTo test text rest → Splits (word ∷ []) rest next → is_start next ≡ true → test word ≡ true → LeftTo test text next
left_more test text rest word next l one s t words h =
    let o = l words h in
    let m = left_one test rest word next o.0 one s o.2 in
    (m.0, o.1 ∙ m.1 ∙ ap (λ b. b && list_all test m.0) t, m.2)

pub left_none : (test : List ℕ → Bool) (text rest word next : List ℕ) → LeftTo test text rest → Splits (word ∷ []) rest next → is_start next ≡ true → test word ≡ false → (words : List (List ℕ)) → Splits words text [] → false ≡ list_all test words
left_none test text rest word next l one s t words h =
    let o = l words h in
    let m = left_one test rest word next o.0 one s o.2 in
    sym (o.1 ∙ m.1 ∙ ap (λ b. b && list_all test m.0) t)

pub left_end : (test : List ℕ → Bool) (text : List ℕ) → LeftTo test text [] → (words : List (List ℕ)) → Splits words text [] → true ≡ list_all test words
left_end test text l words h = let o = l words h in sym (o.1 ∙ ap (list_all test) (no_words o.0 o.2))

pub left_done : (test : List ℕ → Bool) (text rest : List ℕ) → LeftTo test text rest → eqb (length rest) 0 ≡ true → (words : List (List ℕ)) → Splits words text [] → true ≡ list_all test words
left_done test text [] l e = left_end test text l
left_done test text (b ∷ bs) l e = absurd (let none : suc (length bs) ≡ 0 = eqb-true (suc (length bs)) 0 e in omega (arith, none))

pub left_stop : (test : List ℕ → Bool) (text rest word mid : List ℕ) → LeftTo test text rest → is_start rest ≡ true → 0 < length rest → word ≡ first_word rest → mid ≡ behind_word rest → test word ≡ false → (words : List (List ℕ)) → Splits words text [] → false ≡ list_all test words
left_stop test text rest word mid l start some e f t =
    let w = front_white mid in
    left_none test text rest word (drop (length (take_while is_white mid)) mid) l (word_split rest word mid w.0 (drop (length (take_while is_white mid)) mid) start some e f w.1 w.2) (behind_start mid) t
