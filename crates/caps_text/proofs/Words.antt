-- Readers of marks, spaces, runs, words and quoted strings.
use Rattle.std.proofs.Common.{◌≡◌, ◌≢◌, ℕ, ◌<◌, Bool, true, false, cond, eqb, ◌&&◌, List, [], ◌∷◌, ◌++◌, length, Option, Some, None, Ok, Err, inl, inr, refl, sym, ap, ◌∙◌, subst, arith, codes}
use Rattle.std.specs.List.{list_all}
use Rattle.std.proofs.lemmas.Bool.{eq-eqb, eqb-false, ne_eqb}
use Rattle.std.proofs.lemmas.Bool.Decides.{eqb_tells}
use Rattle.caps_text.specs.Answers.{Answer, misspelt, ◌>>=◌}
use Rattle.caps_text.specs.Bytes.{in_class, is_letter}
use Rattle.caps_text.specs.Grammar.{Then, As, Is, Spaces, Mark, Run, Field_name, Media_type, is_space}
use Rattle.caps_text.specs.Reading.{after_byte, behind_run, behind_spaces, expect, letter_first, passed, read_literal, read_mark, read_media, read_name, run_of, some_run}
use Rattle.caps_text.specs.declared.class.Class.{Class}
use Rattle.caps_text.specs.declared.class.Class.TheVariants.{Media, Name}
use Rattle.caps_text.proofs.Readers.{IsReader, Reads_front, Stops, Starts, nothing, ok_is, bind_ok, reads_then, reads_as, stops_nothing, starts_stop, starts_more}
use Rattle.caps_text.proofs.Tokens.{after_byte_is}

pub passes : (mark : ℕ) (rest : List ℕ) → after_byte mark (mark ∷ rest) ≡ Some rest
passes mark rest = rw (eq-eqb mark mark refl) refl

-- a byte
byte_sound : (mark : ℕ) (x rest : List ℕ) (v : Unit {0}) → expect mark x ≡ Ok (v, rest) → Reads_front (Is (mark ∷ [])) x v rest
unfolding expect
byte_sound mark x rest v h = step (after_byte mark x) refl h
  where
    step : (o : Option (List ℕ)) → after_byte mark x ≡ o → passed x o ≡ Ok (v, rest) → Reads_front (Is (mark ∷ [])) x v rest
    step None e h = absurd (cc)
    step (Some r) e h = let same = ap (λ p. p.1) (ok_is (tt, r) (v, rest) h) in (mark ∷ [], after_byte_is mark x r e ∙ ap (λ l. mark ∷ l) same, refl)

byte_complete : (mark : ℕ) (used rest : List ℕ) (v : Unit {0}) → Is (mark ∷ []) used v → Stops nothing rest → expect mark (used ++ rest) ≡ Ok (v, rest)
unfolding expect
byte_complete mark used rest v h stop = rw h (rw (passes mark rest) refl)

pub reads_byte : (mark : ℕ) → IsReader (Is (mark ∷ [])) nothing (expect mark)
reads_byte mark = record { sound = byte_sound mark; complete = byte_complete mark }

-- spaces
spaces_front : (x : List ℕ) → (used : List ℕ) × (x ≡ used ++ behind_spaces x) × (list_all is_space used ≡ true)
spaces_front [] = ([], refl, refl)
spaces_front (b ∷ bs) = step (eqb b 32) refl (spaces_front bs)
  where
    step : (t : Bool) → eqb b 32 ≡ t → (used : List ℕ) × (bs ≡ used ++ behind_spaces bs) × (list_all is_space used ≡ true) → (used : List ℕ) × (b ∷ bs ≡ used ++ cond (eqb b 32) (behind_spaces bs) (b ∷ bs)) × (list_all is_space used ≡ true)
    step true e ih = (b ∷ ih.0, rw e (ap (λ l. b ∷ l) ih.1), rw e ih.2)
    step false e ih = ([], rw e refl, refl)

stopped : (rest : List ℕ) → Stops is_space rest → behind_spaces rest ≡ rest
stopped [] h = refl
stopped (b ∷ bs) h = rw h refl

spaces_gone : (used rest : List ℕ) → list_all is_space used ≡ true → Stops is_space rest → behind_spaces (used ++ rest) ≡ rest
spaces_gone [] rest h stop = stopped rest stop
spaces_gone (b ∷ bs) rest h stop = step (eqb b 32) refl (spaces_gone bs rest)
  where
    step : (t : Bool) → eqb b 32 ≡ t → (list_all is_space bs ≡ true → Stops is_space rest → behind_spaces (bs ++ rest) ≡ rest) → cond (eqb b 32) (behind_spaces (bs ++ rest)) (b ∷ (bs ++ rest)) ≡ rest
    step true e ih = rw e (ih (rw e at h) stop)
    step false e ih = absurd (let bad : false ≡ true = rw e at h in cc)

abbrev pub skipping : List ℕ → Answer (Unit {0})
skipping x = Ok (tt, behind_spaces x)

pub reads_spaces : IsReader Spaces is_space skipping
reads_spaces = record {
  sound = λ x rest v h. let same = ap (λ p. p.1) (ok_is (tt, behind_spaces x) (v, rest) h) in let f = spaces_front x in (f.0, f.1 ∙ ap (λ l. f.0 ++ l) same, f.2);
  complete = λ used rest v h stop. ap (λ l. Ok (tt, l)) (spaces_gone used rest h stop);
}

-- what begins with a byte
pub starts_is : {W : Type 0} (test : ℕ → Bool) (m : ℕ) (ms : List ℕ) (Q : Unit {0} → List ℕ → W → Type 0) (text : List ℕ) (w : W) → test m ≡ false → Then (Is (m ∷ ms)) Q text w → Starts test text
starts_is test m ms Q text w e h = subst (Starts test) (sym (h.3 ∙ ap (λ l. l ++ h.1) h.4)) e

pub starts_spaces : (test : ℕ → Bool) (used rest : List ℕ) → list_all is_space used ≡ true → test 32 ≡ false → Starts test rest → Starts test (used ++ rest)
starts_spaces test [] rest h e s = s
starts_spaces test (b ∷ bs) rest h e s = step (eqb b 32) refl
  where
    step : (t : Bool) → eqb b 32 ≡ t → test b ≡ false
    step true t = elim (eqb_tells b 32) [ inl u ↦ ap test u.1 ∙ e | inr u ↦ absurd (let bad : true ≡ false = sym t ∙ u.0 in cc) ]
    step false t = absurd (let bad : false ≡ true = rw t at h in cc)

pub starts_mark : {W : Type 0} (test : ℕ → Bool) (m : ℕ) (Q : Unit {0} → List ℕ → W → Type 0) (text : List ℕ) (w : W) → test 32 ≡ false → test m ≡ false → Then (Mark m) Q text w → Starts test text
starts_mark test m Q text w e f h =
    let mark = h.4 in
    let inner = mark.5 in
    let begins : Starts test mark.1 = subst (Starts test) (sym (inner.3 ∙ ap (λ l. l ++ inner.1) inner.4)) f in
    let all : Starts test h.0 = subst (Starts test) (sym mark.3) (starts_spaces test mark.0 mark.1 mark.4 e begins) in
    subst (Starts test) (sym h.3) (starts_more test h.0 h.1 all)

-- a mark with spaces
pub reads_mark : (mark : ℕ) → eqb mark 32 ≡ false → IsReader (Mark mark) is_space (read_mark mark)
unfolding read_mark
reads_mark mark e =
    reads_then Spaces (λ s. Then (Is (mark ∷ [])) (λ m. Spaces)) is_space is_space skipping (λ s x. expect mark x >>= λ b. skipping b.1) reads_spaces
    (λ s. reads_then (Is (mark ∷ [])) (λ m. Spaces) nothing is_space (expect mark) (λ m x. skipping x) (reads_byte mark) (λ m. reads_spaces) (λ v back w rest q stop. stops_nothing (back ++ rest)))
    (λ v back w rest q stop. starts_stop is_space back rest (starts_is is_space mark [] (λ m. Spaces) back w e q))

-- bytes of a class
pub run_splits : (class : Class) (x : List ℕ) → (x ≡ run_of class x ++ behind_run class x) × (list_all (in_class class) (run_of class x) ≡ true)
run_splits class [] = (refl, refl)
run_splits class (b ∷ bs) = step (in_class class b) refl (run_splits class bs)
  where
    step : (t : Bool) → in_class class b ≡ t → (bs ≡ run_of class bs ++ behind_run class bs) × (list_all (in_class class) (run_of class bs) ≡ true) → (b ∷ bs ≡ cond t (b ∷ run_of class bs) [] ++ cond t (behind_run class bs) (b ∷ bs)) × (list_all (in_class class) (cond t (b ∷ run_of class bs) []) ≡ true)
    step true e ih = (ap (λ l. b ∷ l) ih.0, ap (λ t. t && list_all (in_class class) (run_of class bs)) e ∙ ih.1)
    step false e ih = (refl, refl)

pub run_whole : (class : Class) (used rest : List ℕ) → list_all (in_class class) used ≡ true → Stops (in_class class) rest → (run_of class (used ++ rest) ≡ used) × (behind_run class (used ++ rest) ≡ rest)
run_whole class [] [] h stop = (refl, refl)
run_whole class [] (b ∷ bs) h stop = (ap (λ t. cond t (b ∷ run_of class bs) []) stop, ap (λ t. cond t (behind_run class bs) (b ∷ bs)) stop)
run_whole class (b ∷ bs) rest h stop = step (in_class class b) h (run_whole class bs rest)
  where
    step : (t : Bool) → (t && list_all (in_class class) bs) ≡ true → (list_all (in_class class) bs ≡ true → Stops (in_class class) rest → (run_of class (bs ++ rest) ≡ bs) × (behind_run class (bs ++ rest) ≡ rest)) → (cond t (b ∷ run_of class (bs ++ rest)) [] ≡ b ∷ bs) × (cond t (behind_run class (bs ++ rest)) (b ∷ (bs ++ rest)) ≡ rest)
    step true e ih = let r = ih e stop in (ap (λ l. b ∷ l) r.0, r.1)
    step false e ih = absurd (cc)

run_sound : (class : Class) (x rest : List ℕ) (v : List ℕ) → some_run class x ≡ Ok (v, rest) → Reads_front (Run class) x v rest
unfolding some_run
run_sound class x rest v h = step (eqb (length (run_of class x)) 0) refl h
  where
    step : (t : Bool) → eqb (length (run_of class x)) 0 ≡ t → cond {A = Answer (List ℕ)} t (Err (misspelt (behind_run class x))) (Ok (run_of class x, behind_run class x)) ≡ Ok (v, rest) → Reads_front (Run class) x v rest
    step true e h = absurd (cc)
    step false e h =
        let is = ok_is (run_of class x, behind_run class x) (v, rest) h in
        let s = run_splits class x in
        let some : length (run_of class x) ≢ 0 = eqb-false (length (run_of class x)) 0 e in
        (run_of class x, s.0 ∙ ap (λ p. run_of class x ++ p.1) is, (sym (ap (λ p. p.0) is), omega (arith, some), s.1))

run_complete : (class : Class) (used rest : List ℕ) (v : List ℕ) → Run class used v → Stops (in_class class) rest → some_run class (used ++ rest) ≡ Ok (v, rest)
unfolding some_run
run_complete class used rest v h stop =
    let w = run_whole class used rest h.2 stop in
    let some : eqb (length used) 0 ≡ false = ne_eqb (length used) 0 (λ e. omega (arith, e, h.1)) in
    (λ i. cond {A = Answer (List ℕ)} (eqb (length (w.0 i)) 0) (Err (misspelt (w.1 i))) (Ok (w.0 i, w.1 i))) ∙ ap (λ t. cond {A = Answer (List ℕ)} t (Err (misspelt rest)) (Ok (used, rest))) some ∙ ap (λ l. Ok (l, rest)) (sym h.0)

pub reads_run : (class : Class) → IsReader (Run class) (in_class class) (some_run class)
reads_run class = record { sound = run_sound class; complete = run_complete class }

-- a media type
pub reads_media : IsReader Media_type (in_class Media) read_media
unfolding read_media
reads_media =
    reads_then (Run Media) (λ above. Then (Is (codes "/")) (λ s. As (λ below. above ++ codes "/" ++ below) (Run Media))) (in_class Media) (in_class Media) (some_run Media) (λ above x. expect 47 x >>= λ s. some_run Media s.1 >>= λ b. Ok (above ++ codes "/" ++ b.0, b.1)) (reads_run Media)
    (λ above. reads_then (Is (codes "/")) (λ s. As (λ below. above ++ codes "/" ++ below) (Run Media)) nothing (in_class Media) (expect 47) (λ s x. some_run Media x >>= λ b. Ok (above ++ codes "/" ++ b.0, b.1)) (reads_byte 47) (λ s. reads_as (λ below. above ++ codes "/" ++ below) (Run Media) (in_class Media) (some_run Media) (reads_run Media)) (λ v back w rest q stop. stops_nothing (back ++ rest)))
    (λ above back w rest q stop. starts_stop (in_class Media) back rest (starts_is (in_class Media) 47 [] (λ s. As (λ below. above ++ codes "/" ++ below) (Run Media)) back w refl q))

-- the name of a field
letter_in : (b : ℕ) → is_letter b ≡ true → in_class Name b ≡ true
letter_in b e = rw e refl

run_some : (b : ℕ) (bs : List ℕ) → is_letter b ≡ true → 0 < length (run_of Name (b ∷ bs))
run_some b bs e = let some : run_of Name (b ∷ bs) ≡ b ∷ run_of Name bs = ap (λ t. cond t (b ∷ run_of Name bs) []) (letter_in b e) in subst (λ l. 0 < length l) (sym some) (omega arith)

run_first : (b : ℕ) (bs : List ℕ) → is_letter b ≡ true → letter_first (run_of Name (b ∷ bs)) ≡ true
run_first b bs e = let some : run_of Name (b ∷ bs) ≡ b ∷ run_of Name bs = ap (λ t. cond t (b ∷ run_of Name bs) []) (letter_in b e) in ap letter_first some ∙ e

name_sound : (x rest : List ℕ) (v : List ℕ) → read_name x ≡ Ok (v, rest) → Reads_front Field_name x v rest
unfolding read_name
name_sound [] rest v h = absurd (cc)
name_sound (b ∷ bs) rest v h = step (is_letter b) refl h
  where
    step : (t : Bool) → is_letter b ≡ t → cond {A = Answer (List ℕ)} t (Ok (run_of Name (b ∷ bs), behind_run Name (b ∷ bs))) (Err (misspelt (b ∷ bs))) ≡ Ok (v, rest) → Reads_front Field_name (b ∷ bs) v rest
    step true e h =
        let is = ok_is (run_of Name (b ∷ bs), behind_run Name (b ∷ bs)) (v, rest) h in
        let s = run_splits Name (b ∷ bs) in
        (run_of Name (b ∷ bs), s.0 ∙ ap (λ p. run_of Name (b ∷ bs) ++ p.1) is, ((sym (ap (λ p. p.0) is), run_some b bs e, s.1), run_first b bs e))
    step false e h = absurd (cc)

name_complete : (used rest : List ℕ) (v : List ℕ) → Field_name used v → Stops (in_class Name) rest → read_name (used ++ rest) ≡ Ok (v, rest)
unfolding read_name
name_complete [] rest v h stop = absurd (let some = h.0.1 in omega (arith, some))
name_complete (b ∷ bs) rest v h stop =
    let w = run_whole Name (b ∷ bs) rest h.0.2 stop in
    ap (λ t. cond {A = Answer (List ℕ)} t (Ok (run_of Name (b ∷ (bs ++ rest)), behind_run Name (b ∷ (bs ++ rest)))) (Err (misspelt (b ∷ (bs ++ rest))))) h.1
    ∙ (λ i. Ok (w.0 i, w.1 i))
    ∙ ap (λ l. Ok (l, rest)) (sym h.0.0)

pub reads_name : IsReader Field_name (in_class Name) read_name
reads_name = record { sound = name_sound; complete = name_complete }

-- a word, byte by byte
literal_sound : (ws x rest : List ℕ) (v : Unit {0}) → read_literal ws x ≡ Ok (v, rest) → Reads_front (Is ws) x v rest
literal_sound [] x rest v h = ([], ap (λ p. p.1) (ok_is (tt, x) (v, rest) h), refl)
literal_sound (w ∷ ws) x rest v h =
    let b = bind_ok (expect w x) (λ a. read_literal ws a.1) (v, rest) h in
    let one = (reads_byte w).sound x b.0.1 tt b.1 in
    let two = literal_sound ws b.0.1 rest v b.2 in
    (w ∷ two.0, one.1 ∙ ap (λ l. l ++ b.0.1) one.2 ∙ ap (λ l. w ∷ l) two.1, ap (λ l. w ∷ l) two.2)

literal_complete : (ws rest : List ℕ) (v : Unit {0}) → read_literal ws (ws ++ rest) ≡ Ok (v, rest)
literal_complete [] rest v = refl
literal_complete (w ∷ ws) rest v = rw ((reads_byte w).complete (w ∷ []) (ws ++ rest) tt refl (stops_nothing (ws ++ rest))) (literal_complete ws rest v)

pub reads_literal : (ws : List ℕ) → IsReader (Is ws) nothing (read_literal ws)
reads_literal ws = record { sound = literal_sound ws; complete = λ used rest v h stop. ap (λ l. read_literal ws (l ++ rest)) h ∙ literal_complete ws rest v }
