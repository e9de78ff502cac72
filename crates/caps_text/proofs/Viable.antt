-- What was read of a part that is refused for its spelling begins some text of that part.
use Rattle.std.proofs.Common.{◌≡◌, ℕ, zero, suc, ◌<◌, ◌+◌, Bool, true, false, cond, eqb, ◌&&◌, List, [], ◌∷◌, ◌++◌, length, Option, Some, None, Ok, Err, inl, inr, refl, sym, ap, ◌∙◌, subst, arith, append_assoc, append-nil, codes}
use Rattle.std.proofs.lemmas.Bool.{eqb-true, eqb-false}
use Rattle.caps_text.specs.Answers.{Answer, Stop, misspelt, many, ◌>>=◌}
use Rattle.caps_text.specs.Bytes.{in_class}
use Rattle.caps_text.specs.Grammar.{Then, As, Is, Spaces, Mark, Run, Media_type, Repeated, last, more}
use Rattle.caps_text.specs.Reading.{Next, again, done, after_byte, behind_run, expect, passed, read_literal, read_mark, read_media, read_quoted, repeat, run_of, some_run}
use Rattle.caps_text.specs.declared.class.Class.{Class}
use Rattle.caps_text.specs.declared.class.Class.TheVariants.{Media, Name, Word}
use Rattle.caps_text.proofs.Local.{rest_is}
use Rattle.caps_text.proofs.Readers.{Reads_front}
use Rattle.caps_text.proofs.Repeats.{IsStep, repeat_again, repeat_done, repeat_refused, shorter}
use Rattle.caps_text.proofs.Strings.{To_quote}
use Rattle.caps_text.proofs.Tokens.{after_byte_is}
use Rattle.caps_text.proofs.Words.{reads_byte, reads_run, reads_spaces, run_splits, skipping}
use Rattle.caps_text.proofs.Values.{no_length}

-- the front before the rest begins a text
abbrev pub Begins : {V : Type 0} → (List ℕ → V → Type 0) → List ℕ → List ℕ → Type 0
Begins {V} P x rest = (front more : List ℕ) × (v : V) × (x ≡ front ++ rest) × P (front ++ more) v

abbrev pub IsViable : {V W : Type 0} → (List ℕ → W → Type 0) → (List ℕ → Answer V) → Type 0
IsViable P r = (x rest : List ℕ) → r x ≡ Err (misspelt rest) → Begins P x rest

-- some text
abbrev pub Filled : {V : Type 0} → (List ℕ → V → Type 0) → Type 0
Filled {V} P = (text : List ℕ) × (v : V) × P text v

-- what is read is a front
abbrev pub IsSound : {V : Type 0} → (List ℕ → V → Type 0) → (List ℕ → Answer V) → Type 0
IsSound {V} P r = (x rest : List ℕ) (v : V) → r x ≡ Ok (v, rest) → Reads_front P x v rest

pub stopped : {V : Type 0} (d e : Stop) → ◌≡◌ {A = Answer V} (Err d) (Err e) → d ≡ e
stopped d e h = cc

-- one part and then another
module _ {V W : Type 0} (P : List ℕ → V → Type 0) (Q : V → List ℕ → W → Type 0) (r : List ℕ → Answer V) (s : V → List ℕ → Answer W) (sound : IsSound P r) (first : IsViable P r) (second : (used : List ℕ) (v : V) → P used v → IsViable (Q v) (s v)) (fill : (used : List ℕ) (v : V) → P used v → Filled (Q v)) where
  then_step : (x rest : List ℕ) (a : Answer V) → r x ≡ a → (a >>= λ a. s a.0 a.1) ≡ Err (misspelt rest) → Begins (Then P Q) x rest
  then_step x rest (Err d) e k =
      let one = first x rest (e ∙ ap Err (stopped d (misspelt rest) k)) in
      let two = fill (one.0 ++ one.1) one.2 one.4 in
      (one.0, one.1 ++ two.0, two.1, one.3, (one.0 ++ one.1, two.0, one.2, sym (append_assoc one.0 one.1 two.0), one.4, two.2))
  then_step x rest (Ok p) e k =
      let one = sound x p.1 p.0 e in
      let two = second one.0 p.0 one.2 p.1 rest k in
      (one.0 ++ two.0, two.1, two.2, one.1 ∙ ap (λ l. one.0 ++ l) two.3 ∙ sym (append_assoc one.0 two.0 rest), (one.0, two.0 ++ two.1, p.0, append_assoc one.0 two.0 two.1, one.2, two.4))

  pub viable_then : IsViable (Then P Q) (λ x. r x >>= λ a. s a.0 a.1)
  viable_then x rest h = then_step x rest (r x) refl h

-- a part whose value is made into another, and nothing more is misspelt
pub viable_by : {U V W X : Type 0} (P : List ℕ → U → Type 0) (Q : List ℕ → X → Type 0) (r : List ℕ → Answer V) (k : V × List ℕ → Answer W) → ((p : V × List ℕ) (rest : List ℕ) → k p ≡ Err (misspelt rest) → ⊥) → ((text : List ℕ) (v : U) → P text v → (x : X) × Q text x) → IsViable P r → IsViable Q (λ x. r x >>= k)
viable_by P Q r k never into first x rest h = step (r x) refl h
  where
    step : (a : Answer _) → r x ≡ a → (a >>= k) ≡ Err (misspelt rest) → Begins Q x rest
    step (Err d) e l = let one = first x rest (e ∙ ap Err (stopped d (misspelt rest) l)) in let q = into (one.0 ++ one.1) one.2 one.4 in (one.0, one.1, q.0, one.3, q.1)
    step (Ok p) e l = absurd (never p rest l)

pub viable_as : {V W : Type 0} (f : V → W) (P : List ℕ → V → Type 0) (r : List ℕ → Answer V) → IsViable P r → IsViable (As f P) (λ x. r x >>= λ a. Ok (f a.0, a.1))
viable_as f P r first = viable_by P (As f P) r (λ a. Ok (f a.0, a.1)) (λ p rest h. let bad : Ok (f p.0, p.1) ≡ Err (misspelt rest) = h in cc) (λ text v p. (f v, (v, p, refl))) first

never : {W : Type 0} (t : Bool) (p : W × List ℕ) (rest : List ℕ) → cond {A = Answer W} t (Err many) (Ok p) ≡ Err (misspelt rest) → ⊥
never true p rest h = let bad : many ≡ misspelt rest = stopped many (misspelt rest) h in cc
never false p rest h = cc

-- a part within a limit
pub viable_within : {V W : Type 0} (over : V → Bool) (f : V → W) (P : List ℕ → V → Type 0) (r : List ℕ → Answer V) → IsViable P r → IsViable (As f P) (λ x. r x >>= λ a. cond (over a.0) (Err many) (Ok (f a.0, a.1)))
viable_within over f P r first = viable_by P (As f P) r (λ a. cond (over a.0) (Err many) (Ok (f a.0, a.1))) (λ p rest h. never (over p.0) (f p.0, p.1) rest h) (λ text v p. (f v, (v, p, refl))) first

-- the same part in other words
pub viable_if : {U V W : Type 0} (P : List ℕ → U → Type 0) (Q : List ℕ → W → Type 0) (r : List ℕ → Answer V) → ((text : List ℕ) (v : U) → P text v → (w : W) × Q text w) → IsViable P r → IsViable Q r
viable_if P Q r into first x rest h = let one = first x rest h in let q = into (one.0 ++ one.1) one.2 one.4 in (one.0, one.1, q.0, one.3, q.1)

pub viable_same : {V W : Type 0} (P : List ℕ → W → Type 0) (r s : List ℕ → Answer V) → ((x : List ℕ) → s x ≡ r x) → IsViable P r → IsViable P s
viable_same P r s e first x rest h = first x rest (sym (e x) ∙ h)

pub viable_cond : {V W : Type 0} (P : List ℕ → W → Type 0) (t : List ℕ → Bool) (r s : List ℕ → Answer V) → IsViable P r → IsViable P s → IsViable P (λ x. cond (t x) (r x) (s x))
viable_cond P t r s f g x rest h = step (t x) h
  where
    step : (b : Bool) → cond b (r x) (s x) ≡ Err (misspelt rest) → Begins P x rest
    step true k = f x rest k
    step false k = g x rest k

-- behind a byte one part, and without it another
pub viable_choice : {V W X : Type 0} (m : ℕ) (R : List ℕ → X → Type 0) (P : List ℕ → W → Type 0) (r s : List ℕ → Answer V) (from : List ℕ → Option (List ℕ) → Answer V) → IsViable R r → ((text : List ℕ) (v : X) → R text v → (w : W) × P (m ∷ text) w) → IsViable P s → ((x y : List ℕ) → from x (Some y) ≡ r y) → ((x : List ℕ) → from x None ≡ s x) → IsViable P (λ x. from x (after_byte m x))
viable_choice m R P r s from f into g is else x rest h = step (after_byte m x) refl h
  where
    step : (o : Option (List ℕ)) → after_byte m x ≡ o → from x o ≡ Err (misspelt rest) → Begins P x rest
    step (Some y) e k = let one = f y rest (sym (is x y) ∙ k) in let q = into (one.0 ++ one.1) one.2 one.4 in (m ∷ one.0, one.1, q.0, after_byte_is m x y e ∙ ap (λ l. m ∷ l) one.3, q.1)
    step None e k = g x rest (sym (else x) ∙ k)

-- what is never refused
pub viable_never : {V W : Type 0} (P : List ℕ → W → Type 0) (p : List ℕ → V × List ℕ) → IsViable P (λ x. Ok (p x))
viable_never P p x rest h = absurd (cc)

pub viable_spaces : IsViable Spaces skipping
viable_spaces x rest h = absurd (cc)

-- a byte
pub viable_byte : (m : ℕ) → IsViable (Is (m ∷ [])) (expect m)
unfolding expect
viable_byte m x rest h = step (after_byte m x) h
  where
    step : (o : Option (List ℕ)) → passed x o ≡ Err (misspelt rest) → Begins (Is (m ∷ [])) x rest
    step None k = ([], m ∷ [], tt, rest_is x rest (stopped (misspelt x) (misspelt rest) k), refl)
    step (Some y) k = absurd (cc)

-- spaces, and then a part
pub viable_behind : {W : Type 0} (P : List ℕ → W → Type 0) (r : List ℕ → Answer W) → IsViable P r → Filled P → IsViable (Then Spaces (λ s. P)) (λ x. skipping x >>= λ s. r s.1)
viable_behind P r first fill = viable_then Spaces (λ s. P) skipping (λ s. r) reads_spaces.sound viable_spaces (λ used v p. first) (λ used v p. fill)

pub fill_mark : (m : ℕ) → Filled (Mark m)
fill_mark m = (m ∷ [], tt, ([], m ∷ [], tt, refl, refl, (m ∷ [], [], tt, refl, refl, refl)))

pub viable_mark : (m : ℕ) → IsViable (Mark m) (read_mark m)
unfolding read_mark
viable_mark m = viable_behind (Then (Is (m ∷ [])) (λ b. Spaces)) (λ x. expect m x >>= λ b. skipping b.1)
    (viable_then (Is (m ∷ [])) (λ b. Spaces) (expect m) (λ b. skipping) (reads_byte m).sound (viable_byte m) (λ used v p. viable_spaces) (λ used v p. ([], tt, refl)))
    (m ∷ [], tt, (m ∷ [], [], tt, refl, refl, refl))

-- a word
pub viable_literal : (ws : List ℕ) → IsViable (Is ws) (read_literal ws)
viable_literal [] x rest h = absurd (cc)
viable_literal (w ∷ ws) x rest h =
    let one = viable_then (Is (w ∷ [])) (λ u. Is ws) (expect w) (λ u. read_literal ws) (reads_byte w).sound (viable_byte w) (λ used v p. viable_literal ws) (λ used v p. (ws, tt, refl)) x rest h in
    let both = one.4 in
    (one.0, one.1, tt, one.3, both.3 ∙ (λ i. both.4 i ++ both.5 i))

-- bytes of a class
a_byte : (class : Class) → in_class class 97 ≡ true
a_byte Media = refl
a_byte Name = refl
a_byte Word = refl

pub fill_run : (class : Class) → Filled (Run class)
fill_run class = (97 ∷ [], 97 ∷ [], (refl, omega arith, ap (λ t. t && true) (a_byte class)))

pub viable_run : (class : Class) → IsViable (Run class) (some_run class)
unfolding some_run
viable_run class x rest h = step (eqb (length (run_of class x)) 0) refl h
  where
    step : (t : Bool) → eqb (length (run_of class x)) 0 ≡ t → cond {A = Answer (List ℕ)} t (Err (misspelt (behind_run class x))) (Ok (run_of class x, behind_run class x)) ≡ Err (misspelt rest) → Begins (Run class) x rest
    step true e k =
        let f = fill_run class in
        ([], f.0, f.1, (run_splits class x).0 ∙ (λ i. no_length (run_of class x) e i ++ rest_is (behind_run class x) rest (stopped (misspelt (behind_run class x)) (misspelt rest) k) i), f.2)
    step false e k = absurd (cc)

-- a media type
pub fill_media : Filled Media_type
unfolding fill_run
fill_media = let f = fill_run Media in (f.0 ++ codes "/" ++ f.0, f.1 ++ codes "/" ++ f.1, (f.0, codes "/" ++ f.0, f.1, refl, f.2, (codes "/", f.0, tt, refl, refl, (f.1, f.2, refl))))

pub viable_media : IsViable Media_type read_media
unfolding read_media
viable_media = viable_then (Run Media) (λ above. Then (Is (codes "/")) (λ s. As (λ below. above ++ codes "/" ++ below) (Run Media))) (some_run Media) (λ above x. expect 47 x >>= λ s. some_run Media s.1 >>= λ b. Ok (above ++ codes "/" ++ b.0, b.1)) (reads_run Media).sound (viable_run Media)
    (λ used above p. viable_then (Is (codes "/")) (λ s. As (λ below. above ++ codes "/" ++ below) (Run Media)) (expect 47) (λ s x. some_run Media x >>= λ b. Ok (above ++ codes "/" ++ b.0, b.1)) (reads_byte 47).sound (viable_byte 47) (λ used s p. viable_as (λ below. above ++ codes "/" ++ below) (Run Media) (some_run Media) (viable_run Media)) (λ used s p. fill_below above))
    (λ used above p. let f = fill_below above in (codes "/" ++ f.0, f.1, (codes "/", f.0, tt, refl, refl, f.2)))
  where
    fill_below : (above : List ℕ) → Filled (As (λ below. above ++ codes "/" ++ below) (Run Media))
    fill_below above = let f = fill_run Media in (f.0, above ++ codes "/" ++ f.1, (f.1, f.2, refl))

-- what stands between quotes
abbrev To_close : Bool → List ℕ → Type 0
To_close false text = (t : List ℕ) × To_quote text t
To_close true text = (b : ℕ) × (rest : List ℕ) × (t : List ℕ) × (text ≡ b ∷ rest) × To_quote rest t

quoted_on : (escaped : Bool) (so_far x rest : List ℕ) → read_quoted escaped so_far x ≡ Err (misspelt rest) → (rest ≡ []) × ((more : List ℕ) × To_close escaped (x ++ more))
quoted_on true so_far [] rest h = (sym (rest_is [] rest (stopped (misspelt []) (misspelt rest) h)), (97 ∷ 34 ∷ [], (97, 34 ∷ [], [], refl, ([], refl, refl))))
quoted_on false so_far [] rest h = (sym (rest_is [] rest (stopped (misspelt []) (misspelt rest) h)), (34 ∷ [], ([], ([], refl, refl))))
quoted_on true so_far (b ∷ bs) rest h = let ih = quoted_on false (so_far ++ b ∷ []) bs rest h in let c = ih.1.1 in (ih.0, (ih.1.0, (b, bs ++ ih.1.0, c.0, refl, c.1)))
quoted_on false so_far (b ∷ bs) rest h = step (eqb b 34) (eqb b 92) refl refl h (quoted_on true so_far bs rest) (quoted_on false (so_far ++ b ∷ []) bs rest)
  where
    step : (s t : Bool) → eqb b 34 ≡ s → eqb b 92 ≡ t → cond {A = Answer (List ℕ)} s (Ok (so_far, bs)) (cond t (read_quoted true so_far bs) (read_quoted false (so_far ++ b ∷ []) bs)) ≡ Err (misspelt rest) → (read_quoted true so_far bs ≡ Err (misspelt rest) → (rest ≡ []) × ((more : List ℕ) × To_close true (bs ++ more))) → (read_quoted false (so_far ++ b ∷ []) bs ≡ Err (misspelt rest) → (rest ≡ []) × ((more : List ℕ) × To_close false (bs ++ more))) → (rest ≡ []) × ((more : List ℕ) × To_close false (b ∷ (bs ++ more)))
    step true t e f k g h = absurd (cc)
    step false true e f k g h =
        let r = g k in
        let c = r.1.1 in
        let text_is : bs ++ r.1.0 ≡ c.0 ∷ c.1 = c.3 in
        let q = c.4 in
        (r.0, (r.1.0, (c.0 ∷ c.2, (92 ∷ c.0 ∷ q.0, (λ i. eqb-true b 92 f i ∷ text_is i) ∙ ap (λ l. 92 ∷ c.0 ∷ l) q.1, (q.0, inr refl, q.2)))))
    step false false e f k g h =
        let r = h k in
        let c = r.1.1 in
        let q = c.1 in
        (r.0, (r.1.0, (b ∷ c.0, (b ∷ q.0, ap (λ l. b ∷ l) q.1, (q.0, inl (refl, eqb-false b 34 e, eqb-false b 92 f), q.2)))))

pub viable_quoted : IsViable To_quote (read_quoted false [])
viable_quoted x rest h =
    let q = quoted_on false [] x rest h in
    (x, q.1.0, q.1.1.0, sym (append-nil x) ∙ ap (λ l. x ++ l) (sym q.0), q.1.1.1)

-- a step again and again
module _ {S V : Type 0} (Old Step : S → List ℕ → Next S V → Type 0) (end : ℕ → Bool) (step : S → List ℕ → Answer (Next S V)) (is : IsStep Old end step) (wider : (s : S) (text : List ℕ) (n : Next S V) → Old s text n → Step s text n) (viable : (s : S) → IsViable (Step s) (step s)) (ends : (s : S) → (text : List ℕ) × (v : V) × Step s text (done v)) where
  ended : (s : S) (text : List ℕ) (n : Next S V) → Step s text n → (back : List ℕ) × (v : V) × Repeated Step s (text ++ back) v
  ended s text (done v) h = ([], v, subst (λ l. Repeated Step s l v) (sym (append-nil text)) (last s text v h))
  ended s text (again t) h = let e = ends t in (e.0, e.1, more s t text e.0 (text ++ e.0) e.1 refl h (last t e.0 e.1 e.2))

  repeat_step : (n : ℕ) (s : S) (x rest : List ℕ) → length x < n → repeat step s x ≡ Err (misspelt rest) → Begins (Repeated Step s) x rest
  repeat_step zero s x rest less h = absurd (omega (arith, less))
  repeat_step (suc n) s x rest less h = go (step s x) refl (λ t y l k. repeat_step n t y rest (omega (arith, l, less)) k)
    where
      passed_on : (next : Next S V) (z : List ℕ) → step s x ≡ Ok (next, z) → ((t : S) (y : List ℕ) → length y < length x → repeat step t y ≡ Err (misspelt rest) → Begins (Repeated Step t) y rest) → Begins (Repeated Step s) x rest
      passed_on (done v) z e ih = absurd (let bad : Ok (v, z) ≡ Err (misspelt rest) = sym (repeat_done step s v x z e) ∙ h in cc)
      passed_on (again t) z e ih =
          let two = ih t z (shorter Old end step is s t x z e) (sym (repeat_again Old end step is s t x z e) ∙ h) in
          let one = is.sound s x z (again t) e in (
            one.0 ++ two.0,
            two.1,
            two.2,
            one.1 ∙ ap (λ l. one.0 ++ l) two.3 ∙ sym (append_assoc one.0 two.0 rest),
            more s t one.0 (two.0 ++ two.1) ((one.0 ++ two.0) ++ two.1) two.2 (append_assoc one.0 two.0 two.1) (wider s one.0 (again t) one.2) two.4,
          )

      go : (a : Answer (Next S V)) → step s x ≡ a → ((t : S) (y : List ℕ) → length y < length x → repeat step t y ≡ Err (misspelt rest) → Begins (Repeated Step t) y rest) → Begins (Repeated Step s) x rest
      go (Err d) e ih =
          let one = viable s x rest (e ∙ ap Err (stopped d (misspelt rest) (sym (repeat_refused step s x d e) ∙ h))) in
          let two = ended s (one.0 ++ one.1) one.2 one.4 in
          (one.0, one.1 ++ two.0, two.1, one.3, subst (λ l. Repeated Step s l two.1) (append_assoc one.0 one.1 two.0) two.2)
      go (Ok p) e ih = passed_on p.0 p.1 e ih

  pub viable_repeat : (s : S) → IsViable (Repeated Step s) (repeat step s)
  viable_repeat s x rest h = repeat_step (length x + 1) s x rest (omega arith) h
