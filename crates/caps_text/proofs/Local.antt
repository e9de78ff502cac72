-- What is read of a text goes by the bytes that were read and the first one behind them.
use Rattle.std.proofs.Common.{◌≡◌, ℕ, zero, suc, ◌<◌, ◌+◌, ◌-◌, ◌*◌, Bool, true, false, cond, eqb, List, [], ◌∷◌, ◌++◌, length, Option, Some, None, Ok, Err, refl, sym, ap, ◌∙◌, subst, arith, append_assoc}
use Rattle.std.specs.Prelude.{is_some}
use Rattle.caps_text.specs.Answers.{Answer, Stop, misspelt, many, ◌>>=◌, found}
use Rattle.caps_text.specs.Bytes.{in_class, is_digit}
use Rattle.caps_text.specs.Grammar.{is_space}
use Rattle.caps_text.specs.Reading.{Next, again, done, after_byte, behind_run, behind_spaces, begins, can_begin, digit_at, expect, passed, read_digits, read_quoted, repeat, run_of}
use Rattle.caps_text.specs.declared.class.Class.{Class}
use Rattle.caps_text.specs.declared.number.Wanted.{Wanted}
use Rattle.caps_text.proofs.Readers.{Stops, ok_is}
use Rattle.caps_text.proofs.Repeats.{IsStep, repeat_again, repeat_done, repeat_refused, shorter}
use Rattle.caps_text.proofs.Tokens.{after_byte_is}
use Rattle.caps_text.proofs.Words.{passes, reads_spaces, run_splits, run_whole, skipping}

-- two texts begin with the same byte, or both are empty
abbrev pub Same_start : List ℕ → List ℕ → Type 0
Same_start [] [] = Unit {0}
Same_start [] (c ∷ cs) = ⊥
Same_start (b ∷ bs) [] = ⊥
Same_start (b ∷ bs) (c ∷ cs) = b ≡ c

-- the answer stays the same whatever stands behind the first byte that was not read
abbrev pub Kept : {V : Type 0} → (List ℕ → Answer V) → List ℕ → List ℕ → Option V → Type 0
Kept r x rest o = (front : List ℕ) × (x ≡ front ++ rest) × ((y : List ℕ) → Same_start rest y → r (front ++ y) ≡ found o y)

abbrev pub IsLocal : {V : Type 0} → (List ℕ → Answer V) → Type 0
IsLocal {V} r = (x rest : List ℕ) (o : Option V) → r x ≡ found o rest → Kept r x rest o

pub same_behind : (front rest y : List ℕ) → Same_start rest y → Same_start (front ++ rest) (front ++ y)
same_behind [] rest y h = h
same_behind (b ∷ bs) rest y h = refl

pub stop_is : (d e : Stop) → {V : Type 0} → ◌≡◌ {A = Answer V} (Err d) (Err e) → d ≡ e
stop_is d e h = cc

pub rest_is : (x y : List ℕ) → misspelt x ≡ misspelt y → x ≡ y
rest_is x y h = cc

pub refused_is : {V : Type 0} (e : Stop) (o : Option V) (rest : List ℕ) → Err e ≡ found o rest → (o ≡ None) × (e ≡ misspelt rest)
refused_is e None rest h = (refl, stop_is e (misspelt rest) h)
refused_is e (Some v) rest h = absurd (cc)

pub read_is : {V : Type 0} (p : V × List ℕ) (o : Option V) (rest : List ℕ) → Ok p ≡ found o rest → (o ≡ Some p.0) × (rest ≡ p.1)
read_is p None rest h = absurd (cc)
read_is p (Some v) rest h = let e = ok_is p (v, rest) h in (sym (ap (λ q. Some q.0) e), sym (ap (λ q. q.1) e))

-- one part and then another
module _ {V W : Type 0} (r : List ℕ → Answer V) (s : V → List ℕ → Answer W) (first : IsLocal r) (second : (v : V) → IsLocal (s v)) where
  abbrev both : List ℕ → Answer W
  both x = r x >>= λ a. s a.0 a.1

  bind_step : (x rest : List ℕ) (o : Option W) (a : Answer V) → r x ≡ a → (a >>= λ a. s a.0 a.1) ≡ found o rest → Kept both x rest o
  bind_step x rest o (Ok p) e k =
      let two = second p.0 p.1 rest o k in
      let one = first x p.1 (Some p.0) e in (
        one.0 ++ two.0,
        one.1 ∙ ap (λ l. one.0 ++ l) two.1 ∙ sym (append_assoc one.0 two.0 rest),
        λ y same.
            ap both (append_assoc one.0 two.0 y)
            ∙ ap (λ a. a >>= λ a. s a.0 a.1) (one.2 (two.0 ++ y) (subst (λ l. Same_start l (two.0 ++ y)) (sym two.1) (same_behind two.0 rest y same)))
            ∙ two.2 y same,
      )
  bind_step x rest o (Err d) e k =
      let is = refused_is d o rest k in
      let one = first x rest None (e ∙ ap Err is.1) in
      (one.0, one.1, λ y same. ap (λ a. a >>= λ a. s a.0 a.1) (one.2 y same) ∙ ap (λ q. found q y) (sym is.0))

  pub local_bind : IsLocal (λ x. r x >>= λ a. s a.0 a.1)
  local_bind x rest o h = bind_step x rest o (r x) refl h

-- nothing more is read
pub local_found : {V : Type 0} (o : Option V) → IsLocal (found o)
local_found None x rest q h = let is = refused_is (misspelt x) q rest h in ([], rest_is x rest is.1, λ y same. ap (λ p. found p y) (sym is.0))
local_found (Some v) x rest q h = let is = read_is (v, x) q rest h in ([], sym is.1, λ y same. ap (λ p. found p y) (sym is.0))

pub local_ok : {V : Type 0} (v : V) → IsLocal (λ x. Ok (v, x))
local_ok v = local_found (Some v)

pub local_refused : {V : Type 0} → IsLocal {V = V} (λ x. Err (misspelt x))
local_refused = local_found None

pub local_many : {V : Type 0} → IsLocal {V = V} (λ x. Err many)
local_many x rest o h = absurd (let is = refused_is many o rest h in let bad : many ≡ misspelt rest = is.1 in cc)

-- what is chosen by the first byte
pub local_test : {V : Type 0} (t : List ℕ → Bool) (r s : List ℕ → Answer V) → ((x y : List ℕ) → Same_start x y → t x ≡ t y) → IsLocal r → IsLocal s → IsLocal (λ x. cond (t x) (r x) (s x))
local_test {V} t r s alike f g x rest o h = step (t x) refl h
  where
    step : (b : Bool) → t x ≡ b → cond b (r x) (s x) ≡ found o rest → Kept (λ x. cond (t x) (r x) (s x)) x rest o
    step true e k =
        let one = f x rest o k in
        (one.0, one.1, λ y same. ap (λ b. cond b (r (one.0 ++ y)) (s (one.0 ++ y))) (sym (alike (one.0 ++ rest) (one.0 ++ y) (same_behind one.0 rest y same)) ∙ sym (ap t one.1) ∙ e) ∙ one.2 y same)
    step false e k =
        let one = g x rest o k in
        (one.0, one.1, λ y same. ap (λ b. cond b (r (one.0 ++ y)) (s (one.0 ++ y))) (sym (alike (one.0 ++ rest) (one.0 ++ y) (same_behind one.0 rest y same)) ∙ sym (ap t one.1) ∙ e) ∙ one.2 y same)

pub local_cond : {V : Type 0} (b : Bool) (r s : List ℕ → Answer V) → IsLocal r → IsLocal s → IsLocal (λ x. cond b (r x) (s x))
local_cond b r s f g = local_test (λ x. b) r s (λ x y same. refl) f g

some_cond : {A : Type 0} (t : Bool) (a : A) → is_some (cond t (Some a) None) ≡ t
some_cond true a = refl
some_cond false a = refl

pub same_begins : (m : ℕ) (x y : List ℕ) → Same_start x y → begins m x ≡ begins m y
same_begins m [] [] h = refl
same_begins m [] (c ∷ cs) h = absurd h
same_begins m (b ∷ bs) [] h = absurd h
same_begins m (b ∷ bs) (c ∷ cs) h = some_cond (eqb b m) bs ∙ ap (λ n. eqb n m) h ∙ sym (some_cond (eqb c m) cs)

pub lacks_none : {V : Type 0} (o : Option V) → is_some o ≡ false → o ≡ None
lacks_none None h = refl
lacks_none (Some v) h = absurd (cc)

-- behind a byte one part, and without it another
pub local_choice : {V : Type 0} (m : ℕ) (r s : List ℕ → Answer V) (from : List ℕ → Option (List ℕ) → Answer V) → IsLocal r → IsLocal s → ((x y : List ℕ) → from x (Some y) ≡ r y) → ((x : List ℕ) → from x None ≡ s x) → IsLocal (λ x. from x (after_byte m x))
local_choice m r s from f g is else x rest o h = step (after_byte m x) refl h
  where
    step : (q : Option (List ℕ)) → after_byte m x ≡ q → from x q ≡ found o rest → Kept (λ x. from x (after_byte m x)) x rest o
    step (Some z) e k =
        let one = f z rest o (sym (is x z) ∙ k) in
        (m ∷ one.0, after_byte_is m x z e ∙ ap (λ l. m ∷ l) one.1, λ y same. ap (from (m ∷ (one.0 ++ y))) (passes m (one.0 ++ y)) ∙ is (m ∷ (one.0 ++ y)) (one.0 ++ y) ∙ one.2 y same)
    step None e k =
        let one = g x rest o (sym (else x) ∙ k) in (
          one.0,
          one.1,
          λ y same.
              let lacks : begins m (one.0 ++ y) ≡ false = sym (same_begins m (one.0 ++ rest) (one.0 ++ y) (same_behind one.0 rest y same)) ∙ sym (ap (begins m) one.1) ∙ ap is_some e in
              ap (from (one.0 ++ y)) (lacks_none (after_byte m (one.0 ++ y)) lacks) ∙ else (one.0 ++ y) ∙ one.2 y same,
        )

pub local_same : {V : Type 0} (r s : List ℕ → Answer V) → ((x : List ℕ) → s x ≡ r x) → IsLocal r → IsLocal s
local_same r s e f x rest o h = let one = f x rest o (sym (e x) ∙ h) in (one.0, one.1, λ y same. e (one.0 ++ y) ∙ one.2 y same)

-- a byte
pub local_byte : (m : ℕ) → IsLocal (expect m)
unfolding expect
local_byte m = local_choice m (λ x. Ok (tt, x)) (λ x. Err (misspelt x)) passed (local_ok tt) local_refused (λ x y. refl) (λ x. refl)

pub stops_same : (test : ℕ → Bool) (x y : List ℕ) → Same_start x y → Stops test x → Stops test y
stops_same test [] [] h s = tt
stops_same test [] (c ∷ cs) h s = absurd h
stops_same test (b ∷ bs) [] h s = absurd h
stops_same test (b ∷ bs) (c ∷ cs) h s = ap test (sym h) ∙ s

-- spaces
spaces_stop : (x : List ℕ) → Stops is_space (behind_spaces x)
spaces_stop [] = tt
spaces_stop (b ∷ bs) = step (eqb b 32) refl (spaces_stop bs)
  where
    step : (t : Bool) → eqb b 32 ≡ t → Stops is_space (behind_spaces bs) → Stops is_space (cond t (behind_spaces bs) (b ∷ bs))
    step true e ih = ih
    step false e ih = e

pub local_spaces : IsLocal skipping
local_spaces x rest o h =
    let is = read_is (tt, behind_spaces x) o rest h in
    let f = reads_spaces.sound x rest tt (ap (λ l. Ok (tt, l)) (sym is.1)) in
    (f.0, f.1, λ y same. reads_spaces.complete f.0 y tt f.2 (stops_same is_space rest y same (subst (Stops is_space) (sym is.1) (spaces_stop x))) ∙ ap (λ q. found q y) (sym is.0))

-- bytes of a class
pub run_stops : (class : Class) (x : List ℕ) → Stops (in_class class) (behind_run class x)
run_stops class [] = tt
run_stops class (b ∷ bs) = step (in_class class b) refl (run_stops class bs)
  where
    step : (t : Bool) → in_class class b ≡ t → Stops (in_class class) (behind_run class bs) → Stops (in_class class) (cond t (behind_run class bs) (b ∷ bs))
    step true e ih = ih
    step false e ih = e

abbrev pub runs : Class → List ℕ → Answer (List ℕ)
runs class x = Ok (run_of class x, behind_run class x)

pub local_runs : (class : Class) → IsLocal (runs class)
local_runs class x rest o h =
    let is = read_is (run_of class x, behind_run class x) o rest h in
    let s = run_splits class x in (
      run_of class x,
      s.0 ∙ ap (λ l. run_of class x ++ l) (sym is.1),
      λ y same.
          let w = run_whole class (run_of class x) y s.1 (stops_same (in_class class) rest y same (subst (Stops (in_class class)) (sym is.1) (run_stops class x))) in
          (λ i. Ok (w.0 i, w.1 i)) ∙ ap (λ q. found q y) (sym is.0),
    )

-- digits
pub local_digits : (w : Wanted) (negative : Bool) (size : ℕ) → IsLocal (read_digits w negative size)
local_digits w negative size x rest o h = go size x o h
  where
    digit : (size b : ℕ) (bs : List ℕ) (o : Option ℕ) → (s t : Bool) → is_digit b ≡ s → can_begin w negative (size * 10 + (b - 48)) ≡ t → cond s (cond t (read_digits w negative (size * 10 + (b - 48)) bs) (Err (misspelt (b ∷ bs)))) (Ok (size, b ∷ bs)) ≡ found o rest → (read_digits w negative (size * 10 + (b - 48)) bs ≡ found o rest → Kept (read_digits w negative (size * 10 + (b - 48))) bs rest o) → Kept (read_digits w negative size) (b ∷ bs) rest o
    digit size b bs o true true e f k ih =
        let one = ih k in (
          b ∷ one.0,
          ap (λ l. b ∷ l) one.1,
          λ y same. ap (λ s. cond {A = Answer ℕ} s (cond (can_begin w negative (size * 10 + (b - 48))) (read_digits w negative (size * 10 + (b - 48)) (one.0 ++ y)) (Err (misspelt (b ∷ (one.0 ++ y))))) (Ok (size, b ∷ (one.0 ++ y)))) e
              ∙ ap (λ t. cond {A = Answer ℕ} t (read_digits w negative (size * 10 + (b - 48)) (one.0 ++ y)) (Err (misspelt (b ∷ (one.0 ++ y))))) f ∙ one.2 y same,
        )
    digit size b bs o true false e f k ih =
        let is = refused_is (misspelt (b ∷ bs)) o rest k in
        let rest_b : b ∷ bs ≡ rest = rest_is (b ∷ bs) rest is.1 in
        ([], rest_b, λ y same. first y (subst (λ l. Same_start l y) (sym rest_b) same) ∙ ap (λ q. found q y) (sym is.0))
      where
        first : (y : List ℕ) → Same_start (b ∷ bs) y → read_digits w negative size y ≡ Err (misspelt y)
        first [] h = absurd h
        first (c ∷ cs) h = ap (λ s. cond {A = Answer ℕ} s (cond (can_begin w negative (size * 10 + (c - 48))) (read_digits w negative (size * 10 + (c - 48)) cs) (Err (misspelt (c ∷ cs)))) (Ok (size, c ∷ cs))) (ap is_digit (sym h) ∙ e)
            ∙ ap (λ t. cond {A = Answer ℕ} t (read_digits w negative (size * 10 + (c - 48)) cs) (Err (misspelt (c ∷ cs)))) (ap (λ n. can_begin w negative (size * 10 + (n - 48))) (sym h) ∙ f)
    digit size b bs o false t e f k ih =
        let is = read_is (size, b ∷ bs) o rest k in
        ([], sym is.1, λ y same. first y (subst (λ l. Same_start l y) is.1 same) ∙ ap (λ q. found q y) (sym is.0))
      where
        first : (y : List ℕ) → Same_start (b ∷ bs) y → read_digits w negative size y ≡ Ok (size, y)
        first [] h = absurd h
        first (c ∷ cs) h = ap (λ s. cond {A = Answer ℕ} s (cond (can_begin w negative (size * 10 + (c - 48))) (read_digits w negative (size * 10 + (c - 48)) cs) (Err (misspelt (c ∷ cs)))) (Ok (size, c ∷ cs))) (ap is_digit (sym h) ∙ e)

    go : (size : ℕ) (x : List ℕ) (o : Option ℕ) → read_digits w negative size x ≡ found o rest → Kept (read_digits w negative size) x rest o
    go size [] o h = let is = read_is (size, []) o rest h in ([], sym is.1, λ y same. nil y (subst (λ l. Same_start l y) is.1 same) ∙ ap (λ q. found q y) (sym is.0))
      where
        nil : (y : List ℕ) → Same_start [] y → read_digits w negative size y ≡ Ok (size, y)
        nil [] h = refl
        nil (c ∷ cs) h = absurd h
    go size (b ∷ bs) o h = digit size b bs o (is_digit b) (can_begin w negative (size * 10 + (b - 48))) refl refl h (go (size * 10 + (b - 48)) bs o)

pub same_digit : (x y : List ℕ) → Same_start x y → is_some (digit_at x) ≡ is_some (digit_at y)
same_digit [] [] h = refl
same_digit [] (c ∷ cs) h = absurd h
same_digit (b ∷ bs) [] h = absurd h
same_digit (b ∷ bs) (c ∷ cs) h = some_cond (is_digit b) (b - 48, bs) ∙ ap is_digit h ∙ sym (some_cond (is_digit c) (c - 48, cs))

-- what stands between quotes
pub local_quoted : (escaped : Bool) (so_far : List ℕ) → IsLocal (read_quoted escaped so_far)
local_quoted escaped so_far x rest o h = go x escaped so_far h
  where
    nil : (escaped : Bool) (so_far y : List ℕ) → Same_start [] y → read_quoted escaped so_far y ≡ Err (misspelt y)
    nil true so_far [] h = refl
    nil false so_far [] h = refl
    nil escaped so_far (c ∷ cs) h = absurd h

    ended : (escaped : Bool) (so_far : List ℕ) → Err (misspelt []) ≡ found o rest → Kept (read_quoted escaped so_far) [] rest o
    ended escaped so_far k =
        let is = refused_is (misspelt []) o rest k in
        let e : [] ≡ rest = rest_is [] rest is.1 in
        ([], e, λ y same. nil escaped so_far y (subst (λ l. Same_start l y) (sym e) same) ∙ ap (λ q. found q y) (sym is.0))

    plain : (so_far : List ℕ) (b : ℕ) (bs : List ℕ) (s t : Bool) → eqb b 34 ≡ s → eqb b 92 ≡ t → cond s (Ok (so_far, bs)) (cond t (read_quoted true so_far bs) (read_quoted false (so_far ++ b ∷ []) bs)) ≡ found o rest → (read_quoted true so_far bs ≡ found o rest → Kept (read_quoted true so_far) bs rest o) → (read_quoted false (so_far ++ b ∷ []) bs ≡ found o rest → Kept (read_quoted false (so_far ++ b ∷ [])) bs rest o) → Kept (read_quoted false so_far) (b ∷ bs) rest o
    plain so_far b bs true t e f k g h =
        let is = read_is (so_far, bs) o rest k in
        (b ∷ [], ap (λ l. b ∷ l) (sym is.1), λ y same. ap (λ s. cond {A = Answer (List ℕ)} s (Ok (so_far, y)) (cond (eqb b 92) (read_quoted true so_far y) (read_quoted false (so_far ++ b ∷ []) y))) e ∙ ap (λ q. found q y) (sym is.0))
    plain so_far b bs false true e f k g h =
        let one = g k in
        (b ∷ one.0, ap (λ l. b ∷ l) one.1, λ y same. ap (λ s. cond {A = Answer (List ℕ)} s (Ok (so_far, one.0 ++ y)) (cond (eqb b 92) (read_quoted true so_far (one.0 ++ y)) (read_quoted false (so_far ++ b ∷ []) (one.0 ++ y)))) e ∙ ap (λ t. cond {A = Answer (List ℕ)} t (read_quoted true so_far (one.0 ++ y)) (read_quoted false (so_far ++ b ∷ []) (one.0 ++ y))) f ∙ one.2 y same)
    plain so_far b bs false false e f k g h =
        let one = h k in
        (b ∷ one.0, ap (λ l. b ∷ l) one.1, λ y same. ap (λ s. cond {A = Answer (List ℕ)} s (Ok (so_far, one.0 ++ y)) (cond (eqb b 92) (read_quoted true so_far (one.0 ++ y)) (read_quoted false (so_far ++ b ∷ []) (one.0 ++ y)))) e ∙ ap (λ t. cond {A = Answer (List ℕ)} t (read_quoted true so_far (one.0 ++ y)) (read_quoted false (so_far ++ b ∷ []) (one.0 ++ y))) f ∙ one.2 y same)

    go : (x : List ℕ) (escaped : Bool) (so_far : List ℕ) → read_quoted escaped so_far x ≡ found o rest → Kept (read_quoted escaped so_far) x rest o
    go [] true so_far h = ended true so_far h
    go [] false so_far h = ended false so_far h
    go (b ∷ bs) true so_far h = let one = go bs false (so_far ++ b ∷ []) h in (b ∷ one.0, ap (λ l. b ∷ l) one.1, λ y same. one.2 y same)
    go (b ∷ bs) false so_far h = plain so_far b bs (eqb b 34) (eqb b 92) refl refl h (go bs true so_far) (go bs false (so_far ++ b ∷ []))

-- a step again and again
module _ {S V : Type 0} (Step : S → List ℕ → Next S V → Type 0) (end : ℕ → Bool) (step : S → List ℕ → Answer (Next S V)) (is : IsStep Step end step) (local : (s : S) → IsLocal (step s)) where
  repeat_step : (n : ℕ) (s : S) (x rest : List ℕ) (o : Option V) → length x < n → repeat step s x ≡ found o rest → Kept (repeat step s) x rest o
  repeat_step zero s x rest o less h = absurd (omega (arith, less))
  repeat_step (suc n) s x rest o less h = go (step s x) refl (λ t y l k. repeat_step n t y rest o (omega (arith, l, less)) k)
    where
      refused : (d : Stop) → step s x ≡ Err d → (o ≡ None) × (d ≡ misspelt rest) → Kept (repeat step s) x rest o
      refused d e is =
          let one = local s x rest None (e ∙ ap Err is.1) in
          (one.0, one.1, λ y same. repeat_refused step s (one.0 ++ y) (misspelt y) (one.2 y same) ∙ ap (λ q. found q y) (sym is.0))

      passed_on : (next : Next S V) (z : List ℕ) → step s x ≡ Ok (next, z) → ((t : S) (y : List ℕ) → length y < length x → repeat step t y ≡ found o rest → Kept (repeat step t) y rest o) → Kept (repeat step s) x rest o
      passed_on (done v) z e ih =
          let is = read_is (v, z) o rest (sym (repeat_done step s v x z e) ∙ h) in
          let one = local s x z (Some (done v)) e in
          (one.0, one.1 ∙ ap (λ l. one.0 ++ l) (sym is.1), λ y same. repeat_done step s v (one.0 ++ y) y (one.2 y (subst (λ l. Same_start l y) is.1 same)) ∙ ap (λ q. found q y) (sym is.0))
      passed_on (again t) z e ih =
          let two = ih t z (shorter Step end step is s t x z e) (sym (repeat_again Step end step is s t x z e) ∙ h) in
          let one = local s x z (Some (again t)) e in (
            one.0 ++ two.0,
            one.1 ∙ ap (λ l. one.0 ++ l) two.1 ∙ sym (append_assoc one.0 two.0 rest),
            λ y same.
                ap (repeat step s) (append_assoc one.0 two.0 y)
                ∙ repeat_again Step end step is s t (one.0 ++ (two.0 ++ y)) (two.0 ++ y) (one.2 (two.0 ++ y) (subst (λ l. Same_start l (two.0 ++ y)) (sym two.1) (same_behind two.0 rest y same)))
                ∙ two.2 y same,
          )

      go : (a : Answer (Next S V)) → step s x ≡ a → ((t : S) (y : List ℕ) → length y < length x → repeat step t y ≡ found o rest → Kept (repeat step t) y rest o) → Kept (repeat step s) x rest o
      go (Err d) e ih = refused d e (refused_is d o rest (sym (repeat_refused step s x d e) ∙ h))
      go (Ok p) e ih = passed_on p.0 p.1 e ih

  pub local_repeat : (s : S) → IsLocal (repeat step s)
  local_repeat s x rest o h = repeat_step (length x + 1) s x rest o (omega arith) h
