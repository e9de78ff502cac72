-- What callers need of writes.
use Rattle.std.proofs.Common.{◌≡◌, ℕ, zero, suc, ◌+◌, ◌-◌, ◌<◌, ◌≤◌, max, List, [], ◌∷◌, ◌++◌, length, take, drop, replicate, refl, ap, sym, ◌∙◌, append_assoc, arith, length-append, length-take, length-drop, Option, option_map, None, Some, add-zero}
use Rattle.std.proofs.lemmas.List.{append-nil, length-replicate, take_at, drop_at, take-replicate, drop-drop, take_all, drop_all}
use Rattle.gst_outside.specs.Bytes.{up_to, overwritten, written}

pub length-up_to : (n : ℕ) (bytes : List ℕ) → length (up_to n bytes) ≡ n
length-up_to n bytes = simp (length-append, length-take, length-replicate) (omega arith)

front_length : (bytes : List ℕ) (place : ℕ) (piece : List ℕ) → length (up_to place bytes ++ piece) ≡ place + length piece
front_length bytes place piece = length-append (up_to place bytes) piece ∙ ap (λ n. n + length piece) (length-up_to place bytes)

pub length-overwritten : (bytes : List ℕ) (place : ℕ) (piece : List ℕ) → length (overwritten bytes place piece) ≡ max (length bytes) (place + length piece)
length-overwritten bytes place piece =
    let whole : length (overwritten bytes place piece) ≡ length (up_to place bytes ++ piece) + length (drop (place + length piece) bytes) =
    length-append (up_to place bytes ++ piece) (drop (place + length piece) bytes) in
    let front = front_length bytes place piece in
    let back : length (drop (place + length piece) bytes) ≡ length bytes - (place + length piece) = length-drop (place + length piece) bytes in
    omega arith

-- within bytes that are long enough, no hole is filled
pub up_to_short : (n : ℕ) (bytes : List ℕ) → n ≤ length bytes → up_to n bytes ≡ take n bytes
up_to_short n bytes h =
    let none : n - length bytes ≡ 0 = omega arith in
    ap (λ k. take n bytes ++ replicate k 0) none ∙ append-nil (take n bytes)

up_to_front : (front back : List ℕ) (n : ℕ) → length front ≡ n → up_to n (front ++ back) ≡ front
up_to_front front back n h =
    let long : n ≤ length (front ++ back) = rw length-append (omega arith) in
    up_to_short n (front ++ back) long ∙ take_at front back n h

drop_behind : (front bytes : List ℕ) (n more : ℕ) → length front ≡ n → drop (n + more) (front ++ drop n bytes) ≡ drop (n + more) bytes
drop_behind front bytes n more h =
    sym (drop-drop more n (front ++ drop n bytes)) ∙ ap (drop more) (drop_at front (drop n bytes) n h) ∙ drop-drop more n bytes

pub overwritten-overwritten : (bytes : List ℕ) (place : ℕ) (first second : List ℕ) → overwritten (overwritten bytes place first) (place + length first) second ≡ overwritten bytes place (first ++ second)
overwritten-overwritten bytes place first second =
    let n = place + length first in
    let front = up_to place bytes ++ first in
    let size = front_length bytes place first in
    let start : up_to n (overwritten bytes place first) ≡ front = up_to_front front (drop n bytes) n size in
    let rest : drop (n + length second) (overwritten bytes place first) ≡ drop (n + length second) bytes = drop_behind front bytes n (length second) size in
    let reach : n + length second ≡ place + length (first ++ second) = rw length-append (omega arith) in
    ap (λ u. u ++ second ++ drop (n + length second) (overwritten bytes place first)) start
    ∙ ap (λ d. front ++ second ++ d) rest
    ∙ ap (λ k. front ++ second ++ drop k bytes) reach
    ∙ ap (λ l. l ++ drop (place + length (first ++ second)) bytes) (append_assoc (up_to place bytes) first second)

-- a piece that is not empty is overwritten
pub written_overwritten : (bytes : List ℕ) (place : ℕ) (piece : List ℕ) → 0 < length piece → written bytes place piece ≡ overwritten bytes place piece
written_overwritten bytes place [] h = absurd (omega arith)
written_overwritten bytes place (first ∷ rest) h = refl

-- two pieces that are written one behind the other are their concatenation, written
pub written-written : (bytes : List ℕ) (place : ℕ) (first second : List ℕ) → written (written bytes place first) (place + length first) second ≡ written bytes place (first ++ second)
written-written bytes place [] second = rw add-zero refl
written-written bytes place (x ∷ xs) [] = ap (written bytes place) (sym (append-nil (x ∷ xs)))
written-written bytes place (x ∷ xs) (y ∷ ys) = overwritten-overwritten bytes place (x ∷ xs) (y ∷ ys)

-- the same, where the bytes may be told or not
pub told_written-written : (bytes : Option (List ℕ)) (place : ℕ) (first second : List ℕ) → option_map (λ b. written b (place + length first) second) (option_map (λ b. written b place first) bytes) ≡ option_map (λ b. written b place (first ++ second)) bytes
told_written-written None place first second = refl
told_written-written (Some b) place first second = ap Some (written-written b place first second)

-- a write at the end is a concatenation
pub written_at_end : (bytes piece : List ℕ) → written bytes (length bytes) piece ≡ bytes ++ piece
written_at_end bytes [] = sym (append-nil bytes)
written_at_end bytes (x ∷ xs) =
    let start : up_to (length bytes) bytes ≡ bytes = up_to_short (length bytes) bytes (omega arith) ∙ take_all (length bytes) bytes (omega arith) in
    let none : drop (length bytes + length (x ∷ xs)) bytes ≡ [] = drop_all (length bytes + length (x ∷ xs)) bytes (omega arith) in
    ap (λ u. u ++ (x ∷ xs) ++ drop (length bytes + length (x ∷ xs)) bytes) start
    ∙ ap (λ d. bytes ++ (x ∷ xs) ++ d) none
    ∙ append-nil (bytes ++ (x ∷ xs))

-- the front of two lists joined
take_over : (xs ys : List ℕ) (n : ℕ) → take n (xs ++ ys) ≡ take n xs ++ take (n - length xs) ys
take_over [] ys zero = refl
take_over [] ys (suc n) = let e : suc n - 0 ≡ suc n = omega arith in ap (λ k. take k ys) (sym e)
take_over (x ∷ xs) ys zero = let e : 0 - length (x ∷ xs) ≡ 0 = omega arith in ap (λ k. take k ys) (sym e)
take_over (x ∷ xs) ys (suc n) =
    let e : suc n - length (x ∷ xs) ≡ n - length xs = omega arith in
    ap (λ l. x ∷ l) (take_over xs ys n) ∙ ap (λ k. x ∷ take n xs ++ take k ys) (sym e)

up_to_stretched : (bytes : List ℕ) (place n : ℕ) → place ≤ n → up_to place (bytes ++ replicate (n - length bytes) 0) ≡ up_to place bytes
up_to_stretched bytes place n h =
    let long : place ≤ length (bytes ++ replicate (n - length bytes) 0) = simp (length-append, length-replicate) (omega arith) in
    let small : place - length bytes ≤ n - length bytes = omega arith in
    up_to_short place (bytes ++ replicate (n - length bytes) 0) long
    ∙ take_over bytes (replicate (n - length bytes) 0) place
    ∙ ap (λ l. take place bytes ++ l) (take-replicate (place - length bytes) (n - length bytes) 0 small)

-- the rest of two lists joined
drop_over : (xs ys : List ℕ) (n : ℕ) → drop n (xs ++ ys) ≡ drop n xs ++ drop (n - length xs) ys
drop_over [] ys zero = refl
drop_over [] ys (suc n) = let e : suc n - 0 ≡ suc n = omega arith in ap (λ k. drop k ys) (sym e)
drop_over (x ∷ xs) ys zero = let e : 0 - length (x ∷ xs) ≡ 0 = omega arith in ap (λ k. (x ∷ xs) ++ drop k ys) (sym e)
drop_over (x ∷ xs) ys (suc n) =
    let e : suc n - length (x ∷ xs) ≡ n - length xs = omega arith in
    drop_over xs ys n ∙ ap (λ k. drop n xs ++ drop k ys) (sym e)

drop_stretched : (bytes : List ℕ) (n : ℕ) → drop n (bytes ++ replicate (n - length bytes) 0) ≡ drop n bytes
drop_stretched bytes n =
    let k = n - length bytes in
    let none : drop k (replicate k 0) ≡ [] = drop_all k (replicate k 0) (rw length-replicate (omega arith)) in
    drop_over bytes (replicate k 0) n ∙ ap (λ l. drop n bytes ++ l) none ∙ append-nil (drop n bytes)

-- zeros that reach the end of a piece change nothing in what its write leaves
pub overwritten_stretched : (bytes : List ℕ) (place : ℕ) (piece : List ℕ) → overwritten (bytes ++ replicate (place + length piece - length bytes) 0) place piece ≡ overwritten bytes place piece
overwritten_stretched bytes place piece =
    let n = place + length piece in
    let early : place ≤ place + length piece = omega arith in
    ap (λ u. u ++ piece ++ drop n (bytes ++ replicate (n - length bytes) 0)) (up_to_stretched bytes place n early)
    ∙ ap (λ d. up_to place bytes ++ piece ++ d) (drop_stretched bytes n)

-- a piece overwritten over bytes of which there are enough, in a vector that had them
pub stored : (bytes whole part after : List ℕ) (size place : ℕ) (piece : List ℕ) → whole ≡ bytes ++ replicate (place + length piece - length bytes) 0 → part ≡ whole → length part ≡ size → after ≡ overwritten part place piece → 0 < length piece → take size (after ++ drop (length after) whole) ≡ written bytes place piece
stored bytes whole part after size place piece stretched same long put_is some =
    let is_put : after ≡ overwritten bytes place piece = put_is ∙ ap (λ l. overwritten l place piece) (same ∙ stretched) ∙ overwritten_stretched bytes place piece in
    let after_length : length after ≡ max (length bytes) (place + length piece) = ap length is_put ∙ length-overwritten bytes place piece in
    let whole_length : length whole ≡ length bytes + (place + length piece - length bytes) = ap length stretched ∙ simp (length-append, length-replicate) in
    let part_length : length part ≡ length whole = ap length same in
    let none : drop (length after) whole ≡ [] = drop_all (length after) whole (omega arith) in
    ap (λ d. take size (after ++ d)) none ∙ ap (take size) (append-nil after) ∙ take_all size after (omega arith)
    ∙ is_put ∙ sym (written_overwritten bytes place piece some)
