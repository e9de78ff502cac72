-- What the loop that fills a slice from a source keeps.
use Rattle.std.proofs.Common.{◌≡◌, ℕ, ◌+◌, ◌-◌, ◌≤◌, List, ◌++◌, length, take, drop, ap, sym, ◌∙◌, arith, Option, Some, length-append, length-take, length-drop}
use Rattle.std.specs.Option.{ForSome}
use Rattle.std.proofs.lemmas.List.{drop-drop, take-append-le, take_at, drop_at}
use Rattle.gst_value.proofs.Places.{take_apart}
use borrow.Rule.Slice.PartMut.{put_mid, post_of}

-- what stands in front of a slice, once a number of bytes were read from a place of a told content on
pub record Filled (content : Option (List ℕ)) (place got : ℕ) (into : List ℕ) : Type 0 where
  pub inside : (c : List ℕ) → content ≡ Some c → got ≤ length c - place
  pub front : (c : List ℕ) → content ≡ Some c → take got into ≡ take got (drop place c)

take_behind : (m n : ℕ) (front back : List ℕ) → length front ≡ m → take (m + n) (front ++ back) ≡ front ++ take n back
take_behind m n front back size =
    take_apart m n (front ++ back)
    ∙ ap (λ part. part ++ take n (drop m (front ++ back))) (take_at front back m size)
    ∙ ap (λ part. front ++ take n part) (drop_at front back m size)

-- a further part behind the front
pub front_more : (c xs ys : List ℕ) (place got more : ℕ) → got ≤ length xs → more ≤ length ys → take got xs ≡ take got (drop place c) → take more ys ≡ take more (drop (place + got) c)
    → take (got + more) (put_mid got (length xs - got) xs ys) ≡ take (got + more) (drop place c)
front_more c xs ys place got more fits room front back =
    let size : length (take got xs) ≡ got = omega (arith, length-take got xs) in
    take_behind got more (take got xs) (ys ++ post_of got (length xs - got) xs) size
    ∙ ap (λ part. take got xs ++ part) (take-append-le more ys (post_of got (length xs - got) xs) room ∙ back ∙ ap (take more) (sym (drop-drop got place c)))
    ∙ ap (λ part. part ++ take more (drop got (drop place c))) front
    ∙ sym (take_apart got more (drop place c))

-- a further read behind what was read
pub filled_more : (content now : Option (List ℕ)) (place got more : ℕ) (xs ys : List ℕ) → now ≡ content → Filled content place got xs → got ≤ length xs → more ≤ length ys
    → ForSome now (λ c. more ≤ length c - (place + got)) → ForSome now (λ c. take more ys ≡ take more (drop (place + got) c))
    → Filled content place (got + more) (put_mid got (length xs - got) xs ys)
filled_more content now place got more xs ys same filled fits room inside back = record {
  inside = λ c e. let before = filled.inside c e in let then = inside c (same ∙ e) in omega arith;
  front = λ c e. front_more c xs ys place got more fits room (filled.front c e) (back c (same ∙ e));
}

-- a written part leaves the length
pub length-put_mid : (xs ys : List ℕ) (got : ℕ) → got ≤ length xs → length ys ≡ length xs - got → length (put_mid got (length xs - got) xs ys) ≡ length xs
length-put_mid xs ys got fits size =
    let rest : List ℕ = drop (length xs - got) (drop got xs) in
    let none : length rest ≡ 0 = omega (arith, length-drop (length xs - got) (drop got xs), length-drop got xs) in
    let front : length (take got xs) ≡ got = omega (arith, length-take got xs) in
    let whole : length (take got xs ++ (ys ++ rest)) ≡ length (take got xs) + length (ys ++ rest) = length-append (take got xs) (ys ++ rest) in
    let back : length (ys ++ rest) ≡ length ys + length rest = length-append ys rest in
    let all : length (take got xs ++ (ys ++ rest)) ≡ length xs = omega arith in
    all

pub length-part : (xs : List ℕ) (got : ℕ) → length (take (length xs - got) (drop got xs)) ≡ length xs - got
length-part xs got = omega (arith, length-take (length xs - got) (drop got xs), length-drop got xs)
