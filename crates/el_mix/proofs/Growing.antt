-- A pad's list with one more item.
use Rattle.std.proofs.Common.{◌≡◌, ◌⊎◌, ◌<◌, ◌≤◌, ℕ, ◌+◌, ◌*◌, ◌/◌, ◌%◌, Bool, true, false, if◌then◌else◌, eqb, List, [], ◌∷◌, ◌++◌, Option, Some, None, length, drop, refl, sym, ap, ◌∙◌, inl, inr, append-nil, append_assoc, length-append, length-drop, arith}
use Rattle.std.proofs.lemmas.Bool.{eq-eqb, ne_eqb, cases_eq}
use Rattle.std.proofs.lemmas.List.{drop-append-le, drop_all}
use Rattle.std.proofs.Math.Nat.{add-mul, mul-mod_left, zero-div}
use Rattle.std.proofs.lemmas.Nat.{div-mul-add}
use Rattle.flow_model.specs.Item.{Item, Buf, Ev, StreamStart, NewCaps, NewSegment, Tag, Gap, FlushStop, Eos, body_of}
use Rattle.flow_model.specs.Looking.{bytes_of}
use Rattle.el_mix.specs.Mono.{Mono, width}
use Rattle.el_mix.specs.Mixed.{has, ends_at}
use Rattle.el_mix.specs.Agreed.{or_else, caps_in, pad_caps}
use Rattle.el_mix.specs.Mixes.{is_start, id_in, pad_id}
use Rattle.el_mix.specs.Line.{all_some}
use Rattle.el_mix.specs.Lined.{joined, ends_in, AllWhole, Lined}
use Rattle.el_mix.proofs.Mixing.{width_some}
use Rattle.el_mix.proofs.Ends.{whole_is, over_some, some_rest, some_more}
use Rattle.flow_model.proofs.Looking.{bytes_push}

-- what is asked of the items
pub has_push : (test : Item → Bool) (xs : List Item) (x : Item) → has test (xs ++ x ∷ []) ≡ (if has test xs then true else test x)
has_push test [] x = go (test x)
  where
    go : (b : Bool) → (if b then true else false) ≡ b
    go true = refl
    go false = refl
has_push test (y ∷ ys) x = go (test y) (has_push test ys x)
  where
    go : (b : Bool) → has test (ys ++ x ∷ []) ≡ (if has test ys then true else test x)
        → (if b then true else has test (ys ++ x ∷ [])) ≡ (if (if b then true else has test ys) then true else test x)
    go true r = refl
    go false r = r

pub or_none : {A : Type 0} (o : Option A) → or_else o None ≡ o
or_none None = refl
or_none (Some x) = refl

pub or_or : {A : Type 0} (o p q : Option A) → or_else o (or_else p q) ≡ or_else (or_else o p) q
or_or None p q = refl
or_or (Some x) p q = refl

pub caps_push : (xs : List Item) (x : Item) → pad_caps (xs ++ x ∷ []) ≡ or_else (pad_caps xs) (caps_in x)
caps_push [] x = or_none (caps_in x)
caps_push (y ∷ ys) x = ap (or_else (caps_in y)) (caps_push ys x) ∙ or_or (caps_in y) (pad_caps ys) (caps_in x)

start_no_id : (x : Item) → (if is_start x then None else or_else (id_in x) None) ≡ id_in x
start_no_id (Buf b) = refl
start_no_id (Ev (StreamStart id)) = refl
start_no_id (Ev (NewCaps caps)) = refl
start_no_id (Ev (NewSegment s)) = refl
start_no_id (Ev (Tag title)) = refl
start_no_id (Ev (Gap pts duration)) = refl
start_no_id (Ev (FlushStop number)) = refl
start_no_id (Ev Eos) = refl

pub id_push : (xs : List Item) (x : Item) → pad_id (xs ++ x ∷ []) ≡ (if has is_start xs then pad_id xs else or_else (pad_id xs) (id_in x))
id_push [] x = start_no_id x
id_push (y ∷ ys) x = go (is_start y) (has is_start ys) (id_push ys x)
  where
    go : (b c : Bool) → pad_id (ys ++ x ∷ []) ≡ (if c then pad_id ys else or_else (pad_id ys) (id_in x))
        → (if b then None else or_else (id_in y) (pad_id (ys ++ x ∷ [])))
        ≡ (if (if b then true else c) then (if b then None else or_else (id_in y) (pad_id ys)) else or_else (if b then None else or_else (id_in y) (pad_id ys)) (id_in x))
    go true c r = refl
    go false true r = ap (or_else (id_in y)) r
    go false false r = ap (or_else (id_in y)) r ∙ or_or (id_in y) (pad_id ys) (id_in x)

-- the frames at which buffers end
ends_push : (mono : Mono) (got : ℕ) (xs : List Item) (x : Item) (f : ℕ)
    → ends_at mono got (xs ++ x ∷ []) f ≡ (if ends_at mono got xs f then true else eqb ((got + length (bytes_of xs) + length (body_of x)) / width mono) f)
ends_push mono got [] x f =
    let all : got + length (body_of x) ≡ got + 0 + length (body_of x) = omega arith in
    go (eqb ((got + length (body_of x)) / width mono) f) ∙ ap (λ n. eqb (n / width mono) f) all
  where
    go : (b : Bool) → (if b then true else false) ≡ b
    go true = refl
    go false = refl
ends_push mono got (y ∷ ys) x f =
    let both = length-append (body_of y) (bytes_of ys) in
    let all : got + length (body_of y) + length (bytes_of ys) + length (body_of x) ≡ got + length (body_of y ++ bytes_of ys) + length (body_of x) = omega (arith, both) in
    ap (λ c. if eqb ((got + length (body_of y)) / width mono) f then true else c)
    (ends_push mono (got + length (body_of y)) ys x f
    ∙ ap (λ n. if ends_at mono (got + length (body_of y)) ys f then true else eqb (n / width mono) f) all)
    ∙ go (eqb ((got + length (body_of y)) / width mono) f) (ends_at mono (got + length (body_of y)) ys f) (eqb ((got + length (body_of y ++ bytes_of ys) + length (body_of x)) / width mono) f)
  where
    go : (a b c : Bool) → (if a then true else (if b then true else c)) ≡ (if (if a then true else b) then true else c)
    go true b c = refl
    go false b c = refl

ends_in_push : (w got : ℕ) (bs : List (List ℕ)) (b : List ℕ) (k : ℕ)
    → ends_in w got (bs ++ b ∷ []) k ≡ (if ends_in w got bs k then true else eqb (got + length (joined bs) + length b) (k * w))
ends_in_push w got [] b k =
    let all : got + length b ≡ got + 0 + length b = omega arith in
    go (eqb (got + length b) (k * w)) ∙ ap (λ n. eqb n (k * w)) all
  where
    go : (c : Bool) → (if c then true else false) ≡ c
    go true = refl
    go false = refl
ends_in_push w got (a ∷ cs) b k =
    let both = length-append a (joined cs) in
    let all : got + length a + length (joined cs) + length b ≡ got + length (a ++ joined cs) + length b = omega (arith, both) in
    ap (λ c. if eqb (got + length a) (k * w) then true else c)
    (ends_in_push w (got + length a) cs b k ∙ ap (λ n. if ends_in w (got + length a) cs k then true else eqb n (k * w)) all)
    ∙ go (eqb (got + length a) (k * w)) (ends_in w (got + length a) cs k) (eqb (got + length (a ++ joined cs) + length b) (k * w))
  where
    go : (x y z : Bool) → (if x then true else (if y then true else z)) ≡ (if (if x then true else y) then true else z)
    go true y z = refl
    go false y z = refl

joined_push : (bs : List (List ℕ)) (b : List ℕ) → joined (bs ++ b ∷ []) ≡ joined bs ++ b
joined_push [] b = append-nil b
joined_push (a ∷ cs) b = ap (λ zs. a ++ zs) (joined_push cs b) ∙ sym (append_assoc a (joined cs) b)

whole_push : (w : ℕ) (bs : List (List ℕ)) (b : List ℕ) → AllWhole w bs → length b % w ≡ 0 → AllWhole w (bs ++ b ∷ [])
whole_push w [] b a e = (e, tt)
whole_push w (c ∷ cs) b a e = (a.0, whole_push w cs b a.1 e)

pub some_push : (bs : List (List ℕ)) (b : List ℕ) → all_some bs ≡ true → 0 < length b → all_some (bs ++ b ∷ []) ≡ true
some_push [] b a h = some_more b [] h refl
some_push (c ∷ cs) b a h = let s = some_rest c cs a in some_more c (cs ++ b ∷ []) s.0 (some_push cs b s.1 h)

-- a place of whole frames
pub sum_whole : (w a b : ℕ) → a % w ≡ 0 → b % w ≡ 0 → (a + b) % w ≡ 0
sum_whole w a b p q =
    let x = whole_is w a p in
    let y = whole_is w b q in
    let z = add-mul (a / w) (b / w) w in
    let all : a + b ≡ (a / w + b / w) * w = omega (arith, x, y, z) in
    ap (λ n. n % w) all ∙ mul-mod_left (a / w + b / w) w

over_back : (w f : ℕ) → 0 < w → f * w / w ≡ f
over_back w f some = let all : f * w ≡ f * w + 0 = omega arith in ap (λ n. n / w) all ∙ div-mul-add f w 0 some

place_eqb : (w a f : ℕ) → 0 < w → a % w ≡ 0 → eqb (a / w) f ≡ eqb a (f * w)
place_eqb w a f some e = go (cases_eq a (f * w))
  where
    go : ((a ≡ f * w) ⊎ (a ≡ f * w → ⊥)) → eqb (a / w) f ≡ eqb a (f * w)
    go (inl is) = eq-eqb (a / w) f (ap (λ n. n / w) is ∙ over_back w f some) ∙ sym (eq-eqb a (f * w) is)
    go (inr isnt) = ne_eqb (a / w) f (λ h. isnt (sym (whole_is w a e) ∙ ap (λ q. q * w) h)) ∙ sym (ne_eqb a (f * w) isnt)

moved_eqb : (a b c d n : ℕ) → a ≡ n + c → b ≡ n + d → eqb a b ≡ eqb c d
moved_eqb a b c d n p q = go (cases_eq c d)
  where
    go : ((c ≡ d) ⊎ (c ≡ d → ⊥)) → eqb a b ≡ eqb c d
    go (inl is) = eq-eqb a b (omega (arith, p, q, is)) ∙ sym (eq-eqb c d is)
    go (inr isnt) = ne_eqb a b (λ h. isnt (omega (arith, p, q, h))) ∙ sym (ne_eqb c d isnt)

-- the end of all of them
ends_total : (w got : ℕ) (b : List ℕ) (bs : List (List ℕ)) (k : ℕ) → got + length (joined (b ∷ bs)) ≡ k * w → ends_in w got (b ∷ bs) k ≡ true
ends_total w got b [] k e =
    let both = length-append b [] in
    let is : eqb (got + length b) (k * w) ≡ true = eq-eqb (got + length b) (k * w) (omega (arith, both, e)) in rw is refl
ends_total w got b (c ∷ cs) k e =
    let both = length-append b (joined (c ∷ cs)) in
    go (eqb (got + length b) (k * w)) (ends_total w (got + length b) c cs k (omega (arith, both, e)))
  where
    go : (x : Bool) → ends_in w (got + length b) (c ∷ cs) k ≡ true → (if x then true else ends_in w (got + length b) (c ∷ cs) k) ≡ true
    go true r = refl
    go false r = r

pub left_length : (mono : Mono) (next : ℕ) (bs : List (List ℕ)) (xs : List Item) → Lined mono next bs xs → next * width mono ≤ length (bytes_of xs)
    → length (bytes_of xs) ≡ next * width mono + length (joined bs)
left_length mono next bs xs l h =
    let all = ap length l.bytes in
    let left = length-drop (next * width mono) (bytes_of xs) in
    omega (arith, all, left, h)

-- a buffer of whole frames
pub lined_body : (mono : Mono) (next : ℕ) (bs : List (List ℕ)) (xs : List Item) (x : Item) → next * width mono ≤ length (bytes_of xs) → length (bytes_of xs) % width mono ≡ 0
    → 0 < length (body_of x) → length (body_of x) % width mono ≡ 0 → Lined mono next bs xs → Lined mono next (bs ++ body_of x ∷ []) (xs ++ x ∷ [])
lined_body mono next bs xs x low got some whole l = record {
  bytes = ap (drop (next * width mono)) (bytes_push xs x) ∙ drop-append-le (next * width mono) (bytes_of xs) (body_of x) low
      ∙ ap (λ zs. zs ++ body_of x) l.bytes ∙ sym (joined_push bs (body_of x));
  ends = λ k pos. ends_push mono 0 xs x (next + k) ∙ ap (λ c. if c then true else eqb ((0 + length (bytes_of xs) + length (body_of x)) / width mono) (next + k)) (l.ends k pos)
      ∙ ap (λ c. if ends_in (width mono) 0 bs k then true else c) (last k) ∙ sym (ends_in_push (width mono) 0 bs (body_of x) k);
  whole = whole_push (width mono) bs (body_of x) l.whole whole;
  some = some_push bs (body_of x) l.some some;
}
  where
    last : (k : ℕ) → eqb ((0 + length (bytes_of xs) + length (body_of x)) / width mono) (next + k) ≡ eqb (0 + length (joined bs) + length (body_of x)) (k * width mono)
    last k =
        let all = left_length mono next bs xs l low in
        let product = add-mul next k (width mono) in
        let first : 0 + length (bytes_of xs) + length (body_of x) ≡ length (bytes_of xs) + length (body_of x) = omega arith in
        ap (λ n. eqb (n / width mono) (next + k)) first
        ∙ place_eqb (width mono) (length (bytes_of xs) + length (body_of x)) (next + k) (width_some mono) (sum_whole (width mono) (length (bytes_of xs)) (length (body_of x)) got whole)
        ∙ moved_eqb (length (bytes_of xs) + length (body_of x)) ((next + k) * width mono) (0 + length (joined bs) + length (body_of x)) (k * width mono) (next * width mono)
        (omega (arith, all)) (omega (arith, product))

-- an item without bytes
pub lined_none : (mono : Mono) (next : ℕ) (bs : List (List ℕ)) (xs : List Item) (x : Item) → next * width mono ≤ length (bytes_of xs) → length (bytes_of xs) % width mono ≡ 0
    → body_of x ≡ [] → Lined mono next bs xs → Lined mono next bs (xs ++ x ∷ [])
lined_none mono next bs xs x low got none l = record {
  bytes = ap (drop (next * width mono)) (bytes_push xs x ∙ ap (λ b. bytes_of xs ++ b) none ∙ append-nil (bytes_of xs)) ∙ l.bytes;
  ends = λ k pos. ends_push mono 0 xs x (next + k) ∙ ap (λ c. if c then true else eqb ((0 + length (bytes_of xs) + length (body_of x)) / width mono) (next + k)) (l.ends k pos)
      ∙ same k pos bs l (cases_eq (length (joined bs)) (k * width mono));
  whole = l.whole;
  some = l.some;
}
  where
    last : (k : ℕ) (bs : List (List ℕ)) → Lined mono next bs xs → eqb ((0 + length (bytes_of xs) + length (body_of x)) / width mono) (next + k) ≡ eqb (length (joined bs)) (k * width mono)
    last k bs l =
        let all = left_length mono next bs xs l low in
        let product = add-mul next k (width mono) in
        let nothing = ap length none in
        let first : 0 + length (bytes_of xs) + length (body_of x) ≡ length (bytes_of xs) = omega (arith, nothing) in
        ap (λ n. eqb (n / width mono) (next + k)) first
        ∙ place_eqb (width mono) (length (bytes_of xs)) (next + k) (width_some mono) got
        ∙ moved_eqb (length (bytes_of xs)) ((next + k) * width mono) (length (joined bs)) (k * width mono) (next * width mono) (omega (arith, all)) (omega (arith, product))

    either : (b c : Bool) → (c ≡ true → b ≡ true) → (if b then true else c) ≡ b
    either true c h = refl
    either false true h = sym (h refl)
    either false false h = refl

    same : (k : ℕ) → 0 < k → (bs : List (List ℕ)) → Lined mono next bs xs → ((length (joined bs) ≡ k * width mono) ⊎ (length (joined bs) ≡ k * width mono → ⊥))
        → (if ends_in (width mono) 0 bs k then true else eqb ((0 + length (bytes_of xs) + length (body_of x)) / width mono) (next + k)) ≡ ends_in (width mono) 0 bs k
    same k pos bs l (inr isnt) = either (ends_in (width mono) 0 bs k) _ (λ h. absurd (differ (sym (last k bs l ∙ ne_eqb (length (joined bs)) (k * width mono) isnt) ∙ h)))
      where
        differ : false ≡ true → ⊥
        differ e = cc
    same k pos [] l (inl is) = absurd (let more = over_some (width mono) k (width_some mono) pos in omega (arith, is, more))
    same k pos (b ∷ bs) l (inl is) = either (ends_in (width mono) 0 (b ∷ bs) k) _ (λ h. ends_total (width mono) 0 b bs k (omega (arith, is)))

-- a list without bytes
pub lined_empty : (mono : Mono) (next : ℕ) (xs : List Item) → bytes_of xs ≡ [] → Lined mono next [] xs
lined_empty mono next xs none = record {
  bytes = ap (drop (next * width mono)) none ∙ drop_all (next * width mono) [] (omega arith);
  ends = λ k pos. no_ends xs none (next + k) (omega (arith, pos));
  whole = tt;
  some = refl;
}
  where
    both_none : (a b : List ℕ) → a ++ b ≡ [] → (a ≡ []) × (b ≡ [])
    both_none [] b e = (refl, e)
    both_none (x ∷ a) b e = absurd (cc)

    no_ends : (xs : List Item) → bytes_of xs ≡ [] → (f : ℕ) → 0 < f → ends_at mono 0 xs f ≡ false
    no_ends [] e f pos = refl
    no_ends (x ∷ xs) e f pos =
        let parts = both_none (body_of x) (bytes_of xs) e in
        let nothing = ap length parts.0 in
        let here : 0 + length (body_of x) ≡ 0 = omega (arith, nothing) in
        let quotient = zero-div (width mono) in
        let isnt : eqb (0 / width mono) f ≡ false = ne_eqb (0 / width mono) f (λ h. absurd (omega (arith, quotient, h, pos))) in
        ap (λ n. if eqb (n / width mono) f then true else ends_at mono n xs f) here ∙ rw isnt (no_ends xs parts.1 f pos)
