-- One buffer more, from the bodies that are ahead.
use Rattle.std.proofs.Common.{◌≡◌, ◌⊎◌, ◌<◌, ◌≤◌, ℕ, zero, suc, ◌+◌, ◌-◌, ◌*◌, ◌/◌, ◌%◌, ◌^◌, true, false, ltb, List, [], ◌∷◌, ◌++◌, Option, Some, None, length, take, drop, map, refl, sym, ap, ◌∙◌, subst, inl, inr, append_assoc, append-nil, length-drop, arith}
use Rattle.std.specs.Prelude.{flat_map}
use Rattle.std.proofs.lemmas.Bool.{lt-ltb, le-ltb}
use Rattle.std.proofs.lemmas.List.{drop-append-le, drop-drop, take-append-le}
use Rattle.std.proofs.Math.Nat.{add-mul, mul-le-mul_right, div-zero, div-le_self}
use Rattle.gst_time.specs.declared.time.TheConstants.{LIMIT}
use Rattle.flow_model.specs.Item.{Item}
use Rattle.flow_model.specs.Looking.{bytes_of}
use Rattle.el_mix.specs.Mono.{Mono, width, time_of}
use Rattle.el_mix.specs.Mixed.{frames, frame, rows, piece, mixed, open_limit, longest, limit_by, limit}
use Rattle.el_mix.specs.Line.{past}
use Rattle.el_mix.specs.Turns.{Ahead, next_cut, HasAhead, IsAhead, sample, turn, turns}
use Rattle.el_mix.specs.Lined.{joined, Lined, AllLined, AllFit, Ready}
use Rattle.el_mix.proofs.Mixing.{width_some, div_grows, below_of_have, BelowOpen}
use Rattle.el_mix.proofs.Going.{next_buffer}
use Rattle.el_mix.proofs.Ends.{whole_is, some_rest, lined_past}
use Rattle.el_mix.proofs.Cutting.{Attains, Least, next_least, frames_ahead, frames_none, no_cut, cut_at, none_left, have_ahead}

-- past n bytes of each first body
abbrev pub all_past : ℕ → List Ahead → List Ahead
all_past n ls = map (λ (l : Ahead). (l.0, past n l.1)) ls

-- a frame that is ahead
frame_ahead : (mono : Mono) (next k : ℕ) (bs : List (List ℕ)) (xs : List Item) → Lined mono next bs xs → HasAhead ((k + 1) * width mono) bs
    → frame mono xs (next + k) ≡ sample mono.format bs (k * width mono)
frame_ahead mono next k [] xs l h =
    let low = frames_none mono next xs l in
    let past_all : ltb (next + k) (frames mono xs) ≡ false = le-ltb (next + k) (frames mono xs) (omega (arith, low)) in
    rw past_all refl
frame_ahead mono next k (b ∷ bs) xs l h =
    let high = frames_ahead mono next (k + 1) b bs xs l h in
    let among : ltb (next + k) (frames mono xs) ≡ true = lt-ltb (next + k) (frames mono xs) (omega (arith, high)) in
    let product = add-mul next k (width mono) in
    let one_more = add-mul k 1 (width mono) in
    let rest = length-drop (k * width mono) b in
    let there : drop ((next + k) * width mono) (bytes_of xs) ≡ drop (k * width mono) b ++ joined bs =
    ap (λ n. drop n (bytes_of xs)) product ∙ sym (drop-drop (k * width mono) (next * width mono) (bytes_of xs)) ∙ ap (drop (k * width mono)) l.bytes
    ∙ drop-append-le (k * width mono) b (joined bs) (omega (arith, one_more, h)) in
    rw among (ap (take (width mono)) there ∙ take-append-le (width mono) (drop (k * width mono) b) (joined bs) (omega (arith, rest, one_more, h)))

row_ahead : (mono : Mono) (next k : ℕ) (ls : List Ahead) (xss : List (List Item)) → AllLined mono next ls xss → IsAhead ((k + 1) * width mono) ls
    → flat_map (λ xs. frame mono xs (next + k)) xss ≡ turn mono.format ls (k * width mono)
row_ahead mono next k [] [] r a = refl
row_ahead mono next k [] (xs ∷ xss) r a = absurd r
row_ahead mono next k (l ∷ ls) [] r a = absurd r
row_ahead mono next k (l ∷ ls) (xs ∷ xss) r a = rw (frame_ahead mono next k l.1 xs r.0.1 a.0, row_ahead mono next k ls xss r.1 a.1) refl

-- the last row of some
rows_last : (mono : Mono) (xss : List (List Item)) (f n : ℕ) → rows mono xss f (suc n) ≡ rows mono xss f n ++ flat_map (λ xs. frame mono xs (f + n)) xss
rows_last mono xss f zero =
    let same : f ≡ f + 0 = omega arith in
    append-nil (flat_map (λ xs. frame mono xs f) xss) ∙ ap (λ k. flat_map (λ xs. frame mono xs k) xss) same
rows_last mono xss f (suc n) =
    let order : suc f + n ≡ f + suc n = omega arith in
    ap (λ zs. flat_map (λ xs. frame mono xs f) xss ++ zs) (rows_last mono xss (suc f) n)
    ∙ sym (append_assoc (flat_map (λ xs. frame mono xs f) xss) (rows mono xss (suc f) n) (flat_map (λ xs. frame mono xs (suc f + n)) xss))
    ∙ ap (λ k. rows mono xss f (suc n) ++ flat_map (λ xs. frame mono xs k) xss) order

pub fewer_ahead : (m n : ℕ) (ls : List Ahead) → m ≤ n → IsAhead n ls → IsAhead m ls
fewer_ahead m n [] h a = tt
fewer_ahead m n ((ended, []) ∷ ls) h a = (tt, fewer_ahead m n ls h a.1)
fewer_ahead m n ((ended, b ∷ bs) ∷ ls) h a = (omega (arith, h, a.0), fewer_ahead m n ls h a.1)

rows_turns : (mono : Mono) (next n : ℕ) (ls : List Ahead) (xss : List (List Item)) → AllLined mono next ls xss → IsAhead (n * width mono) ls
    → rows mono xss next n ≡ turns mono.format ls n
rows_turns mono next zero ls xss r a = refl
rows_turns mono next (suc n) ls xss r a =
    let more : n + 1 ≡ suc n = omega arith in
    let fewer : n * width mono ≤ suc n * width mono = mul-le-mul_right (width mono) (omega arith) in
    rows_last mono xss next n
    ∙ ap (λ zs. zs ++ flat_map (λ xs. frame mono xs (next + n)) xss) (rows_turns mono next n ls xss r (fewer_ahead (n * width mono) (suc n * width mono) ls fewer a))
    ∙ ap (λ zs. turns mono.format ls n ++ zs) (row_ahead mono next n ls xss r (subst (λ k. IsAhead (k * width mono) ls) (sym more) a))

-- what the pad whose first body is the least has
longest_has : (mono : Mono) (next f : ℕ) (ls : List Ahead) (xss : List (List Item)) → AllLined mono next ls xss → Attains (f * width mono) ls → next + f ≤ longest mono xss
longest_has mono next f [] xss r a = absurd a
longest_has mono next f (l ∷ ls) [] r a = absurd r
longest_has mono next f ((ended, []) ∷ ls) (xs ∷ xss) r (inl a) = absurd a
longest_has mono next f ((ended, b ∷ bs) ∷ ls) (xs ∷ xss) r (inl a) =
    let has = frames_ahead mono next f b bs xs r.0.1 (omega (arith, a)) in omega (arith, has)
longest_has mono next f (l ∷ ls) (xs ∷ xss) r (inr a) = let has = longest_has mono next f ls xss r.1 a in omega (arith, has)

quotient_grows : (r a b : ℕ) → a ≤ b → a / r ≤ b / r
quotient_grows zero a b h = rw (div-zero a, div-zero b) (omega arith)
quotient_grows (suc r) a b h = div_grows (suc r) a b (omega arith) h

pub time_grows : (mono : Mono) (a b : ℕ) → a ≤ b → time_of mono a ≤ time_of mono b
time_grows mono a b h = quotient_grows mono.rate (a * 1000000000) (b * 1000000000) (omega (arith, h))

end_fits : (mono : Mono) (next f : ℕ) (ls : List Ahead) (xss : List (List Item)) → AllLined mono next ls xss → Attains (f * width mono) ls → AllFit mono xss
    → (time_of mono (next + f) < LIMIT) × (next + f < 2 ^ 62)
end_fits mono next f [] xss r a fits = absurd a
end_fits mono next f (l ∷ ls) [] r a fits = absurd r
end_fits mono next f ((ended, []) ∷ ls) (xs ∷ xss) r (inl a) fits = absurd a
end_fits mono next f ((ended, b ∷ bs) ∷ ls) (xs ∷ xss) r (inl a) fits =
    let has = frames_ahead mono next f b bs xs r.0.1 (omega (arith, a)) in
    let earlier = time_grows mono (next + f) (frames mono xs) has in
    let few = div-le_self (length (bytes_of xs)) (width mono) in
    let late = fits.0.0 in
    let small = fits.0.1 in
    (omega (arith, earlier, late), omega (arith, has, few, small))
end_fits mono next f (l ∷ ls) (xs ∷ xss) r (inr a) fits = end_fits mono next f ls xss r.1 a fits.1

all_lined_past : (mono : Mono) (next f : ℕ) (ls : List Ahead) (xss : List (List Item)) → AllLined mono next ls xss → IsAhead (f * width mono) ls
    → AllLined mono (next + f) (all_past (f * width mono) ls) xss
all_lined_past mono next f [] [] r a = tt
all_lined_past mono next f [] (xs ∷ xss) r a = absurd r
all_lined_past mono next f (l ∷ ls) [] r a = absurd r
all_lined_past mono next f (l ∷ ls) (xs ∷ xss) r a = ((r.0.0, lined_past mono next f l.1 xs a.0 r.0.1), all_lined_past mono next f ls xss r.1 a.1)

-- the first bodies are whole frames, and not empty
attained_whole : (mono : Mono) (next n : ℕ) (ls : List Ahead) (xss : List (List Item)) → AllLined mono next ls xss → Attains n ls → (n % width mono ≡ 0) × (0 < n)
attained_whole mono next n [] xss r a = absurd a
attained_whole mono next n (l ∷ ls) [] r a = absurd r
attained_whole mono next n ((ended, []) ∷ ls) (xs ∷ xss) r (inl a) = absurd a
attained_whole mono next n ((ended, b ∷ bs) ∷ ls) (xs ∷ xss) r (inl a) =
    let some = (some_rest b bs r.0.1.some).0 in
    (ap (λ m. m % width mono) (sym a) ∙ r.0.1.whole.0, omega (arith, some, a))
attained_whole mono next n (l ∷ ls) (xs ∷ xss) r (inr a) = attained_whole mono next n ls xss r.1 a

pub record Step (mono : Mono) (next reached n : ℕ) (ls : List Ahead) (xss : List (List Item)) : Type 0 where
  pub more : mixed mono xss next next (limit mono xss - next) ≡ piece mono xss next (next + n / width mono) ∷ mixed mono xss (next + n / width mono) (next + n / width mono) (limit mono xss - (next + n / width mono))
  pub body : rows mono xss next (n / width mono) ≡ turns mono.format ls (n / width mono)
  pub ready : Ready mono (next + n / width mono) (time_of mono (next + n / width mono)) (all_past n ls) xss
  pub small : next + n / width mono < 2 ^ 62
  pub fits : time_of mono (next + n / width mono) < LIMIT
  pub whole : n / width mono * width mono ≡ n
  pub some : 0 < n

-- the step, with the number of frames as a variable
framed : (mono : Mono) (next reached f n : ℕ) (ls : List Ahead) (xss : List (List Item)) → n ≡ f * width mono → 0 < f → Ready mono next reached ls xss
    → Least n None ls → Attains n ls
    → (mixed mono xss next next (limit mono xss - next) ≡ piece mono xss next (next + f) ∷ mixed mono xss (next + f) (next + f) (limit mono xss - (next + f)))
    × ((rows mono xss next f ≡ turns mono.format ls f) × (Ready mono (next + f) (time_of mono (next + f)) (all_past n ls) xss × ((next + f < 2 ^ 62) × (time_of mono (next + f) < LIMIT))))
framed mono next reached f n ls xss is pos r least at =
    let ahead : IsAhead (f * width mono) ls = subst (λ m. IsAhead m ls) is least.ahead in
    let attains : Attains (f * width mono) ls = subst (λ m. Attains m ls) is at in
    let long = longest_has mono next f ls xss r.lined attains in
    let within : next + f ≤ limit mono xss = above (open_limit mono xss) (below_of_have mono (next + f) xss (have_ahead mono next f ls xss r.lined ahead least.served)) long in
    let ends = end_fits mono next f ls xss r.lined attains r.fits in
    let count : limit mono xss - next ≡ f + (limit mono xss - (next + f)) = omega (arith, within) in
    let lined : AllLined mono (next + f) (all_past n ls) xss = subst (λ m. AllLined mono (next + f) (all_past m ls) xss) (sym is) (all_lined_past mono next f ls xss r.lined ahead) in (
      ap (λ m. mixed mono xss next next m) count
          ∙ next_buffer mono xss next f (limit mono xss - (next + f)) pos (cut_at mono next f ls xss r.lined attains pos)
          (λ k some less. no_cut mono next (f * width mono) k ls xss r.lined ahead some (fewer k less)),
      (rows_turns mono next f ls xss r.lined ahead, (record { lined = lined; within = within; fits = r.fits; time = refl }, (ends.1, ends.0))),
    )
  where
    above : (o : Option ℕ) → BelowOpen (next + f) o → next + f ≤ longest mono xss → next + f ≤ limit_by (longest mono xss) o
    above None b h = h
    above (Some m) b h = b

    fewer : (k : ℕ) → k < f → k * width mono < f * width mono
    fewer k less =
        let more = mul-le-mul_right (width mono) less in
        let one = add-mul k 1 (width mono) in
        let same : suc k ≡ k + 1 = omega arith in
        let more' : (k + 1) * width mono ≤ f * width mono = subst (λ m. m * width mono ≤ f * width mono) same more in
        let wide = width_some mono in
        omega (arith, more', one, wide)

pub step : (mono : Mono) (next reached n : ℕ) (ls : List Ahead) (xss : List (List Item)) → Ready mono next reached ls xss → next_cut None ls ≡ Some n
    → Step mono next reached n ls xss
step mono next reached n ls xss r e = go (least.attained)
  where
    least : Least n None ls
    least = next_least n None ls e

    go : (None ≡ Some n) ⊎ Attains n ls → Step mono next reached n ls xss
    go (inl s) = absurd (cc)
    go (inr at) =
        let w = attained_whole mono next n ls xss r.lined at in
        let is : n / width mono * width mono ≡ n = whole_is (width mono) n w.0 in
        let some : 0 < n / width mono = some_frames (n / width mono) is w.1 in
        let all = framed mono next reached (n / width mono) n ls xss (sym is) some r least at in
        record { more = all.0; body = all.1.0; ready = all.1.1.0; small = all.1.1.1.0; fits = all.1.1.1.1; whole = is; some = w.1 }
      where
        some_frames : (f : ℕ) → f * width mono ≡ n → 0 < n → 0 < f
        some_frames zero is h = absurd (omega (arith, is, h))
        some_frames (suc f) is h = omega arith

-- where no cut is known, all that is owed went out
pub all_out : (mono : Mono) (next reached : ℕ) (ls : List Ahead) (xss : List (List Item)) → Ready mono next reached ls xss → next_cut None ls ≡ None → next ≡ limit mono xss
all_out mono next reached ls xss r e =
    let high = none_left mono next ls xss r.lined e in
    let low = r.within in
    omega (arith, high, low)
