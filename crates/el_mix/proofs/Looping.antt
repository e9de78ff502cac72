-- Steps of loops over the channels.
use Rattle.std.proofs.Common.{◌≡◌, ◌<◌, ◌≤◌, ℕ, zero, suc, ◌+◌, ◌-◌, ◌*◌, Bool, true, false, if◌then◌else◌, List, [], ◌∷◌, ◌++◌, Option, Some, None, length, take, drop, get_or, refl, sym, ap, ◌∙◌, subst, append-nil, append_assoc, add-one, arith}
use Rattle.std.proofs.lemmas.List.{drop_more, take_more, drop_all}
use Rattle.std.proofs.lemmas.List.Concat.{flat_map-append}
use Rattle.std.proofs.lemmas.Option.{same_Some as some_is}
use Rattle.audio_info.specs.declared.sample.Sample.{Sample}
use Rattle.audio_info.specs.Packing.{sample_width}
use Rattle.el_mix.specs.declared.channel.Channel.{Channel}
use Rattle.el_mix.specs.Line.{first_of}
use Rattle.el_mix.specs.Taking.{lines}
use Rattle.el_mix.specs.Turns.{Ahead, least_of, next_cut, HasAhead, IsAhead, sample, turn, turns}
use Rattle.el_mix.specs.Standing.{known, lower_known}
use Rattle.el_mix.specs.Wanted.{lowest}

-- the channel of a place stands before those behind it
pub drop_item : (cs : List Channel) (i : ℕ) (c : Channel) → i < length cs → c ≡ get_or cs i c → drop i cs ≡ c ∷ drop (i + 1) cs
drop_item cs i c lt is = drop_more cs i c lt ∙ ap (λ z. z ∷ drop (i + 1) cs) (sym is)

pub take_item : (cs : List Channel) (i : ℕ) (c : Channel) → i < length cs → c ≡ get_or cs i c → take (i + 1) cs ≡ take i cs ++ c ∷ []
take_item cs i c lt is = take_more cs i c lt ∙ ap (λ z. take i cs ++ z ∷ []) (sym is)

-- the next cut
cut_some : (o : Option ℕ) (c : Channel) (cs : List Channel) (b : List ℕ) → first_of c.waiting.ahead ≡ Some b → next_cut o (lines (c ∷ cs)) ≡ next_cut (least_of o (length b)) (lines cs)
cut_some o c cs b e = go c.waiting.ahead e
  where
    go : (bs : List (List ℕ)) → first_of bs ≡ Some b → next_cut o ((c.progress.ended, bs) ∷ lines cs) ≡ next_cut (least_of o (length b)) (lines cs)
    go [] e = absurd (cc)
    go (x ∷ bs) e = ap (λ (z : List ℕ). next_cut (least_of o (length z)) (lines cs)) (some_is x b e)

cut_none : (o : Option ℕ) (c : Channel) (cs : List Channel) → first_of c.waiting.ahead ≡ None → c.progress.ended ≡ true → next_cut o (lines (c ∷ cs)) ≡ next_cut o (lines cs)
cut_none o c cs e ended = go c.waiting.ahead e c.progress.ended ended
  where
    go : (bs : List (List ℕ)) → first_of bs ≡ None → (b : Bool) → b ≡ true → next_cut o ((b, bs) ∷ lines cs) ≡ next_cut o (lines cs)
    go [] e true t = refl
    go [] e false t = absurd (cc)
    go (x ∷ bs) e b t = absurd (cc)

cut_starved : (o : Option ℕ) (c : Channel) (cs : List Channel) → first_of c.waiting.ahead ≡ None → c.progress.ended ≡ false → next_cut o (lines (c ∷ cs)) ≡ None
cut_starved o c cs e ended = go c.waiting.ahead e c.progress.ended ended
  where
    go : (bs : List (List ℕ)) → first_of bs ≡ None → (b : Bool) → b ≡ false → next_cut o ((b, bs) ∷ lines cs) ≡ None
    go [] e true t = absurd (cc)
    go [] e false t = refl
    go (x ∷ bs) e b t = absurd (cc)

pub next_some : (cs : List Channel) (i : ℕ) (c : Channel) (o : Option ℕ) (b : List ℕ) → i < length cs → c ≡ get_or cs i c → first_of c.waiting.ahead ≡ Some b
    → next_cut None (lines cs) ≡ next_cut o (lines (drop i cs)) → next_cut None (lines cs) ≡ next_cut (least_of o (length b)) (lines (drop (i + 1) cs))
next_some cs i c o b lt is e before = before ∙ ap (λ ds. next_cut o (lines ds)) (drop_item cs i c lt is) ∙ cut_some o c (drop (i + 1) cs) b e

pub next_ended : (cs : List Channel) (i : ℕ) (c : Channel) (o : Option ℕ) → i < length cs → c ≡ get_or cs i c → first_of c.waiting.ahead ≡ None → c.progress.ended ≡ true
    → next_cut None (lines cs) ≡ next_cut o (lines (drop i cs)) → next_cut None (lines cs) ≡ next_cut o (lines (drop (i + 1) cs))
next_ended cs i c o lt is e ended before = before ∙ ap (λ ds. next_cut o (lines ds)) (drop_item cs i c lt is) ∙ cut_none o c (drop (i + 1) cs) e ended

pub next_starved : (cs : List Channel) (i : ℕ) (c : Channel) (o : Option ℕ) → i < length cs → c ≡ get_or cs i c → first_of c.waiting.ahead ≡ None → c.progress.ended ≡ false
    → next_cut None (lines cs) ≡ next_cut o (lines (drop i cs)) → next_cut None (lines cs) ≡ None
next_starved cs i c o lt is e ended before = before ∙ ap (λ ds. next_cut o (lines ds)) (drop_item cs i c lt is) ∙ cut_starved o c (drop (i + 1) cs) e ended

pub next_all : (cs : List Channel) (i : ℕ) (o : Option ℕ) → length cs ≤ i → next_cut None (lines cs) ≡ next_cut o (lines (drop i cs)) → next_cut None (lines cs) ≡ o
next_all cs i o le before = before ∙ ap (λ ds. next_cut o (lines ds)) (drop_all i cs le)

-- the first of a number that passes a test
pub lowest_more : (test : Channel → Bool) (cs : List Channel) (i : ℕ) (c : Channel) → i < length cs → c ≡ get_or cs i c → test c ≡ false
    → lowest test i (drop i cs) ≡ lowest test (i + 1) (drop (i + 1) cs)
lowest_more test cs i c lt is e =
    ap (lowest test i) (drop_item cs i c lt is) ∙ ap (λ b. if b then Some i else lowest test (suc i) (drop (i + 1) cs)) e ∙ ap (λ k. lowest test k (drop (i + 1) cs)) (sym (add-one i))

pub lowest_here : (test : Channel → Bool) (cs : List Channel) (i : ℕ) (c : Channel) → i < length cs → c ≡ get_or cs i c → test c ≡ true → lowest test i (drop i cs) ≡ Some i
lowest_here test cs i c lt is e = ap (lowest test i) (drop_item cs i c lt is) ∙ ap (λ b. if b then Some i else lowest test (suc i) (drop (i + 1) cs)) e

pub lowest_end : (test : Channel → Bool) (cs : List Channel) (i : ℕ) → length cs ≤ i → lowest test i (drop i cs) ≡ None
lowest_end test cs i le = ap (lowest test i) (drop_all i cs le)

-- frames in turn
lines_append : (cs ds : List Channel) → lines (cs ++ ds) ≡ lines cs ++ lines ds
lines_append [] ds = refl
lines_append (c ∷ cs) ds = ap (λ ls. (c.progress.ended, c.waiting.ahead) ∷ ls) (lines_append cs ds)

pub turn_more : (format : Sample) (cs : List Channel) (i from : ℕ) (c : Channel) (before into more : List ℕ) → i < length cs → c ≡ get_or cs i c
    → into ≡ before ++ turn format (lines (take i cs)) from → more ≡ into ++ sample format c.waiting.ahead from → more ≡ before ++ turn format (lines (take (i + 1) cs)) from
turn_more format cs i from c before into more lt is e m =
    m ∙ ap (λ zs. zs ++ sample format c.waiting.ahead from) e ∙ append_assoc before (turn format (lines (take i cs)) from) (sample format c.waiting.ahead from)
    ∙ ap (λ zs. before ++ (turn format (lines (take i cs)) from ++ zs)) (sym (append-nil (sample format c.waiting.ahead from)))
    ∙ ap (λ zs. before ++ zs) (sym (flat_map-append (λ (l : Ahead). sample format l.1 from) (lines (take i cs)) (lines (c ∷ []))))
    ∙ ap (λ ls. before ++ turn format ls from) (sym (lines_append (take i cs) (c ∷ [])) ∙ ap lines (sym (take_item cs i c lt is)))

pub ahead_at : (n i : ℕ) (cs : List Channel) (c : Channel) → i < length cs → c ≡ get_or cs i c → IsAhead n (lines cs) → HasAhead n c.waiting.ahead
ahead_at n i [] c lt is a = absurd (omega (arith, lt))
ahead_at n zero (d ∷ cs) c lt is a = subst (λ (z : Channel). HasAhead n z.waiting.ahead) (sym is) a.0
ahead_at n (suc i) (d ∷ cs) c lt is a = ahead_at n i cs c (omega (arith, lt)) is a.1

pub turns_more : (format : Sample) (ls : List Ahead) (k : ℕ) (made more : List ℕ) → made ≡ turns format ls k → more ≡ made ++ turn format ls (k * sample_width format) → more ≡ turns format ls (k + 1)
turns_more format ls k made more e m = m ∙ ap (λ zs. zs ++ turn format ls (k * sample_width format)) e ∙ ap (turns format ls) (sym (add-one k))

-- whether the channels below a place are known
left_suc : (place i : ℕ) → i < place → place - i ≡ suc (place - (i + 1))
left_suc place i less = omega (arith, less)

pub known_at : (cs : List Channel) (place i : ℕ) → i ≡ place → lower_known (place - i) (drop i cs) ≡ true
known_at cs place i is =
    let none : place - i ≡ 0 = omega (arith, is) in
    ap (λ k. lower_known k (drop i cs)) none ∙ first (drop i cs)
  where
    first : (ds : List Channel) → lower_known 0 ds ≡ true
    first [] = refl
    first (d ∷ ds) = refl

pub known_next : (cs : List Channel) (place i : ℕ) (c : Channel) (b : Bool) → i < place → i < length cs → c ≡ get_or cs i c → b ≡ known c
    → lower_known (place - i) (drop i cs) ≡ (if b then lower_known (place - (i + 1)) (drop (i + 1) cs) else false)
known_next cs place i c b less lt is e =
    ap (λ k. lower_known k (drop i cs)) (left_suc place i less) ∙ ap (lower_known (suc (place - (i + 1)))) (drop_item cs i c lt is)
    ∙ ap (λ (t : Bool). if t then lower_known (place - (i + 1)) (drop (i + 1) cs) else false) (sym e)

pub known_all : (cs : List Channel) (place i : ℕ) → length cs ≤ i → lower_known (place - i) (drop i cs) ≡ true
known_all cs place i le = ap (lower_known (place - i)) (drop_all i cs le) ∙ none (place - i)
  where
    none : (k : ℕ) → lower_known k [] ≡ true
    none zero = refl
    none (suc k) = refl
