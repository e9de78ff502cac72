-- What the pads were given up to the end of a section has that section of the whole lists.
use Rattle.std.proofs.Common.{◌≡◌, ℕ, zero, suc, ◌+◌, Bool, true, false, if◌then◌else◌, List, [], ◌∷◌, ◌++◌, length, map, replicate, refl, sym, ap, ◌∙◌, append_assoc, append-nil, arith}
use Rattle.flow_model.specs.Item.{Item, Ev, FlushStop, is_flush_stop}
use Rattle.flow_model.specs.Sticky.{has_flush_stop}
use Rattle.flow_model.specs.Section.{section, before_section}
use Rattle.flow_model.specs.Call.{Call, Feed, feeds}
use Rattle.flow_model.specs.SinkPads.{push_calls, push_each}
use Rattle.flow_model.proofs.Calls.{feeds_push}
use Rattle.el_denote.specs.Turns.{Give, Flush, all_turned, section_turns, stop_behind, turns_before, turns_to}
use Rattle.el_denote.proofs.Turns.{turned_behind}
use Rattle.flow_model.proofs.Items.{first_is_all as plain_section, section_plain}

-- the sections before section j of a list, each with a FLUSH_STOP of a number
abbrev pub fronts : (ℕ → ℕ) → ℕ → List Item → List Item
fronts number zero xs = []
fronts number (suc j) xs = fronts number j xs ++ (section j xs ++ Ev (FlushStop (number j)) ∷ [])

abbrev pub whole_to : (ℕ → ℕ) → ℕ → List Item → List Item
whole_to number j xs = fronts number j xs ++ section j xs

-- what the pads were given
push_here : (front : List (List Call)) (calls more : List Call) (rest : List (List Call)) → push_calls (length front) more (front ++ calls ∷ rest) ≡ front ++ (calls ++ more) ∷ rest
push_here [] calls more rest = refl
push_here (c ∷ front) calls more rest = ap (λ zs. c ∷ zs) (push_here front calls more rest)

give_all : (front : List (List Call)) (zs ys : List Item) (rest : List (List Call))
    → all_turned (front ++ feeds zs ∷ rest) (map (Give (length front)) ys) ≡ front ++ feeds (zs ++ ys) ∷ rest
give_all front zs [] rest = ap (λ ws. front ++ feeds ws ∷ rest) (sym (append-nil zs))
give_all front zs (y ∷ ys) rest =
    ap (λ g. all_turned g (map (Give (length front)) ys)) (push_here front (feeds zs) (Feed y ∷ []) rest ∙ ap (λ c. front ++ c ∷ rest) (sym (feeds_push zs y)))
    ∙ give_all front (zs ++ y ∷ []) ys rest ∙ ap (λ ws. front ++ feeds ws ∷ rest) (append_assoc zs (y ∷ []) ys)

give_pads : (j : ℕ) (h : List Item → List Item) (front : List (List Call)) (xss : List (List Item))
    → all_turned (front ++ map (λ xs. feeds (h xs)) xss) (section_turns j (length front) xss) ≡ front ++ map (λ xs. feeds (h xs ++ section j xs)) xss
give_pads j h front [] = refl
give_pads j h front (xs ∷ xss) =
    let more : List (List Call) = map (λ xs. feeds (h xs)) xss in
    let here : List Call = feeds (h xs ++ section j xs) in
    turned_behind (front ++ feeds (h xs) ∷ more) (map (Give (length front)) (section j xs)) (section_turns j (suc (length front)) xss)
    ∙ ap (λ g. all_turned g (section_turns j (suc (length front)) xss)) (give_all front (h xs) (section j xs) more ∙ sym (append_assoc front (here ∷ []) more))
    ∙ ap (λ n. all_turned ((front ++ here ∷ []) ++ more) (section_turns j n xss)) (sym (one_longer front here))
    ∙ give_pads j h (front ++ here ∷ []) xss ∙ append_assoc front (here ∷ []) (map (λ xs. feeds (h xs ++ section j xs)) xss)
  where
    one_longer : (front : List (List Call)) (here : List Call) → length (front ++ here ∷ []) ≡ suc (length front)
    one_longer [] here = refl
    one_longer (c ∷ front) here = ap suc (one_longer front here)

flush_all : (h : List Item → List Item) (number : ℕ) (xss : List (List Item))
    → push_each (Feed (Ev (FlushStop number)) ∷ []) (map (λ xs. feeds (h xs)) xss) ≡ map (λ xs. feeds (h xs ++ Ev (FlushStop number) ∷ [])) xss
flush_all h number [] = refl
flush_all h number (xs ∷ xss) =
    ap (λ c. c ∷ push_each (Feed (Ev (FlushStop number)) ∷ []) (map (λ xs. feeds (h xs)) xss)) (sym (feeds_push (h xs) (Ev (FlushStop number))))
    ∙ ap (λ zs. feeds (h xs ++ Ev (FlushStop number) ∷ []) ∷ zs) (flush_all h number xss)

nothing_is : (xss : List (List Item)) → replicate (length xss) [] ≡ map (λ (xs : List Item). feeds []) xss
nothing_is [] = refl
nothing_is (xs ∷ xss) = ap (λ zs. [] ∷ zs) (nothing_is xss)

same_map : (f g : List Item → List Item) → ((xs : List Item) → f xs ≡ g xs) → (xss : List (List Item)) → map (λ xs. feeds (f xs)) xss ≡ map (λ xs. feeds (g xs)) xss
same_map f g e [] = refl
same_map f g e (xs ∷ xss) = ap (λ ys. feeds ys ∷ map (λ xs. feeds (f xs)) xss) (e xs) ∙ ap (λ zs. feeds (g xs) ∷ zs) (same_map f g e xss)

given_before : (j : ℕ) (inputs : List (List Item)) → (number : ℕ → ℕ) → ((i : ℕ) → number i ≡ stop_behind i inputs)
    → all_turned (replicate (length inputs) []) (turns_before j inputs) ≡ map (λ xs. feeds (fronts number j xs)) inputs
given_before zero inputs number is = nothing_is inputs
given_before (suc j) inputs number is =
    let stop : ℕ = stop_behind j inputs in
    turned_behind (replicate (length inputs) []) (turns_before j inputs) (section_turns j 0 inputs ++ Flush stop ∷ [])
    ∙ ap (λ g. all_turned g (section_turns j 0 inputs ++ Flush stop ∷ [])) (given_before j inputs number is)
    ∙ turned_behind (map (λ xs. feeds (fronts number j xs)) inputs) (section_turns j 0 inputs) (Flush stop ∷ [])
    ∙ ap (λ g. push_each (Feed (Ev (FlushStop stop)) ∷ []) g) (give_pads j (fronts number j) [] inputs)
    ∙ flush_all (λ xs. fronts number j xs ++ section j xs) stop inputs
    ∙ same_map (λ xs. (fronts number j xs ++ section j xs) ++ Ev (FlushStop stop) ∷ []) (fronts number (suc j))
    (λ xs. append_assoc (fronts number j xs) (section j xs) (Ev (FlushStop stop) ∷ []) ∙ ap (λ k. fronts number j xs ++ (section j xs ++ Ev (FlushStop k) ∷ [])) (sym (is j))) inputs

pub given_whole : (j : ℕ) (inputs : List (List Item))
    → all_turned (replicate (length inputs) []) (turns_to j inputs) ≡ map (λ xs. feeds (whole_to (λ i. stop_behind i inputs) j xs)) inputs
given_whole j inputs =
    turned_behind (replicate (length inputs) []) (turns_before j inputs) (section_turns j 0 inputs)
    ∙ ap (λ g. all_turned g (section_turns j 0 inputs)) (given_before j inputs (λ i. stop_behind i inputs) (λ i. refl))
    ∙ give_pads j (fronts (λ i. stop_behind i inputs) j) [] inputs

-- section j is there
section_of_plain : (s : List Item) (k number : ℕ) (ys : List Item) → has_flush_stop s ≡ false → section (suc k) (s ++ Ev (FlushStop number) ∷ ys) ≡ section k ys
section_of_plain [] k number ys e = refl
section_of_plain (x ∷ s) k number ys e = go (is_flush_stop x) e (section_of_plain s k number ys)
  where
    go : (b : Bool) → (if b then true else has_flush_stop s) ≡ false → (has_flush_stop s ≡ false → section (suc k) (s ++ Ev (FlushStop number) ∷ ys) ≡ section k ys)
        → (if b then section k (s ++ Ev (FlushStop number) ∷ ys) else section (suc k) (s ++ Ev (FlushStop number) ∷ ys)) ≡ section k ys
    go true e r = absurd (cc)
    go false e r = r e

before_of_plain : (s : List Item) (k number : ℕ) (ys : List Item) → has_flush_stop s ≡ false
    → before_section (suc k) (s ++ Ev (FlushStop number) ∷ ys) ≡ s ++ Ev (FlushStop number) ∷ before_section k ys
before_of_plain [] k number ys e = refl
before_of_plain (x ∷ s) k number ys e = go (is_flush_stop x) e (before_of_plain s k number ys)
  where
    go : (b : Bool) → (if b then true else has_flush_stop s) ≡ false
        → (has_flush_stop s ≡ false → before_section (suc k) (s ++ Ev (FlushStop number) ∷ ys) ≡ s ++ Ev (FlushStop number) ∷ before_section k ys)
        → x ∷ (if b then before_section k (s ++ Ev (FlushStop number) ∷ ys) else before_section (suc k) (s ++ Ev (FlushStop number) ∷ ys))
        ≡ x ∷ (s ++ Ev (FlushStop number) ∷ before_section k ys)
    go true e r = absurd (cc)
    go false e r = ap (λ zs. x ∷ zs) (r e)

section_behind : (number : ℕ → ℕ) (j : ℕ) (xs : List Item) (n k : ℕ) (ys : List Item) → n ≡ j + k → section n (fronts number j xs ++ ys) ≡ section k ys
section_behind number zero xs n k ys is = let e : n ≡ k = omega (arith, is) in rw e refl
section_behind number (suc j) xs n k ys is =
    ap (section n) (append_assoc (fronts number j xs) (section j xs ++ Ev (FlushStop (number j)) ∷ []) ys ∙ ap (λ zs. fronts number j xs ++ zs) (append_assoc (section j xs) (Ev (FlushStop (number j)) ∷ []) ys))
    ∙ section_behind number j xs n (suc k) (section j xs ++ Ev (FlushStop (number j)) ∷ ys) (omega (arith, is))
    ∙ section_of_plain (section j xs) k (number j) ys (section_plain j xs)

before_behind : (number : ℕ → ℕ) (j : ℕ) (xs : List Item) (n k : ℕ) (ys : List Item) → n ≡ j + k → before_section n (fronts number j xs ++ ys) ≡ fronts number j xs ++ before_section k ys
before_behind number zero xs n k ys is = let e : n ≡ k = omega (arith, is) in rw e refl
before_behind number (suc j) xs n k ys is =
    let stop : List Item = Ev (FlushStop (number j)) ∷ [] in
    ap (before_section n) (append_assoc (fronts number j xs) (section j xs ++ stop) ys ∙ ap (λ zs. fronts number j xs ++ zs) (append_assoc (section j xs) stop ys))
    ∙ before_behind number j xs n (suc k) (section j xs ++ Ev (FlushStop (number j)) ∷ ys) (omega (arith, is))
    ∙ ap (λ zs. fronts number j xs ++ zs) (before_of_plain (section j xs) k (number j) ys (section_plain j xs) ∙ sym (append_assoc (section j xs) stop (before_section k ys)))
    ∙ sym (append_assoc (fronts number j xs) (section j xs ++ stop) (before_section k ys))

pub section_whole : (number : ℕ → ℕ) (j : ℕ) (xs : List Item) → section j (whole_to number j xs) ≡ section j xs
section_whole number j xs = section_behind number j xs j 0 (section j xs) (omega arith) ∙ plain_section (section j xs) (section_plain j xs)

pub before_whole : (number : ℕ → ℕ) (j : ℕ) (xs : List Item) → before_section j (whole_to number j xs) ≡ fronts number j xs
before_whole number j xs = before_behind number j xs j 0 (section j xs) (omega arith) ∙ append-nil (fronts number j xs)
