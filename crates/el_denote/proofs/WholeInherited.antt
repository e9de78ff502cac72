-- What the pads were given up to the end of a section inherits what the whole lists do.
use Rattle.std.proofs.Common.{◌≡◌, ℕ, zero, suc, Bool, true, false, if◌then◌else◌, List, [], ◌∷◌, ◌++◌, map, refl, sym, ap, ◌∙◌, append_assoc, append-nil}
use Rattle.flow_model.specs.Item.{Item, Ev, FlushStop, is_stream_start, is_caps, is_tag, is_flush_stop, is_eos}
use Rattle.flow_model.specs.Sticky.{first_found, latest}
use Rattle.flow_model.specs.Section.{section, before_section, counted_after, counted}
use Rattle.flow_model.specs.Call.{items, feeds}
use Rattle.el_denote.proofs.WholeGiven.{fronts, whole_to, section_whole, before_whole}
use Rattle.flow_model.proofs.Items.{items_feeds, stop_no_eos}

-- what a section inherits
counted_stop : (b : Bool) (s : List Item) (number : ℕ) (ys : List Item)
    → counted_after b (s ++ Ev (FlushStop number) ∷ ys) ≡ counted_after b (s ++ Ev (FlushStop number) ∷ []) ++ counted_after false ys
counted_stop true [] number ys = refl
counted_stop false [] number ys = refl
counted_stop false (x ∷ s) number ys = ap (λ zs. x ∷ zs) (counted_stop (is_eos x) s number ys)
counted_stop true (x ∷ s) number ys = go (is_flush_stop x) (counted_stop false s number ys) (counted_stop true s number ys)
  where
    go : (b : Bool) → counted_after false (s ++ Ev (FlushStop number) ∷ ys) ≡ counted_after false (s ++ Ev (FlushStop number) ∷ []) ++ counted_after false ys
        → counted_after true (s ++ Ev (FlushStop number) ∷ ys) ≡ counted_after true (s ++ Ev (FlushStop number) ∷ []) ++ counted_after false ys
        → (if b then x ∷ counted_after false (s ++ Ev (FlushStop number) ∷ ys) else counted_after true (s ++ Ev (FlushStop number) ∷ ys))
        ≡ (if b then x ∷ counted_after false (s ++ Ev (FlushStop number) ∷ []) else counted_after true (s ++ Ev (FlushStop number) ∷ [])) ++ counted_after false ys
    go true p q = ap (λ zs. x ∷ zs) p
    go false p q = q

counted_fronts : (number : ℕ → ℕ) (j : ℕ) (xs ys : List Item) → counted (fronts number j xs ++ ys) ≡ counted (fronts number j xs) ++ counted ys
counted_fronts number zero xs ys = refl
counted_fronts number (suc j) xs ys =
    let stop : List Item = Ev (FlushStop (number j)) ∷ [] in
    ap counted (append_assoc (fronts number j xs) (section j xs ++ stop) ys ∙ ap (λ zs. fronts number j xs ++ zs) (append_assoc (section j xs) stop ys))
    ∙ counted_fronts number j xs (section j xs ++ Ev (FlushStop (number j)) ∷ ys)
    ∙ ap (λ zs. counted (fronts number j xs) ++ zs) (counted_stop false (section j xs) (number j) ys)
    ∙ sym (append_assoc (counted (fronts number j xs)) (counted (section j xs ++ stop)) (counted ys))
    ∙ ap (λ zs. zs ++ counted ys) (sym (counted_fronts number j xs (section j xs ++ stop)))

-- the FLUSH_STOP that ends section j, where there is one
abbrev stop_list : ℕ → List Item → List Item
stop_list j [] = []
stop_list zero (x ∷ xs) = if is_flush_stop x then x ∷ [] else stop_list zero xs
stop_list (suc j) (x ∷ xs) = if is_flush_stop x then stop_list j xs else stop_list (suc j) xs

first_part : (xs : List Item) → before_section 1 xs ≡ section 0 xs ++ stop_list 0 xs
first_part [] = refl
first_part (x ∷ xs) = go (is_flush_stop x) (first_part xs)
  where
    go : (b : Bool) → before_section 1 xs ≡ section 0 xs ++ stop_list 0 xs
        → x ∷ (if b then [] else before_section 1 xs) ≡ (if b then [] else x ∷ section 0 xs) ++ (if b then x ∷ [] else stop_list 0 xs)
    go true e = refl
    go false e = ap (λ zs. x ∷ zs) e

abbrev open_at : ℕ → Bool → Bool
open_at zero b = b
open_at (suc j) b = false

open_none : (j : ℕ) → open_at j false ≡ false
open_none zero = refl
open_none (suc j) = refl

counted_before : (j : ℕ) (b : Bool) (xs : List Item)
    → counted_after b (before_section (suc j) xs) ≡ counted_after b (before_section j xs) ++ counted_after (open_at j b) (section j xs ++ stop_list j xs)
counted_before zero b xs = ap (counted_after b) (first_part xs)
counted_before (suc j) b [] = refl
counted_before (suc j) false (x ∷ xs) = ap (λ zs. x ∷ zs) (go (is_flush_stop x) refl (λ e. counted_before j e xs) (λ e. counted_before (suc j) e xs))
  where
    go : (f : Bool) → is_flush_stop x ≡ f
        → ((e : Bool) → counted_after e (before_section (suc j) xs) ≡ counted_after e (before_section j xs) ++ counted_after (open_at j e) (section j xs ++ stop_list j xs))
        → ((e : Bool) → counted_after e (before_section (suc (suc j)) xs) ≡ counted_after e (before_section (suc j) xs) ++ counted_after false (section (suc j) xs ++ stop_list (suc j) xs))
        → counted_after (is_eos x) (if f then before_section (suc j) xs else before_section (suc (suc j)) xs)
        ≡ counted_after (is_eos x) (if f then before_section j xs else before_section (suc j) xs)
        ++ counted_after false ((if f then section j xs else section (suc j) xs) ++ (if f then stop_list j xs else stop_list (suc j) xs))
    go true is p q = rw (stop_no_eos x is) (p false ∙ ap (λ (o : Bool). counted_after false (before_section j xs) ++ counted_after o (section j xs ++ stop_list j xs)) (open_none j))
    go false is p q = q (is_eos x)
counted_before (suc j) true (x ∷ xs) = go (is_flush_stop x) (counted_before j false xs) (counted_before (suc j) true xs)
  where
    go : (f : Bool)
        → counted_after false (before_section (suc j) xs) ≡ counted_after false (before_section j xs) ++ counted_after (open_at j false) (section j xs ++ stop_list j xs)
        → counted_after true (before_section (suc (suc j)) xs) ≡ counted_after true (before_section (suc j) xs) ++ counted_after false (section (suc j) xs ++ stop_list (suc j) xs)
        → (if f then x ∷ counted_after false (if f then before_section (suc j) xs else before_section (suc (suc j)) xs) else counted_after true (if f then before_section (suc j) xs else before_section (suc (suc j)) xs))
        ≡ (if f then x ∷ counted_after false (if f then before_section j xs else before_section (suc j) xs) else counted_after true (if f then before_section j xs else before_section (suc j) xs))
        ++ counted_after false ((if f then section j xs else section (suc j) xs) ++ (if f then stop_list j xs else stop_list (suc j) xs))
    go true p q = ap (λ zs. x ∷ zs) (p ∙ ap (λ (o : Bool). counted_after false (before_section j xs) ++ counted_after o (section j xs ++ stop_list j xs)) (open_none j))
    go false p q = q

first_last : (zs : List Item) (x : Item) (b : Bool) → first_found (first_found zs (if b then x ∷ [] else [])) [] ≡ first_found zs (if b then x ∷ [] else [])
first_last [] x true = refl
first_last [] x false = refl
first_last (z ∷ zs) x b = refl

latest_one : (p : Item → Bool) (xs : List Item) → first_found (latest p xs) [] ≡ latest p xs
latest_one p [] = refl
latest_one p (x ∷ xs) = first_last (latest p xs) x (p x)

first_assoc : (a b c : List Item) → first_found (first_found a b) c ≡ first_found a (first_found b c)
first_assoc [] b c = refl
first_assoc (x ∷ a) b c = refl

latest_append : (p : Item → Bool) (ys zs' : List Item) → latest p (ys ++ zs') ≡ first_found (latest p zs') (latest p ys)
latest_append p [] zs' = sym (latest_one p zs')
latest_append p (x ∷ ys) zs' =
    ap (λ zs. first_found zs (if p x then x ∷ [] else [])) (latest_append p ys zs') ∙ first_assoc (latest p zs') (latest p ys) (if p x then x ∷ [] else [])

-- FLUSH_STOP is not inherited
abbrev Ignores : (Item → Bool) → Type 0
Ignores p = (x : Item) → is_flush_stop x ≡ true → p x ≡ false

latest_stop : (p : Item → Bool) → Ignores p → (b : Bool) (s : List Item) (x : Item) → is_flush_stop x ≡ true → latest p (counted_after b (s ++ x ∷ [])) ≡ latest p (counted_after b s)
latest_stop p ignores true [] x stop = rw (stop, ignores x stop) refl
latest_stop p ignores false [] x stop = rw (ignores x stop) refl
latest_stop p ignores false (y ∷ s) x stop = ap (λ zs. first_found zs (if p y then y ∷ [] else [])) (latest_stop p ignores (is_eos y) s x stop)
latest_stop p ignores true (y ∷ s) x stop = go (is_flush_stop y) (latest_stop p ignores false s x stop) (latest_stop p ignores true s x stop)
  where
    go : (f : Bool) → latest p (counted_after false (s ++ x ∷ [])) ≡ latest p (counted_after false s) → latest p (counted_after true (s ++ x ∷ [])) ≡ latest p (counted_after true s)
        → latest p (if f then y ∷ counted_after false (s ++ x ∷ []) else counted_after true (s ++ x ∷ [])) ≡ latest p (if f then y ∷ counted_after false s else counted_after true s)
    go true a b = ap (λ zs. first_found zs (if p y then y ∷ [] else [])) a
    go false a b = b

latest_stops : (p : Item → Bool) → Ignores p → (b : Bool) (s : List Item) (j : ℕ) (xs : List Item) → latest p (counted_after b (s ++ stop_list j xs)) ≡ latest p (counted_after b s)
latest_stops p ignores b s j [] = ap (λ zs. latest p (counted_after b zs)) (append-nil s)
latest_stops p ignores b s zero (x ∷ xs) = go (is_flush_stop x) refl (latest_stops p ignores b s zero xs)
  where
    go : (f : Bool) → is_flush_stop x ≡ f → latest p (counted_after b (s ++ stop_list zero xs)) ≡ latest p (counted_after b s)
        → latest p (counted_after b (s ++ (if f then x ∷ [] else stop_list zero xs))) ≡ latest p (counted_after b s)
    go true is r = latest_stop p ignores b s x is
    go false is r = r
latest_stops p ignores b s (suc j) (x ∷ xs) = go (is_flush_stop x) (latest_stops p ignores b s j xs) (latest_stops p ignores b s (suc j) xs)
  where
    go : (f : Bool) → latest p (counted_after b (s ++ stop_list j xs)) ≡ latest p (counted_after b s) → latest p (counted_after b (s ++ stop_list (suc j) xs)) ≡ latest p (counted_after b s)
        → latest p (counted_after b (s ++ (if f then stop_list j xs else stop_list (suc j) xs))) ≡ latest p (counted_after b s)
    go true a c = a
    go false a c = c

pub inherits_same : (p : Item → Bool) → Ignores p → (number : ℕ → ℕ) (j : ℕ) (xs : List Item) → latest p (counted (fronts number j xs)) ≡ latest p (counted (before_section j xs))
inherits_same p ignores number zero xs = refl
inherits_same p ignores number (suc j) xs =
    let s : List Item = section j xs in
    ap (latest p) (counted_fronts number j xs (s ++ Ev (FlushStop (number j)) ∷ [])) ∙ latest_append p (counted (fronts number j xs)) (counted (s ++ Ev (FlushStop (number j)) ∷ []))
    ∙ ap (λ zs. first_found zs (latest p (counted (fronts number j xs)))) (latest_stop p ignores false s (Ev (FlushStop (number j))) refl)
    ∙ ap (λ zs. first_found (latest p (counted s)) zs) (inherits_same p ignores number j xs)
    ∙ ap (λ zs. first_found zs (latest p (counted (before_section j xs)))) (sym (latest_stops p ignores false s j xs))
    ∙ sym (latest_append p (counted (before_section j xs)) (counted_after false (s ++ stop_list j xs)))
    ∙ ap (λ (o : Bool). latest p (counted (before_section j xs) ++ counted_after o (s ++ stop_list j xs))) (sym (open_none j))
    ∙ ap (latest p) (sym (counted_before j false xs))

start_ignores : Ignores is_stream_start
start_ignores (Ev (FlushStop number)) e = refl
start_ignores _ e = absurd (cc)

caps_ignore : Ignores is_caps
caps_ignore (Ev (FlushStop number)) e = refl
caps_ignore _ e = absurd (cc)

tag_ignores : Ignores is_tag
tag_ignores (Ev (FlushStop number)) e = refl
tag_ignores _ e = absurd (cc)

-- the two rules look at these alone
abbrev Inherited : Type 0
Inherited = List Item → List Item → List Item → List Item → List Item

abbrev looks : Inherited → ℕ → List Item → List Item
looks join j xs =
    join (latest is_stream_start (counted (before_section j xs))) (latest is_caps (counted (before_section j xs))) (latest is_tag (counted (before_section j xs))) (section j xs)

pub looks_same : (join : Inherited) (number : ℕ → ℕ) (j : ℕ) (xs : List Item) → looks join j (items (feeds (whole_to number j xs))) ≡ looks join j (items (feeds xs))
looks_same join number j xs =
    let ys : List Item = whole_to number j xs in
    let a : latest is_stream_start (counted (before_section j ys)) ≡ latest is_stream_start (counted (before_section j xs)) =
    ap (λ zs. latest is_stream_start (counted zs)) (before_whole number j xs) ∙ inherits_same is_stream_start start_ignores number j xs in
    let b : latest is_caps (counted (before_section j ys)) ≡ latest is_caps (counted (before_section j xs)) =
    ap (λ zs. latest is_caps (counted zs)) (before_whole number j xs) ∙ inherits_same is_caps caps_ignore number j xs in
    let c : latest is_tag (counted (before_section j ys)) ≡ latest is_tag (counted (before_section j xs)) =
    ap (λ zs. latest is_tag (counted zs)) (before_whole number j xs) ∙ inherits_same is_tag tag_ignores number j xs in
    ap (looks join j) (items_feeds ys)
    ∙ ap (λ z. join z (latest is_caps (counted (before_section j ys))) (latest is_tag (counted (before_section j ys))) (section j ys)) a
    ∙ ap (λ z. join (latest is_stream_start (counted (before_section j xs))) z (latest is_tag (counted (before_section j ys))) (section j ys)) b
    ∙ ap (λ z. join (latest is_stream_start (counted (before_section j xs))) (latest is_caps (counted (before_section j xs))) z (section j ys)) c
    ∙ ap (λ z. join (latest is_stream_start (counted (before_section j xs))) (latest is_caps (counted (before_section j xs))) (latest is_tag (counted (before_section j xs))) z) (section_whole number j xs)
    ∙ ap (looks join j) (sym (items_feeds xs))

pub lists_same : (join : Inherited) (number : ℕ → ℕ) (j : ℕ) (inputs : List (List Item))
    → map (λ calls. looks join j (items calls)) (map (λ xs. feeds (whole_to number j xs)) inputs) ≡ map (λ calls. looks join j (items calls)) (map feeds inputs)
lists_same join number j [] = refl
lists_same join number j (xs ∷ inputs) =
    ap (λ zs. zs ∷ map (λ calls. looks join j (items calls)) (map (λ xs. feeds (whole_to number j xs)) inputs)) (looks_same join number j xs)
    ∙ ap (λ zss. looks join j (items (feeds xs)) ∷ zss) (lists_same join number j inputs)
