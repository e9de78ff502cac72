-- What counts of a list with one more item.
use Rattle.std.proofs.Common.{◌≡◌, ℕ, Bool, true, false, if◌then◌else◌, List, [], ◌∷◌, ◌++◌, refl, sym, ap, ◌∙◌}
use Rattle.gst_item.specs.Sticky.{first_found, latest, has_flush_stop, since_flush_stop}
use Rattle.flow_model.specs.Item.{Item, Buf, Ev, StreamStart, NewCaps, NewSegment, Tag, Gap, FlushStop, Eos, is_flush_stop, is_eos}
use Rattle.flow_model.specs.Section.{counted_after, counted}
use Rattle.flow_model.specs.Call.{Call, Feed, Act, Mark, items}
use Rattle.flow_model.specs.Feeding.{has_eos}
use Rattle.flow_model.proofs.Calls.{items_push, items_act}
use Rattle.gst_item.specs.Item.{has_item}

-- whether the stream has ended behind a list, going forward
ended_from : Bool → List Item → Bool
ended_from ended [] = ended
ended_from ended (x ∷ xs) = ended_from (if is_flush_stop x then false else (if ended then true else is_eos x)) xs

abbrev counts_at : Bool → Item → List Item
counts_at ended x = if ended then (if is_flush_stop x then x ∷ [] else []) else x ∷ []

eos_is_no_flush : (x : Item) → (if is_flush_stop x then false else is_eos x) ≡ is_eos x
eos_is_no_flush (Buf b) = refl
eos_is_no_flush (Ev (StreamStart id)) = refl
eos_is_no_flush (Ev (NewCaps caps)) = refl
eos_is_no_flush (Ev (NewSegment segment)) = refl
eos_is_no_flush (Ev (Tag title)) = refl
eos_is_no_flush (Ev (Gap pts duration)) = refl
eos_is_no_flush (Ev (FlushStop number)) = refl
eos_is_no_flush (Ev Eos) = refl

counted_push : (ended : Bool) (h : List Item) (x : Item) → counted_after ended (h ++ x ∷ []) ≡ counted_after ended h ++ counts_at (ended_from ended h) x
unfolding ended_from
counted_push false [] x = refl
counted_push true [] x = refl
counted_push false (y ∷ ys) x = rw (eos_is_no_flush y) (ap (λ zs. y ∷ zs) (counted_push (is_eos y) ys x))
counted_push true (y ∷ ys) x = go (counted_push false ys x) (counted_push true ys x) (is_flush_stop y)
  where
    go : counted_after false (ys ++ x ∷ []) ≡ counted_after false ys ++ counts_at (ended_from false ys) x
        → counted_after true (ys ++ x ∷ []) ≡ counted_after true ys ++ counts_at (ended_from true ys) x
        → (f : Bool) → (if f then y ∷ counted_after false (ys ++ x ∷ []) else counted_after true (ys ++ x ∷ []))
        ≡ (if f then y ∷ counted_after false ys else counted_after true ys) ++ counts_at (ended_from (if f then false else true) ys) x
    go begun ended true = ap (λ zs. y ∷ zs) begun
    go begun ended false = ended

-- and going back from its end
pub since_all : (h : List Item) → has_flush_stop h ≡ false → since_flush_stop h ≡ h
since_all [] e = refl
since_all (x ∷ xs) e = go (has_flush_stop xs) (is_flush_stop x) e
  where
    go : (h f : Bool) → (if f then true else h) ≡ false → (if h then since_flush_stop xs else (if f then xs else x ∷ xs)) ≡ x ∷ xs
    go h true e = absurd (cc)
    go true false e = absurd (cc)
    go false false e = refl

ended_back : (ended : Bool) (h : List Item)
    → ended_from ended h ≡ (if has_flush_stop h then has_item (latest is_eos (since_flush_stop h)) else (if ended then true else has_item (latest is_eos h)))
unfolding ended_from
ended_back true [] = refl
ended_back false [] = refl
ended_back ended (x ∷ xs) =
    rw (ended_back (if is_flush_stop x then false else (if ended then true else is_eos x)) xs)
    (go (has_flush_stop xs) (is_flush_stop x) ended (is_eos x) (latest is_eos xs) refl)
  where
    go : (h f b e : Bool) (found : List Item) → latest is_eos xs ≡ found
        → (if h then has_item (latest is_eos (since_flush_stop xs)) else (if (if f then false else (if b then true else e)) then true else has_item found))
        ≡ (if (if f then true else h) then has_item (latest is_eos (if h then since_flush_stop xs else (if f then xs else x ∷ xs))) else (if b then true else has_item (first_found found (if e then x ∷ [] else []))))
    go true true b e found is = refl
    go true false b e found is = refl
    go false true b e found is = ap has_item (sym is)
    go false false true e found is = refl
    go false false false true [] is = refl
    go false false false true (z ∷ zs) is = refl
    go false false false false [] is = refl
    go false false false false (z ∷ zs) is = refl

ended_is : (h : List Item) → ended_from false h ≡ has_item (latest is_eos (since_flush_stop h))
ended_is h = ended_back false h ∙ go (has_flush_stop h) refl
  where
    go : (b : Bool) → has_flush_stop h ≡ b → (if b then has_item (latest is_eos (since_flush_stop h)) else has_item (latest is_eos h)) ≡ has_item (latest is_eos (since_flush_stop h))
    go true e = refl
    go false e = ap (λ xs. has_item (latest is_eos xs)) (sym (since_all h e))

counted_fed : (calls : List Call) (x : Item) → counted (items (calls ++ Feed x ∷ [])) ≡ counted (items calls) ++ counts_at (has_eos calls) x
counted_fed calls x = rw (items_push calls x) (counted_push false (items calls) x ∙ ap (λ b. counted (items calls) ++ counts_at b x) (ended_is (items calls)))

-- an item in a section without EOS, one behind EOS, a FLUSH_STOP, and a mark
pub counted_taken : (calls : List Call) (x : Item) → has_eos calls ≡ false → counted (items (calls ++ Feed x ∷ [])) ≡ counted (items calls) ++ x ∷ []
counted_taken calls x none = counted_fed calls x ∙ ap (λ b. counted (items calls) ++ counts_at b x) none

pub counted_behind : (calls : List Call) (x : Item) → has_eos calls ≡ true → is_flush_stop x ≡ false → counted (items (calls ++ Feed x ∷ [])) ≡ counted (items calls) ++ []
counted_behind calls x some plain = counted_fed calls x ∙ ap (λ b. counted (items calls) ++ counts_at b x) some ∙ ap (λ f. counted (items calls) ++ (if f then x ∷ [] else [])) plain

pub counted_flush : (calls : List Call) (number : ℕ) → counted (items (calls ++ Feed (Ev (FlushStop number)) ∷ [])) ≡ counted (items calls) ++ Ev (FlushStop number) ∷ []
counted_flush calls number = counted_fed calls (Ev (FlushStop number)) ∙ go (has_eos calls)
  where
    go : (b : Bool) → counted (items calls) ++ counts_at b (Ev (FlushStop number)) ≡ counted (items calls) ++ Ev (FlushStop number) ∷ []
    go true = refl
    go false = refl

pub counted_act : (calls : List Call) (mark : Mark) → counted (items (calls ++ Act mark ∷ [])) ≡ counted (items calls)
counted_act calls mark = ap counted (items_act calls mark)
