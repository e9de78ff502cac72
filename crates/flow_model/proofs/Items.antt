-- Short facts on lists of items and calls that many crates use.
use Rattle.flow_model.proofs.Looking.{bytes_push}
use Rattle.flow_model.proofs.Prefixes.{prefix_if}
use Rattle.flow_model.specs.Account.{IsMember}
use Rattle.flow_model.specs.Call.{Act, Call, Feed, feeds, items}
use Rattle.flow_model.specs.Feeding.{on_pad}
use Rattle.flow_model.specs.Item.{Eos, Ev, FlushStop, Item, body_of, is_eos, is_flush_stop}
use Rattle.flow_model.specs.Looking.{bytes_got, bytes_of}
use Rattle.flow_model.specs.Owed.{answered, without_eos}
use Rattle.flow_model.specs.Prefix.{IsPrefix, next, nothing}
use Rattle.flow_model.specs.Rule.{Fault}
use Rattle.flow_model.specs.Section.{before_section, flush_stops, section, to_eos, IsPlain}
use Rattle.flow_model.specs.SinkPads.{InSection, flush_stops_given, push_calls}
use Rattle.flow_model.specs.Sticky.{has_flush_stop, since_flush_stop}
use Rattle.gst_item.proofs.Kept.{since_push}
use Rattle.gst_value.proofs.Basics.{some_same, suc_same}
use Rattle.std.proofs.Common.{Bool, Err, List, Ok, Result, Some, [], ap, arith, false, if◌then◌else◌, inl, inr, length, length-append, refl, replicate, suc, sym, true, zero, ℕ, ◌++◌, ◌+◌, ◌<◌, ◌∙◌, ◌∷◌, ◌≡◌, ◌≤◌, ◌||◌, subst}
use Rattle.std.specs.Prelude.{IsOk, slice_get}

pub stop_no_eos : (x : Item) → is_flush_stop x ≡ true → is_eos x ≡ false
stop_no_eos (Ev (FlushStop number)) e = refl
stop_no_eos _ e = absurd (cc)

pub ok_answered : (r : Result (List Item) Fault) → IsOk r → r ≡ Ok (answered r)
ok_answered (Ok ys) ok = refl
ok_answered (Err fault) ok = absurd (cc)

pub none_owed : (over : Bool) → without_eos (if over then Ok [] else Ok (Ev Eos ∷ [])) ≡ Ok []
none_owed true = refl
none_owed false = refl

pub push_length : (i : ℕ) (more : List Call) (css : List (List Call)) → length (push_calls i more css) ≡ length css
push_length i more [] = refl
push_length zero more (cs ∷ css) = refl
push_length (suc i) more (cs ∷ css) = ap suc (push_length i more css)

pub none_in : (n : ℕ) → InSection 0 (replicate n [])
none_in zero = tt
none_in (suc n) = (refl, none_in n)

pub before_flushed : (w : List Item) (n k : ℕ) → flush_stops w ≡ n → before_section (suc n) (w ++ Ev (FlushStop k) ∷ []) ≡ w ++ Ev (FlushStop k) ∷ []
before_flushed [] zero k e = refl
before_flushed [] (suc n) k e = absurd (cc)
before_flushed (x ∷ w) n k e = ap (λ zs. x ∷ zs) (go (is_flush_stop x) n e (λ m f. before_flushed w m k f))
  where
    go : (b : Bool) (n : ℕ) → (if b then suc (flush_stops w) else flush_stops w) ≡ n
        → ((m : ℕ) → flush_stops w ≡ m → before_section (suc m) (w ++ Ev (FlushStop k) ∷ []) ≡ w ++ Ev (FlushStop k) ∷ [])
        → (if b then before_section n (w ++ Ev (FlushStop k) ∷ []) else before_section (suc n) (w ++ Ev (FlushStop k) ∷ [])) ≡ w ++ Ev (FlushStop k) ∷ []
    go true zero e rest = absurd (omega (arith, e))
    go true (suc m) e rest = rest m (omega (arith, e))
    go false n e rest = rest n e

-- no FLUSH_STOP stands in a section
pub section_plain : (j : ℕ) (xs : List Item) → has_flush_stop (section j xs) ≡ false
section_plain j [] = refl
section_plain zero (x ∷ xs) = go (is_flush_stop x) refl (section_plain zero xs)
  where
    go : (b : Bool) → is_flush_stop x ≡ b → has_flush_stop (section zero xs) ≡ false → has_flush_stop (if b then [] else x ∷ section zero xs) ≡ false
    go true is r = refl
    go false is r = rw is r
section_plain (suc j) (x ∷ xs) = go (is_flush_stop x) (section_plain j xs) (section_plain (suc j) xs)
  where
    go : (b : Bool) → has_flush_stop (section j xs) ≡ false → has_flush_stop (section (suc j) xs) ≡ false → has_flush_stop (if b then section j xs else section (suc j) xs) ≡ false
    go true r q = r
    go false r q = q

pub first_is_all : (h : List Item) → has_flush_stop h ≡ false → section 0 h ≡ h
first_is_all [] e = refl
first_is_all (x ∷ xs) e = go (is_flush_stop x) (first_is_all xs) e
  where
    go : (b : Bool) → (has_flush_stop xs ≡ false → section 0 xs ≡ xs) → (if b then true else has_flush_stop xs) ≡ false → (if b then [] else x ∷ section 0 xs) ≡ x ∷ xs
    go true r e = cc
    go false r e = ap (λ zs. x ∷ zs) (r e)

pub items_feeds : (xs : List Item) → items (feeds xs) ≡ xs
items_feeds [] = refl
items_feeds (x ∷ xs) = ap (λ zs. x ∷ zs) (items_feeds xs)

pub free_append : (xs ys : List Item) → has_flush_stop xs ≡ false → has_flush_stop ys ≡ false → has_flush_stop (xs ++ ys) ≡ false
free_append [] ys h k = k
free_append (x ∷ xs) ys h k = go (is_flush_stop x) h (free_append xs ys)
  where
    go : (b : Bool) → (if b then true else has_flush_stop xs) ≡ false → (has_flush_stop xs ≡ false → has_flush_stop ys ≡ false → has_flush_stop (xs ++ ys) ≡ false)
        → (if b then true else has_flush_stop (xs ++ ys)) ≡ false
    go true h rest = h
    go false h rest = rest h k

-- an item more is no FLUSH_STOP more
pub stops_push : (cs : List Call) (x : Item) → is_flush_stop x ≡ false → flush_stops_given (cs ++ Feed x ∷ []) ≡ flush_stops_given cs
stops_push [] x f = rw f refl
stops_push (Feed y ∷ cs) x f = ap (λ n. if is_flush_stop y then suc n else n) (stops_push cs x f)
stops_push (Act mark ∷ cs) x f = stops_push cs x f

-- on the only source pad
pub on_append : (xs ys : List Item) → on_pad 0 (xs ++ ys) ≡ on_pad 0 xs ++ on_pad 0 ys
on_append [] ys = refl
on_append (x ∷ xs) ys = ap (λ zs. record { pad = 0; item = x } ∷ zs) (on_append xs ys)

pub stops_of : (calls : List Call) → flush_stops_given calls ≡ flush_stops (items calls)
stops_of [] = refl
stops_of (Feed x ∷ calls) = rw (stops_of calls) refl
stops_of (Act m ∷ calls) = stops_of calls

pub stops_plain : (xs : List Item) (x : Item) → is_flush_stop x ≡ false → flush_stops (xs ++ x ∷ []) ≡ flush_stops xs
stops_plain [] x plain = rw plain refl
stops_plain (y ∷ ys) x plain = rw (stops_plain ys x plain) refl

pub stops_flushed : (xs : List Item) (k : ℕ) → flush_stops (xs ++ Ev (FlushStop k) ∷ []) ≡ suc (flush_stops xs)
stops_flushed [] k = refl
stops_flushed (y ∷ ys) k = go (is_flush_stop y) (stops_flushed ys k)
  where
    go : (b : Bool) → flush_stops (ys ++ Ev (FlushStop k) ∷ []) ≡ suc (flush_stops ys)
        → (if b then suc (flush_stops (ys ++ Ev (FlushStop k) ∷ [])) else flush_stops (ys ++ Ev (FlushStop k) ∷ [])) ≡ suc (if b then suc (flush_stops ys) else flush_stops ys)
    go true e = ap suc e
    go false e = e

-- behind a FLUSH_STOP the next section is open, and has no item
pub section_flushed : (n : ℕ) (xs : List Item) (number : ℕ) → flush_stops xs ≡ n → section (suc n) (xs ++ Ev (FlushStop number) ∷ []) ≡ []
section_flushed zero [] number e = refl
section_flushed (suc n) [] number e = absurd (cc)
section_flushed n (y ∷ ys) number e = go n (is_flush_stop y) e (λ m. section_flushed m ys number)
  where
    go : (n : ℕ) (b : Bool) → (if b then suc (flush_stops ys) else flush_stops ys) ≡ n
        → ((m : ℕ) → flush_stops ys ≡ m → section (suc m) (ys ++ Ev (FlushStop number) ∷ []) ≡ [])
        → (if b then section n (ys ++ Ev (FlushStop number) ∷ []) else section (suc n) (ys ++ Ev (FlushStop number) ∷ [])) ≡ []
    go zero true e rest = absurd (cc)
    go (suc n) true e rest = rest n (cc)
    go n false e rest = rest n e

pub items_prefix : {cs ds : List Call} → IsPrefix cs ds → IsPrefix (items cs) (items ds)
items_prefix nothing = nothing
items_prefix (next {x = Feed x} p) = next (items_prefix p)
items_prefix (next {x = Act m} p) = items_prefix p

pub to_eos_prefix : {xs ys : List Item} → IsPrefix xs ys → IsPrefix (to_eos xs) (to_eos ys)
to_eos_prefix nothing = nothing
to_eos_prefix (next {x = x} p) = next (prefix_if (is_eos x) nothing (to_eos_prefix p))

-- the sections before it are settled
pub section_before : (j : ℕ) (w more : List Item) → j < flush_stops w → section j (w ++ more) ≡ section j w
section_before j [] more l = absurd (omega arith)
section_before zero (x ∷ w) more l = go (is_flush_stop x) (section_before zero w more) l
  where
    go : (b : Bool) → (0 < flush_stops w → section 0 (w ++ more) ≡ section 0 w) → 0 < (if b then suc (flush_stops w) else flush_stops w)
        → (if b then [] else x ∷ section 0 (w ++ more)) ≡ (if b then [] else x ∷ section 0 w)
    go true r l = refl
    go false r l = ap (λ zs. x ∷ zs) (r l)
section_before (suc j) (x ∷ w) more l = go (is_flush_stop x) (section_before j w more) (section_before (suc j) w more) l
  where
    go : (b : Bool) → (j < flush_stops w → section j (w ++ more) ≡ section j w) → (suc j < flush_stops w → section (suc j) (w ++ more) ≡ section (suc j) w)
        → suc j < (if b then suc (flush_stops w) else flush_stops w)
        → (if b then section j (w ++ more) else section (suc j) (w ++ more)) ≡ (if b then section j w else section (suc j) w)
    go true r q l = r (omega arith)
    go false r q l = q l

pub section_closed : (j : ℕ) (w : List Item) (k : ℕ) → j ≤ flush_stops w → section j (w ++ Ev (FlushStop k) ∷ []) ≡ section j w
section_closed zero [] k h = refl
section_closed (suc j) [] k h = absurd (omega arith)
section_closed zero (y ∷ w) k h = ap (λ zs. if is_flush_stop y then [] else y ∷ zs) (section_closed zero w k (omega arith))
section_closed (suc j) (y ∷ w) k h = go (is_flush_stop y) (section_closed j w k) (section_closed (suc j) w k) h
  where
    go : (b : Bool) → (j ≤ flush_stops w → section j (w ++ Ev (FlushStop k) ∷ []) ≡ section j w)
        → (suc j ≤ flush_stops w → section (suc j) (w ++ Ev (FlushStop k) ∷ []) ≡ section (suc j) w)
        → suc j ≤ (if b then suc (flush_stops w) else flush_stops w)
        → (if b then section j (w ++ Ev (FlushStop k) ∷ []) else section (suc j) (w ++ Ev (FlushStop k) ∷ [])) ≡ (if b then section j w else section (suc j) w)
    go true r q h = r (omega (arith, h))
    go false r q h = q h

pub no_stops : (h : List Item) → has_flush_stop h ≡ false → flush_stops h ≡ 0
no_stops [] e = refl
no_stops (x ∷ xs) e = go (is_flush_stop x) (no_stops xs) e
  where
    go : (b : Bool) → (has_flush_stop xs ≡ false → flush_stops xs ≡ 0) → (if b then true else has_flush_stop xs) ≡ false → (if b then suc (flush_stops xs) else flush_stops xs) ≡ 0
    go true r e = cc
    go false r e = r e

-- an answer that is no fault
pub chosen : (b : Bool) (r : Result (List Item) Fault) (fault : Fault) (ys : List Item) → (if b then r else Err fault) ≡ Ok ys → r ≡ Ok ys
chosen true r fault ys e = e
chosen false r fault ys e = absurd (cc)

pub got_push : (h : List Item) (x : Item) → bytes_got (h ++ x ∷ []) ≡ (if is_flush_stop x then 0 else bytes_got h + length (body_of x))
got_push h x = rw (since_push h x) (go (is_flush_stop x))
  where
    go : (f : Bool) → length (bytes_of (if f then [] else since_flush_stop h ++ x ∷ [])) ≡ (if f then 0 else bytes_got h + length (body_of x))
    go true = refl
    go false = ap length (bytes_push (since_flush_stop h) x) ∙ length-append (bytes_of (since_flush_stop h)) (body_of x)

pub none_first : (x : Item) (xs : List Item) → has_flush_stop (x ∷ xs) ≡ false → (is_flush_stop x ≡ false) × (has_flush_stop xs ≡ false)
none_first x xs h = go (is_flush_stop x) refl h
  where
    go : (b : Bool) → is_flush_stop x ≡ b → (if b then true else has_flush_stop xs) ≡ false → (is_flush_stop x ≡ false) × (has_flush_stop xs ≡ false)
    go true e h = absurd (cc)
    go false e h = (e, h)

-- for nothing nothing is owed
pub none_behind : (j : ℕ) → section j [] ≡ []
none_behind zero = refl
none_behind (suc j) = refl

pub get_member : (xs : List ℕ) (k e : ℕ) → slice_get xs k ≡ Some e → IsMember e xs
get_member [] k e is = absurd (cc)
get_member (x ∷ xs) zero e is = inl (sym (some_same is))
get_member (x ∷ xs) (suc k) e is = inr (get_member xs k e is)

pub member_got : (xs : List ℕ) (e : ℕ) → IsMember e xs → (k : ℕ) × (slice_get xs k ≡ Some e)
member_got [] e m = absurd m
member_got (x ∷ xs) e (inl same) = (zero, ap Some (sym same))
member_got (x ∷ xs) e (inr m) = let r = member_got xs e m in (suc r.0, r.1)

pub feeds_nil : (xs : List Item) → feeds xs ≡ [] → xs ≡ []
feeds_nil [] e = refl
feeds_nil (x ∷ xs) e = absurd (cons_nil e)
  where
    cons_nil : {c : Call} {cs : List Call} → c ∷ cs ≡ [] → ⊥
    cons_nil e = cc

-- a list without FLUSH_STOP is one section
pub no_stop_section : (more : List Item) → flush_stops more ≡ 0 → section 0 more ≡ more
no_stop_section [] n = refl
no_stop_section (x ∷ xs) n = go (is_flush_stop x) (no_stop_section xs) n
  where
    go : (b : Bool) → (flush_stops xs ≡ 0 → section 0 xs ≡ xs) → (if b then suc (flush_stops xs) else flush_stops xs) ≡ 0 → (if b then [] else x ∷ section 0 xs) ≡ x ∷ xs
    go true r e = absurd (omega arith)
    go false r e = ap (λ zs. x ∷ zs) (r e)

-- Whether a section is over behind an item, and behind a list.
abbrev pub end_after : Bool → Item → Bool
end_after b x = if is_flush_stop x then false else (b || is_eos x)

-- what comes behind the last FLUSH_STOP is in the last section
pub section_last : (j : ℕ) (w more : List Item) → flush_stops w ≡ j → flush_stops more ≡ 0 → section j (w ++ more) ≡ section j w ++ more
section_last zero [] more e n = no_stop_section more n
section_last (suc j) [] more e n = absurd (omega arith)
section_last zero (x ∷ w) more e n = go (is_flush_stop x) (section_last zero w more) e
  where
    go : (b : Bool) → (flush_stops w ≡ 0 → flush_stops more ≡ 0 → section 0 (w ++ more) ≡ section 0 w ++ more) → (if b then suc (flush_stops w) else flush_stops w) ≡ 0
        → (if b then [] else x ∷ section 0 (w ++ more)) ≡ (if b then [] else x ∷ section 0 w) ++ more
    go true r e = absurd (omega arith)
    go false r e = ap (λ zs. x ∷ zs) (r e n)
section_last (suc j) (x ∷ w) more e n = go (is_flush_stop x) (section_last j w more) (section_last (suc j) w more) e
  where
    go : (b : Bool) → (flush_stops w ≡ j → flush_stops more ≡ 0 → section j (w ++ more) ≡ section j w ++ more)
        → (flush_stops w ≡ suc j → flush_stops more ≡ 0 → section (suc j) (w ++ more) ≡ section (suc j) w ++ more) → (if b then suc (flush_stops w) else flush_stops w) ≡ suc j
        → (if b then section j (w ++ more) else section (suc j) (w ++ more)) ≡ (if b then section j w else section (suc j) w) ++ more
    go true r q e = r (suc_same _ _ e) n
    go false r q e = q e n

abbrev pub ended : Bool → List Item → Bool
ended b [] = b
ended b (x ∷ xs) = ended (end_after b x) xs

-- in no section anything stands behind EOS
abbrev pub Sound : Bool → List Item → Type 0
Sound b [] = Unit {0}
Sound b (x ∷ xs) = (is_flush_stop x ≡ false → b ≡ false) × Sound (end_after b x) xs

pub sound_append : (b : Bool) (xs ys : List Item) → Sound b xs → Sound (ended b xs) ys → Sound b (xs ++ ys)
sound_append b [] ys h k = k
sound_append b (x ∷ xs) ys h k = (h.0, sound_append (end_after b x) xs ys h.1 k)

pub ended_append : (b : Bool) (xs ys : List Item) → ended b (xs ++ ys) ≡ ended (ended b xs) ys
ended_append b [] ys = refl
ended_append b (x ∷ xs) ys = ended_append (end_after b x) xs ys

-- inner items
pub after_inner : (y : Item) → is_flush_stop y ≡ false → is_eos y ≡ false → end_after false y ≡ false
after_inner y f e = rw (f, e) refl

pub sound_over : (xs : List Item) → Sound true xs → section 0 xs ≡ []
sound_over [] h = refl
sound_over (x ∷ xs) h = go (is_flush_stop x) h.0
  where
    go : (f : Bool) → (f ≡ false → true ≡ false) → (if f then [] else x ∷ section 0 xs) ≡ []
    go true e = refl
    go false e = let no : true ≡ false = e refl in absurd (cc)

pub sound_plain : (j : ℕ) (b : Bool) (xs : List Item) → Sound b xs → IsPlain (section j xs)
sound_plain zero b [] h = tt
sound_plain (suc j) b [] h = tt
sound_plain zero b (x ∷ xs) h = go (is_flush_stop x) refl (sound_plain zero (end_after b x) xs h.1)
  where
    after_eos : is_flush_stop x ≡ false → is_eos x ≡ true → end_after b x ≡ true
    after_eos f e = rw (f, h.0 f, e) refl

    go : (f : Bool) → is_flush_stop x ≡ f → IsPlain (section 0 xs) → IsPlain (if f then [] else x ∷ section 0 xs)
    go true f rest = tt
    go false f rest = (f, (λ e. sound_over xs (subst (λ (c : Bool). Sound c xs) (after_eos f e) h.1)), rest)
sound_plain (suc j) b (x ∷ xs) h = go (is_flush_stop x) (sound_plain j (end_after b x) xs h.1) (sound_plain (suc j) (end_after b x) xs h.1)
  where
    go : (f : Bool) → IsPlain (section j xs) → IsPlain (section (suc j) xs) → IsPlain (if f then section j xs else section (suc j) xs)
    go true past same = past
    go false past same = same
