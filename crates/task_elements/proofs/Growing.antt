-- What an element with one sink pad puts out for an item is what it owes more, in the section that is open.
use Rattle.std.proofs.Common.{◌≡◌, ◌+◌, ℕ, suc, Bool, true, false, if◌then◌else◌, List, [], ◌∷◌, ◌++◌, length, filter, refl, sym, ap, ◌∙◌, subst, append-nil, arith, Result, Ok, Err}
use Rattle.flow_model.specs.Item.{Item, Ev, Eos, is_flush_stop}
use Rattle.flow_model.specs.Sticky.{has_flush_stop}
use Rattle.flow_model.specs.Section.{section, flush_stops}
use Rattle.flow_model.specs.Call.{Call, Feed, Act, Drain, Set}
use Rattle.flow_model.specs.Rule.{Owed, Response, Fault, Fed, unfed, responded, flushed, not_eos, drained, called, all_called, owed_for, single}
use Rattle.flow_model.specs.Feeding.{on_pad, next_owed}
use Rattle.flow_model.specs.Pad.{Grows}
use Rattle.flow_model.specs.Takes.{on_port, AreWithin}
use Rattle.flow_model.specs.SinkPads.{flush_stops_given}
use Rattle.flow_model.proofs.Items.{no_stops}
use Rattle.flow_model.proofs.Singles.{grows_last as list_grows}

-- a rule owes no FLUSH_STOP of its own: for no item but FLUSH_STOP, which crosses the element
abbrev pub HasNoStop : Result (List Item) Fault → Type 0
HasNoStop (Ok ys) = has_flush_stop ys ≡ false
HasNoStop (Err fault) = Unit {0}

abbrev pub OwesNoStop : Response → Type 0
OwesNoStop respond = (fed : Fed) (x : Item) → is_flush_stop x ≡ false → HasNoStop (respond fed x)

stops_append : (xs ys : List Item) → flush_stops (xs ++ ys) ≡ flush_stops xs + flush_stops ys
stops_append [] ys = omega arith
stops_append (x ∷ xs) ys = go (is_flush_stop x) (stops_append xs ys)
  where
    go : (b : Bool) → flush_stops (xs ++ ys) ≡ flush_stops xs + flush_stops ys
        → (if b then suc (flush_stops (xs ++ ys)) else flush_stops (xs ++ ys)) ≡ (if b then suc (flush_stops xs) else flush_stops xs) + flush_stops ys
    go true e = omega (arith, e)
    go false e = e

-- without EOS there is no FLUSH_STOP either
none_filtered : (xs : List Item) → has_flush_stop xs ≡ false → has_flush_stop (filter not_eos xs) ≡ false
none_filtered [] h = refl
none_filtered (x ∷ xs) h = go (is_flush_stop x) (not_eos x) refl h (none_filtered xs)
  where
    go : (f n : Bool) → is_flush_stop x ≡ f → (if f then true else has_flush_stop xs) ≡ false → (has_flush_stop xs ≡ false → has_flush_stop (filter not_eos xs) ≡ false)
        → has_flush_stop (if n then x ∷ filter not_eos xs else filter not_eos xs) ≡ false
    go true n e h rest = absurd (cc)
    go false true e h rest = rw e (rest h)
    go false false e h rest = rest h

-- a call adds a FLUSH_STOP to what is owed where it is one
more_stops : (s : Fed) (ys : List Item) → has_flush_stop ys ≡ false → flush_stops (s.out ++ ys) ≡ flush_stops s.out
more_stops s ys h = stops_append s.out ys ∙ omega (arith, no_stops ys h)

answered_stops : (s : Fed) (x : Item) (r : Result (List Item) Fault) → HasNoStop r → flush_stops (responded s x r).out ≡ flush_stops s.out
answered_stops s x (Ok ys) h = more_stops s ys h
answered_stops s x (Err fault) h = refl

drained_stops : (s : Fed) (over : Bool) (r : Result (List Item) Fault) → HasNoStop r → flush_stops (if over then s else drained s r).out ≡ flush_stops s.out
drained_stops s true r h = refl
drained_stops s false (Ok ys) h = more_stops s (filter not_eos ys) (none_filtered ys h)
drained_stops s false (Err fault) h = refl

called_stops : (respond : Response) → OwesNoStop respond → (s : Fed) (c : Call) → flush_stops (called respond s c).out ≡ flush_stops s.out + flush_stops_given (c ∷ [])
called_stops respond none s (Feed x) = go (is_flush_stop x) s.over refl
  where
    go : (f over : Bool) → is_flush_stop x ≡ f
        → flush_stops (if f then flushed s x else (if over then s else responded s x (respond s x))).out ≡ flush_stops s.out + (if f then 1 else 0)
    go true over e = stops_append s.out (x ∷ []) ∙ ap (λ (b : Bool). flush_stops s.out + (if b then 1 else 0)) e
    go false true e = omega arith
    go false false e = answered_stops s x (respond s x) (none s x e) ∙ omega arith
called_stops respond none s (Act Drain) = drained_stops s s.over (respond s (Ev Eos)) (none s (Ev Eos) refl) ∙ omega arith
called_stops respond none s (Act (Set setting)) = omega arith

first_stops : (c : Call) (cs : List Call) → flush_stops_given (c ∷ cs) ≡ flush_stops_given (c ∷ []) + flush_stops_given cs
first_stops (Feed x) cs = go (is_flush_stop x)
  where
    go : (f : Bool) → (if f then suc (flush_stops_given cs) else flush_stops_given cs) ≡ (if f then 1 else 0) + flush_stops_given cs
    go true = omega arith
    go false = omega arith
first_stops (Act mark) cs = omega arith

all_stops : (respond : Response) → OwesNoStop respond → (s : Fed) (calls : List Call) → flush_stops (all_called respond s calls).out ≡ flush_stops s.out + flush_stops_given calls
all_stops respond none s [] = omega arith
all_stops respond none s (c ∷ cs) =
    all_stops respond none (called respond s c) cs ∙ omega (arith, called_stops respond none s c, first_stops c cs)

-- as many FLUSH_STOPs are owed as were given
pub owed_stops : (respond : Response) → OwesNoStop respond → (calls : List Call) → flush_stops (owed_for respond calls) ≡ flush_stops_given calls
owed_stops respond none calls = all_stops respond none unfed calls ∙ omega arith

-- An item of a rule that owes no FLUSH_STOP of its own: with a cut for each FLUSH_STOP that was taken, the earlier sections
-- stay, and what is put out is owed more in the last.
pub single_grows : (respond : Response) → OwesNoStop respond → (cuts : List (ℕ × ℕ)) (calls : List Call) (x : Item) (more : List Item) → flush_stops_given calls ≡ length cuts
    → has_flush_stop more ≡ false → owed_for respond (calls ++ Feed x ∷ []) ≡ owed_for respond calls ++ more → (port : ℕ)
    → Grows 0 cuts (single respond (calls ∷ []) port) (single respond ((calls ++ Feed x ∷ []) ∷ []) port) more
single_grows respond none cuts calls x more e h grown port =
    subst (λ (zs : List Item). Grows 0 cuts (λ i. section i (owed_for respond calls)) (λ i. section i zs) more) (sym grown)
    (list_grows 0 cuts (owed_for respond calls) more (owed_stops respond none calls ∙ e ∙ omega arith) (no_stops more h))

-- nothing was taken
pub none_grows : (j : ℕ) (cuts : List (ℕ × ℕ)) (owed : Owed) → Grows j cuts owed owed []
none_grows j [] owed = sym (append-nil (owed j))
none_grows j (c ∷ cuts) owed = (refl, none_grows (suc j) cuts owed)

-- what is owed for one item
pub next_none : (respond : Response) → OwesNoStop respond → (calls : List Call) (x : Item) (more : List Item) → is_flush_stop x ≡ false → next_owed respond calls x ≡ Ok more → has_flush_stop more ≡ false
next_none respond none calls x more h owed = go (all_called respond unfed calls).over (respond (all_called respond unfed calls) x) (none (all_called respond unfed calls) x h) owed
  where
    go : (over : Bool) (r : Result (List Item) Fault) → HasNoStop r → (if over then Ok [] else r) ≡ Ok more → has_flush_stop more ≡ false
    go true r quiet owed = let e : [] ≡ more = cc in rw (sym e) refl
    go false (Ok ys) quiet owed = let e : ys ≡ more = cc in rw (sym e) quiet
    go false (Err fault) quiet owed = absurd (cc)

-- all of it is for the only source pad
pub all_on_port : (more : List Item) → on_port 0 (on_pad 0 more) ≡ more
all_on_port [] = refl
all_on_port (x ∷ xs) = ap (λ zs. x ∷ zs) (all_on_port xs)

pub all_within : (more : List Item) → has_flush_stop more ≡ false → AreWithin 1 (on_pad 0 more)
all_within [] h = tt
all_within (x ∷ xs) h = go (is_flush_stop x) refl h (all_within xs)
  where
    go : (b : Bool) → is_flush_stop x ≡ b → (if b then true else has_flush_stop xs) ≡ false → (has_flush_stop xs ≡ false → AreWithin 1 (on_pad 0 xs)) → AreWithin 1 (on_pad 0 (x ∷ xs))
    go true e h rest = absurd (cc)
    go false e h rest = (omega arith, e, rest h)
