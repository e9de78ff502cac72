-- EOS through an element whose rule owes for EOS something and EOS behind it, and neither EOS nor FLUSH_STOP for another item.
use Rattle.std.proofs.Common.{◌≡◌, ◌≢◌, ℕ, Bool, true, false, ◌||◌, if◌then◌else◌, List, [], ◌∷◌, ◌++◌, filter, refl, sym, ap, ◌∙◌, subst, append_assoc, append-nil, Result, Ok, Err}
use Rattle.flow_model.specs.Item.{Item, Ev, Eos, is_flush_stop, is_eos, eos_among}
use Rattle.flow_model.specs.Sticky.{has_flush_stop, in_force}
use Rattle.flow_model.specs.Prefix.{IsPrefix, nothing, next}
use Rattle.flow_model.specs.Section.{section, IsPlain}
use Rattle.flow_model.specs.Call.{Call, Feed, Act, Drain, Set, items, feeds}
use Rattle.flow_model.specs.Rule.{Response, Fault, Fed, unfed, responded, flushed, drained, fed_item, all_called, owed_for, not_eos}
use Rattle.flow_model.proofs.Prefixes.{append_prefix}
use Rattle.flow_model.proofs.Sections.{called_push}
use Rattle.flow_model.proofs.Calls.{items_push, items_act, feeds_push, eos_behind as eos_with}
use Rattle.el_set.specs.Stands.{MeetsNone}
use Rattle.flow_model.specs.Owed.{owed_at, without_eos}
use Rattle.el_set.specs.Ends.{MeetsNoFault, EndsWithEos}
use Rattle.el_set.proofs.Ends.{eos_first}
use Rattle.gst_value.proofs.Basics.{or_false}
use Rattle.flow_model.proofs.Items.{first_is_all as section_whole, free_append as no_flush_append, items_feeds, none_first, Sound, end_after, ended, after_inner, ended_append, sound_append, sound_plain}
use Rattle.gst_value.proofs.Basics.{from_true as impossible}
use Rattle.gst_item.specs.Item.{has_item}

-- EOS as a list, and none of another item
abbrev pub eos_of : Item → List Item
eos_of x = if is_eos x then x ∷ [] else []

-- neither EOS nor FLUSH_STOP
abbrev pub AreInner : List Item → Type 0
AreInner [] = Unit {0}
AreInner (x ∷ xs) = (is_flush_stop x ≡ false) × (is_eos x ≡ false) × AreInner xs

-- what is owed for an item: inner items, and behind them EOS where it is one
pub record EndsAs (x : Item) (ys : List Item) : Type 0 where
  pub inner : List Item
  pub all : ys ≡ inner ++ eos_of x
  pub quiet : AreInner inner

abbrev pub OwesEos : Item → Result (List Item) Fault → Type 0
OwesEos x (Ok ys) = EndsAs x ys
OwesEos x (Err fault) = Unit {0}

abbrev pub IsEnding : Response → Type 0
IsEnding respond = (s : Fed) (x : Item) → is_flush_stop x ≡ false → OwesEos x (respond s x)

inner_sound : (ys : List Item) → AreInner ys → Sound false ys
inner_sound [] h = tt
inner_sound (y ∷ ys) h = ((λ e. refl), rw (after_inner y h.0 h.1) (inner_sound ys h.2))

inner_ended : (ys : List Item) → AreInner ys → ended false ys ≡ false
inner_ended [] h = refl
inner_ended (y ∷ ys) h = ap (λ (b : Bool). ended b ys) (after_inner y h.0 h.1) ∙ inner_ended ys h.2

pub inner_append : (xs ys : List Item) → AreInner xs → AreInner ys → AreInner (xs ++ ys)
inner_append [] ys h k = k
inner_append (x ∷ xs) ys h k = (h.0, h.1, inner_append xs ys h.2 k)

inner_no_flush : (ys : List Item) → AreInner ys → has_flush_stop ys ≡ false
inner_no_flush [] h = refl
inner_no_flush (y ∷ ys) h = rw h.0 (inner_no_flush ys h.2)

inner_no_eos : (ys : List Item) → AreInner ys → eos_among ys ≡ false
inner_no_eos [] h = refl
inner_no_eos (y ∷ ys) h = eos_first y ys ∙ rw (h.1, inner_no_eos ys h.2) refl

or_assoc : (a b c : Bool) → (a || (b || c)) ≡ ((a || b) || c)
or_assoc true b c = refl
or_assoc false b c = refl

among_append : (xs ys : List Item) → eos_among (xs ++ ys) ≡ (eos_among xs || eos_among ys)
among_append [] ys = refl
among_append (x ∷ xs) ys =
    eos_first x (xs ++ ys) ∙ ap (λ b. is_eos x || b) (among_append xs ys) ∙ or_assoc (is_eos x) (eos_among xs) (eos_among ys)
    ∙ ap (λ b. b || eos_among ys) (sym (eos_first x xs))

-- EOS alone, or nothing
last_sound : (x : Item) → Sound false (eos_of x)
last_sound x = go (is_eos x)
  where
    go : (e : Bool) → Sound false (if e then x ∷ [] else [])
    go true = ((λ e. refl), tt)
    go false = tt

last_ended : (x : Item) → is_flush_stop x ≡ false → ended false (eos_of x) ≡ is_eos x
last_ended x f = go (is_eos x) refl
  where
    go : (e : Bool) → is_eos x ≡ e → ended false (if e then x ∷ [] else []) ≡ e
    go true e = rw (f, e) refl
    go false e = refl

last_no_flush : (x : Item) → is_flush_stop x ≡ false → has_flush_stop (eos_of x) ≡ false
last_no_flush x f = go (is_eos x)
  where
    go : (e : Bool) → has_flush_stop (if e then x ∷ [] else []) ≡ false
    go true = rw f refl
    go false = refl

last_among : (x : Item) → eos_among (eos_of x) ≡ is_eos x
last_among x = go (is_eos x) refl
  where
    go : (e : Bool) → is_eos x ≡ e → eos_among (if e then x ∷ [] else []) ≡ e
    go true e = eos_first x [] ∙ rw e refl
    go false e = refl

-- what is owed for an item
owed_sound : (x : Item) (ys : List Item) → EndsAs x ys → Sound false ys
owed_sound x ys h = rw h.all (sound_append false h.inner (eos_of x) (inner_sound h.inner h.quiet) (rw (inner_ended h.inner h.quiet) (last_sound x)))

owed_ended : (x : Item) (ys : List Item) → is_flush_stop x ≡ false → EndsAs x ys → ended false ys ≡ is_eos x
owed_ended x ys f h =
    ap (ended false) h.all ∙ ended_append false h.inner (eos_of x) ∙ ap (λ (b : Bool). ended b (eos_of x)) (inner_ended h.inner h.quiet) ∙ last_ended x f

owed_no_flush : (x : Item) (ys : List Item) → is_flush_stop x ≡ false → EndsAs x ys → has_flush_stop ys ≡ false
owed_no_flush x ys f h = ap has_flush_stop h.all ∙ no_flush_append h.inner (eos_of x) (inner_no_flush h.inner h.quiet) (last_no_flush x f)

owed_among : (x : Item) (ys : List Item) → EndsAs x ys → eos_among ys ≡ is_eos x
owed_among x ys h =
    ap eos_among h.all ∙ among_append h.inner (eos_of x) ∙ ap (λ b. b || eos_among (eos_of x)) (inner_no_eos h.inner h.quiet) ∙ last_among x

-- of a drain what is owed is inner
filter_inner : (ys : List Item) → AreInner ys → filter not_eos (ys ++ Ev Eos ∷ []) ≡ ys
filter_inner [] h = refl
filter_inner (y ∷ ys) h = go (is_eos y) h.1 (filter_inner ys h.2)
  where
    go : (e : Bool) → e ≡ false → filter not_eos (ys ++ Ev Eos ∷ []) ≡ ys
        → (if (if e then false else true) then y ∷ filter not_eos (ys ++ Ev Eos ∷ []) else filter not_eos (ys ++ Ev Eos ∷ [])) ≡ y ∷ ys
    go true e rest = absurd (cc)
    go false e rest = ap (λ zs. y ∷ zs) rest

-- a section that is over had EOS
ended_had : (b : Bool) (xs : List Item) → ended b xs ≡ true → (b || eos_among xs) ≡ true
ended_had b [] h = go b h
  where
    go : (b : Bool) → b ≡ true → (b || false) ≡ true
    go true e = refl
    go false e = absurd (cc)
ended_had b (x ∷ xs) h = ap (λ e. b || e) (eos_first x xs) ∙ go (is_flush_stop x) b (is_eos x) (eos_among xs) (ended_had (end_after b x) xs h)
  where
    go : (f b e a : Bool) → ((if f then false else (b || e)) || a) ≡ true → (b || (e || a)) ≡ true
    go f true e a h = refl
    go f false true a h = refl
    go true false false a h = h
    go false false false a h = h

eos_from : (front rest : List Item) → has_item (in_force front).eos ≡ ended false front → has_item (in_force (front ++ rest)).eos ≡ ended false (front ++ rest)
eos_from front [] h = rw (append-nil front) h
eos_from front (x ∷ xs) h =
    subst (λ (ys : List Item). has_item (in_force ys).eos ≡ ended false ys) (append_assoc front (x ∷ []) xs)
    (eos_from (front ++ x ∷ []) xs (eos_with front x ∙ go (is_flush_stop x) (is_eos x) (has_item (in_force front).eos) (ended false front) h ∙ sym (ended_append false front (x ∷ []))))
  where
    go : (f e a b : Bool) → a ≡ b → (if f then false else (if e then true else a)) ≡ (if f then false else (b || e))
    go true e a b same = refl
    go false true a true same = refl
    go false true a false same = refl
    go false false a true same = same
    go false false a false same = same

pub eos_now : (xs : List Item) → has_item (in_force xs).eos ≡ ended false xs
eos_now xs = eos_from [] xs refl

-- how far a rule has come, and what it was given
pub record Sane (s : Fed) (given : List Item) : Type 0 where
  pub sound : Sound false s.out
  pub over : ended false s.out ≡ s.over
  pub among : eos_among s.out ≡ eos_among given

or_true : (a b : Bool) → a ≡ true → a ≡ (a || b)
or_true true b e = refl
or_true false b e = absurd (cc)

sane_flush : (s : Fed) (given : List Item) (x : Item) → Sane s given → is_flush_stop x ≡ true → Sane (flushed s x) (given ++ x ∷ [])
sane_flush s given x h f =
    record {
      sound = sound_append false s.out (x ∷ []) h.sound ((λ e. by (sym f ∙ e)), tt);
      over = ended_append false s.out (x ∷ []) ∙ rw f refl;
      among = among_append s.out (x ∷ []) ∙ ap (λ b. b || eos_among (x ∷ [])) h.among ∙ sym (among_append given (x ∷ []));
    }
  where
    by : {b : Bool} → true ≡ false → b ≡ false
    by e = absurd (cc)

sane_over : (s : Fed) (given : List Item) (x : Item) → Sane s given → s.over ≡ true → Sane s (given ++ x ∷ [])
sane_over s given x h over =
    let had : eos_among given ≡ true = sym h.among ∙ ended_had false s.out (h.over ∙ over) in
    record {
      sound = h.sound;
      over = h.over;
      among = h.among ∙ or_true (eos_among given) (eos_among (x ∷ [])) had ∙ sym (among_append given (x ∷ []));
    }

sane_taken : (s : Fed) (given : List Item) (x : Item) (ys : List Item) → Sane s given → s.over ≡ false → is_flush_stop x ≡ false → EndsAs x ys
    → Sane (responded s x (Ok ys)) (given ++ x ∷ [])
sane_taken s given x ys h begun f owes =
    let none : ended false s.out ≡ false = h.over ∙ begun in
    record {
      sound = sound_append false s.out ys h.sound (rw none (owed_sound x ys owes));
      over = ended_append false s.out ys ∙ ap (λ (b : Bool). ended b ys) none ∙ owed_ended x ys f owes;
      among = among_append s.out ys ∙ ap (λ b. b || eos_among ys) h.among ∙ ap (λ b. eos_among given || b) (owed_among x ys owes ∙ sym (eos_first x [] ∙ or_false (is_eos x)))
          ∙ sym (among_append given (x ∷ []));
    }

sane_drain : (s : Fed) (given : List Item) (ys : List Item) → Sane s given → s.over ≡ false → EndsAs (Ev Eos) ys → Sane (drained s (Ok ys)) given
sane_drain s given ys h begun owes =
    let none : ended false s.out ≡ false = h.over ∙ begun in
    let put : filter not_eos ys ≡ owes.inner = ap (filter not_eos) owes.all ∙ filter_inner owes.inner owes.quiet in
    record {
      sound = subst (λ (zs : List Item). Sound false (s.out ++ zs)) (sym put) (sound_append false s.out owes.inner h.sound (rw none (inner_sound owes.inner owes.quiet)));
      over = ap (λ (zs : List Item). ended false (s.out ++ zs)) put ∙ ended_append false s.out owes.inner ∙ ap (λ (b : Bool). ended b owes.inner) none
          ∙ inner_ended owes.inner owes.quiet ∙ sym begun;
      among = ap (λ (zs : List Item). eos_among (s.out ++ zs)) put ∙ among_append s.out owes.inner ∙ ap (λ b. eos_among s.out || b) (inner_no_eos owes.inner owes.quiet)
          ∙ or_false (eos_among s.out) ∙ h.among;
    }

-- an answer of a section that is not over
begun_answer : (over : Bool) (r t : Result (List Item) Fault) → over ≡ false → r ≡ t → (if over then Ok [] else r) ≡ t
begun_answer true r t e is = absurd (cc)
begun_answer false r t e is = is

-- one more item, and one more drain
sane_fed : (respond : Response) → IsEnding respond → (s : Fed) (given : List Item) (x : Item) → Sane s given
    → ((fault : Fault) → (if s.over then Ok [] else respond s x) ≢ Err fault) → Sane (fed_item respond s x) (given ++ x ∷ [])
sane_fed respond ending s given x h free = go (is_flush_stop x) refl s.over refl
  where
    took : s.over ≡ false → is_flush_stop x ≡ false → (r : Result (List Item) Fault) → respond s x ≡ r → OwesEos x r → Sane (responded s x r) (given ++ x ∷ [])
    took begun f (Ok ys) is owes = sane_taken s given x ys h begun f owes
    took begun f (Err fault) is owes = absurd (free fault (begun_answer s.over (respond s x) (Err fault) begun is))

    go : (f : Bool) → is_flush_stop x ≡ f → (o : Bool) → s.over ≡ o → Sane (if f then flushed s x else (if o then s else responded s x (respond s x))) (given ++ x ∷ [])
    go true f o over = sane_flush s given x h f
    go false f true over = sane_over s given x h over
    go false f false begun = took begun f (respond s x) refl (ending s x f)

sane_drained : (respond : Response) → IsEnding respond → (s : Fed) (given : List Item) → Sane s given
    → ((fault : Fault) → without_eos (if s.over then Ok [] else respond s (Ev Eos)) ≢ Err fault) → Sane (if s.over then s else drained s (respond s (Ev Eos))) given
sane_drained respond ending s given h free = go s.over refl
  where
    took : s.over ≡ false → (r : Result (List Item) Fault) → respond s (Ev Eos) ≡ r → OwesEos (Ev Eos) r → Sane (drained s r) given
    took begun (Ok ys) is owes = sane_drain s given ys h begun owes
    took begun (Err fault) is owes = absurd (free fault (ap without_eos (begun_answer s.over (respond s (Ev Eos)) (Err fault) begun is)))

    go : (o : Bool) → s.over ≡ o → Sane (if o then s else drained s (respond s (Ev Eos))) given
    go true over = h
    go false begun = took begun (respond s (Ev Eos)) refl (ending s (Ev Eos) refl)

-- calls
abbrev SaneAt : Response → List Call → Type 0
SaneAt respond calls = Sane (all_called respond unfed calls) (items calls)

sane_call : (respond : Response) → IsEnding respond → (calls : List Call) (call : Call) → SaneAt respond calls
    → ((fault : Fault) → owed_at respond calls call ≢ Err fault) → SaneAt respond (calls ++ call ∷ [])
sane_call respond ending calls (Feed x) h free =
    rw (called_push respond unfed calls (Feed x), items_push calls x) (sane_fed respond ending (all_called respond unfed calls) (items calls) x h free)
sane_call respond ending calls (Act Drain) h free =
    rw (called_push respond unfed calls (Act Drain), items_act calls Drain) (sane_drained respond ending (all_called respond unfed calls) (items calls) h free)
sane_call respond ending calls (Act (Set setting)) h free =
    rw (called_push respond unfed calls (Act (Set setting)), items_act calls (Set setting)) (record { sound = h.sound; over = h.over; among = h.among })

sane_from : (respond : Response) → IsEnding respond → (front rest : List Call) → SaneAt respond front → MeetsNone respond (front ++ rest) → SaneAt respond (front ++ rest)
sane_from respond ending front [] h none = rw (append-nil front) h
sane_from respond ending front (c ∷ cs) h none =
    subst (SaneAt respond) (append_assoc front (c ∷ []) cs)
    (sane_from respond ending (front ++ c ∷ []) cs
    (sane_call respond ending front c h (λ fault. none front c fault (append_prefix front (next nothing))))
    (subst (MeetsNone respond) (sym (append_assoc front (c ∷ []) cs)) none))

pub sane : (respond : Response) (calls : List Call) → IsEnding respond → MeetsNone respond calls → SaneAt respond calls
sane respond calls ending none = sane_from respond ending [] calls (record { sound = tt; over = refl; among = refl }) none

pub ending_eos : (respond : Response) (calls : List Call) → IsEnding respond → MeetsNone respond calls
    → has_item (in_force (owed_for respond calls)).eos ≡ (all_called respond unfed calls).over
ending_eos respond calls ending none = eos_now (owed_for respond calls) ∙ (sane respond calls ending none).over

pub ending_sections : (respond : Response) (calls : List Call) (j : ℕ) → IsEnding respond → MeetsNone respond calls → IsPlain (section j (owed_for respond calls))
ending_sections respond calls j ending none = sound_plain j false (owed_for respond calls) (sane respond calls ending none).sound

pub ending_among : (respond : Response) (list : List Item) → IsEnding respond → MeetsNone respond (feeds list) → eos_among (owed_for respond (feeds list)) ≡ eos_among list
ending_among respond list ending none = (sane respond (feeds list) ending none).among ∙ ap eos_among (items_feeds list)

-- Of a rule alone. Faults may be met.
record Quiet (s : Fed) : Type 0 where
  sound : Sound false s.out
  begun : s.over ≡ false → ended false s.out ≡ false
  plain : has_flush_stop s.out ≡ false

quiet_taken : (s : Fed) (x : Item) (r : Result (List Item) Fault) → Quiet s → s.over ≡ false → is_flush_stop x ≡ false → OwesEos x r → Quiet (responded s x r)
quiet_taken s x (Ok ys) h begun f owes =
    let none : ended false s.out ≡ false = h.begun begun in
    record {
      sound = sound_append false s.out ys h.sound (rw none (owed_sound x ys owes));
      begun = λ e. ended_append false s.out ys ∙ ap (λ (b : Bool). ended b ys) none ∙ owed_ended x ys f owes ∙ e;
      plain = no_flush_append s.out ys h.plain (owed_no_flush x ys f owes);
    }
quiet_taken s x (Err fault) h begun f owes = record { sound = h.sound; begun = λ e. impossible e; plain = h.plain }

quiet_fed : (respond : Response) → IsEnding respond → (s : Fed) (x : Item) → Quiet s → is_flush_stop x ≡ false → Quiet (fed_item respond s x)
quiet_fed respond ending s x h f = go (is_flush_stop x) f s.over refl
  where
    go : (g : Bool) → g ≡ false → (o : Bool) → s.over ≡ o → Quiet (if g then flushed s x else (if o then s else responded s x (respond s x)))
    go true e o over = absurd (cc)
    go false e true over = h
    go false e false begun = quiet_taken s x (respond s x) h begun f (ending s x f)

quiet_all : (respond : Response) → IsEnding respond → (s : Fed) (xs : List Item) → has_flush_stop xs ≡ false → Quiet s → Quiet (all_called respond s (feeds xs))
quiet_all respond ending s [] h q = q
quiet_all respond ending s (x ∷ xs) h q = let t = none_first x xs h in quiet_all respond ending (fed_item respond s x) xs t.1 (quiet_fed respond ending s x q t.0)

ending_plain : (respond : Response) → IsEnding respond → (list : List Item) → has_flush_stop list ≡ false → IsPlain (owed_for respond (feeds list))
ending_plain respond ending list h =
    let q = quiet_all respond ending unfed list h (record { sound = tt; begun = λ e. refl; plain = refl }) in
    subst IsPlain (section_whole (owed_for respond (feeds list)) q.plain) (sound_plain 0 false (owed_for respond (feeds list)) q.sound)

first_of : {A : Type 0} {x y : A} {xs ys : List A} → IsPrefix (y ∷ ys) (x ∷ xs) → (y ≡ x) × IsPrefix ys xs
first_of (next p) = (refl, p)

none_of : {A : Type 0} {y : A} {ys : List A} → IsPrefix (y ∷ ys) [] → ⊥
none_of p = elim p [ ]

-- a call of such a list, by its item
record IsFeed (front : List Call) (call : Call) (list : List Item) : Type 0 where
  before : List Item
  item : Item
  calls : front ≡ feeds before
  is : call ≡ Feed item
  begins : IsPrefix (before ++ item ∷ []) list

is_feed : (front : List Call) (call : Call) (list : List Item) → IsPrefix (front ++ call ∷ []) (feeds list) → IsFeed front call list
is_feed [] call [] p = absurd (none_of p)
is_feed [] call (x ∷ xs) p = record { before = []; item = x; calls = refl; is = (first_of p).0; begins = next nothing }
is_feed (c ∷ cs) call [] p = absurd (none_of p)
is_feed (c ∷ cs) call (x ∷ xs) p =
    let q = first_of p in let m = is_feed cs call xs q.1 in
    record { before = x ∷ m.before; item = m.item; calls = ap (λ d. d ∷ cs) q.0 ∙ ap (λ ds. Feed x ∷ ds) m.calls; is = m.is; begins = next m.begins }

pub none_met : (respond : Response) (list : List Item) → MeetsNoFault respond list → MeetsNone respond (feeds list)
none_met respond list free = λ front call fault p same.
    let m = is_feed front call list p in
    free m.before m.item fault m.begins (sym (ap (λ cs. owed_at respond cs call) m.calls ∙ ap (owed_at respond (feeds m.before)) m.is) ∙ same)

begins_feeds : (xs ys : List Item) → IsPrefix xs ys → IsPrefix (feeds xs) (feeds ys)
begins_feeds [] ys p = nothing
begins_feeds (x ∷ xs) [] p = absurd (none_of p)
begins_feeds (x ∷ xs) (y ∷ ys) p = let q = first_of p in rw q.0 (next (begins_feeds xs ys q.1))

pub met_none : (respond : Response) (list : List Item) → MeetsNone respond (feeds list) → MeetsNoFault respond list
met_none respond list none = λ front x fault p same.
    none (feeds front) (Feed x) fault (subst (λ (cs : List Call). IsPrefix cs (feeds list)) (feeds_push front x) (begins_feeds (front ++ x ∷ []) list p)) same

pub ending_ends : (respond : Response) → IsEnding respond → EndsWithEos respond
ending_ends respond ending =
    record {
      plain = ending_plain respond ending;
      eos = λ list h free. ending_among respond list ending (none_met respond list free);
    }

-- one more call at which no fault is met
push_begins : (front : List Call) (c : Call) (calls : List Call) (call : Call) (P : List Call → Call → Type 0)
    → (IsPrefix (front ++ c ∷ []) calls → P front c) → P calls call → IsPrefix (front ++ c ∷ []) (calls ++ call ∷ []) → P front c
push_begins [] c [] call P old new p = rw (first_of p).0 new
push_begins [] c (x ∷ xs) call P old new p = old (rw (first_of p).0 (next nothing))
push_begins (f ∷ fs) c [] call P old new p = absurd (nothing_behind fs c (first_of p).1)
  where
    nothing_behind : (fs : List Call) (c : Call) → IsPrefix (fs ++ c ∷ []) [] → ⊥
    nothing_behind [] c p = none_of p
    nothing_behind (f ∷ fs) c p = none_of p
push_begins (f ∷ fs) c (x ∷ xs) call P old new p =
    let q = first_of p in
    push_begins fs c xs call (λ front d. P (f ∷ front) d) (λ r. old (rw q.0 (next r))) (rw q.0 new) q.1

pub none_more : (respond : Response) (calls : List Call) (call : Call) → MeetsNone respond calls → ((fault : Fault) → owed_at respond calls call ≢ Err fault)
    → MeetsNone respond (calls ++ call ∷ [])
none_more respond calls call none free = λ front c fault p.
    push_begins front c calls call (λ before d. owed_at respond before d ≢ Err fault) (none front c fault) (free fault) p

pub none_at_first : (respond : Response) → MeetsNone respond []
none_at_first respond = λ front c fault p same. nothing_there front c p
  where
    nothing_there : (front : List Call) (c : Call) → IsPrefix (front ++ c ∷ []) [] → ⊥
    nothing_there [] c p = none_of p
    nothing_there (f ∷ fs) c p = none_of p

pub ok_no_fault : (ys : List Item) (r : Result (List Item) Fault) → r ≡ Ok ys → (fault : Fault) → r ≢ Err fault
ok_no_fault ys r e fault same = cc
