-- Settings by their places in what is put out agree with settings among the calls.
use Rattle.std.proofs.Common.{◌≡◌, ◌≤◌, ◌<◌, ℕ, ◌+◌, Bool, true, false, if◌then◌else◌, List, [], ◌∷◌, ◌++◌, length, Option, None, Some, refl, sym, ap, ◌∙◌, arith, Result, Ok, Err, length-append}
use Rattle.std.specs.Prelude.{IsOk, nat_lt, ◌==◌, ◌%◌, ◌^◌}
use Rattle.std.proofs.lemmas.Bool.{le-leb, lt-leb}
use Rattle.gst_caps.specs.Accepts.{accepts}
use Rattle.gst_value.specs.Description.{Description}
use Rattle.gst_caps.specs.declared.caps.Caps.{Caps}
use Rattle.gst_value.specs.declared.one.One.{One}
use Rattle.flow_model.specs.declared.fault.StreamKind.TheVariants.{SplitFrame}
use Rattle.flow_model.specs.Item.{Item, Buf, Buffer, Ev, StreamStart, NewCaps, NewSegment, Tag, Gap, FlushStop, Eos, is_flush_stop}
use Rattle.flow_model.specs.Call.{Call, Feed, Act, Drain, Set, Setting, Filter, Allowed, Drops, items}
use Rattle.flow_model.specs.Rule.{Response, Fault, NotNegotiated, BadStream, TooLong, Fed, unfed, responded, flushed, fed_item, drained, called, all_called, owed_for}
use Rattle.flow_model.specs.Feeding.{next_owed}
use Rattle.flow_model.specs.CapsInForce.{caps_in_force}
use Rattle.flow_model.proofs.Calls.{items_push, items_act}
use Rattle.el_convert.specs.Choice.{choice}
use Rattle.audio_info.specs.Templates.{raw_template}
use Rattle.el_convert.specs.Converts.{Known, known, allowed_in, frame_width, caps_before, whole_frames, buffer_answer, fed_buffer, caps_answer, converted_buffer, convert_answer, converts}
use Rattle.flow_model.specs.Owed.{answered}
use Rattle.el_convert.specs.Placed.{allowed_at, converts_placed, setting_at, settings_in, unset, IsTaken, TakesAll}
use Rattle.el_convert.proofs.Converting.{allowed_more}
use Rattle.flow_model.proofs.Items.{ok_answered}
use Rattle.flow_model.specs.Looking.{bytes_since_flush as bytes_got}

-- ---- what is owed for an item that is taken is one item at least

abbrev PutsSome : Result (List Item) Fault → Type 0
PutsSome r = IsOk r → 0 < length (answered r)

frames_some : (frame got : ℕ) (b : Buffer) (owed : List Item) → 0 < length owed → PutsSome (whole_frames frame got b owed)
frames_some frame got b owed some = go (length b.body % frame == 0) (nat_lt (got + length b.body) (2 ^ 63))
  where
    go : (whole fits : Bool) → PutsSome (if whole then (if fits then Ok owed else Err (TooLong got (length b.body))) else Err (BadStream (got + length b.body) SplitFrame))
    go true true ok = some
    go true false ok = absurd (cc)
    go false fits ok = absurd (cc)

buffer_some : (k : Known) (from : Description One) (to : Option (Description One)) (b : Buffer) → PutsSome (buffer_answer k from to b)
buffer_some k from None b ok = absurd (cc)
buffer_some k from (Some to) b ok =
    let made = Buf (converted_buffer from to b) ∷ [] in
    let long = length-append (caps_before k.chosen to) made in
    frames_some (frame_width from) k.got b (caps_before k.chosen to ++ made) (omega (arith, long)) ok

fed_some : (k : Known) (offered : Option (Description One)) (b : Buffer) → PutsSome (fed_buffer k offered b)
fed_some k None b ok = absurd (cc)
fed_some k (Some from) b ok = buffer_some k from (choice from k.allowed) b ok

caps_some : (k : Known) (new : Description One) (takes : Bool) (to : Option (Description One)) → PutsSome (if takes then caps_answer k new to else Err (NotNegotiated (Some new) raw_template))
caps_some k new true (Some to) ok = omega arith
caps_some k new true None ok = absurd (cc)
caps_some k new false to ok = absurd (cc)

puts_some : (k : Known) (x : Item) → PutsSome (convert_answer k x)
puts_some k (Buf b) ok = fed_some k k.offered b ok
puts_some k (Ev (StreamStart id)) ok = omega arith
puts_some k (Ev (NewCaps new)) ok = caps_some k new (accepts raw_template new) (choice new k.allowed) ok
puts_some k (Ev (NewSegment segment)) ok = omega arith
puts_some k (Ev (Tag title)) ok = omega arith
puts_some k (Ev (Gap pts duration)) ok = omega arith
puts_some k (Ev (FlushStop number)) ok = omega arith
puts_some k (Ev Eos) ok = omega arith

-- ---- nothing that was put out is taken back

longer : (xs ys : List Item) → length xs ≤ length (xs ++ ys)
longer xs ys = let long = length-append xs ys in omega (arith, long)

responded_more : (s : Fed) (x : Item) (r : Result (List Item) Fault) → length s.out ≤ length (responded s x r).out
responded_more s x (Ok ys) = longer s.out ys
responded_more s x (Err fault) = omega arith

fed_more : (respond : Response) (s : Fed) (x : Item) → length s.out ≤ length (fed_item respond s x).out
fed_more respond s x = go (is_flush_stop x) s.over
  where
    go : (flush over : Bool) → length s.out ≤ length (if flush then flushed s x else (if over then s else responded s x (respond s x))).out
    go true over = longer s.out (x ∷ [])
    go false true = omega arith
    go false false = responded_more s x (respond s x)

drained_more : (first : Caps) (s : Fed) → length s.out ≤ length (called (converts first) s (Act Drain)).out
drained_more first s = go s.over
  where
    go : (over : Bool) → length s.out ≤ length (if over then s else drained s (Ok (Ev Eos ∷ []))).out
    go true = omega arith
    go false = longer s.out []

-- a setting counts from its place on
before_place : (allowed caps : Caps) (place : ℕ) (later : List (ℕ × Caps)) (n : ℕ) → n < place → allowed_at allowed ((place, caps) ∷ later) n ≡ allowed
before_place allowed caps place later n before = ap (λ (b : Bool). if b then allowed_at caps later n else allowed) (lt-leb place n before)

from_place : (allowed caps : Caps) (place : ℕ) (later : List (ℕ × Caps)) (n : ℕ) → place ≤ n → allowed_at allowed ((place, caps) ∷ later) n ≡ allowed_at caps later n
from_place allowed caps place later n within = ap (λ (b : Bool). if b then allowed_at caps later n else allowed) (le-leb place n within)

-- a setting that comes when more was put out does not count yet
not_yet : (first : Caps) (s : Fed) (calls : List Call) (n : ℕ) (allowed : Caps) → n < length s.out → allowed_at allowed (settings_in first s calls) n ≡ allowed
not_yet first s [] n allowed before = refl
not_yet first s (Feed x ∷ calls) n allowed before =
    let more = fed_more (converts first) s x in
    not_yet first (called (converts first) s (Feed x)) calls n allowed (omega (arith, more, before))
not_yet first s (Act Drain ∷ calls) n allowed before =
    let more = drained_more first s in
    not_yet first (called (converts first) s (Act Drain)) calls n allowed (omega (arith, more, before))
not_yet first s (Act (Set (Filter caps)) ∷ calls) n allowed before = not_yet first (called (converts first) s (Act (Set (Filter caps)))) calls n allowed before
not_yet first s (Act (Set (Drops drops)) ∷ calls) n allowed before = not_yet first (called (converts first) s (Act (Set (Drops drops)))) calls n allowed before
not_yet first s (Act (Set (Allowed caps)) ∷ calls) n allowed before =
    before_place allowed caps _ (settings_in first (called (converts first) s (Act (Set (Allowed caps)))) calls) n (omega (arith, before))

-- ---- the two rules side by side

-- They have put out the same and were given the same items, and from here on the settings at their places allow what
-- those that are still to come make of what is allowed now.
record AreBeside (first : Caps) (settings : List (ℕ × Caps)) (s t : Fed) (calls : List Call) : Type 0 where
  out : s.out ≡ t.out
  over : s.over ≡ t.over
  given : items s.given ≡ items t.given
  ahead : (n : ℕ) → length s.out ≤ n → allowed_at first settings n ≡ allowed_at (allowed_in first s.given) (settings_in first s calls) n

-- behind a call that sets nothing
beside_more : (first : Caps) (settings : List (ℕ × Caps)) (s t s' t' : Fed) (call : Call) (calls : List Call) → AreBeside first settings s t (call ∷ calls)
    → ((place : ℕ) → setting_at place call ≡ []) → called (converts first) s call ≡ s' → called (converts_placed first settings) t call ≡ t'
    → s'.out ≡ t'.out → s'.over ≡ t'.over → items s'.given ≡ items t'.given → length s.out ≤ length s'.out → allowed_in first s'.given ≡ allowed_in first s.given
    → AreBeside first settings (called (converts first) s call) (called (converts_placed first settings) t call) calls
beside_more first settings s t s' t' call calls p none e f out over given more same = record {
  out = ap (λ (u : Fed). u.out) e ∙ out ∙ sym (ap (λ (u : Fed). u.out) f);
  over = ap (λ (u : Fed). u.over) e ∙ over ∙ sym (ap (λ (u : Fed). u.over) f);
  given = ap (λ (u : Fed). items u.given) e ∙ given ∙ sym (ap (λ (u : Fed). items u.given) f);
  ahead = λ n within.
      let long = ap (λ (u : Fed). length u.out) e in
      let rest = settings_in first (called (converts first) s call) calls in
      p.ahead n (omega (arith, long, more, within))
      ∙ ap (λ ms. allowed_at (allowed_in first s.given) (ms ++ rest) n) (none _)
      ∙ ap (λ a. allowed_at a rest n) (sym same ∙ sym (ap (λ (u : Fed). allowed_in first u.given) e));
}

-- the answers to an item
fed_as : (respond : Response) (s : Fed) (x : Item) (flush over : Bool) (r : Result (List Item) Fault) → is_flush_stop x ≡ flush → s.over ≡ over → respond s x ≡ r
    → fed_item respond s x ≡ (if flush then flushed s x else (if over then s else responded s x r))
fed_as respond s x flush over r e f g =
    ap (λ (u : Result (List Item) Fault). if is_flush_stop x then flushed s x else (if s.over then s else responded s x u)) g
    ∙ ap (λ (b : Bool). if is_flush_stop x then flushed s x else (if b then s else responded s x r)) f
    ∙ ap (λ (b : Bool). if b then flushed s x else (if over then s else responded s x r)) e

same_answer : (k : Known) (allowed : Caps) (offered chosen : Option (Description One)) (got : ℕ) (x : Item)
    → allowed ≡ k.allowed → offered ≡ k.offered → chosen ≡ k.chosen → got ≡ k.got
    → convert_answer (record { allowed = allowed; offered = offered; chosen = chosen; got = got }) x ≡ convert_answer k x
same_answer k allowed offered chosen got x e f g h = rw (e, f, g, h) refl

answer_placed : (first : Caps) (settings : List (ℕ × Caps)) (s t : Fed) (x : Item) → s.out ≡ t.out → items s.given ≡ items t.given
    → allowed_at first settings (length t.out) ≡ allowed_in first s.given → converts_placed first settings t x ≡ converts first s x
answer_placed first settings s t x out given allowed =
    same_answer (known first s) _ _ _ _ x allowed (ap caps_in_force (sym given)) (ap caps_in_force (sym out)) (ap bytes_got (sym given))

beside_fed : (first : Caps) (settings : List (ℕ × Caps)) (s t : Fed) (x : Item) (calls : List Call) → AreBeside first settings s t (Feed x ∷ calls) → IsTaken (converts first) s x
    → AreBeside first settings (called (converts first) s (Feed x)) (called (converts_placed first settings) t (Feed x)) calls
beside_fed first settings s t x calls p taken = go (is_flush_stop x) refl s.over refl
  where
    fed : List Call → List Call
    fed given = given ++ Feed x ∷ []

    fed_same : items (s.given ++ Feed x ∷ []) ≡ items (t.given ++ Feed x ∷ [])
    fed_same = items_push s.given x ∙ ap (λ xs. xs ++ x ∷ []) p.given ∙ sym (items_push t.given x)

    go : (flush : Bool) → is_flush_stop x ≡ flush → (over : Bool) → s.over ≡ over
        → AreBeside first settings (called (converts first) s (Feed x)) (called (converts_placed first settings) t (Feed x)) calls
    go true flush over is =
        beside_more first settings s t (flushed s x) (flushed t x) (Feed x) calls p (λ place. refl)
        (fed_as (converts first) s x true over _ flush is refl) (fed_as (converts_placed first settings) t x true over _ flush (sym p.over ∙ is) refl)
        (ap (λ ys. ys ++ x ∷ []) p.out) refl fed_same (longer s.out (x ∷ [])) (allowed_more first s.given (Feed x ∷ []))
    go false plain true over =
        beside_more first settings s t s t (Feed x) calls p (λ place. refl)
        (fed_as (converts first) s x false true _ plain over refl) (fed_as (converts_placed first settings) t x false true _ plain (sym p.over ∙ over) refl)
        p.out p.over p.given (omega arith) refl
    go false plain false begun =
        let ys = answered (converts first s x) in
        let owed : converts first s x ≡ Ok ys = ok_answered (converts first s x) (taken plain begun) in
        let here = fed_as (converts first) s x false false (Ok ys) plain begun owed in
        let some : 0 < length ys = puts_some (known first s) x (taken plain begun) in
        let long = ap (λ (u : Fed). length u.out) here ∙ length-append s.out ys in
        let allowed : allowed_at first settings (length t.out) ≡ allowed_in first s.given =
        ap (λ (zs : List Item). allowed_at first settings (length zs)) (sym p.out) ∙ p.ahead (length s.out) (omega arith)
        ∙ not_yet first (called (converts first) s (Feed x)) calls (length s.out) (allowed_in first s.given) (omega (arith, long, some)) in
        let owed_placed : converts_placed first settings t x ≡ Ok ys = answer_placed first settings s t x p.out p.given allowed ∙ owed in
        beside_more first settings s t (responded s x (Ok ys)) (responded t x (Ok ys)) (Feed x) calls p (λ place. refl)
        here (fed_as (converts_placed first settings) t x false false (Ok ys) plain (sym p.over ∙ begun) owed_placed)
        (ap (λ zs. zs ++ ys) p.out) refl fed_same (longer s.out ys) (allowed_more first s.given (Feed x ∷ []))

drained_as : (s : Fed) (over : Bool) → s.over ≡ over → (if s.over then s else drained s (Ok (Ev Eos ∷ []))) ≡ (if over then s else drained s (Ok (Ev Eos ∷ [])))
drained_as s over e = ap (λ b. if b then s else drained s (Ok (Ev Eos ∷ []))) e

beside_drained : (first : Caps) (settings : List (ℕ × Caps)) (s t : Fed) (calls : List Call) → AreBeside first settings s t (Act Drain ∷ calls)
    → AreBeside first settings (called (converts first) s (Act Drain)) (called (converts_placed first settings) t (Act Drain)) calls
beside_drained first settings s t calls p = go s.over refl
  where
    go : (over : Bool) → s.over ≡ over → AreBeside first settings (called (converts first) s (Act Drain)) (called (converts_placed first settings) t (Act Drain)) calls
    go true over =
        beside_more first settings s t s t (Act Drain) calls p (λ place. refl) (drained_as s true over) (drained_as t true (sym p.over ∙ over)) p.out p.over p.given (omega arith) refl
    go false begun =
        let owed = Ok (Ev Eos ∷ []) in
        beside_more first settings s t (drained s owed) (drained t owed) (Act Drain) calls p (λ place. refl) (drained_as s false begun) (drained_as t false (sym p.over ∙ begun))
        (ap (λ ys. ys ++ []) p.out) p.over (items_act s.given Drain ∙ p.given ∙ sym (items_act t.given Drain)) (longer s.out []) (allowed_more first s.given (Act Drain ∷ []))

-- a setting is left out of the calls of the rule by places
beside_set : (first : Caps) (settings : List (ℕ × Caps)) (s t : Fed) (caps : Caps) (calls : List Call) → AreBeside first settings s t (Act (Set (Allowed caps)) ∷ calls)
    → AreBeside first settings (called (converts first) s (Act (Set (Allowed caps)))) t calls
beside_set first settings s t caps calls p = record {
  out = p.out;
  over = p.over;
  given = items_act s.given (Set (Allowed caps)) ∙ p.given;
  ahead = λ n within.
      let rest = settings_in first (called (converts first) s (Act (Set (Allowed caps)))) calls in
      p.ahead n within
      ∙ from_place (allowed_in first s.given) caps _ rest n (omega (arith, within))
      ∙ ap (λ a. allowed_at a rest n) (sym (allowed_more first s.given (Act (Set (Allowed caps)) ∷ [])));
}

-- and so is one of another property
beside_other : (first : Caps) (settings : List (ℕ × Caps)) (s t : Fed) (setting : Setting) (calls : List Call) → AreBeside first settings s t (Act (Set setting) ∷ calls)
    → ((place : ℕ) → setting_at place (Act (Set setting)) ≡ []) → allowed_in first (s.given ++ Act (Set setting) ∷ []) ≡ allowed_in first s.given
    → AreBeside first settings (called (converts first) s (Act (Set setting))) t calls
beside_other first settings s t setting calls p none same = record {
  out = p.out;
  over = p.over;
  given = items_act s.given (Set setting) ∙ p.given;
  ahead = λ n within.
      let rest = settings_in first (called (converts first) s (Act (Set setting))) calls in
      p.ahead n within
      ∙ ap (λ ms. allowed_at (allowed_in first s.given) (ms ++ rest) n) (none _)
      ∙ ap (λ a. allowed_at a rest n) (sym same);
}

-- behind calls of which no item is a fault
beside_all : (first : Caps) (settings : List (ℕ × Caps)) (s t : Fed) (calls : List Call) → AreBeside first settings s t calls → TakesAll (converts first) s calls
    → AreBeside first settings (all_called (converts first) s calls) (all_called (converts_placed first settings) t (unset calls)) []
beside_all first settings s t [] p takes = p
beside_all first settings s t (Feed x ∷ calls) p takes =
    beside_all first settings (called (converts first) s (Feed x)) (called (converts_placed first settings) t (Feed x)) calls (beside_fed first settings s t x calls p takes.0) takes.1
beside_all first settings s t (Act Drain ∷ calls) p takes =
    beside_all first settings (called (converts first) s (Act Drain)) (called (converts_placed first settings) t (Act Drain)) calls (beside_drained first settings s t calls p) takes
beside_all first settings s t (Act (Set (Filter caps)) ∷ calls) p takes =
    beside_all first settings (called (converts first) s (Act (Set (Filter caps)))) t calls
    (beside_other first settings s t (Filter caps) calls p (λ place. refl) (allowed_more first s.given (Act (Set (Filter caps)) ∷ []))) takes
beside_all first settings s t (Act (Set (Drops drops)) ∷ calls) p takes =
    beside_all first settings (called (converts first) s (Act (Set (Drops drops)))) t calls
    (beside_other first settings s t (Drops drops) calls p (λ place. refl) (allowed_more first s.given (Act (Set (Drops drops)) ∷ []))) takes
beside_all first settings s t (Act (Set (Allowed caps)) ∷ calls) p takes =
    beside_all first settings (called (converts first) s (Act (Set (Allowed caps)))) t calls (beside_set first settings s t caps calls p) takes

beside : (first : Caps) (calls : List Call) → TakesAll (converts first) unfed calls
    → AreBeside first (settings_in first unfed calls) (all_called (converts first) unfed calls) (all_called (converts_placed first (settings_in first unfed calls)) unfed (unset calls)) []
beside first calls takes = beside_all first (settings_in first unfed calls) unfed unfed calls (record { out = refl; over = refl; given = refl; ahead = λ n within. refl }) takes

pub settings_count : (first : Caps) (calls : List Call) → TakesAll (converts first) unfed calls
    → owed_for (converts first) calls ≡ owed_for (converts_placed first (settings_in first unfed calls)) (unset calls)
settings_count first calls takes = (beside first calls takes).out

pub next_counts : (first : Caps) (calls : List Call) (x : Item) → TakesAll (converts first) unfed calls
    → next_owed (converts first) calls x ≡ next_owed (converts_placed first (settings_in first unfed calls)) (unset calls) x
next_counts first calls x takes =
    let settings = settings_in first unfed calls in
    let s = all_called (converts first) unfed calls in
    let t = all_called (converts_placed first settings) unfed (unset calls) in
    let p = beside first calls takes in
    let same : converts_placed first settings t x ≡ converts first s x =
    answer_placed first settings s t x p.out p.given (ap (λ (zs : List Item). allowed_at first settings (length zs)) (sym p.out) ∙ p.ahead (length s.out) (omega arith)) in
    ap (λ (over : Bool). if over then Ok [] else converts first s x) p.over ∙ ap (λ (r : Result (List Item) Fault). if t.over then Ok [] else r) (sym same)
