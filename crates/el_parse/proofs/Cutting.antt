-- Bytes that are cut into buffers, one behind the other.
use Rattle.std.proofs.Common.{◌≡◌, ◌≤◌, ◌<◌, ℕ, suc, ◌+◌, ◌-◌, ◌*◌, Bool, true, false, if◌then◌else◌, List, [], ◌∷◌, ◌++◌, take, drop, Option, Some, None, refl, sym, ap, subst, ◌∙◌, arith, Result, Ok, Err, nat_lt, append_assoc, append-nil}
use Rattle.std.specs.Prelude.{IsOk}
use Rattle.std.proofs.lemmas.List.{map-append, drop-drop}
use Rattle.std.specs.List.{slice_range}
use Rattle.gst_item.specs.declared.out.Out.{Out}
use Rattle.flow_model.specs.declared.fault.ElementFault.{ElementFault}
use Rattle.flow_model.specs.declared.fault.ElementFault.TheVariants.{NotNegotiated as Refused, BadStream as Broken, TooLong as Passing, OutOfMemory as Wanting}
use Rattle.gst_time.specs.declared.time.TheConstants.{LIMIT}
use Rattle.flow_model.specs.Item.{Item, Buf, Buffer, is_buffer}
use Rattle.flow_model.specs.Feeding.{on_pad, IsFaultOf}
use Rattle.flow_model.specs.Rule.{Fault, TooLong}
use Rattle.flow_model.specs.Owed.{answered}
use Rattle.el_parse.specs.Streams.{Stream}
use Rattle.el_parse.specs.Splits.{time_at, piece, in_time, in_sum, timed, ahead, pieces, reached_by}
use Rattle.flow_model.specs.Looking.{end_of}

-- a fault of one answer is that of another
pub fault_by : (a b : Result (List Item) Fault) (fault : ElementFault) → ((f : Fault) → a ≡ Err f → b ≡ Err f) → IsFaultOf a fault → IsFaultOf b fault
fault_by a b (Refused offered wanted) same h = same _ h
fault_by a b (Broken place kind) same h = same _ h
fault_by a b (Passing x y) same h = same _ h
fault_by a b Wanting same h = tt

in_time_ok : (reached time : ℕ) (r : Result (List Item) Fault) (xs : List Item) → in_time reached time r ≡ Ok xs → r ≡ Ok xs
in_time_ok reached time r xs e = go (nat_lt time LIMIT) e
  where
    go : (b : Bool) → (if b then r else Err (TooLong reached (LIMIT - reached))) ≡ Ok xs → r ≡ Ok xs
    go true e = e
    go false e = absurd (cc)

in_sum_ok : (pts : Option ℕ) (time : ℕ) (r : Result (List Item) Fault) (xs : List Item) → in_sum pts time r ≡ Ok xs → r ≡ Ok xs
in_sum_ok None time r xs e = e
in_sum_ok (Some p) time r xs e = go (nat_lt (p + time) LIMIT) e
  where
    go : (b : Bool) → (if b then r else Err (TooLong p time)) ≡ Ok xs → r ≡ Ok xs
    go true e = e
    go false e = absurd (cc)

-- a buffer whose times fit
pub timed_ok : (s : Stream) (pts : Option ℕ) (reached first count : ℕ) (body : List ℕ) (xs : List Item) → timed s pts reached first count body ≡ Ok xs
    → Buf (piece s pts first count body) ∷ [] ≡ xs
timed_ok s pts reached first count body xs e =
    let made : Result (List Item) Fault = Ok (Buf (piece s pts first count body) ∷ []) in
    let last : Result (List Item) Fault = in_time reached (time_at s (first + count)) made in
    let same : made ≡ Ok xs =
    in_time_ok reached (time_at s (first + count)) made xs
    (in_sum_ok pts (time_at s first) last xs (in_time_ok reached (time_at s first) (in_sum pts (time_at s first) last) xs e)) in
    ap items_of same
  where
    items_of : Result (List Item) Fault → List Item
    items_of (Ok xs) = xs
    items_of (Err fault) = []

-- two answers that are both no fault
pub record BothOk (a b : Result (List Item) Fault) (ys : List Item) : Type 0 where
  pub first : List Item
  pub second : List Item
  pub first_is : a ≡ Ok first
  pub second_is : b ≡ Ok second
  pub all : first ++ second ≡ ys

pub both_ok : (a b : Result (List Item) Fault) (ys : List Item) → ahead a b ≡ Ok ys → BothOk a b ys
both_ok (Ok xs) (Ok zs) ys e = record { first = xs; second = zs; first_is = refl; second_is = refl; all = cc }
both_ok (Ok xs) (Err fault) ys e = absurd (cc)
both_ok (Err fault) b ys e = absurd (cc)

ahead_ahead : (xs ys : List Item) (r : Result (List Item) Fault) → ahead (Ok xs) (ahead (Ok ys) r) ≡ ahead (Ok (xs ++ ys)) r
ahead_ahead xs ys (Ok zs) = ap Ok (sym (append_assoc xs ys zs))
ahead_ahead xs ys (Err fault) = refl

-- the end of what was put out is that of the last buffer
reached_last : (ys : List Item) (b : Buffer) (reached : ℕ) → reached_by reached (ys ++ Buf b ∷ []) ≡ end_of (Buf b ∷ [])
reached_last [] b reached = refl
reached_last (y ∷ ys) b reached = reached_last ys b (if is_buffer y then end_of (y ∷ []) else reached)

-- so many buffers were cut, and the others are still to come
pub record CutSoFar (s : Stream) (pts : Option ℕ) (from frames first count : ℕ) (bytes : List ℕ) (index next reached : ℕ) (whole : List Out) : Type 0 where
  pub cut : List Item
  pub queued : whole ≡ on_pad 0 cut
  pub owed : pieces s pts from frames first count bytes ≡ ahead (Ok cut) (pieces s pts from frames next (count - index) (drop (index * (frames * s.width)) bytes))
  pub last : reached ≡ reached_by from cut
  pub here : next ≡ first + index * frames

pub cut_none : (s : Stream) (pts : Option ℕ) (from frames first count : ℕ) (bytes : List ℕ) → CutSoFar s pts from frames first count bytes 0 first from []
cut_none s pts from frames first count bytes = record {
  cut = [];
  queued = refl;
  owed = sym (none_before (pieces s pts from frames first count bytes)) ∙ ap (λ n. ahead (Ok []) (pieces s pts from frames first n bytes)) all ∙ ap (λ n. ahead (Ok []) (pieces s pts from frames first (count - 0) (drop n bytes))) start;
  last = refl;
  here = omega arith;
}
  where
    all : count ≡ count - 0
    all = omega arith

    start : 0 ≡ 0 * (frames * s.width)
    start = omega arith

    none_before : (r : Result (List Item) Fault) → ahead (Ok []) r ≡ r
    none_before (Ok zs) = refl
    none_before (Err fault) = refl

-- what is still to come begins with the next buffer
next_piece : (s : Stream) (pts : Option ℕ) (from frames next count index : ℕ) (rest : List ℕ) → index < count
    → pieces s pts from frames next (count - index) rest
    ≡ ahead (timed s pts from next frames (take (frames * s.width) rest)) (pieces s pts from frames (next + frames) (count - (index + 1)) (drop (frames * s.width) rest))
next_piece s pts from frames next count index rest more = ap (λ n. pieces s pts from frames next n rest) left
  where
    left : count - index ≡ suc (count - (index + 1))
    left = omega arith

pub cut_more : (s : Stream) (pts : Option ℕ) (from frames first count : ℕ) (bytes : List ℕ) (index next reached : ℕ) (whole : List Out) (body : List ℕ) (reached' : ℕ) (whole' : List Out)
    → CutSoFar s pts from frames first count bytes index next reached whole → index < count
    → body ≡ take (frames * s.width) (drop (index * (frames * s.width)) bytes)
    → IsOk (timed s pts from next frames body) → whole' ≡ whole ++ on_pad 0 (answered (timed s pts from next frames body))
    → reached' ≡ reached_by from (answered (timed s pts from next frames body))
    → CutSoFar s pts from frames first count bytes (index + 1) (next + frames) reached' whole'
cut_more s pts from frames first count bytes index next reached whole body reached' whole' before more is_body ok is_whole is_reached = go (timed s pts from next frames body) refl ok is_whole is_reached
  where
    rest : List ℕ
    rest = drop (index * (frames * s.width)) bytes

    dropped : drop (frames * s.width) rest ≡ drop ((index + 1) * (frames * s.width)) bytes
    dropped = drop-drop (frames * s.width) (index * (frames * s.width)) bytes ∙ ap (λ n. drop n bytes) (after (frames * s.width))
      where
        after : (size : ℕ) → index * size + size ≡ (index + 1) * size
        after size = grind arith

    go : (r : Result (List Item) Fault) → timed s pts from next frames body ≡ r → IsOk r → whole' ≡ whole ++ on_pad 0 (answered r) → reached' ≡ reached_by from (answered r)
        → CutSoFar s pts from frames first count bytes (index + 1) (next + frames) reached' whole'
    go (Err fault) e ok w l = absurd (cc)
    go (Ok xs) e ok w l = record {
      cut = before.cut ++ xs;
      queued = w ∙ ap (λ zs. zs ++ on_pad 0 xs) before.queued ∙ sym (map-append (λ x. record { pad = 0; item = x }) before.cut xs);
      owed = before.owed
          ∙ ap (λ r. ahead (Ok before.cut) r) (next_piece s pts from frames next count index rest more
          ∙ ap (λ b. ahead (timed s pts from next frames b) (pieces s pts from frames (next + frames) (count - (index + 1)) (drop (frames * s.width) rest))) (sym is_body)
          ∙ ap (λ r. ahead r (pieces s pts from frames (next + frames) (count - (index + 1)) (drop (frames * s.width) rest))) e)
          ∙ ahead_ahead before.cut xs _
          ∙ ap (λ b. ahead (Ok (before.cut ++ xs)) (pieces s pts from frames (next + frames) (count - (index + 1)) b)) dropped;
      last = l ∙ ends (timed_ok s pts from next frames body xs e);
      here = let h = before.here in omega (arith, h);
    }
      where
        ends : {b : Buffer} {xs : List Item} → Buf b ∷ [] ≡ xs → reached_by from xs ≡ reached_by from (before.cut ++ xs)
        ends {b = b} same = subst (λ zs. reached_by from zs ≡ reached_by from (before.cut ++ zs)) same (sym (reached_last before.cut b from))

-- the fault of the next buffer is that of the whole
pub cut_fault : (s : Stream) (pts : Option ℕ) (from frames first count : ℕ) (bytes : List ℕ) (index next reached : ℕ) (whole : List Out) (body : List ℕ) (fault : ElementFault)
    → CutSoFar s pts from frames first count bytes index next reached whole → index < count
    → body ≡ take (frames * s.width) (drop (index * (frames * s.width)) bytes)
    → IsFaultOf (timed s pts from next frames body) fault → IsFaultOf (pieces s pts from frames first count bytes) fault
cut_fault s pts from frames first count bytes index next reached whole body fault before more is_body h =
    fault_by (timed s pts from next frames body) (pieces s pts from frames first count bytes) fault
    (λ f e. before.owed
    ∙ ap (λ r. ahead (Ok before.cut) r) (next_piece s pts from frames next count index (drop (index * (frames * s.width)) bytes) more
    ∙ ap (λ b. ahead (timed s pts from next frames b) (pieces s pts from frames (next + frames) (count - (index + 1)) (drop (frames * s.width) (drop (index * (frames * s.width)) bytes)))) (sym is_body)
    ∙ ap (λ r. ahead r (pieces s pts from frames (next + frames) (count - (index + 1)) (drop (frames * s.width) (drop (index * (frames * s.width)) bytes)))) e))
    h

-- where none are to come, the whole is what was cut
pub cut_all : (s : Stream) (pts : Option ℕ) (from frames first count : ℕ) (bytes : List ℕ) (index next reached : ℕ) (whole : List Out)
    → CutSoFar s pts from frames first count bytes index next reached whole → count ≤ index
    → (ys : List Item) × (pieces s pts from frames first count bytes ≡ Ok ys) × (whole ≡ on_pad 0 ys) × (reached ≡ reached_by from ys)
cut_all s pts from frames first count bytes index next reached whole before all = (
  before.cut,
  before.owed ∙ ap (λ n. ahead (Ok before.cut) (pieces s pts from frames next n (drop (index * (frames * s.width)) bytes))) none ∙ ap Ok (append-nil before.cut),
  before.queued,
  before.last,
)
  where
    none : count - index ≡ 0
    none = omega arith

pub cut_whole : (s : Stream) (pts : Option ℕ) (from frames first count : ℕ) (bytes : List ℕ) (index next reached : ℕ) (whole : List Out) (n : ℕ)
    → CutSoFar s pts from frames first count bytes index next reached whole → count ≤ index → count ≡ n
    → (whole ≡ on_pad 0 (answered (pieces s pts from frames first n bytes))) × (reached ≡ reached_by from (answered (pieces s pts from frames first n bytes)))
cut_whole s pts from frames first count bytes index next reached whole n before all same =
    let done = cut_all s pts from frames first count bytes index next reached whole before all in
    rw (← same, done.1) (done.2, done.3)

-- the bytes of the next buffer
pub piece_body : (body bytes : List ℕ) (index frames width w : ℕ) → body ≡ slice_range bytes (index * (frames * width)) ((index + 1) * (frames * width)) → width ≡ w
    → body ≡ take (frames * w) (drop (index * (frames * w)) bytes)
piece_body body bytes index frames width w is same = rw (← same) (is ∙ ap (λ n. take n (drop (index * (frames * width)) bytes)) (between (frames * width)))
  where
    between : (size : ℕ) → (index + 1) * size - index * size ≡ size
    between size =
        let e : (index + 1) * size ≡ index * size + size = grind arith in
        omega (arith, e)
