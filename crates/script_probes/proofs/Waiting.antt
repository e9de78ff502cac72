-- What waits at a pad, and what stops first.
use Rattle.std.proofs.Common.{◌≡◌, ◌&&◌, ◌<◌, ◌≤◌, ◌+◌, ◌++◌, get_or, take, ◌⊎◌, ℕ, Bool, true, false, cond, List, [], ◌∷◌, Option, Some, None, length, slice_get, filter, refl, sym, ap, ◌∙◌, subst, inl, inr, arith, nat_lt, bytes_eq, All}
use Rattle.std.specs.Option.{option_map}
use Rattle.std.proofs.lemmas.Bool.{ltb-true}
use Rattle.std.proofs.lemmas.List.Elements.{filter_more}
use Rattle.std.proofs.lemmas.Option.{slice_get_read, slice_get_within}
use Rattle.std.proofs.lemmas.Slice.Eq.{bytes_eq-Decides}
use Rattle.gst_value.specs.declared.name.PadName.{PadName}
use Rattle.pad_core.specs.declared.probe.Probe.{Probe}
use Rattle.script_text.specs.declared.command.Command.{Command}
use Rattle.script_text.specs.declared.command.When.{When}
use Rattle.script_text.specs.declared.command.When.TheVariants.{At}
use Rattle.script_probes.specs.Queues.{IsQueue, is_at, is_pad, unanswered, waits_at}
use Rattle.script_probes.specs.Stops.{AreStops, InOrder, IsMember, IsStop, StillWaits, StopsFirst, WaitsAt}
use Rattle.script_probes.proofs.Members.{all_from_each, each_member, each_passed, each_weaker, member_filter, order_filter}
use Rattle.gst_value.proofs.Basics.{none_some}

both : (a b : Bool) → (a && b) ≡ true → (a ≡ true) × (b ≡ true)
both true b h = (refl, h)
both false b h = absurd (cc)

same_pad : (a b : PadName) → is_pad a b ≡ true → a ≡ b
same_pad a b h =
    let parts = both (bytes_eq a.element b.element) (bytes_eq a.pad b.pad) h in
    ap (λ (e : List ℕ). let p : PadName = record { element = e; pad = a.pad } in p) ((bytes_eq-Decides a.element b.element).0 parts.0)
    ∙ ap (λ (n : List ℕ). let p : PadName = record { element = b.element; pad = n } in p) ((bytes_eq-Decides a.pad b.pad).0 parts.1)

pub pad_itself : (a : PadName) → is_pad a a ≡ true
pad_itself a =
    ap (λ t. t && bytes_eq a.pad a.pad) ((bytes_eq-Decides a.element a.element).1 refl) ∙ (bytes_eq-Decides a.pad a.pad).1 refl

-- each command of a probe is there
pub commands_there : (commands : List Command) (stops : List Probe) → AreStops commands stops → All (λ (stop : Probe). stop.command < length commands) stops
commands_there commands stops h = all_from_each (λ (stop : Probe). stop.command < length commands) stops
    (each_weaker (λ (stop : Probe). (pad : PadName) × WaitsAt commands pad stop) (λ (stop : Probe). stop.command < length commands) stops (λ stop w. within stop.command (At w.0 stop.buffers) (slice_get commands stop.command) refl w.1) h.each)
  where
    within : (place : ℕ) (when : When) (found : Option Command) → slice_get commands place ≡ found → option_map (λ (command : Command). command.when) found ≡ Some when → place < length commands
    within place when None e is = absurd (none_some is)
    within place when (Some c) e is = slice_get_within commands place c e

-- of all probes, those of one pad are its queue at first
pub queue_first : (commands : List Command) (stops : List Probe) (pad : PadName) → AreStops commands stops → InOrder stops → IsQueue commands 0 pad (filter (is_at commands pad) stops)
queue_first commands stops pad are ordered = record {
  each = each_passed (λ (stop : Probe). (own : PadName) × WaitsAt commands own stop) (WaitsAt commands pad) (is_at commands pad) stops here are.each;
  all = λ probe still. member_filter (is_at commands pad) probe stops (ap (waits_at pad) still.0 ∙ pad_itself pad) (are.all pad probe still.0);
  ordered = order_filter (is_at commands pad) stops ordered;
}
  where
    here : (stop : Probe) → (own : PadName) × WaitsAt commands own stop → is_at commands pad stop ≡ true → WaitsAt commands pad stop
    here stop w on = w.1 ∙ ap (λ (name : PadName). Some (At name stop.buffers)) (same_pad w.0 pad (sym (ap (waits_at pad) w.1) ∙ on))

not_below : (m n : ℕ) → nat_lt m n ≡ false → n ≤ m
not_below m n e = grind (arith, e)

-- the first of a list is not answered
abbrev pub IsOpen : ℕ → List Probe → Type 0
IsOpen answered [] = Unit {0}
IsOpen answered (x ∷ xs) = answered ≤ x.command

rest_open : (answered : ℕ) (queue : List Probe) → IsOpen answered (unanswered answered queue)
rest_open answered [] = tt
rest_open answered (x ∷ xs) = go (nat_lt x.command answered) refl (rest_open answered xs)
  where
    go : (b : Bool) → nat_lt x.command answered ≡ b → IsOpen answered (unanswered answered xs) → IsOpen answered (cond b (unanswered answered xs) (x ∷ xs))
    go true on rest = rest
    go false on rest = not_below x.command answered on

module _ (commands : List Command) (pad : PadName) where
  -- when more commands are answered
  pub queue_later : (before answered : ℕ) (queue : List Probe) → before ≤ answered → IsQueue commands before pad queue → IsQueue commands answered pad queue
  queue_later before answered queue le h = record {
    each = h.each;
    all = λ probe still. h.all probe (still.0, omega (arith, le, still.1));
    ordered = h.ordered;
  }

  -- those that are answered and stand first can go
  pub queue_rest : (answered : ℕ) (queue : List Probe) → IsQueue commands answered pad queue → IsQueue commands answered pad (unanswered answered queue)
  queue_rest answered [] h = h
  queue_rest answered (x ∷ xs) h = go (nat_lt x.command answered) refl (queue_rest answered xs)
    where
      past : nat_lt x.command answered ≡ true → (probe : Probe) → StillWaits commands answered pad probe → (x ≡ probe) ⊎ IsMember probe xs → IsMember probe xs
      past on probe still (inl e) = absurd (omega (arith, ltb-true x.command answered on, still.1, ap (λ (p : Probe). p.command) e))
      past on probe still (inr m) = m

      go : (b : Bool) → nat_lt x.command answered ≡ b → (IsQueue commands answered pad xs → IsQueue commands answered pad (unanswered answered xs)) → IsQueue commands answered pad (cond b (unanswered answered xs) (x ∷ xs))
      go true on rest = rest (record { each = h.each.1; all = λ probe still. past on probe still (h.all probe still); ordered = h.ordered.1 })
      go false on rest = h

  -- at one pad they go, and at the others none does
  pub queue_goes : (before answered : ℕ) (goes : Bool) (queue : List Probe) → before ≤ answered → IsQueue commands before pad queue → IsQueue commands answered pad (cond goes (unanswered answered queue) queue)
  queue_goes before answered true queue le h = queue_rest answered queue (queue_later before answered queue le h)
  queue_goes before answered false queue le h = queue_later before answered queue le h

  -- the first of a queue is the stop, where it is not answered
  first_stop : (answered : ℕ) (queue : List Probe) → IsQueue commands answered pad queue → IsOpen answered queue → IsStop commands answered pad (slice_get queue 0)
  first_stop answered [] h none = λ probe still. h.all probe still
  first_stop answered (x ∷ xs) h low = ((h.each.0, low), λ other still. before other (h.all other still))
    where
      before : (other : Probe) → (x ≡ other) ⊎ IsMember other xs → StopsFirst x other
      before other (inl e) = subst (StopsFirst x) e (inr (refl, omega arith))
      before other (inr m) = each_member (StopsFirst x) xs other h.ordered.0 m

  -- the stop of a pad
  pub stop_of_rest : (answered : ℕ) (queue : List Probe) → IsQueue commands answered pad queue → IsStop commands answered pad (slice_get (unanswered answered queue) 0)
  stop_of_rest answered queue h = first_stop answered (unanswered answered queue) (queue_rest answered queue h) (rest_open answered queue)

-- one probe more at the pad at which its command waits
pub placed : (commands : List Command) (stops : List Probe) (place : ℕ) (stop d : Probe) (command : Command) (pad : PadName) (before now : List Probe) → place < length stops → stop ≡ get_or stops place d → stop.command < length commands
    → command ≡ get_or commands stop.command command → before ≡ filter (is_at commands pad) (take place stops) → now ≡ before ++ cond (waits_at pad (Some command.when)) (stop ∷ []) []
    → now ≡ filter (is_at commands pad) (take (place + 1) stops)
placed commands stops place stop d command pad before now w at within read is more =
    more
    ∙ ap (λ l. l ++ cond (waits_at pad (Some command.when)) (stop ∷ []) []) is
    ∙ ap (λ o. filter (is_at commands pad) (take place stops) ++ cond (waits_at pad (option_map (λ (c : Command). c.when) o)) (stop ∷ []) []) (sym (slice_get_read commands (length commands) stop.command command refl within read))
    ∙ ap (λ (s : Probe). filter (is_at commands pad) (take place stops) ++ cond (is_at commands pad s) (s ∷ []) []) at
    ∙ sym (filter_more (is_at commands pad) stops place d w)
