-- The probes of commands, as they are gathered and sorted.
use Rattle.std.proofs.Common.{◌≡◌, ◌<◌, ◌≤◌, ◌+◌, ℕ, zero, suc, false, List, [], ◌∷◌, ◌++◌, Some, length, get_or, take, refl, sym, ap, ◌∙◌, subst, inl, arith, length-take}
use Rattle.std.specs.List.Sorted.{IsPermutation, IsSortedBy}
use Rattle.std.specs.Ordering.{nat_cmp, ordering_then, is_lt}
use Rattle.std.specs.declared.cmp.Ordering.{Ordering}
use Rattle.std.proofs.lemmas.Bool.Decides.{nat_tests}
use Rattle.std.proofs.lemmas.Cmp.{nat_cmp_total, on_total, then_total}
use Rattle.std.proofs.lemmas.Grind.{take_at_read}
use Rattle.std.proofs.lemmas.List.Sorted.{ranks_by, sorted_far}
use Rattle.std.proofs.lemmas.Option.{same_Some as some_same}
use Rattle.gst_value.specs.Names.{Each}
use Rattle.gst_value.specs.declared.name.PadName.{PadName}
use Rattle.pad_core.specs.declared.probe.Probe.{Probe}
use Rattle.script_text.specs.declared.command.Command.{Command}
use Rattle.script_text.specs.declared.command.When.{When}
use Rattle.script_text.specs.declared.command.When.TheVariants.{At, NowPad, Now}
use Rattle.script_probes.specs.Stops.{AreStops, InOrder, IsMember, StopsFirst, WaitsAt, stop_at, stops_of, when_at}
use Rattle.script_probes.proofs.Members.{each_append, each_from_all, each_permuted, member_left, member_permuted, member_right}
use Rattle.gst_value.proofs.Basics.{none_some}

stops_append : (place : ℕ) (xs ys : List Command) (end : ℕ) → end ≡ place + length xs → stops_of place (xs ++ ys) ≡ stops_of place xs ++ stops_of end ys
stops_append place [] ys end e = ap (λ n. stops_of n ys) (omega (arith, e))
stops_append place (x ∷ xs) ys end e = go x.when (stops_append (suc place) xs ys end (omega (arith, e)))
  where
    go : (when : When) → stops_of (suc place) (xs ++ ys) ≡ stops_of (suc place) xs ++ stops_of end ys → stop_at place when ++ stops_of (suc place) (xs ++ ys) ≡ (stop_at place when ++ stops_of (suc place) xs) ++ stops_of end ys
    go (At pad buffers) h = ap (λ l. record { command = place; buffers = buffers } ∷ l) h
    go (NowPad pad) h = h
    go Now h = h

-- one command more
pub stops_more : (commands : List Command) (place : ℕ) (d : Command) → place < length commands → stops_of 0 (take (place + 1) commands) ≡ stops_of 0 (take place commands) ++ stop_at place (get_or commands place d).when
stops_more commands place d w =
    ap (stops_of 0) (take_at_read commands place d w).1
    ∙ stops_append 0 (take place commands) (get_or commands place d ∷ []) place (omega (arith, length-take place commands, w))
    ∙ ap (λ l. stops_of 0 (take place commands) ++ l) (one (get_or commands place d).when)
  where
    one : (when : When) → stop_at place when ++ [] ≡ stop_at place when
    one (At pad buffers) = refl
    one (NowPad pad) = refl
    one Now = refl

pub gathered : (commands : List Command) (place : ℕ) (command : Command) (stops now : List Probe) → place < length commands → command ≡ get_or commands place command → stops ≡ stops_of 0 (take place commands)
    → now ≡ stops ++ stop_at place command.when → now ≡ stops_of 0 (take (place + 1) commands)
gathered commands place command stops now w at before is =
    is ∙ ap (λ l. l ++ stop_at place command.when) before ∙ ap (λ (c : Command). stops_of 0 (take place commands) ++ stop_at place c.when) at ∙ sym (stops_more commands place command w)

pub no_stop : (place : ℕ) (when : When) → ((pad : PadName) (buffers : ℕ) → when ≡ At pad buffers → ⊥) → stop_at place when ≡ []
no_stop place (At pad buffers) none = absurd (none pad buffers refl)
no_stop place (NowPad pad) none = refl
no_stop place Now none = refl

each_stop : (P : Probe → Type 0) (place : ℕ) (cs : List Command) → ((k q : ℕ) (pad : PadName) (buffers : ℕ) → q ≡ place + k → when_at cs k ≡ Some (At pad buffers) → P (record { command = q; buffers = buffers })) → Each P (stops_of place cs)
each_stop P place [] h = tt
each_stop P place (c ∷ cs) h =
    each_append P (stop_at place c.when) (stops_of (suc place) cs) (go c.when refl) (each_stop P (suc place) cs (λ k q pad buffers e is. h (suc k) q pad buffers (omega (arith, e)) is))
  where
    go : (when : When) → c.when ≡ when → Each P (stop_at place when)
    go (At pad buffers) e = (h 0 place pad buffers (omega arith) (ap Some e), tt)
    go (NowPad pad) e = tt
    go Now e = tt

member_stop : (place : ℕ) (cs : List Command) (k q : ℕ) (pad : PadName) (buffers : ℕ) → q ≡ place + k → when_at cs k ≡ Some (At pad buffers) → IsMember (record { command = q; buffers = buffers }) (stops_of place cs)
member_stop place [] k q pad buffers e is = absurd (none_some is)
member_stop place (c ∷ cs) zero q pad buffers e is =
    member_left (record { command = q; buffers = buffers }) (stop_at place c.when) (stops_of (suc place) cs)
    (subst (λ (when : When). IsMember (record { command = q; buffers = buffers }) (stop_at place when)) (sym (some_same c.when (At pad buffers) is))
    (inl (ap (λ (n : ℕ). let p : Probe = record { command = n; buffers = buffers } in p) (omega (arith, e)))))
member_stop place (c ∷ cs) (suc k) q pad buffers e is =
    member_right (record { command = q; buffers = buffers }) (stop_at place c.when) (stops_of (suc place) cs) (member_stop (suc place) cs k q pad buffers (omega (arith, e)) is)

-- the probes of commands in any order are those of the commands
pub are_stops : (commands : List Command) (sorted : List Probe) → IsPermutation (stops_of 0 commands) sorted → AreStops commands sorted
are_stops commands sorted moved = record {
  each = each_permuted (λ (stop : Probe). (pad : PadName) × WaitsAt commands pad stop) (stops_of 0 commands) sorted moved
      (each_stop (λ (stop : Probe). (pad : PadName) × WaitsAt commands pad stop) 0 commands (λ k q pad buffers e is. (pad, ap (when_at commands) (same k q e) ∙ is)));
  all = λ pad stop waits. member_permuted stop (stops_of 0 commands) sorted moved (member_stop 0 commands stop.command stop.command pad stop.buffers (omega arith) waits);
}
  where
    same : (k q : ℕ) → q ≡ 0 + k → q ≡ k
    same k q e = omega (arith, e)

abbrev pub key_of : Probe → ℕ × ℕ
key_of stop = (stop.buffers, stop.command)

abbrev pub key_cmp : ℕ × ℕ → ℕ × ℕ → Ordering
key_cmp x y = ordering_then (nat_cmp x.0 y.0) (nat_cmp x.1 y.1)

not_later : (a b : Probe) → is_lt (key_cmp (key_of b) (key_of a)) ≡ false → StopsFirst a b
not_later a b h = grind (arith, nat_tests)

-- sorted by their keys they are in order
pub sorted_order : (xs : List Probe) → IsSortedBy (λ x y. is_lt (key_cmp (key_of x) (key_of y))) xs → InOrder xs
sorted_order xs sorted = ordered xs (λ i j d le w. sorted_far (λ x y. is_lt (key_cmp (key_of x) (key_of y))) (ranks_by (then_total (on_total (λ (p : ℕ × ℕ). p.0) nat_cmp_total) (on_total (λ (p : ℕ × ℕ). p.1) nat_cmp_total)) key_of) xs sorted i j d le w)
  where
    ordered : (ys : List Probe) → ((i j : ℕ) (d : Probe) → i ≤ j → j < length ys → is_lt (key_cmp (key_of (get_or ys j d)) (key_of (get_or ys i d))) ≡ false) → InOrder ys
    ordered [] far = tt
    ordered (y ∷ ys) far = (
      each_from_all (StopsFirst y) ys (λ k d w. not_later y (get_or ys k d) (far 0 (suc k) d (omega arith) (omega (arith, w)))),
      ordered ys (λ i j d le w. far (suc i) (suc j) d (omega (arith, le)) (omega (arith, w))),
    )
