-- SEGMENTs with raised numbers.
use Rattle.std.proofs.Common.{◌≡◌, ◌≤◌, ◌+◌, ℕ, Bool, true, false, Option, Some, None, Result, Ok, Err, refl, sym, subst, if◌then◌else◌}
use Rattle.std.specs.Prelude.{nat_lt}
use Rattle.std.specs.Option.{option_map, ForSome}
use Rattle.gst_time.specs.declared.time.TheConstants.{LIMIT}
use Rattle.flow_model.specs.Item.{Segment}
use Rattle.flow_model.specs.Rule.{Fault, TooLong}
use Rattle.el_join.specs.Totals.{raised_number, some_number, raised_stop, where_fits, based, moved}
use Rattle.gst_value.proofs.Basics.{ordered_prop}

abbrev number_done : ℕ → Result ℕ Fault
number_done n = Ok n

abbrev stop_done : Option ℕ → Result (Option ℕ) Fault
stop_done stop = Ok stop

abbrev segment_done : Segment → Result Segment Fault
segment_done s = Ok s

pub number_is : (a b n : ℕ) → raised_number a b ≡ Ok n → n ≡ a + b
number_is a b n e = go (nat_lt (a + b) LIMIT) e
  where
    go : (t : Bool) → (if t then Ok (a + b) else Err (TooLong a b)) ≡ number_done n → n ≡ a + b
    go true e = cc
    go false e = absurd (cc)

pub stop_is : (stop : Option ℕ) (n : ℕ) (made : Option ℕ) → raised_stop stop n ≡ Ok made → made ≡ option_map (λ e. e + n) stop
stop_is None n made e = cc
stop_is (Some stop) n made e = go (nat_lt (stop + n) LIMIT) e
  where
    go : (t : Bool) → some_number (if t then Ok (stop + n) else Err (TooLong stop n)) ≡ stop_done made → made ≡ Some (stop + n)
    go true e = cc
    go false e = absurd (cc)

pub base_raised : (s : Segment) (n base : ℕ) (o : ForSome s.stop (λ e. s.start ≤ e)) → raised_number s.base n ≡ Ok base
    → where_fits (raised_number s.base n) (Ok (based s n))
    ≡ Ok (record { format = s.format; start = s.start; stop = s.stop; time = s.time; base = base; position = s.position; ordered = o })
base_raised s n base o e = rw (e, number_is s.base n base e, ordered_prop s.start s.stop o s.ordered) refl

pub bytes_moved : (s : Segment) (n start position : ℕ) (stop : Option ℕ) (o : ForSome stop (λ e. start ≤ e))
    → raised_number s.start n ≡ Ok start → raised_number s.position n ≡ Ok position → raised_stop s.stop n ≡ Ok stop
    → where_fits (raised_number s.start n) (where_fits (raised_number s.position n) (where_fits (raised_stop s.stop n) (Ok (moved s n))))
    ≡ Ok (record { format = s.format; start = start; stop = stop; time = s.time; base = s.base; position = position; ordered = o })
bytes_moved s n start position stop o e f g =
    rw (e, f, g) (go start position stop (number_is s.start n start e) (number_is s.position n position f) (stop_is s.stop n stop g) o)
  where
    made : (o : ForSome (option_map (λ e. e + n) s.stop) (λ e. s.start + n ≤ e))
        → segment_done (moved s n) ≡ Ok (record { format = s.format; start = s.start + n; stop = option_map (λ e. e + n) s.stop; time = s.time; base = s.base; position = s.position + n; ordered = o })
    made o = rw (ordered_prop (s.start + n) (option_map (λ e. e + n) s.stop) o (moved s n).ordered) refl

    Made : ℕ → ℕ → Option ℕ → Type 0
    Made start position stop = (o : ForSome stop (λ e. start ≤ e))
        → segment_done (moved s n) ≡ Ok (record { format = s.format; start = start; stop = stop; time = s.time; base = s.base; position = position; ordered = o })

    go : (start position : ℕ) (stop : Option ℕ) → start ≡ s.start + n → position ≡ s.position + n → stop ≡ option_map (λ e. e + n) s.stop → Made start position stop
    go start position stop e f g =
        subst (λ (a : ℕ). Made a position stop) (sym e) (subst (λ (b : ℕ). Made (s.start + n) b stop) (sym f) (subst (λ (c : Option ℕ). Made (s.start + n) (s.position + n) c) (sym g) made))
