-- Buffers whose times fit, and the first one whose times do not.
use Rattle.std.proofs.Common.{◌≡◌, ◌<◌, ◌^◌, ℕ, ◌+◌, ◌-◌, false, List, [], ◌∷◌, Option, Some, None, refl, sym, subst, IsErrAnd, IfErr, ◌∙◌, arith, Result, Ok, Err}
use Rattle.std.specs.Option.{ForSome, unwrap_or}
use Rattle.flow_model.specs.declared.fault.ElementFault.{ElementFault}
use Rattle.gst_time.specs.declared.time.TheConstants.{LIMIT}
use Rattle.flow_model.specs.Item.{Item, Buf}
use Rattle.flow_model.specs.Feeding.{IsFaultOf}
use Rattle.flow_model.specs.Rule.{Fault}
use Rattle.el_parse.specs.Streams.{Stream}
use Rattle.el_parse.specs.Splits.{time_at, later_by, piece, in_time, in_sum, timed}

-- a fault that is handed on
pub fault_on : {T : Type 0} (r : Result T ElementFault) (fault : ElementFault) (owed : Result (List Item) Fault)
    → IsErrAnd r (λ e. e ≡ fault) → IsFaultOf owed fault → IfErr r (λ e. IsFaultOf owed e)
fault_on (Ok x) fault owed same h = tt
fault_on (Err e) fault owed same h = subst (λ f. IsFaultOf owed f) (sym same) h

pub made_in_time : (s : Stream) (pts : Option ℕ) (reached first count : ℕ) (body : List ℕ) (start end : ℕ) (begin : Option ℕ)
    → start ≡ time_at s first → end ≡ time_at s (first + count) → begin ≡ later_by pts start
    → ((owed : Result (List Item) Fault) → in_time reached (time_at s first) owed ≡ owed)
    → ((owed : Result (List Item) Fault) → in_sum pts start owed ≡ owed)
    → ((owed : Result (List Item) Fault) → in_time reached (time_at s (first + count)) owed ≡ owed)
    → timed s pts reached first count body ≡ Ok (Buf (record { body = body; pts = begin; duration = Some (end - start); offset = Some first; discont = false }) ∷ [])
made_in_time s pts reached first count body start end begin is_start is_end is_begin first_fits sum_fits last_fits =
    first_fits _ ∙ (rw is_start at sum_fits) _ ∙ last_fits _ ∙ rw (is_begin, is_end, is_start) refl

pub first_fault : (s : Stream) (pts : Option ℕ) (reached first count : ℕ) (body : List ℕ) (fault : ElementFault)
    → ((owed : Result (List Item) Fault) → IsFaultOf (in_time reached (time_at s first) owed) fault)
    → IsFaultOf (timed s pts reached first count body) fault
first_fault s pts reached first count body fault fails = fails _

pub sum_fault : (s : Stream) (pts : Option ℕ) (reached first count : ℕ) (body : List ℕ) (start : ℕ) (fault : ElementFault)
    → start ≡ time_at s first
    → ((owed : Result (List Item) Fault) → in_time reached (time_at s first) owed ≡ owed)
    → ((owed : Result (List Item) Fault) → IsFaultOf (in_sum pts start owed) fault)
    → IsFaultOf (timed s pts reached first count body) fault
sum_fault s pts reached first count body start fault is_start first_fits sum_fails =
    rw (first_fits (in_sum pts (time_at s first) (in_time reached (time_at s (first + count)) (Ok (Buf (piece s pts first count body) ∷ [])))), ← is_start) (sum_fails _)

pub end_fault : (s : Stream) (pts : Option ℕ) (reached first count : ℕ) (body : List ℕ) (start : ℕ) (fault : ElementFault)
    → start ≡ time_at s first
    → ((owed : Result (List Item) Fault) → in_time reached (time_at s first) owed ≡ owed)
    → ((owed : Result (List Item) Fault) → in_sum pts start owed ≡ owed)
    → ((owed : Result (List Item) Fault) → IsFaultOf (in_time reached (time_at s (first + count)) owed) fault)
    → IsFaultOf (timed s pts reached first count body) fault
end_fault s pts reached first count body start fault is_start first_fits sum_fits last_fails =
    rw (passes2 _) (last_fails _)
  where
    passes2 : (owed : Result (List Item) Fault) → in_time reached (time_at s first) (in_sum pts (time_at s first) owed) ≡ owed
    passes2 owed = first_fits _ ∙ (rw is_start at sum_fits) owed

pub end_below : (pts : Option ℕ) (end start : ℕ) → ForSome pts (λ sum. sum < LIMIT) → end < LIMIT → unwrap_or pts 0 + (end - start) < 2 ^ 64
end_below None end start h e = omega arith
end_below (Some p) end start h e = let lower : p < LIMIT = h p refl in omega arith
