-- What such an interleave answers in truth.
use Rattle.std.proofs.Common.{◌≡◌, ◌<◌, ℕ, ◌+◌, ◌-◌, ◌/◌, ◌%◌, ◌==◌, Bool, true, false, if◌then◌else◌, List, [], ◌∷◌, ◌++◌, length, drop, Option, None, Some, Result, Ok, Err, refl, sym, ap, ◌∙◌, subst, arith}
use Rattle.std.specs.Prelude.{nat_lt}
use Rattle.std.specs.Option.{option_map}
use Rattle.gst_time.specs.declared.time.TheConstants.{LIMIT}
use Rattle.gst_caps.specs.Accepts.{accepts}
use Rattle.gst_value.specs.Description.{Description}
use Rattle.gst_value.specs.declared.one.One.{One}
use Rattle.flow_model.specs.declared.fault.ElementFault.{ElementFault}
use Rattle.flow_model.specs.declared.fault.ElementFault.TheVariants.{NotNegotiated as Refused, BadStream as Broken, TooLong as Passing, OutOfMemory as Wanting}
use Rattle.gst_caps.specs.Same.{same_caps}
use Rattle.audio_info.specs.Alone.{exactly}
use Rattle.flow_model.specs.declared.fault.StreamKind.TheVariants.{SplitFrame}
use Rattle.flow_model.specs.Item.{Item, Buf, Ev, StreamStart, NewCaps, NewSegment, Tag, Gap, FlushStop, Eos, is_flush_stop}
use Rattle.flow_model.specs.Looking.{bytes_of}
use Rattle.flow_model.specs.Call.{Call, Feed, items}
use Rattle.flow_model.specs.Rule.{Fault, NotNegotiated, BadStream, TooLong}
use Rattle.flow_model.specs.Feeding.{has_eos, IsFaultOf}
use Rattle.flow_model.specs.SinkPads.{push_calls, calls_at, flush_stops_given}
use Rattle.el_mix.specs.declared.mix.Mix.{Mix}
use Rattle.el_mix.specs.Mono.{mono_of, mono_template, width, time_of}
use Rattle.el_mix.specs.Agreed.{or_else, pad_caps, lowest_caps, caps_refusal, buffer_refusal, refusal, first_refusal}
use Rattle.el_mix.specs.Reopened.{reopened, reopenings}
use Rattle.el_mix.specs.Mixes.{interleaved, mixes}
use Rattle.el_mix.specs.Answer.{reached, more_or, mix_answer}
use Rattle.el_mix.specs.Relation.{Mixes, section_of}
use Rattle.el_mix.proofs.Refusing.{some_lists}
use Rattle.el_denote.specs.Near.{Mark, Near, NearEach, done, later, marked, gaps_of, restored}
use Rattle.el_denote.proofs.Nearing.{near_same, each_push, each_in}
use Rattle.el_denote.proofs.GapLists.{none_same, lists_near, caps_near}
use Rattle.el_denote.proofs.GapOwed.{opening_owed, opening_reached, each_at}
use Rattle.el_set.proofs.JoinRules.{mix_open as section_is}
use Rattle.flow_model.proofs.Items.{push_length}

-- up to where buffers were put out
abbrev at_reached : ℕ → Fault → Fault
at_reached r (NotNegotiated offered wanted) = NotNegotiated offered wanted
at_reached r (BadStream place kind) = BadStream place kind
at_reached r (TooLong a b) = TooLong r (LIMIT - r)

caps_at : (r : ℕ) (l : Option (Description One)) (caps : Description One) → caps_refusal l caps ≡ option_map (at_reached r) (caps_refusal l caps)
caps_at r None caps = go (accepts mono_template caps)
  where
    go : (b : Bool) → (if b then None else Some (NotNegotiated (Some caps) mono_template)) ≡ option_map (at_reached r) (if b then None else Some (NotNegotiated (Some caps) mono_template))
    go true = refl
    go false = refl
caps_at r (Some low) caps = go (same_caps low caps) (accepts mono_template caps)
  where
    go : (a b : Bool) → (if a then (if b then None else Some (NotNegotiated (Some caps) mono_template)) else Some (NotNegotiated (Some caps) (exactly low)))
        ≡ option_map (at_reached r) (if a then (if b then None else Some (NotNegotiated (Some caps) mono_template)) else Some (NotNegotiated (Some caps) (exactly low)))
    go true true = refl
    go true false = refl
    go false b = refl

buffer_at : (r : ℕ) (o : Option (Description One)) (got n : ℕ) → buffer_refusal r o got n ≡ option_map (at_reached r) (buffer_refusal 0 o got n)
buffer_at r None got n = refl
buffer_at r (Some caps) got n = go ((n % width (mono_of caps)) == 0) (nat_lt (time_of (mono_of caps) ((got + n) / width (mono_of caps))) LIMIT)
  where
    go : (a b : Bool) → (if a then (if b then None else Some (TooLong r (LIMIT - r))) else Some (BadStream (got + n) SplitFrame))
        ≡ option_map (at_reached r) (if a then (if b then None else Some (TooLong 0 (LIMIT - 0))) else Some (BadStream (got + n) SplitFrame))
    go true true = refl
    go true false = refl
    go false b = refl

refusal_at : (r : ℕ) (l : Option (Description One)) (h : List Item) (x : Item) → refusal r l h x ≡ option_map (at_reached r) (refusal 0 l h x)
refusal_at r l h (Buf b) = buffer_at r (pad_caps h) (length (bytes_of h)) (length b.body)
refusal_at r l h (Ev (NewCaps caps)) = caps_at r l caps
refusal_at r l h (Ev (StreamStart id)) = refl
refusal_at r l h (Ev (NewSegment s)) = refl
refusal_at r l h (Ev (Tag title)) = refl
refusal_at r l h (Ev (Gap pts duration)) = refl
refusal_at r l h (Ev (FlushStop number)) = refl
refusal_at r l h (Ev Eos) = refl

or_map : (f : Fault → Fault) (a b : Option Fault) → or_else (option_map f a) (option_map f b) ≡ option_map f (or_else a b)
or_map f None b = refl
or_map f (Some x) b = refl

first_at : (r : ℕ) (l : Option (Description One)) (h xs : List Item) → first_refusal r l h xs ≡ option_map (at_reached r) (first_refusal 0 l h xs)
first_at r l h [] = refl
first_at r l h (x ∷ xs) =
    ap (λ o. or_else o (first_refusal r l (h ++ x ∷ []) xs)) (refusal_at r l h x) ∙ ap (λ o. or_else (option_map (at_reached r) (refusal 0 l h x)) o) (first_at r l (h ++ x ∷ []) xs)
    ∙ or_map (at_reached r) (refusal 0 l h x) (first_refusal 0 l (h ++ x ∷ []) xs)

-- an answer, by what was refused where nothing had been put out
abbrev answer_by : Bool → ℕ → Option Fault → List Item → List Item → Result (List Item) Fault
answer_by over r q owed owed' = if over then Ok [] else more_or (option_map (at_reached r) q) owed owed'

ok_by : (over : Bool) (r r' : ℕ) (q : Option Fault) (a a' b b' more : List Item) → answer_by over r q a a' ≡ Ok more → (more' : List Item) × (answer_by over r' q b b' ≡ Ok more')
ok_by true r r' q a a' b b' more e = ([], refl)
ok_by false r r' None a a' b b' more e = (drop (length b) b', refl)
ok_by false r r' (Some f) a a' b b' more e = absurd (cc)

taken_by : (xs ys : List Item) (gaps : Mark) (fault : ElementFault) → IsFaultOf (Ok xs) fault → IsFaultOf (Ok ys) (restored gaps fault)
taken_by xs ys gaps (Refused offered wanted) h = absurd (cc)
taken_by xs ys gaps (Broken place kind) h = absurd (cc)
taken_by xs ys gaps (Passing a b) h = absurd (cc)
taken_by xs ys None Wanting h = tt
taken_by xs ys (Some c) Wanting h = tt

fault_gap : (r : ℕ) (c : Bool) (f : Fault) (fault : ElementFault) → IsFaultOf (Err (at_reached r f)) fault → IsFaultOf (Err (at_reached 0 f)) (restored (Some c) fault)
fault_gap r c f Wanting h = tt
fault_gap r c (NotNegotiated o w) (Refused offered wanted) h = h
fault_gap r c (BadStream p k) (Refused offered wanted) h = absurd (cc)
fault_gap r c (TooLong a b) (Refused offered wanted) h = absurd (cc)
fault_gap r c (NotNegotiated o w) (Broken place kind) h = absurd (cc)
fault_gap r c (BadStream p k) (Broken place kind) h = h
fault_gap r c (TooLong a b) (Broken place kind) h = absurd (cc)
fault_gap r c (NotNegotiated o w) (Passing a b) h = absurd (cc)
fault_gap r c (BadStream p k) (Passing a b) h = absurd (cc)
fault_gap r c (TooLong d e) (Passing a b) h = refl

err_by : (gaps : Mark) (over : Bool) (r r' : ℕ) (q : Option Fault) (a a' b b' : List Item) (fault : ElementFault) → (gaps ≡ None → r ≡ r') → ((c : Bool) → gaps ≡ Some c → r' ≡ 0)
    → IsFaultOf (answer_by over r q a a') fault → IsFaultOf (answer_by over r' q b b') (restored gaps fault)
err_by gaps true r r' q a a' b b' fault same none h = taken_by [] [] gaps fault h
err_by gaps false r r' None a a' b b' fault same none h = taken_by (drop (length a) a') (drop (length b) b') gaps fault h
err_by None false r r' (Some f) a a' b b' fault same none h = subst (λ n. IsFaultOf (Err (at_reached n f)) fault) (same refl) h
err_by (Some c) false r r' (Some f) a a' b b' fault same none h = subst (λ n. IsFaultOf (Err (at_reached n f)) (restored (Some c) fault)) (sym (none c refl)) (fault_gap r c f fault h)

near_at : (j : ℕ) {marks : List Mark} {begun : Bool} {tooks givens : List (List Call)} → NearEach j marks begun tooks givens → length marks < length tooks
    → Near j None (calls_at (length marks) tooks) (calls_at (length marks) givens)
near_at j done within = absurd (omega (arith, within))
near_at j (later n s rest) within = n
near_at j (marked n rest) within = near_at j rest (omega (arith, within))

answer_is : (inputs : List (List Call)) (i j : ℕ) (x : Item) (over : Bool) → has_eos (calls_at i inputs) ≡ over → flush_stops_given (calls_at i inputs) ≡ j
    → (l : Option (Description One)) → lowest_caps (reopenings j (push_calls i (Feed x ∷ []) inputs)) ≡ l → (xs : List Item) → reopened j (items (calls_at i (push_calls i (Feed x ∷ []) inputs))) ≡ xs
    → mix_answer inputs i x ≡ answer_by over (reached (mixes inputs 0 j)) (first_refusal 0 l [] xs) (mixes inputs 0 j) (mixes (push_calls i (Feed x ∷ []) inputs) 0 j)
answer_is inputs i j x over e is l low xs list =
    rw (e, is, low, list) (ap (λ o. if over then Ok [] else more_or o (mixes inputs 0 j) (mixes (push_calls i (Feed x ∷ []) inputs) 0 j)) (first_at (reached (mixes inputs 0 j)) l [] xs))

pub answers_near : (mix : Mix) (tooks givens : List (List Call)) (put : List Item) (j : ℕ) (marks : List Mark) (begun : Bool) (x : Item) → Mixes mix tooks put
    → NearEach j marks begun tooks givens → is_flush_stop x ≡ false → length marks < length tooks
    → ((more : List Item) → mix_answer tooks (length marks) x ≡ Ok more → (more' : List Item) × (mix_answer givens (length marks) x ≡ Ok more'))
    × ((fault : ElementFault) → IsFaultOf (mix_answer tooks (length marks) x) fault → IsFaultOf (mix_answer givens (length marks) x) (restored (gaps_of marks) fault))
answers_near mix tooks givens put j marks begun x m near plain within =
    let i = length marks in
    let n = near_at j near within in
    let pushed = each_push j x plain near in
    let within' : length marks < length (push_calls i (Feed x ∷ []) tooks) = subst (λ k. length marks < k) (sym (push_length i (Feed x ∷ []) tooks)) within in
    let n' = near_at j pushed within' in
    let l = lowest_caps (reopenings j (push_calls i (Feed x ∷ []) givens)) in
    let xs = reopened j (items (calls_at i (push_calls i (Feed x ∷ []) givens))) in
    let q = first_refusal 0 l [] xs in
    let r = reached (mixes tooks 0 j) in
    let r' = reached (mixes givens 0 j) in
    let over = has_eos (calls_at i givens) in
    let a : mix_answer tooks i x ≡ answer_by over r q (mixes tooks 0 j) (mixes (push_calls i (Feed x ∷ []) tooks) 0 j) =
    answer_is tooks i j x over n.eos n.took_in l (caps_near (lists_near j pushed)) xs (near_same j (calls_at i (push_calls i (Feed x ∷ []) tooks)) (calls_at i (push_calls i (Feed x ∷ []) givens)) n') in
    let b : mix_answer givens i x ≡ answer_by over r' q (mixes givens 0 j) (mixes (push_calls i (Feed x ∷ []) givens) 0 j) =
    answer_is givens i j x over refl n.given_in l refl xs refl in
    let some : 0 < length tooks = omega (arith, within) in
    let is : section_of tooks ≡ j = section_is j tooks some (each_in j near).0 in
    let same_reached : gaps_of marks ≡ None → r ≡ r' = λ g. ap (λ xss. reached (interleaved xss)) (none_same j near g) in
    let none_reached : (c : Bool) → gaps_of marks ≡ Some c → r' ≡ 0 =
    λ c g. ap reached (opening_owed mix.channels.items c (lists_near j near) g (each_at mix tooks put j m is) (some_lists j tooks some)) ∙ opening_reached (reopenings j givens) in (
      λ more e.
          let f = ok_by over r r' q (mixes tooks 0 j) (mixes (push_calls i (Feed x ∷ []) tooks) 0 j) (mixes givens 0 j) (mixes (push_calls i (Feed x ∷ []) givens) 0 j) more (sym a ∙ e) in
          (f.0, b ∙ f.1),
      λ fault h.
          subst (λ z. IsFaultOf z (restored (gaps_of marks) fault)) (sym b)
          (err_by (gaps_of marks) over r r' q (mixes tooks 0 j) (mixes (push_calls i (Feed x ∷ []) tooks) 0 j) (mixes givens 0 j) (mixes (push_calls i (Feed x ∷ []) givens) 0 j) fault same_reached none_reached
          (subst (λ z. IsFaultOf z fault) a h)),
    )
