-- One item more on a pad, behind what went out.
use Rattle.std.proofs.Common.{◌≡◌, ◌<◌, ◌≤◌, ℕ, ◌+◌, ◌*◌, ◌/◌, ◌%◌, ◌^◌, Bool, true, false, if◌then◌else◌, eqb, ltb, List, [], ◌∷◌, ◌++◌, Option, Some, None, length, refl, sym, ap, ◌∙◌, subst, length-append, arith}
use Rattle.std.proofs.lemmas.Bool.{eqb-true, ltb-true}
use Rattle.std.proofs.Math.Nat.{zero-div, zero-mod, mul-mod_left}
use Rattle.gst_time.specs.declared.time.TheConstants.{LIMIT}
use Rattle.gst_value.specs.Description.{Description}
use Rattle.gst_value.specs.declared.one.One.{One}
use Rattle.flow_model.specs.Item.{Item, Buf, Ev, StreamStart, NewCaps, NewSegment, Tag, Gap, FlushStop, Eos, is_eos, body_of}
use Rattle.flow_model.specs.Looking.{bytes_of}
use Rattle.el_mix.specs.declared.channel.Channel.{Channel}
use Rattle.el_mix.specs.Mono.{Mono, mono_of, width, time_of}
use Rattle.el_mix.specs.Mixed.{has, frames}
use Rattle.el_mix.specs.Agreed.{or_else, caps_in, buffer_refusal}
use Rattle.el_mix.specs.Mixes.{is_start, id_in}
use Rattle.el_mix.specs.Line.{Line, line_of}
use Rattle.el_mix.specs.Taking.{hears, kept_line, next_id, settled, Took}
use Rattle.el_mix.specs.Judging.{own_refusal}
use Rattle.el_mix.specs.Lined.{joined, AllWhole, Lined}
use Rattle.el_mix.specs.Standing.{Counts, Waits}
use Rattle.el_mix.proofs.Growing.{has_push, caps_push, id_push, sum_whole, left_length, lined_body, lined_none, lined_empty}
use Rattle.flow_model.proofs.Looking.{bytes_push}

or_swap : (a b : Bool) → (if a then true else b) ≡ (if b then true else a)
or_swap true true = refl
or_swap true false = refl
or_swap false true = refl
or_swap false false = refl

differ : true ≡ false → ⊥
differ e = absurd (cc)

-- what the channel counts
pub took_counts : (c d : Channel) (xs : List Item) (x : Item) → has is_eos xs ≡ false → length (bytes_of xs) + length (body_of x) < 2 ^ 62 → Counts c xs → Took c x d
    → Counts d (xs ++ x ∷ [])
took_counts c d xs x unended few k t = record {
  caps = t.caps ∙ ap (λ o. or_else o (caps_in x)) k.caps ∙ sym (caps_push xs x);
  started = t.started ∙ ap (λ b. if is_start x then true else b) k.started ∙ or_swap (is_start x) (has is_start xs) ∙ sym (has_push is_start xs x);
  ended = t.ended ∙ sym (has_push is_eos xs x ∙ ap (λ b. if b then true else is_eos x) unended);
  first = t.first ∙ ap (λ b. next_id b c.progress.first_id (id_in x)) k.started ∙ ap (λ o. next_id (has is_start xs) o (id_in x)) k.first ∙ sym (id_push xs x);
  got = t.got (subst (λ n. n + length (body_of x) < 2 ^ 62) (sym k.got) few) ∙ ap (λ n. n + length (body_of x)) k.got ∙ sym (length-append (bytes_of xs) (body_of x))
      ∙ sym (ap length (bytes_push xs x));
  fresh = λ b. absurd (differ (sym t.begun ∙ b));
}

-- what is known of its bytes where they are not refused
pub record IsTaken (c : Channel) (xs : List Item) (x : Item) : Type 0 where
  pub bare : hears c ≡ None → body_of x ≡ []
  pub whole : (caps : Description One) → hears c ≡ Some caps → length (body_of x) % width (mono_of caps) ≡ 0
  pub fits : (caps : Description One) → hears c ≡ Some caps → time_of (mono_of caps) ((length (bytes_of xs) + length (body_of x)) / width (mono_of caps)) < LIMIT

is_taken_plain : (next : ℕ) (c : Channel) (xs : List Item) (x : Item) → body_of x ≡ [] → Waits next c xs → IsTaken c xs x
is_taken_plain next c xs x none w = record {
  bare = λ e. none;
  whole = λ caps is. ap (λ b. length b % width (mono_of caps)) none ∙ zero-mod (width (mono_of caps));
  fits = λ caps is. subst (λ n. time_of (mono_of caps) (n / width (mono_of caps)) < LIMIT) (sym (same none)) (w.fits caps is);
}
  where
    same : body_of x ≡ [] → length (bytes_of xs) + length (body_of x) ≡ length (bytes_of xs)
    same e = let nothing = ap length e in omega (arith, nothing)

pub is_taken : (r next : ℕ) (low : Option (Description One)) (c : Channel) (xs : List Item) (x : Item) → Counts c xs → Waits next c xs
    → own_refusal r low (hears c) c.progress.got x ≡ None → IsTaken c xs x
is_taken r next low c xs (Buf b) k w e = record {
  bare = λ none. absurd (refused none);
  whole = λ caps is. (both caps is).0;
  fits = λ caps is. subst (λ n. time_of (mono_of caps) ((n + length b.body) / width (mono_of caps)) < LIMIT) k.got (both caps is).1;
}
  where
    refused : hears c ≡ None → ⊥
    refused none = let e' = rw none at e in absurd (cc)

    both : (caps : Description One) → hears c ≡ Some caps
        → (length b.body % width (mono_of caps) ≡ 0) × (time_of (mono_of caps) ((c.progress.got + length b.body) / width (mono_of caps)) < LIMIT)
    both caps is = go (eqb (length b.body % width (mono_of caps)) 0) refl (ltb (time_of (mono_of caps) ((c.progress.got + length b.body) / width (mono_of caps))) LIMIT) refl
        (ap (λ o. buffer_refusal r o c.progress.got (length b.body)) (sym is) ∙ e)
      where
        go : (p : Bool) → eqb (length b.body % width (mono_of caps)) 0 ≡ p → (q : Bool) → ltb (time_of (mono_of caps) ((c.progress.got + length b.body) / width (mono_of caps))) LIMIT ≡ q
            → buffer_refusal r (Some caps) c.progress.got (length b.body) ≡ None
            → (length b.body % width (mono_of caps) ≡ 0) × (time_of (mono_of caps) ((c.progress.got + length b.body) / width (mono_of caps)) < LIMIT)
        go true p true q h = (eqb-true (length b.body % width (mono_of caps)) 0 p, ltb-true (time_of (mono_of caps) ((c.progress.got + length b.body) / width (mono_of caps))) LIMIT q)
        go true p false q h = let h' = rw (p, q) at h in absurd (cc)
        go false p q' q h = let h' = rw p at h in absurd (cc)
is_taken r next low c xs (Ev (StreamStart id)) k w e = is_taken_plain next c xs (Ev (StreamStart id)) refl w
is_taken r next low c xs (Ev (NewCaps caps)) k w e = is_taken_plain next c xs (Ev (NewCaps caps)) refl w
is_taken r next low c xs (Ev (NewSegment s)) k w e = is_taken_plain next c xs (Ev (NewSegment s)) refl w
is_taken r next low c xs (Ev (Tag title)) k w e = is_taken_plain next c xs (Ev (Tag title)) refl w
is_taken r next low c xs (Ev (Gap pts duration)) k w e = is_taken_plain next c xs (Ev (Gap pts duration)) refl w
is_taken r next low c xs (Ev (FlushStop number)) k w e = is_taken_plain next c xs (Ev (FlushStop number)) refl w
is_taken r next low c xs (Ev Eos) k w e = is_taken_plain next c xs (Ev Eos) refl w

-- all of a pad's bytes are whole frames
joined_whole : (w : ℕ) (bs : List (List ℕ)) → AllWhole w bs → length (joined bs) % w ≡ 0
joined_whole w [] a = zero-mod w
joined_whole w (b ∷ bs) a = ap (λ n. n % w) (length-append b (joined bs)) ∙ sum_whole w (length b) (length (joined bs)) a.0 (joined_whole w bs a.1)

-- what waits
some_caps : (o p : Option (Description One)) (caps found : Description One) → o ≡ Some found → or_else o p ≡ Some caps → caps ≡ found
some_caps o p caps found is e = cc_of (ap (λ q. or_else q p) (sym is) ∙ e)
  where
    cc_of : Some found ≡ Some caps → caps ≡ found
    cc_of e = cc

none_caps : (o p : Option (Description One)) → or_else o p ≡ None → o ≡ None
none_caps None p e = refl
none_caps (Some c) p e = absurd (cc)

kept_ahead : (l m : Line) (b : List ℕ) → m ≡ kept_line l b → b ≡ [] → m.ahead ≡ l.ahead
kept_ahead l m [] e none = ap (λ (z : Line). z.ahead) e
kept_ahead l m (x ∷ b) e none = absurd (cc)

no_bytes : (xs : List Item) (x : Item) → bytes_of xs ≡ [] → body_of x ≡ [] → bytes_of (xs ++ x ∷ []) ≡ []
no_bytes xs x e none = bytes_push xs x ∙ ap (λ zs. zs ++ body_of x) e ∙ none

pub time_of_none : (mono : Mono) (xs : List Item) → bytes_of xs ≡ [] → time_of mono (frames mono xs) < LIMIT
time_of_none mono xs e =
    let none : frames mono xs ≡ 0 = ap (λ zs. length zs / width mono) e ∙ zero-div (width mono) in
    let start : time_of mono 0 ≡ 0 = zero-div mono.rate in
    subst (λ n. time_of mono n < LIMIT) (sym none) (subst (λ n. n < LIMIT) (sym start) (omega arith))

pub took_waits : (next : ℕ) (c d : Channel) (xs : List Item) (x : Item) → length (bytes_of xs) + length (body_of x) < 2 ^ 62
    → ((caps : Description One) → hears c ≡ Some caps → next * width (mono_of caps) ≤ length (bytes_of xs))
    → IsTaken c xs x → Waits next c xs → Took c x d → Waits next d (xs ++ x ∷ [])
took_waits next c d xs x few low i w t = record {
  none = λ e. none (none_caps (hears c) (caps_in x) (sym t.caps ∙ e));
  some = λ caps is. some caps (hears c) refl (sym t.caps ∙ is);
  fits = λ caps is. fits caps (hears c) refl (sym t.caps ∙ is);
  small = subst (λ n. n < 2 ^ 62) (sym (ap length (bytes_push xs x) ∙ length-append (bytes_of xs) (body_of x))) few;
}
  where
    none : hears c ≡ None → (bytes_of (xs ++ x ∷ []) ≡ []) × (d.waiting.ahead ≡ [])
    none e = (no_bytes xs x (w.none e).0 (i.bare e), kept_ahead c.waiting d.waiting (body_of x) t.waiting (i.bare e) ∙ (w.none e).1)

    lined : (caps : Description One) → hears c ≡ Some caps → (b : List ℕ) → body_of x ≡ b → Lined (mono_of caps) next d.waiting.ahead (xs ++ x ∷ [])
    lined caps is b of =
        let l = w.some caps is in
        let got : length (bytes_of xs) % width (mono_of caps) ≡ 0 = whole_so_far l in
        go b of l got
      where
        whole_so_far : Lined (mono_of caps) next c.waiting.ahead xs → length (bytes_of xs) % width (mono_of caps) ≡ 0
        whole_so_far l =
            ap (λ n. n % width (mono_of caps)) (left_length (mono_of caps) next c.waiting.ahead xs l (low caps is))
            ∙ sum_whole (width (mono_of caps)) (next * width (mono_of caps)) (length (joined c.waiting.ahead)) (mul-mod_left next (width (mono_of caps)))
            (joined_whole (width (mono_of caps)) c.waiting.ahead l.whole)

        go : (b : List ℕ) → body_of x ≡ b → Lined (mono_of caps) next c.waiting.ahead xs → length (bytes_of xs) % width (mono_of caps) ≡ 0 → Lined (mono_of caps) next d.waiting.ahead (xs ++ x ∷ [])
        go [] of l got =
            subst (λ bs. Lined (mono_of caps) next bs (xs ++ x ∷ [])) (sym (kept_ahead c.waiting d.waiting (body_of x) t.waiting of))
            (lined_none (mono_of caps) next c.waiting.ahead xs x (low caps is) got of l)
        go (y ∷ b) of l got =
            let more : d.waiting.ahead ≡ c.waiting.ahead ++ body_of x ∷ [] = ap (λ (z : Line). z.ahead) t.waiting ∙ kept_some (body_of x) y b of in
            let some : 0 < length (body_of x) = subst (λ n. 0 < n) (sym (ap length of)) (omega arith) in
            subst (λ bs. Lined (mono_of caps) next bs (xs ++ x ∷ [])) (sym more)
            (lined_body (mono_of caps) next c.waiting.ahead xs x (low caps is) got some (i.whole caps is) l)
          where
            kept_some : (z : List ℕ) (y : ℕ) (b : List ℕ) → z ≡ y ∷ b → (kept_line c.waiting z).ahead ≡ c.waiting.ahead ++ z ∷ []
            kept_some [] y b e = absurd (cc)
            kept_some (v ∷ z) y b e = refl

    some : (caps : Description One) (o : Option (Description One)) → hears c ≡ o → or_else (hears c) (caps_in x) ≡ Some caps → Lined (mono_of caps) next d.waiting.ahead (xs ++ x ∷ [])
    some caps (Some found) o e = lined caps (o ∙ ap (λ z. Some z) (sym (some_caps (hears c) (caps_in x) caps found o e))) (body_of x) refl
    some caps None o e =
        let both = none o in
        subst (λ bs. Lined (mono_of caps) next bs (xs ++ x ∷ [])) (sym both.1) (lined_empty (mono_of caps) next (xs ++ x ∷ []) both.0)

    fits : (caps : Description One) (o : Option (Description One)) → hears c ≡ o → or_else (hears c) (caps_in x) ≡ Some caps → time_of (mono_of caps) (frames (mono_of caps) (xs ++ x ∷ [])) < LIMIT
    fits caps (Some found) o e =
        let is : hears c ≡ Some caps = o ∙ ap (λ z. Some z) (sym (some_caps (hears c) (caps_in x) caps found o e)) in
        subst (λ n. time_of (mono_of caps) (n / width (mono_of caps)) < LIMIT) (sym (ap length (bytes_push xs x) ∙ length-append (bytes_of xs) (body_of x))) (i.fits caps is)
    fits caps None o e = time_of_none (mono_of caps) (xs ++ x ∷ []) (none o).0

-- the look ahead stands at the first body
with_waiting : (d : Channel) (l : Line) → l ≡ d.waiting → record d { waiting = l } ≡ d
with_waiting d l e = ap (λ (m : Line). record d { waiting = m }) e

pub kept_settled : (l : Line) (b : List ℕ) → line_of l.rest ≡ l → line_of (kept_line l b).rest ≡ kept_line l b
kept_settled l [] e = e
kept_settled l (x ∷ b) e = ap (λ (m : Line). record { rest = l.rest ++ (x ∷ b) ∷ []; ahead = m.ahead ++ (x ∷ b) ∷ [] }) e

pub took_settled : (c d : Channel) (x : Item) → settled c ≡ c → Took c x d → settled d ≡ d
took_settled c d x e t =
    let line : line_of c.waiting.rest ≡ c.waiting = ap (λ (z : Channel). z.waiting) e in
    with_waiting d (line_of d.waiting.rest) (ap (λ (m : Line). line_of m.rest) t.waiting ∙ kept_settled c.waiting (body_of x) line ∙ sym t.waiting)
