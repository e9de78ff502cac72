-- An element that cuts raw audio with one more call.
use Rattle.std.proofs.Common.{◌≡◌, ◌<◌, ℕ, ◌+◌, ◌*◌, ◌/◌, true, false, List, [], ◌∷◌, ◌++◌, length, drop, Option, Some, None, refl, sym, ap, subst, ◌∙◌, append-nil, arith, Result, Ok, Err, length-append}
use Rattle.std.specs.Prelude.{IsOk, OnOk, filter}
use Rattle.std.specs.Option.{option_map}
use Rattle.std.proofs.Math.Nat.{div-eq_of_lt}
use Rattle.audio_info.specs.declared.info.Info.{Info}
use Rattle.gst_caps.specs.Accepts.{accepts}
use Rattle.gst_value.specs.Description.{Description}
use Rattle.gst_caps.specs.declared.caps.Caps.{Caps}
use Rattle.gst_value.specs.declared.one.One.{One}
use Rattle.flow_model.specs.Item.{Item, Ev, NewCaps, FlushStop, Eos, is_flush_stop, is_eos}
use Rattle.flow_model.specs.Call.{Call, Feed, Act, Drain, items}
use Rattle.flow_model.specs.Rule.{Fed, Fault, not_eos}
use Rattle.flow_model.specs.Feeding.{next_owed}
use Rattle.flow_model.proofs.Calls.{items_push, items_act, fed_taken, fed_behind, fed_flush, drained_begun, drained_behind, eos_taken, eos_stays, eos_flushed, eos_act}
use Rattle.el_parse.specs.declared.split.Split.{Split}
use Rattle.flow_model.specs.Owed.{answered, drain_owed, without_eos}
use Rattle.audio_info.specs.Templates.{raw_template}
use Rattle.el_parse.specs.Streams.{Stream, stream_by}
use Rattle.el_parse.specs.Splits.{Cutting, cutting, ahead, rest, rested, split_answer, splits, cutting_behind}
use Rattle.el_parse.specs.Regrouped.{splitting, come, KeepsBytes, Regrouped}
use Rattle.el_parse.proofs.Steps.{some_width}
use Rattle.el_parse.proofs.Views.{View, view, view_push, view_append}
use Rattle.el_parse.proofs.Regrouping.{Moved, went, rest_moved, rest_alone, flushed_cutting, flush_moved}
use Rattle.flow_model.proofs.Items.{ok_answered}

-- CAPS that the template takes
caps_answer : (frames : ℕ) (p : Cutting) (wanted : Caps) (caps : Description One) → wanted ≡ raw_template → true ≡ accepts wanted caps
    → split_answer frames p (Ev (NewCaps caps)) ≡ ahead (rest p) (Ok (Ev (NewCaps caps) ∷ []))
caps_answer frames p wanted caps made takes = rw (← (takes ∙ ap (λ w. accepts w caps) made)) refl

pub caps_ok : (frames : ℕ) (p : Cutting) (wanted : Caps) (caps : Description One) → wanted ≡ raw_template → true ≡ accepts wanted caps → IsOk (rest p)
    → IsOk (split_answer frames p (Ev (NewCaps caps)))
caps_ok frames p wanted caps made takes ok = rw (caps_answer frames p wanted caps made takes, ok_answered (rest p) ok) refl

pub caps_out : (frames : ℕ) (p : Cutting) (wanted : Caps) (caps : Description One) → wanted ≡ raw_template → true ≡ accepts wanted caps → IsOk (rest p)
    → answered (split_answer frames p (Ev (NewCaps caps))) ≡ answered (rest p) ++ Ev (NewCaps caps) ∷ []
caps_out frames p wanted caps made takes ok =
    ap answered (caps_answer frames p wanted caps made takes) ∙ go (rest p) ok
  where
    go : (r : Result (List Item) Fault) → IsOk r → answered (ahead r (Ok (Ev (NewCaps caps) ∷ []))) ≡ answered r ++ Ev (NewCaps caps) ∷ []
    go (Ok ys) ok = refl
    go (Err fault) ok = absurd (cc)

-- bytes that are less than a whole buffer
pub none_whole : (held bytes : List ℕ) (frames width w : ℕ) → length held + length bytes < frames * width → width ≡ w → length (held ++ bytes) / (frames * w) ≡ 0
none_whole held bytes frames width w less same =
    let l = length-append held bytes in
    let lower : length (held ++ bytes) < frames * width = omega (arith, l, less) in
    rw (← same) (div-eq_of_lt lower)

pub all_wait : (size : ℕ) (bytes : List ℕ) → bytes ≡ drop (0 * size) bytes
all_wait size bytes = ap (λ n. drop n bytes) none
  where
    none : 0 ≡ 0 * size
    none = omega arith

-- as far as what is seen
moved_of : (frames : ℕ) (split : Split) (calls : List Call) (put : List Item) → Regrouped frames split calls put
    → Moved (come split) (view (items (splitting frames calls).given)) (view (splitting frames calls).out)
moved_of frames split calls put p = record {
  as_far = p.as_far;
  kept = record { whole = p.bytes.whole; same_stream = p.bytes.same_stream; unknown = p.bytes.unknown };
}

keeps_by : (fed : Fed) (q : Cutting) (given out : View) → view (items fed.given) ≡ given → view fed.out ≡ out → Moved q given out
    → (cutting fed ≡ q) × KeepsBytes fed q.held
keeps_by fed q given out g o moved =
    let m : Moved q (view (items fed.given)) (view fed.out) = rw (g, o) moved in
    (m.as_far, record { whole = m.kept.whole; same_stream = m.kept.same_stream; unknown = m.kept.unknown })

-- a stream that is known has frames of some bytes
known_width : (info : Option Info) (s : Stream) → option_map stream_by info ≡ Some s → 0 < s.width
known_width None s e = absurd (cc)
known_width (Some info) s e = subst (λ t. 0 < width_or t) e (some_width info)
  where
    width_or : Option Stream → ℕ
    width_or None = 0
    width_or (Some t) = t.width

-- what is to be shown of an item that is taken
abbrev Took : ℕ → Split → Split → Item → List Item → List Call → List Item → Type 0
Took frames old new x ys calls put =
    Regrouped frames old calls put → (next_owed (splits frames) calls x ≡ Ok ys) × Regrouped frames new (calls ++ Feed x ∷ []) (put ++ ys)

took : (old new : Split) (x : Item) → is_flush_stop x ≡ false → old.ended ≡ false
    → IsOk (split_answer old.frames (come old) x) → come new ≡ cutting_behind old.frames (come old) x → new.frames ≡ old.frames → new.ended ≡ is_eos x
    → (calls : List Call) (put : List Item) → Took old.frames old new x (answered (split_answer old.frames (come old) x)) calls put
took old new x plain begun ok moved still ends calls put p =
    let frames = old.frames in
    let ys = answered (split_answer old.frames (come old) x) in
    let fed = splitting frames calls in
    let owes : split_answer old.frames (come old) x ≡ Ok ys = ok_answered (split_answer old.frames (come old) x) ok in
    let answer : splits frames fed x ≡ Ok ys = ap (λ q. split_answer frames q x) p.as_far ∙ owes in
    let same = fed_taken (splits frames) calls x ys (p.over ∙ begun) plain answer in
    let after : Fed = record { given = fed.given ++ Feed x ∷ []; out = fed.out ++ ys; over = is_eos x } in
    let step = went frames (come old) (view (items fed.given)) (view fed.out) x plain (known_width old.info) (moved_of frames old calls put p) ys owes in
    let keeps = keeps_by after (cutting_behind frames (come old) x) _ _ (ap view (items_push fed.given x) ∙ view_push (items fed.given) x) (view_append fed.out ys) step in (
      rw (p.over, begun) answer,
      record {
        owed = ap (λ zs. zs ++ ys) p.owed ∙ sym (ap (λ (s : Fed). s.out) same);
        over = ap (λ (s : Fed). s.over) same ∙ sym ends;
        eos = eos_taken calls x plain (p.eos ∙ begun) ∙ sym ends;
        same = still;
        as_far = ap cutting same ∙ keeps.0 ∙ sym moved;
        bytes = rw same (subst (λ (q : Cutting). KeepsBytes after q.held) (sym moved) keeps.1);
      },
    )

pub split_item : (old new : Split) (x : Item) → is_flush_stop x ≡ false → old.ended ≡ false
    → IsOk (split_answer old.frames (come old) x) → come new ≡ cutting_behind old.frames (come old) x → new.frames ≡ old.frames → new.ended ≡ is_eos x
    → (frames : ℕ) (calls : List Call) (put : List Item) → Took frames old new x (answered (split_answer old.frames (come old) x)) calls put
split_item old new x plain begun ok moved still ends frames calls put p =
    subst (λ n. Took n old new x (answered (split_answer old.frames (come old) x)) calls put) p.same (took old new x plain begun ok moved still ends calls put) p

pub split_behind : (split : Split) (x : Item) → is_flush_stop x ≡ false → split.ended ≡ true
    → (frames : ℕ) (calls : List Call) (put : List Item) → Regrouped frames split calls put
    → (next_owed (splits frames) calls x ≡ Ok []) × Regrouped frames split (calls ++ Feed x ∷ []) (put ++ [])
split_behind split x plain ended frames calls put p =
    let same = fed_behind (splits frames) calls x (p.over ∙ ended) plain in (
      rw (p.over, ended) refl,
      record {
        owed = append-nil put ∙ p.owed ∙ sym (ap (λ (s : Fed). s.out) same);
        over = ap (λ (s : Fed). s.over) same ∙ p.over;
        eos = eos_stays calls x plain (p.eos ∙ ended) ∙ sym ended;
        same = p.same;
        as_far = ap cutting same ∙ p.as_far;
        bytes = rw same p.bytes;
      },
    )

pub split_flush : (old new : Split) → new.ended ≡ false → new.frames ≡ old.frames → come new ≡ flushed_cutting (come old)
    → (frames : ℕ) (calls : List Call) (put : List Item) (number : ℕ) → Regrouped frames old calls put
    → Regrouped frames new (calls ++ Feed (Ev (FlushStop number)) ∷ []) (put ++ Ev (FlushStop number) ∷ [])
split_flush old new begun still anew frames calls put number p =
    let fed = splitting frames calls in
    let x = Ev (FlushStop number) in
    let same = fed_flush (splits frames) calls number in
    let after : Fed = record { given = fed.given ++ Feed x ∷ []; out = fed.out ++ x ∷ []; over = false } in
    let step = flush_moved (come old) (view (items fed.given)) (view fed.out) number (moved_of frames old calls put p) in
    let keeps = keeps_by after (flushed_cutting (come old)) _ _ (ap view (items_push fed.given x) ∙ view_push (items fed.given) x) (view_push fed.out x) step in
    record {
      owed = ap (λ zs. zs ++ Ev (FlushStop number) ∷ []) p.owed ∙ sym (ap (λ (s : Fed). s.out) same);
      over = ap (λ (s : Fed). s.over) same ∙ sym begun;
      eos = eos_flushed calls number ∙ sym begun;
      same = still ∙ p.same;
      as_far = ap cutting same ∙ keeps.0 ∙ sym anew;
      bytes = rw same (subst (λ (q : Cutting). KeepsBytes after q.held) (sym anew) keeps.1);
    }

-- what a drain is to keep
abbrev pub Drained : ℕ → Split → Split → List Item → List Call → List Item → Type 0
Drained frames old new ys calls put =
    Regrouped frames old calls put → (drain_owed (splits frames) calls ≡ Ok ys) × Regrouped frames new (calls ++ Act Drain ∷ []) (put ++ ys)

drained_now : (old new : Split) → old.ended ≡ false → IsOk (rest (come old)) → come new ≡ rested (come old) → new.frames ≡ old.frames → new.ended ≡ old.ended
    → (calls : List Call) (put : List Item) → Drained old.frames old new (answered (rest (come old))) calls put
drained_now old new begun ok moved still ends calls put p =
    let frames = old.frames in
    let ys = answered (rest (come old)) in
    let fed = splitting frames calls in
    let owes : rest (come old) ≡ Ok ys = ok_answered (rest (come old)) ok in
    let answer : splits frames fed (Ev Eos) ≡ Ok (ys ++ Ev Eos ∷ []) = ap (λ q. split_answer frames q (Ev Eos)) p.as_far ∙ ap (λ r. ahead r (Ok (Ev Eos ∷ []))) owes in
    let same = drained_begun (splits frames) calls (ys ++ Ev Eos ∷ []) (p.over ∙ begun) answer in
    let alone : filter not_eos (ys ++ Ev Eos ∷ []) ≡ ys = rest_alone (come old) ys owes in
    let after : Fed = record { given = fed.given ++ Act Drain ∷ []; out = fed.out ++ ys; over = fed.over } in
    let same' : splitting frames (calls ++ Act Drain ∷ []) ≡ after = same ∙ ap (λ zs. record { given = fed.given ++ Act Drain ∷ []; out = fed.out ++ zs; over = fed.over }) alone in
    let step = rest_moved (come old) (view (items fed.given)) (view fed.out) ys (moved_of frames old calls put p).as_far (moved_of frames old calls put p).kept owes in
    let keeps = keeps_by after (rested (come old)) _ _ (ap view (items_act fed.given Drain)) (view_append fed.out ys) step in (
      rw (p.over, begun) (ap without_eos answer ∙ ap Ok alone),
      record {
        owed = ap (λ zs. zs ++ ys) p.owed ∙ sym (ap (λ (s : Fed). s.out) same');
        over = ap (λ (s : Fed). s.over) same' ∙ p.over ∙ sym ends;
        eos = eos_act calls Drain ∙ p.eos ∙ sym ends;
        same = still;
        as_far = ap cutting same' ∙ keeps.0 ∙ sym moved;
        bytes = rw same' (subst (λ (q : Cutting). KeepsBytes after q.held) (sym moved) keeps.1);
      },
    )

pub split_drained : (old new : Split) → old.ended ≡ false → IsOk (rest (come old)) → come new ≡ rested (come old) → new.frames ≡ old.frames → new.ended ≡ old.ended
    → (frames : ℕ) (calls : List Call) (put : List Item) → Drained frames old new (answered (rest (come old))) calls put
split_drained old new begun ok moved still ends frames calls put p =
    subst (λ n. Drained n old new (answered (rest (come old))) calls put) p.same (drained_now old new begun ok moved still ends calls put) p

pub split_drained_behind : (split : Split) → split.ended ≡ true
    → (frames : ℕ) (calls : List Call) (put : List Item) → Drained frames split split [] calls put
split_drained_behind split ended frames calls put p =
    let same = drained_behind (splits frames) calls (p.over ∙ ended) in (
      rw (p.over, ended) refl,
      record {
        owed = append-nil put ∙ p.owed ∙ sym (ap (λ (s : Fed). s.out) same);
        over = ap (λ (s : Fed). s.over) same ∙ p.over;
        eos = eos_act calls Drain ∙ p.eos;
        same = p.same;
        as_far = ap cutting same ∙ p.as_far;
        bytes = rw same p.bytes;
      },
    )

-- three facts of a result that is handed on
pub on_three : {T E : Type 0} (r : Result T E) {A B C D : Type 0} → OnOk r A → OnOk r B → OnOk r C → (A → B → C → D) → OnOk r D
on_three (Ok x) a b c f = f a b c
on_three (Err e) a b c f = tt
