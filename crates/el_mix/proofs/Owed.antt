-- What is owed with one item more.
use Rattle.std.proofs.Common.{◌≡◌, ◌⊎◌, ◌<◌, ℕ, zero, suc, ◌-◌, Bool, true, false, if◌then◌else◌, List, [], ◌∷◌, ◌++◌, Option, Some, None, length, refl, sym, ap, ◌∙◌, subst, inl, inr, append-nil, append_assoc, arith}
use Rattle.std.specs.Option.{option_map}
use Rattle.std.proofs.lemmas.Option.{same_Some as some_is}
use Rattle.gst_value.specs.Description.{Description}
use Rattle.gst_value.specs.declared.one.One.{One}
use Rattle.flow_model.specs.Item.{Item, Ev, StreamStart, NewSegment, is_eos}
use Rattle.el_mix.specs.declared.channel.Channel.{Channel}
use Rattle.el_mix.specs.declared.position.Position.{Position}
use Rattle.el_mix.specs.Mono.{Mono, mono_of}
use Rattle.el_mix.specs.Mixed.{has, mixed, limit, limit_by}
use Rattle.el_mix.specs.Agreed.{lowest_caps}
use Rattle.el_mix.specs.Mixes.{is_start, all_have, stream_start, joined_caps, from_zero, eos_if, started, begun, interleaved}
use Rattle.el_mix.specs.Order.{InOrder}
use Rattle.el_mix.specs.Pieces.{AllGo}
use Rattle.el_mix.specs.Heard.{mono_by}
use Rattle.el_mix.specs.Standing.{Each, Placed, IsOpenAt, opened, limit_in, time_in, rest_started, rest_owed}
use Rattle.el_mix.proofs.Going.{buffers_go_on}
use Rattle.el_mix.proofs.Mixing.{limit_grows}
use Rattle.el_mix.proofs.Owing.{all_settled, least_id_settled, length_same, not_started, lowest_settled, in_order_waits}
use Rattle.el_mix.proofs.Refusing.{push_item, item_at, some_pads}
use Rattle.el_mix.proofs.Judged.{all_agree}
use Rattle.el_mix.proofs.Together.{push_goes, begun_of_started}

-- where all have started, all of it counts
pub whole_owed : (cs : List Channel) (xss : List (List Item)) → Each cs xss → 0 < length xss → all_have is_start xss ≡ true → interleaved xss ≡ started (lowest_caps xss) xss
whole_owed cs xss e some s =
    some_pads xss some ∙ ap begun (all_agree None cs xss e.agrees (begun_of_started cs xss e.counts s)) ∙ rw s refl

open_eos : (i : ℕ) (xss : List (List Item)) → i < length xss → has is_eos (item_at i xss) ≡ false → all_have is_eos xss ≡ false
open_eos i [] lt e = absurd (omega (arith, lt))
open_eos zero (xs ∷ xss) lt e = rw e refl
open_eos (suc i) (xs ∷ xss) lt e = go (has is_eos xs) (open_eos i xss (omega (arith, lt)) e)
  where
    go : (b : Bool) → all_have is_eos xss ≡ false → (if b then all_have is_eos xss else false) ≡ false
    go true r = r
    go false r = refl

-- before the stream opened nothing was owed
none_before : (cs : List Channel) (xss : List (List Item)) → Each cs xss → 0 < length xss → opened xss ≡ None → all_have is_eos xss ≡ false → interleaved xss ≡ []
none_before cs xss e some none unended = go (all_have is_start xss) refl (lowest_caps xss) refl
  where
    go : (b : Bool) → all_have is_start xss ≡ b → (o : Option (Description One)) → lowest_caps xss ≡ o → interleaved xss ≡ []
    go false s o l = not_started xss s
    go true s None l = whole_owed cs xss e some s ∙ ap (λ p. started p xss) l ∙ rw unended refl
    go true s (Some caps) l =
        let isnt : opened xss ≡ Some (mono_of caps) = rw (s, l) refl in
        absurd (there (sym isnt ∙ none))
      where
        there : Some (mono_of caps) ≡ None → ⊥
        there e = absurd (cc)

-- and what is owed then is owed more
first_owed : (at : Position) (cs : List Channel) (xss : List (List Item)) → Each cs xss → 0 < length xss → option_map mono_by at.open ≡ None → at.next ≡ 0
    → interleaved xss ≡ rest_owed at xss
first_owed at cs xss e some unended none = go (all_have is_start xss) refl
  where
    by : (o : Option (Description One)) → started o xss ≡ rest_started None 0 o xss
    by None = refl
    by (Some caps) =
        ap (λ n. stream_start xss ∷ joined_caps caps (length xss) ∷ Ev (NewSegment from_zero) ∷ (mixed (mono_of caps) xss 0 0 n ++ eos_if (all_have is_eos xss)))
        (whole_limit (limit (mono_of caps) xss))
      where
        whole_limit : (n : ℕ) → n ≡ n - 0
        whole_limit n = omega arith

    go : (b : Bool) → all_have is_start xss ≡ b → interleaved xss ≡ (if b then rest_started (option_map mono_by at.open) at.next (lowest_caps xss) xss else [])
    go false s = not_started xss s
    go true s =
        whole_owed cs xss e some s ∙ by (lowest_caps xss)
        ∙ ap (λ (m : Option Mono). rest_started m 0 (lowest_caps xss) xss) (sym unended) ∙ ap (λ n. rest_started (option_map mono_by at.open) n (lowest_caps xss) xss) (sym none)

-- Once the stream is unended it goes on.
pub record IsOpen (mono : Mono) (xss : List (List Item)) : Type 0 where
  pub caps : Description One
  pub all : all_have is_start xss ≡ true
  pub lowest : lowest_caps xss ≡ Some caps
  pub mono_is : mono_of caps ≡ mono

pub is_open : (mono : Mono) (xss : List (List Item)) → opened xss ≡ Some mono → IsOpen mono xss
is_open mono xss e = go (all_have is_start xss) refl (lowest_caps xss) refl e
  where
    go : (b : Bool) → all_have is_start xss ≡ b → (o : Option (Description One)) → lowest_caps xss ≡ o → (if b then option_map mono_of o else None) ≡ Some mono → IsOpen mono xss
    go false s o l e = absurd (cc)
    go true s None l e = absurd (cc)
    go true s (Some caps) l e = record { caps = caps; all = s; lowest = l; mono_is = some_is (mono_of caps) mono e }

pub lowest_open : {xss yss : List (List Item)} (caps : Description One) → AllGo xss yss → InOrder xss → all_have is_start xss ≡ true → lowest_caps xss ≡ Some caps → lowest_caps yss ≡ Some caps
lowest_open {xss} {yss} caps g o s l = go (lowest_settled g s (in_order_waits g o))
  where
    go : (lowest_caps xss ≡ lowest_caps yss) ⊎ ((lowest_caps xss ≡ None) × (all_have is_eos xss ≡ false)) → lowest_caps yss ≡ Some caps
    go (inl same) = sym same ∙ l
    go (inr none) = absurd (there (sym l ∙ none.0))
      where
        there : Some caps ≡ None → ⊥
        there e = absurd (cc)

pub opened_stays : {xss yss : List (List Item)} (mono : Mono) → AllGo xss yss → InOrder xss → opened xss ≡ Some mono → opened yss ≡ Some mono
opened_stays {xss} {yss} mono g o e =
    let is = is_open mono xss e in
    let lowest : lowest_caps yss ≡ Some is.caps = lowest_open is.caps g o is.all is.lowest in
    let all : all_have is_start yss ≡ true = all_settled is_start g is.all in
    rw (all, lowest) (ap (λ (m : Mono). Some m) is.mono_is)

open_owed : (cs ds : List Channel) (xss yss : List (List Item)) (mono : Mono) → Each cs xss → Each ds yss → 0 < length xss → 0 < length yss → AllGo xss yss → InOrder xss
    → opened xss ≡ Some mono → all_have is_eos xss ≡ false
    → interleaved yss ≡ interleaved xss ++ (mixed mono yss (limit mono xss) (limit mono xss) (limit mono yss - limit mono xss) ++ eos_if (all_have is_eos yss))
open_owed cs ds xss yss mono e f some many g o op ends =
    let is = is_open mono xss op in
    let lowest : lowest_caps yss ≡ Some is.caps = lowest_open is.caps g o is.all is.lowest in
    let all : all_have is_start yss ≡ true = all_settled is_start g is.all in
    whole_owed ds yss f many all ∙ ap (λ p. started p yss) lowest
    ∙ opening is.caps is.mono_is is.all
    ∙ ap (λ ys. ys ++ (mixed mono yss (limit mono xss) (limit mono xss) (limit mono yss - limit mono xss) ++ eos_if (all_have is_eos yss)))
    (sym (whole_owed cs xss e some is.all ∙ ap (λ p. started p xss) is.lowest))
  where
    shape : (a b c : Item) (m n l : List Item) → a ∷ b ∷ c ∷ ((m ++ n) ++ l) ≡ (a ∷ b ∷ c ∷ (m ++ [])) ++ (n ++ l)
    shape a b c m n l = ap (λ zs. a ∷ b ∷ c ∷ zs) (append_assoc m n l ∙ ap (λ zs. zs ++ (n ++ l)) (sym (append-nil m)))

    opening : (caps : Description One) → mono_of caps ≡ mono → all_have is_start xss ≡ true
        → started (Some caps) yss ≡ started (Some caps) xss ++ (mixed mono yss (limit mono xss) (limit mono xss) (limit mono yss - limit mono xss) ++ eos_if (all_have is_eos yss))
    opening caps same s =
        subst (λ (m : Mono). started (Some caps) yss ≡ started (Some caps) xss ++ (mixed m yss (limit m xss) (limit m xss) (limit m yss - limit m xss) ++ eos_if (all_have is_eos yss))) same
        (ap (λ n. Ev (StreamStart n) ∷ joined_caps caps (length yss) ∷ Ev (NewSegment from_zero) ∷ (mixed (mono_of caps) yss 0 0 (limit (mono_of caps) yss) ++ eos_if (all_have is_eos yss)))
        (ap (limit_by 0) (sym (least_id_settled g s)))
        ∙ ap (λ n. stream_start xss ∷ joined_caps caps n ∷ Ev (NewSegment from_zero) ∷ (mixed (mono_of caps) yss 0 0 (limit (mono_of caps) yss) ++ eos_if (all_have is_eos yss))) (sym (length_same g))
        ∙ ap (λ zs. stream_start xss ∷ joined_caps caps (length xss) ∷ Ev (NewSegment from_zero) ∷ (zs ++ eos_if (all_have is_eos yss))) (buffers_go_on (mono_of caps) xss yss g)
        ∙ shape (stream_start xss) (joined_caps caps (length xss)) (Ev (NewSegment from_zero)) (mixed (mono_of caps) xss 0 0 (limit (mono_of caps) xss))
        (mixed (mono_of caps) yss (limit (mono_of caps) xss) (limit (mono_of caps) xss) (limit (mono_of caps) yss - limit (mono_of caps) xss)) (eos_if (all_have is_eos yss))
        ∙ ap (λ b. (stream_start xss ∷ joined_caps caps (length xss) ∷ Ev (NewSegment from_zero) ∷ (mixed (mono_of caps) xss 0 0 (limit (mono_of caps) xss) ++ eos_if b))
        ++ (mixed (mono_of caps) yss (limit (mono_of caps) xss) (limit (mono_of caps) xss) (limit (mono_of caps) yss - limit (mono_of caps) xss) ++ eos_if (all_have is_eos yss))) (sym ends))

-- So with an item more what is owed is what was owed, and the rest.
pub more_owed : (at : Position) (cs ds : List Channel) (i : ℕ) (x : Item) (xss : List (List Item)) → Each cs xss → Each ds (push_item i x xss) → i < length xss
    → 0 < length (push_item i x xss) → InOrder xss → Placed at xss → has is_eos (item_at i xss) ≡ false → interleaved (push_item i x xss) ≡ interleaved xss ++ rest_owed at (push_item i x xss)
more_owed at cs ds i x xss e f lt many o p unended = go (opened xss) refl
  where
    go : (m : Option Mono) → opened xss ≡ m → interleaved (push_item i x xss) ≡ interleaved xss ++ rest_owed at (push_item i x xss)
    go None op =
        first_owed at ds (push_item i x xss) f many (p.open_is ∙ op) (p.next_is ∙ ap (λ m. limit_in m xss) op)
        ∙ ap (λ ys. ys ++ rest_owed at (push_item i x xss)) (sym (none_before cs xss e (omega (arith, lt)) op (open_eos i xss lt unended)))
    go (Some mono) op =
        let g = push_goes i x xss unended in
        let is = is_open mono xss op in
        let lowest : lowest_caps (push_item i x xss) ≡ Some is.caps = lowest_open is.caps g o is.all is.lowest in
        let all : all_have is_start (push_item i x xss) ≡ true = all_settled is_start g is.all in
        let there : option_map mono_by at.open ≡ Some mono = p.open_is ∙ op in
        let next : at.next ≡ limit mono xss = p.next_is ∙ ap (λ m. limit_in m xss) op in
        open_owed cs ds xss (push_item i x xss) mono e f (omega (arith, lt)) many g o op (open_eos i xss lt unended)
        ∙ ap (λ zs. interleaved xss ++ zs) (sym (rest mono is.caps is.mono_is next there all lowest))
      where
        rest : (mono : Mono) (caps : Description One) → mono_of caps ≡ mono → at.next ≡ limit mono xss → option_map mono_by at.open ≡ Some mono
            → all_have is_start (push_item i x xss) ≡ true → lowest_caps (push_item i x xss) ≡ Some caps
            → rest_owed at (push_item i x xss)
            ≡ mixed mono (push_item i x xss) (limit mono xss) (limit mono xss) (limit mono (push_item i x xss) - limit mono xss) ++ eos_if (all_have is_eos (push_item i x xss))
        rest mono caps same next there all lowest =
            ap (λ b. if b then rest_started (option_map mono_by at.open) at.next (lowest_caps (push_item i x xss)) (push_item i x xss) else []) all
            ∙ ap (λ q. rest_started (option_map mono_by at.open) at.next q (push_item i x xss)) lowest
            ∙ ap (λ (q : Option Mono). rest_started q at.next (Some caps) (push_item i x xss)) there
            ∙ ap (λ (m : Mono). mixed m (push_item i x xss) at.next at.next (limit m (push_item i x xss) - at.next) ++ eos_if (all_have is_eos (push_item i x xss))) same
            ∙ ap (λ n. mixed mono (push_item i x xss) n n (limit mono (push_item i x xss) - n) ++ eos_if (all_have is_eos (push_item i x xss))) next

-- where it stands then
pub open_behind : (at : Position) (i : ℕ) (x : Item) (xss : List (List Item)) → InOrder xss → Placed at xss → has is_eos (item_at i xss) ≡ false
    → IsOpenAt (option_map mono_by at.open) at (push_item i x xss)
open_behind at i x xss o p unended = go (opened xss) refl
  where
    go : (m : Option Mono) → opened xss ≡ m → IsOpenAt (option_map mono_by at.open) at (push_item i x xss)
    go None op =
        subst (λ (q : Option Mono). IsOpenAt q at (push_item i x xss)) (sym (p.open_is ∙ op))
        (p.next_is ∙ ap (λ m. limit_in m xss) op, p.reached_is ∙ ap (λ m. time_in m at.next) op)
    go (Some mono) op =
        let g = push_goes i x xss unended in
        let next : at.next ≡ limit mono xss = p.next_is ∙ ap (λ m. limit_in m xss) op in
        let more = limit_grows mono g in
        subst (λ (q : Option Mono). IsOpenAt q at (push_item i x xss)) (sym (p.open_is ∙ op))
        (opened_stays mono g o op, omega (arith, next, more), p.reached_is ∙ ap (λ m. time_in m at.next) op)
