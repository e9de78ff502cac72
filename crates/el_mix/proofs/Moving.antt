-- What is owed goes out, and the channels go on.
use Rattle.std.proofs.Common.{◌≡◌, ◌<◌, ◌≤◌, ℕ, suc, ◌-◌, ◌*◌, Bool, true, false, if◌then◌else◌, List, [], ◌∷◌, ◌++◌, Option, Some, None, length, drop, map, refl, sym, ap, ◌∙◌, subst, arith}
use Rattle.std.specs.Option.{option_map}
use Rattle.std.proofs.lemmas.List.{drop_all}
use Rattle.std.proofs.Math.Nat.{zero-div}
use Rattle.std.proofs.lemmas.Option.{same_Some as caps_is, same_Some as mono_is}
use Rattle.gst_time.specs.declared.time.TheConstants.{LIMIT}
use Rattle.gst_value.specs.Description.{Description}
use Rattle.gst_value.specs.declared.one.One.{One}
use Rattle.gst_item.specs.declared.out.Out.{Out}
use Rattle.audio_info.specs.declared.info.Info.{Info}
use Rattle.audio_info.specs.Media.{caps_of}
use Rattle.flow_model.specs.Item.{Item, Ev, StreamStart, NewCaps, NewSegment, is_eos}
use Rattle.flow_model.specs.Sticky.{has_flush_stop}
use Rattle.el_mix.specs.declared.channel.Channel.{Channel}
use Rattle.el_mix.specs.declared.position.Position.{Position}
use Rattle.el_mix.specs.Mono.{Mono, mono_of, width, time_of}
use Rattle.el_mix.specs.Mixed.{frames, mixed, limit, limit_by}
use Rattle.el_mix.specs.Mixes.{is_start, all_have, least_id, stream_start, joined_caps, from_zero, eos_if}
use Rattle.el_mix.specs.Agreed.{or_else, pad_caps, lowest_caps}
use Rattle.el_mix.specs.Heard.{mono_by}
use Rattle.el_mix.specs.Line.{all_some}
use Rattle.el_mix.specs.Taking.{hears, settled, bare, lines}
use Rattle.el_mix.specs.Lined.{joined, Lined, AllLined, AllFit, Ready}
use Rattle.el_mix.specs.Putting.{all_started, all_ended, heard_first, lowest_heard, least_first, start_item, opening_if, ended_by}
use Rattle.el_mix.specs.Standing.{CountEach, AgreeEach, WaitEach, opened, limit_in, time_in, Placed, IsOpenAt, Behind, opening_in, rest_started, rest_owed}
use Rattle.el_mix.specs.Pushing.{Streams, Pushes}
use Rattle.el_mix.proofs.Ends.{some_rest}
use Rattle.el_mix.proofs.Growing.{or_or, lined_empty}
use Rattle.el_mix.proofs.Judged.{AllBegun, agreeing}
use Rattle.el_mix.proofs.Hearing.{heard_accepted}
use Rattle.el_mix.proofs.Coming.{time_of_none}
use Rattle.el_mix.proofs.Together.{begun_of_started}
use Rattle.el_mix.proofs.Owed.{IsOpen, is_open}
use Rattle.el_mix.proofs.Streaming.{ended_append}
use Rattle.flow_model.proofs.Items.{free_append}

-- what the channels know, all together
pub all_started_is : (cs : List Channel) (xss : List (List Item)) → CountEach cs xss → all_started cs ≡ all_have is_start xss
all_started_is [] [] k = refl
all_started_is [] (xs ∷ xss) k = absurd k
all_started_is (c ∷ cs) [] k = absurd k
all_started_is (c ∷ cs) (xs ∷ xss) k = rw (k.0.started, all_started_is cs xss k.1) refl

pub all_ended_is : (cs : List Channel) (xss : List (List Item)) → CountEach cs xss → all_ended cs ≡ all_have is_eos xss
all_ended_is [] [] k = refl
all_ended_is [] (xs ∷ xss) k = absurd k
all_ended_is (c ∷ cs) [] k = absurd k
all_ended_is (c ∷ cs) (xs ∷ xss) k = rw (k.0.ended, all_ended_is cs xss k.1) refl

least_is : (cs : List Channel) (xss : List (List Item)) → CountEach cs xss → least_first cs ≡ least_id xss
least_is [] [] k = refl
least_is [] (xs ∷ xss) k = absurd k
least_is (c ∷ cs) [] k = absurd k
least_is (c ∷ cs) (xs ∷ xss) k = rw (k.0.first, least_is cs xss k.1) refl

pub length_is : (cs : List Channel) (xss : List (List Item)) → CountEach cs xss → length cs ≡ length xss
length_is [] [] k = refl
length_is [] (xs ∷ xss) k = absurd k
length_is (c ∷ cs) [] k = absurd k
length_is (c ∷ cs) (xs ∷ xss) k = ap suc (length_is cs xss k.1)

pub start_is : (cs : List Channel) (xss : List (List Item)) → CountEach cs xss → start_item cs ≡ stream_start xss
start_is cs xss k = ap (λ o. Ev (StreamStart (limit_by 0 o))) (least_is cs xss k)

-- what the lowest CAPS say
pub heard_is : (low : Option (Description One)) (cs : List Channel) (xss : List (List Item)) → CountEach cs xss → AgreeEach low cs xss → AllBegun cs
    → lowest_heard cs ≡ option_map mono_of (lowest_caps xss)
heard_is low [] [] k a b = refl
heard_is low [] (xs ∷ xss) k a b = absurd k
heard_is low (c ∷ cs) [] k a b = absurd k
heard_is low (c ∷ cs) (xs ∷ xss) k a b = go (hears c) refl (heard_is (or_else low (pad_caps xs)) cs xss k.1 a.1 b.1)
  where
    go : (o : Option (Description One)) → hears c ≡ o → lowest_heard cs ≡ option_map mono_of (lowest_caps xss)
        → heard_first (hears c) (lowest_heard cs) ≡ option_map mono_of (or_else (pad_caps xs) (lowest_caps xss))
    go None o r = ap (λ p. heard_first p (lowest_heard cs)) o ∙ r ∙ ap (λ p. option_map mono_of (or_else p (lowest_caps xss))) (sym o ∙ k.0.caps)
    go (Some caps) o r =
        ap (λ p. heard_first p (lowest_heard cs)) o ∙ heard_accepted caps ((agreeing low c xs k.0 (a.0 b.0)).heard caps o)
        ∙ ap (λ p. option_map mono_of (or_else p (lowest_caps xss))) (sym o ∙ k.0.caps)

-- the bodies that are ahead, by the frames of the lowest CAPS
pub or_first : (o p : Option (Description One)) (caps found : Description One) → o ≡ Some found → or_else o p ≡ Some caps → found ≡ caps
or_first o p caps found is e = caps_is found caps (ap (λ q. or_else q p) (sym is) ∙ e)

lined_each : (mono : Mono) (caps : Description One) (low : Option (Description One)) (next : ℕ) (cs : List Channel) (xss : List (List Item)) → mono_of caps ≡ mono
    → or_else low (lowest_caps xss) ≡ Some caps → CountEach cs xss → AgreeEach low cs xss → AllBegun cs → WaitEach next cs xss → AllLined mono next (lines cs) xss × AllFit mono xss
lined_each mono caps low next [] [] same l k a b w = (tt, tt)
lined_each mono caps low next [] (xs ∷ xss) same l k a b w = absurd k
lined_each mono caps low next (c ∷ cs) [] same l k a b w = absurd k
lined_each mono caps low next (c ∷ cs) (xs ∷ xss) same l k a b w =
    let l' : or_else (or_else low (pad_caps xs)) (lowest_caps xss) ≡ Some caps = sym (or_or low (pad_caps xs) (lowest_caps xss)) ∙ l in
    let rest = lined_each mono caps (or_else low (pad_caps xs)) next cs xss same l' k.1 a.1 b.1 w.1 in
    let here = go (hears c) refl l' in
    (((sym k.0.ended, here.0), rest.0), ((here.1, w.0.small), rest.1))
  where
    go : (o : Option (Description One)) → hears c ≡ o → or_else (or_else low (pad_caps xs)) (lowest_caps xss) ≡ Some caps
        → Lined mono next c.waiting.ahead xs × (time_of mono (frames mono xs) < LIMIT)
    go None o l =
        let none = w.0.none o in
        (subst (λ bs. Lined mono next bs xs) (sym none.1) (lined_empty mono next xs none.0), time_of_none mono xs none.0)
    go (Some own) o l =
        let agree = (agreeing low c xs k.0 (a.0 b.0)).same own o in
        let is : mono_of own ≡ mono = ap mono_of (or_first (or_else low (pad_caps xs)) (lowest_caps xss) caps own agree l) ∙ same in
        (subst (λ (m : Mono). Lined m next c.waiting.ahead xs) is (w.0.some own o), subst (λ (m : Mono). time_of m (frames m xs) < LIMIT) is (w.0.fits own o))

-- and back, where the same channels have looked ahead
pub bare_settled : (cs : List Channel) → map bare (map settled cs) ≡ map bare cs
bare_settled [] = refl
bare_settled (c ∷ cs) = ap (λ zs. bare c ∷ zs) (bare_settled cs)

pub bare_of : (cs ds : List Channel) → map settled ds ≡ map settled cs → map bare ds ≡ map bare cs
bare_of cs ds e = sym (bare_settled ds) ∙ ap (map bare) e ∙ bare_settled cs

none_joined : (bs : List (List ℕ)) → all_some bs ≡ true → joined bs ≡ [] → bs ≡ []
none_joined [] a e = refl
none_joined (b ∷ bs) a e = go b (some_rest b bs a).0 e
  where
    go : (b : List ℕ) → 0 < length b → b ++ joined bs ≡ [] → b ∷ bs ≡ []
    go [] h e = absurd (omega (arith, h))
    go (x ∷ b) h e = absurd (cc)

pub heads : (a b : Channel) (ps qs : List Channel) → a ∷ ps ≡ b ∷ qs → (a ≡ b) × (ps ≡ qs)
heads a b ps qs e = (cc, cc)

waits_back : (mono : Mono) (caps : Description One) (low : Option (Description One)) (next after : ℕ) (cs ds : List Channel) (xss : List (List Item)) → mono_of caps ≡ mono
    → or_else low (lowest_caps xss) ≡ Some caps → CountEach cs xss → AgreeEach low cs xss → AllBegun cs → WaitEach next cs xss → map bare ds ≡ map bare cs
    → AllLined mono after (lines ds) xss → WaitEach after ds xss
waits_back mono caps low next after [] [] [] same l k a b w e r = tt
waits_back mono caps low next after [] [] (xs ∷ xss) same l k a b w e r = absurd k
waits_back mono caps low next after [] (d ∷ ds) xss same l k a b w e r = absurd (cc)
waits_back mono caps low next after (c ∷ cs) [] xss same l k a b w e r = absurd (cc)
waits_back mono caps low next after (c ∷ cs) (d ∷ ds) [] same l k a b w e r = absurd k
waits_back mono caps low next after (c ∷ cs) (d ∷ ds) (xs ∷ xss) same l k a b w e r = (
  record {
    none = λ o. ((w.0.none (here o)).0, none_joined d.waiting.ahead r.0.1.some (sym r.0.1.bytes ∙ ap (drop (after * width mono)) (w.0.none (here o)).0 ∙ drop_all (after * width mono) [] (omega arith)));
    some = λ own o. subst (λ (m : Mono). Lined m after d.waiting.ahead xs) (sym (is own (here o))) r.0.1;
    fits = λ own o. w.0.fits own (here o);
    small = w.0.small;
  },
  waits_back mono caps (or_else low (pad_caps xs)) next after cs ds xss same l' k.1 a.1 b.1 w.1 parts.1 r.1,
)
  where
    parts : (bare d ≡ bare c) × (map bare ds ≡ map bare cs)
    parts = heads (bare d) (bare c) (map bare ds) (map bare cs) e

    l' : or_else (or_else low (pad_caps xs)) (lowest_caps xss) ≡ Some caps
    l' = sym (or_or low (pad_caps xs) (lowest_caps xss)) ∙ l

    here : {o : Option (Description One)} → hears d ≡ o → hears c ≡ o
    here o = sym (ap hears parts.0) ∙ o

    is : (own : Description One) → hears c ≡ Some own → mono_of own ≡ mono
    is own o = ap mono_of (or_first (or_else low (pad_caps xs)) (lowest_caps xss) caps own ((agreeing low c xs k.0 (a.0 b.0)).same own o) l') ∙ same

-- what stands before the buffers, and behind them
opening_free : (o : Option Info) (mono : Mono) (cs : List Channel) → has_flush_stop (opening_if o mono cs) ≡ false
opening_free None mono cs = refl
opening_free (Some i) mono cs = refl

eos_free : (b : Bool) → has_flush_stop (eos_if b) ≡ false
eos_free true = refl
eos_free false = refl

opening_ends : (t : ℕ) (o : Option Info) (mono : Mono) (cs : List Channel) (ys : List Item) → ended_by t (opening_if o mono cs ++ ys) ≡ ended_by t ys
opening_ends t None mono cs ys = refl
opening_ends t (Some i) mono cs ys = refl

eos_ends : (t : ℕ) (b : Bool) → ended_by t (eos_if b) ≡ t
eos_ends t true = refl
eos_ends t false = refl

opening_is : (o : Option Info) (mono : Mono) (caps : Description One) (cs : List Channel) (xss : List (List Item)) → mono_of caps ≡ mono → CountEach cs xss
    → opening_if o mono cs ≡ opening_in (option_map mono_by o) caps xss
opening_is None mono caps cs xss same k =
    ap (λ x. x ∷ Ev (NewCaps (caps_of mono.format mono.rate (length cs))) ∷ Ev (NewSegment from_zero) ∷ []) (start_is cs xss k)
    ∙ ap (λ (m : Mono). stream_start xss ∷ Ev (NewCaps (caps_of m.format m.rate (length cs))) ∷ Ev (NewSegment from_zero) ∷ []) (sym same)
    ∙ ap (λ n. stream_start xss ∷ joined_caps caps n ∷ Ev (NewSegment from_zero) ∷ []) (length_is cs xss k)
opening_is (Some i) mono caps cs xss same k = refl

-- Behind an item the bodies are ready.
module _ (mono : Mono) (old : Position) (cs : List Channel) (heard_mono : lowest_heard cs ≡ Some mono) (xss : List (List Item)) (b : Behind old cs xss)
    (s : all_have is_start xss ≡ true) where
  all_begun : AllBegun cs
  all_begun = begun_of_started cs xss b.each.counts s

  found : IsOpen mono xss
  found = is_open mono xss (ap (λ c. if c then option_map mono_of (lowest_caps xss) else None) s ∙ sym (heard_is None cs xss b.each.counts b.each.agrees all_begun) ∙ heard_mono)

  opened_is : opened xss ≡ Some mono
  opened_is = ap (λ c. if c then option_map mono_of (lowest_caps xss) else None) s ∙ sym (heard_is None cs xss b.each.counts b.each.agrees all_begun) ∙ heard_mono

  place : (m : Option Mono) → option_map mono_by old.open ≡ m → (old.next ≤ limit mono xss) × ((old.reached ≡ time_of mono old.next) × (or_else (option_map mono_by old.open) (Some mono) ≡ Some mono))
  place None o =
      let at : (old.next ≡ 0) × (old.reached ≡ 0) = subst (λ (q : Option Mono). IsOpenAt q old xss) o b.open_at in
      let none = at.0 in
      let start : time_of mono 0 ≡ 0 = zero-div mono.rate in
      (omega (arith, none), (at.1 ∙ sym start ∙ ap (time_of mono) (sym none), ap (λ (q : Option Mono). or_else q (Some mono)) o))
  place (Some m) o =
      let at : (opened xss ≡ Some m) × (old.next ≤ limit m xss) × (old.reached ≡ time_of m old.next) = subst (λ (q : Option Mono). IsOpenAt q old xss) o b.open_at in
      let same : m ≡ mono = mono_is m mono (sym at.0 ∙ opened_is) in
      (subst (λ (z : Mono). old.next ≤ limit z xss) same at.1, (subst (λ (z : Mono). old.reached ≡ time_of z old.next) same at.2, ap (λ (q : Option Mono). or_else q (Some mono)) o ∙ ap (λ (z : Mono). Some z) same))

  pub ready_first : Ready mono old.next old.reached (lines cs) xss
  ready_first =
      let both = lined_each mono found.caps None old.next cs xss found.mono_is found.lowest b.each.counts b.each.agrees all_begun b.waits in
      let at = place (option_map mono_by old.open) refl in
      record { lined = both.0; within = at.0; fits = both.1; time = at.1.0 }

  module _ (new : Position) (ds : List Channel) (outs outs' : List Out) (t : Streams mono old cs new ds outs outs') (still : map settled ds ≡ map settled cs) where
    pub stream_owed : opening_if old.open mono cs ++ (t.pieces ++ eos_if (all_ended cs)) ≡ rest_owed old xss
    stream_owed =
        ap (λ zs. zs ++ (t.pieces ++ eos_if (all_ended cs))) (opening_is old.open mono found.caps cs xss found.mono_is b.each.counts)
        ∙ ap (λ e. opening_in (option_map mono_by old.open) found.caps xss ++ (t.pieces ++ eos_if e)) (all_ended_is cs xss b.each.counts)
        ∙ ap (λ zs. opening_in (option_map mono_by old.open) found.caps xss ++ (zs ++ eos_if (all_have is_eos xss))) (t.owed xss ready_first)
        ∙ ap (λ (m : Mono). opening_in (option_map mono_by old.open) found.caps xss ++ (mixed m xss old.next old.next (limit m xss - old.next) ++ eos_if (all_have is_eos xss))) (sym found.mono_is)
        ∙ ap (λ o. rest_started (option_map mono_by old.open) old.next o xss) (sym found.lowest)
        ∙ ap (λ c. if c then rest_started (option_map mono_by old.open) old.next (lowest_caps xss) xss else []) (sym s)

    pub stream_waits : WaitEach new.next ds xss
    stream_waits =
        waits_back mono found.caps None old.next new.next cs ds xss found.mono_is found.lowest b.each.counts b.each.agrees all_begun b.waits (bare_of cs ds still) (t.ready xss ready_first).lined

    pub stream_placed : Placed new xss
    stream_placed = record {
      open_is = t.open_is ∙ (place (option_map mono_by old.open) refl).1.1 ∙ sym opened_is;
      next_is = t.all xss ready_first ∙ ap (λ m. limit_in m xss) (sym opened_is);
      reached_is = (t.ready xss ready_first).time ∙ ap (λ m. time_in m new.next) (sym opened_is);
    }

    pub stream_ends : ended_by old.reached (opening_if old.open mono cs ++ (t.pieces ++ eos_if (all_ended cs))) ≡ new.reached
    stream_ends =
        opening_ends old.reached old.open mono cs (t.pieces ++ eos_if (all_ended cs)) ∙ ended_append old.reached t.pieces (eos_if (all_ended cs))
        ∙ eos_ends (ended_by old.reached t.pieces) (all_ended cs) ∙ t.ends xss ready_first

pub pushes_stream : (mono : Mono) (old new : Position) (cs ds : List Channel) (outs outs' : List Out) → lowest_heard cs ≡ Some mono → map settled ds ≡ map settled cs
    → Streams mono old cs new ds outs outs' → Pushes old cs new ds outs outs'
pushes_stream mono old new cs ds outs outs' h still t = record {
  more = opening_if old.open mono cs ++ (t.pieces ++ eos_if (all_ended cs));
  outs_are = t.outs_are;
  free = free_append (opening_if old.open mono cs) (t.pieces ++ eos_if (all_ended cs)) (opening_free old.open mono cs) (free_append t.pieces (eos_if (all_ended cs)) t.free (eos_free (all_ended cs)));
  owed = λ xss b s. stream_owed mono old cs h xss b s new ds outs outs' t still;
  waits = λ xss b s. stream_waits mono old cs h xss b s new ds outs outs' t still;
  placed = λ xss b s. stream_placed mono old cs h xss b s new ds outs outs' t still;
  ends = λ xss b s. stream_ends mono old cs h xss b s new ds outs outs' t still;
}
