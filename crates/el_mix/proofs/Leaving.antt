-- A stream without CAPS, and channels that are caught up with.
use Rattle.std.proofs.Common.{◌≡◌, ◌≤◌, ℕ, Bool, true, false, if◌then◌else◌, List, [], ◌∷◌, ◌++◌, Option, Some, None, map, refl, sym, ap, ◌∙◌, subst, inl, inr, append-nil}
use Rattle.std.specs.Option.{option_map}
use Rattle.gst_value.specs.Description.{Description}
use Rattle.gst_value.specs.declared.one.One.{One}
use Rattle.gst_item.specs.declared.out.Out.{Out}
use Rattle.flow_model.specs.Item.{Item, Ev, Eos, is_eos}
use Rattle.flow_model.specs.Sticky.{has_flush_stop}
use Rattle.flow_model.specs.Feeding.{on_pad}
use Rattle.el_mix.specs.declared.channel.Channel.{Channel}
use Rattle.el_mix.specs.declared.position.Position.{Position}
use Rattle.el_mix.specs.Mono.{Mono, mono_of, time_of}
use Rattle.el_mix.specs.Mixed.{limit}
use Rattle.el_mix.specs.Mixes.{is_start, all_have}
use Rattle.el_mix.specs.Agreed.{or_else, pad_caps, lowest_caps}
use Rattle.el_mix.specs.Heard.{mono_by}
use Rattle.el_mix.specs.Taking.{settled, left, bare}
use Rattle.el_mix.specs.Putting.{all_started, all_ended, lowest_heard, start_item, ended_by}
use Rattle.el_mix.specs.Standing.{Counts, CountEach, AgreeEach, known, AnyBegun, BegunInOrder, WaitEach, opened, limit_in, time_in, Placed, Each, IsOpenAt, Behind, rest_started, rest_owed, Moves}
use Rattle.el_mix.specs.Pushing.{empty_items, Pushes}
use Rattle.el_mix.proofs.Together.{begun_of_started}
use Rattle.el_mix.proofs.Moving.{all_started_is, all_ended_is, start_is, heard_is, bare_settled, bare_of, heads}
use Rattle.gst_value.proofs.Basics.{none_some}

-- a stream without CAPS
empty_free : (cs : List Channel) → has_flush_stop (empty_items cs) ≡ false
empty_free cs = go (all_ended cs)
  where
    go : (b : Bool) → has_flush_stop (if b then start_item cs ∷ Ev Eos ∷ [] else []) ≡ false
    go true = refl
    go false = refl

empty_ends : (t : ℕ) (cs : List Channel) → ended_by t (empty_items cs) ≡ t
empty_ends t cs = go (all_ended cs)
  where
    go : (b : Bool) → ended_by t (if b then start_item cs ∷ Ev Eos ∷ [] else []) ≡ t
    go true = refl
    go false = refl

stays_placed : (old : Position) (cs : List Channel) (xss : List (List Item)) → Behind old cs xss → opened xss ≡ None → Placed old xss
stays_placed old cs xss b none = go (option_map mono_by old.open) refl
  where
    go : (m : Option Mono) → option_map mono_by old.open ≡ m → Placed old xss
    go None o =
        let at : (old.next ≡ 0) × (old.reached ≡ 0) = subst (λ (q : Option Mono). IsOpenAt q old xss) o b.open_at in
        record {
          open_is = o ∙ sym none;
          next_is = at.0 ∙ ap (λ m. limit_in m xss) (sym none);
          reached_is = at.1 ∙ ap (λ m. time_in m old.next) (sym none);
        }
    go (Some m) o =
        let at : (opened xss ≡ Some m) × (old.next ≤ limit m xss) × (old.reached ≡ time_of m old.next) = subst (λ (q : Option Mono). IsOpenAt q old xss) o b.open_at in
        absurd (none_some (sym none ∙ at.0))

map_none : (o : Option (Description One)) → option_map mono_of o ≡ None → o ≡ None
map_none None e = refl
map_none (Some c) e = absurd (cc)

pub pushes_empty : (old : Position) (cs : List Channel) (outs outs' : List Out) → lowest_heard cs ≡ None → outs' ≡ outs ++ on_pad 0 (empty_items cs) → Pushes old cs old cs outs outs'
pushes_empty old cs outs outs' h put = record {
  more = empty_items cs;
  outs_are = put;
  free = empty_free cs;
  owed = λ xss b s. owed xss b s (map_none (lowest_caps xss) (none xss b s));
  waits = λ xss b s. b.waits;
  placed = λ xss b s. stays_placed old cs xss b (ap (λ c. if c then option_map mono_of (lowest_caps xss) else None) s ∙ none xss b s);
  ends = λ xss b s. empty_ends old.reached cs;
}
  where
    none : (xss : List (List Item)) → Behind old cs xss → all_have is_start xss ≡ true → option_map mono_of (lowest_caps xss) ≡ None
    none xss b s = sym (heard_is None cs xss b.each.counts b.each.agrees (begun_of_started cs xss b.each.counts s)) ∙ h

    owed : (xss : List (List Item)) → Behind old cs xss → all_have is_start xss ≡ true → lowest_caps xss ≡ None → empty_items cs ≡ rest_owed old xss
    owed xss b s l =
        ap (λ c. if c then start_item cs ∷ Ev Eos ∷ [] else []) (all_ended_is cs xss b.each.counts)
        ∙ ap (λ x. if all_have is_eos xss then x ∷ Ev Eos ∷ [] else []) (start_is cs xss b.each.counts)
        ∙ ap (λ o. rest_started (option_map mono_by old.open) old.next o xss) (sym l)
        ∙ ap (λ c. if c then rest_started (option_map mono_by old.open) old.next (lowest_caps xss) xss else []) (sym s)

-- The channels without what waits.
counts_bare : (c : Channel) (xs : List Item) → Counts c xs → Counts (bare c) xs
counts_bare c xs k = record { caps = k.caps; started = k.started; ended = k.ended; first = k.first; got = k.got; fresh = k.fresh }

bare_counts : (c : Channel) (xs : List Item) → Counts (bare c) xs → Counts c xs
bare_counts c xs k = record { caps = k.caps; started = k.started; ended = k.ended; first = k.first; got = k.got; fresh = k.fresh }

counts_same : (cs ds : List Channel) (xss : List (List Item)) → map bare ds ≡ map bare cs → CountEach cs xss → CountEach ds xss
counts_same [] [] xss e k = k
counts_same [] (d ∷ ds) xss e k = absurd (cc)
counts_same (c ∷ cs) [] xss e k = absurd (cc)
counts_same (c ∷ cs) (d ∷ ds) [] e k = absurd k
counts_same (c ∷ cs) (d ∷ ds) (xs ∷ xss) e k =
    let parts = heads (bare d) (bare c) (map bare ds) (map bare cs) e in
    (bare_counts d xs (subst (λ z. Counts z xs) (sym parts.0) (counts_bare c xs k.0)), counts_same cs ds xss parts.1 k.1)

agrees_same : (low : Option (Description One)) (cs ds : List Channel) (xss : List (List Item)) → map bare ds ≡ map bare cs → AgreeEach low cs xss → AgreeEach low ds xss
agrees_same low [] [] xss e a = a
agrees_same low [] (d ∷ ds) xss e a = absurd (cc)
agrees_same low (c ∷ cs) [] xss e a = absurd (cc)
agrees_same low (c ∷ cs) (d ∷ ds) [] e a = absurd a
agrees_same low (c ∷ cs) (d ∷ ds) (xs ∷ xss) e a =
    let parts = heads (bare d) (bare c) (map bare ds) (map bare cs) e in
    (λ begun. a.0 (sym (ap (λ (z : Channel). z.progress.begun) parts.0) ∙ begun), agrees_same (or_else low (pad_caps xs)) cs ds xss parts.1 a.1)

any_same : (cs ds : List Channel) → map bare ds ≡ map bare cs → AnyBegun ds → AnyBegun cs
any_same [] [] e a = a
any_same [] (d ∷ ds) e a = absurd (cc)
any_same (c ∷ cs) [] e a = absurd a
any_same (c ∷ cs) (d ∷ ds) e (inl b) =
    let parts = heads (bare d) (bare c) (map bare ds) (map bare cs) e in inl (sym (ap (λ (z : Channel). z.progress.begun) parts.0) ∙ b)
any_same (c ∷ cs) (d ∷ ds) e (inr b) =
    let parts = heads (bare d) (bare c) (map bare ds) (map bare cs) e in inr (any_same cs ds parts.1 b)

order_same : (cs ds : List Channel) → map bare ds ≡ map bare cs → BegunInOrder cs → BegunInOrder ds
order_same [] [] e o = o
order_same [] (d ∷ ds) e o = absurd (cc)
order_same (c ∷ cs) [] e o = tt
order_same (c ∷ cs) (d ∷ ds) e o =
    let parts = heads (bare d) (bare c) (map bare ds) (map bare cs) e in
    (λ a. ap (λ (z : Channel). known z) parts.0 ∙ o.0 (any_same cs ds parts.1 a), order_same cs ds parts.1 o.1)

each_same : (cs ds : List Channel) (xss : List (List Item)) → map bare ds ≡ map bare cs → map settled ds ≡ ds → Each cs xss → Each ds xss
each_same cs ds xss e s h = record {
  counts = counts_same cs ds xss e h.counts;
  agrees = agrees_same None cs ds xss e h.agrees;
  order = order_same cs ds e h.order;
  settled_is = s;
}

-- the look ahead is caught up with
pub left_bare : (cs : List Channel) → map bare (map left cs) ≡ map bare cs
left_bare [] = refl
left_bare (c ∷ cs) = ap (λ zs. bare c ∷ zs) (left_bare cs)

pub left_settled : (cs : List Channel) → map settled (map left cs) ≡ map left cs
left_settled [] = refl
left_settled (c ∷ cs) = ap (λ zs. left c ∷ zs) (left_settled cs)

waits_left : (next : ℕ) (cs : List Channel) (xss : List (List Item)) → WaitEach next cs xss → WaitEach next (map left cs) xss
waits_left next [] [] w = tt
waits_left next [] (xs ∷ xss) w = absurd w
waits_left next (c ∷ cs) [] w = absurd w
waits_left next (c ∷ cs) (xs ∷ xss) w = (record { none = w.0.none; some = w.0.some; fits = w.0.fits; small = w.0.small }, waits_left next cs xss w.1)

pub moves_due : (old new : Position) (cs ds : List Channel) (out outs : List Out) → all_started cs ≡ true → map settled ds ≡ map settled cs → Pushes old cs new ds out outs
    → Moves old cs new (map left ds) out outs
moves_due old new cs ds out outs s still p = record {
  more = p.more;
  outs = p.outs_are;
  free = p.free;
  owed = λ xss b. p.owed xss b (all xss b);
  holds = λ xss b. record {
    each = each_same cs (map left ds) xss same (left_settled ds) b.each;
    waits = waits_left new.next ds xss (p.waits xss b (all xss b));
    placed = p.placed xss b (all xss b);
  };
  ends = λ xss b. p.ends xss b (all xss b);
  same = same;
}
  where
    all : (xss : List (List Item)) → Behind old cs xss → all_have is_start xss ≡ true
    all xss b = sym (all_started_is cs xss b.each.counts) ∙ s

    same : map bare (map left ds) ≡ map bare cs
    same = left_bare ds ∙ bare_of cs ds still

pub moves_none : (old : Position) (cs : List Channel) (out : List Out) → all_started cs ≡ false → Moves old cs old cs out out
moves_none old cs out s = record {
  more = [];
  outs = sym (append-nil out);
  free = refl;
  owed = λ xss b. sym (ap (λ c. if c then rest_started (option_map mono_by old.open) old.next (lowest_caps xss) xss else []) (none xss b));
  holds = λ xss b. record {
    each = b.each;
    waits = b.waits;
    placed = stays_placed old cs xss b (ap (λ c. if c then option_map mono_of (lowest_caps xss) else None) (none xss b));
  };
  ends = λ xss b. refl;
  same = refl;
}
  where
    none : (xss : List (List Item)) → Behind old cs xss → all_have is_start xss ≡ false
    none xss b = sym (all_started_is cs xss b.each.counts) ∙ s

-- The look ahead is caught up with, or begins anew.
pub moves_left : (old new : Position) (cs ds es : List Channel) (out before outs out' : List Out) → all_started cs ≡ true → map settled ds ≡ map settled cs → Pushes old cs new ds before outs
    → before ≡ out → es ≡ map left ds → out' ≡ outs → Moves old cs new es out out'
moves_left old new cs ds es out before outs out' s still p first last after =
    subst (λ zs. Moves old cs new es zs out') first
    (subst (λ zs. Moves old cs new es before zs) (sym after) (subst (λ fs. Moves old cs new fs before outs) (sym last) (moves_due old new cs ds before outs s still p)))

pub bare_left : (cs ds es : List Channel) → es ≡ map left ds → map settled ds ≡ map settled cs → map bare es ≡ map bare cs
bare_left cs ds es last still = ap (map bare) last ∙ left_bare ds ∙ bare_of cs ds still

pub bare_back : (cs ds es : List Channel) → es ≡ map settled ds → map settled ds ≡ map settled cs → map bare es ≡ map bare cs
bare_back cs ds es back still = ap (map bare) back ∙ bare_settled ds ∙ bare_of cs ds still

pub settled_left : (ds es : List Channel) → es ≡ map left ds → map settled es ≡ es
settled_left ds es last = ap (map settled) last ∙ left_settled ds ∙ sym last

pub settled_back : (ds es : List Channel) → es ≡ map settled ds → map settled es ≡ es
settled_back ds es back = ap (map settled) back ∙ twice ds ∙ sym back
  where
    twice : (fs : List Channel) → map settled (map settled fs) ≡ map settled fs
    twice [] = refl
    twice (f ∷ fs) = ap (λ zs. settled f ∷ zs) (twice fs)
