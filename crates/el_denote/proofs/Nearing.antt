-- What the pads of an interleave were given in truth, with items, with an EOS that a list has not, and behind a flush.
use Rattle.std.proofs.Common.{◌≡◌, ◌<◌, ℕ, zero, suc, Bool, true, false, if◌then◌else◌, List, [], ◌∷◌, ◌++◌, length, replicate, None, Some, refl, sym, ap, ◌∙◌, subst, append-nil, arith}
use Rattle.gst_item.proofs.Kept.{latest_push}
use Rattle.flow_model.specs.Item.{Item, Ev, FlushStop, Eos, is_stream_start, is_caps, is_tag, is_segment, is_flush_stop, is_eos}
use Rattle.flow_model.specs.Sticky.{latest}
use Rattle.flow_model.specs.Section.{section, counted, flush_stops}
use Rattle.flow_model.specs.Looking.{bytes_of}
use Rattle.flow_model.specs.Call.{Call, Feed, items}
use Rattle.flow_model.specs.Feeding.{has_eos}
use Rattle.flow_model.specs.SinkPads.{push_calls, push_each, calls_at, flush_stops_given, InSection}
use Rattle.flow_model.proofs.Calls.{items_push, eos_taken, eos_stays, eos_flushed}
use Rattle.flow_model.proofs.Counted.{counted_taken, counted_behind, counted_flush}
use Rattle.el_mix.specs.declared.channel.Channel.{Channel}
use Rattle.el_mix.specs.Mixed.{has}
use Rattle.el_mix.specs.Mixes.{is_start}
use Rattle.el_mix.specs.Agreed.{is_there}
use Rattle.el_mix.specs.Reopened.{reopened, reopenings}
use Rattle.el_mix.specs.Taking.{hears}
use Rattle.el_mix.specs.Standing.{Waits, WaitEach, known, lower_known}
use Rattle.el_mix.specs.Relation.{Knows, KnowEach}
use Rattle.el_mix.proofs.Growing.{has_push}
use Rattle.el_mix.proofs.Opening.{pad_goes_on, still_in, next_in, section_next}
use Rattle.el_mix.proofs.Ordering.{fresh}
use Rattle.el_denote.specs.Near.{Mark, Near, NearEach, done, later, marked}
use Rattle.el_mix.proofs.Fresh.{flushed_list}
use Rattle.el_mix.proofs.Judged.{no_there as not_there}
use Rattle.flow_model.proofs.Items.{stops_of}
use Rattle.flow_model.specs.Inherited.{inherited}

-- one item more
kept : (p : Item → Bool) (t g : List Call) (x : Item) (b : Bool) → has_eos t ≡ b → has_eos g ≡ b → is_flush_stop x ≡ false
    → latest p (counted (items t)) ≡ latest p (counted (items g)) → latest p (counted (items (t ++ Feed x ∷ []))) ≡ latest p (counted (items (g ++ Feed x ∷ [])))
kept p t g x true et eg plain e =
    ap (latest p) (counted_behind t x et plain ∙ append-nil (counted (items t))) ∙ e ∙ sym (ap (latest p) (counted_behind g x eg plain ∙ append-nil (counted (items g))))
kept p t g x false et eg plain e =
    ap (latest p) (counted_taken t x et) ∙ latest_push p (counted (items t)) x ∙ ap (λ ys. if p x then x ∷ [] else ys) e
    ∙ sym (latest_push p (counted (items g)) x) ∙ sym (ap (latest p) (counted_taken g x eg))

reopened_with : (j : ℕ) (c : List Call) (x : Item) → flush_stops_given c ≡ j → is_flush_stop x ≡ false → (b : Bool) → has_eos c ≡ b
    → reopened j (items (c ++ Feed x ∷ [])) ≡ reopened j (items c) ++ (if b then [] else x ∷ [])
reopened_with j c x is plain true e =
    subst (λ n. reopened n (items (c ++ Feed x ∷ [])) ≡ reopened n (items c)) is (pad_goes_on.behind c x plain e) ∙ sym (append-nil (reopened j (items c)))
reopened_with j c x is plain false e = subst (λ n. reopened n (items (c ++ Feed x ∷ [])) ≡ reopened n (items c) ++ x ∷ []) is (pad_goes_on.taken c x plain e)

stays_in : (j : ℕ) (c : List Call) (x : Item) → is_flush_stop x ≡ false → flush_stops_given c ≡ j → flush_stops_given (c ++ Feed x ∷ []) ≡ j
stays_in j c x plain is = (still_in j 0 (c ∷ []) x plain (is, tt)).0

eos_with : (c : List Call) (x : Item) → is_flush_stop x ≡ false → (b : Bool) → has_eos c ≡ b → has_eos (c ++ Feed x ∷ []) ≡ (if b then true else is_eos x)
eos_with c x plain true e = eos_stays c x plain e
eos_with c x plain false e = eos_taken c x plain e

pub near_same : (j : ℕ) (took given : List Call) → Near j None took given → reopened j (items took) ≡ reopened j (items given)
near_same j took given n = n.list ∙ append-nil (reopened j (items given))

pub near_push : (j : ℕ) (took given : List Call) (x : Item) → is_flush_stop x ≡ false → Near j None took given → Near j None (took ++ Feed x ∷ []) (given ++ Feed x ∷ [])
near_push j took given x plain n = go (has_eos given) refl
  where
    go : (b : Bool) → has_eos given ≡ b → Near j None (took ++ Feed x ∷ []) (given ++ Feed x ∷ [])
    go b e =
        let t : has_eos took ≡ b = n.eos ∙ e in
        record {
          took_in = stays_in j took x plain n.took_in;
          given_in = stays_in j given x plain n.given_in;
          eos = eos_with took x plain b t ∙ sym (eos_with given x plain b e);
          none = λ h. absurd (cc);
          list = reopened_with j took x n.took_in plain b t ∙ ap (λ zs. zs ++ (if b then [] else x ∷ [])) (near_same j took given n)
              ∙ sym (reopened_with j given x n.given_in plain b e) ∙ sym (append-nil (reopened j (items (given ++ Feed x ∷ []))));
          bare = λ h. absurd (cc);
          starts = λ c h. absurd (cc);
          stream_start = kept is_stream_start took given x b t e plain n.stream_start;
          caps = kept is_caps took given x b t e plain n.caps;
          tag = kept is_tag took given x b t e plain n.tag;
        }

-- an EOS that the list has not
pub near_close : (j : ℕ) (took given : List Call) (begun : Bool) → has_eos given ≡ false → bytes_of (reopened j (items given)) ≡ []
    → has is_start (reopened j (items given)) ≡ begun → Near j None took given → Near j (Some begun) (took ++ Feed (Ev Eos) ∷ []) given
near_close j took given begun unended bare starts n =
    let x : Item = Ev Eos in
    let t : has_eos took ≡ false = n.eos ∙ unended in
    record {
      took_in = stays_in j took x refl n.took_in;
      given_in = n.given_in;
      eos = eos_with took x refl false t;
      none = λ h. unended;
      list = reopened_with j took x n.took_in refl false t ∙ ap (λ zs. zs ++ x ∷ []) (near_same j took given n);
      bare = λ h. bare;
      starts = λ b h. starts ∙ some_is begun b h;
      stream_start = ap (latest is_stream_start) (counted_taken took x t) ∙ latest_push is_stream_start (counted (items took)) x ∙ n.stream_start;
      caps = ap (latest is_caps) (counted_taken took x t) ∙ latest_push is_caps (counted (items took)) x ∙ n.caps;
      tag = ap (latest is_tag) (counted_taken took x t) ∙ latest_push is_tag (counted (items took)) x ∙ n.tag;
    }
  where
    some_is : (a b : Bool) → Some a ≡ Some b → a ≡ b
    some_is a b e = cc

next_empty : (n k : ℕ) (calls : List Call) → flush_stops_given calls ≡ n → section (suc n) (items (calls ++ Feed (Ev (FlushStop k)) ∷ [])) ≡ []
next_empty n k calls is = ap (section (suc n)) (items_push calls (Ev (FlushStop k))) ∙ section_next (suc n) (items calls) k (less (sym (stops_of calls) ∙ is))
  where
    less : flush_stops (items calls) ≡ n → flush_stops (items calls) < suc n
    less e = omega (arith, e)

kept_flushed : (p : Item → Bool) (t g : List Call) (k : ℕ) → latest p (counted (items t)) ≡ latest p (counted (items g))
    → latest p (counted (items (t ++ Feed (Ev (FlushStop k)) ∷ []))) ≡ latest p (counted (items (g ++ Feed (Ev (FlushStop k)) ∷ [])))
kept_flushed p t g k e =
    let x : Item = Ev (FlushStop k) in
    ap (latest p) (counted_flush t k) ∙ latest_push p (counted (items t)) x ∙ ap (λ ys. if p x then x ∷ [] else ys) e
    ∙ sym (latest_push p (counted (items g)) x) ∙ sym (ap (latest p) (counted_flush g k))

inherit_same : (h i : List Item) → latest is_stream_start h ≡ latest is_stream_start i → latest is_caps h ≡ latest is_caps i → latest is_tag h ≡ latest is_tag i
    → inherited h ≡ inherited i
inherit_same h i a b c = rw (a, b, c) refl

pub near_flush : (j k : ℕ) (mark : Mark) (took given : List Call) → Near j mark took given
    → Near (suc j) None (took ++ Feed (Ev (FlushStop k)) ∷ []) (given ++ Feed (Ev (FlushStop k)) ∷ [])
near_flush j k mark took given n =
    let t : List Call = took ++ Feed (Ev (FlushStop k)) ∷ [] in
    let g : List Call = given ++ Feed (Ev (FlushStop k)) ∷ [] in
    let a = kept_flushed is_stream_start took given k n.stream_start in
    let b = kept_flushed is_caps took given k n.caps in
    let c = kept_flushed is_tag took given k n.tag in
    record {
      took_in = (next_in j k (took ∷ []) (n.took_in, tt)).0;
      given_in = (next_in j k (given ∷ []) (n.given_in, tt)).0;
      eos = eos_flushed took k ∙ sym (eos_flushed given k);
      none = λ h. absurd (cc);
      list = flushed_list j k took n.took_in ∙ inherit_same (counted (items t)) (counted (items g)) a b c ∙ sym (flushed_list j k given n.given_in)
          ∙ sym (append-nil (reopened (suc j) (items g)));
      bare = λ h. absurd (cc);
      starts = λ d h. absurd (cc);
      stream_start = a;
      caps = b;
      tag = c;
    }

plain_start : (a b : Bool) → (if a then true else (if b then true else false)) ≡ (if a then true else b)
plain_start true b = refl
plain_start false true = refl
plain_start false false = refl

-- all pads
pub each_push : (j : ℕ) (x : Item) → is_flush_stop x ≡ false → {marks : List Mark} {begun : Bool} {tooks givens : List (List Call)} → NearEach j marks begun tooks givens
    → NearEach j marks (if begun then true else is_segment x) (push_calls (length marks) (Feed x ∷ []) tooks) (push_calls (length marks) (Feed x ∷ []) givens)
each_push j x plain done = done
each_push j x plain (later {begun = begun} {took = took} {given = given} n s rest) = later (near_push j took given x plain n) (λ e. go (has_eos given) refl e) rest
  where
    go : (b : Bool) → has_eos given ≡ b → has_eos (given ++ Feed x ∷ []) ≡ false → has is_start (reopened j (items (given ++ Feed x ∷ []))) ≡ (if begun then true else is_segment x)
    go true e o = absurd (cc (eos_with given x plain true e, o))
    go false e o =
        let no : is_eos x ≡ false = sym (eos_with given x plain false e) ∙ o in
        ap (has is_start) (reopened_with j given x n.given_in plain false e) ∙ has_push is_start (reopened j (items given)) x
        ∙ ap (λ (b : Bool). if b then true else is_start x) (s e) ∙ ap (λ (b : Bool). if begun then true else (if is_segment x then true else b)) no ∙ plain_start begun (is_segment x)
each_push j x plain (marked n rest) = marked n (each_push j x plain rest)

pub each_known : (j : ℕ) {marks : List Mark} {begun : Bool} {tooks givens : List (List Call)} → length marks < length tooks → NearEach j marks begun tooks givens
    → NearEach j (marks ++ None ∷ []) false tooks givens
each_known j within done = absurd (omega (arith, within))
each_known j within (later n s rest) = marked n rest
each_known j within (marked n rest) = marked n (each_known j (omega (arith, within)) rest)

pub each_close : (j : ℕ) {marks : List Mark} {begun : Bool} {tooks givens : List (List Call)} → length marks < length tooks
    → has_eos (calls_at (length marks) tooks) ≡ false → bytes_of (reopened j (items (calls_at (length marks) tooks))) ≡ [] → NearEach j marks begun tooks givens
    → NearEach j (marks ++ Some begun ∷ []) false (push_calls (length marks) (Feed (Ev Eos) ∷ []) tooks) givens
each_close j within unended bare done = absurd (omega (arith, within))
each_close j within unended bare (later {begun = begun} {took = took} {given = given} n s rest) =
    let o : has_eos given ≡ false = sym n.eos ∙ unended in
    marked (near_close j took given begun o (ap bytes_of (sym (near_same j took given n)) ∙ bare) (s o) n) rest
each_close j within unended bare (marked n rest) = marked n (each_close j (omega (arith, within)) unended bare rest)

pub each_flush : (j k : ℕ) {marks : List Mark} {begun : Bool} {tooks givens : List (List Call)} → NearEach j marks begun tooks givens
    → NearEach (suc j) [] false (push_each (Feed (Ev (FlushStop k)) ∷ []) tooks) (push_each (Feed (Ev (FlushStop k)) ∷ []) givens)
each_flush j k done = done
each_flush j k (later {took = took} {given = given} n s rest) =
    later (near_flush j k None took given n) (λ e. fresh (suc j) (items (given ++ Feed (Ev (FlushStop k)) ∷ [])) (next_empty j k given n.given_in)) (each_flush j k rest)
each_flush j k (marked {mark = mark} {took = took} {given = given} n rest) =
    later (near_flush j k mark took given n) (λ e. fresh (suc j) (items (given ++ Feed (Ev (FlushStop k)) ∷ [])) (next_empty j k given n.given_in)) (each_flush j k rest)

pub each_in : (j : ℕ) {marks : List Mark} {begun : Bool} {tooks givens : List (List Call)} → NearEach j marks begun tooks givens → InSection j tooks × InSection j givens
each_in j done = (tt, tt)
each_in j (later n s rest) = ((n.took_in, (each_in j rest).0), (n.given_in, (each_in j rest).1))
each_in j (marked n rest) = ((n.took_in, (each_in j rest).0), (n.given_in, (each_in j rest).1))

-- at first
pub each_new : (n : ℕ) → NearEach 0 [] false (replicate n []) (replicate n [])
each_new zero = done
each_new (suc n) = later nothing_near (λ e. refl) (each_new n)
  where
    nothing_near : Near 0 None [] []
    nothing_near = record { took_in = refl; given_in = refl; eos = refl; none = λ h. absurd (cc); list = refl; bare = λ h. absurd (cc); starts = λ b h. absurd (cc); stream_start = refl; caps = refl; tag = refl }

-- the lowest pad without CAPS and EOS
known_parts : (a b : Bool) → (if a then true else b) ≡ false → (a ≡ false) × (b ≡ false)
known_parts true b e = absurd (cc)
known_parts false b e = (refl, e)

lower_none : (cs : List Channel) → lower_known 0 cs ≡ true
lower_none [] = refl
lower_none (c ∷ cs) = refl

pub lowest_unknown : (i n next : ℕ) (cs : List Channel) (took : List (List Call)) → KnowEach cs took → WaitEach next cs (reopenings n took) → lower_known i cs ≡ true
    → lower_known (suc i) cs ≡ false → (has_eos (calls_at i took) ≡ false) × (bytes_of (reopened n (items (calls_at i took))) ≡ [])
lowest_unknown i n next [] took k w below here = absurd (cc)
lowest_unknown i n next (c ∷ cs) [] k w below here = absurd k
lowest_unknown zero n next (c ∷ cs) (calls ∷ took) k w below here = go (known c) refl here
  where
    go : (b : Bool) → known c ≡ b → (if b then lower_known 0 cs else false) ≡ false → (has_eos calls ≡ false) × (bytes_of (reopened n (items calls)) ≡ [])
    go true e h = absurd (cc (lower_none cs, h))
    go false e h =
        let p = known_parts c.progress.ended (is_there (hears c)) e in
        let knows : Knows c calls = k.0 in
        let waits : Waits next c (reopened n (items calls)) = w.0 in
        (knows.eos ∙ p.0, (waits.none (not_there (hears c) p.1)).0)
lowest_unknown (suc i) n next (c ∷ cs) (calls ∷ took) k w below here = go (known c) below here (λ a b. lowest_unknown i n next cs took k.1 w.1 a b)
  where
    go : (b : Bool) → (if b then lower_known i cs else false) ≡ true → (if b then lower_known (suc i) cs else false) ≡ false
        → (lower_known i cs ≡ true → lower_known (suc i) cs ≡ false → (has_eos (calls_at i took) ≡ false) × (bytes_of (reopened n (items (calls_at i took))) ≡ []))
        → (has_eos (calls_at i took) ≡ false) × (bytes_of (reopened n (items (calls_at i took))) ≡ [])
    go true a b rest = rest a b
    go false a b rest = absurd (cc)
