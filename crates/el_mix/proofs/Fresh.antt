-- A pad's list of what is inherited alone.
use Rattle.std.proofs.Common.{◌≡◌, ◌<◌, ℕ, zero, suc, ◌^◌, Bool, true, false, if◌then◌else◌, List, [], ◌∷◌, ◌++◌, Option, Some, None, length, map, replicate, refl, sym, ap, ◌∙◌, subst, inl, inr, append-nil, arith}
use Rattle.std.specs.Option.{option_map}
use Rattle.gst_value.specs.Description.{Description}
use Rattle.gst_value.specs.declared.one.One.{One}
use Rattle.flow_model.specs.Item.{Item, Buf, Ev, StreamStart, NewCaps, NewSegment, Tag, Gap, FlushStop, Eos, is_stream_start, is_tag, is_eos}
use Rattle.flow_model.specs.Sticky.{first_found, latest}
use Rattle.flow_model.specs.Section.{section, counted, before_section, to_eos, flush_stops}
use Rattle.flow_model.specs.Call.{Call, Feed, items}
use Rattle.flow_model.proofs.Calls.{items_push}
use Rattle.flow_model.specs.SinkPads.{flush_stops_given, InSection, push_each}
use Rattle.el_mix.specs.declared.channel.Channel.{Channel}
use Rattle.el_mix.specs.declared.position.Position.{Position}
use Rattle.el_mix.specs.Mono.{mono_of}
use Rattle.el_mix.specs.Heard.{mono_by}
use Rattle.el_mix.specs.Positions.{Begins}
use Rattle.el_mix.specs.Reopened.{counted_section, reopened, reopenings}
use Rattle.el_mix.specs.Mixed.{has}
use Rattle.el_mix.specs.Agreed.{or_else, pad_caps}
use Rattle.el_mix.specs.Mixes.{pad_id}
use Rattle.el_mix.specs.Judging.{inherited_refusal}
use Rattle.el_mix.specs.Taking.{hears, settled, flushed, new_channel}
use Rattle.el_mix.specs.Standing.{IsFresh, Counts, CountEach, AgreeEach, AnyBegun, BegunInOrder, Waits, WaitEach, opened, limit_in, time_in, Holds}
use Rattle.el_mix.specs.Relation.{Knows, KnowEach}
use Rattle.el_mix.proofs.Growing.{or_none, lined_empty}
use Rattle.el_mix.proofs.Coming.{time_of_none}
use Rattle.el_mix.proofs.Opening.{section_next}
use Rattle.flow_model.proofs.Items.{before_flushed, stops_of}
use Rattle.flow_model.specs.Inherited.{inherited, start_event, caps_event}

-- a list of at most one TAG
pub data OneTag : List Item → Type 0 where
  without : OneTag []
  with_one : {title : List ℕ} → OneTag (Ev (Tag title) ∷ [])

tag_of : (x : Item) (b : Bool) → is_tag x ≡ b → OneTag (if b then x ∷ [] else [])
tag_of x false e = without
tag_of (Buf b) true e = absurd (cc)
tag_of (Ev (StreamStart id)) true e = absurd (cc)
tag_of (Ev (NewCaps caps)) true e = absurd (cc)
tag_of (Ev (NewSegment s)) true e = absurd (cc)
tag_of (Ev (Tag title)) true e = with_one
tag_of (Ev (Gap pts duration)) true e = absurd (cc)
tag_of (Ev (FlushStop number)) true e = absurd (cc)
tag_of (Ev Eos) true e = absurd (cc)

pub latest_tag : (h : List Item) → OneTag (latest is_tag h)
latest_tag [] = without
latest_tag (x ∷ xs) = go (latest is_tag xs) (latest_tag xs)
  where
    go : (found : List Item) → OneTag found → OneTag (first_found found (if is_tag x then x ∷ [] else []))
    go _ without = tag_of x (is_tag x) refl
    go _ with_one = with_one

-- what is inherited, by what a channel kept
abbrev kept : Option ℕ → Option (Description One) → List Item → List Item
kept id caps tags = start_event id ++ (caps_event caps ++ tags)

pub record Inherits (id : Option ℕ) (caps : Option (Description One)) (xs : List Item) : Type 0 where
  pub fresh : IsFresh xs
  pub unended : has is_eos xs ≡ false
  pub caps_are : pad_caps xs ≡ caps
  pub id_is : pad_id xs ≡ id

inherits : (id : Option ℕ) (caps : Option (Description One)) (tags : List Item) → OneTag tags → Inherits id caps (kept id caps tags)
inherits None None _ without = record { fresh = record { unstarted = refl; empty = refl; judged = λ r l. refl }; unended = refl; caps_are = refl; id_is = refl }
inherits None (Some c) _ without = record { fresh = record { unstarted = refl; empty = refl; judged = λ r l. or_none (inherited_refusal l (Some c)) }; unended = refl; caps_are = refl; id_is = refl }
inherits (Some n) None _ without = record { fresh = record { unstarted = refl; empty = refl; judged = λ r l. refl }; unended = refl; caps_are = refl; id_is = refl }
inherits (Some n) (Some c) _ without = record { fresh = record { unstarted = refl; empty = refl; judged = λ r l. or_none (inherited_refusal l (Some c)) }; unended = refl; caps_are = refl; id_is = refl }
inherits None None _ with_one = record { fresh = record { unstarted = refl; empty = refl; judged = λ r l. refl }; unended = refl; caps_are = refl; id_is = refl }
inherits None (Some c) _ with_one = record { fresh = record { unstarted = refl; empty = refl; judged = λ r l. or_none (inherited_refusal l (Some c)) }; unended = refl; caps_are = refl; id_is = refl }
inherits (Some n) None _ with_one = record { fresh = record { unstarted = refl; empty = refl; judged = λ r l. refl }; unended = refl; caps_are = refl; id_is = refl }
inherits (Some n) (Some c) _ with_one = record { fresh = record { unstarted = refl; empty = refl; judged = λ r l. or_none (inherited_refusal l (Some c)) }; unended = refl; caps_are = refl; id_is = refl }

pub flushed_list : (n k : ℕ) (calls : List Call) → flush_stops_given calls ≡ n
    → reopened (suc n) (items (calls ++ Feed (Ev (FlushStop k)) ∷ [])) ≡ inherited (counted (items (calls ++ Feed (Ev (FlushStop k)) ∷ [])))
flushed_list n k calls is =
    let stop : Item = Ev (FlushStop k) in
    let whole : before_section (suc n) (items (calls ++ Feed stop ∷ [])) ≡ items (calls ++ Feed stop ∷ []) =
    ap (before_section (suc n)) (items_push calls stop) ∙ before_flushed (items calls) n k (sym (stops_of calls) ∙ is) ∙ sym (items_push calls stop) in
    let none : section (suc n) (items (calls ++ Feed stop ∷ [])) ≡ [] = ap (section (suc n)) (items_push calls stop) ∙ section_next (suc n) (items calls) k (less (sym (stops_of calls) ∙ is)) in
    ap (λ zs. inherited (counted zs) ++ counted_section (suc n) (items (calls ++ Feed stop ∷ []))) whole
    ∙ ap (λ zs. inherited (counted (items (calls ++ Feed stop ∷ []))) ++ to_eos zs) none
    ∙ append-nil (inherited (counted (items (calls ++ Feed stop ∷ []))))
  where
    less : flush_stops (items calls) ≡ n → flush_stops (items calls) < suc n
    less e = omega (arith, e)

pub flushed_inherits : (n k : ℕ) (c : Channel) (calls : List Call) → flush_stops_given calls ≡ n → Knows (flushed c) (calls ++ Feed (Ev (FlushStop k)) ∷ [])
    → Inherits c.progress.last_id (hears c) (reopened (suc n) (items (calls ++ Feed (Ev (FlushStop k)) ∷ [])))
flushed_inherits n k c calls is know =
    let all : List Item = counted (items (calls ++ Feed (Ev (FlushStop k)) ∷ [])) in
    subst (Inherits c.progress.last_id (hears c))
    (ap (λ zs. zs ++ (caps_event (hears c) ++ latest is_tag all)) know.stream_start ∙ ap (λ zs. latest is_stream_start all ++ (zs ++ latest is_tag all)) know.caps ∙ sym (flushed_list n k calls is))
    (inherits c.progress.last_id (hears c) (latest is_tag all) (latest_tag all))

-- what a channel counts there
pub fresh_counts : (c : Channel) (xs : List Item) → Inherits c.progress.last_id (hears c) xs → Counts (flushed c) xs
fresh_counts c xs i = record {
  caps = sym i.caps_are;
  started = sym i.fresh.unstarted;
  ended = sym i.unended;
  first = sym i.id_is;
  got = sym (ap length i.fresh.empty);
  fresh = λ b. i.fresh;
}

pub fresh_waits : (c : Channel) (xs : List Item) → IsFresh xs → Waits 0 (flushed c) xs
fresh_waits c xs i = record {
  none = λ o. (i.empty, refl);
  some = λ caps o. lined_empty (mono_of caps) 0 xs i.empty;
  fits = λ caps o. time_of_none (mono_of caps) xs i.empty;
  small = subst (λ n. n < 2 ^ 62) (sym (ap length i.empty)) (omega arith);
}

-- all of them
pub all_flushed_hold : (n k : ℕ) (cs : List Channel) (took : List (List Call)) → InSection n took → KnowEach (map flushed cs) (push_each (Feed (Ev (FlushStop k)) ∷ []) took)
    → CountEach (map flushed cs) (reopenings (suc n) (push_each (Feed (Ev (FlushStop k)) ∷ []) took)) × WaitEach 0 (map flushed cs) (reopenings (suc n) (push_each (Feed (Ev (FlushStop k)) ∷ []) took))
all_flushed_hold n k [] [] s know = (tt, tt)
all_flushed_hold n k [] (calls ∷ took) s know = absurd know
all_flushed_hold n k (c ∷ cs) [] s know = absurd know
all_flushed_hold n k (c ∷ cs) (calls ∷ took) s know =
    let i = flushed_inherits n k c calls s.0 know.0 in
    let rest = all_flushed_hold n k cs took s.1 know.1 in
    ((fresh_counts c (reopened (suc n) (items (calls ++ Feed (Ev (FlushStop k)) ∷ []))) i, rest.0), (fresh_waits c (reopened (suc n) (items (calls ++ Feed (Ev (FlushStop k)) ∷ []))) i.fresh, rest.1))

pub flushed_agree : (low : Option (Description One)) (cs : List Channel) (xss : List (List Item)) → CountEach (map flushed cs) xss → AgreeEach low (map flushed cs) xss
flushed_agree low [] [] k = tt
flushed_agree low [] (xs ∷ xss) k = absurd k
flushed_agree low (c ∷ cs) [] k = absurd k
flushed_agree low (c ∷ cs) (xs ∷ xss) k = (λ b. absurd (differ b), flushed_agree (or_else low (pad_caps xs)) cs xss k.1)
  where
    differ : false ≡ true → ⊥
    differ e = absurd (cc)

none_begun : (cs : List Channel) → AnyBegun (map flushed cs) → ⊥
none_begun [] b = b
none_begun (c ∷ cs) (inl b) = absurd (cc)
none_begun (c ∷ cs) (inr b) = none_begun cs b

pub flushed_order : (cs : List Channel) → BegunInOrder (map flushed cs)
flushed_order [] = tt
flushed_order (c ∷ cs) = (λ b. absurd (none_begun cs b), flushed_order cs)

pub flushed_settled : (cs : List Channel) → map settled (map flushed cs) ≡ map flushed cs
flushed_settled [] = refl
flushed_settled (c ∷ cs) = ap (λ zs. flushed c ∷ zs) (flushed_settled cs)

pub none_opened : (cs : List Channel) (xss : List (List Item)) → CountEach (map flushed cs) xss → opened xss ≡ None
none_opened [] [] k = refl
none_opened [] (xs ∷ xss) k = absurd k
none_opened (c ∷ cs) [] k = absurd k
none_opened (c ∷ cs) (xs ∷ xss) k = rw (sym k.0.started) refl

pub flushed_hold : (at : Position) (cs : List Channel) (xss : List (List Item)) → Begins at → CountEach (map flushed cs) xss → WaitEach 0 (map flushed cs) xss → Holds at (map flushed cs) xss
flushed_hold at cs xss b k w =
    let none = none_opened cs xss k in
    record {
      each = record { counts = k; agrees = flushed_agree None cs xss k; order = flushed_order cs; settled_is = flushed_settled cs };
      waits = subst (λ n. WaitEach n (map flushed cs) xss) (sym b.next_is) w;
      placed = record {
        open_is = ap (option_map mono_by) b.open_is ∙ sym none;
        next_is = b.next_is ∙ ap (λ m. limit_in m xss) (sym none);
        reached_is = b.reached_is ∙ ap (λ m. time_in m at.next) (sym none);
      };
    }

-- channels that were fed nothing
pub new_flushed : (n : ℕ) → map flushed (replicate n new_channel) ≡ replicate n new_channel
new_flushed zero = refl
new_flushed (suc n) = ap (λ zs. new_channel ∷ zs) (new_flushed n)

pub new_hold : (n : ℕ) → CountEach (map flushed (replicate n new_channel)) (reopenings 0 (replicate n [])) × WaitEach 0 (map flushed (replicate n new_channel)) (reopenings 0 (replicate n []))
new_hold zero = (tt, tt)
new_hold (suc n) =
    let i : Inherits None None [] = inherits None None [] without in
    let rest = new_hold n in
    ((fresh_counts new_channel [] i, rest.0), (fresh_waits new_channel [] i.fresh, rest.1))
