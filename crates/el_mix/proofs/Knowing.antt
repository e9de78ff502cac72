-- What channels know of what their pads were given.
use Rattle.std.proofs.Common.{◌≡◌, ℕ, zero, suc, Bool, true, false, if◌then◌else◌, List, [], ◌∷◌, ◌++◌, Option, Some, None, length, map, set, replicate, refl, sym, ap, ◌∙◌, subst, append-nil}
use Rattle.std.specs.Prelude.{slice_get}
use Rattle.std.proofs.lemmas.Option.{same_Some as some_is}
use Rattle.gst_item.proofs.Kept.{latest_push}
use Rattle.gst_value.specs.Description.{Description}
use Rattle.gst_value.specs.declared.one.One.{One}
use Rattle.gst_item.specs.declared.flow.Flow.TheVariants.{Ok as Taken, Eos as BehindEos}
use Rattle.flow_model.specs.Item.{Item, Event, Buf, Ev, StreamStart, NewCaps, NewSegment, Tag, Gap, FlushStop, Eos, is_flush_stop, is_eos, is_stream_start, is_caps}
use Rattle.flow_model.specs.Sticky.{latest}
use Rattle.flow_model.specs.Section.{counted}
use Rattle.flow_model.specs.Call.{Call, Feed, items}
use Rattle.flow_model.specs.Feeding.{has_eos, flow_behind}
use Rattle.flow_model.proofs.Calls.{eos_taken, eos_stays, eos_flushed}
use Rattle.flow_model.proofs.Counted.{counted_taken, counted_behind, counted_flush}
use Rattle.flow_model.specs.SinkPads.{push_calls, calls_at, push_each}
use Rattle.el_mix.specs.declared.channel.Channel.{Channel}
use Rattle.el_mix.specs.Agreed.{or_else, caps_in}
use Rattle.el_mix.specs.Mixes.{id_in}
use Rattle.el_mix.specs.Taking.{hears, Took, Lays, flushed, new_channel}
use Rattle.el_mix.specs.Relation.{Knows, KnowEach}
use Rattle.flow_model.specs.Inherited.{is_inherited, start_event, caps_event}

-- the events that are kept, with one item more
start_kept : (o : Option ℕ) (x : Item) → start_event (or_else (id_in x) o) ≡ (if is_stream_start x then x ∷ [] else start_event o)
start_kept o (Buf b) = refl
start_kept o (Ev (StreamStart id)) = refl
start_kept o (Ev (NewCaps caps)) = refl
start_kept o (Ev (NewSegment s)) = refl
start_kept o (Ev (Tag title)) = refl
start_kept o (Ev (Gap pts duration)) = refl
start_kept o (Ev (FlushStop number)) = refl
start_kept o (Ev Eos) = refl

caps_kept : (o : Option (Description One)) (x : Item) → caps_event (or_else (caps_in x) o) ≡ (if is_caps x then x ∷ [] else caps_event o)
caps_kept o (Buf b) = refl
caps_kept o (Ev (StreamStart id)) = refl
caps_kept o (Ev (NewCaps caps)) = refl
caps_kept o (Ev (NewSegment s)) = refl
caps_kept o (Ev (Tag title)) = refl
caps_kept o (Ev (Gap pts duration)) = refl
caps_kept o (Ev (FlushStop number)) = refl
caps_kept o (Ev Eos) = refl

either_caps : (o p : Option (Description One)) → ((had found : Description One) → o ≡ Some had → p ≡ Some found → had ≡ found) → or_else o p ≡ or_else p o
either_caps None None h = refl
either_caps None (Some f) h = refl
either_caps (Some d) None h = refl
either_caps (Some d) (Some f) h = ap (λ z. Some z) (h d f refl refl)

-- with an item on a pad without EOS
knows_item : (c d : Channel) (calls : List Call) (x : Item) → is_flush_stop x ≡ false → c.progress.ended ≡ false → hears d ≡ or_else (caps_in x) (hears c)
    → d.progress.last_id ≡ or_else (id_in x) c.progress.last_id → d.progress.ended ≡ is_eos x → Knows c calls → Knows d (calls ++ Feed x ∷ [])
knows_item c d calls x plain none caps last ends k =
    let more = counted_taken calls x (k.eos ∙ none) in
    record {
      stream_start = ap start_event last ∙ start_kept c.progress.last_id x ∙ ap (λ ys. if is_stream_start x then x ∷ [] else ys) k.stream_start
          ∙ sym (latest_push is_stream_start (counted (items calls)) x) ∙ ap (latest is_stream_start) (sym more);
      caps = ap caps_event caps ∙ caps_kept (hears c) x ∙ ap (λ ys. if is_caps x then x ∷ [] else ys) k.caps
          ∙ sym (latest_push is_caps (counted (items calls)) x) ∙ ap (latest is_caps) (sym more);
      eos = eos_taken calls x plain (k.eos ∙ none) ∙ sym ends;
    }

pub knows_took : (c d : Channel) (calls : List Call) (x : Item) → is_flush_stop x ≡ false → c.progress.ended ≡ false
    → ((had found : Description One) → hears c ≡ Some had → caps_in x ≡ Some found → had ≡ found) → Took c x d → Knows c calls → Knows d (calls ++ Feed x ∷ [])
knows_took c d calls x plain none same t k = knows_item c d calls x plain none (t.caps ∙ either_caps (hears c) (caps_in x) same) t.last t.ended k

-- behind its EOS
knows_behind : (c d : Channel) (calls : List Call) (x : Item) → is_flush_stop x ≡ false → c.progress.ended ≡ true → hears d ≡ hears c → d.progress.last_id ≡ c.progress.last_id
    → d.progress.ended ≡ c.progress.ended → Knows c calls → Knows d (calls ++ Feed x ∷ [])
knows_behind c d calls x plain over caps last ends k =
    let same = counted_behind calls x (k.eos ∙ over) plain ∙ append-nil (counted (items calls)) in
    record {
      stream_start = ap start_event last ∙ k.stream_start ∙ ap (latest is_stream_start) (sym same);
      caps = ap caps_event caps ∙ k.caps ∙ ap (latest is_caps) (sym same);
      eos = eos_stays calls x plain (k.eos ∙ over) ∙ sym (ends ∙ over);
    }

pub knows_kept : (c : Channel) (calls : List Call) (x : Item) → is_flush_stop x ≡ false → c.progress.ended ≡ true → Knows c calls → Knows c (calls ++ Feed x ∷ [])
knows_kept c calls x plain over k = knows_behind c c calls x plain over refl refl refl k

-- with an event that is laid
inherited_plain : (e : Event) → is_inherited e ≡ true → (is_flush_stop (Ev e) ≡ false) × (is_eos (Ev e) ≡ false)
inherited_plain (StreamStart id) h = (refl, refl)
inherited_plain (NewCaps caps) h = (refl, refl)
inherited_plain (NewSegment s) h = (refl, refl)
inherited_plain (Tag title) h = (refl, refl)
inherited_plain (Gap pts duration) h = (refl, refl)
inherited_plain (FlushStop number) h = absurd (cc)
inherited_plain Eos h = absurd (cc)

pub plain_of : (e : Event) → is_inherited e ≡ true → is_flush_stop (Ev e) ≡ false
plain_of e h = (inherited_plain e h).0

pub knows_laid : (c d : Channel) (calls : List Call) (e : Event) → is_inherited e ≡ true → Lays c e d → Knows c calls → Knows d (calls ++ Feed (Ev e) ∷ [])
knows_laid c d calls e h l k = go c.progress.ended refl
  where
    go : (b : Bool) → c.progress.ended ≡ b → Knows d (calls ++ Feed (Ev e) ∷ [])
    go true over =
        knows_behind c d calls (Ev e) (inherited_plain e h).0 over (l.caps ∙ ap (λ b. if b then hears c else or_else (caps_in (Ev e)) (hears c)) over)
        (l.last ∙ ap (λ b. if b then c.progress.last_id else or_else (id_in (Ev e)) c.progress.last_id) over) l.ended k
    go false none =
        knows_item c d calls (Ev e) (inherited_plain e h).0 none (l.caps ∙ ap (λ b. if b then hears c else or_else (caps_in (Ev e)) (hears c)) none)
        (l.last ∙ ap (λ b. if b then c.progress.last_id else or_else (id_in (Ev e)) c.progress.last_id) none) (l.ended ∙ none ∙ sym (inherited_plain e h).1) k

-- behind a flush
pub knows_flushed : (c : Channel) (calls : List Call) (number : ℕ) → Knows c calls → Knows (flushed c) (calls ++ Feed (Ev (FlushStop number)) ∷ [])
knows_flushed c calls number k =
    let x : Item = Ev (FlushStop number) in
    let more = counted_flush calls number in
    record {
      stream_start = k.stream_start ∙ sym (latest_push is_stream_start (counted (items calls)) x) ∙ ap (latest is_stream_start) (sym more);
      caps = k.caps ∙ sym (latest_push is_caps (counted (items calls)) x) ∙ ap (latest is_caps) (sym more);
      eos = eos_flushed calls number;
    }

-- all of them
pub know_push : (i : ℕ) (calls : List Call) (cs : List Channel) (took : List (List Call)) (c d : Channel) → slice_get cs i ≡ Some c
    → (Knows c (calls_at i took) → Knows d (calls_at i took ++ calls)) → KnowEach cs took → KnowEach (set cs i d) (push_calls i calls took)
know_push i calls [] took c d at more k = absurd (cc)
know_push i calls (b ∷ cs) [] c d at more k = absurd k
know_push zero calls (b ∷ cs) (given ∷ took) c d at more k = (more (subst (λ e. Knows e given) (some_is b c at) k.0), k.1)
know_push (suc i) calls (b ∷ cs) (given ∷ took) c d at more k = (k.0, know_push i calls cs took c d at more k.1)

pub know_at : (i : ℕ) (cs : List Channel) (took : List (List Call)) (c : Channel) → slice_get cs i ≡ Some c → KnowEach cs took → Knows c (calls_at i took)
know_at i [] took c at k = absurd (cc)
know_at i (b ∷ cs) [] c at k = absurd k
know_at zero (b ∷ cs) (given ∷ took) c at k = subst (λ e. Knows e given) (some_is b c at) k.0
know_at (suc i) (b ∷ cs) (given ∷ took) c at k = know_at i cs took c at k.1

pub know_length : (cs : List Channel) (took : List (List Call)) → KnowEach cs took → length cs ≡ length took
know_length [] [] k = refl
know_length [] (given ∷ took) k = absurd k
know_length (c ∷ cs) [] k = absurd k
know_length (c ∷ cs) (given ∷ took) k = ap suc (know_length cs took k.1)

pub know_flushed : (number : ℕ) (cs : List Channel) (took : List (List Call)) → KnowEach cs took → KnowEach (map flushed cs) (push_each (Feed (Ev (FlushStop number)) ∷ []) took)
know_flushed number [] [] k = tt
know_flushed number [] (given ∷ took) k = absurd k
know_flushed number (c ∷ cs) [] k = absurd k
know_flushed number (c ∷ cs) (given ∷ took) k = (knows_flushed c given number k.0, know_flushed number cs took k.1)

pub know_new : (n : ℕ) → KnowEach (replicate n new_channel) (replicate n [])
know_new zero = tt
know_new (suc n) = (record { stream_start = refl; caps = refl; eos = refl }, know_new n)

-- the answer behind EOS
pub flow_of : (calls : List Call) (b : Bool) → has_eos calls ≡ b → flow_behind calls ≡ (if b then BehindEos else Taken)
flow_of calls b e = ap (λ (z : Bool). if z then BehindEos else Taken) e
