-- The sticky events in force: none is FLUSH_STOP, EOS is the last of them, and what counts of a list has its EOS.
use Rattle.std.proofs.Common.{◌≡◌, Bool, true, false, if◌then◌else◌, List, [], ◌∷◌, ◌++◌, ◌⊎◌, inl, inr, refl, sym, ap, ◌∙◌, append-nil, append_assoc}
use Rattle.gst_value.proofs.Basics.{if_same}
use Rattle.gst_item.specs.Item.{has_item}
use Rattle.flow_model.specs.Item.{Item, Ev, FlushStop, Eos, is_stream_start, is_caps, is_segment, is_tag, is_flush_stop, is_eos}
use Rattle.flow_model.specs.Sticky.{first_found, latest, has_flush_stop, since_flush_stop, in_force, stickies}
use Rattle.flow_model.specs.Section.{counted_after, counted, flush_stops, to_eos}
use Rattle.flow_model.specs.Call.{Call, items}
use Rattle.flow_model.specs.Feeding.{has_eos}
use Rattle.flow_model.proofs.Calls.{eos_behind}
use Rattle.flow_model.proofs.Items.{free_append, no_stops, stop_no_eos}
use Rattle.el_join.specs.Concats.{has_end}
use Rattle.el_join.proofs.Free.{one_free}
use Rattle.el_join.proofs.Opened.{end_append}

-- at most one item, which passes a test
abbrev AtMostOne : (Item → Bool) → List Item → Type 0
AtMostOne passes xs = (xs ≡ []) ⊎ ((x : Item) × (xs ≡ x ∷ []) × (passes x ≡ true))

at_most_one : (passes : Item → Bool) (h : List Item) → AtMostOne passes (latest passes h)
at_most_one passes [] = inl refl
at_most_one passes (y ∷ ys) = go (latest passes ys) (passes y) refl (at_most_one passes ys)
  where
    go : (found : List Item) (b : Bool) → passes y ≡ b → AtMostOne passes found → AtMostOne passes (first_found found (if b then y ∷ [] else []))
    go found true e (inl none) = rw none (inr (y, refl, e))
    go found false e (inl none) = rw none (inl refl)
    go found b e (inr one) = rw one.1 (inr (one.0, refl, one.2))

-- no FLUSH_STOP
free_one : (passes : Item → Bool) (xs : List Item) → ((x : Item) → passes x ≡ true → is_flush_stop x ≡ false) → AtMostOne passes xs → has_flush_stop xs ≡ false
free_one passes xs free (inl none) = ap has_flush_stop none
free_one passes xs free (inr one) = ap has_flush_stop one.1 ∙ one_free one.0 (free one.0 one.2)

start_free : (x : Item) → is_stream_start x ≡ true → is_flush_stop x ≡ false
start_free (Ev (FlushStop number)) e = absurd (cc)
start_free _ e = refl

caps_free : (x : Item) → is_caps x ≡ true → is_flush_stop x ≡ false
caps_free (Ev (FlushStop number)) e = absurd (cc)
caps_free _ e = refl

segment_free : (x : Item) → is_segment x ≡ true → is_flush_stop x ≡ false
segment_free (Ev (FlushStop number)) e = absurd (cc)
segment_free _ e = refl

tag_free : (x : Item) → is_tag x ≡ true → is_flush_stop x ≡ false
tag_free (Ev (FlushStop number)) e = absurd (cc)
tag_free _ e = refl

eos_free : (x : Item) → is_eos x ≡ true → is_flush_stop x ≡ false
eos_free (Ev (FlushStop number)) e = absurd (cc)
eos_free _ e = refl

pub stickies_free : (h : List Item) → has_flush_stop (stickies h) ≡ false
unfolding stickies
stickies_free h =
    free_append (latest is_stream_start h) _ (free_one is_stream_start _ start_free (at_most_one is_stream_start h))
    (free_append (latest is_caps h) _ (free_one is_caps _ caps_free (at_most_one is_caps h))
    (free_append (latest is_segment (since_flush_stop h)) _ (free_one is_segment _ segment_free (at_most_one is_segment (since_flush_stop h)))
    (free_append (latest is_tag h) _ (free_one is_tag _ tag_free (at_most_one is_tag h))
    (free_one is_eos _ eos_free (at_most_one is_eos (since_flush_stop h))))))

pub stickies_stops : (h : List Item) → flush_stops (stickies h) ≡ 0
stickies_stops h = no_stops (stickies h) (stickies_free h)

-- no EOS but the last
open_one : (passes : Item → Bool) (xs : List Item) → ((x : Item) → passes x ≡ true → is_eos x ≡ false) → AtMostOne passes xs → has_end xs ≡ false
open_one passes xs open_is (inl none) = ap has_end none
open_one passes xs open_is (inr one) = ap has_end one.1 ∙ ap (λ (b : Bool). if b then true else false) (open_is one.0 one.2)

start_open : (x : Item) → is_stream_start x ≡ true → is_eos x ≡ false
start_open (Ev Eos) e = absurd (cc)
start_open _ e = refl

caps_open : (x : Item) → is_caps x ≡ true → is_eos x ≡ false
caps_open (Ev Eos) e = absurd (cc)
caps_open _ e = refl

segment_open : (x : Item) → is_segment x ≡ true → is_eos x ≡ false
segment_open (Ev Eos) e = absurd (cc)
segment_open _ e = refl

tag_open : (x : Item) → is_tag x ≡ true → is_eos x ≡ false
tag_open (Ev Eos) e = absurd (cc)
tag_open _ e = refl

-- each kind of them, and EOS last
abbrev kept_eos : List Item → List Item
kept_eos h = latest is_eos (since_flush_stop h)

end_one : (xs : List Item) → AtMostOne is_eos xs → has_end xs ≡ has_item xs
end_one xs (inl none) = rw none refl
end_one xs (inr one) = rw one.1 (ap (λ (b : Bool). if b then true else false) one.2)

last_one : (xs : List Item) → AtMostOne is_eos xs → to_eos xs ≡ xs
last_one xs (inl none) = rw none refl
last_one xs (inr one) = rw one.1 (ap (λ (ys : List Item). one.0 ∷ ys) (if_same (is_eos one.0) []))

stickies_end : (h : List Item) → has_end (stickies h) ≡ has_item (kept_eos h)
unfolding stickies
stickies_end h =
    end_append (latest is_stream_start h) _ (open_one is_stream_start _ start_open (at_most_one is_stream_start h))
    ∙ end_append (latest is_caps h) _ (open_one is_caps _ caps_open (at_most_one is_caps h))
    ∙ end_append (latest is_segment (since_flush_stop h)) _ (open_one is_segment _ segment_open (at_most_one is_segment (since_flush_stop h)))
    ∙ end_append (latest is_tag h) _ (open_one is_tag _ tag_open (at_most_one is_tag h))
    ∙ end_one (kept_eos h) (at_most_one is_eos (since_flush_stop h))

-- up to the first EOS of a list behind another without EOS
pub to_eos_append : (xs ys : List Item) → has_end xs ≡ false → to_eos (xs ++ ys) ≡ xs ++ to_eos ys
to_eos_append [] ys h = refl
to_eos_append (x ∷ xs) ys h = go (is_eos x) h (to_eos_append xs ys)
  where
    go : (b : Bool) → (if b then true else has_end xs) ≡ false → (has_end xs ≡ false → to_eos (xs ++ ys) ≡ xs ++ to_eos ys)
        → x ∷ (if b then [] else to_eos (xs ++ ys)) ≡ x ∷ (xs ++ to_eos ys)
    go true h rest = absurd (cc)
    go false h rest = ap (λ zs. x ∷ zs) (rest h)

pub stickies_whole : (h : List Item) → to_eos (stickies h) ≡ stickies h
unfolding stickies
stickies_whole h =
    to_eos_append (latest is_stream_start h) _ (open_one is_stream_start _ start_open (at_most_one is_stream_start h))
    ∙ ap (λ xs. latest is_stream_start h ++ xs)
    (to_eos_append (latest is_caps h) _ (open_one is_caps _ caps_open (at_most_one is_caps h))
    ∙ ap (λ xs. latest is_caps h ++ xs)
    (to_eos_append (latest is_segment (since_flush_stop h)) _ (open_one is_segment _ segment_open (at_most_one is_segment (since_flush_stop h)))
    ∙ ap (λ xs. latest is_segment (since_flush_stop h) ++ xs)
    (to_eos_append (latest is_tag h) _ (open_one is_tag _ tag_open (at_most_one is_tag h))
    ∙ ap (λ xs. latest is_tag h ++ xs) (last_one (kept_eos h) (at_most_one is_eos (since_flush_stop h))))))

-- What counts of a list has EOS since its last FLUSH_STOP where the list has.
abbrev is_ended : List Item → Bool
is_ended h = has_item (in_force h).eos

-- behind one more item: a FLUSH_STOP, one of a section without EOS, and one of a section with EOS
ended_flushed : (h : List Item) (x : Item) → is_flush_stop x ≡ true → is_ended (h ++ x ∷ []) ≡ false
ended_flushed h x f = eos_behind h x ∙ ap (λ (b : Bool). if b then false else (if is_eos x then true else is_ended h)) f

ended_open : (h : List Item) (x : Item) → is_ended h ≡ false → is_ended (h ++ x ∷ []) ≡ is_eos x
ended_open h x none =
    eos_behind h x ∙ ap (λ (b : Bool). if is_flush_stop x then false else (if is_eos x then true else b)) none ∙ go (is_flush_stop x) (is_eos x) (stop_no_eos x)
  where
    go : (f e : Bool) → (f ≡ true → e ≡ false) → (if f then false else (if e then true else false)) ≡ e
    go true e no_eos = sym (no_eos refl)
    go false true no_eos = refl
    go false false no_eos = refl

ended_stays : (h : List Item) (x : Item) → is_flush_stop x ≡ false → is_ended h ≡ true → is_ended (h ++ x ∷ []) ≡ true
ended_stays h x plain some =
    eos_behind h x ∙ ap (λ (b : Bool). if b then false else (if is_eos x then true else is_ended h)) plain
    ∙ ap (λ (b : Bool). if is_eos x then true else b) some ∙ if_same (is_eos x) true

counts_ended : (b : Bool) (h g xs : List Item) → is_ended h ≡ b → is_ended g ≡ b → is_ended (g ++ counted_after b xs) ≡ is_ended (h ++ xs)
counts_ended b h g [] p q = ap is_ended (append-nil g) ∙ q ∙ sym p ∙ ap is_ended (sym (append-nil h))
counts_ended false h g (x ∷ xs) p q =
    ap is_ended (sym (append_assoc g (x ∷ []) (counted_after (is_eos x) xs)))
    ∙ counts_ended (is_eos x) (h ++ x ∷ []) (g ++ x ∷ []) xs (ended_open h x p) (ended_open g x q)
    ∙ ap is_ended (append_assoc h (x ∷ []) xs)
counts_ended true h g (x ∷ xs) p q =
    go (is_flush_stop x) refl (counts_ended false (h ++ x ∷ []) (g ++ x ∷ []) xs) (counts_ended true (h ++ x ∷ []) g xs)
    ∙ ap is_ended (append_assoc h (x ∷ []) xs)
  where
    go : (f : Bool) → is_flush_stop x ≡ f
        → (is_ended (h ++ x ∷ []) ≡ false → is_ended (g ++ x ∷ []) ≡ false → is_ended ((g ++ x ∷ []) ++ counted_after false xs) ≡ is_ended ((h ++ x ∷ []) ++ xs))
        → (is_ended (h ++ x ∷ []) ≡ true → is_ended g ≡ true → is_ended (g ++ counted_after true xs) ≡ is_ended ((h ++ x ∷ []) ++ xs))
        → is_ended (g ++ (if f then x ∷ counted_after false xs else counted_after true xs)) ≡ is_ended ((h ++ x ∷ []) ++ xs)
    go true f begun same =
        ap is_ended (sym (append_assoc g (x ∷ []) (counted_after false xs))) ∙ begun (ended_flushed h x f) (ended_flushed g x f)
    go false f begun same = same (ended_stays h x f p) q

pub in_force_end : (calls : List Call) → has_end (stickies (counted (items calls))) ≡ has_eos calls
in_force_end calls = stickies_end (counted (items calls)) ∙ counts_ended false [] [] (items calls) refl refl
