-- EOS among what spans give, where each link was made and undone before its source pad had EOS.
use Rattle.std.proofs.Common.{◌≡◌, ◌⊎◌, ℕ, zero, suc, ◌-◌, ◌||◌, Bool, true, false, if◌then◌else◌, eqb, List, [], ◌∷◌, ◌++◌, map, take, drop, refl, sym, ap, ◌∙◌, subst, inl, inr, arith}
use Rattle.std.specs.List.{list_any}
use Rattle.std.proofs.lemmas.Bool.{true≢false, false≢true, or_from, or_parts}
use Rattle.std.proofs.lemmas.Bool.Decides.{eqb_tells}
use Rattle.std.proofs.lemmas.List.{append-nil, take-append-drop}
use Rattle.std.proofs.lemmas.List.Folds.{list_any-append}
use Rattle.flow_model.specs.Item.{Item, Buf, Ev, StreamStart, NewCaps, NewSegment, Tag, Gap, FlushStop, Eos, is_eos, is_flush_stop}
use Rattle.flow_model.specs.Call.{Feed, Mark, feeds, items, with_marks}
use Rattle.flow_model.specs.Link.{Span, Linked, WasLinked, Flushed, Given, between, input_of, span_calls}
use Rattle.flow_model.specs.Prefix.{IsPrefix}
use Rattle.flow_model.specs.Sticky.{has_flush_stop, latest, since_flush_stop, stickies}
use Rattle.flow_model.proofs.Counted.{since_all}
use Rattle.flow_model.proofs.Items.{items_feeds}
use Rattle.flow_model.proofs.Prefixes.{take_prefix}
use Rattle.gst_item.specs.Item.{has_item, is_caps, is_segment, is_stream_start, is_tag}
use Rattle.gst_item.specs.Sticky.{first_found}
use Rattle.flow_model.specs.Edit.{undo}
use Rattle.flow_model.specs.Standing.{is_linked, links_from}
use Rattle.pad_core.specs.Crossing.{has_ended}
use Rattle.graph_edits.specs.Ended.{AreOpen, was_ended}
use Rattle.graph_edits.specs.Growing.{AreWithin}
use Rattle.graph_edits.proofs.Grown.{items_append, items_marked, link_items}

-- ---- lists of which no item passes a test

module _ (q : Item → Bool) where
  none_both : (xs ys : List Item) → list_any q xs ≡ false → list_any q ys ≡ false → list_any q (xs ++ ys) ≡ false
  none_both xs ys e f = list_any-append q xs ys ∙ or_from (list_any q xs) (list_any q ys) e f

  none_parts : (xs ys : List Item) → list_any q (xs ++ ys) ≡ false → (list_any q xs ≡ false) × (list_any q ys ≡ false)
  none_parts xs ys e = or_parts (list_any q xs) (list_any q ys) (sym (list_any-append q xs ys) ∙ e)

  none_split : (n : ℕ) (xs : List Item) → list_any q xs ≡ false → (list_any q (take n xs) ≡ false) × (list_any q (drop n xs) ≡ false)
  none_split n xs e = none_parts (take n xs) (drop n xs) (ap (list_any q) (take-append-drop n xs) ∙ e)

  none_taken : (n : ℕ) → list_any q (take n []) ≡ false
  none_taken zero = refl
  none_taken (suc n) = refl

  -- what stands between two places stands before the second
  none_between : (from to : ℕ) (xs : List Item) → list_any q (take to xs) ≡ false → list_any q (between from to xs) ≡ false
  none_between zero to xs e = let same : to ≡ to - 0 = omega arith in subst (λ (n : ℕ). list_any q (take n xs) ≡ false) same e
  none_between (suc from) to [] e = none_taken (to - suc from)
  none_between (suc from) zero (x ∷ xs) e = let none : 0 ≡ zero - suc from = omega arith in subst (λ (n : ℕ). list_any q (take n (drop from xs)) ≡ false) none refl
  none_between (suc from) (suc to) (x ∷ xs) e =
      let same : to - from ≡ suc to - suc from = omega arith in
      subst (λ (n : ℕ). list_any q (take n (drop from xs)) ≡ false) same (none_between from to xs (or_parts (q x) (list_any q (take to xs)) e).1)

  -- the last item of another kind is none of this kind
  none_latest : (passes : Item → Bool) → ((x : Item) → passes x ≡ true → q x ≡ false) → (xs : List Item) → list_any q (latest passes xs) ≡ false
  none_latest passes other [] = refl
  none_latest passes other (x ∷ xs) = go (latest passes xs) (none_latest passes other xs) (passes x) refl
    where
      go : (found : List Item) → list_any q found ≡ false → (b : Bool) → passes x ≡ b → list_any q (first_found found (if b then x ∷ [] else [])) ≡ false
      go [] none true is = or_from (q x) false (other x is) refl
      go [] none false is = refl
      go (y ∷ ys) none b is = or_from (q y) false (or_parts (q y) (list_any q ys) none).0 refl

flush_among : (xs : List Item) → has_flush_stop xs ≡ list_any is_flush_stop xs
flush_among [] = refl
flush_among (x ∷ xs) = go (is_flush_stop x) (flush_among xs)
  where
    go : (b : Bool) → has_flush_stop xs ≡ list_any is_flush_stop xs → (if b then true else has_flush_stop xs) ≡ (b || list_any is_flush_stop xs)
    go true e = refl
    go false e = e

eos_found : (xs : List Item) → has_item (latest is_eos xs) ≡ list_any is_eos xs
eos_found [] = refl
eos_found (x ∷ xs) = go (latest is_eos xs) (eos_found xs) (is_eos x)
  where
    go : (found : List Item) → has_item found ≡ list_any is_eos xs → (b : Bool) → has_item (first_found found (if b then x ∷ [] else [])) ≡ (b || list_any is_eos xs)
    go [] e true = refl
    go [] e false = e
    go (y ∷ ys) e true = refl
    go (y ∷ ys) e false = e

-- where nothing is flushed a stream has ended if EOS is among it
pub ended_among : (xs : List Item) → has_flush_stop xs ≡ false → has_ended xs ≡ list_any is_eos xs
ended_among xs calm = ap (λ (ys : List Item). has_item (latest is_eos ys)) (since_all xs calm) ∙ eos_found xs

nothing_found : (found : List Item) → has_item found ≡ false → found ≡ []
nothing_found [] e = refl
nothing_found (x ∷ xs) e = absurd (true≢false e)

-- a kind of item that is none of the first four sticky events
module _ (q : Item → Bool) (starts : (x : Item) → is_stream_start x ≡ true → q x ≡ false) (caps : (x : Item) → is_caps x ≡ true → q x ≡ false)
    (segments : (x : Item) → is_segment x ≡ true → q x ≡ false) (tags : (x : Item) → is_tag x ≡ true → q x ≡ false) where
  none_sticky : (xs : List Item) → list_any q (latest is_eos (since_flush_stop xs)) ≡ false → list_any q (stickies xs) ≡ false
  unfolding stickies
  none_sticky xs last =
      none_both q (latest is_stream_start xs) (latest is_caps xs ++ (latest is_segment (since_flush_stop xs) ++ (latest is_tag xs ++ latest is_eos (since_flush_stop xs)))) (none_latest q is_stream_start starts xs)
      (none_both q (latest is_caps xs) (latest is_segment (since_flush_stop xs) ++ (latest is_tag xs ++ latest is_eos (since_flush_stop xs))) (none_latest q is_caps caps xs)
      (none_both q (latest is_segment (since_flush_stop xs)) (latest is_tag xs ++ latest is_eos (since_flush_stop xs)) (none_latest q is_segment segments (since_flush_stop xs))
      (none_both q (latest is_tag xs) (latest is_eos (since_flush_stop xs)) (none_latest q is_tag tags xs) last)))

eos_apart : (passes : Item → Bool) → passes (Ev Eos) ≡ false → (x : Item) → passes x ≡ true → is_eos x ≡ false
eos_apart passes other (Buf b) e = refl
eos_apart passes other (Ev (StreamStart id)) e = refl
eos_apart passes other (Ev (NewCaps caps)) e = refl
eos_apart passes other (Ev (NewSegment segment)) e = refl
eos_apart passes other (Ev (Tag title)) e = refl
eos_apart passes other (Ev (Gap pts duration)) e = refl
eos_apart passes other (Ev (FlushStop number)) e = refl
eos_apart passes other (Ev Eos) e = absurd (true≢false (sym e ∙ other))

flush_apart : (passes : Item → Bool) → ((number : ℕ) → passes (Ev (FlushStop number)) ≡ false) → (x : Item) → passes x ≡ true → is_flush_stop x ≡ false
flush_apart passes other (Buf b) e = refl
flush_apart passes other (Ev (StreamStart id)) e = refl
flush_apart passes other (Ev (NewCaps caps)) e = refl
flush_apart passes other (Ev (NewSegment segment)) e = refl
flush_apart passes other (Ev (Tag title)) e = refl
flush_apart passes other (Ev (Gap pts duration)) e = refl
flush_apart passes other (Ev (FlushStop number)) e = absurd (true≢false (sym e ∙ other number))
flush_apart passes other (Ev Eos) e = refl

-- before EOS none is in force, and FLUSH_STOP never is
eos_in_force : (xs : List Item) → has_ended xs ≡ false → list_any is_eos (stickies xs) ≡ false
eos_in_force xs e =
    none_sticky is_eos (eos_apart is_stream_start refl) (eos_apart is_caps refl) (eos_apart is_segment refl) (eos_apart is_tag refl) xs
    (ap (list_any is_eos) (nothing_found (latest is_eos (since_flush_stop xs)) e))

flush_in_force : (xs : List Item) → list_any is_flush_stop (stickies xs) ≡ false
flush_in_force xs =
    none_sticky is_flush_stop (flush_apart is_stream_start (λ n. refl)) (flush_apart is_caps (λ n. refl)) (flush_apart is_segment (λ n. refl)) (flush_apart is_tag (λ n. refl)) xs
    (none_latest is_flush_stop is_eos (flush_apart is_eos (λ n. refl)) (since_flush_stop xs))

-- ---- what spans give

-- what a link gives that was undone
was_items : (h : ℕ → List Item) (source from to : ℕ) (eos : Bool) (marks : List (ℕ × Mark))
    → items (span_calls h (WasLinked source from to eos marks)) ≡ stickies (take from (h source)) ++ (between from to (h source) ++ (if eos then Ev Eos ∷ [] else []))
was_items h source from to eos marks =
    let first = stickies (take from (h source)) in
    let middle = with_marks marks from (between from to (h source)) in
    items_append (feeds first) (middle ++ (if eos then Feed (Ev Eos) ∷ [] else []))
    ∙ ap (λ (zs : List Item). zs ++ items (middle ++ (if eos then Feed (Ev Eos) ∷ [] else []))) (items_feeds first)
    ∙ ap (λ (zs : List Item). first ++ zs) (items_append middle (if eos then Feed (Ev Eos) ∷ [] else [])
    ∙ ap (λ (zs : List Item). zs ++ items (if eos then Feed (Ev Eos) ∷ [] else [])) (items_marked marks from (between from to (h source)))
    ∙ ap (λ (zs : List Item). between from to (h source) ++ zs) (by eos))
  where
    by : (b : Bool) → items (if b then Feed (Ev Eos) ∷ [] else []) ≡ (if b then Ev Eos ∷ [] else [])
    by true = refl
    by false = refl

module _ (h : ℕ → List Item) (calm : (p : ℕ) → has_flush_stop (h p) ≡ false) where
  unflushed : (p : ℕ) → list_any is_flush_stop (h p) ≡ false
  unflushed p = sym (flush_among (h p)) ∙ calm p

  -- of what crossed a part
  open_part : (p n : ℕ) → has_ended (take n (h p)) ≡ false → list_any is_eos (take n (h p)) ≡ false
  open_part p n e = sym (ended_among (take n (h p)) (flush_among (take n (h p)) ∙ (none_split is_flush_stop n (h p) (unflushed p)).0)) ∙ e

  was_eos : (source from to : ℕ) (eos : Bool) (marks : List (ℕ × Mark)) → has_ended (take from (h source)) ≡ false → has_ended (take to (h source)) ≡ false
      → list_any is_eos (items (span_calls h (WasLinked source from to eos marks))) ≡ eos
  was_eos source from to eos marks first last =
      let start = stickies (take from (h source)) in
      let middle = between from to (h source) in
      ap (list_any is_eos) (was_items h source from to eos marks)
      ∙ list_any-append is_eos start (middle ++ (if eos then Ev Eos ∷ [] else []))
      ∙ ap (λ (b : Bool). b || list_any is_eos (middle ++ (if eos then Ev Eos ∷ [] else []))) (eos_in_force (take from (h source)) first)
      ∙ list_any-append is_eos middle (if eos then Ev Eos ∷ [] else [])
      ∙ ap (λ (b : Bool). b || list_any is_eos (if eos then Ev Eos ∷ [] else [])) (none_between is_eos from to (h source) (open_part source to last))
      ∙ by eos
    where
      by : (b : Bool) → list_any is_eos (if b then Ev Eos ∷ [] else []) ≡ b
      by true = refl
      by false = refl

  was_unflushed : (source from to : ℕ) (eos : Bool) (marks : List (ℕ × Mark)) → list_any is_flush_stop (items (span_calls h (WasLinked source from to eos marks))) ≡ false
  was_unflushed source from to eos marks =
      let start = stickies (take from (h source)) in
      let middle = between from to (h source) in
      ap (list_any is_flush_stop) (was_items h source from to eos marks)
      ∙ none_both is_flush_stop start (middle ++ (if eos then Ev Eos ∷ [] else [])) (flush_in_force (take from (h source)))
      (none_both is_flush_stop middle (if eos then Ev Eos ∷ [] else []) (none_between is_flush_stop from to (h source) (none_split is_flush_stop to (h source) (unflushed source)).0) (by eos))
    where
      by : (b : Bool) → list_any is_flush_stop (if b then Ev Eos ∷ [] else []) ≡ false
      by true = refl
      by false = refl

  link_eos : (source from : ℕ) (marks : List (ℕ × Mark)) → has_ended (take from (h source)) ≡ false
      → list_any is_eos (items (span_calls h (Linked source from marks))) ≡ has_ended (h source)
  link_eos source from marks first =
      let start = stickies (take from (h source)) in
      ap (list_any is_eos) (link_items h source from marks)
      ∙ list_any-append is_eos start (drop from (h source))
      ∙ ap (λ (b : Bool). b || list_any is_eos (drop from (h source))) (eos_in_force (take from (h source)) first ∙ sym (open_part source from first))
      ∙ sym (list_any-append is_eos (take from (h source)) (drop from (h source)))
      ∙ ap (list_any is_eos) (take-append-drop from (h source))
      ∙ sym (ended_among (h source) (calm source))

  link_unflushed : (source from : ℕ) (marks : List (ℕ × Mark)) → list_any is_flush_stop (items (span_calls h (Linked source from marks))) ≡ false
  link_unflushed source from marks =
      ap (list_any is_flush_stop) (link_items h source from marks)
      ∙ none_both is_flush_stop (stickies (take from (h source))) (drop from (h source)) (flush_in_force (take from (h source))) (none_split is_flush_stop from (h source) (unflushed source)).1

  -- one span before others
  given_first : (q : Item → Bool) (span : Span) (ss : List Span)
      → list_any q (items (input_of h (span ∷ ss))) ≡ (list_any q (items (span_calls h span)) || list_any q (items (input_of h ss)))
  given_first q span ss = ap (list_any q) (items_append (span_calls h span) (input_of h ss)) ∙ list_any-append q (items (span_calls h span)) (items (input_of h ss))

  none_flushed : (ss : List Span) → AreOpen h ss → list_any is_flush_stop (items (input_of h ss)) ≡ false
  none_flushed [] early = refl
  none_flushed (Linked source from marks ∷ ss) early =
      given_first is_flush_stop (Linked source from marks) ss
      ∙ or_from (list_any is_flush_stop (items (span_calls h (Linked source from marks)))) (list_any is_flush_stop (items (input_of h ss))) (link_unflushed source from marks) (none_flushed ss early.1)
  none_flushed (WasLinked source from to eos marks ∷ ss) early =
      given_first is_flush_stop (WasLinked source from to eos marks) ss
      ∙ or_from (list_any is_flush_stop (items (span_calls h (WasLinked source from to eos marks)))) (list_any is_flush_stop (items (input_of h ss)))
      (was_unflushed source from to eos marks) (none_flushed ss early.2)
  none_flushed (Flushed number ∷ ss) early = absurd early
  none_flushed (Given calls ∷ ss) early = absurd early

  -- where no link stands
  closed_eos : (ss : List Span) → AreOpen h ss → is_linked ss ≡ false → list_any is_eos (items (input_of h ss)) ≡ was_ended ss
  closed_eos [] early free = refl
  closed_eos (Linked source from marks ∷ ss) early free = absurd (true≢false free)
  closed_eos (WasLinked source from to eos marks ∷ ss) early free =
      given_first is_eos (WasLinked source from to eos marks) ss
      ∙ ap (λ (b : Bool). b || list_any is_eos (items (input_of h ss))) (was_eos source from to eos marks early.0 early.1)
      ∙ ap (λ (b : Bool). eos || b) (closed_eos ss early.2 free)
  closed_eos (Flushed number ∷ ss) early free = absurd early
  closed_eos (Given calls ∷ ss) early free = absurd early

  -- where one from this source pad does
  standing_eos : (p : ℕ) (ss : List Span) → AreWithin h ss → AreOpen h ss → links_from p ss ≡ true → was_ended ss ≡ false → list_any is_eos (items (input_of h ss)) ≡ has_ended (h p)
  standing_eos p [] within early stands none = absurd (false≢true stands)
  standing_eos p (Linked source from marks ∷ ss) within early stands none =
      rw within.1 (rw (append-nil (span_calls h (Linked source from marks))) (link_eos source from marks early.0 ∙ ap (λ (n : ℕ). has_ended (h n)) (same (eqb_tells source p) (rw within.1 at stands))))
    where
      same : ((eqb source p ≡ true) × (source ≡ p)) ⊎ ((eqb source p ≡ false) × (source ≡ p → ⊥)) → (if eqb source p then true else false) ≡ true → source ≡ p
      same (inl t) e = t.1
      same (inr t) e = absurd (false≢true (rw t.0 at e))
  standing_eos p (WasLinked source from to eos marks ∷ ss) within early stands none =
      let parts = or_parts eos (was_ended ss) none in
      given_first is_eos (WasLinked source from to eos marks) ss
      ∙ ap (λ (b : Bool). b || list_any is_eos (items (input_of h ss))) (was_eos source from to eos marks early.0 early.1 ∙ parts.0)
      ∙ standing_eos p ss within.2 early.2 stands parts.1
  standing_eos p (Flushed number ∷ ss) within early stands none = absurd early
  standing_eos p (Given calls ∷ ss) within early stands none = absurd early

  pub ended_free : (ss : List Span) → AreOpen h ss → is_linked ss ≡ false → has_ended (items (input_of h ss)) ≡ was_ended ss
  ended_free ss early free = ended_among (items (input_of h ss)) (flush_among (items (input_of h ss)) ∙ none_flushed ss early) ∙ closed_eos ss early free

  pub ended_linked : (p : ℕ) (ss : List Span) → AreWithin h ss → AreOpen h ss → links_from p ss ≡ true → was_ended ss ≡ false → has_ended (items (input_of h ss)) ≡ has_ended (h p)
  ended_linked p ss within early stands none =
      ended_among (items (input_of h ss)) (flush_among (items (input_of h ss)) ∙ none_flushed ss early) ∙ standing_eos p ss within early stands none

-- ---- spans, where histories grow, and links are undone and made

pub open_grows : (h h' : ℕ → List Item) → ((p : ℕ) → IsPrefix (h p) (h' p)) → (ss : List Span) → AreWithin h ss → AreOpen h ss → AreOpen h' ss
open_grows h h' longer [] within early = tt
open_grows h h' longer (Linked source from marks ∷ ss) within early =
    (ap has_ended (sym (take_prefix from (longer source) within.0)) ∙ early.0, rw within.1 tt)
open_grows h h' longer (WasLinked source from to eos marks ∷ ss) within early = (
  ap has_ended (sym (take_prefix from (longer source) within.0)) ∙ early.0,
  ap has_ended (sym (take_prefix to (longer source) within.1)) ∙ early.1,
  open_grows h h' longer ss within.2 early.2,
)
open_grows h h' longer (Flushed number ∷ ss) within early = early
open_grows h h' longer (Given calls ∷ ss) within early = early

pub undo_open : (h : ℕ → List Item) (p place : ℕ) (eos : Bool) → has_ended (take place (h p)) ≡ false → (ss : List Span) → AreOpen h ss → AreOpen h (map (undo p place eos) ss)
undo_open h p place eos here [] early = tt
undo_open h p place eos here (Linked source from marks ∷ ss) early = go (eqb_tells source p) (undo_open h p place eos here ss early.1)
  where
    go : ((eqb source p ≡ true) × (source ≡ p)) ⊎ ((eqb source p ≡ false) × (source ≡ p → ⊥)) → AreOpen h (map (undo p place eos) ss)
        → AreOpen h ((if eqb source p then WasLinked source from place eos marks else Linked source from marks) ∷ map (undo p place eos) ss)
    go (inl t) rest = rw t.0 (early.0, subst (λ (q : ℕ). has_ended (take place (h q)) ≡ false) (sym t.1) here, rest)
    go (inr t) rest = rw t.0 (early.0, rest)
undo_open h p place eos here (WasLinked source from to ended marks ∷ ss) early = (early.0, early.1, undo_open h p place eos here ss early.2)
undo_open h p place eos here (Flushed number ∷ ss) early = early
undo_open h p place eos here (Given calls ∷ ss) early = early

pub push_open : (h : ℕ → List Item) (p place : ℕ) → has_ended (take place (h p)) ≡ false → (ss : List Span) → AreOpen h ss → AreOpen h (ss ++ Linked p place [] ∷ [])
push_open h p place here [] early = (here, tt)
push_open h p place here (Linked source from marks ∷ ss) early = (early.0, push_open h p place here ss early.1)
push_open h p place here (WasLinked source from to eos marks ∷ ss) early = (early.0, early.1, push_open h p place here ss early.2)
push_open h p place here (Flushed number ∷ ss) early = early
push_open h p place here (Given calls ∷ ss) early = early

pub push_ended : (p place : ℕ) (ss : List Span) → was_ended (ss ++ Linked p place [] ∷ []) ≡ was_ended ss
push_ended p place [] = refl
push_ended p place (Linked source from marks ∷ ss) = push_ended p place ss
push_ended p place (WasLinked source from to eos marks ∷ ss) = ap (λ (b : Bool). eos || b) (push_ended p place ss)
push_ended p place (Flushed number ∷ ss) = push_ended p place ss
push_ended p place (Given calls ∷ ss) = push_ended p place ss

-- without EOS it is as it was
pub dropped_ended : (p place : ℕ) (ss : List Span) → was_ended (map (undo p place false) ss) ≡ was_ended ss
dropped_ended p place [] = refl
dropped_ended p place (Linked source from marks ∷ ss) = go (eqb source p) (dropped_ended p place ss)
  where
    go : (b : Bool) → was_ended (map (undo p place false) ss) ≡ was_ended ss
        → was_ended ((if b then WasLinked source from place false marks else Linked source from marks) ∷ map (undo p place false) ss) ≡ was_ended ss
    go true e = e
    go false e = e
dropped_ended p place (WasLinked source from to eos marks ∷ ss) = ap (λ (b : Bool). eos || b) (dropped_ended p place ss)
dropped_ended p place (Flushed number ∷ ss) = dropped_ended p place ss
dropped_ended p place (Given calls ∷ ss) = dropped_ended p place ss

-- and with EOS it has ended where a link of this source pad stood
pub closed_ended : (p place : ℕ) (ss : List Span) → was_ended (map (undo p place true) ss) ≡ (was_ended ss || links_from p ss)
closed_ended p place [] = refl
closed_ended p place (Linked source from marks ∷ ss) = go (eqb source p) (closed_ended p place ss)
  where
    or_true : (b : Bool) → true ≡ (b || true)
    or_true true = refl
    or_true false = refl

    go : (b : Bool) → was_ended (map (undo p place true) ss) ≡ (was_ended ss || links_from p ss)
        → was_ended ((if b then WasLinked source from place true marks else Linked source from marks) ∷ map (undo p place true) ss) ≡ (was_ended ss || (if b then true else links_from p ss))
    go true e = or_true (was_ended ss)
    go false e = e
closed_ended p place (WasLinked source from to eos marks ∷ ss) = ap (λ (b : Bool). eos || b) (closed_ended p place ss) ∙ grouped eos
  where
    grouped : (b : Bool) → (b || (was_ended ss || links_from p ss)) ≡ ((b || was_ended ss) || links_from p ss)
    grouped true = refl
    grouped false = refl
closed_ended p place (Flushed number ∷ ss) = closed_ended p place ss
closed_ended p place (Given calls ∷ ss) = closed_ended p place ss
