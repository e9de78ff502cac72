-- What a pad knows, with one item more.
use Rattle.std.proofs.Common.{◌≡◌, ℕ, suc, Bool, true, false, if◌then◌else◌, Option, Some, None, List, [], ◌∷◌, ◌++◌, refl, sym, ap, ◌∙◌, subst, append-nil, append_assoc}
use Rattle.std.specs.Prelude.{fold}
use Rattle.gst_value.specs.Description.{Description}
use Rattle.gst_value.specs.declared.one.One.{One}
use Rattle.gst_item.proofs.Kept.{latest_push}
use Rattle.flow_model.specs.Item.{Item, Event, Buf, Ev, StreamStart, NewCaps, NewSegment, Tag, Gap, FlushStop, Eos, is_flush_stop, is_eos, is_stream_start, is_caps, is_tag}
use Rattle.flow_model.specs.Sticky.{latest}
use Rattle.flow_model.specs.Section.{counted}
use Rattle.flow_model.specs.Call.{Call, Feed, items}
use Rattle.flow_model.proofs.Calls.{items_push, eos_taken, eos_stays, eos_flushed}
use Rattle.flow_model.proofs.Counted.{counted_taken, counted_behind, counted_flush}
use Rattle.flow_model.specs.SinkPads.{flush_stops_given}
use Rattle.el_join.specs.declared.inherited.Inherited.{Inherited}
use Rattle.el_join.specs.declared.pad.Facts.{Facts}
use Rattle.el_join.specs.declared.tally.Tally.{Tally}
use Rattle.el_join.specs.Totals.{tallied, no_tally, tally_of}
use Rattle.el_join.specs.Pads.{kept, opening_of, note_of, tally_noted, inherited_noted, noted, ended, cleared, laid}
use Rattle.el_join.specs.Sections.{reopened, reopened_of}
use Rattle.el_join.specs.Concats.{before_eos, has_end}
use Rattle.el_join.specs.Joins.{Knows, Counts}
use Rattle.el_join.proofs.Opened.{end_append, reopened_behind, reopened_push, reopened_flushed}
use Rattle.flow_model.proofs.Items.{stops_of}
use Rattle.flow_model.specs.Inherited.{is_inherited, inherited, start_event, caps_event, tag_event}
use Rattle.gst_item.specs.Item.{has_item}

-- the events that are noted
start_noted : (i : Inherited) (x : Item) → start_event (inherited_noted i (note_of x)).stream_start ≡ (if is_stream_start x then x ∷ [] else start_event i.stream_start)
start_noted i (Buf b) = refl
start_noted i (Ev (StreamStart id)) = refl
start_noted i (Ev (NewCaps caps)) = refl
start_noted i (Ev (NewSegment s)) = refl
start_noted i (Ev (Tag title)) = refl
start_noted i (Ev (Gap pts duration)) = refl
start_noted i (Ev (FlushStop number)) = refl
start_noted i (Ev Eos) = refl

caps_noted : (i : Inherited) (x : Item) → caps_event (inherited_noted i (note_of x)).caps ≡ (if is_caps x then x ∷ [] else caps_event i.caps)
caps_noted i (Buf b) = refl
caps_noted i (Ev (StreamStart id)) = refl
caps_noted i (Ev (NewCaps caps)) = refl
caps_noted i (Ev (NewSegment s)) = refl
caps_noted i (Ev (Tag title)) = refl
caps_noted i (Ev (Gap pts duration)) = refl
caps_noted i (Ev (FlushStop number)) = refl
caps_noted i (Ev Eos) = refl

tag_noted : (i : Inherited) (x : Item) → tag_event (inherited_noted i (note_of x)).tag ≡ (if is_tag x then x ∷ [] else tag_event i.tag)
tag_noted i (Buf b) = refl
tag_noted i (Ev (StreamStart id)) = refl
tag_noted i (Ev (NewCaps caps)) = refl
tag_noted i (Ev (NewSegment s)) = refl
tag_noted i (Ev (Tag title)) = refl
tag_noted i (Ev (Gap pts duration)) = refl
tag_noted i (Ev (FlushStop number)) = refl
tag_noted i (Ev Eos) = refl

tally_is : (t : Tally) (x : Item) → tally_noted t (note_of x) ≡ tallied t x
tally_is t (Buf b) = refl
tally_is t (Ev (StreamStart id)) = refl
tally_is t (Ev (NewCaps caps)) = refl
tally_is t (Ev (NewSegment s)) = refl
tally_is t (Ev (Tag title)) = refl
tally_is t (Ev (Gap pts duration)) = refl
tally_is t (Ev (FlushStop number)) = refl
tally_is t (Ev Eos) = refl

-- with an item in a section without EOS
knows_item : (f g : Facts) (cs : List Call) (x : Item) → is_flush_stop x ≡ false → f.ended ≡ false → g.inherited ≡ inherited_noted f.inherited (note_of x) → g.ended ≡ is_eos x
    → Knows f cs → Knows g (cs ++ Feed x ∷ [])
knows_item f g cs x plain none inh ends k =
    let more = counted_taken cs x (k.eos ∙ none) in
    record {
      stream_start = ap (λ (i : Inherited). start_event i.stream_start) inh ∙ start_noted f.inherited x ∙ ap (λ ys. if is_stream_start x then x ∷ [] else ys) k.stream_start
          ∙ sym (latest_push is_stream_start (counted (items cs)) x) ∙ ap (latest is_stream_start) (sym more);
      caps = ap (λ (i : Inherited). caps_event i.caps) inh ∙ caps_noted f.inherited x ∙ ap (λ ys. if is_caps x then x ∷ [] else ys) k.caps
          ∙ sym (latest_push is_caps (counted (items cs)) x) ∙ ap (latest is_caps) (sym more);
      tag = ap (λ (i : Inherited). tag_event i.tag) inh ∙ tag_noted f.inherited x ∙ ap (λ ys. if is_tag x then x ∷ [] else ys) k.tag
          ∙ sym (latest_push is_tag (counted (items cs)) x) ∙ ap (latest is_tag) (sym more);
      eos = eos_taken cs x plain (k.eos ∙ none) ∙ sym ends;
    }

pub knows_noted : (f : Facts) (cs : List Call) (x : Item) → is_flush_stop x ≡ false → is_eos x ≡ false → f.ended ≡ false → Knows f cs → Knows (noted f (note_of x)) (cs ++ Feed x ∷ [])
knows_noted f cs x plain more none k = knows_item f (noted f (note_of x)) cs x plain none refl (none ∙ sym more) k

pub knows_ended : (f : Facts) (cs : List Call) → f.ended ≡ false → Knows f cs → Knows (ended f) (cs ++ Feed (Ev Eos) ∷ [])
knows_ended f cs none k = knows_item f (ended f) cs (Ev Eos) refl none refl refl k

-- behind its EOS
pub knows_behind : (f : Facts) (cs : List Call) (x : Item) → is_flush_stop x ≡ false → f.ended ≡ true → Knows f cs → Knows f (cs ++ Feed x ∷ [])
knows_behind f cs x plain over k =
    let same = counted_behind cs x (k.eos ∙ over) plain ∙ append-nil (counted (items cs)) in
    record {
      stream_start = k.stream_start ∙ ap (latest is_stream_start) (sym same);
      caps = k.caps ∙ ap (latest is_caps) (sym same);
      tag = k.tag ∙ ap (latest is_tag) (sym same);
      eos = eos_stays cs x plain (k.eos ∙ over) ∙ sym over;
    }

-- with an event that is laid
inherited_plain : (e : Event) → is_inherited e ≡ true → (is_flush_stop (Ev e) ≡ false) × (is_eos (Ev e) ≡ false)
inherited_plain (StreamStart id) h = (refl, refl)
inherited_plain (NewCaps caps) h = (refl, refl)
inherited_plain (NewSegment s) h = (refl, refl)
inherited_plain (Tag title) h = (refl, refl)
inherited_plain (Gap pts duration) h = (refl, refl)
inherited_plain (FlushStop number) h = absurd (cc)
inherited_plain Eos h = absurd (cc)

pub plain_of : (e : Event) → is_inherited e ≡ true → is_flush_stop (Ev e) ≡ false
plain_of e h = (inherited_plain e h).0

pub knows_laid : (f : Facts) (cs : List Call) (e : Event) → is_inherited e ≡ true → Knows f cs → Knows (laid f e) (cs ++ Feed (Ev e) ∷ [])
knows_laid f cs e h k = go f.ended refl
  where
    go : (b : Bool) → f.ended ≡ b → Knows (if b then f else record f { inherited = inherited_noted f.inherited (note_of (Ev e)) }) (cs ++ Feed (Ev e) ∷ [])
    go true over = knows_behind f cs (Ev e) (inherited_plain e h).0 over k
    go false none = knows_item f (record f { inherited = inherited_noted f.inherited (note_of (Ev e)) }) cs (Ev e) (inherited_plain e h).0 none refl (none ∙ sym (inherited_plain e h).1) k

pub knows_flushed : (f : Facts) (cs : List Call) (number : ℕ) → Knows f cs → Knows (cleared f) (cs ++ Feed (Ev (FlushStop number)) ∷ [])
knows_flushed f cs number k =
    let x = Ev (FlushStop number) in let more = counted_flush cs number in
    record {
      stream_start = k.stream_start ∙ sym (latest_push is_stream_start (counted (items cs)) x) ∙ ap (latest is_stream_start) (sym more);
      caps = k.caps ∙ sym (latest_push is_caps (counted (items cs)) x) ∙ ap (latest is_caps) (sym more);
      tag = k.tag ∙ sym (latest_push is_tag (counted (items cs)) x) ∙ ap (latest is_tag) (sym more);
      eos = eos_flushed cs number;
    }

-- what goes out in front of an item
pub kept_is : (f : Facts) (cs : List Call) → Knows f cs → kept f.inherited ≡ inherited (counted (items cs))
kept_is f cs k =
    ap (λ xs. xs ++ (caps_event f.inherited.caps ++ tag_event f.inherited.tag)) k.stream_start
    ∙ ap (λ xs. latest is_stream_start (counted (items cs)) ++ (xs ++ tag_event f.inherited.tag)) k.caps
    ∙ ap (λ xs. latest is_stream_start (counted (items cs)) ++ (latest is_caps (counted (items cs)) ++ xs)) k.tag

kept_counts : (t : Tally) (i : Inherited) → fold tallied t (kept i) ≡ t
kept_counts t i = go i.stream_start i.caps i.tag
  where
    tags : (g : Option (List ℕ)) → fold tallied t (tag_event g) ≡ t
    tags None = refl
    tags (Some title) = refl

    caps : (c : Option (Description One)) (g : Option (List ℕ)) → fold tallied t (caps_event c ++ tag_event g) ≡ t
    caps None g = tags g
    caps (Some c) g = tags g

    go : (s : Option ℕ) (c : Option (Description One)) (g : Option (List ℕ)) → fold tallied t (start_event s ++ (caps_event c ++ tag_event g)) ≡ t
    go None c g = caps c g
    go (Some id) c g = caps c g

opening_counts : (t : Tally) (begun : Bool) (i : Inherited) → fold tallied t (opening_of begun i) ≡ t
opening_counts t true i = refl
opening_counts t false i = kept_counts t i

kept_no_eos : (i : Inherited) → has_end (kept i) ≡ false
kept_no_eos i = go i.stream_start i.caps i.tag
  where
    tags : (g : Option (List ℕ)) → has_end (tag_event g) ≡ false
    tags None = refl
    tags (Some title) = refl

    caps : (c : Option (Description One)) (g : Option (List ℕ)) → has_end (caps_event c ++ tag_event g) ≡ false
    caps None g = tags g
    caps (Some c) g = tags g

    go : (s : Option ℕ) (c : Option (Description One)) (g : Option (List ℕ)) → has_end (start_event s ++ (caps_event c ++ tag_event g)) ≡ false
    go None c g = caps c g
    go (Some id) c g = caps c g

pub opening_no_eos : (begun : Bool) (i : Inherited) → has_end (opening_of begun i) ≡ false
opening_no_eos true i = refl
opening_no_eos false i = kept_no_eos i

fold_append : (t : Tally) (xs ys : List Item) → fold tallied t (xs ++ ys) ≡ fold tallied (fold tallied t xs) ys
fold_append t [] ys = refl
fold_append t (x ∷ xs) ys = fold_append (tallied t x) xs ys

pub before_none : (xs : List Item) → has_end xs ≡ false → before_eos xs ≡ xs
before_none [] h = refl
before_none (x ∷ xs) h = go (is_eos x) h (before_none xs)
  where
    go : (b : Bool) → (if b then true else has_end xs) ≡ false → (has_end xs ≡ false → before_eos xs ≡ xs) → (if b then [] else x ∷ before_eos xs) ≡ x ∷ xs
    go true h rest = absurd (cc)
    go false h rest = ap (λ ys. x ∷ ys) (rest h)

before_end : (xs : List Item) → has_end xs ≡ false → before_eos (xs ++ Ev Eos ∷ []) ≡ xs
before_end [] h = refl
before_end (x ∷ xs) h = go (is_eos x) h (before_end xs)
  where
    go : (b : Bool) → (if b then true else has_end xs) ≡ false → (has_end xs ≡ false → before_eos (xs ++ Ev Eos ∷ []) ≡ xs) → (if b then [] else x ∷ before_eos (xs ++ Ev Eos ∷ [])) ≡ x ∷ xs
    go true h rest = absurd (cc)
    go false h rest = ap (λ ys. x ∷ ys) (rest h)

item_last : (xs ys : List Item) (x : Item) → has_item (xs ++ (ys ++ x ∷ [])) ≡ true
item_last [] [] x = refl
item_last [] (y ∷ ys) x = refl
item_last (z ∷ zs) ys x = refl

-- A pad's list with an item, and with EOS: what stands before its EOS, and whether it has one.
pub record Longer (xs ys more : List Item) (over : Bool) : Type 0 where
  pub before : before_eos ys ≡ before_eos xs ++ more
  pub over_is : has_end ys ≡ over

module _ (f : Facts) (xs : List Item) (none : has_end xs ≡ false) where
  front_none : has_end (xs ++ opening_of f.begun f.inherited) ≡ false
  front_none = end_append xs (opening_of f.begun f.inherited) none ∙ opening_no_eos f.begun f.inherited

  pub longer_item : (x : Item) → is_eos x ≡ false → Longer xs (xs ++ (opening_of f.begun f.inherited ++ x ∷ [])) (opening_of f.begun f.inherited ++ x ∷ []) false
  longer_item x more =
      let over : has_end (xs ++ (opening_of f.begun f.inherited ++ x ∷ [])) ≡ false =
      end_append xs (opening_of f.begun f.inherited ++ x ∷ []) none ∙ end_append (opening_of f.begun f.inherited) (x ∷ []) (opening_no_eos f.begun f.inherited) ∙ ap (λ b. if b then true else false) more in
      record { before = before_none (xs ++ (opening_of f.begun f.inherited ++ x ∷ [])) over ∙ ap (λ ys. ys ++ (opening_of f.begun f.inherited ++ x ∷ [])) (sym (before_none xs none)); over_is = over }

  pub longer_end : Longer xs (xs ++ (opening_of f.begun f.inherited ++ Ev Eos ∷ [])) (opening_of f.begun f.inherited) true
  longer_end = record {
    before = ap before_eos (sym (append_assoc xs (opening_of f.begun f.inherited) (Ev Eos ∷ []))) ∙ before_end (xs ++ opening_of f.begun f.inherited) front_none
        ∙ ap (λ ys. ys ++ opening_of f.begun f.inherited) (sym (before_none xs none));
    over_is = end_append xs (opening_of f.begun f.inherited ++ Ev Eos ∷ []) none ∙ end_append (opening_of f.begun f.inherited) (Ev Eos ∷ []) (opening_no_eos f.begun f.inherited);
  }

pub counts_noted : (f : Facts) (xs : List Item) (x : Item) → is_eos x ≡ false → f.ended ≡ false → Counts f xs
    → Counts (noted f (note_of x)) (xs ++ (opening_of f.begun f.inherited ++ x ∷ []))
counts_noted f xs x more none k =
    let l = longer_item f xs (sym k.ended ∙ none) x more in
    record {
      begun = sym (item_last xs (opening_of f.begun f.inherited) x);
      ended = none ∙ sym l.over_is;
      tally = tally_is f.tally x ∙ ap (λ t. tallied t x) k.tally
          ∙ ap (λ t. tallied t x) (sym (opening_counts (tally_of (before_eos xs)) f.begun f.inherited))
          ∙ sym (fold_append (tally_of (before_eos xs)) (opening_of f.begun f.inherited) (x ∷ []))
          ∙ sym (fold_append no_tally (before_eos xs) (opening_of f.begun f.inherited ++ x ∷ []))
          ∙ ap tally_of (sym l.before);
    }

pub counts_ended : (f : Facts) (xs : List Item) → f.ended ≡ false → Counts f xs → Counts (ended f) (xs ++ (opening_of f.begun f.inherited ++ Ev Eos ∷ []))
counts_ended f xs none k =
    let l = longer_end f xs (sym k.ended ∙ none) in
    record {
      begun = sym (item_last xs (opening_of f.begun f.inherited) (Ev Eos));
      ended = sym l.over_is;
      tally = k.tally ∙ sym (opening_counts (tally_of (before_eos xs)) f.begun f.inherited) ∙ sym (fold_append no_tally (before_eos xs) (opening_of f.begun f.inherited)) ∙ ap tally_of (sym l.before);
    }

-- the open section of a pad with one item more
pub reopened_next : (n : ℕ) (f : Facts) (cs : List Call) (x : Item) → is_flush_stop x ≡ false → f.ended ≡ false → flush_stops_given cs ≡ n → Knows f cs → Counts f (reopened_of n cs)
    → reopened_of n (cs ++ Feed x ∷ []) ≡ reopened_of n cs ++ (opening_of f.begun f.inherited ++ x ∷ [])
reopened_next n f cs x plain none level k c =
    ap (reopened n) (items_push cs x) ∙ reopened_push n (items cs) x plain (sym (stops_of cs) ∙ level) (sym c.ended ∙ none)
    ∙ ap (λ (b : Bool). reopened_of n cs ++ ((if b then [] else inherited (counted (items cs))) ++ x ∷ [])) (sym c.begun)
    ∙ ap (λ (ys : List Item). reopened_of n cs ++ ((if f.begun then [] else ys) ++ x ∷ [])) (sym (kept_is f cs k))

pub reopened_same : (n : ℕ) (f : Facts) (cs : List Call) (x : Item) → is_flush_stop x ≡ false → f.ended ≡ true → flush_stops_given cs ≡ n → Counts f (reopened_of n cs)
    → reopened_of n (cs ++ Feed x ∷ []) ≡ reopened_of n cs
reopened_same n f cs x plain over level c = ap (reopened n) (items_push cs x) ∙ reopened_behind n (items cs) x plain (sym (stops_of cs) ∙ level) (sym c.ended ∙ over)

pub counts_flushed : (n : ℕ) (f : Facts) (cs : List Call) (number : ℕ) → flush_stops_given cs ≡ n → Counts (cleared f) (reopened_of (suc n) (cs ++ Feed (Ev (FlushStop number)) ∷ []))
counts_flushed n f cs number level =
    let empty = ap (reopened (suc n)) (items_push cs (Ev (FlushStop number))) ∙ reopened_flushed n (items cs) number (sym (stops_of cs) ∙ level) in
    subst (λ (xs : List Item). Counts (cleared f) xs) (sym empty) (record { begun = refl; ended = refl; tally = refl })
