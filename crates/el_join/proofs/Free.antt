-- Lists without FLUSH_STOP.
use Rattle.std.proofs.Common.{◌≡◌, Bool, true, false, if◌then◌else◌, Option, Some, None, List, [], ◌∷◌, ◌++◌, map, Result, Ok, Err, refl, ap}
use Rattle.gst_item.specs.declared.out.Out.{Out}
use Rattle.flow_model.specs.Item.{Item, Buf, Ev, StreamStart, NewCaps, NewSegment, Tag, Gap, FlushStop, Eos, Segment, is_flush_stop}
use Rattle.flow_model.specs.Sticky.{has_flush_stop}
use Rattle.flow_model.specs.Feeding.{on_pad}
use Rattle.flow_model.specs.Rule.{Fault}
use Rattle.el_join.specs.declared.inherited.Inherited.{Inherited}
use Rattle.el_join.specs.declared.sums.Sums.{Sums}
use Rattle.el_join.specs.Outs.{items_of}
use Rattle.el_join.specs.Pads.{kept, opening_of}
use Rattle.el_join.specs.Totals.{raised_segment, as_item, lifted, ok_or}
use Rattle.flow_model.proofs.Items.{free_append}
use Rattle.flow_model.specs.Inherited.{start_event, caps_event, tag_event}

pub items_on_pad : (xs : List Item) → items_of (on_pad 0 xs) ≡ xs
items_on_pad [] = refl
items_on_pad (x ∷ xs) = ap (λ ys. x ∷ ys) (items_on_pad xs)

items_append : (xs ys : List Out) → items_of (xs ++ ys) ≡ items_of xs ++ items_of ys
items_append [] ys = refl
items_append (x ∷ xs) ys = ap (λ zs. x.item ∷ zs) (items_append xs ys)

pub added_free : (b : Bool) (old more new : List Out) → has_flush_stop (items_of old) ≡ false → has_flush_stop (items_of more) ≡ false
    → new ≡ (if b then old ++ more else old) → has_flush_stop (items_of new) ≡ false
added_free true old more new h k e = rw (e, items_append old more) (free_append (items_of old) (items_of more) h k)
added_free false old more new h k e = rw e h

pub kept_free : (i : Inherited) → has_flush_stop (kept i) ≡ false
kept_free i = go i.stream_start i.caps i.tag
  where
    tags : (t : Option _) → has_flush_stop (tag_event t) ≡ false
    tags None = refl
    tags (Some title) = refl

    caps : (c : Option _) (t : Option _) → has_flush_stop (caps_event c ++ tag_event t) ≡ false
    caps None t = tags t
    caps (Some c) t = tags t

    go : (s : Option _) (c : Option _) (t : Option _) → has_flush_stop (start_event s ++ (caps_event c ++ tag_event t)) ≡ false
    go None c t = caps c t
    go (Some id) c t = caps c t

pub opening_free : (begun : Bool) (i : Inherited) → has_flush_stop (opening_of begun i) ≡ false
opening_free true i = refl
opening_free false i = kept_free i

pub one_free : (x : Item) → is_flush_stop x ≡ false → has_flush_stop (x ∷ []) ≡ false
one_free x h = rw h refl

-- a raised item is a FLUSH_STOP where the item is one
pub lifted_stop : (sums : Sums) (x : Item) → is_flush_stop (lifted sums x) ≡ is_flush_stop x
lifted_stop sums (Ev (NewSegment s)) = go (raised_segment sums s)
  where
    go : (r : Result Segment Fault) → is_flush_stop (ok_or (as_item r) (Ev (NewSegment s))) ≡ false
    go (Ok t) = refl
    go (Err fault) = refl
lifted_stop sums (Buf b) = refl
lifted_stop sums (Ev (StreamStart id)) = refl
lifted_stop sums (Ev (NewCaps caps)) = refl
lifted_stop sums (Ev (Tag title)) = refl
lifted_stop sums (Ev (Gap pts duration)) = refl
lifted_stop sums (Ev (FlushStop number)) = refl
lifted_stop sums (Ev Eos) = refl

pub lifted_free : (sums : Sums) (xs : List Item) → has_flush_stop (map (lifted sums) xs) ≡ has_flush_stop xs
lifted_free sums [] = refl
lifted_free sums (x ∷ xs) = rw (lifted_stop sums x, lifted_free sums xs) refl
