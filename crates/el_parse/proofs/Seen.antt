-- What is seen by looking back over a list: the bytes of its last part, and the SEGMENT and the buffer that stand
-- last behind the last FLUSH_STOP.
use Rattle.std.proofs.Common.{◌≡◌, ℕ, Bool, true, false, if◌then◌else◌, List, [], ◌∷◌, ◌++◌, refl, sym, ap, ◌∙◌, append_assoc, append-nil}
use Rattle.std.specs.Prelude.{◌||◌}
use Rattle.flow_model.specs.Item.{Item, is_segment, is_flush_stop, is_buffer, body_of}
use Rattle.flow_model.specs.Sticky.{latest, since_flush_stop, in_force}
use Rattle.el_parse.specs.Part.{begins_part, has_beginning, last_part, part_bytes}
use Rattle.flow_model.specs.Looking.{bytes_of}
use Rattle.flow_model.proofs.Looking.{bytes_push}
use Rattle.gst_item.proofs.Kept.{latest_since}

pub record Seen : Type 0 where
  pub bytes : List ℕ
  pub segment : List Item
  pub buffer : List Item

abbrev pub seen : List Item → Seen
seen h = record { bytes = part_bytes h; segment = (in_force h).segment; buffer = latest is_buffer (since_flush_stop h) }

-- with one more item
abbrev pub seen_one : Seen → Item → Seen
seen_one s x = record {
  bytes = if begins_part x then [] else s.bytes ++ body_of x;
  segment = if is_flush_stop x then [] else (if is_segment x then x ∷ [] else s.segment);
  buffer = if is_flush_stop x then [] else (if is_buffer x then x ∷ [] else s.buffer);
}

abbrev pub seen_all : Seen → List Item → Seen
seen_all s [] = s
seen_all s (x ∷ xs) = seen_all (seen_one s x) xs

pub has_beginning_push : (h : List Item) (x : Item) → has_beginning (h ++ x ∷ []) ≡ (begins_part x || has_beginning h)
has_beginning_push [] x = refl
has_beginning_push (y ∷ ys) x = rw (has_beginning_push ys x) (go (begins_part y) (begins_part x))
  where
    go : (b c : Bool) → (b || (c || has_beginning ys)) ≡ (c || (b || has_beginning ys))
    go true true = refl
    go true false = refl
    go false true = refl
    go false false = refl

pub last_part_push : (h : List Item) (x : Item) → last_part (h ++ x ∷ []) ≡ (if begins_part x then [] else last_part h ++ x ∷ [])
last_part_push [] x = refl
last_part_push (y ∷ ys) x = rw (has_beginning_push ys x, last_part_push ys x) (go (begins_part x) (has_beginning ys) (begins_part y))
  where
    go : (f h b : Bool)
        → (if (f || h) then (if f then [] else last_part ys ++ x ∷ []) else (if b then ys ++ x ∷ [] else y ∷ (ys ++ x ∷ [])))
        ≡ (if f then [] else (if h then last_part ys else (if b then ys else y ∷ ys)) ++ x ∷ [])
    go true h b = refl
    go false true b = refl
    go false false true = refl
    go false false false = refl

pub part_bytes_push : (h : List Item) (x : Item) → part_bytes (h ++ x ∷ []) ≡ (if begins_part x then [] else part_bytes h ++ body_of x)
part_bytes_push h x = rw (last_part_push h x) (go (begins_part x))
  where
    go : (b : Bool) → bytes_of (if b then [] else last_part h ++ x ∷ []) ≡ (if b then [] else part_bytes h ++ body_of x)
    go true = refl
    go false = bytes_push (last_part h) x

pub seen_push : (h : List Item) (x : Item) → seen (h ++ x ∷ []) ≡ seen_one (seen h) x
seen_push h x = rw (part_bytes_push h x, latest_since is_segment h x, latest_since is_buffer h x) refl

pub seen_append : (h xs : List Item) → seen (h ++ xs) ≡ seen_all (seen h) xs
seen_append h [] = ap seen (append-nil h)
seen_append h (x ∷ xs) = ap seen (sym (append_assoc h (x ∷ []) xs)) ∙ seen_append (h ++ x ∷ []) xs ∙ ap (λ s. seen_all s xs) (seen_push h x)
