-- What is in force behind one more item.
use Rattle.std.proofs.Common.{◌≡◌, ℕ, Bool, true, false, if◌then◌else◌, List, [], ◌∷◌, ◌++◌, refl, append_assoc}
use Rattle.gst_item.specs.Item.{Item, Buf, Ev, Buffer, Gap, is_stream_start, is_caps, is_segment, is_tag, is_flush_stop, is_eos}
use Rattle.gst_item.specs.Sticky.{first_found, latest, has_flush_stop, since_flush_stop, InForce, stickies, in_force}

pub latest_push : (passes : Item → Bool) (h : List Item) (x : Item) → latest passes (h ++ x ∷ []) ≡ (if passes x then x ∷ [] else latest passes h)
latest_push passes [] x = refl
latest_push passes (y ∷ ys) x = rw (latest_push passes ys x) (go (passes x))
  where
    go : (b : Bool) → first_found (if b then x ∷ [] else latest passes ys) (if passes y then y ∷ [] else []) ≡ (if b then x ∷ [] else first_found (latest passes ys) (if passes y then y ∷ [] else []))
    go true = refl
    go false = refl

has_flush_push : (h : List Item) (x : Item) → has_flush_stop (h ++ x ∷ []) ≡ (if is_flush_stop x then true else has_flush_stop h)
has_flush_push [] x = refl
has_flush_push (y ∷ ys) x = rw (has_flush_push ys x) (go (is_flush_stop y) (is_flush_stop x))
  where
    go : (b c : Bool) → (if b then true else (if c then true else has_flush_stop ys)) ≡ (if c then true else (if b then true else has_flush_stop ys))
    go true true = refl
    go true false = refl
    go false true = refl
    go false false = refl

pub since_push : (h : List Item) (x : Item) → since_flush_stop (h ++ x ∷ []) ≡ (if is_flush_stop x then [] else since_flush_stop h ++ x ∷ [])
since_push [] x = refl
since_push (y ∷ ys) x = rw (has_flush_push ys x, since_push ys x) (go (is_flush_stop x) (has_flush_stop ys) (is_flush_stop y))
  where
    go : (f h b : Bool)
        → (if (if f then true else h) then (if f then [] else since_flush_stop ys ++ x ∷ []) else (if b then ys ++ x ∷ [] else y ∷ (ys ++ x ∷ [])))
        ≡ (if f then [] else (if h then since_flush_stop ys else (if b then ys else y ∷ ys)) ++ x ∷ [])
    go true h b = refl
    go false true b = refl
    go false false true = refl
    go false false false = refl

pub latest_since : (passes : Item → Bool) (h : List Item) (x : Item)
    → latest passes (since_flush_stop (h ++ x ∷ [])) ≡ (if is_flush_stop x then [] else (if passes x then x ∷ [] else latest passes (since_flush_stop h)))
latest_since passes h x = rw (since_push h x) (go (is_flush_stop x))
  where
    go : (f : Bool) → latest passes (if f then [] else since_flush_stop h ++ x ∷ []) ≡ (if f then [] else (if passes x then x ∷ [] else latest passes (since_flush_stop h)))
    go true = refl
    go false = latest_push passes (since_flush_stop h) x

-- what is in force behind an item, by what was before
abbrev pub next_in_force : InForce → Item → InForce
next_in_force s x =
    record {
      stream_start = if is_stream_start x then x ∷ [] else s.stream_start;
      caps = if is_caps x then x ∷ [] else s.caps;
      segment = if is_flush_stop x then [] else (if is_segment x then x ∷ [] else s.segment);
      tag = if is_tag x then x ∷ [] else s.tag;
      eos = if is_flush_stop x then [] else (if is_eos x then x ∷ [] else s.eos);
    }

pub in_force_push : (h : List Item) (x : Item) → in_force (h ++ x ∷ []) ≡ next_in_force (in_force h) x
in_force_push h x =
    rw (latest_push is_stream_start h x, latest_push is_caps h x, latest_push is_tag h x, latest_since is_segment h x, latest_since is_eos h x) refl

pub buffer_passes : (h : List Item) (b : Buffer) → in_force (h ++ Buf b ∷ []) ≡ in_force h
buffer_passes h b = in_force_push h (Buf b)

pub gap_passes : (h : List Item) (pts duration : ℕ) → in_force (h ++ Ev (Gap pts duration) ∷ []) ≡ in_force h
gap_passes h pts duration = in_force_push h (Ev (Gap pts duration))

-- the slots one behind the other
pub in_order : (h : List Item) (s : InForce) (a b c d e : List Item) → s ≡ in_force h
    → a ≡ s.stream_start → b ≡ a ++ s.caps → c ≡ b ++ s.segment → d ≡ c ++ s.tag → e ≡ d ++ s.eos → e ≡ stickies h
unfolding stickies
in_order h s a b c d e same first second third fourth fifth = rw (fifth, fourth, third, second, first, same) (simp append_assoc refl)
