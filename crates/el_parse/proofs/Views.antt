-- What an element that cuts raw audio sees by looking back over a list.
use Rattle.std.proofs.Common.{◌≡◌, ℕ, ◌+◌, Bool, true, false, if◌then◌else◌, List, [], ◌∷◌, ◌++◌, length, Option, None, refl, sym, ap, ◌∙◌, append_assoc, append-nil, arith}
use Rattle.std.specs.Prelude.{◌||◌}
use Rattle.gst_item.proofs.Kept.{latest_since}
use Rattle.flow_model.specs.Item.{Item, Buf, Ev, is_flush_stop, is_buffer, body_of}
use Rattle.flow_model.specs.Sticky.{latest, since_flush_stop}
use Rattle.el_parse.specs.Part.{begins_part, has_beginning, last_part, part_bytes}
use Rattle.flow_model.specs.Looking.{bytes_got}
use Rattle.el_parse.specs.Streams.{Stream, stream_behind, stream_after, frames_in, frames_from, part_frames, has_buffer, first_pts}
use Rattle.el_parse.proofs.Seen.{has_beginning_push, last_part_push, part_bytes_push}
use Rattle.flow_model.proofs.Items.{got_push}

pub record View : Type 0 where
  pub stream : Option Stream
  pub bytes : List ℕ
  pub begun : Bool
  pub pts : Option ℕ
  pub frames : ℕ
  pub got : ℕ
  pub buffer : List Item

abbrev pub view : List Item → View
view h = record {
  stream = stream_after None h;
  bytes = part_bytes h;
  begun = has_buffer (last_part h);
  pts = first_pts (last_part h);
  frames = part_frames h;
  got = bytes_got h;
  buffer = latest is_buffer (since_flush_stop h);
}

-- with one more item
abbrev pub view_one : View → Item → View
view_one v x = record {
  stream = stream_behind v.stream x;
  bytes = if begins_part x then [] else v.bytes ++ body_of x;
  begun = if begins_part x then false else (is_buffer x || v.begun);
  pts = if begins_part x then None else (if is_buffer x then (if v.begun then v.pts else first_pts (x ∷ [])) else v.pts);
  frames = if begins_part x then 0 else v.frames + frames_in v.stream (body_of x);
  got = if is_flush_stop x then 0 else v.got + length (body_of x);
  buffer = if is_flush_stop x then [] else (if is_buffer x then x ∷ [] else v.buffer);
}

abbrev pub view_all : View → List Item → View
view_all v [] = v
view_all v (x ∷ xs) = view_all (view_one v x) xs

stream_push : (h : List Item) (x : Item) (before : Option Stream) → stream_after before (h ++ x ∷ []) ≡ stream_behind (stream_after before h) x
stream_push [] x before = refl
stream_push (y ∷ ys) x before = stream_push ys x (stream_behind before y)

frames_push : (h : List Item) (x : Item) (before : Option Stream)
    → frames_from before (h ++ x ∷ []) ≡ (if begins_part x then 0 else frames_from before h + frames_in (stream_after before h) (body_of x))
frames_push [] x before = go (begins_part x) (frames_in before (body_of x))
  where
    go : (b : Bool) (n : ℕ) → (if (b || false) then 0 else n) + 0 ≡ (if b then 0 else 0 + n)
    go true n = refl
    go false n = omega arith
frames_push (y ∷ ys) x before =
    rw (has_beginning_push ys x, frames_push ys x (stream_behind before y)) (go (begins_part x) (begins_part y) (has_beginning ys) (frames_in before (body_of y)) (frames_from (stream_behind before y) ys) (frames_in (stream_after (stream_behind before y) ys) (body_of x)))
  where
    go : (f b h : Bool) (n m k : ℕ) → (if (b || (f || h)) then 0 else n) + (if f then 0 else m + k) ≡ (if f then 0 else ((if (b || h) then 0 else n) + m) + k)
    go true true h n m k = refl
    go true false h n m k = refl
    go false true h n m k = omega arith
    go false false true n m k = omega arith
    go false false false n m k = omega arith

has_buffer_push : (h : List Item) (x : Item) → has_buffer (h ++ x ∷ []) ≡ (is_buffer x || has_buffer h)
has_buffer_push [] x = refl
has_buffer_push (y ∷ ys) x = rw (has_buffer_push ys x) (go (is_buffer y) (is_buffer x))
  where
    go : (b c : Bool) → (b || (c || has_buffer ys)) ≡ (c || (b || has_buffer ys))
    go true true = refl
    go true false = refl
    go false true = refl
    go false false = refl

first_push : (h : List Item) (x : Item) → first_pts (h ++ x ∷ []) ≡ (if is_buffer x then (if has_buffer h then first_pts h else first_pts (x ∷ [])) else first_pts h)
first_push [] (Buf b) = refl
first_push [] (Ev e) = refl
first_push (Buf b ∷ ys) (Buf c) = refl
first_push (Buf b ∷ ys) (Ev e) = refl
first_push (Ev e ∷ ys) x = first_push ys x

begun_push : (h : List Item) (x : Item) → has_buffer (last_part (h ++ x ∷ [])) ≡ (if begins_part x then false else (is_buffer x || has_buffer (last_part h)))
begun_push h x = rw (last_part_push h x) (go (begins_part x))
  where
    go : (b : Bool) → has_buffer (if b then [] else last_part h ++ x ∷ []) ≡ (if b then false else (is_buffer x || has_buffer (last_part h)))
    go true = refl
    go false = has_buffer_push (last_part h) x

pts_push : (h : List Item) (x : Item) → first_pts (last_part (h ++ x ∷ [])) ≡ (if begins_part x then None else (if is_buffer x then (if has_buffer (last_part h) then first_pts (last_part h) else first_pts (x ∷ [])) else first_pts (last_part h)))
pts_push h x = rw (last_part_push h x) (go (begins_part x))
  where
    go : (b : Bool) → first_pts (if b then [] else last_part h ++ x ∷ [])
        ≡ (if b then None else (if is_buffer x then (if has_buffer (last_part h) then first_pts (last_part h) else first_pts (x ∷ [])) else first_pts (last_part h)))
    go true = refl
    go false = first_push (last_part h) x

pub view_push : (h : List Item) (x : Item) → view (h ++ x ∷ []) ≡ view_one (view h) x
view_push h x =
    rw (stream_push h x None, part_bytes_push h x, begun_push h x, pts_push h x, frames_push h x None, got_push h x, latest_since is_buffer h x) refl

pub view_append : (h xs : List Item) → view (h ++ xs) ≡ view_all (view h) xs
view_append h [] = ap view (append-nil h)
view_append h (x ∷ xs) = ap view (sym (append_assoc h (x ∷ []) xs)) ∙ view_append (h ++ x ∷ []) xs ∙ ap (λ v. view_all v xs) (view_push h x)

pub view_more : (v : View) (xs ys : List Item) → view_all v (xs ++ ys) ≡ view_all (view_all v xs) ys
view_more v [] ys = refl
view_more v (x ∷ xs) ys = view_more (view_one v x) xs ys
