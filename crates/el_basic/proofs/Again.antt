-- The sticky events that a valve sends again: neither EOS nor FLUSH_STOP is among them, and in a section without EOS they are all.
use Rattle.std.proofs.Common.{◌≡◌, Bool, true, false, ◌||◌, if◌then◌else◌, List, [], ◌∷◌, ◌++◌, filter, refl, sym, ap, ◌∙◌}
use Rattle.std.specs.List.{list_any}
use Rattle.gst_item.specs.Item.{has_item}
use Rattle.flow_model.specs.Item.{Item, Ev, FlushStop, Eos, is_stream_start, is_caps, is_segment, is_tag, is_flush_stop, is_eos}
use Rattle.flow_model.specs.Sticky.{first_found, latest, has_flush_stop, since_flush_stop, in_force, stickies}
use Rattle.flow_model.specs.Rule.{not_eos}
use Rattle.flow_model.proofs.Items.{stop_no_eos}
use Rattle.flow_model.proofs.Counted.{since_all}
use Rattle.gst_value.proofs.Basics.{from_true}
use Rattle.el_basic.specs.Valves.{again}

pub filter_append : (xs ys : List Item) → filter not_eos (xs ++ ys) ≡ filter not_eos xs ++ filter not_eos ys
filter_append [] ys = refl
filter_append (x ∷ xs) ys = go (not_eos x) (filter_append xs ys)
  where
    go : (b : Bool) → filter not_eos (xs ++ ys) ≡ filter not_eos xs ++ filter not_eos ys
        → (if b then x ∷ filter not_eos (xs ++ ys) else filter not_eos (xs ++ ys)) ≡ (if b then x ∷ filter not_eos xs else filter not_eos xs) ++ filter not_eos ys
    go true e = ap (λ zs. x ∷ zs) e
    go false e = e

pub filter_push : (h : List Item) (x : Item) → filter not_eos (h ++ x ∷ []) ≡ filter not_eos h ++ filter not_eos (x ∷ [])
filter_push h x = filter_append h (x ∷ [])

-- neither EOS nor FLUSH_STOP
abbrev pub AreInner : List Item → Type 0
AreInner [] = Unit {0}
AreInner (x ∷ xs) = (is_flush_stop x ≡ false) × (is_eos x ≡ false) × AreInner xs

inner_append : (xs ys : List Item) → AreInner xs → AreInner ys → AreInner (xs ++ ys)
inner_append [] ys h k = k
inner_append (x ∷ xs) ys h k = (h.0, h.1, inner_append xs ys h.2 k)

inner_kept : (xs : List Item) → AreInner xs → filter not_eos xs ≡ xs
inner_kept [] h = refl
inner_kept (x ∷ xs) h = go (is_eos x) h.1 (inner_kept xs h.2)
  where
    go : (e : Bool) → e ≡ false → filter not_eos xs ≡ xs → (if (if e then false else true) then x ∷ filter not_eos xs else filter not_eos xs) ≡ x ∷ xs
    go true e same = absurd (cc)
    go false e same = ap (λ ys. x ∷ ys) same

-- an item of a kind that is neither, or none
latest_inner : (p : Item → Bool) → ((x : Item) → p x ≡ true → (is_flush_stop x ≡ false) × (is_eos x ≡ false)) → (h : List Item) → AreInner (latest p h)
latest_inner p kind [] = tt
latest_inner p kind (x ∷ xs) = go (latest p xs) (p x) refl (latest_inner p kind xs)
  where
    go : (found : List Item) (b : Bool) → p x ≡ b → AreInner found → AreInner (first_found found (if b then x ∷ [] else []))
    go [] true e h = let k = kind x e in (k.0, k.1, tt)
    go [] false e h = tt
    go (y ∷ ys) b e h = (h.0, h.1, tt)

start_kind : (x : Item) → is_stream_start x ≡ true → (is_flush_stop x ≡ false) × (is_eos x ≡ false)
start_kind (Ev (FlushStop number)) e = absurd (cc)
start_kind (Ev Eos) e = absurd (cc)
start_kind _ e = (refl, refl)

caps_kind : (x : Item) → is_caps x ≡ true → (is_flush_stop x ≡ false) × (is_eos x ≡ false)
caps_kind (Ev (FlushStop number)) e = absurd (cc)
caps_kind (Ev Eos) e = absurd (cc)
caps_kind _ e = (refl, refl)

segment_kind : (x : Item) → is_segment x ≡ true → (is_flush_stop x ≡ false) × (is_eos x ≡ false)
segment_kind (Ev (FlushStop number)) e = absurd (cc)
segment_kind (Ev Eos) e = absurd (cc)
segment_kind _ e = (refl, refl)

tag_kind : (x : Item) → is_tag x ≡ true → (is_flush_stop x ≡ false) × (is_eos x ≡ false)
tag_kind (Ev (FlushStop number)) e = absurd (cc)
tag_kind (Ev Eos) e = absurd (cc)
tag_kind _ e = (refl, refl)

-- a list that has no EOS
no_eos : (h : List Item) → list_any is_eos (filter not_eos h) ≡ false
no_eos [] = refl
no_eos (x ∷ xs) = go (is_eos x) refl (no_eos xs)
  where
    go : (e : Bool) → is_eos x ≡ e → list_any is_eos (filter not_eos xs) ≡ false
        → list_any is_eos (if (if e then false else true) then x ∷ filter not_eos xs else filter not_eos xs) ≡ false
    go true is rest = rest
    go false is rest = rw is rest

no_eos_since : (h : List Item) → list_any is_eos h ≡ false → list_any is_eos (since_flush_stop h) ≡ false
no_eos_since [] e = refl
no_eos_since (x ∷ xs) e = go (has_flush_stop xs) (is_flush_stop x) (is_eos x) e (no_eos_since xs)
  where
    go : (f g b : Bool) → (b || list_any is_eos xs) ≡ false → (list_any is_eos xs ≡ false → list_any is_eos (since_flush_stop xs) ≡ false)
        → list_any is_eos (if f then since_flush_stop xs else (if g then xs else x ∷ xs)) ≡ false
    go f g true none rest = absurd (cc)
    go true g false none rest = rest none
    go false true false none rest = none
    go false false false none rest = e

none_latest : (h : List Item) → list_any is_eos h ≡ false → latest is_eos h ≡ []
none_latest [] e = refl
none_latest (x ∷ xs) e = go (is_eos x) e (none_latest xs)
  where
    go : (b : Bool) → (b || list_any is_eos xs) ≡ false → (list_any is_eos xs ≡ false → latest is_eos xs ≡ []) → first_found (latest is_eos xs) (if b then x ∷ [] else []) ≡ []
    go true none rest = absurd (cc)
    go false none rest = rw (rest none) refl

again_eos : (h : List Item) → latest is_eos (since_flush_stop (filter not_eos h)) ≡ []
again_eos h = none_latest (since_flush_stop (filter not_eos h)) (no_eos_since (filter not_eos h) (no_eos h))

pub again_inner : (h : List Item) → AreInner (again h)
unfolding stickies
again_inner h =
    let kept = filter not_eos h in let since = since_flush_stop kept in
    rw (again_eos h)
    (inner_append (latest is_stream_start kept) _ (latest_inner is_stream_start start_kind kept)
    (inner_append (latest is_caps kept) _ (latest_inner is_caps caps_kind kept)
    (inner_append (latest is_segment since) _ (latest_inner is_segment segment_kind since)
    (inner_append (latest is_tag kept) _ (latest_inner is_tag tag_kind kept) tt))))

pub again_kept : (h : List Item) → filter not_eos (again h) ≡ again h
again_kept h = inner_kept (again h) (again_inner h)

-- without EOS in force nothing is left out
latest_alone : (p : Item → Bool) (h : List Item) → first_found (latest p h) [] ≡ latest p h
latest_alone p [] = refl
latest_alone p (x ∷ xs) = go (latest p xs) (p x)
  where
    go : (found : List Item) (b : Bool) → first_found (first_found found (if b then x ∷ [] else [])) [] ≡ first_found found (if b then x ∷ [] else [])
    go [] true = refl
    go [] false = refl
    go (y ∷ ys) b = refl

no_item : (xs : List Item) → has_item xs ≡ false → xs ≡ []
no_item [] e = refl
no_item (x ∷ xs) e = absurd (cc)

latest_kept : (p : Item → Bool) → ((x : Item) → p x ≡ true → (is_flush_stop x ≡ false) × (is_eos x ≡ false)) → (h : List Item) → latest p (filter not_eos h) ≡ latest p h
latest_kept p kind [] = refl
latest_kept p kind (x ∷ xs) = go (is_eos x) refl (p x) refl (latest_kept p kind xs)
  where
    go : (e : Bool) → is_eos x ≡ e → (b : Bool) → p x ≡ b → latest p (filter not_eos xs) ≡ latest p xs
        → latest p (if (if e then false else true) then x ∷ filter not_eos xs else filter not_eos xs) ≡ first_found (latest p xs) (if b then x ∷ [] else [])
    go true is true own same = from_true (sym is ∙ (kind x own).1)
    go true is false own same = same ∙ sym (latest_alone p xs)
    go false is b own same = rw (own, same) refl

stop_kept : (h : List Item) → has_flush_stop (filter not_eos h) ≡ has_flush_stop h
stop_kept [] = refl
stop_kept (x ∷ xs) = go (is_eos x) refl (is_flush_stop x) refl (stop_kept xs)
  where
    go : (e : Bool) → is_eos x ≡ e → (f : Bool) → is_flush_stop x ≡ f → has_flush_stop (filter not_eos xs) ≡ has_flush_stop xs
        → has_flush_stop (if (if e then false else true) then x ∷ filter not_eos xs else filter not_eos xs) ≡ (if f then true else has_flush_stop xs)
    go true is true stop same = from_true (sym is ∙ stop_no_eos x stop)
    go true is false stop same = same
    go false is f stop same = rw (stop, same) refl

since_kept : (h : List Item) → since_flush_stop (filter not_eos h) ≡ filter not_eos (since_flush_stop h)
since_kept [] = refl
since_kept (x ∷ xs) = go (is_eos x) refl (is_flush_stop x) refl (has_flush_stop xs) (stop_kept xs) (since_kept xs)
  where
    go : (e : Bool) → is_eos x ≡ e → (f : Bool) → is_flush_stop x ≡ f → (b : Bool)
        → has_flush_stop (filter not_eos xs) ≡ b → since_flush_stop (filter not_eos xs) ≡ filter not_eos (since_flush_stop xs)
        → since_flush_stop (if (if e then false else true) then x ∷ filter not_eos xs else filter not_eos xs)
        ≡ filter not_eos (if b then since_flush_stop xs else (if f then xs else x ∷ xs))
    go true is true stop b later same = from_true (sym is ∙ stop_no_eos x stop)
    go true is false stop true later same = same
    go true is false stop false later same = rw is (since_all (filter not_eos xs) later)
    go false is true stop true later same = rw (later, stop) same
    go false is true stop false later same = rw (later, stop) refl
    go false is false stop true later same = rw (later, stop) same
    go false is false stop false later same = rw (later, stop, is) refl

pub again_all : (h : List Item) → has_item (in_force h).eos ≡ false → again h ≡ stickies h
unfolding stickies
again_all h none =
    rw (
      again_eos h,
      latest_kept is_stream_start start_kind h,
      latest_kept is_caps caps_kind h,
      latest_kept is_tag tag_kind h,
      since_kept h,
      latest_kept is_segment segment_kind (since_flush_stop h),
      no_item (latest is_eos (since_flush_stop h)) none,
    ) refl
