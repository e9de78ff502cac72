-- What sticky events leave in force: themselves.
use Rattle.std.proofs.Common.{◌≡◌, ℕ, Bool, true, false, if◌then◌else◌, List, [], ◌∷◌, ◌++◌, map, refl, sym, ap, ◌∙◌, Option, None, Some, ◌⊎◌, inl, inr, IsTrue, Result, Ok, Err, IfOk}
use Rattle.gst_value.specs.Description.{Description}
use Rattle.gst_value.specs.declared.one.One.{One}
use Rattle.gst_value.specs.declared.memory.OutOfMemory.{OutOfMemory}
use Rattle.gst_time.specs.declared.segment.Segment.{Segment}
use Rattle.gst_item.proofs.Kept.{in_force_push, next_in_force}
use Rattle.gst_item.specs.Item.{is_stream_start, is_caps, is_segment, is_tag}
use Rattle.gst_item.specs.Sticky.{InForce, first_found, latest, since_flush_stop, in_force, stickies}
use Rattle.pad_core.specs.Item.{Item, Buf, Ev, Event, StreamStart, NewCaps, NewSegment, Tag, Eos, is_eos, is_sticky}
use Rattle.pad_core.specs.Counts.{AreSticky}

-- at most one item, which passes a test
abbrev AtMostOne : (Item → Bool) → List Item → Type 0
AtMostOne passes xs = (xs ≡ []) ⊎ ((x : Item) × (xs ≡ x ∷ []) × (passes x ≡ true))

at_most_one : (passes : Item → Bool) (h : List Item) → AtMostOne passes (latest passes h)
at_most_one passes [] = inl refl
at_most_one passes (y ∷ ys) = go (latest passes ys) (passes y) refl (at_most_one passes ys)
  where
    go : (found : List Item) (b : Bool) → passes y ≡ b → AtMostOne passes found → AtMostOne passes (first_found found (if b then y ∷ [] else []))
    go found true e (inl none) = rw none (inr (y, refl, e))
    go found false e (inl none) = rw none (inl refl)
    go found b e (inr one) = rw one.1 (inr (one.0, refl, one.2))

abbrev start_list : Option (ℕ) → List Item
start_list None = []
start_list (Some id) = Ev (StreamStart id) ∷ []

start_only : (xs : List Item) → AtMostOne is_stream_start xs → (o : Option (ℕ)) × (xs ≡ start_list o)
start_only xs (inl none) = (None, none)
start_only xs (inr one) = go one.0 one.1 one.2
  where
    go : (x : Item) → xs ≡ x ∷ [] → is_stream_start x ≡ true → (o : Option (ℕ)) × (xs ≡ start_list o)
    go (Ev (StreamStart id)) e t = (Some id, e)
    go _ e t = absurd (cc)

abbrev caps_list : Option (Description One) → List Item
caps_list None = []
caps_list (Some caps) = Ev (NewCaps caps) ∷ []

caps_only : (xs : List Item) → AtMostOne is_caps xs → (o : Option (Description One)) × (xs ≡ caps_list o)
caps_only xs (inl none) = (None, none)
caps_only xs (inr one) = go one.0 one.1 one.2
  where
    go : (x : Item) → xs ≡ x ∷ [] → is_caps x ≡ true → (o : Option (Description One)) × (xs ≡ caps_list o)
    go (Ev (NewCaps caps)) e t = (Some caps, e)
    go _ e t = absurd (cc)

abbrev segment_list : Option (Segment) → List Item
segment_list None = []
segment_list (Some segment) = Ev (NewSegment segment) ∷ []

segment_only : (xs : List Item) → AtMostOne is_segment xs → (o : Option (Segment)) × (xs ≡ segment_list o)
segment_only xs (inl none) = (None, none)
segment_only xs (inr one) = go one.0 one.1 one.2
  where
    go : (x : Item) → xs ≡ x ∷ [] → is_segment x ≡ true → (o : Option (Segment)) × (xs ≡ segment_list o)
    go (Ev (NewSegment segment)) e t = (Some segment, e)
    go _ e t = absurd (cc)

abbrev tag_list : Option (List ℕ) → List Item
tag_list None = []
tag_list (Some title) = Ev (Tag title) ∷ []

tag_only : (xs : List Item) → AtMostOne is_tag xs → (o : Option (List ℕ)) × (xs ≡ tag_list o)
tag_only xs (inl none) = (None, none)
tag_only xs (inr one) = go one.0 one.1 one.2
  where
    go : (x : Item) → xs ≡ x ∷ [] → is_tag x ≡ true → (o : Option (List ℕ)) × (xs ≡ tag_list o)
    go (Ev (Tag title)) e t = (Some title, e)
    go _ e t = absurd (cc)

abbrev eos_list : Bool → List Item
eos_list false = []
eos_list true = Ev Eos ∷ []

eos_only : (xs : List Item) → AtMostOne is_eos xs → (b : Bool) × (xs ≡ eos_list b)
eos_only xs (inl none) = (false, none)
eos_only xs (inr one) = go one.0 one.1 one.2
  where
    go : (x : Item) → xs ≡ x ∷ [] → is_eos x ≡ true → (b : Bool) × (xs ≡ eos_list b)
    go (Ev Eos) e t = (true, e)
    go _ e t = absurd (cc)

in_order : (a : Option ℕ) (b : Option (Description One)) (c : Option Segment) (d : Option (List ℕ)) (e : Bool)
    → in_force (start_list a ++ (caps_list b ++ (segment_list c ++ (tag_list d ++ eos_list e))))
    ≡ record { stream_start = start_list a; caps = caps_list b; segment = segment_list c; tag = tag_list d; eos = eos_list e }
in_order None None None None false = refl
in_order None None None None true = refl
in_order None None None (Some title) false = refl
in_order None None None (Some title) true = refl
in_order None None (Some segment) None false = refl
in_order None None (Some segment) None true = refl
in_order None None (Some segment) (Some title) false = refl
in_order None None (Some segment) (Some title) true = refl
in_order None (Some caps) None None false = refl
in_order None (Some caps) None None true = refl
in_order None (Some caps) None (Some title) false = refl
in_order None (Some caps) None (Some title) true = refl
in_order None (Some caps) (Some segment) None false = refl
in_order None (Some caps) (Some segment) None true = refl
in_order None (Some caps) (Some segment) (Some title) false = refl
in_order None (Some caps) (Some segment) (Some title) true = refl
in_order (Some id) None None None false = refl
in_order (Some id) None None None true = refl
in_order (Some id) None None (Some title) false = refl
in_order (Some id) None None (Some title) true = refl
in_order (Some id) None (Some segment) None false = refl
in_order (Some id) None (Some segment) None true = refl
in_order (Some id) None (Some segment) (Some title) false = refl
in_order (Some id) None (Some segment) (Some title) true = refl
in_order (Some id) (Some caps) None None false = refl
in_order (Some id) (Some caps) None None true = refl
in_order (Some id) (Some caps) None (Some title) false = refl
in_order (Some id) (Some caps) None (Some title) true = refl
in_order (Some id) (Some caps) (Some segment) None false = refl
in_order (Some id) (Some caps) (Some segment) None true = refl
in_order (Some id) (Some caps) (Some segment) (Some title) false = refl
in_order (Some id) (Some caps) (Some segment) (Some title) true = refl

of_slots : (a b c d e : List Item) → AtMostOne is_stream_start a → AtMostOne is_caps b → AtMostOne is_segment c → AtMostOne is_tag d → AtMostOne is_eos e
    → in_force (a ++ (b ++ (c ++ (d ++ e)))) ≡ record { stream_start = a; caps = b; segment = c; tag = d; eos = e }
of_slots a b c d e first second third fourth fifth =
    go (start_only a first) (caps_only b second) (segment_only c third) (tag_only d fourth) (eos_only e fifth)
  where
    go : (s : (o : Option ℕ) × (a ≡ start_list o)) (t : (o : Option (Description One)) × (b ≡ caps_list o)) (u : (o : Option Segment) × (c ≡ segment_list o))
        (v : (o : Option (List ℕ)) × (d ≡ tag_list o)) (w : (o : Bool) × (e ≡ eos_list o))
        → in_force (a ++ (b ++ (c ++ (d ++ e)))) ≡ record { stream_start = a; caps = b; segment = c; tag = d; eos = e }
    go s t u v w = rw (s.1, t.1, u.1, v.1, w.1) (in_order s.0 t.0 u.0 v.0 w.0)

pub in_force_again : (h : List Item) → in_force (stickies h) ≡ in_force h
unfolding stickies
in_force_again h =
    of_slots (latest is_stream_start h) (latest is_caps h) (latest is_segment (since_flush_stop h)) (latest is_tag h) (latest is_eos (since_flush_stop h))
    (at_most_one is_stream_start h) (at_most_one is_caps h) (at_most_one is_segment (since_flush_stop h)) (at_most_one is_tag h) (at_most_one is_eos (since_flush_stop h))

of_force : (h g : List Item) → in_force h ≡ in_force g → stickies h ≡ stickies g
unfolding stickies
of_force h g e = ap (λ (s : InForce). s.stream_start ++ (s.caps ++ (s.segment ++ (s.tag ++ s.eos)))) e

-- one more event behind the sticky ones
pub stickies_push : (h : List Item) (x : Item) → stickies (stickies h ++ x ∷ []) ≡ stickies (h ++ x ∷ [])
stickies_push h x =
    of_force (stickies h ++ x ∷ []) (h ++ x ∷ []) (in_force_push (stickies h) x ∙ ap (λ s. next_in_force s x) (in_force_again h) ∙ sym (in_force_push h x))

-- the sticky events are sticky
abbrev EachSticky : List Item → Type 0
EachSticky [] = Unit {0}
EachSticky (Buf b ∷ xs) = ⊥
EachSticky (Ev e ∷ xs) = IsTrue (is_sticky e) × EachSticky xs

append : (xs ys : List Item) → EachSticky xs → EachSticky ys → EachSticky (xs ++ ys)
append [] ys s t = t
append (Buf b ∷ xs) ys s t = absurd s
append (Ev e ∷ xs) ys s t = (s.0, append xs ys s.1 t)

one_sticky : (passes : Item → Bool) (xs : List Item) → ((x : Item) → passes x ≡ true → EachSticky (x ∷ [])) → AtMostOne passes xs → EachSticky xs
one_sticky passes xs each (inl none) = rw none tt
one_sticky passes xs each (inr one) = rw one.1 (each one.0 one.2)

start_sticky : (x : Item) → is_stream_start x ≡ true → EachSticky (x ∷ [])
start_sticky (Ev (StreamStart id)) e = (refl, tt)
start_sticky _ e = absurd (cc)

caps_sticky : (x : Item) → is_caps x ≡ true → EachSticky (x ∷ [])
caps_sticky (Ev (NewCaps caps)) e = (refl, tt)
caps_sticky _ e = absurd (cc)

segment_sticky : (x : Item) → is_segment x ≡ true → EachSticky (x ∷ [])
segment_sticky (Ev (NewSegment segment)) e = (refl, tt)
segment_sticky _ e = absurd (cc)

tag_sticky : (x : Item) → is_tag x ≡ true → EachSticky (x ∷ [])
tag_sticky (Ev (Tag title)) e = (refl, tt)
tag_sticky _ e = absurd (cc)

eos_sticky : (x : Item) → is_eos x ≡ true → EachSticky (x ∷ [])
eos_sticky (Ev Eos) e = (refl, tt)
eos_sticky _ e = absurd (cc)

stickies_sticky : (h : List Item) → EachSticky (stickies h)
unfolding stickies
stickies_sticky h =
    append _ _ (one_sticky is_stream_start _ start_sticky (at_most_one is_stream_start h))
    (append _ _ (one_sticky is_caps _ caps_sticky (at_most_one is_caps h))
    (append _ _ (one_sticky is_segment _ segment_sticky (at_most_one is_segment (since_flush_stop h)))
    (append _ _ (one_sticky is_tag _ tag_sticky (at_most_one is_tag h)) (one_sticky is_eos _ eos_sticky (at_most_one is_eos (since_flush_stop h))))))

are_sticky : (events : List Event) → EachSticky (map Ev events) → AreSticky events
are_sticky [] s = tt
are_sticky (e ∷ es) s = (s.0, are_sticky es s.1)

pub listed_sticky : (h : List Item) (events : List Event) → map Ev events ≡ stickies h → AreSticky events
listed_sticky h events e = are_sticky events (rw e (stickies_sticky h))

-- a list of what is in force behind a history
pub listed : (r : Result (List Event) OutOfMemory) (s : InForce) (P : Type 0) (h : List Item) → (P → s ≡ in_force h)
    → IfOk r (λ events. (g : List Item) → s ≡ in_force g → map Ev events ≡ stickies g) → IfOk r (λ made. P → map Ev made ≡ stickies h)
listed (Ok made) s P h e f = λ p. f h (e p)
listed (Err fault) s P h e f = tt

-- what setting all events of a list begins with
pub set_of : (rest events : List Event) (s fresh : InForce) → rest ≡ events → fresh ≡ in_force []
    → ((h : List Item) → fresh ≡ in_force h → AreSticky rest → s ≡ in_force (h ++ map Ev rest))
    → AreSticky events → s ≡ in_force (map Ev events)
set_of rest events s fresh same begun set sticky = set [] begun (rw same sticky) ∙ ap (λ (es : List Event). in_force (map Ev es)) same
