-- More calls stand at a sink pad, and no link of another source pad leads there.
use Rattle.std.proofs.Common.{◌≡◌, ◌++◌, ℕ, zero, suc, Bool, true, false, if◌then◌else◌, List, [], ◌∷◌, length, refl, ap, ◌∙◌}
use Rattle.flow_model.specs.Call.{Act, Call, Feed, feeds}
use Rattle.flow_model.specs.Item.{Ev, Item, NewCaps, NewSegment, StreamStart, Tag, Eos, is_caps, is_eos, is_flush_stop, is_segment, is_stream_start, is_tag}
use Rattle.flow_model.specs.Link.{Flushed, Given, Linked, Span, WasLinked}
use Rattle.flow_model.specs.SinkPads.{InSection, flush_stops_given, push_calls}
use Rattle.flow_model.specs.Sticky.{first_found, latest, since_flush_stop, stickies}
use Rattle.flow_model.specs.Edit.{IsFree}
use Rattle.flow_model.specs.Split.{NoneAt}
use Rattle.flow_model.specs.Standing.{LinksAt, is_linked, links_from}
use Rattle.net_turns.specs.Net.{ListAt}

pub push_here : (i : ℕ) (more : List Call) (css : List (List Call)) (calls : List Call) → ListAt i css calls → ListAt i (push_calls i more css) (calls ++ more)
push_here i more [] calls h = absurd h
push_here zero more (cs ∷ css) calls h = ap (λ (ds : List Call). ds ++ more) h
push_here (suc i) more (cs ∷ css) calls h = push_here i more css calls h

pub push_else : (i j : ℕ) (more : List Call) (css : List (List Call)) (calls : List Call) → (j ≡ i → ⊥) → ListAt j css calls → ListAt j (push_calls i more css) calls
push_else i j more [] calls n h = absurd h
push_else zero zero more (cs ∷ css) calls n h = absurd (n refl)
push_else zero (suc j) more (cs ∷ css) calls n h = h
push_else (suc i) zero more (cs ∷ css) calls n h = h
push_else (suc i) (suc j) more (cs ∷ css) calls n h = push_else i j more css calls (λ e. n (ap suc e)) h

pub push_none : (i j : ℕ) (more : List Call) (css : List (List Call)) → (j ≡ i → ⊥) → NoneAt j css → NoneAt j (push_calls i more css)
push_none i j more [] n h = tt
push_none zero zero more (cs ∷ css) n h = absurd (n refl)
push_none zero (suc j) more (cs ∷ css) n h = h
push_none (suc i) zero more (cs ∷ css) n h = h
push_none (suc i) (suc j) more (cs ∷ css) n h = push_none i j more css (λ e. n (ap suc e)) h

pub push_many : (i : ℕ) (more : List Call) (css : List (List Call)) → length (push_calls i more css) ≡ length css
push_many i more [] = refl
push_many zero more (cs ∷ css) = refl
push_many (suc i) more (cs ∷ css) = ap suc (push_many i more css)

pub feeds_more : (xs ys : List Item) → feeds (xs ++ ys) ≡ feeds xs ++ feeds ys
feeds_more [] ys = refl
feeds_more (x ∷ xs) ys = ap (λ (cs : List Call). Feed x ∷ cs) (feeds_more xs ys)

-- calls among which is no FLUSH_STOP
stops_more : (cs ds : List Call) → flush_stops_given ds ≡ 0 → flush_stops_given (cs ++ ds) ≡ flush_stops_given cs
stops_more [] ds e = e
stops_more (Act mark ∷ cs) ds e = stops_more cs ds e
stops_more (Feed x ∷ cs) ds e = ap (λ (n : ℕ). if is_flush_stop x then suc n else n) (stops_more cs ds e)

pub push_section : (i : ℕ) (more : List Call) (css : List (List Call)) → flush_stops_given more ≡ 0 → InSection 0 css → InSection 0 (push_calls i more css)
push_section i more [] e h = tt
push_section zero more (cs ∷ css) e h = (stops_more cs more e ∙ h.0, h.1)
push_section (suc i) more (cs ∷ css) e h = (h.0, push_section i more css e h.1)

-- a sticky event is no FLUSH_STOP
latest_calm : (test : Item → Bool) → ((x : Item) → test x ≡ true → is_flush_stop x ≡ false) → (h : List Item) → flush_stops_given (feeds (latest test h)) ≡ 0
latest_calm test calm [] = refl
latest_calm test calm (x ∷ xs) = go (latest test xs) (latest_calm test calm xs) (test x) refl
  where
    one : (b : Bool) → b ≡ false → (if b then suc 0 else 0) ≡ 0
    one true e = absurd cc
    one false e = refl

    go : (found : List Item) → flush_stops_given (feeds found) ≡ 0 → (b : Bool) → test x ≡ b → flush_stops_given (feeds (first_found found (if b then x ∷ [] else []))) ≡ 0
    go (y ∷ ys) e b is = head (is_flush_stop y) e
      where
        head : (f : Bool) → (if f then suc (flush_stops_given (feeds ys)) else flush_stops_given (feeds ys)) ≡ 0 → (if f then suc 0 else 0) ≡ 0
        head true e = absurd cc
        head false e = refl
    go [] e true is = one (is_flush_stop x) (calm x is)
    go [] e false is = refl

start_calm : (x : Item) → is_stream_start x ≡ true → is_flush_stop x ≡ false
start_calm (Ev (StreamStart id)) e = refl
start_calm _ e = absurd cc

stops_both : (xs ys : List Item) → flush_stops_given (feeds xs) ≡ 0 → flush_stops_given (feeds ys) ≡ 0 → flush_stops_given (feeds (xs ++ ys)) ≡ 0
stops_both xs ys e f = ap flush_stops_given (feeds_more xs ys) ∙ (stops_more (feeds xs) (feeds ys) f ∙ e)

pub stickies_calm : (h : List Item) → flush_stops_given (feeds (stickies h)) ≡ 0
unfolding stickies
stickies_calm h =
    stops_both (latest is_stream_start h) (latest is_caps h ++ (latest is_segment (since_flush_stop h) ++ (latest is_tag h ++ latest is_eos (since_flush_stop h)))) (latest_calm is_stream_start start_calm h)
    (stops_both (latest is_caps h) (latest is_segment (since_flush_stop h) ++ (latest is_tag h ++ latest is_eos (since_flush_stop h))) (latest_calm is_caps caps_calm h)
    (stops_both (latest is_segment (since_flush_stop h)) (latest is_tag h ++ latest is_eos (since_flush_stop h)) (latest_calm is_segment segment_calm (since_flush_stop h))
    (stops_both (latest is_tag h) (latest is_eos (since_flush_stop h)) (latest_calm is_tag tag_calm h) (latest_calm is_eos eos_calm (since_flush_stop h)))))
  where
    caps_calm : (x : Item) → is_caps x ≡ true → is_flush_stop x ≡ false
    caps_calm (Ev (NewCaps caps)) e = refl
    caps_calm _ e = absurd cc

    segment_calm : (x : Item) → is_segment x ≡ true → is_flush_stop x ≡ false
    segment_calm (Ev (NewSegment s)) e = refl
    segment_calm _ e = absurd cc

    tag_calm : (x : Item) → is_tag x ≡ true → is_flush_stop x ≡ false
    tag_calm (Ev (Tag title)) e = refl
    tag_calm _ e = absurd cc

    eos_calm : (x : Item) → is_eos x ≡ true → is_flush_stop x ≡ false
    eos_calm (Ev Eos) e = refl
    eos_calm _ e = absurd cc

-- no link of any pad leads to a sink pad that is free
linked_one : (p : ℕ) (ss : List Span) → links_from p ss ≡ true → is_linked ss ≡ true
linked_one p [] h = absurd cc
linked_one p (Linked source from marks ∷ ss) h = refl
linked_one p (WasLinked source from to eos marks ∷ ss) h = linked_one p ss h
linked_one p (Flushed number ∷ ss) h = linked_one p ss h
linked_one p (Given calls ∷ ss) h = linked_one p ss h

pub free_alone : (p i : ℕ) (sss : List (List Span)) → IsFree i sss → LinksAt p i sss → ⊥
free_alone p i [] f h = h
free_alone p zero (ss ∷ sss) f h = let a = linked_one p ss h.0 in absurd cc
free_alone p (suc i) (ss ∷ sss) f h = free_alone p i sss f h.1
