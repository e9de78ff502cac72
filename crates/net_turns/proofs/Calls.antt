-- Lists of calls for the sink pads of an element, where one of them is changed.
use Rattle.std.proofs.Common.{◌≡◌, ℕ, zero, suc, Bool, true, false, if◌then◌else◌, List, [], ◌∷◌, ◌++◌, length, drop, refl, sym, ap, ◌∙◌, arith}
use Rattle.flow_model.specs.Item.{Item, is_flush_stop}
use Rattle.flow_model.specs.Call.{Call, Feed, Act}
use Rattle.gst_item.specs.Sticky.{has_flush_stop}
use Rattle.flow_model.specs.Split.{NoneAt, front_calls}
use Rattle.flow_model.specs.SinkPads.{push_calls, InSection, flush_stops_given}
use Rattle.net_turns.specs.Net.{ListAt}
use Rattle.flow_model.proofs.Items.{stops_push}

-- sink pad i has its first call no more
unfoldable pub without_first : ℕ → List (List Call) → List (List Call)
without_first i [] = []
without_first zero (cs ∷ css) = drop 1 cs ∷ css
without_first (suc i) (cs ∷ css) = cs ∷ without_first i css

pub push_here : (i : ℕ) (more : List Call) (css : List (List Call)) (calls : List Call) → ListAt i css calls → ListAt i (push_calls i more css) (calls ++ more)
push_here i more [] calls h = absurd h
push_here zero more (cs ∷ css) calls h = ap (λ ds. ds ++ more) h
push_here (suc i) more (cs ∷ css) calls h = push_here i more css calls h

pub push_else : (i j : ℕ) (more : List Call) (css : List (List Call)) (calls : List Call) → (j ≡ i → ⊥) → ListAt j css calls → ListAt j (push_calls i more css) calls
push_else i j more [] calls n h = absurd h
push_else zero zero more (cs ∷ css) calls n h = absurd (n refl)
push_else zero (suc j) more (cs ∷ css) calls n h = h
push_else (suc i) zero more (cs ∷ css) calls n h = h
push_else (suc i) (suc j) more (cs ∷ css) calls n h = push_else i j more css calls (λ e. n (ap suc e)) h

pub push_none : (i j : ℕ) (more : List Call) (css : List (List Call)) → (j ≡ i → ⊥) → NoneAt j css → NoneAt j (push_calls i more css)
push_none i j more [] n h = tt
push_none zero zero more (cs ∷ css) n h = absurd (n refl)
push_none zero (suc j) more (cs ∷ css) n h = h
push_none (suc i) zero more (cs ∷ css) n h = h
push_none (suc i) (suc j) more (cs ∷ css) n h = push_none i j more css (λ e. n (ap suc e)) h

pub push_section : (i : ℕ) (x : Item) (css : List (List Call)) → is_flush_stop x ≡ false → InSection 0 css → InSection 0 (push_calls i (Feed x ∷ []) css)
push_section i x [] f h = tt
push_section zero x (cs ∷ css) f h = (stops_push cs x f ∙ h.0, h.1)
push_section (suc i) x (cs ∷ css) f h = (h.0, push_section i x css f h.1)

-- the first call is gone
pub gone_front : (i : ℕ) (css : List (List Call)) (c : Call) (calls : List Call) → ListAt i css (c ∷ calls) → css ≡ front_calls i c (without_first i css)
unfolding without_first
gone_front i [] c calls h = refl
gone_front zero (cs ∷ css) c calls h = ap (λ ds. ds ∷ css) (h ∙ ap (λ (ds : List Call). c ∷ drop 1 ds) (sym h))
gone_front (suc i) (cs ∷ css) c calls h = ap (λ dss. cs ∷ dss) (gone_front i css c calls h)

pub gone_here : (i : ℕ) (css : List (List Call)) (c : Call) (calls : List Call) → ListAt i css (c ∷ calls) → ListAt i (without_first i css) calls
unfolding without_first
gone_here i [] c calls h = h
gone_here zero (cs ∷ css) c calls h = ap (λ (ds : List Call). drop 1 ds) h
gone_here (suc i) (cs ∷ css) c calls h = gone_here i css c calls h

pub gone_else : (i j : ℕ) (css : List (List Call)) (calls : List Call) → (j ≡ i → ⊥) → ListAt j css calls → ListAt j (without_first i css) calls
unfolding without_first
gone_else i j [] calls n h = h
gone_else zero zero (cs ∷ css) calls n h = absurd (n refl)
gone_else zero (suc j) (cs ∷ css) calls n h = h
gone_else (suc i) zero (cs ∷ css) calls n h = h
gone_else (suc i) (suc j) (cs ∷ css) calls n h = gone_else i j css calls (λ e. n (ap suc e)) h

pub gone_none : (i j : ℕ) (css : List (List Call)) → NoneAt j css → NoneAt j (without_first i css)
unfolding without_first
gone_none i j [] h = tt
gone_none zero zero (cs ∷ css) h = ap (λ (ds : List Call). drop 1 ds) h
gone_none zero (suc j) (cs ∷ css) h = h
gone_none (suc i) zero (cs ∷ css) h = h
gone_none (suc i) (suc j) (cs ∷ css) h = gone_none i j css h

pub gone_length : (i : ℕ) (css : List (List Call)) → length (without_first i css) ≡ length css
unfolding without_first
gone_length i [] = refl
gone_length zero (cs ∷ css) = refl
gone_length (suc i) (cs ∷ css) = ap suc (gone_length i css)

stops_gone : (cs : List Call) → flush_stops_given cs ≡ 0 → flush_stops_given (drop 1 cs) ≡ 0
stops_gone [] h = h
stops_gone (Feed x ∷ cs) h = go (is_flush_stop x) h
  where
    go : (b : Bool) → (if b then suc (flush_stops_given cs) else flush_stops_given cs) ≡ 0 → flush_stops_given cs ≡ 0
    go true e = absurd (omega arith)
    go false e = e
stops_gone (Act mark ∷ cs) h = h

pub gone_section : (i : ℕ) (css : List (List Call)) → InSection 0 css → InSection 0 (without_first i css)
unfolding without_first
gone_section i [] h = tt
gone_section zero (cs ∷ css) h = (stops_gone cs h.0, h.1)
gone_section (suc i) (cs ∷ css) h = (h.0, gone_section i css h.1)

-- what stands first in the first section is no FLUSH_STOP
pub first_calm : (i : ℕ) (css : List (List Call)) (x : Item) (calls : List Call) → InSection 0 css → ListAt i css (Feed x ∷ calls) → is_flush_stop x ≡ false
first_calm i [] x calls s h = absurd h
first_calm zero (cs ∷ css) x calls s h = go (is_flush_stop x) (sym (ap flush_stops_given h) ∙ s.0)
  where
    go : (b : Bool) → (if b then suc (flush_stops_given calls) else flush_stops_given calls) ≡ 0 → b ≡ false
    go true e = absurd (omega arith)
    go false e = refl
first_calm (suc i) (cs ∷ css) x calls s h = first_calm i css x calls s.1 h

-- no item of such a list is FLUSH_STOP
pub calm_item : (front : List Item) (x : Item) (rest xs : List Item) → xs ≡ front ++ x ∷ rest → has_flush_stop xs ≡ false → is_flush_stop x ≡ false
calm_item front x rest xs e f = go front (ap has_flush_stop (sym e) ∙ f)
  where
    one : (b : Bool) → (if b then true else has_flush_stop rest) ≡ false → b ≡ false
    one true h = absurd cc
    one false h = refl

    more : (b : Bool) (xs : List Item) → (if b then true else has_flush_stop xs) ≡ false → has_flush_stop xs ≡ false
    more true xs h = absurd cc
    more false xs h = h

    go : (front : List Item) → has_flush_stop (front ++ x ∷ rest) ≡ false → is_flush_stop x ≡ false
    go [] h = one (is_flush_stop x) h
    go (y ∷ front) h = go front (more (is_flush_stop y) (front ++ x ∷ rest) h)
