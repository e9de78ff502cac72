-- What a sink pad knows, and what all of them know, with more on the pads.
use Rattle.std.proofs.Common.{◌≡◌, ◌≤◌, ◌<◌, ◌+◌, ℕ, zero, suc, true, false, Some, Vec, Global, List, [], ◌∷◌, ◌++◌, length, get_or, set, replicate, refl, sym, ap, ◌∙◌, subst, append-nil, arith}
use Rattle.std.specs.Prelude.{slice_get}
use Rattle.std.proofs.lemmas.Option.{slice_get_read}
use Rattle.gst_value.proofs.Basics.{one_more, some_same}
use Rattle.flow_model.specs.Item.{Item, Ev, FlushStop, is_flush_stop, is_eos}
use Rattle.flow_model.specs.Call.{Call, Feed, items}
use Rattle.flow_model.specs.Sticky.{in_force}
use Rattle.flow_model.specs.Section.{counted}
use Rattle.flow_model.specs.Feeding.{has_eos}
use Rattle.flow_model.specs.SinkPads.{calls_at, push_calls, push_each}
use Rattle.flow_model.proofs.Calls.{eos_taken, eos_stays, eos_flushed}
use Rattle.flow_model.proofs.Counted.{counted_taken, counted_behind, counted_flush}
use Rattle.el_select.specs.declared.pad.Pad.{Pad}
use Rattle.el_select.specs.Selects.{ended_of, Knows, KnowEach}
use Rattle.el_select.proofs.Owing.{flush_of}

-- with an item in a section without EOS, with one behind EOS, and with a flush
pub knows_item : (p q : Pad) (x : Item) → is_flush_stop x ≡ false → p.ended ≡ false → q.ended ≡ is_eos x
    → ((h : List Item) → p.sticky ≡ in_force h → q.sticky ≡ in_force (h ++ x ∷ [])) → (calls : List Call) → Knows p calls → Knows q (calls ++ Feed x ∷ [])
knows_item p q x plain begun ends sticky calls k = record {
  sticky = sticky (counted (items calls)) k.sticky ∙ ap in_force (sym (counted_taken calls x (k.ended ∙ begun)));
  ended = eos_taken calls x plain (k.ended ∙ begun) ∙ sym ends;
}

pub knows_behind : (p : Pad) (x : Item) → is_flush_stop x ≡ false → p.ended ≡ true → (calls : List Call) → Knows p calls → Knows p (calls ++ Feed x ∷ [])
knows_behind p x plain over calls k = record {
  sticky = k.sticky ∙ ap in_force (sym (counted_behind calls x (k.ended ∙ over) plain ∙ append-nil (counted (items calls))));
  ended = eos_stays calls x plain (k.ended ∙ over) ∙ sym over;
}

pub knows_flushed : (p q : Pad) → q.ended ≡ false
    → ((h : List Item) (number : ℕ) → p.sticky ≡ in_force h → q.sticky ≡ in_force (h ++ Ev (FlushStop number) ∷ []))
    → (calls : List Call) (number : ℕ) → Knows p calls → Knows q (calls ++ flush_of number)
knows_flushed p q begun sticky calls number k = record {
  sticky = sticky (counted (items calls)) number k.sticky ∙ ap in_force (sym (counted_flush calls number));
  ended = eos_flushed calls number ∙ sym begun;
}

-- one of the pads
pub pad_at : (pads : Vec Pad Global) (k : ℕ) (p : Pad) → k < length pads.items → p ≡ get_or pads.items k p → slice_get pads.items k ≡ Some p
pad_at pads k p less is = slice_get_read pads.items pads.len k p pads.ok.0 (omega (arith, less, pads.ok.0)) is

pub know_at : (ps : List Pad) (took : List (List Call)) → KnowEach ps took → (k : ℕ) (p : Pad) → slice_get ps k ≡ Some p → Knows p (calls_at k took)
know_at [] took ks k p at = absurd (cc)
know_at (q ∷ ps) [] ks k p at = absurd ks
know_at (q ∷ ps) (cs ∷ took) ks zero p at = subst (λ (r : Pad). Knows r cs) (some_same at) ks.0
know_at (q ∷ ps) (cs ∷ took) ks (suc k) p at = know_at ps took ks.1 k p at

pub ended_at : (ps : List Pad) (took : List (List Call)) → KnowEach ps took → (k : ℕ) → has_eos (calls_at k took) ≡ ended_of (slice_get ps k)
ended_at [] [] ks k = refl
ended_at [] (cs ∷ took) ks k = absurd ks
ended_at (p ∷ ps) [] ks k = absurd ks
ended_at (p ∷ ps) (cs ∷ took) ks zero = let known : Knows p cs = ks.0 in known.ended
ended_at (p ∷ ps) (cs ∷ took) ks (suc k) = ended_at ps took ks.1 k

pub know_length : (ps : List Pad) (took : List (List Call)) → KnowEach ps took → length took ≡ length ps
know_length [] [] ks = refl
know_length [] (cs ∷ took) ks = absurd ks
know_length (p ∷ ps) [] ks = absurd ks
know_length (p ∷ ps) (cs ∷ took) ks = ap suc (know_length ps took ks.1)

-- one of them is given more
pub know_pushed : (ps : List Pad) (took : List (List Call)) (k : ℕ) (p q : Pad) (more : List Call) → slice_get ps k ≡ Some p
    → ((calls : List Call) → Knows p calls → Knows q (calls ++ more)) → KnowEach ps took → KnowEach (set ps k q) (push_calls k more took)
know_pushed [] took k p q more at next ks = absurd (cc)
know_pushed (r ∷ ps) [] k p q more at next ks = absurd ks
know_pushed (r ∷ ps) (cs ∷ took) zero p q more at next ks = (next cs (subst (λ (s : Pad). Knows s cs) (some_same at) ks.0), ks.1)
know_pushed (r ∷ ps) (cs ∷ took) (suc k) p q more at next ks = (ks.0, know_pushed ps took k p q more at next ks.1)

pub know_kept : (ps : List Pad) (took : List (List Call)) (k : ℕ) (p : Pad) (more : List Call) → slice_get ps k ≡ Some p
    → ((calls : List Call) → Knows p calls → Knows p (calls ++ more)) → KnowEach ps took → KnowEach ps (push_calls k more took)
know_kept [] took k p more at next ks = absurd (cc)
know_kept (r ∷ ps) [] k p more at next ks = absurd ks
know_kept (r ∷ ps) (cs ∷ took) zero p more at next ks =
    let same = some_same at in
    (subst (λ (s : Pad). Knows s (cs ++ more)) (sym same) (next cs (subst (λ (s : Pad). Knows s cs) same ks.0)), ks.1)
know_kept (r ∷ ps) (cs ∷ took) (suc k) p more at next ks = (ks.0, know_kept ps took k p more at next ks.1)

-- pads that are made
know_push : (n : ℕ) (ps : List Pad) (p : Pad) → KnowEach ps (replicate n []) → Knows p [] → KnowEach (ps ++ p ∷ []) (replicate (suc n) [])
know_push zero [] p ks k = (k, tt)
know_push zero (q ∷ ps) p ks k = absurd ks
know_push (suc n) [] p ks k = absurd ks
know_push (suc n) (q ∷ ps) p ks k = (ks.0, know_push n ps p ks.1 k)

pub know_made : (n : ℕ) (ps more : List Pad) (p : Pad) → more ≡ ps ++ p ∷ [] → KnowEach ps (replicate n []) → Knows p [] → KnowEach more (replicate (n + 1) [])
know_made n ps more p is ks k =
    subst (λ (qs : List Pad). KnowEach qs (replicate (n + 1) [])) (sym is)
    (subst (λ (m : ℕ). KnowEach (ps ++ p ∷ []) (replicate m [])) (sym (one_more n)) (know_push n ps p ks k))

-- The pads are flushed one after the other: those before a place are.
abbrev pub flushed_to : ℕ → List Call → List (List Call) → List (List Call)
flushed_to place more [] = []
flushed_to zero more (cs ∷ css) = cs ∷ css
flushed_to (suc place) more (cs ∷ css) = (cs ++ more) ∷ flushed_to place more css

flushed_none : (more : List Call) (took : List (List Call)) → flushed_to 0 more took ≡ took
flushed_none more [] = refl
flushed_none more (cs ∷ took) = refl

flushed_all : (ps : List Pad) (place : ℕ) (more : List Call) (took : List (List Call)) → length ps ≤ place → KnowEach ps (flushed_to place more took)
    → flushed_to place more took ≡ push_each more took
flushed_all ps place more [] h ks = refl
flushed_all [] zero more (cs ∷ took) h ks = absurd ks
flushed_all [] (suc place) more (cs ∷ took) h ks = absurd ks
flushed_all (p ∷ ps) zero more (cs ∷ took) h ks = absurd (omega (arith, h))
flushed_all (p ∷ ps) (suc place) more (cs ∷ took) h ks = ap (λ (css : List (List Call)). (cs ++ more) ∷ css) (flushed_all ps place more took (omega (arith, h)) ks.1)

flushed_next : (ps : List Pad) (place : ℕ) (p q : Pad) (more : List Call) (took : List (List Call)) → slice_get ps place ≡ Some p
    → ((calls : List Call) → Knows p calls → Knows q (calls ++ more)) → KnowEach ps (flushed_to place more took)
    → KnowEach (set ps place q) (flushed_to (suc place) more took)
flushed_next [] place p q more took at next ks = absurd (cc)
flushed_next (r ∷ ps) place p q more [] at next ks = absurd ks
flushed_next (r ∷ ps) zero p q more (cs ∷ took) at next ks = (
  next cs (subst (λ (s : Pad). Knows s cs) (some_same at) ks.0),
  subst (λ (css : List (List Call)). KnowEach ps css) (sym (flushed_none more took)) ks.1,
)
flushed_next (r ∷ ps) (suc place) p q more (cs ∷ took) at next ks = (ks.0, flushed_next ps place p q more took at next ks.1)

-- as far as a place
abbrev pub FlushedTo : ℕ → List Pad → List Pad → Type 0
FlushedTo place old now = (took : List (List Call)) (number : ℕ) → KnowEach old took → KnowEach now (flushed_to place (flush_of number) took)

pub flush_begins : (ps : List Pad) → FlushedTo 0 ps ps
flush_begins ps took number ks = subst (λ (css : List (List Call)). KnowEach ps css) (sym (flushed_none (flush_of number) took)) ks

pub flush_goes_on : (old now : List Pad) (place : ℕ) (p q : Pad) → slice_get now place ≡ Some p
    → ((calls : List Call) (number : ℕ) → Knows p calls → Knows q (calls ++ flush_of number)) → FlushedTo place old now
    → FlushedTo (place + 1) old (set now place q)
flush_goes_on old now place p q at next f took number ks =
    subst (λ (n : ℕ). KnowEach (set now place q) (flushed_to n (flush_of number) took)) (sym (one_more place))
    (flushed_next now place p q (flush_of number) took at (λ calls k. next calls number k) (f took number ks))

pub flush_is_over : (old now : List Pad) (place : ℕ) → length now ≤ place → FlushedTo place old now
    → (took : List (List Call)) (number : ℕ) → KnowEach old took → KnowEach now (push_each (flush_of number) took)
flush_is_over old now place h f took number ks =
    let all = f took number ks in
    subst (λ (css : List (List Call)). KnowEach now css) (flushed_all now place (flush_of number) took h all) all
