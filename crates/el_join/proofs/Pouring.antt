-- What waits at the pads goes out, one pad after the other.
use Rattle.std.proofs.Common.{◌≡◌, ◌≤◌, ◌<◌, ◌+◌, ℕ, suc, Bool, true, false, if◌then◌else◌, Some, None, List, [], ◌∷◌, ◌++◌, map, length, set, sym, ap, ◌∙◌, subst, refl, append-nil, append_assoc, arith}
use Rattle.std.specs.Prelude.{slice_get}
use Rattle.std.proofs.lemmas.List.{length-map}
use Rattle.gst_item.specs.declared.out.Out.{Out}
use Rattle.flow_model.specs.declared.fault.ElementFault.{ElementFault}
use Rattle.flow_model.specs.Item.{Item, Ev, Eos}
use Rattle.flow_model.specs.Sticky.{has_flush_stop}
use Rattle.flow_model.specs.Feeding.{on_pad}
use Rattle.el_join.specs.declared.sums.Sums.{Sums}
use Rattle.el_join.specs.declared.pad.Facts.{Facts}
use Rattle.el_join.specs.declared.pad.Pad.{Pad}
use Rattle.el_join.specs.Outs.{items_of, fault_in, IsDue}
use Rattle.el_join.specs.Pads.{opening_of, ended}
use Rattle.el_join.specs.Totals.{with_tally, lifted}
use Rattle.el_join.specs.Joins.{facts_of, waiting_of, CountEach}
use Rattle.el_join.specs.Passing.{Swaps, Coming, ComesOn, later_from, going_from, GoesOn, PassesOn, TurnEnds}
use Rattle.el_join.proofs.Free.{lifted_free}
use Rattle.el_join.proofs.Lines.{swaps_map, coming_next, coming_stops, coming_whole}
use Rattle.el_join.proofs.Swapping.{swaps_set, swaps_same, swaps_none, some_is}
use Rattle.el_join.proofs.Turning.{going_at, going_end, going_set, going_length}
use Rattle.flow_model.proofs.Items.{free_append, on_append}
use Rattle.gst_value.proofs.Basics.{one_more}

-- a pad's facts and what waits there, with the pad exchanged
pub facts_swap : (k : ℕ) (pads : List Pad) (p q : Pad) (f : Facts) → slice_get pads k ≡ Some p → q.facts ≡ f → Swaps k p.facts f (facts_of pads) (facts_of (set pads k q))
facts_swap k pads p q f at e = subst (λ (g : Facts). Swaps k p.facts g (facts_of pads) (facts_of (set pads k q))) e (swaps_map (λ (r : Pad). r.facts) (swaps_set k pads p q at))

pub waits_swap : (k : ℕ) (pads : List Pad) (p q : Pad) (w : List Out) → slice_get pads k ≡ Some p → q.waiting ≡ w → Swaps k p.waiting w (waiting_of pads) (waiting_of (set pads k q))
waits_swap k pads p q w at e = subst (λ (v : List Out). Swaps k p.waiting v (waiting_of pads) (waiting_of (set pads k q))) e (swaps_map (λ (r : Pad). r.waiting) (swaps_set k pads p q at))

pub facts_same : (k : ℕ) (pads : List Pad) (p q : Pad) → slice_get pads k ≡ Some p → q.facts ≡ p.facts → facts_of (set pads k q) ≡ facts_of pads
facts_same k pads p q at e = swaps_none (facts_swap k pads p q p.facts at e)

pub waits_same : (k : ℕ) (pads : List Pad) (p q : Pad) → slice_get pads k ≡ Some p → q.waiting ≡ p.waiting → waiting_of (set pads k q) ≡ waiting_of pads
waits_same k pads p q at e = swaps_none (waits_swap k pads p q p.waiting at e)

-- From a pad on, as far as the pad in turn.
pub record Poured (first : List Pad) (from : ℕ) (behind : Sums) (begun : List Out) (pads : List Pad) (turn : ℕ) (sums : Sums) (into : List Out) : Type 0 where
  pub outs : into ++ on_pad 0 (going_from turn sums pads) ≡ begun ++ on_pad 0 (going_from from behind first)
  pub free : has_flush_stop (going_from turn sums pads) ≡ false → has_flush_stop (going_from from behind first) ≡ false
  pub facts : facts_of pads ≡ facts_of first
  pub comes : (start : Sums) (xss : List (List Item)) → CountEach (facts_of first) xss → Coming from start behind (waiting_of first) xss → Coming turn start sums (waiting_of pads) xss

pub poured_first : (pads : List Pad) (turn : ℕ) (sums : Sums) (into : List Out) → Poured pads turn sums into pads turn sums into
poured_first pads turn sums into = record { outs = refl; free = λ h. h; facts = refl; comes = λ start xss cs h. h }

module _ (first : List Pad) (from : ℕ) (behind : Sums) (begun : List Out) (pads : List Pad) (turn : ℕ) (sums : Sums) (into : List Out) (c : Poured first from behind begun pads turn sums into) where
  module _ (p q : Pad) (at : slice_get pads turn ≡ Some p) (facts : q.facts ≡ p.facts) (taken : q.waiting ≡ []) (free : has_flush_stop (items_of p.waiting) ≡ false) (into' : List Out)
      (outs : into' ≡ into ++ on_pad 0 (map (lifted sums) (items_of p.waiting))) where
    lifted_all : has_flush_stop (map (lifted sums) (items_of p.waiting)) ≡ false
    lifted_all = lifted_free sums (items_of p.waiting) ∙ free

    -- what goes out, and what is to go out behind it
    outs_are : (rest : List Item) → going_from turn sums pads ≡ map (lifted sums) (items_of p.waiting) ++ rest → into' ++ on_pad 0 rest ≡ begun ++ on_pad 0 (going_from from behind first)
    outs_are rest e =
        ap (λ os. os ++ on_pad 0 rest) outs
        ∙ append_assoc into (on_pad 0 (map (lifted sums) (items_of p.waiting))) (on_pad 0 rest)
        ∙ ap (λ os. into ++ os) (sym (on_append (map (lifted sums) (items_of p.waiting)) rest))
        ∙ ap (λ (xs : List Item). into ++ on_pad 0 xs) (sym e)
        ∙ c.outs

    free_is : (rest : List Item) → going_from turn sums pads ≡ map (lifted sums) (items_of p.waiting) ++ rest → has_flush_stop rest ≡ false → has_flush_stop (going_from from behind first) ≡ false
    free_is rest e h = c.free (ap has_flush_stop e ∙ free_append (map (lifted sums) (items_of p.waiting)) rest lifted_all h)

    rest_is : (b : Bool) → p.facts.ended ≡ b → going_from turn sums pads ≡ map (lifted sums) (items_of p.waiting) ++ (if b then going_from (suc turn) (with_tally sums p.facts.tally) pads else [])
    rest_is b e =
        going_at turn sums pads p at
        ∙ ap (λ (t : Bool). map (lifted sums) (items_of p.waiting) ++ (if t then going_from (suc turn) (with_tally sums p.facts.tally) pads else [])) e

    rest_set : p.facts.ended ≡ true → going_from turn sums pads ≡ map (lifted sums) (items_of p.waiting) ++ going_from (suc turn) (with_tally sums p.facts.tally) (set pads turn q)
    rest_set over = rest_is true over ∙ ap (λ xs. map (lifted sums) (items_of p.waiting) ++ xs) (sym (going_set turn (with_tally sums p.facts.tally) pads p q at))

    facts_stay : facts_of (set pads turn q) ≡ facts_of first
    facts_stay = facts_same turn pads p q at facts ∙ c.facts

    facts_at : Swaps turn p.facts p.facts (facts_of first) (facts_of first)
    facts_at = subst (λ (fs : List Facts). Swaps turn p.facts p.facts fs fs) c.facts (swaps_map (λ (r : Pad). r.facts) (swaps_same turn pads p at))

    at_next : p.facts.ended ≡ true → Poured first from behind begun (set pads turn q) (suc turn) (with_tally sums p.facts.tally) into'
    at_next over = record {
      outs = outs_are (going_from (suc turn) (with_tally sums p.facts.tally) (set pads turn q)) (rest_set over);
      free = free_is (going_from (suc turn) (with_tally sums p.facts.tally) (set pads turn q)) (rest_set over);
      facts = facts_stay;
      comes = λ start xss cs h. coming_next start sums xss facts_at (waits_swap turn pads p q [] at taken) over cs (c.comes start xss cs h);
    }

    pub poured_next : (after : Sums) → p.facts.ended ≡ true → after ≡ with_tally sums p.facts.tally → Poured first from behind begun (set pads turn q) (turn + 1) after into'
    poured_next after over to =
        subst (λ (k : ℕ). Poured first from behind begun (set pads turn q) k after into') (sym (one_more turn))
        (subst (λ (s : Sums). Poured first from behind begun (set pads turn q) (suc turn) s into') (sym to) (at_next over))

    pub poured_stop : p.facts.ended ≡ false → GoesOn first (set pads turn q) from turn behind sums begun into'
    poured_stop none = record {
      outs = sym (append-nil into') ∙ outs_are [] (rest_is false none);
      free = free_is [] (rest_is false none) refl;
      facts = facts_stay;
      comes = λ start xss cs h.
          let ds = subst (λ (fs : List Facts). CountEach fs xss) facts_stay cs in
          coming_stops start sums xss facts_at (waits_swap turn pads p q [] at taken) none ds (c.comes start xss ds h);
    }

  pub poured_end : (into' : List Out) → length pads ≡ turn → into' ≡ into ++ on_pad 0 (Ev Eos ∷ []) → GoesOn first pads from turn behind sums begun into'
  poured_end into' whole outs =
      let least : length pads ≤ turn = omega (arith, whole) in
      let eos = going_end turn sums pads least in
      record {
        outs = outs ∙ ap (λ (xs : List Item). into ++ on_pad 0 xs) (sym eos) ∙ c.outs;
        free = c.free (ap has_flush_stop eos);
        facts = c.facts;
        comes = λ start xss cs h.
            coming_whole turn start sums (waiting_of pads) xss (length-map pads (λ (r : Pad). r.waiting) ∙ whole) (c.comes start xss (subst (λ (fs : List Facts). CountEach fs xss) c.facts cs) h);
      }

-- room for what goes out, and for what goes out further
pub room_here : (turn : ℕ) (sums : Sums) (pads : List Pad) (p : Pad) → slice_get pads turn ≡ Some p → (len room : ℕ) → len + length (going_from turn sums pads) ≤ room → len + length p.waiting ≤ room
room_here turn sums pads p at len room h = let n = going_length turn sums pads p at p.facts.ended refl in omega (arith, n, h)

pub room_next : (turn : ℕ) (sums : Sums) (pads : List Pad) (p q : Pad) → slice_get pads turn ≡ Some p → (len len' room : ℕ) (after : Sums) → p.facts.ended ≡ true → after ≡ with_tally sums p.facts.tally
    → len' ≡ len + length p.waiting → len + length (going_from turn sums pads) ≤ room → len' + length (going_from (turn + 1) after (set pads turn q)) ≤ room
room_next turn sums pads p q at len len' room after over to more h =
    let n = going_length turn sums pads p at true over in
    let same : length (going_from (turn + 1) after (set pads turn q)) ≡ length (going_from (suc turn) (with_tally sums p.facts.tally) pads) =
    ap (λ (k : ℕ). length (going_from k after (set pads turn q))) (one_more turn) ∙ ap (λ (s : Sums). length (going_from (suc turn) s (set pads turn q))) to
    ∙ ap length (going_set turn (with_tally sums p.facts.tally) pads p q at) in
    omega (arith, n, same, more, h)

pub room_end : (turn : ℕ) (sums : Sums) (pads : List Pad) (len room : ℕ) → length pads ≤ turn → len + length (going_from turn sums pads) ≤ room → len < room
room_end turn sums pads len room least h = let n = ap length (going_end turn sums pads least) in omega (arith, n, h)

-- whether a pad that poured had EOS
pub goes_on : (b : Bool) (sums after : Sums) → (if b then Some sums else None) ≡ Some after → b ≡ true
goes_on true sums after e = refl
goes_on false sums after e = absurd (cc)

pub behind_is : (b : Bool) (sums after : Sums) → (if b then Some sums else None) ≡ Some after → after ≡ sums
behind_is true sums after e = cc
behind_is false sums after e = absurd (cc)

pub stops_there : (b : Bool) (sums : Sums) → (if b then Some sums else None) ≡ None → b ≡ false
stops_there true sums e = absurd (cc)
stops_there false sums e = refl

-- what goes out behind a pad, with the pad exchanged
pub going_same : (turn : ℕ) (sums : Sums) (pads : List Pad) (p q : Pad) → slice_get pads turn ≡ Some p → going_from (turn + 1) sums (set pads turn q) ≡ going_from (turn + 1) sums pads
going_same turn sums pads p q at =
    ap (λ (k : ℕ). going_from k sums (set pads turn q)) (one_more turn) ∙ going_set turn sums pads p q at ∙ ap (λ (k : ℕ). going_from k sums pads) (sym (one_more turn))

-- The pad in turn had EOS.
module _ (pads new : List Pad) (turn turn' : ℕ) (sums sums' : Sums) (p q : Pad) (front into into1 into' : List Out) (at : slice_get pads turn ≡ Some p)
    (facts : q.facts ≡ ended p.facts) (waits : q.waiting ≡ p.waiting) (pours : into1 ≡ into ++ front) where
  pub passes_is : GoesOn (set pads turn q) new (turn + 1) turn' sums sums' into1 into' → PassesOn pads new turn turn' sums sums' p front into into'
  passes_is g = record {
    outs = g.outs ∙ ap (λ os. os ++ on_pad 0 (going_from (turn + 1) sums (set pads turn q))) pours
        ∙ append_assoc into front (on_pad 0 (going_from (turn + 1) sums (set pads turn q)))
        ∙ ap (λ (xs : List Item). into ++ (front ++ on_pad 0 xs)) (going_same turn sums pads p q at);
    free = ap has_flush_stop (sym (going_same turn sums pads p q at)) ∙ g.free;
    facts = subst (λ (fs : List Facts). Swaps turn p.facts (ended p.facts) (facts_of pads) fs) (sym g.facts) (facts_swap turn pads p q (ended p.facts) at facts);
    comes = subst (λ (ws : List (List Out)). ComesOn (turn + 1) sums ws turn' sums' new) (waits_same turn pads p q at waits) g.comes;
  }

module _ (pads new : List Pad) (turn turn' : ℕ) (sums behind sums' : Sums) (p r : Pad) (front out out' into into' : List Out) (at : slice_get pads turn ≡ Some p) (is : slice_get pads turn ≡ Some r)
    (to : behind ≡ with_tally sums p.facts.tally) where
  pub ends_is : front ≡ on_pad 0 (opening_of p.facts.begun p.facts.inherited) → into ≡ out → out' ≡ into' → fault_in (later_from (turn + 1) behind pads) ≡ None
      → ((q : Pad) → slice_get pads turn ≡ Some q → PassesOn pads new turn turn' behind sums' q front into into') → TurnEnds pads new turn turn' sums sums' r out out'
  ends_is opens takes gives fits passes =
      subst (λ (q : Pad). TurnEnds pads new turn turn' sums sums' q out out') (some_is p r (sym at ∙ is)) (record {
        passes = subst (λ (s : Sums). PassesOn pads new turn turn' s sums' p (on_pad 0 (opening_of p.facts.begun p.facts.inherited)) out out') to
            (subst (λ (os : List Out). PassesOn pads new turn turn' behind sums' p os out out') opens
            (subst (λ (os : List Out). PassesOn pads new turn turn' behind sums' p front os out') takes
            (subst (λ (os : List Out). PassesOn pads new turn turn' behind sums' p front into os) (sym gives) (passes p at))));
        fits = subst (λ (s : Sums). fault_in (later_from (turn + 1) s pads) ≡ None) to fits;
      })

  pub ends_due : (fault : ElementFault) → IsDue (fault_in (later_from (turn + 1) behind pads)) fault → IsDue (fault_in (later_from (turn + 1) (with_tally sums r.facts.tally) pads)) fault
  ends_due fault due =
      subst (λ (q : Pad). IsDue (fault_in (later_from (turn + 1) (with_tally sums q.facts.tally) pads)) fault) (some_is p r (sym at ∙ is))
      (subst (λ (s : Sums). IsDue (fault_in (later_from (turn + 1) s pads)) fault) to due)

pub passes_at : (pads new : List Pad) (turn turn' : ℕ) (sums sums' : Sums) (p q : Pad) (front into into1 into' : List Out) → slice_get pads turn ≡ Some p → q.facts ≡ ended p.facts → q.waiting ≡ p.waiting
    → into1 ≡ into ++ front → GoesOn (set pads turn q) new (turn + 1) turn' sums sums' into1 into' → (r : Pad) → slice_get pads turn ≡ Some r → PassesOn pads new turn turn' sums sums' r front into into'
passes_at pads new turn turn' sums sums' p q front into into1 into' at facts waits pours g r is =
    subst (λ (z : Pad). PassesOn pads new turn turn' sums sums' z front into into') (some_is p r (sym at ∙ is))
    (passes_is pads new turn turn' sums sums' p q front into into1 into' at facts waits pours g)
