-- Steps keep what a pad holds.
use Rattle.std.proofs.Common.{◌≡◌, ℕ, suc, ◌-◌, ◌+◌, ◌≤◌, List, [], ◌∷◌, ◌++◌, length, take, subst, sym, ap, ◌∙◌, append_assoc, length-append, length-take, arith}
use Rattle.std.proofs.Math.Seq.{take-append_seam}
use Rattle.flow_model.specs.Item.{Item, Ev, FlushStop}
use Rattle.flow_model.specs.Prefix.{IsPrefix}
use Rattle.flow_model.specs.Rule.{Owed}
use Rattle.flow_model.specs.Eval.{cut_at}
use Rattle.flow_model.specs.Account.{CutsWithin, PadAccount}
use Rattle.flow_model.proofs.Prefixes.{prefix_refl, take_prefix, prefix_length}
use Rattle.flow_model.specs.Pad.{Holds, Grows, Ends, SourceEnds}

pub holds_all : (base j : ℕ) (cs : List (ℕ × ℕ)) (owed : Owed) (history waiting : List Item) → Holds base j cs owed history waiting → cut_at base j cs owed ≡ history ++ waiting
holds_all base j [] owed history waiting h = h
holds_all base j (c ∷ cs) owed history waiting h =
    ap (λ zs. take (c.1 - base) (owed j) ++ Ev (FlushStop c.0) ∷ zs) (holds_all (suc c.1) (suc j) cs owed h.0 waiting h.4)
    ∙ sym (append_assoc (take (c.1 - base) (owed j)) (Ev (FlushStop c.0) ∷ h.0) waiting)
    ∙ ap (λ zs. zs ++ waiting) (sym h.3)

pub holds_cuts : (base j : ℕ) (cs : List (ℕ × ℕ)) (owed : Owed) (history waiting : List Item) → Holds base j cs owed history waiting → CutsWithin base j cs owed
holds_cuts base j [] owed history waiting h = tt
holds_cuts base j (c ∷ cs) owed history waiting h = (h.2, holds_cuts (suc c.1) (suc j) cs owed h.0 waiting h.4)

-- what a pad holds gives its account
pub account_of : (cuts : List (ℕ × ℕ)) (owed : Owed) (history waiting : List Item) → Holds 0 0 cuts owed history waiting → PadAccount (record { cuts = cuts; count = length history }) owed history
account_of cuts owed history waiting h =
    let all = holds_all 0 0 cuts owed history waiting h in
    record {
      is = sym (ap (take (length history)) all ∙ take-append_seam history waiting);
      cuts = holds_cuts 0 0 cuts owed history waiting h;
      count = rw (all, length-append) (omega arith);
    }

-- an item crosses
pub holds_crossing : (base j : ℕ) (cs : List (ℕ × ℕ)) (owed : Owed) (history waiting : List Item) (x : Item) → Holds base j cs owed history (x ∷ waiting) → Holds base j cs owed (history ++ x ∷ []) waiting
holds_crossing base j [] owed history waiting x h = h ∙ sym (append_assoc history (x ∷ []) waiting)
holds_crossing base j (c ∷ cs) owed history waiting x h = (
  h.0 ++ x ∷ [],
  h.1,
  h.2,
  ap (λ zs. zs ++ x ∷ []) h.3 ∙ append_assoc (take (c.1 - base) (owed j)) (Ev (FlushStop c.0) ∷ h.0) (x ∷ []),
  holds_crossing (suc c.1) (suc j) cs owed h.0 waiting x h.4,
)

-- the element is fed, and puts out more
pub holds_fed : (base j : ℕ) (cs : List (ℕ × ℕ)) (owed owed' : Owed) (history waiting more : List Item) → Grows j cs owed owed' more → Holds base j cs owed history waiting → Holds base j cs owed' history (waiting ++ more)
holds_fed base j [] owed owed' history waiting more g h = g ∙ ap (λ zs. zs ++ more) h ∙ append_assoc history waiting more
holds_fed base j (c ∷ cs) owed owed' history waiting more g h =
    (h.0, h.1, rw g.0 h.2, rw g.0 h.3, holds_fed (suc c.1) (suc j) cs owed owed' h.0 waiting more g.1 h.4)

-- a flush drops what waits, and FLUSH_STOP crosses
pub holds_flushed : (base j : ℕ) (cs : List (ℕ × ℕ)) (owed owed' : Owed) (history waiting now : List Item) (k place : ℕ) → place ≡ base + length history → Ends j cs owed owed' now
    → Holds base j cs owed history waiting → Holds base j (cs ++ (k, place) ∷ []) owed' (history ++ Ev (FlushStop k) ∷ []) now
holds_flushed base j [] owed owed' history waiting now k place p e h =
    let there : length history ≤ length (owed j) = rw (h, length-append) (omega arith) in
    let n : place - base ≡ length history = omega arith in
    let same : take (length history) (owed' j) ≡ history = sym (take_prefix (length history) e.0 there) ∙ ap (take (length history)) h ∙ take-append_seam history waiting in
    let fits = prefix_length e.0 in
    ([], omega arith, rw n (omega arith), ap (λ zs. zs ++ Ev (FlushStop k) ∷ []) (sym same ∙ ap (λ m. take m (owed' j)) (sym n)), e.1)
holds_flushed base j (c ∷ cs) owed owed' history waiting now k place p e h =
    let long : length history ≡ (c.1 - base) + suc (length h.0) = rw (h.3, length-append, length-take) (let room = h.2 in omega arith) in
    let low = h.1 in (
      h.0 ++ Ev (FlushStop k) ∷ [],
      h.1,
      rw e.0 h.2,
      rw e.0 (ap (λ zs. zs ++ Ev (FlushStop k) ∷ []) h.3 ∙ append_assoc (take (c.1 - base) (owed j)) (Ev (FlushStop c.0) ∷ h.0) (Ev (FlushStop k) ∷ [])),
      holds_flushed (suc c.1) (suc j) cs owed owed' h.0 waiting now k place (omega arith) e.1 h.4,
    )

-- sections that are owed as before, and one more
ends_by : (j : ℕ) (cs : List (ℕ × ℕ)) (owed owed' : Owed) (now : List Item) → ((i : ℕ) → i ≤ j + length cs → owed' i ≡ owed i) → owed' (suc (j + length cs)) ≡ now → Ends j cs owed owed' now
ends_by j [] owed owed' now same next =
    let e : j + 0 ≡ j = omega arith in
    (subst (IsPrefix (owed j)) (sym (same j (omega arith))) (prefix_refl (owed j)), subst (λ n. owed' (suc n) ≡ now) e next)
ends_by j (c ∷ cs) owed owed' now same next =
    let e : j + suc (length cs) ≡ suc j + length cs = omega arith in
    (same j (omega arith), ends_by (suc j) cs owed owed' now (λ i le. same i (omega arith)) (subst (λ n. owed' (suc n) ≡ now) e next))

pub source_ends : SourceEnds
source_ends cuts owed owed' now same next =
    let e : 0 + length cuts ≡ length cuts = omega arith in
    ends_by 0 cuts owed owed' now (λ i le. same i (omega arith)) (subst (λ n. owed' (suc n) ≡ now) (sym e) next)
