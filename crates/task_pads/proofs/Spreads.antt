-- What is put out goes to the pads one by one.
use Rattle.std.proofs.Common.{◌≡◌, ◌<◌, ◌⊎◌, ℕ, List, [], ◌∷◌, ◌++◌, length, get_or, map, Some, refl, sym, ap, ◌∙◌, subst, inl, inr, append_assoc, arith}
use Rattle.std.specs.Prelude.{slice_get, slice_set}
use Rattle.std.proofs.lemmas.Bool.{cases_eq}
use Rattle.std.proofs.lemmas.Option.{slice_get_within}
use Rattle.gst_item.specs.declared.out.Out.{Out}
use Rattle.flow_model.specs.Item.{Item}
use Rattle.flow_model.specs.Takes.{on_port, AreWithin}
use Rattle.task_pads.specs.declared.pad.Pad.{Pad}
use Rattle.task_pads.specs.Pads.{rest_of, waiting_of}
use Rattle.task_pads.specs.Put.{MovesFirst, Spread, SpreadAt}
use Rattle.task_pads.proofs.Lists.{some_at, set_there, map_set, set_length}
use Rattle.task_pads.proofs.Waiting.{on_here, on_other}
use Rattle.gst_value.proofs.Places.{set_here}

-- of what was put out the rest is still to go to the pads
pub record SoFar {O : Type 0} (outs rest : List Out) (pads pads' : List (Pad O)) : Type 0 where
  pub rests : map rest_of pads' ≡ map rest_of pads
  pub each : Spread outs rest pads pads'
  pub within : AreWithin (length pads') rest

module _ {O : Type 0} (outs rest rest' : List Out) (pads now : List (Pad O)) (k : ℕ) (was is : Pad O) where
  -- what waits at one pad and what is still to go there are together what they were
  set_one : slice_get now k ≡ Some was → rest_of is ≡ rest_of was → waiting_of is ++ on_port k rest' ≡ waiting_of was ++ on_port k rest
      → ((port : ℕ) → (port ≡ k → ⊥) → on_port port rest' ≡ on_port port rest) → AreWithin (length now) rest' → SoFar outs rest pads now → SoFar outs rest' pads (slice_set now k is)
  set_one here same whole others within s = record {
    rests = map_set rest_of now k was is here same ∙ s.rests;
    each = λ place pad e. go place pad e (cases_eq place k);
    within = subst (λ (n : ℕ). AreWithin n rest') (sym (set_length now k is)) within;
  }
    where
      go : (place : ℕ) (pad : Pad O) → slice_get (slice_set now k is) place ≡ Some pad → ((place ≡ k) ⊎ (place ≡ k → ⊥)) → SpreadAt pads outs rest' place pad
      go place pad e (inl i) =
          let it : pad ≡ is = set_here now k pad is (subst (λ (j : ℕ). slice_get (slice_set now k is) j ≡ Some pad) i e) in
          let old : SpreadAt pads outs rest k was = s.each k was here in record {
            was = old.was;
            at = subst (λ (j : ℕ). slice_get pads j ≡ Some old.was) (sym i) old.at;
            rest = ap (λ (q : Pad O). rest_of q) it ∙ same ∙ old.rest;
            waiting = subst (λ (j : ℕ). waiting_of pad ++ on_port j rest' ≡ waiting_of old.was ++ on_port j outs) (sym i)
                (ap (λ (q : Pad O). waiting_of q ++ on_port k rest') it ∙ whole ∙ old.waiting);
          }
      go place pad e (inr n) =
          let old = s.each place pad (sym (set_there now k place is n) ∙ e) in record {
            was = old.was;
            at = old.at;
            rest = old.rest;
            waiting = ap (λ (xs : List Item). waiting_of pad ++ xs) (others place n) ∙ old.waiting;
          }

module _ {O : Type 0} (outs rest : List Out) (pads now : List (Pad O)) (k : ℕ) (was is : Pad O) (here : slice_get now k ≡ Some was) (s : SoFar outs rest pads now) where
  -- a pad has more room
  pub so_far_room : rest_of is ≡ rest_of was → waiting_of is ≡ waiting_of was → SoFar outs rest pads (slice_set now k is)
  so_far_room same waits = set_one outs rest rest pads now k was is here same (ap (λ (xs : List Item). xs ++ on_port k rest) waits) (λ port n. refl) s.within s

-- one more waits at its pad
pub so_far_next : {O : Type 0} (outs : List Out) (one : Out) (rest : List Out) (pads now : List (Pad O)) (was is : Pad O) → slice_get now one.pad ≡ Some was → rest_of is ≡ rest_of was
    → waiting_of is ≡ waiting_of was ++ one.item ∷ [] → SoFar outs (one ∷ rest) pads now → SoFar outs rest pads (slice_set now one.pad is)
so_far_next outs one rest pads now was is here same waits s =
    set_one outs (one ∷ rest) rest pads now one.pad was is here same
    (ap (λ (xs : List Item). xs ++ on_port one.pad rest) waits ∙ append_assoc (waiting_of was) (one.item ∷ []) (on_port one.pad rest) ∙ ap (λ (xs : List Item). waiting_of was ++ xs) (sym (on_here one rest)))
    (λ port n. sym (on_other port one rest (λ e. n (sym e)))) s.within.2 s

pub first_within : (ports : ℕ) (outs : List Out) (first : Out) (rest : List Out) → outs ≡ first ∷ rest → AreWithin ports outs → first.pad < ports
first_within ports outs first rest e w = (subst (λ (os : List Out). AreWithin ports os) e w).0

-- the first that is left went to its pad, which had got room
pub so_far_moved : {O : Type 0} (outs left left' rest : List Out) (first : Out) (pads now : List (Pad O)) (was mid there is : Pad O) → left ≡ first ∷ rest → slice_get now first.pad ≡ Some was
    → rest_of mid ≡ rest_of was → waiting_of mid ≡ waiting_of was → there ≡ get_or (slice_set now first.pad mid) first.pad there → rest_of is ≡ rest_of there
    → MovesFirst left left' (waiting_of there) (waiting_of is) → SoFar outs left pads now → SoFar outs left' pads (slice_set (slice_set now first.pad mid) first.pad is)
so_far_moved {O = O} outs left left' rest first pads now was mid there is whole here same waits found kept m s =
    let low : first.pad < length now = slice_get_within now first.pad was here in
    let first_is : m.first ≡ first = cc (m.whole, whole) in
    let whole' : left ≡ first ∷ left' = m.whole ∙ ap (λ (o : Out). o ∷ left') first_is in
    so_far_next outs first left' pads (slice_set now first.pad mid) there is (some_at (slice_set now first.pad mid) first.pad there (omega (arith, low, set_length now first.pad mid)) found) kept
    (m.waits ∙ ap (λ (o : Out). waiting_of there ++ o.item ∷ []) first_is)
    (subst (λ (os : List Out). SoFar outs os pads (slice_set now first.pad mid)) whole' (so_far_room outs left pads now first.pad was mid here s same waits))
