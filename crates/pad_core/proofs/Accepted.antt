-- A sink pad with one more item.
use Rattle.std.proofs.Common.{◌≡◌, ℕ, ◌+◌, Bool, true, false, if◌then◌else◌, List, [], ◌∷◌, ◌++◌, length, refl, sym, ap, ◌∙◌, arith, min}
use Rattle.std.proofs.lemmas.List.{length_push}
use Rattle.gst_item.proofs.Kept.{in_force_push}
use Rattle.gst_item.specs.Sticky.{InForce, in_force}
use Rattle.pad_core.specs.Item.{Item, is_eos, is_flush_stop}
use Rattle.pad_core.specs.Crossing.{has_ended}
use Rattle.pad_core.specs.declared.sink_pad.SinkPad.{SinkPad}
use Rattle.pad_core.specs.SinkPad.{AcceptedBy}
use Rattle.gst_item.specs.Item.{has_item}

-- whether a stream has ended behind one more item
ended_behind : (h : List Item) (x : Item) → has_ended (h ++ x ∷ []) ≡ (if is_flush_stop x then false else (if is_eos x then true else has_ended h))
ended_behind h x = ap (λ (s : InForce). has_item s.eos) (in_force_push h x) ∙ go (is_flush_stop x) (is_eos x)
  where
    go : (f e : Bool) → has_item (if f then [] else (if e then x ∷ [] else (in_force h).eos)) ≡ (if f then false else (if e then true else has_ended h))
    go true e = refl
    go false true = refl
    go false false = refl

least_more : (n m limit : ℕ) → m ≡ min n limit → min (m + 1) limit ≡ min (n + 1) limit
least_more n m limit e = omega (arith, e)

pub accepted : (old new : SinkPad) (x : Item) → new.accepted ≡ min (old.accepted + 1) 18446744073709551615
    → new.ended ≡ (if is_flush_stop x then false else (if is_eos x then true else old.ended))
    → (h : List Item) → AcceptedBy old h → AcceptedBy new (h ++ x ∷ [])
accepted old new x counted ended h p =
    record {
      accepted = counted ∙ least_more (length h) old.accepted 18446744073709551615 p.accepted ∙ ap (λ n. min n 18446744073709551615) (sym (length_push h x));
      ended = ended ∙ ap (λ b. if is_flush_stop x then false else (if is_eos x then true else b)) p.ended ∙ sym (ended_behind h x);
    }
