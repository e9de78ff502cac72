-- Writing a text piece by piece.
use Rattle.std.proofs.Common.{◌≡◌, ◌≤◌, ℕ, ◌+◌, ◌-◌, List, length, take, drop, ap, sym, ◌∙◌, arith, length-take, length-drop, Option, option_map}
use Rattle.std.proofs.Math.Seq.{take-add}
use Rattle.std.proofs.lemmas.List.{take_all}
use Rattle.gst_outside.specs.Bytes.{written}
use Rattle.gst_outside.proofs.Writing.{told_written-written}
use Rattle.world_core.specs.Headline.{Wrote}

-- one piece more of a text
pub write_more : (before now next : Option (List ℕ)) (text : List ℕ) (done n : ℕ) → done ≤ length text → Wrote (take done text) before now
    → next ≡ option_map (λ b. written b done (take n (take (length text - done) (drop done text)))) now → Wrote (take (done + n) text) before next
write_more before now next text done n h was e =
    let rest : take (length text - done) (drop done text) ≡ drop done text = take_all (length text - done) (drop done text) (rw length-drop (omega arith)) in
    let size : 0 + length (take done text) ≡ done = rw length-take (omega arith) in
    e ∙ ap (λ r. option_map (λ b. written b done (take n r)) now) rest
    ∙ ap (λ m. option_map (λ b. written b done (take n (drop done text))) m) was
    ∙ ap (λ k. option_map (λ b. written b k (take n (drop done text))) (option_map (λ b. written b 0 (take done text)) before)) (sym size)
    ∙ told_written-written before 0 (take done text) (take n (drop done text))
    ∙ ap (λ r. option_map (λ b. written b 0 r) before) (sym (take-add done n text))
