-- A body that is written in pieces, as it stands after each.
use Rattle.std.proofs.Common.{◌≡◌, ℕ, ◌+◌, ◌-◌, ◌≤◌, List, length, take, drop, refl, ap, sym, ◌∙◌, arith, Option, None, Some, option_map, length-take}
use Rattle.std.proofs.lemmas.List.{take-take}
use Rattle.gst_outside.specs.Bytes.{written}
use Rattle.gst_outside.proofs.Writing.{told_written-written}
use Rattle.gst_value.proofs.Places.{take_apart}

pub nothing_written : (bytes : Option (List ℕ)) (place : ℕ) (body : List ℕ) → bytes ≡ option_map (λ b. written b place (take 0 body)) bytes
nothing_written None place body = refl
nothing_written (Some b) place body = refl

pub more_written : (first now after : Option (List ℕ)) (place done more : ℕ) (body : List ℕ) → done ≤ length body → more ≤ length body - done
    → now ≡ option_map (λ b. written b place (take done body)) first
    → after ≡ option_map (λ b. written b (place + done) (take more (take (length body - done) (drop done body)))) now
    → after ≡ option_map (λ b. written b place (take (done + more) body)) first
more_written first now after place done more body within fits before step =
    let size : length (take done body) ≡ done = omega (arith, length-take done body) in
    let piece : List ℕ = take more (drop done body) in
    step
    ∙ ap (λ part. option_map (λ b. written b (place + done) part) now) (take-take more (length body - done) (drop done body) fits)
    ∙ ap (λ n. option_map (λ b. written b (place + n) piece) now) (sym size)
    ∙ ap (λ bytes. option_map (λ b. written b (place + length (take done body)) piece) bytes) before
    ∙ told_written-written first place (take done body) piece
    ∙ ap (λ part. option_map (λ b. written b place part) first) (sym (take_apart done more body))
