-- A body that is there whole.
use Rattle.std.proofs.Common.{◌≡◌, ℕ, ◌≤◌, false, Option, None, List, length, drop, codes, sym, subst, ◌∙◌, arith}
use Rattle.std.proofs.lemmas.List.{length-take, length-drop, take_all}
use Rattle.wav_format.specs.declared.format.SampleFormat.{SampleFormat}
use Rattle.wav_format.specs.Chunks.{begins, body_at, body_size, chunk_length, longest_head, IsPassed}
use Rattle.wav_format.specs.Cuts.{HasRoom}
use Rattle.wav_format.specs.Format.{IsFormat}
use Rattle.wav_format.specs.Faults.{MayBeFormat}

pub body_whole : (left : List ℕ) → chunk_length left ≤ length left → length (body_at left) ≡ body_size left
body_whole left whole = omega (arith, length-take (body_size left) (drop 8 left), length-drop 8 left)

pub whole_format : (given : List ℕ) (size : ℕ) → length given ≡ size → MayBeFormat given size → IsFormat given
whole_format given size e (body, all, f) =
    let same : body ≡ given = sym (take_all (length given) body (omega (arith, all.long, e))) ∙ all.front in
    subst IsFormat same f

pub passed : (at : ℕ) (known : Option SampleFormat) (left : List ℕ) → 8 ≤ length left → begins (codes "data") left ≡ false → HasRoom (record { at = at; known = None; left = left }) → chunk_length left ≤ length left → IsPassed longest_head (record { at = at; known = known; left = left })
passed at known left headed other has whole = record {
  headed = headed;
  other = other;
  room = has.room;
  format = λ h. whole_format (body_at left) (body_size left) (body_whole left whole) (has.format h);
  whole = whole;
}
