-- Samples that are coded by groups.
use Rattle.std.proofs.Common.{◌≡◌, ◌≤◌, ◌+◌, ◌*◌, ◌/◌, ◌%◌, ℕ, ℤ, pos, negsuc, List, [], ◌∷◌, ◌++◌, map, length, take, drop, refl, sym, ap, ◌∙◌, length-drop, arith}
use Rattle.std.proofs.lemmas.List.{take_all}
use Rattle.std.proofs.lemmas.List.Concat.{flat_map-append}
use Rattle.std.specs.List.{flat_map}
use Rattle.std.specs.Simd.{first_chunks}
use Rattle.audio_info.specs.Packing.{sample_bytes, sample_value}
use Rattle.audio_info.specs.Segments.{mulaw_code}
use Rattle.audio_info.specs.declared.sample.Sample.TheVariants.{S16LE as Linear, MuLaw}
use Rattle.el_law.specs.Laws.{recoded_bytes}
use Rattle.el_law.proofs.Pieces.{pieces_behind, grouped_pieces}

-- the code of a sample is its byte
code_fits : (v : ℤ) → mulaw_code v % 256 ≡ mulaw_code v
unfolding mulaw_code
code_fits (pos n) = omega arith
code_fits (negsuc n) = omega arith

byte_of : (v : ℤ) → sample_bytes MuLaw v ≡ mulaw_code v ∷ []
byte_of v = ap (λ (c : ℕ). c ∷ []) (code_fits v)

abbrev pub coded : List ℕ → List ℕ
coded s = sample_bytes MuLaw (sample_value Linear s)

pub bytes_of : (samples : List (List ℕ)) → map (λ s. mulaw_code (sample_value Linear s)) samples ≡ flat_map coded samples
bytes_of [] = refl
bytes_of (s ∷ samples) =
    ap (λ (t : List ℕ). mulaw_code (sample_value Linear s) ∷ t) (bytes_of samples)
    ∙ ap (λ (b : List ℕ). b ++ flat_map coded samples) (sym (byte_of (sample_value Linear s)))

-- the groups, and what stands behind them, are all samples
pub grouped_whole : (bytes made : List ℕ) (i : ℕ) (rest : List ℕ) (samples : List (List ℕ)) → rest ≡ drop (length bytes / 32 * 32) bytes → samples ≡ first_chunks 2 (length rest / 2) rest → length samples ≤ i
    → made ≡ flat_map (λ g. flat_map coded (first_chunks 2 16 g)) (first_chunks 32 (length bytes / 32) bytes) ++ flat_map coded (take i samples) → made ≡ recoded_bytes Linear MuLaw bytes
grouped_whole bytes made i rest samples behind are all is =
    let n = length bytes / 32 in
    let size : length bytes / 2 ≡ n * 16 + length rest / 2 = rw (behind, length-drop) (omega arith) in
    let where_rest : n * 16 * 2 ≡ n * 32 = omega arith in
    is
    ∙ ap (λ (ys : List ℕ). ys ++ flat_map coded (take i samples)) (grouped_pieces coded 2 16 n bytes)
    ∙ ap (λ (ps : List (List ℕ)). flat_map coded (first_chunks 2 (n * 16) bytes) ++ flat_map coded ps) (take_all i samples all ∙ are ∙ ap (λ (ys : List ℕ). first_chunks 2 (length rest / 2) ys) (behind ∙ ap (λ k. drop k bytes) (sym where_rest)))
    ∙ sym (flat_map-append coded (first_chunks 2 (n * 16) bytes) (first_chunks 2 (length rest / 2) (drop (n * 16 * 2) bytes)))
    ∙ ap (flat_map coded) (sym (pieces_behind 2 (n * 16) (length rest / 2) bytes) ∙ ap (λ k. first_chunks 2 k bytes) (sym size))
