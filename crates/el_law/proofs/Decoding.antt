-- Codes of one byte each, decoded.
use Rattle.std.proofs.Common.{◌≡◌, ◌<◌, ◌≤◌, ◌+◌, ◌/◌, ℕ, List, [], ◌∷◌, ◌++◌, length, take, get_or, refl, sym, ◌∙◌, ap, append-nil, append_assoc, arith}
use Rattle.std.proofs.lemmas.List.{take_all, take_more}
use Rattle.std.proofs.lemmas.List.Concat.{flat_map-append}
use Rattle.std.specs.List.{flat_map}
use Rattle.audio_info.specs.Packing.{sample_bytes, sample_value}
use Rattle.audio_info.specs.declared.sample.Sample.TheVariants.{S16LE as Linear, MuLaw as MuLawCodes, ALaw as ALawCodes}
use Rattle.el_law.specs.declared.recode.Companding.{Companding}
use Rattle.el_law.specs.declared.recode.Companding.TheVariants.{MuLaw, ALaw}
use Rattle.el_law.specs.Companding.{format_of}
use Rattle.el_law.specs.Laws.{recoded_bytes}
use Rattle.el_law.proofs.Pieces.{single_pieces}

two_are : (bytes : List ℕ) → length bytes ≡ 2 → get_or bytes 0 0 ∷ get_or bytes 1 0 ∷ [] ≡ bytes
two_are (a ∷ b ∷ []) two = refl
two_are [] two = absurd (omega arith)
two_are (a ∷ []) two = absurd (omega arith)
two_are (a ∷ b ∷ d ∷ bs) two = absurd (omega arith)

-- what is made of one more code
pub decoded_more : (f : ℕ → List ℕ) (codes : List ℕ) (i : ℕ) (made once twice bytes : List ℕ) → i < length codes → made ≡ flat_map f (take i codes)
    → once ≡ made ++ get_or bytes 0 0 ∷ [] → twice ≡ once ++ get_or bytes 1 0 ∷ [] → length bytes ≡ 2 → bytes ≡ f (get_or codes i 0) → twice ≡ flat_map f (take (i + 1) codes)
decoded_more f codes i made once twice bytes within so first second two coded =
    let more : twice ≡ made ++ f (get_or codes i 0) = second ∙ ap (λ l. l ++ get_or bytes 1 0 ∷ []) first ∙ append_assoc made (get_or bytes 0 0 ∷ []) (get_or bytes 1 0 ∷ []) ∙ ap (λ l. made ++ l) (two_are bytes two ∙ coded) in
    rw (more, so, take_more codes i 0 within, flat_map-append f (take i codes) (get_or codes i 0 ∷ [])) (ap (λ s. flat_map f (take i codes) ++ s) (sym (append-nil (f (get_or codes i 0)))))

decoded_is : (law : Companding) (codes : List ℕ) → flat_map (λ c. sample_bytes Linear (sample_value (format_of law) (c ∷ []))) codes ≡ recoded_bytes (format_of law) Linear codes
decoded_is MuLaw codes =
    let one : length codes / 1 ≡ length codes = omega arith in
    rw one (sym (single_pieces (λ s. sample_bytes Linear (sample_value MuLawCodes s)) codes))
decoded_is ALaw codes =
    let one : length codes / 1 ≡ length codes = omega arith in
    rw one (sym (single_pieces (λ s. sample_bytes Linear (sample_value ALawCodes s)) codes))

pub decoded_whole : (law : Companding) (codes made : List ℕ) (i : ℕ) → length codes ≤ i → made ≡ flat_map (λ c. sample_bytes Linear (sample_value (format_of law) (c ∷ []))) (take i codes) → made ≡ recoded_bytes (format_of law) Linear codes
decoded_whole law codes made i all is =
    is ∙ ap (λ cs. flat_map (λ c. sample_bytes Linear (sample_value (format_of law) (c ∷ []))) cs) (take_all i codes all) ∙ decoded_is law codes
