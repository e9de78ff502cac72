-- No further bytes make a head of bytes at fault, and none but more of the data follow a head.
use Rattle.std.proofs.Common.{◌≡◌, ℕ, zero, suc, ◌<◌, ◌≤◌, List, [], ◌∷◌, ◌++◌, length, drop, codes, refl, sym, ap, subst, ◌∙◌, arith}
use Rattle.std.proofs.lemmas.List.{drop-append-le, length-drop}
use Rattle.wav_format.specs.declared.head.Head.{Head}
use Rattle.wav_format.specs.declared.head.WavKind.{WavKind}
use Rattle.wav_format.specs.declared.head.WavKind.TheVariants.{NotRiff, NotWave, NoFmt, BadFmt, TagUnknown, HeadTooLong}
use Rattle.wav_format.specs.declared.head.HeadAnswer.{HeadAnswer}
use Rattle.wav_format.specs.declared.head.HeadAnswer.TheVariants.{Whole, NeedMore, Bad}
use Rattle.wav_format.specs.Answers.{AnswerIn}
use Rattle.wav_format.specs.Chunks.{BeginsWithHead, EndsHead, HeadThen, HeadWith, Leads, Spot, begins, longest_head}
use Rattle.wav_format.specs.Faults.{FaultIn}
use Rattle.wav_format.specs.Format.{AreBytes}
use Rattle.wav_format.proofs.Bodies.{bytes-append}
use Rattle.wav_format.proofs.Longer.{begins_more, differs_stays, ext, goes_on, later_stays}
use Rattle.wav_format.proofs.Unique.{bytes_reached}

pub fault_stays : (bytes more : List ℕ) (h : Head) (rest : List ℕ) (place : ℕ) (kind : WavKind) → AreBytes bytes → AreBytes more → FaultIn bytes place kind → HeadThen longest_head (bytes ++ more) h rest → ⊥
fault_stays bytes more h rest place NotRiff fine fresh d (u, (opened, _), ends) = differs_stays (codes "RIFF") bytes more place d opened.riff
fault_stays bytes more h rest place NotWave fine fresh (_, (i, d, e)) (u, (opened, _), ends) =
    let within = d.within in
    let long : 8 ≤ length bytes = omega (arith, within, length-drop 8 bytes) in
    differs_stays (codes "WAVE") (drop 8 bytes) more i d (ap (begins (codes "WAVE")) (sym (drop-append-le 8 bytes more long)) ∙ opened.wave)
fault_stays bytes more h rest place NoFmt fine fresh (s, reached, fault) head = later_stays bytes more s h rest place NoFmt (bytes-append s.left more (bytes_reached longest_head bytes s fine reached) fresh) reached fault head
fault_stays bytes more h rest place BadFmt fine fresh (s, reached, fault) head = later_stays bytes more s h rest place BadFmt (bytes-append s.left more (bytes_reached longest_head bytes s fine reached) fresh) reached fault head
fault_stays bytes more h rest place TagUnknown fine fresh (s, reached, fault) head = later_stays bytes more s h rest place TagUnknown (bytes-append s.left more (bytes_reached longest_head bytes s fine reached) fresh) reached fault head
fault_stays bytes more h rest place HeadTooLong fine fresh (s, reached, fault) head = later_stays bytes more s h rest place HeadTooLong (bytes-append s.left more (bytes_reached longest_head bytes s fine reached) fresh) reached fault head

nothing : (xs ys : List ℕ) → xs ++ ys ≡ [] → ys ≡ []
nothing [] ys e = e
nothing (x ∷ xs) ys e = absurd cc

-- the head that bytes begin with is not that of more bytes
no_longer : (n : ℕ) (s u : Spot) (more : List ℕ) (h g : Head) (rest : List ℕ) → EndsHead h rest s → Leads longest_head n (ext s more) u → EndsHead g [] u → more ≡ []
no_longer zero s u more h g rest ends e ends' =
    let gone : drop 8 (s.left ++ more) ≡ [] = (subst (EndsHead g []) (sym e) ends').leaves in
    let split : drop 8 s.left ++ more ≡ [] = sym (drop-append-le 8 s.left more ends.headed) ∙ gone in
    nothing (drop 8 s.left) more split
no_longer (suc n) s u more h g rest ends (p, leads) ends' =
    let named = begins_more (codes "data") s.left more (let x = ends.headed in omega arith) ∙ ends.named in
    let other = p.other in
    absurd cc

pub whole_longer : (bytes more : List ℕ) (h g : Head) → BeginsWithHead bytes h → HeadThen longest_head (bytes ++ more) g [] → more ≡ []
whole_longer bytes more h g (rest, (s, reached, ends)) head =
    let on = goes_on longest_head bytes more s g [] reached head in
    no_longer on.0 s on.1 more h g rest ends on.2 on.3

-- a proper front of a head is asked to go on
pub front_goes : (bytes more : List ℕ) (a : HeadAnswer) (head : Head) → AreBytes bytes → AnswerIn bytes a → 0 < length more → HeadWith longest_head bytes more head → (n : ℕ) × (a ≡ NeedMore n)
front_goes bytes more (Whole h) head fine answer some (fresh, all) =
    let gone : length more ≡ 0 = ap length (whole_longer bytes more h head answer all) in
    absurd (omega (arith, gone, some))
front_goes bytes more (NeedMore n) head fine answer some all = (n, refl)
front_goes bytes more (Bad place kind) head fine answer some (fresh, all) = absurd (fault_stays bytes more head [] place kind fine fresh answer all)
