-- What further bytes leave as it is.
use Rattle.std.proofs.Common.{◌≡◌, ℕ, zero, suc, ◌+◌, ◌%◌, ◌≤◌, inl, inr, true, Option, Some, None, List, ◌++◌, length, take, drop, codes, bytes_eq, cond, refl, sym, ap, subst, ◌∙◌, arith}
use Rattle.std.proofs.lemmas.List.{get_or_append_left, take-append-le, drop-append-le, take-take, length-take, length-drop, length-append, take_all}
use Rattle.std.proofs.lemmas.Slice.Eq.{bytes_eq-Decides}
use Rattle.wav_format.specs.declared.format.SampleFormat.{SampleFormat}
use Rattle.wav_format.specs.declared.head.Head.{Head}
use Rattle.wav_format.specs.declared.head.WavKind.{WavKind}
use Rattle.wav_format.specs.declared.head.WavKind.TheVariants.{NotRiff, NotWave, NoFmt, BadFmt, TagUnknown, HeadTooLong}
use Rattle.wav_format.specs.Chunks.{EndsHead, HeadThen, IsPassed, Leads, Reaches, Spot, begins, spot_behind, body_at, body_size, chunk_length, first_chunk, format_after, longest_head}
use Rattle.wav_format.specs.Faults.{ChunkFault, Differs}
use Rattle.wav_format.specs.Format.{AreBytes, Completes, IsFormat, format_of}
use Rattle.wav_format.proofs.Bodies.{bytes-drop, bytes-take}
use Rattle.wav_format.proofs.Openings.{begins_same}
use Rattle.wav_format.proofs.Unique.{not_both}
use Rattle.wav_format.proofs.Whole.{body_whole}

abbrev pub ext : Spot → List ℕ → Spot
ext s more = record { at = s.at; known = s.known; left = s.left ++ more }

pub begins_long : (word bytes : List ℕ) → begins word bytes ≡ true → length word ≤ length bytes
begins_long word bytes e =
    let same = ap length ((bytes_eq-Decides (take (length word) bytes) word).0 e) in
    omega (arith, same, length-take (length word) bytes)

pub begins_more : (word bytes more : List ℕ) → length word ≤ length bytes → begins word (bytes ++ more) ≡ begins word bytes
begins_more word bytes more long = ap (λ xs. bytes_eq xs word) (take-append-le (length word) bytes more long)

pub size_more : (left more : List ℕ) → 8 ≤ length left → body_size (left ++ more) ≡ body_size left
size_more left more long =
    let a = get_or_append_left left more 0 4 (omega arith) in
    let b = get_or_append_left left more 0 5 (omega arith) in
    let c = get_or_append_left left more 0 6 (omega arith) in
    let d = get_or_append_left left more 0 7 (omega arith) in
    omega (arith, a, b, c, d)

pub length_more : (left more : List ℕ) → 8 ≤ length left → chunk_length (left ++ more) ≡ chunk_length left
length_more left more long = ap (λ n. 8 + n + n % 2) (size_more left more long)

-- the body with further bytes begins with the body
pub body_more : (left more : List ℕ) → 8 ≤ length left → take (length (body_at left)) (body_at (left ++ more)) ≡ body_at left
body_more left more long =
    let size = body_size left in
    let rest = drop 8 left in
    let short : length (body_at left) ≤ size = omega (arith, length-take size rest) in
    let within : length (body_at left) ≤ length rest = omega (arith, length-take size rest) in
    ap (λ xs. take (length (body_at left)) xs) (ap (λ n. take n (drop 8 (left ++ more))) (size_more left more long) ∙ ap (take size) (drop-append-le 8 left more long))
    ∙ take-take (length (body_at left)) size (rest ++ more) short
    ∙ take-append-le (length (body_at left)) rest more within
    ∙ sym (take-take (length (body_at left)) size rest short)
    ∙ take_all (length (body_at left)) (body_at left) (omega arith)

pub body_same : (left more : List ℕ) → 8 ≤ length left → chunk_length left ≤ length left → body_at (left ++ more) ≡ body_at left
body_same left more long whole =
    ap (λ n. take n (drop 8 (left ++ more))) (size_more left more long) ∙ ap (take (body_size left)) (drop-append-le 8 left more long)
    ∙ take-append-le (body_size left) (drop 8 left) more (omega (arith, length-drop 8 left))

pub same_spot : (at at' : ℕ) (known known' : Option SampleFormat) (left left' : List ℕ) → at ≡ at' → known ≡ known' → left ≡ left' → ◌≡◌ {A = Spot} (record { at = at; known = known; left = left }) (record { at = at'; known = known'; left = left' })
same_spot at at' known known' left left' p q r = cc

format_more : (s : Spot) (more : List ℕ) → 8 ≤ length s.left → chunk_length s.left ≤ length s.left → format_after (ext s more) ≡ format_after s
format_more s more long whole =
    ap (λ b. cond b (Some (format_of (body_at (s.left ++ more)))) s.known) (begins_more (codes "fmt ") s.left more (omega arith))
    ∙ ap (λ body. cond (begins (codes "fmt ") s.left) (Some (format_of body)) s.known) (body_same s.left more long whole)

pub passed_more : (limit : ℕ) (s : Spot) (more : List ℕ) → IsPassed limit s → IsPassed limit (ext s more)
passed_more limit s more p =
    let room = p.room in
    let whole = p.whole in
    record {
      headed = let h = p.headed in omega (arith, h, length-append s.left more);
      other = begins_more (codes "data") s.left more (let h = p.headed in omega arith) ∙ p.other;
      room = omega (arith, room, length_more s.left more p.headed);
      format = λ e. subst IsFormat (sym (body_same s.left more p.headed p.whole)) (p.format (sym (begins_more (codes "fmt ") s.left more (let h = p.headed in omega arith)) ∙ e));
      whole = omega (arith, whole, length_more s.left more p.headed, length-append s.left more);
    }

pub behind_more : (limit : ℕ) (s : Spot) (more : List ℕ) → IsPassed limit s → spot_behind (ext s more) ≡ ext (spot_behind s) more
behind_more limit s more p =
    same_spot (s.at + chunk_length (s.left ++ more)) (s.at + chunk_length s.left) (format_after (ext s more)) (format_after s)
    (drop (chunk_length (s.left ++ more)) (s.left ++ more)) (drop (chunk_length s.left) s.left ++ more)
    (ap (λ n. s.at + n) (length_more s.left more p.headed)) (format_more s more p.headed p.whole)
    (ap (λ n. drop n (s.left ++ more)) (length_more s.left more p.headed) ∙ drop-append-le (chunk_length s.left) s.left more p.whole)

pub leads_more : (limit n : ℕ) (s t : Spot) (more : List ℕ) → Leads limit n s t → Leads limit n (ext s more) (ext t more)
leads_more limit zero s t more e = ap (λ x. ext x more) e
leads_more limit (suc n) s t more (p, rest) =
    (passed_more limit s more p, subst (λ (x : Spot). Leads limit n x (ext t more)) (sym (behind_more limit s more p)) (leads_more limit n (spot_behind s) t more rest))

pub first_more : (bytes more : List ℕ) → 12 ≤ length bytes → first_chunk (bytes ++ more) ≡ ext (first_chunk bytes) more
first_more bytes more long = same_spot 12 12 None None (drop 12 (bytes ++ more)) (drop 12 bytes ++ more) refl refl (drop-append-le 12 bytes more long)

-- what s leads to and does not pass is what t leads to, which s leads to as well
pub follows : (limit n m : ℕ) (s t u : Spot) → Leads limit n s t → Leads limit m s u → (IsPassed limit u → ⊥) → (k : ℕ) × Leads limit k t u
follows limit zero m s t u e q stop = (m, subst (λ (x : Spot). Leads limit m x u) e q)
follows limit (suc n) zero s t u (passed, p) e stop = absurd (stop (subst (IsPassed limit) e passed))
follows limit (suc n) (suc m) s t u (passed, p) (passed', q) stop = follows limit n m (spot_behind s) t u p q stop

pub ends_stops : (limit : ℕ) (h : Head) (rest : List ℕ) (s : Spot) → EndsHead h rest s → IsPassed limit s → ⊥
ends_stops limit h rest s ends p = let named = ends.named in let other = p.other in cc

-- from a spot that is reached, further bytes lead to the head that they end
pub goes_on : (limit : ℕ) (bytes more : List ℕ) (s : Spot) (h : Head) (rest : List ℕ) → Reaches limit bytes s → HeadThen limit (bytes ++ more) h rest → (k : ℕ) × (u : Spot) × Leads limit k (ext s more) u × EndsHead h rest u
goes_on limit bytes more s h rest (opened, (n, leads)) (u, (opened', (m, leads')), ends) =
    let here = subst (λ (x : Spot). Leads limit n x (ext s more)) (sym (first_more bytes more opened.long)) (leads_more limit n (first_chunk bytes) s more leads) in
    let on = follows limit n m (first_chunk (bytes ++ more)) (ext s more) u here leads' (ends_stops limit h rest u ends) in
    (on.0, u, on.1, ends)

-- ---- a fault stays

fault_ends : (s : Spot) (more : List ℕ) (h : Head) (rest : List ℕ) (place : ℕ) (kind : WavKind) → ChunkFault s place kind → EndsHead h rest (ext s more) → ⊥
fault_ends s more h rest place NotRiff fault ends = fault
fault_ends s more h rest place NotWave fault ends = fault
fault_ends s more h rest place NoFmt fault ends = let none = fault.1 in let some = ends.format in cc
fault_ends s more h rest place BadFmt fault ends = let headed = fault.0.headed in not_both (s.left ++ more) ends.named (begins_more (codes "fmt ") s.left more (omega arith) ∙ fault.0.named)
fault_ends s more h rest place TagUnknown fault ends = let headed = fault.0.headed in not_both (s.left ++ more) ends.named (begins_more (codes "fmt ") s.left more (omega arith) ∙ fault.0.named)
fault_ends s more h rest place HeadTooLong fault ends =
    let headed = fault.0.headed in
    let other = begins_more (codes "data") s.left more (omega arith) ∙ fault.0.other in
    let named = ends.named in
    cc

-- the body of a chunk that is passed with further bytes completes what was there
completed : (limit : ℕ) (s : Spot) (more : List ℕ) → AreBytes (s.left ++ more) → 8 ≤ length s.left → IsPassed limit (ext s more) → Completes (body_at s.left) (body_size s.left) (body_at (s.left ++ more))
completed limit s more bytes long p = record {
  long = body_whole (s.left ++ more) p.whole ∙ size_more s.left more long;
  front = body_more s.left more long;
  bytes = bytes-take (body_size (s.left ++ more)) (drop 8 (s.left ++ more)) (bytes-drop 8 (s.left ++ more) bytes);
}

fault_passes : (s : Spot) (more : List ℕ) (place : ℕ) (kind : WavKind) → AreBytes (s.left ++ more) → ChunkFault s place kind → IsPassed longest_head (ext s more) → ⊥
fault_passes s more place NotRiff bytes fault p = fault
fault_passes s more place NotWave bytes fault p = fault
fault_passes s more place NoFmt bytes fault p =
    let named = begins_more (codes "data") s.left more (begins_long (codes "data") s.left fault.0) ∙ fault.0 in
    let other = p.other in
    cc
fault_passes s more place BadFmt bytes fault p =
    let headed = fault.0.headed in
    let named = begins_more (codes "fmt ") s.left more (omega arith) ∙ fault.0.named in
    fault.1 (body_at (s.left ++ more), completed longest_head s more bytes headed p, (p.format named).numbers)
fault_passes s more place TagUnknown bytes fault p =
    let headed = fault.0.headed in
    let named = begins_more (codes "fmt ") s.left more (omega arith) ∙ fault.0.named in
    fault.2 (body_at (s.left ++ more), completed longest_head s more bytes headed p, p.format named)
fault_passes s more place HeadTooLong bytes fault p =
    let room = p.room in
    let same = length_more s.left more fault.0.headed in
    elim fault.1 [ inl far ↦ let f = far.0 in omega (arith, f, room, same) | inr far ↦ let f = far.1 in omega (arith, f, room, same) ]

fault_leads : (n : ℕ) (s u : Spot) (more : List ℕ) (h : Head) (rest : List ℕ) (place : ℕ) (kind : WavKind) → AreBytes (s.left ++ more) → ChunkFault s place kind → Leads longest_head n (ext s more) u → EndsHead h rest u → ⊥
fault_leads zero s u more h rest place kind bytes fault e ends = fault_ends s more h rest place kind fault (subst (EndsHead h rest) (sym e) ends)
fault_leads (suc n) s u more h rest place kind bytes fault (p, leads) ends = fault_passes s more place kind bytes fault p

pub later_stays : (bytes more : List ℕ) (s : Spot) (h : Head) (rest : List ℕ) (place : ℕ) (kind : WavKind) → AreBytes (s.left ++ more) → Reaches longest_head bytes s → ChunkFault s place kind → HeadThen longest_head (bytes ++ more) h rest → ⊥
later_stays bytes more s h rest place kind fine reached fault head =
    let on = goes_on longest_head bytes more s h rest reached head in
    fault_leads on.0 s on.1 more h rest place kind fine fault on.2 on.3

pub differs_stays : (word bytes more : List ℕ) (i : ℕ) → Differs word bytes i → begins word (bytes ++ more) ≡ true → ⊥
differs_stays word bytes more i d e =
    d.here (sym (get_or_append_left bytes more 0 i d.within) ∙ begins_same word (bytes ++ more) e i d.within_word (let h = d.within in omega (arith, length-append bytes more)))
