-- Bytes at fault begin no head, whatever follows them.
use Rattle.std.proofs.Common.{◌≡◌, ◌≤◌, ◌+◌, ℕ, zero, suc, inl, inr, true, List, ◌++◌, length, take, drop, codes, refl, sym, ap, subst, ◌∙◌, arith}
use Rattle.std.proofs.lemmas.List.{get_or-drop, drop-append-le, length-drop, length-take-le}
use Rattle.wav_format.specs.declared.head.Head.{Head}
use Rattle.wav_format.specs.declared.head.WavKind.{WavKind}
use Rattle.wav_format.specs.declared.head.WavKind.TheVariants.{NotRiff, NotWave, NoFmt, BadFmt, TagUnknown, HeadTooLong}
use Rattle.wav_format.specs.Chunks.{BeginsWithHead, EndsHead, IsPassed, Leads, Reaches, Spot, begins, spot_behind, body_at, body_size, chunk_length, first_chunk, longest_head}
use Rattle.wav_format.specs.Faults.{ChunkFault, FaultIn}
use Rattle.wav_format.specs.Format.{AreBytes, Completes}
use Rattle.el_wav.proofs.WavParseAhead.{GoesOn, behind_goes_on, length_goes_on, other_goes_on}
use Rattle.el_wav.proofs.WavParseGathering.{bytes_taken}
use Rattle.wav_format.proofs.Longer.{begins_long, begins_more, body_more as body_front, differs_stays as differs_still, size_more}
use Rattle.wav_format.proofs.Unique.{not_both}

-- ---- words

word_goes_on : (word : List ℕ) (s t : Spot) (more : List ℕ) → GoesOn s t more → begins word s.left ≡ true → begins word t.left ≡ true
word_goes_on word s t more g e = ap (begins word) g.left ∙ begins_more word s.left more (begins_long word s.left e) ∙ e

-- ---- the body of a chunk that is passed with more bytes completes what was there

bytes_dropped : (n : ℕ) (xs : List ℕ) → AreBytes xs → AreBytes (drop n xs)
bytes_dropped n xs fine i = rw get_or-drop (fine (n + i))

completed : (s t : Spot) (more : List ℕ) → AreBytes t.left → 8 ≤ length s.left → GoesOn s t more → IsPassed longest_head t → Completes (body_at s.left) (body_size s.left) (body_at t.left)
completed s t more fine long g p =
    let whole = p.whole in
    record {
      long = length-take-le (body_size t.left) (drop 8 t.left) (omega (arith, whole, length-drop 8 t.left)) ∙ ap body_size g.left ∙ size_more s.left more long;
      front = ap (λ xs. take (length (body_at s.left)) (body_at xs)) g.left ∙ body_front s.left more long;
      bytes = bytes_taken (body_size t.left) (drop 8 t.left) (bytes_dropped 8 t.left fine);
    }

-- ---- a fault stays

fault_ends : (s t : Spot) (more : List ℕ) (h : Head) (rest : List ℕ) (place : ℕ) (kind : WavKind) → GoesOn s t more → ChunkFault s place kind → EndsHead h rest t → ⊥
fault_ends s t more h rest place NotRiff g fault ends = fault
fault_ends s t more h rest place NotWave g fault ends = fault
fault_ends s t more h rest place NoFmt g fault ends = let none = g.known ∙ fault.1 in let some = ends.format in cc
fault_ends s t more h rest place BadFmt g fault ends = not_both t.left ends.named (word_goes_on (codes "fmt ") s t more g fault.0.named)
fault_ends s t more h rest place TagUnknown g fault ends = not_both t.left ends.named (word_goes_on (codes "fmt ") s t more g fault.0.named)
fault_ends s t more h rest place HeadTooLong g fault ends = other_goes_on s t more h rest g fault.0.headed fault.0.other ends

fault_passes : (s t : Spot) (more : List ℕ) (place : ℕ) (kind : WavKind) → AreBytes t.left → GoesOn s t more → ChunkFault s place kind → IsPassed longest_head t → ⊥
fault_passes s t more place NotRiff fine g fault p = fault
fault_passes s t more place NotWave fine g fault p = fault
fault_passes s t more place NoFmt fine g fault p =
    let named = word_goes_on (codes "data") s t more g fault.0 in
    let other = p.other in
    cc
fault_passes s t more place BadFmt fine g fault p =
    fault.1 (body_at t.left, completed s t more fine fault.0.headed g p, (p.format (word_goes_on (codes "fmt ") s t more g fault.0.named)).numbers)
fault_passes s t more place TagUnknown fine g fault p =
    fault.2 (body_at t.left, completed s t more fine fault.0.headed g p, p.format (word_goes_on (codes "fmt ") s t more g fault.0.named))
fault_passes s t more place HeadTooLong fine g fault p =
    let room = p.room in
    let at = g.at in
    let same = length_goes_on s t more g fault.0.headed in
    elim fault.1 [ inl far ↦ let f = far.0 in omega (arith, f, room, same, at) | inr far ↦ let f = far.1 in omega (arith, f, room, same, at) ]

fault_leads : (m : ℕ) (s t u : Spot) (more : List ℕ) (h : Head) (rest : List ℕ) (place : ℕ) (kind : WavKind) → AreBytes t.left → GoesOn s t more → ChunkFault s place kind → Leads longest_head m t u → EndsHead h rest u → ⊥
fault_leads zero s t u more h rest place kind fine g fault e ends = fault_ends s t more h rest place kind g fault (subst (EndsHead h rest) (sym e) ends)
fault_leads (suc m) s t u more h rest place kind fine g fault (p, leads) ends = fault_passes s t more place kind fine g fault p

fault_behind : (n m : ℕ) (s v t u : Spot) (more : List ℕ) (h : Head) (rest : List ℕ) (place : ℕ) (kind : WavKind) → AreBytes t.left → Leads longest_head n s v → ChunkFault v place kind → GoesOn s t more → Leads longest_head m t u → EndsHead h rest u → ⊥
fault_behind zero m s v t u more h rest place kind fine e fault g leads ends = fault_leads m s t u more h rest place kind fine g (subst (λ (x : Spot). ChunkFault x place kind) (sym e) fault) leads ends
fault_behind (suc n) zero s v t u more h rest place kind fine (p, _) fault g e ends = other_goes_on s t more h rest g p.headed p.other (subst (EndsHead h rest) (sym e) ends)
fault_behind (suc n) (suc m) s v t u more h rest place kind fine (p, to_fault) fault g (_, leads) ends =
    fault_behind n m (spot_behind s) v (spot_behind t) u more h rest place kind (bytes_dropped (chunk_length t.left) t.left fine) to_fault fault (behind_goes_on longest_head s t more p g) leads ends

chunk_fault : (bytes more : List ℕ) (s : Spot) (place : ℕ) (kind : WavKind) (h : Head) → AreBytes (bytes ++ more) → Reaches longest_head bytes s → ChunkFault s place kind → BeginsWithHead (bytes ++ more) h → ⊥
chunk_fault bytes more s place kind h fine (opened, (n, to_fault)) fault (rest, (u, (opened', (m, leads)), ends)) =
    fault_behind n m (first_chunk bytes) s (first_chunk (bytes ++ more)) u more h rest place kind (bytes_dropped 12 (bytes ++ more) fine) to_fault fault (record { at = refl; known = refl; left = drop-append-le 12 bytes more opened.long }) leads ends

pub fault_begins_none : (bytes more : List ℕ) (place : ℕ) (kind : WavKind) (h : Head) → AreBytes (bytes ++ more) → FaultIn bytes place kind → BeginsWithHead (bytes ++ more) h → ⊥
fault_begins_none bytes more place NotRiff h fine differs (rest, (u, (opened, leads), ends)) = differs_still (codes "RIFF") bytes more place differs opened.riff
fault_begins_none bytes more place NotWave h fine (riff, (i, differs, e)) (rest, (u, (opened, leads), ends)) =
    let within = differs.within in
    let wave = subst (λ (xs : List ℕ). begins (codes "WAVE") xs ≡ true) (drop-append-le 8 bytes more (omega (arith, within, length-drop 8 bytes))) opened.wave in
    differs_still (codes "WAVE") (drop 8 bytes) more i differs wave
fault_begins_none bytes more place NoFmt h fine (s, reached, fault) begins = chunk_fault bytes more s place NoFmt h fine reached fault begins
fault_begins_none bytes more place BadFmt h fine (s, reached, fault) begins = chunk_fault bytes more s place BadFmt h fine reached fault begins
fault_begins_none bytes more place TagUnknown h fine (s, reached, fault) begins = chunk_fault bytes more s place TagUnknown h fine reached fault begins
fault_begins_none bytes more place HeadTooLong h fine (s, reached, fault) begins = chunk_fault bytes more s place HeadTooLong h fine reached fault begins
