-- The pieces of a ramp from a frame on, one piece at a time.
use Rattle.std.proofs.Common.{◌≡◌, ◌<◌, ◌≤◌, ◌+◌, ◌-◌, ◌*◌, ℕ, zero, suc, [], ◌∷◌, ◌++◌, map, refl, arith, ap, sym, ◌∙◌}
use Rattle.std.specs.List.{range_with_len}
use Rattle.std.proofs.Math.Nat.{zero-div}
use Rattle.audio_info.specs.Media.{caps_of}
use Rattle.audio_info.specs.declared.sample.Sample.TheVariants.{S16LE}
use Rattle.flow_model.specs.Item.{Item, Ev, StreamStart, NewCaps, NewSegment, Eos}
use Rattle.el_src.proofs.Counting.{pieces_more, pieces_none, pieces_whole, piece_whole}
use Rattle.el_src.specs.declared.ramp_src.Ramp.{Ramp}
use Rattle.el_src.specs.declared.ramp_src.Phase.{Phase}
use Rattle.el_src.specs.declared.ramp_src.Phase.TheVariants.{Start as AtStart, Pieces as InPieces}
use Rattle.el_src.specs.Ramp.{frame_count, piece, piece_count, piece_at, pieces_from, ramp_list}
use Rattle.el_src.specs.RampGave.{ramp_to_come}
use Rattle.flow_model.specs.Inherited.{tag_event as title_tag}
use Rattle.flow_model.specs.Source.{time_segment}

pub pieces_one : (s : Ramp) (start k : ℕ) → 1 ≤ s.samples → start + k * s.samples < frame_count s → pieces_from s start k ≡ piece_at s start k ∷ pieces_from s start (k + 1)
pieces_one s start k some before =
    let e : piece_count s start - k ≡ suc (piece_count s start - (k + 1)) = pieces_more s.samples (frame_count s - start) k some (omega arith) in
    ap (λ n. map (piece_at s start) (range_with_len k n)) e

pub pieces_end : (s : Ramp) (start k : ℕ) → 1 ≤ s.samples → frame_count s ≤ start + k * s.samples → pieces_from s start k ≡ []
pieces_end s start k some behind =
    let e : piece_count s start - k ≡ 0 = pieces_none s.samples (frame_count s - start) k some (omega arith) in
    ap (λ n. map (piece_at s start) (range_with_len k n)) e

-- from the start on each piece is whole
whole_piece : (s : Ramp) (k : ℕ) → k < s.buffers → piece_at s 0 k ≡ piece s k (k * s.samples) s.samples
whole_piece s k within =
    let first : 0 + k * s.samples ≡ k * s.samples = omega arith in
    ap (piece s k (0 + k * s.samples)) (piece_whole s.samples s.buffers k within) ∙ ap (λ f. piece s k f s.samples) first

whole_pieces : (s : Ramp) (k n : ℕ) → k + n ≤ s.buffers → map (piece_at s 0) (range_with_len k n) ≡ map (λ i. piece s i (i * s.samples) s.samples) (range_with_len k n)
whole_pieces s k zero within = refl
whole_pieces s k (suc n) within =
    ap (λ x. x ∷ map (piece_at s 0) (range_with_len (k + 1) n)) (whole_piece s k (omega arith))
    ∙ ap (λ xs. piece s k (k * s.samples) s.samples ∷ xs) (whole_pieces s (k + 1) n (omega arith))

all_pieces : (s : Ramp) → 1 ≤ s.samples → pieces_from s 0 0 ≡ map (λ i. piece s i (i * s.samples) s.samples) (range_with_len 0 s.buffers)
all_pieces s some =
    let e : piece_count s 0 - 0 ≡ s.buffers = omega (arith, pieces_whole s.samples s.buffers some) in
    ap (λ n. map (piece_at s 0) (range_with_len 0 n)) e ∙ whole_pieces s 0 s.buffers (omega arith)

-- at the start all of the list is still to come
pub all_to_come : (s : Ramp) (id : ℕ) → 1 ≤ s.samples → ramp_to_come AtStart s id 0 0 ≡ ramp_list s id
all_to_come s id some =
    ap (λ t. Ev (StreamStart id) ∷ Ev (NewCaps (caps_of S16LE s.rate s.channels)) ∷ Ev (NewSegment (time_segment t)) ∷ (title_tag s.title ++ (pieces_from s 0 0 ++ Ev Eos ∷ []))) (zero-div s.rate)
    ∙ ap (λ xs. Ev (StreamStart id) ∷ Ev (NewCaps (caps_of S16LE s.rate s.channels)) ∷ Ev (NewSegment (time_segment 0)) ∷ (title_tag s.title ++ (xs ++ Ev Eos ∷ []))) (all_pieces s some)

-- where frames are left the next piece is due, and where none are left EOS
pub due_piece : (phase : Phase) (s : Ramp) (id start k : ℕ) (x : Item) → 1 ≤ s.samples → ramp_to_come phase s id start k ≡ pieces_from s start k ++ Ev Eos ∷ []
    → start + k * s.samples < frame_count s → x ≡ piece_at s start k → ramp_to_come phase s id start k ≡ x ∷ ramp_to_come InPieces s id start (k + 1)
due_piece phase s id start k x some is before made =
    is ∙ ap (λ xs. xs ++ Ev Eos ∷ []) (pieces_one s start k some before) ∙ ap (λ y. y ∷ (pieces_from s start (k + 1) ++ Ev Eos ∷ [])) (sym made)

pub due_end : (phase : Phase) (s : Ramp) (id start k : ℕ) → 1 ≤ s.samples → ramp_to_come phase s id start k ≡ pieces_from s start k ++ Ev Eos ∷ []
    → frame_count s ≤ start + k * s.samples → ramp_to_come phase s id start k ≡ Ev Eos ∷ []
due_end phase s id start k some is behind = is ∙ ap (λ xs. xs ++ Ev Eos ∷ []) (pieces_end s start k some behind)
