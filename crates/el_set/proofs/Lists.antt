-- The lists that sources owe.
use Rattle.std.proofs.Common.{◌≡◌, ◌≤◌, ◌++◌, ◌*◌, ◌-◌, ◌||◌, ℕ, Bool, true, false, List, [], ◌∷◌, map, Option, None, Some, refl, sym, ◌∙◌}
use Rattle.std.specs.Prelude.{if◌then◌else◌}
use Rattle.std.specs.List.{range_with_len}
use Rattle.std.proofs.lemmas.Bool.{true≢false}
use Rattle.flow_model.specs.Item.{Item, Ev, StreamStart, NewSegment, Eos, is_eos, is_flush_stop, eos_among}
use Rattle.flow_model.specs.Source.{block_at, block_count, blocks_from, bytes_segment, file_list}
use Rattle.flow_model.specs.Section.{IsPlain}
use Rattle.el_src.specs.declared.ramp_src.Ramp.{Ramp}
use Rattle.el_src.specs.Ramp.{frames_buffer, frames_gap, is_gap, piece, ramp_list}
use Rattle.el_settings.specs.declared.settings.Settings.{Settings}
use Rattle.el_settings.specs.declared.settings.Settings.TheVariants.{FileSrc, RampTestSrc}
use Rattle.el_settings.specs.Asked.{is_source, reads}
use Rattle.el_set.specs.Made.{list_of, read_content}
use Rattle.el_set.proofs.Ends.{eos_first}
use Rattle.flow_model.specs.Inherited.{tag_event as title_tag}

-- a source's list goes by what it reads of its file
pub list_read : (s : Settings) (id : ℕ) (content : List ℕ) → list_of s id (read_content s content) ≡ list_of s id content
list_read (FileSrc s) id content = refl
list_read _ id content = refl

-- that of a source that reads a file is the file in blocks
pub record IsInBlocks (s : Settings) : Type 0 where
  pub size : ℕ
  pub some : 1 ≤ size
  pub is : (id : ℕ) (content : List ℕ) → list_of s id content ≡ file_list id size content

pub read_list : (s : Settings) → reads s ≡ true → IsInBlocks s
read_list (FileSrc s) reading = record { size = s.blocksize; some = s.some; is = λ id content. refl }
read_list _ reading = absurd (cc)

pieces_end : Ramp → List ℕ → List Item
pieces_end ramp ks = map (λ k. piece ramp k (k * ramp.samples) ramp.samples) ks ++ Ev Eos ∷ []

plain_piece : (gap : Bool) (ramp : Ramp) (first count : ℕ)
    → (is_flush_stop (if gap then frames_gap ramp first count else frames_buffer ramp first count) ≡ false) × (is_eos (if gap then frames_gap ramp first count else frames_buffer ramp first count) ≡ false)
plain_piece true ramp first count = (refl, refl)
plain_piece false ramp first count = (refl, refl)

plain_pieces : (ramp : Ramp) (ks : List ℕ) → IsPlain (pieces_end ramp ks)
unfolding pieces_end
plain_pieces ramp [] = (refl, λ e. refl, tt)
plain_pieces ramp (k ∷ ks) =
    let one = plain_piece (is_gap ramp k) ramp (k * ramp.samples) ramp.samples in
    (one.0, λ e. absurd (true≢false (sym e ∙ one.1)), plain_pieces ramp ks)

plain_title : (title : Option (List ℕ)) (rest : List Item) → IsPlain rest → IsPlain (title_tag title ++ rest)
plain_title None rest plain = plain
plain_title (Some title) rest plain = (refl, λ e. cc, plain)

-- the list of a ramp has no FLUSH_STOP, and nothing behind its EOS
pub plain_ramp : (ramp : Ramp) (id : ℕ) → IsPlain (ramp_list ramp id)
unfolding pieces_end
plain_ramp ramp id =
    let pieces = range_with_len 0 ramp.buffers in
    (refl, λ e. cc, (refl, λ e. cc, (refl, λ e. cc, plain_title ramp.title (pieces_end ramp pieces) (plain_pieces ramp pieces))))

plain_blocks : (size start : ℕ) (content : List ℕ) (ks : List ℕ) → IsPlain (map (block_at size start content) ks ++ Ev Eos ∷ [])
plain_blocks size start content [] = (refl, λ e. refl, tt)
plain_blocks size start content (k ∷ ks) = (refl, λ e. cc, plain_blocks size start content ks)

-- the list of a source has no FLUSH_STOP, and nothing behind an EOS
pub plain_list : (s : Settings) (id : ℕ) (content : List ℕ) → IsPlain (list_of s id content)
plain_list (FileSrc s) id content = (refl, λ e. cc, (refl, λ e. cc, plain_blocks s.blocksize 0 content (range_with_len 0 (block_count s.blocksize 0 content - 0))))
plain_list (RampTestSrc s) id content = plain_ramp s.ramp id
plain_list _ id content = tt

-- EOS in a longer list
pub eos_later : (x : Item) (xs : List Item) → eos_among xs ≡ true → eos_among (x ∷ xs) ≡ true
eos_later x xs h = eos_first x xs ∙ or_true (is_eos x) (eos_among xs) h
  where
    or_true : (b d : Bool) → d ≡ true → (b || d) ≡ true
    or_true true d is = refl
    or_true false d is = is

eos_behind : (xs ys : List Item) → eos_among ys ≡ true → eos_among (xs ++ ys) ≡ true
eos_behind [] ys h = h
eos_behind (x ∷ xs) ys h = eos_later x (xs ++ ys) (eos_behind xs ys h)

-- and it has EOS
pub source_eos : (s : Settings) (id : ℕ) (content : List ℕ) → is_source s ≡ true → eos_among (list_of s id content) ≡ true
source_eos (FileSrc s) id content none =
    eos_behind (Ev (StreamStart id) ∷ Ev (NewSegment (bytes_segment 0)) ∷ blocks_from s.blocksize 0 content 0) (Ev Eos ∷ []) refl
source_eos (RampTestSrc s) id content none =
    let pieces = map (λ (k : ℕ). piece s.ramp k (k * s.ramp.samples) s.ramp.samples) (range_with_len 0 s.ramp.buffers) in
    eos_behind (title_tag s.ramp.title) (pieces ++ Ev Eos ∷ []) (eos_behind pieces (Ev Eos ∷ []) refl)
source_eos _ id content none = absurd (cc)
