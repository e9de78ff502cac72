-- The blocks from a place on, one block at a time.
use Rattle.std.proofs.Common.{◌≡◌, ℕ, zero, suc, ◌+◌, ◌-◌, ◌*◌, ◌/◌, ◌≤◌, ◌<◌, ◌⊎◌, inl, inr, List, [], ◌∷◌, ◌++◌, length, take, drop, map, Some, None, false, refl, ap, sym, ◌∙◌, arith, length-take, length-drop}
use Rattle.std.specs.List.{range_with_len}
use Rattle.std.proofs.lemmas.Bool.{cases_lt}
use Rattle.std.proofs.Math.Nat.{div-eq_of_lt, add-div_right}
use Rattle.flow_model.specs.Item.{Item, Buf, Ev, Eos}
use Rattle.flow_model.specs.Source.{block_count, block_at, blocks_from}
use Rattle.el_src.specs.Gave.{still_to_come}
use Rattle.el_src.specs.declared.file_src.Phase.{Phase}
use Rattle.el_src.specs.declared.file_src.Phase.TheVariants.{Blocks as InBlocks}

-- the block that begins at a place
abbrev pub block_from : ℕ → ℕ → List ℕ → Item
block_from size place body = Buf (record { body = body; pts = None; duration = None; offset = Some place; discont = false })

none_left : (size left : ℕ) → 1 ≤ size → left ≡ 0 → (left + size - 1) / size ≡ 0
none_left size left some none = div-eq_of_lt (omega arith)

behind_one : (size left : ℕ) → 1 ≤ size → 0 < left → (left < size) ⊎ (size ≤ left) → (left - size + size - 1) / size ≡ (left - 1) / size
behind_one size left some more (inl short) = none_left size (left - size) some (omega arith) ∙ sym (div-eq_of_lt (omega arith))
behind_one size left some more (inr long) = let e : left - size + size - 1 ≡ left - 1 = omega arith in ap (λ n. n / size) e

one_more : (size left : ℕ) → 1 ≤ size → 0 < left → (left + size - 1) / size ≡ suc ((left - size + size - 1) / size)
one_more size left some more =
    let e : left + size - 1 ≡ left - 1 + size = omega arith in
    let step : (left - 1 + size) / size ≡ (left - 1) / size + 1 = add-div_right (left - 1) (omega arith) in
    let same = behind_one size left some more (cases_lt left size) in
    let whole : (left + size - 1) / size ≡ (left - 1 + size) / size = ap (λ n. n / size) e in
    omega arith

pub count_none : (size place : ℕ) (c : List ℕ) → 1 ≤ size → length c ≤ place → block_count size place c ≡ 0
count_none size place c some ends = none_left size (length c - place) some (omega arith)

pub count_one : (size place : ℕ) (c : List ℕ) → 1 ≤ size → place < length c → block_count size place c ≡ suc (block_count size (place + size) c)
count_one size place c some more =
    let e : length c - place - size ≡ length c - (place + size) = omega arith in
    one_more size (length c - place) some (omega arith) ∙ ap (λ left. suc ((left + size - 1) / size)) e

-- block k + 1 from a place on is block k from the next place on
block_shift : (size place k : ℕ) (c : List ℕ) → block_at size place c (k + 1) ≡ block_at size (place + size) c k
block_shift size place k c =
    let e : place + (k + 1) * size ≡ place + size + k * size = grind arith in
    ap (λ at. block_from size at (take size (drop at c))) e

shift : (size place k n : ℕ) (c : List ℕ) → map (block_at size place c) (range_with_len (k + 1) n) ≡ map (block_at size (place + size) c) (range_with_len k n)
shift size place k zero c = refl
shift size place k (suc n) c =
    ap (λ x. x ∷ map (block_at size place c) (range_with_len (k + 1 + 1) n)) (block_shift size place k c)
    ∙ ap (λ xs. block_at size (place + size) c k ∷ xs) (shift size place (k + 1) n c)

pub blocks_none : (size place : ℕ) (c : List ℕ) → 1 ≤ size → length c ≤ place → blocks_from size place c 0 ≡ []
blocks_none size place c some ends =
    let e : block_count size place c - 0 ≡ 0 = omega (arith, count_none size place c some ends) in
    ap (λ n. map (block_at size place c) (range_with_len 0 n)) e

pub blocks_one : (size place : ℕ) (c : List ℕ) → 1 ≤ size → place < length c → blocks_from size place c 0 ≡ block_from size place (take size (drop place c)) ∷ blocks_from size (place + size) c 0
blocks_one size place c some more =
    let e : block_count size place c - 0 ≡ suc (block_count size (place + size) c - 0) = omega (arith, count_one size place c some more) in
    let first : place + 0 * size ≡ place = omega arith in
    ap (λ n. map (block_at size place c) (range_with_len 0 n)) e
    ∙ ap (λ at. block_from size at (take size (drop at c)) ∷ map (block_at size place c) (range_with_len 1 (block_count size (place + size) c - 0))) first
    ∙ ap (λ xs. block_from size place (take size (drop place c)) ∷ xs) (shift size place 0 (block_count size (place + size) c - 0) c)

body_length : (size place : ℕ) (body c : List ℕ) → body ≡ take size (drop place c) → 1 ≤ size
    → ((length body ≡ 0 → length c ≤ place) × (0 < length body → place < length c) × (length body < size → length c ≤ place + size))
body_length size place body c e some =
    let size_of : length body ≡ length (take size (drop place c)) = ap length e in (
      λ h. omega (arith, length-take size (drop place c), length-drop place c),
      λ h. omega (arith, length-take size (drop place c), length-drop place c),
      λ h. omega (arith, length-take size (drop place c), length-drop place c),
    )

-- what was read where the input has ended: EOS is due
pub due_eos : (phase : Phase) (id size place : ℕ) (body c : List ℕ) → phase ≡ InBlocks → 1 ≤ size → body ≡ take size (drop place c) → length body ≡ 0
    → still_to_come phase id size place c ≡ Ev Eos ∷ []
due_eos phase id size place body c at some e none =
    ap (λ p. still_to_come p id size place c) at
    ∙ ap (λ xs. xs ++ Ev Eos ∷ []) (blocks_none size place c some ((body_length size place body c e some).0 none))

-- what was read is the next block
pub due_block : (phase : Phase) (id size place : ℕ) (body c : List ℕ) → phase ≡ InBlocks → 1 ≤ size → body ≡ take size (drop place c) → 0 < length body
    → still_to_come phase id size place c ≡ block_from size place body ∷ (blocks_from size (place + size) c 0 ++ Ev Eos ∷ [])
due_block phase id size place body c at some e more =
    ap (λ p. still_to_come p id size place c) at
    ∙ ap (λ xs. xs ++ Ev Eos ∷ []) (blocks_one size place c some ((body_length size place body c e some).1 more))
    ∙ ap (λ b. block_from size place b ∷ (blocks_from size (place + size) c 0 ++ Ev Eos ∷ [])) (sym e)

-- what was read is the last block, where it is short
pub due_last : (phase : Phase) (id size place : ℕ) (body c : List ℕ) → phase ≡ InBlocks → 1 ≤ size → body ≡ take size (drop place c) → 0 < length body → length body < size
    → still_to_come phase id size place c ≡ block_from size place body ∷ (Ev Eos ∷ [])
due_last phase id size place body c at some e more short =
    due_block phase id size place body c at some e more
    ∙ ap (λ xs. block_from size place body ∷ (xs ++ Ev Eos ∷ [])) (blocks_none size (place + size) c some ((body_length size place body c e some).2 short))
