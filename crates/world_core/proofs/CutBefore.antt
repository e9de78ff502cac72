-- What crossed the pad of a source that can't be read is what is owed for the content of its file up to a place, but the EOS.
use Rattle.std.proofs.Common.{◌≡◌, ◌⊎◌, ◌≤◌, ◌<◌, ◌+◌, ◌-◌, ℕ, Bool, true, false, ◌&&◌, List, [], ◌∷◌, ◌++◌, Some, length, take, drop, refl, sym, ap, ◌∙◌, inl, inr, arith, append_assoc, length-take}
use Rattle.std.specs.List.{list_all}
use Rattle.std.proofs.lemmas.Bool.{cases_lt}
use Rattle.std.proofs.lemmas.List.{take-take, drop-take}
use Rattle.flow_model.specs.Item.{Item, Ev, StreamStart, NewSegment, Eos, is_buffer}
use Rattle.flow_model.specs.Source.{blocks_from, bytes_segment, file_list}
use Rattle.el_settings.specs.declared.settings.Settings.{Settings}
use Rattle.el_set.proofs.Lists.{read_list}
use Rattle.graph_core.specs.Allowed.{first_pad}
use Rattle.graph_tasks.specs.Owed.{went_from}
use Rattle.graph_tasks.specs.Short.{IsCutShort}
use Rattle.graph_parts.specs.Files.{opening_of}
use Rattle.graph_parts.proofs.OwnFiles.{reader}
use Rattle.run_files.specs.declared.end.Opening.TheVariants.{Read}
use Rattle.world_core.specs.Cut.{IsCutBefore}
use Rattle.el_src.proofs.Blocks.{block_from, blocks_none, blocks_one}
use Rattle.gst_value.proofs.Places.{nil_behind as not_last, nil_cons as no_more}

-- these are the blocks of the content up to a place
record CutAt (size place : ℕ) (c : List ℕ) (front : List Item) : Type 0 where
  up_to : ℕ
  behind : place ≤ up_to
  blocks : blocks_from size place (take up_to c) 0 ≡ front

-- a block that ends before the cut is one of the whole content
same_body : (size place n : ℕ) (c : List ℕ) → place + size ≤ n → take size (drop place (take n c)) ≡ take size (drop place c)
same_body size place n c far =
    let whole : n ≡ place + (n - place) = omega (arith, far) in
    ap (λ k. take size (drop place (take k c))) whole
    ∙ ap (take size) (drop-take place (n - place) c)
    ∙ take-take size (n - place) (drop place c) (omega (arith, far))

first_same : {A : Type 0} {x y : A} {xs ys : List A} → x ∷ xs ≡ y ∷ ys → (x ≡ y) × (xs ≡ ys)
first_same e = (cc, cc)

blocks_cut : (size : ℕ) → 1 ≤ size → (front left : List Item) (place : ℕ) (c : List ℕ) → blocks_from size place c 0 ≡ front ++ left → CutAt size place c front
blocks_cut size some [] left place c is = record {
  up_to = place;
  behind = omega arith;
  blocks = blocks_none size place (take place c) some (omega (arith, length-take place c));
}
blocks_cut size some (x ∷ front) left place c is = go (cases_lt place (length c)) (λ step. blocks_cut size some front left (place + size) c step)
  where
    go : (place < length c) ⊎ (length c ≤ place) → (blocks_from size (place + size) c 0 ≡ front ++ left → CutAt size (place + size) c front) → CutAt size place c (x ∷ front)
    go (inl more) step =
        let both = first_same (sym (blocks_one size place c some more) ∙ is) in
        let later = step both.1 in
        let n = later.up_to in
        let within : place < length (take n c) = omega (arith, later.behind, more, some, length-take n c) in
        record {
          up_to = n;
          behind = omega (arith, later.behind);
          blocks = blocks_one size place (take n c) some within
              ∙ ap (λ b. block_from size place b ∷ blocks_from size (place + size) (take n c) 0) (same_body size place n c later.behind)
              ∙ ap (λ xs. block_from size place (take size (drop place c)) ∷ xs) later.blocks
              ∙ ap (λ y. y ∷ front) both.0;
        }
    go (inr past) step = absurd (no_more (sym (blocks_none size place c some past) ∙ is))

same_front : {A : Type 0} (xs ys : List A) (x : A) → xs ++ x ∷ [] ≡ ys ++ x ∷ [] → xs ≡ ys
same_front [] [] x e = refl
same_front [] (y ∷ ys) x e = absurd (not_last ys x (first_same e).1)
same_front (z ∷ xs) [] x e = absurd (not_last xs x (sym (first_same e).1))
same_front (z ∷ xs) (y ∷ ys) x e = let both = first_same e in ap (λ zs. z ∷ zs) (same_front xs ys x both.1) ∙ ap (λ w. w ∷ ys) both.0

no_event : (left : List Item) (x last : Item) (rest : List Item) → list_all is_buffer left ≡ true → is_buffer x ≡ false → x ∷ rest ≡ left ++ last ∷ [] → (x ≡ last) × (rest ≡ [])
no_event [] x last rest buffers event e = first_same e
no_event (y ∷ left) x last rest buffers event e = absurd (go (is_buffer y) (sym (ap is_buffer (first_same e).0) ∙ event) buffers)
  where
    go : (b : Bool) → b ≡ false → (b && list_all is_buffer left) ≡ true → ⊥
    go true f g = cc
    go false f g = cc

-- with EOS behind it, what was given is what is owed for the content up to a place
file_cut : (id size : ℕ) (c : List ℕ) (given left : List Item) → 1 ≤ size → list_all is_buffer left ≡ true → file_list id size c ≡ given ++ (left ++ Ev Eos ∷ [])
    → (n : ℕ) × (file_list id size (take n c) ≡ given ++ Ev Eos ∷ [])
file_cut id size c [] left some buffers is = absurd (go (no_event left (Ev (StreamStart id)) (Ev Eos) _ buffers refl is).0)
  where
    go : Ev (StreamStart id) ≡ Ev Eos → ⊥
    go e = cc
file_cut id size c (x ∷ []) left some buffers is = absurd (go (no_event left (Ev (NewSegment (bytes_segment 0))) (Ev Eos) _ buffers refl (first_same is).1).0)
  where
    go : Ev (NewSegment (bytes_segment 0)) ≡ Ev Eos → ⊥
    go e = cc
file_cut id size c (x ∷ y ∷ front) left some buffers is =
    let one = first_same is in
    let two = first_same one.1 in
    let blocks = same_front (blocks_from size 0 c 0) (front ++ left) (Ev Eos) (two.1 ∙ sym (append_assoc front left (Ev Eos ∷ []))) in
    let cut = blocks_cut size some front left 0 c blocks in (
      cut.up_to,
      ap (λ xs. Ev (StreamStart id) ∷ Ev (NewSegment (bytes_segment 0)) ∷ (xs ++ Ev Eos ∷ [])) cut.blocks
          ∙ ap (λ z. z ∷ Ev (NewSegment (bytes_segment 0)) ∷ (front ++ Ev Eos ∷ [])) one.0
          ∙ ap (λ z. x ∷ z ∷ (front ++ Ev Eos ∷ [])) two.0,
    )

-- so it is with each element that reads a file
pub cut_before : (contents : ℕ → List ℕ) (h : ℕ → List Item) (e : ℕ) (settings : Settings) (location : List ℕ) → opening_of settings ≡ Some (Read location)
    → IsCutShort contents h e settings → IsCutBefore contents h e settings
cut_before contents h e settings location opens short =
    let own = read_list settings (reader settings location opens).reading in
    let cut = file_cut e own.size (contents e) (went_from h (first_pad e)) short.left own.some short.buffers (sym (own.is e (contents e)) ∙ short.owed) in
    record { eos = short.eos; place = cut.0; crossed = own.is e (take cut.0 (contents e)) ∙ cut.1 }
