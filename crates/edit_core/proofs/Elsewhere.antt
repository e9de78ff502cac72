-- Whether elements were fed elsewhere, by the notes of all.
use Rattle.std.proofs.Common.{◌≡◌, ◌↔◌, ◌⊎◌, ◌<◌, ◌&&◌, ◌||◌, ◌==◌, ℕ, zero, suc, Bool, true, false, eqb, not, List, [], ◌∷◌, Option, None, Some, length, refl, sym, ap, ◌∙◌, inl, inr, arith}
use Rattle.std.specs.List.{list_any}
use Rattle.std.specs.Option.{option_map_or}
use Rattle.std.proofs.lemmas.Bool.{false≢true, true≢false}
use Rattle.std.proofs.lemmas.List.Folds.{list_any_at}
use Rattle.std.proofs.lemmas.Bool.Decides.{eqb_tells}
use Rattle.flow_model.specs.Item.{Item}
use Rattle.graph_core.specs.GraphPlan.{owner_of, sink_at}
use Rattle.graph_pads.specs.declared.pad.PadPlace.{PadPlace}
use Rattle.gst_value.proofs.Basics.{and_left, and_right, number_itself, some_same}
use Rattle.graph_edits.specs.Edited.{Edited, spans_at}
use Rattle.graph_edits.specs.Growing.{LinksStand}
use Rattle.graph_edits.specs.Refused.{FeedsTask, HasFeeder, IsFedElsewhere, first_giver, first_of, is_head}
use Rattle.edit_core.specs.Notes.{AreNoted, IsNoted, is_foreign, no_note, note_of, task_feeder}
use Rattle.edit_core.specs.declared.notes.Note.{Note}
use Rattle.edit_core.proofs.Lists.{no_some, told}
use Rattle.edit_core.proofs.Noting.{feeder_by}
use Rattle.edit_core.proofs.Standing.{given_there, head_there}

-- ---- one note

-- what feeds the task of an element is told by its note
task_told : (g : Edited) (h : ℕ → List Item) (start e : ℕ) (note : Note) → IsNoted g h start e note → (own : ℕ) → FeedsTask g h e own ↔ (task_feeder note ≡ Some own)
task_told g h start e note is own = (to, back note.head refl)
  where
    to : FeedsTask g h e own → first_of note.head note.feeder ≡ Some own
    to (inl head) = ap (λ (o : Option ℕ). first_of o note.feeder) ((is.head own).0 head)
    to (inr (loose, feeder)) = loosely note.head refl
      where
        loosely : (o : Option ℕ) → note.head ≡ o → first_of note.head note.feeder ≡ Some own
        loosely None at = ap (λ (o : Option ℕ). first_of o note.feeder) at ∙ (is.feeder own).0 feeder
        loosely (Some x) at = absurd (loose x ((is.head x).1 at))

    back : (o : Option ℕ) → note.head ≡ o → first_of note.head note.feeder ≡ Some own → FeedsTask g h e own
    back None at same = inr (
      (λ x head. no_some (sym ((is.head x).0 head) ∙ at)),
      (is.feeder own).1 (sym (ap (λ (o : Option ℕ). first_of o note.feeder) at) ∙ same),
    )
    back (Some x) at same = inl ((is.head own).1 (at ∙ sym (ap (λ (o : Option ℕ). first_of o note.feeder) at) ∙ same))

-- an element that is reached and has another feeder
foreign_of : (own other : ℕ) (note : Note) → note.is_reached ≡ true → note.feeder ≡ Some other → (other ≡ own → ⊥) → is_foreign own note ≡ true
foreign_of own other note reached feeder differs =
    ap (λ (b : Bool). b && option_map_or (λ (x : ℕ). not (x == own)) note.feeder false) reached
    ∙ ap (λ (o : Option ℕ). option_map_or (λ (x : ℕ). not (x == own)) o false) feeder ∙ apart (eqb_tells other own)
  where
    apart : ((eqb other own ≡ true) × (other ≡ own)) ⊎ ((eqb other own ≡ false) × (other ≡ own → ⊥)) → not (other == own) ≡ true
    apart (inl t) = absurd (differs t.1)
    apart (inr t) = ap not t.0

foreign_is : (own : ℕ) (note : Note) → is_foreign own note ≡ true → (note.is_reached ≡ true) × (other : ℕ) × (note.feeder ≡ Some other) × (other ≡ own → ⊥)
foreign_is own note is =
    let found = by note.feeder (and_right note.is_reached (option_map_or (λ (x : ℕ). not (x == own)) note.feeder false) is) in
    (and_left note.is_reached (option_map_or (λ (x : ℕ). not (x == own)) note.feeder false) is, found.0, found.1, found.2)
  where
    by : (o : Option ℕ) → option_map_or (λ (x : ℕ). not (x == own)) o false ≡ true → (other : ℕ) × (o ≡ Some other) × (other ≡ own → ⊥)
    by None e = absurd (false≢true e)
    by (Some other) e = (other, refl, λ same. true≢false (sym e ∙ ap (λ (x : ℕ). not (x == own)) same ∙ ap not (number_itself own)))

-- ---- all notes

-- where one of the notes is so, it has a place
some_place : (P : Note → Bool) (notes : List Note) → list_any P notes ≡ true → (e : ℕ) × (e < length notes) × (P (note_of notes e) ≡ true)
some_place P [] is = absurd (false≢true is)
some_place P (note ∷ notes) is = by (told (P note)) is (some_place P notes)
  where
    by : (P note ≡ true) ⊎ (P note ≡ false) → (P note || list_any P notes) ≡ true → (list_any P notes ≡ true → (e : ℕ) × (e < length notes) × (P (note_of notes e) ≡ true))
        → (e : ℕ) × (e < suc (length notes)) × (P (note_of (note ∷ notes) e) ≡ true)
    by (inl t) is rest = (zero, omega arith, t)
    by (inr t) is rest = let r = rest (rw t at is) in (suc r.0, (let low = r.1 in omega (arith, low)), r.2)

module _ (g : Edited) (h : ℕ → List Item) (stand : LinksStand g) where
  -- an element that has a feeder is there
  fed_there : (e x : ℕ) → HasFeeder g h e x → e < length g.made
  fed_there e x f = go (feeder_by g h e x f)
    where
      go : ((is_head g e ≡ true) × (e ≡ x)) ⊎ ((is_head g e ≡ false) × (p : ℕ) × (first_giver h (spans_at g (sink_at e 0)) ≡ Some p) × HasFeeder g h (owner_of p) x) → e < length g.made
      go (inl own) = head_there g e own.0
      go (inr given) = given_there g stand h e given.1 given.2

  module _ (source sink : PadPlace) (notes : List Note) (noted : AreNoted g h sink.element notes) (there : source.element < length g.made) where
    own_told : (own : ℕ) → FeedsTask g h source.element own ↔ (task_feeder (note_of notes source.element) ≡ Some own)
    own_told own = task_told g h sink.element source.element (note_of notes source.element) (noted.each source.element there) own

    -- nothing feeds the task
    pub unfed : task_feeder (note_of notes source.element) ≡ None → IsFedElsewhere g h source sink → ⊥
    unfed none fed = no_some (sym ((own_told fed.own).0 fed.feeds) ∙ none)

    pub fed_by : (own : ℕ) → task_feeder (note_of notes source.element) ≡ Some own → (list_any (is_foreign own) notes ≡ true) ↔ IsFedElsewhere g h source sink
    fed_by own is = (to, back)
      where
        to : list_any (is_foreign own) notes ≡ true → IsFedElsewhere g h source sink
        to some =
            let found = some_place (is_foreign own) notes some in
            let foreign = foreign_is own (note_of notes found.0) found.2 in
            let inside : found.0 < length g.made = (let count = noted.count in let low = found.1 in omega (arith, count, low)) in
            let one = noted.each found.0 inside in
            record {
              own = own;
              feeds = (own_told own).1 is;
              element = found.0;
              reached = one.reached.1 foreign.0;
              other = foreign.1;
              fed = (one.feeder foreign.1).1 foreign.2;
              differs = foreign.3;
            }

        back : IsFedElsewhere g h source sink → list_any (is_foreign own) notes ≡ true
        back fed =
            let inside = fed_there fed.element fed.other fed.fed in
            let one = noted.each fed.element inside in
            let same : own ≡ fed.own = some_same (sym is ∙ (own_told fed.own).0 fed.feeds) in
            let foreign : is_foreign own (note_of notes fed.element) ≡ true =
            foreign_of own fed.other (note_of notes fed.element) (one.reached.0 fed.reached) ((one.feeder fed.other).0 fed.fed) (λ e. fed.differs (e ∙ same)) in
            list_any_at (is_foreign own) notes fed.element no_note (let count = noted.count in omega (arith, count, inside)) foreign
