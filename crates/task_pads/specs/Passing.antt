-- The two parts of a crossing: the pad is offered the item, and what crossed goes to what is behind the pad.
use Rattle.std.specs.Prelude.{◌≡◌, ◌+◌, ℕ, Bool, true, false, List, [], ◌∷◌, ◌++◌, Option, Some}
use Rattle.flow_model.specs.Item.{Item, is_buffer, buffers}
use Rattle.lane_core.specs.declared.ends.Outlet as outlets
use Rattle.lane_core.specs.declared.ends.Put.TheVariants.{Stored, Full as Back}
use Rattle.lane_core.specs.Lane.{Lane, IsBetween}
use Rattle.lane_core.specs.Laws.{HoldsFor}
use Rattle.lane_core.specs.Moves.{raised, table_after_put}
use Rattle.pad_core.specs.declared.src_pad.SrcPad.{SrcPad}
use Rattle.pad_core.specs.Crossing.{has_ended}
use Rattle.pad_core.specs.Linking.{has_peer}
use Rattle.pad_core.specs.SrcPad.{CrossedBy, state_of, crossed_of}
use Rattle.task_pads.specs.declared.pad.Behind.{Behind}
use Rattle.task_pads.specs.declared.pad.Behind.TheVariants as behinds
use Rattle.task_pads.specs.declared.crossing.Crossing.{Crossing}
use Rattle.task_pads.specs.declared.crossing.Crossing.TheVariants.{To, Gone, Full}
use Rattle.task_pads.specs.declared.offer.Answer.{Answer}
use Rattle.task_pads.specs.declared.offer.Answer.TheVariants.{Crosses, AtProbe, NotLinked, BehindEos, OutOfMemory}
use Rattle.task_pads.specs.Behind.{inside, goes, hint_in, lane_end}
use Rattle.task_pads.specs.Pads.{Seen, setting_of, is_kept, Passes, IsLoose}

-- The item crossed: it is counted, and that can be taken back.
pub record Counted (old new : SrcPad) (item : Item) (sibling : Bool) : Type 0 where
  pub history : (h : List Item) → CrossedBy old h → CrossedBy new (h ++ item ∷ [])
  pub counted : crossed_of new ≡ crossed_of old + 1
  pub setting : setting_of new ≡ setting_of old
  pub back : IsLoose new
  pub passes : (h : List Item) → CrossedBy old h → Passes old item h
  pub nobody : (h : List Item) → CrossedBy old h → has_peer (state_of old).peer ≡ false → is_buffer item ≡ true → sibling ≡ true

-- It did not cross: the pad stays, but for the copy of a sticky event.
pub record Waits (old new : SrcPad) (Why : List Item → Type 0) : Type 0 where
  pub history : (h : List Item) → CrossedBy old h → CrossedBy new h
  pub counted : crossed_of new ≡ crossed_of old
  pub setting : setting_of new ≡ setting_of old
  pub why : (h : List Item) → CrossedBy old h → Why h

-- no linked pad answers that a buffer would reach nobody
abbrev pub unlinked_answer : Bool → Answer
unlinked_answer true = BehindEos
unlinked_answer false = NotLinked

abbrev pub IsOffered : SrcPad → SrcPad → Item → Bool → Answer → Type 0
IsOffered old new item sibling Crosses = Counted old new item sibling
IsOffered old new item sibling (AtProbe command) =
    Waits old new (λ h. (has_ended h ≡ false) × (is_buffer item ≡ true) × ((state_of old).probe ≡ Some (record { command = command; buffers = buffers h })))
IsOffered old new item sibling NotLinked =
    Waits old new (λ h. Passes old item h × (is_buffer item ≡ true) × (has_peer (state_of old).peer ≡ false) × (sibling ≡ false)) × (has_peer (state_of old).peer ≡ false)
IsOffered old new item sibling BehindEos = Waits old new (λ h. has_ended h ≡ true)
IsOffered old new item sibling OutOfMemory = (new ≡ old) × (is_kept item ≡ true)

-- A crossing was taken back.
pub record IsTakenBack (old new : SrcPad) : Type 0 where
  pub history : (h : List Item) (x : Item) → CrossedBy old (h ++ x ∷ []) → CrossedBy new h
  pub counted : crossed_of new + 1 ≡ crossed_of old
  pub setting : setting_of new ≡ setting_of old

module _ {O L : Type 0} (o : outlets.Ghosts O L) where
  -- The lane took the item.
  pub record IsStored (outlet outlet' : O) (item : Item) (tells tells' : Option (List Lane)) : Type 0 where
    pub sent : (list : List Item) → o.sent outlet list → o.sent outlet' (list ++ item ∷ [])
    pub end : lane_end o outlet' ≡ record (lane_end o outlet) { count = o.count outlet + 1 }
    pub table : tells' ≡ table_after_put (o.place outlet) item Stored tells
    pub holds : (list got : List Item) → o.sent outlet list → IsBetween tells (o.place outlet) list got → HoldsFor (o.place outlet) (o.limits outlet) Stored tells

  -- The lane refused it.
  pub record IsRefused (outlet outlet' : O) (item : Item) (tells tells' : Option (List Lane)) : Type 0 where
    pub sent : (list : List Item) → o.sent outlet list → o.sent outlet' list
    pub end : lane_end o outlet' ≡ record (lane_end o outlet) { refusals = raised (o.refusals outlet) }
    pub table : tells' ≡ tells
    pub holds : (list got : List Item) → o.sent outlet list → IsBetween tells (o.place outlet) list got → HoldsFor (o.place outlet) (o.limits outlet) (Back item) tells

  -- it was put into a lane: it is there and waits no more, or it waits on and its crossing is taken back
  abbrev pub IsPutBy : ℕ → O → O → List Item → List Item → SrcPad → SrcPad → Option (List Lane) → Option (List Lane) → Crossing → Type 0
  IsPutBy lane outlet outlet' items items' src src' tells tells' Gone =
      (item : Item) × (items ≡ item ∷ items') × (src' ≡ src) × IsStored outlet outlet' item tells tells'
  IsPutBy lane outlet outlet' items items' src src' tells tells' (Full number) =
      (item : Item) × (rest : List Item) × (items ≡ item ∷ rest) × (items' ≡ item ∷ rest) × (number ≡ lane) × IsTakenBack src src'
      × IsRefused outlet outlet' item tells tells'
  IsPutBy lane outlet outlet' items items' src src' tells tells' _ = ⊥

  -- it went to nobody or into the lane
  abbrev pub WentBy : Item → Behind O → Behind O → Option (List Lane) → Option (List Lane) → Type 0
  WentBy item behinds.Nothing new tells tells' = (new ≡ behinds.Nothing) × (tells' ≡ tells)
  WentBy item (behinds.Element number hint pad) new tells tells' = ⊥
  WentBy item (behinds.Lane lane element pad from outlet) new tells tells' =
      (outlet' : O) × (new ≡ behinds.Lane lane element pad from outlet') × IsStored outlet outlet' item tells tells'

  -- the lane of this number refused it
  abbrev pub RefusedBy : Item → ℕ → Behind O → Behind O → Option (List Lane) → Option (List Lane) → Type 0
  RefusedBy item number behinds.Nothing new tells tells' = ⊥
  RefusedBy item number (behinds.Element element hint pad) new tells tells' = ⊥
  RefusedBy item number (behinds.Lane lane element pad from outlet) new tells tells' =
      (outlet' : O) × (number ≡ lane) × (new ≡ behinds.Lane lane element pad from outlet') × IsRefused outlet outlet' item tells tells'

  -- what became of an item that had crossed and waited first
  abbrev pub HasPassed : Seen O → Seen O → Option (List Lane) → Option (List Lane) → Crossing → Type 0
  HasPassed old new tells tells' (To number hint pad) =
      (new ≡ old) × (tells' ≡ tells) × (goes old.behind ≡ inside number pad) × (hint_in old.behind ≡ Some hint)
  HasPassed old new tells tells' Gone =
      (item : Item) × (old.waiting ≡ item ∷ new.waiting) × (new.src ≡ old.src) × WentBy item old.behind new.behind tells tells'
  HasPassed old new tells tells' (Full number) =
      (item : Item) × (rest : List Item) × (old.waiting ≡ item ∷ rest) × (new.waiting ≡ item ∷ rest) × IsTakenBack old.src new.src
      × RefusedBy item number old.behind new.behind tells tells'
  HasPassed old new tells tells' _ = ⊥
