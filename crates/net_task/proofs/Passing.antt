-- What a try of a pad of an element makes of the moment.
use Rattle.std.proofs.Common.{◌≡◌, ◌++◌, ℕ, zero, suc, List, [], ◌∷◌, map, Some, Option, refl, sym, ap, ◌∙◌, subst}
use Rattle.std.specs.Prelude.{slice_get, slice_set}
use Rattle.gst_item.specs.declared.out.Out.{Out}
use Rattle.flow_model.specs.Item.{Item}
use Rattle.lane_core.specs.Lane.{Lane}
use Rattle.lane_core.specs.declared.ends.Inlet as inlets
use Rattle.lane_core.specs.declared.ends.Outlet as outlets
use Rattle.flow_model.specs.Moment.{Moment, behavior_at}
use Rattle.flow_model.specs.Step.{crossed}
use Rattle.flow_model.proofs.Inputs.{at_here, at_other}
use Rattle.flow_model.specs.declared.element.TaskElement as elements
use Rattle.flow_model.specs.declared.source.TaskSource as sources
use Rattle.flow_model.specs.Takes.{on_port}
use Rattle.task_pads.specs.declared.pad.Pad.{Pad}
use Rattle.task_pads.specs.declared.pad.Behind.{Behind}
use Rattle.task_pads.specs.declared.pad.Behind.TheVariants as behinds
use Rattle.task_pads.specs.Behind.{Goes, nowhere, inside, over, SentIn, goes}
use Rattle.task_pads.specs.Pads.{HasCrossed, SentOver, Seen, number_of, waiting_of}
use Rattle.task_pads.specs.Crossing.{WentAway}
use Rattle.task_parts.specs.declared.part.Part.{Part}
use Rattle.task_parts.specs.declared.head.Head.{Head}
use Rattle.task_parts.specs.Shape.{part_shape}
use Rattle.task_parts.specs.Part.{PadSet, waits_at}
use Rattle.task_parts.specs.Moved.{PartSet}
use Rattle.net_task.specs.Ties.{LeadsAs, PortTied, PartTied, AreTied, Stands, nothing_lost}
use Rattle.net_task.specs.Moves.{Act, Move, given_by, leaves, leaving, sending, sends}
use Rattle.net_task.specs.Tries.{CrossesAt}
use Rattle.net_task.proofs.Linked.{same_number, linked_stays, linked_crosses}
use Rattle.net_task.proofs.Tied.{set_part_shape, parts_set_shape, parts_set, part_known, part_pad, part_crossed, head_same, head_crossed}
use Rattle.gst_value.proofs.Basics.{some_same}
use Rattle.gst_value.proofs.Places.{set_at}

-- a list that is set twice at one place
pub set_twice : {A : Type 0} (xs : List A) (k : ℕ) (x y : A) → slice_set (slice_set xs k x) k y ≡ slice_set xs k y
set_twice [] k x y = refl
set_twice (z ∷ xs) zero x y = refl
set_twice {A = A} (z ∷ xs) (suc k) x y = ap (λ (ws : List A). z ∷ ws) (set_twice xs k x y)

-- a pad that leads to an element of its own task sends nothing over a lane
pub sent_inside : {O L : Type 0} (o : outlets.Ghosts O L) (b : Behind O) (n i : ℕ) (h : List Item) → goes b ≡ inside n i → SentIn o b h
sent_inside o behinds.Nothing n i h g = tt
sent_inside o (behinds.Element number hint pad) n i h g = tt
sent_inside o (behinds.Lane lane element pad from outlet) n i h g = absurd cc

module _ {E O : Type 0} {e : elements.Ghosts E} where
  -- an element of which a pad is another now stands as it stood
  pub stands_set : (m : Moment) (old new : Part E O e) → new.number ≡ old.number → new.element ≡ old.element → Stands m old → Stands m new
  stands_set m old new number element st = subst (λ n. e.stands new.element (behavior_at m n) (m.took n)) (sym number) (subst (λ z. e.stands z (behavior_at m old.number) (m.took old.number)) (sym element) st)

  -- two changes of one pad, and of one element
  pub pad_twice : (a b c : Part E O e) (port : ℕ) (p q r : Pad O) → PadSet a b port p q → PadSet b c port q r → PadSet a c port p r
  pad_twice a b c port p q r s t = record {
    number = t.number ∙ s.number;
    element = t.element ∙ s.element;
    out = t.out ∙ s.out;
    at = s.at;
    set = t.set ∙ ap (λ (ps : List (Pad O)). slice_set ps port r) s.set ∙ set_twice a.pads.items port q r;
    shape = t.shape ∙ s.shape;
  }

  pub part_twice : (xs ys zs : List (Part E O e)) (place : ℕ) (a b c : Part E O e) → PartSet xs ys place a b → PartSet ys zs place b c → PartSet xs zs place a c
  part_twice xs ys zs place a b c s t = record { at = s.at; set = t.set ∙ ap (λ (ps : List (Part E O e)). slice_set ps place c) s.set ∙ set_twice xs place b c }

  -- what was set is what is there
  pub is_set : (xs ys : List (Part E O e)) (place : ℕ) (a b c : Part E O e) → PartSet xs ys place a b → slice_get ys place ≡ Some c → c ≡ b
  is_set xs ys place a b c s at = some_same (sym at ∙ ap (λ (ps : List (Part E O e)). slice_get ps place) s.set ∙ set_at xs place a b s.at)

  pub is_pad_set : (a b : Part E O e) (port : ℕ) (p q r : Pad O) → PadSet a b port p q → slice_get b.pads.items port ≡ Some r → r ≡ q
  is_pad_set a b port p q r s at = some_same (sym at ∙ ap (λ (ps : List (Pad O)). slice_get ps port) s.set ∙ set_at a.pads.items port p q s.at)

module _ {S E I O L : Type 0} {s : sources.Ghosts S} {e : elements.Ghosts E} (i : inlets.Ghosts I L O) (o : outlets.Ghosts O L)
    (head : Head S I O s) (parts between : List (Part E O e)) (place port : ℕ) (old new : Part E O e) (was is : Pad O)
    (set : PartSet parts between place old new) (pad : PadSet old new port was is) (m : Moment) (a : AreTied i o (Stands m) nothing_lost m head parts) where
  pub tied_here : PartTied o (Stands m old) m old
  tied_here = a.parts_tied.each place old set.at

  pub port_here : PortTied o m old.number port was (waits_at old port was)
  port_here = tied_here.pads port was pad.at

  shape_here : map part_shape between ≡ map part_shape parts
  shape_here = parts_set_shape parts between place old new set (set_part_shape old new port was is pad)

  -- a pad was tried, and stands as it stood
  pub try_stays : ((h : List Item) → HasCrossed was h → HasCrossed is h) → ((h : List Item) → SentOver o was h → SentOver o is h) → waiting_of is ≡ waiting_of was → AreTied i o (Stands m) nothing_lost m head between
  try_stays crosses goes_on waits = record {
    parts_tied = parts_set o (Stands m) (Stands m) m m parts between place old new set pad.number (λ p n t. t)
        (part_pad o (Stands m new) m m old new port was is pad refl refl (λ q n. refl) (λ q n. refl) (linked_stays o m was is pad.shape crosses goes_on port_here.linked)
        (ap m.waits (same_number is was pad.shape) ∙ port_here.waits ∙ same_waits)
        (part_known o (Stands m old) (Stands m new) m old (stands_set m old new pad.number pad.element) tied_here))
        a.parts_tied;
    head_tied = head_same i o nothing_lost m head parts between shape_here a.head_tied;
  }
    where
      same_waits : waits_at old port was ≡ waits_at new port is
      same_waits = ap (λ ys. ys ++ on_port port old.out) (sym waits) ∙ ap (λ (os : List Out). waiting_of is ++ on_port port os) (sym pad.out)

  -- an item crosses the pad
  pub try_crosses : (x : Item) → ((h : List Item) → HasCrossed was h → HasCrossed is (h ++ x ∷ [])) → ((h : List Item) → HasCrossed was h → SentOver o was h → SentOver o is (h ++ x ∷ []))
      → AreTied i o (Stands m) nothing_lost (crossed (number_of was) x (waits_at new port is) m) head between
  try_crosses x crosses goes_on =
      let p : ℕ = number_of was in
      let rest : List Item = waits_at new port is in
      let m' : Moment = crossed p x rest m in
      record {
        parts_tied = parts_set o (Stands m) (Stands m') m m' parts between place old new set pad.number
            (λ q n t. part_crossed o (Stands m q) m p x rest q (λ own. n (sym own ∙ port_here.owner)) t)
            (part_pad o (Stands m new) m m' old new port was is pad refl refl (at_other p (m.history p ++ x ∷ []) m.history) (at_other p rest m.waits)
            (linked_crosses o m x rest was is pad.shape crosses goes_on port_here.linked)
            (ap m'.waits (same_number is was pad.shape) ∙ at_here p rest m.waits)
            (part_known o (Stands m old) (Stands m new) m old (stands_set m old new pad.number pad.element) tied_here))
            a.parts_tied;
        head_tied = head_crossed i o nothing_lost m p x rest head parts between place old set.at port_here.owner shape_here a.head_tied;
      }

  -- what waited at the pad
  pub waited_at : (x : Item) → waiting_of was ≡ x ∷ waiting_of is → m.waits (number_of was) ≡ x ∷ waits_at new port is
  waited_at x w = port_here.waits ∙ ap (λ ys. ys ++ on_port port old.out) w ∙ ap (λ (os : List Out). x ∷ (waiting_of is ++ on_port port os)) (sym pad.out)

-- an item crossed a pad: the moment moved, and a head and elements are tied to it
pub record MovesOn {S E I O L : Type 0} {s : sources.Ghosts S} {e : elements.Ghosts E} (i : inlets.Ghosts I L O) (o : outlets.Ghosts O L) (m : Moment) (act : Act) (head : Head S I O s) (parts : List (Part E O e)) : Type 0 where
  pub next : Moment
  pub move : Move m act next
  pub tied : AreTied i o (Stands next) nothing_lost next head parts

-- what an item does that goes away over a pad that leads there
abbrev pub gone_act : Goes → ℕ → Item → Act
gone_act nowhere p x = leaving p
gone_act (inside n k) p x = leaving p
gone_act (over lane n k from) p x = sending p x

pub gone_at : (g : Goes) (p : ℕ) (x : Item) → CrossesAt p (gone_act g p x)
gone_at nowhere p x = refl
gone_at (inside n k) p x = refl
gone_at (over lane n k from) p x = refl

pub gone_given : (g : Goes) (p : ℕ) (x : Item) → given_by (gone_act g p x) ≡ 0
gone_given nowhere p x = refl
gone_given (inside n k) p x = refl
gone_given (over lane n k from) p x = refl

-- an item that went away is a move
pub gone_move : {O L : Type 0} (o : outlets.Ghosts O L) (m : Moment) (p : ℕ) (x : Item) (rest : List Item) (was is : Seen O) (sibling : _) (tells tells' : Option (List Lane)) (g : Goes)
    → WentAway o x was is sibling tells tells' g → LeadsAs m p g → m.waits p ≡ x ∷ rest → Move m (gone_act g p x) (crossed p x rest m)
gone_move o m p x rest was is sibling tells tells' nowhere w l waits = leaves p x rest (record { waited = waits; leads = l })
gone_move o m p x rest was is sibling tells tells' (inside n k) w l waits = absurd w
gone_move o m p x rest was is sibling tells tells' (over lane n k from) w l waits = sends p x rest n k (record { waited = waits; leads = l })
