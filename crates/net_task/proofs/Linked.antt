-- How pads of a task stand to a moment, as items cross and elements are fed.
use Rattle.std.proofs.Common.{◌≡◌, ◌≢◌, ◌++◌, ℕ, List, [], ◌∷◌, refl, sym, ap, subst}
use Rattle.flow_model.specs.Item.{Item}
use Rattle.flow_model.specs.Call.{Call}
use Rattle.lane_core.specs.declared.ends.Outlet as outlets
use Rattle.flow_model.specs.Moment.{Moment}
use Rattle.flow_model.specs.Step.{crossed, fed}
use Rattle.flow_model.proofs.Inputs.{at_here, at_other}
use Rattle.task_pads.specs.declared.pad.Pad.{Pad}
use Rattle.pad_core.specs.SrcPad.{CrossedBy, state_of}
use Rattle.task_pads.specs.Behind.{Goes, nowhere, inside, over, SentIn, goes}
use Rattle.task_pads.specs.Pads.{HasCrossed, SentOver, PadShape, Rest, number_of, goes_of, pad_shape, rest_of}
use Rattle.net_task.specs.Ties.{LeadsAs, PadLinked}

-- pads of the same shape, and pads that are the same but for what waits
pub same_number : {O : Type 0} (p q : Pad O) → pad_shape p ≡ pad_shape q → number_of p ≡ number_of q
same_number p q s = ap (λ (z : PadShape). z.number) s

pub same_goes : {O : Type 0} (p q : Pad O) → pad_shape p ≡ pad_shape q → goes_of p ≡ goes_of q
same_goes p q s = ap (λ (z : PadShape). z.goes) s

-- where a pad leads hangs on the graph and on what is held alone
pub leads_same : (m m' : Moment) (p : ℕ) (g : Goes) → m'.plan ≡ m.plan → m'.held ≡ m.held → LeadsAs m p g → LeadsAs m' p g
leads_same m m' p nowhere pl h l = rw pl l
leads_same m m' p (inside n i) pl h l = rw (pl, h) l
leads_same m m' p (over lane n i from) pl h l = rw pl l

-- a pad that is the same but for what waits
pub shape_rest : {O : Type 0} (was is : Pad O) → rest_of is ≡ rest_of was → pad_shape is ≡ pad_shape was
shape_rest {O = O} was is r = ap (λ (z : Rest O). record { number = (state_of z.src).number; goes = goes z.behind }) r

pub crossed_rest : {O : Type 0} (was is : Pad O) → rest_of is ≡ rest_of was → (h : List Item) → HasCrossed was h → HasCrossed is h
crossed_rest {O = O} was is r h c = subst (λ (z : Rest O). CrossedBy z.src h) (sym r) c

pub sent_rest : {O L : Type 0} (o : outlets.Ghosts O L) (was is : Pad O) → rest_of is ≡ rest_of was → (h : List Item) → SentOver o was h → SentOver o is h
sent_rest {O = O} o was is r h s = subst (λ (z : Rest O). SentIn o z.behind h) (sym r) s

module _ {O L : Type 0} (o : outlets.Ghosts O L) where
  -- a pad that is seen at another moment, which tells the same of it
  pub linked_same : (m m' : Moment) (pad : Pad O) → m'.plan ≡ m.plan → m'.held ≡ m.held → m'.history (number_of pad) ≡ m.history (number_of pad) → PadLinked o m pad → PadLinked o m' pad
  linked_same m m' pad pl h hist l = record {
    crossed = subst (HasCrossed pad) (sym hist) l.crossed;
    leads = leads_same m m' (number_of pad) (goes_of pad) pl h l.leads;
    sent = subst (SentOver o pad) (sym hist) l.sent;
  }

  -- a pad that is another now, over the same histories
  pub linked_stays : (m : Moment) (was is : Pad O) → pad_shape is ≡ pad_shape was → ((h : List Item) → HasCrossed was h → HasCrossed is h) → ((h : List Item) → SentOver o was h → SentOver o is h) → PadLinked o m was → PadLinked o m is
  linked_stays m was is shape crosses sends l = record {
    crossed = subst (λ n. HasCrossed is (m.history n)) (sym (same_number is was shape)) (crosses (m.history (number_of was)) l.crossed);
    leads = subst (λ n. LeadsAs m n (goes_of is)) (sym (same_number is was shape)) (subst (LeadsAs m (number_of was)) (sym (same_goes is was shape)) l.leads);
    sent = subst (λ n. SentOver o is (m.history n)) (sym (same_number is was shape)) (sends (m.history (number_of was)) l.sent);
  }

  -- an item crosses another pad
  pub linked_other : (m : Moment) (p : ℕ) (x : Item) (rest : List Item) (pad : Pad O) → number_of pad ≢ p → PadLinked o m pad → PadLinked o (crossed p x rest m) pad
  linked_other m p x rest pad n l = linked_same m (crossed p x rest m) pad refl refl (at_other p (m.history p ++ x ∷ []) m.history (number_of pad) n) l

  -- an item crosses the pad
  pub linked_crosses : (m : Moment) (x : Item) (rest : List Item) (was is : Pad O) → pad_shape is ≡ pad_shape was → ((h : List Item) → HasCrossed was h → HasCrossed is (h ++ x ∷ []))
      → ((h : List Item) → HasCrossed was h → SentOver o was h → SentOver o is (h ++ x ∷ [])) → PadLinked o m was → PadLinked o (crossed (number_of was) x rest m) is
  linked_crosses m x rest was is shape crosses sends l =
      let p : ℕ = number_of was in
      let now : (crossed p x rest m).history p ≡ m.history p ++ x ∷ [] = at_here p (m.history p ++ x ∷ []) m.history in
      record {
        crossed = subst (λ n. HasCrossed is ((crossed p x rest m).history n)) (sym (same_number is was shape)) (subst (HasCrossed is) (sym now) (crosses (m.history p) l.crossed));
        leads = subst (λ n. LeadsAs (crossed p x rest m) n (goes_of is)) (sym (same_number is was shape))
            (subst (LeadsAs (crossed p x rest m) p) (sym (same_goes is was shape)) (leads_same m (crossed p x rest m) p (goes_of was) refl refl l.leads));
        sent = subst (λ n. SentOver o is ((crossed p x rest m).history n)) (sym (same_number is was shape)) (subst (SentOver o is) (sym now) (sends (m.history p) l.crossed l.sent));
      }

  -- an element was fed, or an item that waited was given up: nothing crossed
  pub linked_fed : (m : Moment) (n : ℕ) (took : List (List Call)) (out : ℕ → List Item) (pad : Pad O) → PadLinked o m pad → PadLinked o (fed n took out m) pad
  linked_fed m n took out pad l = linked_same m (fed n took out m) pad refl refl refl l

  -- what waits at a pad is no part of how it is linked
  pub linked_rest : (m : Moment) (was is : Pad O) → rest_of is ≡ rest_of was → PadLinked o m was → PadLinked o m is
  linked_rest m was is r l = linked_stays m was is (shape_rest was is r) (crossed_rest was is r) (sent_rest o was is r) l
