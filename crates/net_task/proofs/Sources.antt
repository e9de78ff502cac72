-- What a try of the pad of a source, and a question to a source, make of the moment.
use Rattle.std.proofs.Common.{◌≡◌, ◌++◌, ◌+◌, ℕ, List, [], ◌∷◌, length, map, refl, sym, ap, ◌∙◌, subst, arith, append_assoc, length-append}
use Rattle.flow_model.specs.Item.{Item}
use Rattle.lane_core.specs.declared.ends.Inlet as inlets
use Rattle.lane_core.specs.declared.ends.Outlet as outlets
use Rattle.flow_model.specs.Moment.{Moment}
use Rattle.flow_model.specs.Step.{crossed}
use Rattle.flow_model.proofs.Inputs.{at_here}
use Rattle.flow_model.specs.declared.element.TaskElement as elements
use Rattle.flow_model.specs.declared.source.TaskSource as sources
use Rattle.task_pads.specs.Pads.{HasCrossed, SentOver, number_of, waiting_of}
use Rattle.task_parts.specs.declared.part.Part.{Part}
use Rattle.task_parts.specs.declared.head.Head.TheVariants.{Source}
use Rattle.task_parts.specs.declared.head.SourceHead.{SourceHead}
use Rattle.task_parts.specs.Shape.{part_shape}
use Rattle.task_parts.specs.Passing.{SourceSet}
use Rattle.net_task.specs.Ties.{PadLinked, SourceTied, NoneIs, AreTied, Stands, nothing_lost}
use Rattle.net_task.proofs.Linked.{same_number, linked_stays, linked_crosses}
use Rattle.net_task.proofs.Tied.{none_is_same, part_crossed}

-- what a call of a trait's law gives: what a source gave begins what it owes
abbrev pub Begins : {S : Type 0} → sources.Ghosts S → Type 0
Begins {S = S} s = (source : S) (owed given : List Item) → s.gave source owed given → (rest : List Item) × (owed ≡ given ++ rest)

pub cancel : (h a b : List Item) → h ++ a ≡ h ++ b → a ≡ b
cancel [] a b q = q
cancel (x ∷ h) a b q = cancel h a b (tail_same x (h ++ a) x (h ++ b) q)
  where
    tail_same : (x : Item) (xs : List Item) (y : Item) (ys : List Item) → x ∷ xs ≡ y ∷ ys → xs ≡ ys
    tail_same x xs y ys w = cc

-- what a source has yet to give waits behind what waits at its pad
pub record Later (waits waiting : List Item) : Type 0 where
  pub rest : List Item
  pub whole : waits ≡ waiting ++ rest

module _ {S O : Type 0} {s : sources.Ghosts S} where
  pub set_both : (a b c : SourceHead S O s) → SourceSet a b → SourceSet b c → SourceSet a c
  set_both a b c p q = record { number = q.number ∙ p.number; source = q.source ∙ p.source; given = q.given ∙ p.given; shape = q.shape ∙ p.shape }

module _ {S E O L : Type 0} {s : sources.Ghosts S} {e : elements.Ghosts E} (o : outlets.Ghosts O L) where
  pub later : Begins s → (m : Moment) (head : SourceHead S O s) (parts : List (Part E O e)) → SourceTied o [] m head parts → Later (m.waits (number_of head.pad)) (waiting_of head.pad)
  later begins m head parts t =
      let z = begins head.source (m.history (number_of head.pad) ++ m.waits (number_of head.pad)) (m.history (number_of head.pad) ++ waiting_of head.pad) t.gave in
      record { rest = z.0; whole = cancel (m.history (number_of head.pad)) (m.waits (number_of head.pad)) (waiting_of head.pad ++ z.0) (z.1 ∙ append_assoc (m.history (number_of head.pad)) (waiting_of head.pad) z.0) }

  -- the pad of a source is another now, and this is told of it at another moment
  pub source_set : (lost : List Item) (m m' : Moment) (head head' : SourceHead S O s) (parts parts' : List (Part E O e)) → SourceSet head head' → m'.plan ≡ m.plan → PadLinked o m' head'.pad
      → m'.history (number_of head.pad) ++ (lost ++ m'.waits (number_of head.pad)) ≡ m.history (number_of head.pad) ++ m.waits (number_of head.pad)
      → m'.history (number_of head.pad) ++ (lost ++ waiting_of head'.pad) ≡ m.history (number_of head.pad) ++ waiting_of head.pad
      → map part_shape parts' ≡ map part_shape parts → SourceTied o [] m head parts → SourceTied o lost m' head' parts'
  source_set lost m m' head head' parts parts' set pl linked owed given shape t =
      let n : number_of head'.pad ≡ number_of head.pad = same_number head'.pad head.pad set.shape in
      record {
        owner = rw pl (ap m.plan.owner n ∙ t.owner ∙ sym set.number);
        mine = λ p own. t.mine p (ap (λ z. z.owner p) (sym pl) ∙ own ∙ set.number) ∙ sym n;
        linked = linked;
        gave = subst (λ k. s.gave head'.source (m'.history k ++ (lost ++ m'.waits k)) (m'.history k ++ (lost ++ waiting_of head'.pad))) (sym n)
            (subst (λ ys. s.gave head'.source ys (m'.history (number_of head.pad) ++ (lost ++ waiting_of head'.pad))) (sym owed)
            (subst (s.gave head'.source (m.history (number_of head.pad) ++ m.waits (number_of head.pad))) (sym given)
            (subst (λ z. s.gave z (m.history (number_of head.pad) ++ m.waits (number_of head.pad)) (m.history (number_of head.pad) ++ waiting_of head.pad)) (sym set.source) t.gave)));
        given = let c = ap length given in let d = t.given in let f = set.given in
            subst (λ k. head'.given ≡ length (m'.history k) + (length lost + length (waiting_of head'.pad))) (sym n)
            (let x = length-append (m'.history (number_of head.pad)) (lost ++ waiting_of head'.pad) in let y = length-append lost (waiting_of head'.pad) in let z = length-append (m.history (number_of head.pad)) (waiting_of head.pad) in omega (arith, c, d, f, x, y, z));
        apart = subst (NoneIs parts') (sym set.number) (none_is_same parts parts' head.number shape t.apart);
      }

module _ {S E I O L : Type 0} {s : sources.Ghosts S} {e : elements.Ghosts E} (i : inlets.Ghosts I L O) (o : outlets.Ghosts O L) (begins : Begins s)
    (head next : SourceHead S O s) (parts : List (Part E O e)) (set : SourceSet head next) (m : Moment) (a : AreTied i o (Stands m) nothing_lost m (Source head) parts) where
  abbrev p : ℕ
  p = number_of head.pad

  -- the source's pad was tried, and stands as it stood
  pub source_stays : ((h : List Item) → HasCrossed head.pad h → HasCrossed next.pad h) → ((h : List Item) → SentOver o head.pad h → SentOver o next.pad h) → waiting_of next.pad ≡ waiting_of head.pad
      → AreTied i o (Stands m) nothing_lost m (Source next) parts
  source_stays c g w = record {
    parts_tied = a.parts_tied;
    head_tied = source_set o [] m m head next parts parts set refl (linked_stays o m head.pad next.pad set.shape c g a.head_tied.linked) refl (ap (λ ys. m.history p ++ ys) w) refl a.head_tied;
  }

  -- what is left waiting when an item leaves the pad
  pub source_rest : (x : Item) → waiting_of head.pad ≡ x ∷ waiting_of next.pad → Later (m.waits p) (x ∷ waiting_of next.pad)
  source_rest x w = let z = later o begins m head parts a.head_tied in record { rest = z.rest; whole = z.whole ∙ ap (λ ys. ys ++ z.rest) w }

  -- an item crosses it
  pub source_crosses : (x : Item) (w : waiting_of head.pad ≡ x ∷ waiting_of next.pad) → ((h : List Item) → HasCrossed head.pad h → HasCrossed next.pad (h ++ x ∷ [])) → ((h : List Item) → HasCrossed head.pad h → SentOver o head.pad h → SentOver o next.pad (h ++ x ∷ []))
      → AreTied i o (Stands m) nothing_lost (crossed p x (waiting_of next.pad ++ (source_rest x w).rest) m) (Source next) parts
  source_crosses x w c g =
      let rest : List Item = waiting_of next.pad ++ (source_rest x w).rest in
      let m' : Moment = crossed p x rest m in
      let hist : m'.history p ≡ m.history p ++ x ∷ [] = at_here p (m.history p ++ x ∷ []) m.history in
      let waits : m'.waits p ≡ rest = at_here p rest m.waits in
      record {
        parts_tied = record { each = λ j q at. part_crossed o (Stands m q) m p x rest q (λ own. a.head_tied.apart j q at (sym own ∙ a.head_tied.owner)) (a.parts_tied.each j q at); once = a.parts_tied.once };
        head_tied = source_set o [] m m' head next parts parts set refl (linked_crosses o m x rest head.pad next.pad set.shape c g a.head_tied.linked)
            (ap (λ ys. ys ++ m'.waits p) hist ∙ ap (λ ys. (m.history p ++ x ∷ []) ++ ys) waits ∙ append_assoc (m.history p) (x ∷ []) rest ∙ ap (λ ys. m.history p ++ ys) (sym (source_rest x w).whole))
            (ap (λ ys. ys ++ waiting_of next.pad) hist ∙ append_assoc (m.history p) (x ∷ []) (waiting_of next.pad) ∙ ap (λ ys. m.history p ++ ys) (sym w))
            refl a.head_tied;
      }
