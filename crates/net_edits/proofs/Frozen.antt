-- An element that takes no more.
use Rattle.std.proofs.Common.{◌≡◌, ◌≢◌, ◌⊎◌, ℕ, zero, suc, true, false, eqb, if◌then◌else◌, List, [], ◌∷◌, ◌++◌, map, append-nil, refl, sym, ap, ◌∙◌, subst, inl, inr}
use Rattle.std.proofs.lemmas.Bool.{true≢false}
use Rattle.std.proofs.lemmas.Bool.Decides.{eqb_tells}
use Rattle.flow_model.specs.Item.{Item}
use Rattle.flow_model.specs.Call.{Call}
use Rattle.flow_model.specs.Link.{Span, Flushed, Given, Linked, WasLinked, input_of}
use Rattle.flow_model.specs.Rule.{Rule}
use Rattle.flow_model.specs.SinkPads.{InSection}
use Rattle.gst_item.specs.Sticky.{has_flush_stop}
use Rattle.flow_model.specs.Moment.{CellStands, Moment, PadStands, owed_at, put_at}
use Rattle.flow_model.specs.Pad.{Holds}
use Rattle.flow_model.specs.Split.{AreEmpty, AreSplit, emptied, none, pad}
use Rattle.flow_model.specs.Standing.{AllStanding, LinksAt, LinksNowhere, links_from_one}
use Rattle.flow_model.proofs.Inputs.{at_here, at_other}
use Rattle.pad_core.specs.Crossing.{has_ended}
use Rattle.net_turns.specs.Net.{IsPlain}
use Rattle.net_edits.specs.Adding.{DiffersAt, IsCut, NoneStand, frozen, owes_just}
use Rattle.net_edits.proofs.Endings.{crossed_calm, crossed_closed}

-- where no link stands, a pad leads nowhere
any_linked : (these : _) (ss : List Span) → links_from_one these ss ≡ true → links_from_one (λ source. true) ss ≡ true
any_linked these [] h = h
any_linked these (Linked source from marks ∷ ss) h = refl
any_linked these (WasLinked source from to eos marks ∷ ss) h = any_linked these ss h
any_linked these (Flushed number ∷ ss) h = any_linked these ss h
any_linked these (Given calls ∷ ss) h = any_linked these ss h

pub none_at : (p i : ℕ) (sss : List (List Span)) → NoneStand sss → LinksAt p i sss → ⊥
none_at p i [] f l = l
none_at p zero (ss ∷ sss) f l = true≢false (sym (any_linked (λ source. eqb source p) ss l.0) ∙ f.0)
none_at p (suc i) (ss ∷ sss) f l = none_at p i sss f.1 l.1

-- what is so of the value that was put, and of all others
pub put_by : {A : Type 0} (P : A → Type 0) (n : ℕ) (now : A) (f : ℕ → A) (k : ℕ) → P now → P (f k) → P (put_at n now f k)
put_by P n now f k here there = go (eqb_tells k n)
  where
    go : ((eqb k n ≡ true) × (k ≡ n)) ⊎ ((eqb k n ≡ false) × (k ≡ n → ⊥)) → P (put_at n now f k)
    go (inl t) = rw t.0 here
    go (inr t) = rw t.0 there

-- nothing is held
pub emptied_empty : (css : List (List Call)) → AreEmpty (emptied css)
emptied_empty [] = tt
emptied_empty (cs ∷ css) = (refl, emptied_empty css)

pub emptied_section : (css : List (List Call)) → InSection 0 (emptied css)
emptied_section [] = tt
emptied_section (cs ∷ css) = (refl, emptied_section css)

-- what was taken is given
abbrev spans_of : List (List Call) → List (List Span)
spans_of took = map (λ calls. Given calls ∷ []) took

given_split : (h : ℕ → List Item) {ts hs ws : List (List Call)} → AreSplit ts hs ws → AreSplit ts (emptied hs) (map (input_of h) (spans_of ts))
given_split h none = none
given_split h (pad same more) = pad refl (given_split h more)

given_standing : (h : ℕ → List Item) (ts : List (List Call)) → AllStanding h (spans_of ts)
given_standing h [] = tt
given_standing h (t ∷ ts) = (tt, given_standing h ts)

given_nowhere : (p : ℕ) (ts : List (List Call)) → LinksNowhere p (spans_of ts)
given_nowhere p [] = tt
given_nowhere p (t ∷ ts) = (refl, given_nowhere p ts)

module _ (n : ℕ) (cut : ℕ → List Item) (m : Moment) where
  pub frozen_nowhere : (p : ℕ) → LinksNowhere p ((frozen n cut m).plan.sinks n)
  frozen_nowhere p = subst (LinksNowhere p) (sym (at_here n (spans_of (m.took n)) m.plan.sinks)) (given_nowhere p (m.took n))

  waits_here : (p : ℕ) → m.plan.owner p ≡ n → (frozen n cut m).waits p ≡ []
  waits_here p own = go (eqb_tells (m.plan.owner p) n)
    where
      go : ((eqb (m.plan.owner p) n ≡ true) × (m.plan.owner p ≡ n)) ⊎ ((eqb (m.plan.owner p) n ≡ false) × (m.plan.owner p ≡ n → ⊥)) → (if eqb (m.plan.owner p) n then [] else m.waits p) ≡ []
      go (inl t) = rw t.0 refl
      go (inr t) = absurd (t.1 own)

  waits_other : (p : ℕ) → m.plan.owner p ≢ n → (frozen n cut m).waits p ≡ m.waits p
  waits_other p ne = go (eqb_tells (m.plan.owner p) n)
    where
      go : ((eqb (m.plan.owner p) n ≡ true) × (m.plan.owner p ≡ n)) ⊎ ((eqb (m.plan.owner p) n ≡ false) × (m.plan.owner p ≡ n → ⊥)) → (if eqb (m.plan.owner p) n then [] else m.waits p) ≡ m.waits p
      go (inl t) = absurd (ne t.1)
      go (inr t) = rw t.0 refl

  pub frozen_differs : DiffersAt n m (frozen n cut m)
  frozen_differs = record {
    owner = λ p. refl;
    port = λ p. refl;
    history = λ p. refl;
    waits = waits_other;
    others = λ a ne. record {
      rule = at_other n (owes_just cut) m.plan.rule a ne;
      sinks = at_other n (spans_of (m.took n)) m.plan.sinks a ne;
      answers = refl;
      took = refl;
      held = at_other n (emptied (m.held n)) m.held a ne;
    };
  }

  pub frozen_held : (frozen n cut m).held n ≡ emptied (m.held n)
  frozen_held = at_here n (emptied (m.held n)) m.held

  -- nothing waits at a pad of the element, and none does where none did
  pub frozen_loose : (p : ℕ) → (m.plan.owner p ≢ n → m.waits p ≡ []) → (frozen n cut m).waits p ≡ []
  frozen_loose p other = go (eqb_tells (m.plan.owner p) n)
    where
      go : ((eqb (m.plan.owner p) n ≡ true) × (m.plan.owner p ≡ n)) ⊎ ((eqb (m.plan.owner p) n ≡ false) × (m.plan.owner p ≡ n → ⊥)) → (if eqb (m.plan.owner p) n then [] else m.waits p) ≡ []
      go (inl t) = rw t.0 refl
      go (inr t) = rw t.0 (other t.1)

  module _ (c : IsCut m n cut) (plain : IsPlain m.plan) where
    pub frozen_plain : ((a : ℕ) → CellStands m a) → IsPlain (frozen n cut m).plan
    frozen_plain cells = record {
      uncut = plain.uncut;
      calm = λ e port took. put_by (λ (r : Rule). has_flush_stop (r took port 0) ≡ false) n (owes_just cut) m.plan.rule e (calm port (c.each port)) (plain.calm e port took);
      closed = λ e port took front last. put_by (λ (r : Rule). r took port 0 ≡ front ++ last ∷ [] → has_ended front ≡ false) n (owes_just cut) m.plan.rule e (closed port (c.each port) front last) (plain.closed e port took front last);
    }
      where
        calm : (port : ℕ) → (cut port ≡ []) ⊎ ((p : ℕ) × (cut port ≡ m.history p)) → has_flush_stop (cut port) ≡ false
        calm port (inl bare) = subst (λ (l : List Item). has_flush_stop l ≡ false) (sym bare) refl
        calm port (inr t) = subst (λ (l : List Item). has_flush_stop l ≡ false) (sym t.1) (crossed_calm m t.0 plain (cells (m.plan.owner t.0)))

        not_bare : (front : List Item) (last : Item) → [] ≡ front ++ last ∷ [] → ⊥
        not_bare [] last e = cc
        not_bare (x ∷ front) last e = cc

        closed : (port : ℕ) → (cut port ≡ []) ⊎ ((p : ℕ) × (cut port ≡ m.history p)) → (front : List Item) (last : Item) → cut port ≡ front ++ last ∷ [] → has_ended front ≡ false
        closed port (inl bare) front last e = absurd (not_bare front last (sym bare ∙ e))
        closed port (inr t) front last e = crossed_closed m t.0 plain (cells (m.plan.owner t.0)) front last (sym t.1 ∙ e)

    -- the element stands, by what it took and by what crossed its pads
    pub frozen_cell : CellStands m n → CellStands (frozen n cut m) n
    frozen_cell cell = record {
      pads = pads;
      input = subst (λ (hs : List (List Call)). AreSplit (m.took n) hs (map (input_of m.history) ((frozen n cut m).plan.sinks n))) (sym frozen_held)
          (subst (λ (sss : List (List Span)). AreSplit (m.took n) (emptied (m.held n)) (map (input_of m.history) sss)) (sym (at_here n (spans_of (m.took n)) m.plan.sinks))
          (given_split m.history cell.input));
      standing = subst (AllStanding m.history) (sym (at_here n (spans_of (m.took n)) m.plan.sinks)) (given_standing m.history (m.took n));
    }
      where
        pads : (p : ℕ) → m.plan.owner p ≡ n → PadStands (frozen n cut m) p
        pads p own = subst (λ (cuts : List (ℕ × ℕ)). Holds 0 0 cuts (owed_at (frozen n cut m) p) (m.history p) ((frozen n cut m).waits p)) (sym (plain.uncut p)) owed
          where
            rule : put_at n (owes_just cut) m.plan.rule (m.plan.owner p) ≡ owes_just cut
            rule = ap (λ (b : ℕ). put_at n (owes_just cut) m.plan.rule b) own ∙ at_here n (owes_just cut) m.plan.rule

            owed : owed_at (frozen n cut m) p 0 ≡ m.history p ++ (frozen n cut m).waits p
            owed = ap (λ (r : Rule). r (m.took (m.plan.owner p)) (m.plan.port p) 0) rule ∙ c.own p own ∙ sym (append-nil (m.history p)) ∙ ap (λ (w : List Item). m.history p ++ w) (sym (waits_here p own))
