-- Each step keeps what each element stands for, whichever task has it.
use Rattle.std.proofs.Common.{◌≡◌, ◌⊎◌, ℕ, true, false, eqb, List, [], ◌∷◌, ◌++◌, sym, subst, inl, inr}
use Rattle.std.proofs.lemmas.Bool.Decides.{eqb_tells}
use Rattle.flow_model.specs.Item.{Item}
use Rattle.flow_model.specs.Call.{Call, Feed}
use Rattle.flow_model.specs.Eval.{inputs}
use Rattle.flow_model.specs.Moment.{Moment, PadStands, CellStands, owed_at, put_at}
use Rattle.flow_model.specs.Pad.{Holds}
use Rattle.flow_model.specs.Split.{AreSplit}
use Rattle.flow_model.specs.SinkPads.{push_calls}
use Rattle.flow_model.specs.Standing.{AllStanding}
use Rattle.flow_model.specs.Step.{crossed, fed, laid, PutsOut, Leads, passed, Passes, sent, Sends, Leaves, taken, Takes}
use Rattle.flow_model.proofs.Inputs.{now, longer, all_standing_grow, crossing_here, crossing_elsewhere}
use Rattle.flow_model.proofs.Pads.{holds_crossing, holds_fed}
use Rattle.flow_model.proofs.Splits.{split_now, split_later, split_taken}

-- the first that waits at a pad crosses
pub crossed_pad : (m : Moment) (p : ℕ) (x : Item) (rest : List Item) → m.waits p ≡ x ∷ rest → (q : ℕ) → PadStands m q → PadStands (crossed p x rest m) q
crossed_pad m p x rest e q s = go (eqb_tells q p)
  where
    at_p : PadStands m p → Holds 0 0 (m.plan.log p).cuts (owed_at m p) (m.history p ++ x ∷ []) rest
    at_p s = holds_crossing 0 0 (m.plan.log p).cuts (owed_at m p) (m.history p) rest x (subst (Holds 0 0 (m.plan.log p).cuts (owed_at m p) (m.history p)) e s)

    go : ((eqb q p ≡ true) × (q ≡ p)) ⊎ ((eqb q p ≡ false) × (q ≡ p → ⊥)) → PadStands (crossed p x rest m) q
    go (inl t) = rw t.0 (subst (λ a. Holds 0 0 (m.plan.log a).cuts (owed_at m a) (m.history p ++ x ∷ []) rest) (sym t.1) (at_p (subst (PadStands m) t.1 s)))
    go (inr t) = rw t.0 s

-- an element takes more, and puts out what it owes for that
pub fed_pad : (m : Moment) (e : ℕ) (took : List (List Call)) (out : ℕ → List Item) → PutsOut m e took out → (q : ℕ) → PadStands m q → PadStands (fed e took out m) q
fed_pad m e took out o q s = go (eqb_tells (m.plan.owner q) e)
  where
    go : ((eqb (m.plan.owner q) e ≡ true) × (m.plan.owner q ≡ e)) ⊎ ((eqb (m.plan.owner q) e ≡ false) × (m.plan.owner q ≡ e → ⊥)) → PadStands (fed e took out m) q
    go (inl t) =
        rw t.0 (subst (λ d. Holds 0 0 (m.plan.log q).cuts (m.plan.rule d took (m.plan.port q)) (m.history q) (m.waits q ++ out (m.plan.port q))) (sym t.1)
        (holds_fed 0 0 (m.plan.log q).cuts (m.plan.rule e (m.took e) (m.plan.port q)) (m.plan.rule e took (m.plan.port q)) (m.history q) (m.waits q) (out (m.plan.port q)) (o q t.1)
        (subst (λ d. Holds 0 0 (m.plan.log q).cuts (m.plan.rule d (m.took d) (m.plan.port q)) (m.history q) (m.waits q)) t.1 s)))
    go (inr t) = rw t.0 s

module _ (m : Moment) (p : ℕ) (x : Item) (rest : List Item) where
  -- what an element is given behind the crossing
  unfoldable pub gives : ℕ → List (List Call)
  gives a = inputs m.plan (crossed p x rest m).history a

  standing_now : (a : ℕ) → AllStanding m.history (m.plan.sinks a) → AllStanding (crossed p x rest m).history (m.plan.sinks a)
  unfolding now
  standing_now a s = all_standing_grow m.history (crossed p x rest m).history (longer m.history p x) (m.plan.sinks a) s

  gives_here : (e i : ℕ) → Leads m.plan p e i → AllStanding m.history (m.plan.sinks e) → gives e ≡ push_calls i (Feed x ∷ []) (inputs m.plan m.history e)
  unfolding gives now
  gives_here e i l s = crossing_here m.history p x i (m.plan.sinks e) s l.here

  gives_there : (e i : ℕ) → Leads m.plan p e i → (a : ℕ) → AllStanding m.history (m.plan.sinks a) → (a ≡ e → ⊥) → gives a ≡ inputs m.plan m.history a
  unfolding gives now
  gives_there e i l a s other = crossing_elsewhere m.history p x (m.plan.sinks a) s (l.elsewhere a other)

  -- an item crosses inside a task
  pub passing_keeps : (e i : ℕ) (out : ℕ → List Item) → Passes m p x rest e i out → (a : ℕ) → CellStands m a → CellStands (passed p x rest e i out m) a
  unfolding gives now
  passing_keeps e i out c a s = record {
    pads = λ q o. fed_pad (crossed p x rest m) e (push_calls i (Feed x ∷ []) (m.took e)) out c.puts_out q (crossed_pad m p x rest c.waited q (s.pads q o));
    input = go (eqb_tells a e);
    standing = standing_now a s.standing;
  }
    where
      go : ((eqb a e ≡ true) × (a ≡ e)) ⊎ ((eqb a e ≡ false) × (a ≡ e → ⊥)) → AreSplit (put_at e (push_calls i (Feed x ∷ []) (m.took e)) m.took a) (m.held a) (gives a)
      go (inl t) =
          rw t.0 (subst (λ d. AreSplit (push_calls i (Feed x ∷ []) (m.took e)) (m.held d) (gives d)) (sym t.1)
          (subst (AreSplit (push_calls i (Feed x ∷ []) (m.took e)) (m.held e)) (sym (gives_here e i c.leads (subst (λ d. AllStanding m.history (m.plan.sinks d)) t.1 s.standing)))
          (split_now i (Feed x ∷ []) c.inner (subst (λ d. AreSplit (m.took d) (m.held d) (inputs m.plan m.history d)) t.1 s.input))))
      go (inr t) = rw t.0 (subst (AreSplit (m.took a) (m.held a)) (sym (gives_there e i c.leads a s.standing t.1)) s.input)

  -- an item crosses into a lane
  pub sending_keeps : (e i : ℕ) → Sends m p x rest e i → (a : ℕ) → CellStands m a → CellStands (sent p x rest e i m) a
  unfolding gives now
  sending_keeps e i c a s = record {
    pads = λ q o. crossed_pad m p x rest c.waited q (s.pads q o);
    input = go (eqb_tells a e);
    standing = standing_now a s.standing;
  }
    where
      go : ((eqb a e ≡ true) × (a ≡ e)) ⊎ ((eqb a e ≡ false) × (a ≡ e → ⊥)) → AreSplit (m.took a) (put_at e (push_calls i (Feed x ∷ []) (m.held e)) m.held a) (gives a)
      go (inl t) =
          rw t.0 (subst (λ d. AreSplit (m.took d) (push_calls i (Feed x ∷ []) (m.held e)) (gives d)) (sym t.1)
          (subst (AreSplit (m.took e) (push_calls i (Feed x ∷ []) (m.held e))) (sym (gives_here e i c.leads (subst (λ d. AllStanding m.history (m.plan.sinks d)) t.1 s.standing)))
          (split_later i (Feed x ∷ []) (subst (λ d. AreSplit (m.took d) (m.held d) (inputs m.plan m.history d)) t.1 s.input))))
      go (inr t) = rw t.0 (subst (AreSplit (m.took a) (m.held a)) (sym (gives_there e i c.leads a s.standing t.1)) s.input)

  -- an item crosses an unlinked pad
  pub leaving_keeps : Leaves m p x rest → (a : ℕ) → CellStands m a → CellStands (crossed p x rest m) a
  unfolding now
  leaving_keeps c a s = record {
    pads = λ q o. crossed_pad m p x rest c.waited q (s.pads q o);
    input = subst (AreSplit (m.took a) (m.held a)) (sym (crossing_elsewhere m.history p x (m.plan.sinks a) s.standing (c.leads a))) s.input;
    standing = standing_now a s.standing;
  }

-- a head takes what stands first in one of its inlets
pub taking_keeps : (m : Moment) (e i : ℕ) (c : Call) (rest : List (List Call)) (out : ℕ → List Item) → Takes m e i c rest out → (a : ℕ) → CellStands m a → CellStands (taken e i c rest out m) a
taking_keeps m e i c rest out t a s = record {
  pads = λ q o. fed_pad (laid e rest m) e (push_calls i (c ∷ []) (m.took e)) out t.puts_out q (s.pads q o);
  input = go (eqb_tells a e);
  standing = s.standing;
}
  where
    go : ((eqb a e ≡ true) × (a ≡ e)) ⊎ ((eqb a e ≡ false) × (a ≡ e → ⊥)) → AreSplit (put_at e (push_calls i (c ∷ []) (m.took e)) m.took a) (put_at e rest m.held a) (inputs m.plan m.history a)
    go (inl u) =
        rw (u.0) (subst (λ d. AreSplit (push_calls i (c ∷ []) (m.took e)) rest (inputs m.plan m.history d)) (sym u.1)
        (split_taken i c (subst (λ hs. AreSplit (m.took e) hs (inputs m.plan m.history e)) t.held (subst (λ d. AreSplit (m.took d) (m.held d) (inputs m.plan m.history d)) u.1 s.input))))
    go (inr u) = rw u.0 s.input
