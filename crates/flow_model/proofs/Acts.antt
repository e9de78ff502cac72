-- Control's acts keep what each element stands for.
use Rattle.std.proofs.Common.{◌≡◌, ◌⊎◌, ℕ, true, false, eqb, if◌then◌else◌, List, [], ◌∷◌, length, map, refl, sym, subst, inl, inr}
use Rattle.std.proofs.lemmas.Bool.Decides.{eqb_tells}
use Rattle.flow_model.specs.Item.{Item, Ev, Eos}
use Rattle.flow_model.specs.Call.{Call, Feed, Act, Mark}
use Rattle.flow_model.specs.Link.{Linked, input_of}
use Rattle.flow_model.specs.Eval.{Plan, inputs}
use Rattle.flow_model.specs.Moment.{Moment, CellStands, put_at}
use Rattle.flow_model.specs.Split.{AreSplit}
use Rattle.flow_model.specs.SinkPads.{push_calls}
use Rattle.flow_model.specs.Standing.{AllStanding}
use Rattle.flow_model.specs.Step.{planned, Leads}
use Rattle.flow_model.specs.Edit.{push_span, undone, linked, acted, unlinked, opening_calls, linked_inside, linked_over, Links, LinksInside, acted_on, Acts, ended_inside, ended_over, EndsInside}
use Rattle.flow_model.proofs.Edits.{undo_each, undo_all_standing, made_here, made_standing, act_here, act_elsewhere, act_all_standing, eos_here, eos_elsewhere}
use Rattle.flow_model.proofs.Splits.{split_now, split_later}
use Rattle.flow_model.proofs.Steps.{fed_pad}

-- a link is undone without EOS
pub unlinking_keeps : (m : Moment) (p : ℕ) → (a : ℕ) → CellStands m a → CellStands (unlinked p m) a
unlinking_keeps m p a s = record {
  pads = λ q o. s.pads q o;
  input = subst (AreSplit (m.took a) (m.held a)) (sym (undo_each m.history p (m.plan.sinks a))) s.input;
  standing = undo_all_standing m.history p false (m.plan.sinks a) s.standing;
}

-- One element is given more by another graph, and all others the same: the element takes it, or it stands in its inlet.
module _ (m : Moment) (plan : Plan) (e i : ℕ) (more : List Call)
    (here : AllStanding m.history (m.plan.sinks e) → inputs plan m.history e ≡ push_calls i more (inputs m.plan m.history e))
    (there : (a : ℕ) → (a ≡ e → ⊥) → AllStanding m.history (m.plan.sinks a) → inputs plan m.history a ≡ inputs m.plan m.history a) where
  pub planned_now : (a : ℕ) → CellStands m a → (AreSplit (m.took e) (m.held e) (inputs m.plan m.history e) → AreSplit (push_calls i more (m.took e)) (m.held e) (push_calls i more (inputs m.plan m.history e)))
      → AreSplit (put_at e (push_calls i more (m.took e)) m.took a) (m.held a) (inputs plan m.history a)
  planned_now a s take = go (eqb_tells a e)
    where
      go : ((eqb a e ≡ true) × (a ≡ e)) ⊎ ((eqb a e ≡ false) × (a ≡ e → ⊥)) → AreSplit (put_at e (push_calls i more (m.took e)) m.took a) (m.held a) (inputs plan m.history a)
      go (inl t) =
          rw t.0 (subst (λ d. AreSplit (push_calls i more (m.took e)) (m.held d) (inputs plan m.history d)) (sym t.1)
          (subst (AreSplit (push_calls i more (m.took e)) (m.held e)) (sym (here (subst (λ d. AllStanding m.history (m.plan.sinks d)) t.1 s.standing)))
          (take (subst (λ d. AreSplit (m.took d) (m.held d) (inputs m.plan m.history d)) t.1 s.input))))
      go (inr t) = rw t.0 (subst (AreSplit (m.took a) (m.held a)) (sym (there a t.1 s.standing)) s.input)

  pub planned_later : (a : ℕ) → CellStands m a → AreSplit (m.took a) (put_at e (push_calls i more (m.held e)) m.held a) (inputs plan m.history a)
  planned_later a s = go (eqb_tells a e)
    where
      go : ((eqb a e ≡ true) × (a ≡ e)) ⊎ ((eqb a e ≡ false) × (a ≡ e → ⊥)) → AreSplit (m.took a) (put_at e (push_calls i more (m.held e)) m.held a) (inputs plan m.history a)
      go (inl t) =
          rw t.0 (subst (λ d. AreSplit (m.took d) (push_calls i more (m.held e)) (inputs plan m.history d)) (sym t.1)
          (subst (AreSplit (m.took e) (push_calls i more (m.held e))) (sym (here (subst (λ d. AllStanding m.history (m.plan.sinks d)) t.1 s.standing)))
          (split_later i more (subst (λ d. AreSplit (m.took d) (m.held d) (inputs m.plan m.history d)) t.1 s.input))))
      go (inr t) = rw t.0 (subst (AreSplit (m.took a) (m.held a)) (sym (there a t.1 s.standing)) s.input)

module _ (m : Moment) (p e i : ℕ) where
  link_here : inputs (linked p (length (m.history p)) e i m.plan) m.history e ≡ push_calls i (opening_calls p m) (inputs m.plan m.history e)
  link_here = go (eqb_tells e e)
    where
      go : ((eqb e e ≡ true) × (e ≡ e)) ⊎ ((eqb e e ≡ false) × (e ≡ e → ⊥))
          → map (input_of m.history) (if eqb e e then push_span i (Linked p (length (m.history p)) []) (m.plan.sinks e) else m.plan.sinks e) ≡ push_calls i (opening_calls p m) (inputs m.plan m.history e)
      go (inl t) = rw t.0 (made_here m.history p i (m.plan.sinks e))
      go (inr t) = absurd (t.1 refl)

  link_there : (a : ℕ) → (a ≡ e → ⊥) → inputs (linked p (length (m.history p)) e i m.plan) m.history a ≡ inputs m.plan m.history a
  link_there a n = go (eqb_tells a e)
    where
      go : ((eqb a e ≡ true) × (a ≡ e)) ⊎ ((eqb a e ≡ false) × (a ≡ e → ⊥))
          → map (input_of m.history) (if eqb a e then push_span i (Linked p (length (m.history p)) []) (m.plan.sinks a) else m.plan.sinks a) ≡ inputs m.plan m.history a
      go (inl t) = absurd (n t.1)
      go (inr t) = rw t.0 refl

  link_standing : Links m p e i → (a : ℕ) → AllStanding m.history (m.plan.sinks a) → AllStanding m.history ((linked p (length (m.history p)) e i m.plan).sinks a)
  link_standing c a s = go (eqb_tells a e)
    where
      go : ((eqb a e ≡ true) × (a ≡ e)) ⊎ ((eqb a e ≡ false) × (a ≡ e → ⊥))
          → AllStanding m.history (if eqb a e then push_span i (Linked p (length (m.history p)) []) (m.plan.sinks a) else m.plan.sinks a)
      go (inl t) = rw t.0 (subst (λ d. AllStanding m.history (push_span i (Linked p (length (m.history p)) []) (m.plan.sinks d))) (sym t.1)
          (made_standing m.history p i (m.plan.sinks e) c.free (subst (λ d. AllStanding m.history (m.plan.sinks d)) t.1 s)))
      go (inr t) = rw t.0 s

  -- a link inside a task
  pub linking_keeps : (out : ℕ → List Item) → LinksInside m p e i out → (a : ℕ) → CellStands m a → CellStands (linked_inside p e i out m) a
  linking_keeps out c a s = record {
    pads = λ q o. fed_pad (planned (linked p (length (m.history p)) e i m.plan) m) e (push_calls i (opening_calls p m) (m.took e)) out c.puts_out q (s.pads q o);
    input = planned_now m (linked p (length (m.history p)) e i m.plan) e i (opening_calls p m) (λ h. link_here) (λ b n h. link_there b n) a s (split_now i (opening_calls p m) c.inner);
    standing = link_standing (record { free = c.free }) a s.standing;
  }

  -- a link over a new lane
  pub linking_over_keeps : Links m p e i → (a : ℕ) → CellStands m a → CellStands (linked_over p e i m) a
  linking_over_keeps c a s = record {
    pads = λ q o. s.pads q o;
    input = planned_later m (linked p (length (m.history p)) e i m.plan) e i (opening_calls p m) (λ h. link_here) (λ b n h. link_there b n) a s;
    standing = link_standing c a s.standing;
  }

  -- control acts on the element behind a pad
  pub acting_keeps : (mark : Mark) (out : ℕ → List Item) → Acts m p e i mark out → (a : ℕ) → CellStands m a → CellStands (acted_on p e i mark out m) a
  acting_keeps mark out c a s = record {
    pads = λ q o. fed_pad (planned (acted p (length (m.history p)) mark m.plan) m) e (push_calls i (Act mark ∷ []) (m.took e)) out c.puts_out q (s.pads q o);
    input = planned_now m (acted p (length (m.history p)) mark m.plan) e i (Act mark ∷ []) (λ h. act_here m.history p i mark (m.plan.sinks e) h c.leads.here)
        (λ b n h. act_elsewhere m.history p mark (m.plan.sinks b) h (c.leads.elsewhere b n)) a s (split_now i (Act mark ∷ []) c.inner);
    standing = act_all_standing m.history p mark (m.plan.sinks a) s.standing;
  }

  -- a link is undone with EOS
  pub ending_keeps : (out : ℕ → List Item) → EndsInside m p e i out → (a : ℕ) → CellStands m a → CellStands (ended_inside p e i out m) a
  ending_keeps out c a s = record {
    pads = λ q o. fed_pad (planned (undone p (length (m.history p)) true m.plan) m) e (push_calls i (Feed (Ev Eos) ∷ []) (m.took e)) out c.puts_out q (s.pads q o);
    input = planned_now m (undone p (length (m.history p)) true m.plan) e i (Feed (Ev Eos) ∷ []) (λ h. eos_here m.history p i (m.plan.sinks e) h c.leads.here)
        (λ b n h. eos_elsewhere m.history p (m.plan.sinks b) h (c.leads.elsewhere b n)) a s (split_now i (Feed (Ev Eos) ∷ []) c.inner);
    standing = undo_all_standing m.history p true (m.plan.sinks a) s.standing;
  }

  pub ending_over_keeps : Leads m.plan p e i → (a : ℕ) → CellStands m a → CellStands (ended_over p e i m) a
  ending_over_keeps l a s = record {
    pads = λ q o. s.pads q o;
    input = planned_later m (undone p (length (m.history p)) true m.plan) e i (Feed (Ev Eos) ∷ []) (λ h. eos_here m.history p i (m.plan.sinks e) h l.here)
        (λ b n h. eos_elsewhere m.history p (m.plan.sinks b) h (l.elsewhere b n)) a s;
    standing = undo_all_standing m.history p true (m.plan.sinks a) s.standing;
  }
