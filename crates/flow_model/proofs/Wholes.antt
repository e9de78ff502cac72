-- From the elements of a run to the evaluation of its graph.
use Rattle.std.proofs.Common.{◌≡◌, ◌⊎◌, ℕ, true, false, eqb, List, [], ◌∷◌, ◌++◌, length, refl, sym, ap, ◌∙◌, subst, inl, inr, append-nil}
use Rattle.std.proofs.lemmas.Bool.Decides.{eqb_tells}
use Rattle.flow_model.specs.Item.{Item}
use Rattle.flow_model.specs.Call.{Call}
use Rattle.flow_model.specs.Eval.{Plan, cut_at, inputs, with_whole, whole_over, eval_whole}
use Rattle.flow_model.specs.Account.{PadAccount, Agrees, Each, EachSourceOf, GoesForward, IsMember}
use Rattle.flow_model.proofs.Whole.{parts_to_whole, inputs_same, all_sources_weaker}
use Rattle.flow_model.specs.Moment.{Moment, CellStands, owed_at}
use Rattle.flow_model.specs.Split.{AreEmpty}
use Rattle.flow_model.specs.Whole.{counted, CellBegins, StandingBegins, FaultBegins, FaultIsEval, MomentIsEval, IsOver, EndIsWhole}
use Rattle.flow_model.proofs.Pads.{account_of, holds_all}
use Rattle.flow_model.proofs.Splits.{split_begins, split_all}

-- what an element stands for is what is needed of it
pub begins_of : StandingBegins
begins_of m e o s = record { pads = λ p w. account_of (m.plan.log p).cuts (owed_at m p) (m.history p) (m.waits p) (s.pads p w); begins = split_begins s.input; in_order = o }

pub fault_begins : FaultBegins
fault_begins m e waits held o s = let b = begins_of m e o s in record { pads = b.pads; begins = b.begins; in_order = b.in_order }

-- an element agrees with the whole
pub agrees_of : (m : Moment) (forward : List ℕ) (e : ℕ) → CellBegins m e → Agrees (counted m forward) m.history e
agrees_of m forward e s = record {
  fed = m.took e;
  begins = λ p o j. s.in_order (inputs m.plan m.history e) s.begins (m.plan.port p) j;
  accounts = λ p o.
      subst (λ d. PadAccount (record { cuts = (m.plan.log p).cuts; count = length (m.history p) }) (m.plan.rule d (m.took d) (m.plan.port p)) (m.history p)) o
      (s.pads p o);
}

each_of : (P Q : ℕ → Type 0) → (es : List ℕ) → ((e : ℕ) → Q e → P e) → ((e : ℕ) → IsMember e es → Q e) → Each P es
each_of P Q [] f g = tt
each_of P Q (e ∷ es) f g = (f e (g e (inl refl)), each_of P Q es f (λ d i. g d (inr i)))

forward_counted : (m : Moment) (forward seen es : List ℕ) → GoesForward m.plan seen es → GoesForward (counted m forward) seen es
forward_counted m forward seen [] f = tt
forward_counted m forward seen (e ∷ es) f = (f.0, forward_counted m forward (e ∷ seen) es f.1)

pub moment_is_eval : MomentIsEval
moment_is_eval m forward f s p member =
    parts_to_whole (counted m forward) m.history (forward_counted m forward [] forward f)
    (each_of (Agrees (counted m forward) m.history) (CellBegins m) forward (agrees_of m forward) s) p member

pub fault_is_eval : FaultIsEval
fault_is_eval m forward waits held f o s p member = moment_is_eval m forward f (λ e i. begins_of m e (o e i) (s e i)) p member

-- An element that took all its inputs, and at whose pads nothing waits, gets its lists in the whole.
element_whole : (m : Moment) (forward : List ℕ) (h : ℕ → List Item) (e : ℕ) → CellStands m e → AreEmpty (m.held e) → inputs m.plan h e ≡ inputs m.plan m.history e
    → (p : ℕ) → m.plan.owner p ≡ e → m.waits p ≡ [] → cut_at 0 0 (m.plan.log p).cuts (m.plan.rule e (inputs m.plan h e) (m.plan.port p)) ≡ m.history p
element_whole m forward h e s empty same p o idle =
    let all : m.took e ≡ inputs m.plan h e = split_all empty s.input ∙ sym same in
    ap (λ (zs : List (List Call)). cut_at 0 0 (m.plan.log p).cuts (m.plan.rule e zs (m.plan.port p))) (sym all)
    ∙ ap (λ d. cut_at 0 0 (m.plan.log p).cuts (m.plan.rule d (m.took d) (m.plan.port p))) (sym o)
    ∙ holds_all 0 0 (m.plan.log p).cuts (owed_at m p) (m.history p) (m.waits p) (s.pads p o)
    ∙ ap (λ zs. m.history p ++ zs) idle ∙ append-nil (m.history p)

step_whole : (m : Moment) (forward : List ℕ) (h : ℕ → List Item) (e : ℕ) (seen : List ℕ) → CellStands m e → AreEmpty (m.held e) → inputs m.plan h e ≡ inputs m.plan m.history e
    → ((p : ℕ) → m.plan.owner p ≡ e → m.waits p ≡ []) → ((p : ℕ) → IsMember (m.plan.owner p) seen → h p ≡ m.history p)
    → (p : ℕ) → IsMember (m.plan.owner p) (e ∷ seen) → with_whole (counted m forward) e h p ≡ m.history p
step_whole m forward h e seen s empty same idle so_far p member = go (eqb_tells (m.plan.owner p) e) member
  where
    go : ((eqb (m.plan.owner p) e ≡ true) × (m.plan.owner p ≡ e)) ⊎ ((eqb (m.plan.owner p) e ≡ false) × (m.plan.owner p ≡ e → ⊥)) → IsMember (m.plan.owner p) (e ∷ seen)
        → with_whole (counted m forward) e h p ≡ m.history p
    go (inl t) member = rw t.0 (element_whole m forward h e s empty same p t.1 (idle p t.1))
    go (inr t) (inl o) = absurd (t.1 o)
    go (inr t) (inr i) = rw t.0 (so_far p i)

whole_same : (m : Moment) (forward : List ℕ) → ((e : ℕ) → IsMember e forward → CellStands m e) → IsOver m forward
    → (seen es : List ℕ) (h : ℕ → List Item) → ((e : ℕ) → IsMember e es → IsMember e forward) → GoesForward m.plan seen es → ((p : ℕ) → IsMember (m.plan.owner p) seen → h p ≡ m.history p)
    → (p : ℕ) → (IsMember (m.plan.owner p) seen ⊎ IsMember (m.plan.owner p) es) → whole_over (counted m forward) es h p ≡ m.history p
whole_same m forward s over seen [] h part f so_far p (inl i) = so_far p i
whole_same m forward s over seen [] h part f so_far p (inr i) = absurd i
whole_same m forward s over seen (e ∷ es) h part f so_far p member =
    whole_same m forward s over (e ∷ seen) es (with_whole (counted m forward) e h) (λ d i. part d (inr i)) f.1
    (step_whole m forward h e seen (s e (part e (inl refl))) (over.empty e (part e (inl refl))) (inputs_same h m.history (m.plan.sinks e) (all_sources_weaker _ _ so_far (m.plan.sinks e) f.0))
    (λ q o. over.idle q (subst (λ d. IsMember d forward) (sym o) (part e (inl refl)))) so_far) p (turn member)
  where
    turn : (IsMember (m.plan.owner p) seen ⊎ IsMember (m.plan.owner p) (e ∷ es)) → (IsMember (m.plan.owner p) (e ∷ seen) ⊎ IsMember (m.plan.owner p) es)
    turn (inl i) = inl (inr i)
    turn (inr (inl o)) = inl (inl o)
    turn (inr (inr i)) = inr i

-- links of the elements of an order come from elements of the order
sources_in : (plan : Plan) (h h' : ℕ → List Item) (forward : List ℕ) → ((p : ℕ) → IsMember (plan.owner p) forward → h p ≡ h' p)
    → (seen es : List ℕ) → ((d : ℕ) → IsMember d seen → IsMember d forward) → ((d : ℕ) → IsMember d es → IsMember d forward) → GoesForward plan seen es
    → (e : ℕ) → IsMember e es → EachSourceOf (λ p. h p ≡ h' p) (plan.sinks e)
sources_in plan h h' forward same seen [] a b f e i = absurd i
sources_in plan h h' forward same seen (d ∷ es) a b f e (inl i) =
    subst (λ c. EachSourceOf (λ p. h p ≡ h' p) (plan.sinks c)) (sym i) (all_sources_weaker _ _ (λ p j. same p (a (plan.owner p) j)) (plan.sinks d) f.0)
sources_in plan h h' forward same seen (d ∷ es) a b f e (inr i) =
    sources_in plan h h' forward same (d ∷ seen) es (more a) (λ c j. b c (inr j)) f.1 e i
  where
    more : ((c : ℕ) → IsMember c seen → IsMember c forward) → (c : ℕ) → IsMember c (d ∷ seen) → IsMember c forward
    more a c (inl j) = subst (λ k. IsMember k forward) (sym j) (b d (inl refl))
    more a c (inr j) = a c j

pub end_is_whole : EndIsWhole
end_is_whole m forward f s over =
    let all = λ (p : ℕ) (member : IsMember (m.plan.owner p) forward). whole_same m forward s over [] forward (λ q. []) (λ d i. i) f (λ q i. absurd i) p (inr member) in
    record {
      whole = all;
      inputs = λ e i.
          split_all (over.empty e i) (s e i).input
          ∙ sym (inputs_same (eval_whole (counted m forward)) m.history (m.plan.sinks e) (sources_in m.plan (eval_whole (counted m forward)) m.history forward all [] forward (λ d j. absurd j) (λ d j. j) f e i));
    }
